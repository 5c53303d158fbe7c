use Rattle.std.proofs.Common.{◌≡◌, ◌∙◌, sym, ap, subst, ℕ, List, length, Option, None, Some, Result, Ok, Err, arith}
use Rattle.std.specs.List.{slice_index_or}
use Rattle.xan_io.specs.Entry.{EntryFault, unless_faulty}
use Rattle.operation_rules.specs.Entry.{entry_fault, placed}
use Rattle.operation_rules.specs.FlatWords.{flat_words}
use Rattle.dtal_code.specs.Machine.{State}
use Rattle.dtal_code.specs.ObjectCode.{Code, code_of}
use Rattle.dtal_code.specs.Runs.{entry_state, empty_store, program_entry}
use Rattle.dtal_safety.proofs.FirstStates.{entry_fits}
use Rattle.dtal_machine.specs.declared.loading.LoadError.{LoadError}
use Rattle.dtal_machine.specs.Loading.{begins, Loads}
use Rattle.dtal_machine.specs.Placing.{BeginsAt}
use Rattle.dtal_machine.specs.Stacks.{state_of}
use Rattle.dtal_machine.specs.Steps.{Loaded, Live}
use Rattle.dtal_machine.proofs.KeptRuns.{code_again}
use Rattle.dtal_machine.proofs.MainEntry.{main_signature, main_within, entry_is, as_many, loads_fault, loads_none, loads_error, loads_run}
use Rattle.dtal_machine.proofs.machine.Machine.load.Goals as goal

pub check_arguments-requires : goal.check_arguments-requires
check_arguments-requires c = (main_signature c.args.object c.args.sig.now c.requires.program.program c.requires.program.is).can_check

pub returns-in-Err : goal.returns-in-Err
returns-in-Err c = λ program is.
    let sig = c.args.sig.now in
    let args = c.args.args.now in
    let first = entry_state (slice_index_or c.args.object.starts c.args.object.main 0) c.args.depth (placed flat_words args (empty_store c.args.heap)) in
    subst (λ r. Loads (begins (code_of program) r) (Err c.in-Err.error)) (sym (entry_is c.args.object sig program is args c.args.heap c.args.depth))
    (loads_fault (code_of program) (entry_fault sig.vars sig.rows sig.params args) first c.in-Err.error c.in-Err.ensures)

pub returns-then-depth-eq0 : goal.returns-then-depth-eq0
returns-then-depth-eq0 c = λ program is.
    let sig = c.args.sig.now in
    let args = c.args.args.now in
    let start = slice_index_or c.args.object.starts c.args.object.main 0 in
    let put = placed flat_words args (empty_store c.args.heap) in
    let none : entry_state start c.args.depth put ≡ None = ap (λ (d : ℕ). entry_state start d put) c.if-depth-eq0.true in
    ap (begins (code_of program)) (entry_is c.args.object sig program is args c.args.heap c.args.depth)
    ∙ loads_none (code_of program) (entry_fault sig.vars sig.rows sig.params args) (entry_state start c.args.depth put) c.in-Ok.ensures none

pub bounds-as_slice-object : goal.bounds-as_slice-object
bounds-as_slice-object c =
    let less = main_within c.args.object c.args.sig.now c.requires.program.program c.requires.program.is in
    omega (arith, less, ap length c.as_slice.ensures)

pub begin-requires-clause-few : goal.begin-requires-clause-few
begin-requires-clause-few c =
    let sig = c.args.sig.now in
    let many = as_many sig.vars sig.rows sig.params c.args.args.now c.in-Ok.ensures in
    let few = (main_signature c.args.object sig c.requires.program.program c.requires.program.is).few in
    omega (arith, many, few)

pub returns-in-Err-begin : goal.returns-in-Err-begin
returns-in-Err-begin c = λ program is.
    let sig = c.args.sig.now in
    let args = c.args.args.now in
    let put = placed flat_words args (empty_store c.args.heap) in
    let starts = ap (λ (ss : List ℕ). slice_index_or ss c.args.object.main 0) c.as_slice.ensures in
    let begun = subst (λ (s : ℕ). BeginsAt (entry_state s c.args.depth put) (Err c.in-Err-begin.error)) starts c.in-Err-begin.ensures in
    subst (λ r. Loads (begins (code_of program) r) (Err c.in-Err-begin.error)) (sym (entry_is c.args.object sig program is args c.args.heap c.args.depth))
    (loads_error (code_of program) (entry_fault sig.vars sig.rows sig.params args) (entry_state (slice_index_or c.args.object.starts c.args.object.main 0) c.args.depth put) c.in-Err-begin.error c.in-Ok.ensures begun)

pub invariant_of-result : goal.invariant_of-result
invariant_of-result c =
    let sig = c.args.sig.now in
    let args = c.args.args.now in
    let program = c.requires.program.program in
    let is = c.requires.program.is in
    let put = placed flat_words args (empty_store c.args.heap) in
    let starts = ap (λ (ss : List ℕ). slice_index_or ss c.args.object.main 0) c.as_slice.ensures in
    let first : entry_state (slice_index_or c.args.object.starts c.args.object.main 0) c.args.depth put ≡ Some (state_of c.in-Ok-begin.run') =
    ap (λ (s : ℕ). entry_state s c.args.depth put) (sym starts) ∙ c.in-Ok-begin.ensures.0 in
    let begun : program_entry program args c.args.heap c.args.depth ≡ Ok (Some (state_of c.in-Ok-begin.run')) =
    entry_is c.args.object sig program is args c.args.heap c.args.depth
    ∙ ap (λ f. unless_faulty f (entry_state (slice_index_or c.args.object.starts c.args.object.main 0) c.args.depth put)) c.in-Ok.ensures
    ∙ ap (λ s. (let r : Result (Option State) EntryFault = Ok s in r)) first in
    record {
      program = program;
      accepted = is.accepted;
      words_are = is.object_is.words;
      starts_are = is.object_is.starts;
      fits = entry_fits program is.accepted args c.args.heap c.args.depth (state_of c.in-Ok-begin.run') begun;
      shape = c.in-Ok-begin.ensures.1;
    }

pub returns-in-Ok-begin : goal.returns-in-Ok-begin
returns-in-Ok-begin c = λ program is.
    let sig = c.args.sig.now in
    let args = c.args.args.now in
    let put = placed flat_words args (empty_store c.args.heap) in
    let starts = ap (λ (ss : List ℕ). slice_index_or ss c.args.object.main 0) c.as_slice.ensures in
    let first : entry_state (slice_index_or c.args.object.starts c.args.object.main 0) c.args.depth put ≡ Some (state_of c.in-Ok-begin.run') =
    ap (λ (s : ℕ). entry_state s c.args.depth put) (sym starts) ∙ c.in-Ok-begin.ensures.0 in
    let seen : Code → Result Loaded LoadError = λ code. Ok (record { code = code; now = Live (state_of c.in-Ok-begin.run') }) in
    ap (begins (code_of program)) (entry_is c.args.object sig program is args c.args.heap c.args.depth)
    ∙ loads_run (code_of program) (entry_fault sig.vars sig.rows sig.params args) (entry_state (slice_index_or c.args.object.starts c.args.object.main 0) c.args.depth put)
    (state_of c.in-Ok-begin.run') c.in-Ok.ensures first
    ∙ ap seen (sym (code_again program c.args.object.words c.args.object.starts is.accepted is.object_is.words is.object_is.starts))
