-- A core that keeps the rules, all of whose goals hold, is never stuck.
use Rattle.std.proofs.Common.{◌≡◌, ◌≢◌, ℕ, zero, suc, ℤ, List, [], ◌∷◌, map, Option, Some, None, Ok, Err, refl, sym, subst}
use Rattle.std.specs.Prelude.{slice_get}
use Rattle.std.proofs.lemmas.List.Elements.{All-nil, All-cons}
use Rattle.index_sorts.specs.Entails.{Entails}
use Rattle.proof_lines.specs.declared.line.Line.{Line}
use Rattle.proof_lines.proofs.LineSoundness.{proved-entailed}
use Rattle.xan_io.specs.Entry.{EntryFault, unless_faulty}
use Rattle.xan_io.specs.Outcome.{How, Returned, NoStore, Overflow, Stuck, Running}
use Rattle.xan_io.specs.declared.arg.Arg.{Arg}
use Rattle.operation_rules.specs.Entry.{placed}
use Rattle.operation_rules.specs.Sound.{EndsWell}
use Rattle.xanadu_tree.specs.Plain as core
use Rattle.xanadu_tree.specs.Shaped.{Shaped}
use Rattle.typed_core.specs.Goals.{Elaboration, elaborated}
use Rattle.typed_core.specs.Meaning.{exact_form, exact_type, fault_of, source_fault, tag_of, main_body, started, first_run, placed_in, source_run, outcome_of, source_outcome, no_log}
use Rattle.typed_core.specs.Proving.{ProveAll}
use Rattle.typed_core.specs.declared.goal.GoalAt.{GoalAt}
use Rattle.typed_core.specs.SourceCalls.{called}
use Rattle.typed_core.specs.SourceOperands.{no_cells}
use Rattle.typed_core.specs.SourceRuns.{Run, Answer, Recorder}
use Rattle.typed_core.specs.SourceValues.{Value, Blocks, with_tags, separate}
use Rattle.source_safety.specs.Standing.{GoalsHold, Fares}
use Rattle.source_safety.specs.Whole.{values_given, BeginsWell, GivesResult, NoneIsStuck, IsNeverStuck}
use Rattle.source_safety.proofs.ArgumentsFit.{no_fault}
use Rattle.source_safety.proofs.BodiesStart.{IsBody, Begins, body_of}
use Rattle.source_safety.proofs.CalledFare.{body_fares, called_fares}
use Rattle.source_safety.proofs.FaredOn.{fares_on}
use Rattle.source_safety.proofs.EntryFits.{empty_store, entry_begins}

module _ (program : core.Program) (made : Elaboration) (shape : Shaped program) (is : elaborated program ≡ Ok made) (args : List Arg) (fault : source_fault program args ≡ None)
    (heap : ℕ) (words : List ℤ) (new : Blocks) (e : placed (separate no_cells) args (empty_store heap) ≡ Some (words, new)) where
  pub main_body_of : IsBody program made program.main shape.main_function
  main_body_of = body_of program made shape is program.main shape.main_function shape.main_number

  pub begins_with : Begins program made program.main shape.main_function main_body_of (values_given main_body_of.segment.own args) (with_tags (map tag_of args) words) new
  begins_with =
      let f = shape.main_function in
      let none = no_fault f.quant.count (map exact_form f.quant.rows) (map exact_type f.params) args (subst (λ o. fault_of o args ≡ None) shape.main_number fault) in
      entry_begins program made program.main f main_body_of shape.main_number shape.main.params args none heap words new e

  pub begins_well : BeginsWell program made args words new
  begins_well =
      let b = begins_with in
      record { sig = main_body_of.segment.own; there = main_body_of.segment.signature; one_each = b.one_each; hold = b.hold; have = b.have; holds = b.holds }

module _ {L : Type 0} (recorder : Recorder L) (log : L) (program : core.Program) (made : Elaboration) (shape : Shaped program) (is : elaborated program ≡ Ok made) (goals : GoalsHold made.goals)
    (args : List Arg) (fault : source_fault program args ≡ None) (bound heap depth fuel : ℕ) where
  abbrev Well : Answer L Value → Type 0
  Well m = Fares (λ v (new : Run L). GivesResult program made args v new.store) m

  main_fares : (words : List ℤ) (new : Blocks) → placed (separate no_cells) args (empty_store heap) ≡ Some (words, new)
      → Well (main_body recorder program.funs depth program.main bound (slice_get program.funs program.main) (with_tags (map tag_of args) words) (record (first_run heap fuel log) { store = new }))
  main_fares words new e =
      let f = shape.main_function in
      let main = program.main in
      let b = main_body_of program made shape is args fault heap words new e in
      let begins = begins_with program made shape is args fault heap words new e in
      let run : Run L = record (first_run heap fuel log) { store = new } in
      subst (λ o. Well (main_body recorder program.funs depth main bound o (with_tags (map tag_of args) words) run)) (sym shape.main_number)
      (fares_on _ (λ v late came. record { sig = b.segment.own; there = b.segment.signature; begun = new; came = came })
      (body_fares recorder program made goals main f b (called recorder program.funs depth bound 1) (called_fares recorder program made goals shape is depth bound 1) bound _
      (with_tags (map tag_of args) words) run begins))

  begun_fares : (live : ℕ) (first : Option (List ℤ × Blocks)) → placed (separate no_cells) args (empty_store heap) ≡ first
      → Well (started recorder program.funs depth program.main bound live (placed_in args (first_run heap fuel log) first) (first_run heap fuel log))
  begun_fares zero first e = record { is = tt }
  begun_fares (suc live) None e = record { is = tt }
  begun_fares (suc live) (Some p) e = main_fares p.0 p.1 e

  pub run_fares : Well (source_run recorder log bound program args heap depth fuel)
  run_fares = begun_fares depth (placed (separate no_cells) args (empty_store heap)) refl

-- ---- outcomes

well_not_stuck : (how : How) → EndsWell how → how ≢ Stuck
well_not_stuck (Returned word) well e = cc
well_not_stuck NoStore well e = cc
well_not_stuck Overflow well e = cc
well_not_stuck Stuck well e = well
well_not_stuck Running well e = cc

outcome_well : {L : Type 0} {P : Value → Run L → Type 0} (m : Answer L Value) → Fares P m → (outcome_of m).how ≢ Stuck
outcome_well (Ok p) h e = cc
outcome_well (Err end) h e = well_not_stuck end.how h.is e

-- goals that lines prove hold
pub goals_proved : (goals : List GoalAt) (lines : List (List Line)) → ProveAll goals lines → GoalsHold goals
goals_proved [] [] all = All-nil (λ (g : GoalAt). Entails g.ctx.rows g.row)
goals_proved [] (l ∷ ls) all = absurd all
goals_proved (g ∷ gs) [] all = absurd all
goals_proved (g ∷ gs) (l ∷ ls) all = All-cons (λ (g : GoalAt). Entails g.ctx.rows g.row) g gs (proved-entailed g.ctx.rows g.row l all.0) (goals_proved gs ls all.1)

stuck_with_none : (program : core.Program) (made : Elaboration) (goals : GoalsHold made.goals) → Shaped program → elaborated program ≡ Ok made → (args : List Arg) (heap depth : ℕ)
    → (fault : Option EntryFault) → source_fault program args ≡ fault → NoneIsStuck (unless_faulty fault (source_outcome program args heap depth))
stuck_with_none program made goals shape is args heap depth None none = λ fuel.
    outcome_well (source_run no_log tt (suc fuel) program args heap depth fuel) (run_fares no_log tt program made shape is goals args none (suc fuel) heap depth fuel)
stuck_with_none program made goals shape is args heap depth (Some fault) some = tt

pub never_stuck : (program : core.Program) (made : Elaboration) (lines : List (List Line)) → Shaped program → elaborated program ≡ Ok made → ProveAll made.goals lines → IsNeverStuck program
never_stuck program made lines shape is proved = λ args heap depth.
    stuck_with_none program made (goals_proved made.goals lines proved) shape is args heap depth (source_fault program args) refl
