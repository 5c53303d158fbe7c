-- A program whose runs follow the code over places of a core agrees with the core.
use Rattle.std.proofs.Common.{◌≡◌, ◌≢◌, ◌∙◌, ℕ, List, Option, Some, None, Result, Ok, Err, refl, sym, ap, arith}
use Rattle.xan_io.specs.Agreement.{Agree, BeginAlike, Follows}
use Rattle.xan_io.specs.Entry.{EntryFault, unless_faulty}
use Rattle.xan_io.specs.Outcome.{Outcome, Stuck}
use Rattle.xan_io.specs.declared.arg.Arg.{Arg}
use Rattle.xan_io.proofs.ForwardSimulation.{agrees}
use Rattle.xanadu_tree.specs.Plain as core
use Rattle.source_safety.specs.Whole.{NoneIsStuck, IsNeverStuck}
use Rattle.typed_core.specs.Meaning.{source_fault, source_outcome, source_entry}
use Rattle.three_address.specs.Entry.{low_outcome, low_entry}
use Rattle.three_address.specs.declared.function.Lowered.{Lowered}
use Rattle.dtal_code.specs.Machine.{State}
use Rattle.dtal_code.specs.ObjectCode.{Code, code_of}
use Rattle.dtal_code.specs.Runs.{outcome_from, outcomes, program_entry, program_run}
use Rattle.dtal_code.specs.declared.program.DtalProgram.{DtalProgram}
use Rattle.dtal_code.proofs.ObjectRuns.{code_runs_are_steady}
use Rattle.emission_laws.specs.FollowedRuns.{RunsFollow}

-- what follows the code, which follows the source, follows the source
follows_both : (low text : ℕ → Outcome) (n : ℕ) (o : Outcome) → o.how ≢ Stuck → ((m : ℕ) → (low m).how ≢ Stuck → Follows text m (low m)) → Follows low n o → Follows text n o
follows_both low text n o well later f =
    let g = later f.steps (λ stuck. well (ap (λ x. x.how) (sym f.same) ∙ stuck)) in
    record {
      steps = g.steps;
      same = g.same ∙ f.same;
      as_long = λ running.
          let enough = f.as_long running in
          let more = g.as_long (ap (λ x. x.how) f.same ∙ running) in
          omega (arith, enough, more);
    }

begins_alike : (fault other : Option EntryFault) (source low : ℕ → Outcome) (code : Code) (entry : Result (Option State) EntryFault)
    → BeginAlike (unless_faulty fault source) (unless_faulty other low) → NoneIsStuck (unless_faulty fault source)
    → (fault ≡ None → (n : ℕ) → Follows low n (source n)) → RunsFollow (unless_faulty other low) (outcomes code entry)
    → BeginAlike (unless_faulty fault source) (outcomes code entry)
begins_alike (Some f) (Some g) source low code (Err h) alike never follows runs = alike ∙ runs
begins_alike (Some f) (Some g) source low code (Ok entry) alike never follows runs = absurd runs
begins_alike (Some f) None source low code entry alike never follows runs = absurd alike
begins_alike None (Some g) source low code entry alike never follows runs = absurd alike
begins_alike None None source low code (Err h) alike never follows runs = absurd runs
begins_alike None None source low code (Ok entry) alike never follows runs =
    agrees source (outcome_from code entry) (code_runs_are_steady code entry)
    (λ n. follows_both low (outcome_from code entry) n (source n) (never n) runs (follows refl n))

pub program_agrees : (source : core.Program) (low : Lowered) (program : DtalProgram) → IsNeverStuck source → Agree (source_entry source) (low_entry low)
    → ((args : List Arg) (heap depth : ℕ) → source_fault source args ≡ None → (fuel : ℕ)
    → Follows (low_outcome low args heap depth) fuel (source_outcome source args heap depth fuel))
    → ((args : List Arg) (heap depth : ℕ) → RunsFollow (low_entry low args heap depth) (program_run program args heap depth))
    → Agree (source_entry source) (program_run program)
unfolding program_run
program_agrees source low program never alike follows runs args heap depth is_run =
    begins_alike (source_fault source args) _ (source_outcome source args heap depth) (low_outcome low args heap depth) (code_of program) (program_entry program args heap depth)
    (alike args heap depth is_run) (never args heap depth) (follows args heap depth) (runs args heap depth)
