-- The program that is emitted from the carried code of a proved core is a program of that core.
use Rattle.std.proofs.Common.{◌≡◌, ◌∙◌, ℕ, List, length, Some, None, slice_get, Bool, true, sym, ap, subst}
use Rattle.std.proofs.lemmas.Option.{same_Some}
use Rattle.xan_io.specs.Agreement.{Agree, Follows}
use Rattle.xan_io.specs.declared.arg.Arg.{Arg}
use Rattle.xanadu_tree.specs.Plain as core
use Rattle.xanadu_tree.specs.PlainOf.{plain_core}
use Rattle.xanadu_tree.specs.Shaped.{Shaped}
use Rattle.source_safety.specs.Whole.{IsNeverStuck}
use Rattle.typed_core.specs.Meaning.{source_entry, source_fault, source_outcome}
use Rattle.typed_core.specs.Places.{places_of}
use Rattle.typed_core.specs.Proving.{ElaboratedParts, IsElaboration}
use Rattle.three_address.specs.Entry.{low_entry, low_outcome}
use Rattle.three_address.specs.declared.assignment.Assignment.{Assignment}
use Rattle.three_address.specs.declared.function.LowFun.{LowFun}
use Rattle.three_address.specs.declared.typed.Typed.{Typed}
use Rattle.lowering.specs.Lowered.{body_of, lowered}
use Rattle.lowering.specs.TestLeaves.{block_leaves, conditional_branches}
use Rattle.dtal_code.specs.Acceptance.{Accepted}
use Rattle.dtal_code.specs.Runs.{program_run}
use Rattle.dtal_emit.specs.Emitted.{emitted}
use Rattle.emission_laws.specs.ApartHomes.{AreSlots}
use Rattle.emission_laws.specs.FollowedRuns.{AreReady, RunsFollow}
use Rattle.program_builder.specs.Counts.{branches, tests, instructions, functions_size, size_of}
use Rattle.program_builder.specs.ProgramOf.{IsProgramOf}
use Rattle.program_builder.specs.Slots.{all_slots}
use Rattle.program_builder.proofs.AgreedPrograms.{program_agrees}
use Rattle.program_builder.proofs.BuiltFunctions.{IsBuiltAt, AreBuilt, forms_of, each_built}
use Rattle.program_builder.proofs.CountedPrograms.{low_branches, funs_branches, funs_size, as_many, lowered_many, lowered_branches}
use Rattle.program_builder.proofs.LoweredPlaces.{placed_at, signed_each}
use Rattle.program_builder.proofs.SlotsMade.{have_slots}

-- ---- laws of the crates below

abbrev pub PlacesCounted : Type 0
PlacesCounted = (program : core.Program) (number : ℕ) (f : core.Fun) → Shaped program → slice_get program.funs number ≡ Some f → (body_of program f).places ≡ places_of f

abbrev pub BranchesLeaves : Type 0
BranchesLeaves = (program : core.Program) (f : core.Fun) → conditional_branches (body_of program f).code ≡ block_leaves f.body

abbrev pub EmittedFollow : Type 0
EmittedFollow = (typed : Typed) (homes : Assignment) (kept : ℕ → ℕ → ℕ → Bool) → AreReady typed homes (λ number at place. kept number at place ≡ true)
    → (args : List Arg) (heap depth : ℕ) → RunsFollow (low_entry typed.low args heap depth) (program_run (emitted typed homes) args heap depth)

-- the code of a core follows the core, which is never stuck
pub record IsFollowed (base : ElaboratedParts) : Type 0 where
  pub never : IsNeverStuck (plain_core base.core)
  pub agrees : Agree (source_entry (plain_core base.core)) (low_entry (lowered base))
  pub follows : (args : List Arg) (heap depth : ℕ) → source_fault (plain_core base.core) args ≡ None → (fuel : ℕ)
      → Follows (low_outcome (lowered base) args heap depth) fuel (source_outcome (plain_core base.core) args heap depth fuel)

module _ (base : ElaboratedParts) (elaborated : IsElaboration base.core base.made) (shaped : Shaped (plain_core base.core)) (counted : PlacesCounted)
    (typed : Typed) (homes : Assignment) (kept : ℕ → ℕ → ℕ → Bool) (same : typed.low ≡ lowered base) (slotted : homes.homes ≡ all_slots (lowered base).funs)
    (ready : AreReady typed homes (λ number at place. kept number at place ≡ true)) where
  abbrev program : core.Program
  program = plain_core base.core

  built_at : (number : ℕ) (fun : LowFun) → slice_get typed.low.funs number ≡ Some fun → IsBuiltAt typed.states typed.edges homes.homes number fun
  built_at number fun e =
      let there = ap (λ low. slice_get low.funs number) (sym same) ∙ e in
      let placed = placed_at base elaborated shaped counted number fun there in
      let has = have_slots homes (lowered base).funs slotted number fun there placed.few in
      let r = ready.each number fun e in
      let own = same_Some has.own r.own (sym has.there ∙ r.homes_there) in
      record {
        labels = r.labels;
        own_edges = r.edges;
        own = r.own;
        labels_there = r.labels_there;
        edges_there = r.edges_there;
        homes_there = r.homes_there;
        built = record {
          slots = subst (λ homes. AreSlots homes fun.places) own has.slots;
          forms = forms_of fun.code (λ at instr f. let i = r.ready.instrs at instr f in record { form = i.form; is = i.is_form; few_written = i.few_written; few_read = i.few_read });
          edge_each = r.ready.edge_each;
          named = placed.named;
          few_params = r.ready.few_params;
          params = placed.params;
        };
      }

  all_built : AreBuilt typed.low.funs typed.states typed.edges homes.homes
  all_built = each_built typed.low.funs typed.states typed.edges homes.homes built_at

  many : length base.made.sigs ≡ length program.funs
  many = signed_each base elaborated shaped counted

  branches_are : BranchesLeaves → branches (emitted typed homes) ≡ tests program
  unfolding emitted
  branches_are leaves =
      funs_branches typed.low.funs typed.states typed.edges homes.homes all_built ∙ ap (λ low. low_branches low.funs) same
      ∙ lowered_branches program (leaves program) program.funs base.made.sigs many

  functions_are : length (emitted typed homes).funs ≡ length program.funs
  unfolding emitted
  functions_are =
      as_many typed.low.funs typed.states typed.edges homes.homes all_built ∙ ap (λ low. length low.funs) same ∙ lowered_many program program.funs base.made.sigs many

  size_is : instructions (emitted typed homes) ≡ size_of program base.made
  unfolding emitted
  size_is = funs_size typed.low.funs typed.states typed.edges homes.homes all_built ∙ ap (λ low. functions_size low.funs) same

  agree : IsFollowed base → EmittedFollow → Agree (source_entry program) (program_run (emitted typed homes))
  agree followed follow =
      program_agrees program (lowered base) (emitted typed homes) followed.never followed.agrees followed.follows
      (λ args heap depth. subst (λ low. RunsFollow (low_entry low args heap depth) (program_run (emitted typed homes) args heap depth)) same (follow typed homes kept ready args heap depth))

  pub is_program : BranchesLeaves → IsFollowed base → EmittedFollow → Accepted (emitted typed homes) → IsProgramOf program base.made (emitted typed homes)
  is_program leaves followed follow accepted = record {
    grammar = accepted.grammar;
    accepted = accepted;
    agree = agree followed follow;
    branches = branches_are leaves;
    functions = functions_are;
    size = size_is;
  }
