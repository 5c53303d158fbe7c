-- Whole runs: the code of a core follows the core, where the core is never stuck and its result is a number.
use Rattle.std.proofs.Common.{◌≡◌, ◌≢◌, ℕ, zero, suc, ℤ, List, [], ◌∷◌, map, slice_get, Option, Some, None, Ok, Err, refl, sym, subst, arith}
use Rattle.xan_io.specs.Agreement.{Follows}
use Rattle.xan_io.specs.Outcome.{Returned, NoStore, Stuck}
use Rattle.xan_io.specs.declared.arg.Arg.{Arg}
use Rattle.operation_rules.specs.Entry.{placed}
use Rattle.operation_rules.specs.FlatWords.{Flat, flat_words}
use Rattle.operation_rules.specs.declared.operation.Operation.TheVariants as operation
use Rattle.three_address.specs.Entry.{first_state, entry_state, outcome_from}
use Rattle.three_address.specs.Machine.{places_of, words_in}
use Rattle.three_address.specs.declared.function.LowFun.{LowFun}
use Rattle.three_address.specs.declared.instruction.LowInstr.{LowInstr}
use Rattle.xanadu_tree.specs.Plain as core
use Rattle.typed_core.specs.Meaning.{tag_of, main_body, started, first_run, placed_in, source_run, outcome_of}
use Rattle.typed_core.specs.SourceCalls.{called}
use Rattle.typed_core.specs.SourceRuns.{Run, Answer, Recorder}
use Rattle.typed_core.specs.SourceValues.{Value, Blocks, with_tags}
use Rattle.lowering.specs.Lowered.{code_of}
use Rattle.value_lowering.specs.OneInstruction.{returned}
use Rattle.lowering_simulation.specs.Results.{GivesNumber}
use Rattle.lowering_simulation.proofs.ArgumentsPlaced.{BothPlaced, PlacedAlike, placed_alike}
use Rattle.lowering_simulation.proofs.BlocksLaid.{sizes_of, Laid}
use Rattle.lowering_simulation.proofs.CallsArrive.{FunsGo, body_goes, calls_go}
use Rattle.lowering_simulation.proofs.CodeStands.{IsCode, Here, config, instruction_acts}
use Rattle.lowering_simulation.proofs.InstructionForms.{returned_form}
use Rattle.lowering_simulation.proofs.RunsAhead.{Config, Finishes, Arrives, finishes_later, finishes_step}
use Rattle.lowering_simulation.proofs.StatementSteps.{Returning}
use Rattle.lowering_simulation.proofs.StoresHold.{sizes}
use Rattle.lowering_simulation.proofs.TagsAsked.{number_word}

-- the first activation
abbrev first_here : (depth main : ℕ) → Here
first_here depth main = record { depth = depth; fun = main; result_to = None; callers = [] }

module _ {L : Type 0} (low : List LowFun) (depth main : ℕ) where
  -- a return ends the run
  ends_with : (code : List LowInstr) → IsCode low main code → (base : List ℕ) (limit n : ℕ) (a : Config) (answer : Answer L Value)
      → Arrives low n a (Returning (first_here depth main) base limit code) answer → (outcome_of answer).how ≢ Stuck → GivesNumber answer → Finishes low n a (outcome_of answer)
  unfolding words_in
  ends_with code is base limit n a (Err end) arrives well number = arrives.ended end refl well
  ends_with code is base limit n a (Ok done) arrives well number =
      let it = arrives.good done.0 done.1 refl in
      let r = it.is in
      let has = r.has in
      let act = instruction_acts low (first_here depth main) code is r.flat r.at r.regs (returned r.place) operation.Return [] (r.place ∷ []) (r.word ∷ []) r.there (returned_form r.place) (rw has refl) in
      let same = number_word (sizes done.1) done.0 r.word r.fits (number done.0 done.1 refl) in
      subst (λ w. Finishes low n a (record { printed = done.1.printed; how = Returned w })) same
      (finishes_later low n done.1.units a it.config _ it.comes
      (subst (λ x. Finishes low done.1.units x (record { printed = done.1.printed; how = Returned r.word })) (sym r.is)
      (finishes_step low done.1.units (config (first_here depth main) done.1.printed r.flat r.at r.regs) (Returned r.word) act.step (λ e. cc))))

module _ {L : Type 0} (recorder : Recorder L) (log : L) (low : List LowFun) (program : core.Program) (funs_go : FunsGo recorder low program) (args : List Arg) (heap fuel : ℕ) where
  abbrev start : Run L
  start = first_run heap fuel log

  no_room : (n : ℕ) → Follows (outcome_from low None) n (record { printed = []; how = NoStore })
  unfolding outcome_from
  no_room n = record { steps = 0; same = refl; as_long = λ e. (let bad : ⊥ = cc in absurd bad) }

  main_follows : (live : ℕ) (words : List ℤ) (new : Blocks) (ws : List ℤ) (flat : Flat) → BothPlaced (map tag_of args) start.store words new ws flat
      → (o : Option core.Fun) → slice_get program.funs program.main ≡ o
      → (let answer = main_body recorder program.funs (suc live) program.main (suc fuel) o (with_tags (map tag_of args) words) (record start { store = new }) in
      (outcome_of answer).how ≢ Stuck → GivesNumber answer
      → Follows (outcome_from low (Some (first_state program.main (suc live) (ws, flat)))) fuel (outcome_of answer))
  unfolding outcome_from
  main_follows live words new ws flat both None e well number = absurd (well refl)
  main_follows live words new ws flat both (Some f) e well number =
      let here = first_here (suc live) program.main in
      let goes = funs_go.by program.main f e in
      let call = called recorder program.funs (suc live) (suc fuel) 1 in
      let begun : Run L = record start { store = new } in
      let f = ends_with low (suc live) program.main (code_of program f) goes.code_is [] (suc fuel) fuel (config here [] flat 0 (places_of ws)) _
      (body_goes recorder low program here f goes call (suc fuel) (suc fuel) (calls_go recorder low program (suc live) funs_go (suc fuel) 1) (omega arith) []
      (with_tags (map tag_of args) words) ws begun flat
      (record { is = both.laid; more = record { more = sizes_of new.blocks; is = refl }; below = omega arith }) both.fit) well number in
      record { steps = f.steps; same = f.same; as_long = f.as_long }

  begun_follows : (live : ℕ) (one : Option (List ℤ × Blocks)) (two : Option (List ℤ × Flat)) → PlacedAlike (map tag_of args) start.store one two
      → (let answer = started recorder program.funs (suc live) program.main (suc fuel) (suc live) (placed_in args start one) start in
      (outcome_of answer).how ≢ Stuck → GivesNumber answer
      → Follows (outcome_from low (entry_state program.main (suc live) two)) fuel (outcome_of answer))
  begun_follows live None None alike well number = no_room fuel
  begun_follows live None (Some two) alike well number = absurd alike.is
  begun_follows live (Some one) None alike well number = absurd alike.is
  begun_follows live (Some one) (Some two) alike well number =
      main_follows live one.0 one.1 two.0 two.1 alike.is (slice_get program.funs program.main) refl well number

  pub run_follows : (depth : ℕ)
      → (let answer = source_run recorder log (suc fuel) program args heap depth fuel in
      (outcome_of answer).how ≢ Stuck → GivesNumber answer
      → Follows (outcome_from low (entry_state program.main depth (placed flat_words args (record { words = []; heap = heap })))) fuel (outcome_of answer))
  unfolding Laid
  run_follows zero well number = no_room fuel
  run_follows (suc live) well number =
      begun_follows live _ _ (placed_alike args start.store (record { words = []; heap = heap }) (record { heap = refl; laid = refl })) well number
