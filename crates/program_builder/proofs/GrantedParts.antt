-- What the passes grant is what the laws of carried code ask for.
use Rattle.std.proofs.Common.{◌≡◌, ℕ, Some, slice_get, true, nat_lt, ap}
use Rattle.three_address.specs.declared.assignment.Assignment.{Assignment}
use Rattle.three_address.specs.declared.function.LowFun.{LowFun}
use Rattle.three_address.specs.declared.typed.Typed.{Typed}
use Rattle.xanadu_tree.specs.PlainOf.{plain_core}
use Rattle.xanadu_tree.specs.Shaped.{Shaped}
use Rattle.typed_core.specs.Proving.{ProvedParts, IsElaboration, ProveAll}
use Rattle.lowering.specs.Lowered.{lowered}
use Rattle.dtal_code.specs.Acceptance.{Accepted}
use Rattle.dtal_emit.specs.Emitted.{emitted}
use Rattle.emission_laws.specs.FollowedRuns.{AreReady}
use Rattle.lowered_acceptance.specs.SlottedCode.{HasSlots}
use Rattle.carried_acceptance.specs.SlottedCarried.{IsCarriedWhole, places_at}
use Rattle.program_builder.specs.ProgramOf.{IsProgramOf}
use Rattle.program_builder.specs.SlottedParts.{AreSlotted}
use Rattle.program_builder.proofs.KeptPromises.{PlacesCounted, BranchesLeaves, EmittedFollow, IsFollowed, is_program}
use Rattle.program_builder.proofs.LoweredPlaces.{placed_at}
use Rattle.program_builder.proofs.SlotsMade.{have_slots}

-- ---- laws of carried code

abbrev pub AllAccepted : Type 0
AllAccepted = (program : ProvedParts) (typed : Typed) (homes : Assignment) → IsCarriedWhole program typed homes → Accepted (emitted typed homes)

abbrev pub AllReady : Type 0
AllReady = (program : ProvedParts) (typed : Typed) (homes : Assignment) → IsCarriedWhole program typed homes
    → AreReady typed homes (λ number at place. nat_lt place (places_at typed number) ≡ true)

module _ (proved : ProvedParts) (shaped : Shaped (plain_core proved.base.core)) (elaborated : IsElaboration proved.base.core proved.base.made)
    (lines : ProveAll proved.base.made.goals proved.lines) (counted : PlacesCounted) (typed : Typed) (homes : Assignment) (parts : AreSlotted proved typed homes) where
  own_slots : (number : ℕ) (fun : LowFun) → slice_get (lowered proved.base).funs number ≡ Some fun → HasSlots homes number fun
  own_slots number fun e =
      have_slots homes (lowered proved.base).funs parts.slotted number fun e (placed_at proved.base elaborated shaped counted number fun e).few

  carried_whole : IsCarriedWhole proved typed homes
  carried_whole = record {
    shaped = shaped;
    elaborated = elaborated;
    proved = lines;
    carried = parts.carried;
    few = parts.few;
    written = parts.written;
    slots = own_slots;
  }

  pub keeps_promises : BranchesLeaves → EmittedFollow → AllAccepted → AllReady → IsFollowed proved.base
      → IsProgramOf (plain_core proved.base.core) proved.base.made (emitted typed homes)
  keeps_promises leaves follow accepted ready followed =
      is_program proved.base elaborated shaped counted typed homes (λ number at place. nat_lt place (places_at typed number)) (ap (λ (t : Typed). t.low) parts.carried.is) parts.slotted
      (ready proved typed homes carried_whole) leaves followed follow (accepted proved typed homes carried_whole)
