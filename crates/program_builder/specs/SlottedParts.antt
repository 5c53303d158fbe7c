-- What the passes make of a proved core, on the way to its program.
use Rattle.std.specs.Prelude.{◌≡◌}
use Rattle.std.specs.List.{All}
use Rattle.typed_core.specs.Proving.{ProvedParts}
use Rattle.three_address.specs.declared.assignment.Assignment.{Assignment}
use Rattle.three_address.specs.declared.typed.Typed.{Typed}
use Rattle.lowering.specs.Emitted.{HasFew}
use Rattle.lowering.specs.Lowered.{lowered}
use Rattle.type_carrier.specs.Carried.{Carries}
use Rattle.carried_acceptance.specs.WrittenParts.{AreWritten}
use Rattle.program_builder.specs.Slots.{all_slots}

-- its typed code, whose numbers can be written, and each place in a slot of its own
pub record AreSlotted (proved : ProvedParts) (typed : Typed) (homes : Assignment) : Type 0 where
  pub carried : Carries proved (lowered proved.base) typed
  pub few : All HasFew (lowered proved.base).funs
  pub written : AreWritten (lowered proved.base) proved.lines
  pub slotted : homes.homes ≡ all_slots (lowered proved.base).funs
