-- With each place in a slot of its own, the program of typed code is accepted; that of lowered code too.
use Rattle.std.proofs.Common.{◌≡◌, true, Some, sym, subst}
use Rattle.xanadu_tree.specs.PlainOf.{plain_core}
use Rattle.xanadu_tree.specs.Shaped.{Shaped}
use Rattle.typed_core.specs.Proving.{ElaboratedParts, IsElaboration}
use Rattle.three_address.specs.Typing.{IsTyped}
use Rattle.three_address.specs.declared.assignment.Assignment.{Assignment}
use Rattle.three_address.specs.declared.function.Lowered.{Lowered}
use Rattle.three_address.specs.declared.typed.Typed.{Typed}
use Rattle.lowering.specs.Lowered.{lowered}
use Rattle.lowering.proofs.LoweredFunctions.{in_blocks}
use Rattle.dtal_code.specs.Acceptance.{Accepted}
use Rattle.dtal_emit.specs.Emitted.{emitted}
use Rattle.emission_laws.specs.EmittedRanges.{IsRanged}
use Rattle.emission_laws.specs.FollowedRuns.{main_number}
use Rattle.emission_laws.proofs.EmittedPrograms.{program_in}
use Rattle.emission_acceptance.specs.WellHeaded.{IsWellHeaded}
use Rattle.emission_acceptance.proofs.SlotsTyped.{slots_typed, slots_differ}
use Rattle.emission_acceptance.proofs.TypedStretches.{accepted_programs}
use Rattle.emission_acceptance.specs.ReadyCode.{IsShortCode}
use Rattle.lowered_acceptance.specs.SlottedCode.{IsSlotted}
use Rattle.lowered_acceptance.proofs.LoweredHeaded.{lowered_headed, lowered_main}
use Rattle.lowered_acceptance.proofs.LoweredShort.{lowered_short}
use Rattle.lowered_acceptance.proofs.SlotsAcceptable.{all_kept, acceptable}

pub slotted_accepted : (typed : Typed) (homes : Assignment) → IsTyped typed → IsRanged typed homes → IsSlotted typed homes → IsShortCode typed.low → IsWellHeaded typed.low
    → main_number typed.low.funs ≡ Some typed.low.main → Accepted (emitted typed homes)
slotted_accepted typed homes is ranged slotted short headed main =
    accepted_programs typed homes (λ number at place. all_kept typed number at place ≡ true) is ranged (acceptable slots_typed slots_differ typed homes is slotted short headed main)
    (program_in typed homes ranged)

pub short_code : (base : ElaboratedParts) → Shaped (plain_core base.core) → IsElaboration base.core base.made → IsShortCode (lowered base)
short_code base shaped made = lowered_short base shaped made (λ n f e. in_blocks (plain_core base.core) n f shaped e)

pub lowered_accepted : (base : ElaboratedParts) (typed : Typed) (homes : Assignment) → Shaped (plain_core base.core) → IsElaboration base.core base.made → typed.low ≡ lowered base
    → IsTyped typed → IsRanged typed homes → IsSlotted typed homes → Accepted (emitted typed homes)
lowered_accepted base typed homes shaped made same is ranged slotted =
    slotted_accepted typed homes is ranged slotted (subst IsShortCode (sym same) (short_code base shaped made)) (subst IsWellHeaded (sym same) (lowered_headed base shaped made))
    (subst (λ (low : Lowered). main_number low.funs ≡ Some low.main) (sym same) (lowered_main base shaped made))
