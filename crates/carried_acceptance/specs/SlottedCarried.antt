-- Carried code with each of its places in a slot of its own.
use Rattle.std.specs.Prelude.{◌≡◌, ℕ, Option, Some, None, slice_get}
use Rattle.std.specs.List.{All}
use Rattle.xanadu_tree.specs.PlainOf.{plain_core}
use Rattle.xanadu_tree.specs.Shaped.{Shaped}
use Rattle.typed_core.specs.Proving.{ProvedParts, IsElaboration, ProveAll}
use Rattle.three_address.specs.declared.assignment.Assignment.{Assignment}
use Rattle.three_address.specs.declared.function.LowFun.{LowFun}
use Rattle.three_address.specs.declared.typed.Typed.{Typed}
use Rattle.lowering.specs.Emitted.{HasFew}
use Rattle.lowering.specs.Lowered.{lowered}
use Rattle.type_carrier.specs.Carried.{Carries}
use Rattle.lowered_acceptance.specs.SlottedCode.{HasSlots}
use Rattle.carried_acceptance.specs.WrittenParts.{AreWritten}

-- what the passes grant: the front end of the core, lowering of its code, carrying of its types, and the homes of its places
pub record IsCarriedWhole (program : ProvedParts) (typed : Typed) (homes : Assignment) : Type 0 where
  pub shaped : Shaped (plain_core program.base.core)
  pub elaborated : IsElaboration program.base.core program.base.made
  pub proved : ProveAll program.base.made.goals program.lines
  pub carried : Carries program (lowered program.base) typed
  pub few : All HasFew (lowered program.base).funs
  pub written : AreWritten (lowered program.base) program.lines
  pub slots : (number : ℕ) (fun : LowFun) → slice_get (lowered program.base).funs number ≡ Some fun → HasSlots homes number fun

abbrev pub places_of : Option LowFun → ℕ
places_of None = 0
places_of (Some fun) = fun.places

-- how many places the function of a number has
abbrev pub places_at : Typed → (number : ℕ) → ℕ
places_at typed number = places_of (slice_get typed.low.funs number)
