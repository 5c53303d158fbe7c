-- Typed code with each place in a slot of its own, and what is asked of the states of its labels.
use Rattle.std.specs.Prelude.{◌≡◌, ℕ, ◌<◌, List, Some, slice_get, Ok}
use Rattle.std.specs.List.{All}
use Rattle.state_types.specs.PlaceTypes.{PlacesRise}
use Rattle.state_types.specs.declared.state.StateType.{StateType}
use Rattle.state_types.specs.declared.types.Ty.{Ty}
use Rattle.three_address.specs.Typing.{stated}
use Rattle.three_address.specs.declared.assignment.Assignment.{Assignment}
use Rattle.three_address.specs.declared.function.LowFun.{LowFun}
use Rattle.three_address.specs.declared.typed.Typed.{Typed}
use Rattle.emission_laws.specs.ApartHomes.{AreSlots}

-- no row of a label is known by those before it, and it lists places of the function, by rising place
pub record IsOwnLabel (places : ℕ) (label : StateType) : Type 0 where
  pub is_own : stated label.ctx.vars label.ctx.rows ≡ Ok label.ctx
  pub rise : PlacesRise 0 label.places
  pub small : All (λ (x : ℕ × Ty). x.0 < places) label.places

pub record HasSlots (homes : Assignment) (number : ℕ) (fun : LowFun) : Type 0 where
  pub own : List ℕ
  pub there : slice_get homes.homes number ≡ Some own
  pub slots : AreSlots own fun.places

-- so of each function
pub record IsSlotted (typed : Typed) (homes : Assignment) : Type 0 where
  pub slots : (number : ℕ) (fun : LowFun) → slice_get typed.low.funs number ≡ Some fun → HasSlots homes number fun
  pub labels : (number : ℕ) (fun : LowFun) (labels : List StateType) (before : ℕ) (label : StateType) → slice_get typed.low.funs number ≡ Some fun
      → slice_get typed.states number ≡ Some labels → slice_get labels before ≡ Some label → IsOwnLabel fun.places label
