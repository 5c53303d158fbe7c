-- What is asked of typed code and of homes so that the emitted program is accepted, beside that the code is typed and that its text exists.
use Rattle.std.specs.Prelude.{◌≡◌, ℕ, List, length, Some, slice_get}
use Rattle.state_types.specs.declared.state.StateType.{StateType}
use Rattle.three_address.specs.declared.assignment.Assignment.{Assignment}
use Rattle.three_address.specs.declared.function.LowFun.{LowFun}
use Rattle.three_address.specs.declared.typed.Edge.{Edge}
use Rattle.three_address.specs.declared.typed.Typed.{Typed}
use Rattle.emission_laws.specs.ApartHomes.{Kept, IsReadyFun}
use Rattle.emission_laws.specs.EmittedRanges.{Each}
use Rattle.emission_laws.specs.FollowedRuns.{main_number}
use Rattle.emission_acceptance.specs.LabelsApart.{IsOwnState}
use Rattle.emission_acceptance.specs.TypesThrough.{AreTypesApart}
use Rattle.emission_acceptance.specs.WellHeaded.{IsWellHeaded}

-- a function has the states of its labels, what stands with its instructions, and homes that keep the types of its places apart
pub record IsAcceptableAt (typed : Typed) (homes : Assignment) (number : ℕ) (fun : LowFun) (kept : Kept) : Type 0 where
  pub labels : List StateType
  pub edges : List Edge
  pub own : List ℕ
  pub labels_there : slice_get typed.states number ≡ Some labels
  pub edges_there : slice_get typed.edges number ≡ Some edges
  pub homes_there : slice_get homes.homes number ≡ Some own
  pub ready : IsReadyFun typed.low.funs fun (length labels) edges
  pub apart : AreTypesApart fun labels own kept
  pub states : Each (IsOwnState own) labels

-- so has each function; types and signatures are well made, and a run begins at `main`
pub record AreAcceptable (typed : Typed) (homes : Assignment) (kept : (number : ℕ) → Kept) : Type 0 where
  pub each : (number : ℕ) (fun : LowFun) → slice_get typed.low.funs number ≡ Some fun → IsAcceptableAt typed homes number fun (kept number)
  pub headed : IsWellHeaded typed.low
  pub main_is : main_number typed.low.funs ≡ Some typed.low.main
