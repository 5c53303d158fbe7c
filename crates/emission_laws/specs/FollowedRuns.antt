-- When the emitted program's runs follow those of the code over places.
use Rattle.std.specs.Prelude.{◌≡◌, ◌≢◌, ℕ, suc, List, [], ◌∷◌, length, Option, Some, None, Result, Ok, Err, bytes_eq, codes, slice_get, if◌then◌else◌, option_map}
use Rattle.xan_io.specs.Agreement.{Follows}
use Rattle.xan_io.specs.Entry.{EntryFault}
use Rattle.xan_io.specs.Outcome.{Stuck, Outcome}
use Rattle.state_types.specs.declared.state.StateType.{StateType}
use Rattle.three_address.specs.declared.assignment.Assignment.{Assignment}
use Rattle.three_address.specs.declared.function.LowFun.{LowFun}
use Rattle.three_address.specs.declared.typed.Edge.{Edge}
use Rattle.three_address.specs.declared.typed.Typed.{Typed}
use Rattle.emission_laws.specs.ApartHomes.{Kept, AreApart, IsReadyFun}

-- the number of the function that is called `main`
unfoldable pub main_number : List LowFun → Option ℕ
main_number [] = None
main_number (fun ∷ funs) = if bytes_eq fun.name (codes "main") then Some 0 else option_map suc (main_number funs)

-- a function has the states of its labels, what stands with its instructions, and homes that keep its places apart
pub record IsReadyAt (typed : Typed) (homes : Assignment) (number : ℕ) (fun : LowFun) (kept : Kept) : Type 0 where
  pub labels : List StateType
  pub edges : List Edge
  pub own : List ℕ
  pub labels_there : slice_get typed.states number ≡ Some labels
  pub edges_there : slice_get typed.edges number ≡ Some edges
  pub homes_there : slice_get homes.homes number ≡ Some own
  pub ready : IsReadyFun typed.low.funs fun (length labels) edges
  pub apart : AreApart fun own kept

-- so has each function, and a run begins at `main`
pub record AreReady (typed : Typed) (homes : Assignment) (kept : (number : ℕ) → Kept) : Type 0 where
  pub each : (number : ℕ) (fun : LowFun) → slice_get typed.low.funs number ≡ Some fun → IsReadyAt typed homes number fun (kept number)
  pub main_is : main_number typed.low.funs ≡ Some typed.low.main

-- Both begin with the same fault, or at some time the second has each outcome of the first that is not stuck; where that goes on, after at least as many steps.
abbrev pub RunsFollow : (low text : Result (ℕ → Outcome) EntryFault) → Type 0
RunsFollow (Err fault) (Err other) = fault ≡ other
RunsFollow (Ok low) (Ok text) = (n : ℕ) → (low n).how ≢ Stuck → Follows text n (low n)
RunsFollow (Err fault) (Ok text) = ⊥
RunsFollow (Ok low) (Err fault) = ⊥
