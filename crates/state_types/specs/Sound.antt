-- What entailed rows give: a target holds of the words that are there.
use Rattle.std.specs.Prelude.{◌≡◌, ℕ, ℤ, List, length, Some}
use Rattle.std.specs.List.{All, AllZip}
use Rattle.index_sorts.specs.Context.{IndexContext}
use Rattle.index_sorts.specs.Entails.{AllHold}
use Rattle.xan_lin.specs.Linear.{Linear, NamesBelow}
use Rattle.state_types.specs.PlaceTypes.{type_at}
use Rattle.state_types.specs.Types.{TypeBelow}
use Rattle.state_types.specs.Words.{Headers, HasType}
use Rattle.state_types.specs.declared.state.StateType.{StateType}
use Rattle.state_types.specs.declared.types.Ty.{Ty}

-- each word that has the present type under the first assignment has the wanted one under the second
pub record Carries (assignment given : List ℤ) (present wanted : Ty) : Type 0 where
  pub carries : (headers : Headers) (word : ℤ) → HasType headers assignment word present → HasType headers given word wanted

-- what a match gives: an assignment of the target's variables, under which its rows hold and its types fit the words that are there
pub record IsMatched (assignment given : List ℤ) (vars : ℕ) (rows : List Linear) (wanted actual : List Ty) : Type 0 where
  pub one_each : length given ≡ vars
  pub hold : AllHold given rows
  pub fit : AllZip (Carries assignment given) actual wanted

-- a wanted place has a present type, and it carries over
pub record PlaceFits (assignment given : List ℤ) (present : List (ℕ × Ty)) (wanted : ℕ × Ty) : Type 0 where
  pub ty : Ty
  pub there : type_at wanted.0 present ≡ Some ty
  pub carries : Carries assignment given ty wanted.1

-- the same of an edge
pub record IsMet (assignment given : List ℤ) (state target : StateType) : Type 0 where
  pub one_each : length given ≡ target.ctx.vars
  pub hold : AllHold given target.ctx.rows
  pub fit : All (PlaceFits assignment given state.places) target.places

-- a state type names only its own variables
pub record NamesOwn (state : StateType) : Type 0 where
  pub rows : All (NamesBelow state.ctx.vars) state.ctx.rows
  pub places : All (λ e. TypeBelow state.ctx.vars e.1) state.places

-- a state type holds of the words of places
pub record Fits (headers : Headers) (word : ℕ → ℤ) (assignment : List ℤ) (state : StateType) : Type 0 where
  pub one_each : length assignment ≡ state.ctx.vars
  pub hold : AllHold assignment state.ctx.rows
  pub typed : All (λ e. HasType headers assignment (word e.0) e.1) state.places

-- what unpacking gives: with values of the type's variables behind those of the context's, the rows hold and the parts fit, and present
-- types fit as before
pub record IsUnpacked (assignment longer own : List ℤ) (ctx more : IndexContext) (parts unpacked : List Ty) : Type 0 where
  pub one_each : length longer ≡ more.vars
  pub hold : AllHold longer more.rows
  pub fit : AllZip (Carries own longer) parts unpacked
  pub keep : (ty : Ty) → TypeBelow ctx.vars ty → Carries assignment longer ty ty
