-- What is asked of the states of labels, beside what it is for them to be typed.
use Rattle.std.specs.Prelude.{◌≡◌, ◌≢◌, ℕ, List, [], ◌∷◌, Ok}
use Rattle.state_types.specs.declared.state.StateType.{StateType}
use Rattle.state_types.specs.declared.types.Ty.{Ty}
use Rattle.three_address.specs.Typing.{stated}
use Rattle.dtal_emit.specs.Homes.{home_of}
use Rattle.emission_laws.specs.EmittedRanges.{Each}

-- no two of these places have one home
abbrev pub HomesDiffer : List ℕ → List (ℕ × Ty) → Type 0
HomesDiffer homes [] = Unit {0}
HomesDiffer homes (x ∷ places) = Each (λ (y : ℕ × Ty). home_of homes x.0 ≢ home_of homes y.0) places × HomesDiffer homes places

-- The state that is written is the one that its own rows give: none of them is known by those before it. Its places have homes of their own.
pub record IsOwnState (homes : List ℕ) (label : StateType) : Type 0 where
  pub is_own : stated label.ctx.vars label.ctx.rows ≡ Ok label.ctx
  pub differ : HomesDiffer homes label.places
