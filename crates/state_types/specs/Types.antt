-- Types: their indices, their kinds, and what they become when variables are replaced or renumbered.
use Rattle.std.specs.Prelude.{ℕ, Bool as Truth, true, false, ◌==◌, Option, Some, None, Result, Ok, List}
use Rattle.xan_lin.specs.Linear.{Linear, NamesBelow}
use Rattle.xan_lin.specs.Subst.{subst_of}
use Rattle.xan_lin.specs.declared.term.TooLarge.{TooLarge}
use Rattle.state_types.specs.Answers.{◌>>=◌}
use Rattle.state_types.specs.declared.types.Ty.{Ty}
use Rattle.state_types.specs.declared.types.Ty.TheVariants.{Int, Bool, Array, Named}

-- the index of a type: of an int its value, of an array its length
abbrev pub index_of : Ty → Option Linear
index_of (Int e) = Some e
index_of Bool = None
index_of (Array p e) = Some e
index_of (Named p) = None

-- two types of one kind differ in their indices at most
abbrev pub same_kind : Ty → Ty → Truth
same_kind (Int e) (Int f) = true
same_kind Bool Bool = true
same_kind (Array p e) (Array q f) = p == q
same_kind (Named p) (Named q) = p == q
same_kind _ _ = false

-- the type in which all variables are replaced at once
unfoldable pub subst_ty : List (ℕ × Linear) → ℕ → Ty → Result Ty TooLarge
subst_ty values below (Int e) = do
  form ← subst_of values below e
  Ok (Int form)
subst_ty values below Bool = Ok Bool
subst_ty values below (Array p e) = do
  form ← subst_of values below e
  Ok (Array p form)
subst_ty values below (Named p) = Ok (Named p)

-- the type's index names only variables below `vars`
abbrev pub TypeBelow : ℕ → Ty → Type 0
TypeBelow vars (Int e) = NamesBelow vars e
TypeBelow vars Bool = Unit {0}
TypeBelow vars (Array p e) = NamesBelow vars e
TypeBelow vars (Named p) = Unit {0}
