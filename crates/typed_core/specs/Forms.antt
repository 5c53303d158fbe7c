-- Forms and types of a core, whose numbers are of any size, as those within the bounds.
use Rattle.std.specs.Prelude.{ℕ, ℤ, List, [], ◌∷◌, ◌++◌, map, Result, Ok}
use Rattle.xan_lin.specs.Linear.{Linear, sized}
use Rattle.xan_lin.specs.Subst.{subst_of}
use Rattle.xan_lin.specs.declared.term.Term.{Term}
use Rattle.xan_lin.specs.declared.term.TooLarge.{TooLarge}
use Rattle.state_types.specs.Answers.{◌>>=◌}
use Rattle.state_types.specs.Types.{subst_ty}
use Rattle.state_types.specs.declared.types.Ty.{Ty}
use Rattle.state_types.specs.declared.types.Ty.TheVariants as ty
use Rattle.xanadu_tree.specs.declared.linear.Linear.{Linear as Exact}
use Rattle.xanadu_tree.specs.declared.types.CoreTy.{CoreTy}
use Rattle.xanadu_tree.specs.declared.types.CoreTy.TheVariants as core_ty
use Rattle.typed_core.specs.Limits.{Walk, needed, held}
use Rattle.typed_core.specs.Strays.{form_rises, type_rises}

abbrev pub term_of : ℤ × ℕ → Term
term_of t = record { var = t.1; coef = t.0 }

-- the form, where it is within the bounds
abbrev pub form_of : Exact → Result Linear TooLarge
form_of form = sized (map term_of form.terms) form.constant

-- the type, where its index is
unfoldable pub type_of : CoreTy → Result Ty TooLarge
type_of (core_ty.Int form) = do
  index ← form_of form
  Ok (ty.Int index)
type_of core_ty.Bool = Ok ty.Bool
type_of (core_ty.Array element form) = do
  index ← form_of form
  Ok (ty.Array element index)
type_of (core_ty.Named number) = Ok (ty.Named number)

-- forms and types in order, behind those made so far
unfoldable pub forms_from : List Exact → List Linear → Walk (List Linear)
forms_from [] made = Ok made
forms_from (form ∷ forms) made = do
  rises ← held (form_rises form)
  one ← needed (form_of form)
  forms_from forms (made ++ one ∷ [])

unfoldable pub types_from : List CoreTy → List Ty → Walk (List Ty)
types_from [] made = Ok made
types_from (t ∷ ts) made = do
  rises ← held (type_rises t)
  one ← needed (type_of t)
  types_from ts (made ++ one ∷ [])

-- ---- index variables of a core as variables of a state: those below `own` are themselves, and the others are listed

unfoldable pub renamed : (naming : List (ℕ × Linear)) → (own : ℕ) → Exact → Result Linear TooLarge
renamed naming own form = do
  exact ← form_of form
  subst_of naming own exact

unfoldable pub renamed_type : (naming : List (ℕ × Linear)) → (own : ℕ) → CoreTy → Result Ty TooLarge
renamed_type naming own t = do
  exact ← type_of t
  subst_ty naming own exact
