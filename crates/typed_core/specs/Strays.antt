-- What is tested of every core: that the terms of its forms and the listed index variables rise, and that forms name what is there.
use Rattle.std.specs.Prelude.{ℕ, zero, suc, ℤ, pos, negsuc, nat_lt, nat_le, Bool as Truth, true, false, not, ◌&&◌, List, [], ◌∷◌, Result, Ok, Err}
use Rattle.std.specs.List.{list_all}
use Rattle.xan_lin.specs.Linear.{Linear}
use Rattle.xan_lin.specs.declared.term.TooLarge.{TooLarge}
use Rattle.state_types.specs.declared.closed.Packed.{Packed}
use Rattle.state_types.specs.declared.types.Ty.{Ty}
use Rattle.state_types.specs.declared.types.Ty.TheVariants as ty
use Rattle.xanadu_tree.specs.declared.linear.Linear.{Linear as Exact}
use Rattle.xanadu_tree.specs.declared.stmt.Clause.{Clause}
use Rattle.xanadu_tree.specs.declared.types.CoreTy.{CoreTy}
use Rattle.xanadu_tree.specs.declared.types.CoreTy.TheVariants as core_ty

-- ---- what rises

abbrev pub is_zero : ℤ → Truth
is_zero (pos zero) = true
is_zero (pos (suc n)) = false
is_zero (negsuc n) = false

-- coefficients, each with its variable: the variables rise from `low` on, and no coefficient is 0
unfoldable pub terms_rise : (low : ℕ) → List (ℤ × ℕ) → Truth
terms_rise low [] = true
terms_rise low (t ∷ ts) = nat_le low t.1 && (not (is_zero t.0) && terms_rise (suc t.1) ts)

abbrev pub form_rises : Exact → Truth
form_rises form = terms_rise 0 form.terms

abbrev pub type_rises : CoreTy → Truth
type_rises (core_ty.Int form) = form_rises form
type_rises core_ty.Bool = true
type_rises (core_ty.Array element form) = form_rises form
type_rises (core_ty.Named number) = true

-- the forms of a clause: its rows, and the types that it states
abbrev pub clause_rises : Clause → Truth
clause_rises clause = list_all form_rises clause.quant.rows && list_all (λ s. type_rises s.1) clause.vars

-- listed index variables
unfoldable pub values_rise : (low : ℕ) → List (ℕ × Linear) → Truth
values_rise low [] = true
values_rise low (v ∷ vs) = nat_le low v.0 && values_rise (suc v.0) vs

-- ---- what is named

-- index variables less than `vars`
abbrev pub form_below : (vars : ℕ) → Linear → Truth
form_below vars form = list_all (λ t. nat_lt t.var vars) form.terms

-- a row that is past the bounds names nothing
abbrev pub row_below : (vars : ℕ) → Result Linear TooLarge → Truth
row_below vars (Ok row) = form_below vars row
row_below vars (Err why) = true

abbrev pub type_below : (vars : ℕ) → Ty → Truth
type_below vars (ty.Int form) = form_below vars form
type_below vars ty.Bool = true
type_below vars (ty.Array element form) = form_below vars form
type_below vars (ty.Named number) = true

-- a closed type names its own variables only
abbrev pub is_closed : Packed → Truth
is_closed packed = list_all (form_below packed.vars) packed.rows && list_all (type_below packed.vars) packed.parts
