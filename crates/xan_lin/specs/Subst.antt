-- What a form becomes when all its variables are replaced at once.
use Rattle.std.specs.Prelude.{◌≡◌, ℕ, zero, suc, ℤ, pos, ◌+ℤ◌, ◌*ℤ◌, List, [], ◌∷◌, ◌++◌, map, nat_lt, Option, Some, None, Result, if◌then◌else◌}
use Rattle.std.specs.List.{All}
use Rattle.xan_seq.specs.Rising.{KeysRise, value_under}
use Rattle.xan_lin.specs.Linear.{Linear, variable_form, form_of}
use Rattle.xan_lin.specs.Value.{value_at, value_of}
use Rattle.xan_lin.specs.declared.term.Term.{Term}
use Rattle.xan_lin.specs.declared.term.TooLarge.{TooLarge}

-- the listed variables rise from `low` on
abbrev pub VariablesRise : ℕ → List (ℕ × Linear) → Type 0
VariablesRise low values = KeysRise low values

-- the form that is listed for a variable
abbrev pub listed : ℕ → List (ℕ × Linear) → Option Linear
listed var values = value_under var values

abbrev pub zero_form : Linear
zero_form = record { terms = []; constant = pos 0 }

-- a variable that is not listed stays where it is less than `below`, and becomes 0 elsewhere
abbrev pub listed_or_own : Option Linear → ℕ → ℕ → Linear
listed_or_own (Some form) below var = form
listed_or_own None below var = if nat_lt var below then variable_form var else zero_form

-- what stands for a variable
unfoldable pub replacement : List (ℕ × Linear) → ℕ → ℕ → Linear
replacement values below var = listed_or_own (listed var values) below var

-- a term times a number, and terms
abbrev pub multiple : ℤ → Term → Term
multiple by t = record { var = t.var; coef = by *ℤ t.coef }

abbrev pub multiples : ℤ → List Term → List Term
multiples by ts = map (multiple by) ts

-- the terms that stand for terms; a variable may repeat in them
unfoldable pub replaced_terms : List (ℕ × Linear) → ℕ → List Term → List Term
replaced_terms values below [] = []
replaced_terms values below (t ∷ ts) = multiples t.coef (replacement values below t.var).terms ++ replaced_terms values below ts

-- and the constants that come with them
unfoldable pub replaced_constant : List (ℕ × Linear) → ℕ → List Term → ℤ
replaced_constant values below [] = pos 0
replaced_constant values below (t ∷ ts) = (t.coef *ℤ (replacement values below t.var).constant) +ℤ replaced_constant values below ts

-- the exact result
abbrev pub subst_of : List (ℕ × Linear) → ℕ → Linear → Result Linear TooLarge
subst_of values below form = form_of (replaced_terms values below form.terms) (replaced_constant values below form.terms +ℤ form.constant)

-- ---- what that is worth

-- under an assignment each variable of the form is given the value of what stands for it
abbrev pub Gives : List ℤ → List (ℕ × Linear) → ℕ → Linear → List ℤ → Type 0
Gives assignment values below form given = All (λ t. value_at given t.var ≡ value_of assignment (replacement values below t.var)) form.terms

-- the values of what stands for so many variables from `first` on
unfoldable pub values_from : List ℤ → List (ℕ × Linear) → ℕ → ℕ → ℕ → List ℤ
values_from assignment values below first zero = []
values_from assignment values below first (suc count) = value_of assignment (replacement values below first) ∷ values_from assignment values below (suc first) count

-- the assignment that an assignment gives to the first so many variables
abbrev pub given_values : List ℤ → List (ℕ × Linear) → ℕ → ℕ → List ℤ
given_values assignment values below vars = values_from assignment values below 0 vars
