-- Forms that rules make.
use Rattle.std.specs.Prelude.{ℕ, zero, suc, ℤ, pos, negsuc, List, [], ◌∷◌, Option, Some, None, Result, Ok}
use Rattle.xan_lin.specs.Linear.{Linear, variable_form, difference_of, excess_of}
use Rattle.xan_lin.specs.declared.term.Term.{Term}
use Rattle.xan_lin.specs.declared.term.TooLarge.{TooLarge}

abbrev pub constant_form : ℤ → Linear
constant_form n = record { terms = []; constant = n }

-- the number that a form is, where it has no variable
abbrev pub number_with : List Term → ℤ → Option ℤ
number_with [] n = Some n
number_with (t ∷ ts) n = None

abbrev pub number_of : Linear → Option ℤ
number_of form = number_with form.terms form.constant

-- ---- quotients

-- c times variable q, and n
abbrev pub multiple_form : ℤ → ℕ → ℤ → Linear
multiple_form c q n = record { terms = record { var = q; coef = c } ∷ []; constant = n }

-- q of f / c, where c is a number of at least 1: f - c * q, and c * q + c - 1 - f
abbrev pub quotient_rows : Linear → Option ℤ → ℕ → List (Result Linear TooLarge)
quotient_rows f None q = []
quotient_rows f (Some (negsuc n)) q = []
quotient_rows f (Some (pos zero)) q = []
quotient_rows f (Some (pos (suc n))) q =
    difference_of f (multiple_form (pos (suc n)) q (pos 0)) ∷ difference_of (multiple_form (pos (suc n)) q (pos n)) f ∷ []

-- r of f % g: r, and g - r - 1
abbrev pub remainder_rows : Linear → ℕ → List (Result Linear TooLarge)
remainder_rows g r = Ok (variable_form r) ∷ excess_of g (variable_form r) ∷ []

-- so many numbers from `number` on, each of which means the variable from `first` on in its turn
unfoldable pub variables_from : (number first count : ℕ) → List (ℕ × Linear)
variables_from number first zero = []
variables_from number first (suc count) = (number, variable_form first) ∷ variables_from (suc number) (suc first) count
