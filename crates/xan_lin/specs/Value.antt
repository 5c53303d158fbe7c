-- What a form is worth.
use Rattle.std.specs.Prelude.{ℕ, ℤ, pos, ◌+ℤ◌, ◌*ℤ◌, ◌≤ℤ◌, List, [], ◌∷◌}
use Rattle.std.specs.List.{slice_index_or}
use Rattle.xan_lin.specs.Linear.{Linear}
use Rattle.xan_lin.specs.declared.term.Term.{Term}

-- the number of a variable under an assignment, which is a list of numbers; a variable that it does not reach is 0
abbrev pub value_at : List ℤ → ℕ → ℤ
value_at values var = slice_index_or values var (pos 0)

unfoldable pub value_of_terms : List ℤ → List Term → ℤ
value_of_terms values [] = pos 0
value_of_terms values (t ∷ ts) = (t.coef *ℤ value_at values t.var) +ℤ value_of_terms values ts

-- the exact value of a form under an assignment
abbrev pub value_of : List ℤ → Linear → ℤ
value_of values form = value_of_terms values form.terms +ℤ form.constant

-- a form taken as a row states that its value is at least 0
abbrev pub Holds : List ℤ → Linear → Type 0
Holds values row = pos 0 ≤ℤ value_of values row
