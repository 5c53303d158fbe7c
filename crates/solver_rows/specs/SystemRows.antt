-- Rows of systems: where a row comes from, how it is tightened, its coefficients, and the sum of two in which a variable goes out.
use Rattle.std.specs.Prelude.{ℕ, ◌/◌, ℤ, pos, Bool, ◌&&◌, List, [], ◌∷◌, ◌==◌, nat_lt, int_lt, int_le, unsigned_abs, if◌then◌else◌}
use Rattle.std.specs.Ordering.{int_eq}
use Rattle.std.specs.Cmp.Lexicographic.{pointwise}
use Rattle.xan_lin.specs.Linear.{Linear}
use Rattle.xan_lin.specs.declared.term.Term.{Term}
use Rattle.index_sorts.specs.Known.{same_term, no_terms}
use Rattle.proof_lines.specs.Rows.{cut_of, combination_of}
use Rattle.solver_rows.specs.declared.step.Step.TheVariants as step
use Rattle.solver_rows.specs.declared.source.Source.{Source}
use Rattle.solver_rows.specs.declared.source.Source.TheVariants.{Line, New}
use Rattle.solver_rows.specs.declared.source.Sign.{Sign}
use Rattle.solver_rows.specs.declared.source.Sign.TheVariants.{Positive, Negative, Zero}
use Rattle.solver_rows.specs.Divisors.{gcd, divisor}

-- a row, where it comes from, and what it was divided by since then, which is 1 where it was not
pub record Row : Type 0 where
  pub terms : List Term
  pub constant : ℤ
  pub source : Source
  pub by : ℤ

abbrev pub linear_of : Row → Linear
linear_of r = record { terms = r.terms; constant = r.constant }

abbrev pub row_of : Source → ℤ → Linear → Row
row_of source by x = record { terms = x.terms; constant = x.constant; source = source; by = by }

-- ---- tightening

abbrev pub divided_by : ℕ → Source → Linear → Row
divided_by g source x = if nat_lt 1 g then row_of source (pos g) (cut_of x (pos g)) else row_of source (pos 1) x

-- the row with its coefficients over their greatest common divisor, and the floor of its constant over it
unfoldable pub tight : Source → Linear → Row
tight source x = divided_by (divisor x.terms) source x

-- ---- rows against each other

-- the coefficients are equal
abbrev pub same_terms : List Term → List Term → Bool
same_terms ts us = pointwise same_term ts us

-- a row without variables and with a constant of at least 0
abbrev pub holds : Row → Bool
holds r = no_terms r.terms && int_le (pos 0) r.constant

-- ---- the coefficient of a variable

unfoldable pub coefficient : ℕ → List Term → ℤ
coefficient var [] = pos 0
coefficient var (t ∷ ts) = if t.var == var then t.coef else coefficient var ts

abbrev pub is_sign : Sign → ℤ → Bool
is_sign Positive n = int_lt (pos 0) n
is_sign Negative n = int_lt n (pos 0)
is_sign Zero n = int_eq n (pos 0)

abbrev pub has_sign : Sign → ℕ → Row → Bool
has_sign sign var r = is_sign sign (coefficient var r.terms)

-- ---- sums of two rows in which a variable has the coefficients a and -b

-- what the first row is multiplied by, and what the second
abbrev pub first_by : ℕ → ℕ → ℤ
first_by a b = pos (b / gcd a b)

abbrev pub second_by : ℕ → ℕ → ℤ
second_by a b = pos (a / gcd a b)

-- the step that gave a row of a system
abbrev pub line_of : Source → ℕ
line_of (Line n) = n
line_of (New s) = 0

abbrev pub sum_of_two : ℕ → ℕ → Row → Row → Linear
sum_of_two a b p n = combination_of (first_by a b) (linear_of p) (second_by a b) (linear_of n)

abbrev pub sum_source : ℕ → ℕ → Row → Row → Source
sum_source a b p n = New (step.Comb (first_by a b) (line_of p.source) (second_by a b) (line_of n.source))

abbrev pub size : ℕ → Row → ℕ
size var r = unsigned_abs (coefficient var r.terms)
