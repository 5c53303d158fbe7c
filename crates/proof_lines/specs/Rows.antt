-- The rows that proof lines give: linear forms without a bound on their terms. A row states that its value is at least 0.
use Rattle.std.specs.Prelude.{◌≡◌, ℤ, pos, ◌+ℤ◌, ◌-ℤ◌, ◌*ℤ◌, ◌<ℤ◌, neg_ℤ, int_lt, Bool, ◌&&◌, List, [], map}
use Rattle.std.specs.List.{list_all}
use Rattle.std.specs.Int.{int_div_euclid, int_rem_euclid}
use Rattle.std.specs.Ordering.{int_eq}
use Rattle.xan_lin.specs.Terms.{sum_terms, negated_terms, scaled_terms}
use Rattle.xan_lin.specs.Linear.{Linear}
use Rattle.xan_lin.specs.declared.term.Term.{Term}
use Rattle.index_sorts.specs.Known.{no_terms}

-- it holds exactly where the row `q` does not: -q - 1
abbrev pub opposite_of : Linear → Linear
opposite_of q = record { terms = negated_terms q.terms; constant = neg_ℤ q.constant -ℤ pos 1 }

-- the sum of two rows, each times a number
abbrev pub combination_of : ℤ → Linear → ℤ → Linear → Linear
combination_of a x b y = record {
  terms = sum_terms (scaled_terms x.terms a) (scaled_terms y.terms b);
  constant = (x.constant *ℤ a) +ℤ (y.constant *ℤ b);
}

-- what is left of a number over a divisor of at least 1; it is at least 0
abbrev pub remainder : ℤ → ℤ → ℤ
remainder n by = int_rem_euclid n by

-- the greatest number whose product with a divisor of at least 1 is at most n
abbrev pub floor_over : ℤ → ℤ → ℤ
floor_over n by = int_div_euclid n by

abbrev pub is_multiple : ℤ → ℤ → Bool
is_multiple by n = int_eq (remainder n by) (pos 0)

-- each coefficient is a multiple of the number
abbrev pub divides : ℤ → List Term → Bool
divides by ts = list_all (λ t. is_multiple by t.coef) ts

abbrev pub divided_term : ℤ → Term → Term
divided_term by t = record { var = t.var; coef = floor_over t.coef by }

-- the coefficients over a number that divides them, and the floor of the constant over it
abbrev pub cut_of : Linear → ℤ → Linear
cut_of x by = record { terms = map (divided_term by) x.terms; constant = floor_over x.constant by }

-- no variable, and a negative constant: the row holds under no assignment
pub record IsRefutation (row : Linear) : Type 0 where
  pub no_variable : row.terms ≡ []
  pub negative : row.constant <ℤ pos 0

-- ---- the same as a test

abbrev pub is_refutation : Linear → Bool
is_refutation row = no_terms row.terms && int_lt row.constant (pos 0)
