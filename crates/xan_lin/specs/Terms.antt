-- Lists of terms, and what is done with them.
use Rattle.std.specs.Prelude.{◌≢◌, ℕ, zero, suc, ◌<◌, ◌≤◌, ℤ, pos, negsuc, ◌+ℤ◌, ◌*ℤ◌, neg_ℤ, List, [], ◌∷◌, map, length, ◌==◌, ◌^◌, nat_lt, if◌then◌else◌}
use Rattle.std.specs.List.{slice_index_or}
use Rattle.xan_lin.specs.declared.term.Term.{Term}

-- the variables rise from `low` on, and no coefficient is 0
abbrev pub IsRising : ℕ → List Term → Type 0
IsRising low [] = Unit {0}
IsRising low (t ∷ ts) = (low ≤ t.var) × (t.coef ≢ pos 0) × IsRising (suc t.var) ts

-- the multiple of a variable before other terms, where it is not 0
abbrev pub with_multiple : ℕ → ℤ → List Term → List Term
with_multiple var (pos zero) ts = ts
with_multiple var (pos (suc n)) ts = record { var = var; coef = pos (suc n) } ∷ ts
with_multiple var (negsuc n) ts = record { var = var; coef = negsuc n } ∷ ts

-- rising terms and one more, which goes to its place
unfoldable pub plus_term : Term → List Term → List Term
plus_term t [] = with_multiple t.var t.coef []
plus_term t (u ∷ us) =
    if nat_lt t.var u.var then with_multiple t.var t.coef (u ∷ us)
    else if nat_lt u.var t.var then u ∷ plus_term t us
    else with_multiple u.var (t.coef +ℤ u.coef) us

-- the sum of terms and rising terms
unfoldable pub sum_terms : List Term → List Term → List Term
sum_terms [] us = us
sum_terms (t ∷ ts) us = plus_term t (sum_terms ts us)

-- a term, and terms, with the other sign
abbrev pub negated_term : Term → Term
negated_term t = record { var = t.var; coef = neg_ℤ t.coef }

abbrev pub negated_terms : List Term → List Term
negated_terms ts = map negated_term ts

-- the terms, each times a number
unfoldable pub scaled_terms : List Term → ℤ → List Term
scaled_terms [] by = []
scaled_terms (t ∷ ts) by = with_multiple t.var (t.coef *ℤ by) (scaled_terms ts by)

-- the coefficient of a variable in terms of any order
unfoldable pub coefficient_of : ℕ → List Term → ℤ
coefficient_of var [] = pos 0
coefficient_of var (t ∷ ts) = if t.var == var then t.coef +ℤ coefficient_of var ts else coefficient_of var ts

abbrev pub no_term : Term
no_term = record { var = 0; coef = pos 0 }

-- each variable from `low` on is at least `next`, and is a variable's number
abbrev pub IsGap : ℕ → ℕ → List Term → Type 0
IsGap low next ts =
    (k : ℕ) → k < length ts → low ≤ (slice_index_or ts k no_term).var
    → (next ≤ (slice_index_or ts k no_term).var) × ((slice_index_or ts k no_term).var < 2 ^ 32)
