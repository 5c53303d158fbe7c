-- Steps of the sum of two rows, variable by variable: no part of the promise.
use Rattle.std.specs.Prelude.{ℕ, ℤ, pos, ◌==◌, List, [], ◌∷◌, if◌then◌else◌}
use Rattle.xan_lin.specs.Terms.{sum_terms, scaled_terms}
use Rattle.xan_lin.specs.declared.term.Term.{Term}

-- the coefficient of a variable in the first term
abbrev pub front_coefficient : ℕ → List Term → ℤ
front_coefficient var [] = pos 0
front_coefficient var (t ∷ ts) = if t.var == var then t.coef else pos 0

-- the terms behind that of a variable, where it is the first
abbrev pub behind : ℕ → List Term → List Term
behind var [] = []
behind var (t ∷ ts) = if t.var == var then ts else t ∷ ts

-- the sum of two lists of terms, each times a number
abbrev pub combined_terms : ℤ → List Term → ℤ → List Term → List Term
combined_terms a ts b us = sum_terms (scaled_terms ts a) (scaled_terms us b)
