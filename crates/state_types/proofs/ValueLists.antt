-- The list of values that a match finds.
use Rattle.std.proofs.Common.{◌≡◌, ℕ, zero, suc, ◌+◌, ◌-◌, ◌<◌, ◌≤◌, List, [], ◌∷◌, ◌++◌, refl, sym, ◌∙◌, ap, subst, append_assoc, arith}
use Rattle.std.specs.List.{All}
use Rattle.std.proofs.lemmas.List.{append-nil}
use Rattle.std.proofs.lemmas.List.Elements.{All-nil, All-cons}
use Rattle.xan_lin.specs.Linear.{Linear}
use Rattle.xan_lin.specs.Subst.{VariablesRise}
use Rattle.state_types.specs.Matching.{value_for, values_for}
use Rattle.state_types.specs.declared.pairs.Pair.{Pair}

values-none : (first : ℕ) (pairs : List Pair) → values_for first zero pairs ≡ []
unfolding values_for
values-none first pairs = refl

values-next : (first count : ℕ) (pairs : List Pair) → values_for first (suc count) pairs ≡ (first, value_for first pairs) ∷ values_for (suc first) count pairs
unfolding values_for
values-next first count pairs = refl

VariablesRise-values : (low first count : ℕ) (pairs : List Pair) → low ≤ first → VariablesRise low (values_for first count pairs)
VariablesRise-values low first zero pairs le = subst (λ (vs : List (ℕ × Linear)). VariablesRise low vs) (sym (values-none first pairs)) tt
VariablesRise-values low first (suc count) pairs le =
    subst (λ (vs : List (ℕ × Linear)). VariablesRise low vs) (sym (values-next first count pairs)) (le, VariablesRise-values (suc first) (suc first) count pairs (omega arith))

-- each listed variable is less than the last
pub values-keys : (first count last : ℕ) (pairs : List Pair) → count ≤ last - first → All (λ v. v.0 < last) (values_for first count pairs)
values-keys first zero last pairs le = subst (λ (vs : List (ℕ × Linear)). All (λ v. v.0 < last) vs) (sym (values-none first pairs)) (All-nil (λ v. v.0 < last))
values-keys first (suc count) last pairs le =
    let P : ℕ × Linear → Type 0 = λ v. v.0 < last in
    subst (λ (vs : List (ℕ × Linear)). All P vs) (sym (values-next first count pairs))
    (All-cons P (first, value_for first pairs) (values_for (suc first) count pairs) (omega arith) (values-keys (suc first) count last pairs (omega arith)))

-- one more value was put behind the others
pub value_made : (made more all : List (ℕ × Linear)) (first last : ℕ) (value : Linear) (pairs : List Pair) → first < last → value ≡ value_for first pairs
    → more ≡ made ++ (first, value) ∷ [] → made ++ values_for first (last - first) pairs ≡ all → more ++ values_for (first + 1) (last - (first + 1)) pairs ≡ all
value_made made more all first last value pairs h is e f =
    let rest = values_for (first + 1) (last - (first + 1)) pairs in
    let left : last - first ≡ suc (last - (first + 1)) = omega arith in
    let next : suc first ≡ first + 1 = omega arith in
    ap (λ vs. vs ++ rest) e
    ∙ append_assoc made ((first, value) ∷ []) rest
    ∙ ap (λ v. made ++ (first, v) ∷ rest) is
    ∙ ap (λ n. made ++ (first, value_for first pairs) ∷ values_for n (last - (first + 1)) pairs) (sym next)
    ∙ ap (λ vs. made ++ vs) (sym (values-next first (last - (first + 1)) pairs))
    ∙ ap (λ n. made ++ values_for first n pairs) (sym left)
    ∙ f

-- no variable is left
pub values_made : (made all : List (ℕ × Linear)) (first last : ℕ) (pairs : List Pair) → last ≤ first → made ++ values_for first (last - first) pairs ≡ all → made ≡ all
values_made made all first last pairs h e =
    let none : last - first ≡ 0 = omega arith in
    sym (append-nil made) ∙ ap (λ vs. made ++ vs) (sym (ap (λ n. values_for first n pairs) none ∙ values-none first pairs)) ∙ e

pub values_rise : (made : List (ℕ × Linear)) (below last first : ℕ) (pairs : List Pair) → last ≤ first
    → made ++ values_for first (last - first) pairs ≡ values_for below (last - below) pairs → VariablesRise 0 made
values_rise made below last first pairs h e =
    subst (λ (vs : List (ℕ × Linear)). VariablesRise 0 vs) (sym (values_made made (values_for below (last - below) pairs) first last pairs h e))
    (VariablesRise-values 0 below (last - below) pairs (omega arith))
