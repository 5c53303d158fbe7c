-- The values of a signature's variables and of its result's own.
use Rattle.std.proofs.Common.{◌≡◌, ◌∙◌, ℕ, zero, suc, ◌+◌, ◌-◌, ◌<◌, ◌≤◌, List, [], ◌∷◌, ◌++◌, Some, Result, Ok, Err, sym, ap, subst, append_assoc, append-nil, arith}
use Rattle.std.specs.Prelude.{slice_get, IfOk}
use Rattle.std.specs.List.{All}
use Rattle.std.proofs.lemmas.List.Elements.{All-head, All-tail}
use Rattle.xan_lin.specs.Linear.{Linear, variable_form}
use Rattle.xan_lin.specs.Subst.{VariablesRise}
use Rattle.state_types.specs.declared.closed.Signature.{Signature}
use Rattle.operation_rules.specs.Forms.{variables_from}
use Rattle.operation_rules.specs.Settings.{IsFew}

pub sig_few : (sigs : List Signature) (number : ℕ) (sig : Signature) → All IsFew sigs → slice_get sigs number ≡ Some sig → IsFew sig
sig_few [] number sig all e = absurd (let bad : ⊥ = cc in bad)
sig_few (x ∷ xs) zero sig all e = subst (λ s. IsFew s) (let same : x ≡ sig = cc in same) (All-head IsFew x xs all)
sig_few (x ∷ xs) (suc number) sig all e = sig_few xs number sig (All-tail IsFew x xs all) e

-- what follows from what holds of an answer
pub if_ok : {T E : Type 0} (answer : Result T E) (P Q : T → Type 0) → ((x : T) → P x → Q x) → IfOk answer P → IfOk answer Q
if_ok (Ok x) P Q f h = f x h
if_ok (Err e) P Q f h = tt

-- ---- they rise

rising-variables : (low number first count : ℕ) → low ≤ number → VariablesRise low (variables_from number first count)
unfolding variables_from
rising-variables low number first zero h = tt
rising-variables low number first (suc count) h = (h, rising-variables (suc number) (suc number) (suc first) count (omega arith))

rising-both : (low number first count : ℕ) (values : List (ℕ × Linear)) → VariablesRise low values → All (λ v. v.0 < number) values → low ≤ number
    → VariablesRise low (values ++ variables_from number first count)
rising-both low number first count [] rise all h = rising-variables low number first count h
rising-both low number first count (v ∷ vs) rise all h =
    let P : ℕ × Linear → Type 0 = λ w. w.0 < number in
    let here : v.0 < number = All-head P v vs all in
    (rise.0, rising-both (suc v.0) number first count vs rise.1 (All-tail P v vs all) (omega (arith, here)))

pub rising_made : (number first count : ℕ) (values all : List (ℕ × Linear)) → all ≡ values ++ variables_from number first count → VariablesRise 0 values
    → All (λ v. v.0 < number) values → VariablesRise 0 all
rising_made number first count values all is rise listed =
    subst (λ vs. VariablesRise 0 vs) (sym is) (rising-both 0 number first count values rise listed (omega arith))

-- ---- they are listed in turn

count-more : (k count : ℕ) → k < count → count - k ≡ suc (count - suc k)
count-more k count h = omega arith

next-sum : (n k : ℕ) → suc (n + k) ≡ n + suc k
next-sum n k = omega arith

variables-more : (values whole : List (ℕ × Linear)) (number first k count : ℕ) → k < count
    → values ++ variables_from (number + k) (first + k) (count - k) ≡ whole
    → (values ++ (number + k, variable_form (first + k)) ∷ []) ++ variables_from (number + suc k) (first + suc k) (count - suc k) ≡ whole
unfolding variables_from
variables-more values whole number first k count h is =
    append_assoc values ((number + k, variable_form (first + k)) ∷ []) (variables_from (number + suc k) (first + suc k) (count - suc k))
    ∙ ap (λ n. values ++ (number + k, variable_form (first + k)) ∷ variables_from n (first + suc k) (count - suc k)) (sym (next-sum number k))
    ∙ ap (λ n. values ++ (number + k, variable_form (first + k)) ∷ variables_from (suc (number + k)) n (count - suc k)) (sym (next-sum first k))
    ∙ ap (λ n. values ++ variables_from (number + k) (first + k) n) (sym (count-more k count h))
    ∙ is

-- a turn of the loop that lists them
pub variables-turn : (new values whole : List (ℕ × Linear)) (number first k count : ℕ) (form : Linear) → k < count
    → form ≡ variable_form (first + k) → new ≡ values ++ (number + k, form) ∷ [] → values ++ variables_from (number + k) (first + k) (count - k) ≡ whole
    → new ++ variables_from (number + (k + 1)) (first + (k + 1)) (count - (k + 1)) ≡ whole
variables-turn new values whole number first k count form h f p is =
    let one : k + 1 ≡ suc k = omega arith in
    ap (λ i. new ++ variables_from (number + i) (first + i) (count - i)) one
    ∙ ap (λ xs. xs ++ variables_from (number + suc k) (first + suc k) (count - suc k)) (p ∙ ap (λ x. values ++ (number + k, x) ∷ []) f)
    ∙ variables-more values whole number first k count h is

none-left : (k count : ℕ) → count ≤ k → count - k ≡ 0
none-left k count h = omega arith

pub variables-end : (values whole : List (ℕ × Linear)) (n f k count : ℕ) → count ≤ k → values ++ variables_from n f (count - k) ≡ whole → values ≡ whole
unfolding variables_from
variables-end values whole n f k count h is = sym (append-nil values) ∙ ap (λ m. values ++ variables_from n f m) (sym (none-left k count h)) ∙ is
