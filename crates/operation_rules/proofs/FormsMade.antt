-- Forms that rules make, as calls of `xan_lin` make them.
use Rattle.std.proofs.Common.{◌≡◌, ◌≢◌, ◌∙◌, ℕ, zero, suc, ℤ, pos, negsuc, ◌-ℤ◌, ◌≤ℤ◌, [], ◌∷◌, true, Option, Some, Result, Ok, refl, sym, ap, arith}
use Rattle.std.proofs.lemmas.Int.{ints}
use Rattle.xan_lin.specs.Linear.{Linear, is_within, all_within, sized, form_of, difference_of}
use Rattle.xan_lin.specs.declared.term.Term.{Term}
use Rattle.xan_lin.specs.declared.term.TooLarge.{TooLarge}
use Rattle.xan_lin.proofs.Booleans.{both_true}
use Rattle.xan_lin.proofs.FormSizes.{sized-fits}
use Rattle.xan_lin.proofs.TermSums.{sum-none}
use Rattle.operation_rules.specs.Forms.{multiple_form, quotient_rows}

multiple-made : (coef : ℤ) (var : ℕ) (n : ℤ) → is_within coef ≡ true → coef ≢ pos 0 → is_within n ≡ true
    → form_of (record { var = var; coef = coef } ∷ []) n ≡ Ok (multiple_form coef var n)
multiple-made coef var n small some constant =
    let t : Term = record { var = var; coef = coef } in
    ap (λ ts. sized ts n) (sum-none 0 (t ∷ []) (omega arith, some, tt))
    ∙ sized-fits (t ∷ []) n (omega arith) (both_true (all_within (t ∷ [])) (is_within n) (both_true (is_within coef) (all_within []) small refl) constant)

-- with the numbers as they are passed
pub multiple-form : (coef given : ℤ) (var : ℕ) (n constant : ℤ) (answer : Result Linear TooLarge) → answer ≡ form_of (record { var = var; coef = given } ∷ []) constant
    → given ≡ coef → constant ≡ n → is_within coef ≡ true → coef ≢ pos 0 → is_within n ≡ true → answer ≡ Ok (multiple_form coef var n)
multiple-form coef given var n constant answer is same ends small some few =
    is ∙ ap (λ c. form_of (record { var = var; coef = c } ∷ []) constant) same ∙ ap (λ c. form_of (record { var = var; coef = coef } ∷ []) c) ends
    ∙ multiple-made coef var n small some few

-- the rows of a divisor that is at least 1
quotient-rows : (f : Linear) (c : ℤ) (q : ℕ) → pos 1 ≤ℤ c
    → quotient_rows f (Some c) q ≡ difference_of f (multiple_form c q (pos 0)) ∷ difference_of (multiple_form c q (c -ℤ pos 1)) f ∷ []
quotient-rows f (pos zero) q h = absurd (omega (arith, ints, h))
quotient-rows f (pos (suc n)) q h =
    let e : pos n ≡ pos (suc n) -ℤ pos 1 = omega (arith, ints) in
    ap (λ k. difference_of f (multiple_form (pos (suc n)) q (pos 0)) ∷ difference_of (multiple_form (pos (suc n)) q k) f ∷ []) e
quotient-rows f (negsuc n) q h = absurd (omega (arith, ints, h))

-- as they are made
pub quotient-same : (f : Linear) (c : ℤ) (q : ℕ) (divisor_is : Option ℤ) (a b : Result Linear TooLarge) → divisor_is ≡ Some c → pos 1 ≤ℤ c
    → a ≡ difference_of f (multiple_form c q (pos 0)) → b ≡ difference_of (multiple_form c q (c -ℤ pos 1)) f → (a ∷ b ∷ []) ≡ quotient_rows f divisor_is q
quotient-same f c q divisor_is a b some least first second =
    ap (λ r. r ∷ b ∷ []) first ∙ ap (λ r. difference_of f (multiple_form c q (pos 0)) ∷ r ∷ []) second ∙ sym (quotient-rows f c q least) ∙ ap (λ d. quotient_rows f d q) (sym some)
