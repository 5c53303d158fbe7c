-- Equal elements that come one by one.
use Rattle.std.proofs.Common.{◌≡◌, ◌∙◌, ◌+◌, ◌++◌, ℕ, zero, suc, List, [], ◌∷◌, replicate, refl, sym, ap, append_assoc, arith}

one_more : {A : Type 0} (n : ℕ) (x : A) → replicate n x ++ x ∷ [] ≡ x ∷ replicate n x
one_more zero x = refl
one_more (suc n) x = ap (λ ys. x ∷ ys) (one_more n x)

pub replicate_more : {A : Type 0} (xs : List A) (n : ℕ) (x : A) → (xs ++ replicate n x) ++ x ∷ [] ≡ xs ++ replicate (n + 1) x
replicate_more xs n x = append_assoc xs (replicate n x) (x ∷ []) ∙ ap (λ ys. xs ++ ys) (one_more n x ∙ ap (λ k. replicate k x) (sym (next n)))
  where
    next : (n : ℕ) → n + 1 ≡ suc n
    next n = omega arith
