-- The types of a table from a number on, one after the other.
use Rattle.std.proofs.Common.{◌≡◌, ℕ, zero, suc, ◌+◌, ◌≤◌, List, [], ◌∷◌, ◌++◌, length, drop, Some, slice_get, refl, sym, ap, ◌∙◌, append_assoc, append-nil, arith}
use Rattle.std.proofs.lemmas.List.{drop_all}

drop_first : {A : Type 0} (xs : List A) (n : ℕ) (x : A) → slice_get xs n ≡ Some x → drop n xs ≡ x ∷ drop (suc n) xs
drop_first [] n x e = absurd cc
drop_first (y ∷ xs) zero x e = cc
drop_first (y ∷ xs) (suc n) x e = drop_first xs n x e

-- the next type goes from those that are left to those that are made
pub next_type : {A : Type 0} (table made all : List A) (n : ℕ) (x : A) → slice_get table n ≡ Some x → made ++ drop n table ≡ all → (made ++ x ∷ []) ++ drop (n + 1) table ≡ all
next_type table made all n x there e =
    let next : n + 1 ≡ suc n = omega arith in
    append_assoc made (x ∷ []) (drop (n + 1) table) ∙ ap (λ m. made ++ x ∷ drop m table) next ∙ ap (λ l. made ++ l) (sym (drop_first table n x there)) ∙ e

pub last_type : {A : Type 0} (table made all : List A) (n : ℕ) → length table ≤ n → made ++ drop n table ≡ all → made ≡ all
last_type table made all n past e = sym (append-nil made) ∙ ap (λ l. made ++ l) (sym (drop_all n table past)) ∙ e
