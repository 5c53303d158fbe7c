-- Reading and writing at a place of a list.
use Rattle.std.proofs.Common.{◌≡◌, ◌≢◌, ◌⊎◌, inl, inr, ℕ, zero, suc, ◌+◌, ◌<◌, List, [], ◌∷◌, ◌++◌, length, slice_get, slice_set, Some, refl, ap, arith}

pub same_or_other : (i j : ℕ) → (i ≡ j) ⊎ (i ≢ j)
same_or_other zero zero = inl refl
same_or_other zero (suc j) = inr (λ e. omega (arith, e))
same_or_other (suc i) zero = inr (λ e. omega (arith, e))
same_or_other (suc i) (suc j) = later (same_or_other i j)
  where
    later : (i ≡ j) ⊎ (i ≢ j) → (suc i ≡ suc j) ⊎ (suc i ≢ suc j)
    later (inl same) = inl (ap suc same)
    later (inr other) = inr (λ e. other (omega (arith, e)))

module _ {A : Type 0} where
  pub get_within : (xs : List A) (i : ℕ) (x : A) → slice_get xs i ≡ Some x → i < length xs
  get_within [] i x e = cc
  get_within (y ∷ xs) zero x e = omega arith
  get_within (y ∷ xs) (suc i) x e = omega (arith, get_within xs i x e)

  pub get_there : (xs : List A) (i : ℕ) → i < length xs → (x : A) × (slice_get xs i ≡ Some x)
  get_there [] i h = absurd (omega (arith, h))
  get_there (x ∷ xs) zero h = (x, refl)
  get_there (x ∷ xs) (suc i) h = get_there xs i (omega (arith, h))

  pub get_front : (xs ys : List A) (i : ℕ) (x : A) → slice_get xs i ≡ Some x → slice_get (xs ++ ys) i ≡ Some x
  get_front [] ys i x e = cc
  get_front (y ∷ xs) ys zero x e = e
  get_front (y ∷ xs) ys (suc i) x e = get_front xs ys i x e

  pub get_behind : (xs ys : List A) (i n : ℕ) → n ≡ length xs + i → slice_get (xs ++ ys) n ≡ slice_get ys i
  get_behind [] ys i n e = ap (slice_get ys) (let s : n ≡ i = omega (arith, e) in s)
  get_behind (x ∷ xs) ys i zero e = absurd (omega (arith, e))
  get_behind (x ∷ xs) ys i (suc n) e = get_behind xs ys i n (omega (arith, e))

  pub get_last : (xs : List A) (x : A) (n : ℕ) → n ≡ length xs → slice_get (xs ++ x ∷ []) n ≡ Some x
  get_last xs x n e = get_behind xs (x ∷ []) 0 n (omega (arith, e))

  pub length_set : (xs : List A) (i : ℕ) (x : A) → length (slice_set xs i x) ≡ length xs
  length_set [] i x = refl
  length_set (y ∷ ys) zero x = refl
  length_set (y ∷ ys) (suc i) x = ap suc (length_set ys i x)

  pub get_set : (xs : List A) (i : ℕ) (x : A) → i < length xs → slice_get (slice_set xs i x) i ≡ Some x
  get_set [] i x h = absurd (omega (arith, h))
  get_set (y ∷ ys) zero x h = refl
  get_set (y ∷ ys) (suc i) x h = get_set ys i x (omega (arith, h))

  pub get_set_other : (xs : List A) (i j : ℕ) (x : A) → j ≢ i → slice_get (slice_set xs i x) j ≡ slice_get xs j
  get_set_other [] i j x h = refl
  get_set_other (y ∷ ys) zero zero x h = absurd (h refl)
  get_set_other (y ∷ ys) zero (suc j) x h = refl
  get_set_other (y ∷ ys) (suc i) zero x h = refl
  get_set_other (y ∷ ys) (suc i) (suc j) x h = get_set_other ys i j x (λ e. h (ap suc e))

  pub set_behind : (xs ys : List A) (i n : ℕ) (x : A) → n ≡ length xs + i → slice_set (xs ++ ys) n x ≡ xs ++ slice_set ys i x
  set_behind [] ys i n x e = ap (λ k. slice_set ys k x) (let s : n ≡ i = omega (arith, e) in s)
  set_behind (y ∷ xs) ys i zero x e = absurd (omega (arith, e))
  set_behind (y ∷ xs) ys i (suc n) x e = ap (λ zs. y ∷ zs) (set_behind xs ys i n x (omega (arith, e)))

  pub set_front : (xs ys : List A) (i : ℕ) (x : A) → i < length xs → slice_set (xs ++ ys) i x ≡ slice_set xs i x ++ ys
  set_front [] ys i x h = absurd (omega (arith, h))
  set_front (y ∷ xs) ys zero x h = refl
  set_front (y ∷ xs) ys (suc i) x h = ap (λ zs. y ∷ zs) (set_front xs ys i x (omega (arith, h)))

  pub get_earlier : (xs : List A) (y : A) (i : ℕ) (x : A) → i ≢ length xs → slice_get (xs ++ y ∷ []) i ≡ Some x → slice_get xs i ≡ Some x
  get_earlier [] y zero x h e = absurd (h refl)
  get_earlier [] y (suc i) x h e = cc
  get_earlier (z ∷ xs) y zero x h e = e
  get_earlier (z ∷ xs) y (suc i) x h e = get_earlier xs y i x (λ s. h (ap suc s)) e
