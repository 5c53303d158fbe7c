-- The first place at which a test passes.
use Rattle.std.proofs.Common.{◌≡◌, ℕ, suc, ◌+◌, ◌<◌, Bool, true, false, cond, not, nat_lt, ◌||◌, List, [], ◌∷◌, length, take, drop, Some, None, slice_get, refl, sym, ◌∙◌, ap, subst, arith}
use Rattle.std.specs.List.{position, position_or_len, list_any}
use Rattle.std.specs.Option.{is_some}
use Rattle.std.proofs.lemmas.Bool.Decides.{nat_tests}
use Rattle.std.proofs.lemmas.List.{take-append-drop}
use Rattle.std.proofs.lemmas.List.Folds.{list_any-append}

-- the element at the place passes
pub record Passes {X : Type 0} (p : X → Bool) (xs : List X) (k : ℕ) : Type 0 where
  pub element : X
  pub is : slice_get xs k ≡ Some element
  pub passes : p element ≡ true

passes_place : {X : Type 0} (p : X → Bool) (xs : List X) → position_or_len p xs < length xs → Passes p xs (position_or_len p xs)
passes_place p [] h = absurd (omega arith)
passes_place p (x ∷ xs) h = go (p x) refl h (passes_place p xs)
  where
    go : (b : Bool) → p x ≡ b → cond (not b) (1 + position_or_len p xs) 0 < length (x ∷ xs)
        → (position_or_len p xs < length xs → Passes p xs (position_or_len p xs)) → Passes p (x ∷ xs) (cond (not b) (1 + position_or_len p xs) 0)
    go true e h later = record { element = x; is = refl; passes = e }
    go false e h later =
        let r = later (omega arith) in
        let next : 1 + position_or_len p xs ≡ suc (position_or_len p xs) = omega arith in
        record { element = r.element; is = ap (λ k. slice_get (x ∷ xs) k) next ∙ r.is; passes = r.passes }

-- the test passes somewhere, where there is such a place
any_place : {X : Type 0} (p : X → Bool) (xs : List X) → nat_lt (position_or_len p xs) (length xs) ≡ list_any p xs
any_place p [] = refl
any_place p (x ∷ xs) = go (p x) (any_place p xs)
  where
    go : (b : Bool) → nat_lt (position_or_len p xs) (length xs) ≡ list_any p xs
        → nat_lt (cond (not b) (1 + position_or_len p xs) 0) (length (x ∷ xs)) ≡ (b || list_any p xs)
    go true later = first (length xs)
      where
        first : (n : ℕ) → nat_lt 0 (suc n) ≡ true
        first n = grind (arith, nat_tests)
    go false later = shifted (position_or_len p xs) (length xs) ∙ later
      where
        shifted : (m n : ℕ) → nat_lt (1 + m) (suc n) ≡ nat_lt m n
        shifted m n = grind (arith, nat_tests)

choice : (b : Bool) (k n : ℕ) → cond b (Some k) None ≡ Some n → (b ≡ true) × (k ≡ n)
choice true k n e = (refl, cc)
choice false k n e = cc

pub position_passes : {X : Type 0} (p : X → Bool) (xs : List X) (k : ℕ) → position p xs ≡ Some k → Passes p xs k
position_passes p xs k e =
    let parts = choice (nat_lt (position_or_len p xs) (length xs)) (position_or_len p xs) k e in
    let inside : position_or_len p xs < length xs = grind (arith, nat_tests, parts.0) in
    subst (Passes p xs) parts.1 (passes_place p xs inside)

chosen : (b : Bool) (k : ℕ) → is_some (cond b (Some k) None) ≡ b
chosen true k = refl
chosen false k = refl

pub is_some-position : {X : Type 0} (p : X → Bool) (xs : List X) → is_some (position p xs) ≡ list_any p xs
is_some-position p xs = chosen (nat_lt (position_or_len p xs) (length xs)) (position_or_len p xs) ∙ any_place p xs

-- ---- in a list that is cut in two

any-halves : {X : Type 0} (p : X → Bool) (xs : List X) (n : ℕ) → list_any p xs ≡ (list_any p (take n xs) || list_any p (drop n xs))
any-halves p xs n = ap (λ ys. list_any p ys) (sym (take-append-drop n xs)) ∙ list_any-append p (take n xs) (drop n xs)

or_true : (a : Bool) → (a || true) ≡ true
or_true true = refl
or_true false = refl

pub any_in_back : {X : Type 0} (p : X → Bool) (xs back : List X) (n k : ℕ) → back ≡ drop n xs → position p back ≡ Some k → list_any p xs ≡ true
any_in_back p xs back n k e h =
    any-halves p xs n
    ∙ ap (λ b. list_any p (take n xs) || b) (ap (λ ys. list_any p ys) (sym e) ∙ sym (is_some-position p back) ∙ ap is_some h)
    ∙ or_true (list_any p (take n xs))

pub any_in_front : {X : Type 0} (p : X → Bool) (xs front : List X) (n k : ℕ) → front ≡ take n xs → position p front ≡ Some k → list_any p xs ≡ true
any_in_front p xs front n k e h =
    any-halves p xs n
    ∙ ap (λ b. b || list_any p (drop n xs)) (ap (λ ys. list_any p ys) (sym e) ∙ sym (is_some-position p front) ∙ ap is_some h)

pub any_nowhere : {X : Type 0} (p : X → Bool) (xs front back : List X) (n : ℕ) → front ≡ take n xs → back ≡ drop n xs
    → position p front ≡ None → position p back ≡ None → list_any p xs ≡ false
any_nowhere p xs front back n e f h k =
    any-halves p xs n
    ∙ ap (λ b. b || list_any p (drop n xs)) (ap (λ ys. list_any p ys) (sym e) ∙ sym (is_some-position p front) ∙ ap is_some h)
    ∙ ap (λ ys. list_any p ys) (sym f) ∙ sym (is_some-position p back) ∙ ap is_some k
