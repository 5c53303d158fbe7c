-- Elements of lists by their number.
use Rattle.std.proofs.Common.{◌≡◌, ℕ, zero, suc, ◌+◌, ◌<◌, List, [], ◌∷◌, ◌++◌, map, length, Some, refl, ◌∙◌, ap, subst, arith}
use Rattle.std.specs.Prelude.{slice_get}
use Rattle.std.specs.List.{All, AllZip}
use Rattle.std.proofs.lemmas.List.Elements.{All-head, All-tail}
use Rattle.std.proofs.lemmas.Option.{none-some, same_Some}

-- what an element has
pub all_at : {A : Type 0} (P : A → Type 0) (xs : List A) (n : ℕ) (x : A) → All P xs → slice_get xs n ≡ Some x → P x
all_at P [] n x all e = absurd (none-some x e)
all_at P (y ∷ ys) zero x all e = subst P (same_Some y x e) (All-head P y ys all)
all_at P (y ∷ ys) (suc n) x all e = all_at P ys n x (All-tail P y ys all) e

-- an element there
pub record IsThere {A : Type 0} (xs : List A) (n : ℕ) : Type 0 where
  pub value : A
  pub there : slice_get xs n ≡ Some value

pub within_there : {A : Type 0} (xs : List A) (n : ℕ) → n < length xs → IsThere xs n
within_there [] n h = absurd (omega arith)
within_there (x ∷ xs) zero h = record { value = x; there = refl }
within_there (x ∷ xs) (suc n) h = (let rest = within_there xs n (omega arith) in record { value = rest.value; there = rest.there })

-- elements of two lists in step
pub zip_at : {A B : Type 0} (P : A → B → Type 0) (xs : List A) (ys : List B) (n : ℕ) (x : A) (y : B) → AllZip P xs ys → slice_get xs n ≡ Some x
    → slice_get ys n ≡ Some y → P x y
zip_at P [] ys n x y all e f = absurd (none-some x e)
zip_at P (a ∷ xs) [] n x y all e f = absurd (none-some y f)
zip_at P (a ∷ xs) (b ∷ ys) zero x y all e f = subst (λ v. P x v) (same_Some b y f) (subst (λ v. P v b) (same_Some a x e) all.0)
zip_at P (a ∷ xs) (b ∷ ys) (suc n) x y all e f = zip_at P xs ys n x y all.1 e f

pub zip_there : {A B : Type 0} (P : A → B → Type 0) (xs : List A) (ys : List B) (n : ℕ) (x : A) → AllZip P xs ys → slice_get xs n ≡ Some x → IsThere ys n
zip_there P [] ys n x all e = absurd (none-some x e)
zip_there P (a ∷ xs) [] n x all e = absurd all
zip_there P (a ∷ xs) (b ∷ ys) zero x all e = record { value = b; there = refl }
zip_there P (a ∷ xs) (b ∷ ys) (suc n) x all e = (let rest = zip_there P xs ys n x all.1 e in record { value = rest.value; there = rest.there })

pub zip_back : {A B : Type 0} (P : A → B → Type 0) (xs : List A) (ys : List B) (n : ℕ) (y : B) → AllZip P xs ys → slice_get ys n ≡ Some y → IsThere xs n
zip_back P xs [] n y all e = absurd (none-some y e)
zip_back P [] (b ∷ ys) n y all e = absurd all
zip_back P (a ∷ xs) (b ∷ ys) zero y all e = record { value = a; there = refl }
zip_back P (a ∷ xs) (b ∷ ys) (suc n) y all e = (let rest = zip_back P xs ys n y all.1 e in record { value = rest.value; there = rest.there })

pub zip_lengths : {A B : Type 0} (P : A → B → Type 0) (xs : List A) (ys : List B) → AllZip P xs ys → length xs ≡ length ys
zip_lengths P [] [] all = refl
zip_lengths P [] (b ∷ ys) all = absurd all
zip_lengths P (a ∷ xs) [] all = absurd all
zip_lengths P (a ∷ xs) (b ∷ ys) all = ap suc (zip_lengths P xs ys all.1)

-- ---- in two lists behind one another

pub get_first : {A : Type 0} (xs ys : List A) (n : ℕ) (x : A) → slice_get xs n ≡ Some x → slice_get (xs ++ ys) n ≡ Some x
get_first [] ys n x e = absurd (none-some x e)
get_first (y ∷ xs) ys zero x e = e
get_first (y ∷ xs) ys (suc n) x e = get_first xs ys n x e

pub get_second : {A : Type 0} (xs ys : List A) (n : ℕ) → slice_get (xs ++ ys) (length xs + n) ≡ slice_get ys n
get_second [] ys n = ap (λ k. slice_get ys k) (let e : 0 + n ≡ n = omega arith in e)
get_second (x ∷ xs) ys n = ap (λ k. slice_get (x ∷ (xs ++ ys)) k) (let e : suc (length xs) + n ≡ suc (length xs + n) = omega arith in e) ∙ get_second xs ys n

pub get_map : {A B : Type 0} (f : A → B) (xs : List A) (n : ℕ) (x : A) → slice_get xs n ≡ Some x → slice_get (map f xs) n ≡ Some (f x)
get_map f [] n x e = absurd (none-some x e)
get_map f (y ∷ xs) zero x e = ap (λ v. Some (f v)) (same_Some y x e)
get_map f (y ∷ xs) (suc n) x e = get_map f xs n x e

-- and back: the element that it came from
pub record IsMapped {A B : Type 0} (f : A → B) (xs : List A) (n : ℕ) (y : B) : Type 0 where
  pub value : A
  pub there : slice_get xs n ≡ Some value
  pub is : f value ≡ y

pub map_back : {A B : Type 0} (f : A → B) (xs : List A) (n : ℕ) (y : B) → slice_get (map f xs) n ≡ Some y → IsMapped f xs n y
map_back f [] n y e = absurd (none-some y e)
map_back f (x ∷ xs) zero y e = record { value = x; there = refl; is = same_Some (f x) y e }
map_back f (x ∷ xs) (suc n) y e = (let rest = map_back f xs n y e in record { value = rest.value; there = rest.there; is = rest.is })
