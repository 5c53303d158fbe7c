-- Facts of lists, of tests and of chains of checks that the laws on shaped cores share.
use Rattle.std.proofs.Common.{◌≡◌, sym, ap, subst, ℕ, zero, suc, ◌+◌, ◌-◌, Bool, true, false, List, [], ◌∷◌, ◌++◌, length, map, drop, Some, Ok, Err, refl, arith, ◌∙◌, inr, append_assoc}
use Rattle.std.specs.Prelude.{slice_get, if◌then◌else◌, cond}
use Rattle.std.specs.Map.{lookup}
use Rattle.std.specs.List.{AllByRecursion}
use Rattle.std.proofs.lemmas.Option.{same_Some}
use Rattle.xanadu_tree.specs.KindRules.{IsAmong}
use Rattle.type_shapes.specs.declared.error.ShapeKind.{ShapeKind}
use Rattle.type_shapes.specs.Faults.{Check, fault, ◌>>=◌}

-- ---- checks that gave a value

pub record Then {A B : Type 0} (m : Check A) (f : A → Check B) (y : B) : Type 0 where
  pub value : A
  pub first : m ≡ Ok value
  pub second : f value ≡ Ok y

pub then_ok : {A B : Type 0} (m : Check A) (f : A → Check B) (y : B) → (m >>= f) ≡ Ok y → Then m f y
then_ok (Ok x) f y e = record { value = x; first = refl; second = e }
then_ok (Err x) f y e = absurd (cc)

value_or : {A : Type 0} → A → Check A → A
value_or x (Ok y) = y
value_or x (Err e) = x

pub ok_same : {A : Type 0} (x y : A) → ◌≡◌ {A = Check A} (Ok x) (Ok y) → x ≡ y
unfolding value_or
ok_same x y e = ap (value_or x) e

pub unless_ok : {A : Type 0} (b : Bool) (k : ShapeKind) (at : ℕ) (m : Check A) (y : A) → (if b then fault k at else m) ≡ Ok y → (b ≡ false) × (m ≡ Ok y)
unless_ok true k at m y e = absurd (cc)
unless_ok false k at m y e = (refl, e)

pub where_ok : {A : Type 0} (b : Bool) (k : ShapeKind) (at : ℕ) (m : Check A) (y : A) → (if b then m else fault k at) ≡ Ok y → (b ≡ true) × (m ≡ Ok y)
where_ok true k at m y e = (refl, e)
where_ok false k at m y e = absurd (cc)

-- ---- all of a list

pub all_weaker : {A : Type 0} (P Q : A → Type 0) → ((x : A) → P x → Q x) → (xs : List A) → AllByRecursion P xs → AllByRecursion Q xs
all_weaker P Q f [] h = tt
all_weaker P Q f (x ∷ xs) h = (f x h.0, all_weaker P Q f xs h.1)

pub all_append : {A : Type 0} (P : A → Type 0) (xs ys : List A) → AllByRecursion P xs → AllByRecursion P ys → AllByRecursion P (xs ++ ys)
all_append P [] ys h k = k
all_append P (x ∷ xs) ys h k = (h.0, all_append P xs ys h.1 k)

pub all_with : {A : Type 0} (P : A → Type 0) (xs : List A) (x : A) → AllByRecursion P xs → P x → AllByRecursion P (xs ++ (x ∷ []))
all_with P xs x h k = all_append P xs (x ∷ []) h (k, tt)

pub all_map : {A B : Type 0} (P : B → Type 0) (f : A → B) (xs : List A) → AllByRecursion (λ x. P (f x)) xs → AllByRecursion P (map f xs)
all_map P f [] h = tt
all_map P f (x ∷ xs) h = (h.0, all_map P f xs h.1)

pub all_at : {A : Type 0} (P : A → Type 0) (xs : List A) (n : ℕ) (x : A) → AllByRecursion P xs → slice_get xs n ≡ Some x → P x
all_at P [] n x h e = absurd (cc)
all_at P (y ∷ ys) zero x h e = subst P (same_Some y x e) h.0
all_at P (y ∷ ys) (suc n) x h e = all_at P ys n x h.1 e

-- ---- a list that begins with another one, and one that ends with another one

pub record Begins {A : Type 0} (front whole : List A) : Type 0 where
  pub rest : List A
  pub is : whole ≡ front ++ rest

nothing_behind : {A : Type 0} (xs : List A) → xs ≡ xs ++ []
nothing_behind [] = refl
nothing_behind (x ∷ xs) = ap (λ ys. x ∷ ys) (nothing_behind xs)

pub begins_same : {A : Type 0} (xs : List A) → Begins xs xs
begins_same xs = record { rest = []; is = nothing_behind xs }

pub begins_with : {A : Type 0} (xs : List A) (x : A) → Begins xs (xs ++ (x ∷ []))
begins_with xs x = record { rest = x ∷ []; is = refl }

pub begins_through : {A : Type 0} (xs ys zs : List A) → Begins xs ys → Begins ys zs → Begins xs zs
begins_through xs ys zs one two = record {
  rest = one.rest ++ two.rest;
  is = two.is ∙ ap (λ ws. ws ++ two.rest) one.is ∙ append_assoc xs one.rest two.rest;
}

get_front : {A : Type 0} (xs ys : List A) (n : ℕ) (x : A) → slice_get xs n ≡ Some x → slice_get (xs ++ ys) n ≡ Some x
get_front [] ys n x e = absurd (cc)
get_front (z ∷ zs) ys zero x e = e
get_front (z ∷ zs) ys (suc n) x e = get_front zs ys n x e

pub begins_get : {A : Type 0} (xs ys : List A) (n : ℕ) (x : A) → Begins xs ys → slice_get xs n ≡ Some x → slice_get ys n ≡ Some x
begins_get xs ys n x b e = subst (λ zs. slice_get zs n ≡ Some x) (sym b.is) (get_front xs b.rest n x e)

pub record Ends {A : Type 0} (back whole : List A) : Type 0 where
  pub more : List A
  pub is : whole ≡ more ++ back

pub ends_same : {A : Type 0} (xs : List A) → Ends xs xs
ends_same xs = record { more = []; is = refl }

pub ends_with : {A : Type 0} (xs : List A) (x : A) → Ends xs (x ∷ xs)
ends_with xs x = record { more = x ∷ []; is = refl }

pub ends_through : {A : Type 0} (xs ys zs : List A) → Ends xs ys → Ends ys zs → Ends xs zs
ends_through xs ys zs one two = record {
  more = two.more ++ one.more;
  is = two.is ∙ ap (λ ws. two.more ++ ws) one.is ∙ sym (append_assoc two.more one.more xs);
}

pub length_both : {A : Type 0} (xs ys : List A) → length (xs ++ ys) ≡ length xs + length ys
length_both [] ys = omega arith
length_both (x ∷ xs) ys = omega (arith, length_both xs ys)

past_front : {A : Type 0} (xs ys : List A) → drop (length xs) (xs ++ ys) ≡ ys
past_front [] ys = refl
past_front (x ∷ xs) ys = past_front xs ys

back_of : {A : Type 0} (more xs : List A) → drop (length (more ++ xs) - length xs) (more ++ xs) ≡ xs
back_of more xs =
    let n : length (more ++ xs) - length xs ≡ length more = omega (arith, length_both more xs) in
    ap (λ k. drop k (more ++ xs)) n ∙ past_front more xs

-- what stands behind the part in front
pub ends_left : {A : Type 0} (xs ys : List A) → Ends xs ys → drop (length ys - length xs) ys ≡ xs
ends_left xs ys e = subst (λ zs. drop (length zs - length xs) zs ≡ xs) (sym e.is) (back_of e.more xs)

-- ---- look-ups

-- what is found is an entry
pub all_found : {A : Type 0} (P : A → Type 0) (test : List ℕ → Bool) (es : List (List ℕ × A)) (x : A) → AllByRecursion (λ e. P e.1) es
    → lookup test es ≡ Some x → P x
all_found P test [] x h e = absurd (cc)
all_found P test (y ∷ es) x h e = at_test (test y.0) e (λ later. all_found P test es x h.1 later)
  where
    at_test : (b : Bool) → cond b (Some y.1) (lookup test es) ≡ Some x → (lookup test es ≡ Some x → P x) → P x
    at_test true same later = subst P (same_Some y.1 x same) h.0
    at_test false same later = later same

-- ---- members

pub among_back : (xs ys : List ℕ) (x : ℕ) → IsAmong ys x → IsAmong (xs ++ ys) x
among_back [] ys x h = h
among_back (z ∷ zs) ys x h = inr (among_back zs ys x h)
