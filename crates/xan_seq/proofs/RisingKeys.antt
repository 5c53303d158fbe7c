-- The search for a key among rising ones, and what a write at its place makes.
use Rattle.std.proofs.Common.{◌≡◌, ◌≢◌, ◌==◌, ℕ, zero, suc, ◌<◌, ◌≤◌, List, [], ◌∷◌, ◌++◌, take, drop, set, length, get_or, Bool, true, false, nat_lt, cond, Option, Some, None, refl, sym, ◌∙◌, ap, subst, arith}
use Rattle.std.specs.List.{All, insert}
use Rattle.std.specs.List.Sorted.{IsPartitionedBy, IsPartitionPoint}
use Rattle.std.proofs.lemmas.Bool.Decides.{Decides-eqb}
use Rattle.std.proofs.lemmas.List.Elements.{All-nil, All-cons, All-head, All-tail}
use Rattle.xan_seq.specs.Rising.{KeysRise, value_under, with_value}
use Rattle.xan_seq.proofs.NumberTests.{less, not_less, equal, unequal, is_less, is_not_less, Lt, Gt, Eq, order}

-- what the search tests
abbrev pub is_before : {A : Type 0} → ℕ → ℕ × A → Bool
is_before key x = nat_lt x.0 key

at_least : {A : Type 0} (low at : ℕ) (xs : List (ℕ × A)) (d : ℕ × A) → KeysRise low xs → at < length xs → low ≤ (get_or xs at d).0
at_least low at [] d r h = absurd (omega arith)
at_least low zero (x ∷ xs) d r h = r.0
at_least low (suc at) (x ∷ xs) d r h = (let later : suc x.0 ≤ (get_or xs at d).0 = at_least (suc x.0) at xs d r.1 (omega arith) in omega (arith, r.0))

rises_upto : {A : Type 0} (low i j : ℕ) (xs : List (ℕ × A)) (d : ℕ × A) → KeysRise low xs → i ≤ j → j < length xs → (get_or xs i d).0 ≤ (get_or xs j d).0
rises_upto low i j [] d r le h = absurd (omega arith)
rises_upto low zero zero (x ∷ xs) d r le h = omega arith
rises_upto low (suc i) zero (x ∷ xs) d r le h = absurd (omega arith)
rises_upto low zero (suc j) (x ∷ xs) d r le h = (let later : suc x.0 ≤ (get_or xs j d).0 = at_least (suc x.0) j xs d r.1 (omega arith) in omega arith)
rises_upto low (suc i) (suc j) (x ∷ xs) d r le h = rises_upto (suc x.0) i j xs d r.1 (omega arith) (omega arith)

pub rises_partitioned : {A : Type 0} (low key : ℕ) (xs : List (ℕ × A)) → KeysRise low xs → IsPartitionedBy (is_before key) xs
rises_partitioned low key xs r i j d le h t =
    let before : (get_or xs j d).0 < key = is_less (get_or xs j d).0 key t in
    let upto : (get_or xs i d).0 ≤ (get_or xs j d).0 = rises_upto low i j xs d r le h in
    less (get_or xs i d).0 key (omega arith)

value-here : {A : Type 0} (key : ℕ) (x : ℕ × A) (xs : List (ℕ × A)) → x.0 ≡ key → value_under key (x ∷ xs) ≡ Some x.1
value-here {A} key x xs e = ap (λ b. cond b (let r : Option A = Some x.1 in r) (value_under key xs)) (equal x.0 key e)

value-later : {A : Type 0} (key : ℕ) (x : ℕ × A) (xs : List (ℕ × A)) → x.0 ≢ key → value_under key (x ∷ xs) ≡ value_under key xs
value-later {A} key x xs e = ap (λ b. cond b (let r : Option A = Some x.1 in r) (value_under key xs)) (unequal x.0 key e)

pub value-found : {A : Type 0} (low key at : ℕ) (xs : List (ℕ × A)) (d : ℕ × A) → KeysRise low xs → at < length xs → (get_or xs at d).0 ≡ key
    → value_under key xs ≡ Some (get_or xs at d).1
value-found low key at [] d r h e = absurd (omega arith)
value-found low key zero (x ∷ xs) d r h e = value-here key x xs e
value-found low key (suc at) (x ∷ xs) d r h e =
    let later : suc x.0 ≤ (get_or xs at d).0 = at_least (suc x.0) at xs d r.1 (omega arith) in
    value-later key x xs (λ same. absurd (omega arith)) ∙ value-found (suc x.0) key at xs d r.1 (omega arith) e

value-none : {A : Type 0} (key : ℕ) (xs : List (ℕ × A)) (d : ℕ × A) → ((k : ℕ) → k < length xs → (get_or xs k d).0 ≢ key) → value_under key xs ≡ None
value-none key [] d h = refl
value-none key (x ∷ xs) d h = value-later key x xs (h 0 (omega arith)) ∙ value-none key xs d (λ k l. h (suc k) (omega arith))

apart : {A : Type 0} (low key at k : ℕ) (xs : List (ℕ × A)) (d : ℕ × A) → KeysRise low xs → k < length xs
    → IsPartitionPoint (λ x. nat_lt x.0 key ≡ true) (λ x. nat_lt x.0 key ≡ false) xs at → (at < length xs → (get_or xs at d).0 ≢ key)
    → (get_or xs k d).0 ≢ key
apart low key at k xs d r l point other =
    let here = get_or xs k d in
    elim (order k at) [
      | Lt h ↦ (let before : here.0 < key = is_less here.0 key (point.0 k d (omega arith) h) in λ e. absurd (omega arith))
      | Gt h ↦ (let first = get_or xs at d in
          let from : key ≤ first.0 = is_not_less first.0 key (point.1 at d (omega arith) (omega arith)) in
          let upto : first.0 ≤ here.0 = rises_upto low at k xs d r (omega arith) l in
          λ e. other (omega arith) (omega arith))
      | Eq h ↦ (λ e. other (omega arith) (ap (λ n. (get_or xs n d).0) (sym h) ∙ e))
    ]

pub value-absent : {A : Type 0} (low key at : ℕ) (xs : List (ℕ × A)) (d : ℕ × A) → KeysRise low xs
    → IsPartitionPoint (λ x. nat_lt x.0 key ≡ true) (λ x. nat_lt x.0 key ≡ false) xs at → (at < length xs → (get_or xs at d).0 ≢ key) → value_under key xs ≡ None
value-absent low key at xs d r point other = value-none key xs d (λ k l. apart low key at k xs d r l point other)

-- ---- writes

with-before : {A : Type 0} (key : ℕ) (value : A) (x : ℕ × A) (xs : List (ℕ × A)) → x.0 < key → with_value key value (x ∷ xs) ≡ x ∷ with_value key value xs
with-before key value x xs h = ap (λ b. cond b (x ∷ with_value key value xs) (cond (x.0 == key) ((key, value) ∷ xs) ((key, value) ∷ x ∷ xs))) (less x.0 key h)

with-here : {A : Type 0} (key : ℕ) (value : A) (x : ℕ × A) (xs : List (ℕ × A)) → x.0 ≡ key → with_value key value (x ∷ xs) ≡ (key, value) ∷ xs
with-here key value x xs h =
    ap (λ b. cond b (x ∷ with_value key value xs) (cond (x.0 == key) ((key, value) ∷ xs) ((key, value) ∷ x ∷ xs))) (not_less x.0 key (omega arith))
    ∙ ap (λ b. cond b ((key, value) ∷ xs) ((key, value) ∷ x ∷ xs)) (equal x.0 key h)

with-behind : {A : Type 0} (key : ℕ) (value : A) (x : ℕ × A) (xs : List (ℕ × A)) → key < x.0 → with_value key value (x ∷ xs) ≡ (key, value) ∷ x ∷ xs
with-behind key value x xs h =
    ap (λ b. cond b (x ∷ with_value key value xs) (cond (x.0 == key) ((key, value) ∷ xs) ((key, value) ∷ x ∷ xs))) (not_less x.0 key (omega arith))
    ∙ ap (λ b. cond b ((key, value) ∷ xs) ((key, value) ∷ x ∷ xs)) (unequal x.0 key (λ e. absurd (omega arith)))

pub KeysRise-with : {A : Type 0} (low key : ℕ) (value : A) (xs : List (ℕ × A)) → low ≤ key → KeysRise low xs → KeysRise low (with_value key value xs)
KeysRise-with {A} low key value [] le r = (le, tt)
KeysRise-with {A} low key value (x ∷ xs) le r =
    let P : List (ℕ × A) → Type 0 = λ ys. KeysRise low ys in
    elim (order key x.0) [
      | Lt h ↦ subst P (sym (with-behind key value x xs h)) (le, (h, r.1))
      | Gt h ↦ subst P (sym (with-before key value x xs h)) (r.0, KeysRise-with (suc x.0) key value xs h r.1)
      | Eq h ↦ subst P (sym (with-here key value x xs (sym h))) (le, subst (λ n. KeysRise (suc n) xs) (sym h) r.1)
    ]

-- all that stands before the key that was found
abbrev AllBefore : {A : Type 0} → ℕ → ℕ → List (ℕ × A) → Type 0
AllBefore {A} key at xs = (k : ℕ) (d : ℕ × A) → k < length xs → k < at → (get_or xs k d).0 < key

with-set : {A : Type 0} (key at : ℕ) (value : A) (xs : List (ℕ × A)) (d : ℕ × A) → AllBefore key at xs → at < length xs → (get_or xs at d).0 ≡ key
    → with_value key value xs ≡ set xs at (key, value)
with-set key at value [] d before l e = absurd (omega arith)
with-set key zero value (x ∷ xs) d before l e = with-here key value x xs e
with-set key (suc at) value (x ∷ xs) d before l e =
    with-before key value x xs (before 0 d (omega arith) (omega arith))
    ∙ ap (λ ys. x ∷ ys) (with-set key at value xs d (λ k c m n. before (suc k) c (omega arith) (omega arith)) (omega arith) e)

with-insert : {A : Type 0} (key at : ℕ) (value : A) (xs : List (ℕ × A)) → AllBefore key at xs → at ≤ length xs
    → ((d : ℕ × A) → at < length xs → key < (get_or xs at d).0) → with_value key value xs ≡ take at xs ++ (key, value) ∷ drop at xs
with-insert key zero value [] before l behind = refl
with-insert key (suc at) value [] before l behind = absurd (omega arith)
with-insert key zero value (x ∷ xs) before l behind = with-behind key value x xs (behind x (omega arith))
with-insert key (suc at) value (x ∷ xs) before l behind =
    with-before key value x xs (before 0 x (omega arith) (omega arith))
    ∙ ap (λ ys. x ∷ ys) (with-insert key at value xs (λ k c m n. before (suc k) c (omega arith) (omega arith)) (omega arith) (λ d m. behind d (omega arith)))

-- where the search ends
abbrev pub IsPoint : {A : Type 0} → ℕ → ℕ → List (ℕ × A) → Type 0
IsPoint key at xs = IsPartitionPoint (λ e. nat_lt e.0 key ≡ true) (λ e. nat_lt e.0 key ≡ false) xs at

all_before : {A : Type 0} (key at : ℕ) (xs : List (ℕ × A)) → IsPoint key at xs → AllBefore key at xs
all_before key at xs point k d l h = is_less (get_or xs k d).0 key (point.0 k d (omega arith) h)

-- the pair of the key is written over
pub set_is : {A : Type 0} (key at : ℕ) (value : A) (xs seen again : List (ℕ × A)) → seen ≡ xs → again ≡ xs → IsPoint key at seen
    → ((d : ℕ × A) → (at < length again) × ((get_or again at d).0 ≡ key)) → set xs at (key, value) ≡ with_value key value xs
set_is {A} key at value xs seen again e f point found =
    let here : IsPoint key at xs = subst (λ ys. IsPoint key at ys) e point in
    let there = subst (λ (ys : List (ℕ × A)). (d : ℕ × A) → (at < length ys) × ((get_or ys at d).0 ≡ key)) f found in
    let d : ℕ × A = (key, value) in
    sym (with-set key at value xs d (all_before key at xs here) (there d).0 (there d).1)

-- or it comes between the others
pub insert_is : {A : Type 0} (key at : ℕ) (value : A) (xs seen again : List (ℕ × A)) → seen ≡ xs → again ≡ xs → IsPoint key at seen → at ≤ length seen
    → ((d : ℕ × A) → at < length again → (get_or again at d).0 ≢ key) → insert xs at (key, value) ≡ with_value key value xs
insert_is {A} key at value xs seen again e f point l absent =
    let here : IsPoint key at xs = subst (λ ys. IsPoint key at ys) e point in
    let there = subst (λ (ys : List (ℕ × A)). (d : ℕ × A) → at < length ys → (get_or ys at d).0 ≢ key) f absent in
    sym (with-insert key at value xs (all_before key at xs here) (omega (arith, ap length e))
    (λ d m. (let from : key ≤ (get_or xs at d).0 = is_not_less (get_or xs at d).0 key (here.1 at d (omega arith) m) in
    let other : (get_or xs at d).0 ≢ key = there d m in
    omega arith)))

-- ---- what a write gives

turn : {A : Type 0} (a b : Bool) (x y z : A) → (a ≡ true → b ≡ true → ⊥) → cond a x (cond b y z) ≡ cond b y (cond a x z)
turn true true x y z apart = absurd (apart refl refl)
turn true false x y z apart = refl
turn false true x y z apart = refl
turn false false x y z apart = refl

skip : {A : Type 0} (a b : Bool) (x y z : A) → a ≡ b → cond a x z ≡ cond a x (cond b y z)
skip true true x y z e = refl
skip true false x y z e = cc
skip false true x y z e = cc
skip false false x y z e = refl

both_keys : (m n q : ℕ) → m < n → (m == q) ≡ true → (n == q) ≡ true → ⊥
both_keys m n q h e f = (let a : m ≡ q = (Decides-eqb m q).0 e in let b : n ≡ q = (Decides-eqb n q).0 f in absurd (omega arith))

-- the written key has the value, and each other one what it had
pub value-with : {A : Type 0} (q key : ℕ) (value : A) (xs : List (ℕ × A)) → value_under q (with_value key value xs) ≡ cond (key == q) (Some value) (value_under q xs)
value-with q key value [] = refl
value-with q key value (x ∷ xs) =
    elim (order key x.0) [
      | Lt h ↦ ap (λ ys. value_under q ys) (with-behind key value x xs h)
      | Gt h ↦ ap (λ ys. value_under q ys) (with-before key value x xs h)
          ∙ ap (λ o. cond (x.0 == q) (Some x.1) o) (value-with q key value xs)
          ∙ turn (x.0 == q) (key == q) (Some x.1) (Some value) (value_under q xs) (both_keys x.0 key q h)
      | Eq h ↦ ap (λ ys. value_under q ys) (with-here key value x xs (sym h)) ∙ skip (key == q) (x.0 == q) (Some value) (Some x.1) (value_under q xs) (ap (λ n. n == q) h)
    ]

all_apart : {A : Type 0} (P : ℕ × A → Type 0) (low key : ℕ) (xs : List (ℕ × A)) → KeysRise low xs → key < low → All (λ e. e.0 ≢ key → P e) xs → All P xs
all_apart P low key xs r h all = λ k d l.
    all k d l (λ e. (let from : low ≤ (get_or xs k d).0 = at_least low k xs d r l in absurd (omega arith)))

-- what holds of the written key and of each other one holds of all
pub all_with : {A : Type 0} (P : ℕ × A → Type 0) (low key : ℕ) (value : A) (xs : List (ℕ × A)) → KeysRise low xs → All (λ e. e.0 ≢ key → P e) xs → P (key, value)
    → All P (with_value key value xs)
all_with {A} P low key value [] r all here = All-cons P (key, value) [] here (All-nil P)
all_with {A} P low key value (x ∷ xs) r all here =
    let Q : ℕ × A → Type 0 = λ e. e.0 ≢ key → P e in
    elim (order key x.0) [
      | Lt h ↦ subst (λ ys. All P ys) (sym (with-behind key value x xs h)) (All-cons P (key, value) (x ∷ xs) here (all_apart P x.0 key (x ∷ xs) (omega arith, r.1) h all))
      | Gt h ↦ subst (λ ys. All P ys) (sym (with-before key value x xs h))
          (All-cons P x (with_value key value xs) (All-head Q x xs all (λ e. absurd (omega arith))) (all_with P (suc x.0) key value xs r.1 (All-tail Q x xs all) here))
      | Eq h ↦ subst (λ ys. All P ys) (sym (with-here key value x xs (sym h))) (All-cons P (key, value) xs here (all_apart P (suc x.0) key xs r.1 (omega arith) (All-tail Q x xs all)))
    ]
