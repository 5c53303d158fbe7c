-- Which digits some number of a range begins with.
use Rattle.std.proofs.Common.{◌≡◌, ℕ, zero, suc, ◌+◌, ◌-◌, ◌*◌, ◌/◌, ◌%◌, ◌^◌, ◌<◌, ◌≤◌, Bool, true, false, cond, leb, ltb, ◌&&◌, Option, Some, None, option_map, List, [], ◌∷◌, ◌++◌, length, refl, sym, ap, subst, ◌∙◌, arith, inl, inr, ◌⊎◌, zero-add}
use Rattle.std.specs.Str.{all_ascii_digits}
use Rattle.std.specs.Char.{is_ascii_digit}
use Rattle.std.proofs.Math.Nat.{mul-le-mul_right}
use Rattle.std.proofs.lemmas.Bool.{and_parts, and_from, or_cases, or_left, or_right, ltb-true, leb-true, lt-ltb, le-leb, lt-leb, and_left, cases_lt}
use Rattle.std.proofs.lemmas.Str.Parse.{tells_all_ascii_digits}
use Rattle.xan_read.specs.Numbers.{some_within, can_begin, value_behind, next_digit, stop_at, digits_behind}

-- 10 ^ k
abbrev ten : ℕ → ℕ
ten zero = 1
ten (suc k) = 10 * ten k

ten_positive : (k : ℕ) → 1 ≤ ten k
ten_positive zero = omega arith
ten_positive (suc k) = omega (arith, ten_positive k)

ten_rises : (k j : ℕ) → ten k ≤ ten (j + k)
ten_rises k zero = rw zero-add (omega arith)
ten_rises k (suc j) = let e : suc j + k ≡ suc (j + k) = omega arith in rw e (omega (arith, ten_rises k j))

abbrev pub AreDigits : List ℕ → Type 0
AreDigits text = all_ascii_digits text ≡ true

-- ---- the numbers that k more digits reach

step_low : (v d t r : ℕ) → (10 * v + d) * t ≤ r → v * (10 * t) ≤ r
step_low v d t r h = omega arith

step_high : (v d t r : ℕ) → d ≤ 9 → r < (10 * v + d + 1) * t → r < (v + 1) * (10 * t)
step_high v d t r small h = omega (arith, mul-le-mul_right t small)

pub reaches : (v : ℕ) (text : List ℕ) → AreDigits text → (v * ten (length text) ≤ value_behind v text) × (value_behind v text < (v + 1) * ten (length text))
reaches v [] digits = (omega arith, omega arith)
reaches v (b ∷ text) digits =
    let parts = tells_all_ascii_digits.parts b text digits in
    let more = reaches (10 * v + (b - 48)) text parts.1 in
    (step_low v (b - 48) (ten (length text)) _ more.0, step_high v (b - 48) (ten (length text)) _ (omega arith) more.1)

value_push : (v : ℕ) (text : List ℕ) (b : ℕ) → value_behind v (text ++ b ∷ []) ≡ 10 * value_behind v text + (b - 48)
value_push v [] b = refl
value_push v (c ∷ text) b = value_push (10 * v + (c - 48)) text b

digits_push : (text : List ℕ) (b : ℕ) → AreDigits text → 48 ≤ b → b ≤ 57 → AreDigits (text ++ b ∷ [])
digits_push [] b digits low high = tells_all_ascii_digits.more b [] (low, high) refl
digits_push (c ∷ text) b digits low high =
    let parts = tells_all_ascii_digits.parts c text digits in
    tells_all_ascii_digits.more c (text ++ b ∷ []) parts.0 (digits_push text b parts.1 low high)

-- each number in the stretch is reached
pub reached : (k v m : ℕ) → v * ten k ≤ m → m < (v + 1) * ten k → (text : List ℕ) × AreDigits text × (value_behind v text ≡ m)
reached zero v m low high = ([], refl, omega arith)
reached (suc k) v m low high =
    let front = reached k v (m / 10) (omega arith) (omega arith) in
    let last : m % 10 < 10 = omega arith in (
      front.0 ++ (48 + m % 10) ∷ [],
      digits_push front.0 (48 + m % 10) front.1 (omega arith) (omega arith),
      value_push v front.0 (48 + m % 10) ∙ omega (arith, front.2),
    )

-- ---- the test

abbrev pub meets : ℕ → ℕ → ℕ → ℕ → Bool
meets low high from width = leb from high && ltb low (from + width)

record Meets (low high from width k : ℕ) : Type 0 where
  first : from * ten k ≤ high
  last : low < from * ten k + width * ten k

meets_parts : (low high from width : ℕ) → meets low high from width ≡ true → Meets low high from width 0
meets_parts low high from width e =
    let both = and_parts (leb from high) (ltb low (from + width)) e in
    record { first = omega (arith, leb-true from high both.0); last = omega (arith, ltb-true low (from + width) both.1) }

meets_from : (low high from width : ℕ) → Meets low high from width 0 → meets low high from width ≡ true
meets_from low high from width m = and_from (leb from high) (ltb low (from + width)) (le-leb from high (omega (arith, m.first))) (lt-ltb low (from + width) (omega (arith, m.last)))

some_found : (more low high from width : ℕ) → some_within more low high from width ≡ true → (k : ℕ) × Meets low high from width k
unfolding some_within
some_found zero low high from width e = (0, meets_parts low high from width e)
some_found (suc more) low high from width e = go (or_cases (meets low high from width) (some_within more low high (10 * from) (10 * width)) e) (some_found more low high (10 * from) (10 * width))
  where
    go : (meets low high from width ≡ true) ⊎ (some_within more low high (10 * from) (10 * width) ≡ true)
        → (some_within more low high (10 * from) (10 * width) ≡ true → (k : ℕ) × Meets low high (10 * from) (10 * width) k) → (k : ℕ) × Meets low high from width k
    go (inl here) later = (0, meets_parts low high from width here)
    go (inr there) later = let m = later there in (suc m.0, record { first = omega (arith, m.1.first); last = omega (arith, m.1.last) })

some_from : (more k low high from width : ℕ) → k ≤ more → Meets low high from width k → some_within more low high from width ≡ true
unfolding some_within
some_from zero zero low high from width h m = meets_from low high from width m
some_from zero (suc k) low high from width h m = absurd (omega arith)
some_from (suc more) zero low high from width h m = or_left (meets low high from width) (some_within more low high (10 * from) (10 * width)) (meets_from low high from width m)
some_from (suc more) (suc k) low high from width h m =
    or_right (meets low high from width) (some_within more low high (10 * from) (10 * width))
    (some_from more k low high (10 * from) (10 * width) (omega arith) (record { first = omega (arith, m.first); last = omega (arith, m.last) }))

-- where the test says so, some digits complete a number of the range
pub completed : (low high v : ℕ) → low ≤ high → can_begin low high v ≡ true → (text : List ℕ) × AreDigits text × (low ≤ value_behind v text) × (value_behind v text ≤ high)
unfolding can_begin
completed low high v order e = go (some_found 20 low high v 1 e)
  where
    text_of : (k m : ℕ) → low ≤ m → m ≤ high → v * ten k ≤ m → m < (v + 1) * ten k → (text : List ℕ) × AreDigits text × (low ≤ value_behind v text) × (value_behind v text ≤ high)
    text_of k m a b c d = let r = reached k v m c d in (r.0, r.1, omega (arith, r.2), omega (arith, r.2))

    pick : (k : ℕ) → Meets low high v 1 k → (low < v * ten k) ⊎ (v * ten k ≤ low) → (text : List ℕ) × AreDigits text × (low ≤ value_behind v text) × (value_behind v text ≤ high)
    pick k m (inl below) = text_of k (v * ten k) (omega arith) m.first (omega arith) (omega (arith, ten_positive k))
    pick k m (inr above) = text_of k low (omega arith) order above (omega (arith, m.last))

    go : (k : ℕ) × Meets low high v 1 k → (text : List ℕ) × AreDigits text × (low ≤ value_behind v text) × (value_behind v text ≤ high)
    go m = pick m.0 m.1 (cases_lt low (v * ten m.0))

few_digits : (k v r : ℕ) → 1 ≤ v → v * ten k ≤ r → r < 2 ^ 64 → k ≤ 20
few_digits k v r positive h small = go (cases_lt 20 k)
  where
    large : 20 < k → 100000000000000000000 ≤ ten k
    large lt = subst (λ (n : ℕ). 100000000000000000000 ≤ ten n) (omega arith) (ten_rises 20 (k - 20))

    go : (20 < k) ⊎ (k ≤ 20) → k ≤ 20
    go (inl lt) = absurd (omega (arith, large lt, mul-le-mul_right (ten k) positive))
    go (inr le) = le

-- where some digits complete a number of the range, the test says so
pub can_from : (low high v : ℕ) (text : List ℕ) → 1 ≤ v → high < 2 ^ 64 → AreDigits text → low ≤ value_behind v text → value_behind v text ≤ high → can_begin low high v ≡ true
unfolding can_begin
can_from low high v text positive fits digits a b =
    let r = reaches v text digits in
    some_from 20 (length text) low high v 1 (few_digits (length text) v (value_behind v text) positive r.0 (omega arith)) (record { first = omega (arith, r.0); last = omega (arith, r.1) })

-- no number of the range begins with the digits of a larger one
pub past_high : (more low high from width : ℕ) → high < from → some_within more low high from width ≡ false
unfolding some_within
past_high zero low high from width h = and_left (leb from high) (ltb low (from + width)) (lt-leb from high h)
past_high (suc more) low high from width h = rw (lt-leb from high h) (past_high more low high (10 * from) (10 * width) (omega arith))

pub too_large : (low high v : ℕ) → high < v → can_begin low high v ≡ false
unfolding can_begin
too_large low high v h = past_high 20 low high v 1 h

-- ---- the test, step by step

pub within_here : (more low high from width : ℕ) → meets low high from width ≡ true → some_within more low high from width ≡ true
unfolding some_within
within_here zero low high from width here = here
within_here (suc more) low high from width here = or_left (meets low high from width) (some_within more low high (10 * from) (10 * width)) here

pub within_last : (more low high from width : ℕ) → more ≡ 0 → some_within more low high from width ≡ meets low high from width
unfolding some_within
within_last zero low high from width e = refl
within_last (suc more) low high from width e = absurd (omega arith)

pub within_step : (more fewer low high from width from' width' : ℕ) → more ≡ suc fewer → from' ≡ 10 * from → width' ≡ 10 * width → meets low high from width ≡ false
    → some_within fewer low high from' width' ≡ some_within more low high from width
unfolding some_within
within_step more fewer low high from width from' width' e1 e2 e3 here = rw (e1, e2, e3, here) refl

pub within_past : (more low high from width : ℕ) → high < 10 * from → meets low high from width ≡ false → some_within more low high from width ≡ false
unfolding some_within
within_past zero low high from width past here = here
within_past (suc more) low high from width past here = rw here (past_high more low high (10 * from) (10 * width) past)

-- ---- digits, step by step

abbrev given : ℕ × List ℕ → Option (ℕ × List ℕ)
given p = Some p

pub digits_step : (low high v : ℕ) (bytes : List ℕ) (x : ℕ × List ℕ) → next_digit low high v bytes ≡ Some x → digits_behind low high x.0 x.1 ≡ digits_behind low high v bytes
unfolding next_digit digits_behind
digits_step low high v [] x e = absurd cc
digits_step low high v (b ∷ bytes) x e = go (is_ascii_digit b && can_begin low high (10 * v + (b - 48))) e
  where
    some_is : (p q : ℕ × List ℕ) → given p ≡ given q → p ≡ q
    some_is p q e = cc

    go : (t : Bool) → option_map {U = ℕ × List ℕ} (λ w. (w, bytes)) (cond t (Some (10 * v + (b - 48))) None) ≡ Some x
        → digits_behind low high x.0 x.1 ≡ cond t (digits_behind low high (10 * v + (b - 48)) bytes) (stop_at low high v (b ∷ bytes))
    go true e = ap (λ (p : ℕ × List ℕ). digits_behind low high p.0 p.1) (sym (some_is (10 * v + (b - 48), bytes) x e))
    go false e = absurd cc

pub digits_end : (low high v : ℕ) (bytes : List ℕ) → next_digit low high v bytes ≡ None → digits_behind low high v bytes ≡ stop_at low high v bytes
unfolding next_digit digits_behind
digits_end low high v [] e = refl
digits_end low high v (b ∷ bytes) e = go (is_ascii_digit b && can_begin low high (10 * v + (b - 48))) e
  where
    go : (t : Bool) → option_map {U = ℕ × List ℕ} (λ w. (w, bytes)) (cond t (Some (10 * v + (b - 48))) None) ≡ None
        → cond t (digits_behind low high (10 * v + (b - 48)) bytes) (stop_at low high v (b ∷ bytes)) ≡ stop_at low high v (b ∷ bytes)
    go true e = absurd cc
    go false e = refl
