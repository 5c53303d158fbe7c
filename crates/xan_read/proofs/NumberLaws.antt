-- The reader of numbers is exact.
use Rattle.std.proofs.Common.{◌≡◌, ℕ, zero, suc, ◌+◌, ◌-◌, ◌*◌, ◌^◌, ◌<◌, ◌≤◌, Bool, true, false, cond, eqb, leb, ◌&&◌, List, [], ◌∷◌, ◌++◌, length, get_or, Ok, Err, refl, sym, ap, subst, ◌∙◌, arith, zero-add, rules}
use Rattle.std.specs.Prelude.{decimal}
use Rattle.std.specs.Str.{all_ascii_digits}
use Rattle.std.specs.Char.{is_ascii_digit}
use Rattle.std.specs.Int.{IsInRange}
use Rattle.std.proofs.lemmas.Bool.{and_parts, and_from, and_left, eqb-true, eq-eqb, ne_eqb, eqb-false, leb-true, le-leb}
use Rattle.std.proofs.lemmas.Str.Parse.{tells_all_ascii_digits, IsNumeralModel, numerals_by_fold}
use Rattle.std.proofs.lemmas.Fmt.{decimal_digit, decimal-digits_value, digits_decimal, digits_value-decimal, first_decimal, decimal_nonempty}
use Rattle.xan_read.specs.Reader.{Alike, Found, Faulty, Exact}
use Rattle.xan_read.specs.Numbers.{IsNumber, NoDigit, can_begin, stop_at, value_behind, digits_behind, number}
use Rattle.xan_read.proofs.DigitRanges.{AreDigits, completed, can_from}
use Rattle.xan_read.proofs.AlikeLaws.{done, ok_parts, err_is}

numerals : IsNumeralModel (λ ds. all_ascii_digits ds ≡ true) (value_behind 0)
numerals = numerals_by_fold _ tells_all_ascii_digits value_behind (search rules)

digit_range : (b : ℕ) → is_ascii_digit b ≡ true → IsInRange 48 57 b
digit_range b e = (tells_all_ascii_digits.parts b [] (and_from (is_ascii_digit b) true e refl)).0

first_digit : (b : ℕ) (text : List ℕ) → AreDigits (b ∷ text) → is_ascii_digit b ≡ true
first_digit b text e = (and_parts (is_ascii_digit b) (all_ascii_digits text) e).0

-- ---- digits behind those of v

record Extends (low high v n : ℕ) (text : List ℕ) : Type 0 where
  digits : AreDigits text
  is : n ≡ value_behind v text
  at_least : low ≤ n
  at_most : n ≤ high

in_range : (low high v : ℕ) → (leb low v && leb v high) ≡ true → (low ≤ v) × (v ≤ high)
in_range low high v e = let both = and_parts (leb low v) (leb v high) e in (leb-true low v both.0, leb-true v high both.1)

stop_found : (low high v n : ℕ) (rest after : List ℕ) → stop_at low high v rest ≡ Ok (n, after) → (leb low v && leb v high ≡ true) × (v ≡ n) × (rest ≡ after)
stop_found low high v n rest after e = go (leb low v && leb v high) e
  where
    go : (t : Bool) → cond t (done v rest) (Err (length rest)) ≡ Ok (n, after) → (t ≡ true) × (v ≡ n) × (rest ≡ after)
    go true e = let same = ok_parts v n rest after e in (refl, same.0, same.1)
    go false e = absurd cc

stop_faulty : (low high v left : ℕ) (rest : List ℕ) → stop_at low high v rest ≡ Err left → (leb low v && leb v high ≡ false) × (length rest ≡ left)
stop_faulty low high v left rest e = go (leb low v && leb v high) e
  where
    go : (t : Bool) → cond t (done v rest) (Err (length rest)) ≡ Err left → (t ≡ false) × (length rest ≡ left)
    go true e = absurd cc
    go false e = (refl, err_is {A = ℕ × List ℕ} (length rest) left e)

-- whether the next byte is one more digit of a number of the range
abbrev goes_on : ℕ → ℕ → ℕ → ℕ → Bool
goes_on low high v b = is_ascii_digit b && can_begin low high (10 * v + (b - 48))

-- where it is none, whatever begins so stops here
stops_alike : (low high v b : ℕ) (bytes more : List ℕ) → goes_on low high v b ≡ false → Alike (b ∷ bytes) more → digits_behind low high v more ≡ stop_at low high v more
unfolding digits_behind
stops_alike low high v b bytes [] e h = absurd h
stops_alike low high v b bytes (d ∷ more) e h = rw (← h, e) refl

ends_alike : (low high v : ℕ) (more : List ℕ) → Alike [] more → digits_behind low high v more ≡ stop_at low high v more
unfolding digits_behind
ends_alike low high v [] h = refl
ends_alike low high v (d ∷ more) h = absurd h

module _ (low high : ℕ) (order : low ≤ high) (fits : high < 2 ^ 64) where
  -- the number ends before `rest`
  found_stop : (v n : ℕ) (bytes rest : List ℕ) → ((more : List ℕ) → Alike bytes more → digits_behind low high v more ≡ stop_at low high v more)
      → stop_at low high v bytes ≡ Ok (n, rest) → Found (digits_behind low high v) (Extends low high v) bytes n rest
  found_stop v n bytes rest alike e =
      let s = stop_found low high v n bytes rest e in
      let r = in_range low high v s.0 in
      record {
        front = [];
        parts = s.2;
        is = record { digits = refl; is = sym s.1; at_least = omega (arith, r.0, s.1); at_most = omega (arith, r.1, s.1) };
        again = λ more h. alike more (subst (λ (t : List ℕ). Alike t more) (sym s.2) h) ∙ rw s.0 (ap (λ (m : ℕ). done m more) s.1);
      }

  faulty_stop : (v left : ℕ) (bytes : List ℕ) → can_begin low high v ≡ true → ((more : List ℕ) → Alike bytes more → digits_behind low high v more ≡ stop_at low high v more)
      → stop_at low high v bytes ≡ Err left → Faulty (digits_behind low high v) (Extends low high v) bytes left
  faulty_stop v left bytes can alike e =
      let s = stop_faulty low high v left bytes e in
      let c = completed low high v order can in
      record {
        front = [];
        rest = bytes;
        parts = refl;
        left_is = s.1;
        value = value_behind v c.0;
        ending = c.0;
        begun = record { digits = c.1; is = refl; at_least = c.2; at_most = c.3 };
        again = λ more h. alike more h ∙ rw s.0 refl;
      }

  found_behind : (v : ℕ) (bytes : List ℕ) (n : ℕ) (rest : List ℕ) → digits_behind low high v bytes ≡ Ok (n, rest) → Found (digits_behind low high v) (Extends low high v) bytes n rest
  unfolding digits_behind
  found_behind v [] n rest e = found_stop v n [] rest (ends_alike low high v) e
  found_behind v (b ∷ bytes) n rest e = go (goes_on low high v b) refl e (found_behind (10 * v + (b - 48)) bytes n rest)
    where
      go : (t : Bool) → goes_on low high v b ≡ t → cond t (digits_behind low high (10 * v + (b - 48)) bytes) (stop_at low high v (b ∷ bytes)) ≡ Ok (n, rest)
          → (digits_behind low high (10 * v + (b - 48)) bytes ≡ Ok (n, rest) → Found (digits_behind low high (10 * v + (b - 48))) (Extends low high (10 * v + (b - 48))) bytes n rest)
          → Found (digits_behind low high v) (Extends low high v) (b ∷ bytes) n rest
      go true on e more = let f = more e in record {
        front = b ∷ f.front;
        parts = ap (λ (t : List ℕ). b ∷ t) f.parts;
        is = record { digits = and_from (is_ascii_digit b) (all_ascii_digits f.front) (and_parts (is_ascii_digit b) (can_begin low high (10 * v + (b - 48))) on).0 f.is.digits; is = f.is.is; at_least = f.is.at_least; at_most = f.is.at_most };
        again = λ more h. rw on (f.again more h);
      }
      go false on e more = found_stop v n (b ∷ bytes) rest (λ more h. stops_alike low high v b bytes more on h) e

  faulty_behind : (v : ℕ) (bytes : List ℕ) (left : ℕ) → can_begin low high v ≡ true → digits_behind low high v bytes ≡ Err left → Faulty (digits_behind low high v) (Extends low high v) bytes left
  unfolding digits_behind
  faulty_behind v [] left can e = faulty_stop v left [] can (ends_alike low high v) e
  faulty_behind v (b ∷ bytes) left can e = go (goes_on low high v b) refl e (faulty_behind (10 * v + (b - 48)) bytes left)
    where
      go : (t : Bool) → goes_on low high v b ≡ t → cond t (digits_behind low high (10 * v + (b - 48)) bytes) (stop_at low high v (b ∷ bytes)) ≡ Err left
          → (can_begin low high (10 * v + (b - 48)) ≡ true → digits_behind low high (10 * v + (b - 48)) bytes ≡ Err left → Faulty (digits_behind low high (10 * v + (b - 48))) (Extends low high (10 * v + (b - 48))) bytes left)
          → Faulty (digits_behind low high v) (Extends low high v) (b ∷ bytes) left
      go true on e more = let both = and_parts (is_ascii_digit b) (can_begin low high (10 * v + (b - 48))) on in let f = more both.1 e in record {
        front = b ∷ f.front;
        rest = f.rest;
        parts = ap (λ (t : List ℕ). b ∷ t) f.parts;
        left_is = f.left_is;
        value = f.value;
        ending = f.ending;
        begun = record { digits = and_from (is_ascii_digit b) (all_ascii_digits (f.front ++ f.ending)) both.0 f.begun.digits; is = f.begun.is; at_least = f.begun.at_least; at_most = f.begun.at_most };
        again = λ more h. rw on (f.again more h);
      }
      go false on e more = faulty_stop v left (b ∷ bytes) can (λ more h. stops_alike low high v b bytes more on h) e

  stop_whole : (v n : ℕ) (rest : List ℕ) → n ≡ v → low ≤ n → n ≤ high → stop_at low high v rest ≡ Ok (n, rest)
  stop_whole v n rest is a b = rw (and_from (leb low v) (leb v high) (le-leb low v (omega arith)) (le-leb v high (omega arith))) (ap (λ (m : ℕ). done m rest) (sym is))

  whole_behind : (v n : ℕ) (text rest : List ℕ) → 1 ≤ v → Extends low high v n text → NoDigit rest → digits_behind low high v (text ++ rest) ≡ Ok (n, rest)
  unfolding digits_behind
  whole_behind v n [] [] positive x h = stop_whole v n [] x.is x.at_least x.at_most
  whole_behind v n [] (d ∷ rest) positive x h = rw (and_left (is_ascii_digit d) (can_begin low high (10 * v + (d - 48))) h) (stop_whole v n (d ∷ rest) x.is x.at_least x.at_most)
  whole_behind v n (b ∷ text) rest positive x h =
      let parts = tells_all_ascii_digits.parts b text x.digits in
      let can : can_begin low high (10 * v + (b - 48)) ≡ true = can_from low high (10 * v + (b - 48)) text (omega arith) fits parts.1 (omega (arith, x.is, x.at_least)) (omega (arith, x.is, x.at_most)) in
      rw (and_from (is_ascii_digit b) (can_begin low high (10 * v + (b - 48))) (first_digit b text x.digits) can)
      (whole_behind (10 * v + (b - 48)) n text rest (omega arith) (record { digits = parts.1; is = x.is; at_least = x.at_least; at_most = x.at_most }) h)

-- ---- a number: `0`, or a digit above 0 and the digits behind it

zero_is : decimal 0 ≡ 48 ∷ []
zero_is = decimal_digit 0 (omega arith)

-- a first digit above 0 and digits spell the number that they stand for, and no other text does
text_is_decimal : (b : ℕ) (text : List ℕ) → AreDigits (b ∷ text) → (b ≡ 48 → ⊥) → value_behind (b - 48) text < 2 ^ 64 → b ∷ text ≡ decimal (value_behind (b - 48) text)
text_is_decimal b text digits above small =
    let front : value_behind 0 (b ∷ text) ≡ value_behind (b - 48) text = ap (λ (v : ℕ). value_behind v text) (zero-add (b - 48)) in
    sym (decimal-digits_value numerals (b ∷ text) digits (omega arith) (λ e. absurd (above e)) (omega (arith, front))) ∙ ap decimal front

-- what a number above 0 is spelled by
record Positive (n : ℕ) (text : List ℕ) : Type 0 where
  first : ℕ
  others : List ℕ
  parts : text ≡ first ∷ others
  digits : AreDigits (first ∷ others)
  above : 48 < first
  value : n ≡ value_behind (first - 48) others

positive_is : (n : ℕ) → 0 < n → n < 2 ^ 64 → Positive n (decimal n)
positive_is n positive small = go (decimal n) refl
  where
    go : (text : List ℕ) → decimal n ≡ text → Positive n text
    go [] e = absurd (omega (arith, decimal_nonempty n small, ap length e))
    go (b ∷ text) e =
        let digits : AreDigits (b ∷ text) = subst (λ (t : List ℕ). AreDigits t) e (digits_decimal numerals n small) in
        let value : value_behind 0 (b ∷ text) ≡ n = ap (value_behind 0) (sym e) ∙ digits_value-decimal numerals n small in
        record {
          first = b;
          others = text;
          parts = refl;
          digits = digits;
          above = subst (λ (t : List ℕ). 48 < get_or t 0 0) e (first_decimal n positive small);
          value = sym value ∙ ap (λ (v : ℕ). value_behind v text) (zero-add (b - 48));
        }

module _ (low high : ℕ) (order : low ≤ high) (fits : high < 2 ^ 64) where
  faulty_none : (left : ℕ) (bytes : List ℕ) → length bytes ≡ left → ((more : List ℕ) → Alike bytes more → number low high more ≡ Err (length more)) → Faulty (number low high) (IsNumber low high) bytes left
  faulty_none left bytes is again = record {
    front = [];
    rest = bytes;
    parts = refl;
    left_is = is;
    value = low;
    ending = decimal low;
    begun = record { at_least = omega arith; at_most = order; is = refl };
    again = again;
  }

  number_end : (more : List ℕ) → Alike [] more → number low high more ≡ Err (length more)
  unfolding number
  number_end [] h = refl
  number_end (d ∷ more) h = absurd h

  zero_refused : (b : ℕ) (bytes more : List ℕ) → eqb b 48 ≡ true → eqb low 0 ≡ false → Alike (b ∷ bytes) more → number low high more ≡ Err (length more)
  unfolding number
  zero_refused b bytes [] is none h = absurd h
  zero_refused b bytes (d ∷ more) is none h = rw (← h, is, none) refl

  byte_refused : (b : ℕ) (bytes more : List ℕ) → eqb b 48 ≡ false → is_ascii_digit b && can_begin low high (b - 48) ≡ false → Alike (b ∷ bytes) more → number low high more ≡ Err (length more)
  unfolding number
  byte_refused b bytes [] is none h = absurd h
  byte_refused b bytes (d ∷ more) is none h = rw (← h, is, none) refl

  extended : (b n : ℕ) (text : List ℕ) → eqb b 48 ≡ false → is_ascii_digit b ≡ true → Extends low high (b - 48) n text → IsNumber low high n (b ∷ text)
  extended b n text is digit x =
      let digits : AreDigits (b ∷ text) = and_from (is_ascii_digit b) (all_ascii_digits text) digit x.digits in
      record { at_least = x.at_least; at_most = x.at_most; is = text_is_decimal b text digits (eqb-false b 48 is) (omega (arith, x.is, x.at_most)) ∙ ap decimal (sym x.is) }

  found_number : (bytes : List ℕ) (n : ℕ) (rest : List ℕ) → number low high bytes ≡ Ok (n, rest) → Found (number low high) (IsNumber low high) bytes n rest
  unfolding number
  found_number [] n rest e = absurd cc
  found_number (b ∷ bytes) n rest e = go (eqb b 48) refl e
    where
      zero : (t : Bool) → eqb b 48 ≡ true → eqb low 0 ≡ t → cond t (done {A = ℕ} 0 bytes) (Err (suc (length bytes))) ≡ Ok (n, rest) → Found (number low high) (IsNumber low high) (b ∷ bytes) n rest
      zero true is none e =
          let same = ok_parts 0 n bytes rest e in
          let b_is = eqb-true b 48 is in
          record {
            front = 48 ∷ [];
            parts = rw (b_is, same.1) refl;
            is = record { at_least = omega (arith, eqb-true low 0 none); at_most = omega (arith, same.0); is = sym zero_is ∙ ap decimal same.0 };
            again = λ more h. rw none (ap (λ (m : ℕ). done m more) same.0);
          }
      zero false is none e = absurd cc

      digit : (t : Bool) → eqb b 48 ≡ false → is_ascii_digit b && can_begin low high (b - 48) ≡ t → cond t (digits_behind low high (b - 48) bytes) (Err (suc (length bytes))) ≡ Ok (n, rest) → Found (number low high) (IsNumber low high) (b ∷ bytes) n rest
      digit true is on e = let f = found_behind low high order fits (b - 48) bytes n rest e in
          record {
            front = b ∷ f.front;
            parts = ap (λ (t : List ℕ). b ∷ t) f.parts;
            is = extended b n f.front is (and_parts (is_ascii_digit b) (can_begin low high (b - 48)) on).0 f.is;
            again = λ more h. rw (is, on) (f.again more h);
          }
      digit false is on e = absurd cc

      go : (t : Bool) → eqb b 48 ≡ t → cond t (cond (eqb low 0) (done {A = ℕ} 0 bytes) (Err (suc (length bytes)))) (cond (is_ascii_digit b && can_begin low high (b - 48)) (digits_behind low high (b - 48) bytes) (Err (suc (length bytes)))) ≡ Ok (n, rest) → Found (number low high) (IsNumber low high) (b ∷ bytes) n rest
      go true is e = zero (eqb low 0) is refl e
      go false is e = digit (is_ascii_digit b && can_begin low high (b - 48)) is refl e

  faulty_number : (bytes : List ℕ) (left : ℕ) → number low high bytes ≡ Err left → Faulty (number low high) (IsNumber low high) bytes left
  unfolding number
  faulty_number [] left e = faulty_none left [] (err_is {A = ℕ × List ℕ} 0 left e) number_end
  faulty_number (b ∷ bytes) left e = go (eqb b 48) refl e
    where
      zero : (t : Bool) → eqb b 48 ≡ true → eqb low 0 ≡ t → cond t (done {A = ℕ} 0 bytes) (Err (suc (length bytes))) ≡ Err left → Faulty (number low high) (IsNumber low high) (b ∷ bytes) left
      zero true is none e = absurd cc
      zero false is none e = faulty_none left (b ∷ bytes) (err_is {A = ℕ × List ℕ} (suc (length bytes)) left e) (λ more h. zero_refused b bytes more is none h)

      digit : (t : Bool) → eqb b 48 ≡ false → is_ascii_digit b && can_begin low high (b - 48) ≡ t → cond t (digits_behind low high (b - 48) bytes) (Err (suc (length bytes))) ≡ Err left → Faulty (number low high) (IsNumber low high) (b ∷ bytes) left
      digit true is on e =
          let both = and_parts (is_ascii_digit b) (can_begin low high (b - 48)) on in
          let f = faulty_behind low high order fits (b - 48) bytes left both.1 e in
          record {
            front = b ∷ f.front;
            rest = f.rest;
            parts = ap (λ (t : List ℕ). b ∷ t) f.parts;
            left_is = f.left_is;
            value = f.value;
            ending = f.ending;
            begun = extended b f.value (f.front ++ f.ending) is both.0 f.begun;
            again = λ more h. rw (is, on) (f.again more h);
          }
      digit false is on e = faulty_none left (b ∷ bytes) (err_is {A = ℕ × List ℕ} (suc (length bytes)) left e) (λ more h. byte_refused b bytes more is on h)

      go : (t : Bool) → eqb b 48 ≡ t → cond t (cond (eqb low 0) (done {A = ℕ} 0 bytes) (Err (suc (length bytes)))) (cond (is_ascii_digit b && can_begin low high (b - 48)) (digits_behind low high (b - 48) bytes) (Err (suc (length bytes)))) ≡ Err left → Faulty (number low high) (IsNumber low high) (b ∷ bytes) left
      go true is e = zero (eqb low 0) is refl e
      go false is e = digit (is_ascii_digit b && can_begin low high (b - 48)) is refl e

  whole_zero : (rest : List ℕ) → low ≤ 0 → number low high (48 ∷ rest) ≡ Ok (0, rest)
  unfolding number
  whole_zero rest h = rw (eq-eqb low 0 (omega arith)) refl

  whole_positive : (n : ℕ) (text rest : List ℕ) → low ≤ n → n ≤ high → Positive n text → NoDigit rest → number low high (text ++ rest) ≡ Ok (n, rest)
  unfolding number
  whole_positive n text rest a b p h =
      let parts = tells_all_ascii_digits.parts p.first p.others p.digits in
      let can : can_begin low high (p.first - 48) ≡ true = can_from low high (p.first - 48) p.others (omega (arith, p.above)) fits parts.1 (omega (arith, p.value)) (omega (arith, p.value)) in
      rw (p.parts, ne_eqb p.first 48 (omega (arith, p.above)), and_from (is_ascii_digit p.first) (can_begin low high (p.first - 48)) (first_digit p.first p.others p.digits) can)
      (whole_behind low high order fits (p.first - 48) n p.others rest (omega (arith, p.above)) (record { digits = parts.1; is = p.value; at_least = a; at_most = b }) h)

  whole_number : (n : ℕ) (text rest : List ℕ) → IsNumber low high n text → NoDigit rest → number low high (text ++ rest) ≡ Ok (n, rest)
  whole_number zero text rest is h = rw (is.is, zero_is) (whole_zero rest is.at_least)
  whole_number (suc n) text rest is h = whole_positive (suc n) text rest is.at_least is.at_most (rw is.is (positive_is (suc n) (omega arith) (omega (arith, is.at_most)))) h

  pub exact-number : Exact (number low high) (IsNumber low high) NoDigit
  exact-number = record { found = found_number; faulty = faulty_number; whole = whole_number }

-- a number begins with a digit
pub record DigitFirst (text : List ℕ) : Type 0 where
  pub first : ℕ
  pub others : List ℕ
  pub parts : text ≡ first ∷ others
  pub digit : is_ascii_digit first ≡ true

pub digit_first : (low high n : ℕ) (text : List ℕ) → high < 2 ^ 64 → IsNumber low high n text → DigitFirst text
digit_first low high zero text fits is = record { first = 48; others = []; parts = is.is ∙ zero_is; digit = refl }
digit_first low high (suc n) text fits is =
    let p = positive_is (suc n) (omega arith) (omega (arith, is.at_most)) in
    record { first = p.first; others = p.others; parts = is.is ∙ p.parts; digit = first_digit p.first p.others p.digits }
