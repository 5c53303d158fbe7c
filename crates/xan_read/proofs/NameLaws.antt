-- The reader of names is exact.
use Rattle.std.proofs.Common.{◌≡◌, ℕ, zero, suc, ◌+◌, ◌≤◌, ◌<◌, Bool, true, false, cond, ◌||◌, eqb, List, [], ◌∷◌, ◌++◌, length, take, drop, replicate, Option, Some, None, Ok, Err, refl, sym, ap, subst, ◌∙◌, arith}
use Rattle.std.specs.Prelude.{bytes_eq}
use Rattle.std.specs.Char.{is_ascii_lowercase, is_ascii_alphanumeric}
use Rattle.std.specs.Int.{is_in_range}
use Rattle.std.proofs.lemmas.Bool.{and_parts, and_from, or_from, or_left, or_right, false_from_ne_true}
use Rattle.std.proofs.lemmas.List.{length-append, length-replicate, take_at, drop_at}
use Rattle.std.proofs.lemmas.Slice.Eq.{bytes_eq-Decides}
use Rattle.xan_read.specs.Reader.{Alike, Found, Faulty, Exact}
use Rattle.xan_read.specs.Names.{in_name, all_in_name, is_name, is_among, IsName, NoName, begins_lower, run, after_byte, name}
use Rattle.xan_read.proofs.AlikeLaws.{done, ok_parts, err_is, alike_self}

-- ---- the run of bytes of a name

record IsRun (bytes : List ℕ) (r : List ℕ × List ℕ) : Type 0 where
  parts : bytes ≡ r.0 ++ r.1
  all : all_in_name r.0 ≡ true
  stops : NoName r.1

run_is : (bytes : List ℕ) → IsRun bytes (run bytes)
unfolding run
run_is [] = record { parts = refl; all = refl; stops = tt }
run_is (b ∷ bytes) = go (in_name b) refl (run_is bytes)
  where
    go : (t : Bool) → in_name b ≡ t → IsRun bytes (run bytes) → IsRun (b ∷ bytes) (cond t (b ∷ (run bytes).0, (run bytes).1) ([], b ∷ bytes))
    go true is more = record { parts = ap (λ (t : List ℕ). b ∷ t) more.parts; all = and_from (in_name b) (all_in_name (run bytes).0) is more.all; stops = more.stops }
    go false is more = record { parts = refl; all = refl; stops = is }

run_whole : (text rest : List ℕ) → all_in_name text ≡ true → NoName rest → run (text ++ rest) ≡ (text, rest)
unfolding run
run_whole [] [] all stops = refl
run_whole [] (d ∷ rest) all stops = rw stops refl
run_whole (b ∷ text) rest all stops =
    let both = and_parts (in_name b) (all_in_name text) all in
    rw (both.0, run_whole text rest both.1 stops) refl

no_name_alike : (rest more : List ℕ) → NoName rest → Alike rest more → NoName more
no_name_alike [] [] stops h = tt
no_name_alike [] (d ∷ more) stops h = absurd h
no_name_alike (b ∷ rest) [] stops h = absurd h
no_name_alike (b ∷ rest) (d ∷ more) stops h = subst (λ (c : ℕ). in_name c ≡ false) h stops

-- ---- a name that is long enough is no word of the list

total : List (List ℕ) → ℕ
total [] = 0
total (word ∷ words) = length word + total words

long_is_other : (words : List (List ℕ)) (text : List ℕ) → total words < length text → is_among words text ≡ false
unfolding total
long_is_other [] text long = refl
long_is_other (word ∷ words) text long =
    or_from (bytes_eq word text) (is_among words text)
    (false_from_ne_true (bytes_eq word text) (λ e. omega (arith, ap length ((bytes_eq-Decides word text).0 e))))
    (long_is_other words text (omega arith))

letters : ℕ → List ℕ
letters n = replicate n 97

length-letters : (n : ℕ) → length (letters n) ≡ n
unfolding letters
length-letters n = length-replicate {A = ℕ} n 97

letters_in_name : (n : ℕ) → all_in_name (letters n) ≡ true
unfolding letters
letters_in_name zero = refl
letters_in_name (suc n) = letters_in_name n

all_in_both : (text more : List ℕ) → all_in_name text ≡ true → all_in_name more ≡ true → all_in_name (text ++ more) ≡ true
all_in_both [] more first second = second
all_in_both (b ∷ text) more first second =
    let both = and_parts (in_name b) (all_in_name text) first in
    and_from (in_name b) (all_in_name (text ++ more)) both.0 (all_in_both text more both.1 second)

lower_in_name : (b : ℕ) → is_ascii_lowercase b ≡ true → in_name b ≡ true
lower_in_name b e = or_left (is_ascii_alphanumeric b) (eqb b 95) (or_right (is_in_range 48 57 b || is_in_range 65 90 b) (is_ascii_lowercase b) e)

name_all : (text : List ℕ) → is_name text ≡ true → all_in_name text ≡ true
name_all [] e = refl
name_all (b ∷ text) e =
    let both = and_parts (is_ascii_lowercase b) (all_in_name text) e in
    and_from (in_name b) (all_in_name text) (lower_in_name b both.0) both.1

name_begins : (text more : List ℕ) → is_name text ≡ true → begins_lower (text ++ more) ≡ true
name_begins [] more e = absurd cc
name_begins (b ∷ text) more e = (and_parts (is_ascii_lowercase b) (all_in_name text) e).0

run_is_name : (bytes : List ℕ) → begins_lower bytes ≡ true → is_name (run bytes).0 ≡ true
unfolding run
run_is_name [] e = absurd cc
run_is_name (b ∷ bytes) e = rw (lower_in_name b e) (and_from (is_ascii_lowercase b) (all_in_name (run bytes).0) e (run_is bytes).all)

begins_alike : (bytes more : List ℕ) → Alike bytes more → begins_lower bytes ≡ begins_lower more
begins_alike [] [] h = refl
begins_alike [] (d ∷ more) h = absurd h
begins_alike (b ∷ bytes) [] h = absurd h
begins_alike (b ∷ bytes) (d ∷ more) h = ap is_ascii_lowercase h

-- a name, longer than the words, with these bytes at its front
longer_name : (words : List (List ℕ)) (text : List ℕ) → is_name text ≡ true → IsName words (text ++ letters (suc (total words))) (text ++ letters (suc (total words)))
longer_name words text name = record {
  is = refl;
  name = goes_on text name;
  other = long_is_other words (text ++ letters (suc (total words))) (omega (arith, length-append text (letters (suc (total words))), length-letters (suc (total words))));
}
  where
    goes_on : (text : List ℕ) → is_name text ≡ true → is_name (text ++ letters (suc (total words))) ≡ true
    goes_on [] e = absurd cc
    goes_on (b ∷ text) e =
        let both = and_parts (is_ascii_lowercase b) (all_in_name text) e in
        and_from (is_ascii_lowercase b) (all_in_name (text ++ letters (suc (total words)))) both.0 (all_in_both text (letters (suc (total words))) both.1 (letters_in_name (suc (total words))))

module _ (words : List (List ℕ)) where
  -- whatever begins with a name and does not go on with it gives the same
  name_again : (text rest more : List ℕ) → is_name text ≡ true → NoName rest → Alike rest more
      → name words (text ++ more) ≡ cond (is_among words text) (Err (length more)) (Ok (text, more))
  unfolding name
  name_again text rest more is stops h = rw (name_begins text more is, run_whole text more (name_all text is) (no_name_alike rest more stops h)) refl

  found_name : (bytes x rest : List ℕ) → name words bytes ≡ Ok (x, rest) → Found (name words) (IsName words) bytes x rest
  unfolding name
  found_name bytes x rest e = go (begins_lower bytes) refl e
    where
      inner : (t : Bool) → begins_lower bytes ≡ true → is_among words (run bytes).0 ≡ t → cond t (Err (length (run bytes).1)) (done (run bytes).0 (run bytes).1) ≡ Ok (x, rest)
          → Found (name words) (IsName words) bytes x rest
      inner true first among e = absurd cc
      inner false first among e =
          let r = run_is bytes in
          let name_is = run_is_name bytes first in
          let same = ok_parts (run bytes).0 x (run bytes).1 rest e in
          record {
            front = (run bytes).0;
            is = record { is = sym same.0; name = name_is; other = among };
            parts = r.parts ∙ ap (λ (t : List ℕ). (run bytes).0 ++ t) same.1;
            again = λ more h. name_again (run bytes).0 (run bytes).1 more name_is r.stops (subst (λ (t : List ℕ). Alike t more) (sym same.1) h) ∙ rw among (ap (λ (t : List ℕ). done t more) same.0);
          }

      go : (t : Bool) → begins_lower bytes ≡ t → cond t (cond (is_among words (run bytes).0) (Err (length (run bytes).1)) (done (run bytes).0 (run bytes).1)) (Err (length bytes)) ≡ Ok (x, rest)
          → Found (name words) (IsName words) bytes x rest
      go true first e = inner (is_among words (run bytes).0) first refl e
      go false first e = absurd cc

  first_again : (bytes more : List ℕ) → begins_lower bytes ≡ false → Alike bytes more → name words more ≡ Err (length more)
  unfolding name
  first_again bytes more first h = rw (sym (begins_alike bytes more h) ∙ first) refl

  faulty_name : (bytes : List ℕ) (left : ℕ) → name words bytes ≡ Err left → Faulty (name words) (IsName words) bytes left
  unfolding name
  faulty_name bytes left e = go (begins_lower bytes) refl e
    where
      inner : (t : Bool) → begins_lower bytes ≡ true → is_among words (run bytes).0 ≡ t → cond t (Err (length (run bytes).1)) (done (run bytes).0 (run bytes).1) ≡ Err left
          → Faulty (name words) (IsName words) bytes left
      inner true first among e =
          let r = run_is bytes in
          let name_is = run_is_name bytes first in
          record {
            front = (run bytes).0;
            rest = (run bytes).1;
            parts = r.parts;
            left_is = err_is {A = List ℕ × List ℕ} (length (run bytes).1) left e;
            value = (run bytes).0 ++ letters (suc (total words));
            ending = letters (suc (total words));
            begun = longer_name words (run bytes).0 name_is;
            again = λ more h. name_again (run bytes).0 (run bytes).1 more name_is r.stops h ∙ rw among refl;
          }
      inner false first among e = absurd cc

      -- no name begins here
      go : (t : Bool) → begins_lower bytes ≡ t → cond t (cond (is_among words (run bytes).0) (Err (length (run bytes).1)) (done (run bytes).0 (run bytes).1)) (Err (length bytes)) ≡ Err left
          → Faulty (name words) (IsName words) bytes left
      go true first e = inner (is_among words (run bytes).0) first refl e
      go false first e = record {
        front = [];
        rest = bytes;
        parts = refl;
        left_is = err_is {A = List ℕ × List ℕ} (length bytes) left e;
        value = (97 ∷ []) ++ letters (suc (total words));
        ending = (97 ∷ []) ++ letters (suc (total words));
        begun = longer_name words (97 ∷ []) refl;
        again = λ more h. first_again bytes more first h;
      }

  whole_name : (x front rest : List ℕ) → IsName words x front → NoName rest → name words (front ++ rest) ≡ Ok (x, rest)
  whole_name x front rest is stops = name_again front rest rest is.name stops (alike_self rest) ∙ rw is.other (ap (λ (t : List ℕ). done t rest) (sym is.is))

  pub exact-name : Exact (name words) (IsName words) NoName
  exact-name = record { found = found_name; faulty = faulty_name; whole = whole_name }

-- ---- the run, step by step

pub record OneMore (bytes rest : List ℕ) : Type 0 where
  pub longer : length (run bytes).0 ≡ suc (length (run rest).0)
  pub shorter : length bytes ≡ suc (length rest)

pub run_more : (bytes rest : List ℕ) → after_byte bytes ≡ Some rest → OneMore bytes rest
unfolding run after_byte
run_more [] rest e = absurd cc
run_more (b ∷ bytes) rest e = go (in_name b) refl e
  where
    behind : List ℕ → Option (List ℕ)
    behind r = Some r

    same : (r s : List ℕ) → behind r ≡ behind s → r ≡ s
    same r s e = cc

    go : (t : Bool) → in_name b ≡ t → cond t (Some bytes) None ≡ Some rest → OneMore (b ∷ bytes) rest
    go true is e = subst (λ (r : List ℕ). OneMore (b ∷ bytes) r) (same bytes rest e) (record { longer = rw is refl; shorter = refl })
    go false is e = absurd cc

pub run_ends : (bytes : List ℕ) → after_byte bytes ≡ None → length (run bytes).0 ≡ 0
unfolding run after_byte
run_ends [] e = refl
run_ends (b ∷ bytes) e = go (in_name b) e
  where
    go : (t : Bool) → cond t (Some bytes) None ≡ None → length (cond {A = List ℕ × List ℕ} t (b ∷ (run bytes).0, (run bytes).1) ([], b ∷ bytes)).0 ≡ 0
    go true e = absurd cc
    go false e = refl

-- the bytes, cut behind the run
pub run_split : (bytes : List ℕ) → (take (length (run bytes).0) bytes ≡ (run bytes).0) × (drop (length (run bytes).0) bytes ≡ (run bytes).1) × (length (run bytes).0 ≤ length bytes)
run_split bytes =
    let r = run_is bytes in (
      ap (take (length (run bytes).0)) r.parts ∙ take_at (run bytes).0 (run bytes).1 (length (run bytes).0) refl,
      ap (drop (length (run bytes).0)) r.parts ∙ drop_at (run bytes).0 (run bytes).1 (length (run bytes).0) refl,
      omega (arith, ap length r.parts, length-append (run bytes).0 (run bytes).1),
    )
