-- Words of places in their homes: what is read is the same, and what is written leaves every other kept place alone.
use Rattle.std.proofs.Common.{◌≡◌, ◌≢◌, ◌⊎◌, inl, inr, ℕ, zero, suc, ◌<◌, ◌≤◌, ℤ, Bool, true, false, List, [], ◌∷◌, length, take, map, Option, Some, None, nat_lt, slice_get, slice_set, if◌then◌else◌, refl, sym, ap, subst, ◌∙◌, arith}
use Rattle.std.specs.List.{Contains}
use Rattle.std.proofs.lemmas.Bool.Decides.{nat_tests}
use Rattle.std.proofs.lemmas.Option.{none-some, same_Some}
use Rattle.three_address.specs.Machine as low
use Rattle.dtal_code.specs.Running.{words_in, with_words, with_first}
use Rattle.dtal_code.proofs.PlaceWords.{length-put, get-put_same, get-put_other}
use Rattle.dtal_emit.specs.Homes.{home_of, homes_of}
use Rattle.emission_laws.specs.ApartHomes.{IsHome}

-- ---- lists of places

pub same_or_other : (i j : ℕ) → (i ≡ j) ⊎ (i ≢ j)
same_or_other zero zero = inl refl
same_or_other zero (suc j) = inr (λ e. omega (arith, e))
same_or_other (suc i) zero = inr (λ e. omega (arith, e))
same_or_other (suc i) (suc j) = later (same_or_other i j)
  where
    later : (i ≡ j) ⊎ (i ≢ j) → (suc i ≡ suc j) ⊎ (suc i ≢ suc j)
    later (inl same) = inl (ap suc same)
    later (inr other) = inr (λ e. other (omega (arith, e)))

take_all : {A : Type 0} (n : ℕ) (xs : List A) → length xs ≤ n → take n xs ≡ xs
take_all zero [] h = refl
take_all zero (x ∷ xs) h = absurd (omega (arith, h))
take_all (suc n) [] h = refl
take_all (suc n) (x ∷ xs) h = ap (λ ys. x ∷ ys) (take_all n xs (omega (arith, h)))

pub all_homes : (homes places : List ℕ) → length places ≤ 8 → homes_of homes places ≡ map (home_of homes) places
all_homes homes places h = ap (map (home_of homes)) (take_all 8 places h)

pub contains_first : (x : ℕ) (xs : List ℕ) → Contains (x ∷ xs) x
contains_first x xs = (0, omega arith, refl)

pub contains_more : (x y : ℕ) (xs : List ℕ) → Contains xs y → Contains (x ∷ xs) y
contains_more x y xs c = (let lt = c.1 in (suc c.0, omega (arith, lt), c.2))

pub contains_not : (x y : ℕ) (xs : List ℕ) → x ≢ y → ¬ (Contains xs y) → ¬ (Contains (x ∷ xs) y)
contains_not x y xs other out (zero, lt, e) = other e
contains_not x y xs other out (suc k, lt, e) = out (k, omega (arith, lt), e)

pub contains_none : (y : ℕ) → ¬ (Contains [] y)
contains_none y (k, lt, e) = absurd (omega (arith, lt))

-- ---- what is held

-- each place that is kept has its word in its home
pub record AreHeld (homes : List ℕ) (kept : ℕ → Type 0) (words places : List ℤ) : Type 0 where
  pub as_many : length places ≡ 256
  pub held : (place : ℕ) (word : ℤ) → kept place → slice_get words place ≡ Some word → slice_get places (home_of homes place) ≡ Some word

module _ (homes : List ℕ) where
  some_both : (w : Option ℤ) (ws : Option (List ℤ)) (words : List ℤ) → low.with_word w ws ≡ Some words
      → (x : ℤ) × (xs : List ℤ) × (w ≡ Some x) × (ws ≡ Some xs) × (words ≡ x ∷ xs)
  some_both (Some x) (Some xs) words e = (x, xs, refl, refl, cc)
  some_both None ws words e = absurd cc
  some_both (Some x) None words e = absurd cc

  -- what is read is the same
  pub read_alike : (kept : ℕ → Type 0) (words places : List ℤ) (reads : List ℕ) (found : List ℤ) → AreHeld homes kept words places
      → ((place : ℕ) → Contains reads place → kept place) → low.words_in words reads ≡ Some found → words_in places (map (home_of homes) reads) ≡ Some found
  unfolding low.words_in words_in
  read_alike kept words places [] found held are e = e
  read_alike kept words places (place ∷ reads) found held are e =
      let p = some_both (slice_get words place) (low.words_in words reads) found e in
      let rest = read_alike kept words places reads p.1 held (λ other c. are other (contains_more place other reads c)) p.3 in
      ap (λ w. with_first w (words_in places (map (home_of homes) reads))) (held.held place p.0 (are place (contains_first place reads)) p.2)
      ∙ ap (with_first (Some p.0)) rest ∙ ap Some (sym p.4)

  -- ---- what is written

  -- before some places are written: all others that are kept behind have their words
  pub record AreAside (kept : ℕ → Type 0) (writes : List ℕ) (words places : List ℤ) : Type 0 where
    pub as_many : length places ≡ 256
    pub held : (place : ℕ) (word : ℤ) → kept place → ¬ (Contains writes place) → slice_get words place ≡ Some word → slice_get places (home_of homes place) ≡ Some word

  -- one place is written
  pub one_aside : (kept : ℕ → Type 0) (place : ℕ) (writes : List ℕ) (word : ℤ) (words places : List ℤ) → home_of homes place < 256 → place < length words
      → ((other : ℕ) → kept other → place ≢ other → home_of homes place ≢ home_of homes other) → AreAside kept (place ∷ writes) words places
      → AreAside kept writes (slice_set words place word) (slice_set places (home_of homes place) word)
  one_aside kept place writes word words places within there apart aside = record {
    as_many = length-put places (home_of homes place) word ∙ aside.as_many;
    held = λ other w keeps out e. by_place other w keeps out e (same_or_other place other);
  }
    where
      by_place : (other : ℕ) (w : ℤ) → kept other → ¬ (Contains writes other) → slice_get (slice_set words place word) other ≡ Some w → (place ≡ other) ⊎ (place ≢ other)
          → slice_get (slice_set places (home_of homes place) word) (home_of homes other) ≡ Some w
      by_place other w keeps out e (inl same) =
          let many = aside.as_many in
          let in_low = get-put_same words place word there in
          subst (λ p. slice_get (slice_set places (home_of homes place) word) (home_of homes p) ≡ Some w) same
          (get-put_same places (home_of homes place) word (omega (arith, many, within)) ∙ sym in_low ∙ ap (slice_get (slice_set words place word)) same ∙ e)
      by_place other w keeps out e (inr differ) =
          get-put_other places (home_of homes place) (home_of homes other) word (λ h. apart other keeps differ (sym h))
          ∙ aside.held other w keeps (contains_not place other writes differ out) (sym (get-put_other words place other word (λ h. differ (sym h))) ∙ e)

  pub aside_all : (kept : ℕ → Type 0) (words places : List ℤ) → AreAside kept [] words places → AreHeld homes kept words places
  aside_all kept words places aside = record { as_many = aside.as_many; held = λ place word keeps e. aside.held place word keeps (contains_none place) e }

  pub record AreWritten (kept : ℕ → Type 0) (writes : List ℕ) (words : List ℤ) (before new : List ℤ) : Type 0 where
    pub places : List ℤ
    pub is : with_words before (map (home_of homes) writes) words ≡ Some places
    pub are : AreHeld homes kept new places

  pub low_one : (b : Bool) (place : ℕ) (writes : List ℕ) (word : ℤ) (more words new : List ℤ) → nat_lt place (length words) ≡ b
      → (if b then low.with_words (slice_set words place word) writes more else None) ≡ Some new
      → (place < length words) × (low.with_words (slice_set words place word) writes more ≡ Some new)
  low_one true place writes word more words new t e = (grind (arith, nat_tests), e)
  low_one false place writes word more words new t e = absurd (none-some new e)

  pub write_all : ((place : ℕ) → IsHome (home_of homes place)) → (kept : ℕ → Type 0) (writes : List ℕ) (more words places new : List ℤ)
      → ((written other : ℕ) → Contains writes written → kept other → written ≢ other → home_of homes written ≢ home_of homes other)
      → AreAside kept writes words places → low.with_words words writes more ≡ Some new → AreWritten kept writes more places new
  unfolding low.with_words with_words
  write_all homes_are kept [] [] words places new apart aside e =
      record { places = places; is = refl; are = subst (λ l. AreHeld homes kept l places) (same_Some words new e) (aside_all kept words places aside) }
  write_all homes_are kept [] (w ∷ more) words places new apart aside e = absurd (none-some new e)
  write_all homes_are kept (place ∷ writes) [] words places new apart aside e = absurd (none-some new e)
  write_all homes_are kept (place ∷ writes) (word ∷ more) words places new apart aside e =
      let p = low_one (nat_lt place (length words)) place writes word more words new refl e in
      let within = (homes_are place).within in
      let many = aside.as_many in
      let aside' = one_aside kept place writes word words places within p.0 (λ other keeps differ. apart place other (contains_first place writes) keeps differ) aside in
      let rest = write_all homes_are kept writes more (slice_set words place word) (slice_set places (home_of homes place) word) new
      (λ written other c keeps differ. apart written other (contains_more place written writes c) keeps differ) aside' p.1 in
      let fits : nat_lt (home_of homes place) (length places) ≡ true = grind (arith, nat_tests, within, many) in
      record {
        places = rest.places;
        is = ap (λ b. if b then with_words (slice_set places (home_of homes place) word) (map (home_of homes) writes) more else None) fits ∙ rest.is;
        are = rest.are;
      }
