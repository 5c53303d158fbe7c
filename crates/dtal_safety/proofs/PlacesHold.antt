-- Words that are read from places have the types of the places, and places that are written hold the state type behind.
use Rattle.std.proofs.Common.{◌≡◌, ◌≢◌, ◌∙◌, ℕ, ◌<◌, ◌==◌, cond, ℤ, pos, List, [], ◌∷◌, length, length-set, map, Bool as Test, true, false, Option, Some, None, Ok, refl, sym, ap, subst, arith}
use Rattle.std.specs.Prelude.{slice_get, slice_set}
use Rattle.std.specs.List.{All, AllZip}
use Rattle.std.proofs.lemmas.Bool.Decides.{Decides-eqb}
use Rattle.std.proofs.lemmas.List.Elements.{All-head, All-tail}
use Rattle.std.proofs.lemmas.Option.{same_Some, slice_get-get_or}
use Rattle.std.proofs.lemmas.List.{get_or-set_same, get_or-set_other}
use Rattle.xan_seq.proofs.NumberTests.{less}
use Rattle.xan_seq.proofs.RisingKeys.{value-with}
use Rattle.state_types.specs.PlaceTypes.{type_at, with_type}
use Rattle.state_types.specs.Words.{Headers, HasType}
use Rattle.state_types.specs.declared.types.Ty.{Ty}
use Rattle.state_types.proofs.Thens.{then_ok, ok_same}
use Rattle.operation_rules.specs.Applied.{all_there}
use Rattle.operation_rules.specs.Faults.{or_fault}
use Rattle.operation_rules.specs.declared.error.Fault.TheVariants.{NoPlace}
use Rattle.operation_rules.proofs.RuleFacts.{or_fault_ok}
use Rattle.dtal_code.specs.Passing.{with_types}
use Rattle.dtal_code.specs.Running.{with_first, words_in, with_words}
use Rattle.dtal_safety.specs.Fitting.{word_at}

-- each place that has a type has a word of it
abbrev pub AreTyped : Headers → List ℤ → List ℤ → List (ℕ × Ty) → Type 0
AreTyped headers assignment places entries = (place : ℕ) (t : Ty) → type_at place entries ≡ Some t → HasType headers assignment (word_at places place) t

-- ---- reads

pub record AreRead (headers : Headers) (assignment places : List ℤ) (reads : List ℕ) (types : List Ty) : Type 0 where
  pub words : List ℤ
  pub are : words_in places reads ≡ Some words
  pub typed : AllZip (HasType headers assignment) words types

module _ (headers : Headers) (assignment places : List ℤ) (entries : List (ℕ × Ty)) (typed : AreTyped headers assignment places entries) where
  pub words_read : (reads : List ℕ) (types : List Ty) → All (λ place. place < length places) reads
      → all_there (map (λ place. type_at place entries) reads) ≡ Ok types → AreRead headers assignment places reads types
  unfolding all_there words_in
  words_read [] types within e = record { words = []; are = refl; typed = subst (λ ts. AllZip (HasType headers assignment) [] ts) (ok_same [] types e) tt }
  words_read (place ∷ reads) types within e =
      let s = then_ok (or_fault NoPlace (type_at place entries)) _ types e in
      let t = then_ok (all_there (map (λ p. type_at p entries) reads)) _ types s.second in
      let rest = words_read reads t.value (All-tail (λ p. p < length places) place reads within) t.first in
      let here : slice_get places place ≡ Some (word_at places place)
      = slice_get-get_or places place (pos 0) (All-head (λ p. p < length places) place reads within) in
      let has : HasType headers assignment (word_at places place) s.value = typed place s.value (or_fault_ok NoPlace (type_at place entries) s.value s.first) in
      record {
        words = word_at places place ∷ rest.words;
        are = ap (λ o. with_first o (words_in places reads)) here ∙ ap (λ o. with_first (Some (word_at places place)) o) rest.are;
        typed = subst (λ ts. AllZip (HasType headers assignment) (word_at places place ∷ rest.words) ts) (ok_same (s.value ∷ t.value) types t.second) (has, rest.typed);
      }

-- ---- writes

pub record AreWritten (headers : Headers) (assignment places : List ℤ) (entries : List (ℕ × Ty)) (writes : List ℕ) (words : List ℤ) : Type 0 where
  pub new : List ℤ
  pub are : with_words places writes words ≡ Some new
  pub as_many : length new ≡ length places
  pub typed : AreTyped headers assignment new entries

module _ (headers : Headers) (assignment : List ℤ) where
  written_by : (places : List ℤ) (entries : List (ℕ × Ty)) (place other : ℕ) (word : ℤ) (t u : Ty) (test : Test) → place < length places → (place == other) ≡ test
      → AreTyped headers assignment places entries → HasType headers assignment word t → cond test (Some t) (type_at other entries) ≡ Some u
      → HasType headers assignment (word_at (slice_set places place word) other) u
  written_by places entries place other word t u true within is typed has e =
      let same : place ≡ other = (Decides-eqb place other).0 is in
      let here : word_at (slice_set places place word) other ≡ word
      = ap (λ n. word_at (slice_set places place word) n) (sym same) ∙ get_or-set_same places place word (pos 0) within in
      subst (λ w. HasType headers assignment w u) (sym here) (subst (λ v. HasType headers assignment word v) (same_Some t u e) has)
  written_by places entries place other word t u false within is typed has e =
      let apart : other ≢ place = λ same. never (place == other) (ap (λ n. place == n) same ∙ equal place) is in
      let there : word_at (slice_set places place word) other ≡ word_at places other = get_or-set_other places place other word (pos 0) apart in
      subst (λ w. HasType headers assignment w u) (sym there) (typed other u e)
    where
      equal : (n : ℕ) → (n == n) ≡ true
      equal n = (Decides-eqb n n).1 refl

      never : (b : Test) → b ≡ true → b ≡ false → ⊥
      never b t f = cc

  place_written : (places : List ℤ) (entries : List (ℕ × Ty)) (place : ℕ) (word : ℤ) (t : Ty) → place < length places → AreTyped headers assignment places entries
      → HasType headers assignment word t → AreTyped headers assignment (slice_set places place word) (with_type place t entries)
  place_written places entries place word t within typed has other u e =
      written_by places entries place other word t u (place == other) within refl typed has (sym (value-with other place t entries) ∙ e)

  pub words_written : (writes : List ℕ) (words : List ℤ) (types : List Ty) (places : List ℤ) (entries : List (ℕ × Ty)) → All (λ place. place < length places) writes
      → length words ≡ length writes → AllZip (HasType headers assignment) words types → AreTyped headers assignment places entries
      → AreWritten headers assignment places (with_types writes types entries) writes words
  unfolding with_types with_words
  words_written [] [] [] places entries within many has typed = record { new = places; are = refl; as_many = refl; typed = typed }
  words_written [] [] (t ∷ types) places entries within many has typed = absurd has
  words_written [] (w ∷ words) types places entries within many has typed = absurd (let bad : ⊥ = omega (arith, many) in bad)
  words_written (place ∷ writes) [] types places entries within many has typed = absurd (let bad : ⊥ = omega (arith, many) in bad)
  words_written (place ∷ writes) (w ∷ words) [] places entries within many has typed = absurd has
  words_written (place ∷ writes) (w ∷ words) (t ∷ types) places entries within many has typed =
      let here : place < length places = All-head (λ p. p < length places) place writes within in
      let next = slice_set places place w in
      let long : length next ≡ length places = length-set places place w in
      let later : All (λ p. p < length next) writes = subst (λ n. All (λ (p : ℕ). p < n) writes) (sym long) (All-tail (λ p. p < length places) place writes within) in
      let rest = words_written writes words types next (with_type place t entries) later (let e : length words ≡ length writes = omega (arith, many) in e) has.1
      (place_written places entries place w t here typed has.0) in
      record {
        new = rest.new;
        are = ap (λ b. cond b (with_words next writes words) (let o : Option (List ℤ) = None in o)) (less place (length places) here) ∙ rest.are;
        as_many = rest.as_many ∙ long;
        typed = rest.typed;
      }
