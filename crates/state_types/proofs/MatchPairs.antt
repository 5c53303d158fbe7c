-- Which pairs a match looks at, and what it gives.
use Rattle.std.proofs.Common.{◌≡◌, ℕ, zero, suc, ◌-◌, ℤ, List, [], ◌∷◌, ◌++◌, length, append_assoc, Bool as Truth, true, false, cond, Ok, Err, refl, sym, ◌∙◌, ap, subst, arith}
use Rattle.std.specs.List.{All, AllZip}
use Rattle.std.proofs.lemmas.List.{append-nil}
use Rattle.std.proofs.lemmas.List.Elements.{All-nil, All-cons, All-head, All-tail}
use Rattle.index_sorts.specs.Entails.{Entails, AllHold}
use Rattle.xan_lin.specs.Linear.{Linear, NamesBelow}
use Rattle.xan_lin.specs.Subst.{values_from, given_values}
use Rattle.state_types.specs.Answers.{Check}
use Rattle.state_types.specs.Matching.{pair_of, pairs_of, values_for, demanded, found_with, matched}
use Rattle.state_types.specs.Sound.{Carries, IsMatched}
use Rattle.state_types.specs.Types.{same_kind, TypeBelow}
use Rattle.state_types.specs.Words.{Headers, HasType}
use Rattle.state_types.specs.declared.error.StateError.TheVariants.{Kind}
use Rattle.state_types.specs.declared.matching.Found.{Found}
use Rattle.state_types.specs.declared.pairs.Pair.{Pair}
use Rattle.state_types.specs.declared.types.Ty.{Ty}
use Rattle.state_types.proofs.TargetSoundness.{PairCarries, PairProper, demanded_holds}
use Rattle.state_types.proofs.Thens.{then_ok, ok_same}

-- ---- pairs

abbrev pub paired : Ty → Ty → Pair
paired wanted present = record { wanted = wanted; present = present }

pair_by : (test : Truth) (number : ℕ) (wanted present : Ty) (pair : Pair) → same_kind wanted present ≡ test
    → cond test (let r : Check Pair = Ok (paired wanted present) in r) (Err (Kind number)) ≡ Ok pair → (same_kind wanted present ≡ true) × (paired wanted present ≡ pair)
pair_by true number wanted present pair same e = (same, ok_same _ pair e)
pair_by false number wanted present pair same e = absurd (let bad : ⊥ = cc in bad)

pub pair_is : (number : ℕ) (wanted present : Ty) (pair : Pair) → pair_of number wanted present ≡ Ok pair → (same_kind wanted present ≡ true) × (paired wanted present ≡ pair)
unfolding pair_of
pair_is number wanted present pair e = pair_by (same_kind wanted present) number wanted present pair refl e

zip_pairs : List Ty → List Ty → List Pair
zip_pairs [] actual = []
zip_pairs (wanted ∷ later) [] = []
zip_pairs (wanted ∷ later) (present ∷ others) = paired wanted present ∷ zip_pairs later others

pairs_zip : (number : ℕ) (wanted actual : List Ty) (made all : List Pair) → pairs_of number wanted actual made ≡ Ok all → made ++ zip_pairs wanted actual ≡ all
unfolding pairs_of zip_pairs
pairs_zip number [] actual made all e = append-nil made ∙ ok_same made all e
pairs_zip number (wanted ∷ later) [] made all e = append-nil made ∙ ok_same made all e
pairs_zip number (wanted ∷ later) (present ∷ others) made all e =
    let s = then_ok (pair_of number wanted present) (λ pair. pairs_of (suc number) later others (made ++ pair ∷ [])) all e in
    ap (λ p. made ++ p ∷ zip_pairs later others) (pair_is number wanted present s.value s.first).1
    ∙ sym (append_assoc made (s.value ∷ []) (zip_pairs later others))
    ∙ pairs_zip (suc number) later others (made ++ s.value ∷ []) all s.second

pairs_proper : (number vars : ℕ) (wanted actual : List Ty) (made all : List Pair) → All (TypeBelow vars) wanted → pairs_of number wanted actual made ≡ Ok all
    → All (PairProper vars) (zip_pairs wanted actual)
unfolding pairs_of zip_pairs
pairs_proper number vars [] actual made all named e = All-nil (PairProper vars)
pairs_proper number vars (wanted ∷ later) [] made all named e = All-nil (PairProper vars)
pairs_proper number vars (wanted ∷ later) (present ∷ others) made all named e =
    let s = then_ok (pair_of number wanted present) (λ pair. pairs_of (suc number) later others (made ++ pair ∷ [])) all e in
    All-cons (PairProper vars) (paired wanted present) (zip_pairs later others)
    ((pair_is number wanted present s.value s.first).0, All-head (TypeBelow vars) wanted later named)
    (pairs_proper (suc number) vars later others (made ++ s.value ∷ []) all (All-tail (TypeBelow vars) wanted later named) s.second)

zip_carries : (assignment given : List ℤ) (wanted actual : List Ty) → length wanted ≡ length actual → All (PairCarries assignment given) (zip_pairs wanted actual)
    → AllZip (Carries assignment given) actual wanted
unfolding zip_pairs
zip_carries assignment given [] [] same all = tt
zip_carries assignment given [] (present ∷ others) same all = absurd (omega arith)
zip_carries assignment given (wanted ∷ later) [] same all = absurd (omega arith)
zip_carries assignment given (wanted ∷ later) (present ∷ others) same all = (
  All-head (PairCarries assignment given) (paired wanted present) (zip_pairs later others) all,
  zip_carries assignment given later others (omega arith) (All-tail (PairCarries assignment given) (paired wanted present) (zip_pairs later others) all),
)

-- ---- assignments

pub length-values_from : (assignment : List ℤ) (values : List (ℕ × Linear)) (below first count : ℕ) → length (values_from assignment values below first count) ≡ count
unfolding values_from
length-values_from assignment values below first zero = refl
length-values_from assignment values below first (suc count) = ap suc (length-values_from assignment values below (suc first) count)

-- ---- a match

pub found_is : (values : List (ℕ × Linear)) (below : ℕ) (pairs : List Pair) (rows : List Linear) (found : Found) → found_with values below pairs rows ≡ Ok found
    → (found.values ≡ values) × (demanded values below pairs rows ≡ Ok found.rows)
unfolding found_with
found_is values below pairs rows found e =
    let s = then_ok (demanded values below pairs rows) _ found e in
    let same = ok_same _ found s.second in
    (sym (ap (λ f. f.values) same), s.first ∙ ap (λ rs. let r : Check (List Linear) = Ok rs in r) (ap (λ f. f.rows) same))

pub match_sound : (below vars : ℕ) (rows context : List Linear) (wanted actual : List Ty) (found : Found) (assignment : List ℤ) → matched below vars rows wanted actual ≡ Ok found
    → length wanted ≡ length actual → All (NamesBelow vars) rows → All (TypeBelow vars) wanted → All (Entails context) found.rows → AllHold assignment context
    → IsMatched assignment (given_values assignment found.values below vars) vars rows wanted actual
unfolding matched
match_sound below vars rows context wanted actual found assignment e same named types entailed holds =
    let s = then_ok (pairs_of 0 wanted actual []) (λ pairs. found_with (values_for below (vars - below) pairs) below pairs rows) found e in
    let values = values_for below (vars - below) s.value in
    let f = found_is values below s.value rows found s.second in
    let zip : zip_pairs wanted actual ≡ s.value = pairs_zip 0 wanted actual [] s.value s.first in
    let proper = subst (λ ps. All (PairProper vars) ps) zip (pairs_proper 0 vars wanted actual [] s.value types s.first) in
    let both = demanded_holds values below vars assignment context found.rows rows s.value proper named f.1 entailed holds in
    let given = given_values assignment values below vars in
    let done : IsMatched assignment given vars rows wanted actual = record {
      one_each = length-values_from assignment values below 0 vars;
      hold = both.1;
      fit = zip_carries assignment given wanted actual same (subst (λ ps. All (PairCarries assignment given) ps) (sym zip) both.0);
    } in
    subst (λ vs. IsMatched assignment (given_values assignment vs below vars) vars rows wanted actual) (sym f.0) done

-- ---- words

pub words_carry : (headers : Headers) (assignment given words : List ℤ) (wanted actual : List Ty) → AllZip (Carries assignment given) actual wanted
    → AllZip (HasType headers assignment) words actual → AllZip (HasType headers given) words wanted
words_carry headers assignment given [] [] [] carry has = tt
words_carry headers assignment given [] (w ∷ ws) [] carry has = absurd carry
words_carry headers assignment given [] wanted (a ∷ more) carry has = absurd has
words_carry headers assignment given (x ∷ xs) wanted [] carry has = absurd has
words_carry headers assignment given (x ∷ xs) [] (a ∷ more) carry has = absurd carry
words_carry headers assignment given (x ∷ xs) (w ∷ ws) (a ∷ more) carry has = (carry.0.carries headers x has.0, words_carry headers assignment given xs ws more carry.1 has.1)
