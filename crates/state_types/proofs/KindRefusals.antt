-- When a match and an edge are refused by kind.
use Rattle.std.proofs.Common.{◌≡◌, ℕ, zero, suc, ◌+◌, ◌-◌, ◌<◌, List, [], ◌∷◌, ◌++◌, length, get_or, Bool as Truth, true, false, cond, Option, Some, None, Result, Ok, Err, refl, sym, ◌∙◌, ap, subst, arith}
use Rattle.std.specs.Prelude.{◌↔◌}
use Rattle.index_sorts.specs.Known.{same_form}
use Rattle.xan_lin.specs.Linear.{Linear, difference_of}
use Rattle.xan_lin.specs.Subst.{subst_of}
use Rattle.xan_lin.specs.declared.term.TooLarge.{TooLarge}
use Rattle.state_types.specs.Answers.{Check, ◌>>=◌, within_bounds}
use Rattle.state_types.specs.Matching.{pair_of, pairs_of, pair_found, pair_at, pairs_at, values_for, both_differences, differences, index_rows, type_rows, own_rows, demanded, found_with, matched, meeting}
use Rattle.state_types.specs.PlaceTypes.{type_at}
use Rattle.state_types.specs.Refusals.{FirstUnlike, FirstAbsent, is_kind_of, is_there}
use Rattle.state_types.specs.Types.{index_of, same_kind}
use Rattle.state_types.specs.declared.error.StateError.TheVariants.{Kind}
use Rattle.state_types.specs.declared.matching.Found.{Found}
use Rattle.state_types.specs.declared.pairs.Pair.{Pair}
use Rattle.state_types.specs.declared.state.StateType.{StateType}
use Rattle.state_types.specs.declared.types.Ty.{Ty}
use Rattle.state_types.proofs.MatchPairs.{paired}

-- ---- rows are never refused by kind

NeverKind : {A : Type 0} → Check A → Type 0
NeverKind answer = (number : ℕ) → answer ≡ Err (Kind number) → ⊥

module _ {A : Type 0} where
  ok_never : (x : A) → NeverKind (let r : Check A = Ok x in r)
  unfolding NeverKind
  ok_never x number e = cc

  bounds_never : (r : Result A TooLarge) → NeverKind (within_bounds r)
  unfolding NeverKind
  bounds_never (Ok x) number e = cc
  bounds_never (Err why) number e = cc

module _ {A B : Type 0} where
  then_never : (m : Check A) (next : A → Check B) → NeverKind m → ((x : A) → NeverKind (next x)) → NeverKind (m >>= next)
  unfolding NeverKind
  then_never (Ok x) next first later number e = later x number e
  then_never (Err f) next first later number e = first number (let same : f ≡ Kind number = cc in ap (λ g. let r : Check A = Err g in r) same)

  -- the first part alone is refused so
  first_refused : (m : Check A) (next : A → Check B) (number : ℕ) → ((x : A) → NeverKind (next x)) → (m >>= next) ≡ Err (Kind number) → m ≡ Err (Kind number)
  unfolding NeverKind
  first_refused (Ok x) next number later e = absurd (later x number e)
  first_refused (Err f) next number later e = (let same : f ≡ Kind number = cc in ap (λ g. let r : Check A = Err g in r) same)

differ_never : (test : Truth) (wanted present : Linear) (made : List Linear) → NeverKind (cond test (let r : Check (List Linear) = Ok made in r) (both_differences wanted present made))
differ_never true wanted present made = ok_never made
differ_never false wanted present made =
    then_never (within_bounds (difference_of wanted present)) _ (bounds_never (difference_of wanted present))
    (λ more. then_never (within_bounds (difference_of present wanted)) _ (bounds_never (difference_of present wanted)) (λ less. ok_never _))

differences_never : (wanted present : Linear) (made : List Linear) → NeverKind (differences wanted present made)
unfolding differences
differences_never wanted present made = differ_never (same_form wanted present) wanted present made

index_never : (values : List (ℕ × Linear)) (below : ℕ) (wanted present : Option Linear) (made : List Linear) → NeverKind (index_rows values below wanted present made)
unfolding index_rows
index_never values below None present made = ok_never made
index_never values below (Some wanted) None made = ok_never made
index_never values below (Some wanted) (Some present) made =
    then_never (within_bounds (subst_of values below wanted)) (λ given. differences given present made) (bounds_never (subst_of values below wanted)) (λ given. differences_never given present made)

types_never : (values : List (ℕ × Linear)) (below : ℕ) (pairs : List Pair) (made : List Linear) → NeverKind (type_rows values below pairs made)
unfolding type_rows
types_never values below [] made = ok_never made
types_never values below (pair ∷ pairs) made =
    then_never (index_rows values below (index_of pair.wanted) (index_of pair.present) made) (λ more. type_rows values below pairs more)
    (index_never values below (index_of pair.wanted) (index_of pair.present) made) (λ more. types_never values below pairs more)

own_never : (values : List (ℕ × Linear)) (below : ℕ) (rows made : List Linear) → NeverKind (own_rows values below rows made)
unfolding own_rows
own_never values below [] made = ok_never made
own_never values below (row ∷ rows) made =
    then_never (within_bounds (subst_of values below row)) (λ given. own_rows values below rows (made ++ given ∷ [])) (bounds_never (subst_of values below row))
    (λ given. own_never values below rows (made ++ given ∷ []))

demanded_never : (values : List (ℕ × Linear)) (below : ℕ) (pairs : List Pair) (rows : List Linear) → NeverKind (demanded values below pairs rows)
unfolding demanded
demanded_never values below pairs rows =
    then_never (type_rows values below pairs []) (λ made. own_rows values below rows made) (types_never values below pairs []) (λ made. own_never values below rows made)

found_never : (values : List (ℕ × Linear)) (below : ℕ) (pairs : List Pair) (rows : List Linear) → NeverKind (found_with values below pairs rows)
unfolding found_with
found_never values below pairs rows = then_never (demanded values below pairs rows) _ (demanded_never values below pairs rows) (λ all. ok_never _)

-- ---- the first pair

unlike-pair : (number : ℕ) (wanted present : Ty) → same_kind wanted present ≡ false → pair_of number wanted present ≡ Err (Kind number)
unfolding pair_of
unlike-pair number wanted present e = ap (λ b. cond b (let r : Check Pair = Ok (paired wanted present) in r) (Err (Kind number))) e

like-pair : (number : ℕ) (wanted present : Ty) → same_kind wanted present ≡ true → pair_of number wanted present ≡ Ok (paired wanted present)
unfolding pair_of
like-pair number wanted present e = ap (λ b. cond b (let r : Check Pair = Ok (paired wanted present) in r) (Err (Kind number))) e

pairs-unlike : (number : ℕ) (wanted present : Ty) (later others : List Ty) (made : List Pair) → same_kind wanted present ≡ false
    → pairs_of number (wanted ∷ later) (present ∷ others) made ≡ Err (Kind number)
unfolding pairs_of
pairs-unlike number wanted present later others made e = ap (λ c. c >>= (λ pair. pairs_of (suc number) later others (made ++ pair ∷ []))) (unlike-pair number wanted present e)

pairs-like : (number : ℕ) (wanted present : Ty) (later others : List Ty) (made : List Pair) → same_kind wanted present ≡ true
    → pairs_of number (wanted ∷ later) (present ∷ others) made ≡ pairs_of (suc number) later others (made ++ paired wanted present ∷ [])
unfolding pairs_of
pairs-like number wanted present later others made e = ap (λ c. c >>= (λ pair. pairs_of (suc number) later others (made ++ pair ∷ []))) (like-pair number wanted present e)

-- ---- a match

record UnlikeFrom (number : ℕ) (wanted actual : List Ty) (refused : ℕ) : Type 0 where
  on : ℕ
  is : refused ≡ number + on
  first : FirstUnlike wanted actual on

unlike_now : (number : ℕ) (wanted present : Ty) (later others : List Ty) → same_kind wanted present ≡ false → FirstUnlike (wanted ∷ later) (present ∷ others) 0
unlike_now number wanted present later others e = record { within = omega arith; unlike = λ d f. e; before = λ k d f h. absurd (omega arith) }

like_before : (wanted present : Ty) (later others : List Ty) (on : ℕ) → same_kind wanted present ≡ true
    → ((k : ℕ) (d f : Ty) → k < on → same_kind (get_or later k d) (get_or others k f) ≡ true) → (k : ℕ) (d f : Ty) → k < suc on
    → same_kind (get_or (wanted ∷ later) k d) (get_or (present ∷ others) k f) ≡ true
like_before wanted present later others on e before zero d f h = e
like_before wanted present later others on e before (suc k) d f h = before k d f (omega arith)

unlike_later : (wanted present : Ty) (later others : List Ty) (on : ℕ) → same_kind wanted present ≡ true → FirstUnlike later others on
    → FirstUnlike (wanted ∷ later) (present ∷ others) (suc on)
unlike_later wanted present later others on e first = record {
  within = omega (arith, first.within);
  unlike = first.unlike;
  before = like_before wanted present later others on e first.before;
}

refused_by_test : (test : Truth) (number : ℕ) (wanted present : Ty) (later others : List Ty) (made : List Pair) (refused : ℕ) → same_kind wanted present ≡ test
    → ((all : List Pair) → pairs_of (suc number) later others all ≡ Err (Kind refused) → UnlikeFrom (suc number) later others refused)
    → pairs_of number (wanted ∷ later) (present ∷ others) made ≡ Err (Kind refused) → UnlikeFrom number (wanted ∷ later) (present ∷ others) refused
refused_by_test false number wanted present later others made refused same rec e =
    let here = pairs-unlike number wanted present later others made same in
    let is : refused ≡ number = cc in
    record { on = 0; is = is ∙ omega arith; first = unlike_now number wanted present later others same }
refused_by_test true number wanted present later others made refused same rec e =
    let u = rec (made ++ paired wanted present ∷ []) (sym (pairs-like number wanted present later others made same) ∙ e) in
    record { on = suc u.on; is = u.is ∙ omega arith; first = unlike_later wanted present later others u.on same u.first }

pairs_refused : (number : ℕ) (wanted actual : List Ty) (made : List Pair) (refused : ℕ) → pairs_of number wanted actual made ≡ Err (Kind refused)
    → UnlikeFrom number wanted actual refused
unfolding pairs_of
pairs_refused number [] actual made refused e = absurd (let bad : ⊥ = cc in bad)
pairs_refused number (wanted ∷ later) [] made refused e = absurd (let bad : ⊥ = cc in bad)
pairs_refused number (wanted ∷ later) (present ∷ others) made refused e =
    refused_by_test (same_kind wanted present) number wanted present later others made refused refl (λ all. pairs_refused (suc number) later others all refused) e

first_at : (on : ℕ) (wanted present : Ty) (later others : List Ty) → FirstUnlike (wanted ∷ later) (present ∷ others) (suc on) → FirstUnlike later others on
first_at on wanted present later others first = record {
  within = omega (arith, first.within);
  unlike = first.unlike;
  before = λ k d f h. first.before (suc k) d f (omega arith);
}

pairs_unlike : (number on : ℕ) (wanted actual : List Ty) (made : List Pair) → length wanted ≡ length actual → FirstUnlike wanted actual on
    → pairs_of number wanted actual made ≡ Err (Kind (number + on))
pairs_unlike number on [] actual made same first = absurd (omega (arith, first.within))
pairs_unlike number on (wanted ∷ later) [] made same first = absurd (omega arith)
pairs_unlike number zero (wanted ∷ later) (present ∷ others) made same first =
    pairs-unlike number wanted present later others made (first.unlike wanted present)
    ∙ ap (λ n. let r : Check (List Pair) = Err (Kind n) in r) (let e : number ≡ number + 0 = omega arith in e)
pairs_unlike number (suc on) (wanted ∷ later) (present ∷ others) made same first =
    pairs-like number wanted present later others made (first.before 0 wanted present (omega arith))
    ∙ pairs_unlike (suc number) on later others (made ++ paired wanted present ∷ []) (omega arith) (first_at on wanted present later others first)
    ∙ ap (λ n. let r : Check (List Pair) = Err (Kind n) in r) (let e : suc number + on ≡ number + suc on = omega arith in e)

pub match_kinds : (below vars : ℕ) (rows : List Linear) (wanted actual : List Ty) (number : ℕ) → length wanted ≡ length actual
    → (matched below vars rows wanted actual ≡ Err (Kind number)) ↔ FirstUnlike wanted actual number
unfolding matched
match_kinds below vars rows wanted actual number same =
    let next : List Pair → Check Found = λ pairs. found_with (values_for below (vars - below) pairs) below pairs rows in (
      λ e. (let u = pairs_refused 0 wanted actual [] number (first_refused (pairs_of 0 wanted actual []) next number (λ pairs. found_never (values_for below (vars - below) pairs) below pairs rows) e) in
          subst (λ n. FirstUnlike wanted actual n) (sym (u.is ∙ omega arith)) u.first),
      λ first. ap (λ c. c >>= next) (pairs_unlike 0 number wanted actual [] same first) ∙ ap (λ n. let r : Check Found = Err (Kind n) in r) (let e : 0 + number ≡ number = omega arith in e),
    )

-- ---- an edge

absent_found : (wanted : ℕ × Ty) (found : Option Ty) → is_kind_of wanted.1 found ≡ false → pair_found wanted found ≡ Err (Kind wanted.0)
absent_found wanted None e = refl
absent_found wanted (Some present) e = unlike-pair wanted.0 wanted.1 present e

absent-pair : (present : List (ℕ × Ty)) (wanted : ℕ × Ty) → is_there present wanted ≡ false → pair_at present wanted ≡ Err (Kind wanted.0)
unfolding pair_at
absent-pair present wanted e = absent_found wanted (type_at wanted.0 present) e

record HasPair (present : List (ℕ × Ty)) (wanted : ℕ × Ty) : Type 0 where
  pair : Pair
  is : pair_at present wanted ≡ Ok pair

found_there : (wanted : ℕ × Ty) (found : Option Ty) → is_kind_of wanted.1 found ≡ true → (pair : Pair) × (pair_found wanted found ≡ Ok pair)
found_there wanted None e = absurd (let bad : ⊥ = cc in bad)
found_there wanted (Some present) e = (paired wanted.1 present, like-pair wanted.0 wanted.1 present e)

there-pair : (present : List (ℕ × Ty)) (wanted : ℕ × Ty) → is_there present wanted ≡ true → HasPair present wanted
unfolding pair_at
there-pair present wanted e = (let f = found_there wanted (type_at wanted.0 present) e in record { pair = f.0; is = f.1 })

places-absent : (present : List (ℕ × Ty)) (wanted : ℕ × Ty) (later : List (ℕ × Ty)) (made : List Pair) → is_there present wanted ≡ false
    → pairs_at present (wanted ∷ later) made ≡ Err (Kind wanted.0)
unfolding pairs_at
places-absent present wanted later made e = ap (λ c. c >>= (λ pair. pairs_at present later (made ++ pair ∷ []))) (absent-pair present wanted e)

places-there : (present : List (ℕ × Ty)) (wanted : ℕ × Ty) (later : List (ℕ × Ty)) (made : List Pair) (pair : Pair) → pair_at present wanted ≡ Ok pair
    → pairs_at present (wanted ∷ later) made ≡ pairs_at present later (made ++ pair ∷ [])
unfolding pairs_at
places-there present wanted later made pair e = ap (λ c. c >>= (λ p. pairs_at present later (made ++ p ∷ []))) e

absent_now : (present : List (ℕ × Ty)) (wanted : ℕ × Ty) (later : List (ℕ × Ty)) (place : ℕ) → wanted.0 ≡ place → is_there present wanted ≡ false
    → FirstAbsent present (wanted ∷ later) place
absent_now present wanted later place is e = record { number = 0; within = omega arith; is = λ d. is; absent = λ d. e; before = λ k d h. absurd (omega arith) }

there_before : (present : List (ℕ × Ty)) (wanted : ℕ × Ty) (later : List (ℕ × Ty)) (number : ℕ) → is_there present wanted ≡ true
    → ((k : ℕ) (d : ℕ × Ty) → k < number → is_there present (get_or later k d) ≡ true) → (k : ℕ) (d : ℕ × Ty) → k < suc number
    → is_there present (get_or (wanted ∷ later) k d) ≡ true
there_before present wanted later number e before zero d h = e
there_before present wanted later number e before (suc k) d h = before k d (omega arith)

absent_later : (present : List (ℕ × Ty)) (wanted : ℕ × Ty) (later : List (ℕ × Ty)) (place : ℕ) → is_there present wanted ≡ true → FirstAbsent present later place
    → FirstAbsent present (wanted ∷ later) place
absent_later present wanted later place e first = record {
  number = suc first.number;
  within = omega (arith, first.within);
  is = first.is;
  absent = first.absent;
  before = there_before present wanted later first.number e first.before;
}

absent_by_test : (test : Truth) (present : List (ℕ × Ty)) (wanted : ℕ × Ty) (later : List (ℕ × Ty)) (made : List Pair) (place : ℕ) → is_there present wanted ≡ test
    → ((all : List Pair) → pairs_at present later all ≡ Err (Kind place) → FirstAbsent present later place) → pairs_at present (wanted ∷ later) made ≡ Err (Kind place)
    → FirstAbsent present (wanted ∷ later) place
absent_by_test false present wanted later made place same rec e =
    let here = places-absent present wanted later made same in
    let is : wanted.0 ≡ place = cc in
    absent_now present wanted later place is same
absent_by_test true present wanted later made place same rec e =
    let p = there-pair present wanted same in
    absent_later present wanted later place same (rec (made ++ p.pair ∷ []) (sym (places-there present wanted later made p.pair p.is) ∙ e))

places_refused : (present wanted : List (ℕ × Ty)) (made : List Pair) (place : ℕ) → pairs_at present wanted made ≡ Err (Kind place) → FirstAbsent present wanted place
unfolding pairs_at
places_refused present [] made place e = absurd (let bad : ⊥ = cc in bad)
places_refused present (wanted ∷ later) made place e =
    absent_by_test (is_there present wanted) present wanted later made place refl (λ all. places_refused present later all place) e

places_absent : (present wanted : List (ℕ × Ty)) (number place : ℕ) (made : List Pair) → number < length wanted → ((d : ℕ × Ty) → (get_or wanted number d).0 ≡ place)
    → ((d : ℕ × Ty) → is_there present (get_or wanted number d) ≡ false) → ((k : ℕ) (d : ℕ × Ty) → k < number → is_there present (get_or wanted k d) ≡ true)
    → pairs_at present wanted made ≡ Err (Kind place)
places_absent present [] number place made within is absent before = absurd (omega arith)
places_absent present (wanted ∷ later) zero place made within is absent before =
    places-absent present wanted later made (absent wanted) ∙ ap (λ n. let r : Check (List Pair) = Err (Kind n) in r) (is wanted)
places_absent present (wanted ∷ later) (suc number) place made within is absent before =
    let p = there-pair present wanted (before 0 wanted (omega arith)) in
    places-there present wanted later made p.pair p.is
    ∙ places_absent present later number place (made ++ p.pair ∷ []) (omega arith) is absent (λ k d h. before (suc k) d (omega arith))

pub edge_kinds : (state target : StateType) (values : List (ℕ × Linear)) (place : ℕ)
    → (meeting state target values ≡ Err (Kind place)) ↔ FirstAbsent state.places target.places place
unfolding meeting
edge_kinds state target values place =
    let next : List Pair → Check (List Linear) = λ pairs. demanded values state.ctx.vars pairs target.ctx.rows in (
      λ e. places_refused state.places target.places [] place
          (first_refused (pairs_at state.places target.places []) next place (λ pairs. demanded_never values state.ctx.vars pairs target.ctx.rows) e),
      λ first. ap (λ c. c >>= next) (places_absent state.places target.places first.number place [] first.within first.is first.absent first.before),
    )
