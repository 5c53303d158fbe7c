-- Entailed rows make a target hold.
use Rattle.std.proofs.Common.{◌≡◌, ℕ, ◌*◌, ℤ, pos, ◌≤ℤ◌, List, [], ◌∷◌, ◌++◌, Bool as Truth, true, false, cond, Some, None, Ok, refl, sym, ◌∙◌, ap, subst, arith}
use Rattle.std.specs.List.{All}
use Rattle.std.proofs.lemmas.Int.{ints}
use Rattle.std.proofs.lemmas.Bool.Decides.{Decides-eqb}
use Rattle.std.proofs.lemmas.List.Elements.{All-nil, All-cons, All-head, All-tail}
use Rattle.index_sorts.specs.Entails.{Entails, AllHold}
use Rattle.index_sorts.specs.Known.{same_form}
use Rattle.index_sorts.proofs.KnownRows.{Decides-same_form}
use Rattle.xan_lin.specs.Linear.{Linear, NamesBelow, difference_of}
use Rattle.xan_lin.specs.Subst.{subst_of, given_values}
use Rattle.xan_lin.specs.Value.{value_of, Holds}
use Rattle.xan_lin.proofs.SubstitutedValues.{subst-given_value}
use Rattle.xan_lin.proofs.ResultValues.{difference-value}
use Rattle.state_types.specs.Answers.{Check, within_bounds}
use Rattle.state_types.specs.Matching.{both_differences, differences, index_rows, type_rows, own_rows, demanded}
use Rattle.state_types.specs.Sound.{Carries}
use Rattle.state_types.specs.Types.{index_of, same_kind, TypeBelow}
use Rattle.state_types.specs.Words.{IsBlock}
use Rattle.state_types.specs.declared.pairs.Pair.{Pair}
use Rattle.state_types.specs.declared.types.Ty.{Ty}
use Rattle.state_types.specs.declared.types.Ty.TheVariants.{Int, Bool, Array, Named}
use Rattle.state_types.proofs.Thens.{then_ok, within_ok, ok_same}

-- ---- lists

all_front : {X : Type 0} (P : X → Type 0) (xs ys : List X) → All P (xs ++ ys) → All P xs
all_front P [] ys h = All-nil P
all_front P (x ∷ xs) ys h = All-cons P x xs (All-head P x (xs ++ ys) h) (all_front P xs ys (All-tail P x (xs ++ ys) h))

all_last : {X : Type 0} (P : X → Type 0) (xs : List X) (y : X) → All P (xs ++ y ∷ []) → P y
all_last P [] y h = All-head P y [] h
all_last P (x ∷ xs) y h = all_last P xs y (All-tail P x (xs ++ y ∷ []) h)

-- ---- equal forms

-- both differences hold
both_hold : (assignment : List ℤ) (g f more less : Linear) → difference_of g f ≡ Ok more → difference_of f g ≡ Ok less → Holds assignment more → Holds assignment less
    → value_of assignment g ≡ value_of assignment f
both_hold assignment g f more less e k h l =
    let a = difference-value assignment g f more e in
    let b = difference-value assignment f g less k in
    omega (arith, ints)

both_equal : (assignment : List ℤ) (context made all : List Linear) (g f : Linear) → both_differences g f made ≡ Ok all → All (Entails context) all → AllHold assignment context
    → (value_of assignment g ≡ value_of assignment f) × All (Entails context) made
both_equal assignment context made all g f e entailed holds =
    let s = then_ok (within_bounds (difference_of g f)) _ all e in
    let t = then_ok (within_bounds (difference_of f g)) _ all s.second in
    let parts : made ++ s.value ∷ [] ++ t.value ∷ [] ≡ all = ok_same _ all t.second in
    let both = subst (λ rows. All (Entails context) rows) (sym parts) entailed in
    let front = all_front (Entails context) (made ++ s.value ∷ []) (t.value ∷ []) both in
    let more = all_last (Entails context) made s.value front in
    let less = all_last (Entails context) (made ++ s.value ∷ []) t.value both in (
      both_hold assignment g f s.value t.value (within_ok (difference_of g f) s.value s.first) (within_ok (difference_of f g) t.value t.first) (more.follows assignment holds) (less.follows assignment holds),
      all_front (Entails context) made (s.value ∷ []) front,
    )

by_test : (test : Truth) (assignment : List ℤ) (context made all : List Linear) (g f : Linear) → same_form g f ≡ test
    → cond test (let r : Check (List Linear) = Ok made in r) (both_differences g f made) ≡ Ok all → All (Entails context) all → AllHold assignment context
    → (value_of assignment g ≡ value_of assignment f) × All (Entails context) made
by_test true assignment context made all g f same e entailed holds =
    (ap (λ h. value_of assignment h) ((Decides-same_form g f).0 same), subst (λ rows. All (Entails context) rows) (sym (ok_same made all e)) entailed)
by_test false assignment context made all g f same e entailed holds = both_equal assignment context made all g f e entailed holds

differences_equal : (assignment : List ℤ) (context made all : List Linear) (g f : Linear) → differences g f made ≡ Ok all → All (Entails context) all → AllHold assignment context
    → (value_of assignment g ≡ value_of assignment f) × All (Entails context) made
unfolding differences
differences_equal assignment context made all g f e entailed holds = by_test (same_form g f) assignment context made all g f refl e entailed holds

-- the wanted index under the given values is the present one
index_equal : (values : List (ℕ × Linear)) (below vars : ℕ) (assignment : List ℤ) (context made all : List Linear) (e f : Linear) → NamesBelow vars e
    → index_rows values below (Some e) (Some f) made ≡ Ok all → All (Entails context) all → AllHold assignment context
    → (value_of assignment f ≡ value_of (given_values assignment values below vars) e) × All (Entails context) made
unfolding index_rows
index_equal values below vars assignment context made all e f named is entailed holds =
    let s = then_ok (within_bounds (subst_of values below e)) (λ given. differences given f made) all is in
    let d = differences_equal assignment context made all s.value f s.second entailed holds in
    (sym d.0 ∙ subst-given_value assignment values below vars e s.value named (within_ok (subst_of values below e) s.value s.first), d.1)

-- ---- one pair

carry_int : (assignment given : List ℤ) (e f : Linear) → value_of assignment f ≡ value_of given e → Carries assignment given (Int f) (Int e)
carry_int assignment given e f same = record { carries = λ headers word h. h ∙ same }

carry_array : (assignment given : List ℤ) (p q : ℕ) (e f : Linear) → p ≡ q → value_of assignment f ≡ value_of given e → Carries assignment given (Array q f) (Array p e)
carry_array assignment given p q e f number same = record {
  carries = λ headers word h.
      subst (λ n. IsBlock headers word (2 * n) (value_of given e)) (sym number) (subst (λ v. IsBlock headers word (2 * q) v) same h);
}

carry_named : (assignment given : List ℤ) (p q : ℕ) → p ≡ q → Carries assignment given (Named q) (Named p)
carry_named assignment given p q number =
    subst (λ n. Carries assignment given (Named n) (Named p)) number (record { carries = λ headers word h. h })

no_rows : (values : List (ℕ × Linear)) (below : ℕ) (made all context : List Linear) → index_rows values below None None made ≡ Ok all → All (Entails context) all → All (Entails context) made
unfolding index_rows
no_rows values below made all context e entailed = subst (λ rows. All (Entails context) rows) (sym (ok_same made all e)) entailed

pub type_carries : (values : List (ℕ × Linear)) (below vars : ℕ) (assignment : List ℤ) (context made all : List Linear) (wanted present : Ty) → same_kind wanted present ≡ true
    → TypeBelow vars wanted → index_rows values below (index_of wanted) (index_of present) made ≡ Ok all → All (Entails context) all → AllHold assignment context
    → Carries assignment (given_values assignment values below vars) present wanted × All (Entails context) made
type_carries values below vars assignment context made all (Int e) (Int f) same named is entailed holds =
    let d = index_equal values below vars assignment context made all e f named is entailed holds in
    (carry_int assignment (given_values assignment values below vars) e f d.0, d.1)
type_carries values below vars assignment context made all Bool Bool same named is entailed holds =
    (record { carries = λ headers word h. h }, no_rows values below made all context is entailed)
type_carries values below vars assignment context made all (Array p e) (Array q f) same named is entailed holds =
    let d = index_equal values below vars assignment context made all e f named is entailed holds in
    (carry_array assignment (given_values assignment values below vars) p q e f ((Decides-eqb p q).0 same) d.0, d.1)
type_carries values below vars assignment context made all (Named p) (Named q) same named is entailed holds =
    (carry_named assignment (given_values assignment values below vars) p q ((Decides-eqb p q).0 same), no_rows values below made all context is entailed)
type_carries values below vars assignment context made all wanted present same named is entailed holds = absurd (let bad : ⊥ = cc in bad)

-- ---- all pairs

-- the present type of the pair carries over to the wanted one
abbrev pub PairCarries : List ℤ → List ℤ → Pair → Type 0
PairCarries assignment given pair = Carries assignment given pair.present pair.wanted

abbrev pub PairProper : ℕ → Pair → Type 0
PairProper vars pair = (same_kind pair.wanted pair.present ≡ true) × TypeBelow vars pair.wanted

pairs_carry : (values : List (ℕ × Linear)) (below vars : ℕ) (assignment : List ℤ) (context made all : List Linear) (pairs : List Pair) → All (PairProper vars) pairs
    → type_rows values below pairs made ≡ Ok all → All (Entails context) all → AllHold assignment context
    → All (PairCarries assignment (given_values assignment values below vars)) pairs × All (Entails context) made
unfolding type_rows
pairs_carry values below vars assignment context made all [] proper is entailed holds =
    (All-nil (PairCarries assignment (given_values assignment values below vars)), subst (λ rows. All (Entails context) rows) (sym (ok_same made all is)) entailed)
pairs_carry values below vars assignment context made all (pair ∷ pairs) proper is entailed holds =
    let given = given_values assignment values below vars in
    let s = then_ok (index_rows values below (index_of pair.wanted) (index_of pair.present) made) (λ more. type_rows values below pairs more) all is in
    let later = pairs_carry values below vars assignment context s.value all pairs (All-tail (PairProper vars) pair pairs proper) s.second entailed holds in
    let here = All-head (PairProper vars) pair pairs proper in
    let first = type_carries values below vars assignment context made s.value pair.wanted pair.present here.0 here.1 s.first later.1 holds in
    (All-cons (PairCarries assignment given) pair pairs first.0 later.0, first.1)

-- ---- the target's rows

rows_hold : (values : List (ℕ × Linear)) (below vars : ℕ) (assignment : List ℤ) (context made all rows : List Linear) → All (NamesBelow vars) rows
    → own_rows values below rows made ≡ Ok all → All (Entails context) all → AllHold assignment context
    → AllHold (given_values assignment values below vars) rows × All (Entails context) made
unfolding own_rows
rows_hold values below vars assignment context made all [] named is entailed holds =
    (All-nil (Holds (given_values assignment values below vars)), subst (λ rs. All (Entails context) rs) (sym (ok_same made all is)) entailed)
rows_hold values below vars assignment context made all (row ∷ rows) named is entailed holds =
    let given = given_values assignment values below vars in
    let s = then_ok (within_bounds (subst_of values below row)) (λ f. own_rows values below rows (made ++ f ∷ [])) all is in
    let later = rows_hold values below vars assignment context (made ++ s.value ∷ []) all rows (All-tail (NamesBelow vars) row rows named) s.second entailed holds in
    let entails = all_last (Entails context) made s.value later.1 in
    let same = subst-given_value assignment values below vars row s.value (All-head (NamesBelow vars) row rows named) (within_ok (subst_of values below row) s.value s.first) in
    (All-cons (Holds given) row rows (subst (λ n. pos 0 ≤ℤ n) same (entails.follows assignment holds)) later.0, all_front (Entails context) made (s.value ∷ []) later.1)

-- ---- both

pub demanded_holds : (values : List (ℕ × Linear)) (below vars : ℕ) (assignment : List ℤ) (context all rows : List Linear) (pairs : List Pair) → All (PairProper vars) pairs
    → All (NamesBelow vars) rows → demanded values below pairs rows ≡ Ok all → All (Entails context) all → AllHold assignment context
    → All (PairCarries assignment (given_values assignment values below vars)) pairs × AllHold (given_values assignment values below vars) rows
unfolding demanded
demanded_holds values below vars assignment context all rows pairs proper named is entailed holds =
    let s = then_ok (type_rows values below pairs []) (λ made. own_rows values below rows made) all is in
    let own = rows_hold values below vars assignment context s.value all rows named s.second entailed holds in
    let fit = pairs_carry values below vars assignment context [] s.value pairs proper s.first own.1 holds in
    (fit.0, own.0)
