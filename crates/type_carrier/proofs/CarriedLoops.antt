-- Turns of the loops over parts of tests and over functions; listed variables that rise by test do rise, and the live of rising places rise.
use Rattle.std.proofs.Common.{◌≡◌, ◌∙◌, ℕ, zero, suc, ◌+◌, ◌-◌, ◌<◌, ◌≤◌, Bool, true, false, ◌&&◌, List, [], ◌∷◌, ◌++◌, length, map, drop, take, get_or, refl, sym, ap, ap₂, subst, arith, length-drop, append_assoc, append-nil}
use Rattle.std.specs.Prelude.{nat_le}
use Rattle.std.proofs.lemmas.Bool.Decides.{nat_tests}
use Rattle.std.proofs.lemmas.List.{at_drop_more, take_rest}
use Rattle.xan_lin.specs.Linear.{Linear}
use Rattle.xan_lin.specs.Subst.{VariablesRise}
use Rattle.xan_seq.specs.Rising.{KeysRise}
use Rattle.state_types.specs.PlaceTypes.{PlacesRise}
use Rattle.state_types.specs.declared.types.Ty.{Ty}
use Rattle.std.specs.List.{AllZip}
use Rattle.three_address.specs.LiveLabels.{live_mark, AreAllColumns}
use Rattle.three_address.specs.declared.function.LowFun.{LowFun}
use Rattle.lowering.specs.Emitted.{turn_of}
use Rattle.lowering.specs.TestCode.{turn}
use Rattle.lowering.proofs.EmittedTests.{turn_is}
use Rattle.typed_core.specs.Strays.{values_rise}
use Rattle.xanadu_tree.specs.declared.program.CoreFun.{CoreFun}
use Rattle.xanadu_tree.specs.declared.stmt.Test.{Test}
use Rattle.xanadu_tree.specs.PlainOf.{plain_fun, plain_test, to_tests}
use Rattle.type_carrier.specs.Carried.{Columns, Functions, function, functions, with_function}
use Rattle.type_carrier.specs.CarriedTests.{Labelled, Sources, test, parts_carried}
use Rattle.type_carrier.specs.ProvedRows.{Proofs}
use Rattle.type_carrier.specs.Ways.{kept_if, live_places}

-- ---- what rises

both_true : (a b : Bool) → (a && b) ≡ true → (a ≡ true) × (b ≡ true)
both_true true true e = (refl, refl)
both_true true false e = cc
both_true false b e = cc

at_most : (m n : ℕ) → nat_le m n ≡ true → m ≤ n
at_most m n e = grind (arith, nat_tests)

pub rise_by_test : (low : ℕ) (values : List (ℕ × Linear)) → values_rise low values ≡ true → VariablesRise low values
unfolding values_rise
rise_by_test low [] e = tt
rise_by_test low (v ∷ values) e =
    (let both = both_true (nat_le low v.0) (values_rise (suc v.0) values) e in (at_most low v.0 both.0, rise_by_test (suc v.0) values both.1))

-- the live of some places, behind none
abbrev kept_first : Bool → ℕ × Ty → List (ℕ × Ty) → List (ℕ × Ty)
kept_first true entry others = entry ∷ others
kept_first false entry others = others

unfoldable live_of : (columns : List (List Bool)) → (label : ℕ) → List (ℕ × Ty) → List (ℕ × Ty)
live_of columns label [] = []
live_of columns label (entry ∷ entries) = kept_first (live_mark columns label entry.0) entry (live_of columns label entries)

kept_behind : (b : Bool) (entry : ℕ × Ty) (made others : List (ℕ × Ty)) → kept_if b entry made ++ others ≡ made ++ kept_first b entry others
kept_behind true entry made others = append_assoc made (entry ∷ []) others
kept_behind false entry made others = refl

live_are : (columns : List (List Bool)) (label : ℕ) (entries made : List (ℕ × Ty)) → live_places columns label entries made ≡ made ++ live_of columns label entries
unfolding live_places live_of
live_are columns label [] made = sym (append-nil made)
live_are columns label (entry ∷ entries) made =
    live_are columns label entries (kept_if (live_mark columns label entry.0) entry made) ∙ kept_behind (live_mark columns label entry.0) entry made (live_of columns label entries)

lower : {A : Type 0} (low more : ℕ) (xs : List (ℕ × A)) → low ≤ more → KeysRise more xs → KeysRise low xs
lower low more [] le rise = tt
lower low more (x ∷ xs) le rise = ((let r = rise.0 in omega (arith, le, r)), rise.1)

live_rise : (columns : List (List Bool)) (label low : ℕ) (entries : List (ℕ × Ty)) → KeysRise low entries → KeysRise low (live_of columns label entries)
unfolding live_of
live_rise columns label low [] rise = tt
live_rise columns label low (entry ∷ entries) rise = by_mark (live_mark columns label entry.0) (live_rise columns label (suc entry.0) entries rise.1)
  where
    by_mark : (b : Bool) → KeysRise (suc entry.0) (live_of columns label entries) → KeysRise low (kept_first b entry (live_of columns label entries))
    by_mark true more = (rise.0, more)
    by_mark false more = lower low (suc entry.0) (live_of columns label entries) (let r = rise.0 in omega (arith, r)) more

pub live_places_rise : (columns : List (List Bool)) (label : ℕ) (entries made : List (ℕ × Ty)) → made ≡ live_places columns label entries [] → PlacesRise 0 entries → PlacesRise 0 made
live_places_rise columns label entries made is rise =
    subst (λ xs. KeysRise 0 xs) (sym (is ∙ live_are columns label entries [])) (live_rise columns label 0 entries rise)

-- ---- parts of a test

pub parts_turn : (from : Sources) (parts : List Test) (i : ℕ) (p : Test) (inner last asked : Bool) (many : ℕ) (x y whole : Labelled) → i < length parts → p ≡ get_or parts i p
    → many ≡ length parts - i → asked ≡ turn_of (many - 1) inner last → y ≡ test from asked (plain_test p) x
    → parts_carried from inner last (to_tests (map plain_test (drop i parts))) x ≡ whole
    → parts_carried from inner last (to_tests (map plain_test (drop (i + 1) parts))) y ≡ whole
unfolding test
parts_turn from parts i p inner last asked many x y whole lt k count a is inv =
    let others = drop (i + 1) parts in
    let rest = to_tests (map plain_test others) in
    let same = turn_is others (many - 1) inner last (omega (arith, count, length-drop (i + 1) parts)) in
    ap (λ z. parts_carried from inner last rest z)
    (is ∙ ap (λ on. test from on (plain_test p) x) (a ∙ sym same) ∙ ap (λ q. test from (turn rest inner last) (plain_test q) x) k)
    ∙ sym (at_drop_more (λ xs. parts_carried from inner last (to_tests (map plain_test xs)) x) parts i p lt) ∙ inv

-- ---- functions

-- a list with its first item and the others
record First {A : Type 0} (xs : List A) (x : A) : Type 0 where
  is : xs ≡ x ∷ take (length xs - 1) (drop 1 xs)

first_of : {A : Type 0} (xs : List A) (x : A) → 1 ≤ length xs → x ≡ get_or xs 0 x → First xs x
first_of [] x le e = absurd (omega (arith, le))
first_of (y ∷ xs) x le e = record { is = ap (λ z. z ∷ xs) (sym e) ∙ ap (λ zs. x ∷ zs) (sym (take_rest (y ∷ xs) 1)) }

pub functions_turn : (proofs : Proofs) (funs : List CoreFun) (all : List Columns) (f : CoreFun) (columns seen : Columns) (made next whole : Functions)
    → 1 ≤ length funs → f ≡ get_or funs 0 f → 1 ≤ length all → columns ≡ get_or all 0 columns → seen ≡ columns
    → next ≡ with_function (function proofs seen (plain_fun f) made.notes) made
    → functions proofs (map plain_fun funs) all made ≡ whole
    → functions proofs (map plain_fun (take (length funs - 1) (drop 1 funs))) (take (length all - 1) (drop 1 all)) next ≡ whole
unfolding functions
functions_turn proofs funs all f columns seen made next whole some is_f some_columns is_columns is_seen is_next inv =
    let fs = take (length funs - 1) (drop 1 funs) in
    let cs = take (length all - 1) (drop 1 all) in
    ap (λ n. functions proofs (map plain_fun fs) cs n) (is_next ∙ ap (λ x. with_function (function proofs x (plain_fun f) made.notes) made) is_seen)
    ∙ ap₂ (λ xs ys. functions proofs (map plain_fun xs) ys made) (sym (first_of funs f some is_f).is) (sym (first_of all columns some_columns is_columns).is)
    ∙ inv

-- ---- columns of functions

zip_more : {A B : Type 0} (P : A → B → Type 0) (xs : List A) (i : ℕ) (x : A) (ys : List B) (y : B) → i < length xs → x ≡ get_or xs i x → AllZip P (take i xs) ys → P x y
    → AllZip P (take (suc i) xs) (ys ++ y ∷ [])
zip_more P [] i x ys y lt e all p = absurd (omega (arith, lt))
zip_more P (z ∷ xs) zero x [] y lt e all p = (subst (λ v. P v y) e p, tt)
zip_more P (z ∷ xs) zero x (w ∷ ys) y lt e all p = absurd all
zip_more P (z ∷ xs) (suc i) x [] y lt e all p = absurd all
zip_more P (z ∷ xs) (suc i) x (w ∷ ys) y lt e all p = (all.0, zip_more P xs i x ys y (omega (arith, lt)) e all.1 p)

pub columns_turn : (lows : List LowFun) (i : ℕ) (low : LowFun) (made after : List Columns) (columns seen : Columns) → i < length lows → low ≡ get_or lows i low
    → AllZip AreAllColumns (take i lows) made → AreAllColumns low columns → seen ≡ columns → after ≡ made ++ seen ∷ [] → AllZip AreAllColumns (take (i + 1) lows) after
columns_turn lows i low made after columns seen lt is all live same more =
    let next : suc i ≡ i + 1 = omega arith in
    subst (λ n. AllZip AreAllColumns (take n lows) after) next
    (subst (λ ys. AllZip AreAllColumns (take (suc i) lows) ys) (sym more)
    (zip_more AreAllColumns lows i low made seen lt is all (subst (λ x. AreAllColumns low x) (sym same) live)))
