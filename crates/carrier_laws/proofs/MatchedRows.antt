-- What a match finds: values for the variables from its first one on, and the rows of each type and of each row.
use Rattle.std.proofs.Common.{◌≡◌, ◌∙◌, ℕ, zero, suc, ◌+◌, ◌-◌, List, [], ◌∷◌, ◌++◌, length, Bool as Truth, true, false, cond, Option, Some, None, Ok, inl, refl, sym, ap, subst, arith, append_assoc, append-nil}
use Rattle.std.specs.List.{All, AllByRecursion, AllZip}
use Rattle.std.proofs.lemmas.List.Elements.{All-nil, All-cons}
use Rattle.xan_lin.specs.Linear.{Linear, NamesBelow, difference_of}
use Rattle.xan_lin.specs.Same.{same_form}
use Rattle.xan_lin.specs.Subst.{subst_of}
use Rattle.state_types.specs.Answers.{Check, ◌>>=◌, within_bounds}
use Rattle.state_types.specs.Matching.{pair_of, pairs_of, is_alone, index_or_zero, value_for, values_for, both_differences, differences, index_rows, type_rows, own_rows, demanded, found_with, matched}
use Rattle.state_types.specs.Types.{index_of, same_kind, TypeBelow}
use Rattle.state_types.specs.declared.matching.Found.{Found}
use Rattle.state_types.specs.declared.types.Ty.{Ty}
use Rattle.state_types.specs.declared.types.Ty.TheVariants as ty
use Rattle.state_types.proofs.FormNames.{below-zero}
use Rattle.state_types.proofs.MatchPairs.{paired, pair_is, found_is}
use Rattle.state_types.proofs.Thens.{then_ok, ok_same, within_ok}
use Rattle.typed_core.specs.Growth.{Continues}
use Rattle.typed_core.proofs.Continued.{no_more, some_more, more_again}
use Rattle.carrier_laws.proofs.CountedValues.{Counted}
use Rattle.carrier_laws.proofs.WayRows.{Among, among_left, among_right}

-- ---- pairs

-- wanted types beside present ones
unfoldable zip : {P : Type 0} → (Ty → Ty → P) → List Ty → List Ty → List P
zip pair [] actual = []
zip pair (w ∷ ws) [] = []
zip pair (w ∷ ws) (a ∷ later) = pair w a ∷ zip pair ws later

abbrev Alike : Ty → Ty → Type 0
Alike w a = same_kind w a ≡ true

zipped : (number : ℕ) (wanted actual : List Ty) (made all : _) → length wanted ≡ length actual → pairs_of number wanted actual made ≡ Ok all
    → (made ++ zip paired wanted actual ≡ all) × AllZip Alike wanted actual
unfolding pairs_of zip
zipped number [] [] made all many e = (append-nil made ∙ ok_same made all e, tt)
zipped number [] (a ∷ later) made all many e = absurd (omega (arith, many))
zipped number (w ∷ ws) [] made all many e = absurd (omega (arith, many))
zipped number (w ∷ ws) (a ∷ later) made all many e =
    let s = then_ok (pair_of number w a) (λ pair. pairs_of (suc number) ws later (made ++ pair ∷ [])) all e in
    let p = pair_is number w a s.value s.first in
    let more = zipped (suc number) ws later (made ++ s.value ∷ []) all (omega (arith, many)) s.second in
    (ap (λ x. made ++ x ∷ zip paired ws later) p.1 ∙ sym (append_assoc made (s.value ∷ []) (zip paired ws later)) ∙ more.0, (p.0, more.1))

-- ---- rows, behind those so far

-- a row over the values is one of these
pub record RowMet (values : List (ℕ × Linear)) (below : ℕ) (sought : List Linear) (row : Linear) : Type 0 where
  pub given : Linear
  pub is : subst_of values below row ≡ Ok given
  pub among : Among sought given

-- the rows of a wanted type beside a present one are among these
pub record TypeMet (values : List (ℕ × Linear)) (below : ℕ) (sought : List Linear) (wanted actual : Ty) : Type 0 where
  pub rows : List Linear
  pub is : index_rows values below (index_of wanted) (index_of actual) [] ≡ Ok rows
  pub among : AllByRecursion (Among sought) rows

among_more : {A : Type 0} (xs ys : List A) (x : A) → Continues xs ys → Among xs x → Among ys x
among_more xs ys x more h = subst (λ l. Among l x) (sym more.is) (among_left xs more.rest x h)

all_among : (rows made : List Linear) → AllByRecursion (Among (made ++ rows)) rows
all_among [] made = tt
all_among (row ∷ rows) made =
    (among_right made (row ∷ rows) row (inl refl), subst (λ l. AllByRecursion (Among l) rows) (append_assoc made (row ∷ []) rows) (all_among rows (made ++ row ∷ [])))

all_among_more : (xs ys : List Linear) → Continues xs ys → (rows : List Linear) → AllByRecursion (Among xs) rows → AllByRecursion (Among ys) rows
all_among_more xs ys more [] all = tt
all_among_more xs ys more (row ∷ rows) all = (among_more xs ys row more all.0, all_among_more xs ys more rows all.1)

record OwnMet (values : List (ℕ × Linear)) (below : ℕ) (rows made all : List Linear) : Type 0 where
  more : Continues made all
  each : AllByRecursion (RowMet values below all) rows

own_met : (values : List (ℕ × Linear)) (below : ℕ) (rows made all : List Linear) → own_rows values below rows made ≡ Ok all → OwnMet values below rows made all
unfolding own_rows
own_met values below [] made all e = record { more = subst (Continues made) (ok_same made all e) (no_more made); each = tt }
own_met values below (row ∷ rows) made all e =
    let s = then_ok (within_bounds (subst_of values below row)) _ all e in
    let next = made ++ s.value ∷ [] in
    let later = own_met values below rows next all s.second in
    record {
      more = more_again made next all (some_more made (s.value ∷ [])) later.more;
      each = (
        record {
          given = s.value;
          is = within_ok (subst_of values below row) s.value s.first;
          among = among_more next all s.value later.more (among_right made (s.value ∷ []) s.value (inl refl));
        },
        later.each,
      );
    }

-- the rows of one index
record IndexRows (values : List (ℕ × Linear)) (below : ℕ) (wanted actual : Option Linear) (made all : List Linear) : Type 0 where
  rows : List Linear
  is : index_rows values below wanted actual [] ≡ Ok rows
  behind : all ≡ made ++ rows

differences_by : (b : Truth) (given actual : Linear) (made all : List Linear) → same_form given actual ≡ b
    → cond b (let r : Check (List Linear) = Ok made in r) (both_differences given actual made) ≡ Ok all
    → (rows : List Linear) × (cond b (let r : Check (List Linear) = Ok [] in r) (both_differences given actual []) ≡ Ok rows) × (all ≡ made ++ rows)
differences_by true given actual made all same e = ([], refl, sym (ok_same made all e) ∙ sym (append-nil made))
differences_by false given actual made all same e =
    let s = then_ok (within_bounds (difference_of given actual)) _ all e in
    let t = then_ok (within_bounds (difference_of actual given)) _ all s.second in (
      s.value ∷ t.value ∷ [],
      chained s.value t.value s.first t.first,
      sym (ok_same _ all t.second) ∙ append_assoc made (s.value ∷ []) (t.value ∷ []),
    )
  where
    chained : (more less : Linear) → within_bounds (difference_of given actual) ≡ Ok more → within_bounds (difference_of actual given) ≡ Ok less
        → both_differences given actual [] ≡ Ok (more ∷ less ∷ [])
    chained more less a b =
        ap (λ m. m >>= (λ x. within_bounds (difference_of actual given) >>= (λ y. let r : Check (List Linear) = Ok ([] ++ x ∷ [] ++ y ∷ []) in r))) a
        ∙ ap (λ m. m >>= (λ y. let r : Check (List Linear) = Ok ([] ++ more ∷ [] ++ y ∷ []) in r)) b

index_made : (values : List (ℕ × Linear)) (below : ℕ) (wanted actual : Option Linear) (made all : List Linear) → index_rows values below wanted actual made ≡ Ok all
    → IndexRows values below wanted actual made all
unfolding index_rows differences
index_made values below None actual made all e = record { rows = []; is = refl; behind = sym (ok_same made all e) ∙ sym (append-nil made) }
index_made values below (Some wanted) None made all e = record { rows = []; is = refl; behind = sym (ok_same made all e) ∙ sym (append-nil made) }
index_made values below (Some wanted) (Some actual) made all e =
    let s = then_ok (within_bounds (subst_of values below wanted)) _ all e in
    let d = differences_by (same_form s.value actual) s.value actual made all refl s.second in
    record {
      rows = d.0;
      is = ap (λ m. m >>= (λ given. differences given actual [])) s.first ∙ d.1;
      behind = d.2;
    }

record TypesMet (values : List (ℕ × Linear)) (below : ℕ) (wanted actual : List Ty) (made all : List Linear) : Type 0 where
  more : Continues made all
  each : AllZip (TypeMet values below all) wanted actual

types_met : (values : List (ℕ × Linear)) (below : ℕ) (wanted actual : List Ty) (made all : List Linear) → length wanted ≡ length actual
    → type_rows values below (zip paired wanted actual) made ≡ Ok all → TypesMet values below wanted actual made all
unfolding type_rows zip
types_met values below [] [] made all many e = record { more = subst (Continues made) (ok_same made all e) (no_more made); each = tt }
types_met values below [] (a ∷ later) made all many e = absurd (omega (arith, many))
types_met values below (w ∷ ws) [] made all many e = absurd (omega (arith, many))
types_met values below (w ∷ ws) (a ∷ others) made all many e =
    let s = then_ok (index_rows values below (index_of w) (index_of a) made) _ all e in
    let one = index_made values below (index_of w) (index_of a) made s.value s.first in
    let later = types_met values below ws others s.value all (omega (arith, many)) s.second in
    let here : Continues made s.value = record { rest = one.rows; is = one.behind } in
    record {
      more = more_again made s.value all here later.more;
      each = (
        record {
          rows = one.rows;
          is = one.is;
          among = all_among_more s.value all later.more one.rows (subst (λ l. AllByRecursion (Among l) one.rows) (sym one.behind) (all_among one.rows made));
        },
        later.each,
      );
    }

types_more : (values : List (ℕ × Linear)) (below : ℕ) (xs ys : List Linear) → Continues xs ys → (wanted actual : List Ty) → AllZip (TypeMet values below xs) wanted actual
    → AllZip Alike wanted actual → AllZip (λ w a. Alike w a × TypeMet values below ys w a) wanted actual
types_more values below xs ys more [] [] all alike = tt
types_more values below xs ys more [] (a ∷ later) all alike = absurd all
types_more values below xs ys more (w ∷ ws) [] all alike = absurd all
types_more values below xs ys more (w ∷ ws) (a ∷ later) all alike =
    ((alike.0, record { rows = all.0.rows; is = all.0.is; among = all_among_more xs ys more all.0.rows all.0.among }), types_more values below xs ys more ws later all.1 alike.1)

-- ---- values

chosen_below : (n : ℕ) (b : Truth) (f g : Linear) → NamesBelow n f → NamesBelow n g → NamesBelow n (cond b f g)
chosen_below n true f g h k = h
chosen_below n false f g h k = k

index_below : (n : ℕ) (t : Ty) → TypeBelow n t → NamesBelow n (index_or_zero (index_of t))
index_below n (ty.Int e) h = h
index_below n ty.Bool h = below-zero n
index_below n (ty.Array p e) h = h
index_below n (ty.Named p) h = below-zero n

module _ (n : ℕ) where
  value_below : (var : ℕ) (wanted actual : List Ty) → AllByRecursion (TypeBelow n) actual → NamesBelow n (value_for var (zip paired wanted actual))
  unfolding value_for zip
  value_below var [] actual all = below-zero n
  value_below var (w ∷ ws) [] all = below-zero n
  value_below var (w ∷ ws) (a ∷ later) all =
      chosen_below n (is_alone var (index_of w)) (index_or_zero (index_of a)) (value_for var (zip paired ws later)) (index_below n a all.0) (value_below var ws later all.1)

  values_below : (first count : ℕ) (wanted actual : List Ty) → AllByRecursion (TypeBelow n) actual → All (λ v. NamesBelow n v.1) (values_for first count (zip paired wanted actual))
  unfolding values_for
  values_below first zero wanted actual all = All-nil (λ (v : ℕ × Linear). NamesBelow n v.1)
  values_below first (suc count) wanted actual all =
      All-cons (λ (v : ℕ × Linear). NamesBelow n v.1) (first, value_for first (zip paired wanted actual)) (values_for (suc first) count (zip paired wanted actual))
      (value_below first wanted actual all) (values_below (suc first) count wanted actual all)

values_counted : (first count : ℕ) (wanted actual : List Ty) → Counted first (values_for first count (zip paired wanted actual))
unfolding values_for
values_counted first zero wanted actual = tt
values_counted first (suc count) wanted actual = (refl, values_counted (suc first) count wanted actual)

values_many : (first count : ℕ) (wanted actual : List Ty) → length (values_for first count (zip paired wanted actual)) ≡ count
unfolding values_for
values_many first zero wanted actual = refl
values_many first (suc count) wanted actual = ap suc (values_many (suc first) count wanted actual)

-- ---- a match

pub record IsMatch (first count : ℕ) (rows : List Linear) (wanted actual : List Ty) (found : Found) : Type 0 where
  pub counted : Counted first found.values
  pub many : length found.values ≡ count
  pub below : (n : ℕ) → AllByRecursion (TypeBelow n) actual → All (λ v. NamesBelow n v.1) found.values
  pub types : AllZip (λ w a. (same_kind w a ≡ true) × TypeMet found.values first found.rows w a) wanted actual
  pub each : AllByRecursion (RowMet found.values first found.rows) rows

pub match_is : (first count : ℕ) (rows : List Linear) (wanted actual : List Ty) (found : Found) → length wanted ≡ length actual
    → matched first (first + count) rows wanted actual ≡ Ok found → IsMatch first count rows wanted actual found
unfolding matched demanded
match_is first count rows wanted actual found many e =
    let s = then_ok (pairs_of 0 wanted actual []) _ found e in
    let z = zipped 0 wanted actual [] s.value many s.first in
    let pairs = zip paired wanted actual in
    let so_many : (first + count) - first ≡ count = omega arith in
    let values = values_for first count pairs in
    let second = ap (λ ps. found_with (values_for first count ps) first ps rows) z.0 ∙ ap (λ n. found_with (values_for first n s.value) first s.value rows) (sym so_many) ∙ s.second in
    let f = found_is values first pairs rows found second in
    let t = then_ok (type_rows values first pairs []) _ found.rows f.1 in
    let types = types_met values first wanted actual [] t.value many t.first in
    let own = own_met values first rows t.value found.rows t.second in
    record {
      counted = subst (Counted first) (sym f.0) (values_counted first count wanted actual);
      many = ap length f.0 ∙ values_many first count wanted actual;
      below = λ n all. subst (λ vs. All (λ v. NamesBelow n v.1) vs) (sym f.0) (values_below n first count wanted actual all);
      types = subst (λ vs. AllZip (λ w a. (same_kind w a ≡ true) × TypeMet vs first found.rows w a) wanted actual) (sym f.0)
          (types_more values first t.value found.rows own.more wanted actual types.each z.1);
      each = subst (λ vs. AllByRecursion (RowMet vs first found.rows) rows) (sym f.0) own.each;
    }
