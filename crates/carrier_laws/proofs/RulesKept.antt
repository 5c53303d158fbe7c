-- Rules make forms of forms, and types that exist: what they take to hold is a form where it is within the bounds, and so is the index of what
-- they give.
use Rattle.std.proofs.Common.{◌≡◌, ◌∙◌, ℕ, zero, suc, ◌+◌, ◌≤◌, ◌<◌, nat_lt, cond, ℤ, pos, negsuc, List, [], ◌∷◌, ◌++◌, map, length, slice_get, Bool as Truth, true, false, Option, Some, None, Result, Ok, Err, refl, sym, ap, subst, arith}
use Rattle.std.specs.Prelude.{IsTrue, ◌&&◌}
use Rattle.std.specs.List.{AllByRecursion}
use Rattle.std.proofs.lemmas.Option.{slice_get_within}
use Rattle.xan_lin.specs.Linear.{Linear, IsForm, all_within, is_within, are_within, sized, variable_form, sum_of, difference_of, product_of, excess_of}
use Rattle.xan_lin.specs.Subst.{subst_of}
use Rattle.xan_lin.specs.Terms.{IsRising, sum_terms, negated_terms, scaled_terms}
use Rattle.xan_lin.specs.declared.term.Term.{Term}
use Rattle.xan_lin.specs.declared.term.TooLarge.{TooLarge}
use Rattle.xan_lin.specs.declared.term.TooLarge.TheVariants.{Terms, Magnitude}
use Rattle.xan_lin.proofs.Booleans.{both, is_not_less}
use Rattle.xan_lin.proofs.GatheredTerms.{IsRising-gathered}
use Rattle.xan_lin.proofs.ScaledTerms.{IsRising-scaled}
use Rattle.xan_lin.proofs.TermSums.{IsRising-negated, IsRising-plus}
use Rattle.state_types.specs.Types.{subst_ty}
use Rattle.state_types.specs.Unpacking.{shifted_term, shifted, shifted_type}
use Rattle.state_types.specs.declared.closed.Packed.{Packed}
use Rattle.state_types.specs.declared.closed.Signature.{Signature}
use Rattle.state_types.specs.declared.types.Ty.{Ty}
use Rattle.state_types.specs.declared.types.Ty.TheVariants as ty
use Rattle.state_types.specs.Answers.{◌>>=◌}
use Rattle.state_types.proofs.Thens.{then_ok, ok_same}
use Rattle.operation_rules.specs.Faults.{Ruling, needed, or_fault}
use Rattle.operation_rules.specs.declared.error.Fault.TheVariants.{NoTarget, NoType}
use Rattle.operation_rules.specs.declared.rule.Rule.{Rule}
use Rattle.operation_rules.specs.Forms.{constant_form, number_of, multiple_form, quotient_rows, remainder_rows, variables_from}
use Rattle.operation_rules.specs.declared.operation.Operation.{Operation}
use Rattle.operation_rules.specs.declared.operation.Operation.TheVariants as operation
use Rattle.operation_rules.specs.Rules.{Setting, gives_number, product, no_types, one_type, two_types, three_types, as_number, as_truth, as_array, as_tuple, two_numbers, tuple_at, cell_with, cell_at, as_many, matching, of_kinds, matching_packed, quotient, remainder, measured, loaded, stored, allocated, constructed, split, called, returned, rule}
use Rattle.operation_rules.specs.Sides.{less, at_most, side_of, side}
use Rattle.operation_rules.proofs.RuleFacts.{or_fault_ok}
use Rattle.operation_rules.proofs.WordsRead.{one_type_is, two_types_is, two_numbers_is, as_number_is, as_array_is}
use Rattle.three_address.specs.Typing.{TypeExists}
use Rattle.carrier_laws.proofs.EdgesReach.{IsTypeForm}

-- ---- forms

form_by : (many within : Truth) (ts : List Term) (c : ℤ) (f : Linear) → nat_lt 16 (length ts) ≡ many → are_within ts c ≡ within → IsRising 0 ts
    → cond many (let r : Result Linear TooLarge = Err Terms in r) (cond within (Ok (record { terms = ts; constant = c })) (Err Magnitude)) ≡ Ok f → IsForm f
form_by true within ts c f few small rises e = absurd (let bad : ⊥ = cc in bad)
form_by false true ts c f few small rises e =
    (let b = both (all_within ts) (is_within c) small in
    subst IsForm (ok_same (let g : Linear = record { terms = ts; constant = c } in g) f e)
    (record { rising = rises; few = is_not_less 16 (length ts) few; small = b.0; small_constant = b.1 }))
form_by false false ts c f few small rises e = absurd (let bad : ⊥ = cc in bad)

pub sized_form : (ts : List Term) (c : ℤ) (f : Linear) → IsRising 0 ts → sized ts c ≡ Ok f → IsForm f
unfolding sized
sized_form ts c f rises e = form_by (nat_lt 16 (length ts)) (are_within ts c) ts c f refl refl rises e

rises_sum : (ts us : List Term) → IsRising 0 us → IsRising 0 (sum_terms ts us)
unfolding sum_terms
rises_sum [] us rises = rises
rises_sum (t ∷ ts) us rises = IsRising-plus 0 t (sum_terms ts us) (omega arith) (rises_sum ts us rises)

pub difference_form : (e f g : Linear) → IsRising 0 f.terms → difference_of e f ≡ Ok g → IsForm g
difference_form e f g rises is = sized_form (sum_terms e.terms (negated_terms f.terms)) _ g (rises_sum e.terms (negated_terms f.terms) (IsRising-negated 0 f.terms rises)) is

pub excess_form : (e f g : Linear) → IsRising 0 f.terms → excess_of e f ≡ Ok g → IsForm g
unfolding excess_of
excess_form e f g rises is = sized_form (sum_terms e.terms (negated_terms f.terms)) _ g (rises_sum e.terms (negated_terms f.terms) (IsRising-negated 0 f.terms rises)) is

pub replaced_form : (values : List (ℕ × Linear)) (below : ℕ) (e f : Linear) → subst_of values below e ≡ Ok f → IsForm f
replaced_form values below e f is = sized_form _ _ f (IsRising-gathered _) is

pub variable_is_form : (v : ℕ) → IsForm (variable_form v)
variable_is_form v = record { rising = (omega arith, (λ e. cc), tt); few = omega arith; small = refl; small_constant = refl }

rises_shifted : (first low high : ℕ) (ts : List Term) → high ≤ first + low → IsRising low ts → IsRising high (map (shifted_term first) ts)
rises_shifted first low high [] le rises = tt
rises_shifted first low high (t ∷ ts) le rises =
    ((let h = rises.0 in omega (arith, le, h)), rises.1, rises_shifted first (suc t.var) (suc (first + t.var)) ts (omega arith) rises.2)

within_shifted : (first : ℕ) (ts : List Term) → all_within (map (shifted_term first) ts) ≡ all_within ts
within_shifted first [] = refl
within_shifted first (t ∷ ts) = ap (λ b. is_within t.coef && b) (within_shifted first ts)

many_shifted : (first : ℕ) (ts : List Term) → length (map (shifted_term first) ts) ≡ length ts
many_shifted first [] = refl
many_shifted first (t ∷ ts) = ap suc (many_shifted first ts)

shifted_form : (first : ℕ) (f : Linear) → IsForm f → IsForm (shifted first f)
shifted_form first f is = record {
  rising = rises_shifted first 0 0 f.terms (omega arith) is.rising;
  few = (let h = is.few in let m = many_shifted first f.terms in omega (arith, h, m));
  small = subst IsTrue (sym (within_shifted first f.terms)) is.small;
  small_constant = is.small_constant;
}

-- ---- types, and what a program declares

-- the index is a form, and the type of its cells exists
abbrev pub IsGood : List Packed → Ty → Type 0
IsGood table t = IsTypeForm t × TypeExists table t

abbrev pub IsFormIfAny : Result Linear TooLarge → Type 0
IsFormIfAny (Ok f) = IsForm f
IsFormIfAny (Err why) = Unit {0}

abbrev pub IsGoodIfAny : List Packed → Result Ty TooLarge → Type 0
IsGoodIfAny table (Ok t) = IsGood table t
IsGoodIfAny table (Err why) = Unit {0}

if_any : (m : Result Linear TooLarge) → ((f : Linear) → m ≡ Ok f → IsForm f) → IsFormIfAny m
if_any (Ok f) h = h f refl
if_any (Err why) h = tt

pub record IsGoodPacked (table : List Packed) (p : Packed) : Type 0 where
  pub rows : AllByRecursion IsForm p.rows
  pub parts : AllByRecursion (IsGood table) p.parts

pub record IsGoodSignature (table : List Packed) (s : Signature) : Type 0 where
  pub rows : AllByRecursion IsForm s.rows
  pub params : AllByRecursion (IsGood table) s.params
  pub result : IsGood table s.result

-- what is declared has forms, and types that exist
pub record AreGood (table : List Packed) (sigs : List Signature) : Type 0 where
  pub packed : (n : ℕ) (p : Packed) → slice_get table n ≡ Some p → IsGoodPacked table p
  pub signed : (n : ℕ) (s : Signature) → slice_get sigs n ≡ Some s → IsGoodSignature table s

-- what a rule takes to hold and gives
pub record MakesGood (table : List Packed) (r : Rule) : Type 0 where
  pub assumed : AllByRecursion IsFormIfAny r.assumed
  pub given : AllByRecursion (IsGoodIfAny table) r.given

module _ (st : Setting) (are : AreGood st.table st.sigs) where
  abbrev Makes : Rule → Type 0
  Makes r = MakesGood st.table r

  abbrev Good : Ty → Type 0
  Good t = IsGood st.table t

  same : (made r : Rule) → (let x : Ruling Rule = Ok made in x) ≡ Ok r → Makes made → Makes r
  same made r e makes = subst Makes (ok_same made r e) makes

  only_given : (t : Ty) → Good t → Makes (record { demands = []; fresh = 0; assumed = []; given = Ok t ∷ [] })
  only_given t good = record { assumed = tt; given = (good, tt) }

  number_good : (first : ℕ) (m : Result Linear TooLarge) → ((f : Linear) → m ≡ Ok f → IsForm f) → Makes (gives_number first m)
  number_good first (Ok f) h = record { assumed = tt; given = ((h f refl, tt), tt) }
  number_good first (Err why) h = record { assumed = tt; given = ((variable_is_form first, tt), tt) }

  rises_one : (n first : ℕ) (c : ℤ) → IsRising 0 (multiple_form (pos (suc n)) first c).terms
  rises_one n first c = (omega arith, (λ e. cc), tt)

  quotient_good : (f : Linear) (m : Option ℤ) (q : ℕ) → IsForm f → AllByRecursion IsFormIfAny (quotient_rows f m q)
  quotient_good f None q is = tt
  quotient_good f (Some (negsuc n)) q is = tt
  quotient_good f (Some (pos zero)) q is = tt
  quotient_good f (Some (pos (suc n))) q is = (
    if_any (difference_of f (multiple_form (pos (suc n)) q (pos 0))) (λ g e. difference_form f (multiple_form (pos (suc n)) q (pos 0)) g (rises_one n q (pos 0)) e),
    (if_any (difference_of (multiple_form (pos (suc n)) q (pos n)) f) (λ g e. difference_form (multiple_form (pos (suc n)) q (pos n)) f g is.rising e), tt),
  )

  remainder_good : (g : Linear) (q : ℕ) → AllByRecursion IsFormIfAny (remainder_rows g q)
  remainder_good g q =
      (variable_is_form q, (if_any (excess_of g (variable_form q)) (λ f e. excess_form g (variable_form q) f (variable_is_form q).rising e), tt))

  product_good : (first : ℕ) (f : Linear) (m : Option ℤ) (g : Linear) (n : Option ℤ) → IsForm f → IsForm g → Makes (product first f m g n)
  product_good first f m g (Some n) a b = number_good first (product_of f n) (λ h e. sized_form (scaled_terms f.terms n) _ h (IsRising-scaled 0 f.terms n a.rising) e)
  product_good first f (Some m) g None a b = number_good first (product_of g m) (λ h e. sized_form (scaled_terms g.terms m) _ h (IsRising-scaled 0 g.terms m b.rising) e)
  product_good first f None g None a b = record { assumed = tt; given = ((variable_is_form first, tt), tt) }

  -- ---- what is read

  first_two : (types : List Ty) (p : Linear × Linear) → two_numbers types ≡ Ok p → AllByRecursion Good types → IsForm p.0 × IsForm p.1
  first_two types p e all = (let g = subst (AllByRecursion Good) (two_numbers_is types p e) all in (g.0.0, g.1.0.0))

  two_read : (types : List Ty) (p : Ty × Ty) → two_types types ≡ Ok p → AllByRecursion Good types → Good p.0 × Good p.1
  two_read types p e all = (let g = subst (AllByRecursion Good) (two_types_is types p e) all in (g.0, g.1.0))

  one_read : (types : List Ty) (t : Ty) → one_type types ≡ Ok t → AllByRecursion Good types → Good t
  one_read types t e all = (let g = subst (AllByRecursion Good) (one_type_is types t e) all in g.0)

  -- ---- closed types

  cell_by : (b : Truth) (p : Packed) (number : ℕ) → p.tuple ≡ b → slice_get st.table number ≡ Some p → IsGoodPacked st.table p
      → IsGoodPacked st.table (cond b (let q : Packed = record { vars = 0; rows = []; parts = ty.Named number ∷ []; tuple = false } in q) p)
  unfolding tuple_at
  cell_by true p number is there good =
      record {
        rows = tt;
        parts = (
          (
            tt,
            (
              p,
              ap (λ o. or_fault NoType o >>= (λ (x : Packed). cond x.tuple (let r : Ruling Packed = Ok x in r) (Err NoType))) there
                  ∙ ap (λ b. cond b (let r : Ruling Packed = Ok p in r) (Err NoType)) is,
            ),
          ),
          tt,
        );
      }
  cell_by false p number is there good = good

  record IsCell (number : ℕ) (p : Packed) : Type 0 where
    good : IsGoodPacked st.table p
    there : number < length st.table

  cell_good : (number : ℕ) (p : Packed) → cell_at st.table number ≡ Ok p → IsCell number p
  unfolding cell_at
  cell_good number p e =
      let s = then_ok (or_fault NoType (slice_get st.table number)) _ p e in
      let there = or_fault_ok NoType (slice_get st.table number) s.value s.first in
      record {
        good = subst (IsGoodPacked st.table) (ok_same (cell_with number s.value) p s.second) (cell_by s.value.tuple s.value number refl there (are.packed number s.value there));
        there = slice_get_within st.table number s.value there;
      }

  only_by : (test : Truth) (packed given : Packed) → cond test (let r : Ruling Packed = Ok packed in r) (Err NoType) ≡ Ok given → packed ≡ given
  only_by true packed given e = ok_same packed given e
  only_by false packed given e = absurd (let bad : ⊥ = cc in bad)

  tuple_good : (number : ℕ) (p : Packed) → tuple_at st.table number ≡ Ok p → IsGoodPacked st.table p
  unfolding tuple_at
  tuple_good number p e =
      let s = then_ok (or_fault NoType (slice_get st.table number)) _ p e in
      subst (IsGoodPacked st.table) (only_by s.value.tuple s.value p s.second) (are.packed number s.value (or_fault_ok NoType (slice_get st.table number) s.value s.first))

  rows_opened : (first : ℕ) (rows : List Linear) → AllByRecursion IsForm rows → AllByRecursion IsFormIfAny (map (λ row. let x : Result Linear TooLarge = Ok (shifted first row) in x) rows)
  rows_opened first [] all = tt
  rows_opened first (row ∷ rows) all = (shifted_form first row all.0, rows_opened first rows all.1)

  part_opened : (first : ℕ) (t : Ty) → Good t → Good (shifted_type first t)
  part_opened first (ty.Int e) g = (shifted_form first e g.0, tt)
  part_opened first ty.Bool g = g
  part_opened first (ty.Array p e) g = (shifted_form first e g.0, g.1)
  part_opened first (ty.Named p) g = g

  parts_opened : (first : ℕ) (ts : List Ty) → AllByRecursion Good ts → AllByRecursion (IsGoodIfAny st.table) (map (λ part. let x : Result Ty TooLarge = Ok (shifted_type first part) in x) ts)
  parts_opened first [] all = tt
  parts_opened first (t ∷ ts) all = (part_opened first t all.0, parts_opened first ts all.1)

  -- ---- calls

  replaced_good : (values : List (ℕ × Linear)) (t : Ty) → TypeExists st.table t → IsGoodIfAny st.table (subst_ty values 0 t)
  unfolding subst_ty
  replaced_good values (ty.Int e) h = by_form (subst_of values 0 e) (λ f i. replaced_form values 0 e f i)
    where
      by_form : (m : Result Linear TooLarge) → ((f : Linear) → m ≡ Ok f → IsForm f) → IsGoodIfAny st.table (m >>= (λ form. let r : Result Ty TooLarge = Ok (ty.Int form) in r))
      by_form (Ok f) g = (g f refl, tt)
      by_form (Err why) g = tt
  replaced_good values ty.Bool h = (tt, tt)
  replaced_good values (ty.Array p e) h = by_form (subst_of values 0 e) (λ f i. replaced_form values 0 e f i)
    where
      by_form : (m : Result Linear TooLarge) → ((f : Linear) → m ≡ Ok f → IsForm f) → IsGoodIfAny st.table (m >>= (λ form. let r : Result Ty TooLarge = Ok (ty.Array p form) in r))
      by_form (Ok f) g = (g f refl, h)
      by_form (Err why) g = tt
  replaced_good values (ty.Named p) h = (tt, h)

  rows_replaced : (values : List (ℕ × Linear)) (rows : List Linear) → AllByRecursion IsFormIfAny (map (subst_of values 0) rows)
  rows_replaced values [] = tt
  rows_replaced values (row ∷ rows) = (if_any (subst_of values 0 row) (λ f e. replaced_form values 0 row f e), rows_replaced values rows)

  -- ---- all operations

  pub rule_good : (op : Operation) (types : List Ty) (first : ℕ) (r : Rule) → rule st op types first ≡ Ok r → AllByRecursion Good types → Makes r
  unfolding rule quotient remainder measured loaded stored allocated constructed split called returned
  rule_good (operation.Literal n) types first r e all =
      (let s = then_ok (no_types types) _ r e in same _ r s.second (number_good first (sized [] n) (λ f i. sized_form [] n f tt i)))
  rule_good (operation.Truth b) types first r e all = (let s = then_ok (no_types types) _ r e in same _ r s.second (only_given ty.Bool (tt, tt)))
  rule_good operation.Move types first r e all = (let s = then_ok (one_type types) _ r e in same _ r s.second (only_given s.value (one_read types s.value s.first all)))
  rule_good operation.Add types first r e all =
      (let s = then_ok (two_numbers types) _ r e in
      let b = first_two types s.value s.first all in
      same _ r s.second (number_good first (sum_of s.value.0 s.value.1)
      (λ f i. sized_form (sum_terms s.value.0.terms s.value.1.terms) _ f (rises_sum s.value.0.terms s.value.1.terms b.1.rising) i)))
  rule_good operation.Sub types first r e all =
      (let s = then_ok (two_numbers types) _ r e in
      let b = first_two types s.value s.first all in
      same _ r s.second (number_good first (difference_of s.value.0 s.value.1) (λ f i. difference_form s.value.0 s.value.1 f b.1.rising i)))
  rule_good operation.Mul types first r e all =
      (let s = then_ok (two_numbers types) _ r e in
      let b = first_two types s.value s.first all in
      same _ r s.second (product_good first s.value.0 (number_of s.value.0) s.value.1 (number_of s.value.1) b.0 b.1))
  rule_good operation.Div types first r e all =
      (let s = then_ok (two_numbers types) _ r e in
      let t = then_ok (needed (difference_of s.value.1 (constant_form (pos 1)))) _ r s.second in
      let b = first_two types s.value s.first all in
      same _ r t.second (record { assumed = quotient_good s.value.0 (number_of s.value.1) first b.0; given = ((variable_is_form first, tt), tt) }))
  rule_good operation.Mod types first r e all =
      (let s = then_ok (two_numbers types) _ r e in
      let t = then_ok (needed (difference_of s.value.1 (constant_form (pos 1)))) _ r s.second in
      same _ r t.second (record { assumed = remainder_good s.value.1 first; given = ((variable_is_form first, tt), tt) }))
  rule_good (operation.Compare c) types first r e all = (let s = then_ok (two_numbers types) _ r e in same _ r s.second (only_given ty.Bool (tt, tt)))
  rule_good (operation.Branch c) types first r e all = (let s = then_ok (two_numbers types) _ r e in same _ r s.second (record { assumed = tt; given = tt }))
  rule_good (operation.BranchTruth b) types first r e all =
      (let s = then_ok (one_type types) _ r e in let t = then_ok (as_truth s.value) _ r s.second in same _ r t.second (record { assumed = tt; given = tt }))
  rule_good operation.Jump types first r e all = (let s = then_ok (no_types types) _ r e in same _ r s.second (record { assumed = tt; given = tt }))
  rule_good (operation.Call fun) types first r e all =
      (let s = then_ok (or_fault NoTarget (slice_get st.sigs fun)) _ r e in
      let t = then_ok (matching 0 s.value.vars s.value.rows s.value.params types) _ r s.second in
      let values = t.value.values ++ variables_from s.value.vars first s.value.result_vars in
      let sig = are.signed fun s.value (or_fault_ok NoTarget (slice_get st.sigs fun) s.value s.first) in
      same _ r t.second (record { assumed = rows_replaced values s.value.result_rows; given = (replaced_good values s.value.result sig.result.1, tt) }))
  rule_good operation.Return types first r e all =
      (let own = st.own in
      let s = then_ok (matching own.vars (own.vars + own.result_vars) own.result_rows (own.result ∷ []) types) _ r e in
      same _ r s.second (record { assumed = tt; given = tt }))
  rule_good operation.Length types first r e all =
      (let s = then_ok (one_type types) _ r e in
      let t = then_ok (as_array s.value) _ r s.second in
      let g = subst Good (as_array_is s.value t.value t.first) (one_read types s.value s.first all) in
      same _ r t.second (record { assumed = (g.0, tt); given = ((g.0, tt), tt) }))
  rule_good operation.Load types first r e all =
      (let s = then_ok (two_types types) _ r e in
      let t = then_ok (as_array s.value.0) _ r s.second in
      let u = then_ok (as_number s.value.1) _ r t.second in
      let v = then_ok (needed (excess_of t.value.1 u.value)) _ r u.second in
      let w = then_ok (cell_at st.table t.value.0) _ r v.second in
      let g = (cell_good t.value.0 w.value w.first).good in
      same _ r w.second (record { assumed = rows_opened first w.value.rows g.rows; given = parts_opened first w.value.parts g.parts }))
  rule_good operation.Store types first r e all =
      (let s = then_ok (three_types types) _ r e in
      let t = then_ok (as_array s.value.0) _ r s.second in
      let u = then_ok (as_number s.value.1) _ r t.second in
      let v = then_ok (cell_at st.table t.value.0) _ r u.second in
      let w = then_ok (of_kinds v.value.parts (s.value.2 ∷ [])) _ r v.second in
      let x = then_ok (needed (excess_of t.value.1 u.value)) _ r w.second in
      let y = then_ok (matching_packed v.value (s.value.2 ∷ [])) _ r x.second in
      same _ r y.second (record { assumed = tt; given = tt }))
  rule_good (operation.New cells) types first r e all =
      (let s = then_ok (cell_at st.table cells) _ r e in
      let t = then_ok (two_types types) _ r s.second in
      let u = then_ok (as_number t.value.0) _ r t.second in
      let v = then_ok (matching_packed s.value (t.value.1 ∷ [])) _ r u.second in
      let g = subst Good (as_number_is t.value.0 u.value u.first) (two_read types t.value t.first all).0 in
      same _ r v.second (record { assumed = tt; given = ((g.0, (cell_good cells s.value s.first).there), tt) }))
  rule_good (operation.Tuple number) types first r e all =
      (let s = then_ok (tuple_at st.table number) _ r e in
      let t = then_ok (matching_packed s.value types) _ r s.second in
      same _ r t.second (record { assumed = tt; given = ((tt, (s.value, s.first)), tt) }))
  rule_good (operation.Untuple number count) types first r e all =
      (let s = then_ok (tuple_at st.table number) _ r e in
      let t = then_ok (one_type types) _ r s.second in
      let u = then_ok (as_many (length s.value.parts) count) _ r t.second in
      let v = then_ok (as_tuple number t.value) _ r u.second in
      let g = tuple_good number s.value s.first in
      same _ r v.second (record { assumed = rows_opened first s.value.rows g.rows; given = parts_opened first s.value.parts g.parts }))
  rule_good operation.Print types first r e all =
      (let s = then_ok (one_type types) _ r e in let t = then_ok (as_number s.value) _ r s.second in same _ r t.second (record { assumed = tt; given = tt }))

  -- ---- sides

  less_good : (f g : Linear) → IsForm f → IsFormIfAny (less f g)
  less_good f g is = if_any (excess_of g f) (λ h e. excess_form g f h is.rising e)

  most_good : (f g : Linear) → IsForm f → IsFormIfAny (at_most f g)
  most_good f g is = if_any (difference_of g f) (λ h e. difference_form g f h is.rising e)

  sides_by : (taken : Truth) (c : ℕ) (f g : Linear) → IsForm f → IsForm g → AllByRecursion IsFormIfAny (side_of taken c f g)
  sides_by true zero f g a b = (less_good f g a, tt)
  sides_by true (suc zero) f g a b = (most_good f g a, tt)
  sides_by true (suc (suc zero)) f g a b = (most_good g f b, (most_good f g a, tt))
  sides_by true (suc (suc (suc n))) f g a b = tt
  sides_by false zero f g a b = (most_good g f b, tt)
  sides_by false (suc zero) f g a b = (less_good g f b, tt)
  sides_by false (suc (suc zero)) f g a b = tt
  sides_by false (suc (suc (suc n))) f g a b = (most_good g f b, (most_good f g a, tt))

  side_branch : (taken : Truth) (c : ℕ) (types : List Ty) → AllByRecursion Good types → AllByRecursion IsFormIfAny (side taken (operation.Branch c) types)
  side_branch taken c (ty.Int f ∷ ty.Int g ∷ []) all = sides_by taken c f g all.0.0 all.1.0.0
  side_branch taken c _ all = tt

  pub side_good : (taken : Truth) (op : Operation) (types : List Ty) → AllByRecursion Good types → AllByRecursion IsFormIfAny (side taken op types)
  side_good taken (operation.Branch c) types all = side_branch taken c types all
  side_good taken _ types all = tt
