-- Branches go well: the rows of the side that is taken hold.
use Rattle.std.proofs.Common.{◌≡◌, ℕ, zero, suc, ◌+◌, ℤ, pos, ◌-ℤ◌, ◌≤ℤ◌, List, [], ◌∷◌, Bool as Truth, true, false, not, Result, Ok, refl, sym, ◌∙◌, ap, subst, arith}
use Rattle.std.specs.Prelude.{int_lt, int_le}
use Rattle.std.specs.Ordering.{int_eq}
use Rattle.std.specs.List.{All}
use Rattle.std.proofs.lemmas.Int.{ints}
use Rattle.std.proofs.lemmas.Bool.Decides.{Decides-int_eq}
use Rattle.std.proofs.lemmas.List.Elements.{All-nil, All-cons}
use Rattle.index_sorts.specs.Context.{IndexContext, with_variables}
use Rattle.xan_lin.specs.Linear.{Linear}
use Rattle.xan_lin.specs.Value.{value_of}
use Rattle.xan_lin.specs.declared.term.TooLarge.{TooLarge}
use Rattle.state_types.specs.declared.types.Ty.{Ty}
use Rattle.state_types.specs.declared.types.Ty.TheVariants as ty
use Rattle.state_types.proofs.Thens.{then_ok, ok_same}
use Rattle.operation_rules.specs.Applied.{Ruled, applied, all_assuming}
use Rattle.operation_rules.specs.Effects.{Stores, Takes, compares, effect}
use Rattle.operation_rules.specs.Operations.{Branch, BranchTruth, Jump}
use Rattle.operation_rules.specs.Rules.{Setting, Rule, gives, no_types, one_type, as_truth, two_numbers, rule}
use Rattle.operation_rules.specs.Sides.{equal, side_of, side}
use Rattle.operation_rules.specs.Sound.{Fares, Turns}
use Rattle.operation_rules.proofs.NumbersGiven.{difference_holds, excess_holds, pair_holds}
use Rattle.operation_rules.proofs.RuleFacts.{OkHolds, parts_of, assuming_grows}
use Rattle.operation_rules.proofs.WordsRead.{no_types_is, one_type_is, two_numbers_is, with_none_is, with_one_is, with_two_is, Acts}

-- ---- comparisons

lt_is : (a b : ℤ) → int_lt a b ≡ true → pos 0 ≤ℤ ((b -ℤ a) -ℤ pos 1)
lt_is a b e = omega (arith, ints)

lt_is_not : (a b : ℤ) → int_lt a b ≡ false → pos 0 ≤ℤ (a -ℤ b)
lt_is_not a b e = omega (arith, ints)

le_is : (a b : ℤ) → int_le a b ≡ true → pos 0 ≤ℤ (b -ℤ a)
le_is a b e = omega (arith, ints)

le_is_not : (a b : ℤ) → int_le a b ≡ false → pos 0 ≤ℤ ((a -ℤ b) -ℤ pos 1)
le_is_not a b e = omega (arith, ints)

none_less : (a b : ℤ) → a ≡ b → pos 0 ≤ℤ (b -ℤ a)
none_less a b e = omega (arith, ints)

one_holds : (values : List ℤ) (x : Result Linear TooLarge) → OkHolds values x → All (OkHolds values) (x ∷ [])
one_holds values x h = All-cons (OkHolds values) x [] h (All-nil (OkHolds values))

equal_holds : (values : List ℤ) (f g : Linear) (a b : ℤ) → value_of values f ≡ a → value_of values g ≡ b → a ≡ b → All (OkHolds values) (equal f g)
equal_holds values f g a b is also same =
    pair_holds values _ _ (difference_holds values f g a b is also (none_less b a (sym same))) (difference_holds values g f b a also is (none_less a b same))

module _ (values : List ℤ) (f g : Linear) (a b : ℤ) (is : value_of values f ≡ a) (also : value_of values g ≡ b) where
  less_side : (t : Truth) → int_lt a b ≡ t → All (OkHolds values) (side_of t zero f g)
  less_side true e = one_holds values _ (excess_holds values g f b a also is (lt_is a b e))
  less_side false e = one_holds values _ (difference_holds values f g a b is also (lt_is_not a b e))

  most_side : (t : Truth) → int_le a b ≡ t → All (OkHolds values) (side_of t (suc zero) f g)
  most_side true e = one_holds values _ (difference_holds values g f b a also is (le_is a b e))
  most_side false e = one_holds values _ (excess_holds values f g a b is also (le_is_not a b e))

  equal_side : (t : Truth) → int_eq a b ≡ t → All (OkHolds values) (side_of t (suc (suc zero)) f g)
  equal_side true e = equal_holds values f g a b is also ((Decides-int_eq a b).0 e)
  equal_side false e = All-nil (OkHolds values)

  unequal_side : (n : ℕ) (t : Truth) → int_eq a b ≡ t → All (OkHolds values) (side_of (not t) (suc (suc (suc n))) f g)
  unequal_side n true e = equal_holds values f g a b is also ((Decides-int_eq a b).0 e)
  unequal_side n false e = All-nil (OkHolds values)

  pub side_holds : (c : ℕ) → All (OkHolds values) (side_of (compares c a b) c f g)
  side_holds zero = less_side (int_lt a b) refl
  side_holds (suc zero) = most_side (int_le a b) refl
  side_holds (suc (suc zero)) = equal_side (int_eq a b) refl
  side_holds (suc (suc (suc n))) = unequal_side n (int_eq a b) refl

-- ---- a context that does not change

none_more : (ctx : IndexContext) → with_variables ctx 0 ≡ ctx
none_more ctx = ap (λ n. record ctx { vars = n }) (let e : ctx.vars + 0 ≡ ctx.vars = omega arith in e)

pub stays : (ctx : IndexContext) (r : Rule) (ruled : Ruled) (demands : List Linear) (types : List Ty) → applied r ctx ≡ Ok ruled → gives demands types ≡ r → ruled.ctx ≡ ctx
unfolding all_assuming
stays ctx r ruled demands types e is =
    let p = parts_of (gives demands types) ctx ruled (subst (λ x. applied x ctx ≡ Ok ruled) (sym is) e) in
    sym (ok_same (with_variables ctx 0) ruled.ctx p.assumed) ∙ none_more ctx

module _ {S : Type 0} (stores : Stores S) (st : Setting) (store : S) (assignment : List ℤ) (ctx : IndexContext) where
  turns : (types : List Ty) (words : List ℤ) (r : Rule) (ruled : Ruled) (rows : List (Result Linear TooLarge)) → Acts stores st store assignment ctx types words r ruled
      → gives [] [] ≡ r → All (OkHolds assignment) rows → Turns assignment ctx ruled rows
  turns types words r ruled rows acts is hold = record {
    same = stays ctx r ruled [] [] acts.does is;
    hold = λ more e. assuming_grows assignment rows ctx more e acts.stands.hold hold;
  }

  pub branch_fares : (c : ℕ) (types : List Ty) (words : List ℤ) (r : Rule) (ruled : Ruled) → Acts stores st store assignment ctx types words r ruled
      → rule st (Branch c) types ctx.vars ≡ Ok r → Fares stores st (Branch c) types store assignment ctx ruled (effect stores (Branch c) words store)
  unfolding rule
  branch_fares c types words r ruled acts e =
      let s = then_ok (two_numbers types) _ r e in
      let f = s.value.0 in
      let g = s.value.1 in
      let is = two_numbers_is types s.value s.first in
      with_two_is stores (Fares stores st (Branch c) types store assignment ctx ruled) (stores.headers store) assignment words types (ty.Int f) (ty.Int g) _ is acts.stands.typed
      (λ a b x y. turns types words r ruled (side (compares c a b) (Branch c) types) acts (ok_same _ r s.second)
      (subst (λ ts. All (OkHolds assignment) (side (compares c a b) (Branch c) ts)) (sym is) (side_holds assignment f g a b (sym x) (sym y) c)))

  pub branch_truth_fares : (b : Truth) (types : List Ty) (words : List ℤ) (r : Rule) (ruled : Ruled) → Acts stores st store assignment ctx types words r ruled
      → rule st (BranchTruth b) types ctx.vars ≡ Ok r → Fares stores st (BranchTruth b) types store assignment ctx ruled (effect stores (BranchTruth b) words store)
  unfolding rule
  branch_truth_fares b types words r ruled acts e =
      let s = then_ok (one_type types) _ r e in
      let t = then_ok (as_truth s.value) _ r s.second in
      with_one_is stores (Fares stores st (BranchTruth b) types store assignment ctx ruled) (stores.headers store) assignment words types s.value _
      (one_type_is types s.value s.first) acts.stands.typed
      (λ a has. turns types words r ruled [] acts (ok_same _ r t.second) (All-nil (OkHolds assignment)))

  pub jump_fares : (types : List Ty) (words : List ℤ) (r : Rule) (ruled : Ruled) → Acts stores st store assignment ctx types words r ruled
      → rule st Jump types ctx.vars ≡ Ok r → Fares stores st Jump types store assignment ctx ruled (effect stores Jump words store)
  unfolding rule
  jump_fares types words r ruled acts e =
      let s = then_ok (no_types types) _ r e in
      with_none_is stores (Fares stores st Jump types store assignment ctx ruled) (stores.headers store) assignment words types (Takes true)
      (no_types_is types s.value s.first) acts.stands.typed
      (turns types words r ruled [] acts (ok_same _ r s.second) (All-nil (OkHolds assignment)))
