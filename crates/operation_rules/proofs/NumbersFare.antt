-- Literals, moves, arithmetic, comparisons and prints go well.
use Rattle.std.proofs.Common.{◌≡◌, ℕ, zero, suc, ℤ, pos, negsuc, ◌+ℤ◌, ◌-ℤ◌, ◌*ℤ◌, ◌≤ℤ◌, List, [], ◌∷◌, Bool as Truth, true, false, Ok, refl, sym, ◌∙◌, ap, subst, arith, inl, inr}
use Rattle.std.specs.Int.{int_div_euclid, int_rem_euclid}
use Rattle.std.specs.List.{All}
use Rattle.std.proofs.lemmas.Int.{ints}
use Rattle.std.proofs.lemmas.List.Elements.{All-head, All-tail}
use Rattle.index_sorts.specs.Context.{IndexContext}
use Rattle.index_sorts.specs.Entails.{AllHold}
use Rattle.xan_lin.specs.Linear.{Linear, difference_of}
use Rattle.xan_lin.specs.Value.{value_of, Holds}
use Rattle.state_types.specs.Types.{TypeBelow}
use Rattle.state_types.specs.Words.{Headers, HasType}
use Rattle.state_types.specs.declared.types.Ty.{Ty}
use Rattle.state_types.specs.declared.types.Ty.TheVariants as ty
use Rattle.state_types.proofs.Thens.{then_ok, ok_same}
use Rattle.operation_rules.specs.Applied.{Ruled}
use Rattle.operation_rules.specs.Effects.{Stores, with_two, fits_word, truth_word, compares, writes_one, writes_exact, divided, effect}
use Rattle.operation_rules.specs.Faults.{needed}
use Rattle.operation_rules.specs.Forms.{constant_form, number_of, quotient_rows, remainder_rows}
use Rattle.operation_rules.specs.Operations.{Operation, Literal, Truth as TruthOf, Move, Add, Sub, Mul, Div, Mod, Compare, Print}
use Rattle.operation_rules.specs.Rules.{Setting, Rule, gives_fresh, no_types, one_type, as_number, two_numbers, quotient, remainder, rule}
use Rattle.operation_rules.specs.Sound.{Fares, Goes}
use Rattle.operation_rules.proofs.NumbersGiven.{meets_literal, meets_sum, meets_difference, meets_product, meets_quotient, meets_remainder, divisor_is}
use Rattle.operation_rules.proofs.RuleFacts.{Meets, meets_gives, needed_ok}
use Rattle.operation_rules.proofs.WordsRead.{no_types_is, one_type_is, two_numbers_is, with_none_is, with_one_is, with_two_is, Acts, goes_same}

-- types that are named below
pub below_first : (vars : ℕ) (types : List Ty) (t : Ty) (others : List Ty) → types ≡ t ∷ others → All (TypeBelow vars) types → TypeBelow vars t
below_first vars types t others e below = All-head (TypeBelow vars) t others (subst (λ ts. All (TypeBelow vars) ts) e below)

pub below_second : (vars : ℕ) (types : List Ty) (t u : Ty) (others : List Ty) → types ≡ t ∷ u ∷ others → All (TypeBelow vars) types → TypeBelow vars u
below_second vars types t u others e below =
    All-head (TypeBelow vars) u others (All-tail (TypeBelow vars) t (u ∷ others) (subst (λ ts. All (TypeBelow vars) ts) e below))

truth_has : (headers : Headers) (assignment : List ℤ) (b : Truth) → HasType headers assignment (truth_word b) ty.Bool
truth_has headers assignment true = inr refl
truth_has headers assignment false = inl refl

module _ {S : Type 0} (stores : Stores S) (st : Setting) (store : S) (assignment : List ℤ) (ctx : IndexContext) where
  exact_fares : (op : Operation) (types : List Ty) (ruled : Ruled) (fits : Truth) (word : ℤ) → Goes stores st store assignment ctx ruled (word ∷ []) store
      → Fares stores st op types store assignment ctx ruled (writes_exact stores fits word store)
  exact_fares op types ruled true word goes = goes
  exact_fares op types ruled false word goes = tt

  pub literal_fares : (n : ℤ) (types : List Ty) (words : List ℤ) (r : Rule) (ruled : Ruled) → Acts stores st store assignment ctx types words r ruled
      → rule st (Literal n) types ctx.vars ≡ Ok r → Fares stores st (Literal n) types store assignment ctx ruled (effect stores (Literal n) words store)
  unfolding rule
  literal_fares n types words r ruled acts e =
      let s = then_ok (no_types types) _ r e in
      with_none_is stores (Fares stores st (Literal n) types store assignment ctx ruled) (stores.headers store) assignment words types (writes_one stores n store)
      (no_types_is types s.value s.first) acts.stands.typed
      (goes_same stores st store assignment ctx types words (n ∷ []) r ruled acts
      (subst (λ x. Meets (stores.headers store) assignment x (n ∷ [])) (ok_same _ r s.second)
      (meets_literal (stores.headers store) assignment ctx.vars n acts.stands.one_each)))

  pub truth_fares : (b : Truth) (types : List Ty) (words : List ℤ) (r : Rule) (ruled : Ruled) → Acts stores st store assignment ctx types words r ruled
      → rule st (TruthOf b) types ctx.vars ≡ Ok r → Fares stores st (TruthOf b) types store assignment ctx ruled (effect stores (TruthOf b) words store)
  unfolding rule
  truth_fares b types words r ruled acts e =
      let s = then_ok (no_types types) _ r e in
      with_none_is stores (Fares stores st (TruthOf b) types store assignment ctx ruled) (stores.headers store) assignment words types (writes_one stores (truth_word b) store)
      (no_types_is types s.value s.first) acts.stands.typed
      (goes_same stores st store assignment ctx types words (truth_word b ∷ []) r ruled acts
      (subst (λ x. Meets (stores.headers store) assignment x (truth_word b ∷ [])) (ok_same _ r s.second)
      (meets_gives (stores.headers store) assignment (truth_word b ∷ []) [] (ty.Bool ∷ []) (truth_has (stores.headers store) assignment b, tt))))

  pub move_fares : (types : List Ty) (words : List ℤ) (r : Rule) (ruled : Ruled) → Acts stores st store assignment ctx types words r ruled
      → rule st Move types ctx.vars ≡ Ok r → Fares stores st Move types store assignment ctx ruled (effect stores Move words store)
  unfolding rule
  move_fares types words r ruled acts e =
      let s = then_ok (one_type types) _ r e in
      with_one_is stores (Fares stores st Move types store assignment ctx ruled) (stores.headers store) assignment words types s.value (λ a. writes_one stores a store)
      (one_type_is types s.value s.first) acts.stands.typed
      (λ a has. goes_same stores st store assignment ctx types words (a ∷ []) r ruled acts
      (subst (λ x. Meets (stores.headers store) assignment x (a ∷ [])) (ok_same _ r s.second)
      (meets_gives (stores.headers store) assignment (a ∷ []) [] (s.value ∷ []) (has, tt))))

  pub print_fares : (types : List Ty) (words : List ℤ) (r : Rule) (ruled : Ruled) → Acts stores st store assignment ctx types words r ruled
      → rule st Print types ctx.vars ≡ Ok r → Fares stores st Print types store assignment ctx ruled (effect stores Print words store)
  unfolding rule
  print_fares types words r ruled acts e =
      let s = then_ok (one_type types) _ r e in
      let t = then_ok (as_number s.value) _ r s.second in
      with_one_is stores (Fares stores st Print types store assignment ctx ruled) (stores.headers store) assignment words types s.value _
      (one_type_is types s.value s.first) acts.stands.typed
      (λ a has. goes_same stores st store assignment ctx types words [] r ruled acts
      (subst (λ x. Meets (stores.headers store) assignment x []) (ok_same _ r t.second)
      (meets_gives (stores.headers store) assignment [] [] [] tt)))

  -- an operation on two numbers whose exact result the rule gives
  number_fares : (op : Operation) (types : List Ty) (words : List ℤ) (r : Rule) (ruled : Ruled) (f g : Linear) (result : ℤ → ℤ → ℤ) → Acts stores st store assignment ctx types words r ruled
      → types ≡ ty.Int f ∷ ty.Int g ∷ []
      → ((a b : ℤ) → a ≡ value_of assignment f → b ≡ value_of assignment g → Meets (stores.headers store) assignment r (result a b ∷ []))
      → Fares stores st op types store assignment ctx ruled (with_two stores words (λ a b. writes_exact stores (fits_word (result a b)) (result a b) store))
  number_fares op types words r ruled f g result acts is meets =
      with_two_is stores (Fares stores st op types store assignment ctx ruled) (stores.headers store) assignment words types (ty.Int f) (ty.Int g) _ is acts.stands.typed
      (λ a b x y. exact_fares op types ruled (fits_word (result a b)) (result a b)
      (goes_same stores st store assignment ctx types words (result a b ∷ []) r ruled acts (meets a b x y)))

  pub add_fares : (types : List Ty) (words : List ℤ) (r : Rule) (ruled : Ruled) → Acts stores st store assignment ctx types words r ruled
      → rule st Add types ctx.vars ≡ Ok r → Fares stores st Add types store assignment ctx ruled (effect stores Add words store)
  unfolding rule
  add_fares types words r ruled acts e =
      let s = then_ok (two_numbers types) _ r e in
      number_fares Add types words r ruled s.value.0 s.value.1 (λ a b. a +ℤ b) acts (two_numbers_is types s.value s.first)
      (λ a b x y. subst (λ z. Meets (stores.headers store) assignment z ((a +ℤ b) ∷ [])) (ok_same _ r s.second)
      (meets_sum (stores.headers store) assignment ctx.vars s.value.0 s.value.1 a b acts.stands.one_each x y))

  pub sub_fares : (types : List Ty) (words : List ℤ) (r : Rule) (ruled : Ruled) → Acts stores st store assignment ctx types words r ruled
      → rule st Sub types ctx.vars ≡ Ok r → Fares stores st Sub types store assignment ctx ruled (effect stores Sub words store)
  unfolding rule
  sub_fares types words r ruled acts e =
      let s = then_ok (two_numbers types) _ r e in
      number_fares Sub types words r ruled s.value.0 s.value.1 (λ a b. a -ℤ b) acts (two_numbers_is types s.value s.first)
      (λ a b x y. subst (λ z. Meets (stores.headers store) assignment z ((a -ℤ b) ∷ [])) (ok_same _ r s.second)
      (meets_difference (stores.headers store) assignment ctx.vars s.value.0 s.value.1 a b acts.stands.one_each x y))

  pub mul_fares : (types : List Ty) (words : List ℤ) (r : Rule) (ruled : Ruled) → Acts stores st store assignment ctx types words r ruled
      → rule st Mul types ctx.vars ≡ Ok r → Fares stores st Mul types store assignment ctx ruled (effect stores Mul words store)
  unfolding rule
  mul_fares types words r ruled acts e =
      let s = then_ok (two_numbers types) _ r e in
      number_fares Mul types words r ruled s.value.0 s.value.1 (λ a b. a *ℤ b) acts (two_numbers_is types s.value s.first)
      (λ a b x y. subst (λ z. Meets (stores.headers store) assignment z ((a *ℤ b) ∷ [])) (ok_same _ r s.second)
      (meets_product (stores.headers store) assignment ctx.vars s.value.0 s.value.1 (number_of s.value.0) (number_of s.value.1) a b refl refl acts.stands.one_each x y))

  pub compare_fares : (c : ℕ) (types : List Ty) (words : List ℤ) (r : Rule) (ruled : Ruled) → Acts stores st store assignment ctx types words r ruled
      → rule st (Compare c) types ctx.vars ≡ Ok r → Fares stores st (Compare c) types store assignment ctx ruled (effect stores (Compare c) words store)
  unfolding rule
  compare_fares c types words r ruled acts e =
      let s = then_ok (two_numbers types) _ r e in
      with_two_is stores (Fares stores st (Compare c) types store assignment ctx ruled) (stores.headers store) assignment words types (ty.Int s.value.0) (ty.Int s.value.1) _
      (two_numbers_is types s.value s.first) acts.stands.typed
      (λ a b x y. goes_same stores st store assignment ctx types words (truth_word (compares c a b) ∷ []) r ruled acts
      (subst (λ z. Meets (stores.headers store) assignment z (truth_word (compares c a b) ∷ [])) (ok_same _ r s.second)
      (meets_gives (stores.headers store) assignment (truth_word (compares c a b) ∷ []) [] (ty.Bool ∷ [])
      (truth_has (stores.headers store) assignment (compares c a b), tt))))

  -- ---- quotients

  divided_fares : (op : Operation) (types : List Ty) (ruled : Ruled) (result : ℤ → ℤ → ℤ) (a b : ℤ) → pos 0 ≤ℤ (b -ℤ pos 1)
      → ((n : ℕ) → b ≡ pos (suc n) → Goes stores st store assignment ctx ruled (result a (pos (suc n)) ∷ []) store)
      → Fares stores st op types store assignment ctx ruled (divided stores result a b store)
  divided_fares op types ruled result a (pos zero) least goes = absurd (omega (arith, ints))
  divided_fares op types ruled result a (pos (suc n)) least goes = goes n refl
  divided_fares op types ruled result a (negsuc n) least goes = absurd (omega (arith, ints))

  pub div_fares : (types : List Ty) (words : List ℤ) (r : Rule) (ruled : Ruled) → Acts stores st store assignment ctx types words r ruled
      → rule st Div types ctx.vars ≡ Ok r → Fares stores st Div types store assignment ctx ruled (effect stores Div words store)
  unfolding rule quotient
  div_fares types words r ruled acts e =
      let s = then_ok (two_numbers types) _ r e in
      let f = s.value.0 in
      let g = s.value.1 in
      let t = then_ok (needed (difference_of g (constant_form (pos 1)))) _ r s.second in
      let is = two_numbers_is types s.value s.first in
      let same : gives_fresh ctx.vars (t.value ∷ []) (quotient_rows f (number_of g) ctx.vars) ≡ r = ok_same _ r t.second in
      let asked : Holds assignment t.value = All-head (Holds assignment) t.value [] (subst (λ (ds : List Linear). AllHold assignment ds) (ap (λ x. x.demands) (sym same)) acts.demands) in
      with_two_is stores (Fares stores st Div types store assignment ctx ruled) (stores.headers store) assignment words types (ty.Int f) (ty.Int g) _ is acts.stands.typed
      (λ a b x y. divided_fares Div types ruled int_div_euclid a b
      (divisor_is assignment g t.value b (needed_ok (difference_of g (constant_form (pos 1))) t.value t.first) asked y)
      (λ n k. goes_same stores st store assignment ctx types words (int_div_euclid a (pos (suc n)) ∷ []) r ruled acts
      (subst (λ z. Meets (stores.headers store) assignment z (int_div_euclid a (pos (suc n)) ∷ [])) same
      (meets_quotient (stores.headers store) assignment ctx.vars f g (t.value ∷ []) a n acts.stands.one_each
      (below_first ctx.vars types (ty.Int f) (ty.Int g ∷ []) is acts.stands.below) x (sym k ∙ y)))))

  pub mod_fares : (types : List Ty) (words : List ℤ) (r : Rule) (ruled : Ruled) → Acts stores st store assignment ctx types words r ruled
      → rule st Mod types ctx.vars ≡ Ok r → Fares stores st Mod types store assignment ctx ruled (effect stores Mod words store)
  unfolding rule remainder
  mod_fares types words r ruled acts e =
      let s = then_ok (two_numbers types) _ r e in
      let f = s.value.0 in
      let g = s.value.1 in
      let t = then_ok (needed (difference_of g (constant_form (pos 1)))) _ r s.second in
      let is = two_numbers_is types s.value s.first in
      let same : gives_fresh ctx.vars (t.value ∷ []) (remainder_rows g ctx.vars) ≡ r = ok_same _ r t.second in
      let asked : Holds assignment t.value = All-head (Holds assignment) t.value [] (subst (λ (ds : List Linear). AllHold assignment ds) (ap (λ x. x.demands) (sym same)) acts.demands) in
      with_two_is stores (Fares stores st Mod types store assignment ctx ruled) (stores.headers store) assignment words types (ty.Int f) (ty.Int g) _ is acts.stands.typed
      (λ a b x y. divided_fares Mod types ruled int_rem_euclid a b
      (divisor_is assignment g t.value b (needed_ok (difference_of g (constant_form (pos 1))) t.value t.first) asked y)
      (λ n k. goes_same stores st store assignment ctx types words (int_rem_euclid a (pos (suc n)) ∷ []) r ruled acts
      (subst (λ z. Meets (stores.headers store) assignment z (int_rem_euclid a (pos (suc n)) ∷ [])) same
      (meets_remainder (stores.headers store) assignment ctx.vars g (t.value ∷ []) a n acts.stands.one_each
      (below_second ctx.vars types (ty.Int f) (ty.Int g) [] is acts.stands.below) (sym k ∙ y)))))
