-- Which tags the rule of an operation takes and gives, and whether it demands anything.
use Rattle.std.proofs.Common.{◌≡◌, ◌∙◌, ℕ, ℤ, pos, List, [], ◌∷◌, Bool as Truth, Option, Some, None, Result, Ok, Err, refl, sym, ap, subst}
use Rattle.xan_lin.specs.Linear.{Linear, sized, sum_of, difference_of, product_of}
use Rattle.xan_lin.specs.declared.term.TooLarge.{TooLarge}
use Rattle.state_types.specs.declared.types.Ty.{Ty}
use Rattle.state_types.specs.declared.types.Ty.TheVariants as ty
use Rattle.state_types.proofs.Thens.{then_ok, ok_same}
use Rattle.operation_rules.specs.Applied.{all_given}
use Rattle.operation_rules.specs.Faults.{Ruling, needed}
use Rattle.operation_rules.specs.Forms.{constant_form, number_of}
use Rattle.operation_rules.specs.Rules.{Setting, gives, gives_number, product, no_types, one_type, as_array, two_numbers, quotient, remainder, measured, rule, as_truth, as_number}
use Rattle.operation_rules.specs.declared.operation.Operation.TheVariants as operation
use Rattle.operation_rules.specs.declared.rule.Rule.{Rule}
use Rattle.operation_rules.proofs.WordsRead.{no_types_is, one_type_is, as_array_is, two_numbers_is, as_number_is}
use Rattle.typed_core.specs.SourceValues.{Tag, Number, Truth as Flag, Array}
use Rattle.source_safety.specs.Values.{tag_for, tags_for}

-- ---- what is given

abbrev pub TagsAre : List Tag → List (Result Ty TooLarge) → Type 0
TagsAre [] [] = Unit {0}
TagsAre [] (t ∷ ts) = ⊥
TagsAre (g ∷ gs) [] = ⊥
TagsAre (g ∷ gs) (Ok t ∷ ts) = (g ≡ tag_for t) × TagsAre gs ts
TagsAre (g ∷ gs) (Err why ∷ ts) = TagsAre gs ts

pub given_tags : (tags : List Tag) (given : List (Result Ty TooLarge)) (types : List Ty) → TagsAre tags given → all_given given ≡ Ok types → tags ≡ tags_for types
unfolding all_given tags_for
given_tags [] [] types h e = ap tags_for (ok_same [] types e)
given_tags [] (t ∷ ts) types h e = absurd h
given_tags (g ∷ gs) [] types h e = absurd h
given_tags (g ∷ gs) (Err why ∷ ts) types h e = absurd (let bad : ⊥ = cc in bad)
given_tags (g ∷ gs) (Ok t ∷ ts) types h e =
    let s = then_ok (all_given ts) (λ others. let r : Result (List Ty) TooLarge = Ok (t ∷ others) in r) types e in
    ap (λ x. x ∷ gs) h.0 ∙ ap (λ xs. tag_for t ∷ xs) (given_tags gs ts s.value h.1 s.first) ∙ ap tags_for (ok_same (t ∷ s.value) types s.second)

pub record Tags (wants : List Tag) (given : Tag) (types : List Ty) (r : Rule) : Type 0 where
  pub takes : wants ≡ tags_for types
  pub makes : TagsAre (given ∷ []) r.given

abbrev pub IsFree : Rule → Type 0
IsFree r = r.demands ≡ []

-- a rule that is made, which is this one
by_rule_made : (P : Rule → Type 0) (made r : Rule) → (let x : Ruling Rule = Ok made in x) ≡ Ok r → P made → P r
by_rule_made P made r e p = subst P (ok_same made r e) p

number_free : (first : ℕ) (form : Result Linear TooLarge) → IsFree (gives_number first form)
number_free first (Ok form) = refl
number_free first (Err why) = refl

number_makes : (first : ℕ) (form : Result Linear TooLarge) → TagsAre (Number ∷ []) (gives_number first form).given
number_makes first (Ok form) = (refl, tt)
number_makes first (Err why) = (refl, tt)

product_free : (first : ℕ) (f g : Linear) (m n : Option ℤ) → IsFree (product first f m g n)
product_free first f g m (Some n) = number_free first (product_of f n)
product_free first f g (Some m) None = number_free first (product_of g m)
product_free first f g None None = refl

product_makes : (first : ℕ) (f g : Linear) (m n : Option ℤ) → TagsAre (Number ∷ []) (product first f m g n).given
product_makes first f g m (Some n) = number_makes first (product_of f n)
product_makes first f g (Some m) None = number_makes first (product_of g m)
product_makes first f g None None = (refl, tt)

-- ---- operands

numbers_taken : (types : List Ty) (p : Linear × Linear) → two_numbers types ≡ Ok p → Number ∷ Number ∷ [] ≡ tags_for types
unfolding tags_for
numbers_taken types p e = sym (ap tags_for (two_numbers_is types p e))

none_taken : (types : List Ty) (u : Unit {0}) → no_types types ≡ Ok u → [] ≡ tags_for types
unfolding tags_for
none_taken types u e = sym (ap tags_for (no_types_is types u e))

as_truth_is : (t : Ty) (u : Unit {0}) → as_truth t ≡ Ok u → t ≡ ty.Bool
as_truth_is (ty.Int g) u e = absurd (let bad : ⊥ = cc in bad)
as_truth_is ty.Bool u e = refl
as_truth_is (ty.Array q g) u e = absurd (let bad : ⊥ = cc in bad)
as_truth_is (ty.Named q) u e = absurd (let bad : ⊥ = cc in bad)

-- ---- each operation that gives a value

module _ (st : Setting) (first : ℕ) (types : List Ty) (r : Rule) where
  pub literal_tags : (n : ℤ) → rule st (operation.Literal n) types first ≡ Ok r → Tags [] Number types r × IsFree r
  unfolding rule
  literal_tags n e =
      let s = then_ok (no_types types) _ r e in
      by_rule_made (λ r. Tags [] Number types r × IsFree r) (gives_number first (sized [] n)) r s.second
      (record { takes = none_taken types s.value s.first; makes = number_makes first (sized [] n) }, number_free first (sized [] n))

  pub truth_tags : (b : Truth) → rule st (operation.Truth b) types first ≡ Ok r → Tags [] Flag types r × IsFree r
  unfolding rule
  truth_tags b e =
      let s = then_ok (no_types types) _ r e in
      by_rule_made (λ r. Tags [] Flag types r × IsFree r) (gives [] (ty.Bool ∷ [])) r s.second
      (record { takes = none_taken types s.value s.first; makes = (refl, tt) }, refl)

  pub add_tags : rule st operation.Add types first ≡ Ok r → Tags (Number ∷ Number ∷ []) Number types r × IsFree r
  unfolding rule
  add_tags e =
      let s = then_ok (two_numbers types) _ r e in
      by_rule_made (λ r. Tags (Number ∷ Number ∷ []) Number types r × IsFree r) (gives_number first (sum_of s.value.0 s.value.1)) r s.second
      (record { takes = numbers_taken types s.value s.first; makes = number_makes first (sum_of s.value.0 s.value.1) }, number_free first (sum_of s.value.0 s.value.1))

  pub sub_tags : rule st operation.Sub types first ≡ Ok r → Tags (Number ∷ Number ∷ []) Number types r × IsFree r
  unfolding rule
  sub_tags e =
      let s = then_ok (two_numbers types) _ r e in
      by_rule_made (λ r. Tags (Number ∷ Number ∷ []) Number types r × IsFree r) (gives_number first (difference_of s.value.0 s.value.1)) r s.second
      (record { takes = numbers_taken types s.value s.first; makes = number_makes first (difference_of s.value.0 s.value.1) }, number_free first (difference_of s.value.0 s.value.1))

  pub mul_tags : rule st operation.Mul types first ≡ Ok r → Tags (Number ∷ Number ∷ []) Number types r × IsFree r
  unfolding rule
  mul_tags e =
      let s = then_ok (two_numbers types) _ r e in
      let m = number_of s.value.0 in
      let n = number_of s.value.1 in
      by_rule_made (λ r. Tags (Number ∷ Number ∷ []) Number types r × IsFree r) (product first s.value.0 m s.value.1 n) r s.second
      (record { takes = numbers_taken types s.value s.first; makes = product_makes first s.value.0 s.value.1 m n }, product_free first s.value.0 s.value.1 m n)

  pub div_tags : rule st operation.Div types first ≡ Ok r → Tags (Number ∷ Number ∷ []) Number types r
  unfolding rule quotient
  div_tags e =
      let s = then_ok (two_numbers types) _ r e in
      let t = then_ok (needed (difference_of s.value.1 (constant_form (pos 1)))) _ r s.second in
      by_rule_made (λ r. Tags (Number ∷ Number ∷ []) Number types r) _ r t.second (record { takes = numbers_taken types s.value s.first; makes = (refl, tt) })

  pub mod_tags : rule st operation.Mod types first ≡ Ok r → Tags (Number ∷ Number ∷ []) Number types r
  unfolding rule remainder
  mod_tags e =
      let s = then_ok (two_numbers types) _ r e in
      let t = then_ok (needed (difference_of s.value.1 (constant_form (pos 1)))) _ r s.second in
      by_rule_made (λ r. Tags (Number ∷ Number ∷ []) Number types r) _ r t.second (record { takes = numbers_taken types s.value s.first; makes = (refl, tt) })

  pub compare_tags : (c : ℕ) → rule st (operation.Compare c) types first ≡ Ok r → Tags (Number ∷ Number ∷ []) Flag types r × IsFree r
  unfolding rule
  compare_tags c e =
      let s = then_ok (two_numbers types) _ r e in
      by_rule_made (λ r. Tags (Number ∷ Number ∷ []) Flag types r × IsFree r) (gives [] (ty.Bool ∷ [])) r s.second
      (record { takes = numbers_taken types s.value s.first; makes = (refl, tt) }, refl)

  pub length_tags : rule st operation.Length types first ≡ Ok r → Tags (Array ∷ []) Number types r × IsFree r
  unfolding rule measured tags_for
  length_tags e =
      let s = then_ok (one_type types) _ r e in
      let t = then_ok (as_array s.value) _ r s.second in
      let is : types ≡ ty.Array t.value.0 t.value.1 ∷ [] = one_type_is types s.value s.first ∙ ap (λ x. x ∷ []) (as_array_is s.value t.value t.first) in
      by_rule_made (λ r. Tags (Array ∷ []) Number types r × IsFree r) _ r t.second (record { takes = sym (ap tags_for is); makes = (refl, tt) }, refl)

  -- ---- branches

  pub branch_tags : (c : ℕ) → rule st (operation.Branch c) types first ≡ Ok r → (Number ∷ Number ∷ [] ≡ tags_for types) × IsFree r
  unfolding rule
  branch_tags c e =
      let s = then_ok (two_numbers types) _ r e in
      by_rule_made (λ r. (Number ∷ Number ∷ [] ≡ tags_for types) × IsFree r) (gives [] []) r s.second (numbers_taken types s.value s.first, refl)

  pub branch_truth_tags : (b : Truth) → rule st (operation.BranchTruth b) types first ≡ Ok r → (Flag ∷ [] ≡ tags_for types) × IsFree r
  unfolding rule tags_for
  branch_truth_tags b e =
      let s = then_ok (one_type types) _ r e in
      let t = then_ok (as_truth s.value) _ r s.second in
      by_rule_made (λ r. (Flag ∷ [] ≡ tags_for types) × IsFree r) (gives [] []) r t.second
      (sym (ap tags_for (one_type_is types s.value s.first ∙ ap (λ x. x ∷ []) (as_truth_is s.value t.value t.first))), refl)

  -- ---- what gives nothing

  pub print_tags : rule st operation.Print types first ≡ Ok r → (Number ∷ [] ≡ tags_for types) × IsFree r
  unfolding rule tags_for
  print_tags e =
      let s = then_ok (one_type types) _ r e in
      let t = then_ok (as_number s.value) _ r s.second in
      by_rule_made (λ r. (Number ∷ [] ≡ tags_for types) × IsFree r) (gives [] []) r t.second
      (sym (ap tags_for (one_type_is types s.value s.first ∙ ap (λ x. x ∷ []) (as_number_is s.value t.value t.first))), refl)
