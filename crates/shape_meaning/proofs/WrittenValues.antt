-- What is read from an index expression is worth what the expression is, and rows hold where the relations do that they are read from.
use Rattle.std.proofs.Common.{◌≡◌, ◌∙◌, sym, ap, subst, ℕ, ℤ, pos, negsuc, ◌+ℤ◌, ◌*ℤ◌, neg_ℤ, Bool, true, false, List, [], ◌∷◌, Ok, refl, arith}
use Rattle.std.specs.Prelude.{cond}
use Rattle.std.proofs.lemmas.Int.{ints}
use Rattle.xan_lin.proofs.Ring.{neg-mul}
use Rattle.xanadu_tree.specs.declared.linear.Linear.{Linear}
use Rattle.xanadu_tree.specs.declared.tree.declaration.Identifier.{Identifier}
use Rattle.xanadu_tree.specs.declared.tree.index.IndexTerm.{IndexTerm}
use Rattle.xanadu_tree.specs.declared.tree.index.IndexTerm.TheVariants as term
use Rattle.xanadu_tree.specs.declared.tree.index.Sign.{Sign}
use Rattle.xanadu_tree.specs.declared.tree.index.Sign.TheVariants.{Plus, Minus}
use Rattle.xanadu_tree.specs.PlainTree as plain
use Rattle.type_shapes.specs.Linears.{Form, constant_form, term_in, terms_in, index_in, row_in, signed, within, first_sign, opposite}
use Rattle.type_shapes.specs.Names.{Scope, meaning, or_unknown}
use Rattle.type_shapes.specs.Quantifiers.{Frame, index}
use Rattle.type_shapes.proofs.ShapedForms.{KeysRise, known_name}
use Rattle.type_shapes.proofs.ShapedLists.{then_ok, ok_same}
use Rattle.shape_meaning.specs.IndexValues.{Assignment, number_or_zero, naming, term_value, with_sign, rest_value, first_value, index_value, form_value}
use Rattle.shape_meaning.proofs.FormValues.{worth, Adds, term_adds, constant_adds, constant_worth, linear_worth}

-- ---- terms

adds_same : (values : Assignment) (form more : Form) (a b : ℤ) → a ≡ b → Adds values form a more → Adds values form b more
adds_same values form more a b same is = subst (λ n. Adds values form n more) same is

signed_is : (sign : Sign) (n : ℤ) → signed sign n ≡ with_sign sign n
signed_is Plus n = refl
signed_is Minus n = refl

-- so many times the number, with the sign
signed_product : (sign : Sign) (n v : ℤ) → signed sign n *ℤ v ≡ with_sign sign (n *ℤ v)
signed_product Plus n v = refl
signed_product Minus n v = neg-mul n v

one_times : (v : ℤ) → pos 1 *ℤ v ≡ v
one_times v = omega (arith, ints)

module _ (scope : Scope) (values : Assignment) where
  named_is : (name : Identifier) (v : ℕ) → or_unknown name.at (meaning name.name scope) ≡ Ok v → values v ≡ naming scope values name.name
  named_is name v e = sym (ap (number_or_zero values) (known_name name.at (meaning name.name scope) v e))

  pub term_is : (sign : Sign) (t : IndexTerm) (form y : Form) → KeysRise 0 form.coefficients → term_in scope sign t form ≡ Ok y
      → Adds values form (with_sign sign (term_value (naming scope values) t)) y
  unfolding term_in
  term_is sign (term.Number n at) form y rise e =
      subst (Adds values form (with_sign sign n)) (ok_same _ y e) (adds_same values form _ (signed sign n) (with_sign sign n) (signed_is sign n) (constant_adds values (signed sign n) form rise))
  term_is sign (term.Product n name at) form y rise e =
      let s = then_ok (or_unknown name.at (meaning name.name scope)) _ y e in
      let same = signed_product sign n (values s.value) ∙ ap (λ v. with_sign sign (n *ℤ v)) (named_is name s.value s.first) in
      subst (Adds values form _) (ok_same _ y s.second) (adds_same values form _ _ _ same (term_adds values s.value (signed sign n) form rise))
  term_is sign (term.Variable name) form y rise e =
      let s = then_ok (or_unknown name.at (meaning name.name scope)) _ y e in
      let same = signed_product sign (pos 1) (values s.value) ∙ ap (with_sign sign) (one_times (values s.value) ∙ named_is name s.value s.first) in
      subst (Adds values form _) (ok_same _ y s.second) (adds_same values form _ _ _ same (term_adds values s.value (signed sign (pos 1)) form rise))

  -- ---- sums

  adds_both : (form next y : Form) (a b : ℤ) → Adds values form a next → Adds values next b y → Adds values form (a +ℤ b) y
  adds_both form next y a b one two = record { rise = two.rise; value = omega (arith, ints, one.value, two.value) }

  adds_none : (form y : Form) → KeysRise 0 form.coefficients → form ≡ y → Adds values form (pos 0) y
  adds_none form y rise same = subst (Adds values form (pos 0)) same (record { rise = rise; value = omega (arith, ints) })

  within_is : (side part : Sign) (n : ℤ) → with_sign (within side part) n ≡ with_sign side (with_sign part n)
  within_is Plus part n = refl
  within_is Minus Plus n = refl
  within_is Minus Minus n = omega (arith, ints)

  sign_sum : (side : Sign) (a b : ℤ) → with_sign side a +ℤ with_sign side b ≡ with_sign side (a +ℤ b)
  sign_sum Plus a b = refl
  sign_sum Minus a b = omega (arith, ints)

  sign_none : (side : Sign) → pos 0 ≡ with_sign side (pos 0)
  sign_none Plus = refl
  sign_none Minus = omega (arith, ints)

  terms_are : (side : Sign) (ts : List (Sign × IndexTerm)) (form y : Form) → KeysRise 0 form.coefficients → terms_in scope side ts form ≡ Ok y
      → Adds values form (with_sign side (rest_value (naming scope values) ts)) y
  unfolding terms_in
  terms_are side [] form y rise e = adds_same values form y _ _ (sign_none side) (adds_none form y rise (ok_same form y e))
  terms_are side (t ∷ ts) form y rise e =
      let s = then_ok (term_in scope (within side t.0) t.1 form) _ y e in
      let one = term_is (within side t.0) t.1 form s.value rise s.first in
      let more = terms_are side ts s.value y one.rise s.second in
      let n = term_value (naming scope values) t.1 in
      adds_same values form y _ _
      (ap (λ m. m +ℤ with_sign side (rest_value (naming scope values) ts)) (within_is side t.0 n) ∙ sign_sum side (with_sign t.0 n) (rest_value (naming scope values) ts))
      (adds_both form s.value y _ _ one more)

  first_is : (negative : Bool) (n : ℤ) → with_sign (first_sign negative) n ≡ first_value negative n
  first_is true n = refl
  first_is false n = refl

  pub index_is : (side : Sign) (x : plain.IndexExpression) (form y : Form) → KeysRise 0 form.coefficients → index_in scope side x form ≡ Ok y
      → Adds values form (with_sign side (index_value (naming scope values) x)) y
  unfolding index_in
  index_is side x form y rise e =
      let s = then_ok (term_in scope (within side (first_sign x.negative)) x.first form) _ y e in
      let one = term_is (within side (first_sign x.negative)) x.first form s.value rise s.first in
      let more = terms_are side x.rest s.value y one.rise s.second in
      let n = term_value (naming scope values) x.first in
      adds_same values form y _ _
      (ap (λ m. m +ℤ with_sign side (rest_value (naming scope values) x.rest)) (within_is side (first_sign x.negative) n ∙ ap (with_sign side) (first_is x.negative n))
      ∙ sign_sum side (first_value x.negative n) (rest_value (naming scope values) x.rest))
      (adds_both form s.value y _ _ one more)

  -- ---- an index as it is written

  pub form_is : (x : plain.IndexExpression) (frame : Frame) (y : Linear × Frame) → index scope x frame ≡ Ok y → form_value values y.0 ≡ index_value (naming scope values) x
  unfolding index
  form_is x frame y e =
      let s = then_ok (index_in scope Plus x (constant_form (pos 0))) _ y e in
      let adds = index_is Plus x (constant_form (pos 0)) s.value tt s.first in
      let none = constant_worth values (pos 0) in
      let whole : worth values s.value ≡ index_value (naming scope values) x = omega (arith, ints, adds.value, none) in
      sym (ap (λ z. form_value values z.0) (ok_same _ y s.second)) ∙ linear_worth values s.value ∙ whole

  -- ---- rows

  opposite_is : (side : Sign) (n : ℤ) → with_sign (opposite side) n ≡ neg_ℤ (with_sign side n)
  opposite_is Plus n = refl
  opposite_is Minus n = omega (arith, ints)

  pub row_is : (strict : Bool) (side : Sign) (r : plain.Relation) (y : Linear) → row_in scope strict side r ≡ Ok y
      → form_value values y ≡ (cond strict (negsuc 0) (pos 0) +ℤ with_sign side (index_value (naming scope values) r.left)) +ℤ with_sign (opposite side) (index_value (naming scope values) r.right)
  unfolding row_in
  row_is strict side r y e =
      let start = constant_form (cond strict (negsuc 0) (pos 0)) in
      let s = then_ok (index_in scope side r.left start) _ y e in
      let t = then_ok (index_in scope (opposite side) r.right s.value) _ y s.second in
      let left = index_is side r.left start s.value tt s.first in
      let right = index_is (opposite side) r.right s.value t.value left.rise t.first in
      let none = constant_worth values (cond strict (negsuc 0) (pos 0)) in
      let whole : worth values t.value ≡ (cond strict (negsuc 0) (pos 0) +ℤ with_sign side (index_value (naming scope values) r.left)) +ℤ with_sign (opposite side) (index_value (naming scope values) r.right) =
      omega (arith, ints, left.value, right.value, none) in
      sym (ap (form_value values) (ok_same _ y t.second)) ∙ linear_worth values t.value ∙ whole
