-- Forms that are read are forms: their terms rise, none is zero, and they name what is in scope.
use Rattle.std.proofs.Common.{◌≡◌, ◌≢◌, ap, subst, ℕ, suc, ℤ, pos, negsuc, ◌<◌, ◌≤◌, Bool, true, false, List, [], ◌∷◌, ◌++◌, map, Option, Some, None, Ok, refl, arith}
use Rattle.std.specs.Prelude.{cond, filter, not}
use Rattle.std.specs.List.{AllByRecursion}
use Rattle.std.specs.BTreeMap.{insert_entry}
use Rattle.std.specs.declared.cmp.Ordering.{Ordering}
use Rattle.std.specs.declared.cmp.Ordering.TheVariants.{Less, Equal, Greater}
use Rattle.std.specs.Ordering.{nat_cmp, int_eq, match_ordering, MatchOrdering}
use Rattle.std.proofs.lemmas.Cmp.{ranked}
use Rattle.xanadu_tree.specs.declared.linear.Linear.{Linear}
use Rattle.xanadu_tree.specs.declared.tree.index.IndexRelation.{IndexRelation}
use Rattle.xanadu_tree.specs.declared.tree.index.IndexRelation.TheVariants as relation
use Rattle.xanadu_tree.specs.declared.tree.index.IndexTerm.{IndexTerm}
use Rattle.xanadu_tree.specs.declared.tree.index.IndexTerm.TheVariants as term
use Rattle.xanadu_tree.specs.declared.tree.index.Sign.{Sign}
use Rattle.xanadu_tree.specs.declared.tree.index.Sign.TheVariants.{Plus, Minus}
use Rattle.xanadu_tree.specs.IndexRules.{Stretch, Reaches, AreRising, IsForm}
use Rattle.xanadu_tree.specs.PlainTree as plain
use Rattle.type_shapes.specs.Faults.{◌>>=◌}
use Rattle.type_shapes.specs.Linears.{Form, constant_form, with_term, with_constant, is_term, term_of, linear, term_in, terms_in, index_in, row_in, with_row, relation_in, relations_in, signed, within, first_sign, opposite}
use Rattle.type_shapes.specs.Names.{Scope, meaning, or_unknown}
use Rattle.type_shapes.proofs.ShapedLists.{then_ok, ok_same, all_with, all_found}

-- each name means an index variable of these quantifiers
abbrev pub Known : List Stretch → Scope → Type 0
Known reach scope = AllByRecursion (λ e. Reaches reach e.1) scope

abbrev pub KeysRise : ℕ → List (ℕ × ℤ) → Type 0
KeysRise low [] = Unit {0}
KeysRise low (e ∷ es) = (low ≤ e.0) × KeysRise (suc e.0) es

-- a form under way
pub record Keeps (reach : List Stretch) (form : Form) : Type 0 where
  pub rise : KeysRise 0 form.coefficients
  pub names : AllByRecursion (λ e. Reaches reach e.0) form.coefficients

pub found_name : (reach : List Stretch) (scope : Scope) (name : List ℕ) (v : ℕ) → Known reach scope → meaning name scope ≡ Some v → Reaches reach v
unfolding meaning
found_name reach scope name v known e = all_found (Reaches reach) _ scope v known e

-- ---- an entry put to its place

rise_lower : (low high : ℕ) (es : List (ℕ × ℤ)) → low ≤ high → KeysRise high es → KeysRise low es
rise_lower low high [] le h = tt
rise_lower low high (e ∷ es) le h = (omega (arith, h.0), h.1)

pub rise_insert : (low : ℕ) (es : List (ℕ × ℤ)) (k : ℕ) (v : ℤ) → KeysRise low es → low ≤ k → KeysRise low (insert_entry nat_cmp es k v)
rise_insert low [] k v h le = (le, tt)
rise_insert low (e ∷ es) k v h le =
    by (nat_cmp k e.0) (ranked k e.0 (nat_cmp k e.0) refl) (λ above. rise_insert (suc e.0) es k v h.1 above)
  where
    by : (o : Ordering) → MatchOrdering o (k < e.0) (k ≡ e.0) (e.0 < k) → (suc e.0 ≤ k → KeysRise (suc e.0) (insert_entry nat_cmp es k v))
        → KeysRise low (match_ordering o ((k, v) ∷ e ∷ es) ((e.0, v) ∷ es) (e ∷ insert_entry nat_cmp es k v))
    by Less at later = (le, (omega arith, h.1))
    by Equal at later = (h.0, h.1)
    by Greater at later = (h.0, later (omega arith))

names_insert : (P : ℕ → Type 0) (es : List (ℕ × ℤ)) (k : ℕ) (v : ℤ) → AllByRecursion (λ e. P e.0) es → P k
    → AllByRecursion (λ e. P e.0) (insert_entry nat_cmp es k v)
names_insert P [] k v h p = (p, tt)
names_insert P (e ∷ es) k v h p = by (nat_cmp k e.0) (names_insert P es k v h.1 p)
  where
    by : (o : Ordering) → AllByRecursion (λ e. P e.0) (insert_entry nat_cmp es k v)
        → AllByRecursion (λ e. P e.0) (match_ordering o ((k, v) ∷ e ∷ es) ((e.0, v) ∷ es) (e ∷ insert_entry nat_cmp es k v))
    by Less later = (p, (h.0, h.1))
    by Equal later = (h.0, h.1)
    by Greater later = (h.0, later)

pub with_term_keeps : (reach : List Stretch) (v : ℕ) (times : ℤ) (form : Form) → Reaches reach v → Keeps reach form → Keeps reach (with_term v times form)
unfolding with_term
with_term_keeps reach v times form r k = record {
  rise = rise_insert 0 form.coefficients v _ k.rise (omega arith);
  names = names_insert (Reaches reach) form.coefficients v _ k.names r;
}

pub with_constant_keeps : (reach : List Stretch) (n : ℤ) (form : Form) → Keeps reach form → Keeps reach (with_constant n form)
unfolding with_constant
with_constant_keeps reach n form k = record { rise = k.rise; names = k.names }

pub constant_keeps : (reach : List Stretch) (n : ℤ) → Keeps reach (constant_form n)
constant_keeps reach n = record { rise = tt; names = tt }

-- ---- the finished form

not_zero : (n : ℤ) → not (int_eq n (pos 0)) ≡ true → n ≢ pos 0
not_zero n test same = absurd (cc)

terms_rise : (low : ℕ) (es : List (ℕ × ℤ)) → KeysRise low es → AreRising low (map term_of (filter is_term es))
terms_rise low [] h = tt
terms_rise low (e ∷ es) h = by (is_term e) refl (terms_rise (suc e.0) es h.1) (terms_rise low es (rise_lower low (suc e.0) es (omega (arith, h.0)) h.1))
  where
    by : (b : Bool) → is_term e ≡ b → AreRising (suc e.0) (map term_of (filter is_term es)) → AreRising low (map term_of (filter is_term es))
        → AreRising low (map term_of (cond b (e ∷ filter is_term es) (filter is_term es)))
    by true test one other = (h.0, not_zero e.1 test, one)
    by false test one other = other

terms_named : (P : ℕ → Type 0) (es : List (ℕ × ℤ)) → AllByRecursion (λ e. P e.0) es → AllByRecursion (λ t. P t.1) (map term_of (filter is_term es))
terms_named P [] h = tt
terms_named P (e ∷ es) h = by (is_term e) (terms_named P es h.1)
  where
    by : (b : Bool) → AllByRecursion (λ t. P t.1) (map term_of (filter is_term es))
        → AllByRecursion (λ t. P t.1) (map term_of (cond b (e ∷ filter is_term es) (filter is_term es)))
    by true later = (h.0, later)
    by false later = later

pub linear_is : (reach : List Stretch) (form : Form) → Keeps reach form → IsForm reach (linear form)
unfolding linear
linear_is reach form k = record { rising = terms_rise 0 form.coefficients k.rise; names = terms_named (Reaches reach) form.coefficients k.names }

-- ---- reading

-- a name that means something
pub known_name : {A : Type 0} (at : ℕ) (o : Option A) (x : A) → or_unknown at o ≡ Ok x → o ≡ Some x
known_name at None x e = absurd (cc)
known_name at (Some y) x e = ap Some (ok_same y x e)

term_keeps : (reach : List Stretch) (scope : Scope) (sign : Sign) (t : IndexTerm) (form y : Form) → Known reach scope → Keeps reach form
    → term_in scope sign t form ≡ Ok y → Keeps reach y
unfolding term_in
term_keeps reach scope sign (term.Number n at) form y known keeps e = subst (Keeps reach) (ok_same _ y e) (with_constant_keeps reach _ form keeps)
term_keeps reach scope sign (term.Product n name at) form y known keeps e =
    let t = then_ok (or_unknown name.at (meaning name.name scope)) (λ v. Ok (with_term v (signed sign n) form)) y e in
    subst (Keeps reach) (ok_same _ y t.second)
    (with_term_keeps reach t.value _ form (found_name reach scope name.name t.value known (known_name name.at _ t.value t.first)) keeps)
term_keeps reach scope sign (term.Variable name) form y known keeps e =
    let t = then_ok (or_unknown name.at (meaning name.name scope)) (λ v. Ok (with_term v (signed sign (pos 1)) form)) y e in
    subst (Keeps reach) (ok_same _ y t.second)
    (with_term_keeps reach t.value _ form (found_name reach scope name.name t.value known (known_name name.at _ t.value t.first)) keeps)

terms_keep : (reach : List Stretch) (scope : Scope) (side : Sign) (ts : List (Sign × IndexTerm)) (form y : Form) → Known reach scope → Keeps reach form
    → terms_in scope side ts form ≡ Ok y → Keeps reach y
unfolding terms_in
terms_keep reach scope side [] form y known keeps e = subst (Keeps reach) (ok_same form y e) keeps
terms_keep reach scope side (t ∷ ts) form y known keeps e =
    let s = then_ok (term_in scope (within side t.0) t.1 form) (λ more. terms_in scope side ts more) y e in
    terms_keep reach scope side ts s.value y known (term_keeps reach scope _ t.1 form s.value known keeps s.first) s.second

pub index_keeps : (reach : List Stretch) (scope : Scope) (side : Sign) (x : plain.IndexExpression) (form y : Form) → Known reach scope → Keeps reach form
    → index_in scope side x form ≡ Ok y → Keeps reach y
unfolding index_in
index_keeps reach scope side x form y known keeps e =
    let s = then_ok (term_in scope (within side (first_sign x.negative)) x.first form) (λ more. terms_in scope side x.rest more) y e in
    terms_keep reach scope side x.rest s.value y known (term_keeps reach scope _ x.first form s.value known keeps s.first) s.second

row_is : (reach : List Stretch) (scope : Scope) (strict : Bool) (side : Sign) (r : plain.Relation) (y : Linear) → Known reach scope
    → row_in scope strict side r ≡ Ok y → IsForm reach y
unfolding row_in
row_is reach scope strict side r y known e =
    let s = then_ok (index_in scope side r.left (constant_form (cond strict (negsuc 0) (pos 0))))
    (λ left. index_in scope (opposite side) r.right left >>= (λ both. Ok (linear both))) y e in
    let t = then_ok (index_in scope (opposite side) r.right s.value) (λ both. Ok (linear both)) y s.second in
    let left = index_keeps reach scope side r.left _ s.value known (constant_keeps reach _) s.first in
    subst (IsForm reach) (ok_same _ y t.second) (linear_is reach t.value (index_keeps reach scope _ r.right s.value t.value known left t.first))

abbrev pub AreForms : List Stretch → List Linear → Type 0
AreForms reach rows = AllByRecursion (IsForm reach) rows

with_row_are : (reach : List Stretch) (scope : Scope) (strict : Bool) (side : Sign) (r : plain.Relation) (rows ys : List Linear) → Known reach scope
    → AreForms reach rows → with_row scope strict side r rows ≡ Ok ys → AreForms reach ys
with_row_are reach scope strict side r rows ys known are e =
    let s = then_ok (row_in scope strict side r) (λ row. Ok (rows ++ (row ∷ []))) ys e in
    subst (AreForms reach) (ok_same _ ys s.second)
    (all_with (IsForm reach) rows s.value are (row_is reach scope strict side r s.value known s.first))

relation_are : (reach : List Stretch) (scope : Scope) (rel : IndexRelation) (r : plain.Relation) (rows ys : List Linear) → Known reach scope
    → AreForms reach rows → relation_in scope rel r rows ≡ Ok ys → AreForms reach ys
unfolding relation_in
relation_are reach scope relation.Less r rows ys known are e = with_row_are reach scope _ _ r rows ys known are e
relation_are reach scope relation.AtMost r rows ys known are e = with_row_are reach scope _ _ r rows ys known are e
relation_are reach scope relation.Greater r rows ys known are e = with_row_are reach scope _ _ r rows ys known are e
relation_are reach scope relation.AtLeast r rows ys known are e = with_row_are reach scope _ _ r rows ys known are e
relation_are reach scope relation.Equal r rows ys known are e =
    let s = then_ok (with_row scope false Plus r rows) (λ more. with_row scope false Minus r more) ys e in
    with_row_are reach scope _ _ r s.value ys known (with_row_are reach scope _ _ r rows s.value known are s.first) s.second

pub relations_are : (reach : List Stretch) (scope : Scope) (rs : List plain.Relation) (rows ys : List Linear) → Known reach scope
    → AreForms reach rows → relations_in scope rs rows ≡ Ok ys → AreForms reach ys
unfolding relations_in
relations_are reach scope [] rows ys known are e = subst (AreForms reach) (ok_same rows ys e) are
relations_are reach scope (r ∷ rs) rows ys known are e =
    let s = then_ok (relation_in scope r.relation r rows) (λ more. relations_in scope rs more) ys e in
    relations_are reach scope rs s.value ys known (relation_are reach scope r.relation r rows s.value known are s.first) s.second
