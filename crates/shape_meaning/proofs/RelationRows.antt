-- The rows that are read from relations hold exactly where the relations do.
use Rattle.std.proofs.Common.{◌≡◌, sym, subst, ℤ, pos, negsuc, ◌+ℤ◌, neg_ℤ, ◌≤ℤ◌, ◌<ℤ◌, ◌↔◌, true, false, List, [], ◌∷◌, ◌++◌, Ok, arith}
use Rattle.std.specs.List.{AllByRecursion}
use Rattle.std.proofs.lemmas.Int.{ints}
use Rattle.xanadu_tree.specs.declared.linear.Linear.{Linear}
use Rattle.xanadu_tree.specs.declared.tree.index.IndexRelation.{IndexRelation}
use Rattle.xanadu_tree.specs.declared.tree.index.IndexRelation.TheVariants as relation
use Rattle.xanadu_tree.specs.declared.tree.index.Sign.TheVariants.{Plus, Minus}
use Rattle.xanadu_tree.specs.PlainTree as plain
use Rattle.type_shapes.specs.Linears.{row_in, with_row, relation_in, relations_in}
use Rattle.type_shapes.specs.Names.{Scope}
use Rattle.type_shapes.proofs.ShapedLists.{then_ok, ok_same, all_append}
use Rattle.shape_meaning.specs.IndexValues.{Assignment, naming, index_value, Relates, RowHolds, RowsHold, AreTrue}
use Rattle.shape_meaning.proofs.WrittenValues.{row_is}

-- ---- one row, over its value

says_less : (f l r : ℤ) → f ≡ (negsuc 0 +ℤ neg_ℤ l) +ℤ r → (pos 0 ≤ℤ f) ↔ (l <ℤ r)
says_less f l r e = (λ h. omega (arith, ints, e, h), λ h. omega (arith, ints, e, h))

says_at_most : (f l r : ℤ) → f ≡ (pos 0 +ℤ neg_ℤ l) +ℤ r → (pos 0 ≤ℤ f) ↔ (l ≤ℤ r)
says_at_most f l r e = (λ h. omega (arith, ints, e, h), λ h. omega (arith, ints, e, h))

says_greater : (f l r : ℤ) → f ≡ (negsuc 0 +ℤ l) +ℤ neg_ℤ r → (pos 0 ≤ℤ f) ↔ (r <ℤ l)
says_greater f l r e = (λ h. omega (arith, ints, e, h), λ h. omega (arith, ints, e, h))

says_at_least : (f l r : ℤ) → f ≡ (pos 0 +ℤ l) +ℤ neg_ℤ r → (pos 0 ≤ℤ f) ↔ (r ≤ℤ l)
says_at_least f l r e = (λ h. omega (arith, ints, e, h), λ h. omega (arith, ints, e, h))

-- both orders are the one number
same_number : (l r : ℤ) → r ≤ℤ l → l ≤ℤ r → l ≡ r
same_number l r one two = omega (arith, ints, one, two)

not_less : (l r : ℤ) → l ≡ r → r ≤ℤ l
not_less l r same = omega (arith, ints, same)

not_more : (l r : ℤ) → l ≡ r → l ≤ℤ r
not_more l r same = omega (arith, ints, same)

-- ---- a row more

all_front : (P : Linear → Type 0) (xs : List Linear) (x : Linear) → AllByRecursion P (xs ++ (x ∷ [])) → AllByRecursion P xs × P x
all_front P [] x all = (tt, all.0)
all_front P (y ∷ ys) x all = let later = all_front P ys x all.1 in ((all.0, later.0), later.1)

-- these rows hold where those do and the claim
abbrev Says : Assignment → (made rows : List Linear) → Type 0 → Type 0
Says values made rows claim = RowsHold values rows ↔ (RowsHold values made × claim)

module _ (scope : Scope) (values : Assignment) (r : plain.Relation) where
  abbrev left : ℤ
  left = index_value (naming scope values) r.left

  abbrev right : ℤ
  right = index_value (naming scope values) r.right

  -- one row, by what it says
  row_says : (made rows : List Linear) (row : Linear) (claim : Type 0) → made ++ (row ∷ []) ≡ rows → (RowHolds values row ↔ claim) → Says values made rows claim
  row_says made rows row claim same says = (
    λ all. let parts = all_front (RowHolds values) made row (subst (RowsHold values) (sym same) all) in (parts.0, says.0 parts.1),
    λ both. subst (RowsHold values) same (all_append (RowHolds values) made (row ∷ []) both.0 (says.1 both.1, tt)),
  )

  at_least_says : (made rows : List Linear) → with_row scope false Plus r made ≡ Ok rows → Says values made rows (right ≤ℤ left)
  at_least_says made rows e =
      let s = then_ok (row_in scope false Plus r) _ rows e in
      row_says made rows s.value (right ≤ℤ left) (ok_same _ rows s.second) (says_at_least _ left right (row_is scope values false Plus r s.value s.first))

  at_most_says : (made rows : List Linear) → with_row scope false Minus r made ≡ Ok rows → Says values made rows (left ≤ℤ right)
  at_most_says made rows e =
      let s = then_ok (row_in scope false Minus r) _ rows e in
      row_says made rows s.value (left ≤ℤ right) (ok_same _ rows s.second) (says_at_most _ left right (row_is scope values false Minus r s.value s.first))

  relation_says : (made rows : List Linear) (which : IndexRelation) → relation_in scope which r made ≡ Ok rows → Says values made rows (Relates which left right)
  unfolding relation_in
  relation_says made rows relation.Less e =
      let s = then_ok (row_in scope true Minus r) _ rows e in
      row_says made rows s.value (left <ℤ right) (ok_same _ rows s.second) (says_less _ left right (row_is scope values true Minus r s.value s.first))
  relation_says made rows relation.AtMost e = at_most_says made rows e
  relation_says made rows relation.Greater e =
      let s = then_ok (row_in scope true Plus r) _ rows e in
      row_says made rows s.value (right <ℤ left) (ok_same _ rows s.second) (says_greater _ left right (row_is scope values true Plus r s.value s.first))
  relation_says made rows relation.AtLeast e = at_least_says made rows e
  relation_says made rows relation.Equal e =
      let s = then_ok (with_row scope false Plus r made) _ rows e in
      let one = at_least_says made s.value s.first in
      let two = at_most_says s.value rows s.second in (
        λ all. let later = two.0 all in let first = one.0 later.0 in (first.0, same_number left right first.1 later.1),
        λ both. two.1 (one.1 (both.0, not_less left right both.1), not_more left right both.1),
      )

-- ---- all of them

pub relations_say : (scope : Scope) (values : Assignment) (rs : List plain.Relation) (made rows : List Linear) → relations_in scope rs made ≡ Ok rows
    → RowsHold values rows ↔ (RowsHold values made × AreTrue (naming scope values) rs)
unfolding relations_in
relations_say scope values [] made rows e =
    let same = ok_same made rows e in
    (λ all. (subst (RowsHold values) (sym same) all, tt), λ both. subst (RowsHold values) same both.0)
relations_say scope values (r ∷ rs) made rows e =
    let s = then_ok (relation_in scope r.relation r made) _ rows e in
    let one = relation_says scope values r made s.value r.relation s.first in
    let more = relations_say scope values rs s.value rows s.second in (
      λ all. let later = more.0 all in let first = one.0 later.0 in (first.0, (first.1, later.1)),
      λ both. more.1 (one.1 (both.0, both.1.0), both.1.1),
    )
