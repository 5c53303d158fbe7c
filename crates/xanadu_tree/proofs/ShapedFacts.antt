-- What follows from the rules of a core.
use Rattle.std.proofs.Common.{◌≡◌, ◌∙◌, sym, ap, ℕ, zero, suc, ◌+◌, List, [], ◌∷◌, ◌++◌, Option, Some, None, refl, arith, inl, inr}
use Rattle.std.specs.List.{range_with_len}
use Rattle.std.proofs.lemmas.Option.{same_Some}
use Rattle.xanadu_tree.specs.declared.stmt.Clause.{Clause}
use Rattle.xanadu_tree.specs.declared.types.Kind.{Kind}
use Rattle.xanadu_tree.specs.declared.types.Kind.TheVariants as kind
use Rattle.xanadu_tree.specs.KindRules.{Setting, cell_kind, HasKind}
use Rattle.xanadu_tree.specs.BodyRules.{Point, behind_block, IsClauseIfAny, IsStatement, AreStatements, AreNumbered, clause_indices, statement_indices, all_indices}
use Rattle.xanadu_tree.specs.Plain as plain

-- ---- an expression has one kind

element_of : ℕ → Kind → ℕ
element_of other (kind.Array element) = element
element_of other _ = other

same_element : (a b : ℕ) → kind.Array a ≡ kind.Array b → a ≡ b
unfolding element_of
same_element a b same = ap (element_of a) same

pub one_kind : (set : Setting) (visible : List ℕ) (e : plain.Expr) (j k : Kind) → HasKind set visible e j → HasKind set visible e k → j ≡ k
unfolding HasKind
one_kind set visible (plain.Int number) j k one two = one ∙ sym two
one_kind set visible (plain.Bool truth) j k one two = one ∙ sym two
one_kind set visible (plain.Var x) j k one two = same_Some j k (sym one.1 ∙ two.1)
one_kind set visible (plain.Neg operand) j k one two = one.0 ∙ sym two.0
one_kind set visible (plain.Chain first rest) j k one two = one.0 ∙ sym two.0
one_kind set visible (plain.Compare rel left right) j k one two = one.0 ∙ sym two.0
one_kind set visible (plain.Index array index at) j k one two =
    let same = same_element one.0 two.0 (one_kind set visible array (kind.Array one.0) (kind.Array two.0) one.1 two.1) in
    same_Some j k (sym one.3 ∙ ap (cell_kind set.types) same ∙ two.3)
one_kind set visible (plain.Len array) j k one two = one.1 ∙ sym two.1
one_kind set visible (plain.Call fun args at) j k one two =
    one.3 ∙ ap (λ h. h.result) (same_Some one.0 two.0 (sym one.1 ∙ two.1)) ∙ sym two.3
one_kind set visible (plain.Make number args at) j k one two = one.3 ∙ sym two.3
one_kind set visible (plain.New element len fill at) j k one two = one.1 ∙ sym two.1

-- ---- the index variables of clauses are numbered in the order of the text

range_both : (low m n : ℕ) → range_with_len low m ++ range_with_len (low + m) n ≡ range_with_len low (m + n)
range_both low zero n =
    let a : low + 0 ≡ low = omega arith in
    let b : 0 + n ≡ n = omega arith in
    ap (λ l. range_with_len l n) a ∙ sym (ap (range_with_len low) b)
range_both low (suc m) n =
    let a : low + suc m ≡ (low + 1) + m = omega arith in
    let b : suc m + n ≡ suc (m + n) = omega arith in
    ap (λ l. low ∷ (range_with_len (low + 1) m ++ range_with_len l n)) a ∙ ap (λ xs. low ∷ xs) (range_both (low + 1) m n) ∙ sym (ap (range_with_len low) b)

numbers_both : (before middle after end : Point) (xs ys : List ℕ) → middle.indices ≡ after.indices → AreNumbered before middle xs → AreNumbered after end ys → AreNumbered before end (xs ++ ys)
numbers_both before middle after end xs ys same one two = record {
  count = one.count + two.count;
  last = omega (arith, one.last, two.last, same);
  are = ap (λ zs. zs ++ ys) one.are ∙ ap (λ zs. range_with_len before.indices one.count ++ zs)
      (two.are ∙ ap (λ l. range_with_len l two.count) (sym same ∙ one.last)) ∙ range_both before.indices one.count two.count;
}

numbers_none : (before after : Point) → after ≡ before → AreNumbered before after []
numbers_none before after same = record { count = 0; last = ap (λ p. p.indices) same ∙ omega arith; are = refl }

clause_numbers : (set : Setting) (before : Point) (c : Option Clause) (after : Point) → IsClauseIfAny set before c after → AreNumbered before after (clause_indices c)
clause_numbers set before None after is = numbers_none before after is
clause_numbers set before (Some c) after is = record {
  count = c.quant.count;
  last = ap (λ p. p.indices) is.1;
  are = ap (λ l. range_with_len l c.quant.count) is.0.first;
}

mutual
  unfolding AreStatements

  pub statement_numbers : (set : Setting) (before : Point) (s : plain.Stmt) (after : Point) → IsStatement set before s after → AreNumbered before after (statement_indices s)
  statement_numbers set before (plain.Set x e) after is =
      elim is.4 [ inl seen ↦ numbers_none before after seen.1 | inr next ↦ record { count = 0; last = ap (λ p. p.indices) next.1 ∙ omega arith; are = refl } ]
  statement_numbers set before (plain.Split xs e at) after is = record { count = 0; last = ap (λ p. p.indices) is.4.behind ∙ omega arith; are = refl }
  statement_numbers set before (plain.Store array index e at) after is = numbers_none before after is.6
  statement_numbers set before (plain.Do call) after is = numbers_none before after is.3
  statement_numbers set before (plain.Print number) after is = numbers_none before after is.1
  statement_numbers set before (plain.If test on_true on_false join at) after is =
      let first = all_numbers set before on_true is.0 is.3 in
      let second = all_numbers set (behind_block before is.0) on_false is.1 is.4 in
      let clause = clause_numbers set (behind_block before is.1) join after is.5 in
      numbers_both before is.0 (behind_block before is.0) after (all_indices on_true) (all_indices on_false ++ clause_indices join) refl first
      (numbers_both (behind_block before is.0) is.1 (behind_block before is.1) after (all_indices on_false) (clause_indices join) refl second clause)
  statement_numbers set before (plain.While test head body at) after is =
      let clause = clause_numbers set before head is.0 is.3 in
      let turn = all_numbers set is.0 body is.1 is.4 in
      let n = numbers_both before is.0 is.0 is.1 (clause_indices head) (all_indices body) refl clause turn in
      record { count = n.count; last = ap (λ p. p.indices) is.5 ∙ n.last; are = n.are }
  statement_numbers set before (plain.Return value at) after is = numbers_none before after is.1

  pub all_numbers : (set : Setting) (before : Point) (ss : plain.Stmts) (after : Point) → AreStatements set before ss after → AreNumbered before after (all_indices ss)
  all_numbers set before plain.NoStmt after are = numbers_none before after are
  all_numbers set before (plain.AStmt s ss) after are =
      numbers_both before are.0 are.0 after (statement_indices s) (all_indices ss) refl (statement_numbers set before s are.0 are.1) (all_numbers set are.0 ss after are.3)
