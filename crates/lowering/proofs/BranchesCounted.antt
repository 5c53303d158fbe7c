-- Conditional branches are the leaves of tests.
use Rattle.std.proofs.Common.{◌≡◌, ℕ, suc, ◌+◌, List, [], ◌∷◌, ◌++◌, length, Bool as Truth, true, false, not, Option, Some, None, refl, ap, ◌∙◌, arith}
use Rattle.xanadu_tree.specs.BodyRules.{completes_all}
use Rattle.xanadu_tree.specs.Plain as core
use Rattle.typed_core.specs.Places.{behind}
use Rattle.three_address.specs.declared.instruction.LowInstr.{LowInstr}
use Rattle.value_lowering.specs.Frames.{Frame, operand_place}
use Rattle.lowering.specs.Lowered.{leads, numbered, renumbered}
use Rattle.value_lowering.specs.OneInstruction.{Aim, branch, truth_branch, truth_op, one_if, jump_if}
use Rattle.lowering.specs.StatementCode.{statement_size, first_at, second_at, behind_loop, unless, return_code, statement_code, block_code}
use Rattle.lowering.specs.TestCode.{leaf_code, turned, inner_aim, past_parts, test_size, test_code, parts_code}
use Rattle.lowering.specs.TestLeaves.{is_conditional, conditional_branches, test_leaves, parts_leaves, statement_leaves, block_leaves}
use Rattle.value_lowering.specs.ValueCode.{operand_at}
use Rattle.lowering.proofs.StraightCode.{Each, GoesOn, Straight, value_straight, operand_straight, straight_end, straight_and}

-- code has so many conditional branches
pub record Branches (code : List LowInstr) (n : ℕ) : Type 0 where
  pub is : conditional_branches code ≡ n

branches_none : Branches [] 0
unfolding conditional_branches
branches_none = record { is = refl }

branches_more : (i : LowInstr) (code : List LowInstr) (n : ℕ) → Branches code n → Branches (i ∷ code) (one_if (is_conditional i.op) + n)
unfolding conditional_branches
branches_more i code n h = record { is = ap (λ k. one_if (is_conditional i.op) + k) h.is }

branches_and : (one two : List LowInstr) (m n : ℕ) → Branches one m → Branches two n → Branches (one ++ two) (m + n)
unfolding conditional_branches
branches_and [] two m n h k = record { is = omega (arith, h.is, k.is) }
branches_and (i ∷ one) two m n h k =
    let rest = branches_and one two (conditional_branches one) n (record { is = refl }) k in
    record { is = omega (arith, h.is, rest.is) }

branches_as : (code : List LowInstr) (m n : ℕ) → m ≡ n → Branches code m → Branches code n
branches_as code m n e h = record { is = h.is ∙ e }

straight_branches : (code : List LowInstr) → Straight code → Branches code 0
straight_branches code h = none code h.each
  where
    none : (code : List LowInstr) → Each (λ i. GoesOn i.op) code → Branches code 0
    none [] h = branches_none
    none (i ∷ code) h = branches_as _ _ _ (ap (λ b. one_if b + 0) h.0.2) (branches_more i code 0 (none code h.1))

-- straight code, and one branch behind it
branches_end : (code : List LowInstr) (i : LowInstr) → Straight code → is_conditional i.op ≡ true → Branches (code ++ i ∷ []) 1
branches_end code i h e =
    branches_as _ _ _ (let same : 0 + (one_if true + 0) ≡ 1 = omega arith in ap (λ b. 0 + (one_if b + 0)) e ∙ same)
    (branches_and code _ 0 _ (straight_branches code h) (branches_more i [] 0 branches_none))

branches_jump : (b : Truth) (to : ℕ) → Branches (jump_if b to) 0
unfolding conditional_branches
branches_jump true to = record { is = refl }
branches_jump false to = branches_none

branches_and_jump : (code : List LowInstr) (b : Truth) (to n : ℕ) → Branches code n → Branches (code ++ jump_if b to) n
branches_and_jump code b to n h = branches_as _ _ _ (omega arith) (branches_and code _ n 0 h (branches_jump b to))

-- ---- tests

truth_branches : (b : Truth) → is_conditional (truth_op b) ≡ true
truth_branches true = refl
truth_branches false = refl

module _ (vars : ℕ) where
  other_leaf_branches : (aim : Aim) (e : core.Expr) (place : ℕ) → Branches (operand_at vars e 0 ++ truth_branch aim place ∷ []) 1
  other_leaf_branches aim e place = branches_end _ (truth_branch aim place) (operand_straight vars e 0) (truth_branches aim.on)

  leaf_branches : (aim : Aim) (e : core.Expr) → Branches (leaf_code vars aim e) 1
  leaf_branches aim (core.Compare r left right) =
      branches_as _ _ _ (omega arith)
      (branches_and _ _ 0 1 (straight_branches _ (operand_straight vars left 0))
      (branches_end _ (branch aim r (operand_place vars left 0) (operand_place vars right (behind left 0))) (operand_straight vars right (behind left 0)) refl))
  leaf_branches aim (core.Int n) = other_leaf_branches aim (core.Int n) _
  leaf_branches aim (core.Bool b) = other_leaf_branches aim (core.Bool b) _
  leaf_branches aim (core.Var x) = other_leaf_branches aim (core.Var x) _
  leaf_branches aim (core.Neg e) = other_leaf_branches aim (core.Neg e) _
  leaf_branches aim (core.Chain first rest) = other_leaf_branches aim (core.Chain first rest) _
  leaf_branches aim (core.Index array index at) = other_leaf_branches aim (core.Index array index at) _
  leaf_branches aim (core.Len array) = other_leaf_branches aim (core.Len array) _
  leaf_branches aim (core.Call fun args at) = other_leaf_branches aim (core.Call fun args at) _
  leaf_branches aim (core.Make number args at) = other_leaf_branches aim (core.Make number args at) _
  leaf_branches aim (core.New element len fill at) = other_leaf_branches aim (core.New element len fill at) _

  mutual
    unfolding test_code test_leaves

    pub test_branches : (aim : Aim) (t : core.Test) (at : ℕ) → Branches (test_code vars aim t at) (test_leaves t)
    test_branches aim (core.Leaf e) at = leaf_branches aim e
    test_branches aim (core.All parts) at =
        branches_and_jump _ aim.on _ _ (parts_branches (inner_aim aim.on aim (past_parts aim.on aim.on parts at)) aim parts at)
    test_branches aim (core.Any parts) at =
        branches_and_jump _ (not aim.on) _ _ (parts_branches (inner_aim (not aim.on) aim (past_parts (not aim.on) aim.on parts at)) aim parts at)
    test_branches aim (core.Not part) at = test_branches (turned aim) part at

    pub parts_branches : (inner last : Aim) (parts : core.Tests) (at : ℕ) → Branches (parts_code vars inner last parts at) (parts_leaves parts)
    parts_branches inner last core.NoTest at = branches_none
    parts_branches inner last (core.ATest t core.NoTest) at = branches_and _ _ _ _ (test_branches last t at) branches_none
    parts_branches inner last (core.ATest t (core.ATest u ts)) at =
        branches_and _ _ _ _ (test_branches inner t at) (parts_branches inner last (core.ATest u ts) (at + test_size inner.on t))

-- ---- statements

if_branches : (T A B : List LowInstr) (b c : Truth) (to over p q r : ℕ) → Branches T p → Branches A q → Branches B r
    → Branches (T ++ (A ++ (jump_if b to ++ (B ++ jump_if c over)))) (p + (q + r))
if_branches T A B b c to over p q r h k l =
    branches_as _ _ _ (omega arith)
    (branches_and T _ p _ h (branches_and A _ q _ k (branches_and (jump_if b to) _ 0 _ (branches_jump b to) (branches_and_jump B c over r l))))

module _ (frame : Frame) where
  return_branches : (value : Option core.Expr) → Branches (return_code (length frame.kinds) value) 0
  unfolding conditional_branches
  return_branches None = record { is = refl }
  return_branches (Some e) =
      branches_as _ _ _ (omega arith) (branches_and _ _ 0 0 (straight_branches _ (operand_straight _ e 0)) (record { is = refl }))

  mutual
    unfolding statement_code statement_leaves

    pub statement_branches : (s : core.Stmt) (at : ℕ) → Branches (statement_code frame s at) (statement_leaves s)
    statement_branches (core.Set x e) at = straight_branches _ (value_straight _ e 0 x)
    statement_branches (core.Split xs e a) at = straight_branches _ (straight_end _ _ (operand_straight _ e 0) (refl, refl, refl))
    statement_branches (core.Store array index e a) at =
        straight_branches _ (straight_and _ _ (operand_straight _ array 0) (straight_and _ _ (operand_straight _ index _)
        (straight_end _ _ (operand_straight _ e _) (refl, refl, refl))))
    statement_branches (core.Do call) at = straight_branches _ (value_straight _ call 0 _)
    statement_branches (core.Print e) at = straight_branches _ (straight_end _ _ (operand_straight _ e 0) (refl, refl, refl))
    statement_branches (core.If test on_true on_false join a) at =
        if_branches _ _ _ _ _ _ _ _ _ _ (test_branches _ (unless (second_at test on_true at)) test at)
        (block_branches on_true (first_at test at)) (block_branches on_false (second_at test on_true at))
    statement_branches (core.While test head body a) at =
        branches_as _ _ _ (omega arith)
        (branches_more _ _ _ (branches_and _ _ _ _ (test_branches _ (unless (behind_loop test body at)) test (suc at))
        (branches_and_jump _ (completes_all body) _ _ (block_branches body (first_at test (suc at))))))
    statement_branches (core.Return value a) at = return_branches value

    pub block_branches : (ss : core.Stmts) (at : ℕ) → Branches (block_code frame ss at) (block_leaves ss)
    block_branches core.NoStmt at = branches_none
    block_branches (core.AStmt s ss) at = branches_and _ _ _ _ (statement_branches s at) (block_branches ss (at + statement_size s))

-- numbers in place of positions change no operation
pub numbered_branches : (labels : List ℕ) (code : List LowInstr) → conditional_branches (numbered labels code) ≡ conditional_branches code
unfolding conditional_branches
numbered_branches labels [] = refl
numbered_branches labels (i ∷ code) =
    omega (arith, ap (λ o. one_if (is_conditional o)) (same_op (leads i.op) i), numbered_branches labels code)
  where
    same_op : (b : Truth) (i : LowInstr) → (renumbered labels b i).op ≡ i.op
    same_op true i = refl
    same_op false i = refl
