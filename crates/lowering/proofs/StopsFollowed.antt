-- Behind each jump and each return of a block stands a label, or its end where control does not go on there.
use Rattle.std.proofs.Common.{◌≡◌, ℕ, zero, suc, ◌+◌, List, [], ◌∷◌, ◌++◌, length, slice_get, Bool as Truth, true, false, ◌&&◌, ◌||◌, not, Option, Some, None, refl, sym, ap, ◌∙◌, subst, arith}
use Rattle.xanadu_tree.specs.BodyRules.{Point, behind_block, completes, completes_all, MayFollow, IsStatement, AreStatements}
use Rattle.xanadu_tree.specs.KindRules.{Setting}
use Rattle.xanadu_tree.specs.Plain as core
use Rattle.typed_core.specs.Places.{behind}
use Rattle.three_address.specs.declared.instruction.LowInstr.{LowInstr}
use Rattle.lowering.specs.CodeBlocks.{stops}
use Rattle.value_lowering.specs.Frames.{Frame, operand_place}
use Rattle.value_lowering.specs.OneInstruction.{Aim, branch, truth_op, truth_branch, jump, one_if, jump_if, label_if}
use Rattle.lowering.specs.StatementCode.{statement_size, block_size, return_size, is_stated, first_at, second_at, meet_at, behind_loop, unless, return_code, statement_code, block_code, statement_labels, block_labels}
use Rattle.lowering.specs.TestCode.{leaf_code, turned, inner_aim, inner_on, past_parts, test_size, parts_size, test_code, parts_code, test_labels, parts_labels}
use Rattle.value_lowering.specs.ValueCode.{operand_at, size_at}
use Rattle.lowering.proofs.CodeSizes.{Long, operand_at_long, test_long, parts_long, statement_long, block_long}
use Rattle.lowering.proofs.CodeTargets.{Holds, holds_left, holds_right, holds_first, holds_rest, holds_if, false_true}
use Rattle.lowering.proofs.StraightCode.{Each, GoesOn, Straight, value_straight, operand_straight}
use Rattle.lowering.proofs.BlockEnds.{long_to}

-- each jump and each return stands in front of a position of a kind
abbrev EachStop : (ℕ → Type 0) → (at : ℕ) → List LowInstr → Type 0
EachStop P at [] = Unit {0}
EachStop P at (i ∷ code) = (stops i.op ≡ true → P (suc at)) × EachStop P (suc at) code

pub record AllStop (P : ℕ → Type 0) (at : ℕ) (code : List LowInstr) : Type 0 where
  pub each : EachStop P at code

each_stop_and : (P : ℕ → Type 0) (at middle : ℕ) (one two : List LowInstr) → middle ≡ at + length one → EachStop P at one → EachStop P middle two
    → EachStop P at (one ++ two)
each_stop_and P at middle [] two is h k = subst (λ n. EachStop P n two) (omega (arith, is)) k
each_stop_and P at middle (i ∷ one) two is h k = (h.0, each_stop_and P (suc at) middle one two (omega (arith, is)) h.1 k)

straight_each : (P : ℕ → Type 0) (at : ℕ) (code : List LowInstr) → Each (λ i. GoesOn i.op) code → EachStop P at code
straight_each P at [] h = tt
straight_each P at (i ∷ code) h = ((λ e. false_true (sym h.0.1 ∙ e)), straight_each P (suc at) code h.1)

pub stop_at : (P : ℕ → Type 0) (at : ℕ) (code : List LowInstr) (index : ℕ) (i : LowInstr) → EachStop P at code → slice_get code index ≡ Some i
    → stops i.op ≡ true → P (at + suc index)
stop_at P at [] index i h e s = cc
stop_at P at (j ∷ code) zero i h e s = subst P (omega arith) (h.0 (ap (λ o. stops o) (same j i e) ∙ s))
  where
    same : (j i : LowInstr) → Some j ≡ Some i → j.op ≡ i.op
    same j i e = cc
stop_at P at (j ∷ code) (suc index) i h e s =
    let same : suc at + suc index ≡ at + suc (suc index) = omega arith in subst P same (stop_at P (suc at) code index i h.1 e s)

module _ (P : ℕ → Type 0) where
  stop_and : (at middle : ℕ) (one two : List LowInstr) → middle ≡ at + length one → AllStop P at one → AllStop P middle two → AllStop P at (one ++ two)
  stop_and at middle one two is h k = record { each = each_stop_and P at middle one two is h.each k.each }

  stop_none : (at : ℕ) → AllStop P at []
  stop_none at = record { each = tt }

  stop_one : (at : ℕ) (i : LowInstr) → (stops i.op ≡ true → P (suc at)) → AllStop P at (i ∷ [])
  stop_one at i f = record { each = (f, tt) }

  stop_more : (at : ℕ) (i : LowInstr) (code : List LowInstr) → (stops i.op ≡ true → P (suc at)) → AllStop P (suc at) code → AllStop P at (i ∷ code)
  stop_more at i code f h = record { each = (f, h.each) }

  straight_stops : (at : ℕ) (code : List LowInstr) → Straight code → AllStop P at code
  straight_stops at code h = record { each = straight_each P at code h.each }

  -- straight code, and an instruction that is neither a jump nor a return
  end_goes_on : (at : ℕ) (code : List LowInstr) (i : LowInstr) → Straight code → stops i.op ≡ false → AllStop P at (code ++ i ∷ [])
  end_goes_on at code i h e =
      stop_and at (at + length code) code (i ∷ []) refl (straight_stops at code h) (stop_one _ i (λ s. false_true (sym e ∙ s)))

  jump_stops : (at to : ℕ) (b : Truth) → (b ≡ true → P (suc at)) → AllStop P at (jump_if b to)
  jump_stops at to true f = stop_one at (jump to) (λ s. f refl)
  jump_stops at to false f = stop_none at

  -- ---- tests

  truth_goes_on : (b : Truth) → stops (truth_op b) ≡ false
  truth_goes_on true = refl
  truth_goes_on false = refl

  past_stops : (crossed : Truth) (at parts past : ℕ) (code : List LowInstr) → parts ≡ at + length code → past ≡ parts + one_if crossed
      → Holds P (label_if crossed past) → AllStop P at code → AllStop P at (code ++ jump_if crossed past)
  past_stops true at parts past code is same h all =
      stop_and at parts code _ is all (jump_stops parts past true (λ e. subst P (omega (arith, same)) (holds_if P true past h refl)))
  past_stops false at parts past code is same h all = stop_and at parts code [] is all (stop_none parts)

  module _ (vars : ℕ) where
    other_leaf_stops : (aim : Aim) (e : core.Expr) (place at : ℕ) → AllStop P at (operand_at vars e 0 ++ truth_branch aim place ∷ [])
    other_leaf_stops aim e place at = end_goes_on at (operand_at vars e 0) (truth_branch aim place) (operand_straight vars e 0) (truth_goes_on aim.on)

    leaf_stops : (aim : Aim) (e : core.Expr) (at : ℕ) → AllStop P at (leaf_code vars aim e)
    leaf_stops aim (core.Compare r left right) at =
        stop_and at _ (operand_at vars left 0) _ refl (straight_stops at _ (operand_straight vars left 0))
        (end_goes_on _ (operand_at vars right (behind left 0)) (branch aim r (operand_place vars left 0) (operand_place vars right (behind left 0)))
        (operand_straight vars right (behind left 0)) refl)
    leaf_stops aim (core.Int n) at = other_leaf_stops aim (core.Int n) _ at
    leaf_stops aim (core.Bool b) at = other_leaf_stops aim (core.Bool b) _ at
    leaf_stops aim (core.Var x) at = other_leaf_stops aim (core.Var x) _ at
    leaf_stops aim (core.Neg e) at = other_leaf_stops aim (core.Neg e) _ at
    leaf_stops aim (core.Chain first rest) at = other_leaf_stops aim (core.Chain first rest) _ at
    leaf_stops aim (core.Index array index a) at = other_leaf_stops aim (core.Index array index a) _ at
    leaf_stops aim (core.Len array) at = other_leaf_stops aim (core.Len array) _ at
    leaf_stops aim (core.Call fun args a) at = other_leaf_stops aim (core.Call fun args a) _ at
    leaf_stops aim (core.Make number args a) at = other_leaf_stops aim (core.Make number args a) _ at
    leaf_stops aim (core.New element len fill a) at = other_leaf_stops aim (core.New element len fill a) _ at

    mutual
      unfolding test_code test_labels

      pub test_stops : (aim : Aim) (t : core.Test) (at : ℕ) → Holds P (test_labels aim.on t at) → AllStop P at (test_code vars aim t at)
      test_stops aim (core.Leaf e) at h = leaf_stops aim e at
      test_stops aim (core.All parts) at h =
          past_stops aim.on at (at + parts_size (inner_on aim.on aim.on) aim.on parts) (past_parts aim.on aim.on parts at) _
          (long_to at _ _ (parts_long vars (inner_aim aim.on aim (past_parts aim.on aim.on parts at)) aim parts at)) refl (holds_right P _ _ h)
          (parts_stop (inner_aim aim.on aim (past_parts aim.on aim.on parts at)) aim parts at (holds_left P _ _ h))
      test_stops aim (core.Any parts) at h =
          past_stops (not aim.on) at (at + parts_size (inner_on (not aim.on) aim.on) aim.on parts) (past_parts (not aim.on) aim.on parts at) _
          (long_to at _ _ (parts_long vars (inner_aim (not aim.on) aim (past_parts (not aim.on) aim.on parts at)) aim parts at)) refl (holds_right P _ _ h)
          (parts_stop (inner_aim (not aim.on) aim (past_parts (not aim.on) aim.on parts at)) aim parts at (holds_left P _ _ h))
      test_stops aim (core.Not part) at h = test_stops (turned aim) part at h

      pub parts_stop : (inner last : Aim) (parts : core.Tests) (at : ℕ) → Holds P (parts_labels inner.on last.on parts at) → AllStop P at (parts_code vars inner last parts at)
      parts_stop inner last core.NoTest at h = stop_none at
      parts_stop inner last (core.ATest t core.NoTest) at h =
          stop_and at (at + test_size last.on t) _ _ (long_to at _ _ (test_long vars last t at)) (test_stops last t at (holds_left P _ _ h)) (stop_none _)
      parts_stop inner last (core.ATest t (core.ATest u ts)) at h =
          stop_and at (at + test_size inner.on t) _ _ (long_to at _ _ (test_long vars inner t at)) (test_stops inner t at (holds_left P _ _ h))
          (parts_stop inner last (core.ATest u ts) (at + test_size inner.on t) (holds_right P _ _ h))

  -- ---- statements

  -- behind a branch stands a label: that of the second branch, or the one behind both
  branch_end : (c : Truth) (at size to : ℕ) → to ≡ at + size + one_if c → P to → c ≡ false → P (at + size)
  branch_end true at size to is p e = false_true (sym e)
  branch_end false at size to is p e = subst P (omega (arith, is)) p

  branch_stops : (c : Truth) (at size to end : ℕ) (code rest : List LowInstr) → Long code size → end ≡ at + size + one_if c → P end
      → AllStop P at code → AllStop P end rest → AllStop P at (code ++ (jump_if c to ++ rest))
  branch_stops true at size to end code rest long is p h k =
      stop_and at (at + size) code _ (long_to at size code long) h
      (stop_more (at + size) (jump to) rest (λ s. subst P (omega (arith, is)) p) (subst (λ n. AllStop P n rest) (omega (arith, is)) k))
  branch_stops false at size to end code rest long is p h k =
      stop_and at end code rest (omega (arith, is, long.is)) h k

  loop_end_stops : (c : Truth) (at size to end : ℕ) (code : List LowInstr) → Long code size → end ≡ at + size + one_if c → P end
      → AllStop P at code → AllStop P at (code ++ jump_if c to)
  loop_end_stops true at size to end code long is p h =
      stop_and at (at + size) code _ (long_to at size code long) h (jump_stops (at + size) to true (λ e. subst P (omega (arith, is)) p))
  loop_end_stops false at size to end code long is p h = stop_and at (at + size) code [] (long_to at size code long) h (stop_none _)

  -- the second branch: where there is a label behind both, it is there, or the end is that of the whole
  second_stops : (a b stated : Truth) (at size to next : ℕ) (code : List LowInstr) → Long code size → to ≡ at + size + one_if (b && (a || (stated && b)))
      → next ≡ to → Holds P (label_if (a || (stated && b)) to) → ((b ≡ false → P (at + size)) → AllStop P at code) → ((a || b) ≡ false → P next)
      → AllStop P at (code ++ jump_if (b && (a || (stated && b))) to)
  second_stops true true stated at size to next code long is same h all end =
      loop_end_stops true at size to to code long is (holds_if P true to h refl) (all (λ e. false_true (sym e)))
  second_stops true false stated at size to next code long is same h all end =
      loop_end_stops false at size to to code long is (holds_if P true to h refl) (all (λ e. subst P (omega (arith, is)) (holds_if P true to h refl)))
  second_stops false true true at size to next code long is same h all end =
      loop_end_stops true at size to to code long is (holds_if P true to h refl) (all (λ e. false_true (sym e)))
  second_stops false true false at size to next code long is same h all end =
      stop_and at (at + size) code [] (long_to at size code long) (all (λ e. false_true (sym e))) (stop_none _)
  second_stops false false true at size to next code long is same h all end =
      stop_and at (at + size) code [] (long_to at size code long) (all (λ e. subst P (omega (arith, is, same)) (end refl))) (stop_none _)
  second_stops false false false at size to next code long is same h all end =
      stop_and at (at + size) code [] (long_to at size code long) (all (λ e. subst P (omega (arith, is, same)) (end refl))) (stop_none _)

  module _ (frame : Frame) (set : Setting) where
    return_stops : (value : Option core.Expr) (at next : ℕ) → next ≡ at + return_size value → P next → AllStop P at (return_code (length frame.kinds) value)
    return_stops None at next is p = stop_more at _ _ (λ s. false_true s) (stop_one (suc at) _ (λ s. subst P (omega (arith, is)) p))
    return_stops (Some e) at next is p =
        stop_and at (at + size_at e) (operand_at (length frame.kinds) e 0) _ (long_to at _ _ (operand_at_long _ e 0))
        (straight_stops at _ (operand_straight _ e 0)) (stop_one _ _ (λ s. subst P (omega (arith, is)) p))

    mutual
      unfolding statement_code statement_labels statement_size IsStatement

      pub statement_stops : (s : core.Stmt) (at next : ℕ) (before after : Point) → next ≡ at + statement_size s → IsStatement set before s after
          → Holds P (statement_labels s at) → (completes s ≡ false → P next) → AllStop P at (statement_code frame s at)
      statement_stops (core.Set x e) at next before after is rule h end = straight_stops at _ (value_straight _ e 0 x)
      statement_stops (core.Split xs e a) at next before after is rule h end = end_goes_on at _ _ (operand_straight _ e 0) refl
      statement_stops (core.Store array index e a) at next before after is rule h end =
          stop_and at _ _ _ refl (straight_stops at _ (operand_straight _ array 0)) (stop_and _ _ _ _ refl (straight_stops _ _ (operand_straight _ index _))
          (end_goes_on _ _ _ (operand_straight _ e _) refl))
      statement_stops (core.Do call) at next before after is rule h end = straight_stops at _ (value_straight _ call 0 _)
      statement_stops (core.Print e) at next before after is rule h end = end_goes_on at _ _ (operand_straight _ e 0) refl
      statement_stops (core.If test on_true on_false join a) at next before after is rule h end =
          let same : next ≡ meet_at test on_true on_false join at = omega (arith, is) in
          let other = holds_right P _ _ (holds_right P _ _ h) in
          let p = holds_first P (second_at test on_true at) _ other in
          stop_and at (first_at test at) _ _ (long_to at _ _ (test_long _ (unless (second_at test on_true at)) test at))
          (test_stops _ (unless (second_at test on_true at)) test at (holds_left P _ _ h))
          (branch_stops (completes_all on_true) (first_at test at) (block_size on_true) _ (second_at test on_true at) _ _ (block_long frame on_true (first_at test at)) refl p
          (block_stops on_true (first_at test at) (first_at test at + block_size on_true) before rule.0 refl rule.3 (holds_left P _ _ (holds_right P _ _ h))
          (branch_end (completes_all on_true) (first_at test at) (block_size on_true) (second_at test on_true at) refl p))
          (second_stops (completes_all on_true) (completes_all on_false) (is_stated join) (second_at test on_true at) (block_size on_false)
          (meet_at test on_true on_false join at) next _ (block_long frame on_false (second_at test on_true at)) refl same
          (holds_right P _ _ (holds_rest P _ _ other))
          (block_stops on_false (second_at test on_true at) (second_at test on_true at + block_size on_false) (behind_block before rule.0) rule.1 refl rule.4
          (holds_left P _ _ (holds_rest P _ _ other))) end))
      statement_stops (core.While test head body a) at next before after is rule h end =
          let inner = holds_rest P _ _ h in
          let later = holds_right P _ _ inner in
          let p = holds_first P (behind_loop test body at) _ (holds_right P _ _ later) in
          stop_more at _ _ (λ s. holds_first P _ _ h)
          (stop_and (suc at) (first_at test (suc at)) _ _ (long_to (suc at) _ _ (test_long _ (unless (behind_loop test body at)) test (suc at)))
          (test_stops _ (unless (behind_loop test body at)) test (suc at) (holds_left P _ _ inner))
          (loop_end_stops (completes_all body) (first_at test (suc at)) (block_size body) _ (behind_loop test body at) _ (block_long frame body (first_at test (suc at))) refl p
          (block_stops body (first_at test (suc at)) (first_at test (suc at) + block_size body) rule.0 rule.1 refl rule.4 (holds_left P _ _ later)
          (branch_end (completes_all body) (first_at test (suc at)) (block_size body) (behind_loop test body at) refl p))))
      statement_stops (core.Return value a) at next before after is rule h end = return_stops value at next is (end refl)

      pub block_stops : (ss : core.Stmts) (at next : ℕ) (before after : Point) → next ≡ at + block_size ss → AreStatements set before ss after
          → Holds P (block_labels ss at) → (completes_all ss ≡ false → P next) → AllStop P at (block_code frame ss at)
      block_stops core.NoStmt at next before after is rule h end = stop_none at
      block_stops (core.AStmt s core.NoStmt) at next before after is rule h end =
          stop_and at (at + statement_size s) _ _ (long_to at _ _ (statement_long frame s at))
          (statement_stops s at (at + statement_size s) before rule.0 refl rule.1 (holds_left P _ _ h) (λ e. subst P (omega (arith, is)) (end e))) (stop_none _)
      block_stops (core.AStmt s (core.AStmt t ts)) at next before after is rule h end =
          stop_and at (at + statement_size s) _ _ (long_to at _ _ (statement_long frame s at))
          (statement_stops s at (at + statement_size s) before rule.0 refl rule.1 (holds_left P _ _ h) (λ e. absurd (never_follows (completes s) e rule.2)))
          (block_stops (core.AStmt t ts) (at + statement_size s) next rule.0 after (omega (arith, is)) rule.3 (holds_right P _ _ h) end)
        where
          never_follows : (b : Truth) → b ≡ false → MayFollow b (core.AStmt t ts) → ⊥
          never_follows true e m = cc
          never_follows false e m = m
