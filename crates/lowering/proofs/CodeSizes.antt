-- Code has as many instructions as its size says, whatever the position.
use Rattle.std.proofs.Common.{◌≡◌, ℕ, suc, ◌+◌, List, [], ◌∷◌, ◌++◌, length, Bool as Truth, true, false, Option, Some, None, refl, ap, length-append, arith}
use Rattle.xanadu_tree.specs.Plain as core
use Rattle.typed_core.specs.Places.{behind}
use Rattle.three_address.specs.declared.instruction.LowInstr.{LowInstr}
use Rattle.value_lowering.specs.Frames.{Frame, temporary, operand_place}
use Rattle.value_lowering.specs.OneInstruction.{Aim, compared, branch, one_if, jump_if}
use Rattle.lowering.specs.StatementCode.{return_size, statement_size, block_size, first_at, second_at, return_code, statement_code, block_code}
use Rattle.lowering.specs.TestCode.{leaf_size, leaf_code, turned, inner_aim, test_size, parts_size, test_code, parts_code}
use Rattle.value_lowering.specs.ValueCode.{operand_size, value_size, operands_size, links_size, operand_code, value_code, operands_code, links_code, operand_at, size_at}

pub record Long (code : List LowInstr) (size : ℕ) : Type 0 where
  pub is : length code ≡ size

pub long_none : Long [] 0
long_none = record { is = refl }

pub long_one : (i : LowInstr) → Long (i ∷ []) 1
long_one i = record { is = refl }

pub long_more : (i : LowInstr) (code : List LowInstr) (size : ℕ) → Long code size → Long (i ∷ code) (suc size)
long_more i code size h = record { is = ap suc h.is }

pub long_and : (one two : List LowInstr) (m n : ℕ) → Long one m → Long two n → Long (one ++ two) (m + n)
long_and one two m n h k = record { is = omega (arith, length-append one two, h.is, k.is) }

pub long_jump : (b : Truth) (to : ℕ) → Long (jump_if b to) (one_if b)
long_jump true to = long_one _
long_jump false to = long_none

pub operand_long : (e : core.Expr) (code : List LowInstr) (size : ℕ) → Long code size → Long (operand_code e code) (operand_size e size)
operand_long (core.Var x) code size h = long_none
operand_long e code size h = h

-- ---- expressions

module _ (vars : ℕ) where
  mutual
    unfolding value_code value_size

    pub value_long : (e : core.Expr) (d to : ℕ) → Long (value_code vars e d to) (value_size e)
    value_long (core.Int n) d to = long_one _
    value_long (core.Bool b) d to = long_one _
    value_long (core.Var x) d to = long_one _
    value_long (core.Neg e) d to =
        long_more _ _ _ (long_and _ _ _ _ (operand_long e _ _ (value_long e (suc d) (temporary vars (suc d)))) (long_one _))
    value_long (core.Chain first rest) d to =
        long_and _ _ _ _ (operand_long first _ _ (value_long first d (temporary vars d))) (links_long rest _ _ d to)
    value_long (core.Compare r left right) d to =
        long_and _ _ _ _ (operand_long left _ _ (value_long left d (temporary vars d)))
        (long_and _ _ _ _ (operand_long right _ _ (value_long right (behind left d) (temporary vars (behind left d))))
        (long_one (compared r to (operand_place vars left d) (operand_place vars right (behind left d)))))
    value_long (core.Index array index at) d to =
        long_and _ _ _ _ (operand_long array _ _ (value_long array d (temporary vars d)))
        (long_and _ _ _ _ (operand_long index _ _ (value_long index (behind array d) (temporary vars (behind array d)))) (long_one _))
    value_long (core.Len array) d to = long_and _ _ _ _ (operand_long array _ _ (value_long array d (temporary vars d))) (long_one _)
    value_long (core.Call fun args at) d to = long_and _ _ _ _ (operands_long args d) (long_one _)
    value_long (core.Make number args at) d to = long_and _ _ _ _ (operands_long args d) (long_one _)
    value_long (core.New element len fill at) d to =
        long_and _ _ _ _ (operand_long len _ _ (value_long len d (temporary vars d)))
        (long_and _ _ _ _ (operand_long fill _ _ (value_long fill (behind len d) (temporary vars (behind len d)))) (long_one _))

    pub operands_long : (es : core.Exprs) (d : ℕ) → Long (operands_code vars es d) (operands_size es)
    operands_long core.NoExpr d = long_none
    operands_long (core.AnExpr e es) d =
        long_and _ _ _ _ (operand_long e _ _ (value_long e d (temporary vars d))) (operands_long es (behind e d))

    pub links_long : (links : core.Links) (next left d to : ℕ) → Long (links_code vars links next left d to) (links_size links)
    links_long core.NoLink next left d to = long_none
    links_long (core.ALink o e at others) next left d to =
        long_and _ _ _ _ (operand_long e _ _ (value_long e next (temporary vars next))) (long_more _ _ _ (links_long others (suc d) (temporary vars d) d to))

  pub operand_at_long : (e : core.Expr) (d : ℕ) → Long (operand_at vars e d) (size_at e)
  operand_at_long e d = operand_long e _ _ (value_long e d (temporary vars d))

  -- ---- tests

  other_leaf_long : (aim : Aim) (e : core.Expr) (i : LowInstr) → Long (operand_at vars e 0 ++ i ∷ []) (size_at e + 1)
  other_leaf_long aim e i = long_and _ _ _ _ (operand_at_long e 0) (long_one _)

  pub leaf_long : (aim : Aim) (e : core.Expr) → Long (leaf_code vars aim e) (leaf_size e)
  leaf_long aim (core.Compare r left right) =
      long_and _ _ _ _ (operand_at_long left 0) (long_and _ _ _ _ (operand_at_long right (behind left 0))
      (long_one (branch aim r (operand_place vars left 0) (operand_place vars right (behind left 0)))))
  leaf_long aim (core.Int n) = other_leaf_long aim (core.Int n) _
  leaf_long aim (core.Bool b) = other_leaf_long aim (core.Bool b) _
  leaf_long aim (core.Var x) = other_leaf_long aim (core.Var x) _
  leaf_long aim (core.Neg e) = other_leaf_long aim (core.Neg e) _
  leaf_long aim (core.Chain first rest) = other_leaf_long aim (core.Chain first rest) _
  leaf_long aim (core.Index array index at) = other_leaf_long aim (core.Index array index at) _
  leaf_long aim (core.Len array) = other_leaf_long aim (core.Len array) _
  leaf_long aim (core.Call fun args at) = other_leaf_long aim (core.Call fun args at) _
  leaf_long aim (core.Make number args at) = other_leaf_long aim (core.Make number args at) _
  leaf_long aim (core.New element len fill at) = other_leaf_long aim (core.New element len fill at) _

  mutual
    unfolding test_code test_size

    pub test_long : (aim : Aim) (t : core.Test) (at : ℕ) → Long (test_code vars aim t at) (test_size aim.on t)
    test_long aim (core.Leaf e) at = leaf_long aim e
    test_long aim (core.All parts) at = long_and _ _ _ _ (parts_long (inner_aim aim.on aim _) aim parts at) (long_jump _ _)
    test_long aim (core.Any parts) at = long_and _ _ _ _ (parts_long (inner_aim _ aim _) aim parts at) (long_jump _ _)
    test_long aim (core.Not part) at = test_long (turned aim) part at

    pub parts_long : (inner last : Aim) (parts : core.Tests) (at : ℕ) → Long (parts_code vars inner last parts at) (parts_size inner.on last.on parts)
    parts_long inner last core.NoTest at = long_none
    parts_long inner last (core.ATest t core.NoTest) at = long_and _ _ _ _ (test_long last t at) long_none
    parts_long inner last (core.ATest t (core.ATest u ts)) at =
        long_and _ _ _ _ (test_long inner t at) (parts_long inner last (core.ATest u ts) (at + test_size inner.on t))

-- ---- statements

module _ (frame : Frame) where
  return_long : (value : Option core.Expr) → Long (return_code (length frame.kinds) value) (return_size value)
  return_long None = long_more _ _ _ (long_one _)
  return_long (Some e) = long_and _ _ _ _ (operand_at_long (length frame.kinds) e 0) (long_one _)

  mutual
    unfolding statement_code statement_size

    pub statement_long : (s : core.Stmt) (at : ℕ) → Long (statement_code frame s at) (statement_size s)
    statement_long (core.Set x e) at = value_long _ e 0 x
    statement_long (core.Split xs e a) at = long_and _ _ _ _ (operand_at_long _ e 0) (long_one _)
    statement_long (core.Store array index e a) at =
        long_and _ _ _ _ (operand_at_long _ array 0) (long_and _ _ _ _ (operand_at_long _ index _)
        (long_and _ _ _ _ (operand_at_long _ e _) (long_one _)))
    statement_long (core.Do call) at = value_long _ call 0 _
    statement_long (core.Print e) at = long_and _ _ _ _ (operand_at_long _ e 0) (long_one _)
    statement_long (core.If test on_true on_false join a) at =
        long_and _ _ _ _ (test_long _ _ test at) (long_and _ _ _ _ (block_long on_true (first_at test at)) (long_and _ _ _ _ (long_jump _ _)
        (long_and _ _ _ _ (block_long on_false (second_at test on_true at)) (long_jump _ _))))
    statement_long (core.While test head body a) at =
        long_more _ _ _ (long_and _ _ _ _ (test_long _ _ test (suc at)) (long_and _ _ _ _ (block_long body (first_at test (suc at))) (long_jump _ _)))
    statement_long (core.Return value a) at = return_long value

    pub block_long : (ss : core.Stmts) (at : ℕ) → Long (block_code frame ss at) (block_size ss)
    block_long core.NoStmt at = long_none
    block_long (core.AStmt s ss) at = long_and _ _ _ _ (statement_long s at) (block_long ss (at + statement_size s))
