-- Straight code: no instruction of it is a branch, a jump or a return. The code of expressions is straight.
use Rattle.std.proofs.Common.{◌≡◌, ℕ, suc, List, [], ◌∷◌, ◌++◌, slice_get, Some, false, refl, subst}
use Rattle.xanadu_tree.specs.declared.expr.Op.{Op}
use Rattle.xanadu_tree.specs.declared.expr.Op.TheVariants as arithmetic
use Rattle.xanadu_tree.specs.Plain as core
use Rattle.typed_core.specs.Places.{behind}
use Rattle.three_address.specs.declared.instruction.LowInstr.{LowInstr}
use Rattle.three_address.specs.declared.instruction.Op22.{Op22}
use Rattle.lowering.specs.CodeBlocks.{stops}
use Rattle.value_lowering.specs.Frames.{temporary}
use Rattle.lowering.specs.Lowered.{leads}
use Rattle.value_lowering.specs.OneInstruction.{op_of}
use Rattle.lowering.specs.TestLeaves.{is_conditional}
use Rattle.value_lowering.specs.ValueCode.{operand_code, value_code, operands_code, links_code, operand_at}

-- ---- what holds of each instruction

abbrev pub Each : (LowInstr → Type 0) → List LowInstr → Type 0
Each P [] = Unit {0}
Each P (i ∷ code) = P i × Each P code

pub each_and : (P : LowInstr → Type 0) (one two : List LowInstr) → Each P one → Each P two → Each P (one ++ two)
each_and P [] two h k = k
each_and P (i ∷ one) two h k = (h.0, each_and P one two h.1 k)

pub each_weaker : (P Q : LowInstr → Type 0) (code : List LowInstr) → ((i : LowInstr) → P i → Q i) → Each P code → Each Q code
each_weaker P Q [] f h = tt
each_weaker P Q (i ∷ code) f h = (f i h.0, each_weaker P Q code f h.1)

pub each_at : (P : LowInstr → Type 0) (code : List LowInstr) (at : ℕ) (i : LowInstr) → Each P code → slice_get code at ≡ Some i → P i
each_at P [] at i h e = cc
each_at P (j ∷ code) ℕ.zero i h e = subst P (same j i e) h.0
  where
    same : (j i : LowInstr) → Some j ≡ Some i → j ≡ i
    same j i e = cc
each_at P (j ∷ code) (suc at) i h e = each_at P code at i h.1 e

-- ---- straight code

abbrev pub GoesOn : Op22 → Type 0
GoesOn o = (leads o ≡ false) × (stops o ≡ false) × (is_conditional o ≡ false)

pub record Straight (code : List LowInstr) : Type 0 where
  pub each : Each (λ i. GoesOn i.op) code

pub straight_none : Straight []
straight_none = record { each = tt }

pub straight_more : (i : LowInstr) (code : List LowInstr) → GoesOn i.op → Straight code → Straight (i ∷ code)
straight_more i code g h = record { each = (g, h.each) }

pub straight_one : (i : LowInstr) → GoesOn i.op → Straight (i ∷ [])
straight_one i g = straight_more i [] g straight_none

pub straight_and : (one two : List LowInstr) → Straight one → Straight two → Straight (one ++ two)
straight_and one two h k = record { each = each_and (λ i. GoesOn i.op) one two h.each k.each }

-- code, and one instruction behind it
pub straight_end : (code : List LowInstr) (i : LowInstr) → Straight code → GoesOn i.op → Straight (code ++ i ∷ [])
straight_end code i h g = straight_and code (i ∷ []) h (straight_one i g)

pub straight_operand : (e : core.Expr) (code : List LowInstr) → Straight code → Straight (operand_code e code)
straight_operand (core.Var x) code h = straight_none
straight_operand e code h = h

arithmetic_goes_on : (o : Op) → GoesOn (op_of o)
arithmetic_goes_on arithmetic.Add = (refl, refl, refl)
arithmetic_goes_on arithmetic.Sub = (refl, refl, refl)
arithmetic_goes_on arithmetic.Mul = (refl, refl, refl)
arithmetic_goes_on arithmetic.Div = (refl, refl, refl)
arithmetic_goes_on arithmetic.Mod = (refl, refl, refl)

module _ (vars : ℕ) where
  mutual
    unfolding value_code

    pub value_straight : (e : core.Expr) (d to : ℕ) → Straight (value_code vars e d to)
    value_straight (core.Int n) d to = straight_one _ (refl, refl, refl)
    value_straight (core.Bool b) d to = straight_one _ (refl, refl, refl)
    value_straight (core.Var x) d to = straight_one _ (refl, refl, refl)
    value_straight (core.Neg e) d to =
        straight_more _ _ (refl, refl, refl) (straight_end _ _ (straight_operand e _ (value_straight e (suc d) (temporary vars (suc d)))) (refl, refl, refl))
    value_straight (core.Chain first rest) d to =
        straight_and _ _ (straight_operand first _ (value_straight first d (temporary vars d))) (links_straight rest _ _ d to)
    value_straight (core.Compare r left right) d to =
        straight_and _ _ (straight_operand left _ (value_straight left d (temporary vars d)))
        (straight_end _ _ (straight_operand right _ (value_straight right (behind left d) (temporary vars (behind left d)))) (refl, refl, refl))
    value_straight (core.Index array index at) d to =
        straight_and _ _ (straight_operand array _ (value_straight array d (temporary vars d)))
        (straight_end _ _ (straight_operand index _ (value_straight index (behind array d) (temporary vars (behind array d)))) (refl, refl, refl))
    value_straight (core.Len array) d to = straight_end _ _ (straight_operand array _ (value_straight array d (temporary vars d))) (refl, refl, refl)
    value_straight (core.Call fun args at) d to = straight_end _ _ (operands_straight args d) (refl, refl, refl)
    value_straight (core.Make number args at) d to = straight_end _ _ (operands_straight args d) (refl, refl, refl)
    value_straight (core.New element len fill at) d to =
        straight_and _ _ (straight_operand len _ (value_straight len d (temporary vars d)))
        (straight_end _ _ (straight_operand fill _ (value_straight fill (behind len d) (temporary vars (behind len d)))) (refl, refl, refl))

    pub operands_straight : (es : core.Exprs) (d : ℕ) → Straight (operands_code vars es d)
    operands_straight core.NoExpr d = straight_none
    operands_straight (core.AnExpr e es) d =
        straight_and _ _ (straight_operand e _ (value_straight e d (temporary vars d))) (operands_straight es (behind e d))

    pub links_straight : (links : core.Links) (next left d to : ℕ) → Straight (links_code vars links next left d to)
    links_straight core.NoLink next left d to = straight_none
    links_straight (core.ALink o e at others) next left d to =
        straight_and _ _ (straight_operand e _ (value_straight e next (temporary vars next)))
        (straight_more _ _ (arithmetic_goes_on o) (links_straight others (suc d) (temporary vars d) d to))

  pub operand_straight : (e : core.Expr) (d : ℕ) → Straight (operand_at vars e d)
  operand_straight e d = straight_operand e _ (value_straight e d (temporary vars d))
