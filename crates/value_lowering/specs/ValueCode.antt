-- The code of expressions: operands from left to right, each into the temporary of its depth, and then the construct.
--
-- An operand that is a variable stays in its own place, and needs no code. The result goes to a place that is given.
use Rattle.std.specs.Prelude.{ℕ, suc, ◌+◌, pos, List, [], ◌∷◌, ◌++◌}
use Rattle.xanadu_tree.specs.Plain as core
use Rattle.typed_core.specs.Places.{is_put, behind, next_to}
use Rattle.three_address.specs.declared.instruction.LowInstr.{LowInstr}
use Rattle.three_address.specs.declared.instruction.Op22.TheVariants as op
use Rattle.value_lowering.specs.Frames.{temporary, operand_place}
use Rattle.value_lowering.specs.OneInstruction.{literal, truth, unary, binary, op_of, called, tuple_made, array_made, compared}

-- ---- how many instructions

-- an operand that is a variable has none
abbrev pub operand_size : core.Expr → (size : ℕ) → ℕ
operand_size (core.Var x) size = 0
operand_size e size = size

unfoldable mutual
  pub value_size : core.Expr → ℕ
  value_size (core.Int n) = 1
  value_size (core.Bool b) = 1
  value_size (core.Var x) = 1
  value_size (core.Neg e) = suc (operand_size e (value_size e) + 1)
  value_size (core.Chain first rest) = operand_size first (value_size first) + links_size rest
  value_size (core.Compare rel left right) = operand_size left (value_size left) + (operand_size right (value_size right) + 1)
  value_size (core.Index array index at) = operand_size array (value_size array) + (operand_size index (value_size index) + 1)
  value_size (core.Len array) = operand_size array (value_size array) + 1
  value_size (core.Call fun args at) = operands_size args + 1
  value_size (core.Make number args at) = operands_size args + 1
  value_size (core.New element len fill at) = operand_size len (value_size len) + (operand_size fill (value_size fill) + 1)

  pub operands_size : core.Exprs → ℕ
  operands_size core.NoExpr = 0
  operands_size (core.AnExpr e es) = operand_size e (value_size e) + operands_size es

  pub links_size : core.Links → ℕ
  links_size core.NoLink = 0
  links_size (core.ALink o e at others) = operand_size e (value_size e) + suc (links_size others)

-- ---- places of operands in order

unfoldable pub operand_places : (vars : ℕ) → core.Exprs → (d : ℕ) → List ℕ
operand_places vars core.NoExpr d = []
operand_places vars (core.AnExpr e es) d = operand_place vars e d ∷ operand_places vars es (behind e d)

-- the result of an operator goes to the temporary of the chain, and that of the last one to where the whole is wanted
abbrev pub result_place : core.Links → (between wanted : ℕ) → ℕ
result_place core.NoLink between wanted = wanted
result_place (core.ALink o e at others) between wanted = between

-- ---- code

-- that of an operand, where this is the code of its value
abbrev pub operand_code : core.Expr → List LowInstr → List LowInstr
operand_code (core.Var x) code = []
operand_code e code = code

module _ (vars : ℕ) where
  unfoldable mutual
    -- at a depth, into a place
    pub value_code : core.Expr → (d to : ℕ) → List LowInstr
    value_code (core.Int n) d to = literal to n ∷ []
    value_code (core.Bool b) d to = truth to b ∷ []
    value_code (core.Var x) d to = unary op.Mv to x ∷ []
    -- 0 less the operand
    value_code (core.Neg e) d to =
        literal (temporary vars d) (pos 0)
        ∷ (operand_code e (value_code e (suc d) (temporary vars (suc d)))
        ++ binary op.Sub to (temporary vars d) (operand_place vars e (suc d)) ∷ [])
    value_code (core.Chain first rest) d to =
        operand_code first (value_code first d (temporary vars d)) ++ links_code rest (next_to (is_put first) d) (operand_place vars first d) d to
    value_code (core.Compare r left right) d to =
        operand_code left (value_code left d (temporary vars d))
        ++ (operand_code right (value_code right (behind left d) (temporary vars (behind left d)))
        ++ compared r to (operand_place vars left d) (operand_place vars right (behind left d)) ∷ [])
    value_code (core.Index array index at) d to =
        operand_code array (value_code array d (temporary vars d))
        ++ (operand_code index (value_code index (behind array d) (temporary vars (behind array d)))
        ++ binary op.Ld to (operand_place vars array d) (operand_place vars index (behind array d)) ∷ [])
    value_code (core.Len array) d to =
        operand_code array (value_code array d (temporary vars d)) ++ unary op.Len to (operand_place vars array d) ∷ []
    value_code (core.Call fun args at) d to = operands_code args d ++ called fun to (operand_places vars args d) ∷ []
    value_code (core.Make number args at) d to = operands_code args d ++ tuple_made number to (operand_places vars args d) ∷ []
    value_code (core.New element len fill at) d to =
        operand_code len (value_code len d (temporary vars d))
        ++ (operand_code fill (value_code fill (behind len d) (temporary vars (behind len d)))
        ++ array_made element to (operand_place vars len d) (operand_place vars fill (behind len d)) ∷ [])

    pub operands_code : core.Exprs → (d : ℕ) → List LowInstr
    operands_code core.NoExpr d = []
    operands_code (core.AnExpr e es) d = operand_code e (value_code e d (temporary vars d)) ++ operands_code es (behind e d)

    -- The operators of a chain at a depth, whose left side is in this place. An operand is taken one depth later where the left side is in
    -- the temporary of the chain's depth.
    pub links_code : core.Links → (next left d to : ℕ) → List LowInstr
    links_code core.NoLink next left d to = []
    links_code (core.ALink o e at others) next left d to =
        operand_code e (value_code e next (temporary vars next))
        ++ binary (op_of o) (result_place others (temporary vars d) to) left (operand_place vars e next)
        ∷ links_code others (suc d) (temporary vars d) d to

-- an operand at depth d
abbrev pub operand_at : (vars : ℕ) → core.Expr → (d : ℕ) → List LowInstr
operand_at vars e d = operand_code e (value_code vars e d (temporary vars d))

abbrev pub size_at : core.Expr → ℕ
size_at e = operand_size e (value_size e)
