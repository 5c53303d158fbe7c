-- What stands with the instructions of expressions: where an operation demands rows, the note in front has its goals.
use Rattle.std.specs.Prelude.{Bool as Truth, true, false, List, [], ◌∷◌, ◌++◌}
use Rattle.three_address.specs.declared.typed.Edge.{Edge}
use Rattle.typed_core.specs.declared.note.Note.{Note}
use Rattle.xanadu_tree.specs.declared.expr.Op.{Op}
use Rattle.xanadu_tree.specs.declared.expr.Op.TheVariants as op
use Rattle.xanadu_tree.specs.Plain as core
use Rattle.type_carrier.specs.ProvedRows.{Proofs, plain, demand_edge, demand_in, behind_front}

-- what stands with the instructions so far, and the notes that are left
pub record Carried : Type 0 where
  pub edges : List Edge
  pub notes : List Note

abbrev pub carried : List Edge → List Note → Carried
carried edges notes = record { edges = edges; notes = notes }

abbrev pub with_edge : Edge → Carried → Carried
with_edge edge c = record c { edges = c.edges ++ edge ∷ [] }

-- an instruction that demands nothing
abbrev pub plainly : Carried → Carried
plainly c = with_edge plain c

-- one with the goals of the note in front
abbrev pub demanded : Proofs → Carried → Carried
demanded proofs c = record { edges = c.edges ++ demand_edge proofs (demand_in c.notes) ∷ []; notes = behind_front c.notes }

-- an operand that is a variable has no code, where this is what its value leads to
abbrev pub operand_carried : core.Expr → (value : Carried) → Carried → Carried
operand_carried (core.Var x) value c = c
operand_carried e value c = value

-- division alone demands something
abbrev pub divides : Op → Truth
divides op.Add = false
divides op.Sub = false
divides op.Mul = false
divides op.Div = true
divides op.Mod = true

abbrev pub demanded_if : Truth → Proofs → Carried → Carried
demanded_if true proofs c = demanded proofs c
demanded_if false proofs c = plainly c

module _ (proofs : Proofs) where
  unfoldable mutual
    pub value : core.Expr → Carried → Carried
    value (core.Int n) c = plainly c
    value (core.Bool b) c = plainly c
    value (core.Var x) c = plainly c
    value (core.Neg e) c = plainly (operand_carried e (value e (plainly c)) (plainly c))
    value (core.Chain first rest) c = links rest (operand_carried first (value first c) c)
    value (core.Compare rel left right) c =
        let one = operand_carried left (value left c) c in
        plainly (operand_carried right (value right one) one)
    value (core.Index array index at) c =
        let one = operand_carried array (value array c) c in
        demanded proofs (operand_carried index (value index one) one)
    value (core.Len array) c = plainly (operand_carried array (value array c) c)
    value (core.Call fun args at) c = demanded proofs (operands args c)
    value (core.Make number args at) c = demanded proofs (operands args c)
    value (core.New element len fill at) c =
        let one = operand_carried len (value len c) c in
        demanded proofs (operand_carried fill (value fill one) one)

    pub operands : core.Exprs → Carried → Carried
    operands core.NoExpr c = c
    operands (core.AnExpr e es) c = operands es (operand_carried e (value e c) c)

    pub links : core.Links → Carried → Carried
    links core.NoLink c = c
    links (core.ALink o e at others) c = links others (demanded_if (divides o) proofs (operand_carried e (value e c) c))

abbrev pub operand : Proofs → core.Expr → Carried → Carried
operand proofs e c = operand_carried e (value proofs e c) c
