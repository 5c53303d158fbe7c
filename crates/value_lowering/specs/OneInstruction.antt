-- Single instructions as lowering writes them. A jump's target is a position here, which becomes a label's number at the end.
use Rattle.std.specs.Prelude.{ℕ, ℤ, pos, Bool as Truth, true, false, List, [], ◌∷◌}
use Rattle.xanadu_tree.specs.declared.expr.Op.{Op}
use Rattle.xanadu_tree.specs.declared.expr.Op.TheVariants as arithmetic
use Rattle.xanadu_tree.specs.declared.expr.Rel.{Rel}
use Rattle.xanadu_tree.specs.declared.expr.Rel.TheVariants as rel
use Rattle.typed_core.specs.Operators.{comparison_of}
use Rattle.three_address.specs.declared.instruction.LowInstr.{LowInstr}
use Rattle.three_address.specs.declared.instruction.Op22.{Op22}
use Rattle.three_address.specs.declared.instruction.Op22.TheVariants as op

abbrev pub instr : Op22 → List ℕ → (number : ℤ) → (target : ℕ) → LowInstr
instr o places number target = record { op = o; places = places; number = number; target = target }

-- ---- values

abbrev pub literal : (place : ℕ) → ℤ → LowInstr
literal place n = instr op.Li (place ∷ []) n 0

abbrev pub truth_number : Truth → ℤ
truth_number true = pos 1
truth_number false = pos 0

abbrev pub truth : (place : ℕ) → Truth → LowInstr
truth place b = instr op.Lb (place ∷ []) (truth_number b) 0

-- with a place that is written, and operands
abbrev pub unary : Op22 → (to from : ℕ) → LowInstr
unary o to from = instr o (to ∷ from ∷ []) (pos 0) 0

abbrev pub binary : Op22 → (to left right : ℕ) → LowInstr
binary o to left right = instr o (to ∷ left ∷ right ∷ []) (pos 0) 0

abbrev pub op_of : Op → Op22
op_of arithmetic.Add = op.Add
op_of arithmetic.Sub = op.Sub
op_of arithmetic.Mul = op.Mul
op_of arithmetic.Div = op.Div
op_of arithmetic.Mod = op.Mod

abbrev pub called : (fun to : ℕ) → (args : List ℕ) → LowInstr
called fun to args = instr op.Call (to ∷ args) (pos 0) fun

abbrev pub tuple_made : (type to : ℕ) → (parts : List ℕ) → LowInstr
tuple_made type to parts = instr op.Tup (to ∷ parts) (pos type) 0

abbrev pub array_made : (type to len fill : ℕ) → LowInstr
array_made type to len fill = instr op.New (to ∷ len ∷ fill ∷ []) (pos type) 0

-- ---- comparisons: `a > b` is `b < a`, and `a >= b` is `b <= a`

abbrev pub comparison : Rel → ℤ
comparison r = pos (comparison_of r)

abbrev pub in_order : Rel → (left right : ℕ) → List ℕ
in_order rel.Lt left right = left ∷ right ∷ []
in_order rel.Le left right = left ∷ right ∷ []
in_order rel.Gt left right = right ∷ left ∷ []
in_order rel.Ge left right = right ∷ left ∷ []
in_order rel.Eq left right = left ∷ right ∷ []
in_order rel.Ne left right = left ∷ right ∷ []

abbrev pub compared : Rel → (to left right : ℕ) → LowInstr
compared r to left right = instr op.Set (to ∷ in_order r left right) (comparison r) 0

-- the comparison that holds where this one does not
abbrev pub opposite : Rel → Rel
opposite rel.Lt = rel.Ge
opposite rel.Le = rel.Gt
opposite rel.Gt = rel.Le
opposite rel.Ge = rel.Lt
opposite rel.Eq = rel.Ne
opposite rel.Ne = rel.Eq

-- the comparison that holds where this one is so
abbrev pub that_is : Truth → Rel → Rel
that_is true r = r
that_is false r = opposite r

-- ---- jumps and ends

-- where it goes to another position, where what is asked is so
pub record Aim : Type 0 where
  pub on : Truth
  pub to : ℕ

abbrev pub branch : Aim → Rel → (left right : ℕ) → LowInstr
branch aim r left right =
    instr op.Br (in_order (that_is aim.on r) left right) (comparison (that_is aim.on r)) aim.to

abbrev pub truth_op : Truth → Op22
truth_op true = op.Bt
truth_op false = op.Bf

abbrev pub truth_branch : Aim → (place : ℕ) → LowInstr
truth_branch aim place = instr (truth_op aim.on) (place ∷ []) (pos 0) aim.to

abbrev pub jump : (to : ℕ) → LowInstr
jump to = instr op.Jmp [] (pos 0) to

abbrev pub returned : (place : ℕ) → LowInstr
returned place = instr op.Ret (place ∷ []) (pos 0) 0

-- ---- statements

abbrev pub stored : (array index value : ℕ) → LowInstr
stored array index value = instr op.St (array ∷ index ∷ value ∷ []) (pos 0) 0

abbrev pub parted : (type from : ℕ) → (parts : List ℕ) → LowInstr
parted type from parts = instr op.Untup (from ∷ parts) (pos type) 0

abbrev pub printed : (place : ℕ) → LowInstr
printed place = instr op.Print (place ∷ []) (pos 0) 0

-- ---- what may stand or not

abbrev pub one_if : Truth → ℕ
one_if true = 1
one_if false = 0

abbrev pub jump_if : Truth → (to : ℕ) → List LowInstr
jump_if true to = jump to ∷ []
jump_if false to = []

abbrev pub label_if : Truth → (at : ℕ) → List ℕ
label_if true at = at ∷ []
label_if false at = []
