-- What an instruction is: an operation of the common table, with the places that it writes and those that it reads.
use Rattle.std.specs.Prelude.{ℕ, List, [], ◌∷◌, length, true, false}
use Rattle.operation_rules.specs.declared.operation.Operation.{Operation}
use Rattle.operation_rules.specs.declared.operation.Operation.TheVariants.{Literal, Truth, Move, Add, Sub, Mul, Div, Mod, Compare, Branch, BranchTruth, Jump, Call, Return, Length, Load, Store, New, Tuple, Untuple, Print}
use Rattle.dtal_code.specs.declared.instruction.Cmp.{Cmp}
use Rattle.dtal_code.specs.declared.instruction.Cmp.TheVariants as cmp
use Rattle.dtal_code.specs.declared.instruction.Op.{Op}
use Rattle.dtal_code.specs.declared.instruction.Op.TheVariants as op
use Rattle.dtal_code.specs.declared.object.RunOp.{RunOp}
use Rattle.dtal_code.specs.declared.object.RunOp.TheVariants as run_op

-- the number of a comparison
abbrev pub comparison : Cmp → ℕ
comparison cmp.Lt = 0
comparison cmp.Le = 1
comparison cmp.Eq = 2
comparison cmp.Ne = 3

pub record Instruction : Type 0 where
  pub operation : Operation
  pub writes : List ℕ
  pub reads : List ℕ
  -- where it goes, if it goes elsewhere
  pub target : ℕ

abbrev pub does : Operation → (writes reads : List ℕ) → Instruction
does operation writes reads = record { operation = operation; writes = writes; reads = reads; target = 0 }

abbrev pub leads : Operation → (reads : List ℕ) → (target : ℕ) → Instruction
leads operation reads target = record { operation = operation; writes = []; reads = reads; target = target }

abbrev pub instruction_of : RunOp → Instruction
instruction_of (run_op.Li rd number) = does (Literal number) (rd ∷ []) []
instruction_of (run_op.Lb rd b) = does (Truth b) (rd ∷ []) []
instruction_of (run_op.Mv p q) = does Move (p ∷ []) (q ∷ [])
instruction_of (run_op.Add rd ra rb) = does Add (rd ∷ []) (ra ∷ rb ∷ [])
instruction_of (run_op.Sub rd ra rb) = does Sub (rd ∷ []) (ra ∷ rb ∷ [])
instruction_of (run_op.Mul rd ra rb) = does Mul (rd ∷ []) (ra ∷ rb ∷ [])
instruction_of (run_op.Div rd ra rb) = does Div (rd ∷ []) (ra ∷ rb ∷ [])
instruction_of (run_op.Mod rd ra rb) = does Mod (rd ∷ []) (ra ∷ rb ∷ [])
instruction_of (run_op.Set c rd ra rb) = does (Compare (comparison c)) (rd ∷ []) (ra ∷ rb ∷ [])
instruction_of (run_op.Br c ra rb to) = leads (Branch (comparison c)) (ra ∷ rb ∷ []) to
instruction_of (run_op.Bt ra to) = leads (BranchTruth true) (ra ∷ []) to
instruction_of (run_op.Bf ra to) = leads (BranchTruth false) (ra ∷ []) to
instruction_of (run_op.Jmp to) = leads Jump [] to
instruction_of (run_op.Call fun p args) = does (Call fun) (p ∷ []) args.items
instruction_of (run_op.Ret p) = does Return [] (p ∷ [])
instruction_of (run_op.Len rd ra) = does Length (rd ∷ []) (ra ∷ [])
instruction_of (run_op.Ld rd ra ri) = does Load (rd ∷ []) (ra ∷ ri ∷ [])
instruction_of (run_op.St ra ri rv) = does Store [] (ra ∷ ri ∷ rv ∷ [])
instruction_of (run_op.New rd cells rn rv) = does (New cells) (rd ∷ []) (rn ∷ rv ∷ [])
instruction_of (run_op.Tup p number parts) = does (Tuple number) (p ∷ []) parts.items
instruction_of (run_op.Untup number q parts) = does (Untuple number (length parts.items)) parts.items (q ∷ [])
instruction_of (run_op.Print ra) = does Print [] (ra ∷ [])

-- an instruction of the text, where each label stands for a number
abbrev pub resolved : (ℕ → ℕ) → Op → RunOp
resolved at (op.Li rd number) = run_op.Li rd number
resolved at (op.Lb rd b) = run_op.Lb rd b
resolved at (op.Mv p q) = run_op.Mv p q
resolved at (op.Add rd ra rb) = run_op.Add rd ra rb
resolved at (op.Sub rd ra rb) = run_op.Sub rd ra rb
resolved at (op.Mul rd ra rb) = run_op.Mul rd ra rb
resolved at (op.Div rd ra rb) = run_op.Div rd ra rb
resolved at (op.Mod rd ra rb) = run_op.Mod rd ra rb
resolved at (op.Set c rd ra rb) = run_op.Set c rd ra rb
resolved at (op.Br c ra rb label) = run_op.Br c ra rb (at label)
resolved at (op.Bt ra label) = run_op.Bt ra (at label)
resolved at (op.Bf ra label) = run_op.Bf ra (at label)
resolved at (op.Jmp label) = run_op.Jmp (at label)
resolved at (op.Call fun p args) = run_op.Call fun p args
resolved at (op.Ret p) = run_op.Ret p
resolved at (op.Len rd ra) = run_op.Len rd ra
resolved at (op.Ld rd ra ri) = run_op.Ld rd ra ri
resolved at (op.St ra ri rv) = run_op.St ra ri rv
resolved at (op.New rd cells rn rv) = run_op.New rd cells rn rv
resolved at (op.Tup p number parts) = run_op.Tup p number parts
resolved at (op.Untup number q parts) = run_op.Untup number q parts
resolved at (op.Print ra) = run_op.Print ra

-- the same of an instruction of the text: it goes to a label
abbrev pub instruction_in : Op → Instruction
instruction_in o = instruction_of (resolved (λ label. label) o)
