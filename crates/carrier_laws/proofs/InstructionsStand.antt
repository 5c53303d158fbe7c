-- What is known of an instruction that writes one place, whatever its operands are.
use Rattle.std.proofs.Common.{◌≡◌, ℕ, List, [], ◌∷◌, Some}
use Rattle.operation_rules.specs.declared.operation.Operation.{Operation}
use Rattle.three_address.specs.Instructions.{instruction_of}
use Rattle.three_address.specs.declared.instruction.LowInstr.{LowInstr}
use Rattle.carrier_laws.proofs.ChainsTyped.{placed}
use Rattle.carrier_laws.proofs.ValuesPlaced.{GoesNext}
use Rattle.carrier_laws.proofs.OperandsRun.{Walk}

pub record IsInstr (w : Walk) (instr : LowInstr) (o : Operation) (to : ℕ) (reads : List ℕ) : Type 0 where
  pub is : instruction_of instr ≡ Some (record { operation = o; writes = to ∷ []; reads = reads })
  pub as_is : placed w.body instr ≡ instr
  pub goes : GoesNext o
