-- What the instructions of expressions are.
use Rattle.std.proofs.Common.{◌≡◌, ℕ, suc, List, [], ◌∷◌, length, Some, None, cond, refl, ap, arith}
use Rattle.std.proofs.lemmas.Bool.Decides.{nat_tests}
use Rattle.std.specs.Prelude.{ℤ, nat_le, true, false, Bool}
use Rattle.std.specs.List.{AllZip}
use Rattle.operation_rules.specs.declared.operation.Operation.TheVariants as operation
use Rattle.state_types.specs.declared.types.Ty.{Ty}
use Rattle.three_address.specs.Instructions.{instruction_of}
use Rattle.three_address.specs.declared.instruction.Op22.TheVariants as op
use Rattle.value_lowering.specs.OneInstruction.{literal, truth, unary, binary, op_of, called, tuple_made, array_made, compared, in_order}
use Rattle.xanadu_tree.specs.declared.expr.Op.{Op}
use Rattle.xanadu_tree.specs.declared.expr.Op.TheVariants as arithmetic
use Rattle.xanadu_tree.specs.declared.expr.Rel.{Rel}
use Rattle.xanadu_tree.specs.declared.expr.Rel.TheVariants as rel
use Rattle.typed_core.specs.Operators as operators
use Rattle.carrier_laws.proofs.OperandsRun.{Walk}
use Rattle.carrier_laws.proofs.InstructionsStand.{IsInstr}

one_listed : (n : ℕ) → nat_le 1 (suc n) ≡ true
one_listed n = grind (arith, nat_tests)

module _ (w : Walk) (to : ℕ) where
  pub literal_is : (n : ℤ) → IsInstr w (literal to n) (operation.Literal n) to []
  unfolding instruction_of
  literal_is n = record { is = refl; as_is = refl; goes = record { on = λ p l. refl; leads = λ st labels state i types ruled label edge next g. g } }

  pub truth_is : (b : Bool) → IsInstr w (truth to b) (operation.Truth b) to []
  unfolding instruction_of
  truth_is true = record { is = refl; as_is = refl; goes = record { on = λ p l. refl; leads = λ st labels state i types ruled label edge next g. g } }
  truth_is false = record { is = refl; as_is = refl; goes = record { on = λ p l. refl; leads = λ st labels state i types ruled label edge next g. g } }

  pub move_is : (from : ℕ) → IsInstr w (unary op.Mv to from) operation.Move to (from ∷ [])
  unfolding instruction_of
  move_is from = record { is = refl; as_is = refl; goes = record { on = λ p l. refl; leads = λ st labels state i types ruled label edge next g. g } }

  pub length_is : (from : ℕ) → IsInstr w (unary op.Len to from) operation.Length to (from ∷ [])
  unfolding instruction_of
  length_is from = record { is = refl; as_is = refl; goes = record { on = λ p l. refl; leads = λ st labels state i types ruled label edge next g. g } }

  pub load_is : (left right : ℕ) → IsInstr w (binary op.Ld to left right) operation.Load to (left ∷ right ∷ [])
  unfolding instruction_of
  load_is left right = record { is = refl; as_is = refl; goes = record { on = λ p l. refl; leads = λ st labels state i types ruled label edge next g. g } }

  pub operator_is : (o : Op) (left right : ℕ) → IsInstr w (binary (op_of o) to left right) (operators.operation_of o) to (left ∷ right ∷ [])
  unfolding instruction_of
  operator_is arithmetic.Add left right = record { is = refl; as_is = refl; goes = record { on = λ p l. refl; leads = λ st labels state i types ruled label edge next g. g } }
  operator_is arithmetic.Sub left right = record { is = refl; as_is = refl; goes = record { on = λ p l. refl; leads = λ st labels state i types ruled label edge next g. g } }
  operator_is arithmetic.Mul left right = record { is = refl; as_is = refl; goes = record { on = λ p l. refl; leads = λ st labels state i types ruled label edge next g. g } }
  operator_is arithmetic.Div left right = record { is = refl; as_is = refl; goes = record { on = λ p l. refl; leads = λ st labels state i types ruled label edge next g. g } }
  operator_is arithmetic.Mod left right = record { is = refl; as_is = refl; goes = record { on = λ p l. refl; leads = λ st labels state i types ruled label edge next g. g } }

  pub compare_is : (r : Rel) (left right : ℕ) → IsInstr w (compared r to left right) (operation.Compare (operators.comparison_of r)) to (in_order r left right)
  unfolding instruction_of
  compare_is rel.Lt left right = record { is = refl; as_is = refl; goes = record { on = λ p l. refl; leads = λ st labels state i types ruled label edge next g. g } }
  compare_is rel.Le left right = record { is = refl; as_is = refl; goes = record { on = λ p l. refl; leads = λ st labels state i types ruled label edge next g. g } }
  compare_is rel.Gt left right = record { is = refl; as_is = refl; goes = record { on = λ p l. refl; leads = λ st labels state i types ruled label edge next g. g } }
  compare_is rel.Ge left right = record { is = refl; as_is = refl; goes = record { on = λ p l. refl; leads = λ st labels state i types ruled label edge next g. g } }
  compare_is rel.Eq left right = record { is = refl; as_is = refl; goes = record { on = λ p l. refl; leads = λ st labels state i types ruled label edge next g. g } }
  compare_is rel.Ne left right = record { is = refl; as_is = refl; goes = record { on = λ p l. refl; leads = λ st labels state i types ruled label edge next g. g } }

  pub array_is : (element len fill : ℕ) → IsInstr w (array_made element to len fill) (operation.New element) to (len ∷ fill ∷ [])
  unfolding instruction_of
  array_is element len fill = record { is = refl; as_is = refl; goes = record { on = λ p l. refl; leads = λ st labels state i types ruled label edge next g. g } }

  pub call_is : (fun : ℕ) (args : List ℕ) → IsInstr w (called fun to args) (operation.Call fun) to args
  unfolding instruction_of
  call_is fun args = record { is = ap (λ b. cond b (Some (record { operation = operation.Call fun; writes = to ∷ []; reads = args })) None) (one_listed (length args)); as_is = refl; goes = record { on = λ p l. refl; leads = λ st labels state i types ruled label edge next g. g } }

  pub tuple_is : (number : ℕ) (parts : List ℕ) → IsInstr w (tuple_made number to parts) (operation.Tuple number) to parts
  unfolding instruction_of
  tuple_is number parts = record { is = ap (λ b. cond b (Some (record { operation = operation.Tuple number; writes = to ∷ []; reads = parts })) None) (one_listed (length parts)); as_is = refl; goes = record { on = λ p l. refl; leads = λ st labels state i types ruled label edge next g. g } }

-- the sides of a comparison, each with its type
pub sides_in_order : (P : ℕ → Ty → Type 0) (r : Rel) (left right : ℕ) (t u : Ty) → P left t → P right u → AllZip P (in_order r left right) (operators.in_order r t u)
sides_in_order P rel.Lt left right t u a b = (a, (b, tt))
sides_in_order P rel.Le left right t u a b = (a, (b, tt))
sides_in_order P rel.Gt left right t u a b = (b, (a, tt))
sides_in_order P rel.Ge left right t u a b = (b, (a, tt))
sides_in_order P rel.Eq left right t u a b = (a, (b, tt))
sides_in_order P rel.Ne left right t u a b = (a, (b, tt))
