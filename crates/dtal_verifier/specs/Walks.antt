-- The walk over the places of a program, without the states that it finds.
use Rattle.std.specs.Prelude.{ℕ, suc, ◌+◌, Bool as Truth, ◌&&◌, List, [], ◌∷◌, ◌++◌, drop, length, Result, Ok, Err}
use Rattle.state_types.specs.Answers.{◌>>=◌}
use Rattle.state_types.specs.declared.closed.Packed.{Packed}
use Rattle.state_types.specs.declared.state.StateType.{StateType}
use Rattle.operation_rules.specs.Rules.{Setting}
use Rattle.dtal_code.specs.declared.instruction.Instr.{Instr}
use Rattle.dtal_code.specs.declared.program.Block.{Block}
use Rattle.dtal_code.specs.declared.program.Function.{Function}
use Rattle.dtal_code.specs.declared.program.DtalProgram.{DtalProgram}
use Rattle.dtal_code.specs.declared.refusal.Rule.TheVariants as rule
use Rattle.dtal_code.specs.declared.refusal.Where.TheVariants as where_is
use Rattle.dtal_code.specs.Declarations.{table_of, setting_of, types_exist, are_alone, names_own, are_few, program_verdict, first_state}
use Rattle.dtal_code.specs.Passing.{instr_verdict}
use Rattle.dtal_code.specs.Refusing.{types_walked, signatures_walked, labels_walked}
use Rattle.dtal_code.specs.Verdicts.{Verdict, Walk, asks, at_place}

-- whatever the value is
abbrev pub forgotten : {A E : Type 0} → Result A E → Result (Unit {0}) E
forgotten (Ok x) = Ok tt
forgotten (Err error) = Err error

-- What is asked of a signature, by whether the function's name is new.
unfoldable pub signature_by : Truth → List Packed → Function → Verdict (Unit {0})
signature_by is_new table fun = do
  other ← asks is_new rule.Name
  exist ← asks (types_exist table (fun.sig.result ∷ fun.sig.params)) rule.NoType
  alone ← asks (are_alone 0 fun.sig.vars fun.sig.params && are_alone fun.sig.vars fun.sig.result_vars (fun.sig.result ∷ [])) rule.Alone
  named ← asks (names_own fun.sig) rule.Form
  asks (are_few fun.sig.vars fun.sig.rows && are_few fun.sig.result_vars fun.sig.result_rows) rule.Size

-- instructions from a number on, where the first of them stands in this state
unfoldable pub code_passed : Setting → List StateType → (fun at : ℕ) → StateType → List Instr → Walk (Unit {0})
code_passed st labels fun at state [] = Ok tt
code_passed st labels fun at state (instr ∷ code) = do
  next ← at_place (where_is.Instr fun at) (instr_verdict st labels state instr)
  code_passed st labels fun (suc at) next code

-- blocks, each of which begins in a state of its own
unfoldable pub blocks_passed : Setting → List StateType → (fun at : ℕ) → (begins : List StateType) → List Block → Walk (Unit {0})
blocks_passed st labels fun at (state ∷ begins) (block ∷ blocks) = do
  one ← code_passed st labels fun at state block.code
  blocks_passed st labels fun (at + length block.code) begins blocks
blocks_passed st labels fun at _ _ = Ok tt

-- a function: its labels, and then its instructions
unfoldable pub function_passed : DtalProgram → (number : ℕ) → Function → Walk (Unit {0})
function_passed program number fun = do
  first ← at_place (where_is.Signature number) (first_state fun.sig)
  labels ← labels_walked (table_of program) fun.sig number 1 (drop 1 fun.blocks)
  blocks_passed (setting_of program fun.sig) labels number 0 (first ∷ labels) fun.blocks

-- functions from a number on
unfoldable pub functions_passed : DtalProgram → (number : ℕ) → List Function → Walk (Unit {0})
functions_passed program number [] = Ok tt
functions_passed program number (fun ∷ funs) = do
  one ← function_passed program number fun
  functions_passed program (suc number) funs

-- types, signatures and the program
unfoldable pub declarations_passed : DtalProgram → Walk (Unit {0})
declarations_passed program = do
  types ← types_walked (table_of program) 2 program.types
  signatures ← signatures_walked (table_of program) 0 [] program.funs
  at_place where_is.Program (program_verdict program)

-- all places
unfoldable pub program_passed : DtalProgram → Walk (Unit {0})
program_passed program = do
  declared ← declarations_passed program
  functions_passed program 0 program.funs

-- states behind those that are made
abbrev pub states_behind : List StateType → Walk (List StateType) → Walk (List StateType)
states_behind made (Ok states) = Ok (made ++ states)
states_behind made (Err error) = Err error
