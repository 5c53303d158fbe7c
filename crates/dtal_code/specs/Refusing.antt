-- The first place of a program at which a rule fails, with the first such rule; and else the state type before each instruction.
use Rattle.std.specs.Prelude.{ℕ, suc, ◌+◌, List, [], ◌∷◌, ◌++◌, drop, length, Option, Some, None, Ok, Err}
use Rattle.state_types.specs.Answers.{◌>>=◌}
use Rattle.state_types.specs.declared.closed.Packed.{Packed}
use Rattle.state_types.specs.declared.closed.Signature.{Signature}
use Rattle.state_types.specs.declared.state.StateType.{StateType}
use Rattle.operation_rules.specs.Rules.{Setting}
use Rattle.dtal_code.specs.declared.instruction.Instr.{Instr}
use Rattle.dtal_code.specs.declared.program.Block.{Block}
use Rattle.dtal_code.specs.declared.program.Function.{Function}
use Rattle.dtal_code.specs.declared.program.DtalProgram.{DtalProgram}
use Rattle.dtal_code.specs.declared.refusal.Refusal.{Refusal}
use Rattle.dtal_code.specs.declared.refusal.Where.TheVariants as where_is
use Rattle.dtal_code.specs.Declarations.{table_of, setting_of, packed_verdict, signature_verdict, program_verdict, first_state, label_verdict}
use Rattle.dtal_code.specs.Passing.{instr_verdict}
use Rattle.dtal_code.specs.Verdicts.{Walk, at_place}

-- ---- types and signatures

-- types from a number on
unfoldable pub types_walked : List Packed → (number : ℕ) → List Packed → Walk (Unit {0})
types_walked table number [] = Ok tt
types_walked table number (packed ∷ types) = do
  first ← at_place (where_is.Types number) (packed_verdict table packed)
  types_walked table (suc number) types

-- signatures from a number on, behind functions of these names
unfoldable pub signatures_walked : List Packed → (number : ℕ) → (before : List (List ℕ)) → List Function → Walk (Unit {0})
signatures_walked table number before [] = Ok tt
signatures_walked table number before (fun ∷ funs) = do
  first ← at_place (where_is.Signature number) (signature_verdict table before fun)
  signatures_walked table (suc number) (before ++ fun.name ∷ []) funs

-- ---- functions

-- the states at labels from a number on
unfoldable pub labels_walked : List Packed → Signature → (fun label : ℕ) → List Block → Walk (List StateType)
labels_walked table sig fun label [] = Ok []
labels_walked table sig fun label (block ∷ blocks) = do
  state ← at_place (where_is.Label fun label) (label_verdict table sig block.state)
  states ← labels_walked table sig fun (suc label) blocks
  Ok (state ∷ states)

-- the states before instructions from a number on, where the first of them stands in this state
unfoldable pub code_walked : Setting → List StateType → (fun at : ℕ) → StateType → List Instr → Walk (List StateType)
code_walked st labels fun at state [] = Ok []
code_walked st labels fun at state (instr ∷ code) = do
  next ← at_place (where_is.Instr fun at) (instr_verdict st labels state instr)
  states ← code_walked st labels fun (suc at) next code
  Ok (state ∷ states)

-- the same of blocks, each of which begins in a state of its own
unfoldable pub blocks_walked : Setting → List StateType → (fun at : ℕ) → (begins : List StateType) → List Block → Walk (List StateType)
blocks_walked st labels fun at (state ∷ begins) (block ∷ blocks) = do
  states ← code_walked st labels fun at state block.code
  others ← blocks_walked st labels fun (at + length block.code) begins blocks
  Ok (states ++ others)
blocks_walked st labels fun at _ _ = Ok []

-- a function: its labels, and then its instructions
unfoldable pub function_walked : DtalProgram → (number : ℕ) → Function → Walk (List StateType)
function_walked program number fun = do
  first ← at_place (where_is.Signature number) (first_state fun.sig)
  labels ← labels_walked (table_of program) fun.sig number 1 (drop 1 fun.blocks)
  blocks_walked (setting_of program fun.sig) labels number 0 (first ∷ labels) fun.blocks

-- functions from a number on
unfoldable pub functions_walked : DtalProgram → (number : ℕ) → List Function → Walk (List (List StateType))
functions_walked program number [] = Ok []
functions_walked program number (fun ∷ funs) = do
  states ← function_walked program number fun
  others ← functions_walked program (suc number) funs
  Ok (states ∷ others)

-- ---- programs

-- for each function the state type before each of its instructions
unfoldable pub verified : DtalProgram → Walk (List (List StateType))
verified program = do
  types ← types_walked (table_of program) 2 program.types
  signatures ← signatures_walked (table_of program) 0 [] program.funs
  main ← at_place where_is.Program (program_verdict program)
  functions_walked program 0 program.funs

abbrev pub refusal_in : Walk (List (List StateType)) → Option Refusal
refusal_in (Ok states) = None
refusal_in (Err refusal) = Some refusal

abbrev pub first_refusal : DtalProgram → Option Refusal
first_refusal program = refusal_in (verified program)
