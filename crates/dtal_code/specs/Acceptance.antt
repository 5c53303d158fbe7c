-- What it is for a program to be accepted: there is a state type before each instruction, and no rule fails at any place.
use Rattle.std.specs.Prelude.{◌≡◌, ℕ, List, [], ◌∷◌, ◌++◌, drop, Ok}
use Rattle.std.specs.List.{All, AllZip}
use Rattle.state_types.specs.declared.closed.Packed.{Packed}
use Rattle.state_types.specs.declared.closed.Signature.{Signature}
use Rattle.state_types.specs.declared.state.StateType.{StateType}
use Rattle.operation_rules.specs.Rules.{Setting}
use Rattle.dtal_code.specs.declared.instruction.Instr.{Instr}
use Rattle.dtal_code.specs.declared.program.Block.{Block}
use Rattle.dtal_code.specs.declared.program.Function.{Function}
use Rattle.dtal_code.specs.declared.program.DtalProgram.{DtalProgram}
use Rattle.dtal_code.specs.Declarations.{table_of, setting_of, packed_verdict, signature_verdict, program_verdict, first_state, label_verdict}
use Rattle.dtal_code.specs.Grammar.{InGrammar}
use Rattle.dtal_code.specs.Passing.{instr_verdict}

-- no rule fails at a signature, behind functions of these names
abbrev pub SignaturesPass : List Packed → (before : List (List ℕ)) → List Function → Type 0
SignaturesPass table before [] = Unit {0}
SignaturesPass table before (fun ∷ funs) =
    (signature_verdict table before fun ≡ Ok tt) × SignaturesPass table (before ++ fun.name ∷ []) funs

-- the state at a label is the written one
pub record IsLabel (table : List Packed) (sig : Signature) (block : Block) (state : StateType) : Type 0 where
  pub is : label_verdict table sig block.state ≡ Ok state

-- In code that begins in a state, the state before each instruction is what the rule of the one before it gives.
pub data CodeStands (st : Setting) (labels : List StateType) : StateType → List Instr → List StateType → Type 0 where
  CodeEnds : (state : StateType) → CodeStands st labels state [] []
  CodeGoesOn : (state next : StateType) (instr : Instr) (code : List Instr) (states : List StateType) → instr_verdict st labels state instr ≡ Ok next
      → CodeStands st labels next code states → CodeStands st labels state (instr ∷ code) (state ∷ states)

-- Each block begins in its own state.
pub data BlocksStand (st : Setting) (labels : List StateType) : (begins : List StateType) → List Block → List StateType → Type 0 where
  BlocksEnd : BlocksStand st labels [] [] []
  BlocksGoOn : (state : StateType) (begins : List StateType) (block : Block) (blocks : List Block) (states others : List StateType)
      → CodeStands st labels state block.code states → BlocksStand st labels begins blocks others
      → BlocksStand st labels (state ∷ begins) (block ∷ blocks) (states ++ others)

-- a function whose instructions have these states before them
pub record FunctionStands (program : DtalProgram) (fun : Function) (states : List StateType) : Type 0 where
  pub first : StateType
  pub is_first : first_state fun.sig ≡ Ok first
  pub labels : List StateType
  pub label_each : AllZip (IsLabel (table_of program) fun.sig) (drop 1 fun.blocks) labels
  pub blocks : BlocksStand (setting_of program fun.sig) labels (first ∷ labels) fun.blocks states

pub record Accepted (program : DtalProgram) : Type 0 where
  pub grammar : InGrammar program
  pub types : All (λ packed. packed_verdict (table_of program) packed ≡ Ok tt) program.types
  pub signatures : SignaturesPass (table_of program) [] program.funs
  pub main : program_verdict program ≡ Ok tt
  -- for each function, the state type before each of its instructions
  pub states : List (List StateType)
  pub funs : AllZip (FunctionStands program) program.funs states
