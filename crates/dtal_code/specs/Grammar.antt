-- Which programs have a text, and which bytes it is.
use Rattle.std.specs.Prelude.{◌≡◌, ℕ, ◌+◌, ◌≤◌, FitsSigned, Bool as Truth, true, false, IsTrue, List, [], ◌∷◌, length, Option, Some, None}
use Rattle.std.specs.List.{All}
use Rattle.std.specs.Int.{w64}
use Rattle.xan_lin.specs.Linear.{Linear, IsForm}
use Rattle.xan_lin.specs.Subst.{VariablesRise}
use Rattle.proof_lines.specs.declared.line.Line.{Line}
use Rattle.proof_lines.specs.Spelling.{AreVariables, IsLinesText, lines_text}
use Rattle.state_types.specs.PlaceTypes.{PlacesRise}
use Rattle.state_types.specs.declared.closed.Packed.{Packed}
use Rattle.state_types.specs.declared.closed.Signature.{Signature}
use Rattle.state_types.specs.declared.types.Ty.{Ty}
use Rattle.state_types.specs.declared.types.Ty.TheVariants as ty
use Rattle.dtal_code.specs.declared.instruction.Op.{Op}
use Rattle.dtal_code.specs.declared.instruction.Op.TheVariants as op
use Rattle.dtal_code.specs.declared.instruction.Instr.{Instr}
use Rattle.dtal_code.specs.declared.limits.TheConstants.{LAST_NUMBER, LAST_TYPE, MOST_TYPES, MOST_LISTED}
use Rattle.dtal_code.specs.declared.program.LabelState.{LabelState}
use Rattle.dtal_code.specs.declared.program.Block.{Block}
use Rattle.dtal_code.specs.declared.program.Function.{Function}
use Rattle.dtal_code.specs.declared.program.DtalProgram.{DtalProgram}
use Rattle.dtal_code.specs.Lower.{is_lower}
use Rattle.dtal_code.specs.Spelling.{has_edge, program_text}
use Rattle.dtal_code.specs.Places.{IsRegister, IsPlace}

-- a variable, a label, a function
abbrev pub IsNumber : ℕ → Type 0
IsNumber number = number ≤ LAST_NUMBER

abbrev pub IsTypeNumber : ℕ → Type 0
IsTypeNumber number = number ≤ LAST_TYPE

-- ---- types

pub record IsFormIn (form : Linear) : Type 0 where
  pub is_form : IsForm form
  pub variables : AreVariables form.terms

abbrev pub IsTyIn : Ty → Type 0
IsTyIn (ty.Int form) = IsFormIn form
IsTyIn ty.Bool = Unit {0}
IsTyIn (ty.Array element form) = IsTypeNumber element × IsFormIn form
IsTyIn (ty.Named number) = IsTypeNumber number

pub record IsQuantifier (vars : ℕ) (rows : List Linear) : Type 0 where
  pub few : IsNumber vars
  pub are : All IsFormIn rows

-- a tuple type has a part at least, and a cell type has one
abbrev pub IsPartCount : (tuple : Truth) → (count : ℕ) → Type 0
IsPartCount true count = (1 ≤ count) × (count ≤ MOST_LISTED)
IsPartCount false count = count ≡ 1

pub record IsTypeIn (packed : Packed) : Type 0 where
  pub quantifier : IsQuantifier packed.vars packed.rows
  pub count : IsPartCount packed.tuple (length packed.parts)
  pub parts : All IsTyIn packed.parts

-- ---- instructions

pub record IsListed (places : List ℕ) : Type 0 where
  pub few : length places ≤ MOST_LISTED
  pub are : All IsPlace places

abbrev pub IsThree : ℕ → ℕ → ℕ → Type 0
IsThree rd ra rb = IsRegister rd × IsRegister ra × IsRegister rb

-- its operands are in range
abbrev pub IsOpIn : Op → Type 0
IsOpIn (op.Li rd number) = IsRegister rd × FitsSigned w64 number
IsOpIn (op.Lb rd b) = IsRegister rd
IsOpIn (op.Mv p q) = IsPlace p × IsPlace q
IsOpIn (op.Add rd ra rb) = IsThree rd ra rb
IsOpIn (op.Sub rd ra rb) = IsThree rd ra rb
IsOpIn (op.Mul rd ra rb) = IsThree rd ra rb
IsOpIn (op.Div rd ra rb) = IsThree rd ra rb
IsOpIn (op.Mod rd ra rb) = IsThree rd ra rb
IsOpIn (op.Set c rd ra rb) = IsThree rd ra rb
IsOpIn (op.Br c ra rb label) = IsRegister ra × IsRegister rb × IsNumber label
IsOpIn (op.Bt ra label) = IsRegister ra × IsNumber label
IsOpIn (op.Bf ra label) = IsRegister ra × IsNumber label
IsOpIn (op.Jmp label) = IsNumber label
IsOpIn (op.Call fun p args) = IsNumber fun × IsPlace p × IsListed args.items
IsOpIn (op.Ret p) = IsPlace p
IsOpIn (op.Len rd ra) = IsRegister rd × IsRegister ra
IsOpIn (op.Ld rd ra ri) = IsThree rd ra ri
IsOpIn (op.St ra ri rv) = IsThree ra ri rv
IsOpIn (op.New rd cells rn rv) = IsRegister rd × IsTypeNumber cells × IsRegister rn × IsRegister rv
IsOpIn (op.Tup p number parts) = IsPlace p × IsTypeNumber number × IsListed parts.items
IsOpIn (op.Untup number q parts) = IsTypeNumber number × IsPlace q × IsListed parts.items
IsOpIn (op.Print ra) = IsRegister ra

abbrev pub IsValue : ℕ × Linear → Type 0
IsValue v = IsNumber v.0 × IsFormIn v.1

pub record IsEdge (values : List (ℕ × Linear)) : Type 0 where
  pub rise : VariablesRise 0 values
  pub are : All IsValue values

-- the values of an instruction that goes to a label; another one has none
abbrev pub IsWay : (has : Truth) → List (ℕ × Linear) → Type 0
IsWay true values = IsEdge values
IsWay false values = values ≡ []

abbrev pub AreLinesIn : List Line → Type 0
AreLinesIn lines = IsLinesText lines (lines_text lines)

pub record IsInstr (i : Instr) : Type 0 where
  pub op : IsOpIn i.op
  pub way : IsWay (has_edge i.op) i.edge
  pub by : All AreLinesIn i.by

-- ---- blocks

-- no instruction behind it in its block is reached
abbrev pub is_last : Op → Truth
is_last (op.Jmp label) = true
is_last (op.Ret p) = true
is_last _ = false

-- there is a last instruction, and it is a jump or a return
abbrev pub EndsLast : List Instr → Type 0
EndsLast [] = ⊥
EndsLast (i ∷ []) = IsTrue (is_last i.op)
EndsLast (_ ∷ i ∷ code) = EndsLast (i ∷ code)

pub record IsCode (code : List Instr) : Type 0 where
  pub instrs : All IsInstr code
  pub ends : EndsLast code

abbrev pub IsTypedPlace : ℕ × Ty → Type 0
IsTypedPlace p = IsPlace p.0 × IsTyIn p.1

pub record IsLabelState (state : LabelState) : Type 0 where
  pub quantifier : IsQuantifier state.vars state.rows
  pub rise : PlacesRise 0 state.places
  pub places : All IsTypedPlace state.places

abbrev pub IsState : Option LabelState → Type 0
IsState None = ⊥
IsState (Some state) = IsLabelState state

pub record IsLabelled (block : Block) : Type 0 where
  pub state : IsState block.state
  pub code : IsCode block.code

-- the first block has no label, and each other one has one
abbrev pub AreBlocks : List Block → Type 0
AreBlocks [] = ⊥
AreBlocks (first ∷ blocks) = (first.state ≡ None) × IsCode first.code × (length blocks ≤ LAST_NUMBER) × All IsLabelled blocks

-- ---- functions

pub record IsSignature (sig : Signature) : Type 0 where
  pub quantifier : IsQuantifier sig.vars sig.rows
  pub few : length sig.params ≤ MOST_LISTED
  pub params : All IsTyIn sig.params
  pub result_quantifier : IsQuantifier sig.result_vars sig.result_rows
  pub result : IsTyIn sig.result

-- how many instructions there are
unfoldable pub size_of : List Block → ℕ
size_of [] = 0
size_of (block ∷ blocks) = length block.code + size_of blocks

pub record IsFunction (fun : Function) : Type 0 where
  pub name : IsTrue (is_lower fun.name)
  pub sig : IsSignature fun.sig
  pub blocks : AreBlocks fun.blocks
  pub few : size_of fun.blocks ≤ LAST_NUMBER

-- ---- programs

pub record InGrammar (program : DtalProgram) : Type 0 where
  pub few_types : length program.types ≤ MOST_TYPES
  pub types : All IsTypeIn program.types
  pub few_funs : length program.funs ≤ LAST_NUMBER
  pub funs : All IsFunction program.funs

-- the bytes are the program's text
pub record Spells (bytes : List ℕ) (program : DtalProgram) : Type 0 where
  pub text : bytes ≡ program_text program
  pub grammar : InGrammar program
