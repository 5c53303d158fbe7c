-- What is asked of typed code so that its text exists: what the types of its parts in memory grant, and that blocks end.
use Rattle.std.specs.Prelude.{◌≡◌, ℕ, ◌-◌, ◌≤◌, FitsSigned, IsTrue, ◌+◌, Bool, true, false, List, [], ◌∷◌, length, take, drop, Some}
use Rattle.std.specs.Int.{w64}
use Rattle.std.specs.List.{All}
use Rattle.three_address.specs.Splits.{Parts, parts_of}
use Rattle.three_address.specs.declared.instruction.LowInstr.{LowInstr}
use Rattle.three_address.specs.declared.instruction.Op22.{Op22}
use Rattle.three_address.specs.declared.instruction.Op22.TheVariants as low
use Rattle.three_address.specs.declared.typed.Edge.{Edge}
use Rattle.three_address.specs.declared.typed.ProvedRow.{ProvedRow}
use Rattle.three_address.specs.declared.assignment.Assignment.{Assignment}
use Rattle.three_address.specs.declared.function.LowFun.{LowFun}
use Rattle.three_address.specs.declared.typed.Typed.{Typed}
use Rattle.state_types.specs.declared.state.StateType.{StateType}
use Rattle.state_types.specs.declared.types.Ty.{Ty}
use Rattle.dtal_code.specs.Grammar.{IsNumber, IsTypeNumber, IsWay, AreLinesIn, IsQuantifier, IsTyIn, IsSignature, IsTypeIn}
use Rattle.dtal_code.specs.Lower.{is_lower}
use Rattle.dtal_code.specs.declared.limits.TheConstants.{LAST_NUMBER, MOST_TYPES}
use Rattle.dtal_emit.specs.Acting.{type_of}
use Rattle.dtal_emit.specs.Emitted.{fewer, emitted_all}
use Rattle.dtal_emit.specs.Homes.{home_of, entry_moves}
use Rattle.emission_laws.specs.ApartHomes.{IsHome, names_type}

-- each element, one after the other
abbrev pub Each : {A : Type 0} → (A → Type 0) → List A → Type 0
Each P [] = Unit {0}
Each P (x ∷ xs) = P x × Each P xs

abbrev pub goes_to_label : Op22 → Bool
goes_to_label low.Br = true
goes_to_label low.Bt = true
goes_to_label low.Bf = true
goes_to_label low.Jmp = true
goes_to_label _ = false

-- numbers are in the ranges of the text, one that is a type's too, and values stand where a label is gone to
pub record IsRangedInstr (instr : LowInstr) (edge : Edge) : Type 0 where
  pub number : FitsSigned w64 instr.number
  pub target : IsNumber instr.target
  pub type : names_type instr.op ≡ true → IsTypeNumber (type_of instr.number)
  pub way : IsWay (goes_to_label instr.op) edge.values
  pub by : Each (λ (b : ProvedRow). AreLinesIn b.lines) edge.by

unfoldable pub AreRanged : List LowInstr → List Edge → Type 0
AreRanged [] edges = Unit {0}
AreRanged (i ∷ code) [] = Unit {0}
AreRanged (i ∷ code) (edge ∷ edges) = IsRangedInstr i edge × AreRanged code edges

-- ---- blocks

abbrev pub ends_block : Op22 → Bool
ends_block low.Jmp = true
ends_block low.Ret = true
ends_block _ = false

pub record IsEnd (instr : LowInstr) : Type 0 where
  pub ends : ends_block instr.op ≡ true
  pub parts : Parts
  pub is_parts : parts_of instr ≡ Some parts

-- there is a last instruction, and it is a jump or a return
abbrev pub EndsLow : List LowInstr → Type 0
EndsLow [] = ⊥
EndsLow (i ∷ []) = IsEnd i
EndsLow (_ ∷ i ∷ code) = EndsLow (i ∷ code)

-- so does each block: from one label to the next
unfoldable pub BlocksEnd : (at : ℕ) → (positions : List ℕ) → List LowInstr → Type 0
BlocksEnd at [] code = EndsLow code
BlocksEnd at (next ∷ positions) code = EndsLow (take (next - at) code) × BlocksEnd next positions (drop (next - at) code)

-- ---- functions and programs

-- what a label states has a text
pub record IsRangedState (label : StateType) : Type 0 where
  pub quantifier : IsQuantifier label.ctx.vars label.ctx.rows
  pub places : Each (λ (p : ℕ × Ty). IsTyIn p.1) label.places

-- what the parts of a function grant
pub record IsRangedFun (fun : LowFun) (labels : List StateType) (edges : List Edge) (homes : List ℕ) : Type 0 where
  pub name : IsTrue (is_lower fun.name)
  pub sig : IsSignature fun.sig
  pub homes_are : (place : ℕ) → IsHome (home_of homes place)
  pub instrs : AreRanged fun.code edges
  pub edge_each : length edges ≡ length fun.code
  pub states : Each IsRangedState labels
  pub label_each : length labels ≡ length fun.labels
  pub few_labels : length fun.labels ≤ LAST_NUMBER
  pub ends : BlocksEnd 0 fun.labels fun.code
  pub few : length (entry_moves homes (fewer 8 (length fun.sig.params))) + length (emitted_all homes fun.code edges) ≤ LAST_NUMBER

unfoldable pub AreRangedFuns : List LowFun → List (List StateType) → List (List Edge) → List (List ℕ) → Type 0
AreRangedFuns (fun ∷ funs) (labels ∷ states) (es ∷ edges) (hs ∷ homes) = IsRangedFun fun labels es hs × AreRangedFuns funs states edges homes
AreRangedFuns _ _ _ _ = Unit {0}

pub record IsRanged (typed : Typed) (homes : Assignment) : Type 0 where
  pub few_types : length (drop 2 typed.low.table) ≤ MOST_TYPES
  pub types : All IsTypeIn (drop 2 typed.low.table)
  pub few_funs : length typed.low.funs ≤ LAST_NUMBER
  pub funs : AreRangedFuns typed.low.funs typed.states typed.edges homes.homes
