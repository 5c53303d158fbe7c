-- When a state of the machine fits a program whose instructions have these state types before them.
use Rattle.std.specs.Prelude.{◌≡◌, ℕ, ◌+◌, ◌≤◌, ℤ, pos, List, [], ◌∷◌, ◌++◌, take, length, slice_get, Option, Some, None, Ok}
use Rattle.std.specs.List.{slice_index_or}
use Rattle.index_sorts.specs.Entails.{AllHold}
use Rattle.state_types.specs.PlaceTypes.{type_at}
use Rattle.state_types.specs.Words.{Headers, HasType, header_at}
use Rattle.state_types.specs.declared.state.StateType.{StateType}
use Rattle.state_types.specs.declared.types.Ty.{Ty}
use Rattle.operation_rules.specs.Applied.{Ruled}
use Rattle.operation_rules.specs.FlatWords.{flat_words}
use Rattle.operation_rules.specs.declared.operation.Operation.TheVariants.{Call}
use Rattle.operation_rules.specs.Sound.{Written}
use Rattle.operation_rules.specs.Stored.{StoreFits}
use Rattle.dtal_code.specs.declared.instruction.Instr.{Instr}
use Rattle.dtal_code.specs.declared.limits.TheConstants.{PLACES}
use Rattle.dtal_code.specs.declared.program.Function.{Function}
use Rattle.dtal_code.specs.declared.program.DtalProgram.{DtalProgram}
use Rattle.dtal_code.specs.Declarations.{table_of, setting_of}
use Rattle.dtal_code.specs.Instructions.{instruction_in}
use Rattle.dtal_code.specs.Machine.{Activation, State}
use Rattle.dtal_code.specs.ObjectCode.{instrs_of, starts_from}
use Rattle.dtal_code.specs.Passing.{ruled_verdict}
use Rattle.dtal_code.specs.Running.{store_of}

-- the word of a place
abbrev pub word_at : List ℤ → ℕ → ℤ
word_at places place = slice_index_or places place (pos 0)

-- ---- one activation

-- An instruction of the object code is one of the function of this number, which is `fun`, and this state type stands before it.
pub record Located (program : DtalProgram) (states : List (List StateType)) (at number : ℕ) (fun : Function) (state : StateType) : Type 0 where
  pub is_fun : slice_get program.funs number ≡ Some fun
  pub start : ℕ
  pub is_start : slice_get (starts_from 0 program.funs) number ≡ Some start
  pub index : ℕ
  pub is_at : at ≡ start + index
  pub instr : Instr
  pub is_instr : slice_get (instrs_of fun.blocks) index ≡ Some instr
  pub own : List StateType
  pub is_own : slice_get states number ≡ Some own
  pub is_state : slice_get own index ≡ Some state

-- under an assignment of its variables a state type holds of the words of places
pub record Holds (headers : Headers) (places assignment : List ℤ) (state : StateType) : Type 0 where
  pub one_each : length assignment ≡ state.ctx.vars
  pub hold : AllHold assignment state.ctx.rows
  pub typed : (place : ℕ) (t : Ty) → type_at place state.places ≡ Some t → HasType headers assignment (word_at places place) t

-- An activation stands in the function of this number, whose own variables have these values, and the state type before its instruction holds of
-- its words.
pub record Stands (program : DtalProgram) (states : List (List StateType)) (headers : Headers) (number : ℕ) (fun : Function) (values : List ℤ)
    (act : Activation) : Type 0 where
  pub state : StateType
  pub located : Located program states act.at number fun state
  pub places : length act.places ≡ PLACES
  pub assignment : List ℤ
  pub own : take fun.sig.vars assignment ≡ values
  pub holds : Holds headers act.places assignment state

-- ---- callers

-- A caller stands at a call of the function of this number, whose own variables have these values, and its result goes to this place. Whatever
-- the store is then, a word that has the type of the function's result, for some values of the result's variables, has the type that the
-- caller's rule gives, and the rest of what the caller knows still holds.
pub record Waits (program : DtalProgram) (states : List (List StateType)) (headers : Headers) (number : ℕ) (fun : Function) (values : List ℤ) (place : ℕ)
    (caller : Activation) (lower : ℕ) (outer : Function) (given : List ℤ) : Type 0 where
  pub stands : Stands program states headers lower outer given caller
  pub is_call : (instruction_in stands.located.instr.op).operation ≡ Call number
  pub is_place : (instruction_in stands.located.instr.op).writes ≡ place ∷ []
  pub ruled : Ruled
  pub is_ruled : ruled_verdict (setting_of program outer.sig) stands.state (instruction_in stands.located.instr.op) stands.located.instr.by ≡ Ok ruled
  pub back : (later : Headers) (own : List ℤ) (word : ℤ) → length own ≡ fun.sig.result_vars → AllHold (values ++ own) fun.sig.result_rows
      → HasType later (values ++ own) word fun.sig.result → Written later stands.assignment stands.state.ctx ruled (word ∷ [])

-- what waits for an activation of a function whose own variables have these values, and gives its result to that place: its caller, for whom
-- others wait in turn; the first activation has no caller, and gives its result to no place
pub record HasCaller (program : DtalProgram) (states : List (List StateType)) (headers : Headers) (number : ℕ) (fun : Function) (values : List ℤ) (place : ℕ)
    (caller : Activation) (more : ℕ → Function → List ℤ → Option ℕ → Type 0) : Type 0 where
  pub lower : ℕ
  pub outer : Function
  pub given : List ℤ
  pub waits : Waits program states headers number fun values place caller lower outer given
  pub others : more lower outer given caller.result_to

unfoldable pub AllWait : DtalProgram → List (List StateType) → Headers → (callers : List Activation) → ℕ → Function → List ℤ → (result_to : Option ℕ) → Type 0
AllWait program states headers [] number fun values None = Unit {0}
AllWait program states headers [] number fun values (Some place) = ⊥
AllWait program states headers (caller ∷ callers) number fun values None = ⊥
AllWait program states headers (caller ∷ callers) number fun values (Some place) =
    HasCaller program states headers number fun values place caller (AllWait program states headers callers)

-- ---- states

pub record StateFits (program : DtalProgram) (states : List (List StateType)) (state : State) : Type 0 where
  -- the store's blocks are whole, and their cells have their types
  pub store : StoreFits flat_words (table_of program) (store_of state)
  pub room : length state.words ≤ state.heap
  -- at least one activation, and no more than there may be
  pub top : Activation
  pub callers : List Activation
  pub uppermost : state.activations ≡ top ∷ callers
  pub depth : length state.activations ≤ state.depth
  -- the uppermost one, and its callers
  pub number : ℕ
  pub fun : Function
  pub values : List ℤ
  pub stands : Stands program states (header_at state.words) number fun values top
  pub wait : AllWait program states (header_at state.words) callers number fun values top.result_to
