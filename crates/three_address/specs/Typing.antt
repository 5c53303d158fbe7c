-- What it is for the code over places to be typed: each instruction stands in a state type that its rule allows.
use Rattle.std.specs.Prelude.{◌≡◌, ℕ, suc, ◌<◌, ◌≤◌, true, false, List, [], ◌∷◌, map, length, slice_get, Option, Some, None, Result, Ok}
use Rattle.std.specs.List.{All, AllZip, Contains}
use Rattle.index_sorts.specs.Context.{IndexContext, NamesBelow, new_context}
use Rattle.index_sorts.specs.declared.error.ContextError.{ContextError}
use Rattle.xan_lin.specs.Linear.{Linear}
use Rattle.xan_lin.specs.Subst.{VariablesRise}
use Rattle.state_types.specs.Answers.{◌>>=◌}
use Rattle.state_types.specs.PlaceTypes.{type_at, with_type}
use Rattle.state_types.specs.Types.{TypeBelow}
use Rattle.state_types.specs.declared.closed.Packed.{Packed}
use Rattle.state_types.specs.declared.closed.Signature.{Signature}
use Rattle.state_types.specs.declared.state.StateType.{StateType}
use Rattle.state_types.specs.declared.types.Ty.{Ty}
use Rattle.state_types.specs.declared.types.Ty.TheVariants as ty
use Rattle.operation_rules.specs.Applied.{Ruled, all_assuming, all_there, ruled}
use Rattle.operation_rules.specs.Faults.{Ruling}
use Rattle.operation_rules.specs.declared.operation.Operation.{Operation}
use Rattle.operation_rules.specs.declared.operation.Operation.TheVariants.{Branch, BranchTruth, Jump, Return}
use Rattle.operation_rules.specs.Rules.{Setting, tuple_at}
use Rattle.operation_rules.specs.Sides.{side}
use Rattle.operation_rules.specs.Sound.{IsSetting}
use Rattle.three_address.specs.Demands.{Demand, demands_of, label_demands, AreProved}
use Rattle.three_address.specs.Instructions.{Instruction, instruction_of, AreDifferent}
use Rattle.three_address.specs.declared.function.LowFun.{LowFun}
use Rattle.three_address.specs.declared.function.Lowered.{Lowered}
use Rattle.three_address.specs.declared.function.TheConstants.{PLACES}
use Rattle.three_address.specs.declared.instruction.LowInstr.{LowInstr}
use Rattle.three_address.specs.declared.typed.Edge.{Edge}
use Rattle.three_address.specs.declared.typed.Typed.{Typed}

-- ---- state types

-- the context of so many variables in which these rows hold, added in order
unfoldable pub stated : ℕ → List Linear → Result IndexContext ContextError
stated vars rows = do
  ctx ← new_context vars
  all_assuming (map Ok rows) ctx

-- the types of places from a number on
unfoldable pub numbered : ℕ → List Ty → List (ℕ × Ty)
numbered place [] = []
numbered place (t ∷ types) = (place, t) ∷ numbered (suc place) types

abbrev pub state_of : IndexContext → List (ℕ × Ty) → StateType
state_of ctx places = record { ctx = ctx; places = places }

-- the places with these types, one after the other
unfoldable pub with_types : List ℕ → List Ty → List (ℕ × Ty) → List (ℕ × Ty)
with_types (place ∷ writes) (t ∷ types) places = with_types writes types (with_type place t places)
with_types _ _ places = places

-- the type of a word of this number of a closed type exists
abbrev pub TypeExists : List Packed → Ty → Type 0
TypeExists table (ty.Int index) = Unit {0}
TypeExists table ty.Bool = Unit {0}
TypeExists table (ty.Array element index) = element < length table
TypeExists table (ty.Named number) = (packed : Packed) × (tuple_at table number ≡ Ok packed)

abbrev pub setting_of : Lowered → Signature → Setting
setting_of low own = record { table = low.table; sigs = map (λ fun. fun.sig) low.funs; own = own }

-- ---- ways to labels

-- The listed variables are ones of the label and none of the signature's, and have forms over the present variables. What the label demands
-- is known or proved.
pub record Reaches (sig : Signature) (state target : StateType) (edge : Edge) : Type 0 where
  pub rise : VariablesRise 0 edge.values
  pub listed : All (λ v. (sig.vars ≤ v.0) × (v.0 < target.ctx.vars) × NamesBelow state.ctx.vars v.1) edge.values
  pub demands : List Demand
  pub demanded : label_demands state target edge.values ≡ Ok demands
  pub proved : AreProved state.ctx demands edge.by

-- to the label of this number, from 1 on
pub record GoesTo (sig : Signature) (labels : List StateType) (state : StateType) (label : ℕ) (edge : Edge) : Type 0 where
  pub before : ℕ
  pub number : label ≡ suc before
  pub target : StateType
  pub there : slice_get labels before ≡ Some target
  pub reaches : Reaches sig state target edge

-- ---- instructions

-- An operation that goes on leaves the types that it gives to the places that it writes, and nothing stands for a way.
pub record GoesOn (state : StateType) (i : Instruction) (ruled : Ruled) (edge : Edge) (next : Option StateType) : Type 0 where
  pub values : edge.values ≡ []
  pub proved : AreProved state.ctx (demands_of None ruled.demands) edge.by
  pub is_next : next ≡ Some (state_of ruled.ctx (with_types i.writes ruled.types state.places))

-- A branch takes the rows of its true side along, and leaves those of its false side.
pub record Parts (sig : Signature) (labels : List StateType) (state : StateType) (i : Instruction) (types : List Ty) (label : ℕ) (edge : Edge) (next : Option StateType) : Type 0 where
  pub taken : IndexContext
  pub left : IndexContext
  pub takes : all_assuming (side true i.operation types) state.ctx ≡ Ok taken
  pub leaves : all_assuming (side false i.operation types) state.ctx ≡ Ok left
  pub to : GoesTo sig labels (state_of taken state.places) label edge
  pub is_next : next ≡ Some (state_of left state.places)

-- A function's result has its type; nothing goes on.
pub record GoesBack (state : StateType) (ruled : Ruled) (edge : Edge) : Type 0 where
  pub values : edge.values ≡ []
  pub proved : AreProved state.ctx (demands_of None ruled.demands) edge.by

-- what is asked of the way on, by the operation; `next` is the state type before the next instruction
abbrev pub Leads : (sig : Signature) (labels : List StateType) (state : StateType) (i : Instruction) (types : List Ty) (ruled : Ruled) (label : ℕ) (edge : Edge)
    (next : Option StateType) → Operation → Type 0
Leads sig labels state i types ruled label edge next (Branch c) = Parts sig labels state i types label edge next
Leads sig labels state i types ruled label edge next (BranchTruth b) = Parts sig labels state i types label edge next
Leads sig labels state i types ruled label edge next Jump = GoesTo sig labels state label edge
Leads sig labels state i types ruled label edge next Return = GoesBack state ruled edge
Leads sig labels state i types ruled label edge next _ = GoesOn state i ruled edge next

unfoldable pub ruled_in : Setting → Instruction → StateType → Ruling Ruled
ruled_in st i state = ruled st i.operation (map (λ place. type_at place state.places) i.reads) state.ctx

-- the instruction's rule allows it in this state
pub record Allows (st : Setting) (places : ℕ) (labels : List StateType) (state : StateType) (instr : LowInstr) (edge : Edge) (next : Option StateType) : Type 0 where
  pub i : Instruction
  pub is : instruction_of instr ≡ Some i
  pub small : All (λ place. place < places) instr.places
  pub differ : AreDifferent i.writes
  pub types : List Ty
  pub read : all_there (map (λ place. type_at place state.places) i.reads) ≡ Ok types
  pub ruled : Ruled
  pub by_rule : ruled_in st i state ≡ Ok ruled
  pub leads : Leads st.own labels state i types ruled instr.target edge next i.operation

-- ---- functions

-- a label's state names only what is there, and what it states holds before the instruction at its position
pub record IsLabel (table : List Packed) (sig : Signature) (label : StateType) (before : Option StateType) : Type 0 where
  pub as_many : sig.vars ≤ label.ctx.vars
  pub few : length label.ctx.rows ≤ 512
  pub rows : All (NamesBelow label.ctx.vars) label.ctx.rows
  pub types : All (λ p. TypeBelow label.ctx.vars p.1 × TypeExists table p.1) label.places
  pub ctx : IndexContext
  pub is_stated : stated label.ctx.vars label.ctx.rows ≡ Ok ctx
  pub is_before : before ≡ Some (state_of ctx label.places)

-- the first state type of a function is that of its signature
pub record Starts (sig : Signature) (first : Option StateType) : Type 0 where
  pub ctx : IndexContext
  pub is_stated : stated sig.vars sig.rows ≡ Ok ctx
  pub is_first : first ≡ Some (state_of ctx (numbered 0 sig.params))

-- the instruction does not go on to the next one
abbrev pub Stops : Operation → Type 0
Stops Jump = Unit {0}
Stops Return = Unit {0}
Stops _ = ⊥

-- Behind one that does not go on, in the same block, the state type before it stands again.
pub record StandsAgain (fun : LowFun) (states : List StateType) (at : ℕ) : Type 0 where
  pub by : (instr : LowInstr) (i : Instruction) → slice_get fun.code at ≡ Some instr → instruction_of instr ≡ Some i → Stops i.operation
      → ¬ (Contains fun.labels (suc at)) → suc at < length fun.code → slice_get states (suc at) ≡ slice_get states at

-- there is a state type before each instruction
pub record IsTypedFun (low : Lowered) (fun : LowFun) (labels : List StateType) (edges : List Edge) : Type 0 where
  pub few : fun.places ≤ PLACES
  pub params : length fun.sig.params ≤ fun.places
  pub states : List StateType
  pub one_each : length states ≡ length fun.code
  pub edge_each : length edges ≡ length fun.code
  pub starts : Starts fun.sig (slice_get states 0)
  pub label_each : AllZip (λ label at. IsLabel low.table fun.sig label (slice_get states at)) labels fun.labels
  pub allowed : (at : ℕ) (state : StateType) (instr : LowInstr) (edge : Edge) → slice_get states at ≡ Some state → slice_get fun.code at ≡ Some instr
      → slice_get edges at ≡ Some edge → Allows (setting_of low fun.sig) fun.places labels state instr edge (slice_get states (suc at))
  pub again : (at : ℕ) → StandsAgain fun states at

-- ---- programs

-- one list of labels' states and one of edges for each function
pub record IsTyped (typed : Typed) : Type 0 where
  pub main : typed.low.main < length typed.low.funs
  pub headers : (fun : LowFun) → Contains typed.low.funs fun → IsSetting (setting_of typed.low fun.sig)
  pub states_each : length typed.states ≡ length typed.low.funs
  pub edges_each : length typed.edges ≡ length typed.low.funs
  pub funs : (number : ℕ) (fun : LowFun) (labels : List StateType) (edges : List Edge) → slice_get typed.low.funs number ≡ Some fun
      → slice_get typed.states number ≡ Some labels → slice_get typed.edges number ≡ Some edges → IsTypedFun typed.low fun labels edges
