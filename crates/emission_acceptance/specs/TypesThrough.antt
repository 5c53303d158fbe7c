-- Interface between the two halves (accept-a publishes; becomes emission_acceptance/specs/TypesThrough.antt).
-- Which types stand in homes: a state type of the text has each kept type of the state type over places.
use Rattle.std.specs.Prelude.{◌≡◌, ◌≢◌, ℕ, suc, ◌<◌, List, [], ◌∷◌, length, Some, slice_get, Ok}
use Rattle.std.specs.List.{All, Contains}
use Rattle.index_sorts.specs.Context.{IndexContext}
use Rattle.xan_lin.specs.Linear.{Linear}
use Rattle.state_types.specs.PlaceTypes.{type_at}
use Rattle.state_types.specs.declared.state.StateType.{StateType}
use Rattle.state_types.specs.declared.types.Ty.{Ty}
use Rattle.operation_rules.specs.Rules.{Setting}
use Rattle.three_address.specs.Flow.{instruction_at, writes_at}
use Rattle.three_address.specs.Instructions.{Instruction}
use Rattle.three_address.specs.Typing.{Reaches, Stops}
use Rattle.three_address.specs.declared.function.LowFun.{LowFun}
use Rattle.three_address.specs.declared.typed.Edge.{Edge}
use Rattle.dtal_code.specs.declared.instruction.Instr.{Instr}
use Rattle.dtal_code.specs.Declarations.{state_of}
use Rattle.dtal_code.specs.Passing.{instr_verdict, edge_verdict, asks_lines}
use Rattle.dtal_emit.specs.Emitted.{ordered}
use Rattle.dtal_emit.specs.Homes.{home_of}
use Rattle.emission_laws.specs.ApartHomes.{Kept, AreApart}

-- ---- states

-- each kept place that has a type has it in its home
pub record AreTyped (homes : List ℕ) (kept : ℕ → Type 0) (low text : List (ℕ × Ty)) : Type 0 where
  pub typed : (place : ℕ) (t : Ty) → kept place → type_at place low ≡ Some t → type_at (home_of homes place) text ≡ Some t

-- the same context, and these types
pub record Through (homes : List ℕ) (kept : ℕ → Type 0) (low text : StateType) : Type 0 where
  pub ctx : text.ctx ≡ low.ctx
  pub places : AreTyped homes kept low.places text.places

-- ---- kept places, as types want them

-- beside `AreApart`
pub record AreTypesApart (fun : LowFun) (labels : List StateType) (homes : List ℕ) (kept : Kept) : Type 0 where
  pub apart : AreApart fun homes kept
  -- two places that one instruction writes have different homes
  pub differ : (at one other : ℕ) → Contains (writes_at fun at) one → Contains (writes_at fun at) other → one ≢ other → home_of homes one ≢ home_of homes other
  -- behind an instruction that does not go on, in the same block, nothing else is kept
  pub again : (at place : ℕ) (i : Instruction) → instruction_at fun.code at ≡ Some i → Stops i.operation → ¬ (Contains fun.labels (suc at)) → kept (suc at) place → kept at place
  -- what a label lists is kept there
  pub listed : (before at : ℕ) (label : StateType) → slice_get labels before ≡ Some label → slice_get fun.labels before ≡ Some at → All (λ p. kept at p.0) label.places

-- ---- ways to labels (accept-b proves `LabelPasses` of each label; accept-a takes it as a premise)

pub record EdgePasses (st : Setting) (homes : List ℕ) (text target : StateType) (taken : IndexContext) (edge : Edge) : Type 0 where
  pub demands : List Linear
  pub is : edge_verdict st text target edge.values ≡ Ok demands
  pub proved : asks_lines taken demands (ordered homes edge.by) ≡ Ok tt

-- `low` is the state of the label number `before` (from 0), `kept` what is kept at its position, `texts` the states of the text's labels
pub record LabelPasses (st : Setting) (homes : List ℕ) (kept : ℕ → Type 0) (texts : List StateType) (before : ℕ) (low : StateType) : Type 0 where
  pub target : StateType
  pub there : slice_get texts before ≡ Some target
  pub passes : (places text_places : List (ℕ × Ty)) (ctx taken : IndexContext) (edge : Edge) → ctx.vars ≡ taken.vars → AreTyped homes kept places text_places
      → Reaches st.own (state_of taken places) low edge → EdgePasses st homes (state_of ctx text_places) target taken edge

-- each label of the function
pub record LabelsPass (st : Setting) (fun : LowFun) (labels : List StateType) (homes : List ℕ) (kept : Kept) (texts : List StateType) : Type 0 where
  pub each : (before at : ℕ) (low : StateType) → slice_get labels before ≡ Some low → slice_get fun.labels before ≡ Some at → LabelPasses st homes (kept at) texts before low

-- ---- walks of the text's types

-- from a state through code, with the state before each instruction, to the state behind
pub data Walks (st : Setting) (labels : List StateType) : StateType → List Instr → List StateType → StateType → Type 0 where
  WalkEnds : (state : StateType) → Walks st labels state [] [] state
  WalkGoesOn : (state next last : StateType) (instr : Instr) (code : List Instr) (states : List StateType) → instr_verdict st labels state instr ≡ Ok next
      → Walks st labels next code states last → Walks st labels state (instr ∷ code) (state ∷ states) last

-- The stretch of the instruction at a position is walked from this state. Where the next position is in the same block, its state comes through.
-- `states` are the state types of the function over places (IsTypedFun.states).
pub record StretchStands (st : Setting) (fun : LowFun) (states : List StateType) (homes : List ℕ) (kept : Kept) (texts : List StateType) (at : ℕ)
    (code : List Instr) (text : StateType) : Type 0 where
  pub befores : List StateType
  pub last : StateType
  pub walks : Walks st texts text code befores last
  pub through : suc at < length fun.code → ¬ (Contains fun.labels (suc at)) → (low : StateType) → slice_get states (suc at) ≡ Some low
      → Through homes (kept (suc at)) low last

-- accept-a proves (in a module over st, funs, fun, labels, edges, homes, kept, states, texts, with
--   AreTypesApart fun labels homes kept, LabelsPass st fun labels homes kept texts, the clauses of IsTypedFun with `st` for its setting,
--   length labels ≡ length fun.labels, and IsReady funs instr for each instruction):
--   instr_stands : (at : ℕ) (low text : StateType) (instr : LowInstr) (edge : Edge) → slice_get fun.code at ≡ Some instr → slice_get edges at ≡ Some edge
--       → slice_get states at ≡ Some low → Through homes (kept at) low text
--       → StretchStands st fun states homes kept texts at (emitted_instr homes instr edge) text
-- also: move_stands : `mv to from` from any state where `from` has a type t and ctx.vars <= 1024 goes to with_types [to] [t] (for entry moves).
