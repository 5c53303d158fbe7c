-- What is asked of an instruction in a state, in the order of the rules, and the state before the next one of its block.
use Rattle.std.specs.Prelude.{ℕ, zero, suc, ◌==◌, Bool as Truth, true, false, ◌&&◌, not, List, [], ◌∷◌, map, slice_get, nat_lt, nat_le, Option, None, Result, Ok, Err, if◌then◌else◌}
use Rattle.std.specs.List.{list_all, list_any}
use Rattle.index_sorts.specs.Context.{IndexContext}
use Rattle.index_sorts.specs.Known.{knows}
use Rattle.xan_lin.specs.Linear.{Linear}
use Rattle.proof_lines.specs.declared.bad_line.BadLine.{BadLine}
use Rattle.proof_lines.specs.declared.line.Line.{Line}
use Rattle.proof_lines.specs.Check.{checked}
use Rattle.state_types.specs.Answers.{◌>>=◌}
use Rattle.state_types.specs.Matching.{pairs_at, demanded}
use Rattle.state_types.specs.PlaceTypes.{type_at, with_type}
use Rattle.state_types.specs.declared.state.StateType.{StateType}
use Rattle.state_types.specs.declared.types.Ty.{Ty}
use Rattle.operation_rules.specs.Applied.{Ruled, all_assuming, all_there, named, ruled}
use Rattle.operation_rules.specs.Faults.{filled, of_match}
use Rattle.operation_rules.specs.Rules.{Setting, rule as rule_for}
use Rattle.operation_rules.specs.Sides.{side}
use Rattle.operation_rules.specs.declared.operation.Operation.{Operation}
use Rattle.operation_rules.specs.declared.operation.Operation.TheVariants.{Branch, BranchTruth, Jump, Return}
use Rattle.dtal_code.specs.declared.instruction.Instr.{Instr}
use Rattle.dtal_code.specs.declared.refusal.Rule.TheVariants as rule
use Rattle.dtal_code.specs.Declarations.{form_is_below, state_of}
use Rattle.dtal_code.specs.Instructions.{Instruction, instruction_in}
use Rattle.dtal_code.specs.Verdicts.{Verdict, asks, found, by_rule}

-- ---- what lines are asked for

-- the demanded rows that are not known
unfoldable pub unknown : IndexContext → List Linear → List Linear
unknown ctx [] = []
unknown ctx (row ∷ rows) = if knows ctx row then unknown ctx rows else row ∷ unknown ctx rows

abbrev pub is_proof : Result (Unit {0}) BadLine → Truth
is_proof (Ok tt) = true
is_proof (Err bad) = false

-- one list of lines for each of these rows, in order, which proves it
unfoldable pub are_proved : IndexContext → List Linear → List (List Line) → Truth
are_proved ctx [] [] = true
are_proved ctx [] (lines ∷ by) = false
are_proved ctx (row ∷ rows) [] = false
are_proved ctx (row ∷ rows) (lines ∷ by) = is_proof (checked ctx.rows row lines) && are_proved ctx rows by

abbrev pub asks_lines : IndexContext → (demands : List Linear) → List (List Line) → Verdict (Unit {0})
asks_lines ctx demands by = asks (are_proved ctx (unknown ctx demands) by) rule.Lines

-- ---- places

-- the types of the places that are read
abbrev pub read_types : StateType → List ℕ → List (Option Ty)
read_types state reads = map (λ place. type_at place state.places) reads

-- no place stands twice
unfoldable pub are_different : List ℕ → Truth
are_different [] = true
are_different (place ∷ places) = not (list_any (λ other. place == other) places) && are_different places

-- the places with these types, one after the other
unfoldable pub with_types : List ℕ → List Ty → List (ℕ × Ty) → List (ℕ × Ty)
with_types (place ∷ writes) (t ∷ types) places = with_types writes types (with_type place t places)
with_types _ _ places = places

-- ---- an instruction that does not go to a label

-- what its rule gives, where it is kept
unfoldable pub ruled_verdict : Setting → StateType → Instruction → List (List Line) → Verdict Ruled
ruled_verdict st state i by = do
  names ← by_rule (named st i.operation)
  different ← asks (are_different i.writes) rule.Place
  given ← by_rule (ruled st i.operation (read_types state i.reads) state.ctx)
  proved ← asks_lines state.ctx given.demands by
  Ok given

-- the places that it writes have the types that its rule gives
unfoldable pub goes_on_verdict : Setting → StateType → Instruction → List (List Line) → Verdict StateType
goes_on_verdict st state i by = do
  given ← ruled_verdict st state i by
  Ok (state_of given.ctx (with_types i.writes given.types state.places))

-- behind a return the state before it stands again
unfoldable pub gives_back_verdict : Setting → StateType → Instruction → List (List Line) → Verdict StateType
gives_back_verdict st state i by = do
  given ← ruled_verdict st state i by
  Ok state

-- ---- an instruction that goes to a label

-- the state at the label of a number, where the labels' states are these, from label 1 on
abbrev pub label_at : List StateType → (label : ℕ) → Option StateType
label_at labels zero = None
label_at labels (suc before) = slice_get labels before

-- the variable is the label's, and not the signature's
abbrev pub is_listed : (own vars : ℕ) → ℕ × Linear → Truth
is_listed own vars value = nat_le own value.0 && nat_lt value.0 vars

abbrev pub value_is_below : (vars : ℕ) → ℕ × Linear → Truth
value_is_below vars value = form_is_below vars value.1

-- what the label demands, where the listed variables have these values
unfoldable pub edge_verdict : Setting → StateType → (target : StateType) → List (ℕ × Linear) → Verdict (List Linear)
edge_verdict st state target values = do
  pairs ← by_rule (of_match (pairs_at state.places target.places []))
  listed ← asks (list_all (is_listed st.own.vars target.ctx.vars) values) rule.Edge
  below ← asks (list_all (value_is_below state.ctx.vars) values) rule.Form
  by_rule (of_match (demanded values state.ctx.vars pairs target.ctx.rows))

-- The context with the rows of the side that goes to the label, or of the other one.
abbrev pub side_verdict : (taken : Truth) → StateType → Operation → List Ty → Verdict IndexContext
side_verdict taken state operation types = by_rule (filled (all_assuming (side taken operation types) state.ctx))

-- An edge reads no place: only what is compared does. Behind a jump the state before it stands again.
unfoldable pub goes_to_verdict : Setting → List StateType → StateType → Instruction → List (ℕ × Linear) → List (List Line) → Verdict StateType
goes_to_verdict st labels state i values by = do
  target ← found (label_at labels i.target) rule.Target
  types ← by_rule (all_there (read_types state i.reads))
  kinds ← by_rule (rule_for st i.operation types state.ctx.vars)
  demands ← edge_verdict st state target values
  taken ← side_verdict true state i.operation types
  left ← side_verdict false state i.operation types
  proved ← asks_lines taken demands by
  Ok (state_of left state.places)

-- ---- any instruction

abbrev pub verdict_by : Operation → Setting → List StateType → StateType → Instruction → List (ℕ × Linear) → List (List Line) → Verdict StateType
verdict_by (Branch c) st labels state i values by = goes_to_verdict st labels state i values by
verdict_by (BranchTruth b) st labels state i values by = goes_to_verdict st labels state i values by
verdict_by Jump st labels state i values by = goes_to_verdict st labels state i values by
verdict_by Return st labels state i values by = gives_back_verdict st state i by
verdict_by _ st labels state i values by = goes_on_verdict st state i by

-- in this state, where the labels' states are these
unfoldable pub instr_verdict : Setting → List StateType → StateType → Instr → Verdict StateType
instr_verdict st labels state instr =
    let i = instruction_in instr.op in verdict_by i.operation st labels state i instr.edge instr.by
