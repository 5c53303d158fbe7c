-- What is asked of an instruction, cut where the code is cut.
use Rattle.std.specs.Prelude.{ℕ, List, Ok, Err, true, false}
use Rattle.std.specs.List.{list_all}
use Rattle.index_sorts.specs.Context.{IndexContext}
use Rattle.xan_lin.specs.Linear.{Linear}
use Rattle.proof_lines.specs.declared.line.Line.{Line}
use Rattle.state_types.specs.Answers.{Check, ◌>>=◌}
use Rattle.state_types.specs.Matching.{meeting}
use Rattle.state_types.specs.declared.error.StateError.TheVariants as state_error
use Rattle.state_types.specs.declared.state.StateType.{StateType}
use Rattle.state_types.specs.declared.types.Ty.{Ty}
use Rattle.operation_rules.specs.Applied.{all_there, applied, named}
use Rattle.operation_rules.specs.Rules.{Setting, rule as rule_for}
use Rattle.operation_rules.specs.declared.operation.Operation.{Operation}
use Rattle.dtal_code.specs.declared.refusal.Rule.TheVariants as rule
use Rattle.dtal_code.specs.Declarations.{state_of}
use Rattle.dtal_code.specs.Instructions.{Instruction}
use Rattle.dtal_code.specs.Passing.{are_different, asks_lines, is_listed, value_is_below, label_at, read_types, side_verdict, with_types}
use Rattle.dtal_code.specs.Verdicts.{Verdict, asks, by_rule, found}

-- An operation over types in a context: its rule, applied, and the lines of what it demands. The types that it gives, and the context that goes on.
unfoldable pub kept_by : Setting → Operation → List Ty → IndexContext → List (List Line) → Verdict (List Ty × IndexContext)
kept_by st op types ctx by = do
  r ← by_rule (rule_for st op types ctx.vars)
  given ← by_rule (applied r ctx)
  proved ← asks_lines ctx r.demands by
  Ok (given.types, given.ctx)

-- the types of the places that are read, once what is named is there and no place is written twice
unfoldable pub reads_by : Setting → StateType → Instruction → Verdict (List Ty)
reads_by st state i = do
  names ← by_rule (named st i.operation)
  different ← asks (are_different i.writes) rule.Place
  by_rule (all_there (read_types state i.reads))

-- an instruction that does not go to a label
unfoldable pub goes_on_by : Setting → StateType → Instruction → List (List Line) → Verdict StateType
goes_on_by st state i by = do
  types ← reads_by st state i
  kept ← kept_by st i.operation types state.ctx by
  Ok (state_of kept.1 (with_types i.writes kept.0 state.places))

-- behind a return the state before it stands again
unfoldable pub gives_back_by : Setting → StateType → Instruction → List (List Line) → Verdict StateType
gives_back_by st state i by = do
  types ← reads_by st state i
  kept ← kept_by st i.operation types state.ctx by
  Ok state

-- what is asked of the listed values
unfoldable pub values_by : (own target present : ℕ) → List (ℕ × Linear) → Verdict (Unit {0})
values_by own target present values = do
  listed ← asks (list_all (is_listed own target) values) rule.Edge
  asks (list_all (value_is_below present) values) rule.Form

-- the rows of an edge, where its kinds and its rows are found at once
abbrev pub rows_found : (checked : Verdict (Unit {0})) → Check (List Linear) → Verdict (List Linear)
rows_found checked (Ok rows) = checked >>= λ _. Ok rows
rows_found checked (Err (state_error.Large why)) = checked >>= λ _. Err rule.Form
rows_found checked (Err (state_error.Kind number)) = Err rule.Kind
rows_found checked (Err state_error.Memory) = Err rule.Kind

abbrev pub edge_rows_by : (own : ℕ) → StateType → StateType → List (ℕ × Linear) → Verdict (List Linear)
edge_rows_by own state target values = rows_found (values_by own target.ctx.vars state.ctx.vars values) (meeting state target values)

-- the edge to a label, and the context that goes on
unfoldable pub edge_by : Setting → StateType → StateType → Operation → List Ty → List (ℕ × Linear) → List (List Line) → Verdict IndexContext
edge_by st state target op types values by = do
  demands ← edge_rows_by st.own.vars state target values
  taken ← side_verdict true state op types
  left ← side_verdict false state op types
  proved ← asks_lines taken demands by
  Ok left

-- the operation has a rule for what it reads
unfoldable pub kinds_by : Setting → Operation → List Ty → (first : ℕ) → Verdict (Unit {0})
kinds_by st op types first = do
  r ← by_rule (rule_for st op types first)
  Ok tt

-- an instruction that goes to a label
unfoldable pub goes_to_by : Setting → List StateType → StateType → Instruction → List (ℕ × Linear) → List (List Line) → Verdict StateType
goes_to_by st labels state i values by = do
  target ← found (label_at labels i.target) rule.Target
  types ← by_rule (all_there (read_types state i.reads))
  kinds ← kinds_by st i.operation types state.ctx.vars
  left ← edge_by st state target i.operation types values by
  Ok (state_of left state.places)
