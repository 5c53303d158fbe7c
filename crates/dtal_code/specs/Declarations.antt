-- What is asked of types, signatures, the program and labels, each in the order of the rules.
use Rattle.std.specs.Prelude.{ℕ, zero, suc, ◌+◌, ◌==◌, Bool as Truth, true, false, ◌&&◌, not, List, [], ◌∷◌, map, length, nat_lt, nat_le, slice_get, Option, Some, None, Result, Ok, Err, codes, bytes_eq}
use Rattle.std.specs.List.{list_all, list_any}
use Rattle.index_sorts.specs.Context.{IndexContext, new_context}
use Rattle.index_sorts.specs.declared.error.ContextError.{ContextError}
use Rattle.xan_lin.specs.Linear.{Linear}
use Rattle.state_types.specs.Answers.{◌>>=◌}
use Rattle.state_types.specs.Matching.{is_alone}
use Rattle.state_types.specs.Tables.{int_cell, bool_cell}
use Rattle.state_types.specs.Types.{index_of}
use Rattle.state_types.specs.declared.closed.Packed.{Packed}
use Rattle.state_types.specs.declared.closed.Signature.{Signature}
use Rattle.state_types.specs.declared.state.StateType.{StateType}
use Rattle.state_types.specs.declared.types.Ty.{Ty}
use Rattle.state_types.specs.declared.types.Ty.TheVariants as ty
use Rattle.operation_rules.specs.Applied.{all_assuming}
use Rattle.operation_rules.specs.Faults.{filled}
use Rattle.operation_rules.specs.Rules.{Setting}
use Rattle.dtal_code.specs.declared.limits.TheConstants.{MOST_VARIABLES, MOST_ROWS}
use Rattle.dtal_code.specs.declared.program.LabelState.{LabelState}
use Rattle.dtal_code.specs.declared.program.Function.{Function}
use Rattle.dtal_code.specs.declared.program.DtalProgram.{DtalProgram}
use Rattle.dtal_code.specs.declared.refusal.Rule.TheVariants as rule
use Rattle.dtal_code.specs.Verdicts.{Verdict, asks, found, by_rule}

-- ---- the program's types and signatures

-- the types by number: the cells of numbers, those of truth values, and then the written ones
abbrev pub table_of : DtalProgram → List Packed
table_of program = int_cell ∷ bool_cell ∷ program.types

abbrev pub setting_of : DtalProgram → Signature → Setting
setting_of program own = record { table = table_of program; sigs = map (λ fun. fun.sig) program.funs; own = own }

-- ---- tests

abbrev pub is_tuple : Option Packed → Truth
is_tuple None = false
is_tuple (Some packed) = packed.tuple

-- there is a type of its number, and a tuple type where that is asked for
abbrev pub type_exists : List Packed → Ty → Truth
type_exists table (ty.Int form) = true
type_exists table ty.Bool = true
type_exists table (ty.Array element form) = nat_lt element (length table)
type_exists table (ty.Named number) = is_tuple (slice_get table number)

abbrev pub types_exist : List Packed → List Ty → Truth
types_exist table types = list_all (type_exists table) types

-- each of so many variables is an index of one of the types by itself
unfoldable pub are_alone : (first count : ℕ) → List Ty → Truth
are_alone first zero types = true
are_alone first (suc count) types = list_any (λ t. is_alone first (index_of t)) types && are_alone (suc first) count types

-- a form names only variables below a number
abbrev pub form_is_below : (vars : ℕ) → Linear → Truth
form_is_below vars form = list_all (λ t. nat_lt t.var vars) form.terms

abbrev pub rows_are_below : (vars : ℕ) → List Linear → Truth
rows_are_below vars rows = list_all (form_is_below vars) rows

abbrev pub index_is_below : (vars : ℕ) → Option Linear → Truth
index_is_below vars None = true
index_is_below vars (Some form) = form_is_below vars form

abbrev pub type_is_below : (vars : ℕ) → Ty → Truth
type_is_below vars t = index_is_below vars (index_of t)

abbrev pub types_are_below : (vars : ℕ) → List Ty → Truth
types_are_below vars types = list_all (type_is_below vars) types

-- so many variables, and the listed rows, all of them counted
abbrev pub are_few : (vars : ℕ) → (rows : List Linear) → Truth
are_few vars rows = nat_le vars MOST_VARIABLES && nat_le (length rows) MOST_ROWS

-- ---- a written type

unfoldable pub packed_verdict : List Packed → Packed → Verdict (Unit {0})
packed_verdict table packed = do
  exist ← asks (types_exist table packed.parts) rule.NoType
  alone ← asks (are_alone 0 packed.vars packed.parts) rule.Alone
  named ← asks (rows_are_below packed.vars packed.rows && types_are_below packed.vars packed.parts) rule.Form
  asks (are_few packed.vars packed.rows) rule.Size

-- ---- a signature, behind functions of these names

-- the variables of the function are there for its result too
unfoldable pub names_own : Signature → Truth
names_own sig =
    rows_are_below sig.vars sig.rows && types_are_below sig.vars sig.params
    && rows_are_below (sig.vars + sig.result_vars) sig.result_rows && type_is_below (sig.vars + sig.result_vars) sig.result

unfoldable pub signature_verdict : List Packed → (before : List (List ℕ)) → Function → Verdict (Unit {0})
signature_verdict table before fun = do
  other ← asks (not (list_any (bytes_eq fun.name) before)) rule.Name
  exist ← asks (types_exist table (fun.sig.result ∷ fun.sig.params)) rule.NoType
  alone ← asks (are_alone 0 fun.sig.vars fun.sig.params && are_alone fun.sig.vars fun.sig.result_vars (fun.sig.result ∷ [])) rule.Alone
  named ← asks (names_own fun.sig) rule.Form
  asks (are_few fun.sig.vars fun.sig.rows && are_few fun.sig.result_vars fun.sig.result_rows) rule.Size

-- ---- the program

-- the function with which a run begins: its number, counted from here, and what it is
abbrev pub at_first : Option (ℕ × Function) → Option (ℕ × Function)
at_first None = None
at_first (Some main) = Some (suc main.0, main.1)

abbrev pub main_or : Truth → Function → Option (ℕ × Function) → Option (ℕ × Function)
main_or true fun others = Some (0, fun)
main_or false fun others = at_first others

unfoldable pub main_of : List Function → Option (ℕ × Function)
main_of [] = None
main_of (fun ∷ funs) = main_or (bytes_eq fun.name (codes "main")) fun (main_of funs)

-- the kinds of arguments, of which an array has numbers, and the kind of an answer
abbrev pub is_argument_kind : Ty → Truth
is_argument_kind (ty.Int form) = true
is_argument_kind ty.Bool = true
is_argument_kind (ty.Array element form) = element == 0
is_argument_kind (ty.Named number) = false

abbrev pub is_answer_kind : Ty → Truth
is_answer_kind (ty.Int form) = true
is_answer_kind _ = false

unfoldable pub program_verdict : DtalProgram → Verdict (Unit {0})
program_verdict program = do
  main ← found (main_of program.funs) rule.Main
  asks (list_all is_argument_kind main.1.sig.params && is_answer_kind main.1.sig.result) rule.Main

-- ---- states

-- the context of so many variables in which these rows hold, added in order
unfoldable pub stated : ℕ → List Linear → Result IndexContext ContextError
stated vars rows = do
  ctx ← new_context vars
  all_assuming (map Ok rows) ctx

-- the types of places from a number on
unfoldable pub numbered : ℕ → List Ty → List (ℕ × Ty)
numbered place [] = []
numbered place (t ∷ types) = (place, t) ∷ numbered (suc place) types

abbrev pub state_of : IndexContext → List (ℕ × Ty) → StateType
state_of ctx places = record { ctx = ctx; places = places }

-- the state type in which these rows hold
unfoldable pub state_with : (vars : ℕ) → List Linear → List (ℕ × Ty) → Verdict StateType
state_with vars rows places = do
  ctx ← by_rule (filled (stated vars rows))
  Ok (state_of ctx places)

-- a function begins as its signature says
abbrev pub first_state : Signature → Verdict StateType
first_state sig = state_with sig.vars sig.rows (numbered 0 sig.params)

-- ---- a label

abbrev pub typed_types : List (ℕ × Ty) → List Ty
typed_types places = map (λ p. p.1) places

unfoldable pub state_verdict : List Packed → Signature → LabelState → Verdict StateType
state_verdict table sig state = do
  exist ← asks (types_exist table (typed_types state.places)) rule.NoType
  as_many ← asks (nat_le sig.vars state.vars) rule.Edge
  named ← asks (rows_are_below state.vars state.rows && types_are_below state.vars (typed_types state.places)) rule.Form
  few ← asks (are_few state.vars state.rows) rule.Size
  state_with state.vars state.rows state.places

-- a block without a label cannot be a target
abbrev pub label_verdict : List Packed → Signature → Option LabelState → Verdict StateType
label_verdict table sig None = Err rule.Target
label_verdict table sig (Some state) = state_verdict table sig state
