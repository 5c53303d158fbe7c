-- What a construct does to a state, once its operands have their types: it has the rule of its operation.
use Rattle.std.specs.Prelude.{ℕ, List, [], ◌∷◌, Option, Some, None, Ok, Err}
use Rattle.std.specs.List.{list_all}
use Rattle.index_sorts.specs.Context.{IndexContext}
use Rattle.xan_lin.specs.Linear.{Linear}
use Rattle.state_types.specs.Answers.{◌>>=◌}
use Rattle.state_types.specs.declared.types.Ty.{Ty}
use Rattle.operation_rules.specs.Applied.{widened, all_assuming, all_given}
use Rattle.operation_rules.specs.Faults.{Ruling, needed, filled}
use Rattle.operation_rules.specs.Rules.{Setting, rule}
use Rattle.operation_rules.specs.declared.operation.Operation.{Operation}
use Rattle.operation_rules.specs.declared.rule.Rule.{Rule}
use Rattle.typed_core.specs.Limits.{Walk, Misfit, by_rule, held}
use Rattle.typed_core.specs.States.{Site, State, in_ctx, demanding}
use Rattle.typed_core.specs.Strays.{type_below}

abbrev pub setting_of : Site → Setting
setting_of site = record { table = site.table; sigs = site.sigs; own = site.own }

-- The fresh variables come first, then the rows that are taken to hold, and then the types that are given. It gives what `applied` gives,
-- where both answer.
unfoldable pub followed : Rule → IndexContext → Ruling (List Ty × IndexContext)
followed r ctx = do
  wide ← filled (widened r.fresh ctx)
  more ← filled (all_assuming r.assumed wide)
  types ← needed (all_given r.given)
  Ok (types, more)

-- what a rule demands is noted where there is a place for it
abbrev pub asking : Site → (at : Option ℕ) → List Linear → State → State
asking site None rows st = st
asking site (Some at) rows st = demanding site at rows st

-- The types that an operation gives to what it writes, by those that it reads. What it demands stands in the context before it.
unfoldable pub types_by : Site → (at : Option ℕ) → Operation → List Ty → State → Walk (List Ty × State)
types_by site at op types st = do
  named ← held (list_all (type_below st.ctx.vars) types)
  r ← by_rule (rule (setting_of site) op types st.ctx.vars)
  (given, ctx) ← by_rule (followed r st.ctx)
  Ok (given, in_ctx ctx (asking site at r.demands st))

abbrev pub first_type : List Ty → Walk Ty
first_type [] = Err Misfit
first_type (t ∷ ts) = Ok t

-- the one type that it gives
unfoldable pub type_by : Site → (at : Option ℕ) → Operation → List Ty → State → Walk (Ty × State)
type_by site at op types st = do
  (given, more) ← types_by site at op types st
  t ← first_type given
  Ok (t, more)

-- where it writes nothing
unfoldable pub state_by : Site → (at : Option ℕ) → Operation → List Ty → State → Walk State
state_by site at op types st = do
  (given, more) ← types_by site at op types st
  Ok more
