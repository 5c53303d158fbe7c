-- A rule applied to a context. Limits and fresh variables are treated here, for all operations alike.
use Rattle.std.specs.Prelude.{ℕ, List, [], ◌∷◌, Option, Result, Ok, Err}
use Rattle.index_sorts.specs.Context.{IndexContext, fresh_from, with_variables}
use Rattle.index_sorts.specs.Known.{with_row}
use Rattle.index_sorts.specs.declared.error.ContextError.{ContextError}
use Rattle.xan_lin.specs.Linear.{Linear}
use Rattle.xan_lin.specs.declared.term.TooLarge.{TooLarge}
use Rattle.state_types.specs.Answers.{◌>>=◌}
use Rattle.state_types.specs.declared.types.Ty.{Ty}
use Rattle.operation_rules.specs.Faults.{Ruling, NoTarget, NoPlace, needed, filled, or_fault}
use Rattle.operation_rules.specs.Operations.{Operation, Call, New, Tuple, Untuple}
use Rattle.operation_rules.specs.Rules.{Setting, Rule, rule, tuple_at, cell_at}
use Rattle.std.specs.Prelude.{slice_get}

-- ---- its parts

-- so many fresh variables
unfoldable pub widened : ℕ → IndexContext → Result IndexContext ContextError
widened count ctx = do
  first ← fresh_from ctx count
  Ok (with_variables ctx count)

-- a row that is taken to hold is left out where it is past the bounds or known
abbrev pub assuming : Result Linear TooLarge → IndexContext → Result IndexContext ContextError
assuming (Ok row) ctx = with_row ctx row
assuming (Err why) ctx = Ok ctx

unfoldable pub all_assuming : List (Result Linear TooLarge) → IndexContext → Result IndexContext ContextError
all_assuming [] ctx = Ok ctx
all_assuming (row ∷ rows) ctx = do
  more ← assuming row ctx
  all_assuming rows more

-- types that have to be within the bounds
unfoldable pub all_given : List (Result Ty TooLarge) → Result (List Ty) TooLarge
all_given [] = Ok []
all_given (t ∷ ts) = do
  one ← t
  others ← all_given ts
  Ok (one ∷ others)

-- ---- the whole

-- the demanded rows, the context that goes on, and the types of what is written
pub record Ruled : Type 0 where
  pub demands : List Linear
  pub ctx : IndexContext
  pub types : List Ty

-- Forms are looked at before variables and rows. Where elaboration names a limit it takes the parts in another order, and what is ruled is the
-- same.
unfoldable pub applied : Rule → IndexContext → Ruling Ruled
applied r ctx = do
  types ← needed (all_given r.given)
  wide ← filled (widened r.fresh ctx)
  more ← filled (all_assuming r.assumed wide)
  Ok (record { demands = r.demands; ctx = more; types = types })

-- ---- what an operation names: before the places that it reads are looked at

unfoldable pub named : Setting → Operation → Ruling (Unit {0})
named st (Call fun) = do
  sig ← or_fault NoTarget (slice_get st.sigs fun)
  Ok tt
named st (New cells) = do
  packed ← cell_at st.table cells
  Ok tt
named st (Tuple number) = do
  packed ← tuple_at st.table number
  Ok tt
named st (Untuple number count) = do
  packed ← tuple_at st.table number
  Ok tt
named st _ = Ok tt

-- each place that is read has a type
unfoldable pub all_there : List (Option Ty) → Ruling (List Ty)
all_there [] = Ok []
all_there (place ∷ places) = do
  t ← or_fault NoPlace place
  ts ← all_there places
  Ok (t ∷ ts)

-- The operation over the types of the places that it reads, in a context. The fault is the first by the order of the rules.
unfoldable pub ruled : Setting → Operation → List (Option Ty) → IndexContext → Ruling Ruled
ruled st op places ctx = do
  names ← named st op
  types ← all_there places
  r ← rule st op types ctx.vars
  applied r ctx
