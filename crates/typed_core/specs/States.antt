-- What is known at a place of a function's body, and how elaboration goes from one such state to the next.
use Rattle.std.specs.Prelude.{ℕ, suc, Bool as Truth, true, false, List, [], ◌∷◌, ◌++◌, length, Option, Some, None, Result, Ok, Err, if◌then◌else◌}
use Rattle.index_sorts.specs.Context.{IndexContext}
use Rattle.index_sorts.specs.Known.{knows}
use Rattle.xan_lin.specs.Linear.{Linear}
use Rattle.xan_lin.specs.declared.term.LimitKind.TheVariants as limit
use Rattle.xan_lin.specs.declared.term.TooLarge.{TooLarge}
use Rattle.state_types.specs.Answers.{◌>>=◌}
use Rattle.state_types.specs.PlaceTypes.{type_at, with_type}
use Rattle.state_types.specs.Types.{same_kind}
use Rattle.state_types.specs.declared.closed.Packed.{Packed}
use Rattle.state_types.specs.declared.closed.Signature.{Signature}
use Rattle.state_types.specs.declared.matching.Found.{Found}
use Rattle.state_types.specs.declared.state.StateType.{StateType}
use Rattle.state_types.specs.declared.types.Ty.{Ty}
use Rattle.state_types.specs.declared.types.Ty.TheVariants as ty
use Rattle.operation_rules.specs.Applied.{widened, all_assuming}
use Rattle.operation_rules.specs.Faults.{filled}
use Rattle.operation_rules.specs.Rules as rules
use Rattle.typed_core.specs.declared.goal.GoalAt.{GoalAt}
use Rattle.typed_core.specs.declared.note.Note.{Note}
use Rattle.typed_core.specs.declared.note.Note.TheVariants as note
use Rattle.typed_core.specs.Limits.{Walk, Misfit, within, by_rule}

-- what stands throughout a body: the closed types, the signatures, and the function's number and signature
pub record Site : Type 0 where
  pub table : List Packed
  pub sigs : List Signature
  pub fun : ℕ
  pub own : Signature

-- The index variables so far and the rows that hold of them; the types of the visible variables, by rising variable; the variable that
-- each index variable of a clause has become, by its number in the core, rising; and all goals and notes of the program so far. Index
-- variables, goals and notes only become more, whichever way control takes.
pub record State : Type 0 where
  pub ctx : IndexContext
  pub types : List (ℕ × Ty)
  pub naming : List (ℕ × Linear)
  pub goals : List GoalAt
  pub notes : List Note

abbrev pub in_ctx : IndexContext → State → State
in_ctx ctx st = record st { ctx = ctx }

-- what is known there: the rows and the types
abbrev pub point : State → StateType
point st = record { ctx = st.ctx; places = st.types }

-- what holds where control comes by another way: these rows and types, over all index variables so far
abbrev pub resuming : List Linear → List (ℕ × Ty) → State → State
resuming rows types st = record st { ctx = record { vars = st.ctx.vars; rows = rows }; types = types }

-- ---- what is fresh, and what is taken to hold

unfoldable pub with_fresh : ℕ → State → Walk State
with_fresh count st = do
  ctx ← by_rule (filled (widened count st.ctx))
  Ok (in_ctx ctx st)

-- rows that are taken to hold; one that is past the bounds or known is left out
unfoldable pub assuming : List (Result Linear TooLarge) → State → Walk State
assuming rows st = do
  ctx ← by_rule (filled (all_assuming rows st.ctx))
  Ok (in_ctx ctx st)

-- ---- demands

-- the goals of the program so far, and the numbers of those that a demand made
pub record Asked : Type 0 where
  pub goals : List GoalAt
  pub numbers : List ℕ

-- a known row is no goal
abbrev pub asked : (is_known : Truth) → GoalAt → Asked → Asked
asked true goal made = made
asked false goal made = record { goals = made.goals ++ goal ∷ []; numbers = made.numbers ++ length made.goals ∷ [] }

-- rows that are demanded at a place of a function, in a context that they do not change
unfoldable pub all_asked : Site → (at : ℕ) → IndexContext → List Linear → Asked → Asked
all_asked site at ctx [] made = made
all_asked site at ctx (row ∷ rows) made =
    all_asked site at ctx rows (asked (knows ctx row) (record { fun = site.fun; at = at; ctx = ctx; row = row }) made)

abbrev pub none_asked : State → Asked
none_asked st = record { goals = st.goals; numbers = [] }

-- with the goals, and one note more
abbrev pub noting : List GoalAt → Note → State → State
noting goals one st = record st { goals = goals; notes = st.notes ++ one ∷ [] }

-- a construct's demand: one note, also where all rows are known
unfoldable pub demanding : Site → (at : ℕ) → List Linear → State → State
demanding site at rows st =
    let made = all_asked site at st.ctx rows (none_asked st) in
    noting made.goals (note.Demand made.numbers) st

-- the state is noted, with these rows over all index variables so far
unfoldable pub noting_state : List Linear → State → State
noting_state rows st =
    noting st.goals (note.State (record { ctx = record { vars = st.ctx.vars; rows = rows }; places = st.types })) st

-- ---- types

-- what is there, or the core is none
abbrev pub there : {A : Type 0} → Option A → Walk A
there (Some x) = Ok x
there None = Err Misfit

-- the number of a tuple's type
abbrev pub as_tuple : Ty → Walk ℕ
as_tuple (ty.Named number) = Ok number
as_tuple _ = Err Misfit

abbrev pub like : Option Ty → Ty → Walk Ty
like None t = Ok t
like (Some old) t = if same_kind old t then Ok t else Err Misfit

-- a variable, of which a function has as many as places at most, is declared, or assigned a value of its kind
unfoldable pub given : ℕ → Ty → State → Walk State
given x t st = do
  few ← within limit.Places (suc x)
  it ← like (type_at x st.types) t
  Ok (record st { types = with_type x it st.types })

-- a match of as many types
unfoldable pub matching : (below vars : ℕ) → (rows : List Linear) → (wanted actual : List Ty) → Walk Found
matching below vars rows wanted actual = by_rule (rules.matching below vars rows wanted actual)
