-- The goals of a core, with all that elaboration makes; or the first limit.
use Rattle.std.specs.Prelude.{ℕ, suc, List, [], ◌∷◌, length, slice_get, Ok}
use Rattle.std.specs.List.{enumerate_from, list_all}
use Rattle.xan_lin.specs.declared.term.LimitKind.TheVariants as limit
use Rattle.state_types.specs.Answers.{◌>>=◌}
use Rattle.state_types.specs.Unpacking.{with_rows}
use Rattle.state_types.specs.declared.closed.Packed.{Packed}
use Rattle.state_types.specs.declared.closed.Signature.{Signature}
use Rattle.xanadu_tree.specs.Plain as core
use Rattle.typed_core.specs.declared.goal.GoalAt.{GoalAt}
use Rattle.typed_core.specs.declared.note.Note.{Note}
use Rattle.typed_core.specs.Headers.{few_declarations, table_of, signatures}
use Rattle.typed_core.specs.Limits.{Walk, within, in_context, held}
use Rattle.typed_core.specs.Places.{places_of}
use Rattle.typed_core.specs.States.{State, there}
use Rattle.typed_core.specs.Statements.{block}
use Rattle.typed_core.specs.Strays.{form_below}

-- what elaboration makes of a core
pub record Elaboration : Type 0 where
  -- types 0 and 1, and then the declared ones
  pub table : List Packed
  pub sigs : List Signature
  -- in the order of elaboration
  pub notes : List Note
  pub goals : List GoalAt

-- a body begins with the variables and the rows of its function, and its parameters have their types
unfoldable pub body_start : Signature → List GoalAt → List Note → Walk State
body_start sig goals notes = do
  few ← within limit.Parameters (length sig.params)
  named ← held (list_all (form_below sig.vars) sig.rows)
  ctx ← in_context (with_rows (record { vars = sig.vars; rows = [] }) sig.rows)
  Ok (record { ctx = ctx; types = enumerate_from 0 sig.params; naming = []; goals = goals; notes = notes })

-- a function, behind the goals and notes of those before it
unfoldable pub function : List Packed → List Signature → (fun : ℕ) → core.Fun → List GoalAt → List Note → Walk State
function table sigs fun f goals notes = do
  own ← there (slice_get sigs fun)
  few_places ← within limit.Places (places_of f)
  start ← body_start own goals notes
  block (record { table = table; sigs = sigs; fun = fun; own = own }) f.body start

unfoldable pub functions : List Packed → List Signature → (fun : ℕ) → List core.Fun → List GoalAt → List Note → Walk Elaboration
functions table sigs fun [] goals notes = Ok (record { table = table; sigs = sigs; notes = notes; goals = goals })
functions table sigs fun (f ∷ fs) goals notes = do
  done ← function table sigs fun f goals notes
  functions table sigs (suc fun) fs done.goals done.notes

-- how many declarations there are, then types, headers, and bodies
unfoldable pub elaborated : core.Program → Walk Elaboration
elaborated program = do
  few ← few_declarations program
  table ← table_of program.types
  sigs ← signatures program.funs []
  functions table sigs 0 program.funs [] []
