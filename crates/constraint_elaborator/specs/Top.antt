-- What the call answers.
use Rattle.std.specs.Prelude.{◌≡◌, List, Result, Ok, Err}
use Rattle.state_types.specs.Answers.{◌>>=◌}
use Rattle.typed_core.specs.declared.goal.GoalAt.{GoalAt}
use Rattle.typed_core.specs.declared.note.Note.{Note}
use Rattle.typed_core.specs.Goals.{Elaboration, elaborated}
use Rattle.typed_core.specs.Limits.{Past, Walk}
use Rattle.typed_core.specs.States.{State}
use Rattle.typed_core.specs.Proving.{ElaboratedParts}
use Rattle.xanadu_tree.specs.PlainOf.{CoreParts, plain_core}
use Rattle.constraint_elaborator.specs.declared.bodies.Made.{Made}
use Rattle.constraint_elaborator.specs.declared.walk.Parts.{Parts}
use Rattle.constraint_elaborator.specs.declared.error.ElabError.{ElabError}
use Rattle.constraint_elaborator.specs.declared.error.ElabError.TheVariants as elab_error

-- goals and notes
abbrev pub lists_of : Made → List GoalAt × List Note
lists_of made = (made.goals.items, made.notes.items)

-- those behind a function
abbrev pub lists_behind : Walk State → Walk (List GoalAt × List Note)
lists_behind walked = do
  st ← walked
  Ok (st.goals, st.notes)

abbrev pub elaboration : Parts → Elaboration
elaboration parts = record { table = parts.table; sigs = parts.sigs.items; notes = parts.made.notes.items; goals = parts.made.goals.items }

-- the core with what elaboration makes of it, or the first limit, or memory ran out
abbrev pub Elaborates : CoreParts → Result ElaboratedParts ElabError → Type 0
Elaborates core (Ok answer) = (answer.core ≡ core) × (elaborated (plain_core core) ≡ Ok answer.made)
Elaborates core (Err (elab_error.Limit kind)) = elaborated (plain_core core) ≡ Err (Past kind)
Elaborates core (Err elab_error.Memory) = Unit {0}
