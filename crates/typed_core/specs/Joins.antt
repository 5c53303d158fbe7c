-- Where control flow meets: the state that is stated there, and the ways into it.
use Rattle.std.specs.Prelude.{ℕ, suc, ◌+◌, Bool as Truth, true, false, not, ◌&&◌, ◌||◌, ◌==◌, List, [], ◌∷◌, ◌++◌, map, length, Option, Some, None, Result, Ok, Err}
use Rattle.std.specs.List.{list_all, list_any}
use Rattle.xan_lin.specs.Linear.{Linear, variable_form}
use Rattle.xan_lin.specs.declared.term.LimitKind.TheVariants as limit
use Rattle.xan_lin.specs.declared.term.TooLarge.{TooLarge}
use Rattle.state_types.specs.Answers.{◌>>=◌}
use Rattle.state_types.specs.PlaceTypes.{type_at, with_type}
use Rattle.state_types.specs.Types.{index_of}
use Rattle.state_types.specs.declared.matching.Found.{Found}
use Rattle.state_types.specs.declared.state.StateType.{StateType}
use Rattle.state_types.specs.declared.types.Ty.{Ty}
use Rattle.state_types.specs.declared.types.Ty.TheVariants as ty
use Rattle.operation_rules.specs.Forms.{variables_from}
use Rattle.xanadu_tree.specs.declared.stmt.Clause.{Clause}
use Rattle.xanadu_tree.specs.declared.types.CoreTy.{CoreTy}
use Rattle.xanadu_tree.specs.Plain as core
use Rattle.typed_core.specs.declared.note.Note.TheVariants as note
use Rattle.typed_core.specs.Forms.{renamed, renamed_type}
use Rattle.typed_core.specs.Limits.{Walk, within, needed, held}
use Rattle.typed_core.specs.States.{Site, State, resuming, with_fresh, assuming, all_asked, none_asked, noting, noting_state, there, matching}
use Rattle.typed_core.specs.Strays.{clause_rises, values_rise, row_below}

-- ---- which variables a block changes: it assigns them, or a clause within it gives them another type

abbrev pub is_named : ℕ → List (ℕ × CoreTy) → Truth
is_named x stated = list_any (λ s. s.0 == x) stated

abbrev pub names : Option Clause → ℕ → Truth
names None x = false
names (Some clause) x = is_named x clause.vars

unfoldable mutual
  pub changes : core.Stmt → ℕ → Truth
  changes (core.Set y e) x = y == x
  changes (core.Split ys e at) x = list_any (λ y. y == x) ys
  changes (core.Store array index e at) x = false
  changes (core.Do call) x = false
  changes (core.Print e) x = false
  changes (core.If test on_true on_false join at) x = changes_any on_true x || changes_any on_false x || names join x
  changes (core.While test head body at) x = names head x || changes_any body x
  changes (core.Return value at) x = false

  pub changes_any : core.Stmts → ℕ → Truth
  changes_any core.NoStmt x = false
  changes_any (core.AStmt s ss) x = changes s x || changes_any ss x

-- ---- the state

-- without a clause nothing is stated
abbrev pub no_clause : Clause
no_clause = record { first = 0; quant = record { count = 0; rows = [] }; vars = [] }

abbrev pub stated : Option Clause → Clause
stated None = no_clause
stated (Some clause) = clause

abbrev pub with_index : Ty → Linear → Ty
with_index (ty.Int e) form = ty.Int form
with_index ty.Bool form = ty.Bool
with_index (ty.Array element e) form = ty.Array element form
with_index (ty.Named number) form = ty.Named number

-- the types of variables, and those among them that have a fresh variable as their index, in order
pub record Renewed : Type 0 where
  pub types : List (ℕ × Ty)
  pub others : List ℕ

abbrev pub has_index : Ty → Truth
has_index (ty.Int form) = true
has_index ty.Bool = false
has_index (ty.Array element form) = true
has_index (ty.Named number) = false

-- the clause says nothing of the variable, a block changes it, and its type has an index
abbrev pub is_renewed : (changed : ℕ → Truth) → List (ℕ × CoreTy) → ℕ × Ty → Truth
is_renewed changed vars entry = has_index entry.1 && changed entry.0 && not (is_named entry.0 vars)

-- one variable more, the fresh variables from `first` on
abbrev pub with_entry : Truth → (first : ℕ) → ℕ × Ty → Renewed → Renewed
with_entry false first entry made = record made { types = made.types ++ entry ∷ [] }
with_entry true first entry made = record {
  types = made.types ++ (entry.0, with_index entry.1 (variable_form (first + length made.others))) ∷ [];
  others = made.others ++ entry.0 ∷ [];
}

unfoldable pub renewed : (changed : ℕ → Truth) → List (ℕ × CoreTy) → (first : ℕ) → List (ℕ × Ty) → Renewed → Renewed
renewed changed vars first [] made = made
renewed changed vars first (entry ∷ entries) made =
    renewed changed vars first entries (with_entry (is_renewed changed vars entry) first entry made)

-- each variable has a place of its own, so that they are few
unfoldable pub few_places : List (ℕ × Ty) → Walk (Unit {0})
few_places [] = Ok tt
few_places (entry ∷ entries) = do
  few ← within limit.Places (suc entry.0)
  few_places entries

-- the types that a clause states, over the variables of the state, of variables that have places
unfoldable pub stated_types : (naming : List (ℕ × Linear)) → (own : ℕ) → List (ℕ × CoreTy) → List (ℕ × Ty) → Walk (List (ℕ × Ty))
stated_types naming own [] made = Ok made
stated_types naming own (s ∷ ss) made = do
  few ← within limit.Places (suc s.0)
  it ← needed (renamed_type naming own s.1)
  stated_types naming own ss (made ++ (s.0, it) ∷ [])

unfoldable pub with_types : List (ℕ × Ty) → List (ℕ × Ty) → List (ℕ × Ty)
with_types [] types = types
with_types (s ∷ ss) types = with_types ss (with_type s.0 s.1 types)

-- the rows before the first that is past the bounds, and why that one is
unfoldable pub leading : List (Result Linear TooLarge) → List Linear
leading [] = []
leading (Ok row ∷ rows) = row ∷ leading rows
leading (Err why ∷ rows) = []

unfoldable pub first_past : List (Result Linear TooLarge) → Option TooLarge
first_past [] = None
first_past (Ok row ∷ rows) = first_past rows
first_past (Err why ∷ rows) = Some why

-- What a way in has to give: values for so many variables of the clause from `first` on, for which the stated types and the rows hold, and
-- behind them one for each other variable with a fresh index.
pub record Joint : Type 0 where
  pub first : ℕ
  pub count : ℕ
  pub wanted : List (ℕ × Ty)
  pub rows : List Linear
  pub past : Option TooLarge
  pub others : List ℕ

-- The types before, in which changed variables have fresh indices, and the state with the rows and types before and with all fresh variables:
-- those of the clause, and then one for each other changed variable.
unfoldable pub renewing : Clause → (changed : ℕ → Truth) → (before : StateType) → (latest : State) → Walk (Renewed × State)
renewing clause changed before latest = do
  few ← few_places before.places
  let kept = renewed changed clause.vars (latest.ctx.vars + clause.quant.count) before.places (record { types = []; others = [] })
  fresh ← with_fresh (clause.quant.count + length kept.others) (resuming before.ctx.rows before.places latest)
  Ok (kept, fresh)

-- A clause's rows over the variables of the state, and the state in which they are taken to hold, but for those past the bounds.
unfoldable pub stating : (naming : List (ℕ × Linear)) → (own : ℕ) → Clause → State → Walk (List (Result Linear TooLarge) × State)
stating naming own clause st = do
  listed ← held (values_rise 0 naming)
  rises ← held (clause_rises clause)
  let rows = map (renamed naming own) clause.quant.rows
  named ← held (list_all (row_below st.ctx.vars) rows)
  known ← assuming rows st
  Ok (rows, known)

-- the clause's index variables have become these
abbrev pub naming_more : List (ℕ × Linear) → State → State
naming_more more st = record st { naming = st.naming ++ more }

-- The state that a clause and the changed variables make of the rows and types before, over all index variables so far: fresh variables
-- come first, then the clause's rows, and then its types. Other variables keep their types.
unfoldable pub joined : Site → Clause → (changed : ℕ → Truth) → (before : StateType) → (latest : State) → Walk (Joint × State)
joined site clause changed before latest = do
  let first = latest.ctx.vars
  let count = clause.quant.count
  (kept, fresh) ← renewing clause changed before latest
  let begun = naming_more (variables_from clause.first first count) fresh
  (rows, known) ← stating begun.naming site.own.vars clause begun
  wanted ← stated_types known.naming site.own.vars clause.vars []
  Ok (
    record { first = first; count = count; wanted = wanted; rows = leading rows; past = first_past rows; others = kept.others },
    noting_state known.ctx.rows (record known { types = with_types wanted kept.types }),
  )

-- ---- the ways into it

-- the present types of the variables that the clause names
unfoldable pub present : List (ℕ × Ty) → List (ℕ × Ty) → List Ty → Walk (List Ty)
present types [] made = Ok made
present types (w ∷ ws) made = do
  t ← there (type_at w.0 types)
  present types ws (made ++ t ∷ [])

abbrev pub within_bounds : Option TooLarge → Walk (Unit {0})
within_bounds None = Ok tt
within_bounds (Some why) = needed (Err why)

-- the present index of a variable
unfoldable pub index_at : List (ℕ × Ty) → ℕ → Walk Linear
index_at types x = do
  t ← there (type_at x types)
  there (index_of t)

-- those of variables, as the values of the index variables from `next` on, behind the values made so far
unfoldable pub values_at : List (ℕ × Ty) → (next : ℕ) → List ℕ → List (ℕ × Linear) → Walk (List (ℕ × Linear))
values_at types next [] made = Ok made
values_at types next (x ∷ xs) made = do
  form ← index_at types x
  values_at types (suc next) xs (made ++ (next, form) ∷ [])

-- the present types of the variables that the clause names, and the match of the stated types with them
unfoldable pub met_there : Joint → List (ℕ × Ty) → Walk (List Ty × Found)
met_there joint types = do
  actual ← present types joint.wanted []
  found ← matching joint.first (joint.first + joint.count) joint.rows (map (λ w. w.1) joint.wanted) actual
  Ok (actual, found)

-- A way in from what is known somewhere. Its goals stand in the context there.
unfoldable pub entered : Site → (at : ℕ) → Joint → (from : StateType) → State → Walk State
entered site at joint from st = do
  (actual, found) ← met_there joint from.places
  bounded ← within_bounds joint.past
  values ← values_at from.places (joint.first + joint.count) joint.others found.values
  let made = all_asked site at from.ctx found.rows (none_asked st)
  Ok (noting made.goals (note.Edge values actual made.numbers) st)

-- a branch that completes is a way in
unfoldable pub entered_if : (completes : Truth) → Site → (at : ℕ) → Joint → (from : StateType) → State → Walk State
entered_if false site at joint from st = Ok st
entered_if true site at joint from st = entered site at joint from st

-- ---- a branch's end where there is nothing to meet

abbrev pub type_or : Ty → Option Ty → Ty
type_or t None = t
type_or t (Some other) = other

-- the types at the end of a block of the variables that were visible before it
unfoldable pub still_visible : List (ℕ × Ty) → List (ℕ × Ty) → List (ℕ × Ty)
still_visible [] after = []
still_visible (e ∷ es) after = (e.0, type_or e.1 (type_at e.0 after)) ∷ still_visible es after
