-- What elaboration notes along a body of a shaped core has a text: states, values on ways into labels, and the rows from which goals have to follow.
use Rattle.std.proofs.Common.{◌≡◌, ℕ, List, [], ◌∷◌, ◌++◌, Bool as Truth, true, false, Ok}
use Rattle.std.specs.List.{AllByRecursion}
use Rattle.index_sorts.specs.Context.{IndexContext}
use Rattle.index_sorts.specs.Known.{knows}
use Rattle.xan_lin.specs.Linear.{Linear}
use Rattle.state_types.specs.declared.closed.Packed.{Packed}
use Rattle.xanadu_tree.specs.BodyRules.{Point, AreStatements}
use Rattle.xanadu_tree.specs.KindRules.{Setting}
use Rattle.xanadu_tree.specs.Plain as core
use Rattle.typed_core.specs.States.{Site, State, Asked, asked, all_asked, none_asked}
use Rattle.typed_core.specs.Statements.{block}
use Rattle.typed_core.specs.declared.goal.GoalAt.{GoalAt}
use Rattle.typed_core.specs.declared.note.Note.{Note}
use Rattle.typed_core.specs.declared.note.Note.TheVariants as note
use Rattle.dtal_code.specs.Grammar.{IsFormIn}
use Rattle.carrier_laws.proofs.NotesWalked.{GoesOn, block_so}
use Rattle.carrier_laws.proofs.PlacesKept.{Grounds, Place}
use Rattle.carried_acceptance.proofs.CarriedKept.{all_push}
use Rattle.carried_acceptance.proofs.TextedStates.{IsTexted, IsValueIn, texted_by_facts, forms_in, rows_in, indices_in, way_values_in}

-- what a note says has a text
abbrev pub IsTextedNote : List Packed → Note → Type 0
IsTextedNote table (note.State noted) = IsTexted table noted
IsTextedNote table (note.Edge values present numbers) = AllByRecursion IsValueIn values
IsTextedNote table (note.Demand numbers) = Unit {0}

-- so have the rows from which a goal has to follow
abbrev pub IsTextedGoal : GoalAt → Type 0
IsTextedGoal goal = AllByRecursion IsFormIn goal.ctx.rows

-- so far
pub record AreTexted (table : List Packed) (made : List Note) (asked_for : List GoalAt) : Type 0 where
  pub notes : AllByRecursion (IsTextedNote table) made
  pub goals : AllByRecursion IsTextedGoal asked_for

abbrev pub TextsOf : List Packed → State → Type 0
TextsOf table st = AreTexted table st.notes st.goals

-- ---- goals

asked_by : (b : Truth) (goal : GoalAt) (made : Asked) → IsTextedGoal goal → AllByRecursion IsTextedGoal made.goals → AllByRecursion IsTextedGoal (asked b goal made).goals
asked_by true goal made is all = all
asked_by false goal made is all = all_push IsTextedGoal made.goals goal all is

asked_in : (site : Site) (at : ℕ) (ctx : IndexContext) (rows : List Linear) (made : Asked) → AllByRecursion IsFormIn ctx.rows → AllByRecursion IsTextedGoal made.goals
    → AllByRecursion IsTextedGoal (all_asked site at ctx rows made).goals
unfolding all_asked
asked_in site at ctx [] made is all = all
asked_in site at ctx (row ∷ rows) made is all =
    let goal : GoalAt = record { fun = site.fun; at = at; ctx = ctx; row = row } in asked_in site at ctx rows (asked (knows ctx row) goal made) is (asked_by (knows ctx row) goal made is all)

-- ---- a block

pushed : (table : List Packed) (made : List Note) (before later : List GoalAt) (one : Note) → AreTexted table made before → IsTextedNote table one → AllByRecursion IsTextedGoal later
    → AreTexted table (made ++ one ∷ []) later
pushed table made before later one all is goals = record { notes = all_push (IsTextedNote table) made one all.notes is; goals = goals }

texted_on : (site : Site) → GoesOn site (IsTexted site.table) (AreTexted site.table)
texted_on site = record {
  known = texted_by_facts site;
  demand = λ at rows st kept named all. pushed site.table st.notes st.goals _ (note.Demand _) all tt
      (asked_in site at st.ctx rows (none_asked st) (forms_in st.ctx.vars st.ctx.rows kept.few kept.rows.forms named) all.goals);
  way = λ at joint end found values st is met e all. pushed site.table st.notes st.goals _ (note.Edge values found.0 _) all
      (way_values_in joint end.places found values (indices_in site.table end is) met e) (asked_in site at end.ctx found.1.rows (none_asked st) (rows_in site.table end is) all.goals);
  state = λ noted notes goals is all. pushed site.table notes goals goals (note.State noted) all is all.goals;
}

pub block_texted : (set : Setting) (site : Site) (g : Grounds set site) (ss : core.Stmts) (before after : Point) (st more : State) → AreStatements set before ss after
    → Place set site before st → TextsOf site.table st → block site ss st ≡ Ok more → TextsOf site.table more
block_texted set site g ss before after st more are here all made =
    block_so set site g (IsTexted site.table) (AreTexted site.table) (texted_on site) ss before after st more are here all made
