-- A source has a fate, and one alone; and its goals are those that are computed.
use Rattle.std.proofs.Common.{◌≡◌, ℕ, List, length, Option, Some, None, Result, Ok, Err, refl, sym, ap, ◌∙◌, subst}
use Rattle.xan_seq.specs.Answers.{◌>>=◌}
use Rattle.goal_table.specs.Unproved.{Failure, first_unproved}
use Rattle.typed_core.specs.Goals.{Elaboration, elaborated}
use Rattle.typed_core.specs.Limits.{Walk, Past, Misfit, Stray}
use Rattle.typed_core.specs.declared.goal.GoalAt.{GoalAt}
use Rattle.typed_core.proofs.FitPrograms.{shaped_fits}
use Rattle.typed_core.proofs.NamedPrograms.{never_strays}
use Rattle.xanadu_tree.specs.Plain as plain
use Rattle.xanadu_tree.specs.Shaped.{Shaped}
use Rattle.scope_shapes.proofs.ShapedPrograms.{shape_is_shaped}
use Rattle.command_reports.specs.declared.answer.Counts.{Counts}
use Rattle.command_reports.specs.declared.refusal.Refusal.{Refusal}
use Rattle.command_reports.specs.declared.refusal.Refusal.TheVariants as refusal
use Rattle.command_reports.specs.declared.refusal.SourceError.{SourceError}
use Rattle.command_reports.specs.declared.refusal.SourceError.TheVariants as error
use Rattle.xanadu_driver.specs.Fate.{Checked, checked_with, core_of, checked_of, goals_of, fate, or_stop, of_walk, none_fails, proved_of}
use Rattle.xanadu_driver.specs.Source.{IsCore, IsElaborated, HasGoals, HasFate, IsRefused, IsEarly, counts_of, IsProved}
use Rattle.xanadu_driver.proofs.CoreFates.{HasCoreFate, has_core_fate, core_is}
use Rattle.xanadu_driver.proofs.Fates.{HasNoCore, tree_is_written}

-- ---- the goals

abbrev made_of : plain.Program → Walk Elaboration → Result Checked SourceError
made_of core walked = or_stop of_walk walked >>= λ made. Ok (checked_with core made)

abbrev checked_by : Result plain.Program SourceError → Result Checked SourceError
checked_by core = core >>= λ core. made_of core (elaborated core)

checked_same : (bytes : List ℕ) → checked_of bytes ≡ checked_by (core_of bytes)
unfolding checked_of
checked_same bytes = refl

checked_core : (bytes : List ℕ) (core : plain.Program) → IsCore bytes core → checked_of bytes ≡ made_of core (elaborated core)
checked_core bytes core has = checked_same bytes ∙ ap checked_by (core_is bytes (Ok core) has)

checked_is : (bytes : List ℕ) (core : plain.Program) (made : Elaboration) → IsElaborated bytes core made → checked_of bytes ≡ Ok (checked_with core made)
checked_is bytes core made has = checked_core bytes core has.has ∙ ap (made_of core) has.elaborated

checked_past : (bytes : List ℕ) (r : Refusal) → IsRefused bytes r → IsEarly r → checked_of bytes ≡ Err (error.Refused r)
checked_past bytes refusal.Length x early = checked_same bytes ∙ ap checked_by (core_is bytes (Err (error.Refused refusal.Length)) x)
checked_past bytes (refusal.Bytes at) x early = checked_same bytes ∙ ap checked_by (core_is bytes (Err (error.Refused (refusal.Bytes at))) x)
checked_past bytes refusal.Nesting x early = checked_same bytes ∙ ap checked_by (core_is bytes (Err (error.Refused refusal.Nesting)) x)
checked_past bytes (refusal.Parse at) x early = checked_same bytes ∙ ap checked_by (core_is bytes (Err (error.Refused (refusal.Parse at))) x)
checked_past bytes (refusal.Shape kind at) x early = checked_same bytes ∙ ap checked_by (core_is bytes (Err (error.Refused (refusal.Shape kind at))) x)
checked_past bytes (refusal.Past kind) x early = checked_core bytes x.core x.has ∙ ap (made_of x.core) x.past
checked_past bytes (refusal.Goal number at row answer) x early = absurd early

abbrev listed_by : Result Checked SourceError → Result (List GoalAt) SourceError
listed_by checked = checked >>= λ checked. Ok checked.made.goals

pub goals_are : (bytes : List ℕ) (goals : List GoalAt) → HasGoals bytes goals → goals_of bytes ≡ Ok goals
goals_are bytes goals has = ap listed_by (checked_is bytes has.core has.made has.has) ∙ ap (λ (goals : List GoalAt). Ok goals) (sym has.are)

pub goals_refused : (bytes : List ℕ) (r : Refusal) → IsRefused bytes r → IsEarly r → goals_of bytes ≡ Err (error.Refused r)
goals_refused bytes r x early = ap listed_by (checked_past bytes r x early)

-- ---- a fate is no other

abbrev behind_goals : plain.Program → Elaboration → Option Failure → Result Counts SourceError
behind_goals core made found = none_fails found >>= λ proved. Ok (counts_of core made)

abbrev fate_by : Result Checked SourceError → Result Counts SourceError
fate_by checked = checked >>= λ checked. behind_goals checked.core checked.made (first_unproved checked.made.goals)

fate_same : (bytes : List ℕ) → fate bytes ≡ fate_by (checked_of bytes)
unfolding fate
fate_same bytes = refl

fate_behind : (bytes : List ℕ) (core : plain.Program) (made : Elaboration) (found : Option Failure) → IsElaborated bytes core made
    → first_unproved made.goals ≡ found → fate bytes ≡ behind_goals core made found
fate_behind bytes core made found has is = fate_same bytes ∙ ap fate_by (checked_is bytes core made has) ∙ ap (behind_goals core made) is

fate_early : (bytes : List ℕ) (r : Refusal) → IsRefused bytes r → IsEarly r → fate bytes ≡ Err (error.Refused r)
fate_early bytes r x early = fate_same bytes ∙ ap fate_by (checked_past bytes r x early)

fate_refused : (bytes : List ℕ) (r : Refusal) → IsRefused bytes r → fate bytes ≡ Err (error.Refused r)
fate_refused bytes (refusal.Goal number at row answer) x = fate_behind bytes x.core x.made _ x.has x.first
fate_refused bytes refusal.Length x = fate_early bytes refusal.Length x tt
fate_refused bytes (refusal.Bytes at) x = fate_early bytes (refusal.Bytes at) x tt
fate_refused bytes refusal.Nesting x = fate_early bytes refusal.Nesting x tt
fate_refused bytes (refusal.Parse at) x = fate_early bytes (refusal.Parse at) x tt
fate_refused bytes (refusal.Shape kind at) x = fate_early bytes (refusal.Shape kind at) x tt
fate_refused bytes (refusal.Past kind) x = fate_early bytes (refusal.Past kind) x tt

pub fate_is : (bytes : List ℕ) (other : Result Counts SourceError) → HasFate bytes other → fate bytes ≡ other
fate_is bytes (Ok counts) x = fate_behind bytes x.core x.made None x.has.has x.has.proved ∙ ap (λ (c : Counts). Ok c) (sym x.counted)
fate_is bytes (Err (error.Refused r)) x = fate_refused bytes r x
fate_is bytes (Err error.Memory) x = absurd x

-- ---- the core whose goals are proved

abbrev behind_proof : plain.Program → Option Failure → Result plain.Program SourceError
behind_proof core found = none_fails found >>= λ proved. Ok core

abbrev proved_by : Result Checked SourceError → Result plain.Program SourceError
proved_by checked = checked >>= λ checked. behind_proof checked.core (first_unproved checked.made.goals)

proved_same : (bytes : List ℕ) → proved_of bytes ≡ proved_by (checked_of bytes)
unfolding proved_of
proved_same bytes = refl

proved_behind : (bytes : List ℕ) (core : plain.Program) (made : Elaboration) (found : Option Failure) → IsElaborated bytes core made
    → first_unproved made.goals ≡ found → proved_of bytes ≡ behind_proof core found
proved_behind bytes core made found has is = proved_same bytes ∙ ap proved_by (checked_is bytes core made has) ∙ ap (behind_proof core) is

proved_early : (bytes : List ℕ) (r : Refusal) → IsRefused bytes r → IsEarly r → proved_of bytes ≡ Err (error.Refused r)
proved_early bytes r x early = proved_same bytes ∙ ap proved_by (checked_past bytes r x early)

pub proved_is : (bytes : List ℕ) (core : plain.Program) (made : Elaboration) → IsProved bytes core made → proved_of bytes ≡ Ok core
proved_is bytes core made is = proved_behind bytes core made None is.has is.proved

pub proved_refused : (bytes : List ℕ) (r : Refusal) → IsRefused bytes r → proved_of bytes ≡ Err (error.Refused r)
proved_refused bytes (refusal.Goal number at row answer) x = proved_behind bytes x.core x.made _ x.has x.first
proved_refused bytes refusal.Length x = proved_early bytes refusal.Length x tt
proved_refused bytes (refusal.Bytes at) x = proved_early bytes (refusal.Bytes at) x tt
proved_refused bytes refusal.Nesting x = proved_early bytes refusal.Nesting x tt
proved_refused bytes (refusal.Parse at) x = proved_early bytes (refusal.Parse at) x tt
proved_refused bytes (refusal.Shape kind at) x = proved_early bytes (refusal.Shape kind at) x tt
proved_refused bytes (refusal.Past kind) x = proved_early bytes (refusal.Past kind) x tt

pub one_fate : (bytes : List ℕ) (a b : Result Counts SourceError) → HasFate bytes a → HasFate bytes b → a ≡ b
one_fate bytes a b x y = sym (fate_is bytes a x) ∙ fate_is bytes b y

-- ---- every source has a fate

module _ (bytes : List ℕ) where
  core_is_shaped : (core : plain.Program) → IsCore bytes core → Shaped core
  core_is_shaped core has = shape_is_shaped has.written (length bytes) core (tree_is_written bytes has.written has.has) has.shaped

  goals_fate : (core : plain.Program) (made : Elaboration) → IsElaborated bytes core made → (found : Option Failure) → first_unproved made.goals ≡ found
      → HasFate bytes (behind_goals core made found)
  goals_fate core made has None e = record { core = core; made = made; has = record { has = has; proved = e }; counted = refl }
  goals_fate core made has (Some failure) e = record { core = core; made = made; has = has; first = e }

  walk_fate : (core : plain.Program) → IsCore bytes core → (walked : Walk Elaboration) → elaborated core ≡ walked
      → HasFate bytes (fate_by (made_of core walked))
  walk_fate core has (Ok made) e = goals_fate core made (record { has = has; elaborated = e }) (first_unproved made.goals) refl
  walk_fate core has (Err (Past kind)) e = record { core = core; has = has; past = e }
  walk_fate core has (Err Misfit) e = absurd (shaped_fits core (core_is_shaped core has) e)
  walk_fate core has (Err Stray) e = absurd (never_strays core (core_is_shaped core has) e)

  refused_fate : (r : Refusal) → HasNoCore bytes r → IsRefused bytes r
  refused_fate refusal.Length x = x
  refused_fate (refusal.Bytes at) x = x
  refused_fate refusal.Nesting x = x
  refused_fate (refusal.Parse at) x = x
  refused_fate (refusal.Shape kind at) x = x
  refused_fate (refusal.Past kind) x = absurd x
  refused_fate (refusal.Goal number at row answer) x = absurd x

  core_fate : (core : Result plain.Program SourceError) → HasCoreFate bytes core → HasFate bytes (fate_by (checked_by core))
  core_fate (Ok core) has = walk_fate core has (elaborated core) refl
  core_fate (Err (error.Refused r)) has = refused_fate r has
  core_fate (Err error.Memory) has = absurd has

-- every source has the fate that is computed
pub has_fate : (bytes : List ℕ) → HasFate bytes (fate bytes)
has_fate bytes =
    subst (HasFate bytes) (sym (fate_same bytes ∙ ap fate_by (checked_same bytes))) (core_fate bytes (core_of bytes) (has_core_fate bytes))
