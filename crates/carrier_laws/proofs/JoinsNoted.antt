-- Where branches meet, and at the head of a loop, elaboration notes the state there and nothing else, and it makes no goal.
use Rattle.std.proofs.Common.{◌≡◌, ◌∙◌, ℕ, ◌+◌, Bool as Truth, List, [], ◌∷◌, ◌++◌, map, length, Result, refl, ap}
use Rattle.std.specs.List.{list_all}
use Rattle.xan_lin.specs.Linear.{Linear}
use Rattle.xan_lin.specs.declared.term.TooLarge.{TooLarge}
use Rattle.state_types.specs.declared.state.StateType.{StateType}
use Rattle.operation_rules.specs.Applied.{widened, all_assuming}
use Rattle.operation_rules.specs.Faults.{filled}
use Rattle.operation_rules.specs.Forms.{variables_from}
use Rattle.xanadu_tree.specs.declared.stmt.Clause.{Clause}
use Rattle.typed_core.specs.Forms.{renamed}
use Rattle.typed_core.specs.Joins.{few_places, renewed, renewing, naming_more, stating, stated_types, with_types, joined}
use Rattle.typed_core.specs.Limits.{by_rule, held}
use Rattle.typed_core.specs.States.{Site, State, point, resuming, with_fresh, assuming, noting_state}
use Rattle.typed_core.specs.Strays.{clause_rises, values_rise, row_below}
use Rattle.typed_core.specs.declared.note.Note.TheVariants as note
use Rattle.typed_core.proofs.Continued.{Goes}
use Rattle.typed_core.proofs.LimitedAnswers.{then_answers, any_answer}

-- no note more, and no goal
record Quiet (st more : State) : Type 0 where
  notes : more.notes ≡ st.notes
  goals : more.goals ≡ st.goals

fresh_quiet : (count : ℕ) (st : State) → Goes (λ more. Quiet st more) (with_fresh count st)
unfolding with_fresh
fresh_quiet count st =
    then_answers (by_rule (filled (widened count st.ctx))) _ (any_answer (by_rule (filled (widened count st.ctx)))) (λ ctx u. record { is = record { notes = refl; goals = refl } })

assumed_quiet : (rows : List (Result Linear TooLarge)) (st : State) → Goes (λ more. Quiet st more) (assuming rows st)
unfolding assuming
assumed_quiet rows st =
    then_answers (by_rule (filled (all_assuming rows st.ctx))) _ (any_answer (by_rule (filled (all_assuming rows st.ctx)))) (λ ctx u. record { is = record { notes = refl; goals = refl } })

renewing_quiet : (clause : Clause) (changed : ℕ → Truth) (before : StateType) (latest : State) → Goes (λ r. Quiet latest r.1) (renewing clause changed before latest)
unfolding renewing
renewing_quiet clause changed before latest =
    then_answers (few_places before.places) _ (any_answer (few_places before.places))
    (λ u h. let kept = renewed changed clause.vars (latest.ctx.vars + clause.quant.count) before.places (record { types = []; others = [] }) in
    then_answers (with_fresh (clause.quant.count + length kept.others) (resuming before.ctx.rows before.places latest)) _
    (fresh_quiet (clause.quant.count + length kept.others) (resuming before.ctx.rows before.places latest))
    (λ more g. record { is = record { notes = g.notes; goals = g.goals } }))

stating_quiet : (naming : List (ℕ × Linear)) (own : ℕ) (clause : Clause) (st : State) → Goes (λ r. Quiet st r.1) (stating naming own clause st)
unfolding stating
stating_quiet naming own clause st =
    let rows = map (renamed naming own) clause.quant.rows in
    then_answers (held (values_rise 0 naming)) _ (any_answer (held (values_rise 0 naming)))
    (λ u h. then_answers (held (clause_rises clause)) _ (any_answer (held (clause_rises clause)))
    (λ v g. then_answers (held (list_all (row_below st.ctx.vars) rows)) _ (any_answer (held (list_all (row_below st.ctx.vars) rows)))
    (λ w k. then_answers (assuming rows st) _ (assumed_quiet rows st) (λ more l. record { is = l }))))

-- the state is noted, and no goal is made
pub record StateNoted (st more : State) : Type 0 where
  pub notes : more.notes ≡ st.notes ++ note.State (point more) ∷ []
  pub goals : more.goals ≡ st.goals

module _ (site : Site) where
  pub joined_noted : (clause : Clause) (changed : ℕ → Truth) (before : StateType) (latest : State) → Goes (λ r. StateNoted latest r.1) (joined site clause changed before latest)
  unfolding joined noting_state
  joined_noted clause changed before latest =
      then_answers (renewing clause changed before latest) _ (renewing_quiet clause changed before latest)
      (λ r h. let begun = naming_more (variables_from clause.first latest.ctx.vars clause.quant.count) r.1 in
      then_answers (stating begun.naming site.own.vars clause begun) _ (stating_quiet begun.naming site.own.vars clause begun)
      (λ s g. then_answers (stated_types s.1.naming site.own.vars clause.vars []) _ (any_answer (stated_types s.1.naming site.own.vars clause.vars []))
      (λ wanted u. record {
        is = record {
          notes = ap (λ ns. ns ++ note.State (record { ctx = record { vars = s.1.ctx.vars; rows = s.1.ctx.rows }; places = with_types wanted r.0.types }) ∷ []) (g.notes ∙ h.notes);
          goals = g.goals ∙ h.goals;
        };
      })))
