use Rattle.std.proofs.Common.{refl, ap, sym, ◌∙◌, slice_get, arith}
use Rattle.linear_solver.proofs.Turns.{taken_among, turns_begin, turns_end, turns_last, turns_fail, turns_few, turns_more, ready_now}
use Rattle.linear_solver.proofs.rounds.rounds.Goals as goal

pub rounds-init : goal.rounds-init
rounds-init c = turns_begin _ _ c.requires.few

pub returns-in_default-clause-answer : goal.returns-in_default-clause-answer
returns-in_default-clause-answer c =
    turns_end _ _ _ _ _ _ _ _ _ c.rounds.invariant c.look_at.ensures refl c.in_default.not-Take c.ended.ensures

pub column_of-column-requires : goal.column_of-column-requires
column_of-column-requires c = taken_among _ _ _ _ _ c.look_at.ensures c.in-Take.is c.vars.ensures.vars

pub next_rows-requires : goal.next_rows-requires
next_rows-requires c = record {
  ready = ready_now _ _ _ _ _ _ _ _ c.rounds.invariant c.requires.room c.look_at.ensures c.in-Take.is
      (ap (λ vs. slice_get vs c.column_of-column.result) (sym c.vars.ensures.vars) ∙ c.column_of-column.ensures);
  none = ap (λ w. w.made) c.rounds.invariant.kept ∙ c.requires.empty;
}

pub turn-requires-clause-few : goal.turn-requires-clause-few
turn-requires-clause-few c =
    let little = turns_few _ _ c.next_rows.new.work _ _ _ _ _ _ c.rounds.invariant c.look_at.ensures c.in-Take.is
    (ap (λ vs. slice_get vs c.column_of-column.result) (sym c.vars.ensures.vars) ∙ c.column_of-column.ensures) (c.in-Ok.ensures {u = tt}).made in
    omega arith

pub turn-requires-clause-room : goal.turn-requires-clause-room
turn-requires-clause-room c =
    let little = turns_few _ _ c.next_rows.new.work _ _ _ _ _ _ c.rounds.invariant c.look_at.ensures c.in-Take.is
    (ap (λ vs. slice_get vs c.column_of-column.result) (sym c.vars.ensures.vars) ∙ c.column_of-column.ensures) (c.in-Ok.ensures {u = tt}).made in
    omega (arith, c.rounds.invariant.few, c.rounds-test.true)

pub rounds-preserved : goal.rounds-preserved
rounds-preserved c =
    turns_more _ _ c.next_rows.new.work _ _ _ _ _ _ _ _ c.rounds.invariant c.rounds-test.true c.requires.empty c.look_at.ensures c.in-Take.is
    (ap (λ vs. slice_get vs c.column_of-column.result) (sym c.vars.ensures.vars) ∙ c.column_of-column.ensures) (c.in-Ok.ensures {u = tt}).made (c.in-Ok.ensures {u = tt}).kept c.turn.ensures.numbered c.turn.ensures.turned c.turn.ensures.few

pub returns-in-Err-clause-answer : goal.returns-in-Err-clause-answer
returns-in-Err-clause-answer c =
    turns_fail _ _ _ c.rounds.steps _ _ _ _ _ _ c.rounds.invariant c.rounds-test.true c.look_at.ensures c.in-Take.is
    (ap (λ vs. slice_get vs c.column_of-column.result) (sym c.vars.ensures.vars) ∙ c.column_of-column.ensures) (c.in-Err.ensures {u = tt}).made

pub returns-clause-answer : goal.returns-clause-answer
returns-clause-answer c = turns_last _ _ _ _ _ _ _ _ c.rounds.invariant c.rounds-test.false c.look_at-look.ensures c.ended-2.ensures
