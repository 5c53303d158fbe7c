use Rattle.std.proofs.Common.{sym, ◌∙◌, ap, [], length, arith}
use Rattle.linear_solver.specs.Region.{numbered_sides}
use Rattle.linear_solver.proofs.Stores.{in-bound}
use Rattle.linear_solver.proofs.Regions.{count_made, done_live, done-length, turn_stays, turn_gathers}
use Rattle.linear_solver.proofs.workspace.Workspace.turn.Goals as goal

pub number-requires-clause-room : goal.number-requires-clause-room
number-requires-clause-room c =
    omega (arith, c.requires.few, ap length c.as_slice.ensures.value, c.clear.ensures.capacity, c.self.invariant.room_rows, count_made _ _ _ _ _ _ c.self.invariant.lies c.self.view_is)

pub number-requires-clause-few : goal.number-requires-clause-few
number-requires-clause-few c =
    omega (arith, c.requires.room, ap length c.as_slice.ensures.value, count_made _ _ _ _ _ _ c.self.invariant.lies c.self.view_is)

pub overflow_sub-mark : goal.overflow_sub-mark
overflow_sub-mark c =
    let l = c.self.invariant.lies in
    omega (arith, c.mark.ensures.live, in-bound c.self.inside.base (length c.self.inside.pool.rows) c.self.inside.made.items l.in_made)

pub gather-requires-clause-live : goal.gather-requires-clause-live
gather-requires-clause-live c =
    done_live c.self.inside.pool c.self.inside.base c.self.inside.vars.items c.self.inside.rows.items c.self.inside.made.items c.number.new.done.items c.clear-2.new.self.items c.args.self.now c.args.steps.now c.number.new.steps c.self.invariant.lies c.self.view_is
    (ap (λ sides. numbered_sides c.args.steps.now [] sides) (sym c.as_slice.ensures.value) ∙ c.number.ensures.exact) c.clear-2.ensures.items

pub gather-requires-clause-room : goal.gather-requires-clause-room
gather-requires-clause-room c =
    let same = done-length c.self.inside.pool c.self.inside.base c.self.inside.vars.items c.self.inside.rows.items c.self.inside.made.items c.number.new.done.items c.clear-2.new.self.items c.args.self.now c.args.steps.now c.number.new.steps c.self.invariant.lies c.self.view_is
    (ap (λ sides. numbered_sides c.args.steps.now [] sides) (sym c.as_slice.ensures.value) ∙ c.number.ensures.exact) c.clear-2.ensures.items in
    omega (arith, same, c.requires.few, c.clear-2.ensures.capacity, c.self.invariant.room_made, count_made _ _ _ _ _ _ c.self.invariant.lies c.self.view_is)

pub invariant_of-self : goal.invariant_of-self
invariant_of-self c =
    let t = turn_gathers c.self.inside.pool c.self.inside.base c.self.inside.vars.items c.self.inside.rows.items c.self.inside.made.items c.number.new.done.items c.gather.new.spare.items c.args.self.now c.args.steps.now c.number.new.steps c.self.invariant.lies c.self.view_is
    (ap (λ sides. numbered_sides c.args.steps.now [] sides) (sym c.as_slice.ensures.value) ∙ c.number.ensures.exact) c.gather.ensures.none c.gather.new.pool c.gather.new.rows.items
    (omega (arith, c.requires.few, count_made _ _ _ _ _ _ c.self.invariant.lies c.self.view_is)) c.gather.ensures.rows c.gather.ensures.pool in
    record {
      lies = t.lies;
      room_rows = omega (arith, c.gather.ensures.capacity_rows, c.clear-2.ensures.capacity, c.self.invariant.room_made);
      room_made = omega (arith, c.gather.ensures.capacity_spare, c.number.ensures.capacity, c.clear.ensures.capacity, c.self.invariant.room_rows);
    }

pub invariant_of-self-else-mark-self-gt-MOST_ROWS : goal.invariant_of-self-else-mark-self-gt-MOST_ROWS
invariant_of-self-else-mark-self-gt-MOST_ROWS c =
    let t = turn_stays c.self.inside.pool c.self.inside.base c.self.inside.vars.items c.self.inside.rows.items c.self.inside.made.items c.number.new.done.items c.clear-2.new.self.items c.args.self.now c.args.steps.now c.number.new.steps c.self.invariant.lies c.self.view_is
    (ap (λ sides. numbered_sides c.args.steps.now [] sides) (sym c.as_slice.ensures.value) ∙ c.number.ensures.exact) c.clear-2.ensures.items
    (omega (arith, c.mark.ensures.live, c.if-mark-self-gt-MOST_ROWS.false, in-bound c.self.inside.base (length c.self.inside.pool.rows) c.self.inside.made.items c.self.invariant.lies.in_made)) in
    record {
      lies = t.lies;
      room_rows = omega (arith, c.number.ensures.capacity, c.clear.ensures.capacity, c.self.invariant.room_rows);
      room_made = omega (arith, c.clear-2.ensures.capacity, c.self.invariant.room_made);
    }

pub returns-then-mark-self-gt-MOST_ROWS-clause-numbered : goal.returns-then-mark-self-gt-MOST_ROWS-clause-numbered
returns-then-mark-self-gt-MOST_ROWS-clause-numbered c =
    let t = turn_gathers c.self.inside.pool c.self.inside.base c.self.inside.vars.items c.self.inside.rows.items c.self.inside.made.items c.number.new.done.items c.gather.new.spare.items c.args.self.now c.args.steps.now c.number.new.steps c.self.invariant.lies c.self.view_is
    (ap (λ sides. numbered_sides c.args.steps.now [] sides) (sym c.as_slice.ensures.value) ∙ c.number.ensures.exact) c.gather.ensures.none c.gather.new.pool c.gather.new.rows.items
    (omega (arith, c.requires.few, count_made _ _ _ _ _ _ c.self.invariant.lies c.self.view_is)) c.gather.ensures.rows c.gather.ensures.pool in
    t.numbers

pub returns-then-mark-self-gt-MOST_ROWS-clause-turned : goal.returns-then-mark-self-gt-MOST_ROWS-clause-turned
returns-then-mark-self-gt-MOST_ROWS-clause-turned c =
    let t = turn_gathers c.self.inside.pool c.self.inside.base c.self.inside.vars.items c.self.inside.rows.items c.self.inside.made.items c.number.new.done.items c.gather.new.spare.items c.args.self.now c.args.steps.now c.number.new.steps c.self.invariant.lies c.self.view_is
    (ap (λ sides. numbered_sides c.args.steps.now [] sides) (sym c.as_slice.ensures.value) ∙ c.number.ensures.exact) c.gather.ensures.none c.gather.new.pool c.gather.new.rows.items
    (omega (arith, c.requires.few, count_made _ _ _ _ _ _ c.self.invariant.lies c.self.view_is)) c.gather.ensures.rows c.gather.ensures.pool in
    t.is

pub returns-else-mark-self-gt-MOST_ROWS-clause-numbered : goal.returns-else-mark-self-gt-MOST_ROWS-clause-numbered
returns-else-mark-self-gt-MOST_ROWS-clause-numbered c =
    let t = turn_stays c.self.inside.pool c.self.inside.base c.self.inside.vars.items c.self.inside.rows.items c.self.inside.made.items c.number.new.done.items c.clear-2.new.self.items c.args.self.now c.args.steps.now c.number.new.steps c.self.invariant.lies c.self.view_is
    (ap (λ sides. numbered_sides c.args.steps.now [] sides) (sym c.as_slice.ensures.value) ∙ c.number.ensures.exact) c.clear-2.ensures.items
    (omega (arith, c.mark.ensures.live, c.if-mark-self-gt-MOST_ROWS.false, in-bound c.self.inside.base (length c.self.inside.pool.rows) c.self.inside.made.items c.self.invariant.lies.in_made)) in
    t.numbers

pub returns-else-mark-self-gt-MOST_ROWS-clause-turned : goal.returns-else-mark-self-gt-MOST_ROWS-clause-turned
returns-else-mark-self-gt-MOST_ROWS-clause-turned c =
    let t = turn_stays c.self.inside.pool c.self.inside.base c.self.inside.vars.items c.self.inside.rows.items c.self.inside.made.items c.number.new.done.items c.clear-2.new.self.items c.args.self.now c.args.steps.now c.number.new.steps c.self.invariant.lies c.self.view_is
    (ap (λ sides. numbered_sides c.args.steps.now [] sides) (sym c.as_slice.ensures.value) ∙ c.number.ensures.exact) c.clear-2.ensures.items
    (omega (arith, c.mark.ensures.live, c.if-mark-self-gt-MOST_ROWS.false, in-bound c.self.inside.base (length c.self.inside.pool.rows) c.self.inside.made.items c.self.invariant.lies.in_made)) in
    t.is

pub returns-then-mark-self-gt-MOST_ROWS-clause-few : goal.returns-then-mark-self-gt-MOST_ROWS-clause-few
returns-then-mark-self-gt-MOST_ROWS-clause-few c =
    omega (arith, c.number.ensures.few, ap length c.as_slice.ensures.value, count_made _ _ _ _ _ _ c.self.invariant.lies c.self.view_is)

pub returns-else-mark-self-gt-MOST_ROWS-clause-few : goal.returns-else-mark-self-gt-MOST_ROWS-clause-few
returns-else-mark-self-gt-MOST_ROWS-clause-few c =
    omega (arith, c.number.ensures.few, ap length c.as_slice.ensures.value, count_made _ _ _ _ _ _ c.self.invariant.lies c.self.view_is)
