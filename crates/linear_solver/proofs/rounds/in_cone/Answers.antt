use Rattle.std.proofs.Common.{ap, length, arith}
use Rattle.linear_solver.proofs.Room.{first-few}
use Rattle.linear_solver.proofs.rounds.in_cone.Goals as goal

pub turn-requires-clause-few : goal.turn-requires-clause-few
turn-requires-clause-few c = omega (arith, ap (λ w. length w.made) c.first_rows.ensures, first-few c.args.work.now.vars c.args.hyps.now c.args.start.now, c.requires.few_rows)

pub turn-requires-clause-room : goal.turn-requires-clause-room
turn-requires-clause-room c = omega (arith, ap length c.requires.no_steps, ap (λ w. length w.made) c.first_rows.ensures, first-few c.args.work.now.vars c.args.hyps.now c.args.start.now, c.requires.few_rows)

pub rounds-requires-clause-few : goal.rounds-requires-clause-few
rounds-requires-clause-few c = omega (arith, c.turn.ensures.few, ap length c.requires.no_steps, ap (λ w. length w.made) c.first_rows.ensures, first-few c.args.work.now.vars c.args.hyps.now c.args.start.now, c.requires.few_rows)
