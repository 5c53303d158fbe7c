use Rattle.linear_solver.specs.Elimination.{rounds}
use Rattle.linear_solver.proofs.Turns.{Turns}
use Rattle.linear_solver.proofs.rounds.rounds.Given as goal

abbrev pub invariant-rounds : goal.invariant-rounds
invariant-rounds l = Turns l.fn.work l.work l.steps (rounds 64 l.fn.work.vars l.fn.steps l.fn.work.rows) l._round
