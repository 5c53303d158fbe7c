-- the goals so far have their lines, and the first that is not proved is the first of those from here on
use Rattle.std.proofs.Common.{◌≡◌, take, drop}
use Rattle.goal_table.specs.Answers.{HaveLines}
use Rattle.goal_table.specs.Unproved.{first_unproved, first_unproved_from}
use Rattle.goal_table.proofs.table.prove_goals.Given as goal

abbrev pub invariant-goals : goal.invariant-goals
invariant-goals l = record {
  have : HaveLines (take l.number l.goals) l.proved.items;
  first : first_unproved_from l.number (drop l.number l.goals) ≡ first_unproved l.goals;
  pool : l.pool ≡ l.fn.pool;
}
