-- What an answer of the code says of the elimination.
use Rattle.std.specs.Prelude.{◌≡◌, List, Result, Ok, Err}
use Rattle.linear_solver.specs.declared.answer.Answer.{Answer}
use Rattle.linear_solver.specs.declared.answer.Answer.TheVariants.{Proved, Unproved, Limit}
use Rattle.solver_rows.specs.declared.step.Step.{Step}
use Rattle.xan_lin.specs.declared.term.LimitKind.{LimitKind}

-- at Proved these are the steps; a limit is met on the way
abbrev pub Answers : Result Answer LimitKind → List Step → Result (List Step) Answer → Type 0
Answers (Ok Proved) steps wanted = wanted ≡ Ok steps
Answers (Ok Unproved) steps wanted = wanted ≡ Err Unproved
Answers (Ok (Limit kind)) steps wanted = wanted ≡ Err (Limit kind)
Answers (Err kind) steps wanted = wanted ≡ Err (Limit kind)
