-- How the code's values are seen.
use Rattle.std.specs.Prelude.{ℕ, List, map}
use Rattle.xanadu_tree.specs.Plain as core
use Rattle.xanadu_tree.specs.declared.expr.CoreExpr.{CoreExpr}
use Rattle.xanadu_tree.specs.declared.expr.Op.{Op}
use Rattle.xanadu_tree.specs.PlainOf.{plain_expr, plain_test, plain_block, to_exprs, to_links, to_tests}
use Rattle.source_evaluator.specs.Work as work
use Rattle.source_evaluator.specs.Steps as steps
use Rattle.source_evaluator.specs.declared.tasks.Task.{Task}
use Rattle.source_evaluator.specs.declared.tasks.Task.TheVariants as task
use Rattle.source_evaluator.specs.declared.machine.Machine.{Machine}
use Rattle.source_evaluator.specs.declared.machine.Event.{Event}
use Rattle.source_evaluator.specs.declared.machine.Event.TheVariants as event

-- an operator of a chain, with its right operand and its place
abbrev pub link_of : Op × CoreExpr × ℕ → Op × core.Expr × ℕ
link_of l = (l.0, plain_expr l.1, l.2)

abbrev pub work_of : Task → work.Work
work_of (task.Operand e) = work.Operand (plain_expr e.now)
work_of (task.Operands es) = work.Operands (to_exprs (map plain_expr es.now))
work_of (task.Links links) = work.Links (to_links (map link_of links.now))
work_of (task.Join o) = work.Join o
work_of task.Negate = work.Negate
work_of (task.Relate r) = work.Relate r
work_of task.ReadCell = work.ReadCell
work_of task.Measure = work.Measure
work_of (task.MakeTuple ty count) = work.MakeTuple ty count
work_of (task.MakeArray ty) = work.MakeArray ty
work_of (task.CallWith fun count) = work.CallWith fun count
work_of (task.Decide test) = work.Decide (plain_test test.now)
work_of task.Decided = work.Decided
work_of (task.AllParts parts) = work.AllParts (to_tests (map plain_test parts.now))
work_of (task.AnyParts parts) = work.AnyParts (to_tests (map plain_test parts.now))
work_of (task.WhereTrue parts) = work.WhereTrue (to_tests (map plain_test parts.now))
work_of (task.WhereFalse parts) = work.WhereFalse (to_tests (map plain_test parts.now))
work_of task.Opposite = work.Opposite
work_of (task.Statements ss) = work.Statements (plain_block ss.now)
work_of (task.SetTo x) = work.SetTo x
work_of (task.SplitTo xs) = work.SplitTo xs.now
work_of task.PutCell = work.PutCell
work_of task.Forget = work.Forget
work_of task.Say = work.Say
work_of (task.Choose one two) = work.Choose (plain_block one.now) (plain_block two.now)
work_of (task.Loop test body) = work.Loop (plain_test test.now) (plain_block body.now)
work_of (task.Turn test body) = work.Turn (plain_test test.now) (plain_block body.now)
work_of task.GiveBack = work.GiveBack
work_of task.Back = work.Back

abbrev pub works : List Task → List work.Work
works tasks = map work_of tasks

abbrev pub state_of : Machine → steps.Machine
state_of m = record { work = works m.work; values = m.values; env = m.env; callers = m.callers; units = m.units; store = m.store }

abbrev pub event_of : Event → steps.Event
event_of event.Goes = steps.Goes
event_of (event.Says n) = steps.Says n
event_of (event.Returns n) = steps.Returns n
