use Rattle.std.proofs.Common.{◌≡◌, length}
use Rattle.expression_shapes.specs.SitesOf.{locals_of}
use Rattle.scope_shapes.specs.Statements.{split_names}
use Rattle.scope_shapes.proofs.simple.split_names.Given as goal

abbrev pub invariant-loop-names : goal.invariant-loop-names
invariant-loop-names l = split_names l.names l.parts l.numbers.items (locals_of l.locals) ≡ split_names l.fn.names l.parts l.fn.numbers.items (locals_of l.fn.locals)

abbrev pub decreases-loop-names : goal.decreases-loop-names
decreases-loop-names l = length l.names
