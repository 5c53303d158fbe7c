use Rattle.std.proofs.Common.{◌≡◌, map}
use Rattle.xanadu_tree.specs.PlainOf.{plain_fun}
use Rattle.scope_shapes.proofs.Zips.{made_of}
use Rattle.scope_shapes.proofs.bodies.funs.Given as goal

abbrev pub invariant-loop-header : goal.invariant-loop-header
invariant-loop-header l = map plain_fun l.made.items ≡ map made_of l.yielded
