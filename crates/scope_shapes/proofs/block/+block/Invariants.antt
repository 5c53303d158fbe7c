use Rattle.std.proofs.Common.{◌≡◌, map, drop}
use Rattle.xanadu_tree.specs.PlainTreeOf.{plain_statement, to_statements}
use Rattle.expression_shapes.specs.SitesOf.{globals_of, locals_of}
use Rattle.scope_shapes.specs.StatementsOf.{body_of}
use Rattle.scope_shapes.specs.Statements as spec
use Rattle.scope_shapes.proofs.block.+block.Given as goal

abbrev pub invariant-statements-loop-one : goal.invariant-statements-loop-one
invariant-statements-loop-one l =
    spec.statements (globals_of l.globals) l.given (to_statements (map plain_statement (drop l.one-index l.written))) (body_of l.body) (locals_of l.locals)
    ≡ spec.statements (globals_of l.globals) l.given (to_statements (map plain_statement l.written)) (body_of l.fn.body) (locals_of l.fn.locals)
