use Rattle.std.proofs.Common.{◌-◌, ◌+◌, arith}
use Rattle.std.proofs.lemmas.Result.{err_from_is_err_and}
use Rattle.xanadu_lexer.specs.declared.symbol.Symbol.TheVariants as symbol
use Rattle.xanadu_tree.specs.PlainTreeOf.{plain_statement}
use Rattle.expression_parser.specs.Tables.{mark}
use Rattle.xanadu_parser.specs.Statements as spec
use Rattle.expression_parser.proofs.TokenLists.{until_put, until_not_put, until_ends, until_full}
use Rattle.xanadu_parser.proofs.statements.+block.Goals as goal

pub statements-returns-in-Some : goal.statements-returns-in-Some
statements-returns-in-Some t c =
    until_ends (mark symbol.RightBrace) (spec.statement c.args.room (spec.block c.args.room)) _ (c.left-turn-end.result - (c.loop-turn._turn + 1)) _ _ _ _ _ (omega arith) c.in-Some.ensures c.loop-turn.invariant

pub statements-returns-in_err-push_read : goal.statements-returns-in_err-push_read
statements-returns-in_err-push_read t c =
    let p = err_from_is_err_and c.from_residual.result c.from_residual.ensures.1 in
    rw (p.1, p.2) (until_not_put (mark symbol.RightBrace) (spec.statement c.args.room (spec.block c.args.room)) plain_statement c.statement.result _ _ (c.left-turn-end.result - (c.loop-turn._turn + 1)) _ _ _ _ _ _ (omega arith) c.in_default.ensures c.statement.ensures c.in_err-push_read.ensures c.loop-turn.invariant)

pub statements-loop-turn-preserved : goal.statements-loop-turn-preserved
statements-loop-turn-preserved t c =
    until_put (mark symbol.RightBrace) (spec.statement c.args.room (spec.block c.args.room)) plain_statement c.statement.result _ (c.left-turn-end.result - c.loop-turn._turn) _ _ _ _ _ _ _ (omega arith) c.in_default.ensures c.statement.ensures c.in_ok-push_read.ensures c.loop-turn.invariant

pub statements-returns : goal.statements-returns
statements-returns t c = rw c.fault.ensures (until_full (mark symbol.RightBrace) (spec.statement c.args.room (spec.block c.args.room)) _ _ _ _ (omega arith) c.loop-turn.invariant)
