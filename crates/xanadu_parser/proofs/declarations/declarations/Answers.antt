use Rattle.std.proofs.Common.{◌-◌, ◌+◌, arith}
use Rattle.std.proofs.lemmas.Result.{err_from_is_err_and}
use Rattle.xanadu_tree.specs.PlainTreeOf.{plain_declaration}
use Rattle.xanadu_parser.proofs.Programs.{declaration_put, declaration_not_put, all_declared, none_left}
use Rattle.xanadu_parser.proofs.declarations.declarations.Goals as goal

pub returns-then-left-eq0 : goal.returns-then-left-eq0
returns-then-left-eq0 c = all_declared c.args.room _ _ c.loop-turn.tokens _ (omega arith) c.loop-turn.invariant

pub returns-in_err-push_read : goal.returns-in_err-push_read
returns-in_err-push_read c =
    let p = err_from_is_err_and c.from_residual.result c.from_residual.ensures.1 in
    rw (p.1, p.2) (declaration_not_put c.args.room plain_declaration c.declaration.result _ _ (c.left-turn-end.result - (c.loop-turn._turn + 1)) _ _ c.loop-turn.tokens _ _ (omega arith) (omega arith) c.declaration.ensures c.in_err-push_read.ensures c.loop-turn.invariant)

pub loop-turn-preserved : goal.loop-turn-preserved
loop-turn-preserved c =
    declaration_put c.args.room plain_declaration c.declaration.result _ (c.left-turn-end.result - c.loop-turn._turn) _ _ _ c.loop-turn.tokens _ _ (omega arith) (omega arith) c.declaration.ensures c.in_ok-push_read.ensures c.loop-turn.invariant

pub returns : goal.returns
returns c = none_left c.args.room _ _ c.loop-turn.tokens _ (omega arith) c.loop-turn.invariant
