use Rattle.std.proofs.Common.{◌-◌, ◌+◌, refl, arith}
use Rattle.std.proofs.lemmas.Result.{err_from_is_err_and}
use Rattle.expression_parser.specs.Tables.{symbol_among, product_operator}
use Rattle.expression_parser.specs.Views.{behind_factor}
use Rattle.expression_parser.specs.Expressions as spec
use Rattle.xanadu_tree.specs.PlainTreeOf.{plain_unary}
use Rattle.expression_parser.proofs.TokenLists.{more_put, fails_put, ends, full}
use Rattle.expression_parser.proofs.expressions.Levels.operands.Goals as goal

pub returns-in_default : goal.returns-in_default
returns-in_default g c = ends (symbol_among product_operator) (spec.one_operand (spec.expression c.args.self.now.room)) _ _ _ _ _ c.in_default.ensures c.loop-turn.invariant

pub returns-in_err-push_operand : goal.returns-in_err-push_operand
returns-in_err-push_operand g c =
    let p = err_from_is_err_and c.from_residual.result c.from_residual.ensures.1 in
    rw (p.1, p.2) (fails_put (symbol_among product_operator) (spec.one_operand (spec.expression c.args.self.now.room)) (spec.unary (spec.expression c.args.self.now.room)) plain_unary behind_factor _ c.unary.result _ _ (c.left-turn-end.result - (c.loop-turn._turn + 1)) _ _ _ _ _ _ _ (omega arith) c.in-Some.ensures c.unary.ensures c.in_err-push_operand.ensures (λ n e. rw e refl) c.loop-turn.invariant)

pub loop-turn-preserved : goal.loop-turn-preserved
loop-turn-preserved g c =
    more_put (symbol_among product_operator) (spec.one_operand (spec.expression c.args.self.now.room)) (spec.unary (spec.expression c.args.self.now.room)) plain_unary behind_factor _ c.unary.result _ (c.left-turn-end.result - c.loop-turn._turn) _ _ _ _ _ _ _ _ (omega arith) c.in-Some.ensures c.unary.ensures c.in_ok-push_operand.ensures (λ x e. rw e refl) c.loop-turn.invariant

pub returns : goal.returns
returns g c = full (symbol_among product_operator) (spec.one_operand (spec.expression c.args.self.now.room)) _ _ _ _ (omega arith) c.loop-turn.invariant
