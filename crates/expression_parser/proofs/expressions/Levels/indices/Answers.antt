use Rattle.std.proofs.Common.{◌-◌, ◌+◌, arith}
use Rattle.std.proofs.lemmas.Result.{err_from_is_err_and}
use Rattle.xanadu_lexer.specs.declared.symbol.Symbol.TheVariants as symbol
use Rattle.expression_parser.specs.Tables.{mark}
use Rattle.expression_parser.specs.Views.{in_brackets}
use Rattle.expression_parser.specs.Expressions as spec
use Rattle.expression_parser.proofs.TokenLists.{more_put, fails_put, ends, full}
use Rattle.expression_parser.proofs.expressions.Levels.indices.Goals as goal

pub returns-in_default : goal.returns-in_default
returns-in_default g c = ends (mark symbol.LeftBracket) (spec.one_index (spec.expression c.args.self.now.room)) _ _ _ _ _ c.in_default.ensures c.loop-turn.invariant

pub returns-in_err-push_read : goal.returns-in_err-push_read
returns-in_err-push_read g c =
    let p = err_from_is_err_and c.from_residual.result c.from_residual.ensures.1 in
    rw (p.1, p.2) (fails_put (mark symbol.LeftBracket) (spec.one_index (spec.expression c.args.self.now.room)) (spec.one_index (spec.expression c.args.self.now.room) _) in_brackets in_brackets (λ x. x) c.index.result _ _ (c.left-turn-end.result - (c.loop-turn._turn + 1)) _ _ _ _ _ _ _ (omega arith) c.in-Some.ensures c.index.ensures c.in_err-push_read.ensures (λ n e. e) c.loop-turn.invariant)

pub loop-turn-preserved : goal.loop-turn-preserved
loop-turn-preserved g c =
    more_put (mark symbol.LeftBracket) (spec.one_index (spec.expression c.args.self.now.room)) (spec.one_index (spec.expression c.args.self.now.room) _) in_brackets in_brackets (λ x. x) c.index.result _ (c.left-turn-end.result - c.loop-turn._turn) _ _ _ _ _ _ _ _ (omega arith) c.in-Some.ensures c.index.ensures c.in_ok-push_read.ensures (λ x e. e) c.loop-turn.invariant

pub returns : goal.returns
returns g c = full (mark symbol.LeftBracket) (spec.one_index (spec.expression c.args.self.now.room)) _ _ _ _ (omega arith) c.loop-turn.invariant
