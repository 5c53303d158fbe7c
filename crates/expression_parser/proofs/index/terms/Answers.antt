use Rattle.std.proofs.Common.{◌-◌, ◌+◌, refl, arith}
use Rattle.std.proofs.lemmas.Result.{err_from_is_err_and}
use Rattle.expression_parser.specs.Tables.{symbol_among, sign}
use Rattle.expression_parser.specs.Index.{signed}
use Rattle.expression_parser.proofs.TokenLists.{more, fails, ends, full, fails_then}
use Rattle.expression_parser.proofs.index.terms.Goals as goal

pub returns-in_default : goal.returns-in_default
returns-in_default c = ends (symbol_among sign) signed _ _ _ _ _ c.in_default.ensures c.loop-turn.invariant

pub returns-in_err-term : goal.returns-in_err-term
returns-in_err-term c =
    let p = err_from_is_err_and c.from_residual.result c.from_residual.ensures.1 in
    rw (p.1, p.2) (fails (symbol_among sign) signed _ _ (c.left-turn-end.result - (c.loop-turn._turn + 1)) _ _ _ _ _ (omega arith) c.in-Some.ensures (fails_then _ _ _ c.in_err-term.ensures) c.loop-turn.invariant)

pub loop-turn-preserved : goal.loop-turn-preserved
loop-turn-preserved c =
    more (symbol_among sign) signed (c.left-turn-end.result - c.loop-turn._turn) _ _ _ _ _ _ _ _ _ (omega arith) c.in-Some.ensures (rw c.in_ok-term.ensures refl) c.in_ok-push_closely.ensures.items c.loop-turn.invariant

pub returns : goal.returns
returns c = full (symbol_among sign) signed _ _ _ _ (omega arith) c.loop-turn.invariant
