use Rattle.std.proofs.Common.{sym}
use Rattle.proof_lines.proofs.Positions.{any_in_back, any_in_front, any_nowhere}
use Rattle.index_sorts.specs.Known.{same_form}
use Rattle.proof_lines.proofs.hypotheses.is_listed.Goals as goal

pub returns-in-Some : goal.returns-in-Some
returns-in-Some c = sym (any_in_back (same_form c.args.row.now) c.args.hyps.now _ _ _ c.split_at.ensures.back (sym (c.in-Some.ensures {u = tt})))

pub returns-in-Some-place_of : goal.returns-in-Some-place_of
returns-in-Some-place_of c = sym (any_in_front (same_form c.args.row.now) c.args.hyps.now _ _ _ c.split_at.ensures.front (sym (c.in-Some-place_of.ensures {u = tt})))

pub returns : goal.returns
returns c =
    sym (any_nowhere (same_form c.args.row.now) c.args.hyps.now _ _ _ c.split_at.ensures.front c.split_at.ensures.back
    (sym (c.in_default-place_of.ensures {u = tt})) (sym (c.in_default.ensures {u = tt})))
