use Rattle.std.proofs.Common.{◌∙◌, arith}
use Rattle.xan_lin.proofs.MergedTerms.{goes_right, goes_left, goes_both, ends_left, ends_right}
use Rattle.xan_lin.proofs.merge.merged.Goals as goal

pub returns-in_default-later_right : goal.returns-in_default-later_right
returns-in_default-later_right c = c.followed_by.ensures ∙ ends_right _ _ _ _ c.terms.invariant c.in_default-later_right.len_below

pub terms-preserved-then-y-x : goal.terms-preserved-then-y-x
terms-preserved-then-y-x c =
    goes_right _ _ _ _ _ c.terms.invariant c.in-len1-up.len_at_least c.in-len1-up-later_right.len_at_least c.if-y-x.true c.push.ensures.items

pub terms-preserved-then-y-x-2 : goal.terms-preserved-then-y-x-2
terms-preserved-then-y-x-2 c =
    goes_both _ _ _ _ _ c.terms.invariant c.in-len1-up.len_at_least c.in-len1-up-later_right.len_at_least c.if-y-x-2.true c.push_sum.ensures

pub terms-preserved : goal.terms-preserved
terms-preserved c =
    goes_left _ _ _ _ _ c.terms.invariant c.in-len1-up.len_at_least c.in-len1-up-later_right.len_at_least (omega arith) c.push-else-y-x-2.ensures.items

pub returns : goal.returns
returns c = c.followed_by-2.ensures ∙ ends_left _ _ _ _ c.terms.invariant c.in_default.len_below
