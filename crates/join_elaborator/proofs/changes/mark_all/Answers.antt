use Rattle.std.proofs.Common.{◌∙◌, ◌==◌}
use Rattle.join_elaborator.proofs.Marks.{list_done, list_more}
use Rattle.join_elaborator.proofs.changes.mark_all.Goals as goal

pub loop-xs-preserved : goal.loop-xs-preserved
loop-xs-preserved c = list_more (λ x y. x == y) c.loop-xs.xs.now _ c.loop-xs.marks c.mark.new.marks c.in-len1-up.len_at_least c.mark.ensures ∙ c.loop-xs.invariant

pub returns : goal.returns
returns c = list_done (λ x y. x == y) c.loop-xs.xs.now c.loop-xs.marks _ c.in_default.len_below c.loop-xs.invariant
