use Rattle.std.proofs.Common.{◌∙◌, ◌==◌, ℕ, ap, arith}
use Rattle.xanadu_tree.specs.declared.types.CoreTy.{CoreTy}
use Rattle.join_elaborator.specs.Changed.{marked}
use Rattle.join_elaborator.proofs.Marks.{next_stated, stated_done}
use Rattle.join_elaborator.proofs.changes.mark_stated.Goals as goal

pub loop-one-preserved : goal.loop-one-preserved
loop-one-preserved c =
    next_stated c.args.stated.now c.loop-one.one-index _ c.one-item.result c.loop-one.marks c.mark.new.marks (omega arith) (omega (arith, c.loop-one-test.true))
    (c.mark.ensures ∙ ap (λ (x : ℕ × CoreTy). marked (λ y. x.0 == y) 0 c.loop-one.marks) c.one-item.is)
    ∙ c.loop-one.invariant

pub returns : goal.returns
returns c = stated_done c.args.stated.now c.loop-one.one-index c.loop-one.marks _ (omega (arith, c.loop-one-test.false)) c.loop-one.invariant
