use Rattle.std.proofs.Common.{◌∙◌, ap, sym}
use Rattle.xanadu_tree.specs.PlainOf.{plain_block}
use Rattle.join_elaborator.specs.Changed.{changed_by, marked, no_marks}
use Rattle.join_elaborator.proofs.Marks.{branches_marked}
use Rattle.join_elaborator.proofs.changes.marks_of.Goals as goal

pub returns-in-Branches : goal.returns-in-Branches
returns-in-Branches c =
    branches_marked (plain_block c.in-Branches.one.now) (plain_block c.in-Branches.two.now) no_marks c.mark_block-in-Branches.new.marks
    c.mark_block-in-Branches-2.new.marks c.mark_block-in-Branches.ensures c.mark_block-in-Branches-2.ensures
    ∙ ap (λ b. marked (changed_by b) 0 no_marks) (sym c.in-Branches.is)
