-- What is left of a block marks as all of it does.
use Rattle.std.proofs.Common.{◌≡◌, drop}
use Rattle.typed_core.specs.Joins.{changes_any}
use Rattle.xanadu_tree.specs.PlainOf.{plain_block}
use Rattle.join_elaborator.specs.Changed.{marked}
use Rattle.join_elaborator.proofs.changes.+marks.Given as goal

abbrev pub invariant-mark_block-loop-statement : goal.invariant-mark_block-loop-statement
invariant-mark_block-loop-statement l = marked (changes_any (plain_block (drop l.statement-index l.block))) 0 l.marks ≡ marked (changes_any (plain_block l.fn.block)) 0 l.fn.marks
