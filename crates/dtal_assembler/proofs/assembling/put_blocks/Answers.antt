use Rattle.std.proofs.Common.{◌+◌, ◌∙◌, ◌++◌, ap, map, drop}
use Rattle.dtal_code.specs.Instructions.{resolved}
use Rattle.dtal_code.specs.ObjectWords.{object_words}
use Rattle.dtal_assembler.specs.Labels.{table_target}
use Rattle.dtal_assembler.proofs.WordLists.{item_first, next_block}
use Rattle.dtal_assembler.proofs.assembling.put_blocks.Goals as goal

pub each-preserved : goal.each-preserved
each-preserved c =
    let is = item_first c.args.blocks.now c.each.block-index c.block-item.result c.each-test.true c.block-item.is in
    next_block (λ i. resolved (table_target c.args.past c.args.labels.now) i.op) c.each.words.items c.put_code.new.words.items _ c.block-item.result
    (drop c.each.block-index c.args.blocks.now) (drop (c.each.block-index + 1) c.args.blocks.now) is c.each.invariant
    (c.in_ok-put_code.ensures ∙ ap (λ code. c.each.words.items ++ object_words (map (λ i. resolved (table_target c.args.past c.args.labels.now) i.op) code)) c.as_slice.ensures)
