use Rattle.std.proofs.Common.{◌∙◌, ◌++◌, ◌+◌, ap, drop}
use Rattle.dtal_code.specs.Grammar.{size_of}
use Rattle.dtal_code.specs.ObjectCode.{function_code}
use Rattle.dtal_code.specs.ObjectWords.{object_words}
use Rattle.dtal_assembler.proofs.WordLists.{item_first, next_function, next_start, next_count}
use Rattle.dtal_assembler.proofs.assembling.put_functions.Goals as goal

pub each-preserved : goal.each-preserved
each-preserved c =
    let later = drop (c.each.fun-index + 1) c.args.funs.now in
    let left = drop c.each.fun-index c.args.funs.now in
    let is = item_first c.args.funs.now c.each.fun-index c.fun-item.result c.each-test.true c.fun-item.is in
    let size-is = c.count_in_blocks-start.ensures ∙ ap size_of c.as_slice-blocks.ensures in
    let step = c.in_ok-put_function.ensures ∙ ap (λ blocks. c.each.words.items ++ object_words (function_code c.args.past c.each.start blocks)) c.as_slice-blocks.ensures in (
      next_count c.each.start c.count_in_blocks-start.result _ c.fun-item.result left later is size-is c.each.invariant.0,
      next_function c.args.past c.each.start c.count_in_blocks-start.result c.each.words.items c.put_function.new.words.items _ c.fun-item.result left later is size-is c.each.invariant.1 step,
      next_start c.each.start c.count_in_blocks-start.result c.each.starts.items c.push.new.self.items _ c.fun-item.result left later is size-is c.each.invariant.2 c.in_ok-push.ensures.items,
    )
