use Rattle.std.proofs.Common.{◌≡◌, ◌++◌, map, drop}
use Rattle.dtal_code.specs.Instructions.{resolved}
use Rattle.dtal_code.specs.ObjectCode.{instrs_of}
use Rattle.dtal_code.specs.ObjectWords.{object_words}
use Rattle.dtal_assembler.specs.Labels.{table_target}
use Rattle.dtal_assembler.proofs.assembling.put_blocks.Given as goal

abbrev pub invariant-each : goal.invariant-each
invariant-each l = l.words.items ++ object_words (map (λ i. resolved (table_target l.past l.labels) i.op) (instrs_of (drop l.block-index l.blocks)))
    ≡ l.fn.words.items ++ object_words (map (λ i. resolved (table_target l.past l.labels) i.op) (instrs_of l.blocks))
