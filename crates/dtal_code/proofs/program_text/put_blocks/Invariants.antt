use Rattle.std.proofs.Common.{◌≡◌, ◌++◌, drop}
use Rattle.dtal_code.specs.Spelling.{blocks_text}
use Rattle.dtal_code.proofs.program_text.put_blocks.Given as goal

abbrev pub invariant-each : goal.invariant-each
invariant-each l = (l.label ≡ l.block-index) × (l.out.items ++ blocks_text l.label (drop l.block-index l.blocks) ≡ l.initial.out.items ++ blocks_text 0 l.blocks)
