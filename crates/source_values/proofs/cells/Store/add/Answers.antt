use Rattle.std.proofs.Common.{length, rules}
use Rattle.source_values.proofs.WrittenCells.{added}
use Rattle.source_values.proofs.cells.Store.add.Goals as goal

pub invariant_of-self-2 : goal.invariant_of-self-2
invariant_of-self-2 c =
    added c.self.inside.blocks.items c.push.new.self.items c.args.block c.self.inside.used c.self.inside.heap (length c.cells.result.now) (search rules)
    c.self.invariant.0 (search rules) (search (rules, c.requires)) c.self.invariant.2
