-- The items so far, and those that are still to be read, are all the items.
use Rattle.std.proofs.Common.{◌≡◌, ◌+◌, ◌-◌, length}
use Rattle.xan_read.specs.Lists.{onto}
use Rattle.dtal_text.specs.Chains.{chain_from, chain}
use Rattle.dtal_text.proofs.chain.read_onto.Given as goal

abbrev pub invariant-items : goal.invariant-items
invariant-items g l = onto l.items.items (chain_from (g.C.Chained.reader l.fn.chained) (g.C.Chained.behind l.fn.chained) (1 + (length l.fn.bytes - l.counter)) l.state l.rest)
    ≡ onto l.fn.made.items (chain (g.C.Chained.reader l.fn.chained) (g.C.Chained.behind l.fn.chained) l.fn.first l.fn.bytes)
