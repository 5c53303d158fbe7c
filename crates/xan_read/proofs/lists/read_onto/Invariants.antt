-- The items so far, and those that are still to be read, are all the items.
use Rattle.std.proofs.Common.{◌≡◌, ◌-◌}
use Rattle.xan_read.specs.Lists.{repeated, onto}
use Rattle.xan_read.proofs.lists.read_onto.Given as goal

abbrev pub invariant-items : goal.invariant-items
invariant-items g l = onto l.items.items (repeated l.fn.c (l.fn.room - l.counter) (g.P.Production.reader l.fn.item) l.rest)
    ≡ onto l.fn.made.items (repeated l.fn.c l.fn.room (g.P.Production.reader l.fn.item) l.fn.bytes)
