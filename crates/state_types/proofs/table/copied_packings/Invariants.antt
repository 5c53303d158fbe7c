use Rattle.std.proofs.Common.{◌≡◌, take}
use Rattle.state_types.proofs.table.copied_packings.Given as goal

abbrev pub invariant-loop-packed : goal.invariant-loop-packed
invariant-loop-packed l = l.copied.items ≡ take l.packed-index l.types
