use Rattle.std.proofs.Common.{take}
use Rattle.std.specs.List.{AllZip}
use Rattle.three_address.specs.LiveLabels.{AreAllColumns}
use Rattle.type_carrier.proofs.carrying.all_columns.Given as goal

abbrev pub invariant-loop-low : goal.invariant-loop-low
invariant-loop-low l = AllZip AreAllColumns (take l.low-index l.lows) l.made.items
