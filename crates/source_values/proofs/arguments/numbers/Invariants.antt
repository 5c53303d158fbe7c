use Rattle.std.proofs.Common.{◌≡◌, map, take}
use Rattle.typed_core.specs.SourceValues.{number}
use Rattle.source_values.proofs.arguments.numbers.Given as goal

abbrev pub invariant-loop-cell : goal.invariant-loop-cell
invariant-loop-cell l = l.made.items ≡ map number (take l.cell-index l.cells)
