use Rattle.std.proofs.Common.{◌≡◌, ◌+◌, ◌++◌, drop, length}
use Rattle.dtal_verifier.specs.Views.{table_with}
use Rattle.dtal_verifier.proofs.types.table_of.Given as goal

abbrev pub invariant-loop-packed : goal.invariant-loop-packed
invariant-loop-packed l = (l.table ++ drop l.packed-index l.types ≡ table_with l.types) × (length l.table ≡ l.packed-index + 2)
