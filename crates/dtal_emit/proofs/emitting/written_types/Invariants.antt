use Rattle.std.proofs.Common.{◌≡◌, ◌++◌, drop}
use Rattle.dtal_emit.proofs.emitting.written_types.Given as goal

abbrev pub invariant-types : goal.invariant-types
invariant-types l = l.types.items ++ drop l.id l.table ≡ drop 2 l.table
