use Rattle.std.proofs.Common.{◌≡◌, ◌≤◌, ◌+◌, length, [], ◌∷◌}
use Rattle.state_types.specs.Tables.{int_cell, bool_cell}
use Rattle.typed_core.specs.Headers.{closed_types}
use Rattle.header_elaborator.proofs.headers.table_of.Given as goal

abbrev pub invariant-loop-packings : goal.invariant-loop-packings
invariant-loop-packings l = (closed_types l.packings l.table ≡ closed_types l.fn.packings (int_cell ∷ bool_cell ∷ [])) × (length l.table + length l.packings ≤ 1026)

abbrev pub decreases-loop-packings : goal.decreases-loop-packings
decreases-loop-packings l = length l.packings
