-- What is left is added as all are, and it names variables that are present.
use Rattle.std.proofs.Common.{◌≡◌, length}
use Rattle.std.specs.List.{All}
use Rattle.index_sorts.specs.Context.{NamesBelow}
use Rattle.state_types.specs.Unpacking.{with_rows}
use Rattle.typed_core.specs.Limits.{in_context}
use Rattle.constraint_elaborator.proofs.bodies.add_rows.Given as goal

abbrev pub invariant-loop-rows : goal.invariant-loop-rows
invariant-loop-rows l = record {
  same : in_context (with_rows l.ctx l.rows) ≡ in_context (with_rows l.fn.ctx l.fn.rows);
  below : All (NamesBelow l.ctx.vars) l.rows;
}

abbrev pub decreases-loop-rows : goal.decreases-loop-rows
decreases-loop-rows l = length l.rows
