use Rattle.std.proofs.Common.{sym, arith}
use Rattle.std.proofs.lemmas.List.{length-take-le}
use Rattle.proof_lines.proofs.cells.has_no_variable.Goals as goal

pub slice_bounds-iter-end : goal.slice_bounds-iter-end
slice_bounds-iter-end c = sym (length-take-le 64 c.args.row.now (omega arith))
