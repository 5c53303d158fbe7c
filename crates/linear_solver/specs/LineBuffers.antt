-- What holds of a buffer of lines between two eliminations.
use Rattle.std.specs.Prelude.{◌≡◌}
use Rattle.linear_solver.specs.declared.line_buf.LineBuf.TheInside.{Inside}
use Rattle.linear_solver.specs.Region.{idle}

-- it works on nothing
pub record IsLineBuf (buffer : Inside) : Type 0 where
  pub works : buffer.work ≡ idle
