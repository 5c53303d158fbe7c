-- What holds of a buffer of steps.
use Rattle.std.specs.Prelude.{◌≤◌, length, vec_capacity}
use Rattle.linear_solver.specs.declared.steps.Steps.TheInside.{Inside}

-- it has room for the steps of every elimination, and no more stand
pub record IsBuffer (buffer : Inside) : Type 0 where
  pub room : 257026 ≤ vec_capacity buffer.steps
  pub few : length buffer.steps.items ≤ 257026
  pub room_kept : 257026 ≤ vec_capacity buffer.kept
  pub room_marks : 257026 ≤ vec_capacity buffer.marks
  pub room_numbers : 257026 ≤ vec_capacity buffer.numbers
