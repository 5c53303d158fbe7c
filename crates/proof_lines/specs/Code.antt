-- What contracts see of a result of the code.
use Rattle.std.specs.Prelude.{ℤ, List, Result, Ok, Err}
use Rattle.proof_lines.specs.declared.bad_line.Why.{Why}

-- the cells that were written, or the reason why not
abbrev pub cells_in : Result (Unit {0}) Why → List ℤ → Result (List ℤ) Why
cells_in (Ok _) cells = Ok cells
cells_in (Err reason) cells = Err reason
