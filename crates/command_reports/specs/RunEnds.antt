-- What is said of the end of a run of a source: a status, and a line.
use Rattle.std.specs.Prelude.{ℕ, List, codes}
use Rattle.xan_io.specs.Lines.{number_line}
use Rattle.command_reports.specs.Answers.{numbered_line}
use Rattle.command_reports.specs.declared.run_end.RunEnd.{RunEnd}
use Rattle.command_reports.specs.declared.run_end.RunEnd.TheVariants as end

abbrev pub end_status : RunEnd → ℕ
end_status (end.Returned word) = 0
end_status end.ArgCount = 12
end_status (end.ArgKind argument) = 12
end_status (end.ArgIndex argument) = 12
end_status (end.EntryRow row) = 12
end_status end.NoStore = 13
end_status end.Overflow = 14
end_status (end.FuelEnded units) = 15

abbrev pub end_line : RunEnd → List ℕ
end_line (end.Returned word) = number_line word
end_line end.ArgCount = codes "entry: count\n"
end_line (end.ArgKind argument) = numbered_line (codes "entry: kind of argument ") argument
end_line (end.ArgIndex argument) = numbered_line (codes "entry: index of argument ") argument
end_line (end.EntryRow row) = numbered_line (codes "entry: row ") row
end_line end.NoStore = codes "no store\n"
end_line end.Overflow = codes "overflow\n"
end_line (end.FuelEnded units) = numbered_line (codes "fuel ended: ") units
