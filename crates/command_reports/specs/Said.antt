-- How much is said of a report: all of it, or a part where the output failed.
use Rattle.std.specs.Prelude.{◌≡◌, ◌⊎◌, ℕ, List, Option}
use Rattle.std.specs.List.{concat}
use Rattle.std.specs.Io.KnownBytes.{append_known}
use Rattle.xan_io.specs.Faults.{Rose}
use Rattle.xan_io.specs.Written.{AppendsPrefix}
use Rattle.command_reports.specs.Report.{Report}

-- all lines were put, and the status is their own
pub record SaidAll (report : Report) (status faults faults' : ℕ) (out out' : Option (List ℕ)) : Type 0 where
  pub status_is : status ≡ report.status
  pub said : out' ≡ append_known out (concat report.lines)
  pub counted : faults' ≡ faults

-- a part of them was put, and the count of faults rose
pub record SaidPart (report : Report) (status faults faults' : ℕ) (out out' : Option (List ℕ)) : Type 0 where
  pub status_is : status ≡ 4
  pub part : AppendsPrefix out out' (concat report.lines)
  pub rose : Rose faults faults'

abbrev pub Says : Report → (status faults faults' : ℕ) → (out out' : Option (List ℕ)) → Type 0
Says report status faults faults' out out' = SaidAll report status faults faults' out out' ⊎ SaidPart report status faults faults' out out'

-- the status and the lines are those of the report
pub record IsReported (report : Report) (status : ℕ) (out out' : Option (List ℕ)) : Type 0 where
  pub status_is : status ≡ report.status
  pub said : out' ≡ append_known out (concat report.lines)
