-- How many lines a proof may have so that a text can number them.
use Rattle.std.specs.Prelude.{◌≤◌, List, length}
use Rattle.std.specs.List.{All}
use Rattle.proof_lines.specs.declared.line.Line.{Line}
use Rattle.dtal_code.specs.declared.limits.TheConstants.{LAST_NUMBER}

-- no list has more lines than that
abbrev pub AreNumberable : List (List Line) → Type 0
AreNumberable lists = All (λ lines. length lines ≤ LAST_NUMBER) lists
