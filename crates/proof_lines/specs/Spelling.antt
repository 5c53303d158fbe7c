-- How lines are spelled, as in `by h +1v1+0;g;c 1 0 1 1`.
use Rattle.std.specs.Prelude.{◌≡◌, ℕ, ◌-◌, ◌≤◌, ℤ, List, [], ◌∷◌, ◌++◌, length, codes, decimal}
use Rattle.std.specs.Fmt.{signed_decimal}
use Rattle.xan_lin.specs.Linear.{IsForm}
use Rattle.xan_lin.specs.Text.{form_text}
use Rattle.xan_lin.specs.declared.term.Term.{Term}
use Rattle.xan_read.specs.Reader.{IsLongest}
use Rattle.xan_read.specs.declared.fault.ReadError.{ReadError}
use Rattle.xan_read.specs.declared.fault.ReadError.TheVariants as reading
use Rattle.xan_read.specs.Integers.{IsFromTo}
use Rattle.proof_lines.specs.declared.line.Line.{Line}
use Rattle.proof_lines.specs.declared.line.Line.TheVariants.{Hyp, Goal, Comb, Cut}
use Rattle.proof_lines.specs.declared.text_error.LineTextError.{LineTextError}
use Rattle.proof_lines.specs.declared.text_error.LineTextError.TheVariants as error

-- a multiplier and its row, and a row and its divisor
abbrev pub spaced_multiple : ℤ → ℕ → List ℕ
spaced_multiple by row = signed_decimal by ++ (codes " " ++ decimal row)

abbrev pub spaced_cut : ℕ → ℤ → List ℕ
spaced_cut row by = decimal row ++ (codes " " ++ signed_decimal by)

-- each multiplier stands before the number of its row
unfoldable pub line_text : Line → List ℕ
line_text (Hyp e) = codes "h " ++ form_text e
line_text Goal = codes "g"
line_text (Comb left_by left right_by right) = codes "c " ++ (spaced_multiple left_by left ++ (codes " " ++ spaced_multiple right_by right))
line_text (Cut row by) = codes "t " ++ spaced_cut row by

-- the lines behind the first one
abbrev pub more_text : List Line → List ℕ
more_text [] = []
more_text (line ∷ lines) = codes ";" ++ (line_text line ++ more_text lines)

abbrev pub lines_text : List Line → List ℕ
lines_text [] = []
lines_text (line ∷ lines) = codes "by " ++ (line_text line ++ more_text lines)

-- ---- which lines have a spelling: their numbers are those of their types

abbrev pub IsRowNumber : ℕ → Type 0
IsRowNumber n = n ≤ 4294967295

abbrev pub IsMultiplier : ℤ → Type 0
IsMultiplier z = IsFromTo 9223372036854775808 9223372036854775807 z

abbrev pub AreVariables : List Term → Type 0
AreVariables [] = Unit {0}
AreVariables (t ∷ ts) = (t.var ≤ 4294967295) × AreVariables ts

abbrev pub IsLine : Line → Type 0
IsLine (Hyp e) = IsForm e × AreVariables e.terms
IsLine Goal = Unit {0}
IsLine (Comb left_by left right_by right) = IsMultiplier left_by × IsRowNumber left × IsMultiplier right_by × IsRowNumber right
IsLine (Cut row by) = IsRowNumber row × IsMultiplier by

abbrev pub AreLines : List Line → Type 0
AreLines [] = Unit {0}
AreLines (line ∷ lines) = IsLine line × AreLines lines

-- the bytes spell the lines: at least one, and at most 4294967295
pub record IsLinesText (lines : List Line) (bytes : List ℕ) : Type 0 where
  pub some : 1 ≤ length lines
  pub few : length lines ≤ 4294967295
  pub are : AreLines lines
  pub is : bytes ≡ lines_text lines

-- what an error says of the bytes: a fault, that they spell no lines, and how many of them begin some
abbrev pub Refuses : LineTextError → List ℕ → Type 0
Refuses (error.Fault at) bytes = IsLongest IsLinesText bytes at
Refuses error.Memory bytes = Unit {0}

-- what is told where bytes of a length were not read
abbrev pub said_of : ReadError → ℕ → LineTextError
said_of (reading.Fault fault) size = error.Fault (size - fault.left)
said_of reading.Memory size = error.Memory
