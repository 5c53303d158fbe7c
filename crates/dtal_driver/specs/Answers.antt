-- What each answer of the program says: a status, and a line on the output.
use Rattle.std.specs.Prelude.{ℕ, ℤ, List, [], ◌∷◌, ◌++◌, codes, decimal}
use Rattle.dtal_code.specs.declared.refusal.Where.{Where}
use Rattle.dtal_code.specs.declared.refusal.Where.TheVariants as place
use Rattle.dtal_code.specs.declared.refusal.Rule.{Rule}
use Rattle.dtal_code.specs.declared.refusal.Rule.TheVariants as rules
use Rattle.xan_io.specs.Lines.{number_line}
use Rattle.dtal_driver.specs.declared.answer.Answer.{Answer}
use Rattle.dtal_driver.specs.declared.answer.Answer.TheVariants.{NoCommand, ReadFailed, Memory, TooLong, NoProgram, Refused, Accepted, ArgCount, ArgKind, ArgIndex, EntryRow, Returned, NoStore, Overflow, StepsEnded}

abbrev pub status_of : Answer → ℕ
status_of (Accepted _ _) = 0
status_of (Returned _) = 0
status_of NoCommand = 2
status_of ReadFailed = 3
status_of TooLong = 5
status_of Memory = 6
status_of (NoProgram _) = 7
status_of (Refused _ _) = 11
status_of ArgCount = 12
status_of (ArgKind _) = 12
status_of (ArgIndex _) = 12
status_of (EntryRow _) = 12
status_of NoStore = 13
status_of Overflow = 14
status_of (StepsEnded _) = 15

-- ---- lines

-- a word, and a number behind it
abbrev pub numbered : List ℕ → ℕ → List ℕ
numbered word number = word ++ decimal number

abbrev pub numbered_line : List ℕ → ℕ → List ℕ
numbered_line word number = numbered word number ++ codes "\n"

-- a line for each number
abbrev pub number_lines : List ℤ → List ℕ
number_lines [] = []
number_lines (number ∷ numbers) = number_line number ++ number_lines numbers

-- which place it is
abbrev pub where_text : Where → List ℕ
where_text (place.Types type_number) = numbered (codes "type ") type_number
where_text (place.Signature function) = numbered (codes "function ") function
where_text place.Program = codes "program"
where_text (place.Label function label) = numbered (codes "function ") function ++ numbered (codes " label ") label
where_text (place.Instr function instruction) = numbered (codes "function ") function ++ numbered (codes " instruction ") instruction

abbrev pub rule_name : Rule → List ℕ
rule_name rules.Name = codes "name"
rule_name rules.Main = codes "main"
rule_name rules.Target = codes "target"
rule_name rules.NoType = codes "type"
rule_name rules.Place = codes "place"
rule_name rules.Count = codes "count"
rule_name rules.Kind = codes "kind"
rule_name rules.Alone = codes "alone"
rule_name rules.Edge = codes "edge"
rule_name rules.Form = codes "form"
rule_name rules.Size = codes "size"
rule_name rules.Lines = codes "lines"

abbrev pub refused_line : Where → Rule → List ℕ
refused_line at rule = (codes "refused: " ++ where_text at) ++ (codes ": rule " ++ rule_name rule ++ codes "\n")

abbrev pub accepted_line : (functions instructions : ℕ) → List ℕ
accepted_line functions instructions = (numbered (codes "accepted: ") functions ++ numbered (codes " functions, ") instructions) ++ codes " instructions\n"

abbrev pub line_of : Answer → List ℕ
line_of NoCommand = codes "words: not a command\n"
line_of ReadFailed = codes "read: failed\n"
line_of Memory = codes "memory\n"
line_of TooLong = codes "limit: length 1099511627776\n"
line_of (NoProgram at) = numbered_line (codes "text: at ") at
line_of (Refused at rule) = refused_line at rule
line_of (Accepted functions instructions) = accepted_line functions instructions
line_of ArgCount = codes "entry: count\n"
line_of (ArgKind argument) = numbered_line (codes "entry: kind of argument ") argument
line_of (ArgIndex argument) = numbered_line (codes "entry: index of argument ") argument
line_of (EntryRow row) = numbered_line (codes "entry: row ") row
line_of (Returned word) = number_line word
line_of NoStore = codes "no store\n"
line_of Overflow = codes "overflow\n"
line_of (StepsEnded steps) = numbered_line (codes "steps ended: ") steps
