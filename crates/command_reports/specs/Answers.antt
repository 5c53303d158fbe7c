-- What each answer of the program says: a status, and a line on the output.
use Rattle.std.specs.Prelude.{ℕ, suc, List, ◌++◌, codes, decimal}
use Rattle.type_shapes.specs.declared.error.ShapeKind.{ShapeKind}
use Rattle.type_shapes.specs.Faults.{kind_number}
use Rattle.xan_lin.specs.Linear.{Linear}
use Rattle.xan_lin.specs.Text.{form_text}
use Rattle.xan_lin.specs.declared.term.LimitKind.{LimitKind}
use Rattle.xan_lin.specs.declared.term.LimitKind.TheVariants as limit
use Rattle.typed_core.specs.Limits.{most}
use Rattle.linear_solver.specs.declared.answer.Answer.{Answer as Found}
use Rattle.linear_solver.specs.declared.answer.Answer.TheVariants as found
use Rattle.command_reports.specs.declared.answer.Answer.{Answer}
use Rattle.command_reports.specs.declared.answer.Counts.{Counts}
use Rattle.command_reports.specs.declared.answer.Answer.TheVariants.{Built, NoCommand, ReadFailed, WriteFailed, Memory, Refused}
use Rattle.command_reports.specs.declared.refusal.Refusal.{Refusal}
use Rattle.command_reports.specs.declared.refusal.Refusal.TheVariants as refusal

-- ---- statuses

-- of a goal with this answer
abbrev pub found_status : Found → ℕ
found_status found.Proved = 0
found_status found.Unproved = 10
found_status (found.Limit _) = 5

abbrev pub refusal_status : Refusal → ℕ
refusal_status refusal.Length = 5
refusal_status (refusal.Bytes _) = 7
refusal_status refusal.Nesting = 5
refusal_status (refusal.Parse _) = 8
refusal_status (refusal.Shape _ _) = 9
refusal_status (refusal.Past _) = 5
refusal_status (refusal.Goal _ _ _ answer) = found_status answer

abbrev pub status_of : Answer → ℕ
status_of (Built _) = 0
status_of NoCommand = 2
status_of ReadFailed = 3
status_of WriteFailed = 4
status_of Memory = 6
status_of (Refused refusal) = refusal_status refusal

-- ---- lines

-- a word and a number
abbrev pub numbered : List ℕ → ℕ → List ℕ
numbered word number = word ++ decimal number

-- a word, a number and the end of the line
abbrev pub numbered_line : List ℕ → ℕ → List ℕ
numbered_line word number = numbered word number ++ codes "\n"

abbrev pub shape_line : ShapeKind → ℕ → List ℕ
shape_line kind at = numbered (codes "shape ") (kind_number kind) ++ numbered_line (codes ": at ") at

-- what there may not be too many of
abbrev pub limit_word : LimitKind → List ℕ
limit_word limit.Length = codes "length "
limit_word limit.Nesting = codes "nesting "
limit_word limit.Functions = codes "functions "
limit_word limit.Types = codes "types "
limit_word limit.Parameters = codes "parameters "
limit_word limit.Variables = codes "variables "
limit_word limit.Rows = codes "rows "
limit_word limit.Terms = codes "terms "
limit_word limit.Magnitude = codes "magnitude "
limit_word limit.Places = codes "places "
limit_word limit.Cone = codes "cone "
limit_word limit.System = codes "system "

-- a limit, and how much it allows
abbrev pub limit_text : LimitKind → List ℕ
limit_text kind = numbered (limit_word kind) (most kind)

abbrev pub limit_line : LimitKind → List ℕ
limit_line kind = codes "limit: " ++ limit_text kind ++ codes "\n"

-- what is said of a goal with this answer, to the end of the line
abbrev pub verdict : Found → List ℕ
verdict found.Proved = codes "proved\n"
verdict found.Unproved = codes "not proved\n"
verdict (found.Limit kind) = codes "limit " ++ limit_text kind ++ codes "\n"

-- the number of a goal before which so many stand, and its place
abbrev pub place_text : (number at : ℕ) → List ℕ
place_text number at = numbered (codes "goal ") (suc number) ++ numbered (codes ": at ") at

abbrev pub goal_line : (number at : ℕ) → Linear → Found → List ℕ
goal_line number at row answer = place_text number at ++ (codes ": " ++ form_text row ++ codes " >= 0: ") ++ verdict answer

-- the first goal that is not proved: the limit that its elimination met, or the goal
abbrev pub failure_line : (number at : ℕ) → Linear → Found → List ℕ
failure_line number at row (found.Limit kind) = limit_line kind
failure_line number at row answer = goal_line number at row answer

abbrev pub refusal_line : Refusal → List ℕ
refusal_line refusal.Length = limit_line limit.Length
refusal_line (refusal.Bytes at) = numbered_line (codes "bytes: at ") at
refusal_line refusal.Nesting = limit_line limit.Nesting
refusal_line (refusal.Parse at) = numbered_line (codes "parse: at ") at
refusal_line (refusal.Shape kind at) = shape_line kind at
refusal_line (refusal.Past kind) = limit_line kind
refusal_line (refusal.Goal number at row answer) = failure_line number at row answer

abbrev pub built_line : Counts → List ℕ
built_line counts =
    (numbered (codes "built: ") counts.functions ++ numbered (codes " functions, ") counts.goals)
    ++ (numbered (codes " goals, ") counts.instructions ++ codes " instructions\n")

abbrev pub line_of : Answer → List ℕ
line_of (Built counts) = built_line counts
line_of NoCommand = codes "words: not a command\n"
line_of ReadFailed = codes "read: failed\n"
line_of WriteFailed = codes "write: failed\n"
line_of Memory = codes "memory\n"
line_of (Refused refusal) = refusal_line refusal

-- ---- what is left

-- no name changes at this answer
abbrev pub Keeps : Answer → Type 0
Keeps (Built _) = ⊥
Keeps WriteFailed = ⊥
Keeps _ = Unit {0}
