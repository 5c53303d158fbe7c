-- How far the bytes of a source come: they are refused for one thing, or have a core whose goals are proved, and then a program.
--
-- A source is looked at in this order: its length, its tokens, how deep its brackets nest, its tree, its shape, the limits of its core, its
-- goals.
use Rattle.std.specs.Prelude.{◌≡◌, ℕ, ◌≤◌, ◌<◌, List, length, Some, None, Result, Ok, Err}
use Rattle.xanadu_lexer.specs.declared.error.LexError.TheVariants as lex_error
use Rattle.xanadu_lexer.specs.declared.error.LexKind.{LexKind}
use Rattle.xanadu_lexer.specs.declared.token.Token.{Token}
use Rattle.xanadu_lexer.specs.Lexing.{lexed}
use Rattle.xanadu_parser.specs.Faults.{IsFault}
use Rattle.xanadu_parser.specs.Kinds.{kinds_of}
use Rattle.xanadu_tree.specs.Nesting.{IsTooNested}
use Rattle.xanadu_tree.specs.Plain as plain
use Rattle.xanadu_tree.specs.PlainTree as tree
use Rattle.xanadu_tree.specs.Written.{Parses}
use Rattle.type_shapes.specs.declared.error.ShapeKind.{ShapeKind}
use Rattle.type_shapes.specs.Faults.{Fault}
use Rattle.scope_shapes.specs.Shape.{shape}
use Rattle.xan_lin.specs.declared.term.LimitKind.{LimitKind}
use Rattle.xan_lin.specs.declared.term.LimitKind.TheVariants as limit
use Rattle.typed_core.specs.Goals.{Elaboration, elaborated}
use Rattle.typed_core.specs.Limits.{Past, most}
use Rattle.typed_core.specs.declared.goal.GoalAt.{GoalAt}
use Rattle.goal_table.specs.Unproved.{Failure, first_unproved}
use Rattle.run_options.specs.declared.options.Limits.{Limits}
use Rattle.source_runs.specs.Runs.{FindsRun}
use Rattle.xan_io.specs.declared.arg.Arg.{Arg}
use Rattle.program_builder.specs.Counts.{size_of}
use Rattle.command_reports.specs.Report.{Found}
use Rattle.command_reports.specs.declared.answer.Counts.{Counts}
use Rattle.command_reports.specs.declared.refusal.Refusal.{Refusal}
use Rattle.command_reports.specs.declared.refusal.Refusal.TheVariants as refusal
use Rattle.command_reports.specs.declared.refusal.SourceError.{SourceError}
use Rattle.command_reports.specs.declared.refusal.SourceError.TheVariants as error

-- ---- how far a source comes

-- how many bytes a source may have
abbrev pub source_most : ℕ
source_most = most limit.Length

-- it is short enough, and has these tokens
pub record HasTokens (bytes : List ℕ) (tokens : List Token) : Type 0 where
  pub short : length bytes ≤ source_most
  pub lexed : lexed bytes ≡ Ok tokens

-- its brackets do not nest too deep, and its tokens spell this tree
pub record HasTree (bytes : List ℕ) (written : tree.Tree) : Type 0 where
  pub tokens : List Token
  pub has : HasTokens bytes tokens
  pub shallow : IsTooNested (kinds_of tokens) → ⊥
  pub parses : Parses tokens (length bytes) written

-- its tree has this core
pub record IsCore (bytes : List ℕ) (core : plain.Program) : Type 0 where
  pub written : tree.Tree
  pub has : HasTree bytes written
  pub shaped : shape written (length bytes) ≡ Ok core

-- its core passes no limit, and elaboration makes this of it
pub record IsElaborated (bytes : List ℕ) (core : plain.Program) (made : Elaboration) : Type 0 where
  pub has : IsCore bytes core
  pub elaborated : elaborated core ≡ Ok made

-- its goals are these
pub record HasGoals (bytes : List ℕ) (goals : List GoalAt) : Type 0 where
  pub core : plain.Program
  pub made : Elaboration
  pub has : IsElaborated bytes core made
  pub are : goals ≡ made.goals

-- all its goals are proved
pub record IsProved (bytes : List ℕ) (core : plain.Program) (made : Elaboration) : Type 0 where
  pub has : IsElaborated bytes core made
  pub proved : first_unproved made.goals ≡ None

-- how many functions and goals a core has, and how many instructions its program
abbrev pub counts_of : plain.Program → Elaboration → Counts
counts_of core made = record { functions = length core.funs; goals = length made.goals; instructions = size_of core made }

-- its goals are proved, and it has so many of each
pub record IsBuildable (bytes : List ℕ) (counts : Counts) : Type 0 where
  pub core : plain.Program
  pub made : Elaboration
  pub has : IsProved bytes core made
  pub counted : counts ≡ counts_of core made

-- its goals are proved, and this is found of the run of its core within limits on arguments
pub record HasRun (bytes : List ℕ) (limits : Limits) (args : List Arg) (found : Found) : Type 0 where
  pub core : plain.Program
  pub made : Elaboration
  pub has : IsProved bytes core made
  pub finds : FindsRun core limits args found

-- ---- why it comes no further

-- this is the place of the first byte at which no token begins, or where digits begin that are no number
pub record IsBytesFault (bytes : List ℕ) (at : ℕ) : Type 0 where
  pub short : length bytes ≤ source_most
  pub kind : LexKind
  pub fault : lexed bytes ≡ Err (lex_error.Fault at kind)

-- too many brackets are open at one of its tokens
pub record IsNestedSource (bytes : List ℕ) : Type 0 where
  pub tokens : List Token
  pub has : HasTokens bytes tokens
  pub deep : IsTooNested (kinds_of tokens)

-- the tokens before this place begin a program, and with the one that stands there they begin none
pub record IsParseFault (bytes : List ℕ) (at : ℕ) : Type 0 where
  pub tokens : List Token
  pub has : HasTokens bytes tokens
  pub shallow : IsTooNested (kinds_of tokens) → ⊥
  pub fault : IsFault tokens (length bytes) at

-- the first fault of its shape
pub record IsShapeFault (bytes : List ℕ) (kind : ShapeKind) (at : ℕ) : Type 0 where
  pub written : tree.Tree
  pub has : HasTree bytes written
  pub fault : ◌≡◌ {A = Result plain.Program Fault} (shape written (length bytes)) (Err (record { at = at; kind = kind }))

-- the first limit that its core passes
pub record IsPastLimit (bytes : List ℕ) (kind : LimitKind) : Type 0 where
  pub core : plain.Program
  pub has : IsCore bytes core
  pub past : elaborated core ≡ Err (Past kind)

-- the first of its goals that is not proved
pub record IsUnproved (bytes : List ℕ) (failure : Failure) : Type 0 where
  pub core : plain.Program
  pub made : Elaboration
  pub has : IsElaborated bytes core made
  pub first : first_unproved made.goals ≡ Some failure

-- The source is refused for this. It is refused for one thing at most, and then its goals are not all proved.
abbrev pub IsRefused : List ℕ → Refusal → Type 0
IsRefused bytes refusal.Length = source_most < length bytes
IsRefused bytes (refusal.Bytes at) = IsBytesFault bytes at
IsRefused bytes refusal.Nesting = IsNestedSource bytes
IsRefused bytes (refusal.Parse at) = IsParseFault bytes at
IsRefused bytes (refusal.Shape kind at) = IsShapeFault bytes kind at
IsRefused bytes (refusal.Past kind) = IsPastLimit bytes kind
IsRefused bytes (refusal.Goal number at row answer) = IsUnproved bytes (record { number = number; at = at; row = row; answer = answer })

-- a source of which nothing came: it is refused, or memory ran out
abbrev pub Stops : List ℕ → SourceError → Type 0
Stops bytes (error.Refused refusal) = IsRefused bytes refusal
Stops bytes error.Memory = Unit {0}

-- in front of all goals
abbrev pub IsEarly : Refusal → Type 0
IsEarly (refusal.Goal number at row answer) = ⊥
IsEarly _ = Unit {0}

abbrev pub ComesEarly : SourceError → Type 0
ComesEarly (error.Refused refusal) = IsEarly refusal
ComesEarly error.Memory = Unit {0}

-- one of these goals is the first that is not proved, or memory ran out
abbrev pub FailsGoals : List GoalAt → SourceError → Type 0
FailsGoals goals (error.Refused (refusal.Goal number at row answer)) =
    first_unproved goals ≡ Some (record { number = number; at = at; row = row; answer = answer })
FailsGoals goals (error.Refused _) = ⊥
FailsGoals goals error.Memory = Unit {0}

-- What becomes of a source where memory suffices: a program, of so many functions, goals and instructions, or what it is refused for.
abbrev pub HasFate : List ℕ → Result Counts SourceError → Type 0
HasFate bytes (Ok counts) = IsBuildable bytes counts
HasFate bytes (Err (error.Refused refusal)) = IsRefused bytes refusal
HasFate bytes (Err error.Memory) = ⊥
