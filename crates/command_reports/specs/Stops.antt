-- What the errors of the passes stop a source with.
use Rattle.xanadu_lexer.specs.declared.error.LexError.{LexError}
use Rattle.xanadu_lexer.specs.declared.error.LexError.TheVariants as lex_error
use Rattle.xanadu_parser.specs.declared.error.ParseError.{ParseError}
use Rattle.xanadu_parser.specs.declared.error.ParseError.TheVariants as parse_error
use Rattle.type_shapes.specs.declared.error.ShapeError.{ShapeError}
use Rattle.type_shapes.specs.declared.error.ShapeError.TheVariants as shape_error
use Rattle.constraint_elaborator.specs.declared.error.ElabError.{ElabError}
use Rattle.constraint_elaborator.specs.declared.error.ElabError.TheVariants as elab_error
use Rattle.goal_table.specs.declared.error.GoalError.{GoalError}
use Rattle.goal_table.specs.declared.error.GoalError.TheVariants as goal_error
use Rattle.command_reports.specs.declared.refusal.Refusal.TheVariants as refusal
use Rattle.command_reports.specs.declared.refusal.SourceError.{SourceError}
use Rattle.command_reports.specs.declared.refusal.SourceError.TheVariants as error

abbrev pub of_lexer : LexError → SourceError
of_lexer (lex_error.Fault at kind) = error.Refused (refusal.Bytes at)
of_lexer lex_error.Memory = error.Memory

abbrev pub of_parser : ParseError → SourceError
of_parser parse_error.Nesting = error.Refused refusal.Nesting
of_parser (parse_error.Fault at) = error.Refused (refusal.Parse at)
of_parser parse_error.Memory = error.Memory

abbrev pub of_shapes : ShapeError → SourceError
of_shapes (shape_error.Fault at kind) = error.Refused (refusal.Shape kind at)
of_shapes shape_error.Memory = error.Memory

abbrev pub of_elaborator : ElabError → SourceError
of_elaborator (elab_error.Limit kind) = error.Refused (refusal.Past kind)
of_elaborator elab_error.Memory = error.Memory

abbrev pub of_goals : GoalError → SourceError
of_goals (goal_error.Goal number at row answer) = error.Refused (refusal.Goal number at row answer)
of_goals goal_error.Memory = error.Memory
