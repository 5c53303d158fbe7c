-- What it means that a text is built of a source.
use Rattle.std.specs.Prelude.{◌≡◌, ℕ, List, Option}
use Rattle.xan_io.specs.Contents.{replaced, LeavesPrefix}
use Rattle.dtal_code.specs.declared.program.DtalProgram.{DtalProgram}
use Rattle.dtal_code.specs.Grammar.{Spells}
use Rattle.program_builder.specs.ProgramOf.{IsProgramOf}
use Rattle.typed_core.specs.Goals.{Elaboration}
use Rattle.xanadu_tree.specs.Plain as plain
use Rattle.command_reports.specs.declared.answer.Counts.{Counts}
use Rattle.xanadu_driver.specs.Source.{IsProved, counts_of}

-- The text spells one program, which is accepted, leaves no test but those of the core, and agrees with it for all arguments, all sizes of the
-- store and all depths.
pub record IsTextOf (core : plain.Program) (made : Elaboration) (text : List ℕ) (counts : Counts) : Type 0 where
  pub program : DtalProgram
  pub is : IsProgramOf core made program
  pub spelled : Spells text program
  pub only : (other : DtalProgram) → Spells text other → other ≡ program
  pub counted : counts ≡ counts_of core made

-- The source has a core whose goals are proved, and the text is that of its program, of so many functions, goals and instructions.
pub record Translates (source text : List ℕ) (counts : Counts) : Type 0 where
  pub core : plain.Program
  pub made : Elaboration
  pub proved : IsProved source core made
  pub is : IsTextOf core made text counts

-- the name holds the text of the source
pub record Wrote (source : List ℕ) (counts : Counts) (before after : Option (List ℕ)) : Type 0 where
  pub text : List ℕ
  pub translates : Translates source text counts
  pub holds : after ≡ replaced before text

-- the source has a text, and the name holds what it held or a prefix of that
pub record Cut (source : List ℕ) (before after : Option (List ℕ)) : Type 0 where
  pub text : List ℕ
  pub counts : Counts
  pub translates : Translates source text counts
  pub holds : LeavesPrefix before after text
