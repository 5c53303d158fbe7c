-- What is promised of the program of the assembly language that a core becomes.
use Rattle.std.specs.Prelude.{◌≡◌, length}
use Rattle.xan_io.specs.Agreement.{Agree}
use Rattle.xanadu_tree.specs.Plain as plain
use Rattle.typed_core.specs.Goals.{Elaboration}
use Rattle.typed_core.specs.Meaning.{source_entry}
use Rattle.dtal_code.specs.Acceptance.{Accepted}
use Rattle.dtal_code.specs.Grammar.{InGrammar}
use Rattle.dtal_code.specs.Runs.{program_run}
use Rattle.dtal_code.specs.declared.program.DtalProgram.{DtalProgram}
use Rattle.program_builder.specs.Counts.{branches, tests, instructions, size_of}

pub record IsProgramOf (core : plain.Program) (made : Elaboration) (program : DtalProgram) : Type 0 where
  -- it has a text
  pub grammar : InGrammar program
  -- the verifier takes it
  pub accepted : Accepted program
  -- it does what the source does, both ways
  pub agree : Agree (source_entry core) (program_run program)
  -- no check is left: its conditional branches are the leaves of the tests of `if` and `while`
  pub branches : branches program ≡ tests core
  pub functions : length program.funs ≡ length core.funs
  -- how many instructions it has is a function of the core
  pub size : instructions program ≡ size_of core made
