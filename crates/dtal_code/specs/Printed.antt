-- What the printer asks of a block.
use Rattle.std.specs.List.{All}
use Rattle.dtal_code.specs.declared.program.Block.{Block}
use Rattle.dtal_code.specs.Grammar.{IsInstr}

-- its instructions have a text
abbrev pub CodeFits : Block → Type 0
CodeFits block = All IsInstr block.code
