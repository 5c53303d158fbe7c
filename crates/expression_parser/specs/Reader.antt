-- Readers of tokens, and families of them.
use Rattle.xanadu_lexer.specs.declared.token.Token.{Token}
use Rattle.xan_read.specs.Reader.{ReadOf, ReaderOf}
use Rattle.xan_read.specs.Symbols.{TableOf}
use Rattle.xan_read.specs.Rooms.{FamilyOf}

-- A value and the tokens behind it, or how many tokens are left at the fault. The token at the fault is the first of these.
abbrev pub Read : Type 0 → Type 0
Read A = ReadOf Token A

abbrev pub Reader : Type 0 → Type 0
Reader A = ReaderOf Token A

-- what each token of some kinds stands for
abbrev pub Table : Type 0 → Type 0
Table A = TableOf Token A

-- by how often expressions and blocks may still nest
abbrev pub Family : Type 0 → Type 0
Family A = FamilyOf Token A
