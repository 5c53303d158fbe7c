-- What an answer to some bytes says of them, where programs are read.
use Rattle.std.specs.Prelude.{ℕ, ◌-◌, List}
use Rattle.dtal_code.specs.declared.program.DtalProgram.{DtalProgram}
use Rattle.dtal_code.specs.Grammar.{Spells}
use Rattle.xan_read.specs.Reader.{IsLongest}
use Rattle.xan_read.specs.declared.fault.ReadError.{ReadError}
use Rattle.xan_read.specs.declared.fault.ReadError.TheVariants as reading
use Rattle.dtal_text.specs.declared.text_error.TextError.{TextError}
use Rattle.dtal_text.specs.declared.text_error.TextError.TheVariants as error

abbrev pub IsSpelled : DtalProgram → List ℕ → Type 0
IsSpelled program bytes = Spells bytes program

-- A fault says that the bytes spell no program, and how many of them begin the text of one; memory may run out at any time.
abbrev pub Refuses : TextError → List ℕ → Type 0
Refuses (error.Fault at) bytes = IsLongest IsSpelled bytes at
Refuses error.Memory bytes = Unit {0}

-- what is told where bytes of a length were not read
abbrev pub told_of : ReadError → ℕ → TextError
told_of (reading.Fault fault) size = error.Fault (size - fault.left)
told_of reading.Memory size = error.Memory
