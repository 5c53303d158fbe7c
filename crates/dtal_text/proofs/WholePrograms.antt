-- What an answer to some bytes says of them.
use Rattle.std.proofs.Common.{◌≡◌, ℕ, List, length, Ok, sym, subst}
use Rattle.xan_read.specs.Reader.{whole_text}
use Rattle.xan_read.specs.Code.{Fails}
use Rattle.xan_read.specs.declared.fault.ReadError.{ReadError}
use Rattle.xan_read.specs.declared.fault.ReadError.TheVariants as reading
use Rattle.dtal_code.specs.declared.program.DtalProgram.{DtalProgram}
use Rattle.dtal_code.specs.Grammar.{Spells}
use Rattle.dtal_text.specs.declared.text_error.TextError.{TextError}
use Rattle.dtal_text.specs.ProgramReading.{program}
use Rattle.dtal_text.specs.WholeText.{Refuses, told_of}
use Rattle.dtal_text.proofs.ProgramTexts.{program_is_read}

pub reads_program : (bytes : List ℕ) (p : DtalProgram) → whole_text program bytes ≡ Ok p → Spells bytes p
reads_program bytes p e = program_is_read.found bytes p e

pub refuses_bytes : (bytes : List ℕ) (e : ReadError) (told : TextError) → told ≡ told_of e (length bytes) → Fails e (whole_text program bytes) → Refuses told bytes
refuses_bytes bytes (reading.Fault fault) told same f = subst (λ (t : TextError). Refuses t bytes) (sym same) (program_is_read.fault bytes fault.left f)
refuses_bytes bytes reading.Memory told same f = subst (λ (t : TextError). Refuses t bytes) (sym same) tt
