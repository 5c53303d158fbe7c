-- What the errors of the passes are answered with.
use Rattle.xan_io.specs.declared.files.FileFault.{FileFault}
use Rattle.xan_io.specs.declared.files.FileFault.TheVariants as file_fault
use Rattle.dtal_text.specs.declared.text_error.TextError.{TextError}
use Rattle.dtal_text.specs.declared.text_error.TextError.TheVariants as text_error
use Rattle.dtal_verifier.specs.declared.error.VerifyError.{VerifyError}
use Rattle.dtal_verifier.specs.declared.error.VerifyError.TheVariants as verify_error
use Rattle.dtal_machine.specs.declared.loading.LoadError.{LoadError}
use Rattle.dtal_machine.specs.declared.loading.LoadError.TheVariants as load_error
use Rattle.dtal_driver.specs.declared.answer.Answer.{Answer}
use Rattle.dtal_driver.specs.declared.answer.Answer.TheVariants as answer

abbrev pub of_read : FileFault → Answer
of_read file_fault.Failed = answer.ReadFailed
of_read file_fault.Memory = answer.Memory

abbrev pub of_program : TextError → Answer
of_program (text_error.Fault at) = answer.NoProgram at
of_program text_error.Memory = answer.Memory

abbrev pub of_verdict : VerifyError → Answer
of_verdict (verify_error.Refused at rule) = answer.Refused at rule
of_verdict verify_error.Memory = answer.Memory

abbrev pub of_load : LoadError → Answer
of_load load_error.ArgCount = answer.ArgCount
of_load (load_error.ArgKind argument) = answer.ArgKind argument
of_load (load_error.ArgIndex argument) = answer.ArgIndex argument
of_load (load_error.EntryRow row) = answer.EntryRow row
of_load load_error.NoStore = answer.NoStore
of_load load_error.Memory = answer.Memory
