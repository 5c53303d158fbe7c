use Rattle.std.proofs.Common.{sym, ◌∙◌, subst}
use Rattle.xanadu_driver.specs.Source.{IsRefused}
use Rattle.xanadu_driver.proofs.WholeSources.{whole_is, whole_read}
use Rattle.xanadu_driver.proofs.build.build.Goals as goal

pub returns-in-Ok-Whole-clause-refused : goal.returns-in-Ok-Whole-clause-refused
returns-in-Ok-Whole-clause-refused g c = λ refusal is told here.
    subst (λ bytes. IsRefused bytes refusal)
    (sym (whole_is _ told _ here (whole_read _ c.most.result _ _ c.in-Ok-Whole.field-0-is c.in-Ok-Whole.ensures.read) ∙ sym c.as_slice.ensures.value))
    (c.build_bytes.ensures.refused refusal is)
