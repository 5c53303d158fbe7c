use Rattle.std.proofs.Common.{◌∙◌, arith}
use Rattle.xan_lin.proofs.TermSums.{rises_as, IsRising-negated}
use Rattle.xan_lin.proofs.FormSizes.{few_errors}
use Rattle.xan_lin.proofs.form.Form.negated_row.Goals as goal

pub sized_form-requires : goal.sized_form-requires
sized_form-requires c =
    rises_as 0 _ _ (c.as_slice-2.ensures.value ∙ c.negated-terms.ensures)
    (IsRising-negated 0 _ (rises_as 0 _ _ c.as_slice.ensures.value c.self.invariant.rising))

pub returns-clause-large : goal.returns-clause-large
returns-clause-large c = few_errors _ _ _ (omega (arith, c.as_slice-2.ensures.fits)) c.sized_form.ensures
