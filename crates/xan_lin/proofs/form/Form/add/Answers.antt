use Rattle.std.proofs.Common.{◌∙◌}
use Rattle.xan_lin.proofs.TermSums.{rises_as, IsRising-sum}
use Rattle.xan_lin.proofs.form.Form.add.Goals as goal

pub sized_form-requires : goal.sized_form-requires
sized_form-requires c =
    rises_as 0 _ _ (c.as_slice-3.ensures.value ∙ c.merged-terms.ensures)
    (IsRising-sum 0 _ _ (rises_as 0 _ _ c.as_slice.ensures.value c.self.invariant.rising) (rises_as 0 _ _ c.as_slice-2.ensures.value c.other.invariant.rising))
