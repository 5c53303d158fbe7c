use Rattle.std.proofs.Common.{◌∙◌, ap}
use Rattle.xan_lin.specs.Linear.{all_within}
use Rattle.xan_lin.proofs.TermSums.{rises_as, IsRising-sum, IsRising-negated, all_within-negated}
use Rattle.xan_lin.proofs.form.Form.sub.Goals as goal

pub merged-terms-requires-clause-right_rises : goal.merged-terms-requires-clause-right_rises
merged-terms-requires-clause-right_rises c =
    rises_as 0 _ _ (c.as_slice-3.ensures.value ∙ c.negated-turned.ensures)
    (IsRising-negated 0 _ (rises_as 0 _ _ c.as_slice.ensures.value c.other.invariant.rising))

pub merged-terms-requires-clause-right_small : goal.merged-terms-requires-clause-right_small
merged-terms-requires-clause-right_small c =
    ap all_within (c.as_slice-3.ensures.value ∙ c.negated-turned.ensures) ∙ all_within-negated c.as_slice.result.now ∙ ap all_within c.as_slice.ensures.value ∙ c.other.invariant.small

pub sized_form-requires : goal.sized_form-requires
sized_form-requires c =
    rises_as 0 _ _ (c.as_slice-4.ensures.value ∙ c.merged-terms.ensures)
    (IsRising-sum 0 _ _ (rises_as 0 _ _ c.as_slice-2.ensures.value c.self.invariant.rising)
    (rises_as 0 _ _ (c.as_slice-3.ensures.value ∙ c.negated-turned.ensures)
    (IsRising-negated 0 _ (rises_as 0 _ _ c.as_slice.ensures.value c.other.invariant.rising))))
