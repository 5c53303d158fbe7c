use Rattle.std.proofs.Common.{◌∙◌, ◌+ℤ◌, ap, rules, w64, to_z, of_z, FitsSigned}
use Rattle.std.proofs.lemmas.Int.{to_z-of_z}
use Rattle.xan_lin.specs.Linear.{sized, form_of}
use Rattle.xan_lin.specs.Subst.{replaced_terms, replaced_constant, subst_of}
use Rattle.xan_lin.specs.Wide.{whole}
use Rattle.xan_lin.proofs.CollectedTerms.{sized-cut_constant}
use Rattle.xan_lin.proofs.form.Form.subst.Goals as goal

pub returns : goal.returns
returns c =
    let values = c.args.values.now in
    let below = c.args.below in
    let made = c.replaced_sum-terms.result.items in
    let constant = whole c.constant_after-constant.result in
    let fits : FitsSigned w64 c.cut_wide.result = search rules in
    let terms_are = ap (λ ts. replaced_terms values below ts) c.as_slice.ensures.value in
    let constant_is = c.constant_after-constant.ensures.exact ∙ ap (λ ts. replaced_constant values below ts +ℤ c.self.inside.constant) c.as_slice-2.ensures.value in
    c.sized_form.ensures
    ∙ ap (λ ts. sized ts (to_z w64 (of_z w64 c.cut_wide.result))) c.as_slice-3.ensures.value
    ∙ ap (λ n. sized made n) (to_z-of_z w64 c.cut_wide.result fits ∙ c.cut_wide.ensures)
    ∙ sized-cut_constant made constant
    ∙ c.replaced_sum-terms.ensures.same constant
    ∙ ap (λ ts. form_of ts constant) terms_are
    ∙ ap (λ n. form_of (replaced_terms values below c.self.inside.terms.items) n) constant_is
    ∙ ap (λ form. subst_of values below form) c.self.view_is
