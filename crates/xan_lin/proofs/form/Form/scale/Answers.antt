use Rattle.std.proofs.Common.{◌≡◌, ◌*ℤ◌, sym, ◌∙◌, ap, rules, w64, FitsSigned, to_z, of_z}
use Rattle.std.proofs.lemmas.Int.{to_z-of_z}
use Rattle.xan_lin.specs.Terms.{scaled_terms}
use Rattle.xan_lin.specs.Linear.{Linear, is_within, all_within, product_of}
use Rattle.xan_lin.proofs.ScaledTerms.{constant_large, terms_large, product_fits, product-form}
use Rattle.xan_lin.proofs.form.Form.scale.Goals as goal

pub returns-in_default : goal.returns-in_default
returns-in_default c =
    let by_is : to_z w64 (of_z w64 c.args.by) ≡ c.args.by = to_z-of_z w64 c.args.by c.ranges.by in
    let e : Linear = record { terms = c.self.inside.terms.items; constant = c.self.inside.constant } in
    constant_large e c.args.by c.self.invariant.few (ap (λ n. is_within (c.self.inside.constant *ℤ n)) (sym by_is) ∙ c.in_default.ensures {u = tt})
    ∙ ap (λ seen. product_of seen c.args.by) c.self.view_is

pub returns-in_default-scaled : goal.returns-in_default-scaled
returns-in_default-scaled c =
    let by_is : to_z w64 (of_z w64 c.args.by) ≡ c.args.by = to_z-of_z w64 c.args.by c.ranges.by in
    let e : Linear = record { terms = c.self.inside.terms.items; constant = c.self.inside.constant } in
    terms_large e c.args.by c.self.invariant.few
    (ap (λ n. all_within (scaled_terms c.self.inside.terms.items n)) (sym by_is)
    ∙ ap (λ ts. all_within (scaled_terms ts (to_z w64 (of_z w64 c.args.by)))) (sym c.as_slice.ensures.value)
    ∙ c.in_default-scaled.ensures {u = tt})
    ∙ ap (λ seen. product_of seen c.args.by) c.self.view_is

pub invariant_of-result : goal.invariant_of-result
invariant_of-result c =
    let fits : FitsSigned w64 c.in-Some.constant = search rules in
    let e : Linear = record { terms = c.self.inside.terms.items; constant = c.self.inside.constant } in
    let terms = c.in-Some-scaled.ensures {u = tt} in
    let number = c.in-Some.ensures {u = tt} in
    product-form e (to_z w64 (of_z w64 c.args.by)) _ c.in-Some-scaled.terms.items c.self.invariant
    (terms.0 ∙ ap (λ ts. scaled_terms ts (to_z w64 (of_z w64 c.args.by))) c.as_slice.ensures.value)
    terms.1 (ap is_within (to_z-of_z w64 c.in-Some.constant fits) ∙ number.1)

pub returns : goal.returns
returns c =
    let by_is : to_z w64 (of_z w64 c.args.by) ≡ c.args.by = to_z-of_z w64 c.args.by c.ranges.by in
    let fits : FitsSigned w64 c.in-Some.constant = search rules in
    let constant_is = to_z-of_z w64 c.in-Some.constant fits in
    let e : Linear = record { terms = c.self.inside.terms.items; constant = c.self.inside.constant } in
    let terms = c.in-Some-scaled.ensures {u = tt} in
    let number = c.in-Some.ensures {u = tt} in
    product_fits e c.args.by _ c.in-Some-scaled.terms.items c.self.invariant.few
    (terms.0 ∙ ap (λ ts. scaled_terms ts (to_z w64 (of_z w64 c.args.by))) c.as_slice.ensures.value ∙ ap (λ n. scaled_terms c.self.inside.terms.items n) by_is)
    (constant_is ∙ number.0 ∙ ap (λ n. c.self.inside.constant *ℤ n) by_is)
    terms.1 (ap is_within constant_is ∙ number.1)
    ∙ ap (λ seen. product_of seen c.args.by) c.self.view_is
