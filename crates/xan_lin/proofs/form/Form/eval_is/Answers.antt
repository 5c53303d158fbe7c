use Rattle.std.proofs.Common.{◌∙◌, ◌-ℤ◌, ◌+ℤ◌, ap, w64}
use Rattle.std.proofs.lemmas.Int.{to_z-of_z}
use Rattle.xan_lin.specs.Value.{value_of, value_of_terms}
use Rattle.xan_lin.specs.Wide.{whole}
use Rattle.xan_lin.proofs.TermValues.{is_the_word}
use Rattle.xan_lin.proofs.form.Form.eval_is.Goals as goal

pub returns : goal.returns
returns c =
    let word_is = to_z-of_z w64 c.args.word c.ranges.word in
    is_the_word c.is_zero.result (value_of c.args.values.now c.args.self.now) (whole c.value_of_all-value.result) (whole c.less_word.result) c.args.word
    (c.value_of_all-value.ensures.exact
    ∙ ap (λ ts. value_of_terms c.args.values.now ts +ℤ c.self.inside.constant) c.as_slice.ensures.value
    ∙ ap (λ form. value_of c.args.values.now form) c.self.view_is)
    (c.less_word.ensures.exact ∙ ap (λ n. whole c.value_of_all-value.result -ℤ n) word_is)
    c.is_zero.ensures
