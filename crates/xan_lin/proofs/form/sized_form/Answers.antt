use Rattle.std.proofs.Common.{sym, arith, w64, FitsSigned, rules}
use Rattle.std.proofs.lemmas.Int.{to_z-of_z}
use Rattle.xan_lin.proofs.FormSizes.{sized-many, sized-large, fits_is}
use Rattle.xan_lin.proofs.form.sized_form.Goals as goal

pub returns-then-terms-gt-MOST_TERMS : goal.returns-then-terms-gt-MOST_TERMS
returns-then-terms-gt-MOST_TERMS c = sym (sized-many _ _ (omega arith))

pub returns-then-not-fits : goal.returns-then-not-fits
returns-then-not-fits c = sym (sized-large c.args.terms.now c.args.constant.now c.if-terms-gt-MOST_TERMS.false (sym (c.if-not-fits.ensures {u = tt})))

pub returns : goal.returns
returns c =
    let f : FitsSigned w64 c.args.constant.now = search rules in
    fits_is _ c.args.terms.now _ c.args.constant.now c.held.ensures (to_z-of_z w64 c.args.constant.now f) c.if-terms-gt-MOST_TERMS.false (sym (c.if-not-fits.ensures {u = tt}))
