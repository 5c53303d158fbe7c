use Rattle.std.proofs.Common.{ap, length, arith, subst}
use Rattle.xan_lin.specs.Terms.{IsRising}
use Rattle.xan_lin.specs.Linear.{is_within, all_within}
use Rattle.proof_lines.specs.Spelling.{AreVariables}
use Rattle.proof_lines.proofs.Proper.{both}
use Rattle.proof_lines.proofs.told.tell_form.Goals as goal

pub returns : goal.returns
returns c =
    let parts = both (all_within c.args.form.now.terms) (is_within c.args.form.now.constant) c.terms-terms.ensures.small in (
      record {
        rising = subst (IsRising 0) c.terms-terms.ensures.terms c.terms-terms.ensures.rising;
        few = omega (arith, c.terms-terms.ensures.few, ap length c.terms-terms.ensures.terms);
        small = parts.0;
        small_constant = parts.1;
      },
      subst AreVariables c.terms-terms.ensures.terms c.tell_variables.ensures,
    )
