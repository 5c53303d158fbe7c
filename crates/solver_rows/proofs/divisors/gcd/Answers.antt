use Rattle.std.proofs.Common.{sym, ◌∙◌, arith}
use Rattle.solver_rows.proofs.Euclid.{gcd-step, gcd-end}
use Rattle.solver_rows.proofs.divisors.gcd.Goals as goal

pub returns : goal.returns
returns c = sym (gcd-end _ _ (omega arith)) ∙ c.remainders.invariant

pub remainders-preserved : goal.remainders-preserved
remainders-preserved c = sym (gcd-step _ _ (omega arith)) ∙ c.remainders.invariant
