use Rattle.std.proofs.Common.{◌∙◌, ap, ◌++◌, ◌∷◌, [], ℤ, length, FitsSigned, w64, rules, length-append, arith}
use Rattle.std.proofs.lemmas.Int.{to_z-of_z}
use Rattle.argument_checks.proofs.ArgumentValues.{next_value}
use Rattle.argument_checks.proofs.faults.variable_values.Goals as goal

pub each-preserved : goal.each-preserved
each-preserved c =
    let value = c.variable_value.result in
    let fits : FitsSigned w64 value = search rules in
    let pushed = c.in_ok-push.ensures.items ∙ ap (λ (x : ℤ). c.each.values.items ++ x ∷ []) (to_z-of_z w64 value fits) in
    record {
      values = next_value c.args.args.now c.args.params.now c.each.values.items c.push.new.self.items _ c.each.var c.args.vars value c.each-test.true c.variable_value.ensures pushed c.each.invariant.values;
      count = (let n = ap length pushed ∙ length-append c.each.values.items (value ∷ []) in omega (arith, n, c.each.invariant.count));
      within = omega arith;
    }
