use Rattle.std.proofs.Common.{rules, ℤ, pos, negsuc, w64, FitsSigned, arith}
use Rattle.proof_lines.specs.Spelling.{IsMultiplier}
use Rattle.proof_lines.proofs.told.tell_multiplier.Goals as goal

multiplier_fits : (z : ℤ) → FitsSigned w64 z → IsMultiplier z
multiplier_fits (pos n) h = omega (arith, h)
multiplier_fits (negsuc n) h = omega (arith, h)

pub returns : goal.returns
returns c =
    let fits : FitsSigned w64 c.args.number.now = search rules in
    multiplier_fits c.args.number.now fits
