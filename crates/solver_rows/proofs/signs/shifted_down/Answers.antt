use Rattle.std.proofs.Common.{◌%◌, ap, shr-shr}
use Rattle.solver_rows.proofs.signs.shifted_down.Goals as goal

pub returns : goal.returns
returns c k = ap (λ x. x % 2) (shr-shr c.args.columns c.args.by k)
