use Rattle.std.proofs.Common.{sym}
use Rattle.lowering.proofs.NumbersMade.{number_found}
use Rattle.lowering.proofs.numbering.number_at.Goals as goal

pub returns : goal.returns
returns c = number_found c.args.labels.now c.args.table.now c.args.at c.in-Some.number c.requires (sym c.in-Some.ensures) c.if-number-eq0.false
