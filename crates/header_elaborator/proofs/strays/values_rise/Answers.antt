use Rattle.header_elaborator.proofs.StrayTests.{same_values}
use Rattle.header_elaborator.proofs.strays.values_rise.Goals as goal

pub returns : goal.returns
returns c = same_values c.rise.result c.args.values.now c.rise.ensures
