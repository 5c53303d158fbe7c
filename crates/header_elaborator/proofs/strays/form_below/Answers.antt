use Rattle.header_elaborator.proofs.StrayTests.{same_below}
use Rattle.header_elaborator.proofs.strays.form_below.Goals as goal

pub returns : goal.returns
returns c = same_below c.names_below.result c.args.vars c.args.form.now c.names_below.ensures
