use Rattle.std.proofs.Common.{sym, ◌∙◌}
use Rattle.type_carrier.proofs.CarriedLoops.{rise_by_test}
use Rattle.type_carrier.proofs.ways.do_rise.Goals as goal

pub returns-clause-rise : goal.returns-clause-rise
returns-clause-rise c = λ e. rise_by_test 0 c.args.values.now (sym c.values_rise.ensures ∙ e)
