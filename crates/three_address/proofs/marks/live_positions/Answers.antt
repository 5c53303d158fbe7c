use Rattle.three_address.proofs.MarksMade.{pass_justified, pass_smaller, pass_settles}
use Rattle.three_address.proofs.marks.live_positions.Goals as goal

pub passes-smaller : goal.passes-smaller
passes-smaller c = pass_smaller _ _ _ _ _ c.passes.invariant c.pass.ensures.exact c.passes-test.true

pub passes-preserved : goal.passes-preserved
passes-preserved c = pass_justified _ _ _ _ _ c.passes.invariant c.pass.ensures.exact

pub returns : goal.returns
returns c = pass_settles _ _ _ _ _ c.passes.invariant c.pass.ensures.exact c.passes-test.false
