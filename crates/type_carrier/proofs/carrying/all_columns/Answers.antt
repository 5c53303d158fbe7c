use Rattle.std.proofs.Common.{arith}
use Rattle.type_carrier.proofs.CarriedLoops.{columns_turn}
use Rattle.type_carrier.proofs.carrying.all_columns.Goals as goal

pub loop-low-preserved : goal.loop-low-preserved
loop-low-preserved c =
    columns_turn c.args.lows.now c.loop-low.low-index c.low-item.result c.loop-low.made.items c.push.new.self.items c.in_ok-columns.columns.items c.from_vec.result
    (omega (arith, c.loop-low-test.true)) c.low-item.is c.loop-low.invariant c.in_ok-columns.ensures c.from_vec.ensures c.in_ok-push.ensures.items
