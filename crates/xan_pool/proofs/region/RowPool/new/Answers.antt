use Rattle.xan_pool.proofs.Rows.{no-rows}
use Rattle.xan_pool.proofs.region.RowPool.new.Goals as goal

pub returns : goal.returns
returns c = no-rows c.args.width c.args.rows c.in-Ok.cells.items
