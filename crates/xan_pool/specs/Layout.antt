-- How a pool lies in its fields.
use Rattle.std.specs.Prelude.{◌≡◌, ◌*◌, ◌^◌, ◌<◌, ◌≤◌, length, vec_capacity}
use Rattle.xan_pool.specs.Pool.{Pool, rows_of}
use Rattle.xan_pool.specs.declared.region.RowPool.TheInside.{Inside}

-- the live rows lie one after another in the cells
abbrev pub pool_of : Inside → Pool
pool_of pool = record { rows = rows_of pool.live pool.width pool.cells.items; width = pool.width; capacity = pool.capacity }

-- there is room for all rows from the start
pub record IsPool (pool : Inside) : Type 0 where
  pub some_cells : 0 < pool.width
  pub few_cells : pool.width ≤ 128
  pub within : pool.live ≤ pool.capacity
  pub filled : length pool.cells.items ≡ pool.live * pool.width
  pub small : pool.capacity * pool.width < 2 ^ 64
  pub room : pool.capacity * pool.width ≤ vec_capacity pool.cells
