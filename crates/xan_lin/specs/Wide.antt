-- A number in two halves: a multiple of 2 ^ 64, and the rest.
use Rattle.std.specs.Prelude.{ℕ, ◌^◌, ◌*◌, ◌+◌, ◌<◌, ◌≤◌, ℤ, pos, ◌+ℤ◌, ◌*ℤ◌, unsigned_abs}
use Rattle.xan_lin.specs.declared.wide.Wide.{Wide}

-- the number that the halves make
abbrev pub whole : Wide → ℤ
whole number = (number.high *ℤ pos (2 ^ 64)) +ℤ number.low

-- the halves are no larger than those of a sum of so many products of two words
pub record IsSumOf (count : ℕ) (number : Wide) : Type 0 where
  pub high : unsigned_abs number.high ≤ count * 2 ^ 63
  pub low : unsigned_abs number.low ≤ count * 2 ^ 64

-- there is room for more products
pub record HasRoom (number : Wide) : Type 0 where
  pub high : unsigned_abs number.high < 2 ^ 100
  pub low : unsigned_abs number.low < 2 ^ 100

-- each half grows by no more than that of one product
pub record GrowsByOne (old new : Wide) : Type 0 where
  pub high : unsigned_abs new.high ≤ unsigned_abs old.high + 2 ^ 63
  pub low : unsigned_abs new.low ≤ unsigned_abs old.low + 2 ^ 64
