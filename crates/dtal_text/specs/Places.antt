-- The reading of registers and places.
use Rattle.std.specs.Prelude.{ℕ, ◌+◌, codes}
use Rattle.xan_read.specs.Reader.{Reader}
use Rattle.xan_read.specs.Combinators.{give, in_turn, behind, where_comes}
use Rattle.xan_read.specs.Numbers.{number}

-- `r0` to `r15`
unfoldable pub register : Reader ℕ
register = behind (codes "r") (number 0 15)

-- a register, or a slot, `s0` to `s239`
unfoldable pub place : Reader ℕ
place = where_comes 114 (number 0 15) (behind (codes "s") (in_turn (number 0 239) (λ n. give (n + 16))))
