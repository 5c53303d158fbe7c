-- The signs of a row's coefficients, a bit for each column: no part of the promise.
use Rattle.std.specs.Prelude.{◌≡◌, ℕ, ◌*◌, ◌%◌, ◌^◌, ◌==◌, ℤ, pos, Bool, ◌&&◌, not, int_lt, List, if◌then◌else◌}
use Rattle.std.specs.Int.{bit_at}
use Rattle.std.specs.Int.RustNames.{bit_or}
use Rattle.std.specs.List.{slice_index_or}
use Rattle.solver_rows.specs.declared.signs.Signs.{Signs}
use Rattle.solver_rows.specs.declared.source.Sign.{Sign}
use Rattle.solver_rows.specs.declared.source.Sign.TheVariants.{Positive, Negative, Zero}

abbrev pub bit_of : Bool → ℕ
bit_of b = if b then 1 else 0

-- the columns, with one more where it is so
abbrev pub with_bit : Bool → ℕ → ℕ → ℕ
with_bit b columns column = if b then bit_or columns (1 * 2 ^ column % 2 ^ 64) else columns

-- these are the signs of the numbers; past them there are none
pub record AreSigns (s : Signs) (numbers : List ℤ) : Type 0 where
  pub positive : (column : ℕ) → bit_at s.positive column ≡ bit_of (int_lt (pos 0) (slice_index_or numbers column (pos 0)))
  pub negative : (column : ℕ) → bit_at s.negative column ≡ bit_of (int_lt (slice_index_or numbers column (pos 0)) (pos 0))

-- whether the number of this column has this sign
abbrev pub sign_at : Sign → Signs → ℕ → Bool
sign_at Positive s column = bit_at s.positive column == 1
sign_at Negative s column = bit_at s.negative column == 1
sign_at Zero s column = not (bit_at s.positive column == 1) && not (bit_at s.negative column == 1)

-- all numbers are 0
abbrev pub no_signs : Signs → Bool
no_signs s = (s.positive == 0) && (s.negative == 0)

abbrev pub same_signs : Signs → Signs → Bool
same_signs s t = (s.positive == t.positive) && (s.negative == t.negative)
