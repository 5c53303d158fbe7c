-- Decimal numbers of a range: the language, and the reader, which takes a digit only where some number of the range
-- still begins so.
use Rattle.std.specs.Prelude.{◌≡◌, ℕ, zero, suc, ◌+◌, ◌-◌, ◌*◌, ◌≤◌, Bool, false, ◌&&◌, ◌||◌, List, [], ◌∷◌, length, Option, Some, None, option_map, Ok, Err, ◌==◌, nat_lt, nat_le, if◌then◌else◌, decimal}
use Rattle.std.specs.Char.{is_ascii_digit}
use Rattle.xan_read.specs.Reader.{Reader}

-- The one spelling of a number from low to high: no sign, and no zero in front of another digit.
pub record IsNumber (low high n : ℕ) (text : List ℕ) : Type 0 where
  pub at_least : low ≤ n
  pub at_most : n ≤ high
  pub is : text ≡ decimal n

-- no digit follows
abbrev pub NoDigit : List ℕ → Type 0
NoDigit [] = Unit {0}
NoDigit (b ∷ rest) = is_ascii_digit b ≡ false

-- The numbers whose digits are those of v and k more are 10 ^ k numbers from v * 10 ^ k on. Whether, for some k up to
-- `more`, one of them is from low to high, where from and width are the first and the number of them at k = 0.
unfoldable pub some_within : ℕ → ℕ → ℕ → ℕ → ℕ → Bool
some_within zero low high from width = nat_le from high && nat_lt low (from + width)
some_within (suc more) low high from width = (nat_le from high && nat_lt low (from + width)) || some_within more low high (10 * from) (10 * width)

-- some number from low to high, of at most 64 bits, begins with the digits of v
unfoldable pub can_begin : ℕ → ℕ → ℕ → Bool
can_begin low high v = some_within 20 low high v 1

-- the number that one more digit makes of v, where some number of the range begins so
abbrev pub longer : ℕ → ℕ → ℕ → ℕ → Option ℕ
longer low high v b = if is_ascii_digit b && can_begin low high (10 * v + (b - 48)) then Some (10 * v + (b - 48)) else None

-- the same for the next byte, and the bytes behind it
unfoldable pub next_digit : ℕ → ℕ → ℕ → List ℕ → Option (ℕ × List ℕ)
next_digit low high v [] = None
next_digit low high v (b ∷ bytes) = option_map (λ w. (w, bytes)) (longer low high v b)

-- the number ends here
abbrev pub stop_at : ℕ → ℕ → ℕ → Reader ℕ
stop_at low high v rest = if nat_le low v && nat_le v high then Ok (v, rest) else Err (length rest)

-- the number that digits spell behind those of v
abbrev pub value_behind : ℕ → List ℕ → ℕ
value_behind v [] = v
value_behind v (b ∷ bytes) = value_behind (10 * v + (b - 48)) bytes

-- digits behind those of v
unfoldable pub digits_behind : ℕ → ℕ → ℕ → Reader ℕ
digits_behind low high v [] = stop_at low high v []
digits_behind low high v (b ∷ bytes) = if is_ascii_digit b && can_begin low high (10 * v + (b - 48)) then digits_behind low high (10 * v + (b - 48)) bytes else stop_at low high v (b ∷ bytes)

unfoldable pub number : ℕ → ℕ → Reader ℕ
number low high [] = Err 0
number low high (b ∷ bytes) =
    if b == 48
    then (if low == 0 then Ok (0, bytes) else Err (suc (length bytes)))
    else (if is_ascii_digit b && can_begin low high (b - 48) then digits_behind low high (b - 48) bytes else Err (suc (length bytes)))
