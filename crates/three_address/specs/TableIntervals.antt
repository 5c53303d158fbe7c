-- Where a table of live places holds a place: the first position and the last one.
use Rattle.std.specs.Prelude.{ℕ, zero, suc, ◌==◌, Bool, true, false, ◌&&◌, ◌||◌, List, length, nat_lt, Option, Some, None}
use Rattle.three_address.specs.Flow.{writes_at}
use Rattle.three_address.specs.LiveTables.{has, bit}
use Rattle.three_address.specs.declared.function.LowFun.{LowFun}

-- ---- the first and the last of so many numbers from one on that pass a test

abbrev pub first_if : Bool → ℕ → Option ℕ → Option ℕ
first_if true at later = Some at
first_if false at later = later

unfoldable pub first_from : (ℕ → Bool) → (from count : ℕ) → Option ℕ
first_from p from zero = None
first_from p from (suc count) = first_if (p from) from (first_from p (suc from) count)

abbrev pub last_if : Option ℕ → Bool → ℕ → Option ℕ
last_if (Some later) b at = Some later
last_if None true at = Some at
last_if None false at = None

unfoldable pub last_from : (ℕ → Bool) → (from count : ℕ) → Option ℕ
last_from p from zero = None
last_from p from (suc count) = last_if (last_from p (suc from) count) (p from) from

-- ---- a place

-- it is live at the position by the table, or written there, or a parameter at the start
abbrev pub held : LowFun → List (List Bool) → (place at : ℕ) → Bool
held fun table place at = bit table at place || (has (writes_at fun at) place || ((at == 0) && nat_lt place (length fun.sig.params)))

-- the first and the last position at which the place is held
abbrev pub first_held : LowFun → List (List Bool) → (place : ℕ) → Option ℕ
first_held fun table place = first_from (held fun table place) 0 (length fun.code)

abbrev pub last_held : LowFun → List (List Bool) → (place : ℕ) → Option ℕ
last_held fun table place = last_from (held fun table place) 0 (length fun.code)
