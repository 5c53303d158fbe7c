-- The value of digits.
use Rattle.std.proofs.Common.{ℕ, suc, ◌+◌, ◌-◌, ◌*◌, ◌<◌, ◌≤◌, List, [], ◌∷◌, length, drop, get_or, arith, drop-cons}
use Rattle.xanadu_lexer.specs.Spelling.{value_from}

-- more digits make no smaller number
pub value_from-grows : (n : ℕ) (digits : List ℕ) → n ≤ value_from n digits
value_from-grows n [] = omega arith
value_from-grows n (digit ∷ digits) = omega (arith, value_from-grows (10 * n + (digit - 48)) digits)

-- nor do the digits after the one at `i`
pub value_from-passes : (n i : ℕ) (digits : List ℕ) → i < length digits → 10 * n + (get_or digits i 0 - 48) ≤ value_from n (drop i digits)
value_from-passes n i digits below =
    rw (drop-cons digits i 0) (value_from-grows (10 * n + (get_or digits i 0 - 48)) (drop (suc i) digits))
