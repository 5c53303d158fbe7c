-- Integers: `-` only where they are negative, or always with a sign.
use Rattle.std.specs.Prelude.{◌≡◌, ℕ, suc, ◌≤◌, max, List, [], ◌∷◌, ℤ, pos, negsuc, neg_ℤ, nat_abs, decimal}
use Rattle.std.specs.Fmt.{signed_decimal}
use Rattle.xan_read.specs.Reader.{Reader}
use Rattle.xan_read.specs.Combinators.{give, in_turn, behind, where_comes}
use Rattle.xan_read.specs.Numbers.{number}

abbrev pub number_as : (ℕ → ℤ) → ℕ → ℕ → Reader ℤ
number_as made low high = in_turn (number low high) (λ n. give (made n))

abbrev pub negative : ℕ → ℤ
negative n = neg_ℤ (pos n)

-- ---- `-` where it is negative, so that `-0` is none

-- from -below to above
abbrev pub IsFromTo : ℕ → ℕ → ℤ → Type 0
IsFromTo below above (pos n) = n ≤ above
IsFromTo below above (negsuc n) = suc n ≤ below

pub record IsInteger (below above : ℕ) (z : ℤ) (text : List ℕ) : Type 0 where
  pub within : IsFromTo below above z
  pub is : text ≡ signed_decimal z

unfoldable pub integer : ℕ → ℕ → Reader ℤ
integer below above = where_comes 45 (number_as negative 1 below) (number_as pos 0 above)

-- ---- always with a sign; 0 has the sign `+`

abbrev pub with_sign : ℤ → List ℕ
with_sign (pos n) = 43 ∷ decimal n
with_sign (negsuc n) = 45 ∷ decimal (suc n)

-- from low to high without its sign
pub record IsSigned (low high : ℕ) (z : ℤ) (text : List ℕ) : Type 0 where
  pub at_least : low ≤ nat_abs z
  pub at_most : nat_abs z ≤ high
  pub is : text ≡ with_sign z

unfoldable pub signed : ℕ → ℕ → Reader ℤ
signed low high = where_comes 43 (number_as pos low high) (behind (45 ∷ []) (number_as negative (max low 1) high))
