-- Greatest common divisors: Euclid's remainders, that they divide, and how large they are.
use Rattle.std.proofs.Common.{◌≡◌, ℕ, zero, suc, ◌%◌, ◌<◌, refl, arith}
use Rattle.std.specs.Int.{IsGcd}
use Rattle.std.proofs.lemmas.Nat.Gcd.{IsGcd-from_zero, IsGcd-from_mod}
use Rattle.solver_rows.specs.Divisors.{gcd_within, gcd}

rest_less : (a b : ℕ) → a % suc b < suc b
rest_less a b = omega arith

-- more turns than the second number give the same
gcd-enough : (m n a b : ℕ) → b < m → b < n → gcd_within m a b ≡ gcd_within n a b
unfolding gcd_within
gcd-enough zero n a b h k = absurd (omega arith)
gcd-enough (suc m) zero a b h k = absurd (omega arith)
gcd-enough (suc m) (suc n) a zero h k = refl
gcd-enough (suc m) (suc n) a (suc b) h k =
    let less = rest_less a b in gcd-enough m n (suc b) (a % suc b) (omega arith) (omega arith)

gcd-next : (a b : ℕ) → gcd a (suc b) ≡ gcd (suc b) (a % suc b)
unfolding gcd_within
gcd-next a b = let less = rest_less a b in gcd-enough (suc b) (suc (a % suc b)) (suc b) (a % suc b) less (omega arith)

pub gcd-step : (a b : ℕ) → 0 < b → gcd a b ≡ gcd b (a % b)
gcd-step a zero h = absurd (omega arith)
gcd-step a (suc b) h = gcd-next a b

pub gcd-end : (a b : ℕ) → b ≡ 0 → gcd a b ≡ a
unfolding gcd_within
gcd-end a zero e = refl
gcd-end a (suc b) e = absurd (omega arith)

within_is : (n a b : ℕ) → b < n → IsGcd a b (gcd_within n a b)
unfolding gcd_within
within_is zero a b h = absurd (omega arith)
within_is (suc n) a zero h = IsGcd-from_zero a 0 refl
within_is (suc n) a (suc b) h =
    let less = rest_less a b in IsGcd-from_mod a (suc b) (gcd_within n (suc b) (a % suc b)) (within_is n (suc b) (a % suc b) (omega arith))

-- it is the greatest common divisor
pub gcd_is : (a b : ℕ) → IsGcd a b (gcd a b)
gcd_is a b = within_is (suc b) a b (omega arith)

within-below : (n a b k : ℕ) → a < k → b < k → gcd_within n a b < k
unfolding gcd_within
within-below zero a b k h i = h
within-below (suc n) a zero k h i = h
within-below (suc n) a (suc b) k h i =
    let less = rest_less a b in within-below n (suc b) (a % suc b) k i (omega arith)

pub gcd-below : (a b k : ℕ) → a < k → b < k → gcd a b < k
gcd-below a b k h i = within-below (suc b) a b k h i
