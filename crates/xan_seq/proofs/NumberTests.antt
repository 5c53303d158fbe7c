-- Tests of numbers, and which of two is less.
use Rattle.std.proofs.Common.{◌≡◌, ◌≢◌, ℕ, zero, suc, ◌<◌, ◌≤◌, true, false, nat_lt, ◌==◌, refl, ap, arith}
use Rattle.std.proofs.lemmas.Bool.Decides.{nat_tests}

pub less : (m n : ℕ) → m < n → nat_lt m n ≡ true
less m n h = grind (arith, nat_tests)

pub not_less : (m n : ℕ) → n ≤ m → nat_lt m n ≡ false
not_less m n h = grind (arith, nat_tests)

pub is_less : (m n : ℕ) → nat_lt m n ≡ true → m < n
is_less m n h = grind (arith, nat_tests)

pub is_not_less : (m n : ℕ) → nat_lt m n ≡ false → n ≤ m
is_not_less m n h = grind (arith, nat_tests)

pub equal : (m n : ℕ) → m ≡ n → (m == n) ≡ true
equal m n h = grind (arith, nat_tests)

pub unequal : (m n : ℕ) → m ≢ n → (m == n) ≡ false
unequal m n h = grind (arith, nat_tests)

pub data Order (m n : ℕ) : Type 0 where
  Lt : m < n → Order m n
  Gt : n < m → Order m n
  Eq : m ≡ n → Order m n

pub order : (m n : ℕ) → Order m n
order zero zero = Eq refl
order zero (suc n) = Lt (omega arith)
order (suc m) zero = Gt (omega arith)
order (suc m) (suc n) = elim (order m n) [ Lt h ↦ Lt (omega arith) | Gt h ↦ Gt (omega arith) | Eq h ↦ Eq (ap suc h) ]
