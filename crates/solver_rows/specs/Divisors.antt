-- The greatest common divisor of two numbers, and of coefficients.
use Rattle.std.specs.Prelude.{ℕ, zero, suc, ◌%◌, unsigned_abs, List, [], ◌∷◌}
use Rattle.xan_lin.specs.declared.term.Term.{Term}

-- Euclid's remainders, at most so many
unfoldable pub gcd_within : ℕ → ℕ → ℕ → ℕ
gcd_within zero a b = a
gcd_within (suc turns) a zero = a
gcd_within (suc turns) a (suc b) = gcd_within turns (suc b) (a % suc b)

-- each remainder is less than the one before, so that these turns are enough
abbrev pub gcd : ℕ → ℕ → ℕ
gcd a b = gcd_within (suc b) a b

-- the greatest common divisor of a number and the coefficients
unfoldable pub divisor_from : ℕ → List Term → ℕ
divisor_from g [] = g
divisor_from g (t ∷ ts) = divisor_from (gcd g (unsigned_abs t.coef)) ts

-- that of the coefficients, and 0 where there are none
abbrev pub divisor : List Term → ℕ
divisor ts = divisor_from 0 ts
