-- Coefficients and divisors of rows within the bound of forms are below it.
use Rattle.std.proofs.Common.{◌≡◌, ℕ, ◌<◌, ◌^◌, pos, Bool, true, false, cond, ◌==◌, nat_lt, unsigned_abs, List, [], ◌∷◌, refl, arith}
use Rattle.xan_lin.specs.Linear.{is_within, all_within}
use Rattle.xan_lin.specs.declared.term.Term.{Term}
use Rattle.xan_lin.proofs.Booleans.{is_less}
use Rattle.proof_lines.proofs.Proper.{both}
use Rattle.solver_rows.specs.Divisors.{gcd, divisor_from, divisor}
use Rattle.solver_rows.specs.SystemRows.{coefficient}
use Rattle.solver_rows.proofs.Euclid.{gcd-below}

small_is : (n : ℕ) → nat_lt n (2 ^ 62) ≡ true → n < 2 ^ 62
small_is n e = is_less n (2 ^ 62) e

none_small : (n : ℕ) → n ≡ 0 → n < 2 ^ 62
none_small n e = omega arith

pub coefficient-small : (var : ℕ) (ts : List Term) → all_within ts ≡ true → unsigned_abs (coefficient var ts) < 2 ^ 62
unfolding coefficient
coefficient-small var [] e = none_small (unsigned_abs (pos 0)) refl
coefficient-small var (t ∷ ts) e =
    let parts = both (is_within t.coef) (all_within ts) e in
    go (t.var == var) (small_is (unsigned_abs t.coef) parts.0) (coefficient-small var ts parts.1)
  where
    go : (b : Bool) → unsigned_abs t.coef < 2 ^ 62 → unsigned_abs (coefficient var ts) < 2 ^ 62 → unsigned_abs (cond b t.coef (coefficient var ts)) < 2 ^ 62
    go true h k = h
    go false h k = k

divisor_from-small : (g : ℕ) (ts : List Term) → g < 2 ^ 62 → all_within ts ≡ true → divisor_from g ts < 2 ^ 62
unfolding divisor_from
divisor_from-small g [] h e = h
divisor_from-small g (t ∷ ts) h e =
    let parts = both (is_within t.coef) (all_within ts) e in
    divisor_from-small (gcd g (unsigned_abs t.coef)) ts (gcd-below g (unsigned_abs t.coef) (2 ^ 62) h (small_is (unsigned_abs t.coef) parts.0)) parts.1

pub divisor-small : (ts : List Term) → all_within ts ≡ true → divisor ts < 2 ^ 62
divisor-small ts e = divisor_from-small 0 ts (none_small 0 refl) e
