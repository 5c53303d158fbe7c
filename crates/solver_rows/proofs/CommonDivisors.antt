-- A divisor of coefficients divides them.
use Rattle.std.proofs.Common.{◌≡◌, ℕ, zero, suc, ◌+◌, ◌-◌, ◌*◌, ◌/◌, ◌%◌, ◌<◌, ℤ, pos, negsuc, true, nat_lt, unsigned_abs, List, [], ◌∷◌, refl, sym, ◌∙◌, ap, subst, arith}
use Rattle.std.specs.Int.{◌∣◌}
use Rattle.std.proofs.Math.Nat.{mod-add-div'}
use Rattle.std.proofs.lemmas.Nat.{mod-mul-add}
use Rattle.std.proofs.lemmas.Nat.Gcd.{dvd_refl, dvd_trans, mod-eq-zero_of_dvd}
use Rattle.std.proofs.lemmas.Bool.Decides.{Decides-int_eq}
use Rattle.xan_lin.specs.declared.term.Term.{Term}
use Rattle.xan_lin.proofs.Booleans.{is_less}
use Rattle.proof_lines.specs.Rows.{remainder, is_multiple, divides}
use Rattle.proof_lines.proofs.Proper.{join}
use Rattle.solver_rows.specs.Divisors.{gcd, divisor_from, divisor}
use Rattle.solver_rows.proofs.Euclid.{gcd_is}

-- it divides the number from which it begins
pub divisor-start : (g : ℕ) (ts : List Term) → divisor_from g ts ∣ g
unfolding divisor_from
divisor-start g [] = dvd_refl g
divisor-start g (t ∷ ts) = dvd_trans (divisor_from (gcd g (unsigned_abs t.coef)) ts) (divisor-start (gcd g (unsigned_abs t.coef)) ts) (gcd_is g (unsigned_abs t.coef)).0

-- the number before a multiple leaves the greatest rest
before_multiple : (a d q : ℕ) → 0 < d → suc a ≡ q * d → a % d ≡ d - 1
before_multiple a d zero h e = absurd (omega arith)
before_multiple a d (suc q) h e =
    let same : a ≡ q * d + (d - 1) = omega arith in
    ap (λ n. n % d) same ∙ mod-mul-add q d (d - 1) (omega arith)

rest : (a d : ℕ) → 0 < d → suc a % d ≡ 0 → d - 1 - a % d ≡ 0
rest a d h r =
    let parts = mod-add-div' (suc a) d in
    let e : suc a ≡ suc a / d * d = omega arith in
    let last = before_multiple a d (suc a / d) h e in
    omega arith

multiple_of : (d : ℕ) (c : ℤ) → 0 < d → d ∣ unsigned_abs c → is_multiple (pos d) c ≡ true
multiple_of d (pos a) h v = (Decides-int_eq (pos (a % d)) (pos 0)).1 (ap pos (mod-eq-zero_of_dvd d v))
multiple_of d (negsuc a) h v = (Decides-int_eq (remainder (negsuc a) (pos d)) (pos 0)).1 (none a d h (mod-eq-zero_of_dvd d v))
  where
    none : (a d : ℕ) → 0 < d → suc a % d ≡ 0 → remainder (negsuc a) (pos d) ≡ pos 0
    none a d h r = ap pos (rest a d h r)

divisor-each : (g d : ℕ) (ts : List Term) → d ≡ divisor_from g ts → 0 < d → divides (pos d) ts ≡ true
unfolding divisor_from
divisor-each g d [] e h = refl
divisor-each g d (t ∷ ts) e h =
    let next = gcd g (unsigned_abs t.coef) in
    join (is_multiple (pos d) t.coef) (divides (pos d) ts)
    (multiple_of d t.coef h (subst (λ (n : ℕ). n ∣ unsigned_abs t.coef) (sym e) (dvd_trans (divisor_from next ts) (divisor-start next ts) (gcd_is g (unsigned_abs t.coef)).1)))
    (divisor-each next d ts e h)

pub divisor-divides : (ts : List Term) → nat_lt 1 (divisor ts) ≡ true → divides (pos (divisor ts)) ts ≡ true
divisor-divides ts e = let h = is_less 1 (divisor ts) e in divisor-each 0 (divisor ts) ts refl (omega arith)
