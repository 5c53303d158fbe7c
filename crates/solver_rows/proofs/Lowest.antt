-- Coefficients over their greatest common divisor have no other common divisor.
use Rattle.std.proofs.Common.{◌≡◌, ℕ, ◌*◌, ◌<◌, ◌≤◌, ℤ, pos, ◌+ℤ◌, ◌*ℤ◌, Bool, true, false, nat_lt, unsigned_abs, List, [], ◌∷◌, map, refl, sym, ◌∙◌, ap, subst, arith}
use Rattle.std.specs.Int.{◌∣◌}
use Rattle.std.proofs.Math.Nat.{mul-dvd-mul_left, mul-le-mul_left, mul_comm}
use Rattle.std.proofs.Math.IntN.{+ℤ_idr}
use Rattle.std.proofs.lemmas.Int.{unsigned_abs-mul}
use Rattle.std.proofs.lemmas.Nat.Gcd.{dvd-zero, dvd_trans, le_of_dvd}
use Rattle.std.proofs.lemmas.Bool.Decides.{Decides-int_eq}
use Rattle.xan_lin.specs.declared.term.Term.{Term}
use Rattle.xan_lin.proofs.Booleans.{is_less}
use Rattle.proof_lines.specs.Rows.{floor_over, remainder, is_multiple, divides, divided_term}
use Rattle.proof_lines.proofs.Proper.{both}
use Rattle.proof_lines.proofs.Quotients.{floor-rest}
use Rattle.solver_rows.specs.Divisors.{gcd, divisor_from, divisor}
use Rattle.solver_rows.proofs.Euclid.{gcd_is}
use Rattle.solver_rows.proofs.CommonDivisors.{divisor-start, divisor-divides}

-- a number that divides all coefficients
abbrev Divides : ℕ → List Term → Type 0
Divides k [] = Unit {0}
Divides k (t ∷ ts) = (k ∣ unsigned_abs t.coef) × Divides k ts

divides-all : (g d : ℕ) (ts : List Term) → d ≡ divisor_from g ts → Divides d ts
unfolding divisor_from
divides-all g d [] e = tt
divides-all g d (t ∷ ts) e =
    let next = gcd g (unsigned_abs t.coef) in (
      subst (λ (n : ℕ). n ∣ unsigned_abs t.coef) (sym e) (dvd_trans (divisor_from next ts) (divisor-start next ts) (gcd_is g (unsigned_abs t.coef)).1),
      divides-all next d ts e,
    )

greatest : (k g : ℕ) (ts : List Term) → k ∣ g → Divides k ts → k ∣ divisor_from g ts
unfolding divisor_from
greatest k g [] h d = h
greatest k g (t ∷ ts) h d = greatest k (gcd g (unsigned_abs t.coef)) ts ((gcd_is g (unsigned_abs t.coef)).2 k h d.0) d.1

-- a multiple is its part times the divisor
exact : (c : ℤ) (g : ℕ) → 0 < g → is_multiple (pos g) c ≡ true → unsigned_abs c ≡ g * unsigned_abs (floor_over c (pos g))
exact c g h m =
    let q = floor_over c (pos g) in
    ap unsigned_abs (floor-rest c g h ∙ ap (λ r. (q *ℤ pos g) +ℤ r) ((Decides-int_eq (remainder c (pos g)) (pos 0)).0 m) ∙ +ℤ_idr (q *ℤ pos g))
    ∙ unsigned_abs-mul q (pos g) ∙ mul_comm (unsigned_abs q) g

products : (g d : ℕ) (ts : List Term) → 0 < g → divides (pos g) ts ≡ true → Divides d (map (divided_term (pos g)) ts) → Divides (g * d) ts
products g d [] h m e = tt
products g d (t ∷ ts) h m e =
    let parts = both (is_multiple (pos g) t.coef) (divides (pos g) ts) m in (
      subst (λ (n : ℕ). g * d ∣ n) (sym (exact t.coef g h parts.0)) (mul-dvd-mul_left d g e.0),
      products g d ts h parts.1 e.1,
    )

one_at_most : (g d : ℕ) → 0 < g → g * d ∣ g → nat_lt 1 d ≡ false
one_at_most g d h v = go (nat_lt 1 d) refl
  where
    go : (b : Bool) → nat_lt 1 d ≡ b → b ≡ false
    go true e =
        let less : g * d ≤ g = le_of_dvd h v in
        let more : g * 2 ≤ g * d = mul-le-mul_left g (is_less 1 d e) in
        absurd (omega (arith, less, more, h))
    go false e = refl

pub lowest : (ts : List Term) → nat_lt 1 (divisor ts) ≡ true → nat_lt 1 (divisor (map (divided_term (pos (divisor ts))) ts)) ≡ false
lowest ts e =
    let g = divisor ts in
    let big = is_less 1 g e in
    let d = divisor (map (divided_term (pos g)) ts) in
    one_at_most g d (omega arith)
    (greatest (g * d) 0 ts (dvd-zero (g * d)) (products g d ts (omega arith) (divisor-divides ts e) (divides-all 0 d (map (divided_term (pos g)) ts) refl)))
