-- Values that are listed for variables in turn, from a first one on: what stands for a variable.
use Rattle.std.proofs.Common.{◌≡◌, ◌≢◌, ◌∙◌, ℕ, zero, suc, ◌+◌, ◌<◌, ◌≤◌, ◌==◌, cond, List, [], ◌∷◌, ◌++◌, length, slice_get, Bool as Truth, true, false, Option, Some, None, refl, ap, subst, arith}
use Rattle.std.specs.Prelude.{nat_le}
use Rattle.std.proofs.lemmas.Bool.{le-leb}
use Rattle.xan_lin.specs.Linear.{Linear, variable_form}
use Rattle.xan_lin.specs.Subst.{VariablesRise, listed, listed_or_own, replacement, zero_form}
use Rattle.xan_lin.proofs.Booleans.{both_true, less, equal, unequal}
use Rattle.typed_core.specs.Strays.{values_rise}

-- the listed variables are the next ones from this one on
abbrev pub Counted : ℕ → List (ℕ × Linear) → Type 0
Counted first [] = Unit {0}
Counted first (v ∷ vs) = (v.0 ≡ first) × Counted (suc first) vs

pub counted_on : (first : ℕ) (vs ws : List (ℕ × Linear)) → Counted first vs → Counted (first + length vs) ws → Counted first (vs ++ ws)
counted_on first [] ws a b = subst (λ n. Counted n ws) (let same : first + 0 ≡ first = omega arith in same) b
counted_on first (v ∷ vs) ws a b =
    (a.0, counted_on (suc first) vs ws a.1 (subst (λ n. Counted n ws) (let same : first + suc (length vs) ≡ suc first + length vs = omega arith in same) b))

pub counted_rise : (low first : ℕ) (vs : List (ℕ × Linear)) → low ≤ first → Counted first vs → VariablesRise low vs
counted_rise low first [] le c = tt
counted_rise low first (v ∷ vs) le c = (let here = c.0 in omega (arith, le, here), counted_rise (suc v.0) (suc first) vs (let here = c.0 in omega (arith, here)) c.1)

pub counted_test : (low first : ℕ) (vs : List (ℕ × Linear)) → low ≤ first → Counted first vs → values_rise low vs ≡ true
unfolding values_rise
counted_test low first [] le c = refl
counted_test low first (v ∷ vs) le c =
    both_true (nat_le low v.0) (values_rise (suc v.0) vs) (le-leb low v.0 (let here = c.0 in omega (arith, le, here)))
    (counted_test (suc v.0) (suc first) vs (let here = c.0 in omega (arith, here)) c.1)

-- ---- what is listed

passed : (v : ℕ × Linear) (vs : List (ℕ × Linear)) (var : ℕ) → v.0 ≢ var → listed var (v ∷ vs) ≡ listed var vs
passed v vs var other = ap (λ b. cond b (let o : Option Linear = Some v.1 in o) (listed var vs)) (unequal v.0 var other)

pub not_listed : (first : ℕ) (vs : List (ℕ × Linear)) (var : ℕ) → Counted first vs → var < first → listed var vs ≡ None
not_listed first [] var c lt = refl
not_listed first (v ∷ vs) var c lt =
    passed v vs var (λ same. (let here = c.0 in absurd (omega (arith, here, same, lt)))) ∙ not_listed (suc first) vs var c.1 (omega (arith, lt))

pub listed_at : (first : ℕ) (vs : List (ℕ × Linear)) (j : ℕ) (v : ℕ × Linear) → Counted first vs → slice_get vs j ≡ Some v → listed (first + j) vs ≡ Some v.1
listed_at first [] j v c e = absurd (let bad : ⊥ = cc in bad)
listed_at first (w ∷ vs) zero v c e =
    ap (λ b. cond b (let o : Option Linear = Some w.1 in o) (listed (first + 0) vs)) (equal w.0 (first + 0) (let here = c.0 in omega (arith, here))) ∙ ap (λ (x : ℕ × Linear). let o : Option Linear = Some x.1 in o) (same_some w v e)
  where
    same_some : (a b : ℕ × Linear) → (let o : Option (ℕ × Linear) = Some a in o) ≡ Some b → a ≡ b
    same_some a b e = cc
listed_at first (w ∷ vs) (suc j) v c e =
    passed w vs (first + suc j) (λ same. (let here = c.0 in absurd (omega (arith, here, same))))
    ∙ ap (λ n. listed n vs) (let same : first + suc j ≡ suc first + j = omega arith in same) ∙ listed_at (suc first) vs j v c.1 e

pub record IsListedAt (var : ℕ) (vs : List (ℕ × Linear)) : Type 0 where
  pub form : Linear
  pub there : listed var vs ≡ Some form

pub is_listed : (first : ℕ) (vs : List (ℕ × Linear)) (var : ℕ) → Counted first vs → first ≤ var → var < first + length vs → IsListedAt var vs
is_listed first [] var c le lt = absurd (omega (arith, le, lt))
is_listed first (v ∷ vs) var c le lt = by_test (v.0 == var) refl (λ le lt. is_listed (suc first) vs var c.1 le lt)
  where
    by_test : (b : Truth) → (v.0 == var) ≡ b → (suc first ≤ var → var < suc first + length vs → IsListedAt var vs) → IsListedAt var (v ∷ vs)
    by_test true e later = record { form = v.1; there = ap (λ b. cond b (let o : Option Linear = Some v.1 in o) (listed var vs)) e }
    by_test false e later =
        let other : first ≢ var = λ same. (let here : v.0 ≡ var = c.0 ∙ same in let on : (v.0 == var) ≡ true = equal v.0 var here in let bad : ⊥ = cc in bad) in
        let it = later (above first var le other) (omega (arith, lt)) in
        record { form = it.form; there = ap (λ b. cond b (let o : Option Linear = Some v.1 in o) (listed var vs)) e ∙ it.there }
      where
        above : (m n : ℕ) → m ≤ n → m ≢ n → suc m ≤ n
        above m n le other = grind arith

pub listed_front : (var : ℕ) (vs ws : List (ℕ × Linear)) (form : Linear) → listed var vs ≡ Some form → listed var (vs ++ ws) ≡ Some form
listed_front var [] ws form e = absurd (let bad : ⊥ = cc in bad)
listed_front var (v ∷ vs) ws form e = by_test (v.0 == var) e (λ h. listed_front var vs ws form h)
  where
    by_test : (b : Truth) → cond b (let o : Option Linear = Some v.1 in o) (listed var vs) ≡ Some form → (listed var vs ≡ Some form → listed var (vs ++ ws) ≡ Some form)
        → cond b (let o : Option Linear = Some v.1 in o) (listed var (vs ++ ws)) ≡ Some form
    by_test true e later = e
    by_test false e later = later e

-- ---- what stands for a variable

pub listed_stands : (values : List (ℕ × Linear)) (below var : ℕ) (form : Linear) → listed var values ≡ Some form → replacement values below var ≡ form
unfolding replacement
listed_stands values below var form e = ap (λ o. listed_or_own o below var) e

pub own_stands : (values : List (ℕ × Linear)) (below var : ℕ) → listed var values ≡ None → var < below → replacement values below var ≡ variable_form var
unfolding replacement
own_stands values below var e lt = ap (λ o. listed_or_own o below var) e ∙ ap (λ b. cond b (variable_form var) zero_form) (less var below lt)
