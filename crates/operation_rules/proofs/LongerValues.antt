-- Values and rows under an assignment with more values behind it, beside what state_types says of forms and types.
use Rattle.std.proofs.Common.{◌≡◌, ℕ, zero, suc, ◌+◌, ◌<◌, ℤ, pos, ◌≤ℤ◌, List, [], ◌∷◌, ◌++◌, length, refl, sym, ◌∙◌, ap, subst, arith}
use Rattle.xan_lin.specs.Linear.{Linear}
use Rattle.xan_lin.specs.Value.{value_at, Holds}
use Rattle.state_types.specs.Unpacking.{shifted}
use Rattle.state_types.proofs.Unpacked.{value-behind}

next_place : (n v : ℕ) → suc n + v ≡ suc (n + v)
next_place n v = omega arith

pub value_at-behind : (xs ys : List ℤ) (v : ℕ) → value_at (xs ++ ys) (length xs + v) ≡ value_at ys v
value_at-behind [] ys v = ap (λ n. value_at ys n) (let e : 0 + v ≡ v = omega arith in e)
value_at-behind (x ∷ xs) ys v = ap (λ n. value_at (x ∷ (xs ++ ys)) n) (next_place (length xs) v) ∙ value_at-behind xs ys v

pub value_at-front : (xs ys : List ℤ) (v : ℕ) → v < length xs → value_at (xs ++ ys) v ≡ value_at xs v
value_at-front [] ys v h = absurd (omega arith)
value_at-front (x ∷ xs) ys zero h = refl
value_at-front (x ∷ xs) ys (suc v) h = value_at-front xs ys v (omega arith)

pub row-behind : (xs ys : List ℤ) (row : Linear) → Holds ys row → Holds (xs ++ ys) (shifted (length xs) row)
row-behind xs ys row h = subst (λ n. pos 0 ≤ℤ n) (sym (value-behind xs ys row)) h
