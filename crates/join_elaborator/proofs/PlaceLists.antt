-- The places of types that are listed anew rise as they did.
use Rattle.std.proofs.Common.{◌≡◌, ℕ, suc, ◌+◌, ◌<◌, ◌≤◌, List, [], ◌∷◌, ◌++◌, length, nat_lt, cond, Bool as Truth, true, false, Ok, Err, refl, sym, subst, append_assoc, append-nil, arith}
use Rattle.xan_lin.proofs.Booleans.{is_not_less}
use Rattle.xan_lin.specs.declared.term.LimitKind.TheVariants as limit
use Rattle.state_types.proofs.Thens.{then_ok}
use Rattle.typed_core.specs.Limits.{Past, Walk, within}
use Rattle.xan_lin.specs.Linear.{variable_form}
use Rattle.xanadu_tree.specs.declared.types.CoreTy.{CoreTy}
use Rattle.state_types.specs.PlaceTypes.{PlacesRise}
use Rattle.state_types.specs.declared.types.Ty.{Ty}
use Rattle.typed_core.specs.Joins.{few_places, Renewed, is_renewed, renewed, with_entry, with_index}

rises-replaced : (low : ℕ) (xs ys : List (ℕ × Ty)) (e : ℕ × Ty) (t : Ty) → PlacesRise low (xs ++ e ∷ ys) → PlacesRise low (xs ++ (e.0, t) ∷ ys)
rises-replaced low [] ys e t r = r
rises-replaced low (x ∷ xs) ys e t r = (r.0, rises-replaced (suc x.0) xs ys e t r.1)

entry-rises : (fresh : Truth) (first : ℕ) (e : ℕ × Ty) (es : List (ℕ × Ty)) (made : Renewed)
    → PlacesRise 0 (made.types ++ e ∷ es) → PlacesRise 0 ((with_entry fresh first e made).types ++ es)
entry-rises false first e es made r = subst (λ xs. PlacesRise 0 xs) (sym (append_assoc made.types (e ∷ []) es)) r
entry-rises true first e es made r =
    let t = with_index e.1 (variable_form (first + length made.others)) in
    subst (λ xs. PlacesRise 0 xs) (sym (append_assoc made.types ((e.0, t) ∷ []) es)) (rises-replaced 0 made.types es e t r)

pub renewed-rises : (changed : ℕ → Truth) (vars : List (ℕ × CoreTy)) (first : ℕ) (entries : List (ℕ × Ty)) (made : Renewed)
    → PlacesRise 0 (made.types ++ entries) → PlacesRise 0 (renewed changed vars first entries made).types
unfolding renewed
renewed-rises changed vars first [] made r = subst (λ xs. PlacesRise 0 xs) (append-nil made.types) r
renewed-rises changed vars first (e ∷ es) made r =
    renewed-rises changed vars first es (with_entry (is_renewed changed vars e) first e made) (entry-rises (is_renewed changed vars e) first e es made r)

pub few_by : (b : Truth) (place low most : ℕ) → nat_lt most (suc place) ≡ b → (let r : Walk (Unit {0}) = cond b (Err (Past limit.Places)) (Ok tt) in r) ≡ Ok tt → place < most
few_by true place low most e h = absurd (let bad : ⊥ = cc in bad)
few_by false place low most e h = (let le = is_not_less most (suc place) e in omega (arith, le))

-- places that rise, each of which a function can have, are few
pub places_few : (low : ℕ) (entries : List (ℕ × Ty)) → low ≤ 240 → PlacesRise low entries → few_places entries ≡ Ok tt → low + length entries ≤ 240
unfolding few_places
places_few low [] le rise e = omega (arith, le)
places_few low (x ∷ xs) le rise e =
    let s = then_ok (within limit.Places (suc x.0)) (λ few. few_places xs) tt e in
    let here : x.0 < 240 = few_by (nat_lt 240 (suc x.0)) x.0 low 240 refl s.first in
    let from : low ≤ x.0 = rise.0 in
    let rest = places_few (suc x.0) xs (omega (arith, here)) rise.1 s.second in
    omega (arith, from, rest)
