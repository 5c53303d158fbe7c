-- What a write of a place gives, whether there was memory or not.
use Rattle.std.proofs.Common.{◌≡◌, ◌==◌, ℕ, List, cond, Some, sym, ◌∙◌, ap, subst, arith}
use Rattle.std.specs.Prelude.{Result, Ok, Err, OnOk, OnErr}
use Rattle.xan_lin.specs.declared.term.Memory.{Memory}
use Rattle.xan_seq.proofs.RisingKeys.{KeysRise-with, value-with}
use Rattle.state_types.specs.PlaceTypes.{PlacesRise, type_at, with_type}
use Rattle.state_types.specs.declared.types.Ty.{Ty}

-- places still rise
pub PlacesRise-set : (place : ℕ) (ty : Ty) (old new : List (ℕ × Ty)) (answer : Result (Unit {0}) Memory) → OnOk answer (new ≡ with_type place ty old)
    → OnErr answer (new ≡ old) → PlacesRise 0 old → PlacesRise 0 new
PlacesRise-set place ty old new (Ok x) set unchanged r = subst (λ (ys : List (ℕ × Ty)). PlacesRise 0 ys) (sym set) (KeysRise-with 0 place ty old (omega arith) r)
PlacesRise-set place ty old new (Err e) set unchanged r = subst (λ (ys : List (ℕ × Ty)). PlacesRise 0 ys) (sym unchanged) r

-- the written place has the type, and each other one what it had
pub type-after : (place : ℕ) (ty : Ty) (seen old new : List (ℕ × Ty)) (answer : Result (Unit {0}) Memory) → seen ≡ old → OnOk answer (new ≡ with_type place ty seen)
    → OnOk answer ((other : ℕ) → type_at other new ≡ cond (place == other) (Some ty) (type_at other old))
type-after place ty seen old new (Ok x) same set = λ other. ap (λ ys. type_at other ys) (set ∙ ap (λ ys. with_type place ty ys) same) ∙ value-with other place ty old
type-after place ty seen old new (Err e) same set = tt
