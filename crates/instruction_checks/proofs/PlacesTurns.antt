-- Places that are read, one after the other.
use Rattle.std.proofs.Common.{◌≡◌, ℕ, List, [], ◌∷◌, ◌++◌, map, take, drop, length, get_or, suc, ◌-◌, ◌≤◌, arith, Some, Ok, sym}
use Rattle.std.proofs.lemmas.List.{take_all}
use Rattle.state_types.specs.PlaceTypes.{type_at}
use Rattle.state_types.specs.declared.types.Ty.{Ty}
use Rattle.operation_rules.specs.Applied.{all_there}
use Rattle.operation_rules.specs.Faults.{or_fault}
use Rattle.operation_rules.specs.declared.error.Fault.TheVariants.{NoPlace}
use Rattle.operation_rules.proofs.PlacesRead.{there_behind, there_turn}
use Rattle.operation_rules.proofs.RuleFacts.{or_fault_ok}

pub there_more : (made : List Ty) (t : Ty) (places : List (ℕ × Ty)) (place : ℕ) (reads : List ℕ) → or_fault NoPlace (type_at place places) ≡ Ok t
    → there_behind (made ++ t ∷ []) (all_there (map (λ p. type_at p places) reads)) ≡ there_behind made (all_there (map (λ p. type_at p places) (place ∷ reads)))
there_more made t places place reads e =
    let is : type_at place places ≡ Some t = or_fault_ok NoPlace (type_at place places) t e in
    rw is (sym (there_turn made t (map (λ p. type_at p places) reads)))

-- the same, where the places that are left are a front and the rest
pub there_rest : (made : List Ty) (t : Ty) (places : List (ℕ × Ty)) (reads : List ℕ) (d : ℕ) → 1 ≤ length reads → or_fault NoPlace (type_at (get_or reads 0 d) places) ≡ Ok t
    → there_behind (made ++ t ∷ []) (all_there (map (λ p. type_at p places) (take (length reads - 1) (drop 1 reads)))) ≡ there_behind made (all_there (map (λ p. type_at p places) reads))
there_rest made t places [] d some e = absurd (let bad : ⊥ = omega (arith, some) in bad)
there_rest made t places (place ∷ reads) d some e =
    let all : take (suc (length reads) - 1) reads ≡ reads = take_all (suc (length reads) - 1) reads (omega arith) in
    rw all (there_more made t places place reads e)
