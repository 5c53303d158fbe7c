-- The types of places that are read.
use Rattle.std.proofs.Common.{◌≡◌, ◌∙◌, ℕ, ◌+◌, List, [], ◌∷◌, ◌++◌, append_assoc, append-nil, Option, Some, Ok, Err, refl, sym, ap, subst}
use Rattle.std.specs.List.{All}
use Rattle.std.proofs.lemmas.List.Elements.{All-nil, All-cons, All-head, All-tail}
use Rattle.state_types.specs.Types.{TypeBelow}
use Rattle.state_types.specs.declared.types.Ty.{Ty}
use Rattle.state_types.proofs.Thens.{then_ok, ok_same}
use Rattle.operation_rules.specs.Applied.{all_there}
use Rattle.operation_rules.specs.Faults.{Ruling, NoPlace, or_fault}
use Rattle.operation_rules.specs.Named.{IsNamed, PlaceBelow}
use Rattle.operation_rules.specs.Operations.{Operation}
use Rattle.operation_rules.specs.Rules.{Setting, Rule, rule}
use Rattle.operation_rules.specs.Sound.{IsSetting}
use Rattle.operation_rules.proofs.RowsNamed.{rows_named}
use Rattle.operation_rules.proofs.RuleFacts.{or_fault_ok}

-- ---- they name present variables

there_below : (n : ℕ) (places : List (Option Ty)) (types : List Ty) → all_there places ≡ Ok types → All (PlaceBelow n) places → All (TypeBelow n) types
unfolding all_there
there_below n [] types e all = subst (λ ts. All (TypeBelow n) ts) (ok_same [] types e) (All-nil (TypeBelow n))
there_below n (p ∷ ps) types e all =
    let s = then_ok (or_fault NoPlace p) _ types e in
    let t = then_ok (all_there ps) _ types s.second in
    subst (λ ts. All (TypeBelow n) ts) (ok_same (s.value ∷ t.value) types t.second)
    (All-cons (TypeBelow n) s.value t.value (subst (λ q. PlaceBelow n q) (or_fault_ok NoPlace p s.value s.first) (All-head (PlaceBelow n) p ps all))
    (there_below n ps t.value t.first (All-tail (PlaceBelow n) p ps all)))

pub ruled_named : (st : Setting) (op : Operation) (places : List (Option Ty)) (n : ℕ) (types : List Ty) (r : Rule) → IsSetting st → all_there places ≡ Ok types
    → rule st op types n ≡ Ok r → All (PlaceBelow n) places → All (IsNamed (n + r.fresh)) r.assumed
ruled_named st op places n types r set there is below = rows_named st op types n r set.table is (there_below n places types there below)

-- ---- one by one

-- types behind those that are made
abbrev pub there_behind : List Ty → Ruling (List Ty) → Ruling (List Ty)
there_behind made (Ok types) = Ok (made ++ types)
there_behind made (Err fault) = Err fault

pub there_all : (answer : Ruling (List Ty)) → there_behind [] answer ≡ answer
there_all (Ok types) = refl
there_all (Err fault) = refl

pub there_end : (made : List Ty) → there_behind made (all_there []) ≡ Ok made
unfolding all_there
there_end made = ap (λ ts. let r : Ruling (List Ty) = Ok ts in r) (append-nil made)

there_one : (made : List Ty) (t : Ty) (others next : Ruling (List Ty)) → next ≡ there_behind (t ∷ []) others
    → there_behind made next ≡ there_behind (made ++ t ∷ []) others
there_one made t (Ok types) next e = ap (λ r. there_behind made r) e ∙ ap (λ ts. let r : Ruling (List Ty) = Ok ts in r) (sym (append_assoc made (t ∷ []) types))
there_one made t (Err fault) next e = ap (λ r. there_behind made r) e

front : (t : Ty) (ps : List (Option Ty)) (others : Ruling (List Ty)) → all_there ps ≡ others → all_there (Some t ∷ ps) ≡ there_behind (t ∷ []) others
unfolding all_there
front t ps (Ok types) e = rw e refl
front t ps (Err fault) e = rw e refl

-- a turn of the loop that reads them
pub there_turn : (made : List Ty) (t : Ty) (ps : List (Option Ty)) → there_behind made (all_there (Some t ∷ ps)) ≡ there_behind (made ++ t ∷ []) (all_there ps)
there_turn made t ps = there_one made t (all_there ps) (all_there (Some t ∷ ps)) (front t ps (all_there ps) refl)
