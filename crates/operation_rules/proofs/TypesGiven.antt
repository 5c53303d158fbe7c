-- Given types one by one.
use Rattle.std.proofs.Common.{◌≡◌, ◌∙◌, List, [], ◌∷◌, ◌++◌, append_assoc, append-nil, Result, Ok, Err, refl, sym, ap}
use Rattle.xan_lin.specs.declared.term.TooLarge.{TooLarge}
use Rattle.state_types.specs.declared.types.Ty.{Ty}
use Rattle.operation_rules.specs.Applied.{all_given}

-- types behind those that are made
abbrev pub given_behind : List Ty → Result (List Ty) TooLarge → Result (List Ty) TooLarge
given_behind made (Ok types) = Ok (made ++ types)
given_behind made (Err why) = Err why

pub given_all : (answer : Result (List Ty) TooLarge) → given_behind [] answer ≡ answer
given_all (Ok types) = refl
given_all (Err why) = refl

pub given_end : (made : List Ty) → given_behind made (all_given []) ≡ Ok made
unfolding all_given
given_end made = ap (λ ts. let r : Result (List Ty) TooLarge = Ok ts in r) (append-nil made)

given_one : (made : List Ty) (t : Ty) (others : Result (List Ty) TooLarge) (next : Result (List Ty) TooLarge) → next ≡ given_behind (t ∷ []) others
    → given_behind made next ≡ given_behind (made ++ t ∷ []) others
given_one made t (Ok types) next e = ap (λ r. given_behind made r) e ∙ ap (λ ts. let r : Result (List Ty) TooLarge = Ok ts in r) (sym (append_assoc made (t ∷ []) types))
given_one made t (Err why) next e = ap (λ r. given_behind made r) e

front : (t : Ty) (ts : List (Result Ty TooLarge)) (others : Result (List Ty) TooLarge) → all_given ts ≡ others → all_given (Ok t ∷ ts) ≡ given_behind (t ∷ []) others
unfolding all_given
front t ts (Ok types) e = rw e refl
front t ts (Err why) e = rw e refl

-- a turn of the loop that takes them
pub given_turn : (made : List Ty) (t : Ty) (ts : List (Result Ty TooLarge)) → given_behind made (all_given (Ok t ∷ ts)) ≡ given_behind (made ++ t ∷ []) (all_given ts)
given_turn made t ts = given_one made t (all_given ts) (all_given (Ok t ∷ ts)) (front t ts (all_given ts) refl)

pub given_fault : (made : List Ty) (why : TooLarge) (ts : List (Result Ty TooLarge)) → given_behind made (all_given (Err why ∷ ts)) ≡ Err why
unfolding all_given
given_fault made why ts = refl
