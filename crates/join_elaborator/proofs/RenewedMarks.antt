-- Types that are renewed by marks are those that are renewed by what blocks change, where each variable has a place.
use Rattle.std.proofs.Common.{◌≡◌, ◌∙◌, ◌<◌, ℕ, suc, Bool as Truth, List, [], ◌∷◌, nat_lt, Ok, refl, ap}
use Rattle.std.specs.Prelude.{◌&&◌, not}
use Rattle.xan_lin.specs.declared.term.LimitKind.TheVariants as limit
use Rattle.state_types.proofs.Thens.{then_ok}
use Rattle.state_types.specs.declared.types.Ty.{Ty}
use Rattle.typed_core.specs.Joins.{Renewed, few_places, has_index, is_named, is_renewed, renewed, with_entry}
use Rattle.typed_core.specs.Limits.{within}
use Rattle.xanadu_tree.specs.declared.types.CoreTy.{CoreTy}
use Rattle.join_elaborator.specs.Changed.{is_marked, marked, no_marks}
use Rattle.join_elaborator.proofs.Marks.{marked_exactly}
use Rattle.join_elaborator.proofs.PlaceLists.{few_by}

pub renewed_by_marks : (f : ℕ → Truth) (marks : List Truth) (vars : List (ℕ × CoreTy)) (first : ℕ) (entries : List (ℕ × Ty)) (made : Renewed)
    → marks ≡ marked f 0 no_marks → few_places entries ≡ Ok tt
    → renewed (is_marked marks) vars first entries made ≡ renewed f vars first entries made
unfolding renewed few_places
renewed_by_marks f marks vars first [] made same few = refl
renewed_by_marks f marks vars first (x ∷ xs) made same few =
    let s = then_ok (within limit.Places (suc x.0)) (λ few. few_places xs) tt few in
    let here : x.0 < 240 = few_by (nat_lt 240 (suc x.0)) x.0 0 240 refl s.first in
    let changed = ap (λ (ms : List Truth). is_marked ms x.0) same ∙ marked_exactly f x.0 here in
    renewed_by_marks f marks vars first xs (with_entry (is_renewed (is_marked marks) vars x) first x made) same s.second
    ∙ ap (λ (b : Truth). renewed f vars first xs (with_entry (has_index x.1 && b && not (is_named x.0 vars)) first x made)) changed
