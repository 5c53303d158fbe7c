use Rattle.std.proofs.Common.{rules, ◌≡◌, ◌≤◌, ℕ, List, length, sym, subst}
use Rattle.dtal_text.proofs.ListedPlaces.{few_listed}
use Rattle.dtal_text.proofs.operands.read_places.Goals as goal

pub as_array-requires : goal.as_array-requires
as_array-requires c =
    let same : c.as_slice.result.now ≡ c.in_ok-listed.listed.items = search rules in
    subst (λ (xs : List ℕ). length xs ≤ 8) (sym same) (few_listed _ _ _ c.in_ok-listed.ensures)
