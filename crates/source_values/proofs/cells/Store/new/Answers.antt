use Rattle.std.proofs.Common.{◌≡◌, List, [], ◌∷◌, refl, arith}
use Rattle.typed_core.specs.SourceValues.{Block, used}
use Rattle.source_values.proofs.cells.Store.new.Goals as goal

pub none_used : (blocks : List Block) → blocks ≡ [] → 0 ≡ used blocks
unfolding used
none_used [] e = refl
none_used (b ∷ bs) e = absurd (let bad : ⊥ = cc in bad)

pub invariant_of-result : goal.invariant_of-result
invariant_of-result c = (none_used c.new.result.items c.new.ensures.items, omega arith, c.requires)
