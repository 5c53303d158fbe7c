-- Allocated addresses worked out by hand.
use Rattle.std.proofs.Common.{ℤ, lit<, lit≤, pos, [], ◌∷◌, refl}
use Rattle.std.proofs.lemmas.Option.{none-some}
use Rattle.state_types.specs.Words.{header_from}
use Rattle.operation_rules.specs.FlatWords.{is_whole_from}
use Rattle.dtal_code.specs.Allocated.{IsAllocated}

-- two cells, then an empty block: the last word of the second block is allocated
second_block : IsAllocated (pos 2 ∷ pos 2 ∷ pos 7 ∷ pos 8 ∷ pos 4 ∷ pos 0 ∷ []) (pos 5)
unfolding header_from is_whole_from
second_block = record {
  divided = refl;
  block = 4;
  header = record { descriptor = pos 4; cells = pos 0 };
  begins = refl;
  number = 5;
  is = refl;
  from = lit≤ tt;
  within = lit< tt;
}

-- an empty store has no allocated address
empty_store : (address : ℤ) → IsAllocated [] address → ⊥
unfolding header_from
empty_store address allocated = absurd (none-some allocated.header allocated.begins)
