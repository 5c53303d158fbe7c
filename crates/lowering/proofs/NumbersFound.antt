-- The number of a label names its position.
use Rattle.std.proofs.Common.{◌≡◌, ℕ, zero, suc, ◌==◌, List, [], ◌∷◌, slice_get, true, false, Some, refl, ap, inl, inr, arith}
use Rattle.std.proofs.lemmas.Bool.{eqb-true}
use Rattle.std.proofs.lemmas.Bool.Decides.{nat_tests}
use Rattle.xanadu_tree.specs.KindRules.{IsAmong}
use Rattle.three_address.specs.declared.instruction.LowInstr.{LowInstr}
use Rattle.three_address.specs.Flow.{label_at}
use Rattle.lowering.specs.Lowered.{leads, next_number, number_of, renumbered, numbered}

pub number_names : (labels : List ℕ) (position : ℕ) → IsAmong labels position → label_at labels (number_of labels position) ≡ Some position
unfolding number_of
number_names [] position h = elim h [ ]
number_names (label ∷ labels) position h =
    elim (label == position) as (λ b. (label == position) ≡ b → label_at (label ∷ labels) (next_number b (number_of labels position)) ≡ Some position) [
      | true ↦ λ e. ap Some (eqb-true label position e)
      | false ↦ λ e. later label labels position (number_of labels position) (number_names labels position (rest h e))
    ] refl
  where
    later : (label : ℕ) (labels : List ℕ) (position number : ℕ) → label_at labels number ≡ Some position → label_at (label ∷ labels) (suc number) ≡ Some position
    later label labels position zero e = cc
    later label labels position (suc n) e = e

    not_same : (label position : ℕ) → position ≡ label → (label == position) ≡ false → ⊥
    not_same label position e f = grind (arith, nat_tests)

    rest : IsAmong (label ∷ labels) position → (label == position) ≡ false → IsAmong labels position
    rest (inl same) f = absurd (not_same label position same f)
    rest (inr k) f = k

-- an instruction of the numbered code
pub numbered_at : (labels : List ℕ) (code : List LowInstr) (at : ℕ) (i : LowInstr) → slice_get code at ≡ Some i
    → slice_get (numbered labels code) at ≡ Some (renumbered labels (leads i.op) i)
numbered_at labels [] at i e = cc
numbered_at labels (j ∷ code) zero i e = same (λ x. renumbered labels (leads x.op) x) j i e
  where
    same : (f : LowInstr → LowInstr) (j i : LowInstr) → Some j ≡ Some i → Some (f j) ≡ Some (f i)
    same f j i e = cc
numbered_at labels (j ∷ code) (suc at) i e = numbered_at labels code at i e
