-- Stretches of object code: where each instruction of a piece stands.
use Rattle.std.proofs.Common.{◌≡◌, ℕ, zero, suc, ◌+◌, ◌<◌, List, [], ◌∷◌, ◌++◌, length, Some, slice_get, refl, sym, ap, subst, ◌∙◌, arith}
use Rattle.dtal_code.specs.declared.object.RunOp.{RunOp}

-- the piece stands at this number
pub record Has (ops : List RunOp) (at : ℕ) (piece : List RunOp) : Type 0 where
  pub by : (k : ℕ) (o : RunOp) → slice_get piece k ≡ Some o → slice_get ops (at + k) ≡ Some o

module _ (ops : List RunOp) where
  pub has_first : (at : ℕ) (o : RunOp) (piece : List RunOp) → Has ops at (o ∷ piece) → slice_get ops at ≡ Some o
  has_first at o piece h = let same : at + 0 ≡ at = omega arith in subst (λ n. slice_get ops n ≡ Some o) same (h.by 0 o refl)

  pub has_rest : (at : ℕ) (o : RunOp) (piece : List RunOp) → Has ops at (o ∷ piece) → Has ops (suc at) piece
  has_rest at o piece h = record { by = λ k p e. let same : at + suc k ≡ suc at + k = omega arith in subst (λ n. slice_get ops n ≡ Some p) same (h.by (suc k) p e) }

  front_get : (a b : List RunOp) (k : ℕ) (o : RunOp) → slice_get a k ≡ Some o → slice_get (a ++ b) k ≡ Some o
  front_get [] b k o e = absurd cc
  front_get (x ∷ a) b zero o e = e
  front_get (x ∷ a) b (suc k) o e = front_get a b k o e

  back_get : (a b : List RunOp) (k : ℕ) (o : RunOp) → slice_get b k ≡ Some o → slice_get (a ++ b) (length a + k) ≡ Some o
  back_get [] b k o e = let same : k ≡ 0 + k = omega arith in subst (λ n. slice_get b n ≡ Some o) same e
  back_get (x ∷ a) b k o e =
      let same : suc (length a + k) ≡ suc (length a) + k = omega arith in
      subst (λ n. slice_get (x ∷ (a ++ b)) n ≡ Some o) same (back_get a b k o e)

  pub has_front : (at : ℕ) (a b : List RunOp) → Has ops at (a ++ b) → Has ops at a
  has_front at a b h = record { by = λ k o e. h.by k o (front_get a b k o e) }

  pub has_back : (at : ℕ) (a b : List RunOp) → Has ops at (a ++ b) → Has ops (at + length a) b
  has_back at a b h = record { by = λ k o e. let same : at + (length a + k) ≡ (at + length a) + k = omega arith in subst (λ n. slice_get ops n ≡ Some o) same (h.by (length a + k) o (back_get a b k o e)) }
