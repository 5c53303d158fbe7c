-- The instructions that the words of an object code.
use Rattle.std.specs.Prelude.{◌≡◌, ℕ, ◌+◌, ◌*◌, ◌<◌, List, [], ◌∷◌, length, Option, Some, None}
use Rattle.std.specs.List.{slice_get, slice_index_or}
use Rattle.dtal_code.specs.declared.object.RunOp.{RunOp}
use Rattle.dtal_code.specs.Guessed.{guessed}
use Rattle.dtal_code.specs.ObjectCode.{Code}
use Rattle.dtal_code.specs.ObjectWords.{IsPair}

abbrev pub before_others : Option RunOp → List RunOp → List RunOp
before_others None ops = []
before_others (Some op) ops = op ∷ ops

-- two words an instruction, up to the first pair that codes none
unfoldable pub ops_in : (words : List ℕ) → List RunOp
ops_in [] = []
ops_in (first ∷ []) = []
ops_in (first ∷ second ∷ words) = before_others (guessed first second) (ops_in words)

abbrev pub code_in : (words starts : List ℕ) → Code
code_in words starts = record { ops = ops_in words; starts = starts }

-- An instruction of this number is there, and two words code it.
pub record StandsAt (words : List ℕ) (at : ℕ) : Type 0 where
  pub op : RunOp
  pub here : slice_get (ops_in words) at ≡ Some op
  pub within : 2 * at + 1 < length words
  pub pair : IsPair (slice_index_or words (2 * at) 0) (slice_index_or words (2 * at + 1) 0) op
