-- A table of words behind another one.
use Rattle.std.proofs.Common.{◌≡◌, ℕ, Bool, List, [], ◌∷◌, ◌++◌, min, codes, Result, Ok, Err, refl, sym, ap, append_assoc}
use Rattle.xan_read.specs.Combinators.{literal}
use Rattle.xan_read.specs.Words.{Table, word_from, or_else}
use Rattle.dtal_text.specs.LineReading.{instr_words, where_it_may, words_in}
use Rattle.dtal_text.specs.declared.line.Which.{Which}
use Rattle.dtal_text.specs.declared.word.LineWord.{LineWord}
use Rattle.dtal_text.specs.declared.word.LineWord.TheVariants as line_word

module _ {A : Type 0} (b : Table A) (bytes : List ℕ) where
  same_fault : (m n : ℕ) → word_from {A = A} m [] bytes ≡ Err n → m ≡ n
  unfolding word_from
  same_fault m n e = cc

  -- a word of the first comes
  found_step : (left : ℕ) (entry : List ℕ × A) (a : Table A) (x : A × List ℕ) → ((n : ℕ) → word_from n a bytes ≡ Ok x → word_from n (a ++ b) bytes ≡ Ok x) → (read : Result (List ℕ) ℕ)
      → or_else read entry.1 (λ n. word_from (min left n) a bytes) ≡ Ok x → or_else read entry.1 (λ n. word_from (min left n) (a ++ b) bytes) ≡ Ok x
  found_step left entry a x others (Ok rest) e = e
  found_step left entry a x others (Err n) e = others (min left n) e

  pub word_found : (left : ℕ) (a : Table A) (x : A × List ℕ) → word_from left a bytes ≡ Ok x → word_from left (a ++ b) bytes ≡ Ok x
  unfolding word_from
  word_found left [] x e = absurd cc
  word_found left (entry ∷ a) x e = found_step left entry a x (λ n. word_found n a x) (literal entry.0 bytes) e

  -- none does
  none_step : (left : ℕ) (entry : List ℕ × A) (a : Table A) (n : ℕ) → ((m : ℕ) → word_from m a bytes ≡ Err n → word_from m (a ++ b) bytes ≡ word_from n b bytes) → (read : Result (List ℕ) ℕ)
      → or_else read entry.1 (λ m. word_from (min left m) a bytes) ≡ Err n → or_else read entry.1 (λ m. word_from (min left m) (a ++ b) bytes) ≡ word_from n b bytes
  none_step left entry a n others (Ok rest) e = absurd cc
  none_step left entry a n others (Err m) e = others (min left m) e

  pub word_goes_on : (left : ℕ) (a : Table A) (n : ℕ) → word_from left a bytes ≡ Err n → word_from left (a ++ b) bytes ≡ word_from n b bytes
  unfolding word_from
  word_goes_on left [] n e = ap (λ m. word_from m b bytes) (same_fault left n e)
  word_goes_on left (entry ∷ a) n e = none_step left entry a n (λ m. word_goes_on m a n) (literal entry.0 bytes) e

-- no word may come
pub none_come : (left : ℕ) (bytes : List ℕ) → word_from {A = LineWord} left [] bytes ≡ Err left
unfolding word_from
none_come left bytes = refl

-- the words of a line, as they are looked for
pub words_grouped : (instrs : Which) (by label end : Bool) → words_in instrs by label end
    ≡ (instr_words instrs ++ where_it_may by (codes "by ", line_word.By)) ++ (where_it_may label (codes "label ", line_word.Label) ++ where_it_may end (codes "end\n", line_word.End))
words_grouped instrs by label end =
    sym (append_assoc (instr_words instrs) (where_it_may by (codes "by ", line_word.By)) (where_it_may label (codes "label ", line_word.Label) ++ where_it_may end (codes "end\n", line_word.End)))
