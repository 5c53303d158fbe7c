-- A store of flat words, as the machine has it: blocks from address 0 on, each a descriptor, a length and its cells.
use Rattle.std.specs.Prelude.{ℕ, ◌+◌, ℤ, pos, Bool, true, false, List, [], ◌∷◌, ◌++◌, length, slice_get, slice_set, nat_le}
use Rattle.state_types.specs.Words.{Point, AtBlock, AtLength, AtCell, at_cells, cell_count, header_at}
use Rattle.operation_rules.specs.Effects.{Stores}

-- the used words, and how many there may be
pub record Flat : Type 0 where
  pub words : List ℤ
  pub heap : ℕ

-- a length is at least 0
abbrev pub is_length : ℤ → Bool
is_length (pos n) = true
is_length _ = false

-- the walk of headers ends where a block would begin, and all lengths are at least 0
unfoldable pub is_whole_from : Point → List ℤ → Bool
is_whole_from AtBlock [] = true
is_whole_from AtLength [] = false
is_whole_from (AtCell more) [] = false
is_whole_from AtBlock (word ∷ words) = is_whole_from AtLength words
is_whole_from AtLength (word ∷ words) = if_length (is_length word) (is_whole_from (at_cells (cell_count word)) words)
  where
    if_length : Bool → Bool → Bool
    if_length true rest = rest
    if_length false rest = false
is_whole_from (AtCell more) (word ∷ words) = is_whole_from (at_cells more) words

abbrev pub is_whole : List ℤ → Bool
is_whole words = is_whole_from AtBlock words

abbrev pub block_words : ℕ → List ℤ → List ℤ
block_words descriptor cells = pos descriptor ∷ pos (length cells) ∷ cells

abbrev pub flat_words : Stores Flat
flat_words = record {
  whole = λ store. is_whole store.words;
  headers = λ store. header_at store.words;
  cell = λ store address index. slice_get store.words (address + 2 + index);
  written = λ store address index word. record store { words = slice_set store.words (address + 2 + index) word };
  room = λ store count. nat_le (length store.words + count) store.heap;
  made = λ store descriptor cells. (length store.words, record store { words = store.words ++ block_words descriptor cells });
}
