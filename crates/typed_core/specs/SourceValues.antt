-- Values of a source, each with its tag, and the store of a source: separate blocks, named by their numbers.
use Rattle.std.specs.Prelude.{ℕ, zero, suc, ◌+◌, ℤ, pos, negsuc, Bool, true, false, List, [], ◌∷◌, ◌++◌, length, slice_get, Option, Some, None, nat_le}
use Rattle.state_types.specs.Words.{Header}
use Rattle.operation_rules.specs.Effects.{Stores}

-- ---- values

pub data Tag : Type 0 where
  Number : Tag
  Truth : Tag
  Array : Tag
  Tuple : Tag

abbrev pub same_tag : Tag → Tag → Bool
same_tag Number Number = true
same_tag Truth Truth = true
same_tag Array Array = true
same_tag Tuple Tuple = true
same_tag _ _ = false

-- A number is itself, a truth value 0 or 1, and an array or a tuple is the number of its block.
pub record Value : Type 0 where
  pub tag : Tag
  pub word : ℤ

abbrev pub number : ℤ → Value
number n = record { tag = Number; word = n }

unfoldable pub words_of : List Value → List ℤ
words_of [] = []
words_of (v ∷ vs) = v.word ∷ words_of vs

-- as many values as there are tags, of these tags in turn
unfoldable pub have_tags : List Value → List Tag → Bool
have_tags [] [] = true
have_tags [] (t ∷ ts) = false
have_tags (v ∷ vs) [] = false
have_tags (v ∷ vs) (t ∷ ts) = both (same_tag v.tag t) (have_tags vs ts)
  where
    both : Bool → Bool → Bool
    both true rest = rest
    both false rest = false

-- words with tags in turn; words behind the tags are dropped
unfoldable pub with_tags : List Tag → List ℤ → List Value
with_tags [] words = []
with_tags (t ∷ ts) [] = []
with_tags (t ∷ ts) (w ∷ ws) = record { tag = t; word = w } ∷ with_tags ts ws

-- words with the tags of their numbers
unfoldable pub tagged : (ℕ → Tag) → List ℤ → List Value
tagged tags [] = []
tagged tags (w ∷ ws) = record { tag = tags 0; word = w } ∷ tagged (λ n. tags (suc n)) ws

abbrev pub tag_or : Option Value → Tag
tag_or None = Number
tag_or (Some v) = v.tag

-- the tag of one of some values
abbrev pub tag_at : List Value → ℕ → Tag
tag_at values n = tag_or (slice_get values n)

-- ---- blocks

pub record Block : Type 0 where
  -- 2p for an array of cells of type p, and 2p + 1 for a tuple of type p
  pub descriptor : ℕ
  pub cells : List Value

pub record Blocks : Type 0 where
  pub blocks : List Block
  -- how many words they may take
  pub heap : ℕ

-- each takes two words and its cells
unfoldable pub used : List Block → ℕ
used [] = 0
used (b ∷ bs) = length b.cells + 2 + used bs

abbrev pub header_in : Option Block → Option Header
header_in None = None
header_in (Some b) = Some (record { descriptor = pos b.descriptor; cells = pos (length b.cells) })

abbrev pub word_or : Option Value → Option ℤ
word_or None = None
word_or (Some v) = Some v.word

abbrev pub value_in : Option Block → (index : ℕ) → Option Value
value_in None index = None
value_in (Some b) index = slice_get b.cells index

-- the value of a cell
abbrev pub value_at : List Block → (block index : ℕ) → Option Value
value_at blocks block index = value_in (slice_get blocks block) index

-- a cell keeps its tag
unfoldable pub cells_with : List Value → (index : ℕ) → ℤ → List Value
cells_with [] index word = []
cells_with (v ∷ vs) zero word = record v { word = word } ∷ vs
cells_with (v ∷ vs) (suc index) word = v ∷ cells_with vs index word

unfoldable pub blocks_with : List Block → (block index : ℕ) → ℤ → List Block
blocks_with [] block index word = []
blocks_with (b ∷ bs) zero index word = record b { cells = cells_with b.cells index word } ∷ bs
blocks_with (b ∷ bs) (suc block) index word = b ∷ blocks_with bs block index word

-- They are a kind of store, in which a block's address is its number. The cells of a new block have these tags, by their numbers.
abbrev pub separate : (ℕ → Tag) → Stores Blocks
separate tags = record {
  whole = λ store. true;
  headers = λ store block. header_in (slice_get store.blocks block);
  cell = λ store block index. word_or (value_at store.blocks block index);
  written = λ store block index word. record store { blocks = blocks_with store.blocks block index word };
  room = λ store count. nat_le (used store.blocks + count) store.heap;
  made = λ store descriptor cells. (length store.blocks, record store { blocks = store.blocks ++ record { descriptor = descriptor; cells = tagged tags cells } ∷ [] });
}

-- ---- what a block that a word names holds

abbrev pub cells_of : Blocks → ℤ → List Value
cells_of store (pos block) = cells_in (slice_get store.blocks block)
  where
    cells_in : Option Block → List Value
    cells_in None = []
    cells_in (Some b) = b.cells
cells_of store (negsuc n) = []

unfoldable pub tags_of : List Value → List Tag
tags_of [] = []
tags_of (v ∷ vs) = v.tag ∷ tags_of vs

-- the tag of a cell of it, by an index that is a word
abbrev pub cell_tag : Blocks → (block index : ℤ) → Tag
cell_tag store block (pos index) = tag_at (cells_of store block) index
cell_tag store block (negsuc n) = Number
