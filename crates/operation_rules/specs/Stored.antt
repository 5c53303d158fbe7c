-- What is asked of a kind of store, and when a store fits its types.
use Rattle.std.specs.Prelude.{◌≡◌, ◌≢◌, ◌⊎◌, ℕ, ◌+◌, ◌*◌, ◌<◌, ℤ, pos, true, List, [], ◌∷◌, length, Some, Ok, slice_get}
use Rattle.std.specs.List.{AllZip}
use Rattle.index_sorts.specs.Entails.{AllHold}
use Rattle.state_types.specs.Words.{Header, Headers, cell_count, HasType, Keeps}
use Rattle.state_types.specs.declared.closed.Packed.{Packed}
use Rattle.operation_rules.specs.Effects.{Stores, cells_from}
use Rattle.operation_rules.specs.Rules.{cell_at, tuple_at}

module _ {S : Type 0} (stores : Stores S) where
  -- the store in which one cell was written: all headers stay, and each other cell
  pub record IsWritten (store : S) (address index : ℕ) (word : ℤ) (new : S) : Type 0 where
    pub whole : stores.whole new ≡ true
    pub headers : (block : ℕ) → stores.headers new block ≡ stores.headers store block
    pub here : stores.cell new address index ≡ Some word
    pub others : (block number : ℕ) (header : Header) → stores.headers store block ≡ Some header → number < cell_count header.cells
        → (block ≢ address) ⊎ (number ≢ index) → stores.cell new block number ≡ stores.cell store block number

  -- the store with one block more, at an address where none began
  pub record IsMade (store : S) (descriptor : ℕ) (cells : List ℤ) (address : ℕ) (new : S) : Type 0 where
    pub whole : stores.whole new ≡ true
    pub keeps : Keeps (stores.headers store) (stores.headers new)
    pub begins : stores.headers new address ≡ Some (record { descriptor = pos descriptor; cells = pos (length cells) })
    pub only : (block : ℕ) (header : Header) → stores.headers new block ≡ Some header → (stores.headers store block ≡ Some header) ⊎ (block ≡ address)
    pub old : (block number : ℕ) (header : Header) → stores.headers store block ≡ Some header → number < cell_count header.cells
        → stores.cell new block number ≡ stores.cell store block number
    pub fresh : (number : ℕ) → number < length cells → stores.cell new address number ≡ slice_get cells number

  pub record IsStores : Type 0 where
    pub writes : (store : S) (address index : ℕ) (word : ℤ) (header : Header) → stores.whole store ≡ true → stores.headers store address ≡ Some header
        → index < cell_count header.cells → IsWritten store address index word (stores.written store address index word)
    pub makes : (store : S) (descriptor : ℕ) (cells : List ℤ) → stores.whole store ≡ true
        → IsMade store descriptor cells (stores.made store descriptor cells).0 (stores.made store descriptor cells).1

-- ---- types of stores

-- these words are parts of a closed type, for some values of its variables for which its rows hold
pub record Packs (headers : Headers) (packed : Packed) (words : List ℤ) : Type 0 where
  pub own : List ℤ
  pub one_each : length own ≡ packed.vars
  pub hold : AllHold own packed.rows
  pub fit : AllZip (HasType headers own) words packed.parts

module _ {S : Type 0} (stores : Stores S) (table : List Packed) (store : S) where
  -- a cell holds a word of the closed type
  pub record CellFits (packed : Packed) (block number : ℕ) : Type 0 where
    pub word : ℤ
    pub there : stores.cell store block number ≡ Some word
    pub packs : Packs (stores.headers store) packed (word ∷ [])

  -- an array: descriptor 2p, and each cell of the type p
  pub record ArrayFits (block : ℕ) (header : Header) : Type 0 where
    pub element : ℕ
    pub count : ℕ
    pub is : (let h : Header = record { descriptor = pos (2 * element); cells = pos count } in h) ≡ header
    pub packed : Packed
    pub there : cell_at table element ≡ Ok packed
    pub cells : (number : ℕ) → number < count → CellFits packed block number

  -- a tuple: descriptor 2p + 1, and as many cells as parts
  pub record TupleFits (block : ℕ) (header : Header) : Type 0 where
    pub number : ℕ
    pub packed : Packed
    pub there : tuple_at table number ≡ Ok packed
    pub is : (let h : Header = record { descriptor = pos (2 * number + 1); cells = pos (length packed.parts) } in h) ≡ header
    pub words : List ℤ
    pub cells : cells_from stores store block 0 (length packed.parts) ≡ Some words
    pub packs : Packs (stores.headers store) packed words

  -- its blocks are whole, and each fits its type
  pub record StoreFits : Type 0 where
    pub whole : stores.whole store ≡ true
    pub blocks : (block : ℕ) (header : Header) → stores.headers store block ≡ Some header → ArrayFits block header ⊎ TupleFits block header
