-- What an operation does to words: over any kind of store, since the source has separate blocks and the machine flat words.
use Rattle.std.specs.Prelude.{ℕ, zero, suc, ◌+◌, ◌*◌, ◌^◌, ℤ, pos, negsuc, ◌+ℤ◌, ◌-ℤ◌, ◌*ℤ◌, Bool, true, false, not, List, [], ◌∷◌, length, replicate, Option, Some, None, nat_lt, nat_le, int_lt, int_le}
use Rattle.std.specs.Int.{int_div_euclid, int_rem_euclid}
use Rattle.std.specs.Ordering.{int_eq}
use Rattle.xan_io.specs.Outcome.{How, NoStore, Overflow, Stuck}
use Rattle.state_types.specs.Words.{Header, Headers, cell_count}
use Rattle.operation_rules.specs.Operations.{Operation, Literal, Truth, Move, Add, Sub, Mul, Div, Mod, Compare, Branch, BranchTruth, Jump, Call, Return, Length, Load, Store, New, Tuple, Untuple, Print}

-- ---- stores

-- How a kind of store is read and written. A block is named by its address; `written` and `cell` are asked only for cells that its header
-- gives it.
pub record Stores (S : Type 0) : Type 0 where
  -- its blocks are whole, none cut off
  pub whole : S → Bool
  pub headers : S → Headers
  pub cell : S → (address index : ℕ) → Option ℤ
  pub written : S → (address index : ℕ) → ℤ → S
  -- there is room for so many words more
  pub room : S → ℕ → Bool
  -- the address of a new block of this descriptor with these cells, and the store with it
  pub made : S → (descriptor : ℕ) → List ℤ → ℕ × S

-- ---- effects

pub data Effect (S : Type 0) : Type 0 where
  -- words for the places that are written, and the store then
  Writes : List ℤ → S → Effect S
  Prints : ℤ → Effect S
  -- goes elsewhere, or on
  Takes : Bool → Effect S
  -- the function begins with these words
  Calls : (fun : ℕ) → List ℤ → Effect S
  -- the word is the function's result
  Gives : ℤ → Effect S
  Ends : How → Effect S

-- ---- numbers

-- the number fits a word
abbrev pub fits_word : ℤ → Bool
fits_word (pos n) = nat_lt n (2 ^ 63)
fits_word (negsuc n) = nat_lt n (2 ^ 63)

abbrev pub truth_word : Bool → ℤ
truth_word true = pos 1
truth_word false = pos 0

abbrev pub compares : ℕ → ℤ → ℤ → Bool
compares zero a b = int_lt a b
compares (suc zero) a b = int_le a b
compares (suc (suc zero)) a b = int_eq a b
compares (suc (suc (suc n))) a b = not (int_eq a b)

module _ {S : Type 0} (stores : Stores S) where
  abbrev pub stuck : Effect S
  stuck = Ends Stuck

  abbrev pub writes_one : ℤ → S → Effect S
  writes_one word store = Writes (word ∷ []) store

  -- an exact result, where it is a word
  abbrev pub writes_exact : Bool → ℤ → S → Effect S
  writes_exact true word store = writes_one word store
  writes_exact false word store = Ends Overflow

  -- the divisor is at least 1
  abbrev pub divided : (ℤ → ℤ → ℤ) → ℤ → ℤ → S → Effect S
  divided result a (pos zero) store = stuck
  divided result a (pos (suc n)) store = writes_one (result a (pos (suc n))) store
  divided result a (negsuc n) store = stuck

  -- ---- blocks

  -- the header of the block that a word names
  abbrev pub header_of : S → ℤ → Option Header
  header_of store (pos address) = stores.headers store address
  header_of store (negsuc n) = None

  -- the number of a cell, where it is one of so many
  abbrev pub index_within : ℤ → ℤ → Option ℕ
  index_within cells (pos index) = index_if (nat_lt index (cell_count cells)) index
    where
      index_if : Bool → ℕ → Option ℕ
      index_if true index = Some index
      index_if false index = None
  index_within cells (negsuc n) = None

  abbrev pub measures : Option Header → S → Effect S
  measures None store = stuck
  measures (Some header) store = writes_one header.cells store

  abbrev pub reads_word : Option ℤ → S → Effect S
  reads_word None store = stuck
  reads_word (Some word) store = writes_one word store

  abbrev pub reads_at : Option ℕ → (address : ℕ) → S → Effect S
  reads_at None address store = stuck
  reads_at (Some index) address store = reads_word (stores.cell store address index) store

  abbrev pub loads_from : Option Header → (address : ℕ) → ℤ → S → Effect S
  loads_from None address index store = stuck
  loads_from (Some header) address index store = reads_at (index_within header.cells index) address store

  abbrev pub loads : ℤ → ℤ → S → Effect S
  loads (pos address) index store = loads_from (stores.headers store address) address index store
  loads (negsuc n) index store = stuck

  abbrev pub puts_at : Option ℕ → (address : ℕ) → ℤ → S → Effect S
  puts_at None address word store = stuck
  puts_at (Some index) address word store = Writes [] (stores.written store address index word)

  abbrev pub puts_into : Option Header → (address : ℕ) → ℤ → ℤ → S → Effect S
  puts_into None address index word store = stuck
  puts_into (Some header) address index word store = puts_at (index_within header.cells index) address word store

  abbrev pub puts : ℤ → ℤ → ℤ → S → Effect S
  puts (pos address) index word store = puts_into (stores.headers store address) address index word store
  puts (negsuc n) index word store = stuck

  -- the first so many cells of a block, from a number on
  unfoldable pub cells_from : S → (address index count : ℕ) → Option (List ℤ)
  cells_from store address index zero = Some []
  cells_from store address index (suc count) = with_first (stores.cell store address index) (cells_from store address (suc index) count)
    where
      with_first : Option ℤ → Option (List ℤ) → Option (List ℤ)
      with_first None others = None
      with_first (Some word) None = None
      with_first (Some word) (Some words) = Some (word ∷ words)

  abbrev pub splits_cells : Option (List ℤ) → S → Effect S
  splits_cells None store = stuck
  splits_cells (Some words) store = Writes words store

  -- as many cells as places at least
  abbrev pub splits_if : Bool → (address count : ℕ) → S → Effect S
  splits_if true address count store = splits_cells (cells_from store address 0 count) store
  splits_if false address count store = stuck

  abbrev pub splits_block : Option Header → (address count : ℕ) → S → Effect S
  splits_block None address count store = stuck
  splits_block (Some header) address count store = splits_if (nat_le count (cell_count header.cells)) address count store

  abbrev pub splits : ℤ → (count : ℕ) → S → Effect S
  splits (pos address) count store = splits_block (stores.headers store address) address count store
  splits (negsuc n) count store = stuck

  abbrev pub names_made : ℕ × S → Effect S
  names_made made = writes_one (pos made.0) made.1

  -- a block of a descriptor with so many equal cells, or with these
  abbrev pub makes_equal : (room : Bool) → (descriptor count : ℕ) → ℤ → S → Effect S
  makes_equal true descriptor count word store = names_made (stores.made store descriptor (replicate count word))
  makes_equal false descriptor count word store = Ends NoStore

  abbrev pub makes_array : (cells : ℕ) → (length fill : ℤ) → S → Effect S
  makes_array cells (pos n) fill store = makes_equal (stores.room store (n + 2)) (2 * cells) n fill store
  makes_array cells (negsuc n) fill store = stuck

  abbrev pub makes_tuple : (room : Bool) → (number : ℕ) → List ℤ → S → Effect S
  makes_tuple true number words store = names_made (stores.made store (2 * number + 1) words)
  makes_tuple false number words store = Ends NoStore

  -- ---- operations, by the words read; another number of words is stuck

  abbrev pub with_none : List ℤ → Effect S → Effect S
  with_none [] effect = effect
  with_none (w ∷ ws) effect = stuck

  abbrev pub with_one : List ℤ → (ℤ → Effect S) → Effect S
  with_one (a ∷ []) effect = effect a
  with_one _ effect = stuck

  abbrev pub with_two : List ℤ → (ℤ → ℤ → Effect S) → Effect S
  with_two (a ∷ b ∷ []) effect = effect a b
  with_two _ effect = stuck

  abbrev pub with_three : List ℤ → (ℤ → ℤ → ℤ → Effect S) → Effect S
  with_three (a ∷ b ∷ c ∷ []) effect = effect a b c
  with_three _ effect = stuck

  abbrev pub effect : Operation → List ℤ → S → Effect S
  effect (Literal n) words store = with_none words (writes_one n store)
  effect (Truth b) words store = with_none words (writes_one (truth_word b) store)
  effect Move words store = with_one words (λ a. writes_one a store)
  effect Add words store = with_two words (λ a b. writes_exact (fits_word (a +ℤ b)) (a +ℤ b) store)
  effect Sub words store = with_two words (λ a b. writes_exact (fits_word (a -ℤ b)) (a -ℤ b) store)
  effect Mul words store = with_two words (λ a b. writes_exact (fits_word (a *ℤ b)) (a *ℤ b) store)
  effect Div words store = with_two words (λ a b. divided int_div_euclid a b store)
  effect Mod words store = with_two words (λ a b. divided int_rem_euclid a b store)
  effect (Compare c) words store = with_two words (λ a b. writes_one (truth_word (compares c a b)) store)
  effect (Branch c) words store = with_two words (λ a b. Takes (compares c a b))
  effect (BranchTruth b) words store = with_one words (λ a. Takes (int_eq a (truth_word b)))
  effect Jump words store = with_none words (Takes true)
  effect (Call fun) words store = Calls fun words
  effect Return words store = with_one words (λ a. Gives a)
  effect Length words store = with_one words (λ a. measures (header_of store a) store)
  effect Load words store = with_two words (λ a i. loads a i store)
  effect Store words store = with_three words (λ a i v. puts a i v store)
  effect (New cells) words store = with_two words (λ n v. makes_array cells n v store)
  effect (Tuple number) words store = makes_tuple (stores.room store (length words + 2)) number words store
  effect (Untuple number count) words store = with_one words (λ a. splits a count store)
  effect Print words store = with_one words (λ a. Prints a)
