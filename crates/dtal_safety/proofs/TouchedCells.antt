-- Addresses that an operation touches are allocated when it is done, unless it is stuck.
use Rattle.std.proofs.Common.{◌≡◌, ◌≢◌, ◌∙◌, ℕ, zero, suc, ◌+◌, ◌*◌, ◌≤◌, ◌<◌, ℤ, pos, negsuc, ◌+ℤ◌, List, [], ◌∷◌, ◌++◌, cond, length, replicate, nat_lt, Bool as Test, true, false, Option, Some, None, refl, sym, subst, arith}
use Rattle.std.specs.Prelude.{nat_le, slice_get}
use Rattle.std.specs.List.{All}
use Rattle.std.proofs.lemmas.Bool.{leb-true}
use Rattle.std.proofs.lemmas.List.{length-replicate}
use Rattle.std.proofs.lemmas.List.Elements.{All-nil, All-cons}
use Rattle.xan_io.specs.Outcome.{Stuck}
use Rattle.xan_seq.proofs.NumberTests.{is_less}
use Rattle.state_types.specs.Words.{Header, cell_count, header_at}
use Rattle.operation_rules.specs.Effects.{Effect, Writes, Ends, header_of, index_within, measures, reads_word, reads_at, loads_from, loads, puts_at, puts_into, puts, cells_from, splits_cells, splits_if, splits_block, splits, makes_equal, makes_tuple, effect}
use Rattle.operation_rules.specs.FlatWords.{Flat, is_whole, block_words, flat_words}
use Rattle.operation_rules.specs.declared.operation.Operation.{Operation}
use Rattle.operation_rules.specs.declared.operation.Operation.TheVariants.{Literal, Truth, Move, Add, Sub, Mul, Div, Mod, Compare, Branch, BranchTruth, Jump, Call, Return, Length, Load, Store, New, Tuple, Untuple, Print}
use Rattle.operation_rules.proofs.FlatStores.{flat_stores}
use Rattle.dtal_code.specs.Machine.{State}
use Rattle.dtal_code.specs.Running.{store_of}
use Rattle.dtal_code.specs.Safety.{addresses_from, touches}
use Rattle.dtal_code.specs.Allocated.{IsAllocated}

-- the used words behind an effect
abbrev pub left_by : State → Effect Flat → List ℤ
left_by state (Writes words new) = new.words
left_by state _ = state.words

-- unless it is stuck, all of these addresses are allocated behind it
unfoldable pub Touching : State → List ℤ → Effect Flat → Type 0
Touching state addresses e = e ≢ Ends Stuck → All (IsAllocated (left_by state e)) addresses

-- ---- addresses

in_block : (words : List ℤ) (block number : ℕ) (header : Header) → is_whole words ≡ true → header_at words block ≡ Some header → block ≤ number
    → number < block + 2 + cell_count header.cells → IsAllocated words (pos number)
in_block words block number header whole begins from within = record {
  divided = whole;
  block = block;
  header = header;
  begins = begins;
  number = number;
  is = refl;
  from = from;
  within = within;
}

all_from : (words : List ℤ) (block number count : ℕ) (header : Header) → is_whole words ≡ true → header_at words block ≡ Some header → block ≤ number
    → number + count ≤ block + 2 + cell_count header.cells → All (IsAllocated words) (addresses_from (pos number) count)
unfolding addresses_from
all_from words block number zero header whole begins from within = All-nil (IsAllocated words)
all_from words block number (suc count) header whole begins from within =
    All-cons (IsAllocated words) (pos number) (addresses_from (pos number +ℤ pos 1) count) (in_block words block number header whole begins from (omega (arith, within)))
    (subst (λ z. All (IsAllocated words) (addresses_from z count)) (let e : pos (number + 1) ≡ pos number +ℤ pos 1 = refl in e)
    (all_from words block (number + 1) count header whole begins (omega (arith, from)) (omega (arith, within))))

module _ (state : State) (whole : is_whole state.words ≡ true) where
  touches_none : (e : Effect Flat) → Touching state [] e
  unfolding Touching
  touches_none e h = All-nil (IsAllocated (left_by state e))

  stuck_never : (addresses : List ℤ) → Touching state addresses (Ends Stuck)
  unfolding Touching
  stuck_never addresses h = absurd (h refl)

  one_touched : (words : List ℤ) (address : ℤ) (number : ℕ) → address ≡ pos number → IsAllocated words (pos number) → All (IsAllocated words) (address ∷ [])
  one_touched words address number is h =
      All-cons (IsAllocated words) address [] (subst (λ z. IsAllocated words z) (sym is) h) (All-nil (IsAllocated words))

  -- ---- lengths

  measured : (header : Option Header) (address : ℕ) → header_at state.words address ≡ header → Touching state ((pos address +ℤ pos 1) ∷ []) (measures flat_words header (store_of state))
  unfolding Touching
  measured None address is = λ h. absurd (h refl)
  measured (Some header) address is = λ h.
      one_touched state.words (pos address +ℤ pos 1) (address + 1) refl (in_block state.words address (address + 1) header whole is (omega arith) (omega arith))

  length_touched : (a : ℤ) → Touching state ((a +ℤ pos 1) ∷ []) (measures flat_words (header_of flat_words (store_of state) a) (store_of state))
  length_touched (pos address) = measured (header_at state.words address) address refl
  length_touched (negsuc n) = stuck_never _

  -- ---- cells

  word_read : (word : Option ℤ) (addresses : List ℤ) → All (IsAllocated state.words) addresses → Touching state addresses (reads_word flat_words word (store_of state))
  unfolding Touching
  word_read None addresses all = λ h. all
  word_read (Some word) addresses all = λ h. all

  cell_in : (address index : ℕ) (header : Header) → header_at state.words address ≡ Some header → index < cell_count header.cells
      → All (IsAllocated state.words) (((pos address +ℤ pos 2) +ℤ pos index) ∷ [])
  cell_in address index header is h =
      one_touched state.words ((pos address +ℤ pos 2) +ℤ pos index) ((address + 2) + index) refl
      (in_block state.words address ((address + 2) + index) header whole is (omega arith) (omega (arith, h)))

  read_touched : (within : Test) (address index : ℕ) (header : Header) → header_at state.words address ≡ Some header → nat_lt index (cell_count header.cells) ≡ within
      → Touching state (((pos address +ℤ pos 2) +ℤ pos index) ∷ []) (reads_at flat_words (index_within flat_words header.cells (pos index)) address (store_of state))
  read_touched true address index header is e =
      rw e (word_read (slice_get state.words (address + 2 + index)) _ (cell_in address index header is (is_less index (cell_count header.cells) e)))
  read_touched false address index header is e = rw e (stuck_never _)

  from_touched : (header : Option Header) (address : ℕ) (index : ℤ) → header_at state.words address ≡ header
      → Touching state (((pos address +ℤ pos 2) +ℤ index) ∷ []) (loads_from flat_words header address index (store_of state))
  from_touched None address index is = stuck_never _
  from_touched (Some header) address (pos index) is = read_touched (nat_lt index (cell_count header.cells)) address index header is refl
  from_touched (Some header) address (negsuc n) is = stuck_never _

  load_touched : (a i : ℤ) → Touching state (((a +ℤ pos 2) +ℤ i) ∷ []) (loads flat_words a i (store_of state))
  load_touched (pos address) i = from_touched (header_at state.words address) address i refl
  load_touched (negsuc n) i = stuck_never _

  put_in : (address index : ℕ) (word : ℤ) (header : Header) → header_at state.words address ≡ Some header → index < cell_count header.cells
      → Touching state (((pos address +ℤ pos 2) +ℤ pos index) ∷ []) (puts_at flat_words (Some index) address word (store_of state))
  unfolding Touching
  put_in address index word header is h = λ never.
      let put = flat_stores.writes (store_of state) address index word header whole is h in
      let new = (flat_words.written (store_of state) address index word).words in
      one_touched new ((pos address +ℤ pos 2) +ℤ pos index) ((address + 2) + index) refl
      (in_block new address ((address + 2) + index) header put.whole (put.headers address ∙ is) (omega arith) (omega (arith, h)))

  put_touched : (within : Test) (address index : ℕ) (word : ℤ) (header : Header) → header_at state.words address ≡ Some header → nat_lt index (cell_count header.cells) ≡ within
      → Touching state (((pos address +ℤ pos 2) +ℤ pos index) ∷ []) (puts_at flat_words (index_within flat_words header.cells (pos index)) address word (store_of state))
  put_touched false address index word header is e = rw e (stuck_never _)
  put_touched true address index word header is e = rw e (put_in address index word header is (is_less index (cell_count header.cells) e))

  into_touched : (header : Option Header) (address : ℕ) (index word : ℤ) → header_at state.words address ≡ header
      → Touching state (((pos address +ℤ pos 2) +ℤ index) ∷ []) (puts_into flat_words header address index word (store_of state))
  into_touched None address index word is = stuck_never _
  into_touched (Some header) address (pos index) word is = put_touched (nat_lt index (cell_count header.cells)) address index word header is refl
  into_touched (Some header) address (negsuc n) word is = stuck_never _

  store_touched : (a i v : ℤ) → Touching state (((a +ℤ pos 2) +ℤ i) ∷ []) (puts flat_words a i v (store_of state))
  store_touched (pos address) i v = into_touched (header_at state.words address) address i v refl
  store_touched (negsuc n) i v = stuck_never _

  -- ---- tuples' parts

  parts_read : (words : Option (List ℤ)) (addresses : List ℤ) → All (IsAllocated state.words) addresses → Touching state addresses (splits_cells flat_words words (store_of state))
  unfolding Touching
  parts_read None addresses all = λ h. all
  parts_read (Some words) addresses all = λ h. all

  enough_touched : (enough : Test) (address count : ℕ) (header : Header) → header_at state.words address ≡ Some header → nat_le count (cell_count header.cells) ≡ enough
      → Touching state (addresses_from (pos address +ℤ pos 2) count) (splits_if flat_words enough address count (store_of state))
  enough_touched false address count header is e = stuck_never _
  enough_touched true address count header is e =
      let h = leb-true count (cell_count header.cells) e in
      parts_read (cells_from flat_words (store_of state) address 0 count) _
      (all_from state.words address (address + 2) count header whole is (omega arith) (omega (arith, h)))

  block_touched : (header : Option Header) (address count : ℕ) → header_at state.words address ≡ header
      → Touching state (addresses_from (pos address +ℤ pos 2) count) (splits_block flat_words header address count (store_of state))
  block_touched None address count is = stuck_never _
  block_touched (Some header) address count is = enough_touched (nat_le count (cell_count header.cells)) address count header is refl

  split_touched : (a : ℤ) (count : ℕ) → Touching state (addresses_from (a +ℤ pos 2) count) (splits flat_words a count (store_of state))
  split_touched (pos address) count = block_touched (header_at state.words address) address count refl
  split_touched (negsuc n) count = stuck_never _

  -- ---- new blocks

  made_touched : (descriptor count : ℕ) (cells : List ℤ) → length cells ≡ count
      → All (IsAllocated (state.words ++ block_words descriptor cells)) (addresses_from (pos (length state.words)) (count + 2))
  made_touched descriptor count cells many =
      let made = flat_stores.makes (store_of state) descriptor cells whole in
      all_from (state.words ++ block_words descriptor cells) (length state.words) (length state.words) (count + 2)
      (record { descriptor = pos descriptor; cells = pos (length cells) }) made.whole made.begins (omega arith) (omega (arith, many))

  equal_touched : (room : Test) (descriptor count : ℕ) (word : ℤ)
      → Touching state (cond room (addresses_from (pos (length state.words)) (count + 2)) []) (makes_equal flat_words room descriptor count word (store_of state))
  unfolding Touching
  equal_touched true descriptor count word = λ h. made_touched descriptor count (replicate count word) (length-replicate count word)
  equal_touched false descriptor count word = λ h. All-nil (IsAllocated state.words)

  tuple_touched : (room : Test) (number : ℕ) (words : List ℤ)
      → Touching state (cond room (addresses_from (pos (length state.words)) (length words + 2)) []) (makes_tuple flat_words room number words (store_of state))
  unfolding Touching
  tuple_touched true number words = λ h. made_touched (2 * number + 1) (length words) words refl
  tuple_touched false number words = λ h. All-nil (IsAllocated state.words)

  -- ---- all operations

  pub touched_in : (op : Operation) (words : List ℤ) → Touching state (touches op state words) (effect flat_words op words (store_of state))
  touched_in (Literal n) words = touches_none _
  touched_in (Truth b) words = touches_none _
  touched_in Move words = touches_none _
  touched_in Add words = touches_none _
  touched_in Sub words = touches_none _
  touched_in Mul words = touches_none _
  touched_in Div words = touches_none _
  touched_in Mod words = touches_none _
  touched_in (Compare c) words = touches_none _
  touched_in (Branch c) words = touches_none _
  touched_in (BranchTruth b) words = touches_none _
  touched_in Jump words = touches_none _
  touched_in (Call fun) words = touches_none _
  touched_in Return words = touches_none _
  touched_in Print words = touches_none _
  touched_in Length [] = touches_none _
  touched_in Length (a ∷ []) = length_touched a
  touched_in Length (a ∷ b ∷ words) = touches_none _
  touched_in Load [] = touches_none _
  touched_in Load (a ∷ []) = touches_none _
  touched_in Load (a ∷ i ∷ []) = load_touched a i
  touched_in Load (a ∷ i ∷ c ∷ words) = touches_none _
  touched_in Store [] = touches_none _
  touched_in Store (a ∷ []) = touches_none _
  touched_in Store (a ∷ i ∷ []) = touches_none _
  touched_in Store (a ∷ i ∷ v ∷ []) = store_touched a i v
  touched_in Store (a ∷ i ∷ v ∷ d ∷ words) = touches_none _
  touched_in (New cells) [] = touches_none _
  touched_in (New cells) (pos n ∷ []) = touches_none _
  touched_in (New cells) (negsuc n ∷ []) = touches_none _
  touched_in (New cells) (pos n ∷ v ∷ []) = equal_touched (nat_le (length state.words + (n + 2)) state.heap) (2 * cells) n v
  touched_in (New cells) (negsuc n ∷ v ∷ []) = touches_none _
  touched_in (New cells) (pos n ∷ v ∷ c ∷ words) = touches_none _
  touched_in (New cells) (negsuc n ∷ v ∷ c ∷ words) = touches_none _
  touched_in (Tuple number) words = tuple_touched (nat_le (length state.words + (length words + 2)) state.heap) number words
  touched_in (Untuple number count) [] = touches_none _
  touched_in (Untuple number count) (a ∷ []) = split_touched a count
  touched_in (Untuple number count) (a ∷ b ∷ words) = touches_none _
