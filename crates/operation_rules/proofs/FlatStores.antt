-- Flat words are a kind of store.
use Rattle.std.proofs.Common.{◌≡◌, ◌≢◌, ◌⊎◌, ℕ, zero, suc, ◌+◌, ◌-◌, ◌<◌, ℤ, List, [], ◌∷◌, ◌++◌, length, set, Bool as Truth, true, false, nat_lt, Some, refl, sym, ◌∙◌, ap, arith, inl, inr}
use Rattle.std.specs.Prelude.{slice_get}
use Rattle.state_types.specs.Words.{Header, AtBlock, cell_count, header_at}
use Rattle.state_types.proofs.Walks.{appended_keep, written_same}
use Rattle.xan_seq.proofs.NumberTests.{is_less, is_not_less}
use Rattle.operation_rules.specs.FlatWords.{Flat, is_whole, block_words, flat_words}
use Rattle.operation_rules.specs.Stored.{IsWritten, IsMade, IsStores}
use Rattle.operation_rules.proofs.FlatWalks.{within_words, blocks_apart, written_whole, whole_append, header_behind, header_front, block_whole, block_begins, block_alone}

-- ---- lists

get_set : (xs : List ℤ) (i : ℕ) (x : ℤ) → i < length xs → slice_get (set xs i x) i ≡ Some x
get_set [] i x h = absurd (omega arith)
get_set (y ∷ ys) zero x h = refl
get_set (y ∷ ys) (suc i) x h = get_set ys i x (omega arith)

get_set_other : (xs : List ℤ) (i j : ℕ) (x : ℤ) → i ≢ j → slice_get (set xs i x) j ≡ slice_get xs j
get_set_other [] i j x h = refl
get_set_other (y ∷ ys) zero zero x h = absurd (h refl)
get_set_other (y ∷ ys) zero (suc j) x h = refl
get_set_other (y ∷ ys) (suc i) zero x h = refl
get_set_other (y ∷ ys) (suc i) (suc j) x h = get_set_other ys i j x (λ e. h (ap suc e))

get_front : (xs ys : List ℤ) (i : ℕ) → i < length xs → slice_get (xs ++ ys) i ≡ slice_get xs i
get_front [] ys i h = absurd (omega arith)
get_front (x ∷ xs) ys zero h = refl
get_front (x ∷ xs) ys (suc i) h = get_front xs ys i (omega arith)

get_behind : (xs ys : List ℤ) (i : ℕ) → slice_get (xs ++ ys) (length xs + i) ≡ slice_get ys i
get_behind [] ys i = ap (λ n. slice_get ys n) (let e : 0 + i ≡ i = omega arith in e)
get_behind (x ∷ xs) ys i = ap (λ n. slice_get (x ∷ (xs ++ ys)) n) (let e : suc (length xs) + i ≡ suc (length xs + i) = omega arith in e) ∙ get_behind xs ys i

-- ---- cells of two blocks, or two cells of one, lie apart

same_block : (block index number other : ℕ) → block ≡ other → (other ≢ block) ⊎ (number ≢ index) → block + 2 + index ≢ other + 2 + number
same_block block index number other same (inl apart) e = apart (sym same)
same_block block index number other same (inr apart) e = apart (omega arith)

cells_apart : (words : List ℤ) (block index other number : ℕ) (one two : Header) → header_at words block ≡ Some one → header_at words other ≡ Some two
    → index < cell_count one.cells → number < cell_count two.cells → (other ≢ block) ⊎ (number ≢ index) → block + 2 + index ≢ other + 2 + number
cells_apart words block index other number one two e f h k apart = by (nat_lt block other) (nat_lt other block) refl refl
  where
    by : (less more : Truth) → nat_lt block other ≡ less → nat_lt other block ≡ more → block + 2 + index ≢ other + 2 + number
    by true more l m = let far = blocks_apart AtBlock words block other one two e f (is_less block other l) in λ s. omega (arith, far, h, s)
    by false true l m = let far = blocks_apart AtBlock words other block two one f e (is_less other block m) in λ s. omega (arith, far, k, s)
    by false false l m =
        let a = is_not_less block other l in
        let b = is_not_less other block m in
        same_block block index number other (omega (arith, a, b)) apart

-- ---- the store

flat_written : (store : Flat) (address index : ℕ) (word : ℤ) (header : Header) → flat_words.whole store ≡ true → flat_words.headers store address ≡ Some header
    → index < cell_count header.cells → IsWritten flat_words store address index word (flat_words.written store address index word)
flat_written store address index word header whole begins h =
    let inside = within_words AtBlock store.words address header whole begins in
    record {
      whole = written_whole AtBlock store.words address header index (address + 2 + index) word whole begins h (omega arith);
      headers = λ block. written_same store.words address header index word block begins h;
      here = get_set store.words (address + 2 + index) word (omega (arith, inside, h));
      others = λ block number other e k apart.
          get_set_other store.words (address + 2 + index) (block + 2 + number) word (cells_apart store.words address index block number header other begins e h k apart);
    }

flat_only : (words : List ℤ) (descriptor : ℕ) (cells : List ℤ) (block : ℕ) (header : Header) (test : Truth) → nat_lt block (length words) ≡ test → is_whole words ≡ true
    → header_at (words ++ block_words descriptor cells) block ≡ Some header → (header_at words block ≡ Some header) ⊎ (block ≡ length words)
flat_only words descriptor cells block header true test whole e =
    inl (sym (header_front AtBlock words (block_words descriptor cells) block whole (is_less block (length words) test)) ∙ e)
flat_only words descriptor cells block header false test whole e = inr (by (block - length words) (omega (arith, is_not_less block (length words) test)))
  where
    by : (rest : ℕ) → block ≡ length words + rest → block ≡ length words
    by rest same =
        let none = block_alone descriptor cells rest header
        (sym (header_behind AtBlock words (block_words descriptor cells) rest whole) ∙ ap (λ n. header_at (words ++ block_words descriptor cells) n) (sym same) ∙ e) in
        omega (arith, same, none)

flat_made : (store : Flat) (descriptor : ℕ) (cells : List ℤ) → flat_words.whole store ≡ true
    → IsMade flat_words store descriptor cells (flat_words.made store descriptor cells).0 (flat_words.made store descriptor cells).1
flat_made store descriptor cells whole =
    let words = store.words in
    let block = block_words descriptor cells in
    record {
      whole = whole_append AtBlock words block whole ∙ block_whole descriptor cells;
      keeps = appended_keep words block;
      begins = ap (λ n. header_at (words ++ block) n) (let e : length words ≡ length words + 0 = omega arith in e) ∙ header_behind AtBlock words block 0 whole ∙ block_begins descriptor cells;
      only = λ other header e. flat_only words descriptor cells other header (nat_lt other (length words)) refl whole e;
      old = λ other number header e h.
          let inside = within_words AtBlock words other header whole e in
          get_front words block (other + 2 + number) (omega (arith, inside, h));
      fresh = λ number h.
          ap (λ n. slice_get (words ++ block) n) (let e : length words + 2 + number ≡ length words + suc (suc number) = omega arith in e) ∙ get_behind words block (suc (suc number));
    }

pub flat_stores : IsStores flat_words
flat_stores = record { writes = flat_written; makes = flat_made }
