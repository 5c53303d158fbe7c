-- The words that operations on blocks read and write, where they are not stuck.
use Rattle.std.proofs.Common.{◌≡◌, ◌∙◌, ap, refl, sym, subst, arith, ℕ, zero, suc, ◌+◌, ◌<◌, ◌≤◌, ℤ, pos, negsuc, ◌≤ℤ◌, Bool as Truth, true, false, List, [], ◌∷◌, length, take, drop, nat_lt, nat_le, Option, Some, None, drop-cons}
use Rattle.std.specs.List.{slice_get, slice_set}
use Rattle.std.proofs.lemmas.Int.{ints}
use Rattle.std.proofs.lemmas.Bool.{le-ltb, lt-ltb, ltb-true, ltb-false, leb-true}
use Rattle.std.proofs.lemmas.Option.{slice_get_within, slice_get-get_or, same_Some}
use Rattle.state_types.specs.Words.{Header, Point, AtBlock, AtLength, AtCell, at_cells, cell_count, header_of, header_from, header_at}
use Rattle.operation_rules.specs.Effects.{Effect, Writes, index_within, measures, reads_word, reads_at, loads_from, puts_at, puts_into, cells_from, splits_cells, splits_if, splits_block, effect}
use Rattle.operation_rules.specs.declared.operation.Operation.TheVariants.{Length, Load, Store, Untuple}
use Rattle.operation_rules.specs.FlatWords.{Flat, flat_words, is_whole}
use Rattle.operation_rules.proofs.FlatWalks.{within_words}
use Rattle.dtal_machine.specs.Acting.{NotStuck}

none_is : {A : Type 0} (x : A) → (let o : Option A = None in o) ≡ Some x → ⊥
none_is x e = cc

natural : (n : ℕ) → pos 0 ≤ℤ pos n
natural n = omega (arith, ints)

same_pos : (n m : ℕ) → pos n ≡ pos m → m ≡ n
same_pos n m e = omega (arith, ints)

-- ---- lengths

behind_descriptor : (words : List ℤ) (descriptor : ℤ) (header : Header) → header_of descriptor words ≡ Some header → slice_get words 0 ≡ Some header.cells
behind_descriptor [] descriptor header e = absurd (none_is header e)
behind_descriptor (cells ∷ words) descriptor header e =
    let same : (let h : Header = record { descriptor = descriptor; cells = cells } in h) ≡ header = same_Some _ header e in ap (λ h. Some h.cells) same

length_behind : (point : Point) (words : List ℤ) (address : ℕ) (header : Header) → header_from point words address ≡ Some header → slice_get words (suc address) ≡ Some header.cells
unfolding header_from
length_behind AtBlock [] address header e = absurd (none_is header e)
length_behind AtLength [] address header e = absurd (none_is header e)
length_behind (AtCell n) [] address header e = absurd (none_is header e)
length_behind AtBlock (x ∷ xs) zero header e = behind_descriptor xs x header e
length_behind AtBlock (x ∷ xs) (suc address) header e = length_behind AtLength xs address header e
length_behind AtLength (x ∷ xs) zero header e = absurd (none_is header e)
length_behind AtLength (x ∷ xs) (suc address) header e = length_behind (at_cells (cell_count x)) xs address header e
length_behind (AtCell n) (x ∷ xs) zero header e = absurd (none_is header e)
length_behind (AtCell n) (x ∷ xs) (suc address) header e = length_behind (at_cells n) xs address header e

pub record LengthAt (store : Flat) (address : ℤ) : Type 0 where
  pub natural : pos 0 ≤ℤ address
  pub within : (n : ℕ) → address ≡ pos n → n + 1 < length store.words
  pub given : (n : ℕ) (w : ℤ) → address ≡ pos n → slice_get store.words (n + 1) ≡ Some w → effect flat_words Length (address ∷ []) store ≡ Writes (w ∷ []) store

length_by : (store : Flat) (n : ℕ) (found : Option Header) → header_at store.words n ≡ found → NotStuck (measures flat_words found store) → LengthAt store (pos n)
length_by store n None is goes = absurd goes
length_by store n (Some h) is goes =
    let there : slice_get store.words (suc n) ≡ Some h.cells = length_behind AtBlock store.words n h is in
    record {
      natural = natural n;
      within = λ m e. (let same : m ≡ n = same_pos n m e in let less = slice_get_within store.words (suc n) h.cells there in omega arith);
      given = λ m w e got. (
          let same : m ≡ n = same_pos n m e in
          let next : suc n ≡ m + 1 = omega arith in
          let cells : h.cells ≡ w = same_Some h.cells w (sym there ∙ ap (slice_get store.words) next ∙ got) in
          ap (λ o. measures flat_words o store) is ∙ ap (λ c. Writes (c ∷ []) store) cells
          );
    }

pub length_at : (store : Flat) (address : ℤ) → NotStuck (effect flat_words Length (address ∷ []) store) → LengthAt store address
length_at store (pos n) goes = length_by store n (header_at store.words n) refl goes
length_at store (negsuc n) goes = absurd goes

-- ---- cells

past_is : (n : ℤ) (k : ℕ) → cell_count n ≤ k → index_within flat_words n (pos k) ≡ None
past_is n k h = rw (le-ltb k (cell_count n) h) refl

here_is : (n : ℤ) (k : ℕ) → k < cell_count n → index_within flat_words n (pos k) ≡ Some k
here_is n k h = (let yes : nat_lt k (cell_count n) ≡ true = lt-ltb k (cell_count n) h in rw yes refl)

pub record CellAt (store : Flat) (address index : ℤ) : Type 0 where
  pub natural : pos 0 ≤ℤ address
  pub natural_index : pos 0 ≤ℤ index
  pub within : (n i : ℕ) → address ≡ pos n → index ≡ pos i → n + 2 + i < length store.words
  pub given : (n i : ℕ) (w : ℤ) → address ≡ pos n → index ≡ pos i → slice_get store.words (n + 2 + i) ≡ Some w
      → effect flat_words Load (address ∷ index ∷ []) store ≡ Writes (w ∷ []) store

cell_word : (store : Flat) (n i : ℕ) (h : Header) (found : Option ℤ) → header_at store.words n ≡ Some h → i < cell_count h.cells → slice_get store.words (n + 2 + i) ≡ found
    → NotStuck (reads_word flat_words found store) → CellAt store (pos n) (pos i)
cell_word store n i h None is less there goes = absurd goes
cell_word store n i h (Some word) is less there goes = record {
  natural = natural n;
  natural_index = natural i;
  within = λ m j e f. (
      let same : m ≡ n = same_pos n m e in
      let index : j ≡ i = same_pos i j f in
      let inside = slice_get_within store.words (n + 2 + i) word there in
      omega arith
      );
  given = λ m j w e f got. (
      let place : n + 2 + i ≡ m + 2 + j = (let same : m ≡ n = same_pos n m e in let index : j ≡ i = same_pos i j f in omega arith) in
      ap (λ o. loads_from flat_words o n (pos i) store) is ∙ ap (λ o. reads_at flat_words o n store) (here_is h.cells i less)
      ∙ ap (λ o. reads_word flat_words o store) (ap (slice_get store.words) place ∙ got)
      );
}

cell_test : (store : Flat) (n i : ℕ) (h : Header) (test : Truth) → header_at store.words n ≡ Some h → nat_lt i (cell_count h.cells) ≡ test
    → NotStuck (reads_at flat_words (index_within flat_words h.cells (pos i)) n store) → CellAt store (pos n) (pos i)
cell_test store n i h true is less goes =
    let inside : i < cell_count h.cells = ltb-true i (cell_count h.cells) less in
    cell_word store n i h (slice_get store.words (n + 2 + i)) is inside refl (subst (λ o. NotStuck (reads_at flat_words o n store)) (here_is h.cells i inside) goes)
cell_test store n i h false is past goes = absurd (subst (λ o. NotStuck (reads_at flat_words o n store)) (past_is h.cells i (ltb-false i (cell_count h.cells) past)) goes)

cell_by : (store : Flat) (n i : ℕ) (found : Option Header) → header_at store.words n ≡ found → NotStuck (loads_from flat_words found n (pos i) store) → CellAt store (pos n) (pos i)
cell_by store n i None is goes = absurd goes
cell_by store n i (Some h) is goes = cell_test store n i h (nat_lt i (cell_count h.cells)) is refl goes

never_negative : (store : Flat) (n i : ℕ) (found : Option Header) → NotStuck (loads_from flat_words found n (negsuc i) store) → ⊥
never_negative store n i None goes = goes
never_negative store n i (Some h) goes = goes

pub cell_at : (store : Flat) (address index : ℤ) → NotStuck (effect flat_words Load (address ∷ index ∷ []) store) → CellAt store address index
cell_at store (pos n) (pos i) goes = cell_by store n i (header_at store.words n) refl goes
cell_at store (pos n) (negsuc i) goes = absurd (never_negative store n i (header_at store.words n) goes)
cell_at store (negsuc n) index goes = absurd goes

-- ---- written cells

pub record SetAt (store : Flat) (address index word : ℤ) : Type 0 where
  pub natural : pos 0 ≤ℤ address
  pub natural_index : pos 0 ≤ℤ index
  pub within : (n i : ℕ) → address ≡ pos n → index ≡ pos i → n + 2 + i < length store.words
  pub given : (n i : ℕ) → address ≡ pos n → index ≡ pos i
      → effect flat_words Store (address ∷ index ∷ word ∷ []) store ≡ Writes [] (record { words = slice_set store.words (n + 2 + i) word; heap = store.heap })

set_test : (store : Flat) (n i : ℕ) (word : ℤ) (h : Header) (test : Truth) → is_whole store.words ≡ true → header_at store.words n ≡ Some h → nat_lt i (cell_count h.cells) ≡ test
    → NotStuck (puts_at flat_words (index_within flat_words h.cells (pos i)) n word store) → SetAt store (pos n) (pos i) word
set_test store n i word h true whole is less goes =
    let inside : i < cell_count h.cells = ltb-true i (cell_count h.cells) less in
    let ends = within_words AtBlock store.words n h whole is in
    record {
      natural = natural n;
      natural_index = natural i;
      within = λ m j e f. (let same : m ≡ n = same_pos n m e in let index : j ≡ i = same_pos i j f in omega arith);
      given = λ m j e f. (
          let place : n + 2 + i ≡ m + 2 + j = (let same : m ≡ n = same_pos n m e in let index : j ≡ i = same_pos i j f in omega arith) in
          let written : ℕ → Effect Flat = λ k. Writes [] (record { words = slice_set store.words k word; heap = store.heap }) in
          ap (λ o. puts_into flat_words o n (pos i) word store) is ∙ ap (λ o. puts_at flat_words o n word store) (here_is h.cells i inside) ∙ ap written place
          );
    }
set_test store n i word h false whole is past goes =
    absurd (subst (λ o. NotStuck (puts_at flat_words o n word store)) (past_is h.cells i (ltb-false i (cell_count h.cells) past)) goes)

set_by : (store : Flat) (n i : ℕ) (word : ℤ) (found : Option Header) → is_whole store.words ≡ true → header_at store.words n ≡ found
    → NotStuck (puts_into flat_words found n (pos i) word store) → SetAt store (pos n) (pos i) word
set_by store n i word None whole is goes = absurd goes
set_by store n i word (Some h) whole is goes = set_test store n i word h (nat_lt i (cell_count h.cells)) whole is refl goes

never_put : (store : Flat) (n i : ℕ) (word : ℤ) (found : Option Header) → NotStuck (puts_into flat_words found n (negsuc i) word store) → ⊥
never_put store n i word None goes = goes
never_put store n i word (Some h) goes = goes

pub set_at : (store : Flat) (address index word : ℤ) → is_whole store.words ≡ true → NotStuck (effect flat_words Store (address ∷ index ∷ word ∷ []) store)
    → SetAt store address index word
set_at store (pos n) (pos i) word whole goes = set_by store n i word (header_at store.words n) whole refl goes
set_at store (pos n) (negsuc i) word whole goes = absurd (never_put store n i word (header_at store.words n) goes)
set_at store (negsuc n) index word whole goes = absurd goes

-- ---- parts

cells_taken : (store : Flat) (n i count : ℕ) → n + 2 + i + count ≤ length store.words → cells_from flat_words store n i count ≡ Some (take count (drop (n + 2 + i) store.words))
unfolding cells_from
cells_taken store n i zero h = refl
cells_taken store n i (suc count) h =
    let inside : n + 2 + i < length store.words = omega arith in
    let here = slice_get-get_or store.words (n + 2 + i) (pos 0) inside in
    let next : n + 2 + suc i ≡ suc (n + 2 + i) = omega arith in
    let rest = cells_taken store n (suc i) count (omega arith) in
    rw (here, rest, next, drop-cons store.words (n + 2 + i) (pos 0) inside) refl

pub record PartsAt (store : Flat) (number count : ℕ) (address : ℤ) : Type 0 where
  pub natural : pos 0 ≤ℤ address
  pub within : (n : ℕ) → address ≡ pos n → n + 2 + count ≤ length store.words
  pub given : (n : ℕ) → address ≡ pos n → effect flat_words (Untuple number count) (address ∷ []) store ≡ Writes (take count (drop (n + 2) store.words)) store

parts_test : (store : Flat) (number count n : ℕ) (h : Header) (test : Truth) → is_whole store.words ≡ true → header_at store.words n ≡ Some h
    → nat_le count (cell_count h.cells) ≡ test → NotStuck (splits_if flat_words test n count store) → PartsAt store number count (pos n)
parts_test store number count n h true whole is few goes =
    let inside : count ≤ cell_count h.cells = leb-true count (cell_count h.cells) few in
    let ends = within_words AtBlock store.words n h whole is in
    let zeroth : n + 2 + 0 ≡ n + 2 = omega arith in
    record {
      natural = natural n;
      within = λ m e. (let same : m ≡ n = same_pos n m e in omega arith);
      given = λ m e. (
          let place : n + 2 + 0 ≡ m + 2 = (let same : m ≡ n = same_pos n m e in omega arith) in
          ap (λ o. splits_block flat_words o n count store) is ∙ ap (λ b. splits_if flat_words b n count store) few
          ∙ ap (λ o. splits_cells flat_words o store) (cells_taken store n 0 count (omega arith))
          ∙ ap (λ k. Writes (take count (drop k store.words)) store) place
          );
    }
parts_test store number count n h false whole is few goes = absurd goes

parts_by : (store : Flat) (number count n : ℕ) (found : Option Header) → is_whole store.words ≡ true → header_at store.words n ≡ found
    → NotStuck (splits_block flat_words found n count store) → PartsAt store number count (pos n)
parts_by store number count n None whole is goes = absurd goes
parts_by store number count n (Some h) whole is goes = parts_test store number count n h (nat_le count (cell_count h.cells)) whole is refl goes

pub parts_at : (store : Flat) (number count : ℕ) (address : ℤ) → is_whole store.words ≡ true → NotStuck (effect flat_words (Untuple number count) (address ∷ []) store)
    → PartsAt store number count address
parts_at store number count (pos n) whole goes = parts_by store number count n (header_at store.words n) whole refl goes
parts_at store number count (negsuc n) whole goes = absurd goes
