-- What operations that go on leave: as many words as the places that they write, and a store of the same size within its bound.
use Rattle.std.proofs.Common.{◌≡◌, ℕ, zero, suc, ◌+◌, ◌*◌, ◌≤◌, ℤ, pos, negsuc, ◌+ℤ◌, ◌-ℤ◌, ◌*ℤ◌, List, [], ◌∷◌, ◌++◌, length, replicate, Bool as Test, true, false, Option, Some, None, refl, ap, arith}
use Rattle.std.specs.Int.{int_div_euclid, int_rem_euclid}
use Rattle.std.specs.Prelude.{nat_le}
use Rattle.std.proofs.lemmas.Bool.{leb-true}
use Rattle.std.proofs.lemmas.List.{length-append, length-replicate, length-set}
use Rattle.state_types.specs.Words.{Header, cell_count}
use Rattle.operation_rules.specs.Effects.{Effect, Writes, Prints, Takes, Calls, Gives, Ends, fits_word, divided, writes_exact, header_of, index_within, measures, reads_word, reads_at, loads_from, loads, puts_at, puts_into, puts, cells_from, splits_cells, splits_if, splits_block, splits, makes_equal, makes_array, makes_tuple, with_none, with_one, with_two, with_three, effect}
use Rattle.operation_rules.specs.FlatWords.{Flat, block_words, flat_words}
use Rattle.operation_rules.specs.Operations.{needs}
use Rattle.operation_rules.specs.declared.operation.Operation.{Operation}
use Rattle.operation_rules.specs.declared.operation.Operation.TheVariants.{Literal, Truth, Move, Add, Sub, Mul, Div, Mod, Compare, Branch, BranchTruth, Jump, Call, Return, Length, Load, Store, New, Tuple, Untuple, Print}

-- so many words for places, and a store with as many words at most; or a number printed, where nothing is written; or an end
abbrev pub IsPlain : ℕ → ℕ → Effect Flat → Type 0
IsPlain count heap (Writes words new) = (length words ≡ count) × (new.heap ≡ heap) × (length new.words ≤ heap)
IsPlain count heap (Prints number) = count ≡ 0
IsPlain count heap (Takes taken) = ⊥
IsPlain count heap (Calls fun words) = ⊥
IsPlain count heap (Gives word) = ⊥
IsPlain count heap (Ends how) = Unit {0}

abbrev pub is_plain : Operation → Test
is_plain (Branch c) = false
is_plain (BranchTruth b) = false
is_plain Jump = false
is_plain (Call fun) = false
is_plain Return = false
is_plain _ = true

module _ (store : Flat) (room : length store.words ≤ store.heap) where
  Plain : ℕ → Effect Flat → Type 0
  Plain count e = IsPlain count store.heap e

  exact_plain : (b : Test) (word : ℤ) → Plain 1 (writes_exact flat_words b word store)
  unfolding Plain
  exact_plain true word = (refl, refl, room)
  exact_plain false word = tt

  divided_plain : (result : ℤ → ℤ → ℤ) (a b : ℤ) → Plain 1 (divided flat_words result a b store)
  unfolding Plain
  divided_plain result a (pos zero) = tt
  divided_plain result a (pos (suc n)) = (refl, refl, room)
  divided_plain result a (negsuc n) = tt

  measured_plain : (header : Option Header) → Plain 1 (measures flat_words header store)
  unfolding Plain
  measured_plain None = tt
  measured_plain (Some header) = (refl, refl, room)

  word_plain : (word : Option ℤ) → Plain 1 (reads_word flat_words word store)
  unfolding Plain
  word_plain None = tt
  word_plain (Some word) = (refl, refl, room)

  read_plain : (index : Option ℕ) (address : ℕ) → Plain 1 (reads_at flat_words index address store)
  unfolding Plain
  read_plain None address = tt
  read_plain (Some index) address = word_plain (flat_words.cell store address index)

  from_plain : (header : Option Header) (address : ℕ) (index : ℤ) → Plain 1 (loads_from flat_words header address index store)
  unfolding Plain
  from_plain None address index = tt
  from_plain (Some header) address index = read_plain (index_within flat_words header.cells index) address

  loads_plain : (address index : ℤ) → Plain 1 (loads flat_words address index store)
  unfolding Plain
  loads_plain (pos address) index = from_plain (flat_words.headers store address) address index
  loads_plain (negsuc n) index = tt

  put_plain : (index : Option ℕ) (address : ℕ) (word : ℤ) → Plain 0 (puts_at flat_words index address word store)
  unfolding Plain
  put_plain None address word = tt
  put_plain (Some index) address word = (refl, refl, (let same = length-set store.words (address + 2 + index) word in omega (arith, room, same)))

  into_plain : (header : Option Header) (address : ℕ) (index word : ℤ) → Plain 0 (puts_into flat_words header address index word store)
  unfolding Plain
  into_plain None address index word = tt
  into_plain (Some header) address index word = put_plain (index_within flat_words header.cells index) address word

  puts_plain : (address index word : ℤ) → Plain 0 (puts flat_words address index word store)
  unfolding Plain
  puts_plain (pos address) index word = into_plain (flat_words.headers store address) address index word
  puts_plain (negsuc n) index word = tt

  -- ---- tuples' parts

  Counted : ℕ → Option (List ℤ) → Type 0
  Counted count None = Unit {0}
  Counted count (Some words) = length words ≡ count

  one_counted : (address index count : ℕ) (cell : Option ℤ) (others : Option (List ℤ)) → flat_words.cell store address index ≡ cell
      → cells_from flat_words store address (suc index) count ≡ others → Counted count others → Counted (suc count) (cells_from flat_words store address index (suc count))
  unfolding cells_from Counted
  one_counted address index count None others e f h = rw e tt
  one_counted address index count (Some word) None e f h = rw (e, f) tt
  one_counted address index count (Some word) (Some words) e f h = rw (e, f) (ap suc h)

  cells_counted : (address index count : ℕ) → Counted count (cells_from flat_words store address index count)
  unfolding cells_from Counted
  cells_counted address index zero = refl
  cells_counted address index (suc count) =
      one_counted address index count (flat_words.cell store address index) (cells_from flat_words store address (suc index) count) refl refl (cells_counted address (suc index) count)

  cells_plain : (count : ℕ) (words : Option (List ℤ)) → Counted count words → Plain count (splits_cells flat_words words store)
  unfolding Plain Counted
  cells_plain count None h = tt
  cells_plain count (Some words) h = (h, refl, room)

  if_plain : (b : Test) (address count : ℕ) → Plain count (splits_if flat_words b address count store)
  unfolding Plain
  if_plain true address count = cells_plain count (cells_from flat_words store address 0 count) (cells_counted address 0 count)
  if_plain false address count = tt

  block_plain : (header : Option Header) (address count : ℕ) → Plain count (splits_block flat_words header address count store)
  unfolding Plain
  block_plain None address count = tt
  block_plain (Some header) address count = if_plain (nat_le count (cell_count header.cells)) address count

  splits_plain : (address : ℤ) (count : ℕ) → Plain count (splits flat_words address count store)
  unfolding Plain
  splits_plain (pos address) count = block_plain (flat_words.headers store address) address count
  splits_plain (negsuc n) count = tt

  -- ---- new blocks

  block_room : (descriptor : ℕ) (cells : List ℤ) → length store.words + (length cells + 2) ≤ store.heap → length (store.words ++ block_words descriptor cells) ≤ store.heap
  block_room descriptor cells h =
      let a = length-append store.words (block_words descriptor cells) in omega (arith, a, h)

  equal_plain : (b : Test) (descriptor count : ℕ) (word : ℤ) → nat_le (length store.words + (count + 2)) store.heap ≡ b
      → Plain 1 (makes_equal flat_words b descriptor count word store)
  unfolding Plain
  equal_plain true descriptor count word e =
      let fits = leb-true (length store.words + (count + 2)) store.heap e in
      let many : length (replicate count word) ≡ count = length-replicate count word in
      (refl, refl, block_room descriptor (replicate count word) (omega (arith, fits, many)))
  equal_plain false descriptor count word e = tt

  array_plain : (cells : ℕ) (count fill : ℤ) → Plain 1 (makes_array flat_words cells count fill store)
  unfolding Plain
  array_plain cells (pos n) fill = equal_plain (nat_le (length store.words + (n + 2)) store.heap) (2 * cells) n fill refl
  array_plain cells (negsuc n) fill = tt

  tuple_plain : (b : Test) (number : ℕ) (words : List ℤ) → nat_le (length store.words + (length words + 2)) store.heap ≡ b
      → Plain 1 (makes_tuple flat_words b number words store)
  unfolding Plain
  tuple_plain true number words e =
      (refl, refl, block_room (2 * number + 1) words (leb-true (length store.words + (length words + 2)) store.heap e))
  tuple_plain false number words e = tt

  -- ---- by the words that are read

  none_plain : (count : ℕ) (words : List ℤ) (e : Effect Flat) → Plain count e → Plain count (with_none flat_words words e)
  unfolding Plain
  none_plain count [] e h = h
  none_plain count (w ∷ words) e h = tt

  one_plain : (count : ℕ) (words : List ℤ) (e : ℤ → Effect Flat) → ((a : ℤ) → Plain count (e a)) → Plain count (with_one flat_words words e)
  unfolding Plain
  one_plain count [] e h = tt
  one_plain count (a ∷ []) e h = h a
  one_plain count (a ∷ b ∷ words) e h = tt

  two_plain : (count : ℕ) (words : List ℤ) (e : ℤ → ℤ → Effect Flat) → ((a b : ℤ) → Plain count (e a b)) → Plain count (with_two flat_words words e)
  unfolding Plain
  two_plain count [] e h = tt
  two_plain count (a ∷ []) e h = tt
  two_plain count (a ∷ b ∷ []) e h = h a b
  two_plain count (a ∷ b ∷ c ∷ words) e h = tt

  three_plain : (count : ℕ) (words : List ℤ) (e : ℤ → ℤ → ℤ → Effect Flat) → ((a b c : ℤ) → Plain count (e a b c)) → Plain count (with_three flat_words words e)
  unfolding Plain
  three_plain count [] e h = tt
  three_plain count (a ∷ []) e h = tt
  three_plain count (a ∷ b ∷ []) e h = tt
  three_plain count (a ∷ b ∷ c ∷ []) e h = h a b c
  three_plain count (a ∷ b ∷ c ∷ d ∷ words) e h = tt

  -- ---- operations

  same_store : (word : ℤ) → Plain 1 (Writes (word ∷ []) store)
  unfolding Plain
  same_store word = (refl, refl, room)

  printed_plain : (number : ℤ) → Plain 0 (Prints number)
  unfolding Plain
  printed_plain number = refl

  plain_by : (op : Operation) (words : List ℤ) → is_plain op ≡ true → Plain (needs op).writes (effect flat_words op words store)
  plain_by (Literal n) words is = none_plain 1 words _ (same_store n)
  plain_by (Truth b) words is = none_plain 1 words _ (same_store _)
  plain_by Move words is = one_plain 1 words _ (λ a. same_store a)
  plain_by Add words is = two_plain 1 words _ (λ a b. exact_plain (fits_word (a +ℤ b)) (a +ℤ b))
  plain_by Sub words is = two_plain 1 words _ (λ a b. exact_plain (fits_word (a -ℤ b)) (a -ℤ b))
  plain_by Mul words is = two_plain 1 words _ (λ a b. exact_plain (fits_word (a *ℤ b)) (a *ℤ b))
  plain_by Div words is = two_plain 1 words _ (λ a b. divided_plain int_div_euclid a b)
  plain_by Mod words is = two_plain 1 words _ (λ a b. divided_plain int_rem_euclid a b)
  plain_by (Compare c) words is = two_plain 1 words _ (λ a b. same_store _)
  plain_by (Branch c) words is = absurd (let bad : ⊥ = cc in bad)
  plain_by (BranchTruth b) words is = absurd (let bad : ⊥ = cc in bad)
  plain_by Jump words is = absurd (let bad : ⊥ = cc in bad)
  plain_by (Call fun) words is = absurd (let bad : ⊥ = cc in bad)
  plain_by Return words is = absurd (let bad : ⊥ = cc in bad)
  plain_by Length words is = one_plain 1 words _ (λ a. measured_plain (header_of flat_words store a))
  plain_by Load words is = two_plain 1 words _ (λ a i. loads_plain a i)
  plain_by Store words is = three_plain 0 words _ (λ a i v. puts_plain a i v)
  plain_by (New cells) words is = two_plain 1 words _ (λ n v. array_plain cells n v)
  plain_by (Tuple number) words is = tuple_plain (nat_le (length store.words + (length words + 2)) store.heap) number words refl
  plain_by (Untuple number count) words is = one_plain count words _ (λ a. splits_plain a count)
  plain_by Print words is = one_plain 0 words _ (λ a. printed_plain a)

pub plain_effect : (op : Operation) (words : List ℤ) (store : Flat) → is_plain op ≡ true → length store.words ≤ store.heap
    → IsPlain (needs op).writes store.heap (effect flat_words op words store)
unfolding Plain
plain_effect op words store is room = plain_by store room op words is
