-- What an operation's effect leaves: a store may have as many words as before, and the activation goes where the operation may lead.
use Rattle.std.proofs.Common.{◌≡◌, ℕ, zero, suc, ◌*◌, ◌+◌, ℤ, pos, negsuc, ◌+ℤ◌, ◌-ℤ◌, ◌*ℤ◌, List, [], ◌∷◌, length, Bool as Test, true, false, Option, Some, None, refl}
use Rattle.std.specs.Int.{int_div_euclid, int_rem_euclid}
use Rattle.std.specs.Prelude.{nat_le}
use Rattle.state_types.specs.Words.{Header, cell_count}
use Rattle.operation_rules.specs.Effects.{Effect, Writes, Prints, Takes, Calls, Gives, Ends, fits_word, divided, writes_exact, header_of, index_within, measures, reads_word, reads_at, loads_from, loads, puts_at, puts_into, puts, cells_from, splits_cells, splits_if, splits_block, splits, makes_equal, makes_array, makes_tuple, with_none, with_one, with_two, with_three, effect}
use Rattle.operation_rules.specs.FlatWords.{Flat, flat_words}
use Rattle.operation_rules.specs.declared.operation.Operation.{Operation}
use Rattle.operation_rules.specs.declared.operation.Operation.TheVariants.{Literal, Truth, Move, Add, Sub, Mul, Div, Mod, Compare, Branch, BranchTruth, Jump, Call, Return, Length, Load, Store, New, Tuple, Untuple, Print}

-- ---- kinds of operations, by where they lead

pub data Kind : Type 0 where
  -- on to the next instruction
  Onward : Kind
  Printing : Kind
  -- to a label, and maybe on
  Branching : Kind
  Leaping : Kind
  Calling : Kind
  Returning : Kind

abbrev pub kind_of : Operation → Kind
kind_of (Branch c) = Branching
kind_of (BranchTruth b) = Branching
kind_of Jump = Leaping
kind_of (Call fun) = Calling
kind_of Return = Returning
kind_of Print = Printing
kind_of _ = Onward

-- what an operation of a kind may do, over a store that may have so many words
abbrev pub IsAbout : (heap : ℕ) → Effect Flat → Kind → Type 0
IsAbout heap (Ends how) kind = Unit {0}
IsAbout heap (Writes words new) Onward = new.heap ≡ heap
IsAbout heap (Writes words new) _ = ⊥
IsAbout heap (Prints number) Printing = Unit {0}
IsAbout heap (Prints number) _ = ⊥
IsAbout heap (Takes taken) Branching = Unit {0}
IsAbout heap (Takes true) Leaping = Unit {0}
IsAbout heap (Takes taken) _ = ⊥
IsAbout heap (Calls fun words) Calling = Unit {0}
IsAbout heap (Calls fun words) _ = ⊥
IsAbout heap (Gives word) Returning = Unit {0}
IsAbout heap (Gives word) _ = ⊥

module _ (store : Flat) where
  Same : Effect Flat → Type 0
  Same e = IsAbout store.heap e Onward

  exact_same : (b : Test) (word : ℤ) → Same (writes_exact flat_words b word store)
  unfolding Same
  exact_same true word = refl
  exact_same false word = tt

  divided_same : (result : ℤ → ℤ → ℤ) (a b : ℤ) → Same (divided flat_words result a b store)
  unfolding Same
  divided_same result a (pos zero) = tt
  divided_same result a (pos (suc n)) = refl
  divided_same result a (negsuc n) = tt

  measured_same : (header : Option Header) → Same (measures flat_words header store)
  unfolding Same
  measured_same None = tt
  measured_same (Some header) = refl

  word_same : (word : Option ℤ) → Same (reads_word flat_words word store)
  unfolding Same
  word_same None = tt
  word_same (Some word) = refl

  read_same : (index : Option ℕ) (address : ℕ) → Same (reads_at flat_words index address store)
  unfolding Same
  read_same None address = tt
  read_same (Some index) address = word_same (flat_words.cell store address index)

  from_same : (header : Option Header) (address : ℕ) (index : ℤ) → Same (loads_from flat_words header address index store)
  unfolding Same
  from_same None address index = tt
  from_same (Some header) address index = read_same (index_within flat_words header.cells index) address

  loads_same : (address index : ℤ) → Same (loads flat_words address index store)
  unfolding Same
  loads_same (pos address) index = from_same (flat_words.headers store address) address index
  loads_same (negsuc n) index = tt

  put_same : (index : Option ℕ) (address : ℕ) (word : ℤ) → Same (puts_at flat_words index address word store)
  unfolding Same
  put_same None address word = tt
  put_same (Some index) address word = refl

  into_same : (header : Option Header) (address : ℕ) (index word : ℤ) → Same (puts_into flat_words header address index word store)
  unfolding Same
  into_same None address index word = tt
  into_same (Some header) address index word = put_same (index_within flat_words header.cells index) address word

  puts_same : (address index word : ℤ) → Same (puts flat_words address index word store)
  unfolding Same
  puts_same (pos address) index word = into_same (flat_words.headers store address) address index word
  puts_same (negsuc n) index word = tt

  cells_same : (words : Option (List ℤ)) → Same (splits_cells flat_words words store)
  unfolding Same
  cells_same None = tt
  cells_same (Some words) = refl

  if_same : (b : Test) (address count : ℕ) → Same (splits_if flat_words b address count store)
  unfolding Same
  if_same true address count = cells_same (cells_from flat_words store address 0 count)
  if_same false address count = tt

  block_same : (header : Option Header) (address count : ℕ) → Same (splits_block flat_words header address count store)
  unfolding Same
  block_same None address count = tt
  block_same (Some header) address count = if_same (nat_le count (cell_count header.cells)) address count

  splits_same : (address : ℤ) (count : ℕ) → Same (splits flat_words address count store)
  unfolding Same
  splits_same (pos address) count = block_same (flat_words.headers store address) address count
  splits_same (negsuc n) count = tt

  equal_same : (b : Test) (descriptor count : ℕ) (word : ℤ) → Same (makes_equal flat_words b descriptor count word store)
  unfolding Same
  equal_same true descriptor count word = refl
  equal_same false descriptor count word = tt

  array_same : (cells : ℕ) (count fill : ℤ) → Same (makes_array flat_words cells count fill store)
  unfolding Same
  array_same cells (pos n) fill = equal_same (nat_le (length store.words + (n + 2)) store.heap) (2 * cells) n fill
  array_same cells (negsuc n) fill = tt

  tuple_same : (b : Test) (number : ℕ) (words : List ℤ) → Same (makes_tuple flat_words b number words store)
  unfolding Same
  tuple_same true number words = refl
  tuple_same false number words = tt

  -- ---- by the words that are read

  About : Kind → Effect Flat → Type 0
  About kind e = IsAbout store.heap e kind

  none_about : (kind : Kind) (words : List ℤ) (e : Effect Flat) → About kind e → About kind (with_none flat_words words e)
  unfolding About
  none_about kind [] e h = h
  none_about kind (w ∷ words) e h = tt

  one_about : (kind : Kind) (words : List ℤ) (e : ℤ → Effect Flat) → ((a : ℤ) → About kind (e a)) → About kind (with_one flat_words words e)
  unfolding About
  one_about kind [] e h = tt
  one_about kind (a ∷ []) e h = h a
  one_about kind (a ∷ b ∷ words) e h = tt

  two_about : (kind : Kind) (words : List ℤ) (e : ℤ → ℤ → Effect Flat) → ((a b : ℤ) → About kind (e a b)) → About kind (with_two flat_words words e)
  unfolding About
  two_about kind [] e h = tt
  two_about kind (a ∷ []) e h = tt
  two_about kind (a ∷ b ∷ []) e h = h a b
  two_about kind (a ∷ b ∷ c ∷ words) e h = tt

  three_about : (kind : Kind) (words : List ℤ) (e : ℤ → ℤ → ℤ → Effect Flat) → ((a b c : ℤ) → About kind (e a b c)) → About kind (with_three flat_words words e)
  unfolding About
  three_about kind [] e h = tt
  three_about kind (a ∷ []) e h = tt
  three_about kind (a ∷ b ∷ []) e h = tt
  three_about kind (a ∷ b ∷ c ∷ []) e h = h a b c
  three_about kind (a ∷ b ∷ c ∷ d ∷ words) e h = tt

  -- ---- operations

  about : (op : Operation) (words : List ℤ) → About (kind_of op) (effect flat_words op words store)
  unfolding About Same
  about (Literal n) words = none_about Onward words _ refl
  about (Truth b) words = none_about Onward words _ refl
  about Move words = one_about Onward words _ (λ a. refl)
  about Add words = two_about Onward words _ (λ a b. exact_same (fits_word (a +ℤ b)) (a +ℤ b))
  about Sub words = two_about Onward words _ (λ a b. exact_same (fits_word (a -ℤ b)) (a -ℤ b))
  about Mul words = two_about Onward words _ (λ a b. exact_same (fits_word (a *ℤ b)) (a *ℤ b))
  about Div words = two_about Onward words _ (λ a b. divided_same int_div_euclid a b)
  about Mod words = two_about Onward words _ (λ a b. divided_same int_rem_euclid a b)
  about (Compare c) words = two_about Onward words _ (λ a b. refl)
  about (Branch c) words = two_about Branching words _ (λ a b. tt)
  about (BranchTruth b) words = one_about Branching words _ (λ a. tt)
  about Jump words = none_about Leaping words _ tt
  about (Call fun) words = tt
  about Return words = one_about Returning words _ (λ a. tt)
  about Length words = one_about Onward words _ (λ a. measured_same (header_of flat_words store a))
  about Load words = two_about Onward words _ (λ a i. loads_same a i)
  about Store words = three_about Onward words _ (λ a i v. puts_same a i v)
  about (New cells) words = two_about Onward words _ (λ n v. array_same cells n v)
  about (Tuple number) words = tuple_same (nat_le (length store.words + (length words + 2)) store.heap) number words
  about (Untuple number count) words = one_about Onward words _ (λ a. splits_same a count)
  about Print words = one_about Printing words _ (λ a. tt)

pub effect_about : (op : Operation) (words : List ℤ) (store : Flat) → IsAbout store.heap (effect flat_words op words store) (kind_of op)
unfolding About
effect_about op words store = about store op words
