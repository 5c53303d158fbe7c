-- An operation does the same over the store of the source and over that of the code, where the words that it reads fit: it writes a word that fits, to stores
-- that hold the same blocks, or it ends in the same way.
use Rattle.std.proofs.Common.{◌≡◌, ◌≢◌, ◌∙◌, ℕ, zero, suc, ◌+◌, ◌*◌, ℤ, pos, negsuc, ◌+ℤ◌, ◌-ℤ◌, ◌*ℤ◌, List, [], ◌∷◌, ◌++◌, length, length-append, replicate, Bool as Flag, true, false, nat_lt, nat_le, slice_get, Some, refl, sym, ap, subst, arith}
use Rattle.std.specs.Int.{int_div_euclid, int_rem_euclid}
use Rattle.std.specs.List.{AllZip}
use Rattle.xan_io.specs.Outcome.{How, NoStore, Overflow, Stuck, Running}
use Rattle.xan_seq.proofs.NumberTests.{is_less}
use Rattle.state_types.specs.Words.{Header, header_at}
use Rattle.operation_rules.specs.Effects.{Effect, Writes, Ends, effect, compares, fits_word, writes_exact, divided, measures, loads_from, reads_word, makes_equal, makes_tuple, names_made}
use Rattle.operation_rules.specs.FlatWords.{Flat, flat_words, block_words}
use Rattle.operation_rules.specs.declared.operation.Operation.TheVariants as operation
use Rattle.xanadu_tree.specs.declared.expr.Op.{Op}
use Rattle.xanadu_tree.specs.declared.expr.Op.TheVariants as op
use Rattle.typed_core.specs.Operators.{operation_of}
use Rattle.typed_core.specs.SourceOperands.{no_cells}
use Rattle.typed_core.specs.SourceValues.{Tag, Number, Truth, Array, Tuple, Value, Block, Blocks, used, words_of, tagged, tag_or, tag_at, cell_tag, header_in, word_or, value_in, separate}
use Rattle.lowering_simulation.proofs.BlocksLaid.{sizes_of, IsLaid, sizes_length, laid_length, laid_more, laid_header, laid_cell, laid_made, sizes_made, address_made}
use Rattle.lowering_simulation.proofs.ListPlaces.{get_there}
use Rattle.lowering_simulation.proofs.WordsFit.{address, Fits, IsAddress, Extends, extends_same, all_fit_more, all_fit_length}

abbrev pub tagged_word : Tag → ℤ → Value
tagged_word tag w = record { tag = tag; word = w }

-- the code has written a word that fits the source's
pub record Wrote (gives : Tag) (store : Blocks) (w : ℤ) (new : Blocks) (two : Effect Flat) : Type 0 where
  pub word : ℤ
  pub flat : Flat
  pub is : two ≡ Writes (word ∷ []) flat
  pub laid : IsLaid new flat
  pub more : Extends (sizes_of store.blocks) (sizes_of new.blocks)
  pub fits : Fits (sizes_of new.blocks) (tagged_word gives w) word

pub record AlikeWord (gives : Tag) (store : Blocks) (one : Effect Blocks) (two : Effect Flat) : Type 0 where
  pub writes : (w : ℤ) (new : Blocks) → one ≡ Writes (w ∷ []) new → Wrote gives store w new two
  pub ends : (how : How) → one ≡ Ends how → how ≢ Stuck → (two ≡ Ends how) × (how ≢ Running)

module _ {S : Type 0} where
  pub writes_same : (v w : ℤ) (store new : S) → (let e : Effect S = Writes (v ∷ []) store in e) ≡ Writes (w ∷ []) new → (v ≡ w) × (store ≡ new)
  writes_same v w store new e = ((let s : v ≡ w = cc in s), (let s : store ≡ new = cc in s))

  ends_same : (how other : How) → (let e : Effect S = Ends how in e) ≡ Ends other → how ≡ other
  ends_same how other e = cc

alike_writes : (gives : Tag) (store : Blocks) (v : ℤ) (new : Blocks) (two : Effect Flat) → Wrote gives store v new two → AlikeWord gives store (Writes (v ∷ []) new) two
alike_writes gives store v new two wrote = record {
  writes = λ w other e.
      let same = writes_same v w new other e in
      subst (λ x. Wrote gives store x other two) same.0 (subst (λ x. Wrote gives store v x two) same.1 wrote);
  ends = λ how e other. (let bad : ⊥ = cc in absurd bad);
}

pub alike_same : (gives : Tag) (store : Blocks) (flat : Flat) (v w : ℤ) → IsLaid store flat → Fits (sizes_of store.blocks) (tagged_word gives v) w
    → AlikeWord gives store (Writes (v ∷ []) store) (Writes (w ∷ []) flat)
alike_same gives store flat v w laid fits =
    alike_writes gives store v store _ (record { word = w; flat = flat; is = refl; laid = laid; more = extends_same (sizes_of store.blocks); fits = fits })

alike_ends : (gives : Tag) (store : Blocks) (how : How) → how ≢ Running → AlikeWord gives store (Ends how) (Ends how)
alike_ends gives store how h = record {
  writes = λ w new e. (let bad : ⊥ = cc in absurd bad);
  ends = λ other e not_stuck.
      let same = ends_same how other e in
      (ap (λ x. let y : Effect Flat = Ends x in y) same, λ running. h (same ∙ running));
}

pub alike_stuck : (gives : Tag) (store : Blocks) (two : Effect Flat) → AlikeWord gives store (Ends Stuck) two
alike_stuck gives store two = record {
  writes = λ w new e. (let bad : ⊥ = cc in absurd bad);
  ends = λ other e not_stuck. absurd (not_stuck (sym (ends_same Stuck other e)));
}

tagged_own : (vs : List Value) → tagged (tag_at vs) (words_of vs) ≡ vs
unfolding tagged words_of
tagged_own [] = refl
tagged_own (v ∷ vs) = ap (λ xs. v ∷ xs) (tagged_own vs)

words_length : (vs : List Value) → length (words_of vs) ≡ length vs
unfolding words_of
words_length [] = refl
words_length (v ∷ vs) = ap suc (words_length vs)

equal_fit : (sizes : List ℕ) (tag : Tag) (v w : ℤ) → Fits sizes (tagged_word tag v) w → (n : ℕ) → AllZip (Fits sizes) (tagged (λ k. tag) (replicate n v)) (replicate n w)
unfolding tagged
equal_fit sizes tag v w fits zero = tt
equal_fit sizes tag v w fits (suc n) = (fits, equal_fit sizes tag v w fits n)

module _ (store : Blocks) (flat : Flat) (laid : IsLaid store flat) where
  abbrev ns : List ℕ
  ns = sizes_of store.blocks

  -- ---- numbers

  number_alike : (n : ℤ) → AlikeWord Number store (Writes (n ∷ []) store) (Writes (n ∷ []) flat)
  number_alike n = alike_same Number store flat n n laid (record { is = refl })

  exact_alike : (fit : Flag) (n : ℤ) → AlikeWord Number store (writes_exact (separate no_cells) fit n store) (writes_exact flat_words fit n flat)
  exact_alike true n = number_alike n
  exact_alike false n = alike_ends Number store Overflow (λ e. cc)

  divided_alike : (result : ℤ → ℤ → ℤ) (a b : ℤ) → AlikeWord Number store (divided (separate no_cells) result a b store) (divided flat_words result a b flat)
  divided_alike result a (pos zero) = alike_stuck Number store _
  divided_alike result a (pos (suc n)) = number_alike (result a (pos (suc n)))
  divided_alike result a (negsuc n) = alike_stuck Number store _

  pub literal_alike : (n : ℤ) → AlikeWord Number store (effect (separate no_cells) (operation.Literal n) [] store) (effect flat_words (operation.Literal n) [] flat)
  literal_alike n = number_alike n

  pub truth_alike : (b : Flag) → AlikeWord Truth store (effect (separate no_cells) (operation.Truth b) [] store) (effect flat_words (operation.Truth b) [] flat)
  truth_alike b = alike_same Truth store flat _ _ laid (record { is = record { truth = b; is = refl; same = refl } })

  pub arithmetic_alike : (o : Op) (a b : ℤ)
      → AlikeWord Number store (effect (separate no_cells) (operation_of o) (a ∷ b ∷ []) store) (effect flat_words (operation_of o) (a ∷ b ∷ []) flat)
  arithmetic_alike op.Add a b = exact_alike (fits_word (a +ℤ b)) (a +ℤ b)
  arithmetic_alike op.Sub a b = exact_alike (fits_word (a -ℤ b)) (a -ℤ b)
  arithmetic_alike op.Mul a b = exact_alike (fits_word (a *ℤ b)) (a *ℤ b)
  arithmetic_alike op.Div a b = divided_alike int_div_euclid a b
  arithmetic_alike op.Mod a b = divided_alike int_rem_euclid a b

  pub compare_alike : (c : ℕ) (a b : ℤ)
      → AlikeWord Truth store (effect (separate no_cells) (operation.Compare c) (a ∷ b ∷ []) store) (effect flat_words (operation.Compare c) (a ∷ b ∷ []) flat)
  compare_alike c a b = alike_same Truth store flat _ _ laid (record { is = record { truth = compares c a b; is = refl; same = refl } })

  -- ---- blocks that are read

  pub record Found (v w : ℤ) : Type 0 where
    pub block : ℕ
    pub is : v ≡ pos block
    pub at : w ≡ pos (address ns block)
    pub found : Block
    pub there : slice_get store.blocks block ≡ Some found

  pub block_found : (v w : ℤ) → IsAddress ns v w → Found v w
  block_found v w a =
      let it = get_there store.blocks a.block (let lt = a.below in omega (arith, sizes_length store.blocks, lt)) in
      record { block = a.block; is = a.is; at = a.at; found = it.0; there = it.1 }

  abbrev pub header : Block → Header
  header b = record { descriptor = pos b.descriptor; cells = pos (length b.cells) }

  pub flat_header : (v w : ℤ) (f : Found v w) → header_at flat.words (address ns f.block) ≡ Some (header f.found)
  flat_header v w f = laid_header ns store.blocks flat.words f.block f.found laid.laid f.there

  pub length_alike : (v w : ℤ) → IsAddress ns v w
      → AlikeWord Number store (effect (separate no_cells) operation.Length (v ∷ []) store) (effect flat_words operation.Length (w ∷ []) flat)
  length_alike v w a =
      let f = block_found v w a in
      subst (λ x. AlikeWord Number store (effect (separate no_cells) operation.Length (x ∷ []) store) (effect flat_words operation.Length (w ∷ []) flat)) (sym f.is)
      (subst (λ x. AlikeWord Number store (effect (separate no_cells) operation.Length (pos f.block ∷ []) store) (effect flat_words operation.Length (x ∷ []) flat)) (sym f.at)
      (subst (λ o. AlikeWord Number store (measures (separate no_cells) (header_in o) store) (effect flat_words operation.Length (pos (address ns f.block) ∷ []) flat)) (sym f.there)
      (subst (λ o. AlikeWord Number store (measures (separate no_cells) (Some (header f.found)) store) (measures flat_words o flat)) (sym (flat_header v w f))
      (number_alike (pos (length f.found.cells))))))

  -- a cell has its own tag
  cell_alike : (block k : ℕ) (b : Block) → slice_get store.blocks block ≡ Some b → (within : Flag) → nat_lt k (length b.cells) ≡ within
      → AlikeWord (tag_at b.cells k) store (loads_from (separate no_cells) (Some (header b)) block (pos k) store)
      (loads_from flat_words (Some (header b)) (address ns block) (pos k) flat)
  cell_alike block k b there false e = rw e (alike_stuck (tag_at b.cells k) store _)
  cell_alike block k b there true e =
      let x = get_there b.cells k (is_less k (length b.cells) e) in
      let c = laid_cell ns store.blocks flat.words block k b x.0 laid.laid there x.1 in
      let at = address ns block + 2 + k in
      rw e
      (subst (λ o. AlikeWord (tag_at b.cells k) store (reads_word (separate no_cells) (word_or (value_in o k)) store) (reads_word flat_words (slice_get flat.words at) flat)) (sym there)
      (subst (λ o. AlikeWord (tag_or o) store (reads_word (separate no_cells) (word_or o) store) (reads_word flat_words (slice_get flat.words at) flat)) (sym x.1)
      (subst (λ o. AlikeWord x.0.tag store (reads_word (separate no_cells) (Some x.0.word) store) (reads_word flat_words o flat)) (sym c.there)
      (alike_same x.0.tag store flat x.0.word c.word laid c.fits))))

  load_at : (i : ℤ) (block : ℕ) (b : Block) → slice_get store.blocks block ≡ Some b → header_at flat.words (address ns block) ≡ Some (header b)
      → AlikeWord (cell_tag store (pos block) i) store (effect (separate no_cells) operation.Load (pos block ∷ i ∷ []) store)
      (effect flat_words operation.Load (pos (address ns block) ∷ i ∷ []) flat)
  load_at (negsuc n) block b there begins = rw there (alike_stuck Number store _)
  load_at (pos k) block b there begins = rw there (rw begins (cell_alike block k b there (nat_lt k (length b.cells)) refl))

  pub load_alike : (v w i : ℤ) → IsAddress ns v w
      → AlikeWord (cell_tag store v i) store (effect (separate no_cells) operation.Load (v ∷ i ∷ []) store) (effect flat_words operation.Load (w ∷ i ∷ []) flat)
  load_alike v w i a =
      let f = block_found v w a in
      subst (λ x. AlikeWord (cell_tag store x i) store (effect (separate no_cells) operation.Load (x ∷ i ∷ []) store) (effect flat_words operation.Load (w ∷ i ∷ []) flat)) (sym f.is)
      (subst (λ x. AlikeWord (cell_tag store (pos f.block) i) store (effect (separate no_cells) operation.Load (pos f.block ∷ i ∷ []) store) (effect flat_words operation.Load (x ∷ i ∷ []) flat)) (sym f.at)
      (load_at i f.block f.found f.there (flat_header v w f)))

  -- ---- blocks that are made

  pub made_alike : (tags : ℕ → Tag) (gives : Tag) (d : ℕ) (us ws : List ℤ)
      → ((sizes : List ℕ) (v w : ℤ) → IsAddress sizes v w → Fits sizes (tagged_word gives v) w) → AllZip (Fits ns) (tagged tags us) ws
      → AlikeWord gives store (names_made (separate tags) ((separate tags).made store d us)) (names_made flat_words (flat_words.made flat d ws))
  made_alike tags gives d us ws fits all =
      let b : Block = record { descriptor = d; cells = tagged tags us } in
      let new : Blocks = record store { blocks = store.blocks ++ b ∷ [] } in
      let more : Extends ns (sizes_of new.blocks) = record { more = length b.cells ∷ []; is = sizes_made store.blocks b } in
      alike_writes gives store (pos (length store.blocks)) new _ (record {
        word = pos (length flat.words);
        flat = record flat { words = flat.words ++ block_words d ws };
        is = refl;
        laid = record {
          heap = laid.heap;
          laid = laid_made (sizes_of new.blocks) store.blocks flat.words b ws (laid_more ns (sizes_of new.blocks) store.blocks flat.words more laid.laid)
              (all_fit_more ns (sizes_of new.blocks) b.cells ws more all);
        };
        more = more;
        fits = fits (sizes_of new.blocks) (pos (length store.blocks)) (pos (length flat.words)) (record {
          block = length store.blocks;
          below = omega (arith, sizes_length new.blocks, length-append store.blocks (b ∷ []));
          is = refl;
          at = ap pos (laid_length ns store.blocks flat.words laid.laid ∙ sym (address_made store.blocks b));
        });
      })

  -- they have room for the same
  pub rooms : (m n : ℕ) → m ≡ n → nat_le (used store.blocks + m) store.heap ≡ nat_le (length flat.words + n) flat.heap
  rooms m n e =
      let long = laid_length ns store.blocks flat.words laid.laid in
      ap (λ k. nat_le k store.heap) (let s : used store.blocks + m ≡ length flat.words + n = omega (arith, e, long) in s) ∙ ap (nat_le (length flat.words + n)) (sym laid.heap)

  tuple_if : (room : Flag) (t : ℕ) (tags : ℕ → Tag) (us ws : List ℤ) → AllZip (Fits ns) (tagged tags us) ws
      → AlikeWord Tuple store (makes_tuple (separate tags) room t us store) (makes_tuple flat_words room t ws flat)
  tuple_if true t tags us ws all = made_alike tags Tuple (2 * t + 1) us ws (λ sizes v w a. record { is = a }) all
  tuple_if false t tags us ws all = alike_ends Tuple store NoStore (λ e. cc)

  pub tuple_alike : (t : ℕ) (vs : List Value) (ws : List ℤ) → AllZip (Fits ns) vs ws
      → AlikeWord Tuple store (effect (separate (tag_at vs)) (operation.Tuple t) (words_of vs) store) (effect flat_words (operation.Tuple t) ws flat)
  tuple_alike t vs ws all =
      let same : length (words_of vs) + 2 ≡ length ws + 2 = ap (λ n. n + 2) (words_length vs ∙ sym (all_fit_length ns vs ws all)) in
      let room = nat_le (used store.blocks + (length (words_of vs) + 2)) store.heap in
      subst (λ r. AlikeWord Tuple store (makes_tuple (separate (tag_at vs)) room t (words_of vs) store) (makes_tuple flat_words r t ws flat)) (rooms _ _ same)
      (tuple_if room t (tag_at vs) (words_of vs) ws (subst (λ xs. AllZip (Fits ns) xs ws) (sym (tagged_own vs)) all))

  array_if : (room : Flag) (c n : ℕ) (tag : Tag) (v w : ℤ) → Fits ns (tagged_word tag v) w
      → AlikeWord Array store (makes_equal (separate (λ k. tag)) room (2 * c) n v store) (makes_equal flat_words room (2 * c) n w flat)
  array_if true c n tag v w fits =
      made_alike (λ k. tag) Array (2 * c) (replicate n v) (replicate n w) (λ sizes v w a. record { is = a }) (equal_fit ns tag v w fits n)
  array_if false c n tag v w fits = alike_ends Array store NoStore (λ e. cc)

  pub array_alike : (c : ℕ) (n : ℤ) (tag : Tag) (v w : ℤ) → Fits ns (tagged_word tag v) w
      → AlikeWord Array store (effect (separate (λ k. tag)) (operation.New c) (n ∷ v ∷ []) store) (effect flat_words (operation.New c) (n ∷ w ∷ []) flat)
  array_alike c (negsuc n) tag v w fits = alike_stuck Array store _
  array_alike c (pos n) tag v w fits =
      let room = nat_le (used store.blocks + (n + 2)) store.heap in
      subst (λ r. AlikeWord Array store (makes_equal (separate (λ k. tag)) room (2 * c) n v store) (makes_equal flat_words r (2 * c) n w flat)) (rooms _ _ refl)
      (array_if room c n tag v w fits)
