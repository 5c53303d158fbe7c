-- A cell that is put, and parts that are read, are the same over both stores.
use Rattle.std.proofs.Common.{◌≡◌, ◌∙◌, ℕ, zero, suc, ◌+◌, ◌≤◌, ℤ, pos, negsuc, List, [], ◌∷◌, length, Bool as Flag, true, false, nat_lt, nat_le, slice_get, slice_set, Some, refl, sym, ap, subst, arith}
use Rattle.std.specs.List.{AllZip}
use Rattle.std.proofs.lemmas.Bool.Decides.{nat_tests}
use Rattle.xan_io.specs.Outcome.{How, Stuck}
use Rattle.xan_seq.proofs.NumberTests.{is_less}
use Rattle.state_types.specs.Words.{Header, header_at}
use Rattle.operation_rules.specs.Effects.{Stores, Effect, Writes, Ends, effect, puts_into, splits_if, splits_cells, cells_from}
use Rattle.operation_rules.specs.FlatWords.{Flat, flat_words}
use Rattle.operation_rules.specs.declared.operation.Operation.TheVariants as operation
use Rattle.typed_core.specs.SourceOperands.{no_cells}
use Rattle.typed_core.specs.SourceValues.{Tag, Value, Block, Blocks, with_tags, tags_of, cells_of, cell_tag, tag_at, tag_or, word_or, value_in, blocks_with, separate}
use Rattle.lowering_simulation.proofs.BlocksLaid.{sizes_of, Laid, IsLaid, sizes_written, laid_cell, laid_written}
use Rattle.lowering_simulation.proofs.EffectsAlike.{block_found, flat_header}
use Rattle.lowering_simulation.proofs.ListPlaces.{get_there}
use Rattle.lowering_simulation.proofs.WordsFit.{address, Fits, FitsTag, IsAddress}

abbrev header : Block → Header
header b = record { descriptor = pos b.descriptor; cells = pos (length b.cells) }

-- ---- a cell

pub record PutDone (store : Blocks) (us : List ℤ) (new : Blocks) (two : Effect Flat) : Type 0 where
  pub none : us ≡ []
  pub flat : Flat
  pub is : two ≡ Writes [] flat
  pub laid : IsLaid new flat
  pub same : sizes_of new.blocks ≡ sizes_of store.blocks

-- the source puts it and the code too, or the source is stuck
pub record PutAlike (store : Blocks) (one : Effect Blocks) (two : Effect Flat) : Type 0 where
  pub puts : (us : List ℤ) (new : Blocks) → one ≡ Writes us new → PutDone store us new two
  pub ends : (how : How) → one ≡ Ends how → how ≡ Stuck

put_stuck : (store : Blocks) (two : Effect Flat) → PutAlike store (Ends Stuck) two
put_stuck store two = record {
  puts = λ us new e. (let bad : ⊥ = cc in absurd bad);
  ends = λ how e. same how e;
}
  where
    same : (how : How) → (let x : Effect Blocks = Ends Stuck in x) ≡ Ends how → how ≡ Stuck
    same how e = cc

put_writes : (store new : Blocks) (two : Effect Flat) → PutDone store [] new two → PutAlike store (Writes [] new) two
put_writes store new two done = record {
  puts = λ us other e. (let s = same us other e in subst (λ x. PutDone store x other two) s.0 (subst (λ x. PutDone store [] x two) s.1 done));
  ends = λ how e. (let bad : ⊥ = cc in absurd bad);
}
  where
    same : (us : List ℤ) (other : Blocks) → (let x : Effect Blocks = Writes [] new in x) ≡ Writes us other → ([] ≡ us) × (new ≡ other)
    same us other e = ((let s : [] ≡ us = cc in s), (let s : new ≡ other = cc in s))

module _ (store : Blocks) (flat : Flat) (laid : IsLaid store flat) where
  abbrev ns : List ℕ
  ns = sizes_of store.blocks

  put_cell : (block k : ℕ) (b : Block) (v : Value) (w : ℤ) → slice_get store.blocks block ≡ Some b → v.tag ≡ tag_at b.cells k → Fits ns v w → (within : Flag)
      → nat_lt k (length b.cells) ≡ within
      → PutAlike store (puts_into (separate no_cells) (Some (header b)) block (pos k) v.word store)
      (puts_into flat_words (Some (header b)) (address ns block) (pos k) w flat)
  put_cell block k b v w there tag fits false e = rw e (put_stuck store _)
  put_cell block k b v w there tag fits true e =
      let x = get_there b.cells k (is_less k (length b.cells) e) in
      let same_tag_of : v.tag ≡ x.0.tag = tag ∙ ap tag_or x.1 in
      let new : Blocks = record store { blocks = blocks_with store.blocks block k v.word } in
      let words = slice_set flat.words (address ns block + 2 + k) w in
      let written = laid_written ns store.blocks flat.words block k b x.0 v.word w laid.laid there x.1
      (record { is = subst (λ t. FitsTag ns t v.word w) same_tag_of fits.is }) in
      rw e (put_writes store new _ (record {
        none = refl;
        flat = record flat { words = words };
        is = refl;
        laid = record { heap = laid.heap; laid = subst (λ sizes. Laid sizes new.blocks words) (sym (sizes_written store.blocks block k v.word)) written };
        same = sizes_written store.blocks block k v.word;
      }))

  put_at : (i : ℤ) (block : ℕ) (b : Block) (v : Value) (w : ℤ) → slice_get store.blocks block ≡ Some b → header_at flat.words (address ns block) ≡ Some (header b)
      → v.tag ≡ cell_tag store (pos block) i → Fits ns v w
      → PutAlike store (effect (separate no_cells) operation.Store (pos block ∷ i ∷ v.word ∷ []) store) (effect flat_words operation.Store (pos (address ns block) ∷ i ∷ w ∷ []) flat)
  put_at (negsuc n) block b v w there begins tag fits = rw there (put_stuck store _)
  put_at (pos k) block b v w there begins tag fits =
      let same : cell_tag store (pos block) (pos k) ≡ tag_at b.cells k = rw there refl in
      rw there (rw begins (put_cell block k b v w there (tag ∙ same) fits (nat_lt k (length b.cells)) refl))

  pub put_alike : (a x i : ℤ) (v : Value) (w : ℤ) → IsAddress ns a x → v.tag ≡ cell_tag store a i → Fits ns v w
      → PutAlike store (effect (separate no_cells) operation.Store (a ∷ i ∷ v.word ∷ []) store) (effect flat_words operation.Store (x ∷ i ∷ w ∷ []) flat)
  put_alike a x i v w at tag fits =
      let f = block_found store flat laid a x at in
      subst (λ y. PutAlike store (effect (separate no_cells) operation.Store (y ∷ i ∷ v.word ∷ []) store) (effect flat_words operation.Store (x ∷ i ∷ w ∷ []) flat)) (sym f.is)
      (subst (λ y. PutAlike store (effect (separate no_cells) operation.Store (pos f.block ∷ i ∷ v.word ∷ []) store) (effect flat_words operation.Store (y ∷ i ∷ w ∷ []) flat)) (sym f.at)
      (put_at i f.block f.found v w f.there (flat_header store flat laid a x f) (tag ∙ ap (λ y. cell_tag store y i) f.is) fits))

  -- ---- parts

  pub record PartsDone (tags : List Tag) (us : List ℤ) (new : Blocks) (two : Effect Flat) : Type 0 where
    pub words : List ℤ
    pub is : two ≡ Writes words flat
    pub same : new ≡ store
    pub fit : AllZip (Fits ns) (with_tags tags us) words

  pub record PartsAlike (tags : List Tag) (one : Effect Blocks) (two : Effect Flat) : Type 0 where
    pub parts : (us : List ℤ) (new : Blocks) → one ≡ Writes us new → PartsDone tags us new two
    pub ends : (how : How) → one ≡ Ends how → how ≡ Stuck

  parts_stuck : (tags : List Tag) (two : Effect Flat) → PartsAlike tags (Ends Stuck) two
  parts_stuck tags two = record {
    parts = λ us new e. (let bad : ⊥ = cc in absurd bad);
    ends = λ how e. same how e;
  }
    where
      same : (how : How) → (let x : Effect Blocks = Ends Stuck in x) ≡ Ends how → how ≡ Stuck
      same how e = cc

  parts_writes : (tags : List Tag) (us words : List ℤ) → AllZip (Fits ns) (with_tags tags us) words → PartsAlike tags (Writes us store) (Writes words flat)
  parts_writes tags us words fit = record {
    parts = λ vs new e.
        let s = same vs new e in
        record { words = words; is = refl; same = sym s.1; fit = subst (λ x. AllZip (Fits ns) (with_tags tags x) words) s.0 fit };
    ends = λ how e. (let bad : ⊥ = cc in absurd bad);
  }
    where
      same : (vs : List ℤ) (new : Blocks) → (let x : Effect Blocks = Writes us store in x) ≡ Writes vs new → (us ≡ vs) × (store ≡ new)
      same vs new e = ((let s : us ≡ vs = cc in s), (let s : store ≡ new = cc in s))

  record CellsRead (block index count : ℕ) (rest : List Value) : Type 0 where
    us : List ℤ
    words : List ℤ
    one : cells_from (separate no_cells) store block index count ≡ Some us
    two : cells_from flat_words flat (address ns block) index count ≡ Some words
    fit : AllZip (Fits ns) (with_tags (tags_of rest) us) words

  cells_first : {S : Type 0} (stores : Stores S) (s : S) (a index count : ℕ) (w : ℤ) (ws : List ℤ) → stores.cell s a index ≡ Some w
      → cells_from stores s a (suc index) count ≡ Some ws → cells_from stores s a index (suc count) ≡ Some (w ∷ ws)
  unfolding cells_from
  cells_first stores s a index count w ws e f = rw e (rw f refl)

  cells_read : (block : ℕ) (b : Block) → slice_get store.blocks block ≡ Some b → (count index : ℕ) (rest : List Value)
      → ((k : ℕ) (x : Value) → slice_get rest k ≡ Some x → slice_get b.cells (index + k) ≡ Some x) → count ≤ length rest → CellsRead block index count rest
  unfolding cells_from with_tags tags_of
  cells_read block b there zero index [] at few = record { us = []; words = []; one = refl; two = refl; fit = tt }
  cells_read block b there zero index (x ∷ rest) at few = record { us = []; words = []; one = refl; two = refl; fit = tt }
  cells_read block b there (suc count) index [] at few = absurd (omega (arith, few))
  cells_read block b there (suc count) index (x ∷ rest) at few =
      let here : slice_get b.cells index ≡ Some x = ap (slice_get b.cells) (let s : index ≡ index + 0 = omega arith in s) ∙ at 0 x refl in
      let c = laid_cell ns store.blocks flat.words block index b x laid.laid there here in
      let later = cells_read block b there count (suc index) rest
      (λ k y e. ap (slice_get b.cells) (let s : suc index + k ≡ index + suc k = omega arith in s) ∙ at (suc k) y e) (omega (arith, few)) in
      record {
        us = x.word ∷ later.us;
        words = c.word ∷ later.words;
        one = cells_first (separate no_cells) store block index count x.word later.us (ap (λ o. word_or (value_in o index)) there ∙ ap word_or here) later.one;
        two = cells_first flat_words flat (address ns block) index count c.word later.words c.there later.two;
        fit = (c.fits, later.fit);
      }

  is_at_most : (m n : ℕ) → nat_le m n ≡ true → m ≤ n
  is_at_most m n e = grind (arith, nat_tests)

  parts_of : (block : ℕ) (b : Block) → slice_get store.blocks block ≡ Some b → (count : ℕ) (within : Flag) → nat_le count (length b.cells) ≡ within
      → PartsAlike (tags_of b.cells) (splits_if (separate no_cells) within block count store) (splits_if flat_words within (address ns block) count flat)
  parts_of block b there count false e = parts_stuck (tags_of b.cells) _
  parts_of block b there count true e =
      let c = cells_read block b there count 0 b.cells (λ k x f. ap (slice_get b.cells) (let s : 0 + k ≡ k = omega arith in s) ∙ f) (is_at_most count (length b.cells) e) in
      subst (λ o. PartsAlike (tags_of b.cells) (splits_cells (separate no_cells) o store) (splits_if flat_words true (address ns block) count flat)) (sym c.one)
      (subst (λ o. PartsAlike (tags_of b.cells) (Writes c.us store) (splits_cells flat_words o flat)) (sym c.two)
      (parts_writes (tags_of b.cells) c.us c.words c.fit))

  parts_at : (block : ℕ) (b : Block) (t count : ℕ) → slice_get store.blocks block ≡ Some b → header_at flat.words (address ns block) ≡ Some (header b)
      → PartsAlike (tags_of (cells_of store (pos block))) (effect (separate no_cells) (operation.Untuple 0 count) (pos block ∷ []) store)
      (effect flat_words (operation.Untuple t count) (pos (address ns block) ∷ []) flat)
  parts_at block b t count there begins = rw there (rw begins (parts_of block b there count (nat_le count (length b.cells)) refl))

  pub parts_alike : (a x : ℤ) (t count : ℕ) → IsAddress ns a x
      → PartsAlike (tags_of (cells_of store a)) (effect (separate no_cells) (operation.Untuple 0 count) (a ∷ []) store) (effect flat_words (operation.Untuple t count) (x ∷ []) flat)
  parts_alike a x t count at =
      let f = block_found store flat laid a x at in
      subst (λ y. PartsAlike (tags_of (cells_of store y)) (effect (separate no_cells) (operation.Untuple 0 count) (y ∷ []) store) (effect flat_words (operation.Untuple t count) (x ∷ []) flat)) (sym f.is)
      (subst (λ y. PartsAlike (tags_of (cells_of store (pos f.block))) (effect (separate no_cells) (operation.Untuple 0 count) (pos f.block ∷ []) store) (effect flat_words (operation.Untuple t count) (y ∷ []) flat)) (sym f.at)
      (parts_at f.block f.found t count f.there (flat_header store flat laid a x f)))
