-- The store of the code is that of the source, block after block: each a descriptor, a length and the words of its cells.
use Rattle.std.proofs.Common.{◌≡◌, ◌∙◌, ℕ, zero, suc, ◌+◌, ◌<◌, ℤ, pos, List, [], ◌∷◌, ◌++◌, append_assoc, append-nil, length, length-append, slice_get, slice_set, Option, Some, refl, sym, ap, subst, arith}
use Rattle.std.specs.List.{AllZip}
use Rattle.state_types.specs.Words.{Header, AtBlock, header_from, header_at}
use Rattle.operation_rules.specs.FlatWords.{Flat, block_words}
use Rattle.operation_rules.proofs.FlatWalks.{header_behind, block_whole}
use Rattle.typed_core.specs.SourceValues.{Value, Block, Blocks, used, cells_with, blocks_with}
use Rattle.lowering_simulation.proofs.ListPlaces.{get_within, get_front, get_behind, set_behind, set_front, length_set}
use Rattle.lowering_simulation.proofs.WordsFit.{address, Fits, Extends, all_fit_more, all_fit_length}

unfoldable pub sizes_of : List Block → List ℕ
sizes_of [] = []
sizes_of (b ∷ bs) = length b.cells ∷ sizes_of bs

unfoldable pub Laid : (sizes : List ℕ) → List Block → List ℤ → Type 0
Laid sizes [] words = words ≡ []
Laid sizes (b ∷ bs) words =
    (cells : List ℤ) × (rest : List ℤ) × (words ≡ block_words b.descriptor cells ++ rest) × AllZip (Fits sizes) b.cells cells × Laid sizes bs rest

-- the same room, and the same blocks
pub record IsLaid (store : Blocks) (flat : Flat) : Type 0 where
  pub heap : flat.heap ≡ store.heap
  pub laid : Laid (sizes_of store.blocks) store.blocks flat.words

pub sizes_length : (bs : List Block) → length (sizes_of bs) ≡ length bs
unfolding sizes_of
sizes_length [] = refl
sizes_length (b ∷ bs) = ap suc (sizes_length bs)

pub laid_length : (sizes : List ℕ) (bs : List Block) (words : List ℤ) → Laid sizes bs words → length words ≡ used bs
unfolding Laid used
laid_length sizes [] words h = ap length h
laid_length sizes (b ∷ bs) words h =
    let e = laid_length sizes bs h.1 h.4 in
    let f = all_fit_length sizes b.cells h.0 h.3 in
    ap length h.2 ∙ (let s : suc (suc (length (h.0 ++ h.1))) ≡ length b.cells + 2 + used bs = omega (arith, length-append h.0 h.1, e, f) in s)

pub laid_more : (old new : List ℕ) (bs : List Block) (words : List ℤ) → Extends old new → Laid old bs words → Laid new bs words
unfolding Laid
laid_more old new [] words more h = h
laid_more old new (b ∷ bs) words more h = (h.0, h.1, h.2, all_fit_more old new b.cells h.0 more h.3, laid_more old new bs h.1 more h.4)

-- behind a block
behind_block : (sizes : List ℕ) (d : ℕ) (values : List Value) (cells : List ℤ) (n k : ℕ) → AllZip (Fits sizes) values cells
    → n ≡ length values + 2 + k → n ≡ length (block_words d cells) + k
behind_block sizes d values cells n k f e = (let g = all_fit_length sizes values cells f in omega (arith, g, e))

module _ (sizes : List ℕ) where
  pub laid_header : (bs : List Block) (words : List ℤ) (n : ℕ) (b : Block) → Laid sizes bs words → slice_get bs n ≡ Some b
      → header_at words (address (sizes_of bs) n) ≡ Some (record { descriptor = pos b.descriptor; cells = pos (length b.cells) })
  unfolding Laid sizes_of address header_from
  laid_header [] words n b h e = cc
  laid_header (c ∷ bs) words zero b h e =
      let same : c ≡ b = cc in
      ap (λ ws. header_at ws 0) h.2
      ∙ ap (λ m. let o : Option Header = Some (record { descriptor = pos c.descriptor; cells = pos m }) in o) (all_fit_length sizes c.cells h.0 h.3)
      ∙ ap (λ (x : Block). let o : Option Header = Some (record { descriptor = pos x.descriptor; cells = pos (length x.cells) }) in o) same
  laid_header (c ∷ bs) words (suc n) b h e =
      let block = block_words c.descriptor h.0 in
      let there : length c.cells + 2 + address (sizes_of bs) n ≡ length block + address (sizes_of bs) n = behind_block sizes c.descriptor c.cells h.0 _ _ h.3 refl in
      ap (λ ws. header_at ws (length c.cells + 2 + address (sizes_of bs) n)) h.2
      ∙ ap (λ m. header_at (block ++ h.1) m) there
      ∙ header_behind AtBlock block h.1 (address (sizes_of bs) n) (block_whole c.descriptor h.0)
      ∙ laid_header bs h.1 n b h.4 e

  -- ---- cells

  pub record CellFits (words : List ℤ) (place : ℕ) (v : Value) : Type 0 where
    pub word : ℤ
    pub there : slice_get words place ≡ Some word
    pub fits : Fits sizes v word

  cell_fits : (vs : List Value) (ws : List ℤ) (i : ℕ) (v : Value) → AllZip (Fits sizes) vs ws → slice_get vs i ≡ Some v → CellFits ws i v
  cell_fits [] ws i v f e = cc
  cell_fits (x ∷ vs) [] i v f e = absurd f
  cell_fits (x ∷ vs) (w ∷ ws) zero v f e = (let same : x ≡ v = cc in record { word = w; there = refl; fits = subst (λ y. Fits sizes y w) same f.0 })
  cell_fits (x ∷ vs) (w ∷ ws) (suc i) v f e = (let it = cell_fits vs ws i v f.1 e in record { word = it.word; there = it.there; fits = it.fits })

  pub laid_cell : (bs : List Block) (words : List ℤ) (n i : ℕ) (b : Block) (v : Value) → Laid sizes bs words → slice_get bs n ≡ Some b → slice_get b.cells i ≡ Some v
      → CellFits words (address (sizes_of bs) n + 2 + i) v
  unfolding Laid sizes_of address
  laid_cell [] words n i b v h e f = cc
  laid_cell (c ∷ bs) words zero i b v h e f =
      let same : c ≡ b = cc in
      let it = cell_fits c.cells h.0 i v h.3 (subst (λ (x : Block). slice_get x.cells i ≡ Some v) (sym same) f) in
      record {
        word = it.word;
        there = ap (λ ws. slice_get ws (0 + 2 + i)) h.2
            ∙ ap (slice_get (block_words c.descriptor h.0 ++ h.1)) (let s : 0 + 2 + i ≡ suc (suc i) = omega arith in s)
            ∙ get_front h.0 h.1 i it.word it.there;
        fits = it.fits;
      }
  laid_cell (c ∷ bs) words (suc n) i b v h e f =
      let it = laid_cell bs h.1 n i b v h.4 e f in
      let a = address (sizes_of bs) n in
      let there : length c.cells + 2 + a + 2 + i ≡ length (block_words c.descriptor h.0) + (a + 2 + i) =
      behind_block sizes c.descriptor c.cells h.0 _ (a + 2 + i) h.3 (omega arith) in
      record {
        word = it.word;
        there = ap (λ ws. slice_get ws (length c.cells + 2 + a + 2 + i)) h.2
            ∙ get_behind (block_words c.descriptor h.0) h.1 (a + 2 + i) _ there ∙ it.there;
        fits = it.fits;
      }

  -- ---- a written cell

  cells_written : (vs : List Value) (ws : List ℤ) (i : ℕ) (x : Value) (v w : ℤ) → AllZip (Fits sizes) vs ws → slice_get vs i ≡ Some x
      → Fits sizes (record x { word = v }) w → AllZip (Fits sizes) (cells_with vs i v) (slice_set ws i w)
  unfolding cells_with
  cells_written [] ws i x v w f e it = cc
  cells_written (y ∷ vs) [] i x v w f e it = absurd f
  cells_written (y ∷ vs) (u ∷ ws) zero x v w f e it = (let same : x ≡ y = cc in (subst (λ (z : Value). Fits sizes (record z { word = v }) w) same it, f.1))
  cells_written (y ∷ vs) (u ∷ ws) (suc i) x v w f e it = (f.0, cells_written vs ws i x v w f.1 e it)

  pub laid_written : (bs : List Block) (words : List ℤ) (n i : ℕ) (b : Block) (x : Value) (v w : ℤ) → Laid sizes bs words → slice_get bs n ≡ Some b → slice_get b.cells i ≡ Some x
      → Fits sizes (record x { word = v }) w → Laid sizes (blocks_with bs n i v) (slice_set words (address (sizes_of bs) n + 2 + i) w)
  unfolding Laid sizes_of address blocks_with
  laid_written [] words n i b x v w h e f it = cc
  laid_written (c ∷ bs) words zero i b x v w h e f it =
      let same : c ≡ b = cc in
      let there = subst (λ (y : Block). slice_get y.cells i ≡ Some x) (sym same) f in
      let lt : i < length h.0 = (let g = all_fit_length sizes c.cells h.0 h.3 in let k = get_within c.cells i x there in omega (arith, g, k)) in (
        slice_set h.0 i w,
        h.1,
        ap (λ ws. slice_set ws (0 + 2 + i) w) h.2
            ∙ ap (λ k. slice_set (block_words c.descriptor h.0 ++ h.1) k w) (let s : 0 + 2 + i ≡ suc (suc i) = omega arith in s)
            ∙ ap (λ ws. pos c.descriptor ∷ pos (length h.0) ∷ ws) (set_front h.0 h.1 i w lt)
            ∙ ap (λ k. pos c.descriptor ∷ pos k ∷ (slice_set h.0 i w ++ h.1)) (sym (length_set h.0 i w)),
        cells_written c.cells h.0 i x v w h.3 there it,
        h.4,
      )
  laid_written (c ∷ bs) words (suc n) i b x v w h e f it =
      let a = address (sizes_of bs) n in
      let there : length c.cells + 2 + a + 2 + i ≡ length (block_words c.descriptor h.0) + (a + 2 + i) =
      behind_block sizes c.descriptor c.cells h.0 _ (a + 2 + i) h.3 (omega arith) in (
        h.0,
        slice_set h.1 (a + 2 + i) w,
        ap (λ ws. slice_set ws (length c.cells + 2 + a + 2 + i) w) h.2 ∙ set_behind (block_words c.descriptor h.0) h.1 (a + 2 + i) _ w there,
        h.3,
        laid_written bs h.1 n i b x v w h.4 e f it,
      )

  -- ---- a new block

  pub laid_made : (bs : List Block) (words : List ℤ) (b : Block) (cells : List ℤ) → Laid sizes bs words → AllZip (Fits sizes) b.cells cells
      → Laid sizes (bs ++ b ∷ []) (words ++ block_words b.descriptor cells)
  unfolding Laid
  laid_made [] words b cells h f = (cells, [], ap (λ ws. ws ++ block_words b.descriptor cells) h ∙ sym (append-nil (block_words b.descriptor cells)), f, refl)
  laid_made (c ∷ bs) words b cells h f = (
    h.0,
    h.1 ++ block_words b.descriptor cells,
    ap (λ ws. ws ++ block_words b.descriptor cells) h.2 ∙ append_assoc (block_words c.descriptor h.0) h.1 (block_words b.descriptor cells),
    h.3,
    laid_made bs h.1 b cells h.4 f,
  )

-- ---- sizes

pub sizes_made : (bs : List Block) (b : Block) → sizes_of (bs ++ b ∷ []) ≡ sizes_of bs ++ length b.cells ∷ []
unfolding sizes_of
sizes_made [] b = refl
sizes_made (c ∷ bs) b = ap (λ ns. length c.cells ∷ ns) (sizes_made bs b)

cells_length : (cells : List Value) (index : ℕ) (word : ℤ) → length (cells_with cells index word) ≡ length cells
unfolding cells_with
cells_length [] index word = refl
cells_length (v ∷ vs) zero word = refl
cells_length (v ∷ vs) (suc index) word = ap suc (cells_length vs index word)

pub sizes_written : (bs : List Block) (n i : ℕ) (word : ℤ) → sizes_of (blocks_with bs n i word) ≡ sizes_of bs
unfolding sizes_of blocks_with
sizes_written [] n i word = refl
sizes_written (b ∷ bs) zero i word = ap (λ k. k ∷ sizes_of bs) (cells_length b.cells i word)
sizes_written (b ∷ bs) (suc n) i word = ap (λ ns. length b.cells ∷ ns) (sizes_written bs n i word)

-- a new block's address is where the words end
pub address_made : (bs : List Block) (b : Block) → address (sizes_of (bs ++ b ∷ [])) (length bs) ≡ used bs
unfolding sizes_of address used
address_made [] b = refl
address_made (c ∷ bs) b = ap (λ k. length c.cells + 2 + k) (address_made bs b)
