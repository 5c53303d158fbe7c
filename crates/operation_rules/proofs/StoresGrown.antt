-- A store with one block more, and one with a cell written, fit their types.
use Rattle.std.proofs.Common.{◌≡◌, ◌≢◌, ◌⊎◌, ℕ, zero, suc, ◌+◌, ◌*◌, ◌<◌, ◌==◌, ℤ, pos, List, [], ◌∷◌, length, Bool as Truth, true, false, Ok, Option, Some, refl, sym, ◌∙◌, ap, subst, arith, inl, inr}
use Rattle.std.specs.Prelude.{slice_get}
use Rattle.std.specs.List.{AllZip}
use Rattle.std.proofs.lemmas.Int.{ints}
use Rattle.std.proofs.lemmas.Bool.Decides.{Decides-eqb}
use Rattle.state_types.specs.Words.{Header, Headers, HasType, cell_count, Keeps}
use Rattle.state_types.specs.declared.closed.Packed.{Packed}
use Rattle.state_types.specs.declared.types.Ty.{Ty}
use Rattle.state_types.proofs.Walks.{type_stays}
use Rattle.state_types.proofs.Thens.{ok_same}
use Rattle.operation_rules.specs.Effects.{Stores, cells_from}
use Rattle.operation_rules.specs.Rules.{cell_at}
use Rattle.operation_rules.specs.Stored.{IsWritten, IsMade, Packs, CellFits, ArrayFits, TupleFits, StoreFits}
use Rattle.operation_rules.proofs.BlocksFound.{never_both}

-- ---- words keep their types

words_stay : (old new : Headers) (own words : List ℤ) (types : List Ty) → Keeps old new → AllZip (HasType old own) words types → AllZip (HasType new own) words types
words_stay old new own [] [] keeps has = tt
words_stay old new own [] (t ∷ types) keeps has = absurd has
words_stay old new own (w ∷ words) [] keeps has = absurd has
words_stay old new own (w ∷ words) (t ∷ types) keeps has = (type_stays old new own w t keeps has.0, words_stay old new own words types keeps has.1)

pub packs_stay : (old new : Headers) (packed : Packed) (words : List ℤ) → Keeps old new → Packs old packed words → Packs new packed words
packs_stay old new packed words keeps packs =
    record { own = packs.own; one_each = packs.one_each; hold = packs.hold; fit = words_stay old new packs.own words packed.parts keeps packs.fit }

pub some_same : {A : Type 0} (x y : A) → (let o : Option A = Some x in o) ≡ Some y → x ≡ y
some_same x y e = cc

module _ {S : Type 0} (stores : Stores S) where
  -- ---- cells in turn

  cells_same : (old new : S) (block index count : ℕ) → ((j : ℕ) → j < index + count → stores.cell new block j ≡ stores.cell old block j)
      → cells_from stores new block index count ≡ cells_from stores old block index count
  unfolding cells_from
  cells_same old new block index zero same = refl
  cells_same old new block index (suc count) same =
      rw (same index (omega arith), cells_same old new block (suc index) count (λ j h. same j (omega arith))) refl

  pub cells_read : (new : S) (block index : ℕ) (cells : List ℤ) → ((j : ℕ) → j < length cells → stores.cell new block (index + j) ≡ slice_get cells j)
      → cells_from stores new block index (length cells) ≡ Some cells
  unfolding cells_from
  cells_read new block index [] is = refl
  cells_read new block index (x ∷ xs) is =
      let here : stores.cell new block index ≡ Some x = ap (λ n. stores.cell new block n) (let e : index ≡ index + 0 = omega arith in e) ∙ is 0 (omega arith) in
      let later : cells_from stores new block (suc index) (length xs) ≡ Some xs =
      cells_read new block (suc index) xs (λ j h. ap (λ n. stores.cell new block n) (let e : suc index + j ≡ index + suc j = omega arith in e) ∙ is (suc j) (omega arith)) in
      rw (here, later) refl

  -- ---- a block that stays

  cell_stays : (old new : S) (packed : Packed) (block number : ℕ) → Keeps (stores.headers old) (stores.headers new) → stores.cell new block number ≡ stores.cell old block number
      → (table : List Packed) → CellFits stores table old packed block number → CellFits stores table new packed block number
  cell_stays old new packed block number keeps same table fits = record {
    word = fits.word;
    there = same ∙ fits.there;
    packs = packs_stay (stores.headers old) (stores.headers new) packed (fits.word ∷ []) keeps fits.packs;
  }

  count_is : (header : Header) (descriptor : ℤ) (n : ℕ) → (let h : Header = record { descriptor = descriptor; cells = pos n } in h) ≡ header → cell_count header.cells ≡ n
  count_is header descriptor n e = sym (ap (λ (h : Header). cell_count h.cells) e)

  block_stays : (table : List Packed) (old new : S) (block : ℕ) (header : Header) → Keeps (stores.headers old) (stores.headers new)
      → ((number : ℕ) → number < cell_count header.cells → stores.cell new block number ≡ stores.cell old block number)
      → ArrayFits stores table old block header ⊎ TupleFits stores table old block header → ArrayFits stores table new block header ⊎ TupleFits stores table new block header
  block_stays table old new block header keeps same (inl a) = inl (record {
    element = a.element;
    count = a.count;
    is = a.is;
    packed = a.packed;
    there = a.there;
    cells = λ number h. cell_stays old new a.packed block number keeps (same number (subst (λ n. number < n) (sym (count_is header _ a.count a.is)) h)) table (a.cells number h);
  })
  block_stays table old new block header keeps same (inr t) = inr (record {
    number = t.number;
    packed = t.packed;
    there = t.there;
    is = t.is;
    words = t.words;
    cells = cells_same old new block 0 (length t.packed.parts)
        (λ j h. same j (subst (λ n. j < n) (sym (count_is header _ (length t.packed.parts) t.is)) (omega arith))) ∙ t.cells;
    packs = packs_stay (stores.headers old) (stores.headers new) t.packed t.words keeps t.packs;
  })

  -- ---- one block more

  pub made_fits : (table : List Packed) (store new : S) (descriptor address : ℕ) (cells : List ℤ) → StoreFits stores table store → IsMade stores store descriptor cells address new
      → ((header : Header) → (let h : Header = record { descriptor = pos descriptor; cells = pos (length cells) } in h) ≡ header
      → ArrayFits stores table new address header ⊎ TupleFits stores table new address header)
      → StoreFits stores table new
  made_fits table store new descriptor address cells fits made here = record {
    whole = made.whole;
    blocks = λ block header e. by block header e (made.only block header e);
  }
    where
      by : (block : ℕ) (header : Header) → stores.headers new block ≡ Some header → (stores.headers store block ≡ Some header) ⊎ (block ≡ address)
          → ArrayFits stores table new block header ⊎ TupleFits stores table new block header
      by block header e (inl old) = block_stays table store new block header made.keeps (λ number h. made.old block number header old h) (fits.blocks block header old)
      by block header e (inr same) =
          subst (λ b. ArrayFits stores table new b header ⊎ TupleFits stores table new b header) (sym same)
          (here header (some_same _ header (sym made.begins ∙ ap (λ b. stores.headers new b) (sym same) ∙ e)))

  -- ---- a cell written

  -- the written array has the word, of its cells' type
  written_by : (table : List Packed) (store new : S) (address index : ℕ) (word : ℤ) (element block : ℕ) (header : Header) (packed : Packed) (test same_index : Truth)
      → IsWritten stores store address index word new → Packs (stores.headers new) packed (word ∷ []) → cell_at table element ≡ Ok packed
      → (number : ℕ) → (block == address) ≡ test → (number == index) ≡ same_index → stores.headers store block ≡ Some header → number < cell_count header.cells
      → (other : Packed) → (block ≡ address → other ≡ packed) → Keeps (stores.headers store) (stores.headers new) → CellFits stores table store other block number
      → CellFits stores table new other block number
  written_by table store new address index word element block header packed true true written packs there number is also begins h other same keeps fits =
      let here : block ≡ address = (Decides-eqb block address).0 is in
      let now : number ≡ index = (Decides-eqb number index).0 also in
      record {
        word = word;
        there = ap (λ b. stores.cell new b number) here ∙ ap (λ n. stores.cell new address n) now ∙ written.here;
        packs = subst (λ p. Packs (stores.headers new) p (word ∷ [])) (sym (same here)) packs;
      }
  written_by table store new address index word element block header packed false same_index written packs there number is also begins h other same keeps fits =
      cell_stays store new other block number keeps
      (written.others block number header begins h (inl (λ e. false_true (sym is ∙ (Decides-eqb block address).1 e)))) table fits
    where
      false_true : (let t : Truth = false in t) ≡ true → ⊥
      false_true e = cc
  written_by table store new address index word element block header packed true false written packs there number is also begins h other same keeps fits =
      cell_stays store new other block number keeps
      (written.others block number header begins h (inr (λ e. false_true (sym also ∙ (Decides-eqb number index).1 e)))) table fits
    where
      false_true : (let t : Truth = false in t) ≡ true → ⊥
      false_true e = cc

  array_written : (table : List Packed) (store new : S) (address index : ℕ) (word : ℤ) (element : ℕ) (cells : ℤ) (packed : Packed) → IsWritten stores store address index word new
      → Packs (stores.headers new) packed (word ∷ []) → cell_at table element ≡ Ok packed → stores.headers store address ≡ Some (record { descriptor = pos (2 * element); cells = cells })
      → Keeps (stores.headers store) (stores.headers new) → (block : ℕ) (header : Header) → stores.headers store block ≡ Some header
      → ArrayFits stores table store block header ⊎ TupleFits stores table store block header → ArrayFits stores table new block header ⊎ TupleFits stores table new block header
  array_written table store new address index word element cells packed written packs there begins keeps block header e (inl a) =
      let kind : block ≡ address → a.packed ≡ packed = λ same.
      let headers = a.is ∙ some_same header _ (sym e ∙ ap (λ b. stores.headers store b) same ∙ begins) in
      let number : a.element ≡ element = even_same a.element element (ap (λ (h : Header). h.descriptor) headers) in
      ok_same a.packed packed (sym a.there ∙ ap (λ n. cell_at table n) number ∙ there) in
      inl (record {
        element = a.element;
        count = a.count;
        is = a.is;
        packed = a.packed;
        there = a.there;
        cells = λ number h. written_by table store new address index word element block header packed (block == address) (number == index) written packs there number refl refl e
            (subst (λ n. number < n) (sym (count_is header _ a.count a.is)) h) a.packed kind keeps (a.cells number h);
      })
    where
      even_same : (p q : ℕ) → pos (2 * p) ≡ pos (2 * q) → p ≡ q
      even_same p q e = omega (arith, ints)
  array_written table store new address index word element cells packed written packs there begins keeps block header e (inr t) =
      let apart : block ≢ address = λ same.
      let headers = t.is ∙ some_same header _ (sym e ∙ ap (λ b. stores.headers store b) same ∙ begins) in
      never_both t.number element (ap (λ (h : Header). h.descriptor) headers) in
      inr (record {
        number = t.number;
        packed = t.packed;
        there = t.there;
        is = t.is;
        words = t.words;
        cells = cells_same store new block 0 (length t.packed.parts)
            (λ j h. written.others block j header e (subst (λ n. j < n) (sym (count_is header _ (length t.packed.parts) t.is)) (omega arith)) (inl apart)) ∙ t.cells;
        packs = packs_stay (stores.headers store) (stores.headers new) t.packed t.words keeps t.packs;
      })

  pub written_keeps : (store new : S) (address index : ℕ) (word : ℤ) → IsWritten stores store address index word new → Keeps (stores.headers store) (stores.headers new)
  written_keeps store new address index word written = record { keeps = λ block header e. written.headers block ∙ e }

  pub written_fits : (table : List Packed) (store new : S) (address index : ℕ) (word : ℤ) (element : ℕ) (cells : ℤ) (packed : Packed) → StoreFits stores table store
      → IsWritten stores store address index word new → Packs (stores.headers store) packed (word ∷ []) → cell_at table element ≡ Ok packed
      → stores.headers store address ≡ Some (record { descriptor = pos (2 * element); cells = cells }) → StoreFits stores table new
  written_fits table store new address index word element cells packed fits written packs there begins =
      let keeps = written_keeps store new address index word written in
      record {
        whole = written.whole;
        blocks = λ block header e.
            let before = sym (written.headers block) ∙ e in
            array_written table store new address index word element cells packed written (packs_stay (stores.headers store) (stores.headers new) packed (word ∷ []) keeps packs) there begins keeps
            block header before (fits.blocks block header before);
      }
