-- Separate blocks are a kind of store.
use Rattle.std.proofs.Common.{◌≡◌, ◌≢◌, ◌⊎◌, ◌∙◌, inl, inr, ℕ, zero, suc, ◌<◌, ℤ, pos, List, [], ◌∷◌, ◌++◌, length, Option, Some, refl, sym, ap, subst, arith}
use Rattle.std.specs.Prelude.{slice_get}
use Rattle.std.proofs.lemmas.Option.{same_Some}
use Rattle.state_types.specs.Words.{Header, cell_count}
use Rattle.operation_rules.specs.Stored.{IsStores}
use Rattle.typed_core.specs.SourceValues.{Tag, Value, Block, tagged, header_in, word_or, value_in, value_at, cells_with, blocks_with, separate}

-- ---- lists

get_last : {A : Type 0} (xs : List A) (x : A) → slice_get (xs ++ x ∷ []) (length xs) ≡ Some x
get_last [] x = refl
get_last (y ∷ ys) x = get_last ys x

-- ---- a written cell

length_with : (cells : List Value) (index : ℕ) (word : ℤ) → length (cells_with cells index word) ≡ length cells
unfolding cells_with
length_with [] index word = refl
length_with (v ∷ vs) zero word = refl
length_with (v ∷ vs) (suc index) word = ap suc (length_with vs index word)

headers_with : (bs : List Block) (address index : ℕ) (word : ℤ) (block : ℕ) → header_in (slice_get (blocks_with bs address index word) block) ≡ header_in (slice_get bs block)
unfolding blocks_with
headers_with [] address index word block = refl
headers_with (b ∷ bs) zero index word zero =
    ap (λ n. let h : Option Header = Some (record { descriptor = pos b.descriptor; cells = pos n }) in h) (length_with b.cells index word)
headers_with (b ∷ bs) zero index word (suc block) = refl
headers_with (b ∷ bs) (suc address) index word zero = refl
headers_with (b ∷ bs) (suc address) index word (suc block) = headers_with bs address index word block

cell_here : (cells : List Value) (index : ℕ) (word : ℤ) → index < length cells → word_or (slice_get (cells_with cells index word) index) ≡ Some word
unfolding cells_with
cell_here [] index word h = absurd (omega (arith, h))
cell_here (v ∷ vs) zero word h = refl
cell_here (v ∷ vs) (suc index) word h = cell_here vs index word (omega (arith, h))

cell_other : (cells : List Value) (index number : ℕ) (word : ℤ) → number ≢ index → slice_get (cells_with cells index word) number ≡ slice_get cells number
unfolding cells_with
cell_other [] index number word h = refl
cell_other (v ∷ vs) zero zero word h = absurd (h refl)
cell_other (v ∷ vs) zero (suc number) word h = refl
cell_other (v ∷ vs) (suc index) zero word h = refl
cell_other (v ∷ vs) (suc index) (suc number) word h = cell_other vs index number word (λ e. h (ap suc e))

-- the index is within the block, by its header
inside : (bs : List Block) (address index : ℕ) (header : Header) → header_in (slice_get bs address) ≡ Some header → index < cell_count header.cells
    → (b : Block) → slice_get bs address ≡ Some b → index < length b.cells
inside bs address index header e h b at =
    let same : header_in (Some b) ≡ Some header = sym (ap header_in at) ∙ e in
    let cells : pos (length b.cells) ≡ header.cells = ap (λ x. x.cells) (same_Some (record { descriptor = pos b.descriptor; cells = pos (length b.cells) }) header same) in
    subst (λ n. index < cell_count n) (sym cells) h

written_here : (bs : List Block) (address index : ℕ) (word : ℤ) (header : Header) → header_in (slice_get bs address) ≡ Some header → index < cell_count header.cells
    → word_or (value_at (blocks_with bs address index word) address index) ≡ Some word
unfolding blocks_with
written_here [] address index word header e h = absurd (let bad : ⊥ = cc in bad)
written_here (b ∷ bs) zero index word header e h = cell_here b.cells index word (inside (b ∷ bs) 0 index header e h b refl)
written_here (b ∷ bs) (suc address) index word header e h = written_here bs address index word header e h

written_other : (bs : List Block) (address index : ℕ) (word : ℤ) (block number : ℕ) → (block ≢ address) ⊎ (number ≢ index)
    → word_or (value_at (blocks_with bs address index word) block number) ≡ word_or (value_at bs block number)
unfolding blocks_with
written_other [] address index word block number h = refl
written_other (b ∷ bs) zero index word zero number (inl h) = absurd (h refl)
written_other (b ∷ bs) zero index word zero number (inr h) = ap word_or (cell_other b.cells index number word h)
written_other (b ∷ bs) zero index word (suc block) number h = refl
written_other (b ∷ bs) (suc address) index word zero number h = refl
written_other (b ∷ bs) (suc address) index word (suc block) number (inl h) = written_other bs address index word block number (inl (λ e. h (ap suc e)))
written_other (b ∷ bs) (suc address) index word (suc block) number (inr h) = written_other bs address index word block number (inr h)

-- ---- a new block

length_tagged : (tags : ℕ → Tag) (words : List ℤ) → length (tagged tags words) ≡ length words
unfolding tagged
length_tagged tags [] = refl
length_tagged tags (w ∷ ws) = ap suc (length_tagged (λ n. tags (suc n)) ws)

tagged_words : (tags : ℕ → Tag) (words : List ℤ) (i : ℕ) → word_or (slice_get (tagged tags words) i) ≡ slice_get words i
unfolding tagged
tagged_words tags [] i = refl
tagged_words tags (w ∷ ws) zero = refl
tagged_words tags (w ∷ ws) (suc i) = tagged_words (λ n. tags (suc n)) ws i

header_front : (bs : List Block) (b : Block) (block : ℕ) (header : Header) → header_in (slice_get bs block) ≡ Some header → header_in (slice_get (bs ++ b ∷ []) block) ≡ Some header
header_front [] b block header e = absurd (let bad : ⊥ = cc in bad)
header_front (c ∷ cs) b zero header e = e
header_front (c ∷ cs) b (suc block) header e = header_front cs b block header e

header_either : (bs : List Block) (b : Block) (block : ℕ) (header : Header) → header_in (slice_get (bs ++ b ∷ []) block) ≡ Some header
    → (header_in (slice_get bs block) ≡ Some header) ⊎ (block ≡ length bs)
header_either [] b zero header e = inr refl
header_either [] b (suc block) header e = absurd (let bad : ⊥ = cc in bad)
header_either (c ∷ cs) b zero header e = inl e
header_either (c ∷ cs) b (suc block) header e = later (header_either cs b block header e)
  where
    later : (header_in (slice_get cs block) ≡ Some header) ⊎ (block ≡ length cs) → (header_in (slice_get cs block) ≡ Some header) ⊎ (suc block ≡ suc (length cs))
    later (inl h) = inl h
    later (inr h) = inr (ap suc h)

value_front : (bs : List Block) (b : Block) (block number : ℕ) (header : Header) → header_in (slice_get bs block) ≡ Some header
    → word_or (value_at (bs ++ b ∷ []) block number) ≡ word_or (value_at bs block number)
value_front [] b block number header e = absurd (let bad : ⊥ = cc in bad)
value_front (c ∷ cs) b zero number header e = refl
value_front (c ∷ cs) b (suc block) number header e = value_front cs b block number header e

-- ---- the store

pub separate_is : (tags : ℕ → Tag) → IsStores (separate tags)
separate_is tags = record {
  writes = λ store address index word header whole begins h. record {
    whole = refl;
    headers = λ block. headers_with store.blocks address index word block;
    here = written_here store.blocks address index word header begins h;
    others = λ block number other at within apart. written_other store.blocks address index word block number apart;
  };
  makes = λ store descriptor cells whole.
      let b : Block = record { descriptor = descriptor; cells = tagged tags cells } in
      record {
        whole = refl;
        keeps = record { keeps = λ block header e. header_front store.blocks b block header e };
        begins = ap header_in (get_last store.blocks b)
            ∙ ap (λ n. let h : Option Header = Some (record { descriptor = pos descriptor; cells = pos n }) in h) (length_tagged tags cells);
        only = λ block header e. header_either store.blocks b block header e;
        old = λ block number header e h. value_front store.blocks b block number header e;
        fresh = λ number h. ap (λ o. word_or (value_in o number)) (get_last store.blocks b) ∙ tagged_words tags cells number;
      };
}
