-- Which effects write one word and leave the store as it is.
use Rattle.std.proofs.Common.{◌≡◌, ℕ, zero, suc, ℤ, pos, negsuc, ◌+ℤ◌, ◌-ℤ◌, ◌*ℤ◌, List, [], ◌∷◌, Bool as Truth, true, false, Option, Some, None, refl, sym, ap, subst}
use Rattle.std.specs.Prelude.{slice_get, nat_lt, length}
use Rattle.std.specs.Int.{int_div_euclid, int_rem_euclid}
use Rattle.state_types.specs.Words.{Header}
use Rattle.state_types.specs.declared.types.Ty.{Ty}
use Rattle.state_types.specs.declared.closed.Packed.{Packed}
use Rattle.operation_rules.specs.Effects.{writes_exact, fits_word, divided, measures, header_of, loads, loads_from, reads_at, reads_word, index_within}
use Rattle.operation_rules.specs.declared.operation.Operation.TheVariants as operation
use Rattle.typed_core.specs.SourceOperands.{no_cells, acts}
use Rattle.typed_core.specs.SourceRuns.{Run}
use Rattle.typed_core.specs.SourceValues.{Tag, Value, Block, Blocks, words_of, separate, header_in, value_in, word_or, cell_tag, tag_or}
use Rattle.source_safety.specs.Values.{tag_for, AreTagged}
use Rattle.source_safety.proofs.EffectsFare.{OneWord}

module _ (g : Tag) (t : Ty) (tag : g ≡ tag_for t) (table : List Packed) where
  exact_one : (store : Blocks) (tagged : AreTagged table store) (fits : Truth) (w : ℤ) → OneWord g t table (writes_exact (separate no_cells) fits w store)
  exact_one store tagged true w = (tagged, tag)
  exact_one store tagged false w = tt

  divided_one : (store : Blocks) (tagged : AreTagged table store) (f : ℤ → ℤ → ℤ) (a b : ℤ) → OneWord g t table (divided (separate no_cells) f a b store)
  divided_one store tagged f a (pos zero) = tt
  divided_one store tagged f a (pos (suc n)) = (tagged, tag)
  divided_one store tagged f a (negsuc n) = tt

  measured_one : (store : Blocks) (tagged : AreTagged table store) (header : Option Header) → OneWord g t table (measures (separate no_cells) header store)
  measured_one store tagged None = tt
  measured_one store tagged (Some header) = (tagged, tag)

  module _ {L : Type 0} (run : Run L) (tagged : AreTagged table run.store) where
    pub literal_one : (n : ℤ) → OneWord g t table (acts no_cells (operation.Literal n) [] run)
    unfolding words_of
    literal_one n = (tagged, tag)

    pub truth_one : (b : Truth) → OneWord g t table (acts no_cells (operation.Truth b) [] run)
    unfolding words_of
    truth_one b = (tagged, tag)

    pub add_one : (a b : Value) → OneWord g t table (acts no_cells operation.Add (a ∷ b ∷ []) run)
    unfolding words_of
    add_one a b = exact_one run.store tagged (fits_word (a.word +ℤ b.word)) (a.word +ℤ b.word)

    pub sub_one : (a b : Value) → OneWord g t table (acts no_cells operation.Sub (a ∷ b ∷ []) run)
    unfolding words_of
    sub_one a b = exact_one run.store tagged (fits_word (a.word -ℤ b.word)) (a.word -ℤ b.word)

    pub mul_one : (a b : Value) → OneWord g t table (acts no_cells operation.Mul (a ∷ b ∷ []) run)
    unfolding words_of
    mul_one a b = exact_one run.store tagged (fits_word (a.word *ℤ b.word)) (a.word *ℤ b.word)

    pub div_one : (a b : Value) → OneWord g t table (acts no_cells operation.Div (a ∷ b ∷ []) run)
    unfolding words_of
    div_one a b = divided_one run.store tagged int_div_euclid a.word b.word

    pub mod_one : (a b : Value) → OneWord g t table (acts no_cells operation.Mod (a ∷ b ∷ []) run)
    unfolding words_of
    mod_one a b = divided_one run.store tagged int_rem_euclid a.word b.word

    pub compare_one : (c : ℕ) (a b : Value) → OneWord g t table (acts no_cells (operation.Compare c) (a ∷ b ∷ []) run)
    unfolding words_of
    compare_one c a b = (tagged, tag)

    pub length_one : (a : Value) → OneWord g t table (acts no_cells operation.Length (a ∷ []) run)
    unfolding words_of
    length_one a = measured_one run.store tagged (header_of (separate no_cells) run.store a.word)

-- ---- a cell that is read has its own tag

-- the tag of each cell that is there
pub record CellTags (t : Ty) (store : Blocks) (word : ℤ) : Type 0 where
  pub by : (address : ℕ) (b : Block) (index : ℕ) (v : Value) → word ≡ pos address → slice_get store.blocks address ≡ Some b → slice_get b.cells index ≡ Some v → v.tag ≡ tag_for t

module _ (table : List Packed) (t : Ty) (store : Blocks) (tagged : AreTagged table store) (address : ℕ) (b : Block) (there : slice_get store.blocks address ≡ Some b) (tags : CellTags t store (pos address)) where
  value_read : (index : ℕ) (o : Option Value) → slice_get b.cells index ≡ o → OneWord (tag_or o) t table (reads_word (separate no_cells) (word_or o) store)
  value_read index None e = tt
  value_read index (Some v) e = (tagged, tags.by address b index v refl there e)

  index_read : (index : ℕ) (within : Truth) → nat_lt index (length b.cells) ≡ within
      → OneWord (tag_or (slice_get b.cells index)) t table (reads_at (separate no_cells) (index_within (separate no_cells) (pos (length b.cells)) (pos index)) address store)
  index_read index true e =
      rw e (subst (λ o. OneWord (tag_or (slice_get b.cells index)) t table (reads_word (separate no_cells) (word_or (value_in o index)) store)) (sym there)
      (value_read index (slice_get b.cells index) refl))
  index_read index false e = rw e tt

  pub block_read : (index : ℤ) → OneWord (cell_tag store (pos address) index) t table (loads_from (separate no_cells) (header_in (Some b)) address index store)
  block_read (pos index) =
      subst (λ g. OneWord g t table (loads_from (separate no_cells) (header_in (Some b)) address (pos index) store)) (sym (ap (λ o. tag_or (slice_get (found o) index)) there))
      (index_read index (nat_lt index (length b.cells)) refl)
    where
      found : Option Block → List Value
      found None = []
      found (Some b) = b.cells
  block_read (negsuc n) = tt

module _ (table : List Packed) (t : Ty) (store : Blocks) (tagged : AreTagged table store) where
  loaded_from : (address : ℕ) (index : ℤ) (o : Option Block) → slice_get store.blocks address ≡ o → CellTags t store (pos address)
      → OneWord (cell_tag store (pos address) index) t table (loads_from (separate no_cells) (header_in o) address index store)
  loaded_from address index None e tags = tt
  loaded_from address index (Some b) e tags = block_read table t store tagged address b e tags index

  loaded : (a index : ℤ) → CellTags t store a → OneWord (cell_tag store a index) t table (loads (separate no_cells) a index store)
  loaded (pos address) index tags = loaded_from address index (slice_get store.blocks address) refl tags
  loaded (negsuc n) index tags = tt

pub load_one : {L : Type 0} (table : List Packed) (t : Ty) (run : Run L) (a i : Value) → AreTagged table run.store → CellTags t run.store a.word
    → OneWord (cell_tag run.store a.word i.word) t table (acts no_cells operation.Load (a ∷ i ∷ []) run)
unfolding words_of
load_one table t run a i tagged tags = loaded table t run.store tagged a.word i.word tags
