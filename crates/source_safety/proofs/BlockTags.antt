-- The cells of new blocks have the tags of their types, and a written cell keeps its tag.
use Rattle.std.proofs.Common.{◌≡◌, ◌∙◌, ◌⊎◌, inl, inr, ℕ, zero, suc, ◌+◌, ◌*◌, ℤ, List, [], ◌∷◌, ◌++◌, Some, Ok, refl, sym, ap, subst, arith}
use Rattle.std.specs.Prelude.{slice_get}
use Rattle.std.proofs.lemmas.Option.{same_Some}
use Rattle.state_types.specs.Words.{Headers}
use Rattle.state_types.specs.declared.closed.Packed.{Packed}
use Rattle.state_types.specs.declared.types.Ty.{Ty}
use Rattle.state_types.proofs.Thens.{ok_same}
use Rattle.operation_rules.specs.Rules.{cell_at, tuple_at}
use Rattle.typed_core.specs.SourceValues.{Tag, Value, Block, Blocks, words_of, tagged, tags_of, tag_at, cells_with, blocks_with}
use Rattle.source_safety.specs.Values.{tag_for, tags_for, HaveValues, IsTagged, AreTagged}

-- ---- a new block

last_or_before : (bs : List Block) (b c : Block) (block : ℕ) → slice_get (bs ++ b ∷ []) block ≡ Some c → (slice_get bs block ≡ Some c) ⊎ (b ≡ c)
last_or_before [] b c zero e = inr (same_Some b c e)
last_or_before [] b c (suc block) e = absurd (let bad : ⊥ = cc in bad)
last_or_before (x ∷ xs) b c zero e = inl e
last_or_before (x ∷ xs) b c (suc block) e = last_or_before xs b c block e

pub one_more_tagged : (table : List Packed) (store : Blocks) (b : Block) → AreTagged table store → IsTagged table b
    → AreTagged table (let new : Blocks = record store { blocks = store.blocks ++ b ∷ [] } in new)
one_more_tagged table store b all it = record { by = λ block c e. either_tagged c (last_or_before store.blocks b c block e) (λ h. all.by block c h) }
  where
    either_tagged : (c : Block) {P : Type 0} → P ⊎ (b ≡ c) → (P → IsTagged table c) → IsTagged table c
    either_tagged c (inl h) f = f h
    either_tagged c (inr e) f = subst (λ x. IsTagged table x) e it

each_tag : (g : Tag) (ws : List ℤ) (index : ℕ) (v : Value) → slice_get (tagged (λ n. g) ws) index ≡ Some v → v.tag ≡ g
unfolding tagged
each_tag g [] index v e = absurd (let bad : ⊥ = cc in bad)
each_tag g (w ∷ ws) zero v e = sym (ap (λ x. x.tag) (same_Some (record { tag = g; word = w }) v e))
each_tag g (w ∷ ws) (suc index) v e = each_tag g ws index v e

pub array_tagged : (table : List Packed) (cells : ℕ) (packed : Packed) (g : Tag) (ws : List ℤ) → cell_at table cells ≡ Ok packed → tags_for packed.parts ≡ g ∷ []
    → IsTagged table (record { descriptor = 2 * cells; cells = tagged (λ n. g) ws })
array_tagged table cells packed g ws there tags = record {
  arrays = λ element other index v same at get.
      let e : cells ≡ element = omega (arith, same) in
      let p : packed ≡ other = ok_same packed other (sym there ∙ ap (λ n. cell_at table n) e ∙ at) in
      ap (λ q. tags_for q.parts) (sym p) ∙ tags ∙ ap (λ x. x ∷ []) (sym (each_tag g ws index v get));
  tuples = λ number other same at. absurd (let bad : ⊥ = omega (arith, same) in bad);
}

own_tags : (vs : List Value) → tagged (tag_at vs) (words_of vs) ≡ vs
unfolding tagged words_of
own_tags [] = refl
own_tags (v ∷ vs) = ap (λ xs. v ∷ xs) (own_tags vs)

pub tags_have : (headers : Headers) (assignment : List ℤ) (vs : List Value) (ts : List Ty) → HaveValues headers assignment vs ts → tags_of vs ≡ tags_for ts
unfolding tags_of tags_for
tags_have headers assignment [] [] have = refl
tags_have headers assignment [] (t ∷ ts) have = absurd have
tags_have headers assignment (v ∷ vs) [] have = absurd have
tags_have headers assignment (v ∷ vs) (t ∷ ts) have = ap (λ g. g ∷ tags_of vs) have.0.tagged ∙ ap (λ gs. tag_for t ∷ gs) (tags_have headers assignment vs ts have.1)

pub tuple_tagged : (table : List Packed) (number : ℕ) (packed : Packed) (vs : List Value) → tuple_at table number ≡ Ok packed → tags_for packed.parts ≡ tags_of vs
    → IsTagged table (record { descriptor = 2 * number + 1; cells = tagged (tag_at vs) (words_of vs) })
tuple_tagged table number packed vs there tags = record {
  arrays = λ element other index v same at get. absurd (let bad : ⊥ = omega (arith, same) in bad);
  tuples = λ other_number other same at.
      let e : number ≡ other_number = omega (arith, same) in
      let p : packed ≡ other = ok_same packed other (sym there ∙ ap (λ n. tuple_at table n) e ∙ at) in
      ap tags_of (own_tags vs) ∙ sym tags ∙ ap (λ q. tags_for q.parts) p;
}

-- ---- a written cell

cells_keep : (cells : List Value) (index : ℕ) (word : ℤ) → tags_of (cells_with cells index word) ≡ tags_of cells
unfolding cells_with tags_of
cells_keep [] index word = refl
cells_keep (v ∷ vs) zero word = refl
cells_keep (v ∷ vs) (suc index) word = ap (λ gs. v.tag ∷ gs) (cells_keep vs index word)

-- what is there was there before, with the same tag
record Was (cells : List Value) (index : ℕ) (g : Tag) : Type 0 where
  old : Value
  there : slice_get cells index ≡ Some old
  tag : old.tag ≡ g

cell_was : (cells : List Value) (at : ℕ) (word : ℤ) (index : ℕ) (v : Value) → slice_get (cells_with cells at word) index ≡ Some v → Was cells index v.tag
unfolding cells_with
cell_was [] at word index v e = absurd (let bad : ⊥ = cc in bad)
cell_was (x ∷ xs) zero word zero v e = record { old = x; there = refl; tag = ap (λ y. y.tag) (same_Some (record x { word = word }) v e) }
cell_was (x ∷ xs) zero word (suc index) v e = record { old = v; there = e; tag = refl }
cell_was (x ∷ xs) (suc at) word zero v e = record { old = v; there = e; tag = refl }
cell_was (x ∷ xs) (suc at) word (suc index) v e = let w = cell_was xs at word index v e in record { old = w.old; there = w.there; tag = w.tag }

block_kept : (table : List Packed) (b : Block) (index : ℕ) (word : ℤ) → IsTagged table b → IsTagged table (record b { cells = cells_with b.cells index word })
block_kept table b index word it = record {
  arrays = λ element packed at v same there get. let w = cell_was b.cells index word at v get in it.arrays element packed at w.old same there w.there ∙ ap (λ g. g ∷ []) w.tag;
  tuples = λ number packed same there. cells_keep b.cells index word ∙ it.tuples number packed same there;
}

record WasBlock (table : List Packed) (bs : List Block) : Type 0 where
  by : (block : ℕ) (b : Block) → slice_get bs block ≡ Some b → IsTagged table b

blocks_kept : (table : List Packed) (bs : List Block) (address index : ℕ) (word : ℤ) → WasBlock table bs → WasBlock table (blocks_with bs address index word)
unfolding blocks_with
blocks_kept table [] address index word all = all
blocks_kept table (b ∷ bs) zero index word all = record {
  by = λ block c e. first_kept block c e;
}
  where
    first_kept : (block : ℕ) (c : Block) → slice_get ((let x : Block = record b { cells = cells_with b.cells index word } in x) ∷ bs) block ≡ Some c → IsTagged table c
    first_kept zero c e = subst (λ x. IsTagged table x) (same_Some (record b { cells = cells_with b.cells index word }) c e) (block_kept table b index word (all.by 0 b refl))
    first_kept (suc block) c e = all.by (suc block) c e
blocks_kept table (b ∷ bs) (suc address) index word all = later (blocks_kept table bs address index word (record { by = λ block c e. all.by (suc block) c e }))
  where
    later : WasBlock table (blocks_with bs address index word) → WasBlock table (b ∷ blocks_with bs address index word)
    later rest = record { by = λ block c e. step block c e rest }
      where
        step : (block : ℕ) (c : Block) → slice_get (b ∷ blocks_with bs address index word) block ≡ Some c → WasBlock table (blocks_with bs address index word) → IsTagged table c
        step zero c e rest = subst (λ x. IsTagged table x) (same_Some b c e) (all.by 0 b refl)
        step (suc block) c e rest = rest.by block c e

pub written_tagged : (table : List Packed) (store : Blocks) (address index : ℕ) (word : ℤ) → AreTagged table store
    → AreTagged table (let new : Blocks = record store { blocks = blocks_with store.blocks address index word } in new)
written_tagged table store address index word all =
    let kept = blocks_kept table store.blocks address index word (record { by = λ block b e. all.by block b e }) in
    record { by = λ block b e. kept.by block b e }
