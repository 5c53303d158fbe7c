-- A word that is written to a cell.
use Rattle.std.proofs.Common.{◌≡◌, ◌∙◌, ◌<◌, ◌≤◌, ◌+◌, ◌++◌, ℕ, ℤ, zero, suc, List, [], ◌∷◌, length, set, get_or, nat_le, true, refl, sym, ap, arith}
use Rattle.std.specs.Prelude.{slice_get}
use Rattle.source_values.specs.Values.{like_in}
use Rattle.std.proofs.lemmas.Bool.{leb-true}
use Rattle.typed_core.specs.SourceValues.{Value, Block, cells_with, blocks_with, used}

pub cell_written : (cells : List Value) (i : ℕ) (d : Value) (word : ℤ) → i < length cells → set cells i (record (get_or cells i d) { word = word }) ≡ cells_with cells i word
unfolding cells_with
cell_written [] i d word h = absurd (omega (arith, h))
cell_written (v ∷ vs) zero d word h = refl
cell_written (v ∷ vs) (suc i) d word h = ap (λ (xs : List Value). v ∷ xs) (cell_written vs i d word (omega (arith, h)))

pub block_written : (blocks : List Block) (at i : ℕ) (d : Block) (word : ℤ) → at < length blocks
    → set blocks at (record (get_or blocks at d) { cells = cells_with (get_or blocks at d).cells i word }) ≡ blocks_with blocks at i word
unfolding blocks_with
block_written [] at i d word h = absurd (omega (arith, h))
block_written (b ∷ bs) zero i d word h = refl
block_written (b ∷ bs) (suc at) i d word h = ap (λ (xs : List Block). b ∷ xs) (block_written bs at i d word (omega (arith, h)))

-- ---- how many words the blocks take

pub used_more : (blocks : List Block) (b : Block) → used (blocks ++ b ∷ []) ≡ used blocks + (length b.cells + 2)
unfolding used
used_more [] b = omega arith
used_more (x ∷ xs) b = (let later = used_more xs b in omega (arith, later))

cells_as_many : (cells : List Value) (i : ℕ) (word : ℤ) → length (cells_with cells i word) ≡ length cells
unfolding cells_with
cells_as_many [] i word = refl
cells_as_many (v ∷ vs) zero word = refl
cells_as_many (v ∷ vs) (suc i) word = ap suc (cells_as_many vs i word)

pub used_same : (blocks : List Block) (at i : ℕ) (word : ℤ) → used (blocks_with blocks at i word) ≡ used blocks
unfolding used blocks_with
used_same [] at i word = refl
used_same (b ∷ bs) zero i word = ap (λ n. n + 2 + used bs) (cells_as_many b.cells i word)
used_same (b ∷ bs) (suc at) i word = ap (λ n. length b.cells + 2 + n) (used_same bs at i word)

-- a block more, where there is room for it
pub added : (blocks more : List Block) (b : Block) (now heap words : ℕ) → more ≡ blocks ++ b ∷ [] → now ≡ used blocks → words ≡ length b.cells
    → nat_le (used blocks + (length b.cells + 2)) heap ≡ true → heap ≤ 67108864
    → (now + (words + 2) ≡ used more) × (now + (words + 2) ≤ heap) × (heap ≤ 67108864)
added blocks more b now heap words e f g room most =
    let all : used more ≡ used blocks + (length b.cells + 2) = ap used e ∙ used_more blocks b in
    let le : used blocks + (length b.cells + 2) ≤ heap = leb-true (used blocks + (length b.cells + 2)) heap room in
    (omega (arith, all, f, g), omega (arith, le, f, g), most)

pub write_is : (blocks : List Block) (at i : ℕ) (b new : Block) (word : ℤ) → at < length blocks → b ≡ get_or blocks at b
    → new ≡ record b { cells = cells_with b.cells i word } → set blocks at new ≡ blocks_with blocks at i word
write_is blocks at i b new word h same e =
    ap (λ (x : Block). set blocks at x) (e ∙ ap (λ (c : Block). record c { cells = cells_with c.cells i word }) same) ∙ block_written blocks at i b word h

pub used_kept : (blocks new : List Block) (at i : ℕ) (word : ℤ) (now : ℕ) → new ≡ blocks_with blocks at i word → now ≡ used blocks → now ≡ used new
used_kept blocks new at i word now e f = f ∙ sym (ap used e ∙ used_same blocks at i word)

pub takes_in : (blocks : List Block) (at i : ℕ) (v : Value) → like_in v i (slice_get blocks at) ≡ true → at < length blocks
takes_in [] at i v e = absurd (let bad : ⊥ = cc in bad)
takes_in (b ∷ bs) zero i v e = omega arith
takes_in (b ∷ bs) (suc at) i v e = (let later = takes_in bs at i v e in omega (arith, later))
