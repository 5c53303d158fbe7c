-- Headers of a store stay where words are appended and where cells are written, and types of words with them.
use Rattle.std.proofs.Common.{◌≡◌, ℕ, zero, suc, ◌+◌, ◌<◌, ◌*◌, ℤ, List, [], ◌∷◌, ◌++◌, set, Option, Some, refl, sym, ap, subst, arith}
use Rattle.xan_lin.specs.Value.{value_of}
use Rattle.state_types.specs.Words.{Header, Headers, Point, AtBlock, AtLength, AtCell, at_cells, cell_count, header_of, header_from, header_at, IsBlock, HasType, Keeps}
use Rattle.state_types.specs.declared.types.Ty.{Ty}
use Rattle.state_types.specs.declared.types.Ty.TheVariants.{Int, Bool, Array, Named}

-- ---- types

block_stays : (old new : Headers) (word : ℤ) (descriptor : ℕ) (cells : ℤ) → Keeps old new → IsBlock old word descriptor cells → IsBlock new word descriptor cells
block_stays old new word descriptor cells keeps block =
    record { address = block.address; is = block.is; begins = keeps.keeps block.address _ block.begins }

pub type_stays : (old new : Headers) (assignment : List ℤ) (word : ℤ) (ty : Ty) → Keeps old new → HasType old assignment word ty → HasType new assignment word ty
type_stays old new assignment word (Int e) keeps has = has
type_stays old new assignment word Bool keeps has = has
type_stays old new assignment word (Array p e) keeps has = block_stays old new word (2 * p) (value_of assignment e) keeps has
type_stays old new assignment word (Named p) keeps has = (has.0, block_stays old new word (2 * p + 1) has.0 keeps has.1)

-- ---- appended words

front_stays : (descriptor : ℤ) (words more : List ℤ) (header : Header) → header_of descriptor words ≡ Some header → header_of descriptor (words ++ more) ≡ Some header
front_stays descriptor [] more header e = absurd (let bad : ⊥ = cc in bad)
front_stays descriptor (cells ∷ words) more header e = e

header-append : (point : Point) (words more : List ℤ) (address : ℕ) (header : Header) → header_from point words address ≡ Some header
    → header_from point (words ++ more) address ≡ Some header
unfolding header_from
header-append AtBlock [] more address header e = absurd (let bad : ⊥ = cc in bad)
header-append AtLength [] more address header e = absurd (let bad : ⊥ = cc in bad)
header-append (AtCell n) [] more address header e = absurd (let bad : ⊥ = cc in bad)
header-append AtBlock (word ∷ words) more zero header e = front_stays word words more header e
header-append AtBlock (word ∷ words) more (suc address) header e = header-append AtLength words more address header e
header-append AtLength (word ∷ words) more zero header e = absurd (let bad : ⊥ = cc in bad)
header-append AtLength (word ∷ words) more (suc address) header e = header-append (at_cells (cell_count word)) words more address header e
header-append (AtCell n) (word ∷ words) more zero header e = absurd (let bad : ⊥ = cc in bad)
header-append (AtCell n) (word ∷ words) more (suc address) header e = header-append (at_cells n) words more address header e

pub appended_keep : (words more : List ℤ) → Keeps (header_at words) (header_at (words ++ more))
appended_keep words more = record { keeps = λ address header e. header-append AtBlock words more address header e }

-- ---- written cells

cells-set : (n i : ℕ) (words : List ℤ) (word : ℤ) (address : ℕ) → i < n → header_from (at_cells n) (set words i word) address ≡ header_from (at_cells n) words address
unfolding header_from
cells-set zero i words word address h = absurd (omega arith)
cells-set (suc n) i [] word address h = refl
cells-set (suc n) zero (x ∷ xs) word zero h = refl
cells-set (suc n) zero (x ∷ xs) word (suc address) h = refl
cells-set (suc n) (suc i) (x ∷ xs) word zero h = refl
cells-set (suc n) (suc i) (x ∷ xs) word (suc address) h = cells-set n i xs word address (omega arith)

second_stays : (descriptor : ℤ) (words : List ℤ) (i : ℕ) (word : ℤ) → header_of descriptor (set words (suc i) word) ≡ header_of descriptor words
second_stays descriptor [] i word = refl
second_stays descriptor (x ∷ xs) i word = refl

cells_of : (descriptor cells : ℤ) (header : Header) → (let o : Option Header = Some (record { descriptor = descriptor; cells = cells }) in o) ≡ Some header → cells ≡ header.cells
cells_of descriptor cells header e = (let same : (let h : Header = record { descriptor = descriptor; cells = cells } in h) ≡ header = cc in ap (λ h. h.cells) same)

-- behind a header, at the block's cell i
behind-set : (words : List ℤ) (descriptor : ℤ) (header : Header) (i : ℕ) (word : ℤ) (address : ℕ) → header_of descriptor words ≡ Some header → i < cell_count header.cells
    → header_from AtLength (set words (suc i) word) address ≡ header_from AtLength words address
unfolding header_from
behind-set [] descriptor header i word address e h = absurd (let bad : ⊥ = cc in bad)
behind-set (cells ∷ words) descriptor header i word zero e h = refl
behind-set (cells ∷ words) descriptor header i word (suc address) e h =
    cells-set (cell_count cells) i words word address (subst (λ n. i < cell_count n) (sym (cells_of descriptor cells header e)) h)

further : (block i k : ℕ) → suc k ≡ suc block + suc (suc i) → k ≡ block + suc (suc i)
further block i k e = omega arith

-- k is the address of cell i of the block
header-set : (point : Point) (words : List ℤ) (block : ℕ) (header : Header) (i k : ℕ) (word : ℤ) (address : ℕ) → header_from point words block ≡ Some header → i < cell_count header.cells
    → k ≡ block + suc (suc i) → header_from point (set words k word) address ≡ header_from point words address
unfolding header_from
header-set point words block header i zero word address e h is = absurd (omega arith)
header-set AtBlock [] block header i (suc k) word address e h is = absurd (let bad : ⊥ = cc in bad)
header-set AtLength [] block header i (suc k) word address e h is = absurd (let bad : ⊥ = cc in bad)
header-set (AtCell n) [] block header i (suc k) word address e h is = absurd (let bad : ⊥ = cc in bad)
header-set AtBlock (x ∷ xs) zero header i (suc zero) word address e h is = absurd (omega arith)
header-set AtBlock (x ∷ xs) zero header i (suc (suc k)) word zero e h is = second_stays x xs k word
header-set AtBlock (x ∷ xs) zero header i (suc (suc k)) word (suc address) e h is =
    let same : k ≡ i = omega arith in
    behind-set xs x header k word address e (subst (λ n. n < cell_count header.cells) (sym same) h)
header-set AtBlock (x ∷ xs) (suc block) header i (suc zero) word address e h is = absurd (omega arith)
header-set AtBlock (x ∷ xs) (suc block) header i (suc (suc k)) word zero e h is = second_stays x xs k word
header-set AtBlock (x ∷ xs) (suc block) header i (suc (suc k)) word (suc address) e h is = header-set AtLength xs block header i (suc k) word address e h (further block i (suc k) is)
header-set AtLength (x ∷ xs) zero header i (suc k) word address e h is = absurd (let bad : ⊥ = cc in bad)
header-set AtLength (x ∷ xs) (suc block) header i (suc k) word zero e h is = refl
header-set AtLength (x ∷ xs) (suc block) header i (suc k) word (suc address) e h is =
    header-set (at_cells (cell_count x)) xs block header i k word address e h (further block i k is)
header-set (AtCell n) (x ∷ xs) zero header i (suc k) word address e h is = absurd (let bad : ⊥ = cc in bad)
header-set (AtCell n) (x ∷ xs) (suc block) header i (suc k) word zero e h is = refl
header-set (AtCell n) (x ∷ xs) (suc block) header i (suc k) word (suc address) e h is = header-set (at_cells n) xs block header i k word address e h (further block i k is)

pub written_same : (words : List ℤ) (block : ℕ) (header : Header) (i : ℕ) (word : ℤ) (address : ℕ) → header_at words block ≡ Some header → i < cell_count header.cells
    → header_at (set words (block + 2 + i) word) address ≡ header_at words address
written_same words block header i word address e h = header-set AtBlock words block header i (block + 2 + i) word address e h (omega arith)
