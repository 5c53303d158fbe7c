-- What constructs make of values.
use Rattle.std.specs.Prelude.{ℕ, zero, suc, ◌+◌, ◌*◌, ℤ, pos, negsuc, ◌+ℤ◌, ◌-ℤ◌, ◌*ℤ◌, Bool as Truth, true, false, not, List, [], ◌∷◌, ◌++◌, length, replicate, take, slice_get, Option, Some, None, Result, Ok, Err, nat_le, int_lt, int_le}
use Rattle.std.specs.Int.{int_div_euclid, int_rem_euclid}
use Rattle.std.specs.Ordering.{int_eq}
use Rattle.xan_io.specs.Outcome.{How, NoStore, Overflow, Stuck}
use Rattle.operation_rules.specs.Effects.{fits_word, truth_word}
use Rattle.xanadu_tree.specs.declared.expr.Op.{Op}
use Rattle.xanadu_tree.specs.declared.expr.Op.TheVariants as op
use Rattle.xanadu_tree.specs.declared.expr.Rel.{Rel}
use Rattle.xanadu_tree.specs.declared.expr.Rel.TheVariants as rel
use Rattle.typed_core.specs.SourceValues.{Tag, Value, Block, Blocks, number, same_tag, used, blocks_with}
use Rattle.typed_core.specs.SourceValues as tags

-- an answer, or how the run ends
abbrev pub Ending : Type 0 → Type 0
Ending A = Result A How

abbrev pub stuck : {A : Type 0} → Ending A
stuck = Err Stuck

abbrev pub or_stuck : {A B : Type 0} → Option A → (A → Ending B) → Ending B
or_stuck None next = stuck
or_stuck (Some x) next = next x

-- ---- one value

abbrev pub truth_value : Truth → Value
truth_value b = record { tag = tags.Truth; word = truth_word b }

abbrev pub word_if : Truth → ℤ → Option ℤ
word_if true word = Some word
word_if false word = None

-- the word of a value of this kind
abbrev pub word_in : Tag → Value → Option ℤ
word_in tag v = word_if (same_tag v.tag tag) v.word

abbrev pub decided : Value → Ending Truth
decided v = or_stuck (word_in tags.Truth v) (λ word. Ok (int_eq word (truth_word true)))

-- ---- numbers

abbrev pub exact_if : Truth → ℤ → Ending Value
exact_if true n = Ok (number n)
exact_if false n = Err Overflow

-- a number, where it fits a word
abbrev pub exact : ℤ → Ending Value
exact n = exact_if (fits_word n) n

-- the divisor is at least 1
abbrev pub divided : (ℤ → ℤ → ℤ) → ℤ → ℤ → Ending Value
divided result a (pos zero) = stuck
divided result a (pos (suc n)) = Ok (number (result a (pos (suc n))))
divided result a (negsuc n) = stuck

abbrev pub operated : Op → ℤ → ℤ → Ending Value
operated op.Add a b = exact (a +ℤ b)
operated op.Sub a b = exact (a -ℤ b)
operated op.Mul a b = exact (a *ℤ b)
operated op.Div a b = divided int_div_euclid a b
operated op.Mod a b = divided int_rem_euclid a b

abbrev pub holds_of : Rel → ℤ → ℤ → Truth
holds_of rel.Lt a b = int_lt a b
holds_of rel.Le a b = int_le a b
holds_of rel.Gt a b = int_lt b a
holds_of rel.Ge a b = int_le b a
holds_of rel.Eq a b = int_eq a b
holds_of rel.Ne a b = not (int_eq a b)

abbrev pub joined : Op → Value → Value → Ending Value
joined o a b = or_stuck (word_in tags.Number a) (λ x. or_stuck (word_in tags.Number b) (λ y. operated o x y))

abbrev pub negated : Value → Ending Value
negated v = joined op.Sub (number (pos 0)) v

abbrev pub related : Rel → Value → Value → Ending Value
related r a b = or_stuck (word_in tags.Number a) (λ x. or_stuck (word_in tags.Number b) (λ y. Ok (truth_value (holds_of r x y))))

-- ---- blocks

abbrev pub at_word : {A : Type 0} → List A → ℤ → Option A
at_word xs (pos n) = slice_get xs n
at_word xs (negsuc n) = None

abbrev pub found_block : Blocks → ℤ → Option Block
found_block store word = at_word store.blocks word

abbrev pub cell_of : Block → ℤ → Option Value
cell_of block word = at_word block.cells word

abbrev pub measured : Blocks → Value → Ending Value
measured store array = or_stuck (word_in tags.Array array) (λ a. or_stuck (found_block store a) (λ block. Ok (number (pos (length block.cells)))))

abbrev pub loaded : Blocks → (array index : Value) → Ending Value
loaded store array index =
    or_stuck (word_in tags.Array array) (λ a. or_stuck (word_in tags.Number index) (λ i.
    or_stuck (found_block store a) (λ block. or_stuck (cell_of block i) (λ cell. Ok cell))))

abbrev pub like_cell : Value → Option Value → Truth
like_cell new None = false
like_cell new (Some cell) = same_tag new.tag cell.tag

abbrev pub like_in : Value → (index : ℕ) → Option Block → Truth
like_in new index None = false
like_in new index (Some block) = like_cell new (slice_get block.cells index)

-- there is such a cell, and the value is of its kind
abbrev pub takes : Blocks → (block index : ℕ) → Value → Truth
takes store block index new = like_in new index (slice_get store.blocks block)

abbrev pub written : Blocks → (block index : ℕ) → ℤ → Blocks
written store block index word = record store { blocks = blocks_with store.blocks block index word }

abbrev pub put_if : Truth → Blocks → Ending Blocks
put_if true store = Ok store
put_if false store = stuck

abbrev pub put_at : Blocks → (block index : ℤ) → Value → Ending Blocks
put_at store (pos block) (pos index) new = put_if (takes store block index new) (written store block index new.word)
put_at store _ _ new = stuck

-- a cell keeps its kind
abbrev pub put : Blocks → (array index new : Value) → Ending Blocks
put store array index new = or_stuck (word_in tags.Array array) (λ a. or_stuck (word_in tags.Number index) (λ i. put_at store a i new))

-- a new block, where there is room for it
abbrev pub made_if : Truth → Tag → Block → Blocks → Ending (Value × Blocks)
made_if true tag block store = Ok (record { tag = tag; word = pos (length store.blocks) }, record store { blocks = store.blocks ++ block ∷ [] })
made_if false tag block store = Err NoStore

abbrev pub has_room : (count : ℕ) → Blocks → Truth
has_room count store = nat_le (used store.blocks + count) store.heap

abbrev pub array_by : (cells : ℕ) → (count : ℤ) → Value → Blocks → Ending (Value × Blocks)
array_by cells (pos n) fill store = made_if (has_room (n + 2) store) tags.Array (record { descriptor = 2 * cells; cells = replicate n fill }) store
array_by cells (negsuc n) fill store = stuck

abbrev pub array_made : (cells : ℕ) → (count fill : Value) → Blocks → Ending (Value × Blocks)
array_made cells count fill store = or_stuck (word_in tags.Number count) (λ n. array_by cells n fill store)

abbrev pub tuple_made : (ty : ℕ) → List Value → Blocks → Ending (Value × Blocks)
tuple_made ty parts store = made_if (has_room (length parts + 2) store) tags.Tuple (record { descriptor = 2 * ty + 1; cells = parts }) store

abbrev pub parts_if : Truth → (count : ℕ) → List Value → Ending (List Value)
parts_if true count cells = Ok (take count cells)
parts_if false count cells = stuck

-- the first so many parts of a tuple
abbrev pub parts_of : (count : ℕ) → Value → Blocks → Ending (List Value)
parts_of count tuple store =
    or_stuck (word_in tags.Tuple tuple) (λ t. or_stuck (found_block store t) (λ block. parts_if (nat_le count (length block.cells)) count block.cells))
