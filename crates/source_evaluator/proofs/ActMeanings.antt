-- What constructs make of values is what the meaning says.
use Rattle.std.proofs.Common.{◌≡◌, ◌∙◌, ◌+◌, ◌*◌, ◌<◌, ◌≤◌, ℕ, zero, suc, ℤ, pos, negsuc, ◌+ℤ◌, ◌-ℤ◌, ◌*ℤ◌, Bool as Truth, true, false, List, [], ◌∷◌, ◌++◌, length, map, take, drop, nat_lt, nat_le, Option, Some, None, Result, Ok, Err, refl, sym, ap, arith}
use Rattle.std.specs.Prelude.{slice_get, replicate}
use Rattle.std.specs.Int.{int_div_euclid, int_rem_euclid}
use Rattle.xan_seq.proofs.NumberTests.{less, not_less, is_less, is_not_less}
use Rattle.xan_io.specs.Outcome.{How, NoStore, Overflow, Stuck}
use Rattle.operation_rules.specs.Effects.{fits_word, writes_exact, divided as divides, compares, makes_equal, makes_tuple, truth_word}
use Rattle.xanadu_tree.specs.declared.expr.Op.{Op}
use Rattle.xanadu_tree.specs.declared.expr.Op.TheVariants as op
use Rattle.xanadu_tree.specs.declared.expr.Rel.{Rel}
use Rattle.xanadu_tree.specs.declared.expr.Rel.TheVariants as rel
use Rattle.typed_core.specs.SourceValues.{Tag, Number, Truth as TruthTag, Array, Tuple, Value, Block, Blocks, number, same_tag, separate, have_tags, words_of, tagged as with_tags_of, cell_tag, tag_at, header_in}
use Rattle.typed_core.specs.SourceRuns.{Run, Answer, one_of}
use Rattle.typed_core.specs.SourceOperands as spec
use Rattle.typed_core.specs.SourceTests.{decided}
use Rattle.source_values.specs.Values as values
use Rattle.source_values.specs.Values.{Ending, or_stuck, word_if, truth_value}

abbrev pub R : Type 0
R = Run (Unit {0})

-- an answer of a construct, as one of the meaning
abbrev pub lifted : {A : Type 0} → Ending A → R → Answer (Unit {0}) A
lifted (Ok x) st = Ok (x, st)
lifted (Err how) st = Err (record { how = how; run = st })

abbrev tagged : Tag → ℤ → Value
tagged t x = record { tag = t; word = x }

-- ---- numbers

exact_is : (b : Truth) (n : ℤ) (st : R) → one_of Number st (writes_exact (separate spec.no_cells) b n st.store) ≡ lifted (values.exact_if b n) st
exact_is true n st = refl
exact_is false n st = refl

divided_is : (f : ℤ → ℤ → ℤ) (a b : ℤ) (st : R) → one_of Number st (divides (separate spec.no_cells) f a b st.store) ≡ lifted (values.divided f a b) st
divided_is f a (pos zero) st = refl
divided_is f a (pos (suc n)) st = refl
divided_is f a (negsuc n) st = refl

operated_is : (o : Op) (x y : ℤ) (st : R) → spec.arithmetic o (tagged Number x) (tagged Number y) st ≡ lifted (values.operated o x y) st
unfolding spec.value_by have_tags words_of
operated_is op.Add x y st = exact_is (fits_word (x +ℤ y)) (x +ℤ y) st
operated_is op.Sub x y st = exact_is (fits_word (x -ℤ y)) (x -ℤ y) st
operated_is op.Mul x y st = exact_is (fits_word (x *ℤ y)) (x *ℤ y) st
operated_is op.Div x y st = divided_is int_div_euclid x y st
operated_is op.Mod x y st = divided_is int_rem_euclid x y st

arithmetic_by : (o : Op) (t u : Tag) (x y : ℤ) (st : R) → spec.arithmetic o (tagged t x) (tagged u y) st ≡ lifted (values.joined o (tagged t x) (tagged u y)) st
unfolding spec.value_by have_tags words_of
arithmetic_by o Number Number x y st = operated_is o x y st
arithmetic_by o Number TruthTag x y st = refl
arithmetic_by o Number Array x y st = refl
arithmetic_by o Number Tuple x y st = refl
arithmetic_by o TruthTag u x y st = refl
arithmetic_by o Array u x y st = refl
arithmetic_by o Tuple u x y st = refl

pub arithmetic_is : (o : Op) (a b : Value) (st : R) → spec.arithmetic o a b st ≡ lifted (values.joined o a b) st
arithmetic_is o a b st = arithmetic_by o a.tag b.tag a.word b.word st

compared_by : (c : ℕ) (t u : Tag) (x y : ℤ) (st : R) → spec.compared c (tagged t x) (tagged u y) st
    ≡ lifted (or_stuck (word_if (same_tag t Number) x) (λ a. or_stuck (word_if (same_tag u Number) y) (λ b. Ok (truth_value (compares c a b))))) st
unfolding spec.value_by have_tags words_of
compared_by c Number Number x y st = refl
compared_by c Number TruthTag x y st = refl
compared_by c Number Array x y st = refl
compared_by c Number Tuple x y st = refl
compared_by c TruthTag u x y st = refl
compared_by c Array u x y st = refl
compared_by c Tuple u x y st = refl

swapped : (p q : Option ℤ) (f : ℤ → ℤ → Ending Value) → or_stuck p (λ x. or_stuck q (λ y. f x y)) ≡ or_stuck q (λ y. or_stuck p (λ x. f x y))
swapped None None f = refl
swapped None (Some y) f = refl
swapped (Some x) None f = refl
swapped (Some x) (Some y) f = refl

in_turn : (c : ℕ) (a b : Value) (st : R) → spec.compared c b a st
    ≡ lifted (or_stuck (values.word_in Number a) (λ x. or_stuck (values.word_in Number b) (λ y. Ok (truth_value (compares c y x))))) st
in_turn c a b st =
    compared_by c b.tag a.tag b.word a.word st
    ∙ ap (λ (e : Ending Value). lifted e st) (swapped (values.word_in Number b) (values.word_in Number a) (λ y x. Ok (truth_value (compares c y x))))

pub related_is : (r : Rel) (a b : Value) (st : R) → spec.related r a b st ≡ lifted (values.related r a b) st
related_is rel.Lt a b st = compared_by 0 a.tag b.tag a.word b.word st
related_is rel.Le a b st = compared_by 1 a.tag b.tag a.word b.word st
related_is rel.Gt a b st = in_turn 0 a b st
related_is rel.Ge a b st = in_turn 1 a b st
related_is rel.Eq a b st = compared_by 2 a.tag b.tag a.word b.word st
related_is rel.Ne a b st = compared_by 3 a.tag b.tag a.word b.word st

decided_by : (t : Tag) (x : ℤ) (st : R) → decided (tagged t x) st ≡ lifted (values.decided (tagged t x)) st
unfolding decided have_tags words_of
decided_by Number x st = refl
decided_by TruthTag x st = refl
decided_by Array x st = refl
decided_by Tuple x st = refl

pub decided_is : (v : Value) (st : R) → decided v st ≡ lifted (values.decided v) st
decided_is v st = decided_by v.tag v.word st

-- ---- blocks

-- an answer and the store behind it
abbrev pub stored : {A : Type 0} → Ending (A × Blocks) → R → Answer (Unit {0}) A
stored (Ok new) st = Ok (new.0, record st { store = new.1 })
stored (Err how) st = Err (record { how = how; run = st })

abbrev pub there : {A : Type 0} → Option A → Truth
there None = false
there (Some x) = true

next_less : (i n : ℕ) (b : Truth) → nat_lt i n ≡ b → nat_lt (suc i) (suc n) ≡ b
next_less i n true e = (let h : i < n = is_less i n e in less (suc i) (suc n) (omega (arith, h)))
next_less i n false e = (let h : n ≤ i = is_not_less i n e in not_less (suc i) (suc n) (omega (arith, h)))

pub cell_there : (cells : List Value) (i : ℕ) → nat_lt i (length cells) ≡ there (slice_get cells i)
cell_there [] i = not_less i 0 (omega arith)
cell_there (v ∷ vs) zero = less 0 (length (v ∷ vs)) (omega arith)
cell_there (v ∷ vs) (suc i) = next_less i (length vs) (there (slice_get vs i)) (cell_there vs i)

load_cell : (b i : ℕ) (st : R) (block : Block) (o : Option Value) → slice_get st.store.blocks b ≡ Some block → slice_get block.cells i ≡ o → nat_lt i (length block.cells) ≡ there o
    → spec.cell_read (tagged Array (pos b)) (tagged Number (pos i)) st ≡ lifted (values.loaded st.store (tagged Array (pos b)) (tagged Number (pos i))) st
unfolding spec.value_by have_tags words_of
load_cell b i st block None e f g = rw e (rw f (rw g refl))
load_cell b i st block (Some v) e f g = rw e (rw f (rw g (rw e (rw f refl))))

load_at : (b i : ℕ) (st : R) (o : Option Block) → slice_get st.store.blocks b ≡ o
    → spec.cell_read (tagged Array (pos b)) (tagged Number (pos i)) st ≡ lifted (values.loaded st.store (tagged Array (pos b)) (tagged Number (pos i))) st
unfolding spec.value_by have_tags words_of
load_at b i st None e = rw e refl
load_at b i st (Some block) e = load_cell b i st block (slice_get block.cells i) e refl (cell_there block.cells i)

none_past : (b i : ℕ) (st : R) (o : Option Block) → slice_get st.store.blocks b ≡ o
    → spec.cell_read (tagged Array (pos b)) (tagged Number (negsuc i)) st ≡ lifted (values.loaded st.store (tagged Array (pos b)) (tagged Number (negsuc i))) st
unfolding spec.value_by have_tags words_of
none_past b i st None e = rw e refl
none_past b i st (Some block) e = rw e refl

load_by : (t u : Tag) (x y : ℤ) (st : R) → spec.cell_read (tagged t x) (tagged u y) st ≡ lifted (values.loaded st.store (tagged t x) (tagged u y)) st
unfolding spec.value_by have_tags words_of
load_by Array Number (pos b) (pos i) st = load_at b i st (slice_get st.store.blocks b) refl
load_by Array Number (pos b) (negsuc i) st = none_past b i st (slice_get st.store.blocks b) refl
load_by Array Number (negsuc b) y st = refl
load_by Array TruthTag x y st = refl
load_by Array Array x y st = refl
load_by Array Tuple x y st = refl
load_by Number u x y st = refl
load_by TruthTag u x y st = refl
load_by Tuple u x y st = refl

pub loaded_is : (a i : Value) (st : R) → spec.cell_read a i st ≡ lifted (values.loaded st.store a i) st
loaded_is a i st = load_by a.tag i.tag a.word i.word st

measure_at : (b : ℕ) (st : R) (o : Option Block) → slice_get st.store.blocks b ≡ o
    → spec.measured (tagged Array (pos b)) st ≡ lifted (values.measured st.store (tagged Array (pos b))) st
unfolding spec.value_by have_tags words_of
measure_at b st None e = rw e refl
measure_at b st (Some block) e = rw e refl

measure_by : (t : Tag) (x : ℤ) (st : R) → spec.measured (tagged t x) st ≡ lifted (values.measured st.store (tagged t x)) st
unfolding spec.value_by have_tags words_of
measure_by Array (pos b) st = measure_at b st (slice_get st.store.blocks b) refl
measure_by Array (negsuc b) st = refl
measure_by Number x st = refl
measure_by TruthTag x st = refl
measure_by Tuple x st = refl

pub measured_is : (a : Value) (st : R) → spec.measured a st ≡ lifted (values.measured st.store a) st
measured_is a st = measure_by a.tag a.word st

-- ---- new blocks

tags_back : (tags : ℕ → Tag) (vs : List Value) → ((n : ℕ) → tags n ≡ tag_at vs n) → with_tags_of tags (words_of vs) ≡ vs
unfolding with_tags_of words_of
tags_back tags [] h = refl
tags_back tags (v ∷ vs) h =
    ap (λ (t : Tag). tagged t v.word ∷ with_tags_of (λ n. tags (suc n)) (words_of vs)) (h 0)
    ∙ ap (λ (xs : List Value). v ∷ xs) (tags_back (λ n. tags (suc n)) vs (λ n. h (suc n)))

as_many_words : (vs : List Value) → length (words_of vs) ≡ length vs
unfolding words_of
as_many_words [] = refl
as_many_words (v ∷ vs) = ap suc (as_many_words vs)

tuple_by : (b : Truth) (ty : ℕ) (parts : List Value) (st : R)
    → one_of Tuple st (makes_tuple (separate (tag_at parts)) b ty (words_of parts) st.store)
    ≡ stored (values.made_if b Tuple (record { descriptor = 2 * ty + 1; cells = with_tags_of (tag_at parts) (words_of parts) }) st.store) st
tuple_by true ty parts st = refl
tuple_by false ty parts st = refl

pub tuple_is : (ty : ℕ) (parts : List Value) (st : R) → spec.tuple_made ty parts st ≡ stored (values.tuple_made ty parts st.store) st
tuple_is ty parts st =
    tuple_by (values.has_room (length (words_of parts) + 2) st.store) ty parts st
    ∙ ap (λ n. stored (values.made_if (values.has_room (n + 2) st.store) Tuple (record { descriptor = 2 * ty + 1; cells = with_tags_of (tag_at parts) (words_of parts) }) st.store) st)
    (as_many_words parts)
    ∙ ap (λ (cells : List Value). stored (values.made_if (values.has_room (length parts + 2) st.store) Tuple (record { descriptor = 2 * ty + 1; cells = cells }) st.store) st)
    (tags_back (tag_at parts) parts (λ n. refl))

filled_is : (n : ℕ) (fill : Value) → with_tags_of (λ k. fill.tag) (replicate n fill.word) ≡ replicate n fill
unfolding with_tags_of
filled_is zero fill = refl
filled_is (suc n) fill = ap (λ (xs : List Value). fill ∷ xs) (filled_is n fill)

array_by : (b : Truth) (ty n : ℕ) (fill : Value) (st : R)
    → one_of Array st (makes_equal (separate (λ k. fill.tag)) b (2 * ty) n fill.word st.store)
    ≡ stored (values.made_if b Array (record { descriptor = 2 * ty; cells = with_tags_of (λ k. fill.tag) (replicate n fill.word) }) st.store) st
array_by true ty n fill st = refl
array_by false ty n fill st = refl

array_of : (ty : ℕ) (t : Tag) (x : ℤ) (fill : Value) (st : R) → spec.array_made ty (tagged t x) fill st ≡ stored (values.array_made ty (tagged t x) fill st.store) st
unfolding have_tags words_of
array_of ty Number (pos n) fill st =
    array_by (values.has_room (n + 2) st.store) ty n fill st
    ∙ ap (λ (cells : List Value). stored (values.made_if (values.has_room (n + 2) st.store) Array (record { descriptor = 2 * ty; cells = cells }) st.store) st) (filled_is n fill)
array_of ty Number (negsuc n) fill st = refl
array_of ty TruthTag x fill st = refl
array_of ty Array x fill st = refl
array_of ty Tuple x fill st = refl

pub array_is : (ty : ℕ) (len fill : Value) (st : R) → spec.array_made ty len fill st ≡ stored (values.array_made ty len fill st.store) st
array_is ty len fill st = array_of ty len.tag len.word fill st
