-- The walk of headers over flat words that are whole.
use Rattle.std.proofs.Common.{◌≡◌, ℕ, zero, suc, ◌+◌, ◌<◌, ◌≤◌, ℤ, pos, negsuc, List, [], ◌∷◌, ◌++◌, length, set, Bool as Truth, true, false, Option, Some, None, refl, sym, ◌∙◌, ap, subst, arith}
use Rattle.state_types.specs.Words.{Header, Point, AtBlock, AtLength, AtCell, at_cells, cell_count, header_of, header_from}
use Rattle.operation_rules.specs.FlatWords.{is_whole_from, block_words}

none_is : {A : Type 0} (x : A) → (let o : Option A = None in o) ≡ Some x → ⊥
none_is x e = cc

never_true : (let t : Truth = false in t) ≡ true → ⊥
never_true e = cc

-- ---- cells

whole_cells : (n : ℕ) (words : List ℤ) → is_whole_from (at_cells n) words ≡ true → n ≤ length words
unfolding is_whole_from
whole_cells zero words e = omega arith
whole_cells (suc n) [] e = absurd (never_true e)
whole_cells (suc n) (x ∷ xs) e = (let rest = whole_cells n xs e in omega (arith, rest))

past_cells : (n : ℕ) (words : List ℤ) (address : ℕ) (header : Header) → header_from (at_cells n) words address ≡ Some header → n ≤ address
unfolding header_from
past_cells zero words address header e = omega arith
past_cells (suc n) [] address header e = absurd (none_is header e)
past_cells (suc n) (x ∷ xs) zero header e = absurd (none_is header e)
past_cells (suc n) (x ∷ xs) (suc address) header e = (let rest = past_cells n xs address header e in omega (arith, rest))

none_in_cells : (cells : List ℤ) (address : ℕ) → header_from (at_cells (length cells)) cells address ≡ None
unfolding header_from
none_in_cells [] address = refl
none_in_cells (x ∷ xs) zero = refl
none_in_cells (x ∷ xs) (suc address) = none_in_cells xs address

cells_whole : (cells : List ℤ) → is_whole_from (at_cells (length cells)) cells ≡ true
unfolding is_whole_from
cells_whole [] = refl
cells_whole (x ∷ xs) = cells_whole xs

cells-written : (n i : ℕ) (words : List ℤ) (word : ℤ) → i < n → is_whole_from (at_cells n) (set words i word) ≡ is_whole_from (at_cells n) words
unfolding is_whole_from
cells-written zero i words word h = absurd (omega arith)
cells-written (suc n) i [] word h = refl
cells-written (suc n) zero (x ∷ xs) word h = refl
cells-written (suc n) (suc i) (x ∷ xs) word h = cells-written n i xs word (omega arith)

-- ---- a block and its cells

cells_of : (descriptor cells : ℤ) (header : Header) → (let o : Option Header = Some (record { descriptor = descriptor; cells = cells }) in o) ≡ Some header → cells ≡ header.cells
cells_of descriptor cells header e = (let same : (let h : Header = record { descriptor = descriptor; cells = cells } in h) ≡ header = cc in ap (λ h. h.cells) same)

-- behind a descriptor
behind_within : (words : List ℤ) (descriptor : ℤ) (header : Header) → is_whole_from AtLength words ≡ true → header_of descriptor words ≡ Some header
    → 1 + cell_count header.cells ≤ length words
unfolding is_whole_from
behind_within [] descriptor header w e = absurd (none_is header e)
behind_within (pos n ∷ words) descriptor header w e =
    let same = cells_of descriptor (pos n) header e in
    let rest = whole_cells n words w in
    subst (λ c. 1 + cell_count c ≤ suc (length words)) same (omega (arith, rest))
behind_within (negsuc n ∷ words) descriptor header w e = absurd (never_true w)

pub within_words : (point : Point) (words : List ℤ) (block : ℕ) (header : Header) → is_whole_from point words ≡ true → header_from point words block ≡ Some header
    → block + 2 + cell_count header.cells ≤ length words
unfolding header_from is_whole_from
within_words AtBlock [] block header w e = absurd (none_is header e)
within_words AtLength [] block header w e = absurd (none_is header e)
within_words (AtCell n) [] block header w e = absurd (none_is header e)
within_words AtBlock (x ∷ xs) zero header w e = (let rest = behind_within xs x header w e in omega (arith, rest))
within_words AtBlock (x ∷ xs) (suc block) header w e = (let rest = within_words AtLength xs block header w e in omega (arith, rest))
within_words AtLength (x ∷ xs) zero header w e = absurd (none_is header e)
within_words AtLength (pos n ∷ xs) (suc block) header w e = (let rest = within_words (at_cells n) xs block header w e in omega (arith, rest))
within_words AtLength (negsuc n ∷ xs) (suc block) header w e = absurd (never_true w)
within_words (AtCell n) (x ∷ xs) zero header w e = absurd (none_is header e)
within_words (AtCell n) (x ∷ xs) (suc block) header w e = (let rest = within_words (at_cells n) xs block header w e in omega (arith, rest))

-- ---- blocks lie apart

behind_apart : (words : List ℤ) (descriptor : ℤ) (one two : Header) (other : ℕ) → header_of descriptor words ≡ Some one → header_from AtLength words other ≡ Some two
    → 1 + cell_count one.cells ≤ other
unfolding header_from
behind_apart [] descriptor one two other e f = absurd (none_is one e)
behind_apart (c ∷ words) descriptor one two zero e f = absurd (none_is two f)
behind_apart (c ∷ words) descriptor one two (suc other) e f =
    let same = cells_of descriptor c one e in
    let rest = past_cells (cell_count c) words other two f in
    subst (λ n. 1 + cell_count n ≤ suc other) same (omega (arith, rest))

pub blocks_apart : (point : Point) (words : List ℤ) (block other : ℕ) (one two : Header) → header_from point words block ≡ Some one → header_from point words other ≡ Some two → block < other
    → block + 2 + cell_count one.cells ≤ other
unfolding header_from
blocks_apart point words block zero one two e f h = absurd (omega arith)
blocks_apart AtBlock [] block (suc other) one two e f h = absurd (none_is one e)
blocks_apart AtLength [] block (suc other) one two e f h = absurd (none_is one e)
blocks_apart (AtCell n) [] block (suc other) one two e f h = absurd (none_is one e)
blocks_apart AtBlock (x ∷ xs) zero (suc other) one two e f h = (let rest = behind_apart xs x one two other e f in omega (arith, rest))
blocks_apart AtBlock (x ∷ xs) (suc block) (suc other) one two e f h = (let rest = blocks_apart AtLength xs block other one two e f (omega arith) in omega (arith, rest))
blocks_apart AtLength (x ∷ xs) zero (suc other) one two e f h = absurd (none_is one e)
blocks_apart AtLength (x ∷ xs) (suc block) (suc other) one two e f h =
    (let rest = blocks_apart (at_cells (cell_count x)) xs block other one two e f (omega arith) in omega (arith, rest))
blocks_apart (AtCell n) (x ∷ xs) zero (suc other) one two e f h = absurd (none_is one e)
blocks_apart (AtCell n) (x ∷ xs) (suc block) (suc other) one two e f h = (let rest = blocks_apart (at_cells n) xs block other one two e f (omega arith) in omega (arith, rest))

-- ---- a written cell

behind_written : (words : List ℤ) (descriptor : ℤ) (header : Header) (i : ℕ) (word : ℤ) → header_of descriptor words ≡ Some header → i < cell_count header.cells
    → is_whole_from AtLength words ≡ true → is_whole_from AtLength (set words (suc i) word) ≡ true
unfolding is_whole_from
behind_written [] descriptor header i word e h w = absurd (none_is header e)
behind_written (pos n ∷ words) descriptor header i word e h w =
    cells-written n i words word (subst (λ c. i < cell_count c) (sym (cells_of descriptor (pos n) header e)) h) ∙ w
behind_written (negsuc n ∷ words) descriptor header i word e h w = absurd (never_true w)

pub written_whole : (point : Point) (words : List ℤ) (block : ℕ) (header : Header) (i k : ℕ) (word : ℤ) → is_whole_from point words ≡ true → header_from point words block ≡ Some header
    → i < cell_count header.cells → k ≡ block + suc (suc i) → is_whole_from point (set words k word) ≡ true
unfolding header_from is_whole_from
written_whole point words block header i zero word w e h is = absurd (omega arith)
written_whole AtBlock [] block header i (suc k) word w e h is = absurd (none_is header e)
written_whole AtLength [] block header i (suc k) word w e h is = absurd (none_is header e)
written_whole (AtCell n) [] block header i (suc k) word w e h is = absurd (none_is header e)
written_whole AtBlock (x ∷ xs) zero header i (suc zero) word w e h is = absurd (omega arith)
written_whole AtBlock (x ∷ xs) zero header i (suc (suc k)) word w e h is =
    let same : i ≡ k = omega arith in
    subst (λ j. is_whole_from AtLength (set xs (suc j) word) ≡ true) same (behind_written xs x header i word e h w)
written_whole AtBlock (x ∷ xs) (suc block) header i (suc k) word w e h is = written_whole AtLength xs block header i k word w e h (omega arith)
written_whole AtLength (x ∷ xs) zero header i (suc k) word w e h is = absurd (none_is header e)
written_whole AtLength (pos n ∷ xs) (suc block) header i (suc k) word w e h is = written_whole (at_cells n) xs block header i k word w e h (omega arith)
written_whole AtLength (negsuc n ∷ xs) (suc block) header i (suc k) word w e h is = absurd (never_true w)
written_whole (AtCell n) (x ∷ xs) zero header i (suc k) word w e h is = absurd (none_is header e)
written_whole (AtCell n) (x ∷ xs) (suc block) header i (suc k) word w e h is = written_whole (at_cells n) xs block header i k word w e h (omega arith)

-- ---- more words behind

pub whole_append : (point : Point) (words more : List ℤ) → is_whole_from point words ≡ true → is_whole_from point (words ++ more) ≡ is_whole_from AtBlock more
unfolding is_whole_from
whole_append AtBlock [] more w = refl
whole_append AtLength [] more w = absurd (never_true w)
whole_append (AtCell n) [] more w = absurd (never_true w)
whole_append AtBlock (x ∷ xs) more w = whole_append AtLength xs more w
whole_append AtLength (pos n ∷ xs) more w = whole_append (at_cells n) xs more w
whole_append AtLength (negsuc n ∷ xs) more w = absurd (never_true w)
whole_append (AtCell n) (x ∷ xs) more w = whole_append (at_cells n) xs more w

pub header_behind : (point : Point) (words more : List ℤ) (address : ℕ) → is_whole_from point words ≡ true
    → header_from point (words ++ more) (length words + address) ≡ header_from AtBlock more address
unfolding is_whole_from header_from
header_behind AtBlock [] more address w = ap (λ n. header_from AtBlock more n) (let e : 0 + address ≡ address = omega arith in e)
header_behind AtLength [] more address w = absurd (never_true w)
header_behind (AtCell n) [] more address w = absurd (never_true w)
header_behind AtBlock (x ∷ xs) more address w =
    ap (λ n. header_from AtBlock (x ∷ (xs ++ more)) n) (let e : suc (length xs) + address ≡ suc (length xs + address) = omega arith in e) ∙ header_behind AtLength xs more address w
header_behind AtLength (pos k ∷ xs) more address w =
    ap (λ n. header_from AtLength (pos k ∷ (xs ++ more)) n) (let e : suc (length xs) + address ≡ suc (length xs + address) = omega arith in e) ∙ header_behind (at_cells k) xs more address w
header_behind AtLength (negsuc k ∷ xs) more address w = absurd (never_true w)
header_behind (AtCell k) (x ∷ xs) more address w =
    ap (λ n. header_from (AtCell k) (x ∷ (xs ++ more)) n) (let e : suc (length xs) + address ≡ suc (length xs + address) = omega arith in e) ∙ header_behind (at_cells k) xs more address w

front_of : (descriptor : ℤ) (words more : List ℤ) → is_whole_from AtLength words ≡ true → header_of descriptor (words ++ more) ≡ header_of descriptor words
unfolding is_whole_from
front_of descriptor [] more w = absurd (never_true w)
front_of descriptor (x ∷ xs) more w = refl

pub header_front : (point : Point) (words more : List ℤ) (address : ℕ) → is_whole_from point words ≡ true → address < length words
    → header_from point (words ++ more) address ≡ header_from point words address
unfolding is_whole_from header_from
header_front point [] more address w h = absurd (omega arith)
header_front AtBlock (x ∷ xs) more zero w h = front_of x xs more w
header_front AtBlock (x ∷ xs) more (suc address) w h = header_front AtLength xs more address w (omega arith)
header_front AtLength (x ∷ xs) more zero w h = refl
header_front AtLength (pos n ∷ xs) more (suc address) w h = header_front (at_cells n) xs more address w (omega arith)
header_front AtLength (negsuc n ∷ xs) more (suc address) w h = absurd (never_true w)
header_front (AtCell n) (x ∷ xs) more zero w h = refl
header_front (AtCell n) (x ∷ xs) more (suc address) w h = header_front (at_cells n) xs more address w (omega arith)

-- ---- a block

pub block_whole : (descriptor : ℕ) (cells : List ℤ) → is_whole_from AtBlock (block_words descriptor cells) ≡ true
unfolding is_whole_from
block_whole descriptor cells = cells_whole cells

pub block_begins : (descriptor : ℕ) (cells : List ℤ)
    → header_from AtBlock (block_words descriptor cells) 0 ≡ Some (record { descriptor = pos descriptor; cells = pos (length cells) })
unfolding header_from
block_begins descriptor cells = refl

pub block_alone : (descriptor : ℕ) (cells : List ℤ) (address : ℕ) (header : Header) → header_from AtBlock (block_words descriptor cells) address ≡ Some header → address ≡ 0
unfolding header_from
block_alone descriptor cells zero header e = refl
block_alone descriptor cells (suc zero) header e = absurd (none_is header e)
block_alone descriptor cells (suc (suc address)) header e = absurd (none_is header (sym (none_in_cells cells address) ∙ e))
