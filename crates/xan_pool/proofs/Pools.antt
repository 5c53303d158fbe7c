-- What is seen of a pool, from its fields, and what is seen after each change.
use Rattle.std.proofs.Common.{◌≡◌, ℕ, ◌*◌, ◌+◌, ◌-◌, ◌<◌, ◌≤◌, ℤ, List, [], ◌∷◌, ◌++◌, length, take, drop, set, Some, slice_get, sym, ◌∙◌, ap, subst, arith}
use Rattle.std.proofs.lemmas.List.{length-take-le, length-drop, length-append}
use Rattle.xan_pool.specs.Pool.{Pool, rows_of}
use Rattle.xan_pool.specs.Layout.{pool_of}
use Rattle.xan_pool.specs.declared.region.RowPool.TheInside.{Inside}
use Rattle.xan_pool.proofs.Rows.{get-rows_of, length-rows_of, rows_of-push, take-rows_of, rows_of-cut, set-rows_of}

pub live_is : (pool : Inside) (seen : Pool) → pool_of pool ≡ seen → length seen.rows ≡ pool.live
live_is pool seen e = ap (λ p. length p.rows) (sym e) ∙ length-rows_of pool.live pool.width pool.cells.items

pub width_is : (pool : Inside) (seen : Pool) → pool_of pool ≡ seen → seen.width ≡ pool.width
width_is pool seen e = ap (λ p. p.width) (sym e)

pub capacity_is : (pool : Inside) (seen : Pool) → pool_of pool ≡ seen → seen.capacity ≡ pool.capacity
capacity_is pool seen e = ap (λ p. p.capacity) (sym e)

-- a row ends within the rows
pub row_within : (i n w : ℕ) → i < n → i * w + w ≤ n * w
row_within i n w h = grind (arith)

-- the rows before a position end within the rows
pub rows_within : (i n w : ℕ) → i ≤ n → i * w ≤ n * w
rows_within i n w h = grind (arith)

-- what is left where a stretch of rows is cut out
pub length-cut : (a b n w : ℕ) (cells : List ℤ) → a ≤ b → b ≤ n → length cells ≡ n * w
    → length (take (a * w) cells ++ drop (b * w) cells) ≡ (n - (b - a)) * w
length-cut a b n w cells ab bn full =
    let front = rows_within a n w (omega arith) in
    let back = rows_within b n w bn in
    let counted : a + (n - b) ≡ n - (b - a) = omega arith in
    let behind : b + (n - b) ≡ n = omega arith in
    length-append (take (a * w) cells) (drop (b * w) cells)
    ∙ omega (arith, length-take-le (a * w) cells (omega arith), length-drop (b * w) cells, ap (λ k. k * w) counted, ap (λ k. k * w) behind)

-- the pool of these fields with other rows
abbrev with_rows : Inside → List (List ℤ) → Pool
with_rows pool rows = record { rows = rows; width = pool.width; capacity = pool.capacity }

pub pushed_is : (pool : Inside) (seen : Pool) (cells row : List ℤ) → pool_of pool ≡ seen
    → length pool.cells.items ≡ pool.live * pool.width → length row ≡ pool.width → cells ≡ pool.cells.items ++ row
    → with_rows pool (rows_of (pool.live + 1) pool.width cells) ≡ record seen { rows = seen.rows ++ row ∷ [] }
pushed_is pool seen cells row e full whole change =
    let P : Pool → Type 0 = λ s. with_rows pool (rows_of (pool.live + 1) pool.width cells) ≡ record s { rows = s.rows ++ row ∷ [] } in
    subst P e (ap (λ rows. with_rows pool rows)
    (ap (λ xs. rows_of (pool.live + 1) pool.width xs) change ∙ rows_of-push pool.live pool.width pool.cells.items row full whole))

-- the cells at a row's place are that row
pub row_is : (pool : Inside) (seen : Pool) (i : ℕ) → pool_of pool ≡ seen → i < length seen.rows
    → slice_get seen.rows i ≡ Some (take pool.width (drop (i * pool.width) pool.cells.items))
row_is pool seen i e h =
    ap (λ p. slice_get p.rows i) (sym e) ∙ get-rows_of i pool.live pool.width pool.cells.items (omega (arith, live_is pool seen e))

pub length-row : (pool : Inside) (seen : Pool) (i : ℕ) → pool_of pool ≡ seen → length pool.cells.items ≡ pool.live * pool.width → i < length seen.rows
    → length (take pool.width (drop (i * pool.width) pool.cells.items)) ≡ seen.width
length-row pool seen i e full h =
    let live = live_is pool seen e in
    let inside = row_within i pool.live pool.width (omega arith) in
    length-take-le pool.width (drop (i * pool.width) pool.cells.items) (omega (arith, length-drop (i * pool.width) pool.cells.items)) ∙ sym (width_is pool seen e)

pub set_is : (pool : Inside) (seen : Pool) (i : ℕ) (cells row : List ℤ) → pool_of pool ≡ seen
    → length pool.cells.items ≡ pool.live * pool.width → i < pool.live → length row ≡ pool.width
    → cells ≡ take (i * length row) pool.cells.items ++ row ++ drop (i * length row + length row) pool.cells.items
    → with_rows pool (rows_of pool.live pool.width cells) ≡ record seen { rows = set seen.rows i row }
set_is pool seen i cells row e full h whole change =
    let P : Pool → Type 0 = λ s. with_rows pool (rows_of pool.live pool.width cells) ≡ record s { rows = set s.rows i row } in
    let at_width = ap (λ w. take (i * w) pool.cells.items ++ row ++ drop (i * w + w) pool.cells.items) whole in
    subst P e (ap (λ rows. with_rows pool rows)
    (ap (λ xs. rows_of pool.live pool.width xs) (change ∙ at_width) ∙ set-rows_of i pool.live pool.width pool.cells.items row h full whole))

pub released_is : (pool : Inside) (seen : Pool) (to : ℕ) (cells : List ℤ) → pool_of pool ≡ seen
    → length pool.cells.items ≡ pool.live * pool.width → to ≤ pool.live → cells ≡ take (to * pool.width) pool.cells.items
    → with_rows pool (rows_of to pool.width cells) ≡ record seen { rows = take to seen.rows }
released_is pool seen to cells e full h change =
    let P : Pool → Type 0 = λ s. with_rows pool (rows_of to pool.width cells) ≡ record s { rows = take to s.rows } in
    subst P e (ap (λ rows. with_rows pool rows)
    (ap (λ xs. rows_of to pool.width xs) change ∙ sym (take-rows_of to pool.live pool.width pool.cells.items h (omega arith))))

pub slid_is : (pool : Inside) (seen : Pool) (to from left : ℕ) (cells : List ℤ) → pool_of pool ≡ seen
    → length pool.cells.items ≡ pool.live * pool.width → to ≤ from → from ≤ pool.live → left ≡ pool.live - (from - to)
    → cells ≡ take (to * pool.width) pool.cells.items ++ drop (from * pool.width) pool.cells.items
    → with_rows pool (rows_of left pool.width cells) ≡ record seen { rows = take to seen.rows ++ drop from seen.rows }
slid_is pool seen to from left cells e full order within count change =
    let P : Pool → Type 0 = λ s. with_rows pool (rows_of left pool.width cells) ≡ record s { rows = take to s.rows ++ drop from s.rows } in
    let counted : left ≡ to + (pool.live - from) = omega arith in
    subst P e (ap (λ rows. with_rows pool rows)
    (ap (λ xs. rows_of left pool.width xs) change
    ∙ ap (λ k. rows_of k pool.width (take (to * pool.width) pool.cells.items ++ drop (from * pool.width) pool.cells.items)) counted
    ∙ rows_of-cut to from pool.live pool.width pool.cells.items order within (omega arith)))
