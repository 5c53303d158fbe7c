-- The rows that cells make, under each change of the cells.
use Rattle.std.proofs.Common.{◌≡◌, ℕ, zero, suc, ◌+◌, ◌-◌, ◌*◌, ◌<◌, ◌≤◌, ℤ, List, [], ◌∷◌, ◌++◌, length, take, drop, set, refl, sym, ◌∙◌, ap, arith, Some, slice_get}
use Rattle.std.proofs.lemmas.List.{drop-drop, drop-append-le, take-append-le, take_at, drop_at, set_at, take_all, length-take-le, length-drop, append_assoc, take-append-drop}
use Rattle.xan_pool.specs.Pool.{Pool, rows_of}

pub length-rows_of : (n w : ℕ) (cells : List ℤ) → length (rows_of n w cells) ≡ n
unfolding rows_of
length-rows_of zero w cells = refl
length-rows_of (suc n) w cells = ap suc (length-rows_of n w (drop w cells))

pub no-rows : (w capacity : ℕ) (cells : List ℤ) → (let seen : Pool = record { rows = rows_of 0 w cells; width = w; capacity = capacity } in seen) ≡ record { rows = []; width = w; capacity = capacity }
unfolding rows_of
no-rows w capacity cells = refl

rows_of-count : (n m w : ℕ) (cells : List ℤ) → n ≡ m → rows_of n w cells ≡ rows_of m w cells
rows_of-count n m w cells e = ap (λ k. rows_of k w cells) e

drop-count : (n m : ℕ) (cells : List ℤ) → n ≡ m → drop n cells ≡ drop m cells
drop-count n m cells e = ap (λ k. drop k cells) e

rows_of-suc : (n w : ℕ) (cells : List ℤ) → rows_of (suc n) w cells ≡ take w cells ∷ rows_of n w (drop w cells)
unfolding rows_of
rows_of-suc n w cells = refl

-- more rows are the first rows and then those of the cells behind them
pub rows_of-add : (n m w : ℕ) (cells : List ℤ) → rows_of (n + m) w cells ≡ rows_of n w cells ++ rows_of m w (drop (n * w) cells)
unfolding rows_of
rows_of-add zero m w cells = rows_of-count (0 + m) m w cells (omega arith) ∙ ap (λ xs. rows_of m w xs) (drop-count 0 (0 * w) cells (omega arith))
rows_of-add (suc n) m w cells =
    rows_of-count (suc n + m) (suc (n + m)) w cells (omega arith)
    ∙ ap (λ rows. take w cells ∷ rows) (rows_of-add n m w (drop w cells) ∙ ap (λ xs. rows_of n w (drop w cells) ++ rows_of m w xs) (drop-drop (n * w) w cells ∙ drop-count (w + n * w) (suc n * w) cells (omega arith)))

-- what lies behind the rows does not matter
pub rows_of-front : (n w : ℕ) (xs ys : List ℤ) → n * w ≤ length xs → rows_of n w (xs ++ ys) ≡ rows_of n w xs
unfolding rows_of
rows_of-front zero w xs ys h = refl
rows_of-front (suc n) w xs ys h =
    let first : w ≤ length xs = omega arith in
    let rest : n * w ≤ length (drop w xs) = omega (arith, length-drop w xs) in
    ap (λ row. row ∷ rows_of n w (drop w (xs ++ ys))) (take-append-le w xs ys first)
    ∙ ap (λ rows. take w xs ∷ rows) (ap (λ cells. rows_of n w cells) (drop-append-le w xs ys first) ∙ rows_of-front n w (drop w xs) ys rest)

-- the cells that are kept make the same rows
rows_of-take : (n w : ℕ) (cells : List ℤ) → n * w ≤ length cells → rows_of n w (take (n * w) cells) ≡ rows_of n w cells
rows_of-take n w cells h =
    let whole : n * w ≤ length (take (n * w) cells) = omega (arith, length-take-le (n * w) cells h) in
    sym (rows_of-front n w (take (n * w) cells) (drop (n * w) cells) whole) ∙ ap (λ xs. rows_of n w xs) (take-append-drop (n * w) cells)

-- a row of its own
rows_of-one : (w : ℕ) (row : List ℤ) → length row ≡ w → rows_of 1 w row ≡ row ∷ []
unfolding rows_of
rows_of-one w row e = ap (λ xs. xs ∷ []) (take_all w row (omega arith))

-- one more row behind those that fill the cells
pub rows_of-push : (n w : ℕ) (cells row : List ℤ) → length cells ≡ n * w → length row ≡ w
    → rows_of (n + 1) w (cells ++ row) ≡ rows_of n w cells ++ row ∷ []
rows_of-push n w cells row full whole =
    rows_of-add n 1 w (cells ++ row)
    ∙ ap (λ rows. rows ++ rows_of 1 w (drop (n * w) (cells ++ row))) (rows_of-front n w cells row (omega arith))
    ∙ ap (λ xs. rows_of n w cells ++ rows_of 1 w xs) (drop_at cells row (n * w) full)
    ∙ ap (λ rows. rows_of n w cells ++ rows) (rows_of-one w row whole)

-- the first rows
pub take-rows_of : (k n w : ℕ) (cells : List ℤ) → k ≤ n → n * w ≤ length cells
    → take k (rows_of n w cells) ≡ rows_of k w (take (k * w) cells)
take-rows_of k n w cells h room =
    let within : k * w ≤ length cells = grind (arith) in
    ap (λ xs. take k xs) (rows_of-count n (k + (n - k)) w cells (omega arith) ∙ rows_of-add k (n - k) w cells)
    ∙ take_at (rows_of k w cells) (rows_of (n - k) w (drop (k * w) cells)) k (length-rows_of k w cells)
    ∙ sym (rows_of-take k w cells within)

-- the rows behind them
pub drop-rows_of : (k n w : ℕ) (cells : List ℤ) → k ≤ n → drop k (rows_of n w cells) ≡ rows_of (n - k) w (drop (k * w) cells)
drop-rows_of k n w cells h =
    ap (λ xs. drop k xs) (rows_of-count n (k + (n - k)) w cells (omega arith) ∙ rows_of-add k (n - k) w cells)
    ∙ drop_at (rows_of k w cells) (rows_of (n - k) w (drop (k * w) cells)) k (length-rows_of k w cells)

-- a stretch of rows cut out
pub rows_of-cut : (a b n w : ℕ) (cells : List ℤ) → a ≤ b → b ≤ n → n * w ≤ length cells
    → rows_of (a + (n - b)) w (take (a * w) cells ++ drop (b * w) cells) ≡ take a (rows_of n w cells) ++ drop b (rows_of n w cells)
rows_of-cut a b n w cells ab bn room =
    let within : a * w ≤ length cells = grind (arith) in
    let length_front = length-take-le (a * w) cells within in
    let front = take (a * w) cells in
    let back = drop (b * w) cells in
    rows_of-add a (n - b) w (front ++ back)
    ∙ ap (λ rows. rows ++ rows_of (n - b) w (drop (a * w) (front ++ back))) (rows_of-front a w front back (omega arith))
    ∙ ap (λ xs. rows_of a w front ++ rows_of (n - b) w xs) (drop_at front back (a * w) length_front)
    ∙ ap (λ rows. rows ++ rows_of (n - b) w back) (sym (take-rows_of a n w cells (omega arith) room))
    ∙ ap (λ rows. take a (rows_of n w cells) ++ rows) (sym (drop-rows_of b n w cells bn))

-- the row at a position
pub get-rows_of : (i n w : ℕ) (cells : List ℤ) → i < n → slice_get (rows_of n w cells) i ≡ Some (take w (drop (i * w) cells))
unfolding rows_of
get-rows_of i zero w cells h = absurd (omega arith)
get-rows_of zero (suc n) w cells h = ap (λ xs. Some (take w xs)) (drop-count 0 (0 * w) cells (omega arith))
get-rows_of (suc i) (suc n) w cells h =
    get-rows_of i n w (drop w cells) (omega arith) ∙ ap (λ xs. Some (take w xs)) (drop-drop (i * w) w cells ∙ drop-count (w + i * w) (suc i * w) cells (omega arith))

rows_before : (i n w : ℕ) → i < n → i * w + w ≤ n * w
rows_before i n w h = grind (arith)

-- a row written over
pub set-rows_of : (i n w : ℕ) (cells row : List ℤ) → i < n → length cells ≡ n * w → length row ≡ w
    → rows_of n w (take (i * w) cells ++ row ++ drop (i * w + w) cells) ≡ set (rows_of n w cells) i row
set-rows_of i n w cells row h full whole =
    let before : i * w ≤ length cells = omega (arith, rows_before i n w h) in
    let front = take (i * w) cells in
    let back = drop (i * w + w) cells in
    let length_front : length front ≡ i * w = length-take-le (i * w) cells before in
    let more = n - suc i in
    let here : drop (i * w) (front ++ row ++ back) ≡ row ++ back = ap (λ xs. drop (i * w) xs) (append_assoc front row back) ∙ drop_at front (row ++ back) (i * w) length_front in
    -- the new rows, part by part
    rows_of-count n (i + suc more) w (front ++ row ++ back) (omega arith)
    ∙ rows_of-add i (suc more) w (front ++ row ++ back)
    ∙ ap (λ xs. rows_of i w (front ++ row ++ back) ++ rows_of (suc more) w xs) here
    ∙ ap (λ rows. rows ++ rows_of (suc more) w (row ++ back)) (ap (λ xs. rows_of i w xs) (append_assoc front row back) ∙ rows_of-front i w front (row ++ back) (omega arith) ∙ rows_of-take i w cells before)
    ∙ ap (λ rows. rows_of i w cells ++ rows)
    (rows_of-suc more w (row ++ back)
    ∙ ap (λ r. r ∷ rows_of more w (drop w (row ++ back))) (take_at row back w whole)
    ∙ ap (λ xs. row ∷ rows_of more w xs) (drop_at row back w whole))
    -- the old ones with the row set
    ∙ sym (set_at (rows_of i w cells) (take w (drop (i * w) cells)) (rows_of more w back) row i (length-rows_of i w cells))
    ∙ ap (λ rows. set rows i row)
    (sym (rows_of-count n (i + suc more) w cells (omega arith)
    ∙ rows_of-add i (suc more) w cells
    ∙ ap (λ rows. rows_of i w cells ++ rows)
    (rows_of-suc more w (drop (i * w) cells) ∙ ap (λ xs. take w (drop (i * w) cells) ∷ rows_of more w xs) (drop-drop w (i * w) cells))))
