-- Counts of rows by the sign of a coefficient, column by column.
use Rattle.std.proofs.Common.{◌≡◌, ℕ, zero, suc, ◌+◌, ◌^◌, ◌<◌, ◌≤◌, ◌==◌, Bool, true, false, cond, nat_lt, List, [], ◌∷◌, length, replicate, drop, set, get_or, refl, ◌∙◌, ap, arith}
use Rattle.std.specs.Int.{bit_at}
use Rattle.std.proofs.lemmas.Bool.Decides.{nat_tests}
use Rattle.std.proofs.lemmas.Nat.Bits.{bit_at-lt, bit_at_above}
use Rattle.xan_lin.proofs.Booleans.{is_less}
use Rattle.solver_rows.specs.declared.source.Sign.{Sign}
use Rattle.solver_rows.specs.SystemRows.{Row, has_sign}
use Rattle.linear_solver.specs.Systems.{with_sign}
use Rattle.linear_solver.specs.Region.{no_row}
use Rattle.linear_solver.proofs.Passes.{counts_one, counts_none, counts_all}
use Rattle.linear_solver.proofs.Stores.{get-other, get-below, get-there}

pub zero_at : (n k : ℕ) → get_or (replicate n zero) k zero ≡ zero
zero_at zero k = refl
zero_at (suc n) zero = refl
zero_at (suc n) (suc k) = zero_at n k

length-set : (xs : List ℕ) (k x : ℕ) → length (set xs k x) ≡ length xs
length-set [] k x = refl
length-set (y ∷ xs) zero x = refl
length-set (y ∷ xs) (suc k) x = ap suc (length-set xs k x)

-- where two numbers stand
data Order : ℕ → ℕ → Type 0 where
  less : {m n : ℕ} → m < n → Order m n
  same : {m n : ℕ} → m ≡ n → Order m n
  more : {m n : ℕ} → n < m → Order m n

order : (m n : ℕ) → Order m n
order m n = go (nat_lt m n) (nat_lt n m) refl refl
  where
    go : (a b : Bool) → nat_lt m n ≡ a → nat_lt n m ≡ b → Order m n
    go true b e f = less (is_less m n e)
    go false true e f = more (is_less n m f)
    go false false e f = same (grind (arith, nat_tests))

-- of these columns those before this one are counted
pub record Raises (columns : ℕ) (old new : List ℕ) (at : ℕ) : Type 0 where
  pub before : (k : ℕ) → k < at → get_or new k 0 ≡ get_or old k 0 + bit_at columns k
  pub after : (k : ℕ) → at ≤ k → get_or new k 0 ≡ get_or old k 0
  pub count : length new ≡ 64
  pub few : at ≤ 64
  pub there : at < 64 → bit_at columns at ≡ 1

pub raises_begin : (columns : ℕ) (old : List ℕ) (at : ℕ) → length old ≡ 64 → at ≤ 64 → ((k : ℕ) → 0 ≤ k → k < at → bit_at columns k ≡ 0) → (at < 64 → bit_at columns at ≡ 1) → Raises columns old old at
raises_begin columns old at e few none there = record { before = λ k h. let zero = none k (omega arith) h in omega arith; after = λ k h. refl; count = e; few = few; there = there }

pub raises_more : (columns : ℕ) (old now new : List ℕ) (at next n : ℕ) → Raises columns old now at → at < 64 → n ≡ get_or now at 0 + 1 → new ≡ set now at n
    → at + 1 ≤ next → next ≤ 64 → ((k : ℕ) → at + 1 ≤ k → k < next → bit_at columns k ≡ 0) → (next < 64 → bit_at columns next ≡ 1) → Raises columns old new next
raises_more columns old now new at next n r h is change behind few none there = record {
  before = λ k l. ap (λ xs. get_or xs k 0) change ∙ go k l (order k at);
  after = λ k l. ap (λ xs. get_or xs k 0) change ∙ get-other now at k n 0 (omega (arith, l, behind)) ∙ r.after k (omega (arith, l, behind));
  count = ap length change ∙ length-set now at n ∙ r.count;
  few = few;
  there = there;
}
  where
    one : bit_at columns at ≡ 1
    one = r.there h

    go : (k : ℕ) → k < next → Order k at → get_or (set now at n) k 0 ≡ get_or old k 0 + bit_at columns k
    go k l (less b) = get-below now at k n 0 b ∙ r.before k b
    go k l (same e) =
        ap (λ j. get_or (set now at n) j 0) e ∙ get-there now at n 0 (omega (arith, h, r.count)) ∙ is
        ∙ (let old_at = r.after at (omega arith) in let bit = ap (bit_at columns) e in let there = ap (λ j. get_or old j 0) e in omega (arith, one))
    go k l (more b) = get-other now at k n 0 b ∙ r.after k (omega (arith, b)) ∙ (let zero = none k (omega (arith, b)) l in omega arith)

pub raises_end : (columns : ℕ) (old new : List ℕ) (at : ℕ) → Raises columns old new at → columns < 2 ^ 64 → 64 ≤ at → (k : ℕ) → get_or new k 0 ≡ get_or old k 0 + bit_at columns k
raises_end columns old new at r small h k = go (order k at)
  where
    past : at ≤ k → get_or new k 0 ≡ get_or old k 0 + bit_at columns k
    past l = r.after k l ∙ (let none = bit_at_above columns 64 k small (omega (arith, l, h)) in omega arith)

    go : Order k at → get_or new k 0 ≡ get_or old k 0 + bit_at columns k
    go (less b) = r.before k b
    go (same e) = past (omega (arith, e))
    go (more b) = past (omega (arith, b))

-- no column is counted more often than there are rows
abbrev pub AreFew : List ℕ → ℕ → Type 0
AreFew counts most = (column : ℕ) → get_or counts column 0 ≤ most

pub few_more : (columns : ℕ) (old new : List ℕ) (most : ℕ) → AreFew old most → ((k : ℕ) → get_or new k 0 ≡ get_or old k 0 + bit_at columns k) → AreFew new (most + 1)
few_more columns old new most f change k = omega (arith, f k, change k, bit_at-lt columns k)

-- a bit for what a sign says
pub bit_counts : (n count : ℕ) (b : Bool) → n < 2 → (n == 1) ≡ b → count + n ≡ cond b (count + 1) count
bit_counts n count true l e = let one : n ≡ 1 = grind (arith, nat_tests) in omega arith
bit_counts n count false l e = let none : n ≡ 0 = grind (arith, nat_tests) in omega arith

-- the rows before this one are counted
abbrev pub Tallied : Sign → List ℕ → List Row → List ℕ → ℕ → Type 0
Tallied sign vars rows counts at = (column : ℕ) → column < length vars
    → get_or counts column 0 + length (with_sign sign (get_or vars column 0) (drop at rows)) ≡ length (with_sign sign (get_or vars column 0) rows)

pub tallied_more : (sign : Sign) (vars : List ℕ) (rows : List Row) (columns : ℕ) (counts new : List ℕ) (at : ℕ) → Tallied sign vars rows counts at → at < length rows
    → ((column : ℕ) → column < length vars → (bit_at columns column == 1) ≡ has_sign sign (get_or vars column 0) (get_or rows at no_row))
    → ((column : ℕ) → get_or new column 0 ≡ get_or counts column 0 + bit_at columns column)
    → Tallied sign vars rows new (at + 1)
tallied_more sign vars rows columns counts new at t h read change column k =
    go (has_sign sign (get_or vars column 0) (get_or rows at no_row)) refl
    (change column ∙ bit_counts (bit_at columns column) (get_or counts column 0) (has_sign sign (get_or vars column 0) (get_or rows at no_row)) (bit_at-lt columns column) (read column k))
  where
    v : ℕ
    v = get_or vars column 0

    go : (b : Bool) → has_sign sign (get_or vars column 0) (get_or rows at no_row) ≡ b → get_or new column 0 ≡ cond b (get_or counts column 0 + 1) (get_or counts column 0)
        → get_or new column 0 + length (with_sign sign (get_or vars column 0) (drop (at + 1) rows)) ≡ length (with_sign sign (get_or vars column 0) rows)
    go true e is =
        ap (λ n. n + length (with_sign sign v (drop (at + 1) rows))) is ∙ counts_one sign v rows at (get_or counts column 0) (length (with_sign sign v rows)) h e (t column k)
    go false e is =
        ap (λ n. n + length (with_sign sign v (drop (at + 1) rows))) is ∙ counts_none sign v rows at (get_or counts column 0) (length (with_sign sign v rows)) h e (t column k)

pub tallied_all : (sign : Sign) (vars : List ℕ) (rows : List Row) (counts : List ℕ) (at : ℕ) → Tallied sign vars rows counts at → length rows ≤ at
    → (column : ℕ) → column < length vars → get_or counts column 0 ≡ length (with_sign sign (get_or vars column 0) rows)
tallied_all sign vars rows counts at t h column k = counts_all sign (get_or vars column 0) rows at (get_or counts column 0) (length (with_sign sign (get_or vars column 0) rows)) h (t column k)
