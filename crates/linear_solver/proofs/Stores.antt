-- Rows that lie in a pool: how they are read, where they lie, and what leaves them as they are.
use Rattle.std.proofs.Common.{◌≡◌, ℕ, zero, suc, ◌+◌, ◌<◌, ◌≤◌, ℤ, Bool, true, false, cond, List, [], ◌∷◌, ◌++◌, length, take, drop, set, get_or, refl, sym, ◌∙◌, ap, subst, arith}
use Rattle.std.proofs.lemmas.List.{append_assoc, append-nil, length-append, get_or_append_left, get_or_default, drop_more, drop_all}
use Rattle.std.proofs.Math.Seq.{get_or-append_seam}
use Rattle.xan_pool.specs.Pool.{Pool}
use Rattle.linear_solver.specs.declared.places.Stored.{Stored}
use Rattle.solver_rows.specs.declared.source.Sign.TheVariants.{Zero}
use Rattle.solver_rows.specs.declared.step.Step.{Step}
use Rattle.solver_rows.specs.SystemRows.{Row, has_sign}
use Rattle.linear_solver.specs.Systems.{with_sign}
use Rattle.linear_solver.specs.Numbering.{System, numbered, steps_with, line_with}
use Rattle.solver_rows.specs.RowsInCells.{AreRising, sparse, row_in}
use Rattle.linear_solver.specs.Region.{AreIn, no_row, stored_row, rows_of, stored_at, numbered_sides, has_none, without, placed_from, moved, AreSigned}
use Rattle.solver_rows.proofs.Sparse.{sparse-front}
use Rattle.solver_rows.proofs.SignLemmas.{sign_says}

-- ---- rows by their numbers

pub length-rows_of : (vars : List ℕ) (rows : List (List ℤ)) (sides : List Stored) → length (rows_of vars rows sides) ≡ length sides
unfolding rows_of
length-rows_of vars rows [] = refl
length-rows_of vars rows (s ∷ sides) = ap suc (length-rows_of vars rows sides)

pub rows_of-at : (vars : List ℕ) (rows : List (List ℤ)) (sides : List Stored) (k : ℕ) (d : Stored) → k < length sides
    → get_or (rows_of vars rows sides) k no_row ≡ stored_row vars rows (get_or sides k d)
unfolding rows_of
rows_of-at vars rows [] k d h = absurd (omega arith)
rows_of-at vars rows (s ∷ sides) zero d h = refl
rows_of-at vars rows (s ∷ sides) (suc k) d h = rows_of-at vars rows sides k d (omega arith)

pub rows_of-push : (vars : List ℕ) (rows : List (List ℤ)) (sides : List Stored) (s : Stored) → rows_of vars rows (sides ++ s ∷ []) ≡ rows_of vars rows sides ++ stored_row vars rows s ∷ []
unfolding rows_of
rows_of-push vars rows [] s = refl
rows_of-push vars rows (t ∷ sides) s = ap (λ rs. stored_row vars rows t ∷ rs) (rows_of-push vars rows sides s)

pub rows_of-set : (vars : List ℕ) (rows : List (List ℤ)) (sides : List Stored) (k : ℕ) (s : Stored) → rows_of vars rows (set sides k s) ≡ set (rows_of vars rows sides) k (stored_row vars rows s)
unfolding rows_of
rows_of-set vars rows [] k s = refl
rows_of-set vars rows (t ∷ sides) zero s = refl
rows_of-set vars rows (t ∷ sides) (suc k) s = ap (λ rs. stored_row vars rows t ∷ rs) (rows_of-set vars rows sides k s)

pub rows_of-none : (vars : List ℕ) (rows : List (List ℤ)) → rows_of vars rows [] ≡ []
unfolding rows_of
rows_of-none vars rows = refl

pub length-set : {X : Type 0} (xs : List X) (k : ℕ) (x : X) → length (set xs k x) ≡ length xs
length-set [] k x = refl
length-set (y ∷ xs) zero x = refl
length-set (y ∷ xs) (suc k) x = ap suc (length-set xs k x)

-- ---- where they lie

pub in-bound : (low high : ℕ) (sides : List Stored) → AreIn low high sides → low + length sides ≤ high
in-bound low high [] h = omega arith
in-bound low high (s ∷ sides) h = let first = h.0 in omega (arith, in-bound (suc s.place) high sides h.1)

pub in-lower : (low more high : ℕ) (sides : List Stored) → low ≤ more → AreIn more high sides → AreIn low high sides
in-lower low more high [] h i = omega arith
in-lower low more high (s ∷ sides) h i = (let first = i.0 in omega arith, i.1)

pub in-more : (low high more : ℕ) (sides : List Stored) → high ≤ more → AreIn low high sides → AreIn low more sides
in-more low high more [] h i = omega arith
in-more low high more (s ∷ sides) h i = (i.0, in-more (suc s.place) high more sides h i.1)

pub in-at : (low high : ℕ) (sides : List Stored) (k : ℕ) (d : Stored) → k < length sides → AreIn low high sides → (low ≤ (get_or sides k d).place) × ((get_or sides k d).place < high)
in-at low high [] k d h i = absurd (omega arith)
in-at low high (s ∷ sides) zero d h i = (i.0, omega (arith, in-bound (suc s.place) high sides i.1))
in-at low high (s ∷ sides) (suc k) d h i =
    let later = in-at (suc s.place) high sides k d (omega arith) i.1 in
    (let first = i.0 in let next = later.0 in omega arith, later.1)

pub in-push : (low high : ℕ) (sides : List Stored) (s : Stored) → s.place ≡ high → AreIn low high sides → AreIn low (high + 1) (sides ++ s ∷ [])
in-push low high [] s e i = (omega arith, omega arith)
in-push low high (t ∷ sides) s e i = (i.0, in-push (suc t.place) high sides s e i.1)

pub in-set : (low high : ℕ) (sides : List Stored) (k : ℕ) (d s : Stored) → s.place ≡ (get_or sides k d).place → AreIn low high sides → AreIn low high (set sides k s)
in-set low high [] k d s e i = i
in-set low high (t ∷ sides) zero d s e i = (let first = i.0 in omega arith, subst (λ (n : ℕ). AreIn (suc n) high sides) (sym e) i.1)
in-set low high (t ∷ sides) (suc k) d s e i = (i.0, in-set (suc t.place) high sides k d s e i.1)

pub in-without : (low high column : ℕ) (sides : List Stored) → AreIn low high sides → AreIn low high (without column sides)
unfolding without
in-without low high column [] i = i
in-without low high column (s ∷ sides) i = go (has_none column s) (in-without (suc s.place) high column sides i.1)
  where
    go : (b : Bool) → AreIn (suc s.place) high (without column sides) → AreIn low high (cond b (s ∷ without column sides) (without column sides))
    go true rest = (i.0, rest)
    go false rest = in-lower low (suc s.place) high (without column sides) (let first = i.0 in omega arith) rest

pub length-without : (column : ℕ) (sides : List Stored) → length (without column sides) ≤ length sides
unfolding without
length-without column [] = omega arith
length-without column (s ∷ sides) = go (has_none column s) (length-without column sides)
  where
    go : (b : Bool) → length (without column sides) ≤ length sides → length (cond b (s ∷ without column sides) (without column sides)) ≤ length (s ∷ sides)
    go true h = omega arith
    go false h = omega arith

-- ---- what leaves them as they are

pub rows_of-same : (vars : List ℕ) (old new : List (List ℤ)) (low high : ℕ) (sides : List Stored) → AreIn low high sides
    → ((p : ℕ) → low ≤ p → p < high → get_or new p [] ≡ get_or old p []) → rows_of vars new sides ≡ rows_of vars old sides
unfolding rows_of
rows_of-same vars old new low high [] i same = refl
rows_of-same vars old new low high (s ∷ sides) i same =
    ap (λ cells. row_in vars (s.constant ∷ drop 1 cells) s.side ∷ rows_of vars new sides) (same s.place i.0 (omega (arith, in-bound (suc s.place) high sides i.1)))
    ∙ ap (λ rs. stored_row vars old s ∷ rs) (rows_of-same vars old new (suc s.place) high sides i.1 (λ p h k. same p (let first = i.0 in omega arith) k))

pub rows_of-more : (vars : List ℕ) (rows more : List (List ℤ)) (low high : ℕ) (sides : List Stored) → AreIn low high sides → high ≤ length rows
    → rows_of vars (rows ++ more) sides ≡ rows_of vars rows sides
rows_of-more vars rows more low high sides i h =
    rows_of-same vars rows (rows ++ more) low high sides i (λ p k l. get_or_append_left rows more [] p (omega arith))

get-taken : {X : Type 0} (xs : List X) (n p : ℕ) (d : X) → p < n → get_or (take n xs) p d ≡ get_or xs p d
get-taken xs zero p d h = absurd (omega arith)
get-taken [] (suc n) p d h = refl
get-taken (x ∷ xs) (suc n) zero d h = refl
get-taken (x ∷ xs) (suc n) (suc p) d h = get-taken xs n p d (omega arith)

pub rows_of-taken : (vars : List ℕ) (rows : List (List ℤ)) (n low high : ℕ) (sides : List Stored) → AreIn low high sides → high ≤ n → rows_of vars (take n rows) sides ≡ rows_of vars rows sides
rows_of-taken vars rows n low high sides i h = rows_of-same vars rows (take n rows) low high sides i (λ p k l. get-taken rows n p [] (omega arith))

-- ---- one row more

-- the cells of a row of the pool, of which the first ones are in use
pub last_row : (vars : List ℕ) (rows : List (List ℤ)) (row cells : List ℤ) (s : Stored) → s.place ≡ length rows → take (length cells) row ≡ cells → length cells ≡ length vars + 1
    → cells ≡ s.constant ∷ drop 1 cells → stored_row vars (rows ++ row ∷ []) s ≡ row_in vars cells s.side
last_row vars rows row cells s at front wide first =
    ap (λ n. row_in vars (s.constant ∷ drop 1 (get_or (rows ++ row ∷ []) n [])) s.side) at
    ∙ ap (λ xs. row_in vars (s.constant ∷ drop 1 xs) s.side) (get_or-append_seam rows row [] [])
    ∙ ap (λ ts. let r : Row = record { terms = ts; constant = s.constant; source = s.side.source; by = s.side.by } in r) (same row front (drop 1 cells) first)
    ∙ ap (λ xs. row_in vars xs s.side) (sym first)
  where
    same : (row : List ℤ) → take (length cells) row ≡ cells → (rest : List ℤ) → cells ≡ s.constant ∷ rest → sparse vars (drop 1 row) ≡ sparse vars rest
    same row front rest e =
        let count : length vars ≡ length rest = omega (arith, ap length e) in
        sym (sparse-front vars (drop 1 row)) ∙ ap (sparse vars) (ap (λ n. take n (drop 1 row)) count ∙ tail row (ap (λ xs. take (length xs) row) (sym e) ∙ front ∙ e))
      where
        tail : (row : List ℤ) → take (suc (length rest)) row ≡ s.constant ∷ rest → take (length rest) (drop 1 row) ≡ rest
        tail [] f = cc
        tail (x ∷ row) f = cc

-- ---- rows without a variable

pub rows_of-without : (vars : List ℕ) (rows : List (List ℤ)) (column : ℕ) (sides : List Stored) → AreRising 0 vars → column < length vars → AreSigned vars sides (rows_of vars rows sides)
    → rows_of vars rows (without column sides) ≡ with_sign Zero (get_or vars column 0) (rows_of vars rows sides)
unfolding rows_of without with_sign
rows_of-without vars rows column [] rising h a = refl
rows_of-without vars rows column (s ∷ sides) rising h a =
    go (has_none column s) (has_sign Zero (get_or vars column 0) (stored_row vars rows s)) (sign_says vars (drop 1 (get_or rows s.place [])) s.side.signs rising a.0 Zero column h)
    (rows_of-without vars rows column sides rising h a.1)
  where
    go : (b c : Bool) → b ≡ c → rows_of vars rows (without column sides) ≡ with_sign Zero (get_or vars column 0) (rows_of vars rows sides) → rows_of vars rows (cond b (s ∷ without column sides) (without column sides))
        ≡ cond c (stored_row vars rows s ∷ with_sign Zero (get_or vars column 0) (rows_of vars rows sides)) (with_sign Zero (get_or vars column 0) (rows_of vars rows sides))
    go true true e t = ap (λ rs. stored_row vars rows s ∷ rs) t
    go true false e t = cc
    go false true e t = cc
    go false false e t = t

-- ---- rows that steps give

pub numbered_of : (vars : List ℕ) (rows : List (List ℤ)) (steps : List Step) (done sides : List Stored)
    → numbered steps (rows_of vars rows done) (rows_of vars rows sides)
    ≡ (let s : System = record { steps = (numbered_sides steps done sides).steps; rows = rows_of vars rows (numbered_sides steps done sides).sides } in s)
unfolding rows_of numbered_sides numbered
numbered_of vars rows steps done [] = refl
numbered_of vars rows steps done (s ∷ sides) =
    let line = line_with steps s.side.source s.side.by in
    ap (λ rs. numbered (steps_with steps s.side.source s.side.by) rs (rows_of vars rows sides)) (sym (rows_of-push vars rows done (stored_at line s)))
    ∙ numbered_of vars rows (steps_with steps s.side.source s.side.by) (done ++ stored_at line s ∷ []) sides

in-swap : (low high : ℕ) (done rest : List Stored) (s t : Stored) → t.place ≡ s.place → AreIn low high (done ++ s ∷ rest) → AreIn low high ((done ++ t ∷ []) ++ rest)
in-swap low high [] rest s t e i = (let first = i.0 in omega arith, subst (λ (n : ℕ). AreIn (suc n) high rest) (sym e) i.1)
in-swap low high (x ∷ done) rest s t e i = (i.0, in-swap (suc x.place) high done rest s t e i.1)

pub in-numbered : (low high : ℕ) (steps : List Step) (done sides : List Stored) → AreIn low high (done ++ sides) → AreIn low high (numbered_sides steps done sides).sides
unfolding numbered_sides
in-numbered low high steps done [] i = subst (AreIn low high) (append-nil done) i
in-numbered low high steps done (s ∷ sides) i =
    let t = stored_at (line_with steps s.side.source s.side.by) s in
    in-numbered low high (steps_with steps s.side.source s.side.by) (done ++ t ∷ []) sides (in-swap low high done sides s t refl i)

-- ---- rows that move together

pub get-other : {X : Type 0} (xs : List X) (k p : ℕ) (x d : X) → k < p → get_or (set xs k x) p d ≡ get_or xs p d
get-other [] k p x d h = refl
get-other (y ∷ xs) zero zero x d h = absurd (omega arith)
get-other (y ∷ xs) zero (suc p) x d h = refl
get-other (y ∷ xs) (suc k) zero x d h = refl
get-other (y ∷ xs) (suc k) (suc p) x d h = get-other xs k p x d (omega arith)

pub get-below : {X : Type 0} (xs : List X) (k p : ℕ) (x d : X) → p < k → get_or (set xs k x) p d ≡ get_or xs p d
get-below [] k p x d h = refl
get-below (y ∷ xs) zero p x d h = absurd (omega arith)
get-below (y ∷ xs) (suc k) zero x d h = refl
get-below (y ∷ xs) (suc k) (suc p) x d h = get-below xs k p x d (omega arith)

pub get-there : {X : Type 0} (xs : List X) (k : ℕ) (x d : X) → k < length xs → get_or (set xs k x) k d ≡ x
get-there [] k x d h = absurd (omega arith)
get-there (y ∷ xs) zero x d h = refl
get-there (y ∷ xs) (suc k) x d h = get-there xs k x d (omega arith)

pub length-moved : (next : ℕ) (rows : List (List ℤ)) (sides : List Stored) → length (moved next rows sides) ≡ length rows
unfolding moved
length-moved next rows [] = refl
length-moved next rows (s ∷ sides) = length-moved (suc next) (set rows next (get_or rows s.place [])) sides ∙ length-set rows next (get_or rows s.place [])

moved-below : (next : ℕ) (rows : List (List ℤ)) (sides : List Stored) (p : ℕ) → p < next → get_or (moved next rows sides) p [] ≡ get_or rows p []
unfolding moved
moved-below next rows [] p h = refl
moved-below next rows (s ∷ sides) p h =
    moved-below (suc next) (set rows next (get_or rows s.place [])) sides p (omega arith) ∙ get-below rows next p (get_or rows s.place []) [] h

pub take-moved : (base next : ℕ) (rows : List (List ℤ)) (sides : List Stored) → base ≤ next → take base (moved next rows sides) ≡ take base rows
unfolding moved
take-moved base next rows [] h = refl
take-moved base next rows (s ∷ sides) h =
    take-moved base (suc next) (set rows next (get_or rows s.place [])) sides (omega arith) ∙ front base next rows (get_or rows s.place []) h
  where
    front : (base k : ℕ) (xs : List (List ℤ)) (x : List ℤ) → base ≤ k → take base (set xs k x) ≡ take base xs
    front zero k xs x h = refl
    front (suc base) k [] x h = refl
    front (suc base) zero (y ∷ xs) x h = absurd (omega arith)
    front (suc base) (suc k) (y ∷ xs) x h = ap (λ ys. y ∷ ys) (front base k xs x (omega arith))

pub rows_of-moved : (vars : List ℕ) (next high : ℕ) (rows : List (List ℤ)) (sides : List Stored) → AreIn next high sides → high ≤ length rows
    → rows_of vars (moved next rows sides) (placed_from next sides) ≡ rows_of vars rows sides
unfolding rows_of moved placed_from
rows_of-moved vars next high rows [] i h = refl
rows_of-moved vars next high rows (s ∷ sides) i h =
    let least = i.0 in
    let most = in-bound (suc s.place) high sides i.1 in
    ap (λ cells. row_in vars (s.constant ∷ drop 1 cells) s.side ∷ rows_of vars (moved (suc next) one sides) (placed_from (suc next) sides))
    (moved-below (suc next) one sides next (omega arith) ∙ get-there rows next (get_or rows s.place []) [] (omega arith))
    ∙ ap (λ rs. stored_row vars rows s ∷ rs)
    (rows_of-moved vars (suc next) high one sides (in-lower (suc next) (suc s.place) high sides (omega arith) i.1) (omega (arith, length-set rows next (get_or rows s.place [])))
    ∙ rows_of-same vars rows one (suc s.place) high sides i.1 (λ p k l. get-other rows next p (get_or rows s.place []) [] (omega arith)))
  where
    one : List (List ℤ)
    one = set rows next (get_or rows s.place [])

pub in-placed : (next : ℕ) (sides : List Stored) → AreIn next (next + length sides) (placed_from next sides)
unfolding placed_from
in-placed next [] = omega arith
in-placed next (s ∷ sides) =
    (omega arith, in-more (suc next) (suc next + length sides) (next + length (s ∷ sides)) (placed_from (suc next) sides) (omega arith) (in-placed (suc next) sides))

pub length-placed : (next : ℕ) (sides : List Stored) → length (placed_from next sides) ≡ length sides
unfolding placed_from
length-placed next [] = refl
length-placed next (s ∷ sides) = ap suc (length-placed (suc next) sides)

pub length-sides : (steps : List Step) (done sides : List Stored) → length (numbered_sides steps done sides).sides ≡ length done + length sides
unfolding numbered_sides
length-sides steps done [] = omega arith
length-sides steps done (s ∷ sides) =
    let t = stored_at (line_with steps s.side.source s.side.by) s in
    omega (arith, length-sides (steps_with steps s.side.source s.side.by) (done ++ t ∷ []) sides, pushed done t)
  where
    pushed : (xs : List Stored) (x : Stored) → length (xs ++ x ∷ []) ≡ length xs + 1
    pushed [] x = omega arith
    pushed (y ∷ xs) x = omega (arith, pushed xs x)

-- ---- the passes

-- the row of this number, whatever stands for a row that is not there
pub here : (sides : List Stored) (at : ℕ) (d : Stored) → at < length sides → get_or sides at d ≡ get_or sides at (get_or sides at d)
here sides at d h = get_or_default sides at d (get_or sides at d) h

pub there : (sides : List Stored) (at : ℕ) (d s : Stored) → at < length sides → s ≡ get_or sides at d → s ≡ get_or sides at s
there sides at d s h e = e ∙ get_or_default sides at d s h

pub there_too : (sides : List Stored) (at : ℕ) (d s t : Stored) → at < length sides → s ≡ get_or sides at d → t.place ≡ s.place → t.place ≡ (get_or sides at t).place
there_too sides at d s t h e same = same ∙ ap (λ u. u.place) (e ∙ get_or_default sides at d t h)

pub kept_few : (b : Bool) (made new : List Stored) (s : Stored) → new ≡ made ++ cond b (s ∷ []) [] → length new ≤ length made + 1
kept_few true made new s e = omega (arith, ap length e, length-append made (s ∷ []))
kept_few false made new s e = omega (arith, ap length e, length-append made (let none : List Stored = [] in none))

without-cons : (column : ℕ) (s : Stored) (sides : List Stored) → without column (s ∷ sides) ≡ cond (has_none column s) (s ∷ without column sides) (without column sides)
unfolding without
without-cons column s sides = refl

without-none : (column : ℕ) → without column [] ≡ []
unfolding without
without-none column = refl

pub without_more : (column at : ℕ) (sides made new all : List Stored) (s : Stored) → at < length sides → s ≡ get_or sides at s
    → new ≡ made ++ cond (has_none column s) (s ∷ []) [] → made ++ without column (drop at sides) ≡ all → new ++ without column (drop (at + 1) sides) ≡ all
without_more column at sides made new all s h there change same =
    ap (λ xs. xs ++ rest) change ∙ append_assoc made (cond (has_none column s) (s ∷ []) []) rest ∙ ap (λ xs. made ++ xs) (go (has_none column s))
    ∙ ap (λ xs. made ++ xs) (sym (without-cons column s (drop (at + 1) sides)))
    ∙ ap (λ xs. made ++ without column xs) (ap (λ t. t ∷ drop (at + 1) sides) there ∙ sym (drop_more sides at s h)) ∙ same
  where
    rest : List Stored
    rest = without column (drop (at + 1) sides)

    go : (b : Bool) → cond b (s ∷ []) [] ++ rest ≡ cond b (s ∷ rest) rest
    go true = refl
    go false = refl

pub without_all : (column at : ℕ) (sides made all : List Stored) → length sides ≤ at → made ++ without column (drop at sides) ≡ all → made ≡ all
without_all column at sides made all h same =
    sym (append-nil made) ∙ ap (λ xs. made ++ xs) (sym (without-none column)) ∙ ap (λ xs. made ++ without column xs) (sym (drop_all at sides h)) ∙ same

-- so far the rows move together
pub record Moves (base at : ℕ) (old rows : List (List ℤ)) (sides before placed : List Stored) : Type 0 where
  pub placed_is : placed ++ placed_from (base + at) (drop at sides) ≡ before ++ placed_from base sides
  pub rows_is : moved (base + at) rows (drop at sides) ≡ moved base old sides
  pub live : AreIn (base + at) (length rows) (drop at sides)
  pub count : length placed ≡ length before + at

placed-cons : (next : ℕ) (s : Stored) (sides : List Stored)
    → placed_from next (s ∷ sides) ≡ (let t : Stored = record { side = s.side; constant = s.constant; place = next } in t) ∷ placed_from (suc next) sides
unfolding placed_from
placed-cons next s sides = refl

moved-cons : (next : ℕ) (rows : List (List ℤ)) (s : Stored) (sides : List Stored) → moved next rows (s ∷ sides) ≡ moved (suc next) (set rows next (get_or rows s.place [])) sides
unfolding moved
moved-cons next rows s sides = refl

placed-none : (next : ℕ) → placed_from next [] ≡ []
unfolding placed_from
placed-none next = refl

moved-none : (next : ℕ) (rows : List (List ℤ)) → moved next rows [] ≡ rows
unfolding moved
moved-none next rows = refl

pub moves_begin : (base : ℕ) (rows : List (List ℤ)) (sides before : List Stored) → AreIn base (length rows) sides → Moves base 0 rows rows sides before before
moves_begin base rows sides before live =
    let same : base + 0 ≡ base = omega arith in
    record {
      placed_is = ap (λ n. before ++ placed_from n sides) same;
      rows_is = ap (λ n. moved n rows sides) same;
      live = subst (λ (n : ℕ). AreIn n (length rows) sides) (sym same) live;
      count = omega arith;
    }

-- the row in turn lies here or behind
pub moves_live : (base at : ℕ) (old rows : List (List ℤ)) (sides before placed : List Stored) (s : Stored) → Moves base at old rows sides before placed → at < length sides → s ≡ get_or sides at s
    → (base + at ≤ s.place) × (s.place < length rows)
moves_live base at old rows sides before placed s m h there =
    let all : AreIn (base + at) (length rows) (get_or sides at s ∷ drop (at + 1) sides) = subst (AreIn (base + at) (length rows)) (drop_more sides at s h) m.live in
    (omega (arith, all.0, ap (λ t. t.place) there), omega (arith, in-bound (suc (get_or sides at s).place) (length rows) (drop (at + 1) sides) all.1, ap (λ t. t.place) there))

pub moves_more : (base at : ℕ) (old rows new : List (List ℤ)) (sides before placed more : List Stored) (s t : Stored) → Moves base at old rows sides before placed → at < length sides
    → s ≡ get_or sides at s → t ≡ (let u : Stored = record { side = s.side; constant = s.constant; place = base + at } in u) → more ≡ placed ++ t ∷ []
    → new ≡ set rows (base + at) (get_or rows s.place []) → Moves base (at + 1) old new sides before more
moves_more base at old rows new sides before placed more s t m h there is more_is change =
    let next : base + (at + 1) ≡ suc (base + at) = omega arith in
    let split : drop at sides ≡ s ∷ drop (at + 1) sides = drop_more sides at s h ∙ ap (λ u. u ∷ drop (at + 1) sides) (sym there) in
    let all : AreIn (base + at) (length rows) (s ∷ drop (at + 1) sides) = subst (AreIn (base + at) (length rows)) split m.live in
    record {
      placed_is =
          ap (λ xs. xs ++ placed_from (base + (at + 1)) (drop (at + 1) sides)) more_is ∙ append_assoc placed (t ∷ []) (placed_from (base + (at + 1)) (drop (at + 1) sides))
          ∙ ap (λ n. placed ++ t ∷ placed_from n (drop (at + 1) sides)) next ∙ ap (λ u. placed ++ u ∷ placed_from (suc (base + at)) (drop (at + 1) sides)) is
          ∙ ap (λ xs. placed ++ xs) (sym (placed-cons (base + at) s (drop (at + 1) sides))) ∙ ap (λ xs. placed ++ placed_from (base + at) xs) (sym split) ∙ m.placed_is;
      rows_is =
          ap (λ n. moved n new (drop (at + 1) sides)) next ∙ ap (λ rs. moved (suc (base + at)) rs (drop (at + 1) sides)) change
          ∙ sym (moved-cons (base + at) rows s (drop (at + 1) sides)) ∙ ap (moved (base + at) rows) (sym split) ∙ m.rows_is;
      live = subst (λ (n : ℕ). AreIn (base + (at + 1)) n (drop (at + 1) sides)) (sym (ap length change ∙ length-set rows (base + at) (get_or rows s.place [])))
          (in-lower (base + (at + 1)) (suc s.place) (length rows) (drop (at + 1) sides) (let least = all.0 in omega arith) all.1);
      count = omega (arith, m.count, ap length more_is, length-append placed (t ∷ []));
    }

pub moves_end : (base at : ℕ) (old rows : List (List ℤ)) (sides before placed : List Stored) → Moves base at old rows sides before placed → length sides ≤ at
    → (placed ≡ before ++ placed_from base sides) × (rows ≡ moved base old sides)
moves_end base at old rows sides before placed m h =
    let none : drop at sides ≡ [] = drop_all at sides h in (
      sym (append-nil placed) ∙ ap (λ xs. placed ++ xs) (sym (placed-none (base + at))) ∙ ap (λ xs. placed ++ placed_from (base + at) xs) (sym none) ∙ m.placed_is,
      sym (moved-none (base + at) rows) ∙ ap (moved (base + at) rows) (sym none) ∙ m.rows_is,
    )

-- the pool, where what lies behind them is given up
pub gathered : (pool middle new : Pool) (rows : List (List ℤ)) (to from n : ℕ) → middle ≡ record pool { rows = rows } → new ≡ record middle { rows = take to middle.rows ++ drop from middle.rows }
    → from ≡ length middle.rows → to ≡ n → new ≡ record pool { rows = take n rows }
gathered pool middle new rows to from n is change at same =
    change ∙ ap (λ xs. let p : Pool = record middle { rows = take to middle.rows ++ xs } in p) (drop_all from middle.rows (omega arith))
    ∙ ap (λ xs. let p : Pool = record middle { rows = xs } in p) (append-nil (take to middle.rows))
    ∙ ap (λ q. let p : Pool = record q { rows = take to q.rows } in p) is ∙ ap (λ k. let p : Pool = record pool { rows = take k rows } in p) same
