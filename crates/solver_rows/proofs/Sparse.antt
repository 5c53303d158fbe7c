-- Rows in cells: what is done with the cells is done with the terms.
use Rattle.std.proofs.Common.{◌≡◌, ◌≢◌, ℕ, zero, suc, ◌+◌, ◌<◌, ◌≤◌, ℤ, pos, negsuc, ◌+ℤ◌, ◌*ℤ◌, ◌&&◌, ◌||◌, ◌==◌, Bool, true, false, cond, unsigned_abs, List, [], ◌∷◌, length, map, take, get_or, refl, sym, ◌∙◌, ap, subst, arith}
use Rattle.std.specs.List.{list_all}
use Rattle.std.proofs.lemmas.Bool.Decides.{Decides-int_eq, nat_tests}
use Rattle.std.specs.Int.{◌∣◌}
use Rattle.std.proofs.Math.Nat.{eq-one_of_dvd-one}
use Rattle.xan_lin.specs.Terms.{IsRising, with_multiple, sum_terms, scaled_terms}
use Rattle.xan_lin.specs.Linear.{Linear, is_within, all_within, are_within}
use Rattle.xan_lin.specs.declared.term.Term.{Term}
use Rattle.xan_lin.proofs.TermSums.{IsRising-lower, IsRising-with_multiple, with_multiple-nonzero}
use Rattle.xan_lin.proofs.ScaledTerms.{IsRising-scaled}
use Rattle.xan_lin.proofs.Ring.{zero-mul}
use Rattle.proof_lines.specs.Rows.{floor_over, remainder, is_multiple, divides, divided_term, combination_of}
use Rattle.proof_lines.specs.Variables.{is_among}
use Rattle.proof_lines.specs.Check.{is_positive}
use Rattle.proof_lines.specs.Cells.{combined_cells, are_among}
use Rattle.proof_lines.proofs.Different.{same_number, equals_itself}
use Rattle.proof_lines.proofs.Proper.{both, join}
use Rattle.proof_lines.proofs.Quotients.{floor-zero, floor-rest}
use Rattle.solver_rows.specs.Divisors.{gcd, divisor_from, divisor}
use Rattle.solver_rows.specs.SystemRows.{coefficient}
use Rattle.solver_rows.specs.Merging.{behind}
use Rattle.solver_rows.specs.RowsInCells.{AreRising, sparse, linear_in, spread_cells, numbers_divisor, cells_divisor}
use Rattle.solver_rows.proofs.Euclid.{gcd-end, gcd_is}
use Rattle.solver_rows.proofs.RowSums.{scaled-cons, no_multiple, sum-multiples}

-- ---- they rise, and are within the bound

pub sparse-rising : (low : ℕ) (vars : List ℕ) (cells : List ℤ) → AreRising low vars → IsRising low (sparse vars cells)
unfolding sparse
sparse-rising low [] cells r = tt
sparse-rising low (v ∷ vars) [] r = tt
sparse-rising low (v ∷ vars) (c ∷ cells) r = IsRising-with_multiple low v c (sparse vars cells) r.0 (sparse-rising (suc v) vars cells r.1)

pub linear-rising : (vars : List ℕ) (cells : List ℤ) → AreRising 0 vars → IsRising 0 (linear_in vars cells).terms
linear-rising vars [] r = tt
linear-rising vars (c ∷ cells) r = sparse-rising 0 vars cells r

within-multiple : (v : ℕ) (c : ℤ) (ts : List Term) (b : Bool) → b ≡ all_within ts → (is_within c && b) ≡ all_within (with_multiple v c ts)
within-multiple v (pos zero) ts b e = e
within-multiple v (pos (suc n)) ts b e = ap (λ d. is_within (pos (suc n)) && d) e
within-multiple v (negsuc n) ts b e = ap (λ d. is_within (negsuc n) && d) e

pub sparse-within : (vars : List ℕ) (cells : List ℤ) → length cells ≡ length vars → list_all is_within cells ≡ all_within (sparse vars cells)
unfolding sparse
sparse-within [] [] e = refl
sparse-within [] (c ∷ cells) e = absurd (omega arith)
sparse-within (v ∷ vars) [] e = absurd (omega arith)
sparse-within (v ∷ vars) (c ∷ cells) e = within-multiple v c (sparse vars cells) (list_all is_within cells) (sparse-within vars cells (omega arith))

-- ---- sums

scaled-multiple : (v : ℕ) (x a : ℤ) (ts : List Term) → with_multiple v (x *ℤ a) (scaled_terms ts a) ≡ scaled_terms (with_multiple v x ts) a
scaled-multiple v (pos zero) a ts = sym (no_multiple v a (scaled_terms ts a))
scaled-multiple v (pos (suc n)) a ts = sym (scaled-cons (record { var = v; coef = pos (suc n) }) ts a)
scaled-multiple v (negsuc n) a ts = sym (scaled-cons (record { var = v; coef = negsuc n }) ts a)

nothing : (a b : ℤ) → [] ≡ sum_terms (scaled_terms [] a) (scaled_terms [] b)
unfolding scaled_terms sum_terms
nothing a b = refl

pub sparse-combined : (low : ℕ) (vars : List ℕ) (a b : ℤ) (xs ys : List ℤ) → AreRising low vars → length xs ≡ length vars → length ys ≡ length vars
    → sparse vars (combined_cells a xs b ys) ≡ sum_terms (scaled_terms (sparse vars xs) a) (scaled_terms (sparse vars ys) b)
unfolding sparse combined_cells
sparse-combined low [] a b xs ys r e f = nothing a b
sparse-combined low (v ∷ vars) a b [] ys r e f = absurd (omega arith)
sparse-combined low (v ∷ vars) a b (x ∷ xs) [] r e f = absurd (omega arith)
sparse-combined low (v ∷ vars) a b (x ∷ xs) (y ∷ ys) r e f =
    ap (λ ts. with_multiple v ((x *ℤ a) +ℤ (y *ℤ b)) ts) (sparse-combined (suc v) vars a b xs ys r.1 (omega arith) (omega arith))
    ∙ sym (sum-multiples v (x *ℤ a) (y *ℤ b) (scaled_terms (sparse vars xs) a) (scaled_terms (sparse vars ys) b)
    (IsRising-scaled (suc v) (sparse vars xs) a (sparse-rising (suc v) vars xs r.1)) (IsRising-scaled (suc v) (sparse vars ys) b (sparse-rising (suc v) vars ys r.1)))
    ∙ ap (λ ts. sum_terms ts (with_multiple v (y *ℤ b) (scaled_terms (sparse vars ys) b))) (scaled-multiple v x a (sparse vars xs))
    ∙ ap (λ ts. sum_terms (scaled_terms (with_multiple v x (sparse vars xs)) a) ts) (scaled-multiple v y b (sparse vars ys))

pub linear-combined : (vars : List ℕ) (a b : ℤ) (xs ys : List ℤ) → AreRising 0 vars → length xs ≡ length vars + 1 → length ys ≡ length vars + 1
    → linear_in vars (combined_cells a xs b ys) ≡ combination_of a (linear_in vars xs) b (linear_in vars ys)
unfolding combined_cells
linear-combined vars a b [] ys r e f = absurd (omega arith)
linear-combined vars a b (x ∷ xs) [] r e f = absurd (omega arith)
linear-combined vars a b (x ∷ xs) (y ∷ ys) r e f =
    ap (λ ts. let l : Linear = record { terms = ts; constant = (x *ℤ a) +ℤ (y *ℤ b) } in l) (sparse-combined 0 vars a b xs ys r (omega arith) (omega arith))

pub length-combined : (a b : ℤ) (xs ys : List ℤ) (n : ℕ) → length xs ≡ n → length ys ≡ n → length (combined_cells a xs b ys) ≡ n
unfolding combined_cells
length-combined a b [] ys n e f = e
length-combined a b (x ∷ xs) [] n e f = absurd (omega arith)
length-combined a b (x ∷ xs) (y ∷ ys) n e f = let rest = length-combined a b xs ys (length xs) refl (omega arith) in omega arith

-- ---- divisors

divisor-none : (g : ℕ) → divisor_from g [] ≡ g
unfolding divisor_from
divisor-none g = refl

divisor-multiple : (g v : ℕ) (c : ℤ) (ts : List Term) → divisor_from (gcd g (unsigned_abs c)) ts ≡ divisor_from g (with_multiple v c ts)
unfolding divisor_from
divisor-multiple g v (pos zero) ts = ap (λ n. divisor_from n ts) (gcd-end g 0 refl)
divisor-multiple g v (pos (suc n)) ts = refl
divisor-multiple g v (negsuc n) ts = refl

pub sparse-divisor : (g : ℕ) (vars : List ℕ) (cells : List ℤ) → length cells ≡ length vars → numbers_divisor g cells ≡ divisor_from g (sparse vars cells)
unfolding sparse numbers_divisor
sparse-divisor g [] [] e = sym (divisor-none g)
sparse-divisor g [] (c ∷ cells) e = absurd (omega arith)
sparse-divisor g (v ∷ vars) [] e = absurd (omega arith)
sparse-divisor g (v ∷ vars) (c ∷ cells) e = sparse-divisor (gcd g (unsigned_abs c)) vars cells (omega arith) ∙ divisor-multiple g v c (sparse vars cells)

pub linear-divisor : (vars : List ℕ) (cells : List ℤ) → length cells ≡ length vars + 1 → cells_divisor cells ≡ divisor (linear_in vars cells).terms
linear-divisor vars [] e = absurd (omega arith)
linear-divisor vars (c ∷ cells) e = sparse-divisor 0 vars cells (omega arith)

pub numbers-none : (g : ℕ) → g ≡ numbers_divisor g []
unfolding numbers_divisor
numbers-none g = refl

-- a divisor of 1 stays
gcd-one : (b : ℕ) → gcd 1 b ≡ 1
gcd-one b = divides_one (gcd 1 b) (gcd_is 1 b).0
  where
    divides_one : (d : ℕ) → d ∣ 1 → d ≡ 1
    divides_one d h = eq-one_of_dvd-one h

pub numbers-one : (cells : List ℤ) → numbers_divisor 1 cells ≡ 1
unfolding numbers_divisor
numbers-one [] = refl
numbers-one (c ∷ cells) = ap (λ g. numbers_divisor g cells) (gcd-one (unsigned_abs c)) ∙ numbers-one cells

-- ---- quotients

rest_none : (c : ℤ) (d : ℕ) → is_multiple (pos d) c ≡ true → remainder c (pos d) ≡ pos 0
rest_none c d h = (Decides-int_eq (remainder c (pos d)) (pos 0)).0 h

no_part : (n q r : ℤ) (d : ℕ) → n ≡ (q *ℤ pos d) +ℤ r → q ≡ pos 0 → r ≡ pos 0 → n ≡ pos 0
no_part n q r d e f g = e ∙ ap (λ k. (k *ℤ pos d) +ℤ r) f ∙ ap (λ k. k +ℤ r) (zero-mul (pos d)) ∙ ap (λ k. pos 0 +ℤ k) g

some-part : (c : ℤ) (d : ℕ) → 0 < d → c ≢ pos 0 → is_multiple (pos d) c ≡ true → floor_over c (pos d) ≢ pos 0
some-part c d h n m e = n (no_part c (floor_over c (pos d)) (remainder c (pos d)) d (floor-rest c d h) e (rest_none c d m))

divided-multiple : (v : ℕ) (c : ℤ) (d : ℕ) (ts : List Term) → 0 < d → is_positive (pos d) ≡ true → divides (pos d) (with_multiple v c ts) ≡ true
    → map (divided_term (pos d)) (with_multiple v c ts) ≡ with_multiple v (floor_over c (pos d)) (map (divided_term (pos d)) ts)
divided-multiple v (pos zero) d ts h p m = ap (λ n. with_multiple v n (map (divided_term (pos d)) ts)) (sym (floor-zero (pos d) p))
divided-multiple v (pos (suc n)) d ts h p m =
    sym (with_multiple-nonzero v (floor_over (pos (suc n)) (pos d)) (map (divided_term (pos d)) ts)
    (some-part (pos (suc n)) d h (λ e. cc) (both (is_multiple (pos d) (pos (suc n))) (divides (pos d) ts) m).0))
divided-multiple v (negsuc n) d ts h p m =
    sym (with_multiple-nonzero v (floor_over (negsuc n) (pos d)) (map (divided_term (pos d)) ts)
    (some-part (negsuc n) d h (λ e. cc) (both (is_multiple (pos d) (negsuc n)) (divides (pos d) ts) m).0))

divides-rest : (v : ℕ) (c by : ℤ) (ts : List Term) → divides by (with_multiple v c ts) ≡ true → divides by ts ≡ true
divides-rest v (pos zero) by ts h = h
divides-rest v (pos (suc n)) by ts h = (both (is_multiple by (pos (suc n))) (divides by ts) h).1
divides-rest v (negsuc n) by ts h = (both (is_multiple by (negsuc n)) (divides by ts) h).1

pub sparse-divided : (vars : List ℕ) (cells : List ℤ) (d : ℕ) → 0 < d → is_positive (pos d) ≡ true → divides (pos d) (sparse vars cells) ≡ true
    → map (divided_term (pos d)) (sparse vars cells) ≡ sparse vars (map (λ cell. floor_over cell (pos d)) cells)
unfolding sparse
sparse-divided [] cells d h p m = refl
sparse-divided (v ∷ vars) [] d h p m = refl
sparse-divided (v ∷ vars) (c ∷ cells) d h p m =
    divided-multiple v c d (sparse vars cells) h p m
    ∙ ap (λ ts. with_multiple v (floor_over c (pos d)) ts) (sparse-divided vars cells d h p (divides-rest v c (pos d) (sparse vars cells) m))

-- ---- coefficients

below-none : (v low : ℕ) (ts : List Term) → v < low → IsRising low ts → coefficient v ts ≡ pos 0
unfolding coefficient
below-none v low [] h r = refl
below-none v low (t ∷ ts) h r = go (t.var == v) refl (below-none v (suc t.var) ts (let first = r.0 in omega arith) r.2)
  where
    go : (b : Bool) → (t.var == v) ≡ b → coefficient v ts ≡ pos 0 → cond b t.coef (coefficient v ts) ≡ pos 0
    go true e later = let same = same_number t.var v e in let first = r.0 in absurd (omega arith)
    go false e later = later

at-front : (v w : ℕ) (c : ℤ) (ts : List Term) (b : Bool) → (w == v) ≡ b → coefficient v ((let t : Term = record { var = w; coef = c } in t) ∷ ts) ≡ cond b c (coefficient v ts)
unfolding coefficient
at-front v w c ts b e = ap (λ b. cond b c (coefficient v ts)) e

of-same : (v : ℕ) (c : ℤ) (ts : List Term) → IsRising (suc v) ts → coefficient v (with_multiple v c ts) ≡ c
of-same v (pos zero) ts r = below-none v (suc v) ts (omega arith) r
of-same v (pos (suc n)) ts r = at-front v v (pos (suc n)) ts true (equals_itself v)
of-same v (negsuc n) ts r = at-front v v (negsuc n) ts true (equals_itself v)

of-other : (v w : ℕ) (c : ℤ) (ts : List Term) → (w == v) ≡ false → coefficient v (with_multiple w c ts) ≡ coefficient v ts
of-other v w (pos zero) ts e = refl
of-other v w (pos (suc n)) ts e = at-front v w (pos (suc n)) ts false e
of-other v w (negsuc n) ts e = at-front v w (negsuc n) ts false e

pub rising-at : (low : ℕ) (vars : List ℕ) (k d : ℕ) → AreRising low vars → k < length vars → low ≤ get_or vars k d
rising-at low [] k d r h = absurd (omega arith)
rising-at low (v ∷ vars) zero d r h = r.0
rising-at low (v ∷ vars) (suc k) d r h = let first = r.0 in let later = rising-at (suc v) vars k d r.1 (omega arith) in omega arith

other_number : (v w : ℕ) → v < w → (v == w) ≡ false
other_number v w h = grind (arith, nat_tests)

pub sparse-coefficient : (low : ℕ) (vars : List ℕ) (cells : List ℤ) (k d : ℕ) → AreRising low vars → k < length vars
    → get_or cells k (pos 0) ≡ coefficient (get_or vars k d) (sparse vars cells)
unfolding sparse
sparse-coefficient low [] cells k d r h = absurd (omega arith)
sparse-coefficient low (v ∷ vars) [] k d r h = sym (below-none (get_or (v ∷ vars) k d) (suc (get_or (v ∷ vars) k d)) [] (omega arith) tt)
sparse-coefficient low (v ∷ vars) (c ∷ cells) zero d r h = sym (of-same v c (sparse vars cells) (sparse-rising (suc v) vars cells r.1))
sparse-coefficient low (v ∷ vars) (c ∷ cells) (suc k) d r h =
    sparse-coefficient (suc v) vars cells k d r.1 (omega arith)
    ∙ sym (of-other (get_or vars k d) v c (sparse vars cells) (other_number v (get_or vars k d) (let above = rising-at (suc v) vars k d r.1 (omega arith) in omega arith)))

-- ---- equal terms are of equal cells

multiple-rest : (v : ℕ) (c d : ℤ) (ts us : List Term) → c ≡ d → with_multiple v c ts ≡ with_multiple v d us → ts ≡ us
multiple-rest v (pos zero) d ts us e f = f ∙ ap (λ n. with_multiple v n us) (sym e)
multiple-rest v (pos (suc n)) d ts us e f = let same : with_multiple v (pos (suc n)) ts ≡ with_multiple v (pos (suc n)) us = f ∙ ap (λ n. with_multiple v n us) (sym e) in cc
multiple-rest v (negsuc n) d ts us e f = let same : with_multiple v (negsuc n) ts ≡ with_multiple v (negsuc n) us = f ∙ ap (λ n. with_multiple v n us) (sym e) in cc

pub sparse-equal : (low : ℕ) (vars : List ℕ) (xs ys : List ℤ) → AreRising low vars → length xs ≡ length vars → length ys ≡ length vars
    → sparse vars xs ≡ sparse vars ys → xs ≡ ys
unfolding sparse
sparse-equal low [] [] [] r e f g = refl
sparse-equal low [] (x ∷ xs) ys r e f g = absurd (omega arith)
sparse-equal low [] [] (y ∷ ys) r e f g = absurd (omega arith)
sparse-equal low (v ∷ vars) [] ys r e f g = absurd (omega arith)
sparse-equal low (v ∷ vars) (x ∷ xs) [] r e f g = absurd (omega arith)
sparse-equal low (v ∷ vars) (x ∷ xs) (y ∷ ys) r e f g =
    let same : x ≡ y = sym (of-same v x (sparse vars xs) (sparse-rising (suc v) vars xs r.1)) ∙ ap (coefficient v) g ∙ of-same v y (sparse vars ys) (sparse-rising (suc v) vars ys r.1) in
    ap (λ c. c ∷ xs) same
    ∙ ap (λ cs. y ∷ cs) (sparse-equal (suc v) vars xs ys r.1 (omega arith) (omega arith) (multiple-rest v x y (sparse vars xs) (sparse vars ys) same g))

-- ---- more cells than variables

pub sparse-front : (vars : List ℕ) (cells : List ℤ) → sparse vars (take (length vars) cells) ≡ sparse vars cells
unfolding sparse
sparse-front [] cells = refl
sparse-front (v ∷ vars) [] = refl
sparse-front (v ∷ vars) (c ∷ cells) = ap (λ ts. with_multiple v c ts) (sparse-front vars cells)

pub linear-front : (vars : List ℕ) (cells : List ℤ) (n : ℕ) → n ≡ length vars + 1 → linear_in vars (take n cells) ≡ linear_in vars cells
linear-front vars cells n e = ap (λ n. linear_in vars (take n cells)) (let more : n ≡ suc (length vars) = omega arith in more) ∙ go cells
  where
    go : (cells : List ℤ) → linear_in vars (take (suc (length vars)) cells) ≡ linear_in vars cells
    go [] = refl
    go (c ∷ cells) = ap (λ ts. let l : Linear = record { terms = ts; constant = c } in l) (sparse-front vars cells)

-- ---- terms spread over cells

among-behind : (v : ℕ) (vars : List ℕ) (ts : List Term) → IsRising (suc v) ts → are_among (v ∷ vars) ts ≡ true → are_among vars ts ≡ true
among-behind v vars [] r h = refl
among-behind v vars (t ∷ ts) r h =
    let parts = both (is_among t.var (v ∷ vars)) (are_among (v ∷ vars) ts) h in
    let other : (v == t.var) ≡ false = other_number v t.var (let first = r.0 in omega arith) in
    join (is_among t.var vars) (are_among vars ts) (ap (λ b. b || is_among t.var vars) (sym other) ∙ parts.0)
    (among-behind v vars ts (IsRising-lower (suc v) (suc t.var) ts (let first = r.0 in omega arith) r.2) parts.1)

among-above : (low v : ℕ) (vars : List ℕ) → AreRising low vars → is_among v vars ≡ true → low ≤ v
among-above low v [] r h = cc
among-above low v (w ∷ vars) r h = go (w == v) refl h (λ k. among-above (suc w) v vars r.1 k)
  where
    go : (b : Bool) → (w == v) ≡ b → (b || is_among v vars) ≡ true → (is_among v vars ≡ true → suc w ≤ v) → low ≤ v
    go true e k more = let same = same_number w v e in let first = r.0 in omega arith
    go false e k more = let later = more k in let first = r.0 in omega arith

turned : (m n : ℕ) → (m == n) ≡ false → (n == m) ≡ false
turned m n e = grind (arith, nat_tests)

pub sparse-spread : (low : ℕ) (vars : List ℕ) (ts : List Term) → AreRising low vars → IsRising low ts → are_among vars ts ≡ true → sparse vars (spread_cells vars ts) ≡ ts
unfolding sparse spread_cells
sparse-spread low [] [] r s h = refl
sparse-spread low [] (t ∷ ts) r s h = cc
sparse-spread low (v ∷ vars) [] r s h = sparse-spread (suc v) vars [] r.1 tt refl
sparse-spread low (v ∷ vars) (t ∷ ts) r s h = go (t.var == v) refl (λ us above among. sparse-spread (suc v) vars us r.1 above among)
  where
    go : (b : Bool) → (t.var == v) ≡ b → ((us : List Term) → IsRising (suc v) us → are_among vars us ≡ true → sparse vars (spread_cells vars us) ≡ us)
        → with_multiple v (cond b t.coef (pos 0)) (sparse vars (spread_cells vars (cond b ts (t ∷ ts)))) ≡ t ∷ ts
    go true e later =
        let same = same_number t.var v e in
        let above : IsRising (suc v) ts = subst (λ (n : ℕ). IsRising (suc n) ts) same s.2 in
        let parts = both (is_among t.var (v ∷ vars)) (are_among (v ∷ vars) ts) h in
        ap (λ us. with_multiple v t.coef us) (later ts above (among-behind v vars ts above parts.1))
        ∙ with_multiple-nonzero v t.coef ts s.1
        ∙ ap (λ w. (let u : Term = record { var = w; coef = t.coef } in u) ∷ ts) (sym same)
    go false e later =
        let parts = both (is_among t.var (v ∷ vars)) (are_among (v ∷ vars) ts) h in
        let here : is_among t.var vars ≡ true = ap (λ b. b || is_among t.var vars) (sym (turned t.var v e)) ∙ parts.0 in
        let above : IsRising (suc v) (t ∷ ts) = (among-above (suc v) t.var vars r.1 here, s.1, s.2) in
        later (t ∷ ts) above (among-behind v vars (t ∷ ts) above h)

pub linear-spread : (vars : List ℕ) (x : Linear) (cells : List ℤ) → AreRising 0 vars → IsRising 0 x.terms → are_among vars x.terms ≡ true
    → cells ≡ x.constant ∷ spread_cells vars x.terms → linear_in vars cells ≡ x
linear-spread vars x cells r s h e =
    ap (linear_in vars) e ∙ ap (λ ts. let l : Linear = record { terms = ts; constant = x.constant } in l) (sparse-spread 0 vars x.terms r s h)

pub length-spread : (vars : List ℕ) (ts : List Term) → length (spread_cells vars ts) ≡ length vars
unfolding spread_cells
length-spread [] ts = refl
length-spread (v ∷ vars) ts = ap suc (length-spread vars (behind v ts))

-- all cells within the bound: the terms and the constant
pub linear-within : (vars : List ℕ) (cells : List ℤ) → length cells ≡ length vars + 1 → list_all is_within cells ≡ are_within (linear_in vars cells).terms (linear_in vars cells).constant
linear-within vars [] e = absurd (omega arith)
linear-within vars (c ∷ cells) e = ap (λ b. is_within c && b) (sparse-within vars cells (omega arith)) ∙ turned_and (is_within c) (all_within (sparse vars cells))
  where
    turned_and : (a b : Bool) → (a && b) ≡ (b && a)
    turned_and true true = refl
    turned_and true false = refl
    turned_and false true = refl
    turned_and false false = refl
