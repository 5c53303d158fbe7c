-- Passes over the rows of a system by their numbers.
use Rattle.std.proofs.Common.{◌≡◌, ℕ, ◌+◌, ◌<◌, ◌≤◌, Bool, true, false, cond, List, [], ◌∷◌, length, drop, get_or, Option, Some, None, Result, Ok, Err, refl, sym, ◌∙◌, ap, arith}
use Rattle.std.proofs.lemmas.List.{drop_more, drop_all}
use Rattle.xan_lin.specs.declared.term.LimitKind.{LimitKind}
use Rattle.solver_rows.specs.declared.source.Sign.{Sign}
use Rattle.solver_rows.specs.declared.source.Sign.TheVariants.{Positive, Negative}
use Rattle.linear_solver.specs.declared.choose.Choice.{Choice}
use Rattle.solver_rows.specs.SystemRows.{Row, line_of, has_sign}
use Rattle.linear_solver.specs.Systems.{with_sign, with_sum, and_then, with_sums, with_all_sums}
use Rattle.linear_solver.specs.Choosing.{cannot_hold, refuted_by, candidate, better, best_from}
use Rattle.linear_solver.specs.Region.{no_row}

-- ---- the first row that cannot hold

refuted-cons : (r : Row) (rows : List Row) → refuted_by (r ∷ rows) ≡ cond (cannot_hold r) (Some (line_of r.source)) (refuted_by rows)
unfolding refuted_by
refuted-cons r rows = refl

refuted-none : refuted_by [] ≡ None
unfolding refuted_by
refuted-none = refl

refuted-at : (rows : List Row) (at : ℕ) → at < length rows
    → refuted_by (drop at rows) ≡ cond (cannot_hold (get_or rows at no_row)) (Some (line_of (get_or rows at no_row).source)) (refuted_by (drop (at + 1) rows))
refuted-at rows at h = ap refuted_by (drop_more rows at no_row h) ∙ refuted-cons (get_or rows at no_row) (drop (at + 1) rows)

pub refuted_here : (rows : List Row) (at line : ℕ) (b : Bool) → at < length rows → b ≡ cannot_hold (get_or rows at no_row) → b ≡ true → line ≡ line_of (get_or rows at no_row).source
    → refuted_by (drop at rows) ≡ refuted_by rows → Some line ≡ refuted_by rows
refuted_here rows at line b h e t is same =
    ap Some is ∙ ap (λ c. cond c (Some (line_of (get_or rows at no_row).source)) (refuted_by (drop (at + 1) rows))) (sym (sym e ∙ t)) ∙ sym (refuted-at rows at h) ∙ same

pub refuted_later : (rows : List Row) (at : ℕ) (b : Bool) → at < length rows → b ≡ cannot_hold (get_or rows at no_row) → b ≡ false
    → refuted_by (drop at rows) ≡ refuted_by rows → refuted_by (drop (at + 1) rows) ≡ refuted_by rows
refuted_later rows at b h e f same =
    ap (λ c. cond c (Some (line_of (get_or rows at no_row).source)) (refuted_by (drop (at + 1) rows))) (sym (sym e ∙ f)) ∙ sym (refuted-at rows at h) ∙ same

pub refuted_never : (rows : List Row) (at : ℕ) → length rows ≤ at → refuted_by (drop at rows) ≡ refuted_by rows → None ≡ refuted_by rows
refuted_never rows at h same = sym refuted-none ∙ ap refuted_by (sym (drop_all at rows h)) ∙ same

-- ---- rows by the sign of a coefficient

sign-cons : (s : Sign) (v : ℕ) (r : Row) (rows : List Row) → with_sign s v (r ∷ rows) ≡ cond (has_sign s v r) (r ∷ with_sign s v rows) (with_sign s v rows)
unfolding with_sign
sign-cons s v r rows = refl

sign-at : (s : Sign) (v : ℕ) (rows : List Row) (at : ℕ) → at < length rows
    → with_sign s v (drop at rows) ≡ cond (has_sign s v (get_or rows at no_row)) (get_or rows at no_row ∷ with_sign s v (drop (at + 1) rows)) (with_sign s v (drop (at + 1) rows))
sign-at s v rows at h = ap (with_sign s v) (drop_more rows at no_row h) ∙ sign-cons s v (get_or rows at no_row) (drop (at + 1) rows)

sign-none : (s : Sign) (v : ℕ) → with_sign s v [] ≡ []
unfolding with_sign
sign-none s v = refl

sign-end : (s : Sign) (v : ℕ) (rows : List Row) (at : ℕ) → length rows ≤ at → with_sign s v (drop at rows) ≡ []
sign-end s v rows at h = ap (with_sign s v) (drop_all at rows h) ∙ sign-none s v

pub counts_one : (s : Sign) (v : ℕ) (rows : List Row) (at n : ℕ) (whole : ℕ) → at < length rows → has_sign s v (get_or rows at no_row) ≡ true
    → n + length (with_sign s v (drop at rows)) ≡ whole → (n + 1) + length (with_sign s v (drop (at + 1) rows)) ≡ whole
counts_one s v rows at n whole h e same =
    let all : with_sign s v (drop at rows) ≡ get_or rows at no_row ∷ with_sign s v (drop (at + 1) rows) =
    sign-at s v rows at h ∙ ap (λ c. cond c (get_or rows at no_row ∷ with_sign s v (drop (at + 1) rows)) (with_sign s v (drop (at + 1) rows))) e in
    omega (arith, ap length all, same)

pub counts_none : (s : Sign) (v : ℕ) (rows : List Row) (at n : ℕ) (whole : ℕ) → at < length rows → has_sign s v (get_or rows at no_row) ≡ false
    → n + length (with_sign s v (drop at rows)) ≡ whole → n + length (with_sign s v (drop (at + 1) rows)) ≡ whole
counts_none s v rows at n whole h e same =
    let all : with_sign s v (drop at rows) ≡ with_sign s v (drop (at + 1) rows) =
    sign-at s v rows at h ∙ ap (λ c. cond c (get_or rows at no_row ∷ with_sign s v (drop (at + 1) rows)) (with_sign s v (drop (at + 1) rows))) e in
    omega (arith, ap length all, same)

pub counts_all : (s : Sign) (v : ℕ) (rows : List Row) (at n : ℕ) (whole : ℕ) → length rows ≤ at → n + length (with_sign s v (drop at rows)) ≡ whole → n ≡ whole
counts_all s v rows at n whole h same = omega (arith, ap length (sign-end s v rows at h), same)

-- ---- the best variable

best-cons : (rows : List Row) (best : Option Choice) (v : ℕ) (vars : List ℕ) → best_from rows best (v ∷ vars) ≡ best_from rows (better best (candidate v rows)) vars
unfolding best_from
best-cons rows best v vars = refl

best-none : (rows : List Row) (best : Option Choice) → best_from rows best [] ≡ best
unfolding best_from
best-none rows best = refl

pub best_more : (rows : List Row) (best next new whole : Option Choice) (vars : List ℕ) (column : ℕ) → column < length vars → next ≡ candidate (get_or vars column 0) rows → new ≡ better best next
    → best_from rows best (drop column vars) ≡ whole → best_from rows new (drop (column + 1) vars) ≡ whole
best_more rows best next new whole vars column h is change same =
    ap (λ c. best_from rows c (drop (column + 1) vars)) (change ∙ ap (better best) is)
    ∙ sym (best-cons rows best (get_or vars column 0) (drop (column + 1) vars)) ∙ ap (best_from rows best) (sym (drop_more vars column 0 h)) ∙ same

pub best_all : (rows : List Row) (best whole : Option Choice) (vars : List ℕ) (column : ℕ) → length vars ≤ column → best_from rows best (drop column vars) ≡ whole → best ≡ whole
best_all rows best whole vars column h same = sym (best-none rows best) ∙ ap (best_from rows best) (sym (drop_all column vars h)) ∙ same

-- ---- sums with one positive row

sums-cons : (v : ℕ) (p n : Row) (negative made : List Row) → with_sums v p (n ∷ negative) made ≡ and_then (with_sum v p n made) (λ rows. with_sums v p negative rows)
unfolding with_sums
sums-cons v p n negative made = refl

sums-none : (v : ℕ) (p : Row) (made : List Row) → with_sums v p [] made ≡ Ok made
unfolding with_sums
sums-none v p made = refl

sums-at : (v : ℕ) (p : Row) (rows made : List Row) (at : ℕ) → at < length rows
    → with_sums v p (with_sign Negative v (drop at rows)) made
    ≡ and_then (cond (has_sign Negative v (get_or rows at no_row)) (with_sum v p (get_or rows at no_row) made) (Ok made)) (λ ms. with_sums v p (with_sign Negative v (drop (at + 1) rows)) ms)
sums-at v p rows made at h = ap (λ ns. with_sums v p ns made) (sign-at Negative v rows at h) ∙ go (has_sign Negative v (get_or rows at no_row))
  where
    r : Row
    r = get_or rows at no_row

    rest : List Row
    rest = with_sign Negative v (drop (at + 1) rows)

    go : (b : Bool) → with_sums v p (cond b (r ∷ rest) rest) made ≡ and_then (cond b (with_sum v p r made) (Ok made)) (λ ms. with_sums v p rest ms)
    go true = sums-cons v p r rest made
    go false = refl

pub sums_more : (v : ℕ) (p : Row) (rows made new : List Row) (at : ℕ) (whole : Result (List Row) LimitKind) → at < length rows
    → cond (has_sign Negative v (get_or rows at no_row)) (with_sum v p (get_or rows at no_row) made) (Ok made) ≡ Ok new
    → with_sums v p (with_sign Negative v (drop at rows)) made ≡ whole → with_sums v p (with_sign Negative v (drop (at + 1) rows)) new ≡ whole
sums_more v p rows made new at whole h e same =
    sym (ap (λ r. and_then r (λ ms. with_sums v p (with_sign Negative v (drop (at + 1) rows)) ms)) e) ∙ sym (sums-at v p rows made at h) ∙ same

pub sums_stop : (v : ℕ) (p : Row) (rows made : List Row) (at : ℕ) (kind : LimitKind) (whole : Result (List Row) LimitKind) → at < length rows
    → cond (has_sign Negative v (get_or rows at no_row)) (with_sum v p (get_or rows at no_row) made) (Ok made) ≡ Err kind
    → with_sums v p (with_sign Negative v (drop at rows)) made ≡ whole → whole ≡ Err kind
sums_stop v p rows made at kind whole h e same =
    sym same ∙ sums-at v p rows made at h ∙ ap (λ r. and_then r (λ ms. with_sums v p (with_sign Negative v (drop (at + 1) rows)) ms)) e

pub sums_all : (v : ℕ) (p : Row) (rows made : List Row) (at : ℕ) (whole : Result (List Row) LimitKind) → length rows ≤ at
    → with_sums v p (with_sign Negative v (drop at rows)) made ≡ whole → whole ≡ Ok made
sums_all v p rows made at whole h same = sym same ∙ ap (λ ns. with_sums v p ns made) (sign-end Negative v rows at h) ∙ sums-none v p made

-- ---- sums with all positive rows

all-cons : (v : ℕ) (p : Row) (positive negative made : List Row) → with_all_sums v (p ∷ positive) negative made ≡ and_then (with_sums v p negative made) (λ rows. with_all_sums v positive negative rows)
unfolding with_all_sums
all-cons v p positive negative made = refl

all-none : (v : ℕ) (negative made : List Row) → with_all_sums v [] negative made ≡ Ok made
unfolding with_all_sums
all-none v negative made = refl

all-at : (v : ℕ) (rows negative made : List Row) (at : ℕ) → at < length rows
    → with_all_sums v (with_sign Positive v (drop at rows)) negative made
    ≡ and_then (cond (has_sign Positive v (get_or rows at no_row)) (with_sums v (get_or rows at no_row) negative made) (Ok made)) (λ ms. with_all_sums v (with_sign Positive v (drop (at + 1) rows)) negative ms)
all-at v rows negative made at h = ap (λ ps. with_all_sums v ps negative made) (sign-at Positive v rows at h) ∙ go (has_sign Positive v (get_or rows at no_row))
  where
    r : Row
    r = get_or rows at no_row

    rest : List Row
    rest = with_sign Positive v (drop (at + 1) rows)

    go : (b : Bool) → with_all_sums v (cond b (r ∷ rest) rest) negative made ≡ and_then (cond b (with_sums v r negative made) (Ok made)) (λ ms. with_all_sums v rest negative ms)
    go true = all-cons v r rest negative made
    go false = refl

pub all_more : (v : ℕ) (rows negative made new : List Row) (at : ℕ) (whole : Result (List Row) LimitKind) → at < length rows
    → cond (has_sign Positive v (get_or rows at no_row)) (with_sums v (get_or rows at no_row) negative made) (Ok made) ≡ Ok new
    → with_all_sums v (with_sign Positive v (drop at rows)) negative made ≡ whole → with_all_sums v (with_sign Positive v (drop (at + 1) rows)) negative new ≡ whole
all_more v rows negative made new at whole h e same =
    sym (ap (λ r. and_then r (λ ms. with_all_sums v (with_sign Positive v (drop (at + 1) rows)) negative ms)) e) ∙ sym (all-at v rows negative made at h) ∙ same

pub all_stop : (v : ℕ) (rows negative made : List Row) (at : ℕ) (kind : LimitKind) (whole : Result (List Row) LimitKind) → at < length rows
    → cond (has_sign Positive v (get_or rows at no_row)) (with_sums v (get_or rows at no_row) negative made) (Ok made) ≡ Err kind
    → with_all_sums v (with_sign Positive v (drop at rows)) negative made ≡ whole → whole ≡ Err kind
all_stop v rows negative made at kind whole h e same =
    sym same ∙ all-at v rows negative made at h ∙ ap (λ r. and_then r (λ ms. with_all_sums v (with_sign Positive v (drop (at + 1) rows)) negative ms)) e

pub all_all : (v : ℕ) (rows negative made : List Row) (at : ℕ) (whole : Result (List Row) LimitKind) → length rows ≤ at
    → with_all_sums v (with_sign Positive v (drop at rows)) negative made ≡ whole → whole ≡ Ok made
all_all v rows negative made at whole h same = sym same ∙ ap (λ ps. with_all_sums v ps negative made) (sign-end Positive v rows at h) ∙ all-none v negative made
