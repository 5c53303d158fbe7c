-- How many rows a system has, and how many steps it takes.
use Rattle.std.proofs.Common.{◌≡◌, ℕ, suc, ◌+◌, ◌≤◌, ℤ, pos, Bool, true, false, cond, nat_lt, int_lt, List, [], ◌∷◌, ◌++◌, length, None, Result, Ok, Err, refl, sym, ◌∙◌, ap, arith}
use Rattle.std.proofs.lemmas.List.{length-append}
use Rattle.xan_lin.specs.Linear.{Linear, are_within}
use Rattle.xan_lin.specs.declared.term.LimitKind.{LimitKind}
use Rattle.xan_lin.specs.declared.term.LimitKind.TheVariants as limit
use Rattle.xan_lin.proofs.Booleans.{is_not_less}
use Rattle.solver_rows.specs.declared.step.Step.{Step}
use Rattle.solver_rows.specs.declared.step.Step.TheVariants as step
use Rattle.solver_rows.specs.declared.source.Source.{Source}
use Rattle.solver_rows.specs.declared.source.Source.TheVariants.{Line, New}
use Rattle.solver_rows.specs.declared.source.Sign.TheVariants.{Positive, Negative, Zero}
use Rattle.linear_solver.specs.declared.choose.Look.{Look}
use Rattle.linear_solver.specs.declared.choose.Look.TheVariants.{Full, Take}
use Rattle.solver_rows.specs.SystemRows.{Row, linear_of, tight, same_terms, holds, size, sum_source, sum_of_two}
use Rattle.linear_solver.specs.Systems.{lesser, placed, settle, reduced_onto, with_sign, limited, with_sum, and_then, with_sums, with_all_sums, next_rows}
use Rattle.linear_solver.specs.Choosing.{refuted_by, best_from, refuted_or, look_at}
use Rattle.linear_solver.specs.Numbering.{with_source, source_line, with_cut, steps_with}
use Rattle.linear_solver.specs.Elimination.{bears, with_hyps, first_rows}
use Rattle.linear_solver.proofs.RowCounts.{with_sign-few}

-- ---- rows

placed-more : (rows : List Row) (r : Row) → length (placed rows r) ≤ length rows + 1
unfolding placed
placed-more [] r = omega arith
placed-more (s ∷ rows) r = go (same_terms s.terms r.terms) (placed-more rows r)
  where
    go : (b : Bool) → length (placed rows r) ≤ length rows + 1 → length (cond b (lesser s r ∷ rows) (s ∷ placed rows r)) ≤ length (s ∷ rows) + 1
    go true h = omega arith
    go false h = omega arith

pub settle-more : (rows : List Row) (r : Row) → length (settle rows r) ≤ length rows + 1
unfolding settle
settle-more rows r = go (holds r) (placed-more rows r)
  where
    go : (b : Bool) → length (placed rows r) ≤ length rows + 1 → length (cond b rows (placed rows r)) ≤ length rows + 1
    go true h = omega arith
    go false h = h

pub reduced-more : (made rows : List Row) → length (reduced_onto made rows) ≤ length made + length rows
unfolding reduced_onto
reduced-more made [] = omega arith
reduced-more made (r ∷ rows) =
    let one = settle-more made (tight r.source (linear_of r)) in
    let all = reduced-more (settle made (tight r.source (linear_of r))) rows in
    omega arith

limited-few : (rows out : List Row) → limited rows ≡ Ok out → length out ≤ 2000
limited-few rows out e = go (nat_lt 2000 (length rows)) refl e
  where
    go : (b : Bool) → nat_lt 2000 (length rows) ≡ b → cond b (let r : Result (List Row) LimitKind = Err limit.System in r) (Ok rows) ≡ Ok out → length out ≤ 2000
    go true h f = cc
    go false h f = let same : rows ≡ out = cc in let few = is_not_less 2000 (length rows) h in omega (arith, few, ap length same)

sum-few : (var : ℕ) (p n : Row) (made out : List Row) → with_sum var p n made ≡ Ok out → length out ≤ 2000
unfolding with_sum
sum-few var p n made out e = go (are_within (sum_of_two (size var p) (size var n) p n).terms (sum_of_two (size var p) (size var n) p n).constant) e
  where
    go : (b : Bool) → cond b (limited (settle made (tight (sum_source (size var p) (size var n) p n) (sum_of_two (size var p) (size var n) p n)))) (Err limit.Magnitude) ≡ Ok out → length out ≤ 2000
    go true f = limited-few (settle made (tight (sum_source (size var p) (size var n) p n) (sum_of_two (size var p) (size var n) p n))) out f
    go false f = cc

sums-few : (var : ℕ) (p : Row) (negative made out : List Row) → length made ≤ 2000 → with_sums var p negative made ≡ Ok out → length out ≤ 2000
unfolding with_sums
sums-few var p [] made out h e = let same : made ≡ out = cc in omega (arith, h, ap length same)
sums-few var p (n ∷ negative) made out h e = go (with_sum var p n made) refl e (λ next k. sums-few var p negative next out k)
  where
    go : (r : Result (List Row) LimitKind) → with_sum var p n made ≡ r → and_then r (λ next. with_sums var p negative next) ≡ Ok out
        → ((next : List Row) → length next ≤ 2000 → with_sums var p negative next ≡ Ok out → length out ≤ 2000) → length out ≤ 2000
    go (Ok next) f k later = later next (sum-few var p n made next f) k
    go (Err kind) f k later = cc

all-few : (var : ℕ) (positive negative made out : List Row) → length made ≤ 2000 → with_all_sums var positive negative made ≡ Ok out → length out ≤ 2000
unfolding with_all_sums
all-few var [] negative made out h e = let same : made ≡ out = cc in omega (arith, h, ap length same)
all-few var (p ∷ positive) negative made out h e = go (with_sums var p negative made) refl e (λ next k. all-few var positive negative next out k)
  where
    go : (r : Result (List Row) LimitKind) → with_sums var p negative made ≡ r → and_then r (λ next. with_all_sums var positive negative next) ≡ Ok out
        → ((next : List Row) → length next ≤ 2000 → with_all_sums var positive negative next ≡ Ok out → length out ≤ 2000) → length out ≤ 2000
    go (Ok next) f k later = later next (sums-few var p negative made next h f) k
    go (Err kind) f k later = cc

next-few : (var : ℕ) (rows out : List Row) → length rows ≤ 2000 → next_rows var rows ≡ Ok out → length out ≤ 2000
unfolding next_rows
next-few var rows out h e =
    let zero_rows = with_sign-few Zero var rows in
    let start = reduced-more [] (with_sign Zero var rows) in
    all-few var (with_sign Positive var rows) (with_sign Negative var rows) (reduced_onto [] (with_sign Zero var rows)) out (omega arith) e

pub taken-few : (vars : List ℕ) (rows : List Row) (var : ℕ) → look_at vars rows ≡ Take var → length rows ≤ 2000
unfolding look_at
taken-few vars rows var e = go (nat_lt 2000 (length rows)) refl e
  where
    go : (b : Bool) → nat_lt 2000 (length rows) ≡ b → cond b Full (refuted_or (refuted_by rows) (best_from rows None vars)) ≡ Take var → length rows ≤ 2000
    go true h f = cc
    go false h f = is_not_less 2000 (length rows) h

-- the next system is no larger than a system may be
pub next_few : (vars : List ℕ) (rows seen seen_too out : List Row) (look : Look) (var : ℕ) → seen ≡ rows → look ≡ look_at vars seen → look ≡ Take var → seen_too ≡ rows
    → next_rows var seen_too ≡ Ok out → length out ≤ 2000
next_few vars rows seen seen_too out look var same is take same_too e =
    let few = taken-few vars seen var (sym is ∙ take) in
    next-few var seen_too out (omega (arith, few, ap length same, ap length same_too)) e

pub hyps-more : (vars : List ℕ) (at : ℕ) (rows : List Linear) (made : List Row) → length (with_hyps vars at rows made) ≤ length made + length rows
unfolding with_hyps
hyps-more vars at [] made = omega arith
hyps-more vars at (row ∷ rows) made = go (bears vars row) (hyps-more vars (suc at) rows)
  where
    go : (b : Bool) → ((made : List Row) → length (with_hyps vars (suc at) rows made) ≤ length made + length rows)
        → length (with_hyps vars (suc at) rows (cond b (settle made (tight (New (step.Hyp at)) row)) made)) ≤ length made + length (row ∷ rows)
    go true h = let one = settle-more made (tight (New (step.Hyp at)) row) in let all = h (settle made (tight (New (step.Hyp at)) row)) in omega arith
    go false h = let all = h made in omega arith

pub first-few : (vars : List ℕ) (hyps : List Linear) (start : Linear) → length (first_rows vars hyps start) ≤ length hyps + 1
unfolding first_rows
first-few vars hyps start =
    let one = settle-more (with_hyps vars 0 hyps []) (tight (New step.Goal) start) in
    let all = hyps-more vars 0 hyps [] in
    omega arith

-- ---- steps

pub source-more : (steps : List Step) (source : Source) → length (with_source steps source) ≤ length steps + 1
source-more steps (Line n) = omega arith
source-more steps (New s) = omega (arith, length-append steps (s ∷ []))

cut-more : (steps : List Step) (line : ℕ) (by : ℤ) → length (with_cut steps line by) ≤ length steps + 1
cut-more steps line by = go (int_lt (pos 1) by)
  where
    go : (b : Bool) → length (cond b (steps ++ step.Cut line by ∷ []) steps) ≤ length steps + 1
    go true = omega (arith, length-append steps (step.Cut line by ∷ []))
    go false = omega arith

pub steps-more : (steps : List Step) (source : Source) (by : ℤ) → length (steps_with steps source by) ≤ length steps + 2
steps-more steps source by =
    let one = source-more steps source in
    let two = cut-more (with_source steps source) (source_line steps source) by in
    omega arith
