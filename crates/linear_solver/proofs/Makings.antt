-- The next system in the making, row after row of the present one.
use Rattle.std.proofs.Common.{◌≡◌, ℕ, ◌+◌, ◌<◌, ◌≤◌, cond, List, length, drop, get_or, Result, Ok, Err, refl, sym, ◌∙◌, ap, subst, arith}
use Rattle.xan_lin.specs.declared.term.LimitKind.{LimitKind}
use Rattle.solver_rows.specs.declared.source.Sign.TheVariants.{Positive, Negative}
use Rattle.solver_rows.specs.SystemRows.{Row, has_sign}
use Rattle.linear_solver.specs.Systems.{with_sign, with_sum, with_sums, with_all_sums}
use Rattle.linear_solver.specs.Region.{no_row, Work, HasRoom, IsOpen}
use Rattle.linear_solver.proofs.Passes.{sums_more, sums_stop, sums_all, all_more, all_stop, all_all}

-- nothing but the rows in the making is another
abbrev pub Kept : Work → Work → Type 0
Kept s w = w ≡ record s { made = w.made }

pub open_kept : (column : ℕ) (s w : Work) → Kept s w → IsOpen column s → IsOpen column w
open_kept column s w kept o = record {
  within = omega (arith, o.within, ap (λ v. length v.vars) kept);
  few = omega (arith, o.few, ap (λ v. length v.rows) kept);
  room = subst HasRoom (sym kept) o.room;
}

pub kept_more : (s w new : Work) (made : List Row) → Kept s w → new ≡ record w { made = made } → Kept s new
kept_more s w new made kept change =
    change ∙ ap (λ v. let u : Work = record v { made = made } in u) kept ∙ ap (λ ms. let u : Work = record s { made = ms } in u) (sym (ap (λ v. v.made) change))

-- the row and the variable are those of the start
abbrev row_at : Work → ℕ → Row
row_at w at = get_or w.rows at no_row

abbrev var_at : Work → ℕ → ℕ
var_at w column = get_or w.vars column 0

-- ---- sums with one positive row

pub record Sums (column at positive : ℕ) (s w : Work) (whole : Result (List Row) LimitKind) : Type 0 where
  pub kept : Kept s w
  pub same : with_sums (var_at s column) (row_at s positive) (with_sign Negative (var_at s column) (drop at s.rows)) w.made ≡ whole
  pub few : length w.made ≤ 2000

sum_one : ℕ → ℕ → ℕ → Work → List Row → Result (List Row) LimitKind
sum_one column positive at w made = cond (has_sign Negative (var_at w column) (row_at w at)) (with_sum (var_at w column) (row_at w positive) (row_at w at) made) (Ok made)

pub sums_next : (column at positive : ℕ) (s w new : Work) (whole : Result (List Row) LimitKind) → Sums column at positive s w whole → at < length s.rows
    → cond (has_sign Negative (var_at w column) (row_at w at)) (with_sum (var_at w column) (row_at w positive) (row_at w at) w.made) (Ok w.made) ≡ Ok new.made
    → new ≡ record w { made = new.made } → length new.made ≤ 2000 → Sums column (at + 1) positive s new whole
unfolding sum_one
sums_next column at positive s w new whole m h e change few = record {
  kept = kept_more s w new new.made m.kept change;
  same = sums_more (var_at s column) (row_at s positive) s.rows w.made new.made at whole h (sym (ap (λ v. sum_one column positive at v w.made) m.kept) ∙ e) m.same;
  few = few;
}

pub sums_limit : (column at positive : ℕ) (s w : Work) (kind : LimitKind) (whole : Result (List Row) LimitKind) → Sums column at positive s w whole → at < length s.rows
    → cond (has_sign Negative (var_at w column) (row_at w at)) (with_sum (var_at w column) (row_at w positive) (row_at w at) w.made) (Ok w.made) ≡ Err kind → whole ≡ Err kind
unfolding sum_one
sums_limit column at positive s w kind whole m h e =
    sums_stop (var_at s column) (row_at s positive) s.rows w.made at kind whole h (sym (ap (λ v. sum_one column positive at v w.made) m.kept) ∙ e) m.same

pub sums_end : (column at positive : ℕ) (s w : Work) (whole : Result (List Row) LimitKind) → Sums column at positive s w whole → length s.rows ≤ at → whole ≡ Ok w.made
sums_end column at positive s w whole m h = sums_all (var_at s column) (row_at s positive) s.rows w.made at whole h m.same

-- ---- sums with all positive rows

pub record AllSums (column at : ℕ) (s w : Work) (whole : Result (List Row) LimitKind) : Type 0 where
  pub kept : Kept s w
  pub same : with_all_sums (var_at s column) (with_sign Positive (var_at s column) (drop at s.rows)) (with_sign Negative (var_at s column) s.rows) w.made ≡ whole
  pub few : length w.made ≤ 2000

sums_one : ℕ → ℕ → Work → List Row → Result (List Row) LimitKind
sums_one column at w made = cond (has_sign Positive (var_at w column) (row_at w at)) (with_sums (var_at w column) (row_at w at) (with_sign Negative (var_at w column) w.rows) made) (Ok made)

pub all_next : (column at : ℕ) (s w new : Work) (whole : Result (List Row) LimitKind) → AllSums column at s w whole → at < length s.rows
    → cond (has_sign Positive (var_at w column) (row_at w at)) (with_sums (var_at w column) (row_at w at) (with_sign Negative (var_at w column) w.rows) w.made) (Ok w.made) ≡ Ok new.made
    → new ≡ record w { made = new.made } → length new.made ≤ 2000 → AllSums column (at + 1) s new whole
unfolding sums_one
all_next column at s w new whole m h e change few = record {
  kept = kept_more s w new new.made m.kept change;
  same = all_more (var_at s column) s.rows (with_sign Negative (var_at s column) s.rows) w.made new.made at whole h (sym (ap (λ v. sums_one column at v w.made) m.kept) ∙ e) m.same;
  few = few;
}

pub all_limit : (column at : ℕ) (s w : Work) (kind : LimitKind) (whole : Result (List Row) LimitKind) → AllSums column at s w whole → at < length s.rows
    → cond (has_sign Positive (var_at w column) (row_at w at)) (with_sums (var_at w column) (row_at w at) (with_sign Negative (var_at w column) w.rows) w.made) (Ok w.made) ≡ Err kind
    → whole ≡ Err kind
unfolding sums_one
all_limit column at s w kind whole m h e =
    all_stop (var_at s column) s.rows (with_sign Negative (var_at s column) s.rows) w.made at kind whole h (sym (ap (λ v. sums_one column at v w.made) m.kept) ∙ e) m.same

pub all_end : (column at : ℕ) (s w : Work) (whole : Result (List Row) LimitKind) → AllSums column at s w whole → length s.rows ≤ at → whole ≡ Ok w.made
all_end column at s w whole m h = all_all (var_at s column) s.rows (with_sign Negative (var_at s column) s.rows) w.made at whole h m.same

-- ---- the beginning

pub sums_begin : (column positive : ℕ) (s : Work) → length s.made ≤ 2000
    → Sums column 0 positive s s (with_sums (var_at s column) (row_at s positive) (with_sign Negative (var_at s column) s.rows) s.made)
sums_begin column positive s few = record { kept = refl; same = refl; few = few }

pub all_begin : (column : ℕ) (s : Work) → length s.made ≤ 2000
    → AllSums column 0 s s (with_all_sums (var_at s column) (with_sign Positive (var_at s column) s.rows) (with_sign Negative (var_at s column) s.rows) s.made)
all_begin column s few = record { kept = refl; same = refl; few = few }
