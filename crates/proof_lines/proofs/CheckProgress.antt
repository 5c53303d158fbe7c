-- How far the check has come, one line after another.
use Rattle.std.proofs.Common.{◌≡◌, ℕ, suc, ◌+◌, ◌-◌, ◌<◌, ◌≤◌, ℤ, ◌&&◌, Bool, true, cond, List, [], ◌∷◌, ◌++◌, length, drop, get_or, map, Result, Ok, Err, refl, sym, ◌∙◌, ap, subst, arith}
use Rattle.std.specs.List.{list_all}
use Rattle.std.proofs.Math.Seq.{drop-append_seam}
use Rattle.std.proofs.lemmas.List.{append_assoc, append-nil, length-append, map-append, drop_more, drop_all}
use Rattle.std.proofs.lemmas.List.Folds.{list_all-append}
use Rattle.xan_lin.specs.Linear.{Linear, are_within}
use Rattle.xan_pool.specs.Pool.{Pool}
use Rattle.proof_lines.specs.declared.line.Line.{Line}
use Rattle.proof_lines.specs.declared.bad_line.Why.{Why}
use Rattle.proof_lines.specs.declared.bad_line.BadLine.{BadLine}
use Rattle.proof_lines.specs.declared.bad_line.Why.TheVariants as why
use Rattle.proof_lines.specs.Variables.{with_terms, with_rows, variables}
use Rattle.proof_lines.specs.Check.{row_given, ends_refuted, goes_on, checked_from, checked}
use Rattle.proof_lines.specs.Cells.{AreDifferent, dense, are_among, AreProper, Stands, last_cannot_hold, GivesRow}
use Rattle.proof_lines.proofs.TermVariables.{with_rows-push}
use Rattle.proof_lines.proofs.Dense.{length-cells}
use Rattle.proof_lines.proofs.CellSteps.{last_stands}
use Rattle.proof_lines.proofs.Proper.{join, placed-with_terms, dense_rows-more, proper-more, proper-push}

pub record Walking (hyps : List Linear) (goal : Linear) (lines : List Line) (before pool : Pool) (base : ℕ) (columns : List ℕ) (at : ℕ) : Type 0 where
  pub rows : List Linear
  pub pool_is : pool ≡ record before { rows = before.rows ++ map (dense columns) rows }
  pub base_is : base ≡ length before.rows
  pub stands : Stands columns (map (dense columns) rows) rows
  pub count : length rows ≡ at
  pub few : length columns ≤ 64
  pub different : AreDifferent columns
  pub same : checked_from hyps goal at rows (drop at lines) ≡ checked hyps goal lines

no_variables : [] ≡ variables []
unfolding with_rows
no_variables = refl

pub walks_none : (hyps : List Linear) (goal : Linear) (lines : List Line) (before : Pool) (base : ℕ) (columns : List ℕ) → base ≡ length before.rows → columns ≡ []
    → Walking hyps goal lines before before base columns 0
walks_none hyps goal lines before base columns e none = subst (λ (vs : List ℕ). Walking hyps goal lines before before base vs 0) (sym none) (record {
  rows = [];
  pool_is = ap (λ rows. let p : Pool = record before { rows = rows } in p) (sym (append-nil before.rows));
  base_is = e;
  stands = record { columns_are = no_variables; cells_are = refl; proper = tt; small = refl };
  count = refl;
  few = omega arith;
  different = tt;
  same = refl;
})

-- the rows of the pool from `base` on
pub rows_behind : (hyps : List Linear) (goal : Linear) (lines : List Line) (before pool : Pool) (base : ℕ) (columns : List ℕ) (at : ℕ)
    (w : Walking hyps goal lines before pool base columns at) → Stands columns (drop base pool.rows) w.rows
rows_behind hyps goal lines before pool base columns at w =
    let behind : drop base pool.rows ≡ map (dense columns) w.rows =
    ap (λ p. drop base p.rows) w.pool_is ∙ ap (λ n. drop n (before.rows ++ map (dense columns) w.rows)) w.base_is ∙ drop-append_seam before.rows (map (dense columns) w.rows) in
    record { columns_are = w.stands.columns_are; cells_are = behind; proper = w.stands.proper; small = w.stands.small }

pub cells-long : (before after : List ℕ) (cells : List ℤ) (answer : Result Linear Why) → GivesRow before after cells answer → length cells ≡ 65
cells-long before after cells answer g =
    ap length g.cells_are ∙ length-cells after (64 - length after) g.row ∙ (let few = g.few in let all : length after + (64 - length after) + 1 ≡ 65 = omega arith in all)

-- ---- one line

checked-line : (hyps : List Linear) (goal : Linear) (at : ℕ) (rows : List Linear) (line : Line) (rest : List Line)
    → checked_from hyps goal at rows (line ∷ rest)
    ≡ goes_on at (row_given hyps goal rows (variables rows) line) (λ row. checked_from hyps goal (suc at) (rows ++ row ∷ []) rest)
unfolding checked_from
checked-line hyps goal at rows line rest = refl

pub from_line : (hyps : List Linear) (goal : Linear) (lines : List Line) (before pool : Pool) (base : ℕ) (columns : List ℕ) (at : ℕ) (line : Line)
    (answer : Result Linear Why) (w : Walking hyps goal lines before pool base columns at) → at < length lines → line ≡ get_or lines at line
    → row_given hyps goal w.rows columns line ≡ answer
    → goes_on at answer (λ row. checked_from hyps goal (suc at) (w.rows ++ row ∷ []) (drop (at + 1) lines)) ≡ checked hyps goal lines
from_line hyps goal lines before pool base columns at line answer w h is given =
    ap (λ a. goes_on at a (λ row. checked_from hyps goal (suc at) (w.rows ++ row ∷ []) (drop (at + 1) lines)))
    (sym given ∙ ap (λ vs. row_given hyps goal w.rows vs line) w.stands.columns_are)
    ∙ sym (checked-line hyps goal at w.rows line (drop (at + 1) lines))
    ∙ ap (λ l. checked_from hyps goal at w.rows (l ∷ drop (at + 1) lines)) is
    ∙ ap (λ ls. checked_from hyps goal at w.rows ls) (sym (drop_more lines at line h))
    ∙ w.same

pub walks_more : (hyps : List Linear) (goal : Linear) (lines : List Line) (before pool new_pool : Pool) (base : ℕ) (columns after : List ℕ) (at : ℕ) (line : Line) (cells : List ℤ)
    (w : Walking hyps goal lines before pool base columns at) → at < length lines → line ≡ get_or lines at line
    → GivesRow columns after cells (row_given hyps goal w.rows columns line)
    → new_pool ≡ record pool { rows = pool.rows ++ cells ∷ [] }
    → Walking hyps goal lines before new_pool base after (at + 1)
walks_more hyps goal lines before pool new_pool base columns after at line cells w h is g change =
    let few_with : length (with_terms columns g.row.terms) ≤ 64 = omega (arith, ap length g.columns_are, g.few) in
    let grown : map (dense columns) w.rows ≡ map (dense after) w.rows =
    dense_rows-more columns g.row.terms w.rows few_with w.stands.proper ∙ ap (λ vs. map (dense vs) w.rows) (sym g.columns_are) in
    let next : suc at ≡ at + 1 = omega arith in
    record {
      rows = w.rows ++ g.row ∷ [];
      pool_is = change
          ∙ ap (λ p. let q : Pool = record p { rows = p.rows ++ cells ∷ [] } in q) w.pool_is
          ∙ ap (λ rows. let q : Pool = record before { rows = rows } in q)
          (append_assoc before.rows (map (dense columns) w.rows) (cells ∷ [])
          ∙ ap (λ rows. before.rows ++ rows) (ap (λ rows. rows ++ cells ∷ []) grown ∙ ap (λ c. map (dense after) w.rows ++ c ∷ []) g.cells_are
          ∙ sym (map-append (dense after) w.rows (g.row ∷ []))));
      base_is = w.base_is;
      stands = record {
        columns_are = g.columns_are ∙ ap (λ vs. with_terms vs g.row.terms) w.stands.columns_are ∙ sym (with_rows-push [] w.rows g.row);
        cells_are = refl;
        proper = proper-push after w.rows g.row
            (subst (λ (vs : List ℕ). AreProper vs w.rows) (sym g.columns_are) (proper-more columns g.row.terms w.rows w.stands.proper))
            (record { rising = g.rising; placed = ap (λ vs. are_among vs g.row.terms) g.columns_are ∙ placed-with_terms columns g.row.terms });
        small = list_all-append (λ row. are_within row.terms row.constant) w.rows (g.row ∷ [])
            ∙ join (list_all (λ row. are_within row.terms row.constant) w.rows) (are_within g.row.terms g.row.constant && true) w.stands.small (ap (λ b. b && true) g.small);
      };
      count = length-append w.rows (g.row ∷ []) ∙ ap (λ n. n + 1) w.count;
      few = g.few;
      different = g.different;
      same = ap (λ n. checked_from hyps goal n (w.rows ++ g.row ∷ []) (drop (at + 1) lines)) (sym next)
          ∙ from_line hyps goal lines before pool base columns at line (Ok g.row) w h is g.is;
    }

-- ---- the end

checked-none : (hyps : List Linear) (goal : Linear) (at : ℕ) (rows : List Linear)
    → checked_from hyps goal at rows [] ≡ cond (ends_refuted rows) (Ok tt) (Err (record { at = at; why = why.NotRefuted }))
unfolding checked_from
checked-none hyps goal at rows = refl

pub walks_all : (hyps : List Linear) (goal : Linear) (lines : List Line) (before pool : Pool) (base : ℕ) (columns : List ℕ) (at : ℕ) (refuted : Bool)
    (w : Walking hyps goal lines before pool base columns at) → length lines ≤ at → at ≤ length lines → refuted ≡ last_cannot_hold (drop base pool.rows)
    → (let r : Result (Unit {0}) BadLine = cond refuted (Ok tt) (Err (record { at = length lines; why = why.NotRefuted })) in r) ≡ checked hyps goal lines
walks_all hyps goal lines before pool base columns at refuted w h k e =
    let whole : length lines ≡ at = omega arith in
    let all = rows_behind hyps goal lines before pool base columns at w in
    ap (λ b. let r : Result (Unit {0}) BadLine = cond b (Ok tt) (Err (record { at = length lines; why = why.NotRefuted })) in r) (e ∙ last_stands columns (drop base pool.rows) w.rows all w.few)
    ∙ ap (λ n. let r : Result (Unit {0}) BadLine = cond (ends_refuted w.rows) (Ok tt) (Err (record { at = n; why = why.NotRefuted })) in r) whole
    ∙ sym (checked-none hyps goal at w.rows)
    ∙ ap (λ ls. checked_from hyps goal at w.rows ls) (sym (drop_all at lines h))
    ∙ w.same
