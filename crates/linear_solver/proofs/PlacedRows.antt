-- Rows that go to their places in the pool, against what is seen of a workspace.
use Rattle.std.proofs.Common.{◌≡◌, ℕ, zero, suc, ◌+◌, ◌<◌, ◌≤◌, ℤ, pos, Bool, true, false, cond, nat_lt, ◌&&◌, int_lt, int_le, List, [], ◌∷◌, ◌++◌, length, take, drop, set, get_or, refl, sym, ◌∙◌, ap, subst, arith}
use Rattle.std.specs.List.{list_any}
use Rattle.xan_lin.specs.Linear.{Linear, all_within}
use Rattle.xan_pool.specs.Pool.{Pool}
use Rattle.index_sorts.specs.Known.{no_terms}
use Rattle.proof_lines.specs.Cells.{AreDifferent}
use Rattle.linear_solver.specs.declared.places.Stored.{Stored}
use Rattle.solver_rows.specs.declared.source.Sign.TheVariants.{Zero}
use Rattle.solver_rows.specs.Divisors.{divisor}
use Rattle.solver_rows.specs.SystemRows.{Row, same_terms}
use Rattle.linear_solver.specs.Systems.{lesser, reduced_onto, with_sign}
use Rattle.linear_solver.specs.Reducing.{IsPlace}
use Rattle.solver_rows.specs.RowsInCells.{linear_in, row_in, IsSigned}
use Rattle.linear_solver.specs.Region.{risen, no_row, rows_of, without, IsSettled, empty_pool, idle, Work, work_at, HasRoom, Lies}
use Rattle.linear_solver.proofs.Distinct.{distinct-push}
use Rattle.linear_solver.proofs.Stores.{in-bound}
use Rattle.linear_solver.proofs.Regions.{Put, puts, puts_lie, Replaced, sets, sets_lie, keeps_rows, keeps_lie, lies_none, lies_begun, begins, count_made, length-taken}
use Rattle.linear_solver.proofs.Risen.{rising-risen, length-risen}

-- ---- room

pub room_left : (pool : Pool) (base : ℕ) (vars : List ℕ) (rows made : List Stored) (w : Work) → Lies pool base vars rows made → work_at pool base vars rows made ≡ w → HasRoom w
    → length w.made ≤ 2000 → (length pool.rows < pool.capacity) × (length made ≤ 2000)
room_left pool base vars rows made w l view room few =
    let count = l.count in
    let of_made = count_made pool base vars rows made w l view in
    let others = length-taken base pool.rows (omega (arith, in-bound base (length pool.rows) rows l.in_rows)) in (
      omega (arith, room, few, others, of_made, ap (λ v. length v.pool.rows) view, ap (λ v. v.pool.capacity) view),
      omega (arith, few, of_made),
    )

-- ---- one row

pub settled_as : (x : Linear) (b : Bool) → all_within x.terms ≡ true → nat_lt 1 (divisor x.terms) ≡ false → b ≡ (no_terms x.terms && int_le (pos 0) x.constant) → b ≡ false → IsSettled x
settled_as x b small tight is e = record { small = small; tight = tight; told = sym is ∙ e }

pub put_work : (pool new : Pool) (base : ℕ) (vars : List ℕ) (rows made more : List Stored) (cells : List ℤ) (s : Stored) (w : Work) → Put pool new base vars rows made more cells s
    → work_at pool base vars rows made ≡ w → list_any (λ r. same_terms r.terms (linear_in w.vars cells).terms) w.made ≡ false → IsSettled (linear_in w.vars cells) → IsSigned w.vars cells s.side
    → Lies new base vars rows more × (work_at new base vars rows more ≡ record w { made = w.made ++ row_in w.vars cells s.side ∷ [] })
put_work pool new base vars rows made more cells s w p view =
    subst (λ (v : Work). list_any (λ r. same_terms r.terms (linear_in v.vars cells).terms) v.made ≡ false → IsSettled (linear_in v.vars cells) → IsSigned v.vars cells s.side
    → Lies new base vars rows more × (work_at new base vars rows more ≡ record v { made = v.made ++ row_in v.vars cells s.side ∷ [] })) view
    (λ other settled signed. (
      puts_lie pool new base vars rows made more cells s p (distinct-push (rows_of vars pool.rows made) (row_in vars cells s.side) p.lies.distinct_made other) settled signed,
      puts pool new base vars rows made more cells s p,
    ))

pub set_work : (pool : Pool) (base : ℕ) (vars : List ℕ) (rows made after : List Stored) (place : ℕ) (cells : List ℤ) (s : Stored) (w : Work)
    → Replaced pool base vars rows made after place cells s → work_at pool base vars rows made ≡ w → IsPlace w.made (linear_in w.vars cells).terms place
    → IsSettled (linear_in w.vars cells) → IsSigned w.vars cells s.side
    → Lies pool base vars rows after × (work_at pool base vars rows after ≡ record w { made = set w.made place (row_in w.vars cells s.side) })
set_work pool base vars rows made after place cells s w p view =
    subst (λ (v : Work). IsPlace v.made (linear_in v.vars cells).terms place → IsSettled (linear_in v.vars cells) → IsSigned v.vars cells s.side
    → Lies pool base vars rows after × (work_at pool base vars rows after ≡ record v { made = set v.made place (row_in v.vars cells s.side) })) view
    (λ same settled signed. (
      sets_lie pool base vars rows made after place cells s p same settled signed,
      sets pool base vars rows made after place cells s p same,
    ))

-- ---- the rows without a variable

pub no_sides : (pool : Pool) (base : ℕ) (vars : List ℕ) (rows made : List Stored) (w : Work) → Lies pool base vars rows made → work_at pool base vars rows made ≡ w → w.made ≡ [] → made ≡ []
no_sides pool base vars rows made w l view none = go made (sym (count_made pool base vars rows made w l view) ∙ ap length none)
  where
    go : (made : List Stored) → length made ≡ 0 → made ≡ []
    go [] e = refl
    go (s ∷ made) e = absurd (omega arith)

pub keep_work : (pool : Pool) (base : ℕ) (vars : List ℕ) (rows made more : List Stored) (w : Work) (column : ℕ) → Lies pool base vars rows made → work_at pool base vars rows made ≡ w
    → w.made ≡ [] → column < length w.vars → more ≡ made ++ without column rows
    → Lies pool base vars rows more × (work_at pool base vars rows more ≡ record w { made = reduced_onto [] (with_sign Zero (get_or w.vars column 0) w.rows) })
keep_work pool base vars rows made more w column l view none h more_is =
    let empty : made ≡ [] = no_sides pool base vars rows made w l view none in
    let lies : Lies pool base vars rows [] = subst (Lies pool base vars rows) empty l in
    let is : more ≡ without column rows = more_is ∙ ap (λ ms. ms ++ without column rows) empty in
    subst (λ (v : Work). column < length v.vars → Lies pool base vars rows more × (work_at pool base vars rows more ≡ record v { made = reduced_onto [] (with_sign Zero (get_or v.vars column 0) v.rows) })) view
    (λ within. (keeps_lie pool base vars rows more column lies within is, keeps_rows pool base vars rows more column lies within is)) h

set-same : (rows : List Row) (k : ℕ) (d : Row) → set rows k (get_or rows k d) ≡ rows
set-same [] k d = refl
set-same (r ∷ rows) zero d = refl
set-same (r ∷ rows) (suc k) d = ap (λ rs. r ∷ rs) (set-same rows k d)

-- a row that is less goes to the place of the other
pub lowers : (w new : Work) (place : ℕ) (r : Row) (b : Bool) → b ≡ int_lt r.constant (get_or w.made place no_row).constant → b ≡ true → new ≡ record w { made = set w.made place r }
    → new ≡ record w { made = set w.made place (lesser (get_or w.made place no_row) r) }
lowers w new place r b e t change = change ∙ ap (λ c. let v : Work = record w { made = set w.made place (cond c r (get_or w.made place no_row)) } in v) (sym (sym e ∙ t))

pub stays_low : (w : Work) (place : ℕ) (r : Row) (b : Bool) → b ≡ int_lt r.constant (get_or w.made place no_row).constant → b ≡ false
    → w ≡ record w { made = set w.made place (lesser (get_or w.made place no_row) r) }
stays_low w place r b e t =
    ap (λ rs. let v : Work = record w { made = rs } in v) (sym (set-same w.made place no_row))
    ∙ ap (λ c. let v : Work = record w { made = set w.made place (cond c r (get_or w.made place no_row)) } in v) (sym (sym e ∙ t))

-- ---- nothing, and the beginning

pub empty_lies : (pool : Pool) (vars : List ℕ) (rows made : List Stored) → pool ≡ empty_pool → vars ≡ [] → rows ≡ [] → made ≡ [] → Lies pool 0 vars rows made
empty_lies pool vars rows made a b c d =
    subst (λ (p : Pool). Lies p 0 vars rows made) (sym a)
    (subst (λ (vs : List ℕ). Lies empty_pool 0 vs rows made) (sym b)
    (subst (λ (ss : List Stored). Lies empty_pool 0 [] ss made) (sym c) (subst (λ (ss : List Stored). Lies empty_pool 0 [] [] ss) (sym d) lies_none)))

nothing : work_at empty_pool 0 [] [] [] ≡ idle
unfolding rows_of
nothing = refl

pub empty_is : (pool : Pool) (vars : List ℕ) (rows made : List Stored) → pool ≡ empty_pool → vars ≡ [] → rows ≡ [] → made ≡ [] → work_at pool 0 vars rows made ≡ idle
empty_is pool vars rows made a b c d =
    ap (λ p. work_at p 0 vars rows made) a ∙ ap (λ vs. work_at empty_pool 0 vs rows made) b ∙ ap (λ ss. work_at empty_pool 0 [] ss made) c
    ∙ ap (λ ss. work_at empty_pool 0 [] [] ss) d ∙ nothing

pub begun_lies : (pool lent : Pool) (base : ℕ) (vars found : List ℕ) (rows made : List Stored) → pool ≡ lent → base ≡ length pool.rows → length pool.rows ≤ pool.capacity → lent.width ≡ 65
    → vars ≡ risen found → AreDifferent found → length found ≤ 64 → rows ≡ [] → made ≡ [] → Lies pool base vars rows made
begun_lies pool lent base vars found rows made same at within width is different few c d =
    subst (λ (vs : List ℕ). Lies pool base vs rows made) (sym is)
    (subst (λ (ss : List Stored). Lies pool base (risen found) ss made) (sym c) (subst (λ (ss : List Stored). Lies pool base (risen found) [] ss) (sym d)
    (lies_begun pool (risen found) base at within (ap (λ p. p.width) same ∙ width) (rising-risen found different) (omega (arith, few, length-risen found)))))

pub begun_is : (pool lent : Pool) (base : ℕ) (vars found : List ℕ) (rows made : List Stored) → pool ≡ lent → base ≡ length pool.rows → vars ≡ risen found → rows ≡ [] → made ≡ []
    → work_at pool base vars rows made ≡ (let w : Work = record { pool = lent; vars = risen found; rows = []; made = [] } in w)
begun_is pool lent base vars found rows made same at is c d =
    ap (λ vs. work_at pool base vs rows made) is ∙ ap (λ ss. work_at pool base (risen found) ss made) c ∙ ap (λ ss. work_at pool base (risen found) [] ss) d
    ∙ begins pool (risen found) base at ∙ ap (λ p. let w : Work = record { pool = p; vars = risen found; rows = []; made = [] } in w) same

-- ---- as the code has them

abbrev in_front : List ℤ → List ℤ → Type 0
in_front row cells = take (length cells) row ≡ cells

pub put_as : (pool new : Pool) (base : ℕ) (vars : List ℕ) (rows made more : List Stored) (cells read : List ℤ) (s : Stored) (w : Work) (row : List ℤ) → Lies pool base vars rows made
    → work_at pool base vars rows made ≡ w → HasRoom w → length w.made ≤ 2000 → length cells ≡ length w.vars + 1 → read ≡ cells → take (length read) row ≡ read
    → cells ≡ s.constant ∷ drop 1 cells → s.place ≡ length pool.rows
    → new ≡ record pool { rows = pool.rows ++ row ∷ [] } → more ≡ made ++ s ∷ [] → Put pool new base vars rows made more cells s
put_as pool new base vars rows made more cells read s w row l view room few wide is front first at change more_is = record {
  lies = l;
  row = row;
  front = subst (in_front row) is front;
  wide = omega (arith, wide, ap (λ v. length v.vars) view);
  first = first;
  at = at;
  room = (room_left pool base vars rows made w l view room few).0;
  change = change;
  more_is = more_is;
}
