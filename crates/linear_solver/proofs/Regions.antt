-- What an elimination works on: how it is read, and what comes of a row more, of another row, of the rows without a variable, and of the next system.
use Rattle.std.proofs.Common.{◌≡◌, ℕ, zero, suc, ◌+◌, ◌-◌, ◌<◌, ◌≤◌, ℤ, true, List, [], ◌∷◌, ◌++◌, length, take, drop, set, get_or, refl, sym, ◌∙◌, ap, subst, arith}
use Rattle.std.proofs.lemmas.List.{length-append, take-append-le, take_all}
use Rattle.xan_lin.specs.Linear.{Linear, all_within}
use Rattle.xan_pool.specs.Pool.{Pool}
use Rattle.linear_solver.specs.declared.places.Stored.{Stored}
use Rattle.solver_rows.specs.declared.source.Sign.TheVariants.{Zero}
use Rattle.solver_rows.specs.declared.step.Step.{Step}
use Rattle.solver_rows.specs.SystemRows.{Row, linear_of}
use Rattle.linear_solver.specs.Systems.{reduced_onto, with_sign}
use Rattle.linear_solver.specs.Numbering.{System, numbered}
use Rattle.linear_solver.specs.Reducing.{AreDistinct, IsPlace}
use Rattle.solver_rows.specs.RowsInCells.{AreRising, IsSigned, AreSignsIn, sparse, spread_cells, linear_in, row_in}
use Rattle.linear_solver.specs.Region.{AreIn, AreLines, AreSettled, IsSettled, AreSigned, no_row, stored_row, rows_of, NumberedSides, numbered_sides, without, placed_from, moved, empty_pool, Work, work_at, Lies, idle}
use Rattle.solver_rows.specs.Signing.{AreSigns}
use Rattle.solver_rows.proofs.Sparse.{sparse-front}
use Rattle.linear_solver.proofs.SignedSystems.{signed-at, signed-push, signed-set, signed-without, signed-numbered, signed-placed}
use Rattle.solver_rows.proofs.SignLemmas.{signs_in}
use Rattle.solver_rows.proofs.SameTerms.{equal_terms}
use Rattle.linear_solver.proofs.Distinct.{distinct-set}
use Rattle.linear_solver.proofs.Reducible.{Kept, keeps, settled-push, Numbered, numbers_keep}
use Rattle.linear_solver.proofs.Stores.{length-rows_of, rows_of-at, rows_of-push, rows_of-set, rows_of-none, length-set, in-bound, in-more, in-at, in-push, in-set, in-without, rows_of-more, rows_of-taken, last_row, rows_of-without, numbered_of, in-numbered, length-sides, length-moved, take-moved, rows_of-moved, in-placed}

pub length-taken : {X : Type 0} (n : ℕ) (xs : List X) → n ≤ length xs → length (take n xs) ≡ n
length-taken zero xs h = refl
length-taken (suc n) [] h = absurd (omega arith)
length-taken (suc n) (x ∷ xs) h = ap suc (length-taken n xs (omega arith))

-- ---- a row is read

settled-at : (rows : List Row) (k : ℕ) (d : Row) → k < length rows → AreSettled rows → IsSettled (linear_of (get_or rows k d))
settled-at [] k d h s = absurd (omega arith)
settled-at (r ∷ rows) zero d h s = s.0
settled-at (r ∷ rows) (suc k) d h s = settled-at rows k d (omega arith) s.1

-- the coefficients of a row, and the place that they have in the pool
pub record Reads (vars : List ℕ) (cells : List ℤ) (row : Row) : Type 0 where
  pub linear : linear_in vars (row.constant ∷ cells) ≡ linear_of row
  pub small : all_within row.terms ≡ true

reads_at : (vars : List ℕ) (rows : List (List ℤ)) (sides : List Stored) (at count : ℕ) (cells : List ℤ) (d : Stored) → at < length sides → count ≡ length vars
    → cells ≡ take count (drop 1 (get_or rows (get_or sides at d).place [])) → AreSettled (rows_of vars rows sides) → Reads vars cells (get_or (rows_of vars rows sides) at no_row)
reads_at vars rows sides at count cells d h wide is settled =
    let row : get_or (rows_of vars rows sides) at no_row ≡ stored_row vars rows (get_or sides at d) = rows_of-at vars rows sides at d h in
    record {
      linear = subst (λ (r : Row). linear_in vars (r.constant ∷ cells) ≡ linear_of r) (sym row)
          (ap (λ ts. let l : Linear = record { terms = ts; constant = (get_or sides at d).constant } in l)
          (ap (sparse vars) (is ∙ ap (λ n. take n (drop 1 (get_or rows (get_or sides at d).place []))) wide) ∙ sparse-front vars (drop 1 (get_or rows (get_or sides at d).place []))));
      small = (settled-at (rows_of vars rows sides) at no_row (omega (arith, length-rows_of vars rows sides)) settled).small;
    }

module _ (pool : Pool) (base : ℕ) (vars : List ℕ) (rows made : List Stored) (w : Work) (l : Lies pool base vars rows made) (view : work_at pool base vars rows made ≡ w) where
  pub count_rows : length w.rows ≡ length rows
  count_rows = ap (λ v. length v.rows) (sym view) ∙ length-rows_of vars pool.rows rows

  pub count_made : length w.made ≡ length made
  count_made = ap (λ v. length v.made) (sym view) ∙ length-rows_of vars pool.rows made

  pub count_vars : length w.vars ≡ length vars
  count_vars = ap (λ v. length v.vars) (sym view)

  pub row_live : (at : ℕ) (d : Stored) → at < length rows → (get_or rows at d).place < length pool.rows
  row_live at d h = (in-at base (length pool.rows) rows at d h l.in_rows).1

  pub made_live : (at : ℕ) (d : Stored) → at < length made → (get_or made at d).place < length pool.rows
  made_live at d h = (in-at base (length pool.rows) made at d h l.in_made).1

  pub reads_row : (at count : ℕ) (cells : List ℤ) (s : Stored) → at < length rows → s ≡ get_or rows at s → count ≡ length vars → cells ≡ take count (drop 1 (get_or pool.rows s.place []))
      → Reads w.vars cells (get_or w.rows at no_row)
  reads_row at count cells s h there wide is =
      subst (λ (v : Work). Reads v.vars cells (get_or v.rows at no_row)) view
      (reads_at vars pool.rows rows at count cells s h wide (is ∙ ap (λ t. take count (drop 1 (get_or pool.rows t.place []))) there) l.settled_rows)

  pub reads_made : (at count : ℕ) (cells : List ℤ) (s : Stored) → at < length made → s ≡ get_or made at s → count ≡ length vars → cells ≡ take count (drop 1 (get_or pool.rows s.place []))
      → Reads w.vars cells (get_or w.made at no_row)
  reads_made at count cells s h there wide is =
      subst (λ (v : Work). Reads v.vars cells (get_or v.made at no_row)) view
      (reads_at vars pool.rows made at count cells s h wide (is ∙ ap (λ t. take count (drop 1 (get_or pool.rows t.place []))) there) l.settled_made)

  pub row_signs : (at : ℕ) (s : Stored) → at < length rows → s ≡ get_or rows at s → AreSignsIn w.vars s.side.signs (get_or w.rows at no_row)
  row_signs at s h there =
      let row : get_or (rows_of vars pool.rows rows) at no_row ≡ stored_row vars pool.rows s = rows_of-at vars pool.rows rows at s h ∙ ap (stored_row vars pool.rows) (sym there) in
      subst (λ (v : Work). AreSignsIn v.vars s.side.signs (get_or v.rows at no_row)) view
      (signs_in vars (drop 1 (get_or pool.rows s.place [])) s.side.signs (get_or (rows_of vars pool.rows rows) at no_row) l.rising (ap (λ r. r.terms) row)
      (subst (λ (t : Stored). AreSigns t.side.signs (spread_cells vars (get_or (rows_of vars pool.rows rows) at no_row).terms)) (sym there)
      (signed-at vars rows (rows_of vars pool.rows rows) at s h (length-rows_of vars pool.rows rows) l.signed_rows)))

  pub made_signs : (at : ℕ) (s : Stored) → at < length made → s ≡ get_or made at s → AreSigns s.side.signs (spread_cells w.vars (get_or w.made at no_row).terms)
  made_signs at s h there =
      subst (λ (v : Work). AreSigns s.side.signs (spread_cells v.vars (get_or v.made at no_row).terms)) view
      (subst (λ (t : Stored). AreSigns t.side.signs (spread_cells vars (get_or (rows_of vars pool.rows made) at no_row).terms)) (sym there)
      (signed-at vars made (rows_of vars pool.rows made) at s h (length-rows_of vars pool.rows made) l.signed_made))

  pub row_beside : (at : ℕ) (s : Stored) → at < length rows → s ≡ get_or rows at s → get_or w.rows at no_row ≡ stored_row vars pool.rows s
  row_beside at s h there =
      ap (λ v. get_or v.rows at no_row) (sym view) ∙ rows_of-at vars pool.rows rows at s h ∙ ap (stored_row vars pool.rows) (sym there)

  pub made_beside : (at : ℕ) (s : Stored) → at < length made → s ≡ get_or made at s → get_or w.made at no_row ≡ stored_row vars pool.rows s
  made_beside at s h there =
      ap (λ v. get_or v.made at no_row) (sym view) ∙ rows_of-at vars pool.rows made at s h ∙ ap (stored_row vars pool.rows) (sym there)

  pub given : (AreRising 0 w.vars) × (length w.vars ≤ 64) × AreDistinct w.made
  given = subst (λ (v : Work). (AreRising 0 v.vars) × (length v.vars ≤ 64) × AreDistinct v.made) view (l.rising, l.few, l.distinct_made)

-- ---- one row more in the making

pub record Put (pool new : Pool) (base : ℕ) (vars : List ℕ) (rows made more : List Stored) (cells : List ℤ) (s : Stored) : Type 0 where
  pub lies : Lies pool base vars rows made
  pub row : List ℤ
  pub front : take (length cells) row ≡ cells
  pub wide : length cells ≡ length vars + 1
  pub first : cells ≡ s.constant ∷ drop 1 cells
  pub at : s.place ≡ length pool.rows
  pub room : length pool.rows < pool.capacity
  pub change : new ≡ record pool { rows = pool.rows ++ row ∷ [] }
  pub more_is : more ≡ made ++ s ∷ []

module _ (pool new : Pool) (base : ℕ) (vars : List ℕ) (rows made more : List Stored) (cells : List ℤ) (s : Stored) (p : Put pool new base vars rows made more cells s) where
  put-made : rows_of vars new.rows more ≡ rows_of vars pool.rows made ++ row_in vars cells s.side ∷ []
  put-made =
      ap (λ q. rows_of vars q.rows more) p.change ∙ ap (rows_of vars (pool.rows ++ p.row ∷ [])) p.more_is
      ∙ rows_of-push vars (pool.rows ++ p.row ∷ []) made s
      ∙ ap (λ rs. rs ++ stored_row vars (pool.rows ++ p.row ∷ []) s ∷ []) (rows_of-more vars pool.rows (p.row ∷ []) base (length pool.rows) made p.lies.in_made (omega arith))
      ∙ ap (λ r. rows_of vars pool.rows made ++ r ∷ []) (last_row vars pool.rows p.row cells s p.at p.front p.wide p.first)

  put-rows : rows_of vars new.rows rows ≡ rows_of vars pool.rows rows
  put-rows = ap (λ q. rows_of vars q.rows rows) p.change ∙ rows_of-more vars pool.rows (p.row ∷ []) base (length pool.rows) rows p.lies.in_rows (omega arith)

  put-pool : (work_at new base vars rows more).pool ≡ (work_at pool base vars rows made).pool
  put-pool =
      ap (λ q. let r : Pool = record q { rows = take base q.rows } in r) p.change
      ∙ ap (λ rs. let r : Pool = record pool { rows = rs } in r)
      (take-append-le base pool.rows (p.row ∷ []) (omega (arith, in-bound base (length pool.rows) rows p.lies.in_rows)))

  pub puts : work_at new base vars rows more ≡ record (work_at pool base vars rows made) { made = rows_of vars pool.rows made ++ row_in vars cells s.side ∷ [] }
  puts =
      ap (λ q. let w : Work = record { pool = q; vars = vars; rows = rows_of vars new.rows rows; made = rows_of vars new.rows more } in w) put-pool
      ∙ ap (λ rs. let w : Work = record { pool = (work_at pool base vars rows made).pool; vars = vars; rows = rs; made = rows_of vars new.rows more } in w) put-rows
      ∙ ap (λ rs. let w : Work = record { pool = (work_at pool base vars rows made).pool; vars = vars; rows = rows_of vars pool.rows rows; made = rs } in w) put-made

  put-length : length new.rows ≡ length pool.rows + 1
  put-length = ap (λ q. length q.rows) p.change ∙ length-append pool.rows (p.row ∷ [])

  pub puts_lie : AreDistinct (rows_of vars pool.rows made ++ row_in vars cells s.side ∷ []) → IsSettled (linear_in vars cells) → IsSigned vars cells s.side → Lies new base vars rows more
  puts_lie d settled signed = record {
    width = ap (λ q. q.width) p.change ∙ p.lies.width;
    within = let room = p.room in omega (arith, put-length, ap (λ q. q.capacity) p.change);
    count = let count = p.lies.count in omega (arith, put-length, ap length p.more_is, length-append made (s ∷ []));
    rising = p.lies.rising;
    few = p.lies.few;
    in_rows = subst (λ (n : ℕ). AreIn base n rows) (sym put-length) (in-more base (length pool.rows) (length pool.rows + 1) rows (omega arith) p.lies.in_rows);
    in_made = subst (λ (n : ℕ). AreIn base n more) (sym put-length)
        (subst (AreIn base (length pool.rows + 1)) (sym p.more_is) (in-push base (length pool.rows) made s p.at p.lies.in_made));
    settled_rows = subst AreSettled (sym put-rows) p.lies.settled_rows;
    settled_made = subst AreSettled (sym put-made) (settled-push (rows_of vars pool.rows made) (row_in vars cells s.side) p.lies.settled_made settled);
    distinct_rows = subst AreDistinct (sym put-rows) p.lies.distinct_rows;
    distinct_made = subst AreDistinct (sym put-made) d;
    lines = subst AreLines (sym put-rows) p.lies.lines;
    signed_rows = subst (AreSigned vars rows) (sym put-rows) p.lies.signed_rows;
    signed_made = subst (AreSigned vars more) (sym put-made) (subst (λ (ms : List Stored). AreSigned vars ms (rows_of vars pool.rows made ++ row_in vars cells s.side ∷ [])) (sym p.more_is)
        (signed-push vars made (rows_of vars pool.rows made) s (row_in vars cells s.side) p.lies.signed_made (length-rows_of vars pool.rows made) signed));
  }

-- ---- another row in its place

settled-set : (rows : List Row) (k : ℕ) (r : Row) → AreSettled rows → IsSettled (linear_of r) → AreSettled (set rows k r)
settled-set [] k r s t = tt
settled-set (x ∷ rows) zero r s t = (t, s.1)
settled-set (x ∷ rows) (suc k) r s t = (s.0, settled-set rows k r s.1 t)

pub record Replaced (pool : Pool) (base : ℕ) (vars : List ℕ) (rows made after : List Stored) (k : ℕ) (cells : List ℤ) (s : Stored) : Type 0 where
  pub lies : Lies pool base vars rows made
  pub live : k < length made
  pub first : cells ≡ s.constant ∷ drop 1 cells
  pub at : s.place ≡ (get_or made k s).place
  pub after_is : after ≡ set made k s

module _ (pool : Pool) (base : ℕ) (vars : List ℕ) (rows made after : List Stored) (k : ℕ) (cells : List ℤ) (s : Stored) (p : Replaced pool base vars rows made after k cells s)
    (same : IsPlace (rows_of vars pool.rows made) (linear_in vars cells).terms k) where
  set-terms : sparse vars (drop 1 (get_or pool.rows s.place [])) ≡ (linear_in vars cells).terms
  set-terms =
      ap (λ n. sparse vars (drop 1 (get_or pool.rows n []))) p.at
      ∙ sym (ap (λ r. r.terms) (rows_of-at vars pool.rows made k s p.live))
      ∙ equal_terms (get_or (rows_of vars pool.rows made) k no_row).terms (linear_in vars cells).terms (same.1 no_row)

  set-row : stored_row vars pool.rows s ≡ row_in vars cells s.side
  set-row =
      ap (λ ts. let r : Row = record { terms = ts; constant = s.constant; source = s.side.source; by = s.side.by } in r) set-terms
      ∙ ap (λ c. let r : Row = record { terms = (linear_in vars cells).terms; constant = c; source = s.side.source; by = s.side.by } in r) (sym (ap (λ xs. (linear_in vars xs).constant) p.first))

  set-made : rows_of vars pool.rows after ≡ set (rows_of vars pool.rows made) k (row_in vars cells s.side)
  set-made =
      ap (rows_of vars pool.rows) p.after_is ∙ rows_of-set vars pool.rows made k s ∙ ap (set (rows_of vars pool.rows made) k) set-row

  pub sets : work_at pool base vars rows after ≡ record (work_at pool base vars rows made) { made = set (rows_of vars pool.rows made) k (row_in vars cells s.side) }
  sets = ap (λ rs. let w : Work = record { pool = (work_at pool base vars rows made).pool; vars = vars; rows = rows_of vars pool.rows rows; made = rs } in w) set-made

  pub sets_lie : IsSettled (linear_in vars cells) → IsSigned vars cells s.side → Lies pool base vars rows after
  sets_lie settled signed = record {
    width = p.lies.width;
    within = p.lies.within;
    count = let count = p.lies.count in omega (arith, ap length p.after_is, length-set made k s);
    rising = p.lies.rising;
    few = p.lies.few;
    in_rows = p.lies.in_rows;
    in_made = subst (AreIn base (length pool.rows)) (sym p.after_is) (in-set base (length pool.rows) made k s s p.at p.lies.in_made);
    settled_rows = p.lies.settled_rows;
    settled_made = subst AreSettled (sym set-made) (settled-set (rows_of vars pool.rows made) k (row_in vars cells s.side) p.lies.settled_made settled);
    distinct_rows = p.lies.distinct_rows;
    distinct_made = subst AreDistinct (sym set-made)
        (distinct-set (rows_of vars pool.rows made) k no_row (row_in vars cells s.side) p.lies.distinct_made
        (sym (equal_terms (get_or (rows_of vars pool.rows made) k no_row).terms (linear_in vars cells).terms (same.1 no_row))));
    lines = p.lies.lines;
    signed_rows = p.lies.signed_rows;
    signed_made = subst (AreSigned vars after) (sym set-made) (subst (λ (ms : List Stored). AreSigned vars ms (set (rows_of vars pool.rows made) k (row_in vars cells s.side))) (sym p.after_is)
        (signed-set vars made (rows_of vars pool.rows made) k s (row_in vars cells s.side) p.lies.signed_made signed));
  }

-- ---- the rows without a variable

module _ (pool : Pool) (base : ℕ) (vars : List ℕ) (rows more : List Stored) (column : ℕ) (l : Lies pool base vars rows []) (h : column < length vars)
    (more_is : more ≡ without column rows) where
  keep-kept : Kept (rows_of vars pool.rows rows) (with_sign Zero (get_or vars column 0) (rows_of vars pool.rows rows))
  keep-kept = keeps Zero (get_or vars column 0) (rows_of vars pool.rows rows) l.settled_rows l.lines l.distinct_rows

  keep-made : rows_of vars pool.rows more ≡ with_sign Zero (get_or vars column 0) (rows_of vars pool.rows rows)
  keep-made = ap (rows_of vars pool.rows) more_is ∙ rows_of-without vars pool.rows column rows l.rising h l.signed_rows

  pub keeps_rows : work_at pool base vars rows more
      ≡ record (work_at pool base vars rows []) { made = reduced_onto [] (with_sign Zero (get_or vars column 0) (rows_of vars pool.rows rows)) }
  keeps_rows = ap (λ rs. let w : Work = record { pool = (work_at pool base vars rows []).pool; vars = vars; rows = rows_of vars pool.rows rows; made = rs } in w) (keep-made ∙ sym keep-kept.same)

  pub keeps_lie : Lies pool base vars rows more
  keeps_lie = record {
    width = l.width;
    within = l.within;
    count = let count = l.count in omega arith;
    rising = l.rising;
    few = l.few;
    in_rows = l.in_rows;
    in_made = subst (AreIn base (length pool.rows)) (sym more_is) (in-without base (length pool.rows) column rows l.in_rows);
    settled_rows = l.settled_rows;
    settled_made = subst AreSettled (sym keep-made) keep-kept.settled;
    distinct_rows = l.distinct_rows;
    distinct_made = subst AreDistinct (sym keep-made) keep-kept.distinct;
    lines = l.lines;
    signed_rows = l.signed_rows;
    signed_made = subst (λ (ms : List Stored). AreSigned vars ms (rows_of vars pool.rows ms)) (sym more_is) (signed-without vars pool.rows column rows l.signed_rows);
  }

-- ---- nothing

pub lies_none : Lies empty_pool 0 [] [] []
unfolding rows_of
lies_none = record {
  width = refl;
  within = omega arith;
  count = omega arith;
  rising = tt;
  few = omega arith;
  in_rows = omega arith;
  in_made = omega arith;
  settled_rows = tt;
  settled_made = tt;
  distinct_rows = tt;
  distinct_made = tt;
  lines = tt;
  signed_rows = tt;
  signed_made = tt;
}

pub lies_begun : (pool : Pool) (vars : List ℕ) (base : ℕ) → base ≡ length pool.rows → length pool.rows ≤ pool.capacity → pool.width ≡ 65 → AreRising 0 vars → length vars ≤ 64 → Lies pool base vars [] []
unfolding rows_of
lies_begun pool vars base e within width rising few = record {
  width = width;
  within = within;
  count = omega arith;
  rising = rising;
  few = few;
  in_rows = omega arith;
  in_made = omega arith;
  settled_rows = tt;
  settled_made = tt;
  distinct_rows = tt;
  distinct_made = tt;
  lines = tt;
  signed_rows = tt;
  signed_made = tt;
}

pub begins : (pool : Pool) (vars : List ℕ) (base : ℕ) → base ≡ length pool.rows
    → work_at pool base vars [] [] ≡ (let w : Work = record { pool = pool; vars = vars; rows = []; made = [] } in w)
unfolding rows_of
begins pool vars base e = ap (λ rs. let w : Work = record { pool = record pool { rows = rs }; vars = vars; rows = []; made = [] } in w) (take_all base pool.rows (omega arith))

-- ---- the system in the making becomes the present one

-- what the next system needs, wherever its rows lie
module _ (pool new : Pool) (base : ℕ) (vars : List ℕ) (rows made done : List Stored) (steps after : List Step) (l : Lies pool base vars rows made)
    (front : take base new.rows ≡ take base pool.rows) (width : new.width ≡ pool.width) (capacity : new.capacity ≡ pool.capacity)
    (few : length new.rows ≤ base + 2000) (no_more : length new.rows ≤ length pool.rows)
    (there : AreIn base (length new.rows) done) (signed : AreSigned vars done (rows_of vars new.rows done))
    (is : numbered steps [] (rows_of vars pool.rows made) ≡ (let s : System = record { steps = after; rows = rows_of vars new.rows done } in s)) where
  turn-kept : Numbered (rows_of vars new.rows done)
  turn-kept = subst Numbered (ap (λ s. s.rows) is) (numbers_keep steps (rows_of vars pool.rows made) l.settled_made l.distinct_made)

  turn-pool : (work_at new base vars done []).pool ≡ (work_at pool base vars rows made).pool
  turn-pool =
      ap (λ rs. let r : Pool = record { rows = rs; width = new.width; capacity = new.capacity } in r) front
      ∙ ap (λ n. let r : Pool = record { rows = take base pool.rows; width = n; capacity = new.capacity } in r) width
      ∙ ap (λ n. let r : Pool = record { rows = take base pool.rows; width = pool.width; capacity = n } in r) capacity

  pub turns : work_at new base vars done [] ≡ record (work_at pool base vars rows made) { rows = rows_of vars new.rows done; made = [] }
  turns =
      ap (λ q. let w : Work = record { pool = q; vars = vars; rows = rows_of vars new.rows done; made = rows_of vars new.rows [] } in w) turn-pool
      ∙ ap (λ rs. let w : Work = record { pool = (work_at pool base vars rows made).pool; vars = vars; rows = rows_of vars new.rows done; made = rs } in w) (rows_of-none vars new.rows)

  pub turns_lie : Lies new base vars done []
  turns_lie = record {
    width = width ∙ l.width;
    within = let within = l.within in omega arith;
    count = omega arith;
    rising = l.rising;
    few = l.few;
    in_rows = there;
    in_made = omega (arith, in-bound base (length new.rows) done there);
    settled_rows = turn-kept.settled;
    settled_made = subst AreSettled (sym (rows_of-none vars new.rows)) tt;
    distinct_rows = turn-kept.distinct;
    distinct_made = subst AreDistinct (sym (rows_of-none vars new.rows)) tt;
    lines = turn-kept.lines;
    signed_rows = signed;
    signed_made = tt;
  }

pub record Turned (pool new : Pool) (base : ℕ) (vars : List ℕ) (done none : List Stored) (w : Work) (steps after : List Step) : Type 0 where
  pub lies : Lies new base vars done none
  pub is : work_at new base vars done none ≡ record w { rows = (work_at new base vars done none).rows; made = [] }
  pub numbers : numbered steps [] w.made ≡ (let s : System = record { steps = after; rows = (work_at new base vars done none).rows } in s)

module _ (pool : Pool) (base : ℕ) (vars : List ℕ) (rows made done none : List Stored) (w : Work) (steps after : List Step) (l : Lies pool base vars rows made)
    (view : work_at pool base vars rows made ≡ w)
    (is : numbered_sides steps [] made ≡ (let n : NumberedSides = record { steps = after; sides = done } in n)) (e : none ≡ []) where
  done-numbers : numbered steps [] (rows_of vars pool.rows made) ≡ (let s : System = record { steps = after; rows = rows_of vars pool.rows done } in s)
  done-numbers =
      ap (λ rs. numbered steps rs (rows_of vars pool.rows made)) (sym (rows_of-none vars pool.rows)) ∙ numbered_of vars pool.rows steps [] made
      ∙ ap (λ n. let s : System = record { steps = n.steps; rows = rows_of vars pool.rows n.sides } in s) is

  done-in : AreIn base (length pool.rows) done
  done-in = subst (λ (n : NumberedSides). AreIn base (length pool.rows) n.sides) is (in-numbered base (length pool.rows) steps [] made l.in_made)

  done-signed : AreSigned vars done (rows_of vars pool.rows done)
  done-signed = subst (λ (n : NumberedSides). AreSigned vars n.sides (rows_of vars pool.rows n.sides)) is (signed-numbered vars pool.rows steps [] made l.signed_made)

  pub done-length : length done ≡ length made
  done-length = omega (arith, ap (λ n. length n.sides) is, length-sides steps [] made)

  pub done_live : AreIn base (length pool.rows) done
  done_live = done-in

  turned-as : (new : Pool) (sides : List Stored) → Lies new base vars sides [] → work_at new base vars sides [] ≡ record (work_at pool base vars rows made) { rows = rows_of vars new.rows sides; made = [] }
      → numbered steps [] (rows_of vars pool.rows made) ≡ (let s : System = record { steps = after; rows = rows_of vars new.rows sides } in s) → Turned pool new base vars sides none w steps after
  turned-as new sides lies same numbers =
      subst (λ (ss : List Stored). Turned pool new base vars sides ss w steps after) (sym e) (record {
        lies = lies;
        is = same ∙ ap (λ v. let u : Work = record v { rows = rows_of vars new.rows sides; made = [] } in u) view;
        numbers = ap (λ v. numbered steps [] v.made) (sym view) ∙ numbers;
      })

  -- where few places have no row
  pub turn_stays : length pool.rows ≤ base + 2000 → Turned pool pool base vars done none w steps after
  turn_stays few =
      turned-as pool done (turns_lie pool pool base vars rows made done steps after l refl refl refl few (omega arith) done-in done-signed done-numbers)
      (turns pool pool base vars rows made done steps after l refl refl refl few (omega arith) done-in done-signed done-numbers) done-numbers

  -- where the rows move together
  module _ (new : Pool) (sides : List Stored) (few : length made ≤ 2000) (sides_is : sides ≡ placed_from base done)
      (change : new ≡ record pool { rows = take (base + length done) (moved base pool.rows done) }) where
    gather-length : length new.rows ≡ base + length done
    gather-length =
        ap (λ q. length q.rows) change
        ∙ length-taken (base + length done) (moved base pool.rows done) (omega (arith, in-bound base (length pool.rows) done done-in, length-moved base pool.rows done))

    gather-in : AreIn base (length new.rows) sides
    gather-in = subst (λ (n : ℕ). AreIn base n sides) (sym gather-length) (subst (AreIn base (base + length done)) (sym sides_is) (in-placed base done))

    gather-rows : rows_of vars new.rows sides ≡ rows_of vars pool.rows done
    gather-rows =
        ap (λ q. rows_of vars q.rows sides) change ∙ ap (rows_of vars (take (base + length done) (moved base pool.rows done))) sides_is
        ∙ rows_of-taken vars (moved base pool.rows done) (base + length done) base (base + length done) (placed_from base done) (in-placed base done) (omega arith)
        ∙ rows_of-moved vars base (length pool.rows) pool.rows done done-in (omega arith)

    gather-signed : AreSigned vars sides (rows_of vars new.rows sides)
    gather-signed = subst (AreSigned vars sides) (sym gather-rows) (subst (λ (ss : List Stored). AreSigned vars ss (rows_of vars pool.rows done)) (sym sides_is)
        (signed-placed vars base done (rows_of vars pool.rows done) done-signed))

    gather-numbers : numbered steps [] (rows_of vars pool.rows made) ≡ (let s : System = record { steps = after; rows = rows_of vars new.rows sides } in s)
    gather-numbers = done-numbers ∙ ap (λ rs. let s : System = record { steps = after; rows = rs } in s) (sym gather-rows)

    gather-front : take base new.rows ≡ take base pool.rows
    gather-front =
        ap (λ q. take base q.rows) change ∙ take-again base (base + length done) (moved base pool.rows done) (omega arith) ∙ take-moved base base pool.rows done (omega arith)
      where
        take-again : {X : Type 0} (m n : ℕ) (xs : List X) → m ≤ n → take m (take n xs) ≡ take m xs
        take-again zero n xs h = refl
        take-again (suc m) zero xs h = absurd (omega arith)
        take-again (suc m) (suc n) [] h = refl
        take-again (suc m) (suc n) (x ∷ xs) h = ap (λ ys. x ∷ ys) (take-again m n xs (omega arith))

    gather-few : length new.rows ≤ base + 2000
    gather-few = omega (arith, gather-length, done-length)

    gather-less : length new.rows ≤ length pool.rows
    gather-less = omega (arith, gather-length, in-bound base (length pool.rows) done done-in)

    pub turn_gathers : Turned pool new base vars sides none w steps after
    turn_gathers =
        turned-as new sides
        (turns_lie pool new base vars rows made sides steps after l gather-front (ap (λ q. q.width) change) (ap (λ q. q.capacity) change) gather-few gather-less gather-in gather-signed gather-numbers)
        (turns pool new base vars rows made sides steps after l gather-front (ap (λ q. q.width) change) (ap (λ q. q.capacity) change) gather-few gather-less gather-in gather-signed gather-numbers)
        gather-numbers

-- ---- as the code has them

-- of a workspace that works on nothing
pub idle_is : (pool : Pool) (base : ℕ) (vars : List ℕ) (rows made : List Stored) → work_at pool base vars rows made ≡ idle → Lies pool base vars rows made
    → (pool ≡ empty_pool) × (vars ≡ []) × (rows ≡ []) × (made ≡ [])
idle_is pool base vars rows made view l =
    let within = l.within in
    let no_rows : pool.rows ≡ [] = none pool.rows (omega (arith, ap (λ w. w.pool.capacity) view)) in (
      ap (λ rs. let p : Pool = record pool { rows = rs } in p) no_rows
          ∙ ap (λ rs. let p : Pool = record pool { rows = rs } in p) (sym (ap (take base) no_rows ∙ nothing base)) ∙ ap (λ w. w.pool) view,
      ap (λ w. w.vars) view,
      none rows (omega (arith, length-rows_of vars pool.rows rows, ap (λ w. length w.rows) view)),
      none made (omega (arith, length-rows_of vars pool.rows made, ap (λ w. length w.made) view)),
    )
  where
    none : {X : Type 0} (xs : List X) → length xs ≡ 0 → xs ≡ []
    none [] e = refl
    none (x ∷ xs) e = absurd (omega arith)

    nothing : (n : ℕ) → take n (let xs : List (List ℤ) = [] in xs) ≡ []
    nothing zero = refl
    nothing (suc n) = refl

-- the pool as it was, where only the rows of others are left
pub given_back : (pool left : Pool) (base : ℕ) (vars : List ℕ) (rows made : List Stored) (w : Work) → work_at pool base vars rows made ≡ w → left ≡ record pool { rows = take base pool.rows } → left ≡ w.pool
given_back pool left base vars rows made w view e = e ∙ ap (λ v. v.pool) view
