-- Rows in the making: each has a source that gives it, and what was done to it since then. They keep that when they are reduced and numbered.
use Rattle.std.proofs.Common.{◌≡◌, ℕ, ℤ, pos, negsuc, ◌≤ℤ◌, Bool, true, false, cond, ◌⊎◌, inl, inr, nat_lt, int_lt, List, [], ◌∷◌, ◌++◌, length, Some, slice_get, refl, sym, ◌∙◌, ap, subst, arith}
use Rattle.std.proofs.lemmas.Int.{ints}
use Rattle.std.proofs.lemmas.Bool.Decides.{nat_tests}
use Rattle.std.proofs.lemmas.List.{append_assoc, append-nil}
use Rattle.xan_lin.specs.Linear.{Linear}
use Rattle.proof_lines.specs.Rows.{divides, cut_of}
use Rattle.proof_lines.specs.Lines.{LineGives, IsSmall}
use Rattle.proof_lines.specs.Check.{is_positive}
use Rattle.proof_lines.specs.Cells.{IsProper}
use Rattle.proof_lines.proofs.Proper.{proper-cut, proper-at}
use Rattle.proof_lines.proofs.Quotients.{cut-small}
use Rattle.solver_rows.specs.declared.step.Step.{Step}
use Rattle.solver_rows.specs.declared.step.Step.TheVariants as step
use Rattle.solver_rows.specs.declared.source.Source.{Source}
use Rattle.solver_rows.specs.declared.source.Source.TheVariants.{Line, New}
use Rattle.solver_rows.specs.Divisors.{divisor}
use Rattle.solver_rows.specs.SystemRows.{Row, linear_of, row_of, divided_by, tight, same_terms, holds}
use Rattle.linear_solver.specs.Systems.{placed, settle}
use Rattle.linear_solver.specs.Numbering.{with_source, source_line, with_cut, cut_line, steps_with, line_with, at_line, System, numbered}
use Rattle.linear_solver.specs.Meaning.{line_meant, lines_meant}
use Rattle.linear_solver.proofs.Given.{get-more, gives-more, small-at, Stand, stands-more, stands-last}
use Rattle.solver_rows.proofs.CommonDivisors.{divisor-divides}

module _ (hyps : List Linear) (goal : Linear) (vars : List ℕ) where
  -- the source gives the row, behind rows that steps give
  abbrev pub SourceGives : List Linear → Source → Linear → Type 0
  SourceGives rows (Line n) x = slice_get rows n ≡ Some x
  SourceGives rows (New s) x = LineGives hyps goal rows (line_meant hyps s) x × IsSmall x × IsProper vars x

  -- what comes of a row that was divided by a number, or by 1
  abbrev pub Divided : Linear → ℤ → Linear → Type 0
  Divided x by y = ((by ≡ pos 1) × (y ≡ x)) ⊎ ((int_lt (pos 1) by ≡ true) × (divides by x.terms ≡ true) × (y ≡ cut_of x by))

  pub record Sourced (rows : List Linear) (r : Row) : Type 0 where
    pub from : Linear
    pub gives : SourceGives rows r.source from
    pub divided : Divided from r.by (linear_of r)

  abbrev pub AreSourced : List Linear → List Row → Type 0
  AreSourced rows [] = Unit {0}
  AreSourced rows (r ∷ rs) = Sourced rows r × AreSourced rows rs

  -- a step gives the row of a system
  pub record Given (rows : List Linear) (r : Row) : Type 0 where
    pub number : ℕ
    pub source_is : r.source ≡ Line number
    pub row_is : slice_get rows number ≡ Some (linear_of r)

  abbrev pub AreGiven : List Linear → List Row → Type 0
  AreGiven rows [] = Unit {0}
  AreGiven rows (r ∷ rs) = Given rows r × AreGiven rows rs

  -- ---- reducing

  tight-by : (rows : List Linear) (g : ℕ) (source : Source) (x : Linear) → SourceGives rows source x → (nat_lt 1 g ≡ true → divides (pos g) x.terms ≡ true)
      → Sourced rows (divided_by g source x)
  tight-by rows g source x s d = go (nat_lt 1 g) refl
    where
      above : (g : ℕ) → nat_lt 1 g ≡ true → int_lt (pos 1) (pos g) ≡ true
      above g e = grind (arith, ints, nat_tests)

      go : (b : Bool) → nat_lt 1 g ≡ b → Sourced rows (cond b (row_of source (pos g) (cut_of x (pos g))) (row_of source (pos 1) x))
      go true e = record { from = x; gives = s; divided = inr (above g e, d e, refl) }
      go false e = record { from = x; gives = s; divided = inl (refl, refl) }

  pub tight-sourced : (rows : List Linear) (source : Source) (x : Linear) → SourceGives rows source x → Sourced rows (tight source x)
  unfolding tight
  tight-sourced rows source x s = tight-by rows (divisor x.terms) source x s (divisor-divides x.terms)

  placed-sourced : (rows : List Linear) (made : List Row) (r : Row) → AreSourced rows made → Sourced rows r → AreSourced rows (placed made r)
  unfolding placed
  placed-sourced rows [] r a s = (s, tt)
  placed-sourced rows (m ∷ made) r a s = go (same_terms m.terms r.terms) (int_lt r.constant m.constant) (placed-sourced rows made r a.1 s)
    where
      go : (b c : Bool) → AreSourced rows (placed made r) → AreSourced rows (cond b (cond c r m ∷ made) (m ∷ placed made r))
      go true true later = (s, a.1)
      go true false later = a
      go false c later = (a.0, later)

  pub settle-sourced : (rows : List Linear) (made : List Row) (r : Row) → AreSourced rows made → Sourced rows r → AreSourced rows (settle made r)
  unfolding settle
  settle-sourced rows made r a s = go (holds r)
    where
      go : (b : Bool) → AreSourced rows (cond b made (placed made r))
      go true = a
      go false = placed-sourced rows made r a s

  -- ---- more rows

  source-more : (rows more : List Linear) (source : Source) (x : Linear) → SourceGives rows source x → SourceGives (rows ++ more) source x
  source-more rows more (Line n) x s = get-more rows more n x s
  source-more rows more (New k) x s = (gives-more hyps goal rows more (line_meant hyps k) x s.0, s.1, s.2)

  sourced-more : (rows more : List Linear) (made : List Row) → AreSourced rows made → AreSourced (rows ++ more) made
  sourced-more rows more [] a = tt
  sourced-more rows more (m ∷ made) a =
      (record { from = a.0.from; gives = source-more rows more m.source a.0.from a.0.gives; divided = a.0.divided }, sourced-more rows more made a.1)

  given-more : (rows more : List Linear) (system : List Row) → AreGiven rows system → AreGiven (rows ++ more) system
  given-more rows more [] a = tt
  given-more rows more (r ∷ system) a =
      (record { number = a.0.number; source_is = a.0.source_is; row_is = get-more rows more a.0.number (linear_of r) a.0.row_is }, given-more rows more system a.1)

  given-push : (rows : List Linear) (system : List Row) (r : Row) → AreGiven rows system → Given rows r → AreGiven rows (system ++ r ∷ [])
  given-push rows [] r a g = (g, tt)
  given-push rows (s ∷ system) r a g = (a.0, given-push rows system r a.1 g)

  -- ---- numbering

  -- steps that give the rows and more, and one of them a certain row
  record Put (rows : List Linear) (steps : List Step) (number : ℕ) (x : Linear) : Type 0 where
    more : List Linear
    stand : Stand hyps goal vars steps (rows ++ more)
    row_is : slice_get (rows ++ more) number ≡ Some x

  put-source : (steps : List Step) (rows : List Linear) (source : Source) (x : Linear) → Stand hyps goal vars steps rows → SourceGives rows source x
      → Put rows (with_source steps source) (source_line steps source) x
  put-source steps rows (Line n) x s g = record {
    more = [];
    stand = subst (λ (xs : List Linear). Stand hyps goal vars steps xs) (sym (append-nil rows)) s;
    row_is = get-more rows [] n x g;
  }
  put-source steps rows (New k) x s g = record {
    more = x ∷ [];
    stand = stands-more hyps goal vars steps rows k x s g.0 g.1 g.2;
    row_is = stands-last hyps goal vars steps rows x s;
  }

  one_is : (by : ℤ) → int_lt (pos 1) by ≡ true → (pos 1 ≤ℤ by) × (is_positive by ≡ true)
  one_is (pos n) e = (grind (arith, ints), grind (arith, ints))
  one_is (negsuc n) e = cc

  put-cut : (steps : List Step) (rows : List Linear) (number : ℕ) (by : ℤ) (x y : Linear) → Stand hyps goal vars steps rows → slice_get rows number ≡ Some x
      → Divided x by y → Put rows (with_cut steps number by) (cut_line steps number by) y
  put-cut steps rows number by x y s e (inl d) = subst (λ (n : ℤ). Put rows (with_cut steps number n) (cut_line steps number n) y) (sym d.0) (record {
    more = [];
    stand = subst (λ (xs : List Linear). Stand hyps goal vars steps xs) (sym (append-nil rows)) s;
    row_is = get-more rows [] number y (e ∙ ap Some (sym d.1));
  })
  put-cut steps rows number by x y s e (inr d) =
      let positive = one_is by d.0 in
      let small = small-at hyps goal [] (lines_meant hyps steps) rows number x s.given e in
      let proper = proper-at vars rows number x s.proper e in
      let small_y : IsSmall y = subst IsSmall (sym d.2) (cut-small x by positive.1 small) in
      let proper_y : IsProper vars y = subst (IsProper vars) (sym d.2) (proper-cut vars x by positive.1 d.1 proper) in
      let gives : LineGives hyps goal rows (line_meant hyps (step.Cut number by)) y = record { from_row = x; from_is = e; positive = positive.0; divided = d.1; row_is = d.2 } in
      go (int_lt (pos 1) by) d.0 (record {
        more = y ∷ [];
        stand = stands-more hyps goal vars steps rows (step.Cut number by) y s gives small_y proper_y;
        row_is = stands-last hyps goal vars steps rows y s;
      })
    where
      go : (b : Bool) → b ≡ true → Put rows (steps ++ step.Cut number by ∷ []) (length steps) y
          → Put rows (cond b (steps ++ step.Cut number by ∷ []) steps) (cond b (length steps) number) y
      go true f p = p
      go false f p = cc

  put-row : (steps : List Step) (rows : List Linear) (r : Row) → Stand hyps goal vars steps rows → Sourced rows r
      → Put rows (steps_with steps r.source r.by) (line_with steps r.source r.by) (linear_of r)
  put-row steps rows r s d =
      let p = put-source steps rows r.source d.from s d.gives in
      let q = put-cut (with_source steps r.source) (rows ++ p.more) (source_line steps r.source) r.by d.from (linear_of r) p.stand p.row_is d.divided in
      let all : (rows ++ p.more) ++ q.more ≡ rows ++ (p.more ++ q.more) = append_assoc rows p.more q.more in
      record {
        more = p.more ++ q.more;
        stand = subst (λ (xs : List Linear). Stand hyps goal vars (steps_with steps r.source r.by) xs) all q.stand;
        row_is = ap (λ xs. slice_get xs (line_with steps r.source r.by)) (sym all) ∙ q.row_is;
      }

  -- the rows of a numbered system are those that its steps give
  pub record Numbers (s : System) : Type 0 where
    pub rows : List Linear
    pub stand : Stand hyps goal vars s.steps rows
    pub given : AreGiven rows s.rows

  pub numbers : (steps : List Step) (rows : List Linear) (done made : List Row) → Stand hyps goal vars steps rows → AreGiven rows done → AreSourced rows made
      → Numbers (numbered steps done made)
  unfolding numbered
  numbers steps rows done [] s g a = record { rows = rows; stand = s; given = g }
  numbers steps rows done (m ∷ made) s g a =
      let p = put-row steps rows m s a.0 in
      numbers (steps_with steps m.source m.by) (rows ++ p.more) (done ++ at_line (line_with steps m.source m.by) m ∷ []) made p.stand
      (given-push (rows ++ p.more) done (at_line (line_with steps m.source m.by) m) (given-more rows p.more done g)
      (record { number = line_with steps m.source m.by; source_is = refl; row_is = p.row_is }))
      (sourced-more rows p.more made a.1)
