-- The needed steps alone, counted anew, give the same rows.
use Rattle.std.proofs.Common.{◌≡◌, ℕ, zero, suc, ◌+◌, ◌<◌, ◌≤◌, Bool, true, false, ◌⊎◌, inl, inr, List, [], ◌∷◌, ◌++◌, length, take, get_or, Some, slice_get, refl, sym, ◌∙◌, ap, subst, arith}
use Rattle.std.proofs.lemmas.List.{append_assoc, length-append}
use Rattle.std.proofs.lemmas.Option.{slice_get_within}
use Rattle.xan_lin.specs.Linear.{Linear}
use Rattle.proof_lines.specs.Rows.{IsRefutation}
use Rattle.proof_lines.specs.Lines.{LineGives, LinesGive, EndsRefuted, LinesProve}
use Rattle.proof_lines.specs.Cells.{IsProper, AreProper}
use Rattle.solver_rows.specs.declared.step.Step.{Step}
use Rattle.solver_rows.specs.declared.step.Step.TheVariants.{Hyp, Goal, Comb, Cut}
use Rattle.linear_solver.specs.Meaning.{line_meant, lines_meant}
use Rattle.linear_solver.specs.Tracing.{needed, renumbered, kept_onto, traced}
use Rattle.linear_solver.proofs.Given.{get-more, Stand, stands-more, stands-last, stands-length}
use Rattle.linear_solver.proofs.StepMarks.{Marked, earlier, needed-marked, needed-line, needed-length}
use Rattle.linear_solver.proofs.DifferentVariables.{variables-few}

-- ---- lists with one more at the end

get-push : (xs : List Linear) (y : Linear) (j : ℕ) (x : Linear) → slice_get (xs ++ y ∷ []) j ≡ Some x → ((j < length xs) × (slice_get xs j ≡ Some x)) ⊎ ((j ≡ length xs) × (y ≡ x))
get-push [] y zero x e = inr (refl, cc)
get-push [] y (suc j) x e = cc
get-push (z ∷ xs) y zero x e = inl (omega arith, e)
get-push (z ∷ xs) y (suc j) x e = next j xs (get-push xs y j x e)
  where
    next : (j : ℕ) (xs : List Linear) → ((j < length xs) × (slice_get xs j ≡ Some x)) ⊎ ((j ≡ length xs) × (y ≡ x))
        → ((suc j < length (z ∷ xs)) × (slice_get (z ∷ xs) (suc j) ≡ Some x)) ⊎ ((suc j ≡ length (z ∷ xs)) × (y ≡ x))
    next j xs (inl h) = inl (omega (arith, h.0), h.1)
    next j xs (inr h) = inr (ap suc h.0, h.1)

number-before : (numbers : List ℕ) (n j : ℕ) → j < length numbers → get_or (numbers ++ n ∷ []) j 0 ≡ get_or numbers j 0
number-before [] n j h = absurd (omega arith)
number-before (m ∷ numbers) n zero h = refl
number-before (m ∷ numbers) n (suc j) h = number-before numbers n j (omega arith)

number-last : (numbers : List ℕ) (n : ℕ) → get_or (numbers ++ n ∷ []) (length numbers) 0 ≡ n
number-last [] n = refl
number-last (m ∷ numbers) n = number-last numbers n

mark-last : (done : List Bool) (m : Bool) (marks : List Bool) → get_or (done ++ m ∷ marks) (length done) false ≡ m
mark-last [] m marks = refl
mark-last (d ∷ done) m marks = mark-last done m marks

-- ---- the walk over the steps

-- the last row is marked, and cannot hold
abbrev LastKept : List Linear → List Bool → Type 0
LastKept [] marks = ⊥
LastKept (r ∷ []) marks = (marks ≡ true ∷ []) × IsRefutation r
LastKept (r ∷ s ∷ rows) [] = ⊥
LastKept (r ∷ s ∷ rows) (m ∷ marks) = LastKept (s ∷ rows) marks

-- what each marked step takes is marked
abbrev AreMarked : List Bool → List Bool → List Step → Type 0
AreMarked all marks [] = Unit {0}
AreMarked all [] (s ∷ steps) = Unit {0}
AreMarked all (m ∷ marks) (s ∷ steps) = (m ≡ true → Marked all s) × AreMarked all marks steps

marked-all : (all marks : List Bool) (steps : List Step) → ((j : ℕ) → j < length steps → get_or marks j false ≡ true → Marked all (get_or steps j Goal)) → AreMarked all marks steps
marked-all all marks [] h = tt
marked-all all [] (s ∷ steps) h = tt
marked-all all (m ∷ marks) (s ∷ steps) h = (λ e. h 0 (omega arith) e, marked-all all marks steps (λ j k e. h (suc j) (omega arith) e))

module _ (hyps : List Linear) (goal : Linear) (vars : List ℕ) where
  -- behind these rows, with these steps kept so far
  record Walk (all : List Bool) (before : List Linear) (numbers : List ℕ) (kept : List Step) (rows : List Linear) (done marks : List Bool) : Type 0 where
    stand : Stand hyps goal vars kept rows
    marks_are : all ≡ done ++ marks
    done_count : length done ≡ length before
    number_count : length numbers ≡ length before
    correct : (j : ℕ) (x : Linear) → get_or all j false ≡ true → slice_get before j ≡ Some x → slice_get rows (get_or numbers j 0) ≡ Some x

  renumbered-gives : (all : List Bool) (before : List Linear) (numbers : List ℕ) (rows : List Linear) (s : Step) (row : Linear)
      → ((j : ℕ) (x : Linear) → get_or all j false ≡ true → slice_get before j ≡ Some x → slice_get rows (get_or numbers j 0) ≡ Some x)
      → Marked all s → LineGives hyps goal before (line_meant hyps s) row → LineGives hyps goal rows (line_meant hyps (renumbered numbers s)) row
  renumbered-gives all before numbers rows (Hyp k) row h m g = g
  renumbered-gives all before numbers rows Goal row h m g = g
  renumbered-gives all before numbers rows (Comb left_by left right_by right) row h m g = record {
    left_row = g.left_row;
    right_row = g.right_row;
    left_is = h left g.left_row m.0 g.left_is;
    right_is = h right g.right_row m.1 g.right_is;
    left_positive = g.left_positive;
    right_positive = g.right_positive;
    row_is = g.row_is;
  }
  renumbered-gives all before numbers rows (Cut k by) row h m g = record {
    from_row = g.from_row;
    from_is = h k g.from_row m g.from_is;
    positive = g.positive;
    divided = g.divided;
    row_is = g.row_is;
  }

  next-kept : (all : List Bool) (before : List Linear) (numbers : List ℕ) (kept : List Step) (rows : List Linear) (done marks : List Bool) (s : Step) (row : Linear)
      → Walk all before numbers kept rows done (true ∷ marks) → Marked all s → LineGives hyps goal before (line_meant hyps s) row
      → LinesGive hyps goal [] (lines_meant hyps (kept ++ renumbered numbers s ∷ [])) (rows ++ row ∷ []) → IsProper vars row
      → Stand hyps goal vars (kept ++ renumbered numbers s ∷ []) (rows ++ row ∷ [])
      → Walk all (before ++ row ∷ []) (numbers ++ length kept ∷ []) (kept ++ renumbered numbers s ∷ []) (rows ++ row ∷ []) (done ++ true ∷ []) marks
  next-kept all before numbers kept rows done marks s row w m g given p stand = record {
    stand = stand;
    marks_are = w.marks_are ∙ sym (append_assoc done (true ∷ []) marks);
    done_count = length-append done (true ∷ []) ∙ ap (λ n. n + 1) w.done_count ∙ sym (length-append before (row ∷ []));
    number_count = length-append numbers (length kept ∷ []) ∙ ap (λ n. n + 1) w.number_count ∙ sym (length-append before (row ∷ []));
    correct = λ j x e f. go j x e (get-push before row j x f);
  }
    where
      go : (j : ℕ) (x : Linear) → get_or all j false ≡ true → ((j < length before) × (slice_get before j ≡ Some x)) ⊎ ((j ≡ length before) × (row ≡ x))
          → slice_get (rows ++ row ∷ []) (get_or (numbers ++ length kept ∷ []) j 0) ≡ Some x
      go j x e (inl h) =
          ap (λ n. slice_get (rows ++ row ∷ []) n) (number-before numbers (length kept) j (omega (arith, h.0, w.number_count)))
          ∙ get-more rows (row ∷ []) (get_or numbers j 0) x (w.correct j x e h.1)
      go j x e (inr h) =
          ap (λ n. slice_get (rows ++ row ∷ []) (get_or (numbers ++ length kept ∷ []) n 0)) (h.0 ∙ sym w.number_count)
          ∙ ap (λ n. slice_get (rows ++ row ∷ []) n) (number-last numbers (length kept)) ∙ stands-last hyps goal vars kept rows row w.stand ∙ ap Some h.1

  next-left : (all : List Bool) (before : List Linear) (numbers : List ℕ) (kept : List Step) (rows : List Linear) (done marks : List Bool) (row : Linear)
      → Walk all before numbers kept rows done (false ∷ marks) → Walk all (before ++ row ∷ []) (numbers ++ 0 ∷ []) kept rows (done ++ false ∷ []) marks
  next-left all before numbers kept rows done marks row w = record {
    stand = w.stand;
    marks_are = w.marks_are ∙ sym (append_assoc done (false ∷ []) marks);
    done_count = length-append done (false ∷ []) ∙ ap (λ n. n + 1) w.done_count ∙ sym (length-append before (row ∷ []));
    number_count = length-append numbers (0 ∷ []) ∙ ap (λ n. n + 1) w.number_count ∙ sym (length-append before (row ∷ []));
    correct = λ j x e f. go j x e (get-push before row j x f);
  }
    where
      go : (j : ℕ) (x : Linear) → get_or all j false ≡ true → ((j < length before) × (slice_get before j ≡ Some x)) ⊎ ((j ≡ length before) × (row ≡ x))
          → slice_get rows (get_or (numbers ++ 0 ∷ []) j 0) ≡ Some x
      go j x e (inl h) =
          ap (λ n. slice_get rows n) (number-before numbers 0 j (omega (arith, h.0, w.number_count))) ∙ w.correct j x e h.1
      go j x e (inr h) =
          let here : get_or all j false ≡ false =
          ap (λ n. get_or all n false) (h.0 ∙ sym w.done_count) ∙ ap (λ ms. get_or ms (length done) false) w.marks_are ∙ mark-last done false marks in
          cc

  -- steps that give rows, the last of which cannot hold
  pub record Kept (out : List Step) : Type 0 where
    pub rows : List Linear
    pub stand : Stand hyps goal vars out rows
    pub ends : EndsRefuted rows

  keep : (all : List Bool) (before : List Linear) (numbers : List ℕ) (kept : List Step) (rows : List Linear) (done marks : List Bool) (steps : List Step) (later : List Linear)
      → Walk all before numbers kept rows done marks → LinesGive hyps goal before (lines_meant hyps steps) later → AreProper vars later → AreMarked all marks steps
      → LastKept later marks → Kept (kept_onto kept numbers marks steps)
  unfolding kept_onto
  keep all before numbers kept rows done marks [] [] w g p m l = absurd l
  keep all before numbers kept rows done marks [] (r ∷ later) w g p m l = cc
  keep all before numbers kept rows done marks (s ∷ steps) [] w g p m l = absurd g
  keep all before numbers kept rows done [] (s ∷ steps) (r ∷ []) w g p m l = cc
  keep all before numbers kept rows done [] (s ∷ steps) (r ∷ r' ∷ later) w g p m l = absurd l
  keep all before numbers kept rows done (false ∷ marks) (s ∷ steps) (r ∷ []) w g p m l = cc
  keep all before numbers kept rows done (true ∷ marks) (s ∷ []) (r ∷ []) w g p m l =
      let gives = renumbered-gives all before numbers rows s r w.correct (m.0 refl) g.0 in
      record {
        rows = rows ++ r ∷ [];
        stand = stands-more hyps goal vars kept rows (renumbered numbers s) r w.stand gives g.1 p.0;
        ends = record { before = rows; last = r; rows_are = refl; refuted = l.1 };
      }
  keep all before numbers kept rows done (true ∷ marks) (s ∷ s' ∷ steps) (r ∷ []) w g p m l = absurd g.2
  keep all before numbers kept rows done (true ∷ marks) (s ∷ steps) (r ∷ r' ∷ later) w g p m l =
      let gives = renumbered-gives all before numbers rows s r w.correct (m.0 refl) g.0 in
      let stand = stands-more hyps goal vars kept rows (renumbered numbers s) r w.stand gives g.1 p.0 in
      keep all (before ++ r ∷ []) (numbers ++ length kept ∷ []) (kept ++ renumbered numbers s ∷ []) (rows ++ r ∷ []) (done ++ true ∷ []) marks steps (r' ∷ later)
      (next-kept all before numbers kept rows done marks s r w (m.0 refl) g.0 stand.given p.0 stand) g.2 p.1 m.1 l
  keep all before numbers kept rows done (false ∷ marks) (s ∷ steps) (r ∷ r' ∷ later) w g p m l =
      keep all (before ++ r ∷ []) (numbers ++ 0 ∷ []) kept rows (done ++ false ∷ []) marks steps (r' ∷ later)
      (next-left all before numbers kept rows done marks r w) g.2 p.1 m.1 l

  -- ---- the steps up to one

  take-gives : (k : ℕ) (before : List Linear) (steps : List Step) (rows : List Linear) → LinesGive hyps goal before (lines_meant hyps steps) rows
      → LinesGive hyps goal before (lines_meant hyps (take k steps)) (take k rows)
  take-gives zero before steps rows g = refl
  take-gives (suc k) before [] [] g = refl
  take-gives (suc k) before [] (r ∷ rows) g = cc
  take-gives (suc k) before (s ∷ steps) [] g = absurd g
  take-gives (suc k) before (s ∷ steps) (r ∷ rows) g = (g.0, g.1, take-gives k (before ++ r ∷ []) steps rows g.2)

  take-proper : (k : ℕ) (rows : List Linear) → AreProper vars rows → AreProper vars (take k rows)
  take-proper zero rows p = tt
  take-proper (suc k) [] p = tt
  take-proper (suc k) (r ∷ rows) p = (p.0, take-proper k rows p.1)

  last-kept : (k : ℕ) (rows : List Linear) (row : Linear) (marks : List Bool) → slice_get rows k ≡ Some row → IsRefutation row → length marks ≡ suc k
      → get_or marks k false ≡ true → LastKept (take (suc k) rows) marks
  last-kept k [] row marks e i l m = cc
  last-kept k (r ∷ rows) row [] e i l m = absurd (omega arith)
  last-kept zero (r ∷ rows) row (b ∷ []) e i l m = let same : r ≡ row = cc in (ap (λ c. c ∷ []) m, subst IsRefutation (sym same) i)
  last-kept zero (r ∷ rows) row (b ∷ c ∷ marks) e i l m = absurd (omega arith)
  last-kept (suc k) (r ∷ []) row (b ∷ marks) e i l m = cc
  last-kept (suc k) (r ∷ r' ∷ rows) row (b ∷ marks) e i l m = last-kept k (r' ∷ rows) row marks e i (omega arith) m

  take-length : (k : ℕ) (steps : List Step) → k < length steps → length (take (suc k) steps) ≡ suc k
  take-length k [] h = absurd (omega arith)
  take-length zero (s ∷ steps) h = refl
  take-length (suc k) (s ∷ steps) h = ap suc (take-length k steps (omega arith))

  kept-front : (front : List Step) (steps : List Step) (rows : List Linear) (line : ℕ) (row : Linear) → front ≡ take (suc line) steps → Stand hyps goal vars steps rows
      → slice_get rows line ≡ Some row → IsRefutation row → Kept (kept_onto [] [] (needed front line) front)
  kept-front front steps rows line row is s e i =
      let inside : line < length steps = omega (arith, slice_get_within rows line row e, stands-length hyps goal vars steps rows s) in
      let long : length front ≡ suc line = ap length is ∙ take-length line steps inside in
      let given : LinesGive hyps goal [] (lines_meant hyps front) (take (suc line) rows) =
      subst (λ (ss : List Step). LinesGive hyps goal [] (lines_meant hyps ss) (take (suc line) rows)) (sym is) (take-gives (suc line) [] steps rows s.given) in
      let before = earlier hyps goal [] front (take (suc line) rows) given in
      keep (needed front line) [] [] [] [] [] (needed front line) front (take (suc line) rows)
      (record {
        stand = record { given = refl; proper = tt };
        marks_are = refl;
        done_count = refl;
        number_count = refl;
        correct = λ j x m f. cc;
      }) given (take-proper (suc line) rows s.proper)
      (marked-all (needed front line) (needed front line) front (λ j h m. needed-marked front line j before h m))
      (last-kept line rows row (needed front line) e i (needed-length front line ∙ long) (needed-line front line (omega arith)))

  pub traced-proves : (steps : List Step) (rows : List Linear) (line : ℕ) (row : Linear) → Stand hyps goal vars steps rows → slice_get rows line ≡ Some row → IsRefutation row
      → length vars ≤ 64 → LinesProve hyps goal (lines_meant hyps (traced steps line))
  unfolding traced
  traced-proves steps rows line row s e i few =
      let next : line + 1 ≡ suc line = omega arith in
      let k = kept-front (take (line + 1) steps) steps rows line row (ap (λ n. take n steps) next) s e i in
      record { rows = k.rows; given = k.stand.given; few_variables = omega (arith, variables-few vars k.rows k.stand.proper, few); ends = k.ends }
