-- The rounds keep that steps give the rows of each system, so that what they end with is a row that cannot hold and that steps give.
use Rattle.std.proofs.Common.{◌≡◌, ℕ, zero, suc, ◌+◌, ◌*◌, ◌/◌, ◌%◌, ◌<◌, ◌≤◌, ℤ, pos, negsuc, ◌≤ℤ◌, ◌<ℤ◌, Bool, true, false, cond, ◌||◌, nat_lt, int_lt, unsigned_abs, List, [], ◌∷◌, ◌++◌, length, filter, get_or, Option, Some, None, Result, Ok, Err, slice_get, All, Contains, refl, sym, ◌∙◌, ap, subst, arith}
use Rattle.std.specs.List.{slice_index_or}
use Rattle.std.proofs.lemmas.Int.{ints}
use Rattle.std.proofs.Math.Nat.{mod-add-div'}
use Rattle.std.proofs.lemmas.Nat.Gcd.{le_of_dvd}
use Rattle.std.proofs.lemmas.List.{append_assoc, length-append}
use Rattle.std.proofs.lemmas.List.Elements.{All-contains, Contains-append_right}
use Rattle.xan_lin.specs.Linear.{Linear, IsForm, are_within}
use Rattle.xan_lin.specs.Subst.{zero_form}
use Rattle.xan_lin.specs.declared.term.Term.{Term}
use Rattle.xan_lin.specs.declared.term.LimitKind.{LimitKind}
use Rattle.xan_lin.specs.declared.term.LimitKind.TheVariants as limit
use Rattle.index_sorts.specs.Known.{no_terms}
use Rattle.proof_lines.specs.Rows.{opposite_of, IsRefutation}
use Rattle.proof_lines.specs.Lines.{IsSmall}
use Rattle.proof_lines.specs.Cells.{IsProper, are_among}
use Rattle.proof_lines.proofs.Proper.{both, join, proper-at, proper-combination}
use Rattle.solver_rows.specs.declared.step.Step.{Step}
use Rattle.solver_rows.specs.declared.step.Step.TheVariants as step
use Rattle.solver_rows.specs.declared.source.Source.{Source}
use Rattle.solver_rows.specs.declared.source.Source.TheVariants.{New}
use Rattle.solver_rows.specs.declared.source.Sign.{Sign}
use Rattle.solver_rows.specs.declared.source.Sign.TheVariants.{Positive, Negative, Zero}
use Rattle.linear_solver.specs.declared.choose.Look.{Look}
use Rattle.linear_solver.specs.declared.choose.Look.TheVariants.{Full, Refuted, Spent, Take}
use Rattle.linear_solver.specs.declared.choose.Choice.{Choice}
use Rattle.solver_rows.specs.Divisors.{gcd_within, gcd}
use Rattle.solver_rows.specs.SystemRows.{Row, linear_of, tight, coefficient, has_sign, first_by, second_by, line_of, sum_of_two, sum_source, size}
use Rattle.linear_solver.specs.Systems.{settle, reduced_onto, with_sign, limited, bounded, with_sum, and_then, with_sums, with_all_sums, next_rows}
use Rattle.linear_solver.specs.Choosing.{cannot_hold, refuted_by, best_from, refuted_or, look_at}
use Rattle.linear_solver.specs.Numbering.{numbered}
use Rattle.linear_solver.specs.Cone.{touches}
use Rattle.linear_solver.specs.Tracing.{traced}
use Rattle.linear_solver.specs.Elimination.{ended, after_look, after_rows, rounds, bears, with_hyps, first_rows}
use Rattle.solver_rows.proofs.Euclid.{gcd_is}
use Rattle.linear_solver.proofs.ConeClosure.{Closed}
use Rattle.linear_solver.proofs.Given.{Stand}
use Rattle.linear_solver.proofs.Sourced.{SourceGives, AreSourced, Given, AreGiven, tight-sourced, settle-sourced, numbers}

-- ---- multipliers are at least 1

within-positive : (n a b : ℕ) → 0 < a → 0 < gcd_within n a b
unfolding gcd_within
within-positive zero a b h = h
within-positive (suc n) a zero h = h
within-positive (suc n) a (suc b) h = within-positive n (suc b) (a % suc b) (omega arith)

one_part : (b g : ℕ) → 0 < g → g ≤ b → 1 ≤ b / g
one_part b g h k = go (b / g) refl
  where
    go : (q : ℕ) → b / g ≡ q → 1 ≤ q
    go zero e =
        let parts = mod-add-div' b g in
        let none : b / g * g ≡ 0 * g = ap (λ q. q * g) e in
        absurd (omega arith)
    go (suc q) e = omega arith

one_pos : (n : ℕ) → 1 ≤ n → pos 1 ≤ℤ pos n
one_pos n h = grind (arith, ints)

first-one : (a b : ℕ) → 0 < a → 0 < b → pos 1 ≤ℤ first_by a b
first-one a b h k = one_pos (b / gcd a b) (one_part b (gcd a b) (within-positive (suc b) a b h) (le_of_dvd k (gcd_is a b).1))

second-one : (a b : ℕ) → 0 < a → 0 < b → pos 1 ≤ℤ second_by a b
second-one a b h k = one_pos (a / gcd a b) (one_part a (gcd a b) (within-positive (suc b) a b h) (le_of_dvd h (gcd_is a b).0))

positive-size : (c : ℤ) → int_lt (pos 0) c ≡ true → 0 < unsigned_abs c
positive-size (pos zero) e = cc
positive-size (pos (suc n)) e = omega arith
positive-size (negsuc n) e = cc

negative-size : (c : ℤ) → int_lt c (pos 0) ≡ true → 0 < unsigned_abs c
negative-size (pos n) e = grind (arith, ints)
negative-size (negsuc n) e = omega arith

no_terms-none : (ts : List Term) → no_terms ts ≡ true → ts ≡ []
no_terms-none [] e = refl
no_terms-none (t ∷ ts) e = cc

below_zero : (c : ℤ) → int_lt c (pos 0) ≡ true → c <ℤ pos 0
below_zero c e = grind (arith, ints)

cannot-hold : (r : Row) → cannot_hold r ≡ true → IsRefutation (linear_of r)
cannot-hold r e =
    let parts = both (no_terms r.terms) (int_lt r.constant (pos 0)) e in
    record { no_variable = no_terms-none r.terms parts.0; negative = below_zero r.constant parts.1 }

at_middle : (before : List Linear) (row : Linear) (rest : List Linear) (d : Linear) → get_or (before ++ row ∷ rest) (length before) d ≡ row
at_middle [] row rest d = refl
at_middle (x ∷ before) row rest d = at_middle before row rest d

module _ (hyps : List Linear) (goal : Linear) (vars : List ℕ) where
  -- ---- the rows by the sign of a coefficient

  abbrev AreChosen : Sign → ℕ → List Linear → List Row → Type 0
  AreChosen sign var rows [] = Unit {0}
  AreChosen sign var rows (r ∷ rs) = Given hyps goal vars rows r × (has_sign sign var r ≡ true) × AreChosen sign var rows rs

  chosen : (sign : Sign) (var : ℕ) (rows : List Linear) (system : List Row) → AreGiven hyps goal vars rows system → AreChosen sign var rows (with_sign sign var system)
  unfolding with_sign
  chosen sign var rows [] a = tt
  chosen sign var rows (r ∷ system) a = go (has_sign sign var r) refl (chosen sign var rows system a.1)
    where
      go : (b : Bool) → has_sign sign var r ≡ b → AreChosen sign var rows (filter (has_sign sign var) system)
          → AreChosen sign var rows (cond b (r ∷ filter (has_sign sign var) system) (filter (has_sign sign var) system))
      go true e later = (a.0, e, later)
      go false e later = later

  row-at : (rows : List Linear) (r : Row) → Given hyps goal vars rows r → slice_get rows (line_of r.source) ≡ Some (linear_of r)
  row-at rows r g = ap (λ s. slice_get rows (line_of s)) g.source_is ∙ g.row_is

  again : (rows : List Linear) (r : Row) → Given hyps goal vars rows r → SourceGives hyps goal vars rows r.source (linear_of r)
  again rows r g = subst (λ (s : Source). SourceGives hyps goal vars rows s (linear_of r)) (sym g.source_is) g.row_is

  reduced-sourced : (rows : List Linear) (made : List Row) (sign : Sign) (var : ℕ) (system : List Row) → AreSourced hyps goal vars rows made → AreChosen sign var rows system
      → AreSourced hyps goal vars rows (reduced_onto made system)
  unfolding reduced_onto
  reduced-sourced rows made sign var [] s a = s
  reduced-sourced rows made sign var (r ∷ system) s a =
      reduced-sourced rows (settle made (tight r.source (linear_of r))) sign var system
      (settle-sourced hyps goal vars rows made (tight r.source (linear_of r)) s (tight-sourced hyps goal vars rows r.source (linear_of r) (again rows r a.0))) a.2

  -- ---- sums

  sum-gives : (steps : List Step) (rows : List Linear) (a b : ℕ) (p n : Row) → Stand hyps goal vars steps rows → Given hyps goal vars rows p → Given hyps goal vars rows n
      → 0 < a → 0 < b → are_within (sum_of_two a b p n).terms (sum_of_two a b p n).constant ≡ true
      → SourceGives hyps goal vars rows (sum_source a b p n) (sum_of_two a b p n)
  sum-gives steps rows a b p n s g h k l w =
      let at_p = row-at rows p g in
      let at_n = row-at rows n h in (
        record {
          left_row = linear_of p;
          right_row = linear_of n;
          left_is = at_p;
          right_is = at_n;
          left_positive = first-one a b k l;
          right_positive = second-one a b k l;
          row_is = refl;
        },
        w,
        proper-combination vars (first_by a b) (second_by a b) (linear_of p) (linear_of n)
            (proper-at vars rows (line_of p.source) (linear_of p) s.proper at_p) (proper-at vars rows (line_of n.source) (linear_of n) s.proper at_n),
      )

  limited-same : (rows out : List Row) → limited rows ≡ Ok out → rows ≡ out
  limited-same rows out e = go (nat_lt 2000 (length rows)) e
    where
      go : (b : Bool) → cond b (let r : Result (List Row) LimitKind = Err limit.System in r) (Ok rows) ≡ Ok out → rows ≡ out
      go true f = cc
      go false f = cc

  bounded-sourced : (rows : List Linear) (made out : List Row) (source : Source) (x : Linear) → AreSourced hyps goal vars rows made
      → (are_within x.terms x.constant ≡ true → SourceGives hyps goal vars rows source x) → bounded made source x ≡ Ok out → AreSourced hyps goal vars rows out
  bounded-sourced rows made out source x s g e = go (are_within x.terms x.constant) refl e
    where
      go : (b : Bool) → are_within x.terms x.constant ≡ b → cond b (limited (settle made (tight source x))) (Err limit.Magnitude) ≡ Ok out → AreSourced hyps goal vars rows out
      go true w f =
          subst (λ (rs : List Row). AreSourced hyps goal vars rows rs) (limited-same (settle made (tight source x)) out f)
          (settle-sourced hyps goal vars rows made (tight source x) s (tight-sourced hyps goal vars rows source x (g w)))
      go false w f = cc

  sum-sourced : (steps : List Step) (rows : List Linear) (var : ℕ) (p n : Row) (made out : List Row) → Stand hyps goal vars steps rows
      → Given hyps goal vars rows p → has_sign Positive var p ≡ true → Given hyps goal vars rows n → has_sign Negative var n ≡ true
      → AreSourced hyps goal vars rows made → with_sum var p n made ≡ Ok out → AreSourced hyps goal vars rows out
  unfolding with_sum
  sum-sourced steps rows var p n made out s g above h below m e =
      bounded-sourced rows made out (sum_source (size var p) (size var n) p n) (sum_of_two (size var p) (size var n) p n) m
      (sum-gives steps rows (size var p) (size var n) p n s g h (positive-size (coefficient var p.terms) above) (negative-size (coefficient var n.terms) below)) e

  sums-sourced : (steps : List Step) (rows : List Linear) (var : ℕ) (p : Row) (negative made out : List Row) → Stand hyps goal vars steps rows
      → Given hyps goal vars rows p → has_sign Positive var p ≡ true → AreChosen Negative var rows negative
      → AreSourced hyps goal vars rows made → with_sums var p negative made ≡ Ok out → AreSourced hyps goal vars rows out
  unfolding with_sums
  sums-sourced steps rows var p [] made out s g above c m e = let same : made ≡ out = cc in subst (λ (rs : List Row). AreSourced hyps goal vars rows rs) same m
  sums-sourced steps rows var p (n ∷ negative) made out s g above c m e =
      go (with_sum var p n made) refl e (λ next. sums-sourced steps rows var p negative next out s g above c.2)
    where
      go : (r : Result (List Row) LimitKind) → with_sum var p n made ≡ r → and_then r (λ next. with_sums var p negative next) ≡ Ok out
          → ((next : List Row) → AreSourced hyps goal vars rows next → with_sums var p negative next ≡ Ok out → AreSourced hyps goal vars rows out) → AreSourced hyps goal vars rows out
      go (Ok next) f k later = later next (sum-sourced steps rows var p n made next s g above c.0 c.1 m f) k
      go (Err kind) f k later = cc

  all-sourced : (steps : List Step) (rows : List Linear) (var : ℕ) (positive negative made out : List Row) → Stand hyps goal vars steps rows
      → AreChosen Positive var rows positive → AreChosen Negative var rows negative
      → AreSourced hyps goal vars rows made → with_all_sums var positive negative made ≡ Ok out → AreSourced hyps goal vars rows out
  unfolding with_all_sums
  all-sourced steps rows var [] negative made out s a c m e = let same : made ≡ out = cc in subst (λ (rs : List Row). AreSourced hyps goal vars rows rs) same m
  all-sourced steps rows var (p ∷ positive) negative made out s a c m e =
      go (with_sums var p negative made) refl e (λ next. all-sourced steps rows var positive negative next out s a.2 c)
    where
      go : (r : Result (List Row) LimitKind) → with_sums var p negative made ≡ r → and_then r (λ next. with_all_sums var positive negative next) ≡ Ok out
          → ((next : List Row) → AreSourced hyps goal vars rows next → with_all_sums var positive negative next ≡ Ok out → AreSourced hyps goal vars rows out) → AreSourced hyps goal vars rows out
      go (Ok next) f k later = later next (sums-sourced steps rows var p negative made next s a.0 a.1 c m f) k
      go (Err kind) f k later = cc

  next-sourced : (steps : List Step) (rows : List Linear) (var : ℕ) (system out : List Row) → Stand hyps goal vars steps rows → AreGiven hyps goal vars rows system
      → next_rows var system ≡ Ok out → AreSourced hyps goal vars rows out
  unfolding next_rows
  next-sourced steps rows var system out s a e =
      all-sourced steps rows var (with_sign Positive var system) (with_sign Negative var system) (reduced_onto [] (with_sign Zero var system)) out s
      (chosen Positive var rows system a) (chosen Negative var rows system a)
      (reduced-sourced rows [] Zero var (with_sign Zero var system) tt (chosen Zero var rows system a)) e

  -- ---- the rounds

  -- the steps lead to a row that cannot hold, which the step of a number gives
  pub record Refutes (out : List Step) : Type 0 where
    pub steps : List Step
    pub rows : List Linear
    pub line : ℕ
    pub row : Linear
    pub out_is : out ≡ traced steps line
    pub stand : Stand hyps goal vars steps rows
    pub row_is : slice_get rows line ≡ Some row
    pub refuted : IsRefutation row

  record Found (rows : List Linear) (line : ℕ) : Type 0 where
    row : Linear
    row_is : slice_get rows line ≡ Some row
    refuted : IsRefutation row

  found : (rows : List Linear) (system : List Row) (line : ℕ) → AreGiven hyps goal vars rows system → refuted_by system ≡ Some line → Found rows line
  unfolding refuted_by
  found rows [] line a e = cc
  found rows (r ∷ system) line a e = go (cannot_hold r) refl e (found rows system line a.1)
    where
      go : (b : Bool) → cannot_hold r ≡ b → cond b (Some (line_of r.source)) (refuted_by system) ≡ Some line → (refuted_by system ≡ Some line → Found rows line) → Found rows line
      go true h f later =
          let same : line_of r.source ≡ line = cc in
          record { row = linear_of r; row_is = ap (λ n. slice_get rows n) (sym same) ∙ row-at rows r a.0; refuted = cannot-hold r h }
      go false h f later = later f

  looked : (system : List Row) (line : ℕ) → look_at vars system ≡ Refuted line → refuted_by system ≡ Some line
  unfolding look_at
  looked system line e = go (nat_lt 2000 (length system)) (refuted_by system) (best_from system None vars) e
    where
      go : (b : Bool) (o : Option ℕ) (c : Option Choice) → cond b Full (refuted_or o c) ≡ Refuted line → o ≡ Some line
      go true o c f = cc
      go false (Some k) c f = let same : k ≡ line = cc in ap Some same
      go false None (Some c) f = cc
      go false None None f = cc

  ends : (steps : List Step) (rows : List Linear) (system : List Row) (out : List Step) (look : Look) → Stand hyps goal vars steps rows → AreGiven hyps goal vars rows system
      → look_at vars system ≡ look → ended steps look ≡ Ok out → Refutes out
  ends steps rows system out Full s a l e = cc
  ends steps rows system out (Refuted line) s a l e =
      let f = found rows system line a (looked system line l) in
      let same : traced steps line ≡ out = cc in
      record { steps = steps; rows = rows; line = line; row = f.row; out_is = sym same; stand = s; row_is = f.row_is; refuted = f.refuted }
  ends steps rows system out Spent s a l e = cc
  ends steps rows system out (Take v) s a l e = cc

  pub rounds-refute : (n : ℕ) (steps : List Step) (rows : List Linear) (system : List Row) (out : List Step) → Stand hyps goal vars steps rows → AreGiven hyps goal vars rows system
      → rounds n vars steps system ≡ Ok out → Refutes out
  unfolding rounds
  rounds-refute zero steps rows system out s a e = ends steps rows system out (look_at vars system) s a refl e
  rounds-refute (suc n) steps rows system out s a e =
      go (look_at vars system) refl e
      (λ made sourced. (let k = numbers hyps goal vars steps rows [] made s tt sourced in
      rounds-refute n (numbered steps [] made).steps k.rows (numbered steps [] made).rows out k.stand k.given))
    where
      taken : (var : ℕ) (r : Result (List Row) LimitKind) → next_rows var system ≡ r
          → after_rows r (λ made. rounds n vars (numbered steps [] made).steps (numbered steps [] made).rows) ≡ Ok out
          → ((made : List Row) → AreSourced hyps goal vars rows made → rounds n vars (numbered steps [] made).steps (numbered steps [] made).rows ≡ Ok out → Refutes out) → Refutes out
      taken var (Ok made) f k later = later made (next-sourced steps rows var system made s a f) k
      taken var (Err kind) f k later = cc

      go : (look : Look) → look_at vars system ≡ look
          → after_look steps look (λ var. after_rows (next_rows var system) (λ made. rounds n vars (numbered steps [] made).steps (numbered steps [] made).rows)) ≡ Ok out
          → ((made : List Row) → AreSourced hyps goal vars rows made → rounds n vars (numbered steps [] made).steps (numbered steps [] made).rows ≡ Ok out → Refutes out) → Refutes out
      go Full l f later = ends steps rows system out Full s a l f
      go (Refuted line) l f later = ends steps rows system out (Refuted line) s a l f
      go Spent l f later = ends steps rows system out Spent s a l f
      go (Take var) l f later = taken var (next_rows var system) refl f later

  -- ---- the first system

  proper-none : (row : Linear) → IsForm row → no_terms row.terms ≡ true → IsProper vars row
  proper-none row f e = record { rising = f.rising; placed = ap (are_among vars) (no_terms-none row.terms e) }

  hyp-proper : (row : Linear) → IsForm row → (touches vars row.terms ≡ true → are_among vars row.terms ≡ true) → bears vars row ≡ true → IsProper vars row
  hyp-proper row f closed e = go (no_terms row.terms) refl e
    where
      go : (b : Bool) → no_terms row.terms ≡ b → (b || touches vars row.terms) ≡ true → IsProper vars row
      go true h k = proper-none row f h
      go false h k = record { rising = f.rising; placed = closed k }

  form-small : (row : Linear) → IsForm row → IsSmall row
  form-small row f = join _ _ f.small f.small_constant

  hyps-sourced : (before rest : List Linear) (made : List Row) → hyps ≡ before ++ rest → All IsForm hyps → Closed vars rest → AreSourced hyps goal vars [] made
      → AreSourced hyps goal vars [] (with_hyps vars (length before) rest made)
  unfolding with_hyps
  hyps-sourced before [] made e forms c s = s
  hyps-sourced before (row ∷ rest) made e forms c s =
      let more : hyps ≡ (before ++ row ∷ []) ++ rest = e ∙ sym (append_assoc before (row ∷ []) rest) in
      let there : Contains hyps row = subst (λ (xs : List Linear). Contains xs row) (sym e) (Contains-append_right before (row ∷ rest) row (0, omega arith, refl)) in
      let form : IsForm row = All-contains IsForm hyps row forms there in
      let listed : slice_index_or hyps (length before) zero_form ≡ row = ap (λ xs. get_or xs (length before) zero_form) e ∙ at_middle before row rest zero_form in
      let next : length (before ++ row ∷ []) ≡ suc (length before) = length-append before (row ∷ []) ∙ plus-one (length before) in
      subst (λ (n : ℕ). AreSourced hyps goal vars [] (with_hyps vars n rest (cond (bears vars row) (settle made (tight (New (step.Hyp (length before))) row)) made))) next
      (hyps-sourced (before ++ row ∷ []) rest (cond (bears vars row) (settle made (tight (New (step.Hyp (length before))) row)) made) more forms c.1
      (go (bears vars row) refl there form listed))
    where
      plus-one : (n : ℕ) → n + 1 ≡ suc n
      plus-one n = omega arith

      go : (b : Bool) → bears vars row ≡ b → Contains hyps row → IsForm row → slice_index_or hyps (length before) zero_form ≡ row
          → AreSourced hyps goal vars [] (cond b (settle made (tight (New (step.Hyp (length before))) row)) made)
      go true b there form listed =
          settle-sourced hyps goal vars [] made (tight (New (step.Hyp (length before))) row) s
          (tight-sourced hyps goal vars [] (New (step.Hyp (length before))) row
          ((subst (λ (x : Linear). Contains hyps x) (sym listed) there, sym listed), form-small row form, hyp-proper row form c.0 b))
      go false b there form listed = s

  pub first-sourced : (start : Linear) → All IsForm hyps → Closed vars hyps → start ≡ opposite_of goal → IsSmall start → IsProper vars start
      → AreSourced hyps goal vars [] (first_rows vars hyps start)
  unfolding first_rows
  first-sourced start forms c is small proper =
      settle-sourced hyps goal vars [] (with_hyps vars 0 hyps []) (tight (New step.Goal) start) (hyps-sourced [] hyps [] refl forms c tt)
      (tight-sourced hyps goal vars [] (New step.Goal) start (is, small, proper))
