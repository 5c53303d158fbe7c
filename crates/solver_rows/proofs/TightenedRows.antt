-- The terms of a tightened row rise and stay within the bound.
use Rattle.std.proofs.Common.{◌≡◌, ℕ, ◌<◌, ℤ, pos, ◌<ℤ◌, ◌+◌, Bool, true, false, cond, nat_lt, int_le, List, [], ◌∷◌, length, map, refl, sym, ◌∙◌, ap, subst, arith}
use Rattle.std.proofs.lemmas.Int.{ints}
use Rattle.std.proofs.lemmas.Bool.Decides.{nat_tests}
use Rattle.xan_lin.specs.Terms.{IsRising}
use Rattle.xan_lin.specs.Linear.{Linear, is_within, all_within}
use Rattle.xan_lin.specs.declared.term.Term.{Term}
use Rattle.xan_lin.proofs.Booleans.{less}
use Rattle.proof_lines.specs.Rows.{divides, divided_term, floor_over, cut_of}
use Rattle.proof_lines.specs.Variables.{with_terms}
use Rattle.proof_lines.specs.Check.{is_positive}
use Rattle.proof_lines.proofs.Proper.{both, join, placed-with_terms, proper-cut}
use Rattle.proof_lines.proofs.Quotients.{cut-small}
use Rattle.solver_rows.specs.Divisors.{divisor}
use Rattle.solver_rows.specs.SystemRows.{row_of, divided_by, tight}
use Rattle.solver_rows.specs.RowsInCells.{AreRising, sparse, linear_in}
use Rattle.solver_rows.specs.declared.source.Source.{Source}
use Rattle.solver_rows.proofs.CommonDivisors.{divisor-divides}
use Rattle.solver_rows.proofs.Lowest.{lowest}
use Rattle.solver_rows.proofs.Sparse.{sparse-divided, linear-rising}

pub not_one : (n : ℤ) → int_le n (pos 1) ≡ false → pos 1 <ℤ n
not_one n e = grind (arith, ints)

above : (g : ℕ) → pos 1 <ℤ pos g → (1 < g) × (is_positive (pos g) ≡ true)
above g h = (omega (arith, ints), grind (arith, ints))

divided_terms : (ts : List Term) (by : ℤ) → by ≡ pos (divisor ts) → pos 1 <ℤ by → IsRising 0 ts → all_within ts ≡ true
    → IsRising 0 (map (divided_term by) ts) × (all_within (map (divided_term by) ts) ≡ true)
divided_terms ts by e h r w =
    let big = above (divisor ts) (subst (λ (n : ℤ). pos 1 <ℤ n) e h) in
    let positive : is_positive by ≡ true = ap is_positive e ∙ big.1 in
    let divided : divides by ts ≡ true = ap (λ n. divides n ts) e ∙ divisor-divides ts (less 1 (divisor ts) big.0) in
    let x : Linear = record { terms = ts; constant = pos 0 } in
    let columns = with_terms [] ts in (
      (proper-cut columns x by positive divided (record { rising = r; placed = placed-with_terms [] ts })).rising,
      (both (all_within (map (divided_term by) ts)) _ (cut-small x by positive (join (all_within ts) (is_within (pos 0)) w refl))).0,
    )

-- ---- rows in cells

both_ways : (g : ℕ) → int_le (pos g) (pos 1) ≡ true → nat_lt 1 g ≡ true → ⊥
both_ways g e f = grind (arith, ints, nat_tests)

untouched : (g : ℕ) (source : Source) (x : Linear) → int_le (pos g) (pos 1) ≡ true → row_of source (pos 1) x ≡ divided_by g source x
untouched g source x e = go (nat_lt 1 g) refl
  where
    go : (b : Bool) → nat_lt 1 g ≡ b → row_of source (pos 1) x ≡ cond b (row_of source (pos g) (cut_of x (pos g))) (row_of source (pos 1) x)
    go true f = absurd (both_ways g e f)
    go false f = refl

divided-whole : (g : ℕ) (source : Source) (x : Linear) → 1 < g → row_of source (pos g) (cut_of x (pos g)) ≡ divided_by g source x
divided-whole g source x h = sym (ap (λ b. cond b (row_of source (pos g) (cut_of x (pos g))) (row_of source (pos 1) x)) (less 1 g h))

pub stays_tight : (vars : List ℕ) (cells : List ℤ) (source : Source) (by same : ℤ) → by ≡ pos (divisor (linear_in vars cells).terms) → same ≡ by → int_le same (pos 1) ≡ true
    → row_of source (pos 1) (linear_in vars cells) ≡ tight source (linear_in vars cells)
unfolding tight
stays_tight vars cells source by same e s low =
    untouched (divisor (linear_in vars cells).terms) source (linear_in vars cells) (ap (λ n. int_le n (pos 1)) (sym e ∙ sym s) ∙ low)

linear-divided : (vars : List ℕ) (cells : List ℤ) → length cells ≡ length vars + 1 → 1 < divisor (linear_in vars cells).terms
    → linear_in vars (map (λ cell. floor_over cell (pos (divisor (linear_in vars cells).terms))) cells) ≡ cut_of (linear_in vars cells) (pos (divisor (linear_in vars cells).terms))
linear-divided vars [] e h = absurd (omega arith)
linear-divided vars (c ∷ cells) e h =
    let d = divisor (sparse vars cells) in
    let big = above d (omega (arith, ints)) in
    ap (λ ts. let l : Linear = record { terms = ts; constant = floor_over c (pos d) } in l)
    (sym (sparse-divided vars cells d (omega arith) big.1 (divisor-divides (sparse vars cells) (less 1 d h))))

-- the row over its divisor
pub record IsDivided (vars : List ℕ) (made : List ℤ) (source : Source) (by : ℤ) (x : Linear) : Type 0 where
  pub row : row_of source by (linear_in vars made) ≡ tight source x
  pub small : all_within (linear_in vars made).terms ≡ true
  pub lowest : nat_lt 1 (divisor (linear_in vars made).terms) ≡ false

pub gets_tight : (vars : List ℕ) (cells made : List ℤ) (source : Source) (by same : ℤ) → length cells ≡ length vars + 1 → AreRising 0 vars
    → by ≡ pos (divisor (linear_in vars cells).terms) → same ≡ by → pos 1 <ℤ same → all_within (linear_in vars cells).terms ≡ true
    → made ≡ map (λ cell. floor_over cell same) cells → IsDivided vars made source same (linear_in vars cells)
unfolding tight
gets_tight vars cells made source by same wide rising e s high small made_is =
    let d = divisor (linear_in vars cells).terms in
    let all : same ≡ pos d = s ∙ e in
    let big = above d (subst (λ (n : ℤ). pos 1 <ℤ n) all high) in
    let made_all : made ≡ map (λ cell. floor_over cell (pos d)) cells = made_is ∙ ap (λ n. map (λ cell. floor_over cell n) cells) all in
    let linear : linear_in vars made ≡ cut_of (linear_in vars cells) (pos d) = ap (linear_in vars) made_all ∙ linear-divided vars cells wide big.0 in
    record {
      row = ap (λ n. row_of source n (linear_in vars made)) all ∙ ap (λ x. row_of source (pos d) x) linear ∙ divided-whole d source (linear_in vars cells) big.0;
      small = ap (λ x. all_within x.terms) linear
          ∙ (divided_terms (linear_in vars cells).terms (pos d) refl (subst (λ (n : ℤ). pos 1 <ℤ n) all high) (linear-rising vars cells rising) small).1;
      lowest = ap (λ x. nat_lt 1 (divisor x.terms)) linear ∙ lowest (linear_in vars cells).terms (less 1 d big.0);
    }

-- what is not divided has no common divisor
pub not_above : (vars : List ℕ) (cells : List ℤ) (by same : ℤ) → by ≡ pos (divisor (linear_in vars cells).terms) → same ≡ by → int_le same (pos 1) ≡ true
    → nat_lt 1 (divisor (linear_in vars cells).terms) ≡ false
not_above vars cells by same e s low = go (nat_lt 1 (divisor (linear_in vars cells).terms)) refl
  where
    go : (b : Bool) → nat_lt 1 (divisor (linear_in vars cells).terms) ≡ b → b ≡ false
    go true f = absurd (both_ways (divisor (linear_in vars cells).terms) (ap (λ n. int_le n (pos 1)) (sym e ∙ sym s) ∙ low) f)
    go false f = refl
