-- What holds of each row of a system holds of each row of the next one, where tightening and sums keep it.
use Rattle.std.proofs.Common.{◌≡◌, ℕ, ℤ, pos, Bool, true, false, cond, nat_lt, int_lt, List, [], ◌∷◌, ◌++◌, length, filter, map, Result, Ok, Err, refl, subst, arith}
use Rattle.std.specs.Ordering.{int_eq}
use Rattle.std.proofs.lemmas.Int.{ints}
use Rattle.std.proofs.lemmas.Bool.Decides.{nat_tests}
use Rattle.xan_lin.specs.Linear.{Linear, are_within}
use Rattle.xan_lin.specs.declared.term.Term.{Term}
use Rattle.xan_lin.specs.declared.term.LimitKind.{LimitKind}
use Rattle.xan_lin.specs.declared.term.LimitKind.TheVariants as limit
use Rattle.proof_lines.specs.Rows.{divides, divided_term, cut_of}
use Rattle.proof_lines.specs.Check.{is_positive}
use Rattle.solver_rows.specs.declared.step.Step.{Step}
use Rattle.solver_rows.specs.Divisors.{divisor}
use Rattle.solver_rows.specs.SystemRows.{Row, linear_of, row_of, divided_by, tight, same_terms, holds, coefficient, sum_of_two, sum_source, size}
use Rattle.linear_solver.specs.Systems.{placed, settle, reduced_onto, with_sign, limited, bounded, with_sum, and_then, with_sums, with_all_sums, next_rows}
use Rattle.linear_solver.specs.Numbering.{steps_with, line_with, at_line, numbered}
use Rattle.solver_rows.proofs.CommonDivisors.{divisor-divides}

-- the terms of each row are so
abbrev pub AreAll : (List Term → Type 0) → List Row → Type 0
AreAll P [] = Unit {0}
AreAll P (r ∷ rows) = P r.terms × AreAll P rows

-- terms over a number that divides them are so too
abbrev pub KeepsCuts : (List Term → Type 0) → Type 0
KeepsCuts P = (x : Linear) (by : ℤ) → is_positive by ≡ true → divides by x.terms ≡ true → P x.terms → P (map (divided_term by) x.terms)

pub all-each : (P Q : List Term → Type 0) (rows : List Row) → ((ts : List Term) → P ts → Q ts) → AreAll P rows → AreAll Q rows
all-each P Q [] f a = tt
all-each P Q (r ∷ rows) f a = (f r.terms a.0, all-each P Q rows f a.1)

-- ---- numbering

all-push : (P : List Term → Type 0) (rows : List Row) (r : Row) → AreAll P rows → P r.terms → AreAll P (rows ++ r ∷ [])
all-push P [] r a p = (p, tt)
all-push P (s ∷ rows) r a p = (a.0, all-push P rows r a.1 p)

pub numbered-all : (P : List Term → Type 0) (steps : List Step) (done rows : List Row) → AreAll P done → AreAll P rows → AreAll P (numbered steps done rows).rows
unfolding numbered
numbered-all P steps done [] d a = d
numbered-all P steps done (r ∷ rows) d a =
    numbered-all P (steps_with steps r.source r.by) (done ++ at_line (line_with steps r.source r.by) r ∷ []) rows
    (all-push P done (at_line (line_with steps r.source r.by) r) d a.0) a.1

-- ---- reducing

module _ (P : List Term → Type 0) (cut : KeepsCuts P) where
  divided-all : (g : ℕ) (source : _) (x : Linear) → P x.terms → (nat_lt 1 g ≡ true → divides (pos g) x.terms ≡ true) → P (divided_by g source x).terms
  divided-all g source x p d = go (nat_lt 1 g) refl
    where
      above : (g : ℕ) → nat_lt 1 g ≡ true → is_positive (pos g) ≡ true
      above g e = grind (arith, ints, nat_tests)

      go : (b : Bool) → nat_lt 1 g ≡ b → P (cond b (row_of source (pos g) (cut_of x (pos g))) (row_of source (pos 1) x)).terms
      go true e = cut x (pos g) (above g e) (d e) p
      go false e = p

  pub tight-all : (source : _) (x : Linear) → P x.terms → P (tight source x).terms
  unfolding tight
  tight-all source x p = divided-all (divisor x.terms) source x p (divisor-divides x.terms)

  placed-all : (made : List Row) (r : Row) → AreAll P made → P r.terms → AreAll P (placed made r)
  unfolding placed
  placed-all [] r a p = (p, tt)
  placed-all (m ∷ made) r a p = go (same_terms m.terms r.terms) (int_lt r.constant m.constant) (placed-all made r a.1 p)
    where
      go : (b c : Bool) → AreAll P (placed made r) → AreAll P (cond b (cond c r m ∷ made) (m ∷ placed made r))
      go true true later = (p, a.1)
      go true false later = a
      go false c later = (a.0, later)

  pub settle-all : (made : List Row) (r : Row) → AreAll P made → P r.terms → AreAll P (settle made r)
  unfolding settle
  settle-all made r a p = go (holds r)
    where
      go : (b : Bool) → AreAll P (cond b made (placed made r))
      go true = a
      go false = placed-all made r a p

  reduced-all : (made rows : List Row) → AreAll P made → AreAll P rows → AreAll P (reduced_onto made rows)
  unfolding reduced_onto
  reduced-all made [] a b = a
  reduced-all made (r ∷ rows) a b =
      reduced-all (settle made (tight r.source (linear_of r))) rows (settle-all made (tight r.source (linear_of r)) a (tight-all r.source (linear_of r) b.0)) b.1

  limited-all : (rows out : List Row) → AreAll P rows → limited rows ≡ Ok out → AreAll P out
  limited-all rows out a e = go (nat_lt 2000 (length rows)) e
    where
      go : (b : Bool) → cond b (let r : Result (List Row) LimitKind = Err limit.System in r) (Ok rows) ≡ Ok out → AreAll P out
      go true f = cc
      go false f = let same : rows ≡ out = cc in subst (λ (rs : List Row). AreAll P rs) same a

  bounded-all : (made out : List Row) (source : _) (x : Linear) → AreAll P made → P x.terms → bounded made source x ≡ Ok out → AreAll P out
  bounded-all made out source x a p e = go (are_within x.terms x.constant) e
    where
      go : (b : Bool) → cond b (limited (settle made (tight source x))) (Err limit.Magnitude) ≡ Ok out → AreAll P out
      go true f = limited-all (settle made (tight source x)) out (settle-all made (tight source x) a (tight-all source x p)) f
      go false f = cc

-- ---- the rows by a test

abbrev AreChosen : (List Term → Type 0) → (Row → Bool) → List Row → Type 0
AreChosen In is [] = Unit {0}
AreChosen In is (r ∷ rows) = (is r ≡ true) × In r.terms × AreChosen In is rows

chosen : (In : List Term → Type 0) (is : Row → Bool) (rows : List Row) → AreAll In rows → AreChosen In is (filter is rows)
chosen In is [] a = tt
chosen In is (r ∷ rows) a = go (is r) refl (chosen In is rows a.1)
  where
    go : (b : Bool) → is r ≡ b → AreChosen In is (filter is rows) → AreChosen In is (cond b (r ∷ filter is rows) (filter is rows))
    go true e later = (e, a.0, later)
    go false e later = later

-- the coefficient of the variable is above 0, below 0, and 0
abbrev pub has_positive : ℕ → Row → Bool
has_positive var r = int_lt (pos 0) (coefficient var r.terms)

abbrev pub has_negative : ℕ → Row → Bool
has_negative var r = int_lt (coefficient var r.terms) (pos 0)

abbrev pub has_none : ℕ → Row → Bool
has_none var r = int_eq (coefficient var r.terms) (pos 0)

-- ---- the next system

module _ (In P : List Term → Type 0) (cut : KeepsCuts P) (var : ℕ)
    (stays : (r : Row) → has_none var r ≡ true → In r.terms → P r.terms)
    (sums : (p n : Row) → has_positive var p ≡ true → has_negative var n ≡ true → In p.terms → In n.terms
    → P (sum_of_two (size var p) (size var n) p n).terms) where
  stay-all : (rows : List Row) → AreChosen In (has_none var) rows → AreAll P rows
  stay-all [] c = tt
  stay-all (r ∷ rows) c = (stays r c.0 c.1, stay-all rows c.2)

  sum-all : (p n : Row) (made out : List Row) → has_positive var p ≡ true → In p.terms → has_negative var n ≡ true → In n.terms → AreAll P made
      → with_sum var p n made ≡ Ok out → AreAll P out
  unfolding with_sum
  sum-all p n made out h i k j a e =
      bounded-all P cut made out (sum_source (size var p) (size var n) p n) (sum_of_two (size var p) (size var n) p n) a (sums p n h k i j) e

  sums-all : (p : Row) (negative made out : List Row) → has_positive var p ≡ true → In p.terms → AreChosen In (has_negative var) negative → AreAll P made
      → with_sums var p negative made ≡ Ok out → AreAll P out
  unfolding with_sums
  sums-all p [] made out h i c a e = let same : made ≡ out = cc in subst (λ (rs : List Row). AreAll P rs) same a
  sums-all p (n ∷ negative) made out h i c a e = go (with_sum var p n made) refl e (λ rows. sums-all p negative rows out h i c.2)
    where
      go : (r : Result (List Row) LimitKind) → with_sum var p n made ≡ r → and_then r (λ rows. with_sums var p negative rows) ≡ Ok out
          → ((rows : List Row) → AreAll P rows → with_sums var p negative rows ≡ Ok out → AreAll P out) → AreAll P out
      go (Ok rows) f k later = later rows (sum-all p n made rows h i c.0 c.1 a f) k
      go (Err kind) f k later = cc

  pairs-all : (positive negative made out : List Row) → AreChosen In (has_positive var) positive → AreChosen In (has_negative var) negative → AreAll P made
      → with_all_sums var positive negative made ≡ Ok out → AreAll P out
  unfolding with_all_sums
  pairs-all [] negative made out c d a e = let same : made ≡ out = cc in subst (λ (rs : List Row). AreAll P rs) same a
  pairs-all (p ∷ positive) negative made out c d a e = go (with_sums var p negative made) refl e (λ rows. pairs-all positive negative rows out c.2 d)
    where
      go : (r : Result (List Row) LimitKind) → with_sums var p negative made ≡ r → and_then r (λ rows. with_all_sums var positive negative rows) ≡ Ok out
          → ((rows : List Row) → AreAll P rows → with_all_sums var positive negative rows ≡ Ok out → AreAll P out) → AreAll P out
      go (Ok rows) f k later = later rows (sums-all p negative made rows c.0 c.1 d a f) k
      go (Err kind) f k later = cc

  pub next-all : (rows out : List Row) → AreAll In rows → next_rows var rows ≡ Ok out → AreAll P out
  unfolding next_rows with_sign
  next-all rows out a e =
      pairs-all (filter (has_positive var) rows) (filter (has_negative var) rows) (reduced_onto [] (filter (has_none var) rows)) out
      (chosen In (has_positive var) rows a) (chosen In (has_negative var) rows a)
      (reduced-all P cut [] (filter (has_none var) rows) tt (stay-all (filter (has_none var) rows) (chosen In (has_none var) rows a))) e
