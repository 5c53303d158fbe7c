-- The check answers Ok exactly where the lines prove the goal.
use Rattle.std.proofs.Common.{◌≡◌, ℕ, suc, ◌≤◌, ℤ, pos, ◌≤ℤ◌, ◌<ℤ◌, ◌&&◌, Bool, true, false, cond, nat_lt, int_lt, IsOk, List, [], ◌∷◌, ◌++◌, length, get_or, Option, Some, None, slice_get, Result, Ok, Err, Contains, refl, sym, ◌∙◌, ap, subst, arith}
use Rattle.std.proofs.lemmas.Int.{ints}
use Rattle.std.proofs.lemmas.Bool.Decides.{nat_tests}
use Rattle.std.proofs.lemmas.List.{append_assoc, append-nil}
use Rattle.std.proofs.lemmas.List.Folds.{list_any_at}
use Rattle.std.proofs.lemmas.Map.Views.{Contains-from_any}
use Rattle.xan_lin.specs.Linear.{Linear, are_within}
use Rattle.xan_lin.specs.declared.term.Term.{Term}
use Rattle.index_sorts.specs.Known.{same_form, no_terms}
use Rattle.index_sorts.proofs.KnownRows.{Decides-same_form}
use Rattle.proof_lines.specs.declared.line.Line.{Line}
use Rattle.proof_lines.specs.declared.line.Line.TheVariants.{Hyp, Goal, Comb, Cut}
use Rattle.proof_lines.specs.declared.bad_line.Why.{Why}
use Rattle.proof_lines.specs.declared.bad_line.BadLine.{BadLine}
use Rattle.proof_lines.specs.declared.bad_line.Why.TheVariants as why
use Rattle.proof_lines.specs.Rows.{opposite_of, combination_of, cut_of, divides, IsRefutation, is_refutation}
use Rattle.proof_lines.specs.Variables.{with_terms, with_rows, variables}
use Rattle.proof_lines.specs.Lines.{LineGives, IsSmall, LinesGive, EndsRefuted, LinesProve}
use Rattle.proof_lines.specs.Check.{is_listed, with_row, bounded, is_positive, row_given, ends_refuted, goes_on, checked_from, checked}
use Rattle.proof_lines.proofs.TermVariables.{with_rows-push, length-with_terms}
use Rattle.proof_lines.proofs.Proper.{both, join}

-- ---- what a row is that was given

pub record IsBounded (seen : List ℕ) (given row : Linear) : Type 0 where
  pub same : given ≡ row
  pub small : IsSmall row
  pub few : length (with_terms seen row.terms) ≤ 64

bounded_from : (seen : List ℕ) (given row : Linear) → bounded seen given ≡ Ok row → IsBounded seen given row
bounded_from seen given row e = go (are_within given.terms given.constant) (nat_lt 64 (length (with_terms seen given.terms))) refl refl e
  where
    go : (w m : Bool) → are_within given.terms given.constant ≡ w → nat_lt 64 (length (with_terms seen given.terms)) ≡ m
        → cond w (cond m (let r : Result Linear Why = Err why.Variables in r) (Ok given)) (Err why.TooLarge) ≡ Ok row → IsBounded seen given row
    go true false f g h =
        let same : given ≡ row = cc in
        let few : length (with_terms seen given.terms) ≤ 64 = grind (arith, nat_tests) in
        record { same = same; small = subst IsSmall same f; few = subst (λ (r : Linear). length (with_terms seen r.terms) ≤ 64) same few }
    go true true f g h = cc
    go false m f g h = cc

bounded_to : (seen : List ℕ) (row : Linear) → IsSmall row → length (with_terms seen row.terms) ≤ 64 → bounded seen row ≡ Ok row
bounded_to seen row small few =
    let enough : nat_lt 64 (length (with_terms seen row.terms)) ≡ false = grind (arith, nat_tests) in
    ap (λ b. cond b (cond (nat_lt 64 (length (with_terms seen row.terms))) (let r : Result Linear Why = Err why.Variables in r) (Ok row)) (Err why.TooLarge)) small
    ∙ ap (λ b. cond b (let r : Result Linear Why = Err why.Variables in r) (Ok row)) enough

-- the line gives the row, and it is bounded
pub record GivesBounded (hyps : List Linear) (goal : Linear) (rows : List Linear) (seen : List ℕ) (line : Line) (row : Linear) : Type 0 where
  pub gives : LineGives hyps goal rows line row
  pub small : IsSmall row
  pub few : length (with_terms seen row.terms) ≤ 64

chosen : (b : Bool) (answer : Result Linear Why) (reason : Why) (row : Linear) → cond b answer (Err reason) ≡ Ok row → (b ≡ true) × (answer ≡ Ok row)
chosen true answer reason row e = (refl, e)
chosen false answer reason row e = cc

-- a row at a place, and what comes of it
record At (found : Option Linear) (f : Linear → Result Linear Why) (row : Linear) : Type 0 where
  element : Linear
  is : found ≡ Some element
  then_is : f element ≡ Ok row

at_row : (found : Option Linear) (f : Linear → Result Linear Why) (row : Linear) → with_row found f ≡ Ok row → At found f row
at_row None f row e = cc
at_row (Some x) f row e = record { element = x; is = refl; then_is = e }

at_least_one : (n : ℤ) → is_positive n ≡ true → pos 1 ≤ℤ n
at_least_one n e = grind (arith, ints)

is_at_least_one : (n : ℤ) → pos 1 ≤ℤ n → is_positive n ≡ true
is_at_least_one n h = grind (arith, ints)

pub given_from : (hyps : List Linear) (goal : Linear) (rows : List Linear) (seen : List ℕ) (line : Line) (row : Linear)
    → row_given hyps goal rows seen line ≡ Ok row → GivesBounded hyps goal rows seen line row
unfolding row_given
given_from hyps goal rows seen (Hyp e) row h =
    let c = chosen (is_listed e hyps) (bounded seen e) why.NotInContext row h in
    let b = bounded_from seen e row c.1 in
    record { gives = (Contains-from_any (λ x y. (Decides-same_form x y).0) e hyps c.0, sym b.same); small = b.small; few = b.few }
given_from hyps goal rows seen Goal row h =
    let b = bounded_from seen (opposite_of goal) row h in
    record { gives = sym b.same; small = b.small; few = b.few }
given_from hyps goal rows seen (Comb left_by left right_by right) row h =
    let x = at_row (slice_get rows left) (λ x. with_row (slice_get rows right) (λ y.
    cond (is_positive left_by && is_positive right_by) (bounded seen (combination_of left_by x right_by y)) (Err why.Multiplier))) row h in
    let y = at_row (slice_get rows right) (λ y.
    cond (is_positive left_by && is_positive right_by) (bounded seen (combination_of left_by x.element right_by y)) (Err why.Multiplier)) row x.then_is in
    let c = chosen (is_positive left_by && is_positive right_by) (bounded seen (combination_of left_by x.element right_by y.element)) why.Multiplier row y.then_is in
    let positive = both (is_positive left_by) (is_positive right_by) c.0 in
    let b = bounded_from seen (combination_of left_by x.element right_by y.element) row c.1 in
    record {
      gives = record {
        left_row = x.element;
        right_row = y.element;
        left_is = x.is;
        right_is = y.is;
        left_positive = at_least_one left_by positive.0;
        right_positive = at_least_one right_by positive.1;
        row_is = sym b.same;
      };
      small = b.small;
      few = b.few;
    }
given_from hyps goal rows seen (Cut from by) row h =
    let x = at_row (slice_get rows from) (λ x.
    cond (is_positive by) (cond (divides by x.terms) (bounded seen (cut_of x by)) (Err why.NotDivisible)) (Err why.Multiplier)) row h in
    let c = chosen (is_positive by) (cond (divides by x.element.terms) (bounded seen (cut_of x.element by)) (Err why.NotDivisible)) why.Multiplier row x.then_is in
    let d = chosen (divides by x.element.terms) (bounded seen (cut_of x.element by)) why.NotDivisible row c.1 in
    let b = bounded_from seen (cut_of x.element by) row d.1 in
    record {
      gives = record { from_row = x.element; from_is = x.is; positive = at_least_one by c.0; divided = d.0; row_is = sym b.same };
      small = b.small;
      few = b.few;
    }

choose : (b : Bool) (answer : Result Linear Why) (reason : Why) → b ≡ true → cond b answer (Err reason) ≡ answer
choose b answer reason e = ap (λ c. cond c answer (Err reason)) e

listed : (e : Linear) (hyps : List Linear) → Contains hyps e → is_listed e hyps ≡ true
listed e hyps h = list_any_at (same_form e) hyps h.0 e h.1 ((Decides-same_form e (get_or hyps h.0 e)).1 (sym h.2))

-- a row that is equal to what was given
as_given : (seen : List ℕ) (given row : Linear) → row ≡ given → IsSmall row → length (with_terms seen row.terms) ≤ 64 → bounded seen given ≡ Ok row
as_given seen given row e small few =
    bounded_to seen given (subst IsSmall e small) (subst (λ (r : Linear). length (with_terms seen r.terms) ≤ 64) e few) ∙ ap (λ r. Ok r) (sym e)

pub given_to : (hyps : List Linear) (goal : Linear) (rows : List Linear) (seen : List ℕ) (line : Line) (row : Linear)
    → LineGives hyps goal rows line row → IsSmall row → length (with_terms seen row.terms) ≤ 64 → row_given hyps goal rows seen line ≡ Ok row
unfolding row_given
given_to hyps goal rows seen (Hyp e) row g small few =
    choose (is_listed e hyps) (bounded seen e) why.NotInContext (listed e hyps g.0) ∙ as_given seen e row g.1 small few
given_to hyps goal rows seen Goal row g small few = as_given seen (opposite_of goal) row g small few
given_to hyps goal rows seen (Comb left_by left right_by right) row g small few =
    let answer : Linear → Linear → Result Linear Why = λ x y. cond (is_positive left_by && is_positive right_by) (bounded seen (combination_of left_by x right_by y)) (Err why.Multiplier) in
    ap (λ found. with_row found (λ x. with_row (slice_get rows right) (λ y. answer x y))) g.left_is
    ∙ ap (λ found. with_row found (λ y. answer g.left_row y)) g.right_is
    ∙ choose (is_positive left_by && is_positive right_by) (bounded seen (combination_of left_by g.left_row right_by g.right_row)) why.Multiplier
    (join (is_positive left_by) (is_positive right_by) (is_at_least_one left_by g.left_positive) (is_at_least_one right_by g.right_positive))
    ∙ as_given seen (combination_of left_by g.left_row right_by g.right_row) row g.row_is small few
given_to hyps goal rows seen (Cut from by) row g small few =
    ap (λ found. with_row found (λ x. cond (is_positive by) (cond (divides by x.terms) (bounded seen (cut_of x by)) (Err why.NotDivisible)) (Err why.Multiplier))) g.from_is
    ∙ choose (is_positive by) (cond (divides by g.from_row.terms) (bounded seen (cut_of g.from_row by)) (Err why.NotDivisible)) why.Multiplier (is_at_least_one by g.positive)
    ∙ choose (divides by g.from_row.terms) (bounded seen (cut_of g.from_row by)) why.NotDivisible g.divided
    ∙ as_given seen (cut_of g.from_row by) row g.row_is small few

-- ---- the last row

refutation_from : (row : Linear) → is_refutation row ≡ true → IsRefutation row
refutation_from row e =
    let parts = both (no_terms row.terms) (int_lt row.constant (pos 0)) e in
    record { no_variable = none row.terms parts.0; negative = below row.constant parts.1 }
  where
    none : (ts : List Term) → no_terms ts ≡ true → ts ≡ []
    none [] e = refl
    none (t ∷ ts) e = cc

    below : (c : ℤ) → int_lt c (pos 0) ≡ true → c <ℤ pos 0
    below c e = grind (arith, ints)

refutation_to : (row : Linear) → IsRefutation row → is_refutation row ≡ true
refutation_to row r = join (no_terms row.terms) (int_lt row.constant (pos 0)) (ap no_terms r.no_variable) (below row.constant r.negative)
  where
    below : (c : ℤ) → c <ℤ pos 0 → int_lt c (pos 0) ≡ true
    below c h = grind (arith, ints)

ends_from : (rows : List Linear) → ends_refuted rows ≡ true → EndsRefuted rows
ends_from [] e = cc
ends_from (row ∷ []) e = record { before = []; last = row; rows_are = refl; refuted = refutation_from row e }
ends_from (a ∷ b ∷ rows) e =
    let r = ends_from (b ∷ rows) e in
    record { before = a ∷ r.before; last = r.last; rows_are = ap (λ rs. a ∷ rs) r.rows_are; refuted = r.refuted }

ends-push : (before : List Linear) (last : Linear) → ends_refuted (before ++ last ∷ []) ≡ is_refutation last
ends-push [] last = refl
ends-push (a ∷ []) last = refl
ends-push (a ∷ b ∷ before) last = ends-push (b ∷ before) last

ends_to : (rows : List Linear) → EndsRefuted rows → ends_refuted rows ≡ true
ends_to rows r = ap ends_refuted r.rows_are ∙ ends-push r.before r.last ∙ refutation_to r.last r.refuted

-- ---- all lines

record Proves (hyps : List Linear) (goal : Linear) (before : List Linear) (lines : List Line) : Type 0 where
  rows : List Linear
  given : LinesGive hyps goal before lines rows
  few : length (variables (before ++ rows)) ≤ 64
  ends : EndsRefuted (before ++ rows)

ended : (b : Bool) (bad : BadLine) → cond b (let r : Result (Unit {0}) BadLine = Ok tt in r) (Err bad) ≡ Ok tt → b ≡ true
ended true bad e = refl
ended false bad e = cc

proved_from : (hyps : List Linear) (goal : Linear) (at : ℕ) (before : List Linear) (lines : List Line) → length (variables before) ≤ 64
    → checked_from hyps goal at before lines ≡ Ok tt → Proves hyps goal before lines
unfolding checked_from
proved_from hyps goal at before [] few e = record {
  rows = [];
  given = refl;
  few = subst (λ (rs : List Linear). length (variables rs) ≤ 64) (sym (append-nil before)) few;
  ends = subst EndsRefuted (sym (append-nil before)) (ends_from before (ended (ends_refuted before) _ e));
}
proved_from hyps goal at before (line ∷ lines) few e =
    go (row_given hyps goal before (variables before) line) refl e
    (λ row few_more e. proved_from hyps goal (suc at) (before ++ row ∷ []) lines few_more e)
  where
    go : (answer : Result Linear Why) → row_given hyps goal before (variables before) line ≡ answer
        → goes_on at answer (λ row. checked_from hyps goal (suc at) (before ++ row ∷ []) lines) ≡ Ok tt
        → ((row : Linear) → length (variables (before ++ row ∷ [])) ≤ 64 → checked_from hyps goal (suc at) (before ++ row ∷ []) lines ≡ Ok tt → Proves hyps goal (before ++ row ∷ []) lines)
        → Proves hyps goal before (line ∷ lines)
    go (Err reason) f g later = cc
    go (Ok row) f g later =
        let b = given_from hyps goal before (variables before) line row f in
        let few_with : length (with_terms (variables before) row.terms) ≤ 64 = b.few in
        let few_more : length (variables (before ++ row ∷ [])) ≤ 64 = omega (arith, ap length (with_rows-push [] before row)) in
        let r = later row few_more g in
        let joined : (before ++ row ∷ []) ++ r.rows ≡ before ++ row ∷ r.rows = append_assoc before (row ∷ []) r.rows in
        record {
          rows = row ∷ r.rows;
          given = (b.gives, b.small, r.given);
          few = subst (λ (rs : List Linear). length (variables rs) ≤ 64) joined r.few;
          ends = subst EndsRefuted joined r.ends;
        }

length-with_rows : (vs : List ℕ) (rows : List Linear) → length vs ≤ length (with_rows vs rows)
unfolding with_rows
length-with_rows vs [] = omega arith
length-with_rows vs (row ∷ rows) = omega (arith, length-with_terms vs row.terms, length-with_rows (with_terms vs row.terms) rows)

with_rows-append : (vs : List ℕ) (rows more : List Linear) → with_rows vs (rows ++ more) ≡ with_rows (with_rows vs rows) more
unfolding with_rows
with_rows-append vs [] more = refl
with_rows-append vs (row ∷ rows) more = with_rows-append (with_terms vs row.terms) rows more

proved_to : (hyps : List Linear) (goal : Linear) (at : ℕ) (before : List Linear) (lines : List Line) (rows : List Linear)
    → LinesGive hyps goal before lines rows → length (variables (before ++ rows)) ≤ 64 → EndsRefuted (before ++ rows)
    → checked_from hyps goal at before lines ≡ Ok tt
unfolding checked_from
proved_to hyps goal at before [] rows given few ends =
    let none : before ++ rows ≡ before = ap (λ rs. before ++ rs) given ∙ append-nil before in
    ap (λ b. cond b (let r : Result (Unit {0}) BadLine = Ok tt in r) (Err (record { at = at; why = why.NotRefuted }))) (ends_to before (subst EndsRefuted none ends))
proved_to hyps goal at before (line ∷ lines) [] given few ends = absurd given
proved_to hyps goal at before (line ∷ lines) (row ∷ rows) given few ends =
    let joined : (before ++ row ∷ []) ++ rows ≡ before ++ row ∷ rows = append_assoc before (row ∷ []) rows in
    let few_joined : length (variables ((before ++ row ∷ []) ++ rows)) ≤ 64 = omega (arith, ap (λ rs. length (variables rs)) joined) in
    let first : length (with_terms (variables before) row.terms) ≤ 64 =
    omega (arith, ap length (with_rows-append [] (before ++ row ∷ []) rows), ap length (with_rows-push [] before row), length-with_rows (variables (before ++ row ∷ [])) rows) in
    ap (λ answer. goes_on at answer (λ r. checked_from hyps goal (suc at) (before ++ r ∷ []) lines)) (given_to hyps goal before (variables before) line row given.0 given.1 first)
    ∙ proved_to hyps goal (suc at) (before ++ row ∷ []) lines rows given.2 few_joined (subst EndsRefuted (sym joined) ends)

no_variables : length (variables []) ≤ 64
unfolding with_rows
no_variables = omega arith

-- the check is Ok where the lines prove the goal, and only there
pub Decides-checked : (hyps : List Linear) (goal : Linear) (lines : List Line) → (checked hyps goal lines ≡ Ok tt → LinesProve hyps goal lines) × (LinesProve hyps goal lines → checked hyps goal lines ≡ Ok tt)
Decides-checked hyps goal lines = (
  λ e. (let r = proved_from hyps goal 0 [] lines no_variables e in record { rows = r.rows; given = r.given; few_variables = r.few; ends = r.ends }),
  λ p. proved_to hyps goal 0 [] lines p.rows p.given p.few_variables p.ends,
)

-- the same of an answer
pub Decides-answer : (hyps : List Linear) (goal : Linear) (lines : List Line) (answer : Result (Unit {0}) BadLine) → answer ≡ checked hyps goal lines
    → (IsOk answer → LinesProve hyps goal lines) × (LinesProve hyps goal lines → IsOk answer)
Decides-answer hyps goal lines (Ok tt) e = (λ _. (Decides-checked hyps goal lines).0 (sym e), λ _. refl)
Decides-answer hyps goal lines (Err bad) e = (λ h. cc, λ p. (let ok = (Decides-checked hyps goal lines).1 p in cc))
