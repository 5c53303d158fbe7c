-- How many of the variables a system has, and that each round makes them fewer.
use Rattle.std.proofs.Common.{◌≡◌, ℕ, ◌+◌, ◌<◌, ◌≤◌, ℤ, pos, ◌==◌, Bool, true, false, ◌||◌, List, [], ◌∷◌, length, Ok, refl, ◌∙◌, ap, arith}
use Rattle.std.specs.List.{list_all}
use Rattle.std.specs.Ordering.{int_eq}
use Rattle.std.proofs.lemmas.Bool.Decides.{Decides-int_eq}
use Rattle.xan_lin.specs.Terms.{IsRising}
use Rattle.proof_lines.specs.Variables.{is_among}
use Rattle.proof_lines.proofs.Different.{same_number}
use Rattle.proof_lines.proofs.Proper.{both, join}
use Rattle.solver_rows.specs.SystemRows.{Row, coefficient, first_by, second_by, sum_of_two, size}
use Rattle.linear_solver.specs.Systems.{next_rows}
use Rattle.solver_rows.specs.declared.step.Step.{Step}
use Rattle.linear_solver.specs.Numbering.{numbered}
use Rattle.elimination_rounds.proofs.ZeroCoefficients.{Lacks, lacks-cut, lacks-sum, lacks-taken}
use Rattle.elimination_rounds.proofs.RoundRows.{AreAll, has_positive, has_negative, has_none, all-each, numbered-all, next-all}

abbrev pub AreRising : List Row → Type 0
AreRising rows = AreAll (IsRising 0) rows

-- no row has the variable
pub lacks : ℕ → List Row → Bool
lacks v rows = list_all (λ r. int_eq (coefficient v r.terms) (pos 0)) rows

none_is : (c : ℤ) → int_eq c (pos 0) ≡ true → c ≡ pos 0
none_is c e = (Decides-int_eq c (pos 0)).0 e

is_none : (c : ℤ) → c ≡ pos 0 → int_eq c (pos 0) ≡ true
is_none c e = (Decides-int_eq c (pos 0)).1 e

lacks-all : (v : ℕ) (rows : List Row) → AreRising rows → lacks v rows ≡ true → AreAll (Lacks v) rows
unfolding lacks
lacks-all v [] a e = tt
lacks-all v (r ∷ rows) a e =
    let parts = both (int_eq (coefficient v r.terms) (pos 0)) (lacks v rows) e in
    (record { rising = a.0; none = none_is (coefficient v r.terms) parts.0 }, lacks-all v rows a.1 parts.1)

all-lacks : (v : ℕ) (rows : List Row) → AreAll (Lacks v) rows → lacks v rows ≡ true
unfolding lacks
all-lacks v [] a = refl
all-lacks v (r ∷ rows) a = join (int_eq (coefficient v r.terms) (pos 0)) (lacks v rows) (is_none (coefficient v r.terms) a.0.none) (all-lacks v rows a.1)

pub none-all : (v : ℕ) (rows : List Row) → lacks v rows ≡ true → AreAll (λ ts. coefficient v ts ≡ pos 0) rows
unfolding lacks
none-all v [] e = tt
none-all v (r ∷ rows) e = let parts = both (int_eq (coefficient v r.terms) (pos 0)) (lacks v rows) e in (none_is (coefficient v r.terms) parts.0, none-all v rows parts.1)

all-none : (v : ℕ) (rows : List Row) → AreAll (λ ts. coefficient v ts ≡ pos 0) rows → lacks v rows ≡ true
unfolding lacks
all-none v [] a = refl
all-none v (r ∷ rows) a = join (int_eq (coefficient v r.terms) (pos 0)) (lacks v rows) (is_none (coefficient v r.terms) a.0) (all-none v rows a.1)

-- ---- the next system

pub next-taken : (var : ℕ) (rows made : List Row) → AreRising rows → next_rows var rows ≡ Ok made → AreAll (Lacks var) made
next-taken var rows made a e = next-all (IsRising 0) (Lacks var) (lacks-cut var) var stays sums rows made a e
  where
    stays : (r : Row) → has_none var r ≡ true → IsRising 0 r.terms → Lacks var r.terms
    stays r h i = record { rising = i; none = none_is (coefficient var r.terms) h }

    sums : (p n : Row) → has_positive var p ≡ true → has_negative var n ≡ true → IsRising 0 p.terms → IsRising 0 n.terms
        → Lacks var (sum_of_two (size var p) (size var n) p n).terms
    sums p n h k i j = lacks-taken var p.terms n.terms i j h k

pub next-rising : (var : ℕ) (rows made : List Row) → AreRising rows → next_rows var rows ≡ Ok made → AreRising made
next-rising var rows made a e = all-each (Lacks var) (IsRising 0) made (λ ts l. l.rising) (next-taken var rows made a e)

next-lacks : (v var : ℕ) (rows made : List Row) → AreRising rows → next_rows var rows ≡ Ok made → lacks v rows ≡ true → lacks v made ≡ true
next-lacks v var rows made a e h =
    all-lacks v made (next-all (Lacks v) (Lacks v) (lacks-cut v) var (λ r k l. l)
    (λ p n k j l m. lacks-sum v (first_by (size var p) (size var n)) (second_by (size var p) (size var n)) p.terms n.terms l m) rows made (lacks-all v rows a h) e)

-- ---- how many there are

one_unless : Bool → ℕ
one_unless true = 0
one_unless false = 1

-- the variables that some row has
pub left : List ℕ → List Row → ℕ
left [] rows = 0
left (v ∷ vars) rows = one_unless (lacks v rows) + left vars rows

fewer-one : (a b : Bool) → (a ≡ true → b ≡ true) → one_unless b ≤ one_unless a
unfolding one_unless
fewer-one true true h = omega arith
fewer-one true false h = let e = h refl in cc
fewer-one false true h = omega arith
fewer-one false false h = omega arith

one-less : (a b : Bool) → a ≡ false → b ≡ true → one_unless b < one_unless a
unfolding one_unless
one-less true b e f = cc
one-less false true e f = omega arith
one-less false false e f = cc

at_most_one : (b : Bool) → one_unless b ≤ 1
unfolding one_unless
at_most_one true = omega arith
at_most_one false = omega arith

pub left-most : (vars : List ℕ) (rows : List Row) → left vars rows ≤ length vars
unfolding left
left-most [] rows = omega arith
left-most (v ∷ vars) rows = omega (arith, at_most_one (lacks v rows), left-most vars rows)

fewer-left : (vars : List ℕ) (rows made : List Row) → ((v : ℕ) → lacks v rows ≡ true → lacks v made ≡ true) → left vars made ≤ left vars rows
unfolding left
fewer-left [] rows made f = omega arith
fewer-left (v ∷ vars) rows made f = omega (arith, fewer-one (lacks v rows) (lacks v made) (f v), fewer-left vars rows made f)

less-left : (var : ℕ) (vars : List ℕ) (rows made : List Row) → ((v : ℕ) → lacks v rows ≡ true → lacks v made ≡ true) → lacks var rows ≡ false → lacks var made ≡ true
    → is_among var vars ≡ true → left vars made < left vars rows
unfolding left
less-left var [] rows made f h k i = cc
less-left var (v ∷ vars) rows made f h k i = go (v == var) refl i (less-left var vars rows made f h k)
  where
    go : (b : Bool) → (v == var) ≡ b → (b || is_among var vars) ≡ true → (is_among var vars ≡ true → left vars made < left vars rows)
        → one_unless (lacks v made) + left vars made < one_unless (lacks v rows) + left vars rows
    go true e j later =
        let same = same_number v var e in
        let less = one-less (lacks v rows) (lacks v made) (ap (λ w. lacks w rows) same ∙ h) (ap (λ w. lacks w made) same ∙ k) in
        omega (arith, less, fewer-left vars rows made f)
    go false e j later = omega (arith, fewer-one (lacks v rows) (lacks v made) (f v), later j)

-- ---- a variable that is taken is one of them, and some row has it

pub record Taken (vars : List ℕ) (rows : List Row) (v : ℕ) : Type 0 where
  pub among : is_among v vars ≡ true
  pub had : lacks v rows ≡ false

pub fewer-next : (vars : List ℕ) (var : ℕ) (rows made : List Row) → AreRising rows → Taken vars rows var → next_rows var rows ≡ Ok made
    → left vars made < left vars rows
fewer-next vars var rows made a t e =
    less-left var vars rows made (λ v h. next-lacks v var rows made a e h) t.had (all-lacks var made (next-taken var rows made a e)) t.among

-- numbering leaves the terms as they are
pub left-numbered : (vars : List ℕ) (steps : List Step) (made : List Row) → left vars (numbered steps [] made).rows ≤ left vars made
left-numbered vars steps made = fewer-left vars made (numbered steps [] made).rows (λ v h. all-none v (numbered steps [] made).rows
    (numbered-all (λ ts. coefficient v ts ≡ pos 0) steps [] made tt (none-all v made h)))

-- where none are left, none is taken
pub none-taken : (vars : List ℕ) (var : ℕ) (rows : List Row) → Taken vars rows var → 0 < left vars rows
unfolding lacks
none-taken vars var rows t = let less = less-left var vars rows [] (λ v k. refl) t.had refl t.among in omega (arith, less)
