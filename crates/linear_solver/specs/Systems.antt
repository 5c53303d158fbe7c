-- Systems of rows: how a list of rows is reduced, and what the next system is.
use Rattle.std.specs.Prelude.{ℕ, List, [], ◌∷◌, length, filter, nat_lt, int_lt, Result, Ok, Err, if◌then◌else◌}
use Rattle.xan_lin.specs.Linear.{Linear, are_within}
use Rattle.xan_lin.specs.declared.term.LimitKind.{LimitKind}
use Rattle.xan_lin.specs.declared.term.LimitKind.TheVariants as limit
use Rattle.solver_rows.specs.declared.source.Source.{Source}
use Rattle.solver_rows.specs.declared.source.Sign.{Sign}
use Rattle.solver_rows.specs.declared.source.Sign.TheVariants.{Positive, Negative, Zero}
use Rattle.solver_rows.specs.SystemRows.{Row, linear_of, tight, same_terms, holds, has_sign, sum_of_two, sum_source, size}

-- ---- reducing

-- of two rows with equal coefficients the one with the least constant, and of equal rows the first
abbrev pub lesser : Row → Row → Row
lesser first next = if int_lt next.constant first.constant then next else first

-- the rows with one more, which takes the place of one with equal coefficients where its constant is less
unfoldable pub placed : List Row → Row → List Row
placed [] r = r ∷ []
placed (s ∷ rows) r = if same_terms s.terms r.terms then lesser s r ∷ rows else s ∷ placed rows r

-- the same, where a row that holds in any case is dropped
unfoldable pub settle : List Row → Row → List Row
settle rows r = if holds r then rows else placed rows r

-- reduced rows with more rows in order, each tightened
unfoldable pub reduced_onto : List Row → List Row → List Row
reduced_onto made [] = made
reduced_onto made (r ∷ rows) = reduced_onto (settle made (tight r.source (linear_of r))) rows

-- ---- the rows by the coefficient of a variable

unfoldable pub with_sign : Sign → ℕ → List Row → List Row
with_sign sign var rows = filter (has_sign sign var) rows

-- ---- the next system

-- the limit of the rows of a system
abbrev pub limited : List Row → Result (List Row) LimitKind
limited rows = if nat_lt 2000 (length rows) then Err limit.System else Ok rows

-- the rows with one more, whose numbers must be within the bound before it is tightened
abbrev pub bounded : List Row → Source → Linear → Result (List Row) LimitKind
bounded made source x = if are_within x.terms x.constant then limited (settle made (tight source x)) else Err limit.Magnitude

-- the rows with the sum of two
unfoldable pub with_sum : ℕ → Row → Row → List Row → Result (List Row) LimitKind
with_sum var p n made = bounded made (sum_source (size var p) (size var n) p n) (sum_of_two (size var p) (size var n) p n)

abbrev pub and_then : Result (List Row) LimitKind → (List Row → Result (List Row) LimitKind) → Result (List Row) LimitKind
and_then (Ok rows) f = f rows
and_then (Err kind) f = Err kind

-- the rows with the sums of one positive row and each of the negative ones
unfoldable pub with_sums : ℕ → Row → List Row → List Row → Result (List Row) LimitKind
with_sums var p [] made = Ok made
with_sums var p (n ∷ negative) made = and_then (with_sum var p n made) (λ rows. with_sums var p negative rows)

-- the rows with the sums of each positive row and each negative one
unfoldable pub with_all_sums : ℕ → List Row → List Row → List Row → Result (List Row) LimitKind
with_all_sums var [] negative made = Ok made
with_all_sums var (p ∷ positive) negative made = and_then (with_sums var p negative made) (λ rows. with_all_sums var positive negative rows)

-- the rows without the variable, and then the sums of two that have it
unfoldable pub next_rows : ℕ → List Row → Result (List Row) LimitKind
next_rows var rows = with_all_sums var (with_sign Positive var rows) (with_sign Negative var rows) (reduced_onto [] (with_sign Zero var rows))
