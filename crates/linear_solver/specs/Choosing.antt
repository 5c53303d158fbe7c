-- What a look at a system shows: too many rows, a row that cannot hold, or the variable that is taken next.
use Rattle.std.specs.Prelude.{ℕ, ◌+◌, ◌*◌, ◌==◌, pos, Bool, ◌&&◌, ◌||◌, List, [], ◌∷◌, length, nat_lt, int_lt, Option, Some, None, if◌then◌else◌}
use Rattle.index_sorts.specs.Known.{no_terms}
use Rattle.solver_rows.specs.declared.source.Sign.TheVariants.{Positive, Negative}
use Rattle.linear_solver.specs.declared.choose.Look.{Look}
use Rattle.linear_solver.specs.declared.choose.Look.TheVariants.{Full, Refuted, Spent, Take}
use Rattle.linear_solver.specs.declared.choose.Choice.{Choice}
use Rattle.solver_rows.specs.SystemRows.{Row, line_of}
use Rattle.linear_solver.specs.Systems.{with_sign}

-- no variable, and a negative constant: it holds under no assignment
abbrev pub cannot_hold : Row → Bool
cannot_hold r = no_terms r.terms && int_lt r.constant (pos 0)

-- the step that gives the first row that cannot hold
unfoldable pub refuted_by : List Row → Option ℕ
refuted_by [] = None
refuted_by (r ∷ rows) = if cannot_hold r then Some (line_of r.source) else refuted_by rows

-- the variable and the product of the numbers of its positive and negative rows, where the system has it
abbrev pub choice_of : ℕ → ℕ → ℕ → Option Choice
choice_of var positive negative = if (positive + negative) == 0 then None else Some (record { var = var; pairs = positive * negative })

unfoldable pub candidate : ℕ → List Row → Option Choice
candidate var rows = choice_of var (length (with_sign Positive var rows)) (length (with_sign Negative var rows))

-- fewer pairs come first, and of as many the lesser variable
abbrev pub is_before : Choice → Choice → Bool
is_before c d = nat_lt c.pairs d.pairs || ((c.pairs == d.pairs) && nat_lt c.var d.var)

abbrev pub better : Option Choice → Option Choice → Option Choice
better None next = next
better (Some c) None = Some c
better (Some c) (Some d) = if is_before d c then Some d else Some c

-- the best of a choice and those of these variables
unfoldable pub best_from : List Row → Option Choice → List ℕ → Option Choice
best_from rows best [] = best
best_from rows best (v ∷ vars) = best_from rows (better best (candidate v rows)) vars

abbrev pub taken : Option Choice → Look
taken (Some c) = Take c.var
taken None = Spent

abbrev pub refuted_or : Option ℕ → Option Choice → Look
refuted_or (Some line) best = Refuted line
refuted_or None best = taken best

-- at a system with variables among these
unfoldable pub look_at : List ℕ → List Row → Look
look_at vars rows = if nat_lt 2000 (length rows) then Full else refuted_or (refuted_by rows) (best_from rows None vars)
