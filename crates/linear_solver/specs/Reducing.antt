-- Reduced rows: no two have equal coefficients. And what comes of a pass that may stop: no part of the promise.
use Rattle.std.specs.Prelude.{◌≡◌, ℕ, ◌<◌, length, false, true, List, [], ◌∷◌, Result, Ok, Err}
use Rattle.std.specs.List.{list_any, slice_index_or}
use Rattle.xan_lin.specs.declared.term.Term.{Term}
use Rattle.xan_lin.specs.declared.term.LimitKind.{LimitKind}
use Rattle.solver_rows.specs.SystemRows.{Row, same_terms}

-- no later row has the coefficients of an earlier one
abbrev pub AreDistinct : List Row → Type 0
AreDistinct [] = Unit {0}
AreDistinct (r ∷ rows) = (list_any (λ s. same_terms s.terms r.terms) rows ≡ false) × AreDistinct rows

-- the pass leaves what the definition gives, or stops at the same limit
abbrev pub Gives : Result (Unit {0}) LimitKind → List Row → Result (List Row) LimitKind → Type 0
Gives (Ok _) after wanted = wanted ≡ Ok after
Gives (Err kind) after wanted = wanted ≡ Err kind

-- the row at this place has these coefficients
abbrev pub IsPlace : List Row → List Term → ℕ → Type 0
IsPlace rows ts k = (k < length rows) × ((d : Row) → same_terms (slice_index_or rows k d).terms ts ≡ true)
