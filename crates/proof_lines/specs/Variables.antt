-- The different variables of rows, in the order in which they come first.
use Rattle.std.specs.Prelude.{ℕ, Bool, List, [], ◌∷◌, ◌++◌, ◌==◌, if◌then◌else◌}
use Rattle.std.specs.List.{list_any}
use Rattle.xan_lin.specs.Linear.{Linear}
use Rattle.xan_lin.specs.declared.term.Term.{Term}

abbrev pub is_among : ℕ → List ℕ → Bool
is_among v vs = list_any (λ w. w == v) vs

-- the variables with one more behind them, unless it is among them
abbrev pub with_variable : List ℕ → ℕ → List ℕ
with_variable vs v = if is_among v vs then vs else vs ++ v ∷ []

-- the variables with those of some terms
unfoldable pub with_terms : List ℕ → List Term → List ℕ
with_terms vs [] = vs
with_terms vs (t ∷ ts) = with_terms (with_variable vs t.var) ts

-- the variables with those of some rows
unfoldable pub with_rows : List ℕ → List Linear → List ℕ
with_rows vs [] = vs
with_rows vs (row ∷ rows) = with_rows (with_terms vs row.terms) rows

-- the different variables of the rows; a row names only variables whose coefficient is not 0
abbrev pub variables : List Linear → List ℕ
variables rows = with_rows [] rows
