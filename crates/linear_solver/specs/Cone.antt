-- The variables that bear on a row: its own, and with a variable of a hypothesis all of that hypothesis.
use Rattle.std.specs.Prelude.{ℕ, zero, suc, Bool, List, [], ◌∷◌, length, if◌then◌else◌}
use Rattle.std.specs.List.{list_any}
use Rattle.xan_lin.specs.Linear.{Linear}
use Rattle.xan_lin.specs.declared.term.Term.{Term}
use Rattle.proof_lines.specs.Variables.{is_among, with_terms}

-- one of the terms has one of the variables
abbrev pub touches : List ℕ → List Term → Bool
touches vars ts = list_any (λ t. is_among t.var vars) ts

-- the variables with those of each row that has one of them, in one walk over the rows
unfoldable pub reached : List ℕ → List Linear → List ℕ
reached vars [] = vars
reached vars (row ∷ rows) = reached (if touches vars row.terms then with_terms vars row.terms else vars) rows

-- the same in so many walks
unfoldable pub reached_in : ℕ → List ℕ → List Linear → List ℕ
reached_in zero vars rows = vars
reached_in (suc walks) vars rows = reached_in walks (reached vars rows) rows

-- a walk that finds a variable reaches one row more, so that as many walks as there are rows find all
unfoldable pub cone : List Linear → Linear → List ℕ
cone hyps start = reached_in (length hyps) (with_terms [] start.terms) hyps
