-- How the code's values are seen, and what is asked of them.
use Rattle.std.specs.Prelude.{◌≡◌, ◌≤◌, ℕ, Bool, not, if◌then◌else◌, List, [], ◌∷◌, ◌++◌, bytes_eq}
use Rattle.std.specs.List.{All, list_any}
use Rattle.state_types.specs.Tables.{IsClosed, int_cell, bool_cell}
use Rattle.state_types.specs.declared.closed.Packed.{Packed}
use Rattle.operation_rules.specs.Settings.{IsFew}
use Rattle.operation_rules.specs.Sound.{IsHeader}
use Rattle.dtal_code.specs.declared.program.Function.{Function}
use Rattle.dtal_code.specs.declared.program.DtalProgram.{DtalProgram}

-- the types by number: the cells of numbers, those of truth values, and then the written ones
abbrev pub table_with : List Packed → List Packed
table_with types = int_cell ∷ bool_cell ∷ types

-- its signature names only its own variables, which are no more than a context can have
pub record IsDeclared (fun : Function) : Type 0 where
  pub header : IsHeader fun.sig
  pub few : IsFew fun.sig

-- the same of all types and signatures of a program
pub record AreDeclared (program : DtalProgram) : Type 0 where
  pub types : All IsClosed program.types
  pub few : All (λ packed. packed.vars ≤ 1024) program.types
  pub funs : All IsDeclared program.funs

-- ---- the names of functions

-- A name is new where none of those before is the same, and then stands behind them.
pub record IsAdded (before : List (List ℕ)) (name : List ℕ) (is_new : Bool) (after : List (List ℕ)) : Type 0 where
  pub new : is_new ≡ not (list_any (bytes_eq name) before)
  pub behind : after ≡ (if is_new then before ++ name ∷ [] else before)
