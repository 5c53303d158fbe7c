-- Which variables are named by what a call gives.
use Rattle.std.specs.Prelude.{◌≡◌, ℕ, ◌+◌, List}
use Rattle.std.specs.List.{All}
use Rattle.index_sorts.specs.Context.{IndexContext}
use Rattle.xan_lin.specs.Linear.{Linear, NamesBelow}
use Rattle.state_types.specs.Types.{TypeBelow}
use Rattle.state_types.specs.declared.closed.Packed.{Packed}
use Rattle.state_types.specs.declared.matching.Found.{Found}
use Rattle.state_types.specs.declared.types.Ty.{Ty}

-- the listed forms name only variables below `vars`
abbrev pub ValuesBelow : ℕ → List (ℕ × Linear) → Type 0
ValuesBelow vars values = All (λ v. NamesBelow vars v.1) values

-- and all that a match finds
pub record FoundBelow (vars : ℕ) (found : Found) : Type 0 where
  pub values : ValuesBelow vars found.values
  pub rows : All (NamesBelow vars) found.rows

-- unpacked types name variables of the context with the fresh ones, and present types do as before
pub record UnpackedBelow (ctx more : IndexContext) (packed : Packed) (parts : List Ty) : Type 0 where
  pub count : more.vars ≡ ctx.vars + packed.vars
  pub named : All (TypeBelow more.vars) parts
  pub keep : (ty : Ty) → TypeBelow ctx.vars ty → TypeBelow more.vars ty
