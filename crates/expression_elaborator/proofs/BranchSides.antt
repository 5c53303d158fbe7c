-- The rows on a side of a branch name what its operands name.
use Rattle.std.proofs.Common.{◌≡◌, ℕ, Result, List, Bool as Truth, sym, subst}
use Rattle.std.specs.List.{All}
use Rattle.xan_lin.specs.Linear.{Linear}
use Rattle.xan_lin.specs.declared.term.TooLarge.{TooLarge}
use Rattle.state_types.specs.Types.{TypeBelow}
use Rattle.state_types.specs.declared.types.Ty.{Ty}
use Rattle.operation_rules.specs.Named.{IsNamed}
use Rattle.operation_rules.specs.Sides.{side}
use Rattle.operation_rules.specs.declared.operation.Operation.{Operation}
use Rattle.typed_core.proofs.GivenNamed.{side_named}

pub sides_below : (n : ℕ) (taken : Truth) (op : Operation) (types : List Ty) (rows : List (Result Linear TooLarge)) → rows ≡ side taken op types → All (TypeBelow n) types → All (IsNamed n) rows
sides_below n taken op types rows same below = subst (λ rs. All (IsNamed n) rs) (sym same) (side_named n taken op types below)
