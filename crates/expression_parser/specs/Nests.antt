-- A function value that reads expressions.
use Rattle.std.specs.Prelude.{ℕ, List, Result}
use Rattle.std.specs.declared.alloc.Global.{Global}
use denote.Ref.{MutBor}
use Rattle.xanadu_lexer.specs.declared.token.Token.{Token}
use Rattle.xanadu_tree.specs.declared.tree.expression.Expression.{Expression}
use Rattle.xanadu_tree.specs.PlainTreeOf.{plain_expression}
use Rattle.expression_parser.specs.declared.stop.Stop.{Stop}
use Rattle.expression_parser.specs.Code.{Reads}
use Rattle.expression_parser.specs.Expressions.{expression}

-- It may be called, and reads expressions that nest fewer than `room` times.
pub record Nests (room : ℕ) (pre : Global → MutBor (List Token) → ℕ → Type 0)
    (post : Global → MutBor (List Token) → ℕ → Result Expression Stop → MutBor (List Token) → Type 0) : Type 0 where
  pub callable : (alloc : Global) (old : MutBor (List Token)) → pre alloc old room
  pub reads : (alloc : Global) (old new : MutBor (List Token)) (r : Result Expression Stop) → post alloc old room r new
      → Reads plain_expression r new.now (expression room old.now)
