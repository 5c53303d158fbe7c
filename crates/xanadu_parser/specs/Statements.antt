-- Statements and blocks, as they are read.
use Rattle.std.specs.Prelude.{ℕ, zero, suc, List, length, Option, Some, None, Err}
use Rattle.xanadu_lexer.specs.declared.keyword.Keyword.TheVariants as word
use Rattle.xanadu_lexer.specs.declared.symbol.Symbol.TheVariants as symbol
use Rattle.xanadu_tree.specs.declared.tree.declaration.Identifier.{Identifier}
use Rattle.xanadu_tree.specs.PlainTree as plain
use Rattle.xanadu_tree.specs.PlainTreeOf.{to_indices, to_expressions, to_branch, to_statements}
use Rattle.xan_read.specs.Combinators.{give, made, in_turn}
use Rattle.xan_read.specs.Symbols.{take, where_comes, until, optional, separated, before, behind}
use Rattle.expression_parser.specs.Reader.{Reader}
use Rattle.expression_parser.specs.Tables.{keyword, mark, lower}
use Rattle.expression_parser.specs.Types.{clause_behind}
use Rattle.expression_parser.specs.Expressions.{expression, arguments, indices}

-- ---- statements in which no block stands

unfoldable pub names : Reader (List Identifier)
names = separated (mark symbol.Comma) (take lower)

module _ (room : ℕ) where
  unfoldable pub ended : Reader plain.Expression
  ended = before (mark symbol.Semicolon) (expression room)

  unfoldable pub condition : Reader plain.Expression
  condition = behind (mark symbol.LeftParen) (before (mark symbol.RightParen) (expression room))

  unfoldable pub declared : ℕ → Reader plain.Statement
  declared at = in_turn (take lower) (λ name. behind (mark symbol.Equal) (made (λ e. plain.Declare name e at) ended))

  unfoldable pub split : ℕ → Reader plain.Statement
  split at = behind (mark symbol.LeftParen) (in_turn names (λ xs. behind (mark symbol.RightParen) (behind (mark symbol.Equal)
      (made (λ e. plain.Split xs e at) ended))))

  unfoldable pub returned : ℕ → Reader plain.Statement
  returned at = where_comes (mark symbol.Semicolon) (λ _. give (plain.Return None at)) (made (λ e. plain.Return (Some e) at) ended)

  unfoldable pub called : Identifier → Reader plain.Statement
  called name = in_turn (arguments (expression room)) (λ es. behind (mark symbol.Semicolon) (give (plain.Do name (to_expressions es))))

  unfoldable pub assigned : Identifier → Reader plain.Statement
  assigned name = in_turn (indices (expression room)) (λ is. behind (mark symbol.Equal) (made (λ e. plain.Assign name (to_indices is) e) ended))

  unfoldable pub named : Reader plain.Statement
  named = in_turn (take lower) (λ name. where_comes (mark symbol.LeftParen) (λ _. called name) (assigned name))

  unfoldable pub simple : Reader plain.Statement
  simple = where_comes (keyword word.Var) declared
      (where_comes (keyword word.Let) split
      (where_comes (keyword word.Print) (λ at. made (λ e. plain.Print e at) ended)
      (where_comes (keyword word.Return) returned named)))

  -- ---- statements in which blocks stand, over the reader of these

  module _ (inner : Reader plain.Block) where
    unfoldable pub otherwise : Reader (Option plain.Block)
    otherwise = optional (keyword word.Else) (λ _. inner)

    unfoldable pub branches : ℕ → Reader plain.Statement
    branches at = in_turn condition (λ t. in_turn inner (λ yes_block. in_turn otherwise (λ no_block. made (λ c. plain.If t yes_block (to_branch no_block) c at) (clause_behind word.Join))))

    unfoldable pub repeated_block : ℕ → Reader plain.Statement
    repeated_block at = in_turn condition (λ t. in_turn (clause_behind word.With) (λ c. made (λ b. plain.While t c b at) inner))

    unfoldable pub statement : Reader plain.Statement
    statement = where_comes (keyword word.If) branches (where_comes (keyword word.While) repeated_block simple)

    unfoldable pub statements : Reader (List plain.Statement)
    statements = until (mark symbol.RightBrace) statement

-- blocks that nest fewer than `room` times
unfoldable pub block : (room : ℕ) → Reader plain.Block
block zero tokens = Err (length tokens)
block (suc room) tokens = in_turn (take (mark symbol.LeftBrace)) (λ at. made (λ ss. plain.BlockOf (to_statements ss) at) (statements room (block room))) tokens
