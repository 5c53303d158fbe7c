-- An `if`, behind its first branch.
use Rattle.std.proofs.Common.{◌≡◌, ◌∙◌, ℕ, Option, Ok, ap}
use Rattle.xanadu_tree.specs.declared.stmt.Clause.{Clause}
use Rattle.xanadu_tree.specs.declared.types.Kind.{Kind}
use Rattle.xanadu_tree.specs.Plain as core
use Rattle.xanadu_tree.specs.PlainTree as plain
use Rattle.expression_shapes.specs.Expressions.{expression_test}
use Rattle.type_shapes.specs.Faults.{Check, ◌>>=◌}
use Rattle.expression_shapes.specs.Sites.{Globals, Locals}
use Rattle.scope_shapes.specs.Statements.{Done, Body, choice, statement, block, branch, clause_or_none}

module _ (globals : Globals) (given : Kind) (join : Option plain.WrittenClause) (at : ℕ) where
  abbrev pub behind_join : core.Test → (yes_body no_body : Body) → Option Clause × Locals → Check (Done × Locals)
  behind_join it yes_body no_body c = Ok (choice it yes_body no_body c.0 at, c.1)

  abbrev pub behind_no : core.Test → Body → Body × Locals → Check (Done × Locals)
  behind_no it yes_body n = clause_or_none globals.types join n.1 >>= behind_join it yes_body n.0

  pub if-branches : (t : plain.Expression) (on_true : plain.Block) (on_false : plain.Branch) (locals : Locals) (it : core.Test) (yes_body : Body) (behind : Locals) →
      expression_test globals locals t ≡ Ok it → block globals given on_true locals ≡ Ok (yes_body, behind) →
      statement globals given (plain.If t on_true on_false join at) locals ≡ (branch globals given on_false behind >>= behind_no it yes_body)
  unfolding statement
  if-branches t on_true on_false locals it yes_body behind tested done =
      ap (λ (m : Check core.Test). m >>= λ i. block globals given on_true locals >>= λ (y : Body × Locals). branch globals given on_false y.1 >>= behind_no i y.0) tested
      ∙ ap (λ (m : Check (Body × Locals)). m >>= λ y. branch globals given on_false y.1 >>= behind_no it y.0) done
