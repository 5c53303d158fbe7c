-- What a run has still to do.
use Rattle.std.specs.Prelude.{ℕ, List}
use Rattle.xanadu_tree.specs.Plain as core
use Rattle.xanadu_tree.specs.declared.expr.Op.{Op}
use Rattle.xanadu_tree.specs.declared.expr.Rel.{Rel}

pub data Work : Type 0 where
  -- ---- an expression, whose value is then on top
  Operand : core.Expr → Work
  -- expressions from left to right
  Operands : core.Exprs → Work
  -- the operators of a chain; all that stands before them is on top
  Links : core.Links → Work
  -- ---- a construct, whose operands are on top
  Join : Op → Work
  Negate : Work
  Relate : Rel → Work
  ReadCell : Work
  Measure : Work
  MakeTuple : (ty count : ℕ) → Work
  MakeArray : (ty : ℕ) → Work
  CallWith : (fun count : ℕ) → Work
  -- ---- a test, whose truth value is then on top
  Decide : core.Test → Work
  -- the value on top is that of a leaf
  Decided : Work
  AllParts : core.Tests → Work
  AnyParts : core.Tests → Work
  -- the part before is on top: the others, where it is true, or where it is false
  WhereTrue : core.Tests → Work
  WhereFalse : core.Tests → Work
  Opposite : Work
  -- ---- statements
  Statements : core.Stmts → Work
  SetTo : (variable : ℕ) → Work
  SplitTo : (variables : List ℕ) → Work
  PutCell : Work
  Forget : Work
  Say : Work
  -- the truth value on top chooses
  Choose : (on_true on_false : core.Stmts) → Work
  Loop : core.Test → (body : core.Stmts) → Work
  Turn : core.Test → (body : core.Stmts) → Work
  GiveBack : Work
  -- a function began here, and its value is wanted
  Back : Work
