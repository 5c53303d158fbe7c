-- The plain tree of a core: the same tree over lists, which says nothing of where a node lies in memory.
use Rattle.std.specs.Prelude.{ℕ, ℤ, Bool as Truth, List, Option}
use Rattle.xanadu_tree.specs.declared.expr.Op.{Op}
use Rattle.xanadu_tree.specs.declared.expr.Rel.{Rel}
use Rattle.xanadu_tree.specs.declared.stmt.Clause.{Clause}
use Rattle.xanadu_tree.specs.declared.types.CoreTy.{CoreTy}
use Rattle.xanadu_tree.specs.declared.types.Kind.{Kind}
use Rattle.xanadu_tree.specs.declared.types.Packing.{Packing}
use Rattle.xanadu_tree.specs.declared.types.Quant.{Quant}

-- Exprs is a list of expressions, and Links that of a chain's operators, each with its right operand and its place.
mutual
  pub data Expr : Type 0 where
    Int : (number : ℤ) → Expr
    Bool : (truth : Truth) → Expr
    Var : (variable : ℕ) → Expr
    Neg : (operand : Expr) → Expr
    Chain : (first : Expr) (rest : Links) → Expr
    Compare : (rel : Rel) (left right : Expr) → Expr
    Index : (array index : Expr) (at : ℕ) → Expr
    Len : (array : Expr) → Expr
    Call : (fun : ℕ) (args : Exprs) (at : ℕ) → Expr
    Make : (ty : ℕ) (args : Exprs) (at : ℕ) → Expr
    New : (ty : ℕ) (len fill : Expr) (at : ℕ) → Expr

  pub data Exprs : Type 0 where
    NoExpr : Exprs
    AnExpr : (expr : Expr) (others : Exprs) → Exprs

  pub data Links : Type 0 where
    NoLink : Links
    ALink : (op : Op) (operand : Expr) (at : ℕ) (others : Links) → Links

mutual
  pub data Test : Type 0 where
    Leaf : (expr : Expr) → Test
    All : (parts : Tests) → Test
    Any : (parts : Tests) → Test
    Not : (part : Test) → Test

  pub data Tests : Type 0 where
    NoTest : Tests
    ATest : (test : Test) (others : Tests) → Tests

mutual
  pub data Stmt : Type 0 where
    Set : (variable : ℕ) (value : Expr) → Stmt
    Split : (variables : List ℕ) (tuple : Expr) (at : ℕ) → Stmt
    Store : (array index value : Expr) (at : ℕ) → Stmt
    Do : (call : Expr) → Stmt
    Print : (number : Expr) → Stmt
    If : (test : Test) (on_true on_false : Stmts) (join : Option Clause) (at : ℕ) → Stmt
    While : (test : Test) (head : Option Clause) (body : Stmts) (at : ℕ) → Stmt
    Return : (value : Option Expr) (at : ℕ) → Stmt

  pub data Stmts : Type 0 where
    NoStmt : Stmts
    AStmt : (stmt : Stmt) (others : Stmts) → Stmts

pub record Fun : Type 0 where
  pub name : List ℕ
  pub quant : Quant
  pub params : List CoreTy
  pub result_quant : Quant
  pub result : CoreTy
  pub kinds : List Kind
  pub body : Stmts
  pub at : ℕ

pub record Program : Type 0 where
  pub types : List Packing
  pub funs : List Fun
  pub main : ℕ
