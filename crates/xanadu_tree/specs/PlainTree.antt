-- The plain tree of a source: the same tree over lists, which says nothing of where a node lies in memory.
--
-- A part without vectors is the declared one. A list that leads back to the type that holds it is a type of its own.
use Rattle.std.specs.Prelude.{ℕ, ℤ, Bool as Truth, List, Option}
use Rattle.xanadu_tree.specs.declared.expr.Op.{Op}
use Rattle.xanadu_tree.specs.declared.expr.Rel.{Rel}
use Rattle.xanadu_tree.specs.declared.tree.declaration.Identifier.{Identifier}
use Rattle.xanadu_tree.specs.declared.tree.index.Binder.{Binder}
use Rattle.xanadu_tree.specs.declared.tree.index.IndexRelation.{IndexRelation}
use Rattle.xanadu_tree.specs.declared.tree.index.IndexTerm.{IndexTerm}
use Rattle.xanadu_tree.specs.declared.tree.index.Sign.{Sign}
use Rattle.xanadu_tree.specs.declared.tree.types.Element.{Element}

-- ---- quantifiers and index expressions

pub record IndexExpression : Type 0 where
  pub negative : Truth
  pub first : IndexTerm
  pub rest : List (Sign × IndexTerm)
  pub at : ℕ

pub record Relation : Type 0 where
  pub left : IndexExpression
  pub relation : IndexRelation
  pub right : IndexExpression

pub record Quantifier : Type 0 where
  pub binders : List Binder
  pub relations : List Relation
  pub at : ℕ

-- ---- types

pub data WrittenType : Type 0 where
  Int : (at : ℕ) → WrittenType
  IntOf : (index : IndexExpression) (at : ℕ) → WrittenType
  Bool : (at : ℕ) → WrittenType
  Named : (name : Identifier) → WrittenType
  Array : (element : Element) (length : Option IndexExpression) → WrittenType

pub record Parameter : Type 0 where
  pub name : Identifier
  pub ty : WrittenType

-- ---- expressions

mutual
  -- the first part, and then each part behind an operator
  pub data Expression : Type 0 where
    ExpressionOf : (first : Conjunction) (rest : Conjunctions) (at : ℕ) → Expression

  pub data Conjunctions : Type 0 where
    NoConjunction : Conjunctions
    AConjunction : (conjunction : Conjunction) (operator_at : ℕ) (others : Conjunctions) → Conjunctions

  pub data Conjunction : Type 0 where
    ConjunctionOf : (first : Negation) (rest : Negations) (at : ℕ) → Conjunction

  pub data Negations : Type 0 where
    NoNegation : Negations
    ANegation : (negation : Negation) (operator_at : ℕ) (others : Negations) → Negations

  pub data Negation : Type 0 where
    NegationOf : (negated : Truth) (operand : Comparison) (at : ℕ) → Negation

  pub data Comparison : Type 0 where
    ComparisonOf : (left : Sum) (right : Comparand) (at : ℕ) → Comparison

  pub data Comparand : Type 0 where
    NoComparand : Comparand
    AComparand : (rel : Rel) (right : Sum) → Comparand

  pub data Sum : Type 0 where
    SumOf : (first : Product) (rest : Addends) (at : ℕ) → Sum

  pub data Addends : Type 0 where
    NoAddend : Addends
    AnAddend : (op : Op) (product : Product) (operator_at : ℕ) (others : Addends) → Addends

  pub data Product : Type 0 where
    ProductOf : (first : Unary) (rest : Factors) (at : ℕ) → Product

  pub data Factors : Type 0 where
    NoFactor : Factors
    AFactor : (op : Op) (unary : Unary) (operator_at : ℕ) (others : Factors) → Factors

  pub data Unary : Type 0 where
    UnaryOf : (negative : Truth) (operand : Postfix) (at : ℕ) → Unary

  pub data Postfix : Type 0 where
    PostfixOf : (primary : Primary) (indices : Indices) (at : ℕ) → Postfix

  pub data Indices : Type 0 where
    NoIndex : Indices
    AnIndex : (index : Expression) (bracket_at : ℕ) (others : Indices) → Indices

  pub data Primary : Type 0 where
    Number : (number : ℤ) (at : ℕ) → Primary
    Boolean : (truth : Truth) (at : ℕ) → Primary
    Variable : (name : Identifier) → Primary
    Call : (function : Identifier) (arguments : Expressions) → Primary
    Make : (ty : Identifier) (arguments : Expressions) → Primary
    Length : (array : Expression) (at : ℕ) → Primary
    New : (element : Element) (length fill : Expression) (at : ℕ) → Primary
    Group : (expression : Expression) (at : ℕ) → Primary

  pub data Expressions : Type 0 where
    NoExpression : Expressions
    AnExpression : (expression : Expression) (others : Expressions) → Expressions

-- ---- statements

pub record WrittenClause : Type 0 where
  pub quantifier : Option Quantifier
  pub variables : List Parameter
  pub at : ℕ

mutual
  pub data Statement : Type 0 where
    Declare : (name : Identifier) (value : Expression) (at : ℕ) → Statement
    Split : (names : List Identifier) (value : Expression) (at : ℕ) → Statement
    Assign : (target : Identifier) (indices : Indices) (value : Expression) → Statement
    Do : (function : Identifier) (arguments : Expressions) → Statement
    Print : (value : Expression) (at : ℕ) → Statement
    If : (test : Expression) (on_true : Block) (on_false : Branch) (join : Option WrittenClause) (at : ℕ) → Statement
    While : (test : Expression) (head : Option WrittenClause) (body : Block) (at : ℕ) → Statement
    Return : (value : Option Expression) (at : ℕ) → Statement

  pub data Branch : Type 0 where
    NoBranch : Branch
    ABranch : (block : Block) → Branch

  pub data Block : Type 0 where
    BlockOf : (statements : Statements) (at : ℕ) → Block

  pub data Statements : Type 0 where
    NoStatement : Statements
    AStatement : (statement : Statement) (others : Statements) → Statements

-- ---- declarations

pub data TypeBody : Type 0 where
  Cell : (ty : WrittenType) → TypeBody
  Tuple : (parts : List WrittenType) → TypeBody

pub record TypeDeclaration : Type 0 where
  pub name : Identifier
  pub quantifier : Option Quantifier
  pub body : TypeBody
  pub at : ℕ

pub data ResultType : Type 0 where
  NoValue : (at : ℕ) → ResultType
  AValue : (quantifier : Option Quantifier) (ty : WrittenType) (at : ℕ) → ResultType

pub record FunctionDeclaration : Type 0 where
  pub name : Identifier
  pub quantifier : Option Quantifier
  pub parameters : List Parameter
  pub result : ResultType
  pub body : Block
  pub at : ℕ

pub data Declaration : Type 0 where
  OfType : (declaration : TypeDeclaration) → Declaration
  OfFunction : (declaration : FunctionDeclaration) → Declaration

pub record Tree : Type 0 where
  pub declarations : List Declaration
  pub at : ℕ
