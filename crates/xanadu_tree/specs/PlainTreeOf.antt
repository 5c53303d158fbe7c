-- From a source's tree in memory to its plain tree.
use Rattle.std.specs.Prelude.{ℕ, List, [], ◌∷◌, map, Option, Some, None}
use Rattle.std.specs.Option.{option_map}
use Rattle.xanadu_tree.specs.declared.expr.Op.{Op}
use Rattle.xanadu_tree.specs.declared.expr.Rel.{Rel}
use Rattle.xanadu_tree.specs.declared.tree.declaration.Declaration.{Declaration}
use Rattle.xanadu_tree.specs.declared.tree.declaration.Declaration.TheVariants as declaration
use Rattle.xanadu_tree.specs.declared.tree.declaration.FunctionDeclaration.{FunctionDeclaration}
use Rattle.xanadu_tree.specs.declared.tree.declaration.Parameter.{Parameter}
use Rattle.xanadu_tree.specs.declared.tree.declaration.ResultType.{ResultType}
use Rattle.xanadu_tree.specs.declared.tree.declaration.ResultType.TheVariants as result
use Rattle.xanadu_tree.specs.declared.tree.declaration.Tree.{Tree}
use Rattle.xanadu_tree.specs.declared.tree.declaration.TypeBody.{TypeBody}
use Rattle.xanadu_tree.specs.declared.tree.declaration.TypeBody.TheVariants as body
use Rattle.xanadu_tree.specs.declared.tree.declaration.TypeDeclaration.{TypeDeclaration}
use Rattle.xanadu_tree.specs.declared.tree.expression.Comparison.{Comparison}
use Rattle.xanadu_tree.specs.declared.tree.expression.Conjunction.{Conjunction}
use Rattle.xanadu_tree.specs.declared.tree.expression.Expression.{Expression}
use Rattle.xanadu_tree.specs.declared.tree.expression.Negation.{Negation}
use Rattle.xanadu_tree.specs.declared.tree.expression.Postfix.{Postfix}
use Rattle.xanadu_tree.specs.declared.tree.expression.Primary.{Primary}
use Rattle.xanadu_tree.specs.declared.tree.expression.Primary.TheOpen as open_expression
use Rattle.xanadu_tree.specs.declared.tree.expression.Primary.TheFolds.{fold-Comparison, fold-Conjunction, fold-Expression, fold-Negation, fold-Postfix, fold-Primary, fold-Product, fold-Sum, fold-Unary}
use Rattle.xanadu_tree.specs.declared.tree.expression.Product.{Product}
use Rattle.xanadu_tree.specs.declared.tree.expression.Sum.{Sum}
use Rattle.xanadu_tree.specs.declared.tree.expression.Unary.{Unary}
use Rattle.xanadu_tree.specs.declared.tree.index.IndexExpression.{IndexExpression}
use Rattle.xanadu_tree.specs.declared.tree.index.Quantifier.{Quantifier}
use Rattle.xanadu_tree.specs.declared.tree.index.Relation.{Relation}
use Rattle.xanadu_tree.specs.declared.tree.statement.Block.{Block}
use Rattle.xanadu_tree.specs.declared.tree.statement.Statement.{Statement}
use Rattle.xanadu_tree.specs.declared.tree.statement.Statement.TheOpen as open_statement
use Rattle.xanadu_tree.specs.declared.tree.statement.Statement.TheFolds.{fold-Statement, fold-Block}
use Rattle.xanadu_tree.specs.declared.tree.statement.WrittenClause.{WrittenClause}
use Rattle.xanadu_tree.specs.declared.tree.types.Type as written
use Rattle.xanadu_tree.specs.declared.tree.types.Type.TheVariants as ty
use Rattle.xanadu_tree.specs.PlainTree as plain

-- ---- quantifiers, index expressions and types

abbrev pub plain_index : IndexExpression → plain.IndexExpression
plain_index e = record { negative = e.negative; first = e.first; rest = e.rest.items; at = e.at }

abbrev pub plain_relation : Relation → plain.Relation
plain_relation r = record { left = plain_index r.left; relation = r.relation; right = plain_index r.right }

abbrev pub plain_quantifier : Quantifier → plain.Quantifier
plain_quantifier q = record { binders = q.binders.items; relations = map plain_relation q.relations.items; at = q.at }

abbrev pub plain_type : written.«Type» → plain.WrittenType
plain_type (ty.Int at) = plain.Int at
plain_type (ty.IntOf index at) = plain.IntOf (plain_index index) at
plain_type (ty.Bool at) = plain.Bool at
plain_type (ty.Named name) = plain.Named name
plain_type (ty.Array element length) = plain.Array element (option_map plain_index length)

abbrev pub plain_parameter : Parameter → plain.Parameter
plain_parameter p = record { name = p.name; ty = plain_type p.ty }

-- ---- expressions: the parts of a list, as the tree's own list

abbrev pub to_conjunctions : List (plain.Conjunction × ℕ) → plain.Conjunctions
to_conjunctions [] = plain.NoConjunction
to_conjunctions (c ∷ cs) = plain.AConjunction c.0 c.1 (to_conjunctions cs)

abbrev pub to_negations : List (plain.Negation × ℕ) → plain.Negations
to_negations [] = plain.NoNegation
to_negations (n ∷ ns) = plain.ANegation n.0 n.1 (to_negations ns)

abbrev pub to_comparand : Option (Rel × plain.Sum) → plain.Comparand
to_comparand None = plain.NoComparand
to_comparand (Some c) = plain.AComparand c.0 c.1

abbrev pub to_addends : List (Op × plain.Product × ℕ) → plain.Addends
to_addends [] = plain.NoAddend
to_addends (a ∷ more) = plain.AnAddend a.0 a.1 a.2 (to_addends more)

abbrev pub to_factors : List (Op × plain.Unary × ℕ) → plain.Factors
to_factors [] = plain.NoFactor
to_factors (f ∷ fs) = plain.AFactor f.0 f.1 f.2 (to_factors fs)

abbrev pub to_indices : List (plain.Expression × ℕ) → plain.Indices
to_indices [] = plain.NoIndex
to_indices (i ∷ is) = plain.AnIndex i.0 i.1 (to_indices is)

abbrev pub to_expressions : List plain.Expression → plain.Expressions
to_expressions [] = plain.NoExpression
to_expressions (e ∷ es) = plain.AnExpression e (to_expressions es)

-- ---- expressions: one node, with the plain tree of each child in its place

-- one node of this kind over plain children
abbrev pub Layer : (Type 0 → Type 0 → Type 0 → Type 0 → Type 0 → Type 0 → Type 0 → Type 0 → Type 0 → Type 0) → Type 0
Layer Node = Node plain.Primary plain.Comparison plain.Conjunction plain.Expression plain.Negation plain.Postfix plain.Product plain.Sum plain.Unary

abbrev pub primary_step : Layer open_expression.Primary-F → plain.Primary
primary_step (open_expression.Number n at) = plain.Number n at
primary_step (open_expression.Truth b at) = plain.Boolean b at
primary_step (open_expression.Variable x) = plain.Variable x
primary_step (open_expression.Call f arguments) = plain.Call f (to_expressions arguments.items)
primary_step (open_expression.Make name arguments) = plain.Make name (to_expressions arguments.items)
primary_step (open_expression.Length array at) = plain.Length array.value at
primary_step (open_expression.New element length fill at) = plain.New element length.value fill.value at
primary_step (open_expression.Group e at) = plain.Group e.value at

abbrev pub comparison_step : Layer open_expression.Comparison-F → plain.Comparison
comparison_step c = plain.ComparisonOf c.left (to_comparand (option_map (λ right. (right.0, right.1.value)) c.right)) c.at

abbrev pub conjunction_step : Layer open_expression.Conjunction-F → plain.Conjunction
conjunction_step c = plain.ConjunctionOf c.first (to_negations c.rest.items) c.at

abbrev pub expression_step : Layer open_expression.Expression-F → plain.Expression
expression_step e = plain.ExpressionOf e.first (to_conjunctions e.rest.items) e.at

abbrev pub negation_step : Layer open_expression.Negation-F → plain.Negation
negation_step n = plain.NegationOf n.negated n.operand n.at

abbrev pub postfix_step : Layer open_expression.Postfix-F → plain.Postfix
postfix_step p = plain.PostfixOf p.primary (to_indices p.indices.items) p.at

abbrev pub product_step : Layer open_expression.Product-F → plain.Product
product_step p = plain.ProductOf p.first (to_factors p.rest.items) p.at

abbrev pub sum_step : Layer open_expression.Sum-F → plain.Sum
sum_step s = plain.SumOf s.first (to_addends s.rest.items) s.at

abbrev pub unary_step : Layer open_expression.Unary-F → plain.Unary
unary_step u = plain.UnaryOf u.negative u.operand u.at

unfoldable pub plain_primary : Primary → plain.Primary
plain_primary = fold-Primary _ _ _ _ _ _ _ _ _ primary_step comparison_step conjunction_step expression_step negation_step postfix_step product_step sum_step unary_step

unfoldable pub plain_comparison : Comparison → plain.Comparison
plain_comparison = fold-Comparison _ _ _ _ _ _ _ _ _ primary_step comparison_step conjunction_step expression_step negation_step postfix_step product_step sum_step unary_step

unfoldable pub plain_conjunction : Conjunction → plain.Conjunction
plain_conjunction = fold-Conjunction _ _ _ _ _ _ _ _ _ primary_step comparison_step conjunction_step expression_step negation_step postfix_step product_step sum_step unary_step

unfoldable pub plain_expression : Expression → plain.Expression
plain_expression = fold-Expression _ _ _ _ _ _ _ _ _ primary_step comparison_step conjunction_step expression_step negation_step postfix_step product_step sum_step unary_step

unfoldable pub plain_negation : Negation → plain.Negation
plain_negation = fold-Negation _ _ _ _ _ _ _ _ _ primary_step comparison_step conjunction_step expression_step negation_step postfix_step product_step sum_step unary_step

unfoldable pub plain_postfix : Postfix → plain.Postfix
plain_postfix = fold-Postfix _ _ _ _ _ _ _ _ _ primary_step comparison_step conjunction_step expression_step negation_step postfix_step product_step sum_step unary_step

unfoldable pub plain_product : Product → plain.Product
plain_product = fold-Product _ _ _ _ _ _ _ _ _ primary_step comparison_step conjunction_step expression_step negation_step postfix_step product_step sum_step unary_step

unfoldable pub plain_sum : Sum → plain.Sum
plain_sum = fold-Sum _ _ _ _ _ _ _ _ _ primary_step comparison_step conjunction_step expression_step negation_step postfix_step product_step sum_step unary_step

unfoldable pub plain_unary : Unary → plain.Unary
plain_unary = fold-Unary _ _ _ _ _ _ _ _ _ primary_step comparison_step conjunction_step expression_step negation_step postfix_step product_step sum_step unary_step

abbrev pub plain_indices : List (Expression × ℕ) → plain.Indices
plain_indices indices = to_indices (map (λ i. (plain_expression i.0, i.1)) indices)

abbrev pub plain_expressions : List Expression → plain.Expressions
plain_expressions expressions = to_expressions (map plain_expression expressions)

-- ---- statements

abbrev pub plain_clause : WrittenClause → plain.WrittenClause
plain_clause c = record {
  quantifier = option_map plain_quantifier c.quantifier;
  variables = map plain_parameter c.variables.items;
  at = c.at;
}

abbrev pub to_branch : Option plain.Block → plain.Branch
to_branch None = plain.NoBranch
to_branch (Some block) = plain.ABranch block

abbrev pub to_statements : List plain.Statement → plain.Statements
to_statements [] = plain.NoStatement
to_statements (s ∷ ss) = plain.AStatement s (to_statements ss)

abbrev pub statement_step : open_statement.Statement-F plain.Statement plain.Block → plain.Statement
statement_step (open_statement.Declare name value at) = plain.Declare name (plain_expression value) at
statement_step (open_statement.Split names value at) = plain.Split names.items (plain_expression value) at
statement_step (open_statement.Assign target indices value) = plain.Assign target (plain_indices indices.items) (plain_expression value)
statement_step (open_statement.Call function arguments) = plain.Do function (plain_expressions arguments.items)
statement_step (open_statement.Print value at) = plain.Print (plain_expression value) at
statement_step (open_statement.If test on_true on_false join at) =
    plain.If (plain_expression test) on_true (to_branch on_false) (option_map plain_clause join) at
statement_step (open_statement.While test head body at) = plain.While (plain_expression test) (option_map plain_clause head) body at
statement_step (open_statement.Return value at) = plain.Return (option_map plain_expression value) at

abbrev pub block_step : open_statement.Block-F plain.Statement plain.Block → plain.Block
block_step b = plain.BlockOf (to_statements b.statements.items) b.at

unfoldable pub plain_statement : Statement → plain.Statement
plain_statement = fold-Statement _ _ statement_step block_step

unfoldable pub plain_block : Block → plain.Block
plain_block = fold-Block _ _ statement_step block_step

-- ---- declarations

abbrev pub plain_type_body : TypeBody → plain.TypeBody
plain_type_body (body.Cell cell) = plain.Cell (plain_type cell)
plain_type_body (body.Tuple parts) = plain.Tuple (map plain_type parts.items)

abbrev pub plain_type_declaration : TypeDeclaration → plain.TypeDeclaration
plain_type_declaration d = record {
  name = d.name;
  quantifier = option_map plain_quantifier d.quantifier;
  body = plain_type_body d.body;
  at = d.at;
}

abbrev pub plain_result : ResultType → plain.ResultType
plain_result (result.Unit at) = plain.NoValue at
plain_result (result.Value quantifier value at) = plain.AValue (option_map plain_quantifier quantifier) (plain_type value) at

abbrev pub plain_function : FunctionDeclaration → plain.FunctionDeclaration
plain_function f = record {
  name = f.name;
  quantifier = option_map plain_quantifier f.quantifier;
  parameters = map plain_parameter f.parameters.items;
  result = plain_result f.result;
  body = plain_block f.body;
  at = f.at;
}

abbrev pub plain_declaration : Declaration → plain.Declaration
plain_declaration (declaration.«Type» d) = plain.OfType (plain_type_declaration d)
plain_declaration (declaration.Function f) = plain.OfFunction (plain_function f)

abbrev pub plain_tree : Tree → plain.Tree
plain_tree tree = record { declarations = map plain_declaration tree.declarations.items; at = tree.at }
