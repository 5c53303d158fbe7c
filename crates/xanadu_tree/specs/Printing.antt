-- The text of each part of a tree in memory: the text of the pieces that spell it.
use Rattle.std.specs.Prelude.{ℕ, Bool, true, false, List, [], ◌∷◌, ◌++◌, map, Option, Box}
use Rattle.std.specs.Option.{option_map}
use Rattle.std.specs.declared.alloc.Global.{Global}
use Rattle.xanadu_lexer.specs.declared.keyword.Keyword.{Keyword}
use Rattle.xanadu_lexer.specs.declared.symbol.Symbol.TheVariants as symbol
use Rattle.xanadu_lexer.specs.declared.token.TokenKind.TheVariants as kind
use Rattle.xanadu_tree.specs.declared.expr.Op.{Op}
use Rattle.xanadu_tree.specs.declared.expr.Rel.{Rel}
use Rattle.xanadu_tree.specs.declared.tree.declaration.Declaration.{Declaration}
use Rattle.xanadu_tree.specs.declared.tree.declaration.FunctionDeclaration.{FunctionDeclaration}
use Rattle.xanadu_tree.specs.declared.tree.declaration.Identifier.{Identifier}
use Rattle.xanadu_tree.specs.declared.tree.declaration.Parameter.{Parameter}
use Rattle.xanadu_tree.specs.declared.tree.declaration.ResultType.{ResultType}
use Rattle.xanadu_tree.specs.declared.tree.declaration.TypeBody.{TypeBody}
use Rattle.xanadu_tree.specs.declared.tree.declaration.TypeDeclaration.{TypeDeclaration}
use Rattle.xanadu_tree.specs.declared.tree.expression.Comparison.{Comparison}
use Rattle.xanadu_tree.specs.declared.tree.expression.Conjunction.{Conjunction}
use Rattle.xanadu_tree.specs.declared.tree.expression.Expression.{Expression}
use Rattle.xanadu_tree.specs.declared.tree.expression.Negation.{Negation}
use Rattle.xanadu_tree.specs.declared.tree.expression.Postfix.{Postfix}
use Rattle.xanadu_tree.specs.declared.tree.expression.Primary.{Primary}
use Rattle.xanadu_tree.specs.declared.tree.expression.Product.{Product}
use Rattle.xanadu_tree.specs.declared.tree.expression.Sum.{Sum}
use Rattle.xanadu_tree.specs.declared.tree.expression.Unary.{Unary}
use Rattle.xanadu_tree.specs.declared.tree.index.Binder.{Binder}
use Rattle.xanadu_tree.specs.declared.tree.index.IndexExpression.{IndexExpression}
use Rattle.xanadu_tree.specs.declared.tree.index.IndexTerm.{IndexTerm}
use Rattle.xanadu_tree.specs.declared.tree.index.Quantifier.{Quantifier}
use Rattle.xanadu_tree.specs.declared.tree.index.Relation.{Relation}
use Rattle.xanadu_tree.specs.declared.tree.index.Sign.{Sign}
use Rattle.xanadu_tree.specs.declared.tree.statement.Block.{Block}
use Rattle.xanadu_tree.specs.declared.tree.statement.Statement.{Statement}
use Rattle.xanadu_tree.specs.declared.tree.statement.WrittenClause.{WrittenClause}
use Rattle.xanadu_tree.specs.declared.tree.types.Type as written
use Rattle.xanadu_tree.specs.PlainTree as plain
use Rattle.xanadu_tree.specs.PlainTreeOf.{to_conjunctions, to_negations, to_comparand, to_addends, to_factors, to_branch, to_statements, plain_index, plain_relation, plain_quantifier, plain_type, plain_parameter, plain_expression, plain_conjunction, plain_negation, plain_comparison, plain_sum, plain_product, plain_unary, plain_postfix, plain_primary, plain_indices, plain_expressions, plain_clause, plain_statement, plain_block, plain_type_body, plain_type_declaration, plain_result, plain_function, plain_declaration}
use Rattle.xanadu_tree.specs.Pieces.{mark, optional, shown, text}
use Rattle.xanadu_tree.specs.Spelling.{lower, index_term_pieces, signed_pieces, index_pieces, relation_pieces, relations_pieces, binder_pieces, quantifier_pieces, type_pieces, parameter_pieces, clause_pieces, clause_behind, expression_pieces, conjunctions_pieces, conjunction_pieces, negations_pieces, negation_pieces, comparison_pieces, comparand_pieces, sum_pieces, addends_pieces, product_pieces, factors_pieces, unary_pieces, postfix_pieces, indices_pieces, primary_pieces, arguments_pieces, more_arguments_pieces, statement_pieces, branch_pieces, block_pieces, statements_pieces, type_body_pieces, type_declaration_pieces, result_pieces, function_pieces, declaration_pieces, declarations_pieces, pieces}

-- ---- lists with commas

-- a comma before each item of a list but the first
abbrev pub comma_unless : (is_first : Bool) → List ℕ
comma_unless true = []
comma_unless false = shown (kind.Symbol symbol.Comma)

-- items from the first one on, or from a later one on, by the text of each
abbrev pub listed_from : {A : Type 0} → (is_first : Bool) → (A → List ℕ) → List A → List ℕ
listed_from is_first of [] = []
listed_from is_first of (x ∷ xs) = comma_unless is_first ++ (of x ++ listed_from false of xs)

unfoldable pub listed : {A : Type 0} → (A → List ℕ) → List A → List ℕ
listed of xs = listed_from true of xs

-- ---- quantifiers and index expressions

unfoldable pub index_term_text : IndexTerm → List ℕ
index_term_text t = text (index_term_pieces t)

unfoldable pub signed_text : List (Sign × IndexTerm) → List ℕ
signed_text ts = text (signed_pieces ts)

unfoldable pub index_text : IndexExpression → List ℕ
index_text e = text (index_pieces (plain_index e))

unfoldable pub relation_text : Relation → List ℕ
relation_text r = text (relation_pieces (plain_relation r))

unfoldable pub relations_text : List Relation → List ℕ
relations_text rs = text (relations_pieces (map plain_relation rs))

unfoldable pub binder_text : Binder → List ℕ
binder_text b = text (binder_pieces b)

unfoldable pub quantifier_text : Quantifier → List ℕ
quantifier_text q = text (quantifier_pieces (plain_quantifier q))

unfoldable pub some_quantifier_text : Option Quantifier → List ℕ
some_quantifier_text q = text (optional quantifier_pieces (option_map plain_quantifier q))

-- ---- types

unfoldable pub some_index_text : Option IndexExpression → List ℕ
some_index_text e = text (optional index_pieces (option_map plain_index e))

unfoldable pub type_text : written.«Type» → List ℕ
type_text ty = text (type_pieces (plain_type ty))

unfoldable pub parameter_text : Parameter → List ℕ
parameter_text p = text (parameter_pieces (plain_parameter p))

unfoldable pub name_text : Identifier → List ℕ
name_text x = text (lower x ∷ [])

unfoldable pub clause_text : WrittenClause → List ℕ
clause_text c = text (clause_pieces (plain_clause c))

-- a clause behind its keyword, or nothing
unfoldable pub some_clause_text : Keyword → Option WrittenClause → List ℕ
some_clause_text keyword c = text (optional (clause_behind keyword) (option_map plain_clause c))

-- ---- expressions

unfoldable pub expression_text : Expression → List ℕ
expression_text e = text (expression_pieces (plain_expression e))

unfoldable pub conjunctions_text : List (Conjunction × ℕ) → List ℕ
conjunctions_text cs = text (conjunctions_pieces (to_conjunctions (map (λ c. (plain_conjunction c.0, c.1)) cs)))

unfoldable pub conjunction_text : Conjunction → List ℕ
conjunction_text c = text (conjunction_pieces (plain_conjunction c))

unfoldable pub negations_text : List (Negation × ℕ) → List ℕ
negations_text ns = text (negations_pieces (to_negations (map (λ n. (plain_negation n.0, n.1)) ns)))

unfoldable pub negation_text : Negation → List ℕ
negation_text n = text (negation_pieces (plain_negation n))

unfoldable pub comparison_text : Comparison → List ℕ
comparison_text c = text (comparison_pieces (plain_comparison c))

-- the right side behind its mark, or nothing
unfoldable pub comparand_text : Option (Rel × Box Sum Global) → List ℕ
comparand_text right = text (comparand_pieces (to_comparand (option_map (λ r. (r.0, plain_sum r.1.value)) right)))

unfoldable pub sum_text : Sum → List ℕ
sum_text s = text (sum_pieces (plain_sum s))

unfoldable pub addends_text : List (Op × Product × ℕ) → List ℕ
addends_text addends = text (addends_pieces (to_addends (map (λ a. (a.0, plain_product a.1, a.2)) addends)))

unfoldable pub product_text : Product → List ℕ
product_text p = text (product_pieces (plain_product p))

unfoldable pub factors_text : List (Op × Unary × ℕ) → List ℕ
factors_text factors = text (factors_pieces (to_factors (map (λ f. (f.0, plain_unary f.1, f.2)) factors)))

unfoldable pub unary_text : Unary → List ℕ
unary_text u = text (unary_pieces (plain_unary u))

unfoldable pub postfix_text : Postfix → List ℕ
postfix_text p = text (postfix_pieces (plain_postfix p))

unfoldable pub indices_text : List (Expression × ℕ) → List ℕ
indices_text indices = text (indices_pieces (plain_indices indices))

unfoldable pub primary_text : Primary → List ℕ
primary_text p = text (primary_pieces (plain_primary p))

unfoldable pub arguments_text : List Expression → List ℕ
arguments_text arguments = text (arguments_pieces (plain_expressions arguments))

-- the arguments after the first
unfoldable pub more_arguments_text : List Expression → List ℕ
more_arguments_text arguments = text (more_arguments_pieces (plain_expressions arguments))

-- arguments in parentheses
unfoldable pub call_text : List Expression → List ℕ
call_text arguments = text (mark symbol.LeftParen ∷ (arguments_pieces (plain_expressions arguments) ++ (mark symbol.RightParen ∷ [])))

-- an expression in parentheses
unfoldable pub group_text : Expression → List ℕ
group_text e = text (mark symbol.LeftParen ∷ (expression_pieces (plain_expression e) ++ (mark symbol.RightParen ∷ [])))

-- arguments from the first one on, or from a later one on
abbrev pub arguments_from : (is_first : Bool) → List Expression → List ℕ
arguments_from true arguments = arguments_text arguments
arguments_from false arguments = more_arguments_text arguments

-- ---- statements

unfoldable pub some_expression_text : Option Expression → List ℕ
some_expression_text e = text (optional expression_pieces (option_map plain_expression e))

-- `=`, a value and `;`
abbrev pub value_text : Expression → List ℕ
value_text value = shown (kind.Symbol symbol.Equal) ++ (expression_text value ++ shown (kind.Symbol symbol.Semicolon))

-- names in parentheses
abbrev pub names_text : List Identifier → List ℕ
names_text names = shown (kind.Symbol symbol.LeftParen) ++ (listed name_text names ++ shown (kind.Symbol symbol.RightParen))

unfoldable pub statement_text : Statement → List ℕ
statement_text s = text (statement_pieces (plain_statement s))

unfoldable pub branch_text : Option Block → List ℕ
branch_text block = text (branch_pieces (to_branch (option_map plain_block block)))

unfoldable pub block_text : Block → List ℕ
block_text block = text (block_pieces (plain_block block))

unfoldable pub statements_text : List Statement → List ℕ
statements_text ss = text (statements_pieces (to_statements (map plain_statement ss)))

-- ---- declarations

unfoldable pub type_body_text : TypeBody → List ℕ
type_body_text body = text (type_body_pieces (plain_type_body body))

unfoldable pub type_declaration_text : TypeDeclaration → List ℕ
type_declaration_text d = text (type_declaration_pieces (plain_type_declaration d))

unfoldable pub result_text : ResultType → List ℕ
result_text r = text (result_pieces (plain_result r))

unfoldable pub function_text : FunctionDeclaration → List ℕ
function_text f = text (function_pieces (plain_function f))

unfoldable pub declaration_text : Declaration → List ℕ
declaration_text d = text (declaration_pieces (plain_declaration d))

unfoldable pub declarations_text : List Declaration → List ℕ
declarations_text ds = text (declarations_pieces (map plain_declaration ds))

-- ---- the whole

-- the tokens of the tree with a space behind each, and a newline
unfoldable pub printed : plain.Tree → List ℕ
printed tree = text (pieces tree) ++ 10 ∷ []
