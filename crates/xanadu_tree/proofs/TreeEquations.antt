-- The plain tree of each kind of node of a source's tree, by the plain trees of its children.
--
-- A struct that leads back to itself is seen by its fields, as code reads them, and made from its fields, as code makes it.
use Rattle.std.proofs.Common.{◌≡◌, ℕ, ℤ, Bool as Truth, map, Option, rules}
use Rattle.std.specs.Prelude.{Vec, Box}
use Rattle.std.specs.Option.{option_map}
use Rattle.std.specs.declared.alloc.Global.{Global}
use Rattle.xanadu_tree.specs.declared.expr.Op.{Op}
use Rattle.xanadu_tree.specs.declared.expr.Rel.{Rel}
use Rattle.xanadu_tree.specs.declared.tree.declaration.Identifier.{Identifier}
use Rattle.xanadu_tree.specs.declared.tree.expression.Comparison.{Comparison, out-Comparison, roll-Comparison}
use Rattle.xanadu_tree.specs.declared.tree.expression.Conjunction.{Conjunction, out-Conjunction, roll-Conjunction}
use Rattle.xanadu_tree.specs.declared.tree.expression.Expression.{Expression, out-Expression, roll-Expression}
use Rattle.xanadu_tree.specs.declared.tree.expression.Negation.{Negation, out-Negation, roll-Negation}
use Rattle.xanadu_tree.specs.declared.tree.expression.Postfix.{Postfix, out-Postfix, roll-Postfix}
use Rattle.xanadu_tree.specs.declared.tree.expression.Primary.{Primary}
use Rattle.xanadu_tree.specs.declared.tree.expression.Primary.TheFolds.{the_lemmas as expression_folds}
use Rattle.xanadu_tree.specs.declared.tree.expression.Primary.TheVariants as primary
use Rattle.xanadu_tree.specs.declared.tree.expression.Product.{Product, out-Product, roll-Product}
use Rattle.xanadu_tree.specs.declared.tree.expression.Sum.{Sum, out-Sum, roll-Sum}
use Rattle.xanadu_tree.specs.declared.tree.expression.Unary.{Unary, out-Unary, roll-Unary}
use Rattle.xanadu_tree.specs.declared.tree.statement.Block.{Block}
use Rattle.xanadu_tree.specs.declared.tree.statement.Statement.TheFolds.{the_lemmas as statement_folds}
use Rattle.xanadu_tree.specs.declared.tree.statement.Statement.TheVariants as statement
use Rattle.xanadu_tree.specs.declared.tree.statement.WrittenClause.{WrittenClause}
use Rattle.xanadu_tree.specs.declared.tree.types.Element.{Element}
use Rattle.xanadu_tree.specs.PlainTree as plain
use Rattle.xanadu_tree.specs.PlainTreeOf.{to_conjunctions, to_negations, to_comparand, to_addends, to_factors, to_branch, to_statements, plain_expression, plain_conjunction, plain_negation, plain_comparison, plain_sum, plain_product, plain_unary, plain_postfix, plain_primary, plain_indices, plain_expressions, plain_statement, plain_block, plain_clause}

-- ---- by its fields

pub plain_expression-out : (e : Expression) → plain_expression e ≡ plain.ExpressionOf (plain_conjunction (out-Expression e).first) (to_conjunctions (map (λ c. (plain_conjunction c.0, c.1)) (out-Expression e).rest.items)) (out-Expression e).at
unfolding plain_expression plain_conjunction
plain_expression-out e = search (rules, expression_folds)

pub plain_conjunction-out : (c : Conjunction) → plain_conjunction c ≡ plain.ConjunctionOf (plain_negation (out-Conjunction c).first) (to_negations (map (λ n. (plain_negation n.0, n.1)) (out-Conjunction c).rest.items)) (out-Conjunction c).at
unfolding plain_conjunction plain_negation
plain_conjunction-out c = search (rules, expression_folds)

pub plain_negation-out : (n : Negation) → plain_negation n ≡ plain.NegationOf (out-Negation n).negated (plain_comparison (out-Negation n).operand) (out-Negation n).at
unfolding plain_negation plain_comparison
plain_negation-out n = search (rules, expression_folds)

pub plain_comparison-out : (c : Comparison) → plain_comparison c ≡ plain.ComparisonOf (plain_sum (out-Comparison c).left) (to_comparand (option_map (λ right. (right.0, plain_sum right.1.value)) (out-Comparison c).right)) (out-Comparison c).at
unfolding plain_comparison plain_sum
plain_comparison-out c = search (rules, expression_folds)

pub plain_sum-out : (s : Sum) → plain_sum s ≡ plain.SumOf (plain_product (out-Sum s).first) (to_addends (map (λ a. (a.0, plain_product a.1, a.2)) (out-Sum s).rest.items)) (out-Sum s).at
unfolding plain_sum plain_product
plain_sum-out s = search (rules, expression_folds)

pub plain_product-out : (p : Product) → plain_product p ≡ plain.ProductOf (plain_unary (out-Product p).first) (to_factors (map (λ f. (f.0, plain_unary f.1, f.2)) (out-Product p).rest.items)) (out-Product p).at
unfolding plain_product plain_unary
plain_product-out p = search (rules, expression_folds)

pub plain_unary-out : (u : Unary) → plain_unary u ≡ plain.UnaryOf (out-Unary u).negative (plain_postfix (out-Unary u).operand) (out-Unary u).at
unfolding plain_unary plain_postfix
plain_unary-out u = search (rules, expression_folds)

pub plain_postfix-out : (p : Postfix) → plain_postfix p ≡ plain.PostfixOf (plain_primary (out-Postfix p).primary) (plain_indices (out-Postfix p).indices.items) (out-Postfix p).at
unfolding plain_postfix plain_primary plain_expression
plain_postfix-out p = search (rules, expression_folds)

-- ---- from its fields

pub plain_expression-made : (first : Conjunction) (rest : Vec (Conjunction × ℕ) Global) (at : ℕ) → plain_expression (roll-Expression (record { first = first; rest = rest; at = at })) ≡ plain.ExpressionOf (plain_conjunction first) (to_conjunctions (map (λ c. (plain_conjunction c.0, c.1)) rest.items)) at
unfolding plain_expression plain_conjunction
plain_expression-made first rest at = search (rules, expression_folds)

pub plain_conjunction-made : (first : Negation) (rest : Vec (Negation × ℕ) Global) (at : ℕ) → plain_conjunction (roll-Conjunction (record { first = first; rest = rest; at = at })) ≡ plain.ConjunctionOf (plain_negation first) (to_negations (map (λ n. (plain_negation n.0, n.1)) rest.items)) at
unfolding plain_conjunction plain_negation
plain_conjunction-made first rest at = search (rules, expression_folds)

pub plain_negation-made : (negated : Truth) (operand : Comparison) (at : ℕ) → plain_negation (roll-Negation (record { negated = negated; operand = operand; at = at })) ≡ plain.NegationOf negated (plain_comparison operand) at
unfolding plain_negation plain_comparison
plain_negation-made negated operand at = search (rules, expression_folds)

pub plain_comparison-made : (left : Sum) (right : Option (Rel × Box Sum Global)) (at : ℕ) → plain_comparison (roll-Comparison (record { left = left; right = right; at = at })) ≡ plain.ComparisonOf (plain_sum left) (to_comparand (option_map (λ right. (right.0, plain_sum right.1.value)) right)) at
unfolding plain_comparison plain_sum
plain_comparison-made left right at = search (rules, expression_folds)

pub plain_sum-made : (first : Product) (rest : Vec (Op × Product × ℕ) Global) (at : ℕ) → plain_sum (roll-Sum (record { first = first; rest = rest; at = at })) ≡ plain.SumOf (plain_product first) (to_addends (map (λ a. (a.0, plain_product a.1, a.2)) rest.items)) at
unfolding plain_sum plain_product
plain_sum-made first rest at = search (rules, expression_folds)

pub plain_product-made : (first : Unary) (rest : Vec (Op × Unary × ℕ) Global) (at : ℕ) → plain_product (roll-Product (record { first = first; rest = rest; at = at })) ≡ plain.ProductOf (plain_unary first) (to_factors (map (λ f. (f.0, plain_unary f.1, f.2)) rest.items)) at
unfolding plain_product plain_unary
plain_product-made first rest at = search (rules, expression_folds)

pub plain_unary-made : (negative : Truth) (operand : Postfix) (at : ℕ) → plain_unary (roll-Unary (record { negative = negative; operand = operand; at = at })) ≡ plain.UnaryOf negative (plain_postfix operand) at
unfolding plain_unary plain_postfix
plain_unary-made negative operand at = search (rules, expression_folds)

pub plain_postfix-made : (p : Primary) (indices : Vec (Expression × ℕ) Global) (at : ℕ) → plain_postfix (roll-Postfix (record { primary = p; indices = indices; at = at })) ≡ plain.PostfixOf (plain_primary p) (plain_indices indices.items) at
unfolding plain_postfix plain_primary plain_expression
plain_postfix-made p indices at = search (rules, expression_folds)

-- ---- variants of a primary

pub plain_primary-Number : (number : ℤ) (at : ℕ) → plain_primary (primary.Number number at) ≡ plain.Number number at
unfolding plain_primary
plain_primary-Number number at = search (rules, expression_folds)

pub plain_primary-Truth : (truth : Truth) (at : ℕ) → plain_primary (primary.Truth truth at) ≡ plain.Boolean truth at
unfolding plain_primary
plain_primary-Truth truth at = search (rules, expression_folds)

pub plain_primary-Variable : (name : Identifier) → plain_primary (primary.Variable name) ≡ plain.Variable name
unfolding plain_primary
plain_primary-Variable name = search (rules, expression_folds)

pub plain_primary-Call : (function : Identifier) (arguments : Vec Expression Global) → plain_primary (primary.Call function arguments) ≡ plain.Call function (plain_expressions arguments.items)
unfolding plain_primary plain_expression
plain_primary-Call function arguments = search (rules, expression_folds)

pub plain_primary-Make : (ty : Identifier) (arguments : Vec Expression Global) → plain_primary (primary.Make ty arguments) ≡ plain.Make ty (plain_expressions arguments.items)
unfolding plain_primary plain_expression
plain_primary-Make ty arguments = search (rules, expression_folds)

pub plain_primary-Length : (array : Box Expression Global) (at : ℕ) → plain_primary (primary.Length array at) ≡ plain.Length (plain_expression array.value) at
unfolding plain_primary plain_expression
plain_primary-Length array at = search (rules, expression_folds)

pub plain_primary-New : (element : Element) (length : Box Expression Global) (fill : Box Expression Global) (at : ℕ) → plain_primary (primary.New element length fill at) ≡ plain.New element (plain_expression length.value) (plain_expression fill.value) at
unfolding plain_primary plain_expression
plain_primary-New element length fill at = search (rules, expression_folds)

pub plain_primary-Group : (e : Box Expression Global) (at : ℕ) → plain_primary (primary.Group e at) ≡ plain.Group (plain_expression e.value) at
unfolding plain_primary plain_expression
plain_primary-Group e at = search (rules, expression_folds)

-- ---- statements

pub plain_statement-Declare : (name : Identifier) (value : Expression) (at : ℕ) → plain_statement (statement.Declare name value at) ≡ plain.Declare name (plain_expression value) at
unfolding plain_statement
plain_statement-Declare name value at = search (rules, statement_folds)

pub plain_statement-Split : (names : Vec Identifier Global) (value : Expression) (at : ℕ) → plain_statement (statement.Split names value at) ≡ plain.Split names.items (plain_expression value) at
unfolding plain_statement
plain_statement-Split names value at = search (rules, statement_folds)

pub plain_statement-Assign : (target : Identifier) (indices : Vec (Expression × ℕ) Global) (value : Expression) → plain_statement (statement.Assign target indices value) ≡ plain.Assign target (plain_indices indices.items) (plain_expression value)
unfolding plain_statement
plain_statement-Assign target indices value = search (rules, statement_folds)

pub plain_statement-Call : (function : Identifier) (arguments : Vec Expression Global) → plain_statement (statement.Call function arguments) ≡ plain.Do function (plain_expressions arguments.items)
unfolding plain_statement
plain_statement-Call function arguments = search (rules, statement_folds)

pub plain_statement-Print : (value : Expression) (at : ℕ) → plain_statement (statement.Print value at) ≡ plain.Print (plain_expression value) at
unfolding plain_statement
plain_statement-Print value at = search (rules, statement_folds)

pub plain_statement-If : (test : Expression) (on_true : Block) (on_false : Option Block) (join : Option WrittenClause) (at : ℕ) → plain_statement (statement.If test on_true on_false join at) ≡ plain.If (plain_expression test) (plain_block on_true) (to_branch (option_map plain_block on_false)) (option_map plain_clause join) at
unfolding plain_statement plain_block
plain_statement-If test on_true on_false join at = search (rules, statement_folds)

pub plain_statement-While : (test : Expression) (head : Option WrittenClause) (body : Block) (at : ℕ) → plain_statement (statement.While test head body at) ≡ plain.While (plain_expression test) (option_map plain_clause head) (plain_block body) at
unfolding plain_statement plain_block
plain_statement-While test head body at = search (rules, statement_folds)

pub plain_statement-Return : (value : Option Expression) (at : ℕ) → plain_statement (statement.Return value at) ≡ plain.Return (option_map plain_expression value) at
unfolding plain_statement
plain_statement-Return value at = search (rules, statement_folds)

pub plain_block-is : (block : Block) → plain_block block ≡ plain.BlockOf (to_statements (map plain_statement block.statements.items)) block.at
unfolding plain_block plain_statement
plain_block-is block = search (rules, statement_folds)

-- the equations that code needs which reads a tree
pub ruleset plain_nodes = (plain_expression-out, plain_conjunction-out, plain_negation-out, plain_comparison-out, plain_sum-out, plain_product-out, plain_unary-out, plain_postfix-out, plain_primary-Number, plain_primary-Truth, plain_primary-Variable, plain_primary-Call, plain_primary-Make, plain_primary-Length, plain_primary-New, plain_primary-Group, plain_statement-Declare, plain_statement-Split, plain_statement-Assign, plain_statement-Call, plain_statement-Print, plain_statement-If, plain_statement-While, plain_statement-Return, plain_block-is)

-- the equations that code needs which makes a tree
pub ruleset made_nodes = (plain_expression-made, plain_conjunction-made, plain_negation-made, plain_comparison-made, plain_sum-made, plain_product-made, plain_unary-made, plain_postfix-made, plain_primary-Number, plain_primary-Truth, plain_primary-Variable, plain_primary-Call, plain_primary-Make, plain_primary-Length, plain_primary-New, plain_primary-Group, plain_statement-Declare, plain_statement-Split, plain_statement-Assign, plain_statement-Call, plain_statement-Print, plain_statement-If, plain_statement-While, plain_statement-Return, plain_block-is)
