-- A tree without its offsets: each is 0. Two trees are the same up to offsets where these are equal.
use Rattle.std.specs.Prelude.{◌≡◌, ℕ, List, map}
use Rattle.std.specs.Option.{option_map}
use Rattle.xanadu_tree.specs.declared.tree.declaration.Identifier.{Identifier}
use Rattle.xanadu_tree.specs.declared.tree.index.Binder.{Binder}
use Rattle.xanadu_tree.specs.declared.tree.index.IndexTerm.{IndexTerm}
use Rattle.xanadu_tree.specs.declared.tree.index.IndexTerm.TheVariants as index_term
use Rattle.xanadu_tree.specs.declared.tree.index.Sign.{Sign}
use Rattle.xanadu_tree.specs.declared.tree.types.Element.{Element}
use Rattle.xanadu_tree.specs.declared.tree.types.Element.TheVariants as element
use Rattle.xanadu_tree.specs.PlainTree as plain
use Rattle.xanadu_tree.specs.Written.{Reads}

abbrev pub unplaced_name : Identifier → Identifier
unplaced_name x = record { name = x.name; at = 0 }

-- ---- quantifiers, index expressions and types

abbrev pub unplaced_index_term : IndexTerm → IndexTerm
unplaced_index_term (index_term.Number number at) = index_term.Number number 0
unplaced_index_term (index_term.Product number variable at) = index_term.Product number (unplaced_name variable) 0
unplaced_index_term (index_term.Variable variable) = index_term.Variable (unplaced_name variable)

abbrev pub unplaced_signed : Sign × IndexTerm → Sign × IndexTerm
unplaced_signed t = (t.0, unplaced_index_term t.1)

abbrev pub unplaced_index : plain.IndexExpression → plain.IndexExpression
unplaced_index e = record { negative = e.negative; first = unplaced_index_term e.first; rest = map unplaced_signed e.rest; at = 0 }

abbrev pub unplaced_relation : plain.Relation → plain.Relation
unplaced_relation r = record { left = unplaced_index r.left; relation = r.relation; right = unplaced_index r.right }

abbrev pub unplaced_binder : Binder → Binder
unplaced_binder b = record { name = unplaced_name b.name; sort = b.sort }

abbrev pub unplaced_quantifier : plain.Quantifier → plain.Quantifier
unplaced_quantifier q = record { binders = map unplaced_binder q.binders; relations = map unplaced_relation q.relations; at = 0 }

abbrev pub unplaced_element : Element → Element
unplaced_element (element.Int at) = element.Int 0
unplaced_element (element.Bool at) = element.Bool 0
unplaced_element (element.Named name) = element.Named (unplaced_name name)

abbrev pub unplaced_type : plain.WrittenType → plain.WrittenType
unplaced_type (plain.Int at) = plain.Int 0
unplaced_type (plain.IntOf index at) = plain.IntOf (unplaced_index index) 0
unplaced_type (plain.Bool at) = plain.Bool 0
unplaced_type (plain.Named name) = plain.Named (unplaced_name name)
unplaced_type (plain.Array element length) = plain.Array (unplaced_element element) (option_map unplaced_index length)

abbrev pub unplaced_parameter : plain.Parameter → plain.Parameter
unplaced_parameter p = record { name = unplaced_name p.name; ty = unplaced_type p.ty }

abbrev pub unplaced_clause : plain.WrittenClause → plain.WrittenClause
unplaced_clause c = record {
  quantifier = option_map unplaced_quantifier c.quantifier;
  variables = map unplaced_parameter c.variables;
  at = 0;
}

-- ---- expressions

unfoldable mutual
  pub unplaced_expression : plain.Expression → plain.Expression
  unplaced_expression (plain.ExpressionOf first rest at) = plain.ExpressionOf (unplaced_conjunction first) (unplaced_conjunctions rest) 0

  pub unplaced_conjunctions : plain.Conjunctions → plain.Conjunctions
  unplaced_conjunctions plain.NoConjunction = plain.NoConjunction
  unplaced_conjunctions (plain.AConjunction conjunction at others) =
      plain.AConjunction (unplaced_conjunction conjunction) 0 (unplaced_conjunctions others)

  pub unplaced_conjunction : plain.Conjunction → plain.Conjunction
  unplaced_conjunction (plain.ConjunctionOf first rest at) = plain.ConjunctionOf (unplaced_negation first) (unplaced_negations rest) 0

  pub unplaced_negations : plain.Negations → plain.Negations
  unplaced_negations plain.NoNegation = plain.NoNegation
  unplaced_negations (plain.ANegation negation at others) = plain.ANegation (unplaced_negation negation) 0 (unplaced_negations others)

  pub unplaced_negation : plain.Negation → plain.Negation
  unplaced_negation (plain.NegationOf negated operand at) = plain.NegationOf negated (unplaced_comparison operand) 0

  pub unplaced_comparison : plain.Comparison → plain.Comparison
  unplaced_comparison (plain.ComparisonOf left right at) = plain.ComparisonOf (unplaced_sum left) (unplaced_comparand right) 0

  pub unplaced_comparand : plain.Comparand → plain.Comparand
  unplaced_comparand plain.NoComparand = plain.NoComparand
  unplaced_comparand (plain.AComparand rel right) = plain.AComparand rel (unplaced_sum right)

  pub unplaced_sum : plain.Sum → plain.Sum
  unplaced_sum (plain.SumOf first rest at) = plain.SumOf (unplaced_product first) (unplaced_addends rest) 0

  pub unplaced_addends : plain.Addends → plain.Addends
  unplaced_addends plain.NoAddend = plain.NoAddend
  unplaced_addends (plain.AnAddend op product at others) = plain.AnAddend op (unplaced_product product) 0 (unplaced_addends others)

  pub unplaced_product : plain.Product → plain.Product
  unplaced_product (plain.ProductOf first rest at) = plain.ProductOf (unplaced_unary first) (unplaced_factors rest) 0

  pub unplaced_factors : plain.Factors → plain.Factors
  unplaced_factors plain.NoFactor = plain.NoFactor
  unplaced_factors (plain.AFactor op unary at others) = plain.AFactor op (unplaced_unary unary) 0 (unplaced_factors others)

  pub unplaced_unary : plain.Unary → plain.Unary
  unplaced_unary (plain.UnaryOf negative operand at) = plain.UnaryOf negative (unplaced_postfix operand) 0

  pub unplaced_postfix : plain.Postfix → plain.Postfix
  unplaced_postfix (plain.PostfixOf primary indices at) = plain.PostfixOf (unplaced_primary primary) (unplaced_indices indices) 0

  pub unplaced_indices : plain.Indices → plain.Indices
  unplaced_indices plain.NoIndex = plain.NoIndex
  unplaced_indices (plain.AnIndex index at others) = plain.AnIndex (unplaced_expression index) 0 (unplaced_indices others)

  pub unplaced_primary : plain.Primary → plain.Primary
  unplaced_primary (plain.Number number at) = plain.Number number 0
  unplaced_primary (plain.Boolean truth at) = plain.Boolean truth 0
  unplaced_primary (plain.Variable name) = plain.Variable (unplaced_name name)
  unplaced_primary (plain.Call function arguments) = plain.Call (unplaced_name function) (unplaced_expressions arguments)
  unplaced_primary (plain.Make ty arguments) = plain.Make (unplaced_name ty) (unplaced_expressions arguments)
  unplaced_primary (plain.Length array at) = plain.Length (unplaced_expression array) 0
  unplaced_primary (plain.New element length fill at) =
      plain.New (unplaced_element element) (unplaced_expression length) (unplaced_expression fill) 0
  unplaced_primary (plain.Group expression at) = plain.Group (unplaced_expression expression) 0

  pub unplaced_expressions : plain.Expressions → plain.Expressions
  unplaced_expressions plain.NoExpression = plain.NoExpression
  unplaced_expressions (plain.AnExpression expression others) = plain.AnExpression (unplaced_expression expression) (unplaced_expressions others)

-- ---- statements

unfoldable mutual
  pub unplaced_statement : plain.Statement → plain.Statement
  unplaced_statement (plain.Declare name value at) = plain.Declare (unplaced_name name) (unplaced_expression value) 0
  unplaced_statement (plain.Split names value at) = plain.Split (map unplaced_name names) (unplaced_expression value) 0
  unplaced_statement (plain.Assign target indices value) =
      plain.Assign (unplaced_name target) (unplaced_indices indices) (unplaced_expression value)
  unplaced_statement (plain.Do function arguments) = plain.Do (unplaced_name function) (unplaced_expressions arguments)
  unplaced_statement (plain.Print value at) = plain.Print (unplaced_expression value) 0
  unplaced_statement (plain.If test on_true on_false join at) =
      plain.If (unplaced_expression test) (unplaced_block on_true) (unplaced_branch on_false) (option_map unplaced_clause join) 0
  unplaced_statement (plain.While test head body at) =
      plain.While (unplaced_expression test) (option_map unplaced_clause head) (unplaced_block body) 0
  unplaced_statement (plain.Return value at) = plain.Return (option_map unplaced_expression value) 0

  pub unplaced_branch : plain.Branch → plain.Branch
  unplaced_branch plain.NoBranch = plain.NoBranch
  unplaced_branch (plain.ABranch block) = plain.ABranch (unplaced_block block)

  pub unplaced_block : plain.Block → plain.Block
  unplaced_block (plain.BlockOf statements at) = plain.BlockOf (unplaced_statements statements) 0

  pub unplaced_statements : plain.Statements → plain.Statements
  unplaced_statements plain.NoStatement = plain.NoStatement
  unplaced_statements (plain.AStatement statement others) = plain.AStatement (unplaced_statement statement) (unplaced_statements others)

-- ---- declarations

abbrev pub unplaced_type_body : plain.TypeBody → plain.TypeBody
unplaced_type_body (plain.Cell cell) = plain.Cell (unplaced_type cell)
unplaced_type_body (plain.Tuple parts) = plain.Tuple (map unplaced_type parts)

abbrev pub unplaced_type_declaration : plain.TypeDeclaration → plain.TypeDeclaration
unplaced_type_declaration d = record {
  name = unplaced_name d.name;
  quantifier = option_map unplaced_quantifier d.quantifier;
  body = unplaced_type_body d.body;
  at = 0;
}

abbrev pub unplaced_result : plain.ResultType → plain.ResultType
unplaced_result (plain.NoValue at) = plain.NoValue 0
unplaced_result (plain.AValue quantifier value at) = plain.AValue (option_map unplaced_quantifier quantifier) (unplaced_type value) 0

abbrev pub unplaced_function : plain.FunctionDeclaration → plain.FunctionDeclaration
unplaced_function f = record {
  name = unplaced_name f.name;
  quantifier = option_map unplaced_quantifier f.quantifier;
  parameters = map unplaced_parameter f.parameters;
  result = unplaced_result f.result;
  body = unplaced_block f.body;
  at = 0;
}

abbrev pub unplaced_declaration : plain.Declaration → plain.Declaration
unplaced_declaration (plain.OfType d) = plain.OfType (unplaced_type_declaration d)
unplaced_declaration (plain.OfFunction f) = plain.OfFunction (unplaced_function f)

abbrev pub unplaced : plain.Tree → plain.Tree
unplaced tree = record { declarations = map unplaced_declaration tree.declarations; at = 0 }

-- the bytes are read as the tree, up to its offsets
pub record ReadsAlike (bytes : List ℕ) (tree : plain.Tree) : Type 0 where
  pub read : plain.Tree
  pub reads : Reads bytes read
  pub alike : unplaced read ≡ unplaced tree
