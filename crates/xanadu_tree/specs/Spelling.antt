-- The grammar of sources, as what spells a tree: its tokens, and the offsets that the tree records of them.
--
--     program  := { typedecl | fundecl }
--     typedecl := "type" UPPER "=" [quant] ( type | "(" type {"," type} ")" ) ";"
--     fundecl  := "fun" LOWER [quant] "(" [param {"," param}] ")" ":" result block
--     param    := LOWER ":" type
--     result   := "unit" | [quant] type
--     quant    := "{" binder {"," binder} ["|" rel {"," rel}] "}"
--     binder   := LOWER ":" ("int" | "nat")
--     rel      := iexp ("<" | "<=" | ">" | ">=" | "=") iexp
--     iexp     := ["-"] iterm {("+" | "-") iterm}
--     iterm    := NUM | NUM "*" LOWER | LOWER
--     elem     := "int" | "bool" | UPPER
--     type     := "int" | "int" "(" iexp ")" | "bool" | UPPER | elem "[" [iexp] "]"
--     block    := "{" {stmt} "}"
--     clause   := [quant] "(" param {"," param} ")"
--     stmt     := "var" LOWER "=" expr ";"
--               | "let" "(" LOWER {"," LOWER} ")" "=" expr ";"
--               | LOWER {"[" expr "]"} "=" expr ";"
--               | LOWER "(" [args] ")" ";"
--               | "print" expr ";"
--               | "if" "(" expr ")" block ["else" block] ["join" clause]
--               | "while" "(" expr ")" ["with" clause] block
--               | "return" [expr] ";"
--     args     := expr {"," expr}
--     expr     := conj {"||" conj}
--     conj     := neg {"&&" neg}
--     neg      := ["!"] cmp
--     cmp      := sum [("<" | "<=" | ">" | ">=" | "==" | "!=") sum]
--     sum      := prod {("+" | "-") prod}
--     prod     := unary {("*" | "/" | "%") unary}
--     unary    := ["-"] post
--     post     := prim {"[" expr "]"}
--     prim     := NUM | "true" | "false" | LOWER | LOWER "(" [args] ")"
--               | UPPER "(" args ")" | "len" "(" expr ")"
--               | "new" elem "[" expr "]" "(" expr ")" | "(" expr ")"
use Rattle.std.specs.Prelude.{ℕ, Bool as Truth, true, false, List, [], ◌∷◌, ◌++◌, Option, Some, None}
use Rattle.xanadu_lexer.specs.declared.keyword.Keyword.{Keyword}
use Rattle.xanadu_lexer.specs.declared.keyword.Keyword.TheVariants as keyword
use Rattle.xanadu_lexer.specs.declared.symbol.Symbol.{Symbol}
use Rattle.xanadu_lexer.specs.declared.symbol.Symbol.TheVariants as symbol
use Rattle.xanadu_lexer.specs.declared.token.TokenKind.TheVariants as kind
use Rattle.xanadu_tree.specs.declared.expr.Op.{Op}
use Rattle.xanadu_tree.specs.declared.expr.Op.TheVariants as op
use Rattle.xanadu_tree.specs.declared.expr.Rel.{Rel}
use Rattle.xanadu_tree.specs.declared.expr.Rel.TheVariants as rel
use Rattle.xanadu_tree.specs.declared.tree.declaration.Identifier.{Identifier}
use Rattle.xanadu_tree.specs.declared.tree.index.Binder.{Binder}
use Rattle.xanadu_tree.specs.declared.tree.index.IndexRelation.{IndexRelation}
use Rattle.xanadu_tree.specs.declared.tree.index.IndexRelation.TheVariants as index_relation
use Rattle.xanadu_tree.specs.declared.tree.index.IndexTerm.{IndexTerm}
use Rattle.xanadu_tree.specs.declared.tree.index.IndexTerm.TheVariants as index_term
use Rattle.xanadu_tree.specs.declared.tree.index.Sign.{Sign}
use Rattle.xanadu_tree.specs.declared.tree.index.Sign.TheVariants as sign
use Rattle.xanadu_tree.specs.declared.tree.index.Sort.{Sort}
use Rattle.xanadu_tree.specs.declared.tree.index.Sort.TheVariants as sort
use Rattle.xanadu_tree.specs.declared.tree.types.Element.{Element}
use Rattle.xanadu_tree.specs.declared.tree.types.Element.TheVariants as element
use Rattle.xanadu_tree.specs.PlainTree as plain
use Rattle.xanadu_tree.specs.Pieces.{Piece, placed, word, word_at, mark, mark_at, with_commas, optional}

-- ---- single tokens

abbrev pub lower : Identifier → Piece
lower x = placed (kind.Lower x.name) x.at

abbrev pub upper : Identifier → Piece
upper x = placed (kind.Upper x.name) x.at

abbrev pub op_symbol : Op → Symbol
op_symbol op.Add = symbol.Plus
op_symbol op.Sub = symbol.Minus
op_symbol op.Mul = symbol.Star
op_symbol op.Div = symbol.Slash
op_symbol op.Mod = symbol.Percent

abbrev pub rel_symbol : Rel → Symbol
rel_symbol rel.Lt = symbol.Less
rel_symbol rel.Le = symbol.LessEqual
rel_symbol rel.Gt = symbol.Greater
rel_symbol rel.Ge = symbol.GreaterEqual
rel_symbol rel.Eq = symbol.EqualEqual
rel_symbol rel.Ne = symbol.NotEqual

abbrev pub index_relation_symbol : IndexRelation → Symbol
index_relation_symbol index_relation.Less = symbol.Less
index_relation_symbol index_relation.AtMost = symbol.LessEqual
index_relation_symbol index_relation.Greater = symbol.Greater
index_relation_symbol index_relation.AtLeast = symbol.GreaterEqual
index_relation_symbol index_relation.Equal = symbol.Equal

abbrev pub sign_symbol : Sign → Symbol
sign_symbol sign.Plus = symbol.Plus
sign_symbol sign.Minus = symbol.Minus

abbrev pub sort_keyword : Sort → Keyword
sort_keyword sort.Int = keyword.Int
sort_keyword sort.Nat = keyword.Nat

abbrev pub truth_keyword : Truth → Keyword
truth_keyword true = keyword.True
truth_keyword false = keyword.False

-- a mark that stands there or is left out
abbrev pub mark_if : Truth → Symbol → ℕ → List Piece
mark_if true symbol at = mark_at symbol at ∷ []
mark_if false symbol at = []

abbrev pub semicolon : List Piece
semicolon = mark symbol.Semicolon ∷ []

-- ---- quantifiers and index expressions

abbrev pub index_term_pieces : IndexTerm → List Piece
index_term_pieces (index_term.Number number at) = placed (kind.Num number) at ∷ []
index_term_pieces (index_term.Product number variable at) = placed (kind.Num number) at ∷ mark symbol.Star ∷ lower variable ∷ []
index_term_pieces (index_term.Variable variable) = lower variable ∷ []

abbrev pub signed_pieces : List (Sign × IndexTerm) → List Piece
signed_pieces [] = []
signed_pieces (t ∷ ts) = mark (sign_symbol t.0) ∷ (index_term_pieces t.1 ++ signed_pieces ts)

abbrev pub index_pieces : plain.IndexExpression → List Piece
index_pieces e = mark_if e.negative symbol.Minus e.at ++ (index_term_pieces e.first ++ signed_pieces e.rest)

abbrev pub relation_pieces : plain.Relation → List Piece
relation_pieces r = index_pieces r.left ++ (mark (index_relation_symbol r.relation) ∷ index_pieces r.right)

abbrev pub relations_pieces : List plain.Relation → List Piece
relations_pieces [] = []
relations_pieces (r ∷ rs) = mark symbol.Bar ∷ with_commas relation_pieces (r ∷ rs)

abbrev pub binder_pieces : Binder → List Piece
binder_pieces b = lower b.name ∷ mark symbol.Colon ∷ word (sort_keyword b.sort) ∷ []

abbrev pub quantifier_pieces : plain.Quantifier → List Piece
quantifier_pieces q =
    mark_at symbol.LeftBrace q.at ∷ (with_commas binder_pieces q.binders ++ (relations_pieces q.relations ++ (mark symbol.RightBrace ∷ [])))

-- ---- types

abbrev pub element_piece : Element → Piece
element_piece (element.Int at) = word_at keyword.Int at
element_piece (element.Bool at) = word_at keyword.Bool at
element_piece (element.Named name) = upper name

abbrev pub type_pieces : plain.WrittenType → List Piece
type_pieces (plain.Int at) = word_at keyword.Int at ∷ []
type_pieces (plain.IntOf index at) = word_at keyword.Int at ∷ mark symbol.LeftParen ∷ (index_pieces index ++ (mark symbol.RightParen ∷ []))
type_pieces (plain.Bool at) = word_at keyword.Bool at ∷ []
type_pieces (plain.Named name) = upper name ∷ []
type_pieces (plain.Array element length) =
    element_piece element ∷ mark symbol.LeftBracket ∷ (optional index_pieces length ++ (mark symbol.RightBracket ∷ []))

abbrev pub parameter_pieces : plain.Parameter → List Piece
parameter_pieces p = lower p.name ∷ mark symbol.Colon ∷ type_pieces p.ty

-- the parenthesis behind a quantifier that is there or left out
abbrev pub paren_behind : Option plain.Quantifier → ℕ → Piece
paren_behind None at = mark_at symbol.LeftParen at
paren_behind (Some quantifier) at = mark symbol.LeftParen

abbrev pub clause_pieces : plain.WrittenClause → List Piece
clause_pieces c =
    optional quantifier_pieces c.quantifier
    ++ (paren_behind c.quantifier c.at ∷ (with_commas parameter_pieces c.variables ++ (mark symbol.RightParen ∷ [])))

-- ---- expressions

unfoldable mutual
  pub expression_pieces : plain.Expression → List Piece
  expression_pieces (plain.ExpressionOf first rest at) = conjunction_pieces first ++ conjunctions_pieces rest

  pub conjunctions_pieces : plain.Conjunctions → List Piece
  conjunctions_pieces plain.NoConjunction = []
  conjunctions_pieces (plain.AConjunction conjunction at others) =
      mark_at symbol.Or at ∷ (conjunction_pieces conjunction ++ conjunctions_pieces others)

  pub conjunction_pieces : plain.Conjunction → List Piece
  conjunction_pieces (plain.ConjunctionOf first rest at) = negation_pieces first ++ negations_pieces rest

  pub negations_pieces : plain.Negations → List Piece
  negations_pieces plain.NoNegation = []
  negations_pieces (plain.ANegation negation at others) = mark_at symbol.And at ∷ (negation_pieces negation ++ negations_pieces others)

  pub negation_pieces : plain.Negation → List Piece
  negation_pieces (plain.NegationOf negated operand at) = mark_if negated symbol.Not at ++ comparison_pieces operand

  pub comparison_pieces : plain.Comparison → List Piece
  comparison_pieces (plain.ComparisonOf left right at) = sum_pieces left ++ comparand_pieces right

  pub comparand_pieces : plain.Comparand → List Piece
  comparand_pieces plain.NoComparand = []
  comparand_pieces (plain.AComparand rel right) = mark (rel_symbol rel) ∷ sum_pieces right

  pub sum_pieces : plain.Sum → List Piece
  sum_pieces (plain.SumOf first rest at) = product_pieces first ++ addends_pieces rest

  pub addends_pieces : plain.Addends → List Piece
  addends_pieces plain.NoAddend = []
  addends_pieces (plain.AnAddend op product at others) = mark_at (op_symbol op) at ∷ (product_pieces product ++ addends_pieces others)

  pub product_pieces : plain.Product → List Piece
  product_pieces (plain.ProductOf first rest at) = unary_pieces first ++ factors_pieces rest

  pub factors_pieces : plain.Factors → List Piece
  factors_pieces plain.NoFactor = []
  factors_pieces (plain.AFactor op unary at others) = mark_at (op_symbol op) at ∷ (unary_pieces unary ++ factors_pieces others)

  pub unary_pieces : plain.Unary → List Piece
  unary_pieces (plain.UnaryOf negative operand at) = mark_if negative symbol.Minus at ++ postfix_pieces operand

  pub postfix_pieces : plain.Postfix → List Piece
  postfix_pieces (plain.PostfixOf primary indices at) = primary_pieces primary ++ indices_pieces indices

  pub indices_pieces : plain.Indices → List Piece
  indices_pieces plain.NoIndex = []
  indices_pieces (plain.AnIndex index at others) =
      mark_at symbol.LeftBracket at ∷ (expression_pieces index ++ (mark symbol.RightBracket ∷ indices_pieces others))

  pub primary_pieces : plain.Primary → List Piece
  primary_pieces (plain.Number number at) = placed (kind.Num number) at ∷ []
  primary_pieces (plain.Boolean truth at) = word_at (truth_keyword truth) at ∷ []
  primary_pieces (plain.Variable name) = lower name ∷ []
  primary_pieces (plain.Call function arguments) =
      lower function ∷ mark symbol.LeftParen ∷ (arguments_pieces arguments ++ (mark symbol.RightParen ∷ []))
  primary_pieces (plain.Make ty arguments) =
      upper ty ∷ mark symbol.LeftParen ∷ (arguments_pieces arguments ++ (mark symbol.RightParen ∷ []))
  primary_pieces (plain.Length array at) =
      word_at keyword.Len at ∷ mark symbol.LeftParen ∷ (expression_pieces array ++ (mark symbol.RightParen ∷ []))
  primary_pieces (plain.New element length fill at) =
      word_at keyword.New at ∷ element_piece element ∷ mark symbol.LeftBracket
      ∷ (expression_pieces length ++ (mark symbol.RightBracket ∷ mark symbol.LeftParen ∷ (expression_pieces fill ++ (mark symbol.RightParen ∷ []))))
  primary_pieces (plain.Group expression at) = mark_at symbol.LeftParen at ∷ (expression_pieces expression ++ (mark symbol.RightParen ∷ []))

  pub arguments_pieces : plain.Expressions → List Piece
  arguments_pieces plain.NoExpression = []
  arguments_pieces (plain.AnExpression expression others) = expression_pieces expression ++ more_arguments_pieces others

  -- the arguments after the first
  pub more_arguments_pieces : plain.Expressions → List Piece
  more_arguments_pieces plain.NoExpression = []
  more_arguments_pieces (plain.AnExpression expression others) =
      mark symbol.Comma ∷ (expression_pieces expression ++ more_arguments_pieces others)

-- ---- statements

-- a clause behind its keyword
abbrev pub clause_behind : Keyword → plain.WrittenClause → List Piece
clause_behind keyword clause = word keyword ∷ clause_pieces clause

unfoldable mutual
  pub statement_pieces : plain.Statement → List Piece
  statement_pieces (plain.Declare name value at) =
      word_at keyword.Var at ∷ lower name ∷ mark symbol.Equal ∷ (expression_pieces value ++ semicolon)
  statement_pieces (plain.Split names value at) =
      word_at keyword.Let at ∷ mark symbol.LeftParen
      ∷ (with_commas (λ name. lower name ∷ []) names ++ (mark symbol.RightParen ∷ mark symbol.Equal ∷ (expression_pieces value ++ semicolon)))
  statement_pieces (plain.Assign target indices value) =
      lower target ∷ (indices_pieces indices ++ (mark symbol.Equal ∷ (expression_pieces value ++ semicolon)))
  statement_pieces (plain.Do function arguments) =
      lower function ∷ mark symbol.LeftParen ∷ (arguments_pieces arguments ++ (mark symbol.RightParen ∷ semicolon))
  statement_pieces (plain.Print value at) = word_at keyword.Print at ∷ (expression_pieces value ++ semicolon)
  statement_pieces (plain.If test on_true on_false join at) =
      word_at keyword.If at ∷ mark symbol.LeftParen
      ∷ (expression_pieces test
      ++ (mark symbol.RightParen ∷ (block_pieces on_true ++ (branch_pieces on_false ++ optional (clause_behind keyword.Join) join))))
  statement_pieces (plain.While test head body at) =
      word_at keyword.While at ∷ mark symbol.LeftParen
      ∷ (expression_pieces test ++ (mark symbol.RightParen ∷ (optional (clause_behind keyword.With) head ++ block_pieces body)))
  statement_pieces (plain.Return value at) = word_at keyword.Return at ∷ (optional expression_pieces value ++ semicolon)

  pub branch_pieces : plain.Branch → List Piece
  branch_pieces plain.NoBranch = []
  branch_pieces (plain.ABranch block) = word keyword.Else ∷ block_pieces block

  pub block_pieces : plain.Block → List Piece
  block_pieces (plain.BlockOf statements at) =
      mark_at symbol.LeftBrace at ∷ (statements_pieces statements ++ (mark symbol.RightBrace ∷ []))

  pub statements_pieces : plain.Statements → List Piece
  statements_pieces plain.NoStatement = []
  statements_pieces (plain.AStatement statement others) = statement_pieces statement ++ statements_pieces others

-- ---- declarations

abbrev pub type_body_pieces : plain.TypeBody → List Piece
type_body_pieces (plain.Cell cell) = type_pieces cell
type_body_pieces (plain.Tuple parts) = mark symbol.LeftParen ∷ (with_commas type_pieces parts ++ (mark symbol.RightParen ∷ []))

abbrev pub type_declaration_pieces : plain.TypeDeclaration → List Piece
type_declaration_pieces d =
    word_at keyword.«Type» d.at ∷ upper d.name ∷ mark symbol.Equal
    ∷ (optional quantifier_pieces d.quantifier ++ (type_body_pieces d.body ++ semicolon))

abbrev pub result_pieces : plain.ResultType → List Piece
result_pieces (plain.NoValue at) = word_at keyword.Unit at ∷ []
result_pieces (plain.AValue quantifier value at) = optional quantifier_pieces quantifier ++ type_pieces value

abbrev pub function_pieces : plain.FunctionDeclaration → List Piece
function_pieces f =
    word_at keyword.Fun f.at ∷ lower f.name
    ∷ (optional quantifier_pieces f.quantifier
    ++ (mark symbol.LeftParen
    ∷ (with_commas parameter_pieces f.parameters
    ++ (mark symbol.RightParen ∷ mark symbol.Colon ∷ (result_pieces f.result ++ block_pieces f.body)))))

abbrev pub declaration_pieces : plain.Declaration → List Piece
declaration_pieces (plain.OfType d) = type_declaration_pieces d
declaration_pieces (plain.OfFunction f) = function_pieces f

abbrev pub declarations_pieces : List plain.Declaration → List Piece
declarations_pieces [] = []
declarations_pieces (d ∷ ds) = declaration_pieces d ++ declarations_pieces ds

abbrev pub pieces : plain.Tree → List Piece
pieces tree = declarations_pieces tree.declarations
