-- What the grammar asks of a tree beside the tokens that it spells, and what a source is read as.
use Rattle.std.specs.Prelude.{◌≡◌, ℕ, Bool, true, false, List, [], ◌∷◌, length, All, Option, Some, None, Ok}
use Rattle.xanadu_lexer.specs.declared.token.Token.{Token}
use Rattle.xanadu_lexer.specs.Lexing.{lexed}
use Rattle.xanadu_tree.specs.declared.expr.Op.{Op}
use Rattle.xanadu_tree.specs.declared.expr.Op.TheVariants as op
use Rattle.xanadu_tree.specs.declared.tree.index.IndexTerm.{IndexTerm}
use Rattle.xanadu_tree.specs.declared.tree.index.IndexTerm.TheVariants as index_term
use Rattle.xanadu_tree.specs.declared.tree.types.Element.{Element}
use Rattle.xanadu_tree.specs.declared.tree.types.Element.TheVariants as element
use Rattle.xanadu_tree.specs.PlainTree as plain
use Rattle.xanadu_tree.specs.Pieces.{Spelled, HaveTexts, kinds}
use Rattle.xanadu_tree.specs.Spelling.{pieces}

-- ---- which trees the grammar has: lists that are not empty, and operators that stand at their level

abbrev pub IsSome : {A : Type 0} → List A → Type 0
IsSome [] = ⊥
IsSome (x ∷ xs) = Unit {0}

-- a part that is left out, or is as it is to be
abbrev pub WhereGiven : {A : Type 0} → (A → Type 0) → Option A → Type 0
WhereGiven Is None = Unit {0}
WhereGiven Is (Some x) = Is x

abbrev pub IsQuantifier : plain.Quantifier → Type 0
IsQuantifier q = IsSome q.binders

abbrev pub IsClause : plain.WrittenClause → Type 0
IsClause c = WhereGiven IsQuantifier c.quantifier × IsSome c.variables

abbrev pub IsAddition : Op → Type 0
IsAddition op.Add = Unit {0}
IsAddition op.Sub = Unit {0}
IsAddition _ = ⊥

abbrev pub IsMultiplication : Op → Type 0
IsMultiplication op.Mul = Unit {0}
IsMultiplication op.Div = Unit {0}
IsMultiplication op.Mod = Unit {0}
IsMultiplication _ = ⊥

abbrev pub AreArguments : plain.Expressions → Type 0
AreArguments plain.NoExpression = ⊥
AreArguments (plain.AnExpression expression others) = Unit {0}

unfoldable mutual
  pub IsExpression : plain.Expression → Type 0
  IsExpression (plain.ExpressionOf first rest at) = IsConjunction first × AreConjunctions rest

  pub AreConjunctions : plain.Conjunctions → Type 0
  AreConjunctions plain.NoConjunction = Unit {0}
  AreConjunctions (plain.AConjunction conjunction at others) = IsConjunction conjunction × AreConjunctions others

  pub IsConjunction : plain.Conjunction → Type 0
  IsConjunction (plain.ConjunctionOf first rest at) = IsNegation first × AreNegations rest

  pub AreNegations : plain.Negations → Type 0
  AreNegations plain.NoNegation = Unit {0}
  AreNegations (plain.ANegation negation at others) = IsNegation negation × AreNegations others

  pub IsNegation : plain.Negation → Type 0
  IsNegation (plain.NegationOf negated operand at) = IsComparison operand

  pub IsComparison : plain.Comparison → Type 0
  IsComparison (plain.ComparisonOf left right at) = IsSum left × IsComparand right

  pub IsComparand : plain.Comparand → Type 0
  IsComparand plain.NoComparand = Unit {0}
  IsComparand (plain.AComparand rel right) = IsSum right

  pub IsSum : plain.Sum → Type 0
  IsSum (plain.SumOf first rest at) = IsProduct first × AreAddends rest

  pub AreAddends : plain.Addends → Type 0
  AreAddends plain.NoAddend = Unit {0}
  AreAddends (plain.AnAddend op product at others) = IsAddition op × IsProduct product × AreAddends others

  pub IsProduct : plain.Product → Type 0
  IsProduct (plain.ProductOf first rest at) = IsUnary first × AreFactors rest

  pub AreFactors : plain.Factors → Type 0
  AreFactors plain.NoFactor = Unit {0}
  AreFactors (plain.AFactor op unary at others) = IsMultiplication op × IsUnary unary × AreFactors others

  pub IsUnary : plain.Unary → Type 0
  IsUnary (plain.UnaryOf negative operand at) = IsPostfix operand

  pub IsPostfix : plain.Postfix → Type 0
  IsPostfix (plain.PostfixOf primary indices at) = IsPrimary primary × AreIndices indices

  pub AreIndices : plain.Indices → Type 0
  AreIndices plain.NoIndex = Unit {0}
  AreIndices (plain.AnIndex index at others) = IsExpression index × AreIndices others

  pub IsPrimary : plain.Primary → Type 0
  IsPrimary (plain.Number number at) = Unit {0}
  IsPrimary (plain.Boolean truth at) = Unit {0}
  IsPrimary (plain.Variable name) = Unit {0}
  IsPrimary (plain.Call function arguments) = AreExpressions arguments
  IsPrimary (plain.Make ty arguments) = AreArguments arguments × AreExpressions arguments
  IsPrimary (plain.Length array at) = IsExpression array
  IsPrimary (plain.New element length fill at) = IsExpression length × IsExpression fill
  IsPrimary (plain.Group expression at) = IsExpression expression

  pub AreExpressions : plain.Expressions → Type 0
  AreExpressions plain.NoExpression = Unit {0}
  AreExpressions (plain.AnExpression expression others) = IsExpression expression × AreExpressions others

unfoldable mutual
  pub IsStatement : plain.Statement → Type 0
  IsStatement (plain.Declare name value at) = IsExpression value
  IsStatement (plain.Split names value at) = IsSome names × IsExpression value
  IsStatement (plain.Assign target indices value) = AreIndices indices × IsExpression value
  IsStatement (plain.Do function arguments) = AreExpressions arguments
  IsStatement (plain.Print value at) = IsExpression value
  IsStatement (plain.If test on_true on_false join at) = IsExpression test × IsBlock on_true × IsBranch on_false × WhereGiven IsClause join
  IsStatement (plain.While test head body at) = IsExpression test × WhereGiven IsClause head × IsBlock body
  IsStatement (plain.Return value at) = WhereGiven IsExpression value

  pub IsBranch : plain.Branch → Type 0
  IsBranch plain.NoBranch = Unit {0}
  IsBranch (plain.ABranch block) = IsBlock block

  pub IsBlock : plain.Block → Type 0
  IsBlock (plain.BlockOf statements at) = AreStatements statements

  pub AreStatements : plain.Statements → Type 0
  AreStatements plain.NoStatement = Unit {0}
  AreStatements (plain.AStatement statement others) = IsStatement statement × AreStatements others

abbrev pub IsTypeBody : plain.TypeBody → Type 0
IsTypeBody (plain.Cell cell) = Unit {0}
IsTypeBody (plain.Tuple parts) = IsSome parts

abbrev pub IsTypeDeclaration : plain.TypeDeclaration → Type 0
IsTypeDeclaration d = WhereGiven IsQuantifier d.quantifier × IsTypeBody d.body

abbrev pub IsResult : plain.ResultType → Type 0
IsResult (plain.NoValue at) = Unit {0}
IsResult (plain.AValue quantifier value at) = WhereGiven IsQuantifier quantifier

abbrev pub IsFunction : plain.FunctionDeclaration → Type 0
IsFunction f = WhereGiven IsQuantifier f.quantifier × IsResult f.result × IsBlock f.body

abbrev pub IsDeclaration : plain.Declaration → Type 0
IsDeclaration (plain.OfType d) = IsTypeDeclaration d
IsDeclaration (plain.OfFunction f) = IsFunction f

abbrev pub AreDeclarations : List plain.Declaration → Type 0
AreDeclarations [] = Unit {0}
AreDeclarations (d ∷ ds) = IsDeclaration d × AreDeclarations ds

-- the grammar has the tree
abbrev pub IsTree : plain.Tree → Type 0
IsTree tree = AreDeclarations tree.declarations

-- some bytes spell the tree, up to its offsets
pub record IsWritten (tree : plain.Tree) : Type 0 where
  pub grammar : IsTree tree
  pub tokens : HaveTexts (kinds (pieces tree))

-- ---- where a node begins: at the offset of its first token

abbrev pub index_term_at : IndexTerm → ℕ
index_term_at (index_term.Number number at) = at
index_term_at (index_term.Product number variable at) = at
index_term_at (index_term.Variable variable) = variable.at

abbrev pub element_at : Element → ℕ
element_at (element.Int at) = at
element_at (element.Bool at) = at
element_at (element.Named name) = name.at

abbrev pub type_at : plain.WrittenType → ℕ
type_at (plain.Int at) = at
type_at (plain.IntOf index at) = at
type_at (plain.Bool at) = at
type_at (plain.Named name) = name.at
type_at (plain.Array element length) = element_at element

abbrev pub primary_at : plain.Primary → ℕ
primary_at (plain.Number number at) = at
primary_at (plain.Boolean truth at) = at
primary_at (plain.Variable name) = name.at
primary_at (plain.Call function arguments) = function.at
primary_at (plain.Make ty arguments) = ty.at
primary_at (plain.Length array at) = at
primary_at (plain.New element length fill at) = at
primary_at (plain.Group expression at) = at

abbrev pub postfix_at : plain.Postfix → ℕ
postfix_at (plain.PostfixOf primary indices at) = at

abbrev pub unary_at : plain.Unary → ℕ
unary_at (plain.UnaryOf negative operand at) = at

abbrev pub product_at : plain.Product → ℕ
product_at (plain.ProductOf first rest at) = at

abbrev pub sum_at : plain.Sum → ℕ
sum_at (plain.SumOf first rest at) = at

abbrev pub comparison_at : plain.Comparison → ℕ
comparison_at (plain.ComparisonOf left right at) = at

abbrev pub negation_at : plain.Negation → ℕ
negation_at (plain.NegationOf negated operand at) = at

abbrev pub conjunction_at : plain.Conjunction → ℕ
conjunction_at (plain.ConjunctionOf first rest at) = at

abbrev pub expression_at : plain.Expression → ℕ
expression_at (plain.ExpressionOf first rest at) = at

abbrev pub result_at : plain.ResultType → ℕ
result_at (plain.NoValue at) = at
result_at (plain.AValue quantifier value at) = at

abbrev pub declaration_at : plain.Declaration → ℕ
declaration_at (plain.OfType d) = d.at
declaration_at (plain.OfFunction f) = f.at

-- ---- trees in which each node begins where its first part does, if that is no token of its own

-- a node with a mark of its own in front, or none
abbrev pub IsAtUnless : Bool → (at first : ℕ) → Type 0
IsAtUnless true at first = Unit {0}
IsAtUnless false at first = at ≡ first

abbrev pub PlacedIndex : plain.IndexExpression → Type 0
PlacedIndex e = IsAtUnless e.negative e.at (index_term_at e.first)

abbrev pub PlacedRelation : plain.Relation → Type 0
PlacedRelation r = PlacedIndex r.left × PlacedIndex r.right

abbrev pub PlacedQuantifier : plain.Quantifier → Type 0
PlacedQuantifier q = All PlacedRelation q.relations

abbrev pub PlacedType : plain.WrittenType → Type 0
PlacedType (plain.Int at) = Unit {0}
PlacedType (plain.IntOf index at) = PlacedIndex index
PlacedType (plain.Bool at) = Unit {0}
PlacedType (plain.Named name) = Unit {0}
PlacedType (plain.Array element length) = WhereGiven PlacedIndex length

abbrev pub PlacedParameter : plain.Parameter → Type 0
PlacedParameter p = PlacedType p.ty

-- a node that begins with a quantifier where that is given, else with a token of its own
abbrev pub IsAtGiven : Option plain.Quantifier → ℕ → Type 0
IsAtGiven quantifier at = WhereGiven (λ q. at ≡ q.at) quantifier

abbrev pub PlacedClause : plain.WrittenClause → Type 0
PlacedClause c = IsAtGiven c.quantifier c.at × WhereGiven PlacedQuantifier c.quantifier × All PlacedParameter c.variables

unfoldable mutual
  pub PlacedExpression : plain.Expression → Type 0
  PlacedExpression (plain.ExpressionOf first rest at) = (at ≡ conjunction_at first) × PlacedConjunction first × PlacedConjunctions rest

  pub PlacedConjunctions : plain.Conjunctions → Type 0
  PlacedConjunctions plain.NoConjunction = Unit {0}
  PlacedConjunctions (plain.AConjunction conjunction at others) = PlacedConjunction conjunction × PlacedConjunctions others

  pub PlacedConjunction : plain.Conjunction → Type 0
  PlacedConjunction (plain.ConjunctionOf first rest at) = (at ≡ negation_at first) × PlacedNegation first × PlacedNegations rest

  pub PlacedNegations : plain.Negations → Type 0
  PlacedNegations plain.NoNegation = Unit {0}
  PlacedNegations (plain.ANegation negation at others) = PlacedNegation negation × PlacedNegations others

  pub PlacedNegation : plain.Negation → Type 0
  PlacedNegation (plain.NegationOf negated operand at) = IsAtUnless negated at (comparison_at operand) × PlacedComparison operand

  pub PlacedComparison : plain.Comparison → Type 0
  PlacedComparison (plain.ComparisonOf left right at) = (at ≡ sum_at left) × PlacedSum left × PlacedComparand right

  pub PlacedComparand : plain.Comparand → Type 0
  PlacedComparand plain.NoComparand = Unit {0}
  PlacedComparand (plain.AComparand rel right) = PlacedSum right

  pub PlacedSum : plain.Sum → Type 0
  PlacedSum (plain.SumOf first rest at) = (at ≡ product_at first) × PlacedProduct first × PlacedAddends rest

  pub PlacedAddends : plain.Addends → Type 0
  PlacedAddends plain.NoAddend = Unit {0}
  PlacedAddends (plain.AnAddend op product at others) = PlacedProduct product × PlacedAddends others

  pub PlacedProduct : plain.Product → Type 0
  PlacedProduct (plain.ProductOf first rest at) = (at ≡ unary_at first) × PlacedUnary first × PlacedFactors rest

  pub PlacedFactors : plain.Factors → Type 0
  PlacedFactors plain.NoFactor = Unit {0}
  PlacedFactors (plain.AFactor op unary at others) = PlacedUnary unary × PlacedFactors others

  pub PlacedUnary : plain.Unary → Type 0
  PlacedUnary (plain.UnaryOf negative operand at) = IsAtUnless negative at (postfix_at operand) × PlacedPostfix operand

  pub PlacedPostfix : plain.Postfix → Type 0
  PlacedPostfix (plain.PostfixOf primary indices at) = (at ≡ primary_at primary) × PlacedPrimary primary × PlacedIndices indices

  pub PlacedIndices : plain.Indices → Type 0
  PlacedIndices plain.NoIndex = Unit {0}
  PlacedIndices (plain.AnIndex index at others) = PlacedExpression index × PlacedIndices others

  pub PlacedPrimary : plain.Primary → Type 0
  PlacedPrimary (plain.Number number at) = Unit {0}
  PlacedPrimary (plain.Boolean truth at) = Unit {0}
  PlacedPrimary (plain.Variable name) = Unit {0}
  PlacedPrimary (plain.Call function arguments) = PlacedExpressions arguments
  PlacedPrimary (plain.Make ty arguments) = PlacedExpressions arguments
  PlacedPrimary (plain.Length array at) = PlacedExpression array
  PlacedPrimary (plain.New element length fill at) = PlacedExpression length × PlacedExpression fill
  PlacedPrimary (plain.Group expression at) = PlacedExpression expression

  pub PlacedExpressions : plain.Expressions → Type 0
  PlacedExpressions plain.NoExpression = Unit {0}
  PlacedExpressions (plain.AnExpression expression others) = PlacedExpression expression × PlacedExpressions others

unfoldable mutual
  pub PlacedStatement : plain.Statement → Type 0
  PlacedStatement (plain.Declare name value at) = PlacedExpression value
  PlacedStatement (plain.Split names value at) = PlacedExpression value
  PlacedStatement (plain.Assign target indices value) = PlacedIndices indices × PlacedExpression value
  PlacedStatement (plain.Do function arguments) = PlacedExpressions arguments
  PlacedStatement (plain.Print value at) = PlacedExpression value
  PlacedStatement (plain.If test on_true on_false join at) =
      PlacedExpression test × PlacedBlock on_true × PlacedBranch on_false × WhereGiven PlacedClause join
  PlacedStatement (plain.While test head body at) = PlacedExpression test × WhereGiven PlacedClause head × PlacedBlock body
  PlacedStatement (plain.Return value at) = WhereGiven PlacedExpression value

  pub PlacedBranch : plain.Branch → Type 0
  PlacedBranch plain.NoBranch = Unit {0}
  PlacedBranch (plain.ABranch block) = PlacedBlock block

  pub PlacedBlock : plain.Block → Type 0
  PlacedBlock (plain.BlockOf statements at) = PlacedStatements statements

  pub PlacedStatements : plain.Statements → Type 0
  PlacedStatements plain.NoStatement = Unit {0}
  PlacedStatements (plain.AStatement statement others) = PlacedStatement statement × PlacedStatements others

abbrev pub PlacedTypeBody : plain.TypeBody → Type 0
PlacedTypeBody (plain.Cell cell) = PlacedType cell
PlacedTypeBody (plain.Tuple parts) = All PlacedType parts

abbrev pub PlacedTypeDeclaration : plain.TypeDeclaration → Type 0
PlacedTypeDeclaration d = WhereGiven PlacedQuantifier d.quantifier × PlacedTypeBody d.body

-- where a result with a value begins
abbrev pub IsAtResult : Option plain.Quantifier → plain.WrittenType → ℕ → Type 0
IsAtResult None value at = at ≡ type_at value
IsAtResult (Some quantifier) value at = at ≡ quantifier.at

abbrev pub PlacedResult : plain.ResultType → Type 0
PlacedResult (plain.NoValue at) = Unit {0}
PlacedResult (plain.AValue quantifier value at) = IsAtResult quantifier value at × WhereGiven PlacedQuantifier quantifier × PlacedType value

abbrev pub PlacedFunction : plain.FunctionDeclaration → Type 0
PlacedFunction f =
    WhereGiven PlacedQuantifier f.quantifier × All PlacedParameter f.parameters × PlacedResult f.result × PlacedBlock f.body

abbrev pub PlacedDeclaration : plain.Declaration → Type 0
PlacedDeclaration (plain.OfType d) = PlacedTypeDeclaration d
PlacedDeclaration (plain.OfFunction f) = PlacedFunction f

-- where a tree with these declarations begins, in a source that ends at `end`
abbrev pub IsAtTree : (end : ℕ) → List plain.Declaration → ℕ → Type 0
IsAtTree end [] at = at ≡ end
IsAtTree end (d ∷ ds) at = at ≡ declaration_at d

abbrev pub PlacedTree : (end : ℕ) → plain.Tree → Type 0
PlacedTree end tree = IsAtTree end tree.declarations tree.at × All PlacedDeclaration tree.declarations

-- ---- what tokens and sources are read as

-- the tokens of a source that ends at `end` are the tree's
pub record Parses (tokens : List Token) (end : ℕ) (tree : plain.Tree) : Type 0 where
  pub grammar : IsTree tree
  pub placed : PlacedTree end tree
  pub spelled : Spelled (pieces tree) tokens

-- the bytes are a source, and are read as the tree
pub record Reads (bytes : List ℕ) (tree : plain.Tree) : Type 0 where
  pub tokens : List Token
  pub lexed : lexed bytes ≡ Ok tokens
  pub parsed : Parses tokens (length bytes) tree
