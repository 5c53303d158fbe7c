-- The text of statements and declarations, by the texts of their parts.
use Rattle.std.proofs.Common.{◌≡◌, ◌∙◌, ℕ, List, [], ◌∷◌, ◌++◌, map, Option, Some, None, refl, sym, ap, append_assoc, append-nil}
use Rattle.std.specs.Prelude.{Vec}
use Rattle.std.specs.Option.{option_map}
use Rattle.std.specs.declared.alloc.Global.{Global}
use Rattle.xanadu_lexer.specs.declared.keyword.Keyword.TheVariants as keyword
use Rattle.xanadu_lexer.specs.declared.symbol.Symbol.TheVariants as symbol
use Rattle.xanadu_lexer.specs.declared.token.TokenKind.TheVariants as kind
use Rattle.xanadu_tree.specs.declared.tree.declaration.Declaration.{Declaration}
use Rattle.xanadu_tree.specs.declared.tree.declaration.Declaration.TheVariants as declaration
use Rattle.xanadu_tree.specs.declared.tree.declaration.FunctionDeclaration.{FunctionDeclaration}
use Rattle.xanadu_tree.specs.declared.tree.declaration.Identifier.{Identifier}
use Rattle.xanadu_tree.specs.declared.tree.declaration.ResultType.TheVariants as result
use Rattle.xanadu_tree.specs.declared.tree.declaration.Tree.{Tree}
use Rattle.xanadu_tree.specs.declared.tree.declaration.TypeBody.TheVariants as body
use Rattle.xanadu_tree.specs.declared.tree.declaration.TypeDeclaration.{TypeDeclaration}
use Rattle.xanadu_tree.specs.declared.tree.expression.Expression.{Expression}
use Rattle.xanadu_tree.specs.declared.tree.index.Quantifier.{Quantifier}
use Rattle.xanadu_tree.specs.declared.tree.statement.Block.{Block}
use Rattle.xanadu_tree.specs.declared.tree.statement.Statement.{Statement}
use Rattle.xanadu_tree.specs.declared.tree.statement.Statement.TheVariants as statement
use Rattle.xanadu_tree.specs.declared.tree.statement.WrittenClause.{WrittenClause}
use Rattle.xanadu_tree.specs.declared.tree.types.Type as written
use Rattle.xanadu_tree.specs.Pieces.{Piece, mark, optional, shown, text}
use Rattle.xanadu_tree.specs.PlainTreeOf.{to_branch, plain_type, plain_parameter, plain_block, plain_clause, plain_tree}
use Rattle.xanadu_tree.specs.Spelling.{lower, semicolon, clause_behind, type_pieces, parameter_pieces, statement_pieces, branch_pieces, block_pieces, statements_pieces}
use Rattle.xanadu_tree.specs.Printing.{listed, name_text, parameter_text, type_text, some_quantifier_text, some_clause_text, expression_text, indices_text, call_text, group_text, some_expression_text, statement_text, branch_text, block_text, statements_text, type_body_text, type_declaration_text, result_text, function_text, declaration_text, declarations_text, printed}
use Rattle.xanadu_tree.proofs.TreeEquations.{plain_statement-Declare, plain_statement-Split, plain_statement-Assign, plain_statement-Call, plain_statement-Print, plain_statement-If, plain_statement-While, plain_statement-Return, plain_block-is}
use Rattle.xanadu_tree.proofs.Texts.{text-append, text-then, text-then_two}
use Rattle.xanadu_tree.proofs.TypeTexts.{with_commas-listed, with_commas-as_is, name_text-pieces, parameter_text-pieces}

-- ---- how the pieces of longer statements are grouped

split_by : (names value : List Piece) → text (names ++ (mark symbol.RightParen ∷ mark symbol.Equal ∷ (value ++ semicolon)))
    ≡ text names ++ (shown (kind.Symbol symbol.RightParen) ++ (shown (kind.Symbol symbol.Equal) ++ (text value ++ shown (kind.Symbol symbol.Semicolon))))
split_by names value = simp (text-append, append-nil) refl

call_by : (arguments : List Piece) → text (arguments ++ (mark symbol.RightParen ∷ semicolon)) ≡ text (arguments ++ (mark symbol.RightParen ∷ [])) ++ shown (kind.Symbol symbol.Semicolon)
call_by arguments = simp (text-append, append_assoc, append-nil) refl

if_by : (test on_true on_false join : List Piece) → text (test ++ (mark symbol.RightParen ∷ (on_true ++ (on_false ++ join))))
    ≡ text (test ++ (mark symbol.RightParen ∷ [])) ++ (text on_true ++ (text on_false ++ text join))
if_by test on_true on_false join = simp (text-append, append_assoc, append-nil) refl

while_by : (test head body : List Piece) → text (test ++ (mark symbol.RightParen ∷ (head ++ body)))
    ≡ text (test ++ (mark symbol.RightParen ∷ [])) ++ (text head ++ text body)
while_by test head body = simp (text-append, append_assoc, append-nil) refl

function_by : (quantifier parameters result body : List Piece)
    → text (quantifier ++ (mark symbol.LeftParen ∷ (parameters ++ (mark symbol.RightParen ∷ mark symbol.Colon ∷ (result ++ body)))))
    ≡ text quantifier ++ (shown (kind.Symbol symbol.LeftParen) ++ (text parameters ++ (shown (kind.Symbol symbol.RightParen) ++ (shown (kind.Symbol symbol.Colon) ++ (text result ++ text body)))))
function_by quantifier parameters result body = simp text-append refl

-- ---- statements

pub some_expression_text-None : some_expression_text None ≡ []
unfolding some_expression_text
some_expression_text-None = refl

pub some_expression_text-Some : (e : Expression) → some_expression_text (Some e) ≡ expression_text e
unfolding some_expression_text expression_text
some_expression_text-Some e = refl

pub statement_text-Declare : (name : Identifier) (value : Expression) (at : ℕ) → statement_text (statement.Declare name value at) ≡ shown (kind.Keyword keyword.Var) ++ (shown (kind.Lower name.name) ++ (shown (kind.Symbol symbol.Equal) ++ (expression_text value ++ shown (kind.Symbol symbol.Semicolon))))
unfolding statement_text expression_text statement_pieces
statement_text-Declare name value at =
    ap (λ p. text (statement_pieces p)) (plain_statement-Declare name value at)
    ∙ ap (λ rest. shown (kind.Keyword keyword.Var) ++ (shown (kind.Lower name.name) ++ (shown (kind.Symbol symbol.Equal) ++ rest))) (text-then _ _)

pub statement_text-Split : (names : Vec Identifier Global) (value : Expression) (at : ℕ) → statement_text (statement.Split names value at) ≡ shown (kind.Keyword keyword.Let) ++ (shown (kind.Symbol symbol.LeftParen) ++ (listed name_text names.items ++ (shown (kind.Symbol symbol.RightParen) ++ (shown (kind.Symbol symbol.Equal) ++ (expression_text value ++ shown (kind.Symbol symbol.Semicolon))))))
unfolding statement_text expression_text statement_pieces
statement_text-Split names value at =
    ap (λ p. text (statement_pieces p)) (plain_statement-Split names value at)
    ∙ ap (λ rest. shown (kind.Keyword keyword.Let) ++ (shown (kind.Symbol symbol.LeftParen) ++ rest))
    (split_by _ _
    ∙ ap (λ t. t ++ (shown (kind.Symbol symbol.RightParen) ++ (shown (kind.Symbol symbol.Equal) ++ (expression_text value ++ shown (kind.Symbol symbol.Semicolon)))))
    (with_commas-as_is (λ name. lower name ∷ []) name_text name_text-pieces names.items))

pub statement_text-Assign : (target : Identifier) (indices : Vec (Expression × ℕ) Global) (value : Expression) → statement_text (statement.Assign target indices value) ≡ shown (kind.Lower target.name) ++ (indices_text indices.items ++ (shown (kind.Symbol symbol.Equal) ++ (expression_text value ++ shown (kind.Symbol symbol.Semicolon))))
unfolding statement_text expression_text indices_text statement_pieces
statement_text-Assign target indices value =
    ap (λ p. text (statement_pieces p)) (plain_statement-Assign target indices value)
    ∙ ap (λ rest. shown (kind.Lower target.name) ++ rest)
    (text-append _ _ ∙ ap (λ rest. indices_text indices.items ++ (shown (kind.Symbol symbol.Equal) ++ rest)) (text-then _ _))

pub statement_text-Call : (function : Identifier) (arguments : Vec Expression Global) → statement_text (statement.Call function arguments) ≡ shown (kind.Lower function.name) ++ (call_text arguments.items ++ shown (kind.Symbol symbol.Semicolon))
unfolding statement_text call_text statement_pieces
statement_text-Call function arguments =
    ap (λ p. text (statement_pieces p)) (plain_statement-Call function arguments)
    ∙ ap (λ rest. shown (kind.Lower function.name) ++ rest) (ap (λ rest. shown (kind.Symbol symbol.LeftParen) ++ rest) (call_by _) ∙ sym (append_assoc (shown (kind.Symbol symbol.LeftParen)) _ _))

pub statement_text-Print : (value : Expression) (at : ℕ) → statement_text (statement.Print value at) ≡ shown (kind.Keyword keyword.Print) ++ (expression_text value ++ shown (kind.Symbol symbol.Semicolon))
unfolding statement_text expression_text statement_pieces
statement_text-Print value at =
    ap (λ p. text (statement_pieces p)) (plain_statement-Print value at) ∙ ap (λ rest. shown (kind.Keyword keyword.Print) ++ rest) (text-then _ _)

pub statement_text-If : (test : Expression) (on_true : Block) (on_false : Option Block) (join : Option WrittenClause) (at : ℕ) → statement_text (statement.If test on_true on_false join at) ≡ shown (kind.Keyword keyword.If) ++ (group_text test ++ (block_text on_true ++ (branch_text on_false ++ some_clause_text keyword.Join join)))
unfolding statement_text group_text block_text branch_text some_clause_text statement_pieces
statement_text-If test on_true on_false join at =
    ap (λ p. text (statement_pieces p)) (plain_statement-If test on_true on_false join at)
    ∙ ap (λ rest. shown (kind.Keyword keyword.If) ++ rest) (ap (λ rest. shown (kind.Symbol symbol.LeftParen) ++ rest) (if_by _ (block_pieces (plain_block on_true)) (branch_pieces (to_branch (option_map plain_block on_false))) (optional (clause_behind keyword.Join) (option_map plain_clause join))) ∙ sym (append_assoc (shown (kind.Symbol symbol.LeftParen)) _ _))

pub statement_text-While : (test : Expression) (head : Option WrittenClause) (body : Block) (at : ℕ) → statement_text (statement.While test head body at) ≡ shown (kind.Keyword keyword.While) ++ (group_text test ++ (some_clause_text keyword.With head ++ block_text body))
unfolding statement_text group_text block_text some_clause_text statement_pieces
statement_text-While test head body at =
    ap (λ p. text (statement_pieces p)) (plain_statement-While test head body at)
    ∙ ap (λ rest. shown (kind.Keyword keyword.While) ++ rest) (ap (λ rest. shown (kind.Symbol symbol.LeftParen) ++ rest) (while_by _ _ _) ∙ sym (append_assoc (shown (kind.Symbol symbol.LeftParen)) _ _))

pub statement_text-Return : (value : Option Expression) (at : ℕ) → statement_text (statement.Return value at) ≡ shown (kind.Keyword keyword.Return) ++ (some_expression_text value ++ shown (kind.Symbol symbol.Semicolon))
unfolding statement_text some_expression_text statement_pieces
statement_text-Return value at =
    ap (λ p. text (statement_pieces p)) (plain_statement-Return value at) ∙ ap (λ rest. shown (kind.Keyword keyword.Return) ++ rest) (text-then _ _)

pub branch_text-None : branch_text None ≡ []
unfolding branch_text branch_pieces
branch_text-None = refl

pub branch_text-Some : (block : Block) → branch_text (Some block) ≡ shown (kind.Keyword keyword.Else) ++ block_text block
unfolding branch_text block_text branch_pieces
branch_text-Some block = refl

pub block_text-is : (block : Block) → block_text block ≡ shown (kind.Symbol symbol.LeftBrace) ++ (statements_text block.statements.items ++ shown (kind.Symbol symbol.RightBrace))
unfolding block_text statements_text block_pieces
block_text-is block = ap (λ p. text (block_pieces p)) (plain_block-is block) ∙ ap (λ rest. shown (kind.Symbol symbol.LeftBrace) ++ rest) (text-then _ _)

pub statements_text-nil : statements_text [] ≡ []
unfolding statements_text statements_pieces
statements_text-nil = refl

pub statements_text-cons : (s : Statement) (ss : List Statement) → statements_text (s ∷ ss) ≡ statement_text s ++ statements_text ss
unfolding statements_text statement_text statements_pieces
statements_text-cons s ss = text-append _ _

-- ---- declarations

type_text-pieces : (ty : written.«Type») → type_text ty ≡ text (type_pieces (plain_type ty))
unfolding type_text
type_text-pieces ty = refl

pub type_body_text-Cell : (ty : written.«Type») → type_body_text (body.Cell ty) ≡ type_text ty
unfolding type_body_text type_text
type_body_text-Cell ty = refl

pub type_body_text-Tuple : (parts : Vec written.«Type» Global) → type_body_text (body.Tuple parts) ≡ shown (kind.Symbol symbol.LeftParen) ++ (listed type_text parts.items ++ shown (kind.Symbol symbol.RightParen))
unfolding type_body_text
type_body_text-Tuple parts =
    ap (λ rest. shown (kind.Symbol symbol.LeftParen) ++ rest)
    (text-then _ _ ∙ ap (λ t. t ++ shown (kind.Symbol symbol.RightParen)) (with_commas-listed type_pieces plain_type type_text type_text-pieces parts.items))

pub type_declaration_text-is : (d : TypeDeclaration) → type_declaration_text d ≡ shown (kind.Keyword keyword.«Type») ++ (shown (kind.Upper d.name.name) ++ (shown (kind.Symbol symbol.Equal) ++ (some_quantifier_text d.quantifier ++ (type_body_text d.body ++ shown (kind.Symbol symbol.Semicolon)))))
unfolding type_declaration_text some_quantifier_text type_body_text
type_declaration_text-is d =
    ap (λ rest. shown (kind.Keyword keyword.«Type») ++ (shown (kind.Upper d.name.name) ++ (shown (kind.Symbol symbol.Equal) ++ rest))) (text-then_two _ _ _)

pub result_text-Unit : (at : ℕ) → result_text (result.Unit at) ≡ shown (kind.Keyword keyword.Unit)
unfolding result_text
result_text-Unit at = append-nil _

pub result_text-Value : (quantifier : Option Quantifier) (ty : written.«Type») (at : ℕ) → result_text (result.Value quantifier ty at) ≡ some_quantifier_text quantifier ++ type_text ty
unfolding result_text some_quantifier_text type_text
result_text-Value quantifier ty at = text-append _ _

pub function_text-is : (f : FunctionDeclaration) → function_text f ≡ shown (kind.Keyword keyword.Fun) ++ (shown (kind.Lower f.name.name) ++ (some_quantifier_text f.quantifier ++ (shown (kind.Symbol symbol.LeftParen) ++ (listed parameter_text f.parameters.items ++ (shown (kind.Symbol symbol.RightParen) ++ (shown (kind.Symbol symbol.Colon) ++ (result_text f.result ++ block_text f.body)))))))
unfolding function_text some_quantifier_text result_text block_text
function_text-is f =
    ap (λ rest. shown (kind.Keyword keyword.Fun) ++ (shown (kind.Lower f.name.name) ++ rest))
    (function_by _ _ _ _
    ∙ ap (λ t. some_quantifier_text f.quantifier ++ (shown (kind.Symbol symbol.LeftParen) ++ (t ++ (shown (kind.Symbol symbol.RightParen) ++ (shown (kind.Symbol symbol.Colon) ++ (result_text f.result ++ block_text f.body))))))
    (with_commas-listed parameter_pieces plain_parameter parameter_text parameter_text-pieces f.parameters.items))

pub declaration_text-Type : (d : TypeDeclaration) → declaration_text (declaration.«Type» d) ≡ type_declaration_text d
unfolding declaration_text type_declaration_text
declaration_text-Type d = refl

pub declaration_text-Function : (f : FunctionDeclaration) → declaration_text (declaration.Function f) ≡ function_text f
unfolding declaration_text function_text
declaration_text-Function f = refl

pub declarations_text-nil : declarations_text [] ≡ []
unfolding declarations_text
declarations_text-nil = refl

pub declarations_text-cons : (d : Declaration) (ds : List Declaration) → declarations_text (d ∷ ds) ≡ declaration_text d ++ declarations_text ds
unfolding declarations_text declaration_text
declarations_text-cons d ds = text-append _ _

pub printed-is : (tree : Tree) → printed (plain_tree tree) ≡ declarations_text tree.declarations.items ++ 10 ∷ []
unfolding printed declarations_text
printed-is tree = refl

-- for code that puts one part behind another
pub ruleset statement_texts = (append_assoc, append-nil, some_expression_text-None, some_expression_text-Some, statement_text-Declare, statement_text-Split, statement_text-Assign, statement_text-Call, statement_text-Print, statement_text-If, statement_text-While, statement_text-Return, branch_text-None, branch_text-Some, block_text-is, statements_text-nil, statements_text-cons, type_body_text-Cell, type_body_text-Tuple, type_declaration_text-is, result_text-Unit, result_text-Value, function_text-is, declaration_text-Type, declaration_text-Function, declarations_text-nil, declarations_text-cons, printed-is)
