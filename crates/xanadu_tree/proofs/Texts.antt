-- The text of each kind of node of an expression, by the texts of its parts.
use Rattle.std.proofs.Common.{◌≡◌, ◌∙◌, ℕ, ℤ, true, false, Bool as Truth, List, [], ◌∷◌, ◌++◌, map, Option, Some, None, refl, sym, ap, append_assoc, append-nil, rules}
use Rattle.std.specs.Prelude.{Vec, Box}
use Rattle.std.specs.declared.alloc.Global.{Global}
use Rattle.xanadu_lexer.specs.declared.keyword.Keyword.TheVariants as keyword
use Rattle.xanadu_lexer.specs.declared.symbol.Symbol.TheVariants as symbol
use Rattle.xanadu_lexer.specs.declared.token.TokenKind.TheVariants as kind
use Rattle.xanadu_tree.specs.declared.expr.Op.{Op}
use Rattle.xanadu_tree.specs.declared.expr.Rel.{Rel}
use Rattle.xanadu_tree.specs.declared.tree.declaration.Identifier.{Identifier}
use Rattle.xanadu_tree.specs.declared.tree.expression.Comparison.{Comparison, out-Comparison}
use Rattle.xanadu_tree.specs.declared.tree.expression.Conjunction.{Conjunction, out-Conjunction}
use Rattle.xanadu_tree.specs.declared.tree.expression.Expression.{Expression, out-Expression}
use Rattle.xanadu_tree.specs.declared.tree.expression.Negation.{Negation, out-Negation}
use Rattle.xanadu_tree.specs.declared.tree.expression.Postfix.{Postfix, out-Postfix}
use Rattle.xanadu_tree.specs.declared.tree.expression.Primary.TheVariants as primary
use Rattle.xanadu_tree.specs.declared.tree.expression.Product.{Product, out-Product}
use Rattle.xanadu_tree.specs.declared.tree.expression.Sum.{Sum, out-Sum}
use Rattle.xanadu_tree.specs.declared.tree.expression.Unary.{Unary, out-Unary}
use Rattle.xanadu_tree.specs.declared.tree.types.Element.{Element}
use Rattle.xanadu_tree.specs.Pieces.{Piece, shown, text}
use Rattle.xanadu_tree.specs.Spelling.{op_symbol, rel_symbol, truth_keyword, mark_if, element_piece, expression_pieces, conjunctions_pieces, conjunction_pieces, negations_pieces, negation_pieces, comparison_pieces, comparand_pieces, sum_pieces, addends_pieces, product_pieces, factors_pieces, unary_pieces, postfix_pieces, indices_pieces, primary_pieces, arguments_pieces, more_arguments_pieces}
use Rattle.xanadu_tree.specs.Printing.{call_text, comparand_text, group_text, expression_text, conjunctions_text, conjunction_text, negations_text, negation_text, comparison_text, sum_text, addends_text, product_text, factors_text, unary_text, postfix_text, indices_text, primary_text, arguments_text, more_arguments_text}
use Rattle.xanadu_tree.proofs.TreeEquations.{plain_expression-out, plain_conjunction-out, plain_negation-out, plain_comparison-out, plain_sum-out, plain_product-out, plain_unary-out, plain_postfix-out, plain_primary-Number, plain_primary-Truth, plain_primary-Variable, plain_primary-Call, plain_primary-Make, plain_primary-Length, plain_primary-New, plain_primary-Group}

pub text-append : (front back : List Piece) → text (front ++ back) ≡ text front ++ text back
text-append [] back = refl
text-append (piece ∷ front) back = ap (λ rest. shown piece.kind ++ rest) (text-append front back) ∙ sym (append_assoc (shown piece.kind) (text front) (text back))

-- the text of a part, and of one more piece
pub text-then : (front : List Piece) (piece : Piece) → text (front ++ piece ∷ []) ≡ text front ++ shown piece.kind
text-then front piece = text-append front (piece ∷ []) ∙ ap (λ rest. text front ++ rest) (append-nil (shown piece.kind))

pub text-then_two : (front middle : List Piece) (piece : Piece) → text (front ++ (middle ++ piece ∷ [])) ≡ text front ++ (text middle ++ shown piece.kind)
text-then_two front middle piece = text-append front _ ∙ ap (λ rest. text front ++ rest) (text-then middle piece)

-- ---- a chain: its first part, and the others

pub expression_text-is : (e : Expression) → expression_text e ≡ conjunction_text (out-Expression e).first ++ conjunctions_text (out-Expression e).rest.items
unfolding expression_text conjunction_text conjunctions_text expression_pieces
expression_text-is e = ap (λ p. text (expression_pieces p)) (plain_expression-out e) ∙ text-append _ _

pub conjunctions_text-nil : conjunctions_text [] ≡ []
unfolding conjunctions_text conjunctions_pieces
conjunctions_text-nil = refl

pub conjunctions_text-cons : (c : Conjunction × ℕ) (cs : List (Conjunction × ℕ)) → conjunctions_text (c ∷ cs) ≡ shown (kind.Symbol symbol.Or) ++ (conjunction_text c.0 ++ conjunctions_text cs)
unfolding conjunctions_text conjunction_text conjunctions_pieces
conjunctions_text-cons c cs = ap (λ rest. shown (kind.Symbol symbol.Or) ++ rest) (text-append _ _)

pub conjunction_text-is : (c : Conjunction) → conjunction_text c ≡ negation_text (out-Conjunction c).first ++ negations_text (out-Conjunction c).rest.items
unfolding conjunction_text negation_text negations_text conjunction_pieces
conjunction_text-is c = ap (λ p. text (conjunction_pieces p)) (plain_conjunction-out c) ∙ text-append _ _

pub negations_text-nil : negations_text [] ≡ []
unfolding negations_text negations_pieces
negations_text-nil = refl

pub negations_text-cons : (n : Negation × ℕ) (ns : List (Negation × ℕ)) → negations_text (n ∷ ns) ≡ shown (kind.Symbol symbol.And) ++ (negation_text n.0 ++ negations_text ns)
unfolding negations_text negation_text negations_pieces
negations_text-cons n ns = ap (λ rest. shown (kind.Symbol symbol.And) ++ rest) (text-append _ _)

pub sum_text-is : (s : Sum) → sum_text s ≡ product_text (out-Sum s).first ++ addends_text (out-Sum s).rest.items
unfolding sum_text product_text addends_text sum_pieces
sum_text-is s = ap (λ p. text (sum_pieces p)) (plain_sum-out s) ∙ text-append _ _

pub addends_text-nil : addends_text [] ≡ []
unfolding addends_text addends_pieces
addends_text-nil = refl

pub addends_text-cons : (a : Op × Product × ℕ) (more : List (Op × Product × ℕ)) → addends_text (a ∷ more) ≡ shown (kind.Symbol (op_symbol a.0)) ++ (product_text a.1 ++ addends_text more)
unfolding addends_text product_text addends_pieces
addends_text-cons a more = ap (λ rest. shown (kind.Symbol (op_symbol a.0)) ++ rest) (text-append _ _)

pub product_text-is : (p : Product) → product_text p ≡ unary_text (out-Product p).first ++ factors_text (out-Product p).rest.items
unfolding product_text unary_text factors_text product_pieces
product_text-is p = ap (λ q. text (product_pieces q)) (plain_product-out p) ∙ text-append _ _

pub factors_text-nil : factors_text [] ≡ []
unfolding factors_text factors_pieces
factors_text-nil = refl

pub factors_text-cons : (f : Op × Unary × ℕ) (fs : List (Op × Unary × ℕ)) → factors_text (f ∷ fs) ≡ shown (kind.Symbol (op_symbol f.0)) ++ (unary_text f.1 ++ factors_text fs)
unfolding factors_text unary_text factors_pieces
factors_text-cons f fs = ap (λ rest. shown (kind.Symbol (op_symbol f.0)) ++ rest) (text-append _ _)

-- ---- a mark that may stand in front

pub negation_text-is : (n : Negation) → negation_text n ≡ text (mark_if (out-Negation n).negated symbol.Not (out-Negation n).at) ++ comparison_text (out-Negation n).operand
unfolding negation_text comparison_text negation_pieces
negation_text-is n = ap (λ p. text (negation_pieces p)) (plain_negation-out n) ∙ text-append _ _

pub unary_text-is : (u : Unary) → unary_text u ≡ text (mark_if (out-Unary u).negative symbol.Minus (out-Unary u).at) ++ postfix_text (out-Unary u).operand
unfolding unary_text postfix_text unary_pieces
unary_text-is u = ap (λ p. text (unary_pieces p)) (plain_unary-out u) ∙ text-append _ _

-- ---- a comparison

pub comparison_text-is : (c : Comparison) → comparison_text c ≡ sum_text (out-Comparison c).left ++ comparand_text (out-Comparison c).right
unfolding comparison_text sum_text comparand_text comparison_pieces
comparison_text-is c = ap (λ p. text (comparison_pieces p)) (plain_comparison-out c) ∙ text-append _ _

pub comparand_text-None : comparand_text None ≡ []
unfolding comparand_text comparand_pieces
comparand_text-None = refl

pub comparand_text-Some : (right : Rel × Box Sum Global) → comparand_text (Some right) ≡ shown (kind.Symbol (rel_symbol right.0)) ++ sum_text right.1.value
unfolding comparand_text sum_text comparand_pieces
comparand_text-Some right = refl

-- ---- indices

pub postfix_text-is : (p : Postfix) → postfix_text p ≡ primary_text (out-Postfix p).primary ++ indices_text (out-Postfix p).indices.items
unfolding postfix_text primary_text indices_text postfix_pieces
postfix_text-is p = ap (λ q. text (postfix_pieces q)) (plain_postfix-out p) ∙ text-append _ _

pub indices_text-nil : indices_text [] ≡ []
unfolding indices_text indices_pieces
indices_text-nil = refl

pub indices_text-cons : (i : Expression × ℕ) (is : List (Expression × ℕ)) → indices_text (i ∷ is) ≡ shown (kind.Symbol symbol.LeftBracket) ++ (expression_text i.0 ++ (shown (kind.Symbol symbol.RightBracket) ++ indices_text is))
unfolding indices_text expression_text indices_pieces
indices_text-cons i is = ap (λ rest. shown (kind.Symbol symbol.LeftBracket) ++ rest) (text-append _ _)

-- ---- arguments

pub arguments_text-nil : arguments_text [] ≡ []
unfolding arguments_text arguments_pieces
arguments_text-nil = refl

pub arguments_text-cons : (e : Expression) (es : List Expression) → arguments_text (e ∷ es) ≡ expression_text e ++ more_arguments_text es
unfolding arguments_text more_arguments_text expression_text arguments_pieces
arguments_text-cons e es = text-append _ _

pub more_arguments_text-nil : more_arguments_text [] ≡ []
unfolding more_arguments_text more_arguments_pieces
more_arguments_text-nil = refl

pub more_arguments_text-cons : (e : Expression) (es : List Expression) → more_arguments_text (e ∷ es) ≡ shown (kind.Symbol symbol.Comma) ++ (expression_text e ++ more_arguments_text es)
unfolding more_arguments_text expression_text more_arguments_pieces
more_arguments_text-cons e es = ap (λ rest. shown (kind.Symbol symbol.Comma) ++ rest) (text-append _ _)

pub call_text-is : (arguments : List Expression) → call_text arguments ≡ shown (kind.Symbol symbol.LeftParen) ++ (arguments_text arguments ++ shown (kind.Symbol symbol.RightParen))
unfolding call_text arguments_text
call_text-is arguments = ap (λ rest. shown (kind.Symbol symbol.LeftParen) ++ rest) (text-then _ _)

pub group_text-is : (e : Expression) → group_text e ≡ shown (kind.Symbol symbol.LeftParen) ++ (expression_text e ++ shown (kind.Symbol symbol.RightParen))
unfolding group_text expression_text
group_text-is e = ap (λ rest. shown (kind.Symbol symbol.LeftParen) ++ rest) (text-then _ _)

-- ---- a primary

pub primary_text-Number : (number : ℤ) (at : ℕ) → primary_text (primary.Number number at) ≡ shown (kind.Num number)
unfolding primary_text primary_pieces
primary_text-Number number at = ap (λ p. text (primary_pieces p)) (plain_primary-Number number at) ∙ append-nil _

pub primary_text-Truth : (truth : Truth) (at : ℕ) → primary_text (primary.Truth truth at) ≡ shown (kind.Keyword (truth_keyword truth))
unfolding primary_text primary_pieces
primary_text-Truth truth at = ap (λ p. text (primary_pieces p)) (plain_primary-Truth truth at) ∙ append-nil _

pub primary_text-Variable : (name : Identifier) → primary_text (primary.Variable name) ≡ shown (kind.Lower name.name)
unfolding primary_text primary_pieces
primary_text-Variable name = ap (λ p. text (primary_pieces p)) (plain_primary-Variable name) ∙ append-nil _

pub primary_text-Call : (function : Identifier) (arguments : Vec Expression Global) → primary_text (primary.Call function arguments) ≡ shown (kind.Lower function.name) ++ call_text arguments.items
unfolding primary_text call_text primary_pieces
primary_text-Call function arguments = ap (λ p. text (primary_pieces p)) (plain_primary-Call function arguments)

pub primary_text-Make : (ty : Identifier) (arguments : Vec Expression Global) → primary_text (primary.Make ty arguments) ≡ shown (kind.Upper ty.name) ++ call_text arguments.items
unfolding primary_text call_text primary_pieces
primary_text-Make ty arguments = ap (λ p. text (primary_pieces p)) (plain_primary-Make ty arguments)

pub primary_text-Length : (array : Box Expression Global) (at : ℕ) → primary_text (primary.Length array at) ≡ shown (kind.Keyword keyword.Len) ++ group_text array.value
unfolding primary_text group_text primary_pieces
primary_text-Length array at = ap (λ p. text (primary_pieces p)) (plain_primary-Length array at)

pub primary_text-New : (element : Element) (length : Box Expression Global) (fill : Box Expression Global) (at : ℕ) → primary_text (primary.New element length fill at) ≡ shown (kind.Keyword keyword.New) ++ (shown (element_piece element).kind ++ (shown (kind.Symbol symbol.LeftBracket) ++ (expression_text length.value ++ (shown (kind.Symbol symbol.RightBracket) ++ group_text fill.value))))
unfolding primary_text group_text expression_text primary_pieces
primary_text-New element length fill at =
    ap (λ p. text (primary_pieces p)) (plain_primary-New element length fill at)
    ∙ ap (λ rest. shown (kind.Keyword keyword.New) ++ (shown (element_piece element).kind ++ (shown (kind.Symbol symbol.LeftBracket) ++ rest))) (text-append _ _)

pub primary_text-Group : (e : Box Expression Global) (at : ℕ) → primary_text (primary.Group e at) ≡ group_text e.value
unfolding primary_text group_text primary_pieces
primary_text-Group e at = ap (λ p. text (primary_pieces p)) (plain_primary-Group e at)

-- for code that puts one part behind another
pub ruleset expression_texts = (append_assoc, append-nil, expression_text-is, conjunctions_text-nil, conjunctions_text-cons, conjunction_text-is, negations_text-nil, negations_text-cons, sum_text-is, addends_text-nil, addends_text-cons, product_text-is, factors_text-nil, factors_text-cons, negation_text-is, unary_text-is, comparison_text-is, comparand_text-None, comparand_text-Some, postfix_text-is, indices_text-nil, indices_text-cons, arguments_text-nil, arguments_text-cons, more_arguments_text-nil, more_arguments_text-cons, call_text-is, group_text-is, primary_text-Number, primary_text-Truth, primary_text-Variable, primary_text-Call, primary_text-Make, primary_text-Length, primary_text-New, primary_text-Group)
