-- The text of quantifiers, index expressions, types and clauses, by the texts of their parts.
use Rattle.std.proofs.Common.{◌≡◌, ◌∙◌, ℕ, ℤ, Bool, true, false, ◌<◌, List, [], ◌∷◌, ◌++◌, length, map, Option, Some, None, refl, sym, ap, append_assoc, append-nil, arith}
use Rattle.std.specs.Option.{option_map}
use Rattle.xanadu_lexer.specs.declared.keyword.Keyword.{Keyword}
use Rattle.xanadu_lexer.specs.declared.keyword.Keyword.TheVariants as keyword
use Rattle.xanadu_lexer.specs.declared.symbol.Symbol.TheVariants as symbol
use Rattle.xanadu_lexer.specs.declared.token.TokenKind.TheVariants as kind
use Rattle.xanadu_tree.specs.declared.tree.declaration.Identifier.{Identifier}
use Rattle.xanadu_tree.specs.declared.tree.declaration.Parameter.{Parameter}
use Rattle.xanadu_tree.specs.declared.tree.index.Binder.{Binder}
use Rattle.xanadu_tree.specs.declared.tree.index.IndexExpression.{IndexExpression}
use Rattle.xanadu_tree.specs.declared.tree.index.IndexTerm.{IndexTerm}
use Rattle.xanadu_tree.specs.declared.tree.index.IndexTerm.TheVariants as index_term
use Rattle.xanadu_tree.specs.declared.tree.index.Quantifier.{Quantifier}
use Rattle.xanadu_tree.specs.declared.tree.index.Relation.{Relation}
use Rattle.xanadu_tree.specs.declared.tree.index.Sign.{Sign}
use Rattle.xanadu_tree.specs.declared.tree.statement.WrittenClause.{WrittenClause}
use Rattle.xanadu_tree.specs.declared.tree.types.Element.{Element}
use Rattle.xanadu_tree.specs.declared.tree.types.Type.TheVariants as ty
use Rattle.xanadu_tree.specs.Pieces.{Piece, mark, shown, text, behind_commas, with_commas}
use Rattle.xanadu_tree.specs.PlainTreeOf.{plain_relation, plain_parameter, plain_quantifier}
use Rattle.xanadu_tree.specs.Spelling.{paren_behind, sign_symbol, index_relation_symbol, sort_keyword, mark_if, element_piece, lower, relation_pieces, binder_pieces, parameter_pieces}
use Rattle.xanadu_tree.specs.Printing.{listed_from, listed, index_term_text, signed_text, index_text, relation_text, relations_text, binder_text, quantifier_text, some_quantifier_text, some_index_text, type_text, parameter_text, name_text, clause_text, some_clause_text}
use Rattle.xanadu_tree.proofs.Texts.{text-append, text-then, text-then_two}

-- ---- lists with commas

behind_commas-from : {A B : Type 0} (pieces : A → List Piece) (as_is : B → A) (of : B → List ℕ) → ((y : B) → of y ≡ text (pieces (as_is y))) → (ys : List B)
    → text (behind_commas pieces (map as_is ys)) ≡ listed_from false of ys
behind_commas-from pieces as_is of each [] = refl
behind_commas-from pieces as_is of each (y ∷ ys) =
    ap (λ rest. shown (kind.Symbol symbol.Comma) ++ rest)
    (text-append (pieces (as_is y)) _ ∙ ap (λ t. t ++ text (behind_commas pieces (map as_is ys))) (sym (each y))
    ∙ ap (λ rest. of y ++ rest) (behind_commas-from pieces as_is of each ys))

-- the pieces of plain items, by the texts of the items
pub with_commas-listed : {A B : Type 0} (pieces : A → List Piece) (as_is : B → A) (of : B → List ℕ) → ((y : B) → of y ≡ text (pieces (as_is y))) → (ys : List B)
    → text (with_commas pieces (map as_is ys)) ≡ listed of ys
unfolding listed
with_commas-listed pieces as_is of each [] = refl
with_commas-listed pieces as_is of each (y ∷ ys) =
    text-append (pieces (as_is y)) _ ∙ ap (λ t. t ++ text (behind_commas pieces (map as_is ys))) (sym (each y))
    ∙ ap (λ rest. of y ++ rest) (behind_commas-from pieces as_is of each ys)

map-id : {A : Type 0} (xs : List A) → map (λ x. x) xs ≡ xs
map-id [] = refl
map-id (x ∷ xs) = ap (λ rest. x ∷ rest) (map-id xs)

pub with_commas-as_is : {A : Type 0} (pieces : A → List Piece) (of : A → List ℕ) → ((x : A) → of x ≡ text (pieces x)) → (xs : List A)
    → text (with_commas pieces xs) ≡ listed of xs
with_commas-as_is pieces of each xs = ap (λ ys. text (with_commas pieces ys)) (sym (map-id xs)) ∙ with_commas-listed pieces (λ x. x) of each xs

-- ---- index expressions

pub index_term_text-Number : (number : ℤ) (at : ℕ) → index_term_text (index_term.Number number at) ≡ shown (kind.Num number)
unfolding index_term_text
index_term_text-Number number at = append-nil _

pub index_term_text-Product : (number : ℤ) (variable : Identifier) (at : ℕ) → index_term_text (index_term.Product number variable at) ≡ shown (kind.Num number) ++ (shown (kind.Symbol symbol.Star) ++ shown (kind.Lower variable.name))
unfolding index_term_text
index_term_text-Product number variable at = simp append-nil refl

pub index_term_text-Variable : (variable : Identifier) → index_term_text (index_term.Variable variable) ≡ shown (kind.Lower variable.name)
unfolding index_term_text
index_term_text-Variable variable = append-nil _

pub signed_text-nil : signed_text [] ≡ []
unfolding signed_text
signed_text-nil = refl

pub signed_text-cons : (t : Sign × IndexTerm) (ts : List (Sign × IndexTerm)) → signed_text (t ∷ ts) ≡ shown (kind.Symbol (sign_symbol t.0)) ++ (index_term_text t.1 ++ signed_text ts)
unfolding signed_text index_term_text
signed_text-cons t ts = ap (λ rest. shown (kind.Symbol (sign_symbol t.0)) ++ rest) (text-append _ _)

pub index_text-is : (e : IndexExpression) → index_text e ≡ text (mark_if e.negative symbol.Minus e.at) ++ (index_term_text e.first ++ signed_text e.rest.items)
unfolding index_text index_term_text signed_text
index_text-is e = text-append _ _ ∙ ap (λ rest. text (mark_if e.negative symbol.Minus e.at) ++ rest) (text-append _ _)

pub some_index_text-None : some_index_text None ≡ []
unfolding some_index_text
some_index_text-None = refl

pub some_index_text-Some : (e : IndexExpression) → some_index_text (Some e) ≡ index_text e
unfolding some_index_text index_text
some_index_text-Some e = refl

-- ---- quantifiers

pub relation_text-is : (r : Relation) → relation_text r ≡ index_text r.left ++ (shown (kind.Symbol (index_relation_symbol r.relation)) ++ index_text r.right)
unfolding relation_text index_text
relation_text-is r = text-append _ _

relation_text-pieces : (r : Relation) → relation_text r ≡ text (relation_pieces (plain_relation r))
unfolding relation_text
relation_text-pieces r = refl

pub relations_text-nil : relations_text [] ≡ []
unfolding relations_text
relations_text-nil = refl

pub relations_text-cons : (r : Relation) (rs : List Relation) → relations_text (r ∷ rs) ≡ shown (kind.Symbol symbol.Bar) ++ listed relation_text (r ∷ rs)
unfolding relations_text
relations_text-cons r rs = ap (λ rest. shown (kind.Symbol symbol.Bar) ++ rest) (with_commas-listed relation_pieces plain_relation relation_text relation_text-pieces (r ∷ rs))

pub relations_text-none : (rs : List Relation) → length rs ≡ 0 → relations_text rs ≡ []
relations_text-none [] none = relations_text-nil
relations_text-none (r ∷ rs) none = absurd (omega (arith, none))

pub relations_text-some : (rs : List Relation) → 0 < length rs → relations_text rs ≡ shown (kind.Symbol symbol.Bar) ++ listed relation_text rs
relations_text-some [] some = absurd (omega (arith, some))
relations_text-some (r ∷ rs) some = relations_text-cons r rs

pub binder_text-is : (b : Binder) → binder_text b ≡ shown (kind.Lower b.name.name) ++ (shown (kind.Symbol symbol.Colon) ++ shown (kind.Keyword (sort_keyword b.sort)))
unfolding binder_text
binder_text-is b = simp append-nil refl

binder_text-pieces : (b : Binder) → binder_text b ≡ text (binder_pieces b)
unfolding binder_text
binder_text-pieces b = refl

pub quantifier_text-is : (q : Quantifier) → quantifier_text q ≡ shown (kind.Symbol symbol.LeftBrace) ++ (listed binder_text q.binders.items ++ (relations_text q.relations.items ++ shown (kind.Symbol symbol.RightBrace)))
unfolding quantifier_text relations_text
quantifier_text-is q =
    ap (λ rest. shown (kind.Symbol symbol.LeftBrace) ++ rest)
    (text-then_two _ _ (mark symbol.RightBrace)
    ∙ ap (λ t. t ++ (relations_text q.relations.items ++ shown (kind.Symbol symbol.RightBrace))) (with_commas-as_is binder_pieces binder_text binder_text-pieces q.binders.items))

pub some_quantifier_text-None : some_quantifier_text None ≡ []
unfolding some_quantifier_text
some_quantifier_text-None = refl

pub some_quantifier_text-Some : (q : Quantifier) → some_quantifier_text (Some q) ≡ quantifier_text q
unfolding some_quantifier_text quantifier_text
some_quantifier_text-Some q = refl

-- ---- types

pub type_text-Int : (at : ℕ) → type_text (ty.Int at) ≡ shown (kind.Keyword keyword.Int)
unfolding type_text
type_text-Int at = append-nil _

pub type_text-IntOf : (index : IndexExpression) (at : ℕ) → type_text (ty.IntOf index at) ≡ shown (kind.Keyword keyword.Int) ++ (shown (kind.Symbol symbol.LeftParen) ++ (index_text index ++ shown (kind.Symbol symbol.RightParen)))
unfolding type_text index_text
type_text-IntOf index at = ap (λ rest. shown (kind.Keyword keyword.Int) ++ (shown (kind.Symbol symbol.LeftParen) ++ rest)) (text-then _ _)

pub type_text-Bool : (at : ℕ) → type_text (ty.Bool at) ≡ shown (kind.Keyword keyword.Bool)
unfolding type_text
type_text-Bool at = append-nil _

pub type_text-Named : (name : Identifier) → type_text (ty.Named name) ≡ shown (kind.Upper name.name)
unfolding type_text
type_text-Named name = append-nil _

pub type_text-Array : (element : Element) (length : Option IndexExpression) → type_text (ty.Array element length) ≡ shown (element_piece element).kind ++ (shown (kind.Symbol symbol.LeftBracket) ++ (some_index_text length ++ shown (kind.Symbol symbol.RightBracket)))
unfolding type_text some_index_text
type_text-Array element length = ap (λ rest. shown (element_piece element).kind ++ (shown (kind.Symbol symbol.LeftBracket) ++ rest)) (text-then _ _)

pub parameter_text-is : (p : Parameter) → parameter_text p ≡ shown (kind.Lower p.name.name) ++ (shown (kind.Symbol symbol.Colon) ++ type_text p.ty)
unfolding parameter_text type_text
parameter_text-is p = refl

pub parameter_text-pieces : (p : Parameter) → parameter_text p ≡ text (parameter_pieces (plain_parameter p))
unfolding parameter_text
parameter_text-pieces p = refl

pub name_text-is : (x : Identifier) → name_text x ≡ shown (kind.Lower x.name)
unfolding name_text
name_text-is x = append-nil _

pub name_text-pieces : (x : Identifier) → name_text x ≡ text (lower x ∷ [])
unfolding name_text
name_text-pieces x = refl

-- ---- clauses

-- a list in parentheses
clause_by : (quantifier : Option Quantifier) (at : ℕ) (variables : List Piece)
    → text (paren_behind (option_map plain_quantifier quantifier) at ∷ (variables ++ (mark symbol.RightParen ∷ []))) ≡ shown (kind.Symbol symbol.LeftParen) ++ (text variables ++ shown (kind.Symbol symbol.RightParen))
clause_by None at variables = ap (λ rest. shown (kind.Symbol symbol.LeftParen) ++ rest) (text-then variables _)
clause_by (Some q) at variables = ap (λ rest. shown (kind.Symbol symbol.LeftParen) ++ rest) (text-then variables _)

pub clause_text-is : (c : WrittenClause) → clause_text c ≡ some_quantifier_text c.quantifier ++ (shown (kind.Symbol symbol.LeftParen) ++ (listed parameter_text c.variables.items ++ shown (kind.Symbol symbol.RightParen)))
unfolding clause_text some_quantifier_text
clause_text-is c =
    text-append _ _
    ∙ ap (λ rest. some_quantifier_text c.quantifier ++ rest)
    (clause_by c.quantifier c.at _
    ∙ ap (λ t. shown (kind.Symbol symbol.LeftParen) ++ (t ++ shown (kind.Symbol symbol.RightParen))) (with_commas-listed parameter_pieces plain_parameter parameter_text parameter_text-pieces c.variables.items))

pub some_clause_text-None : (keyword : Keyword) → some_clause_text keyword None ≡ []
unfolding some_clause_text
some_clause_text-None keyword = refl

pub some_clause_text-Some : (keyword : Keyword) (c : WrittenClause) → some_clause_text keyword (Some c) ≡ shown (kind.Keyword keyword) ++ clause_text c
unfolding some_clause_text clause_text
some_clause_text-Some keyword c = refl

-- for code that puts one part behind another
pub ruleset type_texts = (append_assoc, append-nil, index_term_text-Number, index_term_text-Product, index_term_text-Variable, signed_text-nil, signed_text-cons, index_text-is, some_index_text-None, some_index_text-Some, relation_text-is, relations_text-nil, relations_text-cons, binder_text-is, quantifier_text-is, some_quantifier_text-None, some_quantifier_text-Some, type_text-Int, type_text-IntOf, type_text-Bool, type_text-Named, type_text-Array, parameter_text-is, name_text-is, clause_text-is, some_clause_text-None, some_clause_text-Some)
