-- Declarations are read exactly.
use Rattle.std.proofs.Common.{ℕ, true, false, List, [], ◌∷◌, ◌++◌, Some, None, refl, ap, append_assoc, inl, inr}
use Rattle.xanadu_lexer.specs.declared.keyword.Keyword.TheVariants as word_of
use Rattle.xanadu_lexer.specs.declared.symbol.Symbol.TheVariants as symbol
use Rattle.xanadu_lexer.specs.declared.token.TokenKind.TheVariants as kind
use Rattle.xanadu_tree.specs.PlainTree as plain
use Rattle.xanadu_tree.specs.Pieces.{Piece, mark as mark_piece, word_at, with_commas, optional}
use Rattle.xanadu_tree.specs.Spelling as spelling
use Rattle.xanadu_tree.specs.Spelling.{semicolon, quantifier_pieces, type_body_pieces, result_pieces, declaration_pieces, block_pieces}
use Rattle.xanadu_tree.specs.Written.{IsTypeBody, PlacedTypeBody, IsResult, PlacedResult, IsDeclaration, PlacedDeclaration, type_at}
use Rattle.xanadu_parser.specs.Declarations as read
use Rattle.expression_parser.proofs.TokenTables.{mark-at, mark-any, word-at, a-lower, an-upper}
use Rattle.expression_parser.proofs.ProductionLaws.{Law, law-give, law-take, law-made, law-choice, law-field, law-token, law-behind, law-before, reads}
use Rattle.expression_parser.proofs.IndexLaws.{a-quantified, a-quantifier}
use Rattle.expression_parser.proofs.TypeLaws.{type_heads, type_stops, a-type, types, parameters}
use Rattle.xanadu_parser.proofs.StatementLaws.{some-block}

a-type-body : {most : ℕ} → Law most true (λ _. read.type_body) (λ b. b) (λ b. IsTypeBody b × PlacedTypeBody b) type_body_pieces (kind.Symbol symbol.LeftParen ∷ type_heads) false type_stops
unfolding read.type_body
a-type-body = reads (law-choice (mark-any symbol.LeftParen) (λ _. law-made plain.Tuple (law-before (mark-any symbol.RightParen) types refl)) (law-made plain.Cell a-type) (λ _ _ _. refl) refl)
    (elim [ inl (at, ts) ↦ λ f. (f.1, refl) | inr t ↦ λ f. ((tt, f), refl) ]) (elim [ plain.Tuple ts ↦ λ f. (inl (0, ts), refl, (tt, f)) | plain.Cell t ↦ λ f. (inr t, refl, f.1) ]) refl

a-result : {most : ℕ} → Law most true (λ _. read.result_type) (λ r. r) (λ r. IsResult r × PlacedResult r) result_pieces (kind.Keyword word_of.Unit ∷ kind.Symbol symbol.LeftBrace ∷ type_heads) false type_stops
unfolding read.result_type read.value_type
a-result = reads (law-choice (word-at word_of.Unit) (λ at. law-give (plain.NoValue at)) (law-choice (mark-at symbol.LeftBrace) (λ at. law-field (a-quantified at) (λ q. law-made (λ t. plain.AValue (Some q) t at) a-type) refl)
    (law-made (λ t. plain.AValue None t (type_at t)) a-type) (λ _ _ _. refl) refl) (λ _ _ _. refl) refl)
    (elim [ inl z ↦ λ _. ((tt, tt), refl) | inr (inl (at, z)) ↦ λ f. ((f.1.0.0, (refl, f.1.0.1, f.1.1)), refl) | inr (inr t) ↦ λ f. ((tt, (refl, tt, f)), refl) ])
    (elim [
      | plain.NoValue at ↦ λ _. (inl (at, tt), refl, (tt, tt))
      | plain.AValue (Some q) t at ↦ λ f. (inr (inl (q.at, ((q.binders, q.relations), t))), ap (plain.AValue (Some q) t) f.1.0, (tt, ((f.0, f.1.1), f.1.2)))
      | plain.AValue None t at ↦ λ f. (inr (inr t), ap (plain.AValue None t) f.1.0, f.1.2)
    ]) refl

abbrev pub FitsDeclaration : plain.Declaration → Type 0
FitsDeclaration d = IsDeclaration d × PlacedDeclaration d

pub a-declaration : (most : ℕ) → Law most true read.declaration (λ d. d) FitsDeclaration declaration_pieces (kind.Keyword word_of.«Type» ∷ kind.Keyword word_of.Fun ∷ []) false []
unfolding read.declaration read.type_declaration read.function_declaration
a-declaration most = reads (law-choice (word-at word_of.«Type») (λ at. law-made plain.OfType (law-field (law-take an-upper) (λ name. law-behind (mark-any symbol.Equal) (law-field a-quantifier (λ q. law-made (read.type_of at name q) (law-before (mark-any symbol.Semicolon) a-type-body refl)) refl)) refl))
    (law-token (word-at word_of.Fun) (λ at. law-made plain.OfFunction (law-field (law-take a-lower) (λ name. law-field a-quantifier (λ q. law-field parameters (λ ps. law-behind (mark-any symbol.Colon) (law-field a-result (λ r. law-made (read.function_of at name q ps r) (some-block most)) refl)) refl) refl) refl)) (λ _ _ _. refl)) (λ _ _ _. refl) refl)
    (elim [
      | inl (at, z) ↦ λ f. (((f.1.1.0.0, f.1.1.1.0), (f.1.1.0.1, f.1.1.1.1)), refl)
      | inr (at, z) ↦ λ f. (
        ((f.1.1.0.0, f.1.1.1.1.0.0, f.1.1.1.1.1.0), (f.1.1.0.1, f.1.1.1.0, f.1.1.1.1.0.1, f.1.1.1.1.1.1)),
        ap (λ (p : List Piece). word_at word_of.Fun at ∷ spelling.lower z.0 ∷ (optional quantifier_pieces z.1.0 ++ (mark_piece symbol.LeftParen ∷ p))) (append_assoc (with_commas spelling.parameter_pieces z.1.1.0) (mark_piece symbol.RightParen ∷ []) _),
      )
    ])
    (elim [
      | plain.OfType d ↦ λ f. (inl (d.at, (d.name, (d.quantifier, d.body))), refl, (tt, (tt, ((f.0.0, f.1.0), (f.0.1, f.1.1)))))
      | plain.OfFunction d ↦ λ f. (inr (d.at, (d.name, (d.quantifier, (d.parameters, (d.result, d.body))))), refl, (tt, (tt, ((f.0.0, f.1.0), (f.1.1, ((f.0.1, f.1.2), (f.0.2, f.1.3)))))))
    ]) refl
