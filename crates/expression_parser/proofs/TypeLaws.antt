-- Types, parameters and clauses are read exactly.
use Rattle.std.proofs.Common.{◌≡◌, ℕ, true, false, List, [], ◌∷◌, ◌++◌, Option, Some, None, refl, sym, ap, ◌∙◌, ◌⊎◌, inl, inr}
use Rattle.std.specs.Prelude.{All}
use Rattle.std.proofs.lemmas.List.Elements.{All-nil}
use Rattle.xanadu_lexer.specs.declared.keyword.Keyword.TheVariants as word_of
use Rattle.xanadu_lexer.specs.declared.symbol.Symbol.TheVariants as symbol
use Rattle.xanadu_lexer.specs.declared.token.TokenKind.{TokenKind}
use Rattle.xanadu_lexer.specs.declared.token.TokenKind.TheVariants as kind
use Rattle.xanadu_tree.specs.declared.tree.types.Element.{Element}
use Rattle.xanadu_tree.specs.declared.tree.types.Element.TheVariants as element_of
use Rattle.xanadu_tree.specs.PlainTree as plain
use Rattle.xanadu_tree.specs.Pieces.{Piece, mark as mark_piece, with_commas, optional}
use Rattle.xanadu_tree.specs.Spelling as spelling
use Rattle.xanadu_tree.specs.Written.{PlacedIndex, PlacedType, PlacedParameter, PlacedClause, IsClause, IsSome, WhereGiven}
use Rattle.expression_parser.specs.Types as read
use Rattle.expression_parser.proofs.TokenTables.{mark-at, mark-any, word-at, a-lower, an-upper}
use Rattle.expression_parser.proofs.ProductionLaws.{Law, Any, law-give, law-take, law-made, law-choice, law-field, law-token, law-behind, law-before, law-sets, reads, either, EitherFits}
use Rattle.expression_parser.proofs.CommaLists.{law-commas}
use Rattle.expression_parser.proofs.IndexLaws.{names, index_heads, an-index, a-quantified, Quantified, quantifier_at, IsQuantified}

-- ---- elements

abbrev pub type_heads : List TokenKind
type_heads = kind.Keyword word_of.Int ∷ kind.Keyword word_of.Bool ∷ kind.Upper [] ∷ []

pub an-element : {most : ℕ} → Law most true (λ _. read.element) (λ e. e) Any (λ e. spelling.element_piece e ∷ []) type_heads false []
unfolding read.element
an-element = reads (law-choice (word-at word_of.Int) (λ at. law-give (element_of.Int at)) (law-choice (word-at word_of.Bool) (λ at. law-give (element_of.Bool at)) (law-made element_of.Named (law-take an-upper)) (λ _ _ _. refl) refl) (λ _ _ _. refl) refl)
    (elim [ inl (at, u) ↦ λ _. (tt, refl) | inr (inl (at, u)) ↦ λ _. (tt, refl) | inr (inr x) ↦ λ _. (tt, refl) ])
    (elim [ element_of.Int at ↦ λ _. (inl (at, tt), refl, (tt, tt)) | element_of.Bool at ↦ λ _. (inr (inl (at, tt)), refl, (tt, tt)) | element_of.Named x ↦ λ _. (inr (inr x), refl, tt) ]) refl

-- ---- types

abbrev length_pieces : Option plain.IndexExpression → List Piece
length_pieces o = optional spelling.index_pieces o ++ (mark_piece symbol.RightBracket ∷ [])

a-length : {most : ℕ} → Law most true (λ _. read.length_of) (λ o. o) (WhereGiven PlacedIndex) length_pieces (kind.Symbol symbol.RightBracket ∷ index_heads) false []
unfolding read.length_of
a-length = reads (law-choice (mark-any symbol.RightBracket) (λ _. law-give None) (law-made Some (law-before (mark-any symbol.RightBracket) an-index refl)) (λ _ _ _. refl) refl)
    (elim [ inl z ↦ λ _. (tt, refl) | inr i ↦ λ f. (f, refl) ]) (elim [ None ↦ λ _. (inl (0, tt), refl, (tt, tt)) | Some i ↦ λ f. (inr i, refl, f) ]) refl

-- the element that a type begins with, and what is behind it
abbrev first_element : plain.WrittenType → Element
first_element (plain.Int at) = element_of.Int at
first_element (plain.IntOf i at) = element_of.Int at
first_element (plain.Bool at) = element_of.Bool at
first_element (plain.Named x) = element_of.Named x
first_element (plain.Array e len) = e

abbrev behind_element : plain.WrittenType → List Piece
behind_element (plain.IntOf i at) = mark_piece symbol.LeftParen ∷ (spelling.index_pieces i ++ (mark_piece symbol.RightParen ∷ []))
behind_element (plain.Array e len) = mark_piece symbol.LeftBracket ∷ length_pieces len
behind_element _ = []

abbrev pub left_paren : List TokenKind
left_paren = kind.Symbol symbol.LeftParen ∷ []

-- a type that is no array's
abbrev IsNoArray : plain.WrittenType → Type 0
IsNoArray (plain.Array e len) = ⊥
IsNoArray _ = Unit {0}

record IsAlone (e : Element) (t : plain.WrittenType) : Type 0 where
  first : first_element t ≡ e
  placed : PlacedType t
  no_array : IsNoArray t

an-int : {most : ℕ} (at : ℕ) → Law most true (λ _. read.number_type at) (λ t. t) (IsAlone (element_of.Int at)) behind_element left_paren true left_paren
unfolding read.number_type
an-int at = reads (law-choice (mark-any symbol.LeftParen) (λ _. law-made (λ i. plain.IntOf i at) (law-before (mark-any symbol.RightParen) an-index refl)) (law-give (plain.Int at)) (λ _ _ _. refl) refl)
    (elim [ inl z ↦ λ f. (record { first = refl; placed = f.1; no_array = tt }, refl) | inr u ↦ λ _. (record { first = refl; placed = tt; no_array = tt }, refl) ])
    of refl
  where
    of : (t : plain.WrittenType) → IsAlone (element_of.Int at) t → (z : (ℕ × plain.IndexExpression) ⊎ Unit {0}) × (t ≡ either (λ q. plain.IntOf q.1 at) (λ _. plain.Int at) z) × EitherFits (λ q. Unit {0} × PlacedIndex q.1) (λ _. Unit {0}) z
    of (plain.Int b) a = (inr tt, let e = a.first in cc, tt)
    of (plain.IntOf i b) a = (inl (0, i), let e = a.first in cc, (tt, a.placed))
    of (plain.Bool b) a = let e = a.first in absurd cc
    of (plain.Named x) a = let e = a.first in absurd cc
    of (plain.Array e len) a = absurd a.no_array

alone : {most : ℕ} (e : Element) → Law most true (λ _. read.alone e) (λ t. t) (IsAlone e) behind_element left_paren true left_paren
alone (element_of.Int at) = an-int at
alone (element_of.Bool at) = reads (law-give (plain.Bool at)) (λ _ _. (record { first = refl; placed = tt; no_array = tt }, refl)) only refl
  where
    only : (t : plain.WrittenType) → IsAlone (element_of.Bool at) t → (u : Unit {0}) × (t ≡ plain.Bool at) × Unit {0}
    only (plain.Bool b) a = (tt, let e = a.first in cc, tt)
    only (plain.Array e len) a = absurd a.no_array
    only _ a = let e = a.first in absurd cc
alone (element_of.Named x) = reads (law-give (plain.Named x)) (λ _ _. (record { first = refl; placed = tt; no_array = tt }, refl)) only refl
  where
    only : (t : plain.WrittenType) → IsAlone (element_of.Named x) t → (u : Unit {0}) × (t ≡ plain.Named x) × Unit {0}
    only (plain.Named y) a = (tt, let e = a.first in cc, tt)
    only (plain.Array e len) a = absurd a.no_array
    only _ a = let e = a.first in absurd cc

abbrev pub type_stops : List TokenKind
type_stops = kind.Symbol symbol.LeftParen ∷ kind.Symbol symbol.LeftBracket ∷ []

pub a-type : {most : ℕ} → Law most true (λ _. read.written_type) (λ t. t) PlacedType spelling.type_pieces type_heads false type_stops
unfolding read.written_type
a-type = reads (law-field an-element (λ e. law-choice (mark-any symbol.LeftBracket) (λ _. law-made (plain.Array e) a-length) (alone e) (λ _ _ _. refl) refl) refl) (λ z f. into z.0 z.1 f.1) of refl
  where
    single : (t : plain.WrittenType) → IsNoArray t → spelling.element_piece (first_element t) ∷ behind_element t ≡ spelling.type_pieces t
    single (plain.Array e len) none = absurd none
    single (plain.Int at) none = refl
    single _ none = refl

    into : (e : Element) (x : (ℕ × Option plain.IndexExpression) ⊎ plain.WrittenType) → EitherFits (λ q. Unit {0} × WhereGiven PlacedIndex q.1) (IsAlone e) x
        → PlacedType (either (λ q. plain.Array e q.1) (λ t. t) x) × (spelling.element_piece e ∷ either (λ q. mark_piece symbol.LeftBracket ∷ length_pieces q.1) behind_element x ≡ spelling.type_pieces (either (λ q. plain.Array e q.1) (λ t. t) x))
    into e (inl q) f = (f.1, refl)
    into e (inr t) f = (f.placed, ap (λ d. spelling.element_piece d ∷ behind_element t) (sym f.first) ∙ single t f.no_array)

    of : (t : plain.WrittenType) → PlacedType t → (z : Element × ((ℕ × Option plain.IndexExpression) ⊎ plain.WrittenType)) × (t ≡ either (λ q. plain.Array z.0 q.1) (λ t. t) z.1) × (Unit {0} × EitherFits (λ q. Unit {0} × WhereGiven PlacedIndex q.1) (IsAlone z.0) z.1)
    of (plain.Array e len) f = ((e, inl (0, len)), refl, (tt, (tt, f)))
    of (plain.Int at) f = ((element_of.Int at, inr (plain.Int at)), refl, (tt, record { first = refl; placed = f; no_array = tt }))
    of (plain.IntOf i at) f = ((element_of.Int at, inr (plain.IntOf i at)), refl, (tt, record { first = refl; placed = f; no_array = tt }))
    of (plain.Bool at) f = ((element_of.Bool at, inr (plain.Bool at)), refl, (tt, record { first = refl; placed = f; no_array = tt }))
    of (plain.Named x) f = ((element_of.Named x, inr (plain.Named x)), refl, (tt, record { first = refl; placed = f; no_array = tt }))

-- ---- lists of types and of parameters

pub types : {most : ℕ} → Law most true (λ _. read.types) (λ ts. ts) (λ ts. IsSome ts × All PlacedType ts) (with_commas spelling.type_pieces) type_heads false (kind.Symbol symbol.Comma ∷ type_stops)
unfolding read.types
types = law-sets (law-commas a-type refl) refl

a-parameter : {most : ℕ} → Law most true (λ _. read.parameter) (λ p. p) PlacedParameter spelling.parameter_pieces names false type_stops
unfolding read.parameter
a-parameter = reads (law-field (law-take a-lower) (λ name. law-behind (mark-any symbol.Colon) (law-made (read.parameter_of name) a-type)) refl) (λ z f. (f.1, refl)) (λ p f. ((p.name, p.ty), refl, (tt, f))) refl

abbrev pub AreParameters : List plain.Parameter → Type 0
AreParameters ps = IsSome ps × All PlacedParameter ps

abbrev pub closed_parameters : List plain.Parameter → List Piece
closed_parameters ps = with_commas spelling.parameter_pieces ps ++ (mark_piece symbol.RightParen ∷ [])

some-parameters : {most : ℕ} → Law most true (λ _. read.some_parameters) (λ ps. ps) AreParameters closed_parameters names false []
unfolding read.some_parameters read.listed_parameters
some-parameters = law-sets (law-before (mark-any symbol.RightParen) (law-commas a-parameter refl) refl) refl

pub parameters : {most : ℕ} → Law most true (λ _. read.parameters) (λ ps. ps) (All PlacedParameter) (λ ps. mark_piece symbol.LeftParen ∷ closed_parameters ps) left_paren false []
unfolding read.parameters
parameters = law-behind (mark-any symbol.LeftParen) (reads {begin = kind.Symbol symbol.RightParen ∷ names} {after = []} (law-choice (mark-any symbol.RightParen) (λ _. law-give []) some-parameters (λ _ _ _. refl) refl)
    (elim [ inl z ↦ λ _. (All-nil PlacedParameter, refl) | inr ps ↦ λ f. (f.1, refl) ]) (elim [ [] ↦ λ _. (inl (0, tt), refl, (tt, tt)) | p ∷ ps ↦ λ f. (inr (p ∷ ps), refl, (tt, f)) ]) refl)

-- ---- clauses

abbrev pub FitsClause : plain.WrittenClause → Type 0
FitsClause c = IsClause c × PlacedClause c

abbrev pub clause_heads : List TokenKind
clause_heads = kind.Symbol symbol.LeftBrace ∷ left_paren

pub a-clause : {most : ℕ} → Law most true (λ _. read.clause) (λ c. c) FitsClause spelling.clause_pieces clause_heads false []
unfolding read.clause read.quantified_clause
a-clause = reads (law-choice (mark-at symbol.LeftBrace) (λ at. law-field (a-quantified at) (λ q. law-behind (mark-any symbol.LeftParen) (law-made (read.clause_of (Some q) at) some-parameters)) refl)
    (law-token (mark-at symbol.LeftParen) (λ at. law-made (read.clause_of None at) some-parameters) (λ _ _ _. refl)) (λ _ _ _. refl) refl)
    (elim [ inl (at, z) ↦ λ f. (((f.1.0.0, f.1.1.0), (refl, f.1.0.1, f.1.1.1)), refl) | inr (at, ps) ↦ λ f. (((tt, f.1.0), (tt, tt, f.1.1)), refl) ])
    (λ c f. of c.quantifier c.variables c.at f) refl
  where
    of : (o : Option plain.Quantifier) (ps : List plain.Parameter) (at : ℕ) → FitsClause (read.clause_of o at ps) → (z : (ℕ × (Quantified × List plain.Parameter)) ⊎ (ℕ × List plain.Parameter))
        × (read.clause_of o at ps ≡ either (λ q. read.clause_of (Some (quantifier_at q.0 q.1.0)) q.0 q.1.1) (λ q. read.clause_of None q.0 q.1) z) × EitherFits (λ q. Unit {0} × (IsQuantified (quantifier_at 0 q.1.0) × AreParameters q.1.1)) (λ q. Unit {0} × AreParameters q.1) z
    of None ps at f = (inr (at, ps), refl, (tt, (f.0.1, f.1.2)))
    of (Some q) ps at f = (inl (q.at, ((q.binders, q.relations), ps)), ap (λ (n : ℕ). read.clause_of (Some q) n ps) f.1.0, (tt, ((f.0.0, f.1.1), (f.0.1, f.1.2))))
