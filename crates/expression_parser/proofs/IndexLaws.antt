-- Index expressions and quantifiers are read exactly.
use Rattle.std.proofs.Common.{◌≡◌, ℕ, Bool, true, false, List, [], ◌∷◌, ◌++◌, Option, Some, None, refl, ap, ◌⊎◌, inl, inr}
use Rattle.std.specs.Prelude.{All, pos}
use Rattle.std.proofs.lemmas.List.Elements.{All-nil}
use Rattle.xanadu_lexer.specs.declared.keyword.Keyword.TheVariants as word_of
use Rattle.xanadu_lexer.specs.declared.symbol.Symbol.TheVariants as symbol
use Rattle.xanadu_lexer.specs.declared.token.TokenKind.{TokenKind}
use Rattle.xanadu_lexer.specs.declared.token.TokenKind.TheVariants as kind
use Rattle.xanadu_tree.specs.declared.tree.index.IndexTerm.{IndexTerm}
use Rattle.xanadu_tree.specs.declared.tree.index.IndexTerm.TheVariants as index_term
use Rattle.xanadu_tree.specs.declared.tree.index.Binder.{Binder}
use Rattle.xanadu_tree.specs.declared.tree.index.Sign.{Sign}
use Rattle.xanadu_tree.specs.declared.tree.index.Sort.TheVariants as sort_of
use Rattle.xanadu_tree.specs.PlainTree as plain
use Rattle.xanadu_tree.specs.Pieces.{Piece, word, mark as mark_piece, with_commas, optional}
use Rattle.xanadu_tree.specs.Spelling as spelling
use Rattle.xanadu_tree.specs.Written.{PlacedIndex, PlacedRelation, PlacedQuantifier, IsQuantifier, IsSome, WhereGiven, IsAtUnless, index_term_at}
use Rattle.expression_parser.specs.Index as read
use Rattle.expression_parser.proofs.TokenTables.{mark-at, mark-any, word-any, a-lower, a-number, a-sign, an-index-relation, marks, signs}
use Rattle.expression_parser.proofs.ProductionLaws.{Law, Any, law-give, law-take, law-made, law-choice, law-field, law-token, law-behind, law-repeated, law-sets, law-parts, reads, either, EitherFits}
use Rattle.expression_parser.proofs.CommaLists.{law-commas}

-- ---- terms

abbrev pub names : List TokenKind
names = kind.Lower [] ∷ []

abbrev pub term_heads : List TokenKind
term_heads = kind.Num (pos 0) ∷ names

abbrev pub term_stops : List TokenKind
term_stops = kind.Symbol symbol.Star ∷ []

a-term : {most : ℕ} → Law most true (λ _. read.term) (λ t. t) Any spelling.index_term_pieces term_heads false term_stops
unfolding read.term read.scaled
a-term = reads (law-choice a-number (λ n. law-choice (mark-any symbol.Star) (λ _. law-made (λ x. index_term.Product n.0 x n.1) (law-take a-lower)) (law-give (index_term.Number n.0 n.1)) (λ _ _ _. refl) refl)
    (law-made index_term.Variable (law-take a-lower)) (λ _ _ _. refl) refl)
    (elim [ inl (n, inl (at, x)) ↦ λ _. (tt, refl) | inl (n, inr u) ↦ λ _. (tt, refl) | inr x ↦ λ _. (tt, refl) ])
    (elim [ index_term.Number n at ↦ λ _. (inl ((n, at), inr tt), refl, (tt, tt)) | index_term.Product n x at ↦ λ _. (inl ((n, at), inl (0, x)), refl, (tt, (tt, tt))) | index_term.Variable x ↦ λ _. (inr x, refl, tt) ]) refl

-- ---- sums of terms

abbrev pub index_stops : List TokenKind
index_stops = kind.Symbol symbol.Star ∷ marks signs

some-terms : {most : ℕ} → Law most true (λ _. read.terms) (λ ts. ts) Any spelling.signed_pieces (marks signs) true index_stops
unfolding read.terms
some-terms = law-repeated [] a-sign (λ s. law-made (λ t. (s.0, t)) a-term) (λ _ _ _. refl)
    (record { no_fits = tt; more_fits = λ _ _ _ _ _ _. tt; parts_fit = λ x xs _. ((x.0, 0), x.1, refl, tt, tt, tt); no_pieces = refl; more_pieces = λ _ _ _. refl }) refl

abbrev pub index_heads : List TokenKind
index_heads = kind.Symbol symbol.Minus ∷ term_heads

pub an-index : {most : ℕ} → Law most true (λ _. read.index) (λ e. e) PlacedIndex spelling.index_pieces index_heads false index_stops
unfolding read.index
an-index = reads (law-choice (mark-at symbol.Minus) (λ at. law-field a-term (λ first. law-made (read.negated_sum at first) some-terms) refl) (law-field a-term (λ first. law-made (read.plain_sum first) some-terms) refl) (λ _ _ _. refl) refl)
    (elim [ inl (at, z) ↦ λ _. (tt, refl) | inr z ↦ λ _. (refl, refl) ])
    (λ e f. by_sign e.negative e.first e.rest e.at f) refl
  where
    by_sign : (negative : Bool) (t : IndexTerm) (ts : List (Sign × IndexTerm)) (at : ℕ) → IsAtUnless negative at (index_term_at t) → (z : (ℕ × (IndexTerm × List (Sign × IndexTerm))) ⊎ (IndexTerm × List (Sign × IndexTerm)))
        × (record { negative = negative; first = t; rest = ts; at = at } ≡ either (λ q. read.negated_sum q.0 q.1.0 q.1.1) (λ z. read.plain_sum z.0 z.1) z) × EitherFits (λ _. Unit {0} × (Unit {0} × Unit {0})) (λ _. Unit {0} × Unit {0}) z
    by_sign true t ts at e = (inl (at, (t, ts)), refl, (tt, (tt, tt)))
    by_sign false t ts at e = (inr (t, ts), ap (λ (n : ℕ). record { negative = false; first = t; rest = ts; at = n }) e, (tt, tt))

-- ---- relations

pub a-relation : {most : ℕ} → Law most true (λ _. read.relation) (λ r. r) PlacedRelation spelling.relation_pieces index_heads false index_stops
unfolding read.relation read.between
a-relation = reads (law-field an-index (λ left. law-field (law-token an-index-relation (λ r. law-give r.0) (λ _ _ _. refl)) (λ r. law-made (read.relation_of left r) an-index) refl) refl)
    (λ z f. ((f.0, f.1.1), refl)) (λ r f. ((r.left, (((r.relation, 0), tt), r.right)), refl, (f.0, ((tt, tt), f.1)))) refl

abbrev pub bar : List TokenKind
bar = kind.Symbol symbol.Bar ∷ []

abbrev pub relation_stops : List TokenKind
relation_stops = kind.Symbol symbol.Comma ∷ kind.Symbol symbol.Bar ∷ index_stops

assumptions : {most : ℕ} → Law most true (λ _. read.assumed) (λ rs. rs) (All PlacedRelation) spelling.relations_pieces bar true relation_stops
unfolding read.assumed read.relations
assumptions = reads (law-choice (mark-any symbol.Bar) (λ _. law-commas a-relation refl) (law-give []) (λ _ _ _. refl) refl)
    (elim [ inl (at, rs) ↦ λ f. (f.1.1, with_bar rs f.1.0) | inr u ↦ λ _. (All-nil PlacedRelation, refl) ]) (elim [ [] ↦ λ _. (inr tt, refl, tt) | r ∷ rs ↦ λ f. (inl (0, r ∷ rs), refl, (tt, (tt, f))) ]) refl
  where
    with_bar : (rs : List plain.Relation) → IsSome rs → mark_piece symbol.Bar ∷ with_commas spelling.relation_pieces rs ≡ spelling.relations_pieces rs
    with_bar [] some = absurd some
    with_bar (r ∷ rs) some = refl

-- ---- binders

a-sort : {most : ℕ} → Law most true (λ _. read.sort) (λ s. s) Any (λ s. word (spelling.sort_keyword s) ∷ []) (kind.Keyword word_of.Int ∷ kind.Keyword word_of.Nat ∷ []) false []
unfolding read.sort
a-sort = reads (law-choice (word-any word_of.Int) (λ _. law-give sort_of.Int) (law-token (word-any word_of.Nat) (λ _. law-give sort_of.Nat) (λ _ _ _. refl)) (λ _ _ _. refl) refl)
    (elim [ inl z ↦ λ _. (tt, refl) | inr z ↦ λ _. (tt, refl) ]) (elim [ sort_of.Int ↦ λ _. (inl (0, tt), refl, (tt, tt)) | sort_of.Nat ↦ λ _. (inr (0, tt), refl, (tt, tt)) ]) refl

abbrev pub comma : List TokenKind
comma = kind.Symbol symbol.Comma ∷ []

a-binder : {most : ℕ} → Law most true (λ _. read.binder) (λ b. b) Any spelling.binder_pieces names false []
unfolding read.binder
a-binder = reads (law-field (law-take a-lower) (λ name. law-behind (mark-any symbol.Colon) (law-made (read.binder_of name) a-sort)) refl) (λ _ _. (tt, refl)) (λ b _. ((b.name, b.sort), refl, (tt, tt))) refl

binders : {most : ℕ} → Law most true (λ _. read.binders) (λ bs. bs) IsSome (with_commas spelling.binder_pieces) names false comma
unfolding read.binders
binders = reads (law-commas a-binder refl) (λ bs f. (f.0, refl)) (λ bs f. (bs, refl, (f, λ _ _ _. tt))) refl

-- ---- quantifiers

abbrev pub IsQuantified : plain.Quantifier → Type 0
IsQuantified q = IsQuantifier q × PlacedQuantifier q

-- what is behind the brace of a quantifier that begins there
abbrev pub behind_brace : plain.Quantifier → List Piece
behind_brace q = with_commas spelling.binder_pieces q.binders ++ (spelling.relations_pieces q.relations ++ (mark_piece symbol.RightBrace ∷ []))

abbrev pub Quantified : Type 0
Quantified = List Binder × List plain.Relation

abbrev pub quantifier_at : ℕ → Quantified → plain.Quantifier
quantifier_at at z = read.quantifier_of at z.0 z.1

-- its parts, which do not depend on its place
pub a-quantified : {most : ℕ} (at : ℕ) → Law most true (λ _. read.quantified at) (quantifier_at at) (λ z. IsQuantified (quantifier_at 0 z)) (λ z. behind_brace (quantifier_at 0 z)) names false []
unfolding read.quantified
a-quantified at = law-sets (law-parts (law-field binders (λ bs. law-field assumptions (λ rs. law-behind (mark-any symbol.RightBrace) (law-give (read.quantifier_of at bs rs))) refl) refl)
    (λ z f. ((z.0, z.1.0), refl, (f.0, f.1.0), refl)) (λ z f. ((z.0, (z.1, tt)), refl, (f.0, (f.1, tt)), refl))) refl

abbrev pub MayBeQuantified : Option plain.Quantifier → Type 0
MayBeQuantified o = WhereGiven IsQuantifier o × WhereGiven PlacedQuantifier o

abbrev pub left_brace : List TokenKind
left_brace = kind.Symbol symbol.LeftBrace ∷ []

pub a-quantifier : {most : ℕ} → Law most true (λ _. read.quantifier) (λ o. o) MayBeQuantified (optional spelling.quantifier_pieces) left_brace true left_brace
unfolding read.quantifier
a-quantifier = reads (law-choice (mark-at symbol.LeftBrace) (λ at. law-made Some (a-quantified at)) (law-give None) (λ _ _ _. refl) refl)
    (elim [ inl (at, z) ↦ λ f. (f.1, refl) | inr u ↦ λ _. ((tt, tt), refl) ]) (elim [ Some q ↦ λ f. (inl (q.at, (q.binders, q.relations)), refl, (tt, f)) | None ↦ λ _. (inr tt, refl, tt) ]) refl
