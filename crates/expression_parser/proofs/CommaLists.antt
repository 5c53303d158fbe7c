-- Lists with commas, and parts that another type shows.
use Rattle.std.proofs.Common.{◌≡◌, ℕ, suc, Bool, true, false, List, [], ◌∷◌, ◌++◌, refl, sym, ap, subst, arith}
use Rattle.std.specs.Prelude.{All}
use Rattle.std.proofs.lemmas.List.Elements.{All-cons, All-nil}
use Rattle.xanadu_lexer.specs.declared.symbol.Symbol.TheVariants as symbol
use Rattle.xanadu_lexer.specs.declared.token.TokenKind.{TokenKind}
use Rattle.xanadu_lexer.specs.declared.token.TokenKind.TheVariants as kind
use Rattle.xanadu_tree.specs.Pieces.{Piece, mark as mark_piece, behind_commas, with_commas}
use Rattle.xanadu_tree.specs.Written.{IsSome}
use Rattle.xan_read.specs.Symbols.{separated}
use Rattle.expression_parser.specs.Reader.{Family}
use Rattle.expression_parser.specs.Tables.{mark}
use Rattle.expression_parser.proofs.TokenSets.{meets, and_then, or_else}
use Rattle.expression_parser.proofs.TokenTables.{mark-any}
use Rattle.expression_parser.proofs.ProductionLaws.{Law, Any, AreItems, law-parts, law-separated, not', when}

pub all_parts : {X : Type 0} (P : X → Type 0) (x : X) (xs : List X) → All P (x ∷ xs) → P x × All P xs
all_parts P x xs h = (h 0 x (omega arith), λ k d less. h (suc k) d (omega arith))

all-items : {B : Type 0} (Fits : B → Type 0) (pieces : B → List Piece) → AreItems {A = ℕ} (λ _ b. b) Any Fits (λ _. mark_piece symbol.Comma) pieces (All Fits) (behind_commas pieces)
all-items Fits pieces = record {
  no_fits = All-nil Fits;
  more_fits = λ _ x xs _ f others. All-cons Fits x xs f others;
  parts_fit = λ x xs f. let p = all_parts Fits x xs f in (0, x, refl, tt, p.0, p.1);
  no_pieces = refl;
  more_pieces = λ _ _ _. refl;
}

-- one at least
pub law-commas : {B : Type 0} {most : ℕ} {wide empty : Bool} {heads stops : List TokenKind} {P : Family B} {Fits : B → Type 0} {pieces : B → List Piece}
    → Law most wide P (λ b. b) Fits pieces heads empty stops → meets (kind.Symbol symbol.Comma ∷ []) stops ≡ false
    → Law most (and_then wide (or_else (not' empty) true)) (λ room. separated (mark symbol.Comma) (P room)) (λ xs. xs) (λ xs. IsSome xs × All Fits xs) (with_commas pieces)
    (heads ++ when empty (kind.Symbol symbol.Comma ∷ [])) (and_then empty true) ((stops ++ (kind.Symbol symbol.Comma ∷ [])) ++ stops)
law-commas {Fits = Fits} {pieces = pieces} law apart = law-parts (law-separated (mark-any symbol.Comma) law (all-items Fits pieces) apart) (λ q f. (q.0 ∷ q.1, refl, (tt, All-cons Fits q.0 q.1 f.0 f.1), refl))
    (elim [ [] ↦ λ f. absurd f.0 | x ∷ xs ↦ λ f. ((x, xs), refl, all_parts Fits x xs f.1, refl) ])

-- parts that another type shows
pub law-through : {X T Y : Type 0} {most : ℕ} {wide empty : Bool} {heads stops : List TokenKind} {P : Family Y} {to : X → T} → ((t : T) → (x : X) × (t ≡ to x)) → (make : T → Y) (Fits : T → Type 0) (pieces : T → List Piece)
    → Law most wide P (λ x. make (to x)) (λ x. Fits (to x)) (λ x. pieces (to x)) heads empty stops → Law most wide P make Fits pieces heads empty stops
law-through {to = to} of make Fits pieces law = law-parts law (λ x f. (to x, refl, f, refl)) (λ t f. let p = of t in (p.0, ap make p.1, subst Fits p.1 f, ap pieces (sym p.1)))
