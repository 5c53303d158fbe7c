-- Sets of kinds of tokens, as lists: what a table takes, what a text begins with, and what may not follow it. Which set lies within which, and which
-- have a kind in common, is computed.
use Rattle.std.proofs.Common.{◌≡◌, Bool, true, false, List, [], ◌∷◌, ◌++◌, refl, ap, ◌∙◌}
use Rattle.std.specs.Prelude.{pos}
use Rattle.xanadu_lexer.specs.declared.token.Token.{Token}
use Rattle.xanadu_lexer.specs.declared.token.TokenKind.{TokenKind}
use Rattle.xanadu_lexer.specs.declared.token.TokenKind.TheVariants as kind
use Rattle.xanadu_lexer.specs.contracts.keyword.Keyword as keyword_type
use Rattle.xanadu_lexer.specs.contracts.symbol.Symbol as symbol_type
use denote.Enum.Bare.{same_true}
use Rattle.xanadu_tree.specs.Pieces.{Piece}
use Rattle.expression_parser.specs.Tables.{is_keyword, is_symbol}

-- kinds that differ in a name or a number only count as one
abbrev pub class : TokenKind → TokenKind
class (kind.Lower x) = kind.Lower []
class (kind.Upper x) = kind.Upper []
class (kind.Num n) = kind.Num (pos 0)
class (kind.Keyword w) = kind.Keyword w
class (kind.Symbol s) = kind.Symbol s

abbrev is_lower : TokenKind → Bool
is_lower (kind.Lower x) = true
is_lower _ = false

abbrev is_upper : TokenKind → Bool
is_upper (kind.Upper x) = true
is_upper _ = false

abbrev is_number : TokenKind → Bool
is_number (kind.Num n) = true
is_number _ = false

abbrev pub is_a : TokenKind → TokenKind → Bool
is_a (kind.Lower x) k = is_lower k
is_a (kind.Upper x) k = is_upper k
is_a (kind.Num n) k = is_number k
is_a (kind.Keyword w) k = is_keyword w k
is_a (kind.Symbol s) k = is_symbol s k

abbrev pub or_else : Bool → Bool → Bool
or_else true b = true
or_else false b = b

abbrev pub and_then : Bool → Bool → Bool
and_then true b = b
and_then false b = false

abbrev pub among : List TokenKind → TokenKind → Bool
among [] k = false
among (c ∷ cs) k = or_else (is_a c k) (among cs k)

-- a kind of the one is a kind of the other
abbrev pub meets : List TokenKind → List TokenKind → Bool
meets [] set = false
meets (c ∷ cs) set = or_else (among set (class c)) (meets cs set)

abbrev pub within : List TokenKind → List TokenKind → Bool
within [] set = true
within (c ∷ cs) set = and_then (among set (class c)) (within cs set)

-- no token comes that is of these kinds
abbrev pub Ends : List TokenKind → List Token → Type 0
Ends set [] = Unit {0}
Ends set (token ∷ tokens) = among set (class token.kind) ≡ false

-- the pieces begin with one of these kinds, or there are none where that may be
abbrev pub Starts : List TokenKind → Bool → List Piece → Type 0
Starts heads empty [] = empty ≡ true
Starts heads empty (piece ∷ pieces) = among heads (class piece.kind) ≡ true

-- ---- laws

pub both_true : (a b : Bool) → and_then a b ≡ true → (a ≡ true) × (b ≡ true)
both_true true b e = (refl, e)
both_true false b e = absurd cc

pub both_false : (a b : Bool) → or_else a b ≡ false → (a ≡ false) × (b ≡ false)
both_false true b e = absurd cc
both_false false b e = (refl, e)

is_class : (c k : TokenKind) → is_a c (class k) ≡ true → class k ≡ class c
is_class (kind.Lower x) (kind.Lower y) e = refl
is_class (kind.Upper x) (kind.Upper y) e = refl
is_class (kind.Num x) (kind.Num y) e = refl
is_class (kind.Keyword x) (kind.Keyword y) e = ap kind.Keyword (same_true keyword_type.the_type tt y x e)
is_class (kind.Symbol x) (kind.Symbol y) e = ap kind.Symbol (same_true symbol_type.the_type tt y x e)
is_class (kind.Lower x) _ e = absurd cc
is_class (kind.Upper x) _ e = absurd cc
is_class (kind.Num x) _ e = absurd cc
is_class (kind.Keyword x) _ e = absurd cc
is_class (kind.Symbol x) _ e = absurd cc

-- sets that have no kind in common
pub apart : (cs set : List TokenKind) (k : TokenKind) → meets cs set ≡ false → among cs (class k) ≡ true → among set (class k) ≡ false
apart [] set k none is = absurd cc
apart (c ∷ cs) set k none is = let p = both_false (among set (class c)) (meets cs set) none in by_test (is_a c (class k)) refl is p.0 (apart cs set k p.1)
  where
    by_test : (b : Bool) → is_a c (class k) ≡ b → or_else b (among cs (class k)) ≡ true → among set (class c) ≡ false → (among cs (class k) ≡ true → among set (class k) ≡ false) → among set (class k) ≡ false
    by_test true e is here others = ap (among set) (is_class c k e) ∙ here
    by_test false e is here others = others is

-- what is outside of a set is outside of each part of it
pub fewer : (part set : List TokenKind) (k : TokenKind) → within part set ≡ true → among set (class k) ≡ false → among part (class k) ≡ false
fewer [] set k all none = refl
fewer (c ∷ cs) set k all none = let p = both_true (among set (class c)) (within cs set) all in by_test (is_a c (class k)) refl p.0 (fewer cs set k p.1 none)
  where
    by_test : (b : Bool) → is_a c (class k) ≡ b → among set (class c) ≡ true → among cs (class k) ≡ false → or_else b (among cs (class k)) ≡ false
    by_test true e here others = let same : among set (class k) ≡ among set (class c) = ap (among set) (is_class c k e) in absurd cc
    by_test false e here others = others

pub more : (part set : List TokenKind) (k : TokenKind) → within part set ≡ true → among part (class k) ≡ true → among set (class k) ≡ true
more [] set k all is = absurd cc
more (c ∷ cs) set k all is = let p = both_true (among set (class c)) (within cs set) all in by_test (is_a c (class k)) refl is p.0 (more cs set k p.1)
  where
    by_test : (b : Bool) → is_a c (class k) ≡ b → or_else b (among cs (class k)) ≡ true → among set (class c) ≡ true → (among cs (class k) ≡ true → among set (class k) ≡ true) → among set (class k) ≡ true
    by_test true e is here others = ap (among set) (is_class c k e) ∙ here
    by_test false e is here others = others is

pub ends-fewer : (part set : List TokenKind) → within part set ≡ true → (rest : List Token) → Ends set rest → Ends part rest
ends-fewer part set all [] h = tt
ends-fewer part set all (token ∷ rest) h = fewer part set token.kind all h

pub among-append : (a b : List TokenKind) (k : TokenKind) → among (a ++ b) k ≡ false → (among a k ≡ false) × (among b k ≡ false)
among-append [] b k e = (refl, e)
among-append (c ∷ cs) b k e =
    let p = both_false (is_a c k) (among (cs ++ b) k) e in
    let q = among-append cs b k p.1 in
    (ap (λ t. or_else t (among cs k)) p.0 ∙ q.0, q.1)

pub ends-append : (a b : List TokenKind) (rest : List Token) → Ends (a ++ b) rest → Ends a rest × Ends b rest
ends-append a b [] h = (tt, tt)
ends-append a b (token ∷ rest) h = among-append a b (class token.kind) h

pub among-left : (a b : List TokenKind) (k : TokenKind) → among a k ≡ true → among (a ++ b) k ≡ true
among-left [] b k e = absurd cc
among-left (c ∷ cs) b k e = by_test (is_a c k) e (among-left cs b k)
  where
    by_test : (t : Bool) → or_else t (among cs k) ≡ true → (among cs k ≡ true → among (cs ++ b) k ≡ true) → or_else t (among (cs ++ b) k) ≡ true
    by_test true e others = refl
    by_test false e others = others e

pub among-right : (a b : List TokenKind) (k : TokenKind) → among b k ≡ true → among (a ++ b) k ≡ true
among-right [] b k e = e
among-right (c ∷ cs) b k e = by_test (is_a c k) (among-right cs b k e)
  where
    by_test : (t : Bool) → among (cs ++ b) k ≡ true → or_else t (among (cs ++ b) k) ≡ true
    by_test true others = refl
    by_test false others = others

pub ends-nothing : (rest : List Token) → Ends [] rest
ends-nothing [] = tt
ends-nothing (token ∷ rest) = refl
