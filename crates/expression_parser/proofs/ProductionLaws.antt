-- Laws of readers: what a reader reads is made of parts, that pieces spell. A law is one record, and each way of making readers of readers
-- makes a law of laws; the sets of tokens of a whole are made of those of its parts, so that no stop is proved by hand.
use Rattle.std.proofs.Common.{◌≡◌, ℕ, suc, ◌+◌, ◌≤◌, Bool, true, false, List, [], ◌∷◌, ◌++◌, length, Option, Some, None, refl, sym, ap, subst, ◌∙◌, arith, ◌⊎◌, inl, inr}
use Rattle.std.specs.Prelude.{IfSome}
use Rattle.xanadu_lexer.specs.declared.token.Token.{Token}
use Rattle.xanadu_lexer.specs.declared.token.TokenKind.{TokenKind}
use Rattle.xanadu_tree.specs.Pieces.{Piece, IsPiece, Spelled, anywhere}
use Rattle.xan_read.specs.Combinators.{give, made, in_turn, IsGiven, InTurn, IsMade}
use Rattle.xan_read.specs.Symbols.{eat, take, where_comes, before, behind, repeated, separated, IsTaken, WhereComes, Items, IsRepeated}
use Rattle.xan_read.specs.Rooms.{ExactWithin}
use Rattle.xan_read.proofs.RoomLaws.{within-give, within-as, within-in_turn, within-made}
use Rattle.xan_read.proofs.RemainingLists.{within-repeated}
use Rattle.xan_read.proofs.TableLaws.{within-take, within-where_comes, eat-other, eat-none}
use Rattle.expression_parser.specs.Reader.{Table, Family}
use Rattle.expression_parser.proofs.TokenSets.{class, or_else, and_then, among, among-left, among-right, meets, within, Ends, Starts, both_true, apart, apart as apart_by, more, ends-fewer, ends-append}

-- ---- what spells a value

-- the value is made of parts that fit, and the tokens are those that spell the parts
pub record Formed {Z Y : Type 0} (make : Z → Y) (Fits : Z → Type 0) (pieces : Z → List Piece) (y : Y) (text : List Token) : Type 0 where
  pub parts : Z
  pub is : y ≡ make parts
  pub fits : Fits parts
  pub spelled : Spelled (pieces parts) text

abbrev pub Any : {A : Type 0} → A → Type 0
Any x = Unit {0}

abbrev pub slack : Bool → ℕ
slack true = 1
slack false = 0

-- what a reader reads, up to a room, what its texts begin with, whether one may be empty, and what goes on with a text
pub record Law {Z Y : Type 0} (most : ℕ) (wide : Bool) (P : Family Y) (make : Z → Y) (Fits : Z → Type 0) (pieces : Z → List Piece) (heads : List TokenKind) (empty : Bool) (stops : List TokenKind) : Type 0 where
  pub exact : ExactWithin most (slack wide) P (Formed make Fits pieces) (Ends stops)
  pub starts : (z : Z) → Fits z → Starts heads empty (pieces z)

-- which tokens stand for a value, and that some token does; where the piece says less than the token, the value is that of the token
pub record IsTable {A : Type 0} (table : Table A) (Fits : A → Type 0) (piece : A → Piece) (value : Token → A → A) (kinds : List TokenKind) : Type 0 where
  pub into : (token : Token) (a : A) → table token ≡ Some a → Fits a × IsPiece (piece a) token
  pub back : (token : Token) (a : A) → Fits a → IsPiece (piece a) token → table token ≡ Some (value token a)
  pub none : (token : Token) → among kinds (class token.kind) ≡ false → table token ≡ None
  pub token : Token
  pub sample : A
  pub is : table token ≡ Some sample

-- ---- stretches

pub spelled-append : (a b : List Piece) (front back : List Token) → Spelled a front → Spelled b back → Spelled (a ++ b) (front ++ back)
spelled-append [] b [] back x y = y
spelled-append [] b (t ∷ ts) back x y = absurd x
spelled-append (p ∷ a) b [] back x y = absurd x
spelled-append (p ∷ a) b (t ∷ front) back x y = (x.0, spelled-append a b front back x.1 y)

pub record Split (a b : List Piece) (text : List Token) : Type 0 where
  pub front : List Token
  pub back : List Token
  pub first : Spelled a front
  pub second : Spelled b back
  pub parts : text ≡ front ++ back

pub spelled-split : (a b : List Piece) (text : List Token) → Spelled (a ++ b) text → Split a b text
spelled-split [] b text h = record { front = []; back = text; first = tt; second = h; parts = refl }
spelled-split (p ∷ a) b [] h = absurd h
spelled-split (p ∷ a) b (t ∷ ts) h = let s = spelled-split a b ts h.1 in
    record { front = t ∷ s.front; back = s.back; first = (h.0, s.first); second = s.second; parts = ap (λ (l : List Token). t ∷ l) s.parts }

pub record First (piece : Piece) (pieces : List Piece) (text : List Token) : Type 0 where
  pub token : Token
  pub back : List Token
  pub is : IsPiece piece token
  pub others : Spelled pieces back
  pub parts : text ≡ token ∷ back

pub spelled-first : (piece : Piece) (pieces : List Piece) (text : List Token) → Spelled (piece ∷ pieces) text → First piece pieces text
spelled-first piece pieces [] h = absurd h
spelled-first piece pieces (t ∷ ts) h = record { token = t; back = ts; is = h.0; others = h.1; parts = refl }

pub spelled-none : (text : List Token) → Spelled [] text → text ≡ []
spelled-none [] h = refl
spelled-none (t ∷ ts) h = absurd h

-- ---- what pieces begin with

-- the set, where it counts
abbrev pub when : Bool → List TokenKind → List TokenKind
when true set = set
when false set = []

abbrev pub not' : Bool → Bool
not' true = false
not' false = true

starts-append : (a b : List Piece) (heads next : List TokenKind) (empty lacks : Bool) → Starts heads empty a → Starts next lacks b → Starts (heads ++ when empty next) (and_then empty lacks) (a ++ b)
starts-append [] [] heads next true lacks h1 h2 = h2
starts-append [] (p ∷ b) heads next true lacks h1 h2 = among-right heads next (class p.kind) h2
starts-append [] b heads next false lacks h1 h2 = absurd cc
starts-append (p ∷ a) b heads next empty lacks h1 h2 = among-left heads (when empty next) (class p.kind) h1

pub some-tokens : (heads : List TokenKind) (empty : Bool) (pieces : List Piece) (text : List Token) → Starts heads empty pieces → Spelled pieces text → empty ≡ false → 1 ≤ length text
some-tokens heads empty [] text h s e = absurd cc
some-tokens heads empty (p ∷ pieces) [] h s e = absurd s
some-tokens heads empty (p ∷ pieces) (t ∷ text) h s e = omega arith

-- what follows does not go on with what was read, if it begins otherwise, or is empty and what is behind it does not go on either
pub follows : (next stops : List TokenKind) (lacks : Bool) (pieces : List Piece) (text rest : List Token) → meets next stops ≡ false → Starts next lacks pieces → Spelled pieces text → Ends (when lacks stops) rest → Ends stops (text ++ rest)
follows next stops true [] [] rest none h s after = after
follows next stops false [] [] rest none h s after = absurd cc
follows next stops lacks [] (t ∷ text) rest none h s after = absurd s
follows next stops lacks (p ∷ pieces) [] rest none h s after = absurd s
follows next stops lacks (p ∷ pieces) (t ∷ text) rest none h s after = ap (λ k. among stops (class k)) s.0.kind ∙ apart next stops p.kind none h

pub eat-ends : {A : Type 0} (table : Table A) (kinds : List TokenKind) (none : (token : Token) → among kinds (class token.kind) ≡ false → table token ≡ None) (rest : List Token) → Ends kinds rest → eat table rest ≡ None
eat-ends table kinds none [] h = eat-none table
eat-ends table kinds none (token ∷ rest) h = eat-other table token rest (none token h)

-- ---- other rooms, stops and names

narrower : {A : Type 0} {most : ℕ} {P : Family A} {Is : A → List Token → Type 0} {Stops : List Token → Type 0} (a b : ℕ) → b ≤ a → ExactWithin most a P Is Stops → ExactWithin most b P Is Stops
narrower a b less e = record {
  some = e.some;
  found = λ room symbols x rest le is. let f = e.found room symbols x rest le is in
      record { front = f.front; is = f.is; parts = f.parts; again = λ room more le fits h. f.again room more le (omega arith) h };
  faulty = λ room symbols left le fits is. let f = e.faulty room symbols left le (omega arith) is in
      record {
        front = f.front;
        rest = f.rest;
        parts = f.parts;
        left_is = f.left_is;
        value = f.value;
        ending = f.ending;
        begun = f.begun;
        again = λ room more le fits h. f.again room more le (omega arith) h;
      };
  whole = λ room x front rest le fits is h. e.whole room x front rest le (omega arith) is h;
}

less-stops : {A : Type 0} {most width : ℕ} {P : Family A} {Is : A → List Token → Type 0} {Stops After : List Token → Type 0} → ExactWithin most width P Is Stops → ((rest : List Token) → After rest → Stops rest) → ExactWithin most width P Is After
less-stops {A} {most} {width} {P} {Is} {Stops} {After} e ends = within-as most width P Is Is Stops After e (λ _ _ h. h) (λ _ _ h. h) ends

-- ---- readers without tokens, and of one

pub law-give : {Y : Type 0} {most : ℕ} (y : Y) → Law most true (λ _. give y) (λ (u : Unit {0}). y) (λ _. Unit {0}) (λ _. []) [] true []
law-give {Y} {most} y = record {
  exact = within-as most 1 (λ _. give y) (IsGiven y) (Formed (λ (u : Unit {0}). y) (λ _. Unit {0}) (λ _. [])) (Ends []) (Ends []) (within-give most 1 y (Ends []))
      (λ z text g. record { parts = tt; is = g.value; fits = tt; spelled = subst (λ (l : List Token). Spelled [] l) (sym g.nothing) tt })
      (λ z text s. record { value = s.is; nothing = spelled-none text s.spelled }) (λ _ h. h);
  starts = λ _ _. refl;
}

abbrev place : Option ℕ → ℕ
place None = 0
place (Some n) = n

-- a token of a piece
token_of : (piece : Piece) → (token : Token) × IsPiece piece token
token_of piece = (record { at = place piece.at; kind = piece.kind }, record { kind = refl; at = placed_so piece.at })
  where
    placed_so : (o : Option ℕ) → IfSome o (λ at. place o ≡ at)
    placed_so None = tt
    placed_so (Some n) = refl

heads-table : {A : Type 0} {table : Table A} {Fits : A → Type 0} {piece : A → Piece} {value : Token → A → A} {kinds : List TokenKind} → IsTable table Fits piece value kinds → (a : A) → Fits a → among kinds (class (piece a).kind) ≡ true
unfolding token_of
heads-table {piece = piece} {kinds = kinds} is a fits = by_test (among kinds (class (piece a).kind)) refl
  where
    by_test : (b : Bool) → among kinds (class (piece a).kind) ≡ b → b ≡ true
    by_test true e = refl
    by_test false e = let t = token_of (piece a) in let taken = is.back t.0 a fits t.1 in let not_taken = is.none t.0 e in absurd cc

pub law-take : {A : Type 0} {most : ℕ} {table : Table A} {Fits : A → Type 0} {piece : A → Piece} {kinds : List TokenKind} → IsTable table Fits piece (λ _ a. a) kinds → Law most true (λ _. take table) (λ a. a) Fits (λ a. piece a ∷ []) kinds false []
law-take {A} {most} {table} {Fits} {piece} {kinds} is = record {
  exact = within-as most 1 (λ _. take table) (IsTaken table) (Formed (λ a. a) Fits (λ a. piece a ∷ [])) (Ends []) (Ends [])
      (within-take most 1 table (Ends []) (record { value = is.sample; text = is.token ∷ []; is = record { symbol = is.token; is = is.is; parts = refl } }))
      into back (λ _ h. h);
  starts = heads-table is;
}
  where
    into : (x : A) (text : List Token) → IsTaken table x text → Formed (λ a. a) Fits (λ a. piece a ∷ []) x text
    into x text t = let p = is.into t.symbol x t.is in
        record { parts = x; is = refl; fits = p.0; spelled = subst (λ (l : List Token). Spelled (piece x ∷ []) l) (sym t.parts) (p.1, tt) }

    back : (x : A) (text : List Token) → Formed (λ a. a) Fits (λ a. piece a ∷ []) x text → IsTaken table x text
    back x text s = let f = spelled-first (piece s.parts) [] text s.spelled in record {
      symbol = f.token;
      is = is.back f.token s.parts s.fits f.is ∙ ap Some (sym s.is);
      parts = f.parts ∙ ap (λ (l : List Token). f.token ∷ l) (spelled-none f.back f.others);
    }

-- ---- one, and then another, which may depend on what the first was

and-less : (a b : Bool) → slack (and_then a b) ≤ slack a
and-less true true = omega arith
and-less true false = omega arith
and-less false b = omega arith

-- a first part that has a token pays for the second's
enough : (wide empty inner : Bool) (n : ℕ) → (empty ≡ false → 1 ≤ n) → slack (and_then wide (or_else (not' empty) inner)) ≤ n + slack inner
enough false empty inner n some = omega arith
enough true true inner n some = omega arith
enough true false inner n some = let one = some refl in omega arith

pub law-field : {A Z X Y : Type 0} {most : ℕ} {wide inner empty lacks : Bool} {P : Family A} {Q : A → Family Y} {make : Z → A} {then : A → X → Y} {FitsZ : Z → Type 0} {FitsX : A → X → Type 0} {first : Z → List Piece} {others : A → X → List Piece}
    {heads next stops after : List TokenKind}
    → Law most wide P make FitsZ first heads empty stops → ((a : A) → Law most inner (Q a) (then a) (FitsX a) (others a) next lacks after) → meets next stops ≡ false
    → Law most (and_then wide (or_else (not' empty) inner)) (λ room. in_turn (P room) (λ a. Q a room)) (λ (q : Z × X). then (make q.0) q.1) (λ q. FitsZ q.0 × FitsX (make q.0) q.1) (λ q. first q.0 ++ others (make q.0) q.1)
    (heads ++ when empty next) (and_then empty lacks) (after ++ when lacks stops)
law-field {A} {Z} {X} {Y} {most} {wide} {inner} {empty} {lacks} {P} {Q} {make} {then} {FitsZ} {FitsX} {first} {others} {heads} {next} {stops} {after} one two apart = record {
  exact = within-as most (slack (and_then wide (or_else (not' empty) inner))) (λ room. in_turn (P room) (λ a. Q a room)) (InTurn (Formed make FitsZ first) (λ a. Formed (then a) (FitsX a) (others a))) (Formed (λ (q : Z × X). then (make q.0) q.1) (λ q. FitsZ q.0 × FitsX (make q.0) q.1) (λ q. first q.0 ++ others (make q.0) q.1)) (Ends (after ++ when lacks stops)) (Ends (after ++ when lacks stops))
      (within-in_turn most (slack (and_then wide (or_else (not' empty) inner))) (slack inner) P Q (Formed make FitsZ first) (λ a. Formed (then a) (FitsX a) (others a)) (Ends stops) (Ends (after ++ when lacks stops))
      (narrower (slack wide) (slack (and_then wide (or_else (not' empty) inner))) (and-less wide (or_else (not' empty) inner)) one.exact)
      (λ a _ _. less-stops (two a).exact (λ rest h. (ends-append after (when lacks stops) rest h).0))
      (λ a front f. enough wide empty inner (length front) (some-tokens heads empty (first f.parts) front (one.starts f.parts f.fits) f.spelled))
      (λ a y back rest f h. follows next stops lacks (others a f.parts) back rest apart ((two a).starts f.parts f.fits) f.spelled (ends-append after (when lacks stops) rest h).1))
      into from (λ _ h. h);
  starts = λ q f. starts-append (first q.0) (others (make q.0) q.1) heads next empty lacks (one.starts q.0 f.0) ((two (make q.0)).starts q.1 f.1);
}
  where
    into : (y : Y) (text : List Token) → InTurn (Formed make FitsZ first) (λ a. Formed (then a) (FitsX a) (others a)) y text → Formed (λ (q : Z × X). then (make q.0) q.1) (λ q. FitsZ q.0 × FitsX (make q.0) q.1) (λ q. first q.0 ++ others (make q.0) q.1) y text
    into y text i = let a : make i.first.parts ≡ i.value = sym i.first.is in record {
      parts = (i.first.parts, i.second.parts);
      is = i.second.is ∙ ap (λ (a : A). then a i.second.parts) (sym a);
      fits = (i.first.fits, subst (λ (a : A). FitsX a i.second.parts) (sym a) i.second.fits);
      spelled = subst (λ (l : List Token). Spelled (first i.first.parts ++ others (make i.first.parts) i.second.parts) l) (sym i.parts)
          (spelled-append (first i.first.parts) (others (make i.first.parts) i.second.parts) i.front i.back i.first.spelled (subst (λ (a : A). Spelled (others a i.second.parts) i.back) (sym a) i.second.spelled));
    }

    from : (y : Y) (text : List Token) → Formed (λ (q : Z × X). then (make q.0) q.1) (λ q. FitsZ q.0 × FitsX (make q.0) q.1) (λ q. first q.0 ++ others (make q.0) q.1) y text → InTurn (Formed make FitsZ first) (λ a. Formed (then a) (FitsX a) (others a)) y text
    from y text s = let p = spelled-split (first s.parts.0) (others (make s.parts.0) s.parts.1) text s.spelled in record {
      value = make s.parts.0;
      front = p.front;
      back = p.back;
      first = record { parts = s.parts.0; is = refl; fits = s.fits.0; spelled = p.first };
      second = record { parts = s.parts.1; is = s.is; fits = s.fits.1; spelled = p.second };
      parts = p.parts;
    }

-- the value is another
pub law-made : {Z X Y : Type 0} {most : ℕ} {wide empty : Bool} {P : Family X} {make : Z → X} {Fits : Z → Type 0} {pieces : Z → List Piece} {heads stops : List TokenKind} (f : X → Y)
    → Law most wide P make Fits pieces heads empty stops → Law most wide (λ room. made f (P room)) (λ z. f (make z)) Fits pieces heads empty stops
law-made {Z} {X} {Y} {most} {wide} {empty} {P} {make} {Fits} {pieces} {heads} {stops} f law = record {
  exact = within-as most (slack wide) (λ room. made f (P room)) (IsMade f (Formed make Fits pieces)) (Formed (λ z. f (make z)) Fits pieces) (Ends stops) (Ends stops) (within-made most (slack wide) f P (Formed make Fits pieces) (Ends stops) law.exact)
      (λ y text m. record { parts = m.is.parts; is = m.made ∙ ap f m.is.is; fits = m.is.fits; spelled = m.is.spelled })
      (λ y text s. record { value = make s.parts; is = record { parts = s.parts; is = refl; fits = s.fits; spelled = s.spelled }; made = s.is }) (λ _ h. h);
  starts = law.starts;
}

-- ---- other parts, and larger sets

pub law-parts : {Z X Y : Type 0} {most : ℕ} {wide empty : Bool} {P : Family Y} {make : Z → Y} {FitsZ : Z → Type 0} {pieces : Z → List Piece} {heads stops : List TokenKind} {by : X → Y} {FitsX : X → Type 0} {others : X → List Piece}
    → Law most wide P make FitsZ pieces heads empty stops
    → ((z : Z) → FitsZ z → (x : X) × (make z ≡ by x) × FitsX x × (pieces z ≡ others x)) → ((x : X) → FitsX x → (z : Z) × (by x ≡ make z) × FitsZ z × (pieces z ≡ others x))
    → Law most wide P by FitsX others heads empty stops
law-parts {Z} {X} {Y} {most} {wide} {empty} {P} {make} {FitsZ} {pieces} {heads} {stops} {by} {FitsX} {others} law to of = record {
  exact = within-as most (slack wide) P (Formed make FitsZ pieces) (Formed by FitsX others) (Ends stops) (Ends stops) law.exact into from (λ _ h. h);
  starts = λ x f. let p = of x f in subst (λ (l : List Piece). Starts heads empty l) p.3 (law.starts p.0 p.2);
}
  where
    into : (y : Y) (text : List Token) → Formed make FitsZ pieces y text → Formed by FitsX others y text
    into y text f = let p = to f.parts f.fits in record { parts = p.0; is = f.is ∙ p.1; fits = p.2; spelled = subst (λ (l : List Piece). Spelled l text) p.3 f.spelled }

    from : (y : Y) (text : List Token) → Formed by FitsX others y text → Formed make FitsZ pieces y text
    from y text f = let p = of f.parts f.fits in record { parts = p.0; is = f.is ∙ p.1; fits = p.2; spelled = subst (λ (l : List Piece). Spelled l text) (sym p.3) f.spelled }

pub law-sets : {Z Y : Type 0} {most : ℕ} {wide empty : Bool} {P : Family Y} {make : Z → Y} {Fits : Z → Type 0} {pieces : Z → List Piece} {heads stops begin after : List TokenKind}
    → Law most wide P make Fits pieces heads empty stops → and_then (within heads begin) (within stops after) ≡ true → Law most wide P make Fits pieces begin empty after
law-sets {Z} {empty = empty} {pieces = pieces} {heads = heads} {stops = stops} {begin = begin} {after = after} law sets = record {
  exact = less-stops law.exact (ends-fewer stops after (both_true (within heads begin) (within stops after) sets).1);
  starts = λ z f. starts-more (pieces z) (law.starts z f);
}
  where
    starts-more : (l : List Piece) → Starts heads empty l → Starts begin empty l
    starts-more [] h = h
    starts-more (p ∷ l) h = more heads begin p.kind (both_true (within heads begin) (within stops after) sets).0 h

-- the values themselves
pub reads : {Z Y : Type 0} {most : ℕ} {wide empty : Bool} {P : Family Y} {make : Z → Y} {FitsZ : Z → Type 0} {pieces : Z → List Piece} {heads stops begin after : List TokenKind} {Fits : Y → Type 0} {others : Y → List Piece}
    → Law most wide P make FitsZ pieces heads empty stops
    → ((z : Z) → FitsZ z → Fits (make z) × (pieces z ≡ others (make z))) → ((y : Y) → Fits y → (z : Z) × (y ≡ make z) × FitsZ z) → and_then (within heads begin) (within stops after) ≡ true
    → Law most wide P (λ y. y) Fits others begin empty after
reads {Z} {Y} {make = make} {FitsZ = FitsZ} {pieces = pieces} {Fits = Fits} {others = others} law to of sets = law-sets (law-parts law (λ z f. let p = to z f in (make z, refl, p.0, p.1))
    (λ y f. let p = of y f in (p.0, p.1, p.2, (to p.0 p.2).1 ∙ ap others (sym p.1)))) sets

-- ---- a token that decides

-- a function for each side, a type for each
abbrev pub either : {A B C : Type 0} → (A → C) → (B → C) → A ⊎ B → C
either f g (inl a) = f a
either f g (inr b) = g b

abbrev pub EitherFits : {A B : Type 0} → (A → Type 0) → (B → Type 0) → A ⊎ B → Type 0
EitherFits F G (inl a) = F a
EitherFits F G (inr b) = G b

one-more : (a b : Bool) → slack a ≤ suc (slack b)
one-more true b = omega arith
one-more false b = omega arith

abbrev ChoiceOf : {A Z X Y : Type 0} → (A → Z → Y) → (A → Type 0) → (Z → Type 0) → (A → Piece) → (Z → List Piece) → (X → Y) → (X → Type 0) → (X → List Piece) → Y → List Token → Type 0
ChoiceOf {A} {Z} make FitsA FitsZ piece parts other FitsX others = Formed (either (λ (q : A × Z). make q.0 q.1) other) (EitherFits (λ q. FitsA q.0 × FitsZ q.1) FitsX) (either (λ q. piece q.0 ∷ parts q.1) others)

starts-right : (a b : List TokenKind) (empty : Bool) (pieces : List Piece) → Starts b empty pieces → Starts (a ++ b) empty pieces
starts-right a b empty [] h = h
starts-right a b empty (p ∷ pieces) h = among-right a b (class p.kind) h

pub law-choice : {A Z X Y : Type 0} {most : ℕ} {wide inner empty lacks : Bool} {table : Table A} {FitsA : A → Type 0} {piece : A → Piece} {value : Token → A → A} {kinds heads next stops after : List TokenKind}
    {P : A → Family Y} {Q : Family Y} {make : A → Z → Y} {other : X → Y} {FitsZ : Z → Type 0} {FitsX : X → Type 0} {parts : Z → List Piece} {others : X → List Piece} (is : IsTable table FitsA piece value kinds)
    → ((a : A) → Law most inner (P a) (make a) FitsZ parts heads empty stops) → Law most wide Q other FitsX others next lacks after
    → ((token : Token) (a : A) (z : Z) → make (value token a) z ≡ make a z) → meets next kinds ≡ false
    → Law most wide (λ room. where_comes table (λ a. P a room) (Q room)) (either (λ (q : A × Z). make q.0 q.1) other) (EitherFits (λ q. FitsA q.0 × FitsZ q.1) FitsX) (either (λ q. piece q.0 ∷ parts q.1) others)
    (kinds ++ next) lacks (stops ++ (after ++ when lacks kinds))
law-choice {A} {Z} {X} {Y} {most} {wide} {inner} {empty} {lacks} {table} {FitsA} {piece} {value} {kinds} {heads} {next} {stops} {after} {P} {Q} {make} {other} {FitsZ} {FitsX} {parts} {others} is one two forget apart = record {
  exact = within-as most (slack wide) (λ room. where_comes table (λ a. P a room) (Q room)) (WhereComes table (λ a. Formed (make a) FitsZ parts) (Formed other FitsX others)) (ChoiceOf make FitsA FitsZ piece parts other FitsX others) (Ends (stops ++ (after ++ when lacks kinds))) (Ends (stops ++ (after ++ when lacks kinds)))
      (within-where_comes most (slack wide) (slack inner) table P Q (λ a. Formed (make a) FitsZ parts) (Formed other FitsX others) (Ends after) (Ends (stops ++ (after ++ when lacks kinds)))
      (λ a. less-stops (one a).exact (λ rest h. (ends-append stops (after ++ when lacks kinds) rest h).0)) two.exact (one-more wide inner)
      (λ y text rest f h. let e = ends-append after (when lacks kinds) rest (ends-append stops (after ++ when lacks kinds) rest h).1 in
      (e.0, eat-ends table kinds is.none (text ++ rest) (follows next kinds lacks (others f.parts) text rest apart (two.starts f.parts f.fits) f.spelled e.1))))
      into from (λ _ h. h);
  starts = begins;
}
  where
    into : (y : Y) (text : List Token) → WhereComes table (λ a. Formed (make a) FitsZ parts) (Formed other FitsX others) y text → ChoiceOf make FitsA FitsZ piece parts other FitsX others y text
    into y text (inl b) = let p = is.into b.symbol b.value b.decides in record {
      parts = inl (b.value, b.is.parts);
      is = b.is.is;
      fits = (p.0, b.is.fits);
      spelled = subst (λ (l : List Token). Spelled (piece b.value ∷ parts b.is.parts) l) (sym b.parts) (p.1, b.is.spelled);
    }
    into y text (inr f) = record { parts = inr f.parts; is = f.is; fits = f.fits; spelled = f.spelled }

    by_parts : (y : Y) (text : List Token) (q : (A × Z) ⊎ X) → y ≡ either (λ (q : A × Z). make q.0 q.1) other q → EitherFits (λ (q : A × Z). FitsA q.0 × FitsZ q.1) FitsX q → Spelled (either (λ (q : A × Z). piece q.0 ∷ parts q.1) others q) text
        → WhereComes table (λ a. Formed (make a) FitsZ parts) (Formed other FitsX others) y text
    by_parts y text (inl q) e fits h = let f = spelled-first (piece q.0) (parts q.1) text h in
        inl (record {
          symbol = f.token;
          value = value f.token q.0;
          back = f.back;
          decides = is.back f.token q.0 fits.0 f.is;
          is = record { parts = q.1; is = e ∙ sym (forget f.token q.0 q.1); fits = fits.1; spelled = f.others };
          parts = f.parts;
        })
    by_parts y text (inr x) e fits h = inr (record { parts = x; is = e; fits = fits; spelled = h })

    from : (y : Y) (text : List Token) → ChoiceOf make FitsA FitsZ piece parts other FitsX others y text → WhereComes table (λ a. Formed (make a) FitsZ parts) (Formed other FitsX others) y text
    from y text f = by_parts y text f.parts f.is f.fits f.spelled

    begins : (q : (A × Z) ⊎ X) → EitherFits (λ (q : A × Z). FitsA q.0 × FitsZ q.1) FitsX q → Starts (kinds ++ next) lacks (either (λ (q : A × Z). piece q.0 ∷ parts q.1) others q)
    begins (inl q) f = among-left kinds next (class (piece q.0).kind) (heads-table is q.0 f.0)
    begins (inr x) f = starts-right kinds next lacks (others x) (two.starts x f)

-- ---- a token, and what is behind it

pub law-token : {A Z Y : Type 0} {most : ℕ} {inner lacks : Bool} {table : Table A} {FitsA : A → Type 0} {piece : A → Piece} {value : Token → A → A} {kinds next after : List TokenKind} {Q : A → Family Y} {make : A → Z → Y} {FitsZ : Z → Type 0} {parts : Z → List Piece}
    (is : IsTable table FitsA piece value kinds) → ((a : A) → Law most inner (Q a) (make a) FitsZ parts next lacks after) → ((token : Token) (a : A) (z : Z) → make (value token a) z ≡ make a z)
    → Law most true (λ room. in_turn (take table) (λ a. Q a room)) (λ (q : A × Z). make q.0 q.1) (λ q. FitsA q.0 × FitsZ q.1) (λ q. piece q.0 ∷ parts q.1) kinds false after
law-token {A} {Z} {Y} {most} {inner} {lacks} {table} {FitsA} {piece} {value} {kinds} {next} {after} {Q} {make} {FitsZ} {parts} is law forget = record {
  exact = within-as most 1 (λ room. in_turn (take table) (λ a. Q a room)) (InTurn (IsTaken table) (λ a. Formed (make a) FitsZ parts)) (Formed (λ (q : A × Z). make q.0 q.1) (λ q. FitsA q.0 × FitsZ q.1) (λ q. piece q.0 ∷ parts q.1)) (Ends after) (Ends after)
      (within-in_turn most 1 (slack inner) (λ _. take table) Q (IsTaken table) (λ a. Formed (make a) FitsZ parts) (λ _. Unit {0}) (Ends after)
      (within-take most 1 table (λ _. Unit {0}) (record { value = is.sample; text = is.token ∷ []; is = record { symbol = is.token; is = is.is; parts = refl } }))
      (λ a _ _. (law a).exact) (λ a front t. omega (arith, ap length t.parts)) (λ _ _ _ _ _ _. tt))
      into from (λ _ h. h);
  starts = λ q f. heads-table is q.0 f.0;
}
  where
    into : (y : Y) (text : List Token) → InTurn (IsTaken table) (λ a. Formed (make a) FitsZ parts) y text → Formed (λ (q : A × Z). make q.0 q.1) (λ q. FitsA q.0 × FitsZ q.1) (λ q. piece q.0 ∷ parts q.1) y text
    into y text i = let p = is.into i.first.symbol i.value i.first.is in record {
      parts = (i.value, i.second.parts);
      is = i.second.is;
      fits = (p.0, i.second.fits);
      spelled = subst (λ (l : List Token). Spelled (piece i.value ∷ parts i.second.parts) l) (sym (i.parts ∙ ap (λ (l : List Token). l ++ i.back) i.first.parts)) (p.1, i.second.spelled);
    }

    from : (y : Y) (text : List Token) → Formed (λ (q : A × Z). make q.0 q.1) (λ q. FitsA q.0 × FitsZ q.1) (λ q. piece q.0 ∷ parts q.1) y text → InTurn (IsTaken table) (λ a. Formed (make a) FitsZ parts) y text
    from y text s = let f = spelled-first (piece s.parts.0) (parts s.parts.1) text s.spelled in record {
      value = value f.token s.parts.0;
      front = f.token ∷ [];
      back = f.back;
      first = record { symbol = f.token; is = is.back f.token s.parts.0 s.fits.0 f.is; parts = refl };
      second = record { parts = s.parts.1; is = s.is ∙ sym (forget f.token s.parts.0 s.parts.1); fits = s.fits.1; spelled = f.others };
      parts = f.parts;
    }

-- a token whose place does not matter
pub law-behind : {Z Y : Type 0} {most : ℕ} {inner lacks : Bool} {table : Table ℕ} {kind : TokenKind} {next after : List TokenKind} {P : Family Y} {make : Z → Y} {Fits : Z → Type 0} {parts : Z → List Piece}
    → IsTable table Any (λ _. anywhere kind) (λ token _. token.at) (kind ∷ []) → Law most inner P make Fits parts next lacks after
    → Law most true (λ room. behind table (P room)) make Fits (λ z. anywhere kind ∷ parts z) (kind ∷ []) false after
law-behind is law = law-parts (law-token is (λ _. law) (λ _ _ _. refl)) (λ q f. (q.1, refl, f.1, refl)) (λ z f. ((0, z), refl, (tt, f), refl))

pub law-before : {Z Y : Type 0} {most : ℕ} {wide empty : Bool} {table : Table ℕ} {kind : TokenKind} {heads stops : List TokenKind} {P : Family Y} {make : Z → Y} {Fits : Z → Type 0} {parts : Z → List Piece}
    → IsTable table Any (λ _. anywhere kind) (λ token _. token.at) (kind ∷ []) → Law most wide P make Fits parts heads empty stops → meets (kind ∷ []) stops ≡ false
    → Law most (and_then wide (or_else (not' empty) true)) (λ room. before table (P room)) make Fits (λ z. parts z ++ anywhere kind ∷ []) (heads ++ when empty (kind ∷ [])) (and_then empty false) []
law-before is law apart = law-parts (law-field law (λ x. law-token is (λ _. law-give x) (λ _ _ _. refl)) apart) (λ q f. (q.0, refl, f.0, refl)) (λ z f. ((z, (0, tt)), refl, (f, (tt, tt)), refl))

-- ---- lists

-- which lists fit and what spells them, by the laws of their items
pub record AreItems {A Z B : Type 0} (make : A → Z → B) (FitsA : A → Type 0) (FitsZ : Z → Type 0) (piece : A → Piece) (parts : Z → List Piece) (AllFit : List B → Type 0) (pieces : List B → List Piece) : Type 0 where
  pub no_fits : AllFit []
  pub more_fits : (a : A) (z : Z) (xs : List B) → FitsA a → FitsZ z → AllFit xs → AllFit (make a z ∷ xs)
  pub parts_fit : (b : B) (xs : List B) → AllFit (b ∷ xs) → (a : A) × (z : Z) × (b ≡ make a z) × FitsA a × FitsZ z × AllFit xs
  pub no_pieces : pieces [] ≡ []
  pub more_pieces : (a : A) (z : Z) (xs : List B) → pieces (make a z ∷ xs) ≡ piece a ∷ (parts z ++ pieces xs)

pub law-repeated : {A Z B : Type 0} {most : ℕ} {inner empty : Bool} {table : Table A} {FitsA : A → Type 0} {piece : A → Piece} {value : Token → A → A} {kinds heads stops : List TokenKind} {item : A → Family B} {make : A → Z → B} {FitsZ : Z → Type 0} {parts : Z → List Piece}
    {AllFit : List B → Type 0} {pieces : List B → List Piece} (found : List B) (is : IsTable table FitsA piece value kinds) → ((a : A) → Law most inner (item a) (make a) FitsZ parts heads empty stops) → ((token : Token) (a : A) (z : Z) → make (value token a) z ≡ make a z)
    → AreItems make FitsA FitsZ piece parts AllFit pieces → meets kinds stops ≡ false
    → Law most true (λ room. repeated table (λ a. item a room) found) (λ xs. found ++ xs) AllFit pieces kinds true (stops ++ kinds)
law-repeated {A} {Z} {B} {most} {inner} {empty} {table} {FitsA} {piece} {value} {kinds} {heads} {stops} {item} {make} {FitsZ} {parts} {AllFit} {pieces} found is law forget list apart = record {
  exact = within-as most 1 (λ room. repeated table (λ a. item a room) found) (IsRepeated table (λ a. Formed (make a) FitsZ parts) found) (Formed {Z = List B} (λ xs. found ++ xs) AllFit pieces) (Ends (stops ++ kinds)) (Ends (stops ++ kinds))
      (within-repeated most 1 (slack inner) table item (λ a. Formed (make a) FitsZ parts) (Ends stops) (Ends (stops ++ kinds)) (λ a. (law a).exact) (omega arith)
      (λ token a rest e. let p = is.into token a e in ap (λ k. among stops (class k)) p.1.kind ∙ apart_by kinds stops (piece a).kind apart (heads-table is a p.0))
      (λ rest h. let e = ends-append stops kinds rest h in (e.0, eat-ends table kinds is.none rest e.1)) found)
      (λ ys text r. let p = items_said r.xs text r.items in record { parts = r.xs; is = r.is; fits = p.0; spelled = p.1 })
      (λ ys text s. record { xs = s.parts; is = s.is; items = said_items s.parts text s.fits s.spelled }) (λ _ h. h);
  starts = λ xs f. begins xs f;
}
  where
    pieces_of : (x : B) (xs : List B) (f : AllFit (x ∷ xs)) → pieces (x ∷ xs) ≡ piece (list.parts_fit x xs f).0 ∷ (parts (list.parts_fit x xs f).1 ++ pieces xs)
    pieces_of x xs f = ap (λ (b : B). pieces (b ∷ xs)) (list.parts_fit x xs f).2 ∙ list.more_pieces (list.parts_fit x xs f).0 (list.parts_fit x xs f).1 xs

    items_said : (xs : List B) (text : List Token) → Items table (λ a. Formed (make a) FitsZ parts) xs text → AllFit xs × Spelled (pieces xs) text
    items_said [] text none = (list.no_fits, subst (λ (p : List Piece). Spelled p text) (sym list.no_pieces) (subst (λ (l : List Token). Spelled [] l) (sym none) tt))
    items_said (x ∷ xs) text i =
        let p = is.into i.symbol i.value i.decides in
        let others = items_said xs i.back i.others in
        subst (λ (b : B). AllFit (b ∷ xs) × Spelled (pieces (b ∷ xs)) text) (sym i.first.is) (
          list.more_fits i.value i.first.parts xs p.0 i.first.fits others.0,
          subst (λ (l : List Token). Spelled (pieces (make i.value i.first.parts ∷ xs)) l) (sym i.parts)
              (subst (λ (q : List Piece). Spelled q (i.symbol ∷ (i.front ++ i.back))) (sym (list.more_pieces i.value i.first.parts xs)) (p.1, spelled-append (parts i.first.parts) (pieces xs) i.front i.back i.first.spelled others.1)),
        )

    said_items : (xs : List B) (text : List Token) → AllFit xs → Spelled (pieces xs) text → Items table (λ a. Formed (make a) FitsZ parts) xs text
    said_items [] text fits h = spelled-none text (subst (λ (p : List Piece). Spelled p text) list.no_pieces h)
    said_items (x ∷ xs) text fits h =
        let p = list.parts_fit x xs fits in
        let f = spelled-first (piece p.0) (parts p.1 ++ pieces xs) text (subst (λ (q : List Piece). Spelled q text) (pieces_of x xs fits) h) in
        let s = spelled-split (parts p.1) (pieces xs) f.back f.others in
        record {
          symbol = f.token;
          value = value f.token p.0;
          front = s.front;
          back = s.back;
          decides = is.back f.token p.0 p.3 f.is;
          first = record { parts = p.1; is = p.2 ∙ sym (forget f.token p.0 p.1); fits = p.4; spelled = s.first };
          others = said_items xs s.back p.5 s.second;
          parts = f.parts ∙ ap (λ (l : List Token). f.token ∷ l) s.parts;
        }

    begins : (xs : List B) → AllFit xs → Starts kinds true (pieces xs)
    begins [] f = subst (λ (p : List Piece). Starts kinds true p) (sym list.no_pieces) refl
    begins (x ∷ xs) f = let p = list.parts_fit x xs f in
        subst (λ (q : List Piece). Starts kinds true q) (sym (pieces_of x xs f)) (heads-table is p.0 p.3)

-- items with a token between two, one at least
pub law-separated : {B : Type 0} {most : ℕ} {wide empty : Bool} {table : Table ℕ} {kind : TokenKind} {heads stops : List TokenKind} {P : Family B} {Fits : B → Type 0} {parts : B → List Piece} {AllFit : List B → Type 0} {pieces : List B → List Piece}
    → IsTable table Any (λ _. anywhere kind) (λ token _. token.at) (kind ∷ []) → Law most wide P (λ b. b) Fits parts heads empty stops → AreItems {A = ℕ} (λ _ b. b) Any Fits (λ _. anywhere kind) parts AllFit pieces → meets (kind ∷ []) stops ≡ false
    → Law most (and_then wide (or_else (not' empty) true)) (λ room. separated table (P room)) (λ (q : B × List B). q.0 ∷ q.1) (λ q. Fits q.0 × AllFit q.1) (λ q. parts q.0 ++ pieces q.1) (heads ++ when empty (kind ∷ [])) (and_then empty true) ((stops ++ (kind ∷ [])) ++ stops)
law-separated is law list apart = law-field law (λ x. law-repeated (x ∷ []) is (λ _. law) (λ _ _ _. refl) list apart) apart

-- ---- values that are their own parts

pub record Said {Y : Type 0} (Fits : Y → Type 0) (pieces : Y → List Piece) (y : Y) (text : List Token) : Type 0 where
  pub fits : Fits y
  pub spelled : Spelled (pieces y) text

pub said : {Y : Type 0} {most : ℕ} {wide empty : Bool} {P : Family Y} {Fits : Y → Type 0} {pieces : Y → List Piece} {heads stops : List TokenKind} → Law most wide P (λ y. y) Fits pieces heads empty stops → ExactWithin most (slack wide) P (Said Fits pieces) (Ends stops)
said {Y} {most} {wide} {P = P} {Fits = Fits} {pieces = pieces} {stops = stops} law = within-as most (slack wide) P (Formed (λ y. y) Fits pieces) (Said Fits pieces) (Ends stops) (Ends stops) law.exact
    (λ y text f. subst (λ (x : Y). Said Fits pieces x text) (sym f.is) (record { fits = f.fits; spelled = f.spelled })) (λ y text s. record { parts = y; is = refl; fits = s.fits; spelled = s.spelled }) (λ _ h. h)
