-- Which tokens the tables take.
use Rattle.std.proofs.Common.{◌≡◌, ℕ, ℤ, Bool, true, false, cond, List, [], ◌∷◌, Option, Some, None, map, refl, sym, ap, subst, ◌∙◌}
use Rattle.std.specs.Prelude.{pos}
use denote.Enum.Bare.{sameb, same_true, true_same}
use Rattle.xanadu_lexer.specs.declared.keyword.Keyword.{Keyword}
use Rattle.xanadu_lexer.specs.declared.symbol.Symbol.{Symbol}
use Rattle.xanadu_lexer.specs.declared.symbol.Symbol.TheVariants as symbol
use Rattle.xanadu_lexer.specs.declared.token.Token.{Token}
use Rattle.xanadu_lexer.specs.declared.token.TokenKind.{TokenKind}
use Rattle.xanadu_lexer.specs.declared.token.TokenKind.TheVariants as kind
use Rattle.xanadu_lexer.specs.contracts.keyword.Keyword as keyword_type
use Rattle.xanadu_lexer.specs.contracts.symbol.Symbol as symbol_type
use Rattle.xanadu_tree.specs.declared.expr.Op.{Op}
use Rattle.xanadu_tree.specs.declared.expr.Op.TheVariants as op
use Rattle.xanadu_tree.specs.declared.expr.Rel.{Rel}
use Rattle.xanadu_tree.specs.declared.expr.Rel.TheVariants as rel
use Rattle.xanadu_tree.specs.declared.tree.declaration.Identifier.{Identifier}
use Rattle.xanadu_tree.specs.declared.tree.index.IndexRelation.{IndexRelation}
use Rattle.xanadu_tree.specs.declared.tree.index.IndexRelation.TheVariants as between
use Rattle.xanadu_tree.specs.declared.tree.index.Sign.{Sign}
use Rattle.xanadu_tree.specs.declared.tree.index.Sign.TheVariants as sign_of
use Rattle.xanadu_tree.specs.Pieces.{Piece, IsPiece, anywhere, placed}
use Rattle.xanadu_tree.specs.Spelling as spelling
use Rattle.xanadu_tree.specs.Spelling.{op_symbol, rel_symbol, index_relation_symbol, sign_symbol}
use Rattle.xanadu_tree.specs.Written.{IsAddition, IsMultiplication}
use Rattle.expression_parser.specs.Reader.{Table}
use Rattle.expression_parser.specs.Tables.{is_keyword, is_symbol, keyword, mark, by_symbol, symbol_among, lower, as_lower, upper, as_upper, number, as_number}
use Rattle.expression_parser.specs.Tables as table
use Rattle.expression_parser.proofs.TokenSets.{class, is_a, among, both_false}
use Rattle.expression_parser.proofs.ProductionLaws.{IsTable, Any}

some : {A : Type 0} → A → Option A
some x = Some x

some_same : {A : Type 0} (x y : A) → Some x ≡ Some y → x ≡ y
some_same x y e = cc

-- a token of this kind, anywhere
abbrev pub at_0 : TokenKind → Token
at_0 kind = record { at = 0; kind = kind }

-- ---- keywords and marks

-- the table takes the tokens of one kind, that has no name and no number
record TakesOne (table : Table ℕ) (c : TokenKind) : Type 0 where
  is : (token : Token) → table token ≡ cond (is_a c token.kind) (Some token.at) None
  only : (k : TokenKind) → is_a c k ≡ true → k ≡ c
  itself : is_a c c ≡ true
  outside : (k : TokenKind) → is_a c (class k) ≡ false → is_a c k ≡ false

module _ {table : Table ℕ} {c : TokenKind} (one : TakesOne table c) where
  found : (token : Token) (at : ℕ) → table token ≡ Some at → (token.kind ≡ c) × (token.at ≡ at)
  found token at e = by_test (is_a c token.kind) refl (sym (one.is token) ∙ e)
    where
      by_test : (b : Bool) → is_a c token.kind ≡ b → cond b (Some token.at) None ≡ Some at → (token.kind ≡ c) × (token.at ≡ at)
      by_test true is e = (one.only token.kind is, some_same token.at at e)
      by_test false is e = absurd cc

  takes : (token : Token) → token.kind ≡ c → table token ≡ Some token.at
  takes token is = one.is token ∙ ap (λ b. cond b (Some token.at) None) (ap (is_a c) is ∙ one.itself)

  none : (token : Token) → among (c ∷ []) (class token.kind) ≡ false → table token ≡ None
  none token e = one.is token ∙ ap (λ b. cond b (Some token.at) None) (one.outside token.kind (both_false (is_a c (class token.kind)) false e).0)

  placed-table : IsTable table Any (λ at. placed c at) (λ _ at. at) (c ∷ [])
  placed-table = record {
    into = λ token at e. let p = found token at e in (tt, record { kind = p.0; at = p.1 });
    back = λ token at fits is. takes token is.kind ∙ ap Some is.at;
    none = none;
    token = at_0 c;
    sample = 0;
    is = takes (at_0 c) refl;
  }

  any-table : IsTable table Any (λ _. anywhere c) (λ token _. token.at) (c ∷ [])
  any-table = record {
    into = λ token at e. (tt, record { kind = (found token at e).0; at = tt });
    back = λ token at fits is. takes token is.kind;
    none = none;
    token = at_0 c;
    sample = 0;
    is = takes (at_0 c) refl;
  }

takes-mark : (s : Symbol) → TakesOne (mark s) (kind.Symbol s)
unfolding mark
takes-mark s = record { is = λ _. refl; only = only; itself = true_same symbol_type.the_type s s refl; outside = outside }
  where
    only : (k : TokenKind) → is_symbol s k ≡ true → k ≡ kind.Symbol s
    only (kind.Symbol t) e = ap kind.Symbol (same_true symbol_type.the_type tt t s e)
    only _ e = absurd cc

    outside : (k : TokenKind) → is_symbol s (class k) ≡ false → is_symbol s k ≡ false
    outside (kind.Symbol t) e = e
    outside _ e = refl

takes-word : (w : Keyword) → TakesOne (keyword w) (kind.Keyword w)
unfolding keyword
takes-word w = record { is = λ _. refl; only = only; itself = true_same keyword_type.the_type w w refl; outside = outside }
  where
    only : (k : TokenKind) → is_keyword w k ≡ true → k ≡ kind.Keyword w
    only (kind.Keyword v) e = ap kind.Keyword (same_true keyword_type.the_type tt v w e)
    only _ e = absurd cc

    outside : (k : TokenKind) → is_keyword w (class k) ≡ false → is_keyword w k ≡ false
    outside (kind.Keyword v) e = e
    outside _ e = refl

pub mark-at : (s : Symbol) → IsTable (mark s) Any (λ at. placed (kind.Symbol s) at) (λ _ at. at) (kind.Symbol s ∷ [])
mark-at s = placed-table (takes-mark s)

pub mark-any : (s : Symbol) → IsTable (mark s) Any (λ _. anywhere (kind.Symbol s)) (λ token _. token.at) (kind.Symbol s ∷ [])
mark-any s = any-table (takes-mark s)

pub word-at : (w : Keyword) → IsTable (keyword w) Any (λ at. placed (kind.Keyword w) at) (λ _ at. at) (kind.Keyword w ∷ [])
word-at w = placed-table (takes-word w)

pub word-any : (w : Keyword) → IsTable (keyword w) Any (λ _. anywhere (kind.Keyword w)) (λ token _. token.at) (kind.Keyword w ∷ [])
word-any w = any-table (takes-word w)

-- ---- names and numbers

module _ {A : Type 0} (seen : ℕ → TokenKind → Option A) (piece : A → Piece) (c : TokenKind) (into : (token : Token) (k : TokenKind) (a : A) → token.kind ≡ k → seen token.at k ≡ Some a → IsPiece (piece a) token)
    (back : (token : Token) (a : A) → IsPiece (piece a) token → seen token.at token.kind ≡ Some a) (none : (at : ℕ) (k : TokenKind) → among (c ∷ []) (class k) ≡ false → seen at k ≡ None) (sample : A) (is : seen 0 c ≡ Some sample) where
  one-kind : IsTable (λ token. seen token.at token.kind) Any piece (λ _ a. a) (c ∷ [])
  one-kind = record {
    into = λ token a e. (tt, into token token.kind a refl e);
    back = λ token a fits is. back token a is;
    none = λ token e. none token.at token.kind e;
    token = at_0 c;
    sample = sample;
    is = is;
  }

pub a-lower : IsTable lower Any spelling.lower (λ _ a. a) (kind.Lower [] ∷ [])
unfolding lower
a-lower = one-kind as_lower spelling.lower (kind.Lower []) into (λ token x is. ap (as_lower token.at) is.kind ∙ ap (λ at. Some (record { name = x.name; at = at })) is.at) none (record { name = []; at = 0 }) refl
  where
    into : (token : Token) (k : TokenKind) (x : Identifier) → token.kind ≡ k → as_lower token.at k ≡ Some x → IsPiece (spelling.lower x) token
    into token (kind.Lower name) x is e = let same : record { name = name; at = token.at } ≡ x = some_same _ x e in record { kind = is ∙ ap (λ (i : Identifier). kind.Lower i.name) same; at = ap (λ (i : Identifier). i.at) same }
    into token _ x is e = absurd cc

    none : (at : ℕ) (k : TokenKind) → among (kind.Lower [] ∷ []) (class k) ≡ false → as_lower at k ≡ None
    none at (kind.Lower x) e = absurd cc
    none at _ e = refl

pub an-upper : IsTable upper Any spelling.upper (λ _ a. a) (kind.Upper [] ∷ [])
unfolding upper
an-upper = one-kind as_upper spelling.upper (kind.Upper []) into (λ token x is. ap (as_upper token.at) is.kind ∙ ap (λ at. Some (record { name = x.name; at = at })) is.at) none (record { name = []; at = 0 }) refl
  where
    into : (token : Token) (k : TokenKind) (x : Identifier) → token.kind ≡ k → as_upper token.at k ≡ Some x → IsPiece (spelling.upper x) token
    into token (kind.Upper name) x is e = let same : record { name = name; at = token.at } ≡ x = some_same _ x e in record { kind = is ∙ ap (λ (i : Identifier). kind.Upper i.name) same; at = ap (λ (i : Identifier). i.at) same }
    into token _ x is e = absurd cc

    none : (at : ℕ) (k : TokenKind) → among (kind.Upper [] ∷ []) (class k) ≡ false → as_upper at k ≡ None
    none at (kind.Upper x) e = absurd cc
    none at _ e = refl

pub a-number : IsTable number Any (λ n. placed (kind.Num n.0) n.1) (λ _ a. a) (kind.Num (pos 0) ∷ [])
unfolding number
a-number = one-kind as_number (λ n. placed (kind.Num n.0) n.1) (kind.Num (pos 0)) into (λ token n is. ap (as_number token.at) is.kind ∙ ap (λ (at : ℕ). Some (n.0, at)) is.at) none (pos 0, 0) refl
  where
    into : (token : Token) (k : TokenKind) (n : ℤ × ℕ) → token.kind ≡ k → as_number token.at k ≡ Some n → IsPiece (placed (kind.Num n.0) n.1) token
    into token (kind.Num m) n is e = let same : (m, token.at) ≡ n = some_same _ n e in record { kind = is ∙ ap (λ (p : ℤ × ℕ). kind.Num p.0) same; at = ap (λ (p : ℤ × ℕ). p.1) same }
    into token _ n is e = absurd cc

    none : (at : ℕ) (k : TokenKind) → among (kind.Num (pos 0) ∷ []) (class k) ≡ false → as_number at k ≡ None
    none at (kind.Num n) e = absurd cc
    none at _ e = refl

-- ---- marks that stand for something, by rows

abbrev row : {A : Type 0} → List (Symbol × A) → Symbol → Option A
row [] s = None
row (r ∷ rows) s = cond (sameb symbol_type.the_type s r.0) (Some r.1) (row rows s)

abbrev pub marks : {A : Type 0} → List (Symbol × A) → List TokenKind
marks rows = map (λ r. kind.Symbol r.0) rows

abbrev AreRows : {A : Type 0} → (A → Type 0) → (A → Symbol) → List (Symbol × A) → Type 0
AreRows Fits shown [] = Unit {0}
AreRows Fits shown (r ∷ rows) = (Fits r.1 × (shown r.1 ≡ r.0)) × AreRows Fits shown rows

row_is : {A : Type 0} (Fits : A → Type 0) (shown : A → Symbol) (rows : List (Symbol × A)) → AreRows Fits shown rows → (s : Symbol) (x : A) → row rows s ≡ Some x → Fits x × (s ≡ shown x)
row_is Fits shown [] are s x e = absurd cc
row_is {A} Fits shown (r ∷ rows) are s x e = by_test (sameb symbol_type.the_type s r.0) refl e (row_is Fits shown rows are.1 s x)
  where
    by_test : (b : Bool) → sameb symbol_type.the_type s r.0 ≡ b → cond b (Some r.1) (row rows s) ≡ Some x → (row rows s ≡ Some x → Fits x × (s ≡ shown x)) → Fits x × (s ≡ shown x)
    by_test true same e others = subst (λ (y : A). Fits y × (s ≡ shown y)) (some_same r.1 x e) (are.0.0, same_true symbol_type.the_type tt s r.0 same ∙ sym are.0.1)
    by_test false same e others = others e

row_none : {A : Type 0} (rows : List (Symbol × A)) (s : Symbol) → among (marks rows) (kind.Symbol s) ≡ false → row rows s ≡ None
row_none [] s e = refl
row_none (r ∷ rows) s e = let p = both_false (sameb symbol_type.the_type s r.0) (among (marks rows) (kind.Symbol s)) e in
    ap (λ b. cond b (Some r.1) (row rows s)) p.0 ∙ row_none rows s p.1

-- a table that takes the marks of these rows, and what is said of one of its tokens
module _ {A : Type 0} (of : Symbol → Option A) (Fits : A → Type 0) (shown : A → Symbol) (rows : List (Symbol × A)) (is : (s : Symbol) → of s ≡ row rows s) (are : AreRows Fits shown rows)
    (back : (x : A) → Fits x → of (shown x) ≡ Some x) (sample : A) (fits : Fits sample) where
  into-row : (token : Token) (k : TokenKind) (x : A × ℕ) → token.kind ≡ k → table.placed (by_symbol of k) token.at ≡ Some x → Fits x.0 × IsPiece (placed (kind.Symbol (shown x.0)) x.1) token
  into-row token (kind.Symbol s) x k e = by_option (of s) refl e
    where
      by_option : (o : Option A) → of s ≡ o → table.placed o token.at ≡ Some x → Fits x.0 × IsPiece (placed (kind.Symbol (shown x.0)) x.1) token
      by_option None e1 e2 = absurd cc
      by_option (Some y) e1 e2 = let p = row_is Fits shown rows are s y (sym (is s) ∙ e1) in
          subst (λ (z : A × ℕ). Fits z.0 × IsPiece (placed (kind.Symbol (shown z.0)) z.1) token) (some_same (y, token.at) x e2) (p.0, record { kind = k ∙ ap kind.Symbol p.1; at = refl })
  into-row token _ x k e = absurd cc

  back-row : (token : Token) (x : A) → Fits x → token.kind ≡ kind.Symbol (shown x) → symbol_among of token ≡ Some (x, token.at)
  unfolding symbol_among
  back-row token x fits e = ap (λ k. table.placed (by_symbol of k) token.at) e ∙ ap (λ o. table.placed o token.at) (back x fits)

  none-row : (token : Token) → among (marks rows) (class token.kind) ≡ false → symbol_among of token ≡ None
  unfolding symbol_among
  none-row token e = ap (λ o. table.placed o token.at) (by_kind token.kind e)
    where
      by_kind : (k : TokenKind) → among (marks rows) (class k) ≡ false → by_symbol of k ≡ None
      by_kind (kind.Symbol s) e = is s ∙ row_none rows s e
      by_kind _ e = refl

  rows-at : IsTable (symbol_among of) (λ x. Fits x.0) (λ x. placed (kind.Symbol (shown x.0)) x.1) (λ _ x. x) (marks rows)
  unfolding symbol_among
  rows-at = record {
    into = λ token x e. into-row token token.kind x refl e;
    back = λ token x fits is. back-row token x.0 fits is.kind ∙ ap (λ (n : ℕ). Some (x.0, n)) is.at;
    none = none-row;
    token = at_0 (kind.Symbol (shown sample));
    sample = (sample, 0);
    is = back-row (at_0 (kind.Symbol (shown sample))) sample fits refl;
  }

  -- where the place does not matter
  rows-any : IsTable (symbol_among of) (λ x. Fits x.0) (λ x. anywhere (kind.Symbol (shown x.0))) (λ token x. (x.0, token.at)) (marks rows)
  unfolding symbol_among
  rows-any = record {
    into = λ token x e. let p = into-row token token.kind x refl e in (p.0, record { kind = p.1.kind; at = tt });
    back = λ token x fits is. back-row token x.0 fits is.kind;
    none = none-row;
    token = at_0 (kind.Symbol (shown sample));
    sample = (sample, 0);
    is = back-row (at_0 (kind.Symbol (shown sample))) sample fits refl;
  }

-- ---- operators and relations

abbrev pub products : List (Symbol × Op)
products = (symbol.Star, op.Mul) ∷ (symbol.Slash, op.Div) ∷ (symbol.Percent, op.Mod) ∷ []

pub a-factor : IsTable (symbol_among table.product_operator) (λ x. IsMultiplication x.0) (λ x. placed (kind.Symbol (op_symbol x.0)) x.1) (λ _ x. x) (marks products)
a-factor = rows-at table.product_operator IsMultiplication op_symbol products (elim [ symbol.Star ↦ refl | _ ↦ refl ]) ((tt, refl), ((tt, refl), ((tt, refl), tt))) (elim [ op.Mul ↦ λ _. refl | op.Div ↦ λ _. refl | op.Mod ↦ λ _. refl | _ ↦ λ f. absurd f ]) op.Mul tt

abbrev pub additions : List (Symbol × Op)
additions = (symbol.Plus, op.Add) ∷ (symbol.Minus, op.Sub) ∷ []

pub an-addition : IsTable (symbol_among table.sum_operator) (λ x. IsAddition x.0) (λ x. placed (kind.Symbol (op_symbol x.0)) x.1) (λ _ x. x) (marks additions)
an-addition = rows-at table.sum_operator IsAddition op_symbol additions (elim [ symbol.Plus ↦ refl | _ ↦ refl ]) ((tt, refl), ((tt, refl), tt)) (elim [ op.Add ↦ λ _. refl | op.Sub ↦ λ _. refl | _ ↦ λ f. absurd f ]) op.Add tt

abbrev pub relations : List (Symbol × Rel)
relations = (symbol.Less, rel.Lt) ∷ (symbol.LessEqual, rel.Le) ∷ (symbol.Greater, rel.Gt) ∷ (symbol.GreaterEqual, rel.Ge) ∷ (symbol.EqualEqual, rel.Eq) ∷ (symbol.NotEqual, rel.Ne) ∷ []

pub a-relation : IsTable (symbol_among table.relation) Any (λ x. anywhere (kind.Symbol (rel_symbol x.0))) (λ token x. (x.0, token.at)) (marks relations)
a-relation = rows-any table.relation Any rel_symbol relations (elim [ symbol.Less ↦ refl | _ ↦ refl ]) ((tt, refl), ((tt, refl), ((tt, refl), ((tt, refl), ((tt, refl), ((tt, refl), tt)))))) (elim [ rel.Lt ↦ λ _. refl | _ ↦ λ _. refl ]) rel.Lt tt

abbrev pub index_relations : List (Symbol × IndexRelation)
index_relations = (symbol.Less, between.Less) ∷ (symbol.LessEqual, between.AtMost) ∷ (symbol.Greater, between.Greater) ∷ (symbol.GreaterEqual, between.AtLeast) ∷ (symbol.Equal, between.Equal) ∷ []

pub an-index-relation : IsTable (symbol_among table.index_relation) Any (λ x. anywhere (kind.Symbol (index_relation_symbol x.0))) (λ token x. (x.0, token.at)) (marks index_relations)
an-index-relation = rows-any table.index_relation Any index_relation_symbol index_relations (elim [ symbol.Less ↦ refl | _ ↦ refl ]) ((tt, refl), ((tt, refl), ((tt, refl), ((tt, refl), ((tt, refl), tt))))) (elim [ between.Less ↦ λ _. refl | _ ↦ λ _. refl ]) between.Less tt

abbrev pub signs : List (Symbol × Sign)
signs = (symbol.Plus, sign_of.Plus) ∷ (symbol.Minus, sign_of.Minus) ∷ []

pub a-sign : IsTable (symbol_among table.sign) Any (λ x. anywhere (kind.Symbol (sign_symbol x.0))) (λ token x. (x.0, token.at)) (marks signs)
a-sign = rows-any table.sign Any sign_symbol signs (elim [ symbol.Plus ↦ refl | _ ↦ refl ]) ((tt, refl), ((tt, refl), tt)) (elim [ sign_of.Plus ↦ λ _. refl | _ ↦ λ _. refl ]) sign_of.Plus tt
