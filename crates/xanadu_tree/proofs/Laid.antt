-- A part of a tree whose tokens stand one behind the other from a place on, as they are printed: the same up to offsets.
use Rattle.std.proofs.Common.{◌≡◌, ◌∙◌, ap, subst, ℕ, ◌+◌, List, [], ◌∷◌, ◌++◌, length, map, Option, Some, None, All, refl, arith}
use Rattle.std.specs.Option.{option_map}
use Rattle.std.proofs.lemmas.List.Elements.{All-cons, All-nil}
use Rattle.xanadu_lexer.specs.declared.symbol.Symbol.TheVariants as symbol
use Rattle.xanadu_lexer.specs.declared.token.TokenKind.{TokenKind}
use Rattle.xanadu_lexer.specs.declared.token.TokenKind.TheVariants as kind
use Rattle.xanadu_lexer.specs.Spelling.{spelled}
use Rattle.xanadu_tree.specs.Pieces.{Piece, anywhere, placed, kinds, IsPiece, Spelled, tokens_from, behind_commas, with_commas, optional}
use Rattle.xanadu_tree.specs.Written.{IsSome, WhereGiven}

-- how many bytes the pieces take, with a space behind each
abbrev pub width : List Piece → ℕ
width [] = 0
width (p ∷ ps) = length (spelled p.kind) + 1 + width ps

pub record Laid {A : Type 0} (pieces : A → List Piece) (Placed Is : A → Type 0) (Begins : A → ℕ → Type 0) (unplaced : A → A) (at : ℕ) (x : A) : Type 0 where
  pub made : A
  pub spelled : Spelled (pieces made) (tokens_from at (kinds (pieces x)))
  pub placed : Placed made
  pub is : Is x → Is made
  pub begins : Begins made at
  pub alike : unplaced made ≡ unplaced x

-- a part that begins with no place of its own, or of which nothing is asked
abbrev pub Anywhere : {A : Type 0} → A → ℕ → Type 0
Anywhere x at = Unit {0}

abbrev pub Always : {A : Type 0} → A → Type 0
Always x = Unit {0}

-- ---- pieces

-- a token at its place
pub here : (k : TokenKind) (at : ℕ) → IsPiece (placed k at) (record { at = at; kind = k })
here k at = record { kind = refl; at = refl }

-- a token anywhere
pub free : (k : TokenKind) (at : ℕ) → IsPiece (anywhere k) (record { at = at; kind = k })
free k at = record { kind = refl; at = tt }

-- one part behind another
pub both : (at : ℕ) (a b made_a made_b : List Piece) → Spelled made_a (tokens_from at (kinds a)) → Spelled made_b (tokens_from (at + width a) (kinds b))
    → Spelled (made_a ++ made_b) (tokens_from at (kinds (a ++ b)))
both at [] b [] made_b first second = let same : at + 0 ≡ at = omega arith in subst (λ n. Spelled made_b (tokens_from n (kinds b))) same second
both at [] b (p ∷ ps) made_b first second = absurd first
both at (q ∷ qs) b [] made_b first second = absurd first
both at (q ∷ qs) b (p ∷ ps) made_b first second =
    let same : at + (length (spelled q.kind) + 1 + width qs) ≡ at + length (spelled q.kind) + 1 + width qs = omega arith in
    (first.0, both (at + length (spelled q.kind) + 1) qs b ps made_b first.1 (subst (λ n. Spelled made_b (tokens_from n (kinds b))) same second))

pub alike_two : {A B C : Type 0} (f : A → B → C) (a a' : A) (b b' : B) → a ≡ a' → b ≡ b' → f a b ≡ f a' b'
alike_two f a a' b b' first second = ap (λ x. f x b) first ∙ ap (λ y. f a' y) second

pub alike_three : {A B C D : Type 0} (f : A → B → C → D) (a a' : A) (b b' : B) (c c' : C) → a ≡ a' → b ≡ b' → c ≡ c' → f a b c ≡ f a' b' c'
alike_three f a a' b b' c c' first second third = alike_two (λ x y. f x y c) a a' b b' first second ∙ ap (λ z. f a' b' z) third

-- ---- a part that may be left out, and lists with commas

pub lay_optional : {A : Type 0} (pieces : A → List Piece) (Placed Is : A → Type 0) (Begins : A → ℕ → Type 0) (unplaced : A → A)
    → ((at : ℕ) (x : A) → Laid pieces Placed Is Begins unplaced at x)
    → (at : ℕ) (x : Option A) → Laid (optional pieces) (WhereGiven Placed) (WhereGiven Is) (λ o n. WhereGiven (λ y. Begins y n) o) (option_map unplaced) at x
lay_optional pieces Placed Is Begins unplaced lay at None = record { made = None; spelled = tt; placed = tt; is = λ h. tt; begins = tt; alike = refl }
lay_optional pieces Placed Is Begins unplaced lay at (Some x) =
    let one = lay at x in
    record {
      made = Some one.made;
      spelled = one.spelled;
      placed = one.placed;
      is = one.is;
      begins = one.begins;
      alike = ap (λ y. Some y) one.alike;
    }

lay_behind : {A : Type 0} (pieces : A → List Piece) (Placed Is : A → Type 0) (Begins : A → ℕ → Type 0) (unplaced : A → A)
    → ((at : ℕ) (x : A) → Laid pieces Placed Is Begins unplaced at x)
    → (at : ℕ) (xs : List A) → Laid (behind_commas pieces) (All Placed) Always Anywhere (map unplaced) at xs
lay_behind pieces Placed Is Begins unplaced lay at [] = record { made = []; spelled = tt; placed = All-nil Placed; is = λ h. tt; begins = tt; alike = refl }
lay_behind pieces Placed Is Begins unplaced lay at (x ∷ xs) =
    let one = lay (at + 1 + 1) x in
    let more = lay_behind pieces Placed Is Begins unplaced lay (at + 1 + 1 + width (pieces x)) xs in
    record {
      made = one.made ∷ more.made;
      spelled = (free (kind.Symbol symbol.Comma) at, both (at + 1 + 1) (pieces x) (behind_commas pieces xs) _ _ one.spelled more.spelled);
      placed = All-cons Placed one.made more.made one.placed more.placed;
      is = λ h. tt;
      begins = tt;
      alike = alike_two (λ y ys. y ∷ ys) _ _ _ _ one.alike more.alike;
    }

pub lay_list : {A : Type 0} (pieces : A → List Piece) (Placed Is : A → Type 0) (Begins : A → ℕ → Type 0) (unplaced : A → A)
    → ((at : ℕ) (x : A) → Laid pieces Placed Is Begins unplaced at x)
    → (at : ℕ) (xs : List A) → Laid (with_commas pieces) (All Placed) IsSome Anywhere (map unplaced) at xs
lay_list pieces Placed Is Begins unplaced lay at [] = record { made = []; spelled = tt; placed = All-nil Placed; is = λ h. h; begins = tt; alike = refl }
lay_list pieces Placed Is Begins unplaced lay at (x ∷ xs) =
    let one = lay at x in
    let more = lay_behind pieces Placed Is Begins unplaced lay (at + width (pieces x)) xs in
    record {
      made = one.made ∷ more.made;
      spelled = both at (pieces x) (behind_commas pieces xs) _ _ one.spelled more.spelled;
      placed = All-cons Placed one.made more.made one.placed more.placed;
      is = λ h. tt;
      begins = tt;
      alike = alike_two (λ y ys. y ∷ ys) _ _ _ _ one.alike more.alike;
    }
