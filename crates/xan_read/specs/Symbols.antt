-- Readers over symbols of any kind, that tables tell apart: what reading the next symbol gives, and how readers are made
-- of readers. The lists have no bound: each item takes a symbol, so that the symbols that remain are room enough.
use Rattle.std.specs.Prelude.{◌≡◌, ◌⊎◌, ℕ, zero, suc, List, [], ◌∷◌, ◌++◌, length, Option, Some, None, Ok, Err}
use Rattle.std.specs.Option.{option_map}
use Rattle.xan_read.specs.Reader.{ReadOf, ReaderOf, ◌>>=◌}
use Rattle.xan_read.specs.Combinators.{give, made, in_turn}

-- ---- the next symbol

-- what each symbol of some kinds stands for
abbrev pub TableOf : Type 0 → Type 0 → Type 0
TableOf S A = S → Option A

-- what the next symbol stands for, and the symbols behind it
unfoldable pub eat : {S A : Type 0} → TableOf S A → List S → Option (A × List S)
eat table [] = None
eat table (symbol ∷ symbols) = option_map (λ x. (x, symbols)) (table symbol)

abbrev pub or_fault : {S A : Type 0} → ℕ → Option (A × List S) → ReadOf S A
or_fault left None = Err left
or_fault left (Some found) = Ok found

-- one symbol of the table
unfoldable pub take : {S A : Type 0} → TableOf S A → ReaderOf S A
take table symbols = or_fault (length symbols) (eat table symbols)

pub record IsTaken {S A : Type 0} (table : TableOf S A) (x : A) (text : List S) : Type 0 where
  pub symbol : S
  pub is : table symbol ≡ Some x
  pub parts : text ≡ symbol ∷ []

-- ---- readers of readers

-- where a symbol of the table comes, it is taken and p goes on; else q reads
abbrev pub decided : {S A B : Type 0} → Option (A × List S) → (A → ReaderOf S B) → ReadOf S B → ReadOf S B
decided None p other = other
decided (Some found) p other = p found.0 found.1

abbrev pub where_comes : {S A B : Type 0} → TableOf S A → (A → ReaderOf S B) → ReaderOf S B → ReaderOf S B
where_comes table p q symbols = decided (eat table symbols) p (q symbols)

pub record IsBehind {S A B : Type 0} (table : TableOf S A) (Is : A → B → List S → Type 0) (y : B) (text : List S) : Type 0 where
  pub symbol : S
  pub value : A
  pub back : List S
  pub decides : table symbol ≡ Some value
  pub is : Is value y back
  pub parts : text ≡ symbol ∷ back

abbrev pub WhereComes : {S A B : Type 0} → TableOf S A → (A → B → List S → Type 0) → (B → List S → Type 0) → B → List S → Type 0
WhereComes table First Second y text = IsBehind table First y text ⊎ Second y text

-- ---- lists. The number bounds the items; each takes a symbol, so that the number of symbols is enough.

-- items, each behind a symbol of the table, after those that were found
unfoldable pub repeated_from : {S A B : Type 0} → TableOf S A → (A → ReaderOf S B) → ℕ → List B → ReaderOf S (List B)
repeated_from table item zero found symbols = Ok (found, symbols)
repeated_from table item (suc room) found symbols =
    decided (eat table symbols) (λ a rest. item a rest >>= λ x. repeated_from table item room (found ++ x.0 ∷ []) x.1) (Ok (found, symbols))

abbrev pub repeated : {S A B : Type 0} → TableOf S A → (A → ReaderOf S B) → List B → ReaderOf S (List B)
repeated table item found symbols = repeated_from table item (length symbols) found symbols

pub record OneMore {S A B : Type 0} (table : TableOf S A) (First : A → B → List S → Type 0) (x : B) (Others : List S → Type 0) (text : List S) : Type 0 where
  pub symbol : S
  pub value : A
  pub front : List S
  pub back : List S
  pub decides : table symbol ≡ Some value
  pub first : First value x front
  pub others : Others back
  pub parts : text ≡ symbol ∷ (front ++ back)

abbrev pub Items : {S A B : Type 0} → TableOf S A → (A → B → List S → Type 0) → List B → List S → Type 0
Items table First [] text = text ≡ []
Items table First (x ∷ xs) text = OneMore table First x (Items table First xs) text

-- the items behind those that were found
pub record IsRepeated {S A B : Type 0} (table : TableOf S A) (First : A → B → List S → Type 0) (found ys : List B) (text : List S) : Type 0 where
  pub xs : List B
  pub is : ys ≡ found ++ xs
  pub items : Items table First xs text

-- items up to a symbol of the table, which is taken
unfoldable pub until_from : {S A B : Type 0} → TableOf S A → ReaderOf S B → ℕ → List B → ReaderOf S (List B)
until_from end item zero found symbols = Err (length symbols)
until_from end item (suc room) found symbols =
    decided (eat end symbols) (λ _ rest. Ok (found, rest)) (item symbols >>= λ x. until_from end item room (found ++ x.0 ∷ []) x.1)

abbrev pub until : {S A B : Type 0} → TableOf S A → ReaderOf S B → ReaderOf S (List B)
until end item symbols = until_from end item (length symbols) [] symbols

pub record IsEnd {S A : Type 0} (end : TableOf S A) (text : List S) : Type 0 where
  pub symbol : S
  pub value : A
  pub decides : end symbol ≡ Some value
  pub parts : text ≡ symbol ∷ []

pub record OneThen {S B : Type 0} (First : B → List S → Type 0) (x : B) (Others : List S → Type 0) (text : List S) : Type 0 where
  pub front : List S
  pub back : List S
  pub first : First x front
  pub others : Others back
  pub parts : text ≡ front ++ back

-- the items, and the symbol at their end
abbrev pub Closed : {S A B : Type 0} → TableOf S A → (B → List S → Type 0) → List B → List S → Type 0
Closed end First [] text = IsEnd end text
Closed end First (x ∷ xs) text = OneThen First x (Closed end First xs) text

-- ---- common forms

-- what p reads behind a symbol of the table, where that comes
abbrev pub optional : {S A B : Type 0} → TableOf S A → (A → ReaderOf S B) → ReaderOf S (Option B)
optional table p = where_comes table (λ a. made Some (p a)) (give None)

-- items, one at least, with a symbol of the table between two
abbrev pub separated : {S A B : Type 0} → TableOf S A → ReaderOf S B → ReaderOf S (List B)
separated table item = in_turn item (λ x. repeated table (λ _. item) (x ∷ []))

-- p, and then a symbol of the table
abbrev pub before : {S A B : Type 0} → TableOf S A → ReaderOf S B → ReaderOf S B
before table p = in_turn p (λ x. in_turn (take table) (λ _. give x))

-- a symbol of the table, and then p
abbrev pub behind : {S A B : Type 0} → TableOf S A → ReaderOf S B → ReaderOf S B
behind table p = in_turn (take table) (λ _. p)
