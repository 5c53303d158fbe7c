-- Readers made of readers, and the languages that they read. The symbols are of any kind, but where a byte or a literal
-- is named.
use Rattle.std.specs.Prelude.{◌≡◌, ◌⊎◌, ℕ, suc, List, [], ◌∷◌, ◌++◌, length, Option, Some, None, Result, Ok, Err, ◌==◌, if◌then◌else◌, Bool, false}
use Rattle.xan_read.specs.Reader.{ReadOf, ReaderOf, Read, Reader, ◌>>=◌}

-- ---- a value without symbols

abbrev pub give : {S A : Type 0} → A → ReaderOf S A
give x rest = Ok (x, rest)

pub record IsGiven {S A : Type 0} (given x : A) (text : List S) : Type 0 where
  pub value : x ≡ given
  pub nothing : text ≡ []

-- ---- two in turn; what the second is may depend on the first's value

abbrev pub in_turn : {S A B : Type 0} → ReaderOf S A → (A → ReaderOf S B) → ReaderOf S B
in_turn p q symbols = p symbols >>= λ x. q x.0 x.1

pub record InTurn {S A B : Type 0} (First : A → List S → Type 0) (Second : A → B → List S → Type 0) (y : B) (text : List S) : Type 0 where
  pub value : A
  pub front : List S
  pub back : List S
  pub first : First value front
  pub second : Second value y back
  pub parts : text ≡ front ++ back

-- ---- a value that is made of what is read

abbrev pub made : {S A B : Type 0} → (A → B) → ReaderOf S A → ReaderOf S B
made make p = in_turn p (λ x. give (make x))

pub record IsMade {S A B : Type 0} (make : A → B) (Is : A → List S → Type 0) (y : B) (text : List S) : Type 0 where
  pub value : A
  pub is : Is value text
  pub made : y ≡ make value

-- ---- a literal in front

-- the bytes behind the literal, or how many are left at the first byte that differs from it
unfoldable pub literal : List ℕ → List ℕ → Result (List ℕ) ℕ
literal [] bytes = Ok bytes
literal (c ∷ text) [] = Err 0
literal (c ∷ text) (b ∷ bytes) = if b == c then literal text bytes else Err (suc (length bytes))

abbrev pub behind : {A : Type 0} → List ℕ → Reader A → Reader A
behind text p bytes = literal text bytes >>= p

pub record IsBehind {A : Type 0} (text : List ℕ) (Is : A → List ℕ → Type 0) (x : A) (whole : List ℕ) : Type 0 where
  pub back : List ℕ
  pub is : Is x back
  pub parts : whole ≡ text ++ back

-- ---- a byte that decides: where it comes, it is taken and p goes on; else q reads

-- the bytes behind the byte c, if that is the next
unfoldable pub after : ℕ → List ℕ → Option (List ℕ)
after c [] = None
after c (b ∷ bytes) = if b == c then Some bytes else None

abbrev pub decided : {A : Type 0} → Option (List ℕ) → Reader A → Read A → Read A
decided None p other = other
decided (Some rest) p other = p rest

abbrev pub where_comes : {A : Type 0} → ℕ → Reader A → Reader A → Reader A
where_comes c p q bytes = decided (after c bytes) p (q bytes)

abbrev pub WhereComes : {A : Type 0} → ℕ → (A → List ℕ → Type 0) → (A → List ℕ → Type 0) → A → List ℕ → Type 0
WhereComes c First Second x text = IsBehind (c ∷ []) First x text ⊎ Second x text

-- ---- a choice by the next symbol, which the reader that is chosen reads again

-- there is a next symbol, and it passes the test
abbrev pub next_passes : {S : Type 0} → (S → Bool) → List S → Bool
next_passes test [] = false
next_passes test (b ∷ rest) = test b

abbrev pub by_next : {S A : Type 0} → (S → Bool) → ReaderOf S A → ReaderOf S A → ReaderOf S A
by_next test p q symbols = if next_passes test symbols then p symbols else q symbols

abbrev pub Either : {S A : Type 0} → (A → List S → Type 0) → (A → List S → Type 0) → A → List S → Type 0
Either First Second x text = First x text ⊎ Second x text
