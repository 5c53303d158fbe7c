-- What a reader is, what it means that it reads a language exactly, and what a longest prefix is. The symbols are bytes,
-- tokens, or anything else.
use Rattle.std.specs.Prelude.{◌≡◌, ℕ, suc, ◌-◌, ◌<◌, ◌≤◌, List, [], ◌∷◌, ◌++◌, length, take, Result, Ok, Err}

-- What reading at the front of some symbols gives: a value and the symbols after it, or how many symbols are left at the
-- fault. The symbol at the fault is the first of these.
abbrev pub ReadOf : Type 0 → Type 0 → Type 0
ReadOf S A = Result (A × List S) ℕ

abbrev pub ReaderOf : Type 0 → Type 0 → Type 0
ReaderOf S A = List S → ReadOf S A

-- the same over bytes
abbrev pub Read : Type 0 → Type 0
Read A = ReadOf ℕ A

abbrev pub Reader : Type 0 → Type 0
Reader A = ReaderOf ℕ A

infixl 10 ◌>>=◌
abbrev pub ◌>>=◌ : {A B : Type 0} → Result A ℕ → (A → Result B ℕ) → Result B ℕ
(Ok x) >>= f = f x
(Err n) >>= f = Err n

-- the next symbol is the same, or both are at their end
abbrev pub Alike : {S : Type 0} → List S → List S → Type 0
Alike [] [] = Unit {0}
Alike [] (c ∷ cs) = ⊥
Alike (b ∷ bs) [] = ⊥
Alike (b ∷ bs) (c ∷ cs) = b ≡ c

-- A value was read: the symbols that were taken spell it, and whatever follows them is left, if only its first symbol is
-- the one that followed here.
pub record Found {S A : Type 0} (p : ReaderOf S A) (Is : A → List S → Type 0) (bytes : List S) (x : A) (rest : List S) : Type 0 where
  pub front : List S
  pub is : Is x front
  pub parts : bytes ≡ front ++ rest
  pub again : (more : List S) → Alike rest more → p (front ++ more) ≡ Ok (x, more)

-- Reading failed: the symbols before the fault begin some text, and whatever follows them is a fault at the same place,
-- if only its first symbol is the one that followed here.
pub record Faulty {S A : Type 0} (p : ReaderOf S A) (Is : A → List S → Type 0) (bytes : List S) (left : ℕ) : Type 0 where
  pub front : List S
  pub rest : List S
  pub parts : bytes ≡ front ++ rest
  pub left_is : length rest ≡ left
  pub value : A
  pub ending : List S
  pub begun : Is value (front ++ ending)
  pub again : (more : List S) → Alike rest more → p (front ++ more) ≡ Err (length more)

-- The three laws of a reader p of a language: Is x text says that text spells x, and Stops rest that what follows a
-- text does not go on with it.
pub record Exact {S A : Type 0} (p : ReaderOf S A) (Is : A → List S → Type 0) (Stops : List S → Type 0) : Type 0 where
  pub found : (bytes : List S) (x : A) (rest : List S) → p bytes ≡ Ok (x, rest) → Found p Is bytes x rest
  pub faulty : (bytes : List S) (left : ℕ) → p bytes ≡ Err left → Faulty p Is bytes left
  pub whole : (x : A) (front rest : List S) → Is x front → Stops rest → p (front ++ rest) ≡ Ok (x, rest)

-- ---- the longest prefix, by the language alone

-- some text of the language begins with these symbols
abbrev pub Begins : {S A : Type 0} → (A → List S → Type 0) → List S → Type 0
Begins {S} {A} Is front = (x : A) × (ending : List S) × Is x (front ++ ending)

-- The first k of the symbols begin a text, and one more begins none. Where there is no symbol more, the symbols are no
-- text themselves.
pub record IsLongest {S A : Type 0} (Is : A → List S → Type 0) (bytes : List S) (k : ℕ) : Type 0 where
  pub within : k ≤ length bytes
  pub begins : Begins Is (take k bytes)
  pub no_more : k < length bytes → Begins Is (take (suc k) bytes) → ⊥
  pub no_text : (x : A) → Is x bytes → ⊥

-- nothing is left, or how much is
abbrev pub nothing_left : {S : Type 0} → List S → Result (Unit {0}) ℕ
nothing_left [] = Ok tt
nothing_left (b ∷ rest) = Err (suc (length rest))

-- Reading all of the symbols: one behind the text is a fault, too.
abbrev pub whole_text : {S A : Type 0} → ReaderOf S A → List S → Result A ℕ
whole_text p bytes = p bytes >>= λ x. nothing_left x.1 >>= λ _. Ok x.0

-- What follows from the three laws, for all symbols, where the end may follow a text.
pub record ReadsWhole {S A : Type 0} (p : ReaderOf S A) (Is : A → List S → Type 0) : Type 0 where
  -- what is read is spelled so
  pub found : (bytes : List S) (x : A) → whole_text p bytes ≡ Ok x → Is x bytes
  -- what is spelled so is read
  pub only : (bytes : List S) (x : A) → Is x bytes → whole_text p bytes ≡ Ok x
  -- where reading fails, the good part begins some text, and one symbol more begins none
  pub fault : (bytes : List S) (left : ℕ) → whole_text p bytes ≡ Err left → IsLongest Is bytes (length bytes - left)
  -- a text spells at most one value
  pub one_value : (text : List S) (x y : A) → Is x text → Is y text → x ≡ y
