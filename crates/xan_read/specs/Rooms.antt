-- Families of readers, by a room: how often something may still nest, or how much may still come. A text has room where it
-- is shorter than the room and a slack; where it has room, no reader of the family, up to a greatest room, answers otherwise
-- than the others. One reader is a family that does not look at its room: see proofs/RoomLaws.
use Rattle.std.specs.Prelude.{◌≡◌, ℕ, ◌+◌, ◌<◌, ◌≤◌, List, ◌++◌, length, Ok, Err}
use Rattle.xan_read.specs.Reader.{ReaderOf, Alike}

abbrev pub FamilyOf : Type 0 → Type 0 → Type 0
FamilyOf S A = ℕ → ReaderOf S A

pub record Example {S A : Type 0} (Is : A → List S → Type 0) : Type 0 where
  pub value : A
  pub text : List S
  pub is : Is value text

-- A value was read, as [`Found`] says of one reader.
pub record FoundWithin {S A : Type 0} (most slack : ℕ) (P : FamilyOf S A) (Is : A → List S → Type 0) (symbols : List S) (x : A) (rest : List S) : Type 0 where
  pub front : List S
  pub is : Is x front
  pub parts : symbols ≡ front ++ rest
  pub again : (room : ℕ) (more : List S) → room ≤ most → length front < slack + room → Alike rest more → P room (front ++ more) ≡ Ok (x, more)

-- Reading failed, as [`Faulty`] says of one reader.
pub record FaultyWithin {S A : Type 0} (most slack : ℕ) (P : FamilyOf S A) (Is : A → List S → Type 0) (symbols : List S) (left : ℕ) : Type 0 where
  pub front : List S
  pub rest : List S
  pub parts : symbols ≡ front ++ rest
  pub left_is : length rest ≡ left
  pub value : A
  pub ending : List S
  pub begun : Is value (front ++ ending)
  pub again : (room : ℕ) (more : List S) → room ≤ most → length front < slack + room → Alike rest more → P room (front ++ more) ≡ Err (length more)

-- The laws of a family that reads a language, up to a room: Is x text says that text spells x, and Stops rest that what
-- follows a text does not go on with it.
pub record ExactWithin {S A : Type 0} (most slack : ℕ) (P : FamilyOf S A) (Is : A → List S → Type 0) (Stops : List S → Type 0) : Type 0 where
  pub some : Example Is
  pub found : (room : ℕ) (symbols : List S) (x : A) (rest : List S) → room ≤ most → P room symbols ≡ Ok (x, rest) → FoundWithin most slack P Is symbols x rest
  pub faulty : (room : ℕ) (symbols : List S) (left : ℕ) → room ≤ most → length symbols < slack + room → P room symbols ≡ Err left → FaultyWithin most slack P Is symbols left
  pub whole : (room : ℕ) (x : A) (front rest : List S) → room ≤ most → length front < slack + room → Is x front → Stops rest → P room (front ++ rest) ≡ Ok (x, rest)
