-- Names: a lower-case letter and then letters, digits and `_`, and no word of a given list.
use Rattle.std.specs.Prelude.{◌≡◌, ℕ, Bool, true, false, ◌||◌, ◌&&◌, List, [], ◌∷◌, length, Option, Some, None, Ok, Err, ◌==◌, if◌then◌else◌, bytes_eq}
use Rattle.std.specs.Char.{is_ascii_lowercase, is_ascii_alphanumeric}
use Rattle.xan_read.specs.Reader.{Read, Reader}

abbrev pub in_name : ℕ → Bool
in_name b = is_ascii_alphanumeric b || (b == 95)

abbrev pub all_in_name : List ℕ → Bool
all_in_name [] = true
all_in_name (b ∷ bytes) = in_name b && all_in_name bytes

abbrev pub is_name : List ℕ → Bool
is_name [] = false
is_name (b ∷ bytes) = is_ascii_lowercase b && all_in_name bytes

-- one of the words
abbrev pub is_among : List (List ℕ) → List ℕ → Bool
is_among [] text = false
is_among (word ∷ words) text = bytes_eq word text || is_among words text

-- the name spells itself
pub record IsName (words : List (List ℕ)) (x text : List ℕ) : Type 0 where
  pub is : x ≡ text
  pub name : is_name text ≡ true
  pub other : is_among words text ≡ false

-- the name does not go on
abbrev pub NoName : List ℕ → Type 0
NoName [] = Unit {0}
NoName (b ∷ rest) = in_name b ≡ false

-- the longest front of bytes of a name, and the rest
unfoldable pub run : List ℕ → List ℕ × List ℕ
run [] = ([], [])
run (b ∷ bytes) = if in_name b then (b ∷ (run bytes).0, (run bytes).1) else ([], b ∷ bytes)

-- the bytes behind the next one, if that stands in names
unfoldable pub after_byte : List ℕ → Option (List ℕ)
after_byte [] = None
after_byte (b ∷ bytes) = if in_name b then Some bytes else None

abbrev pub begins_lower : List ℕ → Bool
begins_lower [] = false
begins_lower (b ∷ bytes) = is_ascii_lowercase b

-- the front and the rest, unless the front is a word of the list
abbrev pub unless_among : List (List ℕ) → List ℕ × List ℕ → Read (List ℕ)
unless_among words cut = if is_among words cut.0 then Err (length cut.1) else Ok (cut.0, cut.1)

-- A word of the list is a fault behind its last byte, since a longer name begins so.
unfoldable pub name : List (List ℕ) → Reader (List ℕ)
name words bytes = if begins_lower bytes then unless_among words (run bytes) else Err (length bytes)
