-- Which bytes are the name of a function.
use Rattle.std.specs.Prelude.{ℕ, Bool, false, not, ◌&&◌, ◌||◌, ◌==◌, nat_le, List, [], ◌∷◌, codes, bytes_eq}
use Rattle.std.specs.List.{list_all, list_any}

abbrev pub is_within : ℕ → ℕ → ℕ → Bool
is_within low high byte = nat_le low byte && nat_le byte high

abbrev pub is_small_letter : ℕ → Bool
is_small_letter byte = is_within 97 122 byte

-- a letter, a digit or `_`
abbrev pub is_word_byte : ℕ → Bool
is_word_byte byte = is_small_letter byte || is_within 65 90 byte || is_within 48 57 byte || byte == 95

-- the words that are no names
abbrev pub keywords : List (List ℕ)
keywords =
    codes "fun" ∷ codes "type" ∷ codes "var" ∷ codes "let" ∷ codes "if" ∷ codes "else" ∷ codes "join" ∷ codes "while" ∷ codes "with"
    ∷ codes "return" ∷ codes "print" ∷ codes "new" ∷ codes "len" ∷ codes "true" ∷ codes "false" ∷ codes "int" ∷ codes "nat" ∷ codes "bool"
    ∷ codes "unit" ∷ []

-- a small letter, then letters, digits and `_`, and no keyword
abbrev pub is_lower : List ℕ → Bool
is_lower [] = false
is_lower (first ∷ rest) = is_small_letter first && list_all is_word_byte rest && not (list_any (bytes_eq (first ∷ rest)) keywords)
