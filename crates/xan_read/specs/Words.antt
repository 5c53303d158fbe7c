-- A table of words, none of which begins another: the reader goes on as long as some word of the table goes on so.
use Rattle.std.specs.Prelude.{◌≡◌, ◌⊎◌, ℕ, Bool, true, false, ◌&&◌, not, List, [], ◌∷◌, length, min, Result, Ok, Err, ◌==◌}
use Rattle.xan_read.specs.Reader.{Read, Reader}
use Rattle.xan_read.specs.Combinators.{literal}

-- a word, and what it stands for
abbrev pub Table : Type 0 → Type 0
Table A = List (List ℕ × A)

-- the text is a word of the table, and x what that stands for
abbrev pub IsWord : {A : Type 0} → Table A → A → List ℕ → Type 0
IsWord [] x text = ⊥
IsWord (entry ∷ table) x text = ((x ≡ entry.1) × (text ≡ entry.0)) ⊎ IsWord table x text

-- bytes begin with a word
abbrev pub begins_with : List ℕ → List ℕ → Bool
begins_with [] bytes = true
begins_with (c ∷ word) [] = false
begins_with (c ∷ word) (b ∷ bytes) = b == c && begins_with word bytes

-- None is the beginning of another.
abbrev pub apart : List ℕ → List ℕ → Bool
apart a b = not (begins_with a b) && not (begins_with b a)

abbrev pub apart_from_all : {A : Type 0} → List ℕ → Table A → Bool
apart_from_all word [] = true
apart_from_all word (entry ∷ table) = apart word entry.0 && apart_from_all word table

abbrev pub prefix_free : {A : Type 0} → Table A → Bool
prefix_free [] = true
prefix_free (entry ∷ table) = apart_from_all entry.0 table && prefix_free table

-- what is left behind the word and what it stands for, or what the other words give
abbrev pub or_else : {A : Type 0} → Result (List ℕ) ℕ → A → (ℕ → Read A) → Read A
or_else (Ok rest) x others = Ok (x, rest)
or_else (Err n) x others = others n

-- The word that comes next. Where none does, the place is as far as some word goes on as the bytes do; left is what was
-- left at the furthest place of the words before these.
unfoldable pub word_from : {A : Type 0} → ℕ → Table A → Reader A
word_from left [] bytes = Err left
word_from left (entry ∷ table) bytes = or_else (literal entry.0 bytes) entry.1 (λ n. word_from (min left n) table bytes)

abbrev pub word : {A : Type 0} → Table A → Reader A
word table bytes = word_from (length bytes) table bytes
