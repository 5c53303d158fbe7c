-- The words of a command line.
use Rattle.std.specs.Prelude.{ℕ, Bool, true, not, ◌==◌, List, ◌∷◌, map}
use Rattle.std.specs.Borrow.{Bor}

-- the bytes of words
abbrev pub texts : List (Bor (List ℕ)) → List (List ℕ)
texts words = map (λ word. word.now) words

-- a word is a value unless it begins with `-` and is longer than that
abbrev pub is_value : List ℕ → Bool
is_value (first ∷ _ ∷ _) = not (first == 45)
is_value _ = true
