-- Answers that are a value or an error.
use Rattle.std.specs.Prelude.{Result, Ok, Err}

-- one part and then the next: an error of the first ends it
infixl 10 ◌>>=◌
abbrev pub ◌>>=◌ : {A B E : Type 0} → Result A E → (A → Result B E) → Result B E
(Ok x) >>= next = next x
(Err e) >>= next = Err e
