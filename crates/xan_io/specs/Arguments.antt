-- How an argument of a run is spelled as a word of a command line, and the reader of such a word.
use Rattle.std.specs.Prelude.{◌≡◌, ℕ, ℤ, true, false, List, [], ◌∷◌, ◌++◌, length, Option, Some, None, Result, Ok, Err, codes}
use Rattle.std.specs.Fmt.{signed_decimal}
use Rattle.xan_read.specs.Reader.{Reader, whole_text}
use Rattle.xan_read.specs.Combinators.{give, in_turn, by_next}
use Rattle.xan_read.specs.Integers.{integer}
use Rattle.xan_read.specs.Lists.{separated}
use Rattle.xan_read.specs.Words.{Table, word}
use Rattle.xan_io.specs.declared.arg.Arg.{Arg}
use Rattle.xan_io.specs.declared.arg.Arg.TheVariants.{Int, Bool, Array}
use Rattle.xan_io.specs.declared.arguments.Head.{Head}
use Rattle.xan_io.specs.declared.arguments.Head.TheVariants as head
use Rattle.xan_io.specs.Entry.{IsWordArg}

-- ---- the words

-- each number behind a comma
abbrev pub further_cells : List ℤ → List ℕ
further_cells [] = []
further_cells (cell ∷ cells) = codes "," ++ (signed_decimal cell ++ further_cells cells)

-- numbers with a comma between two
abbrev pub cells_text : List ℤ → List ℕ
cells_text [] = []
cells_text (cell ∷ cells) = signed_decimal cell ++ further_cells cells

abbrev pub arg_text : Arg → List ℕ
arg_text (Int number) = codes "int=" ++ signed_decimal number
arg_text (Bool true) = codes "bool=true"
arg_text (Bool false) = codes "bool=false"
arg_text (Array cells) = codes "arr=" ++ cells_text cells

-- the word spells the argument, whose numbers are words of the machine
pub record IsArg (arg : Arg) (text : List ℕ) : Type 0 where
  pub words : IsWordArg arg
  pub is : text ≡ arg_text arg

-- ---- the reader

abbrev pub heads : Table Head
heads = (codes "int=", head.Int) ∷ (codes "bool=true", head.True) ∷ (codes "bool=false", head.False) ∷ (codes "arr=", head.Array) ∷ []

unfoldable pub word_number : Reader ℤ
word_number = integer 9223372036854775808 9223372036854775807

-- the numbers up to the end; one and at most `room` more, unless it is there already
unfoldable pub cells : ℕ → Reader (List ℤ)
cells room = by_next (λ _. true) (separated 44 room word_number) (give [])

unfoldable pub behind_head : ℕ → Head → Reader Arg
behind_head room head.Int = in_turn word_number (λ number. give (Int number))
behind_head room head.True = give (Bool true)
behind_head room head.False = give (Bool false)
behind_head room head.Array = in_turn (cells room) (λ numbers. give (Array numbers))

unfoldable pub front : ℕ → Reader Arg
front room = in_turn (word heads) (behind_head room)

abbrev pub read_of : {A : Type 0} → Result A ℕ → Option A
read_of (Ok value) = Some value
read_of (Err left) = None

-- the argument that the word spells, where it spells one; it has fewer numbers than the word has bytes
unfoldable pub arg_of : List ℕ → Option Arg
arg_of text = read_of (whole_text (front (length text)) text)
