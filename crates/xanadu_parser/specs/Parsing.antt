-- What the tokens of a source are read as.
use Rattle.std.specs.Prelude.{◌≡◌, ℕ, ◌-◌, List, [], ◌∷◌, length, drop, Result, Ok, Err, if◌then◌else◌, nat_lt}
use Rattle.xanadu_lexer.specs.declared.token.Token.{Token}
use Rattle.xanadu_tree.specs.PlainTree as plain
use Rattle.xanadu_tree.specs.Nesting.{nesting, nesting_most}
use Rattle.xanadu_parser.specs.declared.error.ParseError.{ParseError}
use Rattle.xanadu_parser.specs.declared.error.ParseError.TheVariants as error
use Rattle.expression_parser.specs.Reader.{Read}
use Rattle.xanadu_parser.specs.Kinds.{kinds_of}
use Rattle.xanadu_parser.specs.Declarations.{declarations}

-- the place of the first of these tokens, or the end of the source where there is none
abbrev pub first_at : List Token → (end : ℕ) → ℕ
first_at [] end = end
first_at (token ∷ tokens) end = token.at

-- the place of the token at which so many are left
abbrev pub fault_at : List Token → (end left : ℕ) → ℕ
fault_at tokens end left = first_at (drop (length tokens - left) tokens) end

abbrev pub tree_or_fault : List Token → (end : ℕ) → Read (List plain.Declaration) → Result plain.Tree ParseError
tree_or_fault tokens end (Ok read) = Ok (record { declarations = read.0; at = first_at tokens end })
tree_or_fault tokens end (Err left) = Err (error.Fault (fault_at tokens end left))

abbrev pub program : List Token → (end : ℕ) → Result plain.Tree ParseError
program tokens end = tree_or_fault tokens end (declarations (length tokens) tokens)

-- the tree, or why there is none
unfoldable pub parsed : List Token → (end : ℕ) → Result plain.Tree ParseError
parsed tokens end = if nat_lt nesting_most (nesting (kinds_of tokens)) then Err error.Nesting else program tokens end

abbrev pub Refuses : {Y : Type 0} → ParseError → Result Y ParseError → Type 0
Refuses error.Nesting answer = answer ≡ Err error.Nesting
Refuses (error.Fault at) answer = answer ≡ Err (error.Fault at)
Refuses error.Memory answer = Unit {0}

-- What was returned, seen by view, is this answer, unless memory ran out.
abbrev pub Answers : {X Y : Type 0} → (X → Y) → Result X ParseError → Result Y ParseError → Type 0
Answers view (Ok x) answer = answer ≡ Ok (view x)
Answers view (Err error) answer = Refuses error answer
