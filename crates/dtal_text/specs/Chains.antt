-- Lists in which what an item may be hangs on those before it, up to a mark.
use Rattle.std.specs.Prelude.{ℕ, zero, suc, List, [], ◌∷◌, length, Option, Some, None, Ok, Err}
use Rattle.xan_read.specs.Reader.{Read, Reader, ◌>>=◌}
use Rattle.xan_read.specs.Combinators.{give, in_turn, behind}

-- the item in front of what is read
abbrev pub with_front : {B : Type 0} → B → Read (List B) → Read (List B)
with_front x read = read >>= λ xs. Ok (x ∷ xs.0, xs.1)

-- Where an item is read the list goes on behind it, in the next state, and the mark ends it.
abbrev pub goes_on : {S B : Type 0} → (S → B → S) → (S → Reader (List B)) → S → Option B → Reader (List B)
goes_on next more state None rest = Ok ([], rest)
goes_on next more state (Some x) rest = with_front x (more (next state x) rest)

-- Each item takes a byte at least, and the mark too, so that the number of bytes is room enough.
unfoldable pub chain_from : {S B : Type 0} → (S → Reader (Option B)) → (S → B → S) → (room : ℕ) → S → Reader (List B)
chain_from item next zero state bytes = Err (length bytes)
chain_from item next (suc room) state bytes = item state bytes >>= λ x. goes_on next (chain_from item next room) state x.0 x.1

abbrev pub chain : {S B : Type 0} → (S → Reader (Option B)) → (S → B → S) → S → Reader (List B)
chain item next state bytes = chain_from item next (suc (length bytes)) state bytes

-- what is made of the items that are read
abbrev pub into : {B R : Type 0} → (List B → R) → Read (List B) → Read R
into join read = read >>= λ xs. Ok (join xs.0, xs.1)

-- ---- two values with bytes between

abbrev pub two : {A B : Type 0} → Reader A → List ℕ → Reader B → Reader (A × B)
two p between q = in_turn p (λ a. behind between (in_turn q (λ b. give (a, b))))
