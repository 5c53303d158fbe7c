-- What a function of the code says of a reading function: that it gives the same.
use Rattle.std.specs.Prelude.{◌≡◌, ℕ, List, Option, Some, None, Result, Ok, Err}
use Rattle.xanadu_lexer.specs.declared.token.Token.{Token}
use Rattle.xan_io.specs.declared.memory.Memory.{Memory}
use Rattle.expression_parser.specs.declared.stop.Stop.{Stop}
use Rattle.expression_parser.specs.declared.stop.Stop.TheVariants as stop
use Rattle.expression_parser.specs.Reader.{Read}

-- At a fault as many tokens are left; where memory runs out, nothing is said.
abbrev pub Fails : {Y : Type 0} → Stop → Result Y ℕ → Type 0
Fails stop.Memory read = Unit {0}
Fails (stop.Fault left) read = read ≡ Err left

-- What was returned, seen by view, and the tokens that are left are what reading gives.
abbrev pub Reads : {X Y : Type 0} → (X → Y) → Result X Stop → List Token → Read Y → Type 0
Reads view (Ok x) rest read = read ≡ Ok (view x, rest)
Reads view (Err error) rest read = Fails error read

-- The same of one token, which may not come. Then none is taken.
abbrev pub Eats : {X Y : Type 0} → (X → Y) → Option X → (old new : List Token) → Option (Y × List Token) → Type 0
Eats view (Some x) old new eaten = eaten ≡ Some (view x, new)
Eats view None old new eaten = (eaten ≡ None) × (new ≡ old)

-- The same of a name, whose copy takes memory.
abbrev pub EatsNamed : {X : Type 0} → Result (Option X) Memory → (old new : List Token) → Option (X × List Token) → Type 0
EatsNamed (Ok found) old new eaten = Eats (λ x. x) found old new eaten
EatsNamed (Err error) old new eaten = Unit {0}
