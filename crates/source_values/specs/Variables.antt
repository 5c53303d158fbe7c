-- The variables of a function: what they are read and set to.
use Rattle.std.specs.Prelude.{ℕ, Bool as Truth, true, false, List, [], ◌∷◌, length, slice_set, nat_lt, Option, Some, Ok}
use Rattle.xan_seq.specs.Answers.{◌>>=◌}
use Rattle.typed_core.specs.SourceValues.{Value}
use Rattle.typed_core.specs.SourceRuns.{Env}
use Rattle.source_values.specs.Values.{Ending, stuck}

-- a variable that has a value
abbrev pub read_of : Option (Option Value) → Ending Value
read_of (Some (Some v)) = Ok v
read_of _ = stuck

-- a variable of the function
abbrev pub set_if : (there : Truth) → Env → (variable : ℕ) → Value → Ending Env
set_if true env x v = Ok (slice_set env x (Some v))
set_if false env x v = stuck

abbrev pub set_variable : Env → (variable : ℕ) → Value → Ending Env
set_variable env x v = set_if (nat_lt x (length env)) env x v

unfoldable pub set_all : Env → (variables : List ℕ) → List Value → Ending Env
set_all env [] [] = Ok env
set_all env [] (v ∷ vs) = stuck
set_all env (x ∷ xs) [] = stuck
set_all env (x ∷ xs) (v ∷ vs) = set_variable env x v >>= λ more. set_all more xs vs
