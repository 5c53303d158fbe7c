-- What the values among words ask a run for: a name, and arguments.
use Rattle.std.specs.Prelude.{ℕ, List, [], ◌∷◌, Option, Some, None, option_map}
use Rattle.xan_io.specs.declared.arg.Arg.{Arg}
use Rattle.xan_io.specs.Arguments.{arg_of}
use Rattle.xan_io.specs.Words.{texts}
use Rattle.run_options.specs.declared.options.Given.{Given}
use Rattle.run_options.specs.declared.options.Limits.{Limits}
use Rattle.run_options.specs.declared.request.Request as made
use Rattle.run_options.specs.declared.words.Sorted as found
use Rattle.run_options.specs.Options.{Sorted, limits_of}

-- to run what the name holds within limits on these arguments
pub record Requested : Type 0 where
  pub name : List ℕ
  pub limits : Limits
  pub args : List Arg

-- the arguments that words spell, all of which have to spell one
abbrev pub with_arg : Option Arg → Option (List Arg) → Option (List Arg)
with_arg None args = None
with_arg (Some arg) args = option_map (λ others. arg ∷ others) args

unfoldable pub args_of : List (List ℕ) → Option (List Arg)
args_of [] = Some []
args_of (word ∷ words) = with_arg (arg_of word) (args_of words)

-- the first value is the name, and the others are arguments
abbrev pub requested : (usual : Limits) → Given → List (List ℕ) → Option Requested
requested usual given [] = None
requested usual given (name ∷ words) = option_map (λ args. record { name = name; limits = limits_of usual given; args = args }) (args_of words)

-- ---- as the code has them

abbrev pub view : made.Request → Requested
view request = record { name = request.name.now; limits = request.limits; args = request.args.items }

abbrev pub sorted_view : found.Sorted → Sorted
sorted_view sorted = record { values = texts sorted.values.items; given = sorted.given }
