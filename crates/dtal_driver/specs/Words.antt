-- What the words of a command line mean.
use Rattle.std.specs.Prelude.{ℕ, List, [], ◌∷◌, codes, Option, Some, None, option_map, if◌then◌else◌}
use Rattle.std.specs.Str.{bytes_eq}
use Rattle.xan_io.specs.declared.arg.Arg.{Arg}
use Rattle.dtal_machine.specs.declared.limits.TheConstants.{MOST_HEAP, MOST_DEPTH}
use Rattle.run_options.specs.declared.limits.TheConstants.{HEAP, DEPTH, UNITS, MOST_UNITS}
use Rattle.run_options.specs.declared.options.Given.{Given}
use Rattle.run_options.specs.declared.options.Limits.{Limits}
use Rattle.run_options.specs.Options as options
use Rattle.run_options.specs.Options.{Rules, Sorted, sorted, none_yet, none_given}
use Rattle.run_options.specs.Requests.{Requested, requested}
use Rattle.dtal_driver.specs.declared.words.Command.{Command}
use Rattle.dtal_driver.specs.declared.words.Command.TheVariants as command

-- to verify the text of a name, or to run it within limits on these arguments
pub data Meant : Type 0 where
  Verify : (text : List ℕ) → Meant
  Run : (text : List ℕ) → (limits : Limits) → (args : List Arg) → Meant

-- the name that a command reads
abbrev pub text_of : Meant → List ℕ
text_of (Verify text) = text
text_of (Run text limits args) = text

-- what a run may have where nothing is said
abbrev pub usual : Limits
usual = record { heap = HEAP; depth = DEPTH; units = UNITS }

-- the most that may be said
abbrev pub most : Limits
most = record { heap = MOST_HEAP; depth = MOST_DEPTH; units = MOST_UNITS }

-- the options of a run, of which the third says how many steps it may make
abbrev pub step_options : Rules
step_options = record { name = codes "--steps"; usual = usual; most = most }

-- a run is given no more than it may be
abbrev pub IsWithin : Limits → Type 0
IsWithin = options.IsWithin most

-- a text to verify has no option and no value behind it
abbrev pub verifies : Given → List (List ℕ) → Option Meant
verifies given (text ∷ []) = if none_given given then Some (Verify text) else None
verifies given _ = None

abbrev pub run_of : Requested → Meant
run_of asked = Run asked.name asked.limits asked.args

abbrev pub runs : Given → List (List ℕ) → Option Meant
runs given values = option_map run_of (requested usual given values)

abbrev pub commanded : (name : List ℕ) → Option Sorted → Option Meant
commanded name None = None
commanded name (Some found) =
    if bytes_eq name (codes "verify") then verifies found.given found.values
    else (if bytes_eq name (codes "run") then runs found.given found.values else None)

-- The command that the words mean. The first word is its name; of the others the first value is the name of the text, and the further
-- values are arguments.
abbrev pub words_mean : List (List ℕ) → Option Meant
words_mean [] = None
words_mean (name ∷ words) = commanded name (sorted step_options words [] none_yet)

abbrev pub view : Command → Meant
view (command.Verify text) = Verify text.now
view (command.Run request) = Run request.name.now request.limits request.args.items

-- the command runs nothing beyond what a run may be given
abbrev pub IsWithinLimits : Command → Type 0
IsWithinLimits (command.Verify text) = Unit {0}
IsWithinLimits (command.Run request) = IsWithin request.limits
