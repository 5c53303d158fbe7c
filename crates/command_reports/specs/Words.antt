-- What the words of a command line mean.
use Rattle.std.specs.Prelude.{ℕ, ◌&&◌, List, [], ◌∷◌, codes, Option, Some, None, option_map, if◌then◌else◌}
use Rattle.std.specs.Borrow.{Bor}
use Rattle.std.specs.Str.{bytes_eq}
use Rattle.xan_io.specs.declared.arg.Arg.{Arg}
use Rattle.xan_io.specs.Words.{texts, is_value}
use Rattle.source_values.specs.declared.cells.TheConstants.{MOST_WORDS}
use Rattle.run_options.specs.declared.limits.TheConstants.{HEAP, DEPTH, UNITS, MOST_UNITS}
use Rattle.run_options.specs.declared.options.Limits.{Limits}
use Rattle.run_options.specs.Options.{Rules, Sorted, sorted, none_yet, IsWithin}
use Rattle.run_options.specs.Requests.{Requested, requested}
use Rattle.command_reports.specs.declared.words.TheConstants.{MOST_DEPTH}
use Rattle.command_reports.specs.declared.words.Command.{Command}
use Rattle.command_reports.specs.declared.words.Command.TheVariants as command

-- to build the source of one name into the text of another, to list the goals of a source, or to run one within limits on arguments
pub data Meant : Type 0 where
  Build : (source target : List ℕ) → Meant
  Goals : (source : List ℕ) → Meant
  Eval : (source : List ℕ) → (limits : Limits) → (args : List Arg) → Meant

-- ---- the words of a run

-- what a run may have where nothing is said
abbrev pub usual : Limits
usual = record { heap = HEAP; depth = DEPTH; units = UNITS }

-- the most that may be said
abbrev pub most : Limits
most = record { heap = MOST_WORDS; depth = MOST_DEPTH; units = MOST_UNITS }

-- the options of a run, of which the third says how many units of fuel it may take
abbrev pub fuel_options : Rules
fuel_options = record { name = codes "--fuel"; usual = usual; most = most }

abbrev pub eval_of : Requested → Meant
eval_of asked = Eval asked.name asked.limits asked.args

abbrev pub asked_of : Option Sorted → Option Meant
asked_of None = None
asked_of (Some found) = option_map eval_of (requested usual found.given found.values)

-- ---- all commands

abbrev pub build_of : List (List ℕ) → Option Meant
build_of (source ∷ target ∷ []) = if is_value source && is_value target then Some (Build source target) else None
build_of _ = None

abbrev pub goals_of : List (List ℕ) → Option Meant
goals_of (source ∷ []) = if is_value source then Some (Goals source) else None
goals_of _ = None

-- The command that the words mean; the first word is its name. The others are values, and in front of a run and between them stand its options.
abbrev pub words_mean : List (List ℕ) → Option Meant
words_mean [] = None
words_mean (name ∷ words) =
    if bytes_eq name (codes "build") then build_of words
    else (if bytes_eq name (codes "goals") then goals_of words
    else (if bytes_eq name (codes "eval") then asked_of (sorted fuel_options words [] none_yet) else None))

-- the same of words of a command line
abbrev pub commanded : List (Bor (List ℕ)) → Option Meant
commanded words = words_mean (texts words)

abbrev pub view : Command → Meant
view (command.Build source target) = Build source.now target.now
view (command.Goals source) = Goals source.now
view (command.Eval request) = Eval request.name.now request.limits request.args.items

-- the command runs nothing beyond what a run may be given
abbrev pub IsWithinLimits : Command → Type 0
IsWithinLimits (command.Build source target) = Unit {0}
IsWithinLimits (command.Goals source) = Unit {0}
IsWithinLimits (command.Eval request) = IsWithin most request.limits
