-- Options among the words of a command line: `--heap N`, `--depth N` and a third one, whose name is the command's own, each at most once, in
-- any order, and each also in one word, as `--heap=N`. Behind `--` there are only values.
use Rattle.std.specs.Prelude.{◌≤◌, ℕ, Bool, true, false, ◌==◌, List, [], ◌∷◌, ◌++◌, codes, Option, Some, None, Result, Ok, Err, option_map, if◌then◌else◌}
use Rattle.std.specs.Str.{bytes_eq}
use Rattle.xan_read.specs.Reader.{whole_text}
use Rattle.xan_read.specs.Numbers.{number}
use Rattle.xan_read.specs.Words.{Table, word}
use Rattle.xan_io.specs.Arguments.{read_of}
use Rattle.xan_io.specs.Words.{is_value}
use Rattle.run_options.specs.declared.options.Given.{Given}
use Rattle.run_options.specs.declared.options.Limit.{Limit}
use Rattle.run_options.specs.declared.options.Limit.TheVariants.{Heap, Depth, Units}
use Rattle.run_options.specs.declared.options.Limits.{Limits}
use Rattle.run_options.specs.declared.options.Met.{Met}
use Rattle.run_options.specs.declared.options.Met.TheVariants.{Value as value, Part}
use Rattle.run_options.specs.declared.options.Next.{Next}
use Rattle.run_options.specs.declared.options.Next.TheVariants.{Any, NumberOf, Value}
use Rattle.run_options.specs.declared.options.Options.{Options}
use Rattle.run_options.specs.declared.options.Reading.{Reading}

-- which options a command has: the name of the third one, what a run may have where nothing is said, and the most that may be said
pub record Rules : Type 0 where
  pub name : List ℕ
  pub usual : Limits
  pub most : Limits

abbrev pub rules_of : Options → Rules
rules_of options = record { name = options.name.now; usual = options.usual; most = options.most }

-- ---- numbers

-- a number in decimal, without a sign and without zeros in front, up to a greatest one
unfoldable pub number_of : (most : ℕ) → List ℕ → Option ℕ
number_of most text = read_of (whole_text (number 0 most) text)

-- an option that was not given before has the number that is spelled behind it
abbrev pub set_once : (before : Option ℕ) → (most : ℕ) → List ℕ → Option ℕ
set_once None most text = number_of most text
set_once (Some n) most text = None

abbrev pub with_number : Rules → Given → Limit → List ℕ → Option Given
with_number options given Heap text = option_map (λ n. record given { heap = Some n }) (set_once given.heap options.most.heap text)
with_number options given Depth text = option_map (λ n. record given { depth = Some n }) (set_once given.depth options.most.depth text)
with_number options given Units text = option_map (λ n. record given { units = Some n }) (set_once given.units options.most.units text)

-- ---- words

abbrev pub names : (third : List ℕ) → Table Limit
names third = (codes "--heap", Heap) ∷ (codes "--depth", Depth) ∷ (third, Units) ∷ []

-- the number of an option
abbrev pub met_number : Rules → Given → Limit → List ℕ → Option Met
met_number options given limit text = option_map (λ more. Part (record { given = more; next = Any })) (with_number options given limit text)

-- behind the name of an option there is nothing, and the next word is its number; or the number behind `=`
abbrev pub behind_name : Rules → Given → Limit → List ℕ → Option Met
behind_name options given limit [] = Some (Part (record { given = given; next = NumberOf limit }))
behind_name options given limit (b ∷ text) = if b == 61 then met_number options given limit text else None

abbrev pub met_option : Rules → Given → Result (Limit × List ℕ) ℕ → Option Met
met_option options given (Ok (limit, rest)) = behind_name options given limit rest
met_option options given (Err left) = None

-- What a word is, by what may come: a value, or a part of the options, or it may not stand there.
abbrev pub met : Rules → Next → Given → List ℕ → Option Met
met options Any given text =
    if is_value text then Some value
    else (if bytes_eq text (codes "--") then Some (Part (record { given = given; next = Value })) else met_option options given (word (names options.name) text))
met options (NumberOf limit) given text = met_number options given limit text
met options Value given text = Some value

-- ---- all words

-- the values in order, and the options
pub record Sorted : Type 0 where
  pub values : List (List ℕ)
  pub given : Given

abbrev pub none_yet : Reading
none_yet = record { given = record { heap = None; depth = None; units = None }; next = Any }

-- where words end, no option wants its number
abbrev pub finished : Next → List (List ℕ) → Given → Option Sorted
finished Any values given = Some (record { values = values; given = given })
finished (NumberOf limit) values given = None
finished Value values given = Some (record { values = values; given = given })

-- the words are read on, with a value more, or with these options
abbrev pub goes_on : Option Met → List ℕ → List (List ℕ) → Reading → (List (List ℕ) → Reading → Option Sorted) → Option Sorted
goes_on None text values reading more = None
goes_on (Some value) text values reading more = more (values ++ text ∷ []) reading
goes_on (Some (Part reading')) text values reading more = more values reading'

-- the words behind these values and options
unfoldable pub sorted : Rules → (words values : List (List ℕ)) → Reading → Option Sorted
sorted options [] values reading = finished reading.next values reading.given
sorted options (text ∷ words) values reading = goes_on (met options reading.next reading.given text) text values reading (sorted options words)

-- ---- what they give

abbrev pub or_usual : Option ℕ → (usual : ℕ) → ℕ
or_usual (Some n) usual = n
or_usual None usual = usual

-- what a run may have: so much as is said, or what is usual
abbrev pub limits_of : (usual : Limits) → Given → Limits
limits_of usual given = record { heap = or_usual given.heap usual.heap; depth = or_usual given.depth usual.depth; units = or_usual given.units usual.units }

abbrev pub is_none : Option ℕ → Bool
is_none None = true
is_none (Some n) = false

-- no option was given
abbrev pub none_given : Given → Bool
none_given given = if is_none given.heap then (if is_none given.depth then is_none given.units else false) else false

-- ---- what is allowed

-- no more than the most
abbrev pub IsAtMost : (most : ℕ) → Option ℕ → Type 0
IsAtMost most None = Unit {0}
IsAtMost most (Some n) = n ≤ most

pub record AreAllowed (most : Limits) (given : Given) : Type 0 where
  pub heap : IsAtMost most.heap given.heap
  pub depth : IsAtMost most.depth given.depth
  pub units : IsAtMost most.units given.units

abbrev pub IsAllowedBehind : (most : Limits) → Met → Type 0
IsAllowedBehind most value = Unit {0}
IsAllowedBehind most (Part reading) = AreAllowed most reading.given

-- no more store, activations and units than a run may be given
pub record IsWithin (most limits : Limits) : Type 0 where
  pub heap : limits.heap ≤ most.heap
  pub depth : limits.depth ≤ most.depth
  pub units : limits.units ≤ most.units
