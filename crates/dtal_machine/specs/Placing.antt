-- How the arguments of a run become words and blocks, one after another.
use Rattle.std.specs.Prelude.{◌≡◌, ℕ, ◌+◌, ℤ, pos, List, ◌++◌, length, Option, None, Some, Result, Ok, Err, if◌then◌else◌}
use Rattle.xan_io.specs.declared.arg.Arg.{Arg}
use Rattle.xan_io.specs.declared.arg.Arg.TheVariants as arg
use Rattle.operation_rules.specs.Effects.{truth_word}
use Rattle.operation_rules.specs.FlatWords.{Flat, flat_words}
use Rattle.dtal_code.specs.Machine.{State}
use Rattle.dtal_machine.specs.declared.loading.LoadError.{LoadError}
use Rattle.dtal_machine.specs.declared.loading.LoadError.TheVariants.{ArgCount, ArgKind, ArgIndex, EntryRow, NoStore, Memory}
use Rattle.dtal_machine.specs.declared.run.Run.{Run}
use Rattle.dtal_machine.specs.Stacks.{HasShape, state_of}

abbrev pub named_block : ℕ × Flat → ℤ × Flat
named_block made = (pos made.0, made.1)

-- a block of a descriptor and these cells by its address, where there is room for it
abbrev pub block_placed : (descriptor : ℕ) → List ℤ → Flat → Option (ℤ × Flat)
block_placed descriptor cells store = if flat_words.room store (length cells + 2) then Some (named_block (flat_words.made store descriptor cells)) else None

-- the word of an argument, and the store with its cells
abbrev pub arg_placed : Arg → Flat → Option (ℤ × Flat)
arg_placed (arg.Int n) store = Some (n, store)
arg_placed (arg.Bool b) store = Some (truth_word b, store)
arg_placed (arg.Array cells) store = block_placed 0 cells store

-- the words of arguments behind those before them
abbrev pub placed_behind : List ℤ → Option (List ℤ × Flat) → Option (List ℤ × Flat)
placed_behind made None = None
placed_behind made (Some placed) = Some (made ++ placed.0, placed.1)

-- a run that begins stands at the first state; where there is none there is no room, or memory ran out
abbrev pub BeginsAt : Option State → Result Run LoadError → Type 0
BeginsAt wanted (Ok run) = (wanted ≡ Some (state_of run)) × HasShape run
BeginsAt wanted (Err NoStore) = wanted ≡ None
BeginsAt wanted (Err Memory) = Unit {0}
BeginsAt wanted (Err ArgCount) = ⊥
BeginsAt wanted (Err (ArgKind argument)) = ⊥
BeginsAt wanted (Err (ArgIndex argument)) = ⊥
BeginsAt wanted (Err (EntryRow row)) = ⊥
