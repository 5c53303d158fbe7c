-- How the arguments of a run become values and blocks, one after another.
use Rattle.std.specs.Prelude.{◌+◌, List, [], ◌∷◌, ◌++◌, length, map, Ok}
use Rattle.xan_seq.specs.Answers.{◌>>=◌}
use Rattle.xan_io.specs.declared.arg.Arg.{Arg}
use Rattle.xan_io.specs.declared.arg.Arg.TheVariants as arg
use Rattle.typed_core.specs.SourceValues.{Value, Blocks, number}
use Rattle.typed_core.specs.SourceValues as tags
use Rattle.source_values.specs.Values.{Ending, truth_value, has_room, made_if}

-- an array is a block of numbers, where there is room for it
abbrev pub value_placed : Arg → Blocks → Ending (Value × Blocks)
value_placed (arg.Int n) store = Ok (number n, store)
value_placed (arg.Bool b) store = Ok (truth_value b, store)
value_placed (arg.Array cells) store =
    made_if (has_room (length cells + 2) store) tags.Array (record { descriptor = 0; cells = map number cells }) store

-- behind those before them
unfoldable pub values_placed : List Value → List Arg → Blocks → Ending (List Value × Blocks)
values_placed made [] store = Ok (made, store)
values_placed made (a ∷ args) store = value_placed a store >>= λ p. values_placed (made ++ p.0 ∷ []) args p.1
