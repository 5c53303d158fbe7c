-- What a function says of its definition: the same answer, or the same end. Of running out of memory nothing is said.
use Rattle.std.specs.Prelude.{◌≡◌, Result, Ok, Err}
use Rattle.xan_io.specs.Outcome.{How, NoStore, Overflow, Stuck, Running}
use Rattle.source_values.specs.declared.halt.Halt.{Halt}
use Rattle.source_values.specs.declared.halt.Halt.TheVariants as halt

abbrev pub Fails : {Y : Type 0} → Halt → Result Y How → Type 0
Fails halt.NoStore wanted = wanted ≡ Err NoStore
Fails halt.Overflow wanted = wanted ≡ Err Overflow
Fails halt.Stuck wanted = wanted ≡ Err Stuck
Fails halt.FuelEnded wanted = wanted ≡ Err Running
Fails halt.Memory wanted = Unit {0}

abbrev pub Gives : {X Y : Type 0} → (X → Y) → Result X Halt → Result Y How → Type 0
Gives view (Ok x) wanted = wanted ≡ Ok (view x)
Gives view (Err halt) wanted = Fails halt wanted
