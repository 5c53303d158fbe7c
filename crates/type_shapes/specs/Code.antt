-- What a function of the code says of a definition: that it gives the same, or that memory ran out.
use Rattle.std.specs.Prelude.{◌≡◌, Result, Ok, Err}
use Rattle.type_shapes.specs.declared.error.ShapeError.{ShapeError}
use Rattle.type_shapes.specs.declared.error.ShapeError.TheVariants as shape_error
use Rattle.type_shapes.specs.Faults.{Check}

abbrev pub Fails : {Y : Type 0} → ShapeError → Check Y → Type 0
Fails (shape_error.Fault at kind) wanted = wanted ≡ Err (record { at = at; kind = kind })
Fails shape_error.Memory wanted = Unit {0}

-- What was returned, as it is seen, is what the definition gives.
abbrev pub Gives : {X Y : Type 0} → (X → Y) → Result X ShapeError → Check Y → Type 0
Gives view (Ok x) wanted = wanted ≡ Ok (view x)
Gives view (Err error) wanted = Fails error wanted

-- The same, with the state behind it.
abbrev pub Steps : {X Y S : Type 0} → (X → Y) → Result X ShapeError → S → Check (Y × S) → Type 0
Steps view (Ok x) new wanted = wanted ≡ Ok (view x, new)
Steps view (Err error) new wanted = Fails error wanted
