-- What a function that puts an item into a list says.
use Rattle.std.specs.Prelude.{◌≡◌, List, [], ◌∷◌, ◌++◌, Result, Ok, Err}
use Rattle.expression_parser.specs.declared.stop.Stop.{Stop}
use Rattle.expression_parser.specs.declared.stop.Stop.TheVariants as stop

-- What was read, made an item of the list, stands behind the others, unless memory ran out. Why nothing was read is said again.
abbrev pub Adds : {X Y U : Type 0} → (X → Y) → Result X Stop → (old new : List Y) → Result U Stop → Type 0
Adds make (Ok x) old new (Ok done) = new ≡ old ++ make x ∷ []
Adds make (Ok x) old new (Err error) = error ≡ stop.Memory
Adds make (Err error) old new (Ok done) = ⊥
Adds make (Err error) old new (Err other) = other ≡ error
