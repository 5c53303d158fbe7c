-- What is asked of the result of a run, so that its word is the same in the source and in its code.
use Rattle.std.specs.Prelude.{◌≡◌, Ok}
use Rattle.typed_core.specs.SourceRuns.{Run, Answer}
use Rattle.typed_core.specs.SourceValues.{Number, Value}

-- A value that is given is a number. A block is named by its number in the source and by its address in the code.
abbrev pub GivesNumber : {L : Type 0} → Answer L Value → Type 0
GivesNumber {L} answer = (v : Value) (st : Run L) → answer ≡ Ok (v, st) → v.tag ≡ Number
