-- What a function of the code says of a reading function: that it gives the same.
use Rattle.std.specs.Prelude.{◌≡◌, ℕ, List, Result, Ok, Err}
use Rattle.std.specs.Borrow.{Bor}
use Rattle.xan_read.specs.declared.fault.Fault.{Fault}
use Rattle.xan_read.specs.declared.fault.ReadError.{ReadError}
use Rattle.xan_read.specs.declared.fault.ReadError.TheVariants as errors

-- What was returned, seen by view, is what reading gives. At a fault as many bytes are left.
abbrev pub Gives : {X Y : Type 0} → (X → Y) → Result X Fault → Result Y ℕ → Type 0
Gives view (Ok x) read = read ≡ Ok (view x)
Gives view (Err fault) read = read ≡ Err fault.left

-- The same for a function that takes memory: where that runs out, nothing is said.
abbrev pub Fails : {Y : Type 0} → ReadError → Result Y ℕ → Type 0
Fails errors.Memory read = Unit {0}
Fails (errors.Fault fault) read = read ≡ Err fault.left

abbrev pub Reads : {X Y : Type 0} → (X → Y) → Result X ReadError → Result Y ℕ → Type 0
Reads view (Ok x) read = read ≡ Ok (view x)
Reads view (Err e) read = Fails e read

-- an entry of a table of words, as the definitions see it
abbrev pub entry_view : {A : Type 0} → Bor (List ℕ) × A → List ℕ × A
entry_view (text, value) = (text.now, value)
