-- Calls that fail because their number is in a list, as tests want them, and what such a call leaves.
use Rattle.std.specs.Prelude.{ℕ, ◌/◌, Bool, ◌||◌, is_none, nat_eq, List, length, take, Result, Ok, Err}
use Rattle.std.specs.List.{list_any}
use Rattle.xan_io.specs.Faults.{raised}
use Rattle.xan_io.specs.InMemory.{stored}
use Rattle.xan_io.specs.declared.files.FileFault.{FileFault}
use Rattle.xan_io.specs.declared.files.FileFault.TheVariants.{Failed, Memory}
use Rattle.xan_io.specs.declared.mem_files.MemFiles.{MemFiles}

-- the call of this number is in the list of those that fail
abbrev pub is_listed : List ℕ → ℕ → Bool
is_listed fails call = list_any (λ number. nat_eq number call) fails

-- the first half of the bytes, rounded down
abbrev pub first_half : List ℕ → List ℕ
first_half bytes = take (length bytes / 2) bytes

-- the next call of these files, as a read of this name, fails: it is listed, or there is no such file
abbrev pub read_fails : MemFiles → List ℕ → Bool
read_fails files name = is_listed files.fails.items files.calls || is_none (stored files.store name)

-- the count of faults after a call with this answer
abbrev pub faults_after : {A : Type 0} → Result A FileFault → ℕ → ℕ
faults_after (Ok _) count = count
faults_after (Err Failed) count = raised count
faults_after (Err Memory) count = count
