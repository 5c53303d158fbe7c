-- What it means that a compiled program does what its source does.
--
-- A family of outcomes says how far a run has come with n units: of fuel for a source program, of steps for a machine. The two count
-- differently, so that families are compared by their ends and by what they print, and not unit by unit.
use Rattle.std.specs.Prelude.{◌≡◌, ℕ, ℤ, ◌≤◌, List, ◌++◌, Result, Ok, Err}
use Rattle.xan_io.specs.declared.arg.Arg.{Arg}
use Rattle.xan_io.specs.Outcome.{Running, Outcome, IsOver}
use Rattle.xan_io.specs.Entry.{EntryFault, IsRun}

-- the numbers that were printed first
abbrev pub Begins : List ℤ → List ℤ → Type 0
Begins front whole = (rest : List ℤ) × (whole ≡ front ++ rest)

-- The same ends after the same output, both ways, and the same output where both go on.
pub record Agrees (source machine : ℕ → Outcome) : Type 0 where
  -- where the source ends, the machine ends so
  pub ends : (n : ℕ) → IsOver (source n).how → (m : ℕ) × (machine m ≡ source n)
  -- where the machine has ended, the source ends so with as many units
  pub ends_only : (m : ℕ) → IsOver (machine m).how → source m ≡ machine m
  -- what the machine has printed, the source prints with as many units
  pub runs : (m : ℕ) → (machine m).how ≡ Running → Begins (machine m).printed (source m).printed
  -- what the source has printed, the machine prints at some time
  pub runs_only : (n : ℕ) → (source n).how ≡ Running → (m : ℕ) × Begins (source n).printed (machine m).printed

-- An end stays, and what was printed stays printed.
pub record IsSteady (machine : ℕ → Outcome) : Type 0 where
  pub stays : (m k : ℕ) → m ≤ k → IsOver (machine m).how → machine k ≡ machine m
  pub grows : (m k : ℕ) → m ≤ k → Begins (machine m).printed (machine k).printed

-- At some time the machine has this outcome; where the source still runs with n units, after at least n steps.
pub record Follows (machine : ℕ → Outcome) (n : ℕ) (outcome : Outcome) : Type 0 where
  pub steps : ℕ
  pub same : machine steps ≡ outcome
  pub as_long : outcome.how ≡ Running → n ≤ steps

-- Two runs begin alike: with the same fault of the arguments, and else they agree.
abbrev pub BeginAlike : Result (ℕ → Outcome) EntryFault → Result (ℕ → Outcome) EntryFault → Type 0
BeginAlike (Err fault) (Err fault') = fault ≡ fault'
BeginAlike (Ok source) (Ok machine) = Agrees source machine
BeginAlike (Err _) (Ok _) = ⊥
BeginAlike (Ok _) (Err _) = ⊥

-- Two programs agree: their runs begin alike on all arguments, for each size of the store and each depth.
abbrev pub Agree : (source machine : List Arg → (heap depth : ℕ) → Result (ℕ → Outcome) EntryFault) → Type 0
Agree source machine = (args : List Arg) (heap depth : ℕ) → IsRun args heap depth → BeginAlike (source args heap depth) (machine args heap depth)
