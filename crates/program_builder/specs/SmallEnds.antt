-- What it is for a run of a small program to end.
use Rattle.std.specs.Prelude.{ℕ, zero, suc, Result, Ok, Err}
use Rattle.xan_io.specs.Entry.{EntryFault}
use Rattle.xan_io.specs.Outcome.{How, Returned, NoStore, Overflow, Outcome}

-- a run over so many activations has ended: with a number or an overflow, and without store where there may be no activation
abbrev pub HasEnded : (depth : ℕ) → How → Type 0
HasEnded zero NoStore = Unit {0}
HasEnded (suc _) (Returned _) = Unit {0}
HasEnded (suc _) Overflow = Unit {0}
HasEnded _ _ = ⊥

-- the same of a run that may begin, with so many units or steps; arguments with a fault have none
abbrev pub RunEnds : (depth : ℕ) → Result (ℕ → Outcome) EntryFault → ℕ → Type 0
RunEnds depth (Ok run) units = HasEnded depth (run units).how
RunEnds depth (Err fault) units = Unit {0}
