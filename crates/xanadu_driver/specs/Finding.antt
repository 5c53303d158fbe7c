-- What the code finds of a source: of its goals, and of its core.
use Rattle.std.specs.Prelude.{◌≡◌, ℕ, List, Option, Some, Result, Ok, Err}
use Rattle.command_reports.specs.declared.listing.Listing.{Listing}
use Rattle.command_reports.specs.declared.refusal.SourceError.{SourceError}
use Rattle.typed_core.specs.Goals.{Elaboration}
use Rattle.xanadu_tree.specs.Plain as plain
use Rattle.xanadu_driver.specs.Source.{HasGoals, IsProved, Stops, ComesEarly}

-- the goals of the source, or what it is refused for in front of them
abbrev pub Finds : List ℕ → Result Listing SourceError → Type 0
Finds source (Ok listing) = HasGoals source listing.base.made.goals
Finds source (Err stop) = Stops source stop × ComesEarly stop

-- the core is the source's, and all its goals are proved
pub record HasProof (bytes : List ℕ) (core : plain.Program) : Type 0 where
  pub made : Elaboration
  pub proved : IsProved bytes core made

-- the same where the source is told
abbrev pub ProvesTold : Option (List ℕ) → plain.Program → Type 0
ProvesTold content core = (told : List ℕ) → content ≡ Some told → HasProof told core
