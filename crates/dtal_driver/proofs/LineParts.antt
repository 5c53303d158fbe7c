-- Pieces of a line, one behind the other.
use Rattle.std.proofs.Common.{append_assoc}

pub ruleset parts = (append_assoc)
