-- Pieces of a line, one behind the other.
use Rattle.std.proofs.Common.{append_assoc}

pub ruleset pieces = (append_assoc)
