-- Pieces of a text, one behind the other.
use Rattle.std.proofs.Common.{append_assoc}

pub ruleset appended = (append_assoc)
