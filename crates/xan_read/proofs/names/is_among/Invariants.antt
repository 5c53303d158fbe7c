use Rattle.std.proofs.Common.{◌≡◌, length, map}
use Rattle.xan_read.specs.Names.{is_among}
use Rattle.xan_read.proofs.names.is_among.Given as goal

abbrev pub invariant-words : goal.invariant-words
invariant-words l = is_among (map (λ w. w.now) l.others) l.fn.text ≡ is_among (map (λ w. w.now) l.fn.words) l.fn.text

abbrev pub decreases-words : goal.decreases-words
decreases-words l = length l.others
