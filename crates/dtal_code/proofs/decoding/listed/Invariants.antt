use Rattle.std.proofs.Common.{◌≡◌, ◌++◌, ◌+◌, length}
use Rattle.std.specs.List.{All}
use Rattle.dtal_code.specs.Guessed.{bytes_in}
use Rattle.dtal_code.specs.Places.{IsPlace}
use Rattle.dtal_code.proofs.decoding.listed.Given as goal

-- what is made, and then the bytes of the rest, are all
abbrev pub invariant-bytes : goal.invariant-bytes
invariant-bytes l = (l.made.items ++ bytes_in l.left l.rest ≡ bytes_in l.count l.word) × (length l.made.items + l.left ≡ l.count) × All IsPlace l.made.items

abbrev pub decreases-bytes : goal.decreases-bytes
decreases-bytes l = l.left
