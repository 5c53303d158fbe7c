use Rattle.std.proofs.Common.{length}
use Rattle.dtal_code.proofs.coding.+word_of_places.Given as goal

abbrev pub decreases-word_of_places : goal.decreases-word_of_places
decreases-word_of_places l = length l.places.now
