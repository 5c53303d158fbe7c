use Rattle.std.proofs.Common.{◌≡◌, ◌+◌, ◌++◌, length}
use Rattle.dtal_code.specs.Guessed.{bytes_in}
use Rattle.dtal_machine.specs.Acting.{read_words}
use Rattle.dtal_machine.proofs.places.read_listed.Given as goal

abbrev pub invariant-each : goal.invariant-each
invariant-each l = record {
  words : l.words.items ++ read_words l.top (bytes_in l.left l.rest) ≡ read_words l.top (bytes_in l.count l.list);
  count : length l.words.items + l.left ≡ l.count;
}

abbrev pub decreases-each : goal.decreases-each
decreases-each l = l.left
