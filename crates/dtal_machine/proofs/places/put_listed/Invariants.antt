use Rattle.std.proofs.Common.{◌≡◌, length}
use Rattle.dtal_code.specs.Guessed.{bytes_in}
use Rattle.dtal_code.specs.Running.{with_words}
use Rattle.dtal_code.specs.declared.limits.TheConstants.{PLACES}
use Rattle.dtal_machine.proofs.places.put_listed.Given as goal

abbrev pub invariant-each : goal.invariant-each
invariant-each l = record {
  written : with_words l.top (bytes_in (length l.words) l.rest) l.words ≡ with_words l.fn.top (bytes_in (length l.fn.words) l.list) l.fn.words;
  places : length l.top ≡ PLACES;
}

abbrev pub decreases-each : goal.decreases-each
decreases-each l = length l.words
