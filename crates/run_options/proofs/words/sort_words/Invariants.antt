use Rattle.std.proofs.Common.{length}
use Rattle.run_options.specs.Options.{rules_of}
use Rattle.run_options.proofs.SortedWords.{StillSorts}
use Rattle.run_options.proofs.words.sort_words.Given as goal

abbrev pub invariant-words : goal.invariant-words
invariant-words l = StillSorts (rules_of l.options) l.words l.left l.values.items l.reading

abbrev pub decreases-words : goal.decreases-words
decreases-words l = length l.left
