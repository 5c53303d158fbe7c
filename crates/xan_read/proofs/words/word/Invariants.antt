-- What is left of the table is still to be looked through.
use Rattle.std.proofs.Common.{◌≡◌, length, map}
use Rattle.xan_read.specs.Code.{entry_view}
use Rattle.xan_read.specs.Words.{word_from}
use Rattle.xan_read.proofs.words.word.Given as goal

abbrev pub invariant-table : goal.invariant-table
invariant-table g l = word_from l.left (map entry_view l.entries) l.fn.bytes ≡ word_from (length l.fn.bytes) (map entry_view l.fn.table) l.fn.bytes

abbrev pub decreases-table : goal.decreases-table
decreases-table g l = length l.entries
