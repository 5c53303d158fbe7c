-- What was built, and what the lines make that are still to be read, are all the blocks; so far no more lines came than turns.
use Rattle.std.proofs.Common.{◌+◌, ◌-◌, length}
use Rattle.dtal_text.specs.Building.{built}
use Rattle.dtal_text.specs.Chains.{chain_from}
use Rattle.dtal_text.specs.LineReading.{line, lines, behind_line}
use Rattle.dtal_text.proofs.BuiltBlocks.{SoFar}
use Rattle.dtal_text.proofs.body.read_lines.Given as goal

abbrev pub invariant-lines : goal.invariant-lines
invariant-lines l = SoFar (built l.building (chain_from line behind_line (1 + (length l.fn.bytes - l.counter)) l.state l.rest)) (built l.initial.building (lines l.fn.bytes)) l.state l.counter
