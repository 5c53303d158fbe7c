use Rattle.test_logic.specs.ReaderSample.{line, IsLine}
use Rattle.xan_read.proofs.ReaderLaws.{reads_whole}
use Rattle.test_logic.proofs.SampleLine.{exact-line}
use Rattle.test_logic.proofs.reader_sample.exact_line.Goals as goal

pub returns-clause-exact : goal.returns-clause-exact
returns-clause-exact c = exact-line

pub returns-clause-whole : goal.returns-clause-whole
returns-clause-whole c = reads_whole line IsLine (λ _. Unit {0}) exact-line tt
