use Rattle.xan_read.specs.Numbers.{NoDigit}
use Rattle.test_logic.specs.ReaderSample.{transfer, IsTransfer}
use Rattle.xan_read.proofs.ReaderLaws.{reads_whole}
use Rattle.test_logic.proofs.SampleTransfer.{exact-transfer}
use Rattle.test_logic.proofs.reader_sample.exact_transfer.Goals as goal

pub returns-clause-exact : goal.returns-clause-exact
returns-clause-exact c = exact-transfer

pub returns-clause-whole : goal.returns-clause-whole
returns-clause-whole c = reads_whole transfer IsTransfer NoDigit exact-transfer tt
