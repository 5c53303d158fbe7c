use Rattle.lowered_acceptance.proofs.LoweredTexts.{lowered_texts}
use Rattle.lowered_acceptance.proofs.laws.lowered_headers_have_texts.Goals as goal

pub returns : goal.returns
returns c = λ base shaped made. lowered_texts base shaped made
