use Rattle.state_types.proofs.MatchPairs.{words_carry}
use Rattle.state_types.proofs.laws.typed_words_carry_over.Goals as goal

pub returns : goal.returns
returns c = λ headers assignment given words wanted actual carry has. words_carry headers assignment given words wanted actual carry has
