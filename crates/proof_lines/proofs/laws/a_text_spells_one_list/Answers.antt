use Rattle.proof_lines.proofs.LineTexts.{whole-lines}
use Rattle.proof_lines.proofs.laws.a_text_spells_one_list.Goals as goal

pub returns : goal.returns
returns c = λ bytes some other s o. whole-lines.one_value bytes some other s o
