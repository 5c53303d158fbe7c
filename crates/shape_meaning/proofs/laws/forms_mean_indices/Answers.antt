use Rattle.shape_meaning.proofs.WrittenValues.{form_is}
use Rattle.shape_meaning.proofs.laws.forms_mean_indices.Goals as goal

pub returns : goal.returns
returns c = λ scope written frame read values. form_is scope values written frame read
