use Rattle.state_types.proofs.Unpacked.{unpacks}
use Rattle.state_types.proofs.laws.unpacking_is_sound.Goals as goal

pub returns : goal.returns
returns c = λ ctx more packed parts assignment own e named count holds own_count own_holds. unpacks ctx more packed parts assignment own e named count holds own_count own_holds
