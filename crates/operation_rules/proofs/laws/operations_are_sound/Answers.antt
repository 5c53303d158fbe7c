use Rattle.operation_rules.proofs.OperationsFare.{operation_fares}
use Rattle.operation_rules.proofs.laws.operations_are_sound.Goals as goal

pub returns : goal.returns
returns g c = λ stores st op types ctx r ruled assignment words store laws setting own is does stands fits demands.
    operation_fares stores st op types ctx r ruled assignment words store laws setting own is does stands fits demands
