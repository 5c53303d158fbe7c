use Rattle.xan_io.proofs.ForwardSimulation.{agrees}
use Rattle.xan_io.proofs.agreement.simulation_agrees.Goals as goal

pub returns : goal.returns
returns c = agrees
