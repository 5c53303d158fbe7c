use Rattle.dtal_verifier.proofs.AddedNames.{added_so}
use Rattle.dtal_verifier.proofs.function_names.FunctionNames.add.Goals as goal

pub returns : goal.returns
returns c = added_so c.args.name c.self.inside.names.keys c.args.self.now c.self.view_is _ c.in-Ok.ensures.added _ c.in-Ok.ensures.keys
