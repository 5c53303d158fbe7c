use Rattle.std.proofs.Common.{refl}
use Rattle.dtal_driver.specs.Words.{Run}
use Rattle.dtal_driver.proofs.Commands.{went-said, went-run}
use Rattle.dtal_driver.proofs.top.run_text.Goals as goal

pub returns-in-Ok-clause-went : goal.returns-in-Ok-clause-went
returns-in-Ok-clause-went g c =
    went-run _ c.args.text.now c.args.limits c.args.args.now (g.F.Files.content c.args.files.now) _ _ c.in-Ok.machine _ _ _ _ _ refl c.in-Ok.ensures.loaded
    c.run_and_say.ensures.said

pub returns-in-Err-clause-went : goal.returns-in-Err-clause-went
returns-in-Err-clause-went g c =
    went-said _ (Run c.args.text.now c.args.limits c.args.args.now) refl _ _ _ _ _ _ _ _ c.in-Err.answer c.in-Err.ensures.caused c.say.ensures.said
