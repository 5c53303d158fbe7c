use Rattle.std.proofs.Common.{ap, ◌∙◌}
use Rattle.dtal_driver.specs.VerifiedTexts.{accepted_answer}
use Rattle.dtal_driver.specs.Words.{Verify}
use Rattle.dtal_driver.proofs.Commands.{verified-cause, denied-cause}
use Rattle.dtal_driver.proofs.top.verify_text.Goals as goal

pub returns-in-Ok-clause-caused : goal.returns-in-Ok-clause-caused
returns-in-Ok-clause-caused g c =
    verified-cause (g.F.Files.content c.args.files.now) c.args.text.now _ _ c.in-Ok.verified.program _ c.in-Ok.ensures.verified
    (c.accepted_answer.ensures ∙ ap accepted_answer c.program.ensures)

pub returns-in-Err-clause-caused : goal.returns-in-Err-clause-caused
returns-in-Err-clause-caused g c =
    denied-cause (g.F.Files.content c.args.files.now) (Verify c.args.text.now) _ _ c.in-Err.answer c.in-Err.ensures.denied
