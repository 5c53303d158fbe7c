use Rattle.std.proofs.Common.{◌∙◌, ap, Some, Err}
use Rattle.dtal_driver.specs.declared.words.Command.{Command}
use Rattle.dtal_driver.specs.Words.{Verify, view}
use Rattle.dtal_driver.proofs.Commands.{went-said, went-no_command}
use Rattle.dtal_driver.proofs.top.execute.Goals as goal

pub returns-in-Err-NoCommand-clause-went : goal.returns-in-Err-NoCommand-clause-went
returns-in-Err-NoCommand-clause-went g c =
    went-no_command _ _ _ _ _ _ _ _ _ (c.in-Err-NoCommand.ensures.none (ap Err c.in-Err-NoCommand.field-0-is)) c.say-in-Err-NoCommand.ensures.said

pub returns-in-Ok-Verify-clause-went : goal.returns-in-Ok-Verify-clause-went
returns-in-Ok-Verify-clause-went g c =
    went-said _ (Verify c.in-Ok-Verify.text.now) (c.in-Ok-Verify.ensures.read ∙ ap (λ (x : Command). Some (view x)) c.in-Ok-Verify.field-0-is) _ _ _ _ _ _ _ _
    c.verify_text.result c.verify_text.ensures.caused c.say.ensures.said
