use Rattle.std.proofs.Common.{ap, ◌∙◌}
use Rattle.proof_lines.specs.Check.{checked}
use Rattle.proof_lines.proofs.Exact.{Decides-answer}
use Rattle.proof_lines.proofs.checker.check_lines.Goals as goal

pub returns-clause-proved : goal.returns-clause-proved
returns-clause-proved c =
    Decides-answer c.args.ctx.now.rows c.args.goal.now c.args.lines.now c.walk-answer.result
    (c.walk-answer.ensures.answer ∙ ap (λ hyps. checked hyps c.args.goal.now c.args.lines.now) c.rows.ensures.rows)
