use Rattle.std.proofs.Common.{◌∙◌, ap, subst}
use Rattle.typed_core.specs.Proving.{IsElaboration}
use Rattle.xanadu_tree.specs.PlainOf.{plain_core}
use Rattle.xanadu_tree.specs.Shaped.{Shaped}
use Rattle.lowering_simulation.proofs.AgreedRuns as runs
use Rattle.lowering_simulation.proofs.proved_code.proved_code_agrees.Goals as goal

pub returns-clause-agrees : goal.returns-clause-agrees
returns-clause-agrees c =
    let program = c.args.proved.now in
    let shape = subst (λ core. Shaped (plain_core core)) (c.core-core.ensures.core ∙ ap (λ base. base.core) c.base-base.ensures) c.funs-funs.ensures.rules in
    let is = subst (λ base. IsElaboration base.core base.made) c.base-base.ensures c.core-core.ensures.elaborated in
    runs.proved_code_agrees program.base is shape program.lines c.lines-lines.ensures.proved

pub returns-clause-follows : goal.returns-clause-follows
returns-clause-follows c =
    let program = c.args.proved.now in
    let shape = subst (λ core. Shaped (plain_core core)) (c.core-core.ensures.core ∙ ap (λ base. base.core) c.base-base.ensures) c.funs-funs.ensures.rules in
    let is = subst (λ base. IsElaboration base.core base.made) c.base-base.ensures c.core-core.ensures.elaborated in
    runs.proved_code_follows program.base is shape program.lines c.lines-lines.ensures.proved
