use Rattle.xanadu_driver.proofs.WholeSources.{whole_text}
use Rattle.xanadu_driver.proofs.translate.compile.Goals as goal

pub returns-clause-text : goal.returns-clause-text
returns-clause-text c =
    whole_text c.args.source.now c.in_ok-base.base c.in_ok-proved.proved c.print_program.result c.in_ok-base.ensures.goals c.in_ok-proved.ensures.proved
    c.print_program.ensures.text
