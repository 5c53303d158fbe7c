use Rattle.xanadu_driver.proofs.WholeSources.{short_numberable}
use Rattle.xanadu_driver.proofs.translate.print_program.Goals as goal

pub build_program-requires : goal.build_program-requires
build_program-requires c = short_numberable c.args.proved.now c.requires
