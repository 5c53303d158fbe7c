use Rattle.std.proofs.Common.{rules}
use Rattle.dtal_driver.proofs.Commands.{loads, not_loaded}
use Rattle.dtal_driver.proofs.load.load.Goals as goal

pub returns-in-Ok-clause-loaded : goal.returns-in-Ok-clause-loaded
returns-in-Ok-clause-loaded c =
    loads c.args.program.now c.args.limits c.args.args.now
    (c.accepted_programs_run_safely.ensures c.args.program.now c.args.args.now c.args.limits.heap c.args.limits.depth c.args.limits.units c.requires.accepted) _
    (c.in-Ok.ensures c.args.program.now c.main_signature-signature.ensures)

pub returns-in-Err-clause-not_loaded : goal.returns-in-Err-clause-not_loaded
returns-in-Err-clause-not_loaded c =
    let faulty = not_loaded c.args.program.now c.args.limits c.args.args.now c.in-Err.error (c.in-Err.ensures c.args.program.now c.main_signature-signature.ensures) in
    search (rules, faulty)
