use Rattle.dtal_verifier.proofs.DeclaredNames.{has_few, is_setting}
use Rattle.dtal_verifier.proofs.functions.check_function.Goals as goal

pub check_body-requires-clause-site : goal.check_body-requires-clause-site
check_body-requires-clause-site c = record {
  few = has_few c.args.program.now c.args.fun.now c.args.table.now c.args.sigs.now c.requires.table c.requires.sigs c.requires.declared c.requires.own;
  set = is_setting c.args.program.now c.args.fun.now c.args.table.now c.args.sigs.now c.requires.table c.requires.sigs c.requires.declared c.requires.own;
}
