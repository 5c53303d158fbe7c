use Rattle.std.proofs.Common.{◌≡◌, ◌++◌, All, length}
use Rattle.lowering.specs.Emitted.{HasFew, functions_in}
use Rattle.lowering.proofs.programs.functions.Given as goal

abbrev pub invariant-functions : goal.invariant-functions
invariant-functions l = record {
  made : l.made.items ++ functions_in l.types l.results l.funs_left l.sigs_left ≡ functions_in l.types l.results l.funs l.sigs;
  few : All HasFew l.made.items;
}

abbrev pub decreases-functions : goal.decreases-functions
decreases-functions l = length l.funs_left
