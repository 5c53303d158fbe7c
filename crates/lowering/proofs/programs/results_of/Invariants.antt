use Rattle.std.proofs.Common.{◌≡◌, map, take}
use Rattle.xanadu_tree.specs.KindRules.{kind_of}
use Rattle.lowering.proofs.programs.results_of.Given as goal

abbrev pub invariant-loop-fun : goal.invariant-loop-fun
invariant-loop-fun l = l.kinds.items ≡ map (λ f. kind_of f.result) (take l.fun-index l.funs)
