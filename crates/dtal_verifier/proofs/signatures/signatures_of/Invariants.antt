use Rattle.std.proofs.Common.{◌≡◌, ◌++◌, drop, map}
use Rattle.dtal_verifier.proofs.signatures.signatures_of.Given as goal

abbrev pub invariant-loop-fun : goal.invariant-loop-fun
invariant-loop-fun l = l.made.items ++ map (λ fun. fun.sig) (drop l.fun-index l.funs) ≡ map (λ fun. fun.sig) l.funs
