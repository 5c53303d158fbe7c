use Rattle.std.proofs.Common.{◌≡◌, length, option_map}
use Rattle.dtal_code.specs.Declarations.{main_of}
use Rattle.dtal_verifier.proofs.signatures.main_of.Given as goal

abbrev pub invariant-loop-funs : goal.invariant-loop-funs
invariant-loop-funs l = option_map (λ main. main.1) (main_of l.funs) ≡ option_map (λ main. main.1) (main_of l.fn.funs)

abbrev pub decreases-loop-funs : goal.decreases-loop-funs
decreases-loop-funs l = length l.funs
