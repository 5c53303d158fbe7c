use Rattle.std.proofs.Common.{◌≡◌, ◌≤◌, ◌-◌, length, []}
use Rattle.dtal_code.specs.Refusing.{signatures_walked}
use Rattle.dtal_verifier.proofs.SignaturesTurns.{signed_from, names_before}
use Rattle.dtal_verifier.specs.Views.{table_with}
use Rattle.dtal_verifier.proofs.signatures.check_signatures.Given as goal

abbrev pub invariant-loop-number : goal.invariant-loop-number
invariant-loop-number l =
    (signed_from (table_with l.types) l.number l.funs ≡ signatures_walked (table_with l.types) 0 [] l.funs) × (l.number ≤ length l.funs) × (l.names ≡ names_before l.number l.funs)

abbrev pub decreases-loop-number : goal.decreases-loop-number
decreases-loop-number l = length l.funs - l.number
