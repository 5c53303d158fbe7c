-- The sample's productions are exact.
use Rattle.std.proofs.Common.{◌≡◌, ◌++◌, refl, arith}
use Rattle.std.specs.Prelude.{codes, decimal}
use Rattle.xan_read.specs.Reader.{Exact}
use Rattle.xan_read.specs.Numbers.{NoDigit, number}
use Rattle.xan_read.specs.Spelled.{Any, Spelled, IsBetween}
use Rattle.test_logic.specs.ReaderSample.{transfer, IsTransfer}
use Rattle.xan_read.proofs.SpelledLaws.{spelled_number, spelled_behind, spelled_field, spelled_last}

register : Exact (number 0 15) (Spelled Any (IsBetween 0 15) decimal) NoDigit
register = spelled_number 0 15 (omega arith) (omega arith)

pub exact-transfer : Exact transfer IsTransfer NoDigit
unfolding transfer
exact-transfer =
    spelled_behind (codes "mv r") _ _ _ _ NoDigit (spelled_field (λ m. m.0) _ _ Any (IsBetween 0 15) (λ m. IsBetween 0 15 m.1) decimal (λ m. codes " r" ++ decimal m.1) NoDigit NoDigit register
    (λ a _. spelled_behind (codes " r") _ _ _ _ NoDigit
    (spelled_last (λ m. m.1) (λ b. (a, b)) _ (λ m. Unit {0} × (m.0 ≡ a)) (IsBetween 0 15) decimal NoDigit register (λ _. (tt, refl)) (λ _. refl) (λ m known. rw (← known.1) refl)))
    (λ _ _ _ _. refl))
