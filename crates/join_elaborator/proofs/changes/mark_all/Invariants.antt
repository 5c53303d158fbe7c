use Rattle.std.proofs.Common.{◌≡◌, ◌==◌, length}
use Rattle.std.specs.List.{list_any}
use Rattle.join_elaborator.specs.Changed.{marked}
use Rattle.join_elaborator.proofs.changes.mark_all.Given as goal

abbrev pub invariant-loop-xs : goal.invariant-loop-xs
invariant-loop-xs l = marked (λ y. list_any (λ x. x == y) l.xs) 0 l.marks ≡ marked (λ y. list_any (λ x. x == y) l.fn.xs) 0 l.fn.marks

abbrev pub decreases-loop-xs : goal.decreases-loop-xs
decreases-loop-xs l = length l.xs
