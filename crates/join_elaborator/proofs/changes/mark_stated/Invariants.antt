-- What is left marks as all does.
use Rattle.std.proofs.Common.{◌≡◌, drop}
use Rattle.typed_core.specs.Joins.{is_named}
use Rattle.join_elaborator.specs.Changed.{marked}
use Rattle.join_elaborator.proofs.changes.mark_stated.Given as goal

abbrev pub invariant-loop-one : goal.invariant-loop-one
invariant-loop-one l = marked (λ y. is_named y (drop l.one-index l.stated)) 0 l.marks ≡ marked (λ y. is_named y l.stated) 0 l.fn.marks
