use Rattle.std.proofs.Common.{◌≡◌, ◌++◌, drop}
use Rattle.dtal_code.specs.Spelling.{each_behind}
use Rattle.dtal_code.proofs.lists.put_each_behind.Given as goal

abbrev pub invariant-items : goal.invariant-items
invariant-items g l = l.out.items ++ each_behind l.mark g.T.Piece.text (drop l.item-index l.items) ≡ l.initial.out.items ++ each_behind l.mark g.T.Piece.text l.items
