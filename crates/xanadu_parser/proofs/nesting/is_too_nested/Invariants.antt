use Rattle.std.proofs.Common.{◌≡◌, ◌≤◌, reverse, length}
use Rattle.std.specs.Prelude.{nat_lt}
use Rattle.xanadu_tree.specs.Nesting.{greatest, open_from, nesting}
use Rattle.xanadu_parser.specs.Kinds.{kinds_of}
use Rattle.xanadu_parser.proofs.nesting.is_too_nested.Given as goal

abbrev pub invariant-loop-rest : goal.invariant-loop-rest
invariant-loop-rest l =
    (nat_lt 64 (greatest (open_from l.behind (reverse l.open.groups.items) (kinds_of l.rest))) ≡ nat_lt 64 (nesting (kinds_of l.fn.tokens))) × (l.open.count ≤ 64)

abbrev pub decreases-loop-rest : goal.decreases-loop-rest
decreases-loop-rest l = length l.rest
