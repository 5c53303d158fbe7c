use Rattle.std.proofs.Common.{◌≡◌, ◌+◌, ◌-◌, map, drop, length}
use Rattle.lowering.specs.TestCode.{parts_size}
use Rattle.xanadu_tree.specs.PlainOf.{plain_test, to_tests}
use Rattle.lowering.proofs.sizes.+tests.Given as goal

abbrev pub invariant-parts_size-loop-part : goal.invariant-parts_size-loop-part
invariant-parts_size-loop-part l = record {
  count : l.many ≡ length l.parts - l.part-index;
  size : l.size + parts_size l.inner l.last (to_tests (map plain_test (drop l.part-index l.parts))) ≡ parts_size l.inner l.last (to_tests (map plain_test l.parts));
}
