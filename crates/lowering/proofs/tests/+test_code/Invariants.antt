use Rattle.std.proofs.Common.{◌≡◌, ◌++◌, ◌-◌, map, drop, length}
use Rattle.lowering.specs.Emitted.{aim_of}
use Rattle.lowering.specs.TestCode.{parts_code, parts_labels}
use Rattle.xanadu_tree.specs.PlainOf.{plain_test, to_tests}
use Rattle.lowering.proofs.tests.+test_code.Given as goal

abbrev pub invariant-all-loop-part : goal.invariant-all-loop-part
invariant-all-loop-part l = record {
  count : l.many ≡ length l.parts - l.part-index;
  code : l.code.items ++ parts_code l.vars (aim_of l.inner l.inner_to) (aim_of l.last l.last_to) (to_tests (map plain_test (drop l.part-index l.parts))) l.here
      ≡ l.fn.code.items ++ parts_code l.vars (aim_of l.inner l.inner_to) (aim_of l.last l.last_to) (to_tests (map plain_test l.parts)) l.at;
  labels : l.labels.items ++ parts_labels l.inner l.last (to_tests (map plain_test (drop l.part-index l.parts))) l.here
      ≡ l.fn.labels.items ++ parts_labels l.inner l.last (to_tests (map plain_test l.parts)) l.at;
}
