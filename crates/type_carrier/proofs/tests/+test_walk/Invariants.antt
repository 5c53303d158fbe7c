use Rattle.std.proofs.Common.{◌≡◌, ◌-◌, map, drop, length}
use Rattle.type_carrier.specs.CarriedTests.{walked, parts_carried}
use Rattle.type_carrier.specs.Views.{sources_of}
use Rattle.xanadu_tree.specs.PlainOf.{plain_test, to_tests}
use Rattle.type_carrier.proofs.tests.+test_walk.Given as goal

abbrev pub invariant-all-loop-part : goal.invariant-all-loop-part
invariant-all-loop-part l = record {
  count : l.many ≡ length l.parts - l.part-index;
  same : parts_carried (sources_of l.site) l.inner l.last (to_tests (map plain_test (drop l.part-index l.parts))) (walked l.edges.items l.left l.states.items)
      ≡ parts_carried (sources_of l.site) l.inner l.last (to_tests (map plain_test l.parts)) (walked l.fn.edges.items l.notes l.fn.states.items);
}
