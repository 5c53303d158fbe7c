use Rattle.std.proofs.Common.{◌≡◌, map, drop, max}
use Rattle.typed_core.specs.Places.{tests_named}
use Rattle.xanadu_tree.specs.PlainOf.{plain_test, to_tests}
use Rattle.header_elaborator.proofs.places.+tests.Given as goal

abbrev pub invariant-tests_named-loop-part : goal.invariant-tests_named-loop-part
invariant-tests_named-loop-part l = max l.named (tests_named (to_tests (map plain_test (drop l.part-index l.parts)))) ≡ tests_named (to_tests (map plain_test l.parts))
