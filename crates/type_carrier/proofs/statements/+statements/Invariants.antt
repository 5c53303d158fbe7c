use Rattle.std.proofs.Common.{◌≡◌, drop}
use Rattle.type_carrier.specs.CarriedTests.{walked}
use Rattle.type_carrier.specs.CarriedStatements.{block}
use Rattle.type_carrier.specs.Views.{sources_of}
use Rattle.xanadu_tree.specs.PlainOf.{plain_block}
use Rattle.type_carrier.proofs.statements.+statements.Given as goal

abbrev pub invariant-block-loop-s : goal.invariant-block-loop-s
invariant-block-loop-s l =
    block (sources_of l.site) (plain_block (drop l.s-index l.ss)) (walked l.edges.items l.left l.states.items)
    ≡ block (sources_of l.site) (plain_block l.ss) (walked l.fn.edges.items l.notes l.fn.states.items)
