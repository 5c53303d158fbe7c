use Rattle.type_carrier.specs.CarriedTests.{walked}
use Rattle.type_carrier.specs.Views.{sources_of}
use Rattle.type_carrier.proofs.BranchesCarried.{if_carried}
use Rattle.type_carrier.proofs.statements.+statements.Goals as goal

pub statement-returns-in_ok-other-in-If : goal.statement-returns-in_ok-other-in-If
statement-returns-in_ok-other-in-If t c =
    if_carried (sources_of c.args.site.now) c.args.s.now c.in-If.asked c.in-If.on_true c.in-If.on_false c.in-If.join c.in-If.at
    c.deref.result.now c.deref-in-If.result.now c.deref-in-If-2.result.now c.completes_all-completes.result _ _
    (walked c.first.new.edges.items c.in_ok-other-in-If.other.now c.first.new.states.items) c.second.result
    (λ rest. walked c.second.new.edges.items rest.now c.second.new.states.items)
    c.in-If.is c.deref.ensures.value c.deref-in-If.ensures.value c.deref-in-If-2.ensures.value
    c.in_ok-begun-in-If.ensures c.in_ok-other-in-If.ensures c.completes_all-completes.ensures c.second.ensures
