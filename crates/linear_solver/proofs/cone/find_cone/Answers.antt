use Rattle.std.proofs.Common.{arith}
use Rattle.linear_solver.proofs.ConeWalks.{walks_none, walks_past, walks_more, walks_same, walks_all}
use Rattle.linear_solver.proofs.cone.find_cone.Goals as goal

pub walks-init : goal.walks-init
walks-init c = walks_none _ _ _ _ _ c.add_terms.ensures.found c.clear.ensures c.terms.ensures.terms

pub returns-then-count-gt-MOST_VARIABLES-clause-many : goal.returns-then-count-gt-MOST_VARIABLES-clause-many
returns-then-count-gt-MOST_VARIABLES-clause-many c e = walks_past _ _ _ _ c.walks.invariant (omega (arith, c.count.ensures, c.if-count-gt-MOST_VARIABLES.true))

pub walks-preserved : goal.walks-preserved
walks-preserved c = walks_more _ _ _ _ _ _ c.walks.invariant c.walks-test.true c.reach.ensures

pub returns-then-count-before-clause-found : goal.returns-then-count-before-clause-found
returns-then-count-before-clause-found c t =
    walks_same _ _ _ _ _ _ c.walks.invariant c.reach.ensures (omega (arith, c.count-before.ensures, c.count-in-walks.ensures, c.if-count-before.true))

pub returns-then-count-gt-MOST_VARIABLES-2-clause-many : goal.returns-then-count-gt-MOST_VARIABLES-2-clause-many
returns-then-count-gt-MOST_VARIABLES-2-clause-many c e = walks_past _ _ _ _ c.walks.invariant (omega (arith, c.count-2.ensures, c.if-count-gt-MOST_VARIABLES-2.true))

pub returns-clause-found : goal.returns-clause-found
returns-clause-found c t = walks_all _ _ _ _ _ c.walks.invariant c.walks-test.false
