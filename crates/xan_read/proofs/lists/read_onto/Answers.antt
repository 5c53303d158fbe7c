use Rattle.std.proofs.Common.{◌-◌, ◌+◌, arith}
use Rattle.std.proofs.lemmas.Result.{err_from_is_err_and}
use Rattle.xan_read.proofs.ListLoops.{item_more, item_fails, item_none, item_full}
use Rattle.xan_read.proofs.lists.read_onto.Goals as goal

pub returns-in-None : goal.returns-in-None
returns-in-None g c =
    item_none c.args.c (g.P.Production.reader c.args.item.now) c.items.items.items (c.args.room - c.items.counter) c.items.rest.now _ (c.in-None.ensures {u = tt}) c.items.invariant

pub returns-in_err-value-in-Some : goal.returns-in_err-value-in-Some
returns-in_err-value-in-Some g c =
    let p = err_from_is_err_and c.from_residual.result c.from_residual.ensures.1 in
    rw (p.1, p.2) (item_fails c.args.c (g.P.Production.reader c.args.item.now) _ c.items.items.items (c.args.room - c.items.counter) (c.args.room - (c.items.counter + 1)) c.items.rest.now c.in-Some.behind.now _
    (omega arith) c.in-Some.ensures c.in_err-value-in-Some.ensures c.items.invariant)

pub items-preserved : goal.items-preserved
items-preserved g c = rw c.in_ok-push-in-Some.ensures.items
    (item_more c.args.c (g.P.Production.reader c.args.item.now) c.items.items.items c.in_ok-value-in-Some.value (c.args.room - c.items.counter) (c.args.room - (c.items.counter + 1)) c.items.rest.now c.in-Some.behind.now c.in_ok-value-in-Some.others.now _
    (omega arith) c.in-Some.ensures c.in_ok-value-in-Some.ensures c.items.invariant)

pub returns : goal.returns
returns g c = item_full c.args.c (g.P.Production.reader c.args.item.now) c.items.items.items (c.args.room - c.items.counter) c.items.rest.now _ (omega arith) c.items.invariant
