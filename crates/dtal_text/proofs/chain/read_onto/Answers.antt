use Rattle.std.proofs.Common.{◌+◌, ◌-◌, length, Ok, ap, ◌∙◌, arith}
use Rattle.std.proofs.lemmas.Result.{err_from_is_err_and}
use Rattle.dtal_text.proofs.ChainLoops.{chain_more, chain_ends, chain_fails, chain_full}
use Rattle.dtal_text.proofs.chain.read_onto.Goals as goal

pub returns-in_err-item : goal.returns-in_err-item
returns-in_err-item g c =
    let p = err_from_is_err_and c.from_residual.result c.from_residual.ensures.1 in
    rw (p.1, p.2) (chain_fails (g.C.Chained.reader c.args.chained.now) (g.C.Chained.behind c.args.chained.now) c.items.items.items c.items.state _
    (1 + (length c.args.bytes.now - c.items.counter)) (length c.args.bytes.now - c.items.counter) c.items.rest.now _ (omega arith) c.in_err-item.ensures c.items.invariant)

pub returns-in-None : goal.returns-in-None
returns-in-None g c =
    chain_ends (g.C.Chained.reader c.args.chained.now) (g.C.Chained.behind c.args.chained.now) c.items.items.items c.items.state
    (1 + (length c.args.bytes.now - c.items.counter)) (length c.args.bytes.now - c.items.counter) c.items.rest.now c.in_ok-item.others.now _
    (omega arith) (c.in_ok-item.ensures {u = tt} ∙ ap (λ o. Ok (o, c.in_ok-item.others.now)) c.in-None.is) c.items.invariant

pub items-preserved : goal.items-preserved
items-preserved g c = rw (c.in_ok-push-in-Some.ensures.items, c.next-state.ensures)
    (chain_more (g.C.Chained.reader c.args.chained.now) (g.C.Chained.behind c.args.chained.now) c.items.items.items c.items.state c.in-Some.found
    (1 + (length c.args.bytes.now - c.items.counter)) (1 + (length c.args.bytes.now - (c.items.counter + 1))) c.items.rest.now c.in_ok-item.others.now _
    (omega arith) (c.in_ok-item.ensures {u = tt} ∙ ap (λ o. Ok (o, c.in_ok-item.others.now)) c.in-Some.is) c.items.invariant)

pub returns-in_err-item-2 : goal.returns-in_err-item-2
returns-in_err-item-2 g c =
    let p = err_from_is_err_and c.from_residual-in_err-item-2.result c.from_residual-in_err-item-2.ensures.1 in
    rw (p.1, p.2) (chain_fails (g.C.Chained.reader c.args.chained.now) (g.C.Chained.behind c.args.chained.now) c.items.items.items c.items.state _
    (1 + (length c.args.bytes.now - c.items.counter)) (length c.args.bytes.now - c.items.counter) c.items.rest.now _ (omega arith) c.in_err-item-2.ensures c.items.invariant)

pub returns-in-None-item : goal.returns-in-None-item
returns-in-None-item g c =
    chain_ends (g.C.Chained.reader c.args.chained.now) (g.C.Chained.behind c.args.chained.now) c.items.items.items c.items.state
    (1 + (length c.args.bytes.now - c.items.counter)) (length c.args.bytes.now - c.items.counter) c.items.rest.now c.in_ok-item-2.others.now _
    (omega arith) (c.in_ok-item-2.ensures {u = tt} ∙ ap (λ o. Ok (o, c.in_ok-item-2.others.now)) c.in-None-item.is) c.items.invariant

pub returns : goal.returns
returns g c =
    chain_full (g.C.Chained.reader c.args.chained.now) (g.C.Chained.behind c.args.chained.now) c.items.items.items c.items.state c.in-Some-item.field-0
    (1 + (length c.args.bytes.now - c.items.counter)) c.items.rest.now c.in_ok-item-2.others.now _
    (omega arith) (c.in_ok-item-2.ensures {u = tt} ∙ ap (λ o. Ok (o, c.in_ok-item-2.others.now)) c.in-Some-item.is) c.items.invariant
