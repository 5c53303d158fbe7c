use Rattle.std.proofs.Common.{◌∙◌, map, ap}
use Rattle.std.proofs.lemmas.Iterator.{YieldsList-from_zip}
use Rattle.std.proofs.lemmas.Iterator.Adapters.{YieldsList-from_vec}
use Rattle.std.proofs.lemmas.Iterator.Consumers.{YieldsList-end}
use Rattle.scope_shapes.proofs.Zips.{made_of, made-again, funs-seen}
use Rattle.scope_shapes.proofs.bodies.funs.Goals as goal

pub returns : goal.returns
returns c =
    let start = c.into_iter-header-iterator.result in
    let gives = c.into_iter-header-iterator.ensures.into_iter_gives in
    let first = c.zip-header-items.ensures.first in
    let second = c.zip-header-items.ensures.second in
    let one = YieldsList-from_vec {s = start.a} c.args.headers.items
    (ap (λ z. z.a.rest.items) gives ∙ ap (λ i. i.rest.items) first ∙ c.into_iter.ensures.rest)
    (ap (λ z. z.a.rest.len) gives ∙ ap (λ i. i.rest.len) first ∙ c.into_iter.ensures.len ∙ c.args.headers.ok.0) in
    let two = YieldsList-from_vec {s = start.b} c.args.bodies.items
    (ap (λ z. z.b.rest.items) gives ∙ second.0)
    (ap (λ z. z.b.rest.len) gives ∙ second.1 ∙ c.args.bodies.ok.0) in
    let all = YieldsList-end (YieldsList-from_zip one two) c.loop-header.yielded c.loop-header.header-iterator c.loop-header.yielded_by c.next.result c.next.new.self c.in-None.is c.next.ensures.steps in
    c.loop-header.invariant ∙ made-again c.loop-header.yielded ∙ ap (λ ps. map made_of ps) all.0 ∙ funs-seen c.args.headers.items c.args.bodies.items
