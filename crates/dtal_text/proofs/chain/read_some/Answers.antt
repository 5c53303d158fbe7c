use Rattle.std.proofs.Common.{◌++◌, ◌∷◌, [], ap, sym, subst, ◌∙◌}
use Rattle.xan_read.specs.Code.{Reads}
use Rattle.dtal_text.proofs.ChainLoops.{some_onto}
use Rattle.dtal_text.proofs.chain.read_some.Goals as goal

pub returns : goal.returns
returns g c =
    let made = c.in_ok-push.ensures.items ∙ ap (λ xs. xs ++ c.in_ok-first.first ∷ []) c.new-items.ensures.items in
    subst (λ read. Reads (λ x. (x.0.items, x.1.now)) c.read_onto.result read)
    (sym (some_onto c.args.between c.args.mark c.args.room (g.P.Production.reader c.args.item) c.in_ok-first.first _ _ c.args.bytes.now c.in_ok-first.rest.now c.in_ok-first.ensures
    c.saturating_sub.ensures made)) c.read_onto.ensures
