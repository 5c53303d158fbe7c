use Rattle.std.proofs.Common.{◌≡◌, ◌++◌, ◌∷◌, [], ◌+◌, drop, sym, ap, ◌∙◌, rules, arith}
use Rattle.dtal_emit.proofs.TableTypes.{next_type, last_type}
use Rattle.dtal_emit.proofs.emitting.written_types.Goals as goal

pub types-preserved : goal.types-preserved
types-preserved c =
    ap (λ made. made ++ drop (c.types.id + 1) c.args.table.now) (c.in_ok-push.ensures.items ∙ ap (λ x. c.types.types.items ++ x ∷ []) c.in-Ok.ensures)
    ∙ next_type c.args.table.now c.types.types.items _ c.types.id c.in-Some.packed.now (sym c.in-Some.ensures.found) c.types.invariant

pub returns : goal.returns
returns c = last_type c.args.table.now c.types.types.items _ c.types.id (grind arith) c.types.invariant
