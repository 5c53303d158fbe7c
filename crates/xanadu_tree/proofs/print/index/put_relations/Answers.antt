use Rattle.std.proofs.Common.{◌≡◌, ◌<◌, length, append_assoc, append-nil, arith, refl}
use Rattle.std.proofs.lemmas.Grind.{common_steps}
use Rattle.xanadu_tree.proofs.TypeTexts.{relations_text-none, relations_text-some}
use Rattle.xanadu_tree.proofs.print.index.put_relations.Goals as goal

pub returns-then-is_empty : goal.returns-then-is_empty
returns-then-is_empty c =
    let none : length c.args.relations.now ≡ 0 = grind (arith, c.if-is_empty.ensures {u = tt}) in
    rw (relations_text-none c.args.relations.now none, append-nil) refl

pub returns : goal.returns
returns c =
    let some : 0 < length c.args.relations.now = grind (arith, c.if-is_empty.ensures {u = tt}) in
    rw (relations_text-some c.args.relations.now some) (grind (arith, common_steps, append_assoc))
