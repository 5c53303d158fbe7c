use Rattle.std.proofs.Common.{◌≡◌, [], map, Ok, sym, subst}
use Rattle.typed_core.specs.Headers.{AreDeclared, signatures, table_of}
use Rattle.xanadu_tree.specs.PlainOf.{plain_core, plain_fun}
use Rattle.constraint_elaborator.proofs.walk.parts_of.Goals as goal

pub functions-requires : goal.functions-requires
functions-requires c =
    let closed = subst (λ ps. table_of ps ≡ Ok c.in_ok-table.table) c.types.ensures c.in_ok-table.ensures in
    let signed = subst (λ fs. signatures (map plain_fun fs) [] ≡ Ok c.in_ok-sigs.sigs.items) c.funs.ensures.funs c.in_ok-sigs.ensures in
    subst (λ sigs. AreDeclared c.in_ok-table.table sigs) (sym c.as_slice.ensures.value)
    (c.shaped_declarations_are_closed.ensures (plain_core c.args.core.now) c.in_ok-table.table c.in_ok-sigs.sigs.items c.funs.ensures.rules closed signed)
