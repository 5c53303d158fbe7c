use Rattle.type_shapes.proofs.Tables.{added-new, added-twice}
use Rattle.type_shapes.proofs.table.Table.add.Goals as goal

pub returns-then-branch : goal.returns-then-branch
returns-then-branch c =
    added-new c.args.name.now c.bytes.result c.self.inside.names.keys c.args.self.now c.self.view_is c.bytes.ensures _ c.if-branch.true c.in_ok-insert.ensures.added _ c.in_ok-insert.ensures.keys

pub returns : goal.returns
returns c =
    added-twice c.args.name.now c.bytes.result c.self.inside.names.keys c.args.self.now c.self.view_is c.bytes.ensures _ c.if-branch.false c.in_ok-insert.ensures.added
