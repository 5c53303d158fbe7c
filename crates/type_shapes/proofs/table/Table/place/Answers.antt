use Rattle.std.proofs.Common.{◌∙◌, sym, ap}
use Rattle.std.specs.Prelude.{bytes_eq}
use Rattle.type_shapes.specs.Names.{place}
use Rattle.type_shapes.proofs.Tables.{position-seen}
use Rattle.type_shapes.proofs.table.Table.place.Goals as goal

pub returns : goal.returns
unfolding place
returns c =
    c.get_index_of.ensures.index ∙ sym (position-seen (bytes_eq c.args.name.now) c.self.inside.names.keys) ∙ ap (λ t. place c.args.name.now t) c.self.view_is
