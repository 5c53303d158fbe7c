use Rattle.std.proofs.Common.{◌∙◌, ◌||◌, ap}
use Rattle.std.specs.List.{list_any}
use Rattle.index_sorts.specs.Known.{same_form, holds_always}
use Rattle.index_sorts.proofs.KnownRows.{answers_known}
use Rattle.index_sorts.proofs.context.Context.knows.Goals as goal

pub returns : goal.returns
returns c =
    let row = c.args.row.now in
    let rows_are = c.as_slice.ensures.value ∙ ap (λ context. context.rows) c.self.view_is in
    let both = answers_known c.args.self.now row c.is_known.result (c.is_known.ensures ∙ ap (λ rows. holds_always row || list_any (same_form row) rows) rows_are) in
    record { test = both.0; known = both.1 }
