use Rattle.std.proofs.Common.{◌∙◌, ap, drop, length, arith}
use Rattle.std.proofs.lemmas.List.{length-drop}
use Rattle.solver_rows.proofs.SignLemmas.{signed_as}
use Rattle.solver_rows.proofs.tight.sign.Goals as goal

pub signs_of-row-requires : goal.signs_of-row-requires
signs_of-row-requires c =
    omega (arith, c.requires.few, c.requires.wide, ap length (c.coefficients.ensures ∙ ap (drop 1) c.as_slice.ensures.value), length-drop 1 c.args.row.now.cells.items)

pub returns-clause-signed : goal.returns-clause-signed
returns-clause-signed c =
    signed_as _ _ _ _ c.requires.rising c.requires.wide (c.coefficients.ensures ∙ ap (drop 1) c.as_slice.ensures.value) c.signs_of-row.ensures
