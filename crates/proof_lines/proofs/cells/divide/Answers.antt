use Rattle.std.proofs.Common.{rules, w64, FitsSigned, set, ap, arith}
use Rattle.std.proofs.lemmas.Int.{to_z-of_z}
use Rattle.proof_lines.proofs.CutCells.{cuts_more, cuts_past, cuts_all}
use Rattle.proof_lines.proofs.cells.divide.Goals as goal

pub returns-in_default : goal.returns-in_default
returns-in_default c = cuts_past _ _ _ _ c.requires.row c.requires.few c.columns-test.true (c.in_default.ensures {u = tt})

pub columns-preserved : goal.columns-preserved
columns-preserved c =
    let fits : FitsSigned w64 c.in-Some.cell = search rules in
    let exact = c.in-Some.ensures {u = tt} in
    cuts_more _ _ _ _ _ c.in-Some.cell _ _ c.columns.invariant c.requires.blank c.requires.row c.requires.few c.columns-test.true exact.0 exact.1
    (ap (λ n. set c.columns.cells c.columns.place n) (to_z-of_z w64 c.in-Some.cell fits))

pub returns : goal.returns
returns c =
    let fits : FitsSigned w64 c.number_floor.result = search rules in
    cuts_all _ _ _ _ _ c.number_floor.result _ _ c.columns.invariant c.requires.blank c.requires.row c.requires.few (omega arith) (omega arith) c.requires.positive c.number_floor.ensures
    (ap (λ n. set c.columns.cells 64 n) (to_z-of_z w64 c.number_floor.result fits))
