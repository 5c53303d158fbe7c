use Rattle.std.proofs.Common.{rules, w64, FitsSigned, set, refl, ap, arith}
use Rattle.std.proofs.lemmas.Int.{to_z-of_z}
use Rattle.proof_lines.proofs.FilledCells.{clears_none, clears_more, clears_all}
use Rattle.proof_lines.proofs.cells.clear.Goals as goal

pub columns-init : goal.columns-init
columns-init c = clears_none _

pub columns-preserved : goal.columns-preserved
columns-preserved c = clears_more _ _ _ _ _ c.columns.invariant c.requires.blank c.requires.few c.columns-test.true refl

pub returns : goal.returns
returns c =
    let fits : FitsSigned w64 c.args.constant.now = search rules in
    clears_all _ _ _ _ _ _ c.columns.invariant c.requires.blank c.requires.few (omega arith) (omega arith)
    (ap (λ n. set c.columns.cells 64 n) (to_z-of_z w64 c.args.constant.now fits))
