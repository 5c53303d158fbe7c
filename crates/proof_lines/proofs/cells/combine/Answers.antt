use Rattle.std.proofs.Common.{rules, w64, FitsSigned, set, ap, arith}
use Rattle.std.proofs.lemmas.Int.{to_z-of_z}
use Rattle.proof_lines.proofs.CombinedCells.{combines_none, combines_more, combines_past, constant_past, combines_all}
use Rattle.proof_lines.proofs.cells.combine.Goals as goal

pub columns-init : goal.columns-init
columns-init c = combines_none _ _ _ _ _

pub returns-in_default : goal.returns-in_default
returns-in_default c =
    combines_past _ _ _ _ _ _ _ _ c.columns.invariant c.requires.blank c.requires.left c.requires.right c.requires.few c.columns-test.true (c.in_default.ensures {u = tt})

pub columns-preserved : goal.columns-preserved
columns-preserved c =
    let fits : FitsSigned w64 c.in-Some.cell = search rules in
    let exact = c.in-Some.ensures {u = tt} in
    combines_more _ _ _ _ _ _ _ c.in-Some.cell _ _ c.columns.invariant c.requires.blank c.requires.left c.requires.right c.requires.few c.columns-test.true exact.0 exact.1
    (ap (λ n. set c.columns.cells c.columns.place n) (to_z-of_z w64 c.in-Some.cell fits))

pub returns-in_default-combine_numbers : goal.returns-in_default-combine_numbers
returns-in_default-combine_numbers c =
    constant_past _ _ _ _ _ c.requires.left c.requires.right c.requires.few (c.in_default-combine_numbers.ensures {u = tt})

pub returns : goal.returns
returns c =
    let fits : FitsSigned w64 c.in-Some-combine_numbers.constant = search rules in
    let exact = c.in-Some-combine_numbers.ensures {u = tt} in
    combines_all _ _ _ _ _ _ _ c.in-Some-combine_numbers.constant _ _ c.columns.invariant c.requires.blank c.requires.left c.requires.right c.requires.few (omega arith) (omega arith) exact.0 exact.1
    (ap (λ n. set c.columns.cells 64 n) (to_z-of_z w64 c.in-Some-combine_numbers.constant fits))
