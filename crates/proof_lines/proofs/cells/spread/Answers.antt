use Rattle.std.proofs.Common.{set, get_or, rules, w64, FitsSigned, ap}
use Rattle.std.proofs.lemmas.Int.{to_z-of_z}
use Rattle.xan_lin.specs.Terms.{no_term}
use Rattle.proof_lines.proofs.SpreadCells.{spreads_none, spreads_more, spreads_past, spreads_all}
use Rattle.proof_lines.proofs.cells.spread.Goals as goal

pub terms-init : goal.terms-init
terms-init c =
    spreads_none _ _ _ _ c.requires.few c.requires.different c.clear.ensures

pub terms-preserved : goal.terms-preserved
terms-preserved c =
    let fits : FitsSigned w64 (get_or c.args.terms.now c.terms.term-index no_term).coef = search rules in
    let k = c.in-Some.ensures {u = tt} in
    spreads_more _ _ _ _ _ _ _ _ _ c.terms.invariant (c.terms-test.true) c.requires.rising k.variables k.found k.few k.different
    (ap (λ n. set c.terms.cells c.in-Some.column n) (to_z-of_z w64 (get_or c.args.terms.now c.terms.term-index no_term).coef fits))

pub returns-in_default : goal.returns-in_default
returns-in_default c = spreads_past _ _ _ _ _ _ c.terms.invariant c.terms-test.true (c.in_default.ensures {u = tt}).found

pub returns : goal.returns
returns c =
    let s = spreads_all _ _ _ _ _ _ c.terms.invariant c.terms-test.false in
    (s.0, c.terms.invariant.few, c.terms.invariant.different, s.1)
