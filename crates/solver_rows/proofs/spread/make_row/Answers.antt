use Rattle.std.proofs.Common.{rules, w64, FitsSigned, to_z, of_z, List, subst, ◌∙◌, ap}
use Rattle.std.proofs.lemmas.Int.{to_z-of_z}
use Rattle.xan_lin.specs.Terms.{IsRising}
use Rattle.xan_lin.specs.Linear.{all_within, is_within}
use Rattle.xan_lin.specs.declared.term.Term.{Term}
use Rattle.proof_lines.proofs.Proper.{both}
use Rattle.solver_rows.specs.SystemRows.{tight}
use Rattle.solver_rows.proofs.SpreadRows.{spreads}
use Rattle.solver_rows.proofs.spread.make_row.Goals as goal

pub tighten-requires-clause-wide : goal.tighten-requires-clause-wide
tighten-requires-clause-wide c =
    let fits : FitsSigned w64 c.constant_part.result = search rules in
    let s = spreads c.args.vars.now c.spread.new.cells.items c.args.form.now c.terms.result.now (to_z w64 (of_z w64 c.constant_part.result)) c.terms.ensures.terms
    (to_z-of_z w64 c.constant_part.result fits ∙ c.constant_part.ensures) c.requires.rising
    (subst (λ (ts : List Term). IsRising 0 ts) c.terms.ensures.terms c.terms.ensures.rising) c.requires.among c.spread.ensures in
    s.wide

pub tighten-requires-clause-small : goal.tighten-requires-clause-small
tighten-requires-clause-small c =
    let fits : FitsSigned w64 c.constant_part.result = search rules in
    let s = spreads c.args.vars.now c.spread.new.cells.items c.args.form.now c.terms.result.now (to_z w64 (of_z w64 c.constant_part.result)) c.terms.ensures.terms
    (to_z-of_z w64 c.constant_part.result fits ∙ c.constant_part.ensures) c.requires.rising
    (subst (λ (ts : List Term). IsRising 0 ts) c.terms.ensures.terms c.terms.ensures.rising) c.requires.among c.spread.ensures in
    ap (λ x. all_within x.terms) s.is ∙ (both (all_within c.args.form.now.terms) (is_within c.args.form.now.constant) c.terms.ensures.small).0

pub returns-clause-row : goal.returns-clause-row
returns-clause-row c =
    let fits : FitsSigned w64 c.constant_part.result = search rules in
    let s = spreads c.args.vars.now c.spread.new.cells.items c.args.form.now c.terms.result.now (to_z w64 (of_z w64 c.constant_part.result)) c.terms.ensures.terms
    (to_z-of_z w64 c.constant_part.result fits ∙ c.constant_part.ensures) c.requires.rising
    (subst (λ (ts : List Term). IsRising 0 ts) c.terms.ensures.terms c.terms.ensures.rising) c.requires.among c.spread.ensures in
    c.tighten.ensures.row ∙ ap (tight c.args.source) s.is
