use Rattle.std.proofs.Common.{◌≡◌, ◌∙◌, ◌<◌, ◌≤◌, ◌+◌, length, ℕ, Ok, [], sym, ap, subst, arith}
use Rattle.std.proofs.lemmas.Result.{err_from_is_err_and}
use Rattle.join_elaborator.specs.Changed.{changed_by}
use Rattle.header_elaborator.specs.Code.{Fails}
use Rattle.expression_elaborator.specs.Views.{state_of}
use Rattle.header_elaborator.specs.declared.error.Stop.{Stop}
use Rattle.state_types.specs.PlaceTypes.{PlacesRise}
use Rattle.typed_core.specs.Joins.{Renewed, few_places, renewing, stated}
use Rattle.join_elaborator.proofs.JoinFailures.{renewing_over}
use Rattle.join_elaborator.proofs.PlaceLists.{places_few, renewed-rises}
use Rattle.join_elaborator.proofs.renewing.renew.Goals as goal

pub returns-in_err-next-clause-renewed : goal.returns-in_err-next-clause-renewed
returns-in_err-next-clause-renewed c =
    let p = err_from_is_err_and c.from_residual-in_err-next.result c.from_residual-in_err-next.ensures.1 in
    let clause = stated c.args.clause.now in
    let few : few_places c.args.before.now.places ≡ Ok tt = ap few_places (sym c.entries.ensures.entries) ∙ c.in_ok-few_places.ensures in
    let many : 1024 < clause.quant.count = subst (λ (n : ℕ). 1024 < n) c.count_of.ensures c.in_err-next.ensures.many.many in
    let over = renewing_over clause (changed_by c.args.blocks.now) c.args.before.now (state_of c.args.st.now) few many in
    rw (p.1, p.2) (subst (λ (why : Stop). Fails why (renewing clause (changed_by c.args.blocks.now) c.args.before.now (state_of c.args.st.now))) (sym c.in_err-next.ensures.many.is) over)

pub renew_all-requires-clause-few : goal.renew_all-requires-clause-few
renew_all-requires-clause-few c =
    let same = c.entries.ensures.entries ∙ sym c.entries-2.ensures.entries in
    let few : 0 + length c.entries-2.result.now ≤ 240 =
    places_few 0 c.entries-2.result.now (omega arith) c.entries-2.ensures.rising (ap few_places (sym same) ∙ c.in_ok-few_places.ensures) in
    omega (arith, few)

pub returns-clause-rising : goal.returns-clause-rising
returns-clause-rising c =
    subst (λ (r : Renewed). PlacesRise 0 r.types) (sym c.in_ok-made.ensures)
    (renewed-rises (changed_by c.args.blocks.now) c.stated_of.result.now c.in_ok-next.next c.entries-2.result.now (record { types = []; others = [] }) c.entries-2.ensures.rising)
