use Rattle.std.proofs.Common.{ℕ, ◌≡◌, get_or, ◌∙◌, sym, ap, arith, Option, Some}
use Rattle.state_types.specs.declared.types.Ty.{Ty}
use Rattle.state_types.specs.declared.types.Ty.TheVariants.{Bool}
use Rattle.xan_seq.proofs.RisingKeys.{value-found, value-absent}
use Rattle.expression_elaborator.proofs.state.type_among.Goals as goal

pub returns-in_default : goal.returns-in_default
returns-in_default c =
    let none : ℕ × Ty = (0, Bool) in
    let g = c.in_default.ensures {u = tt} in
    sym (value-absent 0 c.args.x c.count_before-at.result c.args.entries.now none c.requires c.count_before-at.ensures.point (λ h. absurd (omega (arith, g.lookup.3))))

pub returns-then-from-x : goal.returns-then-from-x
returns-then-from-x c =
    let x : ℕ × Ty = c.in-Some.field-0.now in
    let at = c.count_before-at.result in
    let h = c.in-Some.ensures {u = tt} in
    let is : x ≡ get_or c.args.entries.now at x = h.lookup.1 in
    sym (value-found 0 c.args.x at c.args.entries.now x c.requires h.lookup.3.0 (sym (ap (λ p. p.0) is) ∙ (sym c.from.ensures ∙ c.if-from-x.true))
    ∙ ap (λ p. let r : Option Ty = Some p.1 in r) (sym is))

pub returns-else-from-x : goal.returns-else-from-x
returns-else-from-x c =
    let x : ℕ × Ty = c.in-Some.field-0.now in
    let at = c.count_before-at.result in
    let h = c.in-Some.ensures {u = tt} in
    let is : x ≡ get_or c.args.entries.now at x = h.lookup.1 in
    sym (value-absent 0 c.args.x at c.args.entries.now x c.requires c.count_before-at.ensures.point (λ l e. c.if-from-x.false (c.from.ensures ∙ (ap (λ p. p.0) is ∙ e))))
