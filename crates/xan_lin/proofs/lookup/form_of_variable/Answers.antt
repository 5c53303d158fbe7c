use Rattle.std.proofs.Common.{ℕ, ◌≡◌, get_or, ◌∙◌, sym, ap, arith, Option, Some}
use Rattle.xan_lin.specs.Linear.{Linear}
use Rattle.xan_lin.specs.Subst.{zero_form}
use Rattle.xan_seq.proofs.RisingKeys.{value-found, value-absent}
use Rattle.xan_lin.proofs.lookup.form_of_variable.Goals as goal

pub returns-in_default : goal.returns-in_default
returns-in_default c =
    let none : ℕ × Linear = (0, zero_form) in
    let g = c.in_default.ensures {u = tt} in
    sym (value-absent 0 c.args.var c.count_before-at.result c.args.values.now none c.requires c.count_before-at.ensures (λ h. absurd (omega (arith, g.lookup.3))))

pub returns-then-first-var : goal.returns-then-first-var
returns-then-first-var c =
    let v : ℕ × Linear = c.in-Some.field-0.now in
    let at = c.count_before-at.result in
    let h = c.in-Some.ensures {u = tt} in
    let is : v ≡ get_or c.args.values.now at v = h.lookup.1 in
    sym (value-found 0 c.args.var at c.args.values.now v c.requires h.lookup.3.0 (sym (ap (λ p. p.0) is) ∙ c.if-first-var.true)
    ∙ ap (λ p. let r : Option Linear = Some p.1 in r) (sym is))

pub returns-else-first-var : goal.returns-else-first-var
returns-else-first-var c =
    let v : ℕ × Linear = c.in-Some.field-0.now in
    let at = c.count_before-at.result in
    let h = c.in-Some.ensures {u = tt} in
    let is : v ≡ get_or c.args.values.now at v = h.lookup.1 in
    sym (value-absent 0 c.args.var at c.args.values.now v c.requires c.count_before-at.ensures (λ l e. c.if-first-var.false (ap (λ p. p.0) is ∙ e)))
