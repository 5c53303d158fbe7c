use Rattle.std.proofs.Common.{◌≡◌, ◌∙◌, sym, ap, pos, int_lt}
use Rattle.std.proofs.lemmas.Bool.Decides.{Decides-int_eq}
use Rattle.solver_rows.specs.Signing.{with_bit}
use Rattle.solver_rows.proofs.signs.with_number.Goals as goal

pub returns-then-is_zero-clause-positive : goal.returns-then-is_zero-clause-positive
returns-then-is_zero-clause-positive c =
    let none : c.args.number.now ≡ pos 0 = (Decides-int_eq c.args.number.now (pos 0)).0 (sym c.is_zero.ensures ∙ c.if-is_zero.true) in
    ap (λ n. with_bit (int_lt (pos 0) n) c.args.signs.positive c.args.column) (sym none)

pub returns-then-is_zero-clause-negative : goal.returns-then-is_zero-clause-negative
returns-then-is_zero-clause-negative c =
    let none : c.args.number.now ≡ pos 0 = (Decides-int_eq c.args.number.now (pos 0)).0 (sym c.is_zero.ensures ∙ c.if-is_zero.true) in
    ap (λ n. with_bit (int_lt n (pos 0)) c.args.signs.negative c.args.column) (sym none)
