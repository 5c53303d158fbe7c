use Rattle.std.proofs.Common.{rules, w64, FitsSigned, sym, ap, ◌*ℤ◌, ◌∙◌}
use Rattle.std.proofs.lemmas.Int.{to_z-of_z}
use Rattle.proof_lines.proofs.Quotients.{whole_quotient, part_quotient}
use Rattle.proof_lines.proofs.row.number_quotient.Goals as goal

pub returns-then-is_product : goal.returns-then-is_product
returns-then-is_product c =
    let fits : FitsSigned w64 c.number_floor-quotient.result = search rules in
    let same = to_z-of_z w64 c.number_floor-quotient.result fits ∙ c.number_floor-quotient.ensures in
    (same, whole_quotient c.args.number.now c.args.by.now c.requires (ap (λ q. q *ℤ c.args.by.now) (sym same) ∙ c.is_product.ensures.0 c.if-is_product.true))

pub returns-else-is_product : goal.returns-else-is_product
returns-else-is_product c =
    let fits : FitsSigned w64 c.number_floor-quotient.result = search rules in
    let same = to_z-of_z w64 c.number_floor-quotient.result fits ∙ c.number_floor-quotient.ensures in
    let none = c.if-is_product.false in
    part_quotient c.args.number.now c.args.by.now c.requires
    (λ e. (let found = c.is_product.ensures.1 (ap (λ q. q *ℤ c.args.by.now) same ∙ e) in cc))
