use Rattle.std.proofs.Common.{◌∙◌, ap, sym, refl, ◌<◌, ℤ, ◌*ℤ◌, FitsSigned, to_z, of_z, w64, length, rules, arith}
use Rattle.std.proofs.lemmas.Int.{to_z-of_z}
use Rattle.operation_rules.specs.declared.operation.Operation.TheVariants as operation
use Rattle.dtal_machine.specs.Acting.{fitting, left_exact}
use Rattle.dtal_machine.proofs.ReadPlaces.{two_exact}
use Rattle.dtal_machine.proofs.arithmetic.mul.Goals as goal

pub returns : goal.returns
returns c = λ store.
    let a = c.word.result in
    let b = c.word-2.result in
    let a_fits : FitsSigned w64 a = search rules in
    let b_fits : FitsSigned w64 b = search rules in
    let exact = c.product-exact.ensures ∙ ap (λ (x : ℤ). fitting (x *ℤ to_z w64 (of_z w64 b))) (to_z-of_z w64 a a_fits) ∙ ap (λ (x : ℤ). fitting (a *ℤ x)) (to_z-of_z w64 b b_fits) in
    let less : c.args.rd < length c.args.top.now = omega arith in
    two_exact operation.Mul c.args.rd c.args.ra c.args.rb c.args.top.now a b (a *ℤ b) store less c.word.ensures c.word-2.ensures refl
    ∙ ap (λ o. left_exact c.args.top.now c.args.rd o store) (sym exact) ∙ c.put_exact.ensures store
