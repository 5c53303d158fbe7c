use Rattle.std.proofs.Common.{sym, subst, refl, ℤ, pos, ◌<ℤ◌, [], FitsSigned, w64, rules}
use Rattle.std.specs.Int.{int_div_euclid}
use Rattle.std.proofs.lemmas.Int.{to_z-of_z}
use Rattle.operation_rules.specs.FlatWords.{Flat}
use Rattle.operation_rules.specs.declared.operation.Operation.TheVariants as operation
use Rattle.dtal_machine.proofs.ReadPlaces.{divisor_above}
use Rattle.dtal_machine.proofs.arithmetic.div.Goals as goal

pub quotient-floor-requires : goal.quotient-floor-requires
quotient-floor-requires c =
    let nothing : Flat = record { words = []; heap = 0 } in
    let b = c.word-2.result in
    let b_fits : FitsSigned w64 b = search rules in
    subst (λ (x : ℤ). pos 0 <ℤ x) (sym (to_z-of_z w64 b b_fits))
    (divisor_above operation.Div int_div_euclid c.args.rd c.args.ra c.args.rb c.args.top.now c.word.result b nothing c.word.ensures c.word-2.ensures refl (c.requires.goes nothing))
