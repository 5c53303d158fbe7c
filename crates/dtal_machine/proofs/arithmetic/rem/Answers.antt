use Rattle.std.proofs.Common.{sym, subst, refl, ℤ, pos, ◌<ℤ◌, [], FitsSigned, w64, rules}
use Rattle.std.specs.Int.{int_rem_euclid}
use Rattle.std.proofs.lemmas.Int.{to_z-of_z}
use Rattle.operation_rules.specs.FlatWords.{Flat}
use Rattle.operation_rules.specs.declared.operation.Operation.TheVariants as operation
use Rattle.dtal_machine.proofs.ReadPlaces.{divisor_above}
use Rattle.dtal_machine.proofs.arithmetic.rem.Goals as goal

pub remainder-rest-requires : goal.remainder-rest-requires
remainder-rest-requires c =
    let nothing : Flat = record { words = []; heap = 0 } in
    let b = c.word-2.result in
    let b_fits : FitsSigned w64 b = search rules in
    subst (λ (x : ℤ). pos 0 <ℤ x) (sym (to_z-of_z w64 b b_fits))
    (divisor_above operation.Mod int_rem_euclid c.args.rd c.args.ra c.args.rb c.args.top.now c.word.result b nothing c.word.ensures c.word-2.ensures refl (c.requires.goes nothing))
