use Rattle.std.proofs.Common.{◌≡◌, ◌∙◌, ap, sym, ℤ, pos, ◌+◌, ◌∷◌, [], length, FitsSigned, w64, rules, arith}
use Rattle.std.specs.List.{slice_get}
use Rattle.std.proofs.lemmas.Int.{to_z-of_z}
use Rattle.operation_rules.specs.Effects.{Writes}
use Rattle.dtal_machine.specs.Acting.{flat}
use Rattle.dtal_machine.proofs.StoreBlocks.{length_at}
use Rattle.dtal_machine.proofs.store.length_of.Goals as goal

pub word_at-requires : goal.word_at-requires
word_at-requires c =
    let address_fits : FitsSigned w64 c.args.address = search rules in
    let is : c.args.address ≡ pos c.offset.result = sym (to_z-of_z w64 c.args.address address_fits) ∙ c.offset.ensures in
    let less = (length_at (flat c.args.store.now) c.args.address c.requires.there).within c.offset.result is in
    omega (arith, less, ap length c.as_slice.ensures.value)

pub returns : goal.returns
returns c =
    let address_fits : FitsSigned w64 c.args.address = search rules in
    let is : c.args.address ≡ pos c.offset.result = sym (to_z-of_z w64 c.args.address address_fits) ∙ c.offset.ensures in
    let fits : FitsSigned w64 c.word_at.result = search rules in
    let got = ap (λ ws. slice_get ws (c.offset.result + 1)) (sym c.as_slice.ensures.value) ∙ c.word_at.ensures in
    (length_at (flat c.args.store.now) c.args.address c.requires.there).given c.offset.result c.word_at.result is got
    ∙ ap (λ (w : ℤ). Writes (w ∷ []) (flat c.args.store.now)) (sym (to_z-of_z w64 c.word_at.result fits))
