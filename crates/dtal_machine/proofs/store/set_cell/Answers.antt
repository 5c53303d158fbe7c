use Rattle.std.proofs.Common.{◌≡◌, ◌∙◌, ap, sym, pos, length, w64, FitsSigned, rules, arith}
use Rattle.std.proofs.lemmas.Int.{to_z-of_z}
use Rattle.dtal_machine.specs.Acting.{flat}
use Rattle.dtal_machine.proofs.StoreBlocks.{set_at}
use Rattle.dtal_machine.proofs.store.set_cell.Goals as goal

pub overflow_add-place-2 : goal.overflow_add-place-2
overflow_add-place-2 c =
    let address_fits : FitsSigned w64 c.args.address = search rules in
    let is : c.args.address ≡ pos c.offset.result = sym (to_z-of_z w64 c.args.address address_fits) ∙ c.offset.ensures in
    let index_fits : FitsSigned w64 c.args.index = search rules in
    let index : c.args.index ≡ pos c.offset-2.result = sym (to_z-of_z w64 c.args.index index_fits) ∙ c.offset-2.ensures in
    let less = (set_at (flat c.args.store.now) c.args.address c.args.index c.args.word c.requires.whole c.requires.there).within c.offset.result c.offset-2.result is index in
    omega arith

pub set_word-requires : goal.set_word-requires
set_word-requires c =
    let address_fits : FitsSigned w64 c.args.address = search rules in
    let is : c.args.address ≡ pos c.offset.result = sym (to_z-of_z w64 c.args.address address_fits) ∙ c.offset.ensures in
    let index_fits : FitsSigned w64 c.args.index = search rules in
    let index : c.args.index ≡ pos c.offset-2.result = sym (to_z-of_z w64 c.args.index index_fits) ∙ c.offset-2.ensures in
    let less = (set_at (flat c.args.store.now) c.args.address c.args.index c.args.word c.requires.whole c.requires.there).within c.offset.result c.offset-2.result is index in
    omega (arith, less, ap length c.as_mut_slice.ensures.value)
