use Rattle.std.proofs.Common.{◌≡◌, ◌∙◌, ap, sym, ℕ, ℤ, pos, ◌+◌, List, length, take, drop, w64, FitsSigned, rules, arith}
use Rattle.std.proofs.lemmas.Int.{to_z-of_z}
use Rattle.operation_rules.specs.Effects.{Writes}
use Rattle.dtal_machine.specs.Acting.{flat}
use Rattle.dtal_machine.proofs.StoreBlocks.{parts_at}
use Rattle.dtal_machine.proofs.store.parts.Goals as goal

pub words_at-requires : goal.words_at-requires
words_at-requires c =
    let address_fits : FitsSigned w64 c.args.address = search rules in
    let is : c.args.address ≡ pos c.offset.result = sym (to_z-of_z w64 c.args.address address_fits) ∙ c.offset.ensures in
    let ends = (parts_at (flat c.args.store.now) c.args.number c.args.count c.args.address c.requires.whole c.requires.there).within c.offset.result is in
    omega (arith, ends, ap length c.as_slice.ensures.value, c.from.ensures)

pub returns-clause-parts : goal.returns-clause-parts
returns-clause-parts c =
    let address_fits : FitsSigned w64 c.args.address = search rules in
    let is : c.args.address ≡ pos c.offset.result = sym (to_z-of_z w64 c.args.address address_fits) ∙ c.offset.ensures in
    let taken : ℕ → List ℤ → List ℤ = λ n ws. take n (drop (c.offset.result + 2) ws) in
    (parts_at (flat c.args.store.now) c.args.number c.args.count c.args.address c.requires.whole c.requires.there).given c.offset.result is
    ∙ ap (λ ws. Writes ws (flat c.args.store.now)) (sym (c.words_at.ensures.words ∙ ap (taken c.from.result) c.as_slice.ensures.value ∙ ap (λ n. taken n c.args.store.now.words.items) c.from.ensures))
