use Rattle.std.proofs.Common.{◌∙◌, ap, sym, ◌<◌, ℤ, ◌∷◌, [], FitsSigned, to_z, of_z, w64, length, rules, arith}
use Rattle.std.proofs.lemmas.Int.{to_z-of_z}
use Rattle.operation_rules.specs.Effects.{effect}
use Rattle.operation_rules.specs.FlatWords.{flat_words}
use Rattle.operation_rules.specs.declared.operation.Operation.TheVariants as operation
use Rattle.dtal_machine.specs.Acting.{flat}
use Rattle.dtal_machine.proofs.ReadPlaces.{read_two, block_left}
use Rattle.dtal_machine.proofs.blocks.new.Goals as goal

pub returns-clause-left : goal.returns-clause-left
returns-clause-left c =
    let n = c.word.result in
    let v = c.word-2.result in
    let n_fits : FitsSigned w64 n = search rules in
    let v_fits : FitsSigned w64 v = search rules in
    let less : c.args.rd < length c.args.top.now = omega arith in
    let store = flat c.args.store.now in
    let is = ap (λ (x : ℤ). effect flat_words (operation.New c.args.cells) (x ∷ v ∷ []) store) (sym (to_z-of_z w64 n n_fits))
    ∙ ap (λ (x : ℤ). effect flat_words (operation.New c.args.cells) (to_z w64 (of_z w64 n) ∷ x ∷ []) store) (sym (to_z-of_z w64 v v_fits)) ∙ c.make_array-made.ensures.made in
    block_left (operation.New c.args.cells) (c.args.rn ∷ c.args.rv ∷ []) c.args.rd c.args.top.now c.put_block.new.top (n ∷ v ∷ []) store (flat c.make_array-made.new.store)
    c.make_array-made.result c.put_block.result less (read_two c.args.top.now c.args.rn c.args.rv n v c.word.ensures c.word-2.ensures) is c.make_array-made.ensures.same c.put_block.ensures
