use Rattle.std.proofs.Common.{◌∙◌, ap, sym, ◌<◌, ℤ, List, length, arith}
use Rattle.dtal_code.specs.Guessed.{bytes_in}
use Rattle.operation_rules.specs.Effects.{effect}
use Rattle.operation_rules.specs.FlatWords.{flat_words}
use Rattle.operation_rules.specs.declared.operation.Operation.TheVariants as operation
use Rattle.dtal_machine.specs.Acting.{flat}
use Rattle.dtal_machine.proofs.ReadPlaces.{listed_read, block_left}
use Rattle.dtal_machine.proofs.blocks.tup.Goals as goal

pub returns-clause-left : goal.returns-clause-left
returns-clause-left c =
    let less : c.args.p < length c.args.top.now = omega arith in
    let store = flat c.args.store.now in
    let is = ap (λ (ws : List ℤ). effect flat_words (operation.Tuple c.args.number) ws store) (sym (c.as_slice.ensures.value ∙ c.read_listed-cells.ensures.words)) ∙ c.make_tuple-made.ensures.made in
    block_left (operation.Tuple c.args.number) (bytes_in c.args.count c.args.second) c.args.p c.args.top.now c.put_block.new.top _ store (flat c.make_tuple-made.new.store)
    c.make_tuple-made.result c.put_block.result less (listed_read c.args.top.now c.args.count c.args.second c.requires.places) is c.make_tuple-made.ensures.same c.put_block.ensures
