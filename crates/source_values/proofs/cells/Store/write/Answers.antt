use Rattle.std.proofs.Common.{◌≡◌, ◌∙◌, ◌<◌, List, true, sym, subst, ap, length, set}
use Rattle.typed_core.specs.SourceValues.{Block, Blocks, blocks_with}
use Rattle.source_values.specs.Values.{takes, written}
use Rattle.source_values.proofs.WrittenCells.{takes_in, used_kept, write_is}
use Rattle.source_values.proofs.cells.Store.write.Goals as goal

there : (c : goal.After-self-1) → set c.self.inside.blocks.items c.args.at c.write.new.self ≡ blocks_with c.self.inside.blocks.items c.args.at c.args.index c.args.word.now
there c =
    let taken = subst (λ (s : Blocks). takes s c.args.at c.args.index c.requires.0 ≡ true) (sym c.self.view_is) c.requires.1 in
    let within : c.args.at < length c.self.inside.blocks.items = takes_in c.self.inside.blocks.items c.args.at c.args.index c.requires.0 taken in
    write_is c.self.inside.blocks.items c.args.at c.args.index c.index_mut.result.now c.write.new.self c.args.word.now within c.index_mut.ensures.value c.write.ensures

pub invariant_of-self : goal.invariant_of-self
invariant_of-self c =
    (used_kept c.self.inside.blocks.items _ c.args.at c.args.index c.args.word.now c.self.inside.used (there c) c.self.invariant.0, c.self.invariant.1, c.self.invariant.2)

pub returns : goal.returns
returns c =
    ap (λ (bs : List Block). (let s : Blocks = record { blocks = bs; heap = c.self.inside.heap } in s)) (there c)
    ∙ ap (λ (s : Blocks). written s c.args.at c.args.index c.args.word.now) c.self.view_is
