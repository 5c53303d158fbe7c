use Rattle.std.proofs.Common.{List, Ok, ap, sym, ◌∙◌}
use Rattle.std.proofs.lemmas.Result.{err_from_is_err_and}
use Rattle.dtal_code.specs.declared.program.Block.{Block}
use Rattle.dtal_text.proofs.BuiltBlocks.{new_built, blocks_fail}
use Rattle.dtal_text.proofs.body.read_blocks.Goals as goal

pub returns-in_err-rest : goal.returns-in_err-rest
returns-in_err-rest c =
    let p = err_from_is_err_and c.from_residual.result c.from_residual.ensures.1 in
    rw (p.1, p.2) (blocks_fail c.new-building.result c.args.bytes.now _ c.new-building.ensures c.in_err-rest.ensures)

pub returns : goal.returns
returns c =
    sym (new_built c.new-building.result c.args.bytes.now c.new-building.ensures) ∙ c.in_ok-rest.ensures
    ∙ ap (λ (bs : List Block). Ok (bs, c.in_ok-rest.rest.now)) (sym c.in_ok-finish.ensures)
