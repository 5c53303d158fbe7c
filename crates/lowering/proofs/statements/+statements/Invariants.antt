use Rattle.std.proofs.Common.{◌≡◌, ◌++◌, drop}
use Rattle.lowering.specs.StatementCode.{block_code, block_labels}
use Rattle.xanadu_tree.specs.PlainOf.{plain_block}
use Rattle.lowering.proofs.statements.+statements.Given as goal

abbrev pub invariant-block-loop-s : goal.invariant-block-loop-s
invariant-block-loop-s l = record {
  code : l.code.items ++ block_code (record { types = l.types; results = l.results; kinds = l.kinds }) (plain_block (drop l.s-index l.ss)) l.here
      ≡ l.fn.code.items ++ block_code (record { types = l.types; results = l.results; kinds = l.kinds }) (plain_block l.ss) l.at;
  labels : l.labels.items ++ block_labels (plain_block (drop l.s-index l.ss)) l.here ≡ l.fn.labels.items ++ block_labels (plain_block l.ss) l.at;
}
