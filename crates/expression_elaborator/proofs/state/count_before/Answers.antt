use Rattle.std.proofs.Common.{rules}
use Rattle.std.proofs.lemmas.List.Sorted.{IsPartitionPoint-from_clause}
use Rattle.xan_seq.proofs.RisingKeys.{is_before, rises_partitioned}
use Rattle.expression_elaborator.proofs.state.count_before.Goals as goal

pub returns-clause-point : goal.returns-clause-point
returns-clause-point c =
    let place = c.args.x in
    let parted = rises_partitioned 0 place c.args.entries.now c.requires in
    IsPartitionPoint-from_clause (is_before place) _ _ c.partition_point.ensures.partitioned parted (λ a r q k. search rules)
