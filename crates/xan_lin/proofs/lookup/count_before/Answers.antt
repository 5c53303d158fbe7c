use Rattle.std.proofs.Common.{rules}
use Rattle.std.proofs.lemmas.List.Sorted.{IsPartitionPoint-from_clause}
use Rattle.xan_seq.proofs.RisingKeys.{is_before, rises_partitioned}
use Rattle.xan_lin.proofs.lookup.count_before.Goals as goal

pub returns : goal.returns
returns c =
    let var = c.args.var in
    let parted = rises_partitioned 0 var c.args.values.now c.requires in
    IsPartitionPoint-from_clause (is_before var) _ _ c.partition_point.ensures.partitioned parted (λ a r q k. search rules)
