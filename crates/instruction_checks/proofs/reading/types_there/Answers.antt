use Rattle.std.proofs.Common.{◌∙◌, ◌-◌, ap, map, take, drop, length}
use Rattle.state_types.specs.PlaceTypes.{type_at}
use Rattle.operation_rules.specs.Applied.{all_there}
use Rattle.operation_rules.proofs.PlacesRead.{there_behind}
use Rattle.instruction_checks.proofs.PlacesTurns.{there_rest}
use Rattle.instruction_checks.proofs.reading.types_there.Goals as goal

pub loop-reads-preserved : goal.loop-reads-preserved
loop-reads-preserved c =
    ap (λ m. there_behind m (all_there (map (λ p. type_at p c.args.places.now) (take (length c.loop-reads.reads.now - 1) (drop 1 c.loop-reads.reads.now))))) c.in_ok-push.ensures.items
    ∙ there_rest c.loop-reads.made.items c.in_ok-type_there.field-0 c.args.places.now c.loop-reads.reads.now 0 c.in-len1-up.len_at_least c.in_ok-type_there.ensures ∙ c.loop-reads.invariant
