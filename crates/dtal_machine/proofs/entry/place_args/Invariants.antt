use Rattle.std.proofs.Common.{◌≡◌, drop, length}
use Rattle.operation_rules.specs.Entry.{placed}
use Rattle.operation_rules.specs.FlatWords.{flat_words}
use Rattle.dtal_machine.specs.Acting.{HasRoom, flat}
use Rattle.dtal_machine.specs.Placing.{placed_behind}
use Rattle.dtal_machine.proofs.entry.place_args.Given as goal

abbrev pub invariant-each : goal.invariant-each
invariant-each l = record {
  placed : placed_behind l.words.items (placed flat_words (drop l.arg-index l.args) (flat l.store)) ≡ placed flat_words l.args (flat l.fn.store);
  count : length l.words.items ≡ l.arg-index;
  room : HasRoom l.store;
  heap : l.store.heap ≡ l.fn.store.heap;
}
