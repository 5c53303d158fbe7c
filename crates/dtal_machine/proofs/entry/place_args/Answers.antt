use Rattle.std.proofs.Common.{◌∙◌, ap, sym, ◌+◌, ◌++◌, ◌∷◌, [], ℤ, List, drop, FitsSigned, w64, rules, arith}
use Rattle.std.proofs.lemmas.Int.{to_z-of_z}
use Rattle.operation_rules.specs.Entry.{placed}
use Rattle.operation_rules.specs.FlatWords.{flat_words}
use Rattle.xan_io.specs.declared.arg.Arg.{Arg}
use Rattle.dtal_machine.specs.Acting.{flat}
use Rattle.dtal_machine.specs.Placing.{placed_behind}
use Rattle.dtal_machine.proofs.EntryValues.{placed_all}
use Rattle.dtal_machine.proofs.PlacedArguments.{first_item, placed_one, placed_none}
use Rattle.dtal_machine.proofs.entry.place_args.Goals as goal

pub each-preserved : goal.each-preserved
each-preserved c =
    let args = c.args.args.now in
    let word = c.in-Some.word in
    let more = drop (c.each.arg-index + 1) args in
    let old = flat c.each.store in
    let new = flat c.place_arg.new.store in
    let item = first_item args c.each.arg-index c.arg-item.result c.each-test.true c.arg-item.is in
    let fits : FitsSigned w64 word = search rules in
    let pushed = c.push.ensures.items ∙ ap (λ (x : ℤ). c.each.words.items ++ x ∷ []) (to_z-of_z w64 word fits) in
    record {
      placed = ap (λ (ws : List ℤ). placed_behind ws (placed flat_words more new)) pushed ∙ sym (placed_one c.arg-item.result more c.each.words.items word old new c.in-Some.ensures.placed)
          ∙ sym (ap (λ (left : List Arg). placed_behind c.each.words.items (placed flat_words left old)) item) ∙ c.each.invariant.placed;
      count = (let n = c.push.ensures.len in omega (arith, n, c.each.invariant.count));
      room = c.in-Some.ensures.room;
      heap = c.in-Some.ensures.heap ∙ c.each.invariant.heap;
    }

pub returns-in-None-clause-placed : goal.returns-in-None-clause-placed
returns-in-None-clause-placed c =
    let args = c.args.args.now in
    let old = flat c.each.store in
    let item = first_item args c.each.arg-index c.arg-item.result c.each-test.true c.arg-item.is in
    sym c.each.invariant.placed ∙ ap (λ (left : List Arg). placed_behind c.each.words.items (placed flat_words left old)) item
    ∙ placed_none c.arg-item.result (drop (c.each.arg-index + 1) args) c.each.words.items old c.in-None.ensures.placed

pub returns-clause-placed : goal.returns-clause-placed
returns-clause-placed c = sym c.each.invariant.placed ∙ placed_all c.args.args.now c.each.arg-index c.each.words.items (flat c.each.store) c.each-test.false
