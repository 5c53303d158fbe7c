use Rattle.std.proofs.Common.{◌≡◌, ◌∙◌, ap, sym, subst, refl, ◌^◌, ◌<◌, ◌≤◌, ◌++◌, [], ℤ, List, length, Some, None, arith}
use Rattle.std.specs.List.{All}
use Rattle.std.proofs.lemmas.List.Elements.{All-nil}
use Rattle.operation_rules.specs.Entry.{placed}
use Rattle.operation_rules.specs.FlatWords.{Flat, flat_words}
use Rattle.dtal_code.specs.Places.{places_of}
use Rattle.dtal_code.specs.Runs.{entry_state, empty_store}
use Rattle.dtal_machine.specs.declared.run.Caller.{Caller}
use Rattle.dtal_machine.specs.declared.run.Run.{Run}
use Rattle.dtal_machine.specs.Acting.{flat}
use Rattle.dtal_machine.proofs.EntryValues.{entry_some, begun_state}
use Rattle.dtal_machine.proofs.Frames.{frame_length}
use Rattle.dtal_machine.proofs.entry.begin.Goals as goal

pub returns : goal.returns
returns c =
    let words = c.in-Some.words.items in
    let run : Run = record {
      at = c.args.start;
      result_to = None;
      places = c.put_places.new.places;
      callers = c.in_ok-callers.callers;
      store = c.place_args.new.store;
      depth = c.args.depth;
    } in
    let places-are : c.put_places.new.places.items ≡ places_of words =
    c.put_places.ensures.places ∙ ap (λ (ps : List ℤ). ps ++ places_of c.as_slice.result.now) c.in_ok-places.ensures.items ∙ ap places_of c.as_slice.ensures.value in
    let callers-are : c.in_ok-callers.callers.items ≡ [] = c.in_ok-callers.ensures.items in
    let empty : (let f : Flat = record { words = c.in_ok-with_capacity.field-0.items; heap = c.args.heap } in f) ≡ empty_store c.args.heap =
    ap (λ (ws : List ℤ). (let f : Flat = record { words = ws; heap = c.args.heap } in f)) c.in_ok-with_capacity.ensures.items in
    let is : placed flat_words c.args.args.now (empty_store c.args.heap) ≡ Some (words, flat c.place_args.new.store) =
    ap (placed flat_words c.args.args.now) (sym empty) ∙ c.in-Some.ensures.placed in
    let begun = ap (entry_state c.args.start c.args.depth) is ∙ entry_some c.args.start c.args.depth (words, flat c.place_args.new.store) c.requires.some
    ∙ ap Some (begun_state run words refl places-are callers-are) in
    let few : length words ≤ 256 = omega (arith, ap length c.as_slice.ensures.value, c.as_slice.ensures.fits) in
    let frame = ap length places-are ∙ frame_length words few in
    let none = ap length callers-are in
    let Waits : Caller → Type 0 = λ caller. caller.at < 2 ^ 63 in (
      begun,
      record {
        store = c.in-Some.ensures.room;
        places = omega (arith, frame, none);
        live = omega (arith, none, c.requires.some);
        waiting = subst (All Waits) (sym callers-are) (All-nil Waits);
        small = c.requires.depth_bound;
        room = omega (arith, c.in_ok-places.ensures.capacity, c.put_places.ensures.room);
        callers_room = omega (arith, c.in_ok-callers.ensures.capacity);
      },
    )
