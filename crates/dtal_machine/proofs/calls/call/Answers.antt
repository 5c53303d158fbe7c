use Rattle.std.proofs.Common.{◌≡◌, ◌∙◌, ap, sym, subst, ℕ, suc, ◌*◌, ◌<◌, ◌≤◌, ◌^◌, ℤ, List, [], ◌∷◌, ◌++◌, drop, take, length, Some, None, length-append, arith}
use Rattle.std.specs.List.{All, slice_get, slice_index_or}
use Rattle.std.proofs.lemmas.List.Elements.{All-append, All-cons, All-nil}
use Rattle.std.proofs.lemmas.Option.{slice_get-get_or}
use Rattle.dtal_code.specs.Places.{places_of}
use Rattle.dtal_code.specs.Guessed.{first_of, second_of, high_of, bytes_in}
use Rattle.dtal_code.specs.Machine.{Activation, On}
use Rattle.dtal_code.specs.Running.{first_activation, begins}
use Rattle.dtal_code.specs.declared.limits.TheConstants.{PLACES}
use Rattle.dtal_machine.specs.declared.run.Caller.{Caller}
use Rattle.dtal_machine.specs.Acting.{read_words}
use Rattle.dtal_machine.specs.Stacks.{activation, callers_on, base_of, top_of, callers_of, state_of}
use Rattle.dtal_machine.proofs.Frames.{callers_length, grown_top, grown_callers, begun, not_begun, some_within, frame_length}
use Rattle.dtal_machine.proofs.ReadPlaces.{read_length}
use Rattle.dtal_machine.proofs.calls.call.Goals as goal

pub returns-then-run-len-clause-exact : goal.returns-then-run-len-clause-exact
returns-then-run-len-clause-exact c =
    let run = c.args.run.now in
    let n = callers_length [] run.callers.items (take (base_of run) run.places.items) in
    let full : run.depth ≤ suc (length (callers_of run)) = omega arith in
    not_begun (state_of run) (top_of run ∷ callers_of run) (slice_get c.args.starts.now (high_of c.args.first)) (first_of c.args.first) _ c.requires.there full

pub bounds-starts-high : goal.bounds-starts-high
bounds-starts-high c = (let less = some_within c.args.starts.now (high_of c.args.first) c.requires.there in omega (arith, less, c.high.ensures))

pub returns-clause-exact : goal.returns-clause-exact
returns-clause-exact c =
    let run = c.args.run.now in
    let old = run.places.items in
    let words = read_words (drop (base_of run) old) (bytes_in (second_of c.args.first) c.args.second) in
    let new = c.put_called.new.places.items in
    let more = c.push.new.self.items in
    let caller : Caller = record { at = run.at; result_to = run.result_to } in
    let begins_with : ℕ → ℕ → List ℤ = λ base count. old ++ places_of (read_words (drop base old) (bytes_in count c.args.second)) in
    let new-is : new ≡ old ++ places_of words = c.put_called.ensures.places ∙ ap (λ b. begins_with b c.byte.result) c.base-base.ensures.base ∙ ap (begins_with (base_of run)) c.byte.ensures in
    let more-is : more ≡ run.callers.items ++ caller ∷ [] = c.in-Ok.ensures.items in
    let less = some_within c.args.starts.now (high_of c.args.first) c.requires.there in
    let start = slice_index_or c.args.starts.now c.high.result 0 in
    let start-is : slice_get c.args.starts.now (high_of c.args.first) ≡ Some start =
    slice_get-get_or c.args.starts.now (high_of c.args.first) 0 less ∙ ap (λ k. Some (slice_index_or c.args.starts.now k 0)) (sym c.high.ensures) in
    let n = callers_length [] run.callers.items (take (base_of run) old) in
    let room : suc (length (callers_of run)) < run.depth = omega arith in
    let by_place : ℕ → List Activation = λ p. first_activation start words (Some p) ∷ top_of run ∷ callers_of run in
    let by_frame : List ℤ → List Activation = λ frame. activation start (Some c.byte-2.result) frame ∷ top_of run ∷ callers_of run in
    let by_callers : List Activation → List Activation = λ callers. activation start (Some c.byte-2.result) (drop (PLACES * length more) new) ∷ callers in
    let acts : first_activation start words (Some (first_of c.args.first)) ∷ top_of run ∷ callers_of run
    ≡ activation start (Some c.byte-2.result) (drop (PLACES * length more) new) ∷ callers_on [] more (take (PLACES * length more) new) =
    ap by_place (sym c.byte-2.ensures) ∙ ap by_frame (sym (grown_top old new (places_of words) run.callers.items more caller new-is more-is c.requires.shape.places))
    ∙ ap by_callers (sym (grown_callers old new (places_of words) run.callers.items more caller new-is more-is c.requires.shape.places)) in
    ap (λ o. begins (state_of run) (top_of run ∷ callers_of run) o (first_of c.args.first ∷ []) words) start-is
    ∙ begun (state_of run) (top_of run ∷ callers_of run) start (first_of c.args.first) words room
    ∙ ap (λ (a : List Activation). On None (record (state_of run) { activations = a })) acts

pub returns-clause-shape : goal.returns-clause-shape
returns-clause-shape c =
    let run = c.args.run.now in
    let shape = c.requires.shape in
    let words = read_words (drop c.base-base.result run.places.items) (bytes_in c.byte.result c.args.second) in
    let caller : Caller = record { at = run.at; result_to = run.result_to } in
    let more-is : c.push.new.self.items ≡ run.callers.items ++ caller ∷ [] = c.in-Ok.ensures.items in
    let count = read_length (drop c.base-base.result run.places.items) c.byte.result c.args.second in
    let few : length words ≤ 256 = omega (arith, count, c.byte.ensures, c.requires.few) in
    let frame = frame_length words few in
    let grown = ap length c.put_called.ensures.places ∙ length-append run.places.items (places_of words) in
    let called = ap length more-is ∙ length-append run.callers.items (caller ∷ []) in
    let Waits : Caller → Type 0 = λ caller. caller.at < 2 ^ 63 in
    let waiting = All-append Waits run.callers.items (caller ∷ []) shape.waiting (All-cons Waits caller [] c.requires.at (All-nil Waits)) in
    record {
      store = shape.store;
      places = omega (arith, grown, called, frame, shape.places);
      live = omega (arith, called);
      waiting = subst (All Waits) (sym more-is) waiting;
      small = shape.small;
      room = omega (arith, shape.room, c.put_called.ensures.room);
      callers_room = omega (arith, shape.callers_room, c.in-Ok.ensures.capacity);
    }
