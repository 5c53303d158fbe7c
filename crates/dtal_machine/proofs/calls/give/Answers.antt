use Rattle.std.proofs.Common.{◌≡◌, ◌∙◌, ap, sym, ℕ, suc, ◌+◌, ◌-◌, ◌*◌, ◌<◌, ℤ, List, [], ◌∷◌, ◌++◌, drop, take, length, Some, None, FitsSigned, to_z, of_z, w64, rules, length-append, length-drop, arith}
use Rattle.std.specs.List.{slice_set}
use Rattle.std.proofs.lemmas.Int.{to_z-of_z}
use Rattle.std.proofs.lemmas.List.{length-take-le}
use Rattle.dtal_code.specs.Guessed.{first_of}
use Rattle.dtal_code.specs.Machine.{Activation, On, returns, moved_on}
use Rattle.dtal_code.specs.declared.limits.TheConstants.{PLACES}
use Rattle.dtal_machine.specs.Stacks.{activation, callers_on, base_of, callers_of, state_of}
use Rattle.dtal_machine.proofs.Frames.{split_callers, dropped_below, dropped_top, returned, behind_read}
use Rattle.dtal_machine.proofs.calls.give.Goals as goal

pub returns-clause-exact : goal.returns-clause-exact
returns-clause-exact c = λ word got.
    let run = c.args.run.now in
    let rest = c.pop.new.self.items in
    let caller = c.in-Some-pop.caller in
    let place = c.in-Some.place in
    let new = c.put_result.new.places.items in
    let base = base_of run in
    let low = PLACES * length rest in
    let items : run.callers.items ≡ rest ++ caller ∷ [] = c.in-Some-pop.ensures.items in
    let many = ap length items ∙ length-append rest (caller ∷ []) in
    let base-is : base ≡ low + PLACES = omega (arith, many) in
    let read = c.index-word.result.now in
    let read_fits : FitsSigned w64 read = search rules in
    let where_read : c.base-base.result + c.from.result ≡ base + first_of c.args.first = omega (arith, c.base-base.ensures.base, c.from.ensures, c.byte.ensures) in
    let same : read ≡ word = behind_read run.places.items base (first_of c.args.first) (c.base-base.result + c.from.result) read word where_read (search rules) c.index-word.ensures got in
    let by_base : ℕ → List ℤ = λ b. slice_set (take b run.places.items) (b - PLACES + place) word in
    let by_place : ℕ → List ℤ = λ k. slice_set (take c.base-base.result run.places.items) (c.base-base.result - PLACES + k) (to_z w64 (of_z w64 read)) in
    let by_word : ℤ → List ℤ = λ w. slice_set (take c.base-base.result run.places.items) (c.base-base.result - PLACES + place) w in
    let new-is : new ≡ slice_set (take base run.places.items) (base - PLACES + place) word =
    c.put_result.ensures.places ∙ ap by_place c.place_within.ensures.same ∙ ap by_word (to_z-of_z w64 read read_fits ∙ same) ∙ ap by_base c.base-base.ensures.base in
    let held = take base run.places.items in
    let held-len : length held ≡ PLACES * (length rest + 1) = (let n = length-take-le base run.places.items (omega (arith, c.requires.shape.places)) in omega (arith, base-is, n)) in
    let act = activation caller.at caller.result_to (drop low held) in
    let others = callers_on [] rest (take low held) in
    let callers-is : callers_of run ≡ act ∷ others = ap (λ cs. callers_on [] cs held) items ∙ split_callers rest caller held held-len in
    let within : place < PLACES = omega (arith, c.place_within.ensures.same, c.place_within.ensures.within) in
    let less : place < length act.places = (let n = length-drop low held in omega (arith, n, held-len, within)) in
    let one : suc caller.at ≡ caller.at + 1 = omega arith in
    let by_at : ℕ → List Activation = λ at. activation at caller.result_to (slice_set act.places place word) ∷ others in
    let by_places : List ℤ → List Activation = λ ps. activation (caller.at + 1) caller.result_to ps ∷ others in
    let by_others : List Activation → List Activation = λ os. activation (caller.at + 1) caller.result_to (drop low new) ∷ os in
    let acts : moved_on act (slice_set act.places place word) ∷ others ≡ activation (caller.at + 1) caller.result_to (drop low new) ∷ callers_on [] rest (take low new) =
    ap by_at one ∙ ap by_places (sym (dropped_top run.places.items new base low place word new-is base-is))
    ∙ ap by_others (ap (callers_on [] rest) (sym (dropped_below run.places.items new base low place word new-is base-is))) in
    ap (λ o. returns (state_of run) o (callers_of run) word) c.in-Some.is ∙ ap (λ cs. returns (state_of run) (Some place) cs word) callers-is
    ∙ returned (state_of run) place act others word less ∙ ap (λ (a : List Activation). On None (record (state_of run) { activations = a })) acts
