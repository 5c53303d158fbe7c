-- A step over object words, by the instruction that they code.
use Rattle.std.proofs.Common.{◌≡◌, ◌≢◌, ◌∙◌, ap, sym, subst, ℕ, ◌+◌, ◌*◌, ◌%◌, ◌<◌, ◌≤◌, ℤ, pos, List, [], ◌∷◌, length, option_map, Some, IsSome, arith}
use Rattle.std.specs.List.{slice_get, slice_index_or}
use Rattle.std.proofs.lemmas.List.{length-drop}
use Rattle.std.proofs.lemmas.Option.{slice_get-get_or}
use Rattle.xan_io.specs.Outcome.{Stuck}
use Rattle.dtal_code.specs.declared.object.RunOp.{RunOp}
use Rattle.dtal_code.specs.Guessed.{first_of, second_of, high_of, bytes_in, guessed}
use Rattle.dtal_code.specs.Instructions.{instruction_of}
use Rattle.dtal_code.specs.Machine.{Next, Off, returns}
use Rattle.dtal_code.specs.Running.{begins, performed, step}
use Rattle.dtal_code.proofs.Codings.{pair_guessed}
use Rattle.dtal_machine.specs.declared.run.Run.{Run}
use Rattle.dtal_machine.specs.Acting.{flat, left_of, read_words}
use Rattle.dtal_machine.specs.CodedWords.{StandsAt, code_in}
use Rattle.dtal_machine.specs.Stacks.{HasShape, HasCaller, base_of, top_of, callers_of, state_of, next_of}
use Rattle.dtal_machine.proofs.ReadPlaces.{listed_read}
use Rattle.dtal_machine.proofs.SimpleSteps.{step_is, plain_op, plain_goes, plain_next, called_op, call_is, starts_there, returned_op, return_is, has_caller}

module _ (words starts : List ℕ) (run : Run) (shape : HasShape run) (stands : StandsAt words run.at) where
  first : ℕ
  first = slice_index_or words (2 * run.at) 0

  second : ℕ
  second = slice_index_or words (2 * run.at + 1) 0

  does_next : (o : RunOp) → Next
  does_next o = performed (code_in words starts) (state_of run) (top_of run) (callers_of run) (instruction_of o)

  is_step : step (code_in words starts) (state_of run) ≡ does_next stands.op
  unfolding does_next
  is_step = step_is (code_in words starts) run stands.op stands.here

  guess : guessed first second ≡ Some stands.op
  unfolding first second
  guess = pair_guessed (slice_index_or words (2 * run.at) 0) (slice_index_or words (2 * run.at + 1) 0) stands.op stands.pair

  goes_next : step (code_in words starts) (state_of run) ≢ Off Stuck → does_next stands.op ≢ Off Stuck
  goes_next goes = subst (λ n. n ≢ Off Stuck) is_step goes

  top_places : length (top_of run).places ≡ 256
  top_places = (let n = length-drop (base_of run) run.places.items in omega (arith, n, shape.places))

  -- ---- calls

  called : Next
  called = begins (state_of run) (top_of run ∷ callers_of run) (slice_get starts (high_of first)) (first_of first ∷ []) (read_words (top_of run).places (bytes_in (second_of first) second))

  call_next : first % 256 ≡ 14 → does_next stands.op ≡ called
  unfolding does_next called
  call_next opcode =
      let call = called_op first second stands.op guess opcode in
      ap (λ o. performed (code_in words starts) (state_of run) (top_of run) (callers_of run) (instruction_of o)) (sym call.is)
      ∙ call_is (code_in words starts) (state_of run) (top_of run) (callers_of run) (high_of first) (first_of first) (record { items = bytes_in (second_of first) second }) _
      (listed_read (top_of run).places (second_of first) second top_places)

pub record CallReady (words starts : List ℕ) (run : Run) : Type 0 where
  pub few : second_of (slice_index_or words (2 * run.at) 0) ≤ 8
  pub there : IsSome (slice_get starts (high_of (slice_index_or words (2 * run.at) 0)))

pub call_ready : (words starts : List ℕ) (run : Run) → HasShape run → (stands : StandsAt words run.at) → step (code_in words starts) (state_of run) ≢ Off Stuck
    → slice_index_or words (2 * run.at) 0 % 256 ≡ 14 → CallReady words starts run
unfolding first second called
call_ready words starts run shape stands goes opcode =
    let call = called_op (slice_index_or words (2 * run.at) 0) (slice_index_or words (2 * run.at + 1) 0) stands.op (guess words starts run shape stands) opcode in
    record {
      few = call.few;
      there = starts_there (state_of run) (top_of run ∷ callers_of run) _ _ _ (subst (λ n. n ≢ Off Stuck) (call_next words starts run shape stands opcode) (goes_next words starts run shape stands goes));
    }

pub call_done : (words starts : List ℕ) (run : Run) → HasShape run → (stands : StandsAt words run.at) → slice_index_or words (2 * run.at) 0 % 256 ≡ 14 → (next : Next)
    → begins (state_of run) (top_of run ∷ callers_of run) (slice_get starts (high_of (slice_index_or words (2 * run.at) 0))) (first_of (slice_index_or words (2 * run.at) 0) ∷ [])
    (read_words (top_of run).places (bytes_in (second_of (slice_index_or words (2 * run.at) 0)) (slice_index_or words (2 * run.at + 1) 0))) ≡ next
    → step (code_in words starts) (state_of run) ≡ next
unfolding first second called
call_done words starts run shape stands opcode next e = is_step words starts run shape stands ∙ call_next words starts run shape stands opcode ∙ e

-- ---- returns

return_next : (words starts : List ℕ) (run : Run) (shape : HasShape run) (stands : StandsAt words run.at) → slice_index_or words (2 * run.at) 0 % 256 ≡ 15
    → (word : ℤ) → slice_get (top_of run).places (first_of (slice_index_or words (2 * run.at) 0)) ≡ Some word
    → does_next words starts run shape stands stands.op ≡ returns (state_of run) run.result_to (callers_of run) word
unfolding first second does_next
return_next words starts run shape stands opcode word got =
    let is = returned_op (slice_index_or words (2 * run.at) 0) (slice_index_or words (2 * run.at + 1) 0) stands.op (guess words starts run shape stands) opcode in
    ap (λ o. performed (code_in words starts) (state_of run) (top_of run) (callers_of run) (instruction_of o)) (sym is)
    ∙ return_is (code_in words starts) (state_of run) (top_of run) (callers_of run) (first_of (slice_index_or words (2 * run.at) 0)) word got

there : (run : Run) (shape : HasShape run) (k : ℕ) → k < 256 → slice_get (top_of run).places k ≡ Some (slice_index_or (top_of run).places k (pos 0))
there run shape k less = (let n = length-drop (base_of run) run.places.items in slice_get-get_or (top_of run).places k (pos 0) (omega (arith, n, shape.places)))

pub return_ready : (words starts : List ℕ) (run : Run) → HasShape run → (stands : StandsAt words run.at) → step (code_in words starts) (state_of run) ≢ Off Stuck
    → slice_index_or words (2 * run.at) 0 % 256 ≡ 15 → HasCaller run.result_to (length run.callers.items)
return_ready words starts run shape stands goes opcode =
    let got = there run shape (first_of (slice_index_or words (2 * run.at) 0)) (omega arith) in
    has_caller (state_of run) run.result_to run.callers.items _ _ (subst (λ n. n ≢ Off Stuck) (return_next words starts run shape stands opcode _ got) (goes_next words starts run shape stands goes))

pub return_done : (words starts : List ℕ) (run : Run) → HasShape run → (stands : StandsAt words run.at) → slice_index_or words (2 * run.at) 0 % 256 ≡ 15 → (next : Next)
    → ((word : ℤ) → slice_get (top_of run).places (first_of (slice_index_or words (2 * run.at) 0)) ≡ Some word → returns (state_of run) run.result_to (callers_of run) word ≡ next)
    → step (code_in words starts) (state_of run) ≡ next
return_done words starts run shape stands opcode next e =
    let got = there run shape (first_of (slice_index_or words (2 * run.at) 0)) (omega arith) in
    is_step words starts run shape stands ∙ return_next words starts run shape stands opcode _ got ∙ e _ got

-- ---- all others

pub other_ready : (words starts : List ℕ) (run : Run) → HasShape run → (stands : StandsAt words run.at) → step (code_in words starts) (state_of run) ≢ Off Stuck
    → slice_index_or words (2 * run.at) 0 % 256 ≢ 14 → slice_index_or words (2 * run.at) 0 % 256 ≢ 15
    → IsSome (left_of (guessed (slice_index_or words (2 * run.at) 0) (slice_index_or words (2 * run.at + 1) 0)) (top_of run).places (flat run.store))
unfolding first second does_next
other_ready words starts run shape stands goes not_call not_return =
    let plain = plain_op stands.op (slice_index_or words (2 * run.at) 0) (slice_index_or words (2 * run.at + 1) 0) stands.pair not_call not_return in
    subst (λ o. IsSome (left_of o (top_of run).places (flat run.store))) (sym (guess words starts run shape stands))
    (plain_goes (code_in words starts) (state_of run) (top_of run) (callers_of run) (instruction_of stands.op) plain (goes_next words starts run shape stands goes))

pub other_done : (words starts : List ℕ) (run : Run) → HasShape run → (stands : StandsAt words run.at) → step (code_in words starts) (state_of run) ≢ Off Stuck → (next : Next)
    → option_map (next_of (state_of run) (top_of run) (callers_of run))
    (left_of (guessed (slice_index_or words (2 * run.at) 0) (slice_index_or words (2 * run.at + 1) 0)) (top_of run).places (flat run.store)) ≡ Some next
    → step (code_in words starts) (state_of run) ≡ next
unfolding first second does_next
other_done words starts run shape stands goes next e =
    let left = subst (λ o. option_map (next_of (state_of run) (top_of run) (callers_of run)) (left_of o (top_of run).places (flat run.store)) ≡ Some next) (guess words starts run shape stands) e in
    is_step words starts run shape stands
    ∙ plain_next (code_in words starts) (state_of run) (top_of run) (callers_of run) (instruction_of stands.op) next (goes_next words starts run shape stands goes) left
