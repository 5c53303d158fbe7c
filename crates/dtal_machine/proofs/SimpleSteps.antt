-- What a step is, by the instruction at which the uppermost activation stands.
use Rattle.std.proofs.Common.{◌≡◌, ◌≢◌, ◌∙◌, ap, refl, sym, arith, ℕ, ◌+◌, ◌*◌, ◌%◌, ◌<◌, ◌≤◌, ℤ, Bool as Truth, true, false, List, [], ◌∷◌, length, nat_lt, option_map, Option, Some, None, IsSome, if◌then◌else◌}
use Rattle.std.specs.List.{slice_get}
use Rattle.std.proofs.lemmas.Bool.{ltb-false}
use Rattle.std.proofs.lemmas.Option.{same_Some}
use Rattle.arrayvec.specs.ArrayVec.{ArrayVec}
use Rattle.xan_io.specs.Outcome as how
use Rattle.operation_rules.specs.Effects.{Effect, Writes, Prints, Takes, Calls, Gives, Ends, effect}
use Rattle.operation_rules.specs.FlatWords.{Flat, flat_words}
use Rattle.dtal_code.specs.declared.object.RunOp.{RunOp}
use Rattle.dtal_code.specs.declared.object.RunOp.TheVariants as op
use Rattle.dtal_code.specs.Guessed.{first_of, second_of, high_of, bytes_in, guessed_at, guessed}
use Rattle.dtal_code.specs.Instructions.{Instruction, instruction_of}
use Rattle.dtal_code.specs.Machine.{Activation, State, Next, Off, returns}
use Rattle.dtal_code.specs.ObjectCode.{Code}
use Rattle.dtal_code.specs.ObjectWords.{word_of, IsPair}
use Rattle.dtal_code.specs.Running.{words_in, with_words, store_of, goes_with, begins, acts, done, performed, fetched, step}
use Rattle.dtal_machine.specs.declared.run.Caller.{Caller}
use Rattle.dtal_machine.specs.declared.run.Run.{Run}
use Rattle.dtal_machine.specs.Acting.{Left, left, left_by, with_read, wrote}
use Rattle.dtal_machine.specs.Stacks.{HasCaller, callers_on, callers_of, top_of, state_of, next_of}
use Rattle.dtal_machine.proofs.SimpleEffects.{IsPlain, IsPlainOperation, plain_effect}
use Rattle.dtal_machine.proofs.ReadPlaces.{read_one}

none_is : {A : Type 0} (x : A) → (let o : Option A = None in o) ≡ Some x → ⊥
none_is x e = cc

pub step_is : (code : Code) (run : Run) (o : RunOp) → slice_get code.ops run.at ≡ Some o
    → step code (state_of run) ≡ performed code (state_of run) (top_of run) (callers_of run) (instruction_of o)
unfolding step
step_is code run o here = ap (fetched code (state_of run) (top_of run) (callers_of run)) here

-- ---- neither a call nor a return

low_byte : (word k rest : ℕ) → word ≡ k + 256 * rest → k < 256 → word % 256 ≡ k
low_byte word k rest is less = omega arith

pub plain_op : (o : RunOp) (first second : ℕ) → IsPair first second o → first % 256 ≢ 14 → first % 256 ≢ 15 → IsPlainOperation (instruction_of o).operation
unfolding word_of
plain_op (op.Call fun p args) first second pair not_call not_return = absurd (not_call (low_byte first 14 _ (ap (λ (w : ℕ × ℕ). w.0) pair.is) (omega arith)))
plain_op (op.Ret p) first second pair not_call not_return = absurd (not_return (low_byte first 15 _ (ap (λ (w : ℕ × ℕ). w.0) pair.is) (omega arith)))
plain_op _ first second pair not_call not_return = tt

module _ (code : Code) (state : State) (top : Activation) (callers : List Activation) (i : Instruction) where
  some_written : (words : List ℤ) (found : Option (List ℤ)) (new : Flat) → goes_with (record state { words = words }) top callers found ≢ Off how.Stuck → IsSome (wrote found new)
  some_written words None new goes = absurd (goes refl)
  some_written words (Some places) new goes = refl

  some_acts : (e : Effect Flat) → IsPlain e → acts code state top callers i e ≢ Off how.Stuck → IsSome (left i top.places (store_of state) e)
  some_acts (Writes words new) plain goes = some_written new.words (with_words top.places i.writes words) new goes
  some_acts (Prints number) plain goes = refl
  some_acts (Takes true) plain goes = refl
  some_acts (Takes false) plain goes = refl
  some_acts (Calls fun words) plain goes = absurd plain
  some_acts (Gives word) plain goes = absurd plain
  some_acts (Ends how.NoStore) plain goes = refl
  some_acts (Ends how.Overflow) plain goes = refl
  some_acts (Ends how.Stuck) plain goes = absurd (goes refl)
  some_acts (Ends (how.Returned word)) plain goes = absurd plain
  some_acts (Ends how.Running) plain goes = absurd plain

  some_done : (found : Option (List ℤ)) → IsPlainOperation i.operation → done code state top callers i found ≢ Off how.Stuck
      → IsSome (with_read found (λ words. left i top.places (store_of state) (effect flat_words i.operation words (store_of state))))
  some_done None plain goes = absurd (goes refl)
  some_done (Some words) plain goes = some_acts (effect flat_words i.operation words (store_of state)) (plain_effect i.operation words (store_of state) plain) goes

  pub plain_goes : IsPlainOperation i.operation → performed code state top callers i ≢ Off how.Stuck → IsSome (left_by i top.places (store_of state))
  plain_goes plain goes = some_done (words_in top.places i.reads) plain goes

  wrote_next : (found : Option (List ℤ)) (new : Flat) (l : Left) → wrote found new ≡ Some l → goes_with (record state { words = new.words }) top callers found ≡ next_of state top callers l
  wrote_next None new l e = absurd (none_is l e)
  wrote_next (Some places) new l e = ap (next_of state top callers) (same_Some _ l e)

  jumped : (test : Truth) (next : Next) → (if test then next else Off how.Stuck) ≢ Off how.Stuck → (if test then next else Off how.Stuck) ≡ next
  jumped true next goes = refl
  jumped false next goes = absurd (goes refl)

  acts_next : (e : Effect Flat) (l : Left) → acts code state top callers i e ≢ Off how.Stuck → left i top.places (store_of state) e ≡ Some l
      → acts code state top callers i e ≡ next_of state top callers l
  acts_next (Writes words new) l goes e = wrote_next (with_words top.places i.writes words) new l e
  acts_next (Prints number) l goes e = ap (next_of state top callers) (same_Some _ l e)
  acts_next (Takes true) l goes e = jumped (nat_lt i.target (length code.ops)) _ goes ∙ ap (next_of state top callers) (same_Some _ l e)
  acts_next (Takes false) l goes e = ap (next_of state top callers) (same_Some _ l e)
  acts_next (Calls fun words) l goes e = absurd (none_is l e)
  acts_next (Gives word) l goes e = absurd (none_is l e)
  acts_next (Ends how.NoStore) l goes e = ap (next_of state top callers) (same_Some _ l e)
  acts_next (Ends how.Overflow) l goes e = ap (next_of state top callers) (same_Some _ l e)
  acts_next (Ends how.Stuck) l goes e = absurd (none_is l e)
  acts_next (Ends (how.Returned word)) l goes e = absurd (none_is l e)
  acts_next (Ends how.Running) l goes e = absurd (none_is l e)

  done_next : (found : Option (List ℤ)) (l : Left) → done code state top callers i found ≢ Off how.Stuck
      → with_read found (λ words. left i top.places (store_of state) (effect flat_words i.operation words (store_of state))) ≡ Some l
      → done code state top callers i found ≡ next_of state top callers l
  done_next None l goes e = absurd (none_is l e)
  done_next (Some words) l goes e = acts_next (effect flat_words i.operation words (store_of state)) l goes e

  by_left : (found : Option Left) (next : Next) → left_by i top.places (store_of state) ≡ found → performed code state top callers i ≢ Off how.Stuck
      → option_map (next_of state top callers) found ≡ Some next → performed code state top callers i ≡ next
  by_left None next is goes e = absurd (none_is next e)
  by_left (Some l) next is goes e = done_next (words_in top.places i.reads) l goes is ∙ same_Some _ next e

  pub plain_next : (next : Next) → performed code state top callers i ≢ Off how.Stuck → option_map (next_of state top callers) (left_by i top.places (store_of state)) ≡ Some next
      → performed code state top callers i ≡ next
  plain_next next goes e = by_left (left_by i top.places (store_of state)) next refl goes e

-- ---- calls

pub record IsCall (first second : ℕ) (o : RunOp) : Type 0 where
  pub few : second_of first ≤ 8
  pub is : op.Call (high_of first) (first_of first) (record { items = bytes_in (second_of first) second }) ≡ o

call_by : (first second : ℕ) (o : RunOp) (test : Truth) → nat_lt 8 (second_of first) ≡ test
    → (if test then None else Some (op.Call (high_of first) (first_of first) (record { items = bytes_in (second_of first) second }))) ≡ Some o → IsCall first second o
call_by first second o true many e = absurd (none_is o e)
call_by first second o false few e = record { few = ltb-false 8 (second_of first) few; is = same_Some _ o e }

pub called_op : (first second : ℕ) (o : RunOp) → guessed first second ≡ Some o → first % 256 ≡ 14 → IsCall first second o
called_op first second o e opcode = call_by first second o (nat_lt 8 (second_of first)) refl (sym (ap (λ k. guessed_at k first second) opcode) ∙ e)

pub call_is : (code : Code) (state : State) (top : Activation) (callers : List Activation) (fun p : ℕ) (args : ArrayVec ℕ) (words : List ℤ) → words_in top.places args.items ≡ Some words
    → performed code state top callers (instruction_of (op.Call fun p args)) ≡ begins state (top ∷ callers) (slice_get code.starts fun) (p ∷ []) words
call_is code state top callers fun p args words e = ap (done code state top callers (instruction_of (op.Call fun p args))) e

pub starts_there : (state : State) (callers : List Activation) (found : Option ℕ) (p : ℕ) (words : List ℤ) → begins state callers found (p ∷ []) words ≢ Off how.Stuck → IsSome found
starts_there state callers None p words goes = absurd (goes refl)
starts_there state callers (Some start) p words goes = refl

-- ---- returns

pub returned_op : (first second : ℕ) (o : RunOp) → guessed first second ≡ Some o → first % 256 ≡ 15 → op.Ret (first_of first) ≡ o
returned_op first second o e opcode = same_Some _ o (sym (ap (λ k. guessed_at k first second) opcode) ∙ e)

pub return_is : (code : Code) (state : State) (top : Activation) (callers : List Activation) (p : ℕ) (word : ℤ) → slice_get top.places p ≡ Some word
    → performed code state top callers (instruction_of (op.Ret p)) ≡ returns state top.result_to callers word
return_is code state top callers p word e = ap (done code state top callers (instruction_of (op.Ret p))) (read_one top.places p word e)

pub has_caller : (state : State) (result_to : Option ℕ) (callers : List Caller) (places : List ℤ) (word : ℤ) → returns state result_to (callers_on [] callers places) word ≢ Off how.Stuck
    → HasCaller result_to (length callers)
unfolding callers_on
has_caller state None callers places word goes = tt
has_caller state (Some place) [] places word goes = absurd (goes refl)
has_caller state (Some place) (caller ∷ callers) places word goes = omega arith
