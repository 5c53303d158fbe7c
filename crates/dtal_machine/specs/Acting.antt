-- What a step that neither calls nor returns leaves of the uppermost activation and of the store.
use Rattle.std.specs.Prelude.{ℕ, ◌≤◌, ℤ, pos, Bool as Truth, true, false, List, [], ◌∷◌, map, vec_len, vec_capacity, slice_set, Option, Some, None, if◌then◌else◌}
use Rattle.std.specs.List.{slice_index_or}
use Rattle.xan_io.specs.Outcome as how
use Rattle.operation_rules.specs.Effects.{Effect, Writes, Prints, Takes, Calls, Gives, Ends, effect, fits_word}
use Rattle.operation_rules.specs.FlatWords.{Flat, flat_words}
use Rattle.dtal_code.specs.declared.object.RunOp.{RunOp}
use Rattle.dtal_code.specs.Instructions.{Instruction, instruction_of}
use Rattle.dtal_code.specs.Running.{words_in, with_words}
use Rattle.dtal_machine.specs.declared.done.Done.{Done}
use Rattle.dtal_machine.specs.declared.done.Done.TheVariants as done
use Rattle.dtal_machine.specs.declared.event.End.{End}
use Rattle.dtal_machine.specs.declared.event.End.TheVariants as ends
use Rattle.dtal_machine.specs.declared.store.Store.{Store}

-- ---- stores

-- the store, as definitions see it
abbrev pub flat : Store → Flat
flat store = record { words = store.words.items; heap = store.heap }

-- all memory that its words may want is there
pub record HasRoom (store : Store) : Type 0 where
  pub used : vec_len store.words ≤ store.heap
  pub there : store.heap ≤ vec_capacity store.words
  pub small : store.heap ≤ 67108864

-- ---- effects

abbrev pub NotStuck : Effect Flat → Type 0
NotStuck (Ends how.Stuck) = ⊥
NotStuck _ = Unit {0}

-- an exact result, where it is a word
abbrev pub fitting : ℤ → Option ℤ
fitting exact = if fits_word exact then Some exact else None

-- what a result does that may be no word
abbrev pub given_exact : Option ℤ → Flat → Effect Flat
given_exact None store = Ends how.Overflow
given_exact (Some word) store = Writes (word ∷ []) store

-- and what a block that may find no room
abbrev pub given_block : Option ℤ → Flat → Effect Flat
given_block None store = Ends how.NoStore
given_block (Some address) store = Writes (address ∷ []) store

-- the words of places; one that does not exist has 0
abbrev pub read_words : List ℤ → (reads : List ℕ) → List ℤ
read_words places reads = map (λ place. slice_index_or places place (pos 0)) reads

-- ---- what is left

abbrev pub end_how : End → how.How
end_how (ends.Returned word) = how.Returned word
end_how ends.NoStore = how.NoStore
end_how ends.Overflow = how.Overflow

-- how the activation goes on, the words of its places, and the store
pub record Left : Type 0 where
  pub done : Done
  pub places : List ℤ
  pub store : Flat

abbrev pub leaves : Done → List ℤ → Flat → Option Left
leaves done places store = Some (record { done = done; places = places; store = store })

abbrev pub wrote : Option (List ℤ) → Flat → Option Left
wrote None store = None
wrote (Some places) store = leaves done.GoesOn places store

-- an exact result goes to a place, where it is a word
abbrev pub left_exact : List ℤ → (place : ℕ) → Option ℤ → Flat → Option Left
left_exact places place None store = leaves (done.Ends ends.Overflow) places store
left_exact places place (Some word) store = leaves done.GoesOn (slice_set places place word) store

-- the address of a new block goes to a place, where there is room for it
abbrev pub after_block : List ℤ → (place : ℕ) → Option ℤ → Done × List ℤ
after_block places place None = (done.Ends ends.NoStore, places)
after_block places place (Some address) = (done.GoesOn, slice_set places place address)

-- to an instruction, or on
abbrev pub taken : Truth → (to : ℕ) → Done
taken true to = done.JumpsTo to
taken false to = done.GoesOn

abbrev pub ended_so : how.How → List ℤ → Flat → Option Left
ended_so how.NoStore places store = leaves (done.Ends ends.NoStore) places store
ended_so how.Overflow places store = leaves (done.Ends ends.Overflow) places store
ended_so (how.Returned word) places store = None
ended_so how.Stuck places store = None
ended_so how.Running places store = None

-- By the effect of the instruction. A call and a return are told elsewhere, and being stuck leaves nothing.
abbrev pub left : Instruction → List ℤ → Flat → Effect Flat → Option Left
left i places store (Writes words new) = wrote (with_words places i.writes words) new
left i places store (Prints number) = leaves (done.Prints number) places store
left i places store (Takes true) = leaves (done.JumpsTo i.target) places store
left i places store (Takes false) = leaves done.GoesOn places store
left i places store (Calls fun words) = None
left i places store (Gives word) = None
left i places store (Ends how) = ended_so how places store

abbrev pub with_read : Option (List ℤ) → (List ℤ → Option Left) → Option Left
with_read None more = None
with_read (Some words) more = more words

abbrev pub left_by : Instruction → List ℤ → Flat → Option Left
left_by i places store = with_read (words_in places i.reads) (λ words. left i places store (effect flat_words i.operation words store))

abbrev pub left_of : Option RunOp → List ℤ → Flat → Option Left
left_of None places store = None
left_of (Some op) places store = left_by (instruction_of op) places store
