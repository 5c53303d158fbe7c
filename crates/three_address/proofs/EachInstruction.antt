-- A step of each instruction, worked out by hand.
use Rattle.std.proofs.Common.{◌≡◌, ℕ, ℤ, pos, negsuc, List, [], ◌∷◌, ◌++◌, codes, replicate, Some, None, refl}
use Rattle.xan_io.specs.Outcome.{Returned, NoStore, Overflow, Stuck}
use Rattle.operation_rules.specs.Effects.{cells_from}
use Rattle.operation_rules.specs.declared.operation.Operation.TheVariants.{Untuple}
use Rattle.state_types.specs.Words.{header_from}
use Rattle.three_address.specs.Instructions.{instruction_of}
use Rattle.three_address.specs.Machine.{Activation, State, Next, On, Off, step, words_in, with_words, places_of}
use Rattle.three_address.specs.declared.function.LowFun.{LowFun}
use Rattle.three_address.specs.declared.instruction.LowInstr.{LowInstr}
use Rattle.three_address.specs.declared.instruction.Op22.TheVariants as op
use Rattle.three_address.proofs.LowSources.{instr, plain, literal, three, jump, calling, number_sig}

-- a function of one instruction, whose label 1 is at position 7
abbrev alone : LowInstr → List LowFun
alone i = record { name = codes "f"; sig = number_sig; places = 4; code = i ∷ []; labels = 7 ∷ [] } ∷ []

-- an array of two numbers, 5 and 7, and then a tuple of one part, 1
abbrev block_words : List ℤ
block_words = pos 0 ∷ pos 2 ∷ pos 5 ∷ pos 7 ∷ pos 5 ∷ pos 1 ∷ pos 1 ∷ []

abbrev uppermost : (at : ℕ) → List ℤ → Activation
uppermost at places = record { fun = 0; at = at; places = places; result_to = None }

abbrev state_with : List ℤ → List Activation → State
state_with words acts = record { store = record { words = words; heap = 10 }; depth = 2; activations = acts }

-- from the first position, over these places
abbrev stepped : LowInstr → List ℤ → Next
stepped i places = step (alone i) (state_with block_words (uppermost 0 places ∷ []))

-- on to a position, with these places
abbrev reaches : (at : ℕ) → List ℤ → Next
reaches at places = On None (state_with block_words (uppermost at places ∷ []))

numbers : List ℤ
numbers = pos 0 ∷ negsuc 6 ∷ pos 2 ∷ pos 1 ∷ []

li : stepped (literal 0 (negsuc 4)) numbers ≡ reaches 1 (negsuc 4 ∷ negsuc 6 ∷ pos 2 ∷ pos 1 ∷ [])
unfolding numbers step instruction_of words_in with_words
li = refl

lb : stepped (instr op.Lb (0 ∷ []) (pos 1) 0) numbers ≡ reaches 1 (pos 1 ∷ negsuc 6 ∷ pos 2 ∷ pos 1 ∷ [])
unfolding numbers step instruction_of words_in with_words
lb = refl

mv : stepped (plain op.Mv (0 ∷ 2 ∷ [])) numbers ≡ reaches 1 (pos 2 ∷ negsuc 6 ∷ pos 2 ∷ pos 1 ∷ [])
unfolding numbers step instruction_of words_in with_words
mv = refl

add : stepped (three op.Add 0 1 2) numbers ≡ reaches 1 (negsuc 4 ∷ negsuc 6 ∷ pos 2 ∷ pos 1 ∷ [])
unfolding numbers step instruction_of words_in with_words
add = refl

sub : stepped (three op.Sub 0 1 2) numbers ≡ reaches 1 (negsuc 8 ∷ negsuc 6 ∷ pos 2 ∷ pos 1 ∷ [])
unfolding numbers step instruction_of words_in with_words
sub = refl

mul : stepped (three op.Mul 0 1 2) numbers ≡ reaches 1 (negsuc 13 ∷ negsuc 6 ∷ pos 2 ∷ pos 1 ∷ [])
unfolding numbers step instruction_of words_in with_words
mul = refl

div : stepped (three op.Div 0 1 2) numbers ≡ reaches 1 (negsuc 3 ∷ negsuc 6 ∷ pos 2 ∷ pos 1 ∷ [])
unfolding numbers step instruction_of words_in with_words
div = refl

mod_of : stepped (three op.Mod 0 1 2) numbers ≡ reaches 1 (pos 1 ∷ negsuc 6 ∷ pos 2 ∷ pos 1 ∷ [])
unfolding numbers step instruction_of words_in with_words
mod_of = refl

set : stepped (instr op.Set (0 ∷ 1 ∷ 2 ∷ []) (pos 3) 0) numbers ≡ reaches 1 (pos 1 ∷ negsuc 6 ∷ pos 2 ∷ pos 1 ∷ [])
unfolding numbers step instruction_of words_in with_words
set = refl

br : stepped (instr op.Br (1 ∷ 2 ∷ []) (pos 0) 1) numbers ≡ reaches 7 numbers
unfolding numbers step instruction_of words_in with_words
br = refl

br_on : stepped (instr op.Br (2 ∷ 1 ∷ []) (pos 0) 1) numbers ≡ reaches 1 numbers
unfolding numbers step instruction_of words_in with_words
br_on = refl

bt : stepped (instr op.Bt (3 ∷ []) (pos 0) 1) numbers ≡ reaches 7 numbers
unfolding numbers step instruction_of words_in with_words
bt = refl

bf : stepped (instr op.Bf (3 ∷ []) (pos 0) 1) numbers ≡ reaches 1 numbers
unfolding numbers step instruction_of words_in with_words
bf = refl

jmp : stepped (jump 1) numbers ≡ reaches 7 numbers
unfolding numbers step instruction_of words_in with_words
jmp = refl

no_label : stepped (jump 2) numbers ≡ Off Stuck
unfolding numbers step instruction_of words_in with_words
no_label = refl

-- the function begins with 2 and 1, above its caller
call : stepped (calling 0 3 (2 ∷ 3 ∷ [])) numbers
    ≡ On None (state_with block_words (record { fun = 0; at = 0; places = pos 2 ∷ pos 1 ∷ replicate 238 (pos 0); result_to = Some 3 } ∷ uppermost 0 numbers ∷ []))
unfolding numbers step instruction_of words_in with_words places_of
call = refl

ret : stepped (plain op.Ret (1 ∷ [])) numbers ≡ Off (Returned (negsuc 6))
unfolding numbers step instruction_of words_in with_words
ret = refl

len : stepped (plain op.Len (1 ∷ 0 ∷ [])) numbers ≡ reaches 1 (pos 0 ∷ pos 2 ∷ pos 2 ∷ pos 1 ∷ [])
unfolding numbers step instruction_of words_in with_words header_from
len = refl

ld : stepped (three op.Ld 1 0 3) numbers ≡ reaches 1 (pos 0 ∷ pos 7 ∷ pos 2 ∷ pos 1 ∷ [])
unfolding numbers step instruction_of words_in with_words header_from
ld = refl

ld_past : stepped (three op.Ld 1 0 2) numbers ≡ Off Stuck
unfolding numbers step instruction_of words_in with_words header_from
ld_past = refl

st : stepped (three op.St 0 3 1) numbers
    ≡ On None (state_with (pos 0 ∷ pos 2 ∷ pos 5 ∷ negsuc 6 ∷ pos 5 ∷ pos 1 ∷ pos 1 ∷ []) (uppermost 1 numbers ∷ []))
unfolding numbers step instruction_of words_in with_words header_from
st = refl

new : stepped (instr op.New (0 ∷ 3 ∷ 2 ∷ []) (pos 1) 0) numbers
    ≡ On None (state_with (block_words ++ pos 2 ∷ pos 1 ∷ pos 2 ∷ []) (uppermost 1 (pos 7 ∷ negsuc 6 ∷ pos 2 ∷ pos 1 ∷ []) ∷ []))
unfolding numbers step instruction_of words_in with_words
new = refl

no_room : stepped (instr op.New (0 ∷ 2 ∷ 2 ∷ []) (pos 1) 0) numbers ≡ Off NoStore
unfolding numbers step instruction_of words_in with_words
no_room = refl

tup : stepped (instr op.Tup (0 ∷ 1 ∷ []) (pos 2) 0) numbers
    ≡ On None (state_with (block_words ++ pos 5 ∷ pos 1 ∷ negsuc 6 ∷ []) (uppermost 1 (pos 7 ∷ negsuc 6 ∷ pos 2 ∷ pos 1 ∷ []) ∷ []))
unfolding numbers step instruction_of words_in with_words
tup = refl

-- the places that are written stand behind the one that is read
untup_is : instruction_of (instr op.Untup (0 ∷ 1 ∷ []) (pos 2) 0) ≡ Some (record { operation = Untuple 2 1; writes = 1 ∷ []; reads = 0 ∷ [] })
unfolding instruction_of
untup_is = refl

untup : stepped (instr op.Untup (0 ∷ 1 ∷ []) (pos 2) 0) (pos 4 ∷ pos 0 ∷ []) ≡ reaches 1 (pos 4 ∷ pos 1 ∷ [])
unfolding step instruction_of words_in with_words header_from cells_from
untup = refl

print : stepped (plain op.Print (1 ∷ [])) numbers ≡ On (Some (negsuc 6)) (state_with block_words (uppermost 1 numbers ∷ []))
unfolding numbers step instruction_of words_in with_words
print = refl

-- what has not the form of an instruction is stuck
bare : stepped (plain op.Add (0 ∷ 1 ∷ [])) numbers ≡ Off Stuck
unfolding numbers step instruction_of words_in with_words
bare = refl

past_comparisons : instruction_of (instr op.Br (0 ∷ 1 ∷ []) (pos 4) 1) ≡ None
unfolding instruction_of
past_comparisons = refl

no_place : stepped (literal 4 (pos 0)) numbers ≡ Off Stuck
unfolding numbers step instruction_of words_in with_words
no_place = refl

overflow : stepped (three op.Add 0 0 3) (pos 9223372036854775807 ∷ pos 0 ∷ pos 0 ∷ pos 1 ∷ []) ≡ Off Overflow
unfolding step instruction_of words_in with_words
overflow = refl

-- a result goes to the place that waits for it, and the caller goes on after its call
returned : step (alone (plain op.Ret (1 ∷ [])))
    (state_with block_words (record { fun = 0; at = 0; places = numbers; result_to = Some 3 } ∷ uppermost 4 numbers ∷ []))
    ≡ reaches 5 (pos 0 ∷ negsuc 6 ∷ pos 2 ∷ negsuc 6 ∷ [])
unfolding numbers step instruction_of words_in with_words
returned = refl
