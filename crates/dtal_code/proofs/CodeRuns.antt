-- Steps and runs of the machine, worked out by hand.
use Rattle.std.proofs.Common.{◌≡◌, ℕ, ℤ, pos, negsuc, true, List, [], ◌∷◌, ◌++◌, Some, None, Result, Ok, Err, refl}
use Rattle.xan_io.specs.declared.arg.Arg.TheVariants as arg
use Rattle.xan_io.specs.Entry.{EntryFault, ArgCount, ArgKind}
use Rattle.xan_io.specs.Outcome.{Outcome, Returned, NoStore, Stuck, Running}
use Rattle.state_types.specs.Words.{header_from}
use Rattle.operation_rules.specs.Effects.{cells_from}
use Rattle.operation_rules.specs.Entry.{kind_fault, variable_value, variable_values, index_fault, row_fault, entry_fault, placed}
use Rattle.xan_lin.specs.Value.{value_of_terms}
use Rattle.dtal_code.specs.declared.instruction.Cmp.TheVariants.{Lt, Ne}
use Rattle.dtal_code.specs.declared.object.RunOp.{RunOp}
use Rattle.dtal_code.specs.declared.object.RunOp.TheVariants.{Li, Lb, Mv, Add, Sub, Mul, Div, Mod, Set, Br, Bt, Bf, Jmp, Call, Ret, Len, Ld, St, New, Tup, Untup, Print}
use Rattle.dtal_code.specs.Declarations.{main_of}
use Rattle.dtal_code.specs.Places.{places_of}
use Rattle.dtal_code.specs.Grammar.{size_of}
use Rattle.dtal_code.specs.Machine.{Activation, State, Next, On, Off}
use Rattle.dtal_code.specs.ObjectCode.{instrs_of, functions_code, starts_from, program_size}
use Rattle.dtal_code.specs.ObjectWords.{word_of, words_of}
use Rattle.dtal_code.specs.Running.{words_in, with_words, first_activation, step, run}
use Rattle.dtal_code.specs.Runs.{program_entry, outcome_from, program_run}
use Rattle.dtal_code.specs.Safety.{addresses_from, touched}
use Rattle.dtal_code.proofs.ArraySums.{array_sum}

-- ---- steps: five places over a store with an array of two numbers, 5 and 7, and a tuple of one part, 1

abbrev store : List ℤ
store = pos 0 ∷ pos 2 ∷ pos 5 ∷ pos 7 ∷ pos 5 ∷ pos 1 ∷ pos 1 ∷ []

abbrev places : List ℤ
places = pos 0 ∷ pos 1 ∷ negsuc 6 ∷ pos 2 ∷ pos 4 ∷ []

abbrev state : List ℤ → List Activation → State
state words activations = record { words = words; heap = 10; depth = 2; activations = activations }

abbrev standing : (at : ℕ) → List ℤ → Activation
standing at places = record { at = at; places = places; result_to = None }

-- a step at the first of two instructions
abbrev does : RunOp → Next
does o = step (record { ops = o ∷ Ret 0 ∷ []; starts = 0 ∷ 1 ∷ [] }) (state store (standing 0 places ∷ []))

-- it moves on with these places
abbrev then : List ℤ → Next
then places = On None (state store (standing 1 places ∷ []))

abbrev first_is : ℤ → Next
first_is word = then (word ∷ pos 1 ∷ negsuc 6 ∷ pos 2 ∷ pos 4 ∷ [])

numbers : does (Li 0 (negsuc 2)) ∷ does (Lb 0 true) ∷ does (Mv 0 3) ∷ does (Add 0 2 3) ∷ does (Sub 0 2 3) ∷ does (Mul 0 2 3) ∷ does (Div 0 2 3) ∷ does (Mod 0 2 3)
    ∷ does (Set Lt 0 2 3) ∷ does (Set Ne 0 3 3) ∷ []
    ≡ first_is (negsuc 2) ∷ first_is (pos 1) ∷ first_is (pos 2) ∷ first_is (negsuc 4) ∷ first_is (negsuc 8) ∷ first_is (negsuc 13) ∷ first_is (negsuc 3) ∷ first_is (pos 1)
    ∷ first_is (pos 1) ∷ first_is (pos 0) ∷ []
unfolding step words_in with_words
numbers = refl

-- the divisor is 0 or less, or the place does not exist
stuck_numbers : does (Div 0 3 0) ∷ does (Mod 0 3 2) ∷ does (Mv 5 0) ∷ does (Mv 0 5) ∷ [] ≡ Off Stuck ∷ Off Stuck ∷ Off Stuck ∷ Off Stuck ∷ []
unfolding step words_in with_words
stuck_numbers = refl

-- a way to the next instruction of the two, one to the first of them, and ways past both
ways : does (Br Lt 2 3 0) ∷ does (Br Lt 3 2 0) ∷ does (Bt 1 0) ∷ does (Bf 1 0) ∷ does (Jmp 0) ∷ does (Jmp 2) ∷ []
    ≡ On None (state store (standing 0 places ∷ [])) ∷ then places ∷ On None (state store (standing 0 places ∷ [])) ∷ then places
    ∷ On None (state store (standing 0 places ∷ [])) ∷ Off Stuck ∷ []
unfolding step words_in
ways = refl

-- a function begins at its own first instruction, and one that does not exist cannot; the first activation's result is the run's
calls : does (Call 1 3 (record { items = 2 ∷ 1 ∷ [] })) ∷ does (Call 2 3 (record { items = [] })) ∷ does (Ret 2) ∷ does (Print 4) ∷ []
    ≡ On None (state store (first_activation 1 (negsuc 6 ∷ pos 1 ∷ []) (Some 3) ∷ standing 0 places ∷ [])) ∷ Off Stuck ∷ Off (Returned (negsuc 6))
    ∷ On (Some (pos 4)) (state store (standing 1 places ∷ [])) ∷ []
unfolding step words_in with_words
calls = refl

-- the result goes to the place of the call, and the caller goes on behind it
returns : step (record { ops = Call 0 3 (record { items = [] }) ∷ Ret 0 ∷ []; starts = 1 ∷ [] })
    (state store (record { at = 1; places = pos 8 ∷ []; result_to = Some 3 } ∷ standing 0 places ∷ []))
    ≡ then (pos 0 ∷ pos 1 ∷ negsuc 6 ∷ pos 8 ∷ pos 4 ∷ [])
unfolding step words_in with_words
returns = refl

-- two activations are the most
too_deep : step (record { ops = Call 0 3 (record { items = [] }) ∷ []; starts = 0 ∷ [] }) (state store (standing 0 places ∷ standing 0 places ∷ [])) ≡ Off NoStore
unfolding step words_in
too_deep = refl

blocks : does (Len 0 0) ∷ does (Ld 0 0 1) ∷ does (Untup 2 4 (record { items = 0 ∷ [] })) ∷ does (Len 0 1) ∷ does (Ld 0 0 3) ∷ does (Untup 2 4 (record { items = 0 ∷ 1 ∷ [] })) ∷ []
    ≡ first_is (pos 2) ∷ first_is (pos 7) ∷ first_is (pos 1) ∷ Off Stuck ∷ Off Stuck ∷ Off Stuck ∷ []
unfolding step words_in with_words header_from cells_from
blocks = refl

written : does (St 0 1 3) ≡ On None (state (pos 0 ∷ pos 2 ∷ pos 5 ∷ pos 2 ∷ pos 5 ∷ pos 1 ∷ pos 1 ∷ []) (standing 1 places ∷ []))
unfolding step words_in with_words header_from
written = refl

-- an array of one cell fills the store, and one of two cells does not fit
made : does (New 0 3 1 4) ∷ does (New 0 3 3 4) ∷ does (New 0 3 2 4) ∷ does (Tup 0 2 (record { items = 4 ∷ [] })) ∷ []
    ≡ On None (state (store ++ pos 6 ∷ pos 1 ∷ pos 4 ∷ []) (standing 1 (pos 7 ∷ pos 1 ∷ negsuc 6 ∷ pos 2 ∷ pos 4 ∷ []) ∷ [])) ∷ Off NoStore ∷ Off Stuck
    ∷ On None (state (store ++ pos 5 ∷ pos 1 ∷ pos 4 ∷ []) (standing 1 (pos 7 ∷ pos 1 ∷ negsuc 6 ∷ pos 2 ∷ pos 4 ∷ []) ∷ [])) ∷ []
unfolding step words_in with_words
made = refl

-- ---- touched addresses

abbrev touches : RunOp → List ℤ
touches o = touched (record { ops = o ∷ []; starts = [] }) (state store (standing 0 places ∷ []))

all_touched : touches (Len 0 0) ∷ touches (Ld 0 0 1) ∷ touches (St 0 1 3) ∷ touches (Untup 2 4 (record { items = 0 ∷ [] })) ∷ touches (New 0 3 1 4) ∷ touches (New 0 3 3 4)
    ∷ touches (Add 0 2 3) ∷ []
    ≡ (pos 1 ∷ []) ∷ (pos 3 ∷ []) ∷ (pos 3 ∷ []) ∷ (pos 6 ∷ []) ∷ (pos 7 ∷ pos 8 ∷ pos 9 ∷ []) ∷ [] ∷ [] ∷ []
unfolding touched words_in addresses_from
all_touched = refl

-- ---- words

add_words : words_of (Add 2 0 1) ≡ (16777732, 0)
unfolding word_of
add_words = refl

-- ---- a whole run: the sum of an array

abbrev at : ℕ → Result (ℕ → Outcome) EntryFault → Result Outcome EntryFault
at steps (Ok run) = Ok (run steps)
at steps (Err fault) = Err fault

abbrev ends_at : ℕ → List ℤ → (heap : ℕ) → Result Outcome EntryFault
ends_at steps cells heap = at steps (program_run array_sum (arg.Array cells ∷ []) heap 1)

abbrev numbers_given : List ℤ
numbers_given = pos 4 ∷ pos 5 ∷ negsuc 1 ∷ []

sums : ends_at 27 numbers_given 100 ∷ ends_at 26 numbers_given 100 ∷ ends_at 6 [] 2 ∷ ends_at 27 numbers_given 4 ∷ ends_at 27 numbers_given 5 ∷ []
    ≡ Ok (record { printed = []; how = Returned (pos 7) }) ∷ Ok (record { printed = []; how = Running }) ∷ Ok (record { printed = []; how = Returned (pos 0) })
    ∷ Ok (record { printed = []; how = NoStore }) ∷ Ok (record { printed = []; how = Returned (pos 7) }) ∷ []
unfolding program_run program_entry outcome_from run step words_in with_words places_of main_of size_of instrs_of functions_code starts_from program_size entry_fault kind_fault variable_value variable_values index_fault row_fault placed value_of_terms header_from
sums = refl

-- arguments with a fault have no run
faults : at 1 (program_run array_sum [] 9 1) ∷ at 1 (program_run array_sum (arg.Int (pos 1) ∷ []) 9 1) ∷ [] ≡ Err ArgCount ∷ Err (ArgKind 1) ∷ []
unfolding program_run program_entry main_of entry_fault kind_fault
faults = refl
