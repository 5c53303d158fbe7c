-- The code and the labels of small sources, worked out by hand.
use Rattle.std.proofs.Common.{◌≡◌, ℕ, pos, List, [], ◌∷◌, refl}
use Rattle.xanadu_tree.specs.Plain.{Fun, Program}
use Rattle.three_address.specs.declared.instruction.LowInstr.{LowInstr}
use Rattle.three_address.specs.declared.instruction.Op22.TheVariants as op
use Rattle.three_address.proofs.LowSources.{instr, plain, literal, three, jump, calling as call, sum_code, down_code}
use Rattle.value_lowering.specs.Frames.{kind_found}
use Rattle.lowering.specs.Lowered.{body_of, number_of, places_reach, code_reach}
use Rattle.lowering.specs.StatementCode.{statement_size, statement_code, statement_labels}
use Rattle.lowering.specs.TestCode.{test_size, test_code, test_labels}
use Rattle.value_lowering.specs.ValueCode.{value_size, operand_places, value_code}
use Rattle.lowering.proofs.LoweredSources as source

abbrev Is : Program → Fun → (places : ℕ) → List LowInstr → (labels : List ℕ) → Type 0
Is program f places code labels = body_of program f ≡ record { places = places; code = code; labels = labels }

-- of a program with no declared types, and one function
abbrev IsAlone : Fun → (places : ℕ) → List LowInstr → (labels : List ℕ) → Type 0
IsAlone f places code labels = Is (source.program_of f) f places code labels

abbrev gives_back : ℕ → LowInstr
gives_back place = plain op.Ret (place ∷ [])

-- ---- the sum of an array, and a function that calls itself

sum_is : IsAlone source.sum 4 sum_code (3 ∷ 10 ∷ [])
unfolding value_size value_code operand_places test_size test_code test_labels statement_size statement_code statement_labels number_of places_reach code_reach kind_found
sum_is = refl

down_is : Is source.calls source.down 2 down_code (4 ∷ [])
unfolding value_size value_code operand_places test_size test_code test_labels statement_size statement_code statement_labels number_of places_reach code_reach kind_found
down_is = refl

calling_is : Is source.calls source.calling 2 (call 0 1 (0 ∷ []) ∷ gives_back 1 ∷ []) []
unfolding value_size value_code operand_places test_size test_code test_labels statement_size statement_code statement_labels number_of places_reach code_reach kind_found
calling_is = refl

-- ---- tests: where the first part of `||` is true, it goes to label 2, and where `&&` within it is false, to label 1

tested_is : IsAlone source.tested 3
    (instr op.Br (1 ∷ 0 ∷ []) (pos 1) 1
    ∷ literal 2 (pos 0)
    ∷ instr op.Br (2 ∷ 0 ∷ []) (pos 0) 2
    ∷ jump 1
    -- label 1
    ∷ literal 2 (pos 3)
    ∷ instr op.Br (0 ∷ 2 ∷ []) (pos 2) 3
    ∷ jump 2
    -- label 2
    ∷ literal 2 (pos 1)
    ∷ gives_back 2
    -- label 3
    ∷ literal 2 (pos 0)
    ∷ gives_back 2
    ∷ []) (4 ∷ 7 ∷ 9 ∷ [])
unfolding value_size value_code operand_places test_size test_code test_labels statement_size statement_code statement_labels number_of places_reach code_reach kind_found
tested_is = refl

looping_is : IsAlone source.looping 2
    (jump 1
    -- label 1
    ∷ instr op.Bt (0 ∷ []) (pos 0) 2
    ∷ instr op.Lb (1 ∷ []) (pos 1) 0
    ∷ instr op.Bf (1 ∷ []) (pos 0) 3
    ∷ jump 2
    -- label 2
    ∷ instr op.Lb (0 ∷ []) (pos 0) 0
    ∷ jump 1
    -- label 3
    ∷ literal 1 (pos 0)
    ∷ gives_back 1
    ∷ []) (1 ∷ 5 ∷ 7 ∷ [])
unfolding value_size value_code operand_places test_size test_code test_labels statement_size statement_code statement_labels number_of places_reach code_reach kind_found
looping_is = refl

-- ---- branches: both complete, so that they meet; behind the second `if` only one does, and there is no label

branches_are : IsAlone source.branches 3
    (literal 1 (pos 0)
    ∷ literal 2 (pos 0)
    ∷ instr op.Br (2 ∷ 0 ∷ []) (pos 1) 1
    ∷ literal 1 (pos 1)
    ∷ jump 2
    -- label 1
    ∷ literal 1 (pos 2)
    ∷ jump 2
    -- label 2
    ∷ literal 2 (pos 5)
    ∷ instr op.Br (0 ∷ 2 ∷ []) (pos 1) 3
    ∷ gives_back 1
    -- label 3
    ∷ literal 2 (pos 1)
    ∷ three op.Add 1 1 2
    ∷ gives_back 1
    ∷ []) (5 ∷ 7 ∷ 10 ∷ [])
unfolding value_size value_code operand_places test_size test_code test_labels statement_size statement_code statement_labels number_of places_reach code_reach kind_found
branches_are = refl

-- ---- chains

chained_is : IsAlone source.chained 4
    (literal 2 (pos 1)
    ∷ three op.Add 2 0 2
    ∷ three op.Mul 2 2 1
    ∷ literal 3 (pos 7)
    ∷ three op.Mod 3 1 3
    ∷ three op.Div 3 0 3
    ∷ three op.Sub 2 2 3
    ∷ gives_back 2
    ∷ []) []
unfolding value_size value_code operand_places test_size test_code test_labels statement_size statement_code statement_labels number_of places_reach code_reach kind_found
chained_is = refl

-- a result between goes to the first temporary, also where the first operand is a variable
three_terms_are : IsAlone source.three_terms 3
    (literal 1 (pos 1)
    ∷ three op.Add 1 0 1
    ∷ literal 2 (pos 2)
    ∷ three op.Add 0 1 2
    ∷ literal 1 (pos 1)
    ∷ three op.Add 1 1 0
    ∷ literal 2 (pos 2)
    ∷ three op.Add 1 1 2
    ∷ gives_back 1
    ∷ []) []
unfolding value_size value_code operand_places test_size test_code test_labels statement_size statement_code statement_labels number_of places_reach code_reach kind_found
three_terms_are = refl

-- ---- tuples and arrays

paired_is : Is source.pairs source.paired 4
    (literal 3 (pos 1)
    ∷ three op.Add 3 0 3
    ∷ instr op.Tup (3 ∷ 0 ∷ 3 ∷ []) (pos 2) 0
    ∷ instr op.Untup (3 ∷ 1 ∷ 2 ∷ []) (pos 2) 0
    ∷ three op.Sub 3 2 1
    ∷ gives_back 3
    ∷ []) []
unfolding value_size value_code operand_places test_size test_code test_labels statement_size statement_code statement_labels number_of places_reach code_reach kind_found
paired_is = refl

stores_are : IsAlone source.stores 6
    (plain op.Len (3 ∷ 0 ∷ [])
    ∷ literal 4 (pos 0)
    ∷ three op.New 2 3 4
    ∷ literal 3 (pos 1)
    ∷ three op.Add 3 1 3
    ∷ three op.Ld 4 2 1
    ∷ literal 5 (pos 0)
    ∷ three op.Ld 5 0 5
    ∷ three op.Add 4 4 5
    ∷ three op.St 0 3 4
    ∷ plain op.Len (3 ∷ 2 ∷ [])
    ∷ gives_back 3
    ∷ []) []
unfolding value_size value_code operand_places test_size test_code test_labels statement_size statement_code statement_labels number_of places_reach code_reach kind_found
stores_are = refl

-- ---- a unit function: its call writes t0, and it returns the number 0

printing_is : IsAlone source.printing 4
    (literal 2 (pos 0)
    ∷ three op.Sub 2 2 0
    ∷ plain op.Print (2 ∷ [])
    ∷ literal 2 (pos 1)
    ∷ three op.Sub 2 0 2
    ∷ literal 3 (pos 0)
    ∷ three op.Set 3 3 0
    ∷ call 0 2 (2 ∷ 3 ∷ [])
    ∷ literal 2 (pos 0)
    ∷ gives_back 2
    ∷ []) []
unfolding value_size value_code operand_places test_size test_code test_labels statement_size statement_code statement_labels number_of places_reach code_reach kind_found
printing_is = refl
