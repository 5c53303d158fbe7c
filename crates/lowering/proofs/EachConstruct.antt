-- Each construct by itself: what it leaves in variables and blocks, and what its code leaves in places and words.
--
-- Both sides begin in the same state: x is 7, b is true, a is an array of 4 and 5, p is a tuple of 3 and a, and y, z and c are not yet set.
-- A block's address is the number of words before it.
use Rattle.std.proofs.Common.{◌≡◌, ℕ, zero, suc, ℤ, pos, negsuc, false, List, [], ◌∷◌, ◌++◌, take, length, map, Option, Some, None, Ok, Err, refl, option_to_list}
use Rattle.state_types.specs.Words.{header_from}
use Rattle.operation_rules.specs.Effects.{cells_from}
use Rattle.operation_rules.specs.FlatWords.{is_whole_from}
use Rattle.xan_io.specs.Outcome.{Returned}
use Rattle.xanadu_tree.specs.declared.expr.Op.TheVariants as op
use Rattle.xanadu_tree.specs.declared.expr.Rel.TheVariants as rel
use Rattle.xanadu_tree.specs.declared.types.Kind.TheVariants as kind
use Rattle.xanadu_tree.specs.Small.{int_of, free}
use Rattle.xanadu_tree.specs.Plain.{Program, Fun, Stmts, NoStmt, AStmt, Set, Split, Store, Do, Print, If, While, Leaf, All, Any, Not, NoTest, ATest, Expr, Bool, Var, Neg, Chain, Compare, Index, Len, Call, Make, New, NoExpr, AnExpr, NoLink, ALink}
use Rattle.typed_core.specs.Meaning.{no_log}
use Rattle.typed_core.specs.SourceCalls.{body, called}
use Rattle.typed_core.specs.SourceOperands.{value_by, value, values, chained}
use Rattle.typed_core.specs.SourceRuns.{Answer, Env, Flow, Next as Completes, Gives, spent}
use Rattle.typed_core.specs.SourceStatements.{set_all, parts_read, cell_put, number_printed, turns, statement, block}
use Rattle.typed_core.specs.SourceTests.{decided, holds, all_hold, any_holds}
use Rattle.typed_core.specs.SourceValues.{Tag, Number, Truth as Boolean, Array, Tuple, Value, Block, words_of, have_tags, with_tags, tagged, used, cells_with, blocks_with, tags_of}
use Rattle.three_address.specs.Instructions.{instruction_of}
use Rattle.three_address.specs.Machine.{Activation, State, Next, On, Off, places_of, words_in, with_words, step, run}
use Rattle.three_address.specs.declared.function.LowFun.{LowFun}
use Rattle.three_address.proofs.LowSources.{number_sig}
use Rattle.value_lowering.specs.Frames.{kind_found}
use Rattle.lowering.specs.Lowered.{functions_of, number_of, places_reach, code_reach}
use Rattle.lowering.specs.StatementCode.{statement_size, statement_code, statement_labels}
use Rattle.lowering.specs.TestCode.{test_size, test_code, test_labels}
use Rattle.value_lowering.specs.ValueCode.{value_size, operand_places, value_code}
use Rattle.lowering.proofs.LoweredSources.{two, number, one, gives, main_of, pair}

-- ---- the state before

-- fun f(n: int): int { return n + 1; }
abbrev helper : Fun
helper = main_of (free 1) (int_of 0 ∷ []) (kind.Int ∷ []) (gives (two op.Add (Var 0) (number 1)))

-- a function with these variables, in which a statement stands
abbrev holder : Stmts → Fun
holder body = main_of (free 0) [] (kind.Int ∷ kind.Bool ∷ kind.Array 0 ∷ kind.Named 2 ∷ kind.Int ∷ kind.Int ∷ kind.Array 0 ∷ []) body

abbrev program_with : Stmts → Program
program_with body = record { types = pair ∷ []; funs = holder body ∷ helper ∷ []; main = 0 }

abbrev array_number : Value
array_number = record { tag = Array; word = pos 0 }

abbrev numeral : ℤ → Value
numeral n = record { tag = Number; word = n }

abbrev env : Env
env =
    Some (numeral (pos 7)) ∷ Some (record { tag = Boolean; word = pos 1 }) ∷ Some array_number ∷ Some (record { tag = Tuple; word = pos 1 })
    ∷ None ∷ None ∷ None ∷ []

abbrev blocks : List Block
blocks =
    record { descriptor = 0; cells = numeral (pos 4) ∷ numeral (pos 5) ∷ [] }
    ∷ record { descriptor = 5; cells = numeral (pos 3) ∷ array_number ∷ [] } ∷ []

-- ---- the same as words

abbrev address : List Block → ℤ → ℤ
address all (pos n) = pos (used (take n all))
address all (negsuc n) = negsuc n

abbrev word_by : Tag → List Block → ℤ → ℤ
word_by Number all w = w
word_by Boolean all w = w
word_by Array all w = address all w
word_by Tuple all w = address all w

abbrev word_of : List Block → Value → ℤ
word_of all v = word_by v.tag all v.word

abbrev word_in : List Block → Option Value → ℤ
word_in all None = pos 0
word_in all (Some v) = word_of all v

unfoldable flat : List Block → List Block → List ℤ
flat all [] = []
flat all (b ∷ bs) = pos b.descriptor ∷ pos (length b.cells) ∷ (map (λ v. word_of all v) b.cells ++ flat all bs)

-- what stands in variables and blocks, as words, and what was printed; or a function's result
pub record After : Type 0 where
  pub variables : List ℤ
  pub words : List ℤ
  pub printed : List ℤ

-- ---- both sides

abbrev of_flow : Answer (Unit {0}) Flow → Option After
of_flow (Err end) = None
of_flow (Ok (Completes e, st)) =
    Some (record { variables = map (λ o. word_in st.store.blocks o) e; words = flat st.store.blocks st.store.blocks; printed = st.printed })
of_flow (Ok (Gives v, st)) =
    Some (record { variables = word_of st.store.blocks v ∷ []; words = flat st.store.blocks st.store.blocks; printed = st.printed })

abbrev source_after : Stmts → Option After
source_after body =
    of_flow (block no_log (called no_log (program_with body).funs 9 5 1) 0 5 [] 0 body env
    (record { units = 4; store = record { blocks = blocks; heap = 40 }; printed = []; log = tt }))

abbrev of_places : (printed words : List ℤ) → List Activation → Option After
of_places printed words [] = None
of_places printed words (act ∷ callers) = Some (record { variables = take 7 act.places; words = words; printed = printed })

abbrev onward : Next → (printed : List ℤ) → (List ℤ → State → Option After) → Option After
onward (On number state) printed more = more (printed ++ option_to_list number) state
onward (Off how) printed more = None

unfoldable steps : List LowFun → ℕ → List ℤ → State → Option After
steps funs zero printed state = of_places printed state.store.words state.activations
steps funs (suc count) printed state = onward (step funs state) printed (steps funs count)

abbrev low_funs : Stmts → List LowFun
low_funs body = functions_of (program_with body) (program_with body).funs (number_sig ∷ number_sig ∷ [])

abbrev low_before : State
low_before = record {
  store = record { words = flat blocks blocks; heap = 40 };
  depth = 9;
  activations = record { fun = 0; at = 0; places = places_of (map (λ o. word_in blocks o) env); result_to = None } ∷ [];
}

abbrev low_after : Stmts → (count : ℕ) → Option After
low_after body count = steps (low_funs body) count [] low_before

abbrev Does : Stmts → (count : ℕ) → (variables words printed : List ℤ) → Type 0
Does body count variables words printed =
    (source_after body ≡ Some (record { variables = variables; words = words; printed = printed }))
    × (low_after body count ≡ Some (record { variables = variables; words = words; printed = printed }))

-- the words before
abbrev before : List ℤ
before = pos 0 ∷ pos 2 ∷ pos 4 ∷ pos 5 ∷ pos 5 ∷ pos 2 ∷ pos 3 ∷ pos 0 ∷ []

-- the variables, where y, z and c have these words
abbrev with : (y z c : ℕ) → List ℤ
with y z c = pos 7 ∷ pos 1 ∷ pos 0 ∷ pos 4 ∷ pos y ∷ pos z ∷ pos c ∷ []

-- y is set to a value, which changes no block
abbrev Sets : Expr → (count y : ℕ) → Type 0
Sets e count y = Does (one (Set 4 e)) count (with y 0 0) before []

-- ---- expressions

literal_does : Sets (number 12) 1 12
unfolding flat steps functions_of value_size value_code operand_places test_size test_code test_labels statement_size statement_code statement_labels number_of places_reach code_reach kind_found step instruction_of words_in with_words places_of header_from is_whole_from value values chained holds all_hold any_holds statement block turns body called value_by decided parts_read cell_put number_printed set_all spent words_of have_tags with_tags tagged used cells_with blocks_with tags_of cells_from
literal_does = (refl, refl)

truth_does : Does (one (Set 1 (Bool false))) 1 (pos 7 ∷ pos 0 ∷ pos 0 ∷ pos 4 ∷ pos 0 ∷ pos 0 ∷ pos 0 ∷ []) before []
unfolding flat steps functions_of value_size value_code operand_places test_size test_code test_labels statement_size statement_code statement_labels number_of places_reach code_reach kind_found step instruction_of words_in with_words places_of header_from is_whole_from value values chained holds all_hold any_holds statement block turns body called value_by decided parts_read cell_put number_printed set_all spent words_of have_tags with_tags tagged used cells_with blocks_with tags_of cells_from
truth_does = (refl, refl)

variable_does : Sets (Var 0) 1 7
unfolding flat steps functions_of value_size value_code operand_places test_size test_code test_labels statement_size statement_code statement_labels number_of places_reach code_reach kind_found step instruction_of words_in with_words places_of header_from is_whole_from value values chained holds all_hold any_holds statement block turns body called value_by decided parts_read cell_put number_printed set_all spent words_of have_tags with_tags tagged used cells_with blocks_with tags_of cells_from
variable_does = (refl, refl)

negation_does : Does (one (Set 4 (Neg (Var 0)))) 2 (pos 7 ∷ pos 1 ∷ pos 0 ∷ pos 4 ∷ negsuc 6 ∷ pos 0 ∷ pos 0 ∷ []) before []
unfolding flat steps functions_of value_size value_code operand_places test_size test_code test_labels statement_size statement_code statement_labels number_of places_reach code_reach kind_found step instruction_of words_in with_words places_of header_from is_whole_from value values chained holds all_hold any_holds statement block turns body called value_by decided parts_read cell_put number_printed set_all spent words_of have_tags with_tags tagged used cells_with blocks_with tags_of cells_from
negation_does = (refl, refl)

-- 7 * 3 + (7 / 2 - 7 % 4)
chain_does : Sets (Chain (two op.Mul (Var 0) (number 3)) (ALink op.Add (two op.Sub (two op.Div (Var 0) (number 2)) (two op.Mod (Var 0) (number 4))) 0 NoLink)) 8 21
unfolding flat steps functions_of value_size value_code operand_places test_size test_code test_labels statement_size statement_code statement_labels number_of places_reach code_reach kind_found step instruction_of words_in with_words places_of header_from is_whole_from value values chained holds all_hold any_holds statement block turns body called value_by decided parts_read cell_put number_printed set_all spent words_of have_tags with_tags tagged used cells_with blocks_with tags_of cells_from
chain_does = (refl, refl)

comparison_does : Does (one (Set 1 (Compare rel.Gt (number 7) (Var 0)))) 2 (pos 7 ∷ pos 0 ∷ pos 0 ∷ pos 4 ∷ pos 0 ∷ pos 0 ∷ pos 0 ∷ []) before []
unfolding flat steps functions_of value_size value_code operand_places test_size test_code test_labels statement_size statement_code statement_labels number_of places_reach code_reach kind_found step instruction_of words_in with_words places_of header_from is_whole_from value values chained holds all_hold any_holds statement block turns body called value_by decided parts_read cell_put number_printed set_all spent words_of have_tags with_tags tagged used cells_with blocks_with tags_of cells_from
comparison_does = (refl, refl)

at_least_does : Does (one (Set 1 (Compare rel.Ge (number 7) (Var 0)))) 2 (with 0 0 0) before []
unfolding flat steps functions_of value_size value_code operand_places test_size test_code test_labels statement_size statement_code statement_labels number_of places_reach code_reach kind_found step instruction_of words_in with_words places_of header_from is_whole_from value values chained holds all_hold any_holds statement block turns body called value_by decided parts_read cell_put number_printed set_all spent words_of have_tags with_tags tagged used cells_with blocks_with tags_of cells_from
at_least_does = (refl, refl)

index_does : Sets (Index (Var 2) (number 1) 0) 2 5
unfolding flat steps functions_of value_size value_code operand_places test_size test_code test_labels statement_size statement_code statement_labels number_of places_reach code_reach kind_found step instruction_of words_in with_words places_of header_from is_whole_from value values chained holds all_hold any_holds statement block turns body called value_by decided parts_read cell_put number_printed set_all spent words_of have_tags with_tags tagged used cells_with blocks_with tags_of cells_from
index_does = (refl, refl)

length_does : Sets (Len (Var 2)) 1 2
unfolding flat steps functions_of value_size value_code operand_places test_size test_code test_labels statement_size statement_code statement_labels number_of places_reach code_reach kind_found step instruction_of words_in with_words places_of header_from is_whole_from value values chained holds all_hold any_holds statement block turns body called value_by decided parts_read cell_put number_printed set_all spent words_of have_tags with_tags tagged used cells_with blocks_with tags_of cells_from
length_does = (refl, refl)

-- the call, the two instructions of `f` and its return
call_does : Sets (Call 1 (AnExpr (two op.Mul (Var 0) (number 2)) NoExpr) 0) 6 15
unfolding flat steps functions_of value_size value_code operand_places test_size test_code test_labels statement_size statement_code statement_labels number_of places_reach code_reach kind_found step instruction_of words_in with_words places_of header_from is_whole_from value values chained holds all_hold any_holds statement block turns body called value_by decided parts_read cell_put number_printed set_all spent words_of have_tags with_tags tagged used cells_with blocks_with tags_of cells_from
call_does = (refl, refl)

tuple_does : Does (one (Set 3 (Make 2 (AnExpr (number 8) (AnExpr (Var 2) NoExpr)) 0))) 2 (pos 7 ∷ pos 1 ∷ pos 0 ∷ pos 8 ∷ pos 0 ∷ pos 0 ∷ pos 0 ∷ [])
    (before ++ pos 5 ∷ pos 2 ∷ pos 8 ∷ pos 0 ∷ []) []
unfolding flat steps functions_of value_size value_code operand_places test_size test_code test_labels statement_size statement_code statement_labels number_of places_reach code_reach kind_found step instruction_of words_in with_words places_of header_from is_whole_from value values chained holds all_hold any_holds statement block turns body called value_by decided parts_read cell_put number_printed set_all spent words_of have_tags with_tags tagged used cells_with blocks_with tags_of cells_from
tuple_does = (refl, refl)

array_does : Does (one (Set 6 (New 0 (number 3) (Var 0) 0))) 2 (with 0 0 8) (before ++ pos 0 ∷ pos 3 ∷ pos 7 ∷ pos 7 ∷ pos 7 ∷ []) []
unfolding flat steps functions_of value_size value_code operand_places test_size test_code test_labels statement_size statement_code statement_labels number_of places_reach code_reach kind_found step instruction_of words_in with_words places_of header_from is_whole_from value values chained holds all_hold any_holds statement block turns body called value_by decided parts_read cell_put number_printed set_all spent words_of have_tags with_tags tagged used cells_with blocks_with tags_of cells_from
array_does = (refl, refl)

-- ---- statements

split_does : Does (one (Split (4 ∷ 6 ∷ []) (Var 3) 0)) 1 (with 3 0 0) before []
unfolding flat steps functions_of value_size value_code operand_places test_size test_code test_labels statement_size statement_code statement_labels number_of places_reach code_reach kind_found step instruction_of words_in with_words places_of header_from is_whole_from value values chained holds all_hold any_holds statement block turns body called value_by decided parts_read cell_put number_printed set_all spent words_of have_tags with_tags tagged used cells_with blocks_with tags_of cells_from
split_does = (refl, refl)

-- the cell behind a tuple's part is the array's own
store_does : Does (AStmt (Split (4 ∷ 6 ∷ []) (Var 3) 0) (one (Store (Var 6) (number 0) (Var 0) 0))) 3 (with 3 0 0)
    (pos 0 ∷ pos 2 ∷ pos 7 ∷ pos 5 ∷ pos 5 ∷ pos 2 ∷ pos 3 ∷ pos 0 ∷ []) []
unfolding flat steps functions_of value_size value_code operand_places test_size test_code test_labels statement_size statement_code statement_labels number_of places_reach code_reach kind_found step instruction_of words_in with_words places_of header_from is_whole_from value values chained holds all_hold any_holds statement block turns body called value_by decided parts_read cell_put number_printed set_all spent words_of have_tags with_tags tagged used cells_with blocks_with tags_of cells_from
store_does = (refl, refl)

call_statement_does : Does (one (Do (Call 1 (AnExpr (Var 0) NoExpr) 0))) 4 (with 0 0 0) before []
unfolding flat steps functions_of value_size value_code operand_places test_size test_code test_labels statement_size statement_code statement_labels number_of places_reach code_reach kind_found step instruction_of words_in with_words places_of header_from is_whole_from value values chained holds all_hold any_holds statement block turns body called value_by decided parts_read cell_put number_printed set_all spent words_of have_tags with_tags tagged used cells_with blocks_with tags_of cells_from
call_statement_does = (refl, refl)

print_does : Does (AStmt (Print (Var 0)) (one (Print (Neg (Var 0))))) 4 (with 0 0 0) before (pos 7 ∷ negsuc 6 ∷ [])
unfolding flat steps functions_of value_size value_code operand_places test_size test_code test_labels statement_size statement_code statement_labels number_of places_reach code_reach kind_found step instruction_of words_in with_words places_of header_from is_whole_from value values chained holds all_hold any_holds statement block turns body called value_by decided parts_read cell_put number_printed set_all spent words_of have_tags with_tags tagged used cells_with blocks_with tags_of cells_from
print_does = (refl, refl)

-- the test, the assignment and the jump behind both
first_branch_does : Does (one (If (Leaf (Compare rel.Lt (number 3) (Var 0))) (one (Set 4 (number 1))) (one (Set 4 (number 2))) None 0)) 4 (with 1 0 0) before []
unfolding flat steps functions_of value_size value_code operand_places test_size test_code test_labels statement_size statement_code statement_labels number_of places_reach code_reach kind_found step instruction_of words_in with_words places_of header_from is_whole_from value values chained holds all_hold any_holds statement block turns body called value_by decided parts_read cell_put number_printed set_all spent words_of have_tags with_tags tagged used cells_with blocks_with tags_of cells_from
first_branch_does = (refl, refl)

second_branch_does : Does (one (If (Not (Leaf (Var 1))) (one (Set 4 (number 1))) (one (Set 4 (number 2))) None 0)) 3 (with 2 0 0) before []
unfolding flat steps functions_of value_size value_code operand_places test_size test_code test_labels statement_size statement_code statement_labels number_of places_reach code_reach kind_found step instruction_of words_in with_words places_of header_from is_whole_from value values chained holds all_hold any_holds statement block turns body called value_by decided parts_read cell_put number_printed set_all spent words_of have_tags with_tags tagged used cells_with blocks_with tags_of cells_from
second_branch_does = (refl, refl)

-- `&&`, whose first part is true and whose second one is false
all_does : Does (one (If (All (ATest (Leaf (Var 1)) (ATest (Leaf (Compare rel.Eq (Var 0) (number 8))) NoTest))) (one (Set 4 (number 1))) NoStmt None 0)) 4 (with 0 0 0) before []
unfolding flat steps functions_of value_size value_code operand_places test_size test_code test_labels statement_size statement_code statement_labels number_of places_reach code_reach kind_found step instruction_of words_in with_words places_of header_from is_whole_from value values chained holds all_hold any_holds statement block turns body called value_by decided parts_read cell_put number_printed set_all spent words_of have_tags with_tags tagged used cells_with blocks_with tags_of cells_from
all_does = (refl, refl)

-- `||`, whose first part is true
any_does : Does (one (If (Any (ATest (Leaf (Var 1)) (ATest (Leaf (Compare rel.Eq (Var 0) (number 8))) NoTest))) (one (Set 4 (number 1))) NoStmt None 0)) 3 (with 1 0 0) before []
unfolding flat steps functions_of value_size value_code operand_places test_size test_code test_labels statement_size statement_code statement_labels number_of places_reach code_reach kind_found step instruction_of words_in with_words places_of header_from is_whole_from value values chained holds all_hold any_holds statement block turns body called value_by decided parts_read cell_put number_printed set_all spent words_of have_tags with_tags tagged used cells_with blocks_with tags_of cells_from
any_does = (refl, refl)

-- two turns: a jump, a test and a branch three times, a turn of three instructions and a jump twice
loop_does : Does (AStmt (Set 4 (number 5)) (one (While (Leaf (Compare rel.Lt (Var 4) (Var 0))) None (one (Set 4 (two op.Add (Var 4) (number 1)))) 0))) 11 (with 7 0 0) before []
unfolding flat steps functions_of value_size value_code operand_places test_size test_code test_labels statement_size statement_code statement_labels number_of places_reach code_reach kind_found step instruction_of words_in with_words places_of header_from is_whole_from value values chained holds all_hold any_holds statement block turns body called value_by decided parts_read cell_put number_printed set_all spent words_of have_tags with_tags tagged used cells_with blocks_with tags_of cells_from
loop_does = (refl, refl)

-- ---- a return, which ends both

return_gives : (source_after (gives (two op.Add (Var 0) (number 1))) ≡ Some (record { variables = pos 8 ∷ []; words = before; printed = [] }))
    × (run (low_funs (gives (two op.Add (Var 0) (number 1)))) 3 [] low_before ≡ record { printed = []; how = Returned (pos 8) })
unfolding flat steps functions_of value_size value_code operand_places test_size test_code test_labels statement_size statement_code statement_labels number_of places_reach code_reach kind_found step run instruction_of words_in with_words places_of header_from is_whole_from value values chained holds all_hold any_holds statement block turns body called value_by decided parts_read cell_put number_printed set_all spent words_of have_tags with_tags tagged used cells_with blocks_with tags_of cells_from
return_gives = (refl, refl)
