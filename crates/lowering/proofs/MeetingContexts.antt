-- Where branches meet and loops begin: what elaboration asks of the ways and goes on with, beside what typing over places asks of the code.
--
-- The noted states stand at the code's labels, in order, and the notes of ways give each jump its values. So the code is gone through
-- instruction by instruction, by these alone. On each way the rows are those that a label demands, in the context there.
use Rattle.std.proofs.Common.{◌≡◌, ℕ, suc, true, false, ◌==◌, if◌then◌else◌, List, [], ◌∷◌, ◌++◌, map, length, Option, Some, None, Result, Ok, Err, pos, negsuc, refl}
use Rattle.index_sorts.specs.Context.{IndexContext}
use Rattle.index_sorts.specs.Known.{knows, with_row}
use Rattle.state_types.specs.Matching.{matched, found_with, pairs_of, pair_of, pair_at, values_for, value_for, demanded, type_rows, index_rows, differences, own_rows}
use Rattle.state_types.specs.PlaceTypes.{type_at}
use Rattle.state_types.specs.Types.{subst_ty}
use Rattle.state_types.specs.Unpacking.{with_rows}
use Rattle.state_types.specs.declared.state.StateType.{StateType}
use Rattle.state_types.specs.declared.types.Ty.{Ty}
use Rattle.operation_rules.specs.Applied as applying
use Rattle.operation_rules.specs.Applied.{Ruled, applied, widened, all_assuming, named, all_there, ruled}
use Rattle.operation_rules.specs.Forms.{variables_from}
use Rattle.operation_rules.specs.Rules as rules
use Rattle.operation_rules.specs.Rules.{rule, two_numbers, quotient, remainder, measured, loaded, stored, allocated, constructed, called, returned, tuple_at, cell_at, of_kinds}
use Rattle.operation_rules.specs.Sides.{side}
use Rattle.operation_rules.specs.declared.operation.Operation.{Operation}
use Rattle.operation_rules.specs.declared.operation.Operation.TheVariants as operation
use Rattle.xan_lin.specs.Linear.{Linear, sized, excess_of}
use Rattle.xan_lin.specs.Subst.{replacement, replaced_terms, replaced_constant}
use Rattle.xan_lin.specs.Terms.{sum_terms, plus_term, scaled_terms}
use Rattle.xanadu_tree.specs.declared.expr.Op.TheVariants as op
use Rattle.xanadu_tree.specs.declared.expr.Rel.TheVariants as rel
use Rattle.xanadu_tree.specs.declared.stmt.Clause.{Clause}
use Rattle.xanadu_tree.specs.Small.{int_of}
use Rattle.xanadu_tree.specs.Plain.{Stmts, AStmt, Set, Return, If, While, Test, Leaf, Compare, Var, Len, Index}
use Rattle.typed_core.specs.declared.note.Note.{Note}
use Rattle.typed_core.specs.declared.note.Note.TheVariants as note
use Rattle.typed_core.specs.Constructs.{types_by, type_by, state_by, followed}
use Rattle.typed_core.specs.Forms.{type_of, renamed, renamed_type}
use Rattle.typed_core.specs.Joins as joins
use Rattle.typed_core.specs.Joins.{changes, changes_any, renewed, few_places, renewing, stating, stated_types, leading, first_past, joined, present, index_at, values_at, met_there, entered, entered_if, still_visible}
use Rattle.typed_core.specs.Limits.{Walk}
use Rattle.typed_core.specs.Operands.{operand, operands, chained}
use Rattle.typed_core.specs.States.{State, with_fresh, assuming, all_asked, demanding, noting_state, given, matching}
use Rattle.typed_core.specs.Statements.{statement, block, assigned, all_given, split, store, done, printed, returning, meeting, after_branches}
use Rattle.typed_core.specs.Strays.{terms_rise, values_rise}
use Rattle.typed_core.specs.Tests.{branched, truth_leaf, leaf, tested, all_true, all_false}
use Rattle.three_address.specs.Demands.{Demand, label_demands, places_demands, place_demands}
use Rattle.three_address.specs.Instructions.{Instruction, instruction_of}
use Rattle.three_address.specs.Typing.{ruled_in, with_types, state_of, stated}
use Rattle.three_address.specs.declared.instruction.LowInstr.{LowInstr}
use Rattle.value_lowering.specs.Frames.{kind_found}
use Rattle.lowering.specs.StatementCode.{statement_code, statement_labels, statement_size, block_code, block_labels, block_size}
use Rattle.lowering.specs.TestCode.{test_size, test_code, test_labels}
use Rattle.value_lowering.specs.ValueCode.{value_size, operand_places, value_code}
use Rattle.lowering.proofs.EachContext.{site, setting, frame, first_ctx, types, before, After, asked_of, unknown, of_variables, read_types}
use Rattle.lowering.proofs.LoweredSources.{two, number, one, variable, assuming as quantified}

-- ---- notes

-- a way into a state: the values of its variables, and the present types of those that its clause states
record Way : Type 0 where
  values : List (ℕ × Linear)
  types : List Ty

unfoldable ways_of : List Note → List Way
ways_of [] = []
ways_of (note.Edge values present numbers ∷ notes) = record { values = values; types = present } ∷ ways_of notes
ways_of (note.State state ∷ notes) = ways_of notes
ways_of (note.Demand numbers ∷ notes) = ways_of notes

unfoldable states_of : List Note → List StateType
states_of [] = []
states_of (note.Edge values present numbers ∷ notes) = states_of notes
states_of (note.State state ∷ notes) = state ∷ states_of notes
states_of (note.Demand numbers ∷ notes) = states_of notes

-- the positions of labels, with their states
unfoldable labelled : List ℕ → List StateType → List (ℕ × StateType)
labelled (at ∷ positions) (state ∷ states) = (at, state) ∷ labelled positions states
labelled _ _ = []

unfoldable state_at : ℕ → List (ℕ × StateType) → Option StateType
state_at at [] = None
state_at at (label ∷ labels) = if label.0 == at then Some label.1 else state_at at labels

-- ---- what is known behind statements, and on each noted way the types of the variables that a clause states

record Met : Type 0 where
  after : After
  types : List (List (Option Ty))

abbrev known_of : Walk State → Option Met
known_of (Err stop) = None
known_of (Ok st) = Some (record {
  after = record { ctx = st.ctx; types = st.types; asked = asked_of st.goals };
  types = map (λ way. map Some way.types) (ways_of st.notes);
})

-- ---- the code, instruction by instruction

abbrev onward : {A B : Type 0} → Option A → (A → Option B) → Option B
onward None more = None
onward (Some x) more = more x

-- what is known at a position, if control comes there from the one before; the ways that are left; and what was asked on those so far
record Place : Type 0 where
  state : Option StateType
  ways : List Way
  asked : List (IndexContext × Linear)
  types : List (List (Option Ty))

abbrev going : StateType → Place → Place
going state w = record w { state = Some state }

abbrev asking : List (IndexContext × Linear) → Place → Place
asking rows w = record w { asked = w.asked ++ rows }

-- a label's state is what its variables and rows state, added in order
abbrev restated : {E : Type 0} → Result IndexContext E → StateType → Option StateType
restated (Err e) state = None
restated (Ok ctx) state = Some (state_of ctx state.places)

-- and control comes there by jumps alone
abbrev beginning : (label : StateType) → (present : Option StateType) → Place → Option Place
beginning label None w = onward (restated (stated label.ctx.vars label.ctx.rows) label) (λ state. Some (going state w))
beginning label (Some state) w = None

abbrev begun : Option StateType → Place → Option Place
begun None w = Some w
begun (Some label) w = beginning label w.state w

abbrev unknown_of : {E : Type 0} → IndexContext → Result (List Demand) E → Option (List (IndexContext × Linear))
unknown_of ctx (Err e) = None
unknown_of ctx (Ok demands) = Some (unknown ctx (map (λ d. d.row) demands))

-- the rows that the label demands on a way with these values
abbrev arriving : List (ℕ × StateType) → (to : ℕ) → StateType → List (ℕ × Linear) → Option (List (IndexContext × Linear))
arriving labels to state values = onward (state_at to labels) (λ target. unknown_of state.ctx (label_demands state target values))

abbrev ending : Place → Place
ending w = record w { state = None }

-- by the next noted way, or where none is left by one that gives no values
abbrev jumping : (vars : List ℕ) → List (ℕ × StateType) → (to : ℕ) → StateType → List Way → Place → Option Place
jumping vars labels to state [] w = onward (arriving labels to state []) (λ rows. Some (ending (asking rows w)))
jumping vars labels to state (way ∷ ways) w =
    onward (arriving labels to state way.values)
    (λ rows. Some (record (ending (asking rows w)) { ways = ways; types = w.types ++ map (λ x. type_at x state.places) vars ∷ [] }))

abbrev assumed : {E : Type 0} → Result IndexContext E → Option IndexContext
assumed (Err e) = None
assumed (Ok ctx) = Some ctx

-- to the label with what its true side says, and on with what its false side says
abbrev parting : List (ℕ × StateType) → (to : ℕ) → Operation → List Ty → StateType → Place → Option Place
parting labels to o read state w =
    onward (assumed (all_assuming (side true o read) state.ctx))
    (λ taken. onward (arriving labels to (state_of taken state.places) [])
    (λ rows. onward (assumed (all_assuming (side false o read) state.ctx))
    (λ left. Some (going (state_of left state.places) (asking rows w)))))

abbrev led : (vars : List ℕ) → List (ℕ × StateType) → (to : ℕ) → Instruction → StateType → Ruled → Place → Operation → Option Place
led vars labels to i state ruled w (operation.Branch c) = parting labels to (operation.Branch c) (read_types i state) state w
led vars labels to i state ruled w (operation.BranchTruth b) = parting labels to (operation.BranchTruth b) (read_types i state) state w
led vars labels to i state ruled w operation.Jump = jumping vars labels to state w.ways w
led vars labels to i state ruled w operation.Return = Some (ending (asking (unknown state.ctx ruled.demands) w))
led vars labels to i state ruled w _ =
    Some (going (state_of ruled.ctx (with_types i.writes ruled.types state.places)) (asking (unknown state.ctx ruled.demands) w))

abbrev by_ruling : {E : Type 0} → (vars : List ℕ) → List (ℕ × StateType) → (to : ℕ) → Instruction → StateType → Result Ruled E → Place → Option Place
by_ruling vars labels to i state (Err e) w = None
by_ruling vars labels to i state (Ok ruled) w = led vars labels to i state ruled w i.operation

abbrev stepped : (vars : List ℕ) → List (ℕ × StateType) → LowInstr → Place → Option Place
stepped vars labels instr w =
    onward w.state
    (λ state. onward (instruction_of instr)
    (λ i. by_ruling vars labels instr.target i state (ruled_in setting i state) w))

unfoldable walked : (vars : List ℕ) → List (ℕ × StateType) → (at : ℕ) → List LowInstr → Place → Option Place
walked vars labels at [] w = begun (state_at at labels) w
walked vars labels at (instr ∷ code) w =
    onward (begun (state_at at labels) w)
    (λ here. onward (stepped vars labels instr here) (walked vars labels (suc at) code))

-- every noted way was gone
abbrev all_gone : List Way → StateType → Place → Option Met
all_gone (way ∷ ways) state w = None
all_gone [] state w =
    Some (record { after = record { ctx = state.ctx; types = of_variables state.places; asked = w.asked }; types = w.types })

abbrev begins : List Way → Place
begins ways = record { state = Some (state_of first_ctx types); ways = ways; asked = []; types = [] }

-- the code, by what is noted
abbrev typed_by : (vars : List ℕ) → Stmts → List Note → Option Met
typed_by vars ss notes =
    onward (walked vars (labelled (block_labels ss 0) (states_of notes)) 0 (block_code frame ss 0) (begins (ways_of notes)))
    (λ w. onward w.state (λ state. all_gone w.ways state w))

abbrev typed : (vars : List ℕ) → Stmts → Walk State → Option Met
typed vars ss (Err stop) = None
typed vars ss (Ok st) = typed_by vars ss st.notes

abbrev goals_of : Option Met → Option ℕ
goals_of None = None
goals_of (Some met) = Some (length met.after.asked)

-- Both sides have the same. A clause states the types of these variables, and so many rows are goals.
record Meets (vars : List ℕ) (ss : Stmts) (goals : ℕ) : Type 0 where
  same : known_of (block site ss before) ≡ typed vars ss (block site ss before)
  asked : goals_of (known_of (block site ss before)) ≡ Some goals

-- ---- branches

abbrev less : Test
less = Leaf (Compare rel.Lt (Var 1) (Len (Var 0)))

abbrev lowered_by_1 : Stmts
lowered_by_1 = one (Set 1 (two op.Sub (Var 1) (number 1)))

abbrev gives_1 : Stmts
gives_1 = one (Set 1 (number 1))

-- {k: nat | k <= v0} x: int(k)
abbrev up_to_length : Clause
up_to_length = record {
  first = 2;
  quant = quantified 1 (variable 2 ∷ record { terms = (pos 1, 0) ∷ (negsuc 0, 2) ∷ []; constant = pos 0 } ∷ []);
  vars = (1, int_of 2) ∷ [];
}

-- x: int(v1)
abbrev as_before : Clause
as_before = record { first = 2; quant = quantified 0 []; vars = (1, int_of 1) ∷ [] }

-- if (x < len(a)) { x = 1; } else { x = x - 1; }
plain_if_meets : Meets [] (one (If less gives_1 lowered_by_1 None 0)) 0
unfolding unknown of_variables walked ways_of states_of labelled state_at stated label_demands places_demands place_demands pair_at statement block block_code block_labels statement_labels statement_size block_size test_labels meeting after_branches changes changes_any renewed few_places renewing stating stated_types joins.with_types leading first_past joined present index_at values_at met_there entered entered_if still_visible with_fresh assuming assigned all_given split store done printed returning operand operands chained types_by type_by state_by followed widened all_assuming applying.all_given rule two_numbers quotient remainder measured loaded stored allocated constructed rules.split called returned rules.matching matching renamed renamed_type type_of tuple_at cell_at of_kinds branched truth_leaf leaf tested all_true all_false all_asked demanding noting_state given terms_rise values_rise excess_of variables_from knows with_row with_rows subst_ty matched found_with pairs_of pair_of values_for value_for demanded type_rows index_rows differences own_rows sized replacement replaced_terms replaced_constant sum_terms plus_term scaled_terms applied named all_there ruled instruction_of ruled_in with_types kind_found statement_code test_size test_code value_size operand_places value_code
plain_if_meets = record { same = refl; asked = refl }

-- the same, with `join` and a clause: three rows are goals, 1 <= v0 on the first way, and both on the second
stated_if_meets : Meets (1 ∷ []) (one (If less gives_1 lowered_by_1 (Some up_to_length) 0)) 3
unfolding unknown of_variables walked ways_of states_of labelled state_at stated label_demands places_demands place_demands pair_at statement block block_code block_labels statement_labels statement_size block_size test_labels meeting after_branches changes changes_any renewed few_places renewing stating stated_types joins.with_types leading first_past joined present index_at values_at met_there entered entered_if still_visible with_fresh assuming assigned all_given split store done printed returning operand operands chained types_by type_by state_by followed widened all_assuming applying.all_given rule two_numbers quotient remainder measured loaded stored allocated constructed rules.split called returned rules.matching matching renamed renamed_type type_of tuple_at cell_at of_kinds branched truth_leaf leaf tested all_true all_false all_asked demanding noting_state given terms_rise values_rise excess_of variables_from knows with_row with_rows subst_ty matched found_with pairs_of pair_of values_for value_for demanded type_rows index_rows differences own_rows sized replacement replaced_terms replaced_constant sum_terms plus_term scaled_terms applied named all_there ruled instruction_of ruled_in with_types kind_found statement_code test_size test_code value_size operand_places value_code
stated_if_meets = record { same = refl; asked = refl }

-- the clause states which number x is, so that both differences are goals on the first way, and the one that is below 0 on the second
fixed_if_meets : Meets (1 ∷ []) (one (If less gives_1 lowered_by_1 (Some as_before) 0)) 3
unfolding unknown of_variables walked ways_of states_of labelled state_at stated label_demands places_demands place_demands pair_at statement block block_code block_labels statement_labels statement_size block_size test_labels meeting after_branches changes changes_any renewed few_places renewing stating stated_types joins.with_types leading first_past joined present index_at values_at met_there entered entered_if still_visible with_fresh assuming assigned all_given split store done printed returning operand operands chained types_by type_by state_by followed widened all_assuming applying.all_given rule two_numbers quotient remainder measured loaded stored allocated constructed rules.split called returned rules.matching matching renamed renamed_type type_of tuple_at cell_at of_kinds branched truth_leaf leaf tested all_true all_false all_asked demanding noting_state given terms_rise values_rise excess_of variables_from knows with_row with_rows subst_ty matched found_with pairs_of pair_of values_for value_for demanded type_rows index_rows differences own_rows sized replacement replaced_terms replaced_constant sum_terms plus_term scaled_terms applied named all_there ruled instruction_of ruled_in with_types kind_found statement_code test_size test_code value_size operand_places value_code
fixed_if_meets = record { same = refl; asked = refl }

-- one branch does not complete: the other one's end goes on
first_alone_meets : Meets [] (one (If less lowered_by_1 (one (Return (Some (number 3)) 0)) None 0)) 0
unfolding unknown of_variables walked ways_of states_of labelled state_at stated label_demands places_demands place_demands pair_at statement block block_code block_labels statement_labels statement_size block_size test_labels meeting after_branches changes changes_any renewed few_places renewing stating stated_types joins.with_types leading first_past joined present index_at values_at met_there entered entered_if still_visible with_fresh assuming assigned all_given split store done printed returning operand operands chained types_by type_by state_by followed widened all_assuming applying.all_given rule two_numbers quotient remainder measured loaded stored allocated constructed rules.split called returned rules.matching matching renamed renamed_type type_of tuple_at cell_at of_kinds branched truth_leaf leaf tested all_true all_false all_asked demanding noting_state given terms_rise values_rise excess_of variables_from knows with_row with_rows subst_ty matched found_with pairs_of pair_of values_for value_for demanded type_rows index_rows differences own_rows sized replacement replaced_terms replaced_constant sum_terms plus_term scaled_terms applied named all_there ruled instruction_of ruled_in with_types kind_found statement_code test_size test_code value_size operand_places value_code
first_alone_meets = record { same = refl; asked = refl }

second_alone_meets : Meets [] (one (If less (one (Return (Some (number 3)) 0)) lowered_by_1 None 0)) 0
unfolding unknown of_variables walked ways_of states_of labelled state_at stated label_demands places_demands place_demands pair_at statement block block_code block_labels statement_labels statement_size block_size test_labels meeting after_branches changes changes_any renewed few_places renewing stating stated_types joins.with_types leading first_past joined present index_at values_at met_there entered entered_if still_visible with_fresh assuming assigned all_given split store done printed returning operand operands chained types_by type_by state_by followed widened all_assuming applying.all_given rule two_numbers quotient remainder measured loaded stored allocated constructed rules.split called returned rules.matching matching renamed renamed_type type_of tuple_at cell_at of_kinds branched truth_leaf leaf tested all_true all_false all_asked demanding noting_state given terms_rise values_rise excess_of variables_from knows with_row with_rows subst_ty matched found_with pairs_of pair_of values_for value_for demanded type_rows index_rows differences own_rows sized replacement replaced_terms replaced_constant sum_terms plus_term scaled_terms applied named all_there ruled instruction_of ruled_in with_types kind_found statement_code test_size test_code value_size operand_places value_code
second_alone_meets = record { same = refl; asked = refl }

-- and with a clause that is the one way in
second_stated_meets : Meets (1 ∷ []) (one (If less (one (Return (Some (Var 1)) 0)) lowered_by_1 (Some up_to_length) 0)) 2
unfolding unknown of_variables walked ways_of states_of labelled state_at stated label_demands places_demands place_demands pair_at statement block block_code block_labels statement_labels statement_size block_size test_labels meeting after_branches changes changes_any renewed few_places renewing stating stated_types joins.with_types leading first_past joined present index_at values_at met_there entered entered_if still_visible with_fresh assuming assigned all_given split store done printed returning operand operands chained types_by type_by state_by followed widened all_assuming applying.all_given rule two_numbers quotient remainder measured loaded stored allocated constructed rules.split called returned rules.matching matching renamed renamed_type type_of tuple_at cell_at of_kinds branched truth_leaf leaf tested all_true all_false all_asked demanding noting_state given terms_rise values_rise excess_of variables_from knows with_row with_rows subst_ty matched found_with pairs_of pair_of values_for value_for demanded type_rows index_rows differences own_rows sized replacement replaced_terms replaced_constant sum_terms plus_term scaled_terms applied named all_there ruled instruction_of ruled_in with_types kind_found statement_code test_size test_code value_size operand_places value_code
second_stated_meets = record { same = refl; asked = refl }

-- ---- loops

abbrev raised_by_1 : Stmts
raised_by_1 = one (Set 1 (two op.Add (Var 1) (number 1)))

-- while (x < len(a)) { x = x + 1; }
plain_while_meets : Meets [] (one (While less None raised_by_1 0)) 0
unfolding unknown of_variables walked ways_of states_of labelled state_at stated label_demands places_demands place_demands pair_at statement block block_code block_labels statement_labels statement_size block_size test_labels meeting after_branches changes changes_any renewed few_places renewing stating stated_types joins.with_types leading first_past joined present index_at values_at met_there entered entered_if still_visible with_fresh assuming assigned all_given split store done printed returning operand operands chained types_by type_by state_by followed widened all_assuming applying.all_given rule two_numbers quotient remainder measured loaded stored allocated constructed rules.split called returned rules.matching matching renamed renamed_type type_of tuple_at cell_at of_kinds branched truth_leaf leaf tested all_true all_false all_asked demanding noting_state given terms_rise values_rise excess_of variables_from knows with_row with_rows subst_ty matched found_with pairs_of pair_of values_for value_for demanded type_rows index_rows differences own_rows sized replacement replaced_terms replaced_constant sum_terms plus_term scaled_terms applied named all_there ruled instruction_of ruled_in with_types kind_found statement_code test_size test_code value_size operand_places value_code
plain_while_meets = record { same = refl; asked = refl }

-- the same with the clause at its head: x <= v0 is a goal on the way in, and 0 <= k + 1 on the way back
stated_while_meets : Meets (1 ∷ []) (one (While less (Some up_to_length) raised_by_1 0)) 2
unfolding unknown of_variables walked ways_of states_of labelled state_at stated label_demands places_demands place_demands pair_at statement block block_code block_labels statement_labels statement_size block_size test_labels meeting after_branches changes changes_any renewed few_places renewing stating stated_types joins.with_types leading first_past joined present index_at values_at met_there entered entered_if still_visible with_fresh assuming assigned all_given split store done printed returning operand operands chained types_by type_by state_by followed widened all_assuming applying.all_given rule two_numbers quotient remainder measured loaded stored allocated constructed rules.split called returned rules.matching matching renamed renamed_type type_of tuple_at cell_at of_kinds branched truth_leaf leaf tested all_true all_false all_asked demanding noting_state given terms_rise values_rise excess_of variables_from knows with_row with_rows subst_ty matched found_with pairs_of pair_of values_for value_for demanded type_rows index_rows differences own_rows sized replacement replaced_terms replaced_constant sum_terms plus_term scaled_terms applied named all_there ruled instruction_of ruled_in with_types kind_found statement_code test_size test_code value_size operand_places value_code
stated_while_meets = record { same = refl; asked = refl }

-- y = 0; x = 0; and then the sum of the array, with the clause: 0 <= k + 1 alone is a goal, and that k is within the array is known
sum_meets : Meets (1 ∷ [])
    (AStmt (Set 4 (number 0))
    (AStmt (Set 1 (number 0))
    (one (While less (Some up_to_length) (AStmt (Set 4 (two op.Add (Var 4) (Index (Var 0) (Var 1) 0))) raised_by_1) 0)))) 1
unfolding unknown of_variables walked ways_of states_of labelled state_at stated label_demands places_demands place_demands pair_at statement block block_code block_labels statement_labels statement_size block_size test_labels meeting after_branches changes changes_any renewed few_places renewing stating stated_types joins.with_types leading first_past joined present index_at values_at met_there entered entered_if still_visible with_fresh assuming assigned all_given split store done printed returning operand operands chained types_by type_by state_by followed widened all_assuming applying.all_given rule two_numbers quotient remainder measured loaded stored allocated constructed rules.split called returned rules.matching matching renamed renamed_type type_of tuple_at cell_at of_kinds branched truth_leaf leaf tested all_true all_false all_asked demanding noting_state given terms_rise values_rise excess_of variables_from knows with_row with_rows subst_ty matched found_with pairs_of pair_of values_for value_for demanded type_rows index_rows differences own_rows sized replacement replaced_terms replaced_constant sum_terms plus_term scaled_terms applied named all_there ruled instruction_of ruled_in with_types kind_found statement_code test_size test_code value_size operand_places value_code
sum_meets = record { same = refl; asked = refl }
