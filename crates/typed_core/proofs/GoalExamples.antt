-- The goals of small sources, worked out by hand.
use Rattle.std.proofs.Common.{◌≡◌, ℕ, ℤ, pos, negsuc, List, [], ◌∷◌, Result, Ok, Err, refl, Some, inl}
use Rattle.xan_lin.specs.declared.term.Term.{Term}
use Rattle.typed_core.specs.Goals.{elaborated, functions, function, body_start, Elaboration}
use Rattle.typed_core.specs.Headers.{few_declarations, few_parts, few_parameters, closed_type, closed_types, signature, signatures}
use Rattle.typed_core.specs.Forms.{type_of, forms_from, types_from, renamed, renamed_type}
use Rattle.typed_core.specs.Strays.{terms_rise, values_rise}
use Rattle.typed_core.specs.Constructs.{types_by, type_by, state_by, followed}
use Rattle.operation_rules.specs.Applied.{widened, all_assuming}
use Rattle.operation_rules.specs.Applied as applying
use Rattle.operation_rules.specs.Forms.{variables_from}
use Rattle.operation_rules.specs.Rules.{rule, two_numbers, quotient, remainder, measured, loaded, stored, allocated, constructed, called, returned, tuple_at, cell_at, of_kinds}
use Rattle.operation_rules.specs.Rules as rules
use Rattle.typed_core.specs.Places.{named_by, named_by_operands, named_by_links, test_named, tests_named, statement_named, statements_named, places_of}
use Rattle.typed_core.specs.Statements.{statement, block, assigned, split, store, done, printed, returning, all_given, meeting, after_branches}
use Rattle.typed_core.specs.Operands.{operand, operands, chained}
use Rattle.typed_core.specs.Tests.{branched, truth_leaf, leaf, tested, all_true, all_false}
use Rattle.typed_core.specs.Joins.{changes, changes_any, renewed, few_places, renewing, stating, stated_types, with_types, leading, first_past, joined, present, index_at, values_at, met_there, entered, entered_if, still_visible}
use Rattle.typed_core.specs.States.{with_fresh, assuming, all_asked, demanding, noting_state, given, matching}
use Rattle.index_sorts.specs.Known.{knows, with_row}
use Rattle.state_types.specs.Unpacking.{with_rows}
use Rattle.state_types.specs.Types.{subst_ty}
use Rattle.state_types.specs.Matching.{matched, found_with, pairs_of, pair_of, values_for, value_for, demanded, type_rows, index_rows, differences, own_rows}
use Rattle.xan_lin.specs.Linear.{Linear, variable_form, sized, excess_of}
use Rattle.xan_lin.specs.Subst.{replacement, replaced_terms, replaced_constant, zero_form}
use Rattle.xan_lin.specs.Terms.{sum_terms, plus_term, scaled_terms}
use Rattle.state_types.specs.declared.types.Ty.{Ty}
use Rattle.state_types.specs.declared.types.Ty.TheVariants as ty
use Rattle.xan_lin.specs.declared.term.LimitKind.TheVariants as limit
use Rattle.typed_core.specs.Limits.{Walk, Stop, Past}
use Rattle.typed_core.specs.declared.goal.GoalAt.{GoalAt}
use Rattle.typed_core.specs.declared.note.Note.{Note}
use Rattle.typed_core.specs.declared.note.Note.TheVariants as note
use Rattle.typed_core.proofs.Sources as source
use Rattle.xanadu_tree.specs.declared.expr.Op.TheVariants as op
use Rattle.xanadu_tree.specs.Plain as core
use Rattle.typed_core.specs.Reached.{IsBefore, StandsIn}

-- coefficients, each with its variable, and a constant
abbrev terms_of : List (ℤ × ℕ) → List Term
terms_of [] = []
terms_of (t ∷ ts) = record { var = t.1; coef = t.0 } ∷ terms_of ts

abbrev row : List (ℤ × ℕ) → ℤ → Linear
row terms constant = record { terms = terms_of terms; constant = constant }

abbrev v : ℕ → Linear
v x = variable_form x

-- v0 - v1, and less 1
abbrev rest : Linear
rest = row ((pos 1, 0) ∷ (negsuc 0, 1) ∷ []) (pos 0)

abbrev rest_less_1 : Linear
rest_less_1 = row ((pos 1, 0) ∷ (negsuc 0, 1) ∷ []) (negsuc 0)

abbrev goal_at : (at vars : ℕ) → List Linear → Linear → GoalAt
goal_at at vars rows r = record { fun = 0; at = at; ctx = record { vars = vars; rows = rows }; row = r }

abbrev state : (vars : ℕ) → List Linear → List (ℕ × Ty) → Note
state vars rows types = note.State (record { ctx = record { vars = vars; rows = rows }; places = types })

-- the goals alone, and the notes alone
abbrev goals_of : Walk Elaboration → Result (List GoalAt) Stop
goals_of (Ok made) = Ok made.goals
goals_of (Err stop) = Err stop

abbrev notes_of : Walk Elaboration → Result (List Note) Stop
notes_of (Ok made) = Ok made.notes
notes_of (Err stop) = Err stop

-- Of the sum of an array's cells, the loop's back edge has the only goal: v1 + 1 is at least 0. That it is at most v0 is known from the
-- test, and that the index is within the array from the clause and the test.
abbrev OfSum : Type 0
OfSum = goals_of (elaborated source.sum_of_cells) ≡ Ok (goal_at 63 4 (v 0 ∷ v 1 ∷ rest ∷ rest_less_1 ∷ []) (row ((pos 1, 1) ∷ []) (pos 1)) ∷ [])

-- the loop's head, its entry, the cell, the way back, behind the loop, the result
abbrev in_loop : List (ℕ × Ty)
in_loop = (0, ty.Array 0 (v 0)) ∷ (1, ty.Int (v 1)) ∷ (2, ty.Int (v 2)) ∷ []

abbrev NotesOfSum : Type 0
NotesOfSum = notes_of (elaborated source.sum_of_cells) ≡ Ok (
    state 3 (v 0 ∷ v 1 ∷ rest ∷ []) in_loop
    ∷ note.Edge ((1, zero_form) ∷ (2, zero_form) ∷ []) (ty.Int zero_form ∷ []) []
    ∷ note.Demand []
    ∷ note.Edge ((1, row ((pos 1, 1) ∷ []) (pos 1)) ∷ (2, row ((pos 1, 2) ∷ (pos 1, 3) ∷ []) (pos 0)) ∷ []) (ty.Int (row ((pos 1, 1) ∷ []) (pos 1)) ∷ []) (0 ∷ [])
    ∷ state 4 (v 0 ∷ v 1 ∷ rest ∷ row ((negsuc 0, 0) ∷ (pos 1, 1) ∷ []) (pos 0) ∷ []) in_loop
    ∷ note.Demand []
    ∷ [])

-- with `<=` the index may be the length
abbrev OfOneTooFar : Type 0
OfOneTooFar = goals_of (elaborated source.one_too_far) ≡ Ok (
    goal_at 141 3 (v 0 ∷ v 1 ∷ rest ∷ []) rest_less_1
    ∷ goal_at 63 4 (v 0 ∷ v 1 ∷ rest ∷ []) (row ((pos 1, 1) ∷ []) (pos 1))
    ∷ goal_at 63 4 (v 0 ∷ v 1 ∷ rest ∷ []) rest_less_1
    ∷ [])

-- without a clause nothing is known of the counter but the test
abbrev OfNotStated : Type 0
OfNotStated = goals_of (elaborated source.not_stated) ≡ Ok (goal_at 97 3 (v 0 ∷ rest_less_1 ∷ []) (v 1) ∷ [])

-- a divisor is at least 1
abbrev OfDivided : Type 0
OfDivided = goals_of (elaborated source.divided) ≡ Ok (goal_at 33 1 [] (row ((pos 1, 0) ∷ []) (negsuc 0)) ∷ [])

-- x is at most x + 1, which is the number 1
abbrev OfPairs : Type 0
OfPairs = goals_of (elaborated source.pairs) ≡ Ok []

-- A clause in a branch names the array, which so has another variable as its length behind the branch, though nothing is assigned.
abbrev OfInnerClause : Type 0
OfInnerClause = notes_of (elaborated source.inner_clause) ≡ Ok (
    state 2 (v 0 ∷ row ((negsuc 0, 0) ∷ []) (pos 2) ∷ v 1 ∷ []) ((0, ty.Array 0 (v 1)) ∷ [])
    ∷ note.Edge ((1, v 0) ∷ []) (ty.Array 0 (v 0) ∷ []) []
    ∷ note.Edge ((1, v 1) ∷ []) (ty.Array 0 (v 1) ∷ []) []
    ∷ state 2 (v 0 ∷ row ((negsuc 0, 0) ∷ []) (pos 2) ∷ v 1 ∷ []) ((0, ty.Array 0 (v 1)) ∷ [])
    ∷ state 2 (v 0 ∷ row ((pos 1, 0) ∷ []) (negsuc 2) ∷ []) ((0, ty.Array 0 (v 0)) ∷ [])
    ∷ state 3 (v 0 ∷ []) ((0, ty.Array 0 (v 2)) ∷ [])
    ∷ note.Edge ((2, v 1) ∷ []) [] []
    ∷ note.Edge ((2, v 0) ∷ []) [] []
    ∷ note.Demand []
    ∷ [])

-- both bounds of an index that is any number
abbrev OfStores : Type 0
OfStores = goals_of (elaborated source.stores) ≡ Ok (goal_at 44 2 (v 0 ∷ []) (v 1) ∷ goal_at 44 2 (v 0 ∷ []) rest_less_1 ∷ [])

-- the callee wants a number of at least 0, and returns the same number
abbrev OfCalls : Type 0
OfCalls = goals_of (elaborated source.calls) ≡ Ok (record { fun = 1; at = 96; ctx = record { vars = 1; rows = [] }; row = v 0 } ∷ [])

-- behind the branches no more is known of a variable that one of them assigns
abbrev OfBranchAssigns : Type 0
OfBranchAssigns = goals_of (elaborated source.branch_assigns) ≡ Ok (goal_at 66 2 [] (row ((pos 1, 1) ∷ []) (negsuc 0)) ∷ [])

-- where neither holds, x is at least 1
abbrev OfEither : Type 0
OfEither = goals_of (elaborated source.either) ≡ Ok []

-- the places and the rows of goals alone
abbrev rows_at : List GoalAt → List (ℕ × Linear)
rows_at [] = []
rows_at (goal ∷ goals) = (goal.at, goal.row) ∷ rows_at goals

abbrev rows_of : Walk Elaboration → Result (List (ℕ × Linear)) Stop
rows_of (Ok made) = Ok (rows_at made.goals)
rows_of (Err stop) = Err stop

-- Of a binary search, the middle v4 is within the array; where the branches meet, the bounds are v4 + 1 and v3, or v2 and v4.
abbrev OfSearch : Type 0
OfSearch = rows_of (elaborated source.search_of_cells) ≡ Ok (
    (200, v 4) ∷ (200, row ((pos 1, 0) ∷ (negsuc 0, 4) ∷ []) (negsuc 0))
    ∷ (239, row ((pos 1, 4) ∷ []) (pos 1)) ∷ (239, row ((pos 1, 3) ∷ (negsuc 0, 4) ∷ []) (negsuc 0))
    ∷ (239, row ((negsuc 0, 2) ∷ (pos 1, 4) ∷ []) (pos 0)) ∷ (239, row ((pos 1, 0) ∷ (negsuc 0, 4) ∷ []) (pos 0))
    ∷ [])

-- the second part of a test, and the branch, know that y is at least 1
abbrev OfBoth : Type 0
OfBoth = goals_of (elaborated source.both) ≡ Ok []

-- what a clause states past the bounds is the limit at the entry
abbrev OfLargeRow : Type 0
OfLargeRow = elaborated source.large_row ≡ Err (Past limit.Magnitude)

-- with the result's own variable there are 1,025
abbrev OfManyIndices : Type 0
OfManyIndices = elaborated (source.many_indices 1024) ≡ Err (Past limit.Variables)

-- each square has an index variable of its own, beside that of the parameter
abbrev OfSquares : Type 0
OfSquares = (elaborated (source.squares 1024) ≡ Err (Past limit.Variables)) × (goals_of (elaborated (source.squares 1023)) ≡ Ok [])

-- one variable too many
abbrev OfMany : Type 0
OfMany = elaborated (source.many_variables 241) ≡ Err (Past limit.Places)

-- the three variables of the sum, and t0; three temporaries behind x
abbrev OfPlaces : Type 0
OfPlaces = (places_of (source.main_fun source.sum_of_cells) ≡ 4) × (places_of source.nested ≡ 4)

-- in front of the `return` of `7 / x` the parameter has its type, and no row is known
abbrev OfReturn : Type 0
OfReturn = IsBefore source.divided 0 (core.Return (Some (source.two op.Div (core.Int (pos 7)) 33 (core.Var 0))) 24)
    (record { ctx = record { vars = 1; rows = [] }; types = (0, ty.Int (v 0)) ∷ []; naming = []; goals = []; notes = [] })

-- ---- they hold, by computation

small_sources : OfSum × NotesOfSum × OfOneTooFar × OfNotStated × OfDivided × OfPairs × OfInnerClause × OfStores × OfCalls × OfBranchAssigns × OfEither × OfSearch × OfBoth × OfLargeRow × OfManyIndices × OfMany × OfPlaces
unfolding elaborated functions function body_start few_declarations few_parts few_parameters closed_type closed_types signature signatures type_of forms_from types_from named_by named_by_operands named_by_links test_named tests_named statement_named statements_named statement block assigned split store done printed returning all_given meeting after_branches operand operands chained types_by type_by state_by followed widened all_assuming applying.all_given rule two_numbers quotient remainder measured loaded stored allocated constructed rules.split called returned rules.matching tuple_at cell_at of_kinds branched truth_leaf leaf tested all_true all_false changes changes_any renewed few_places renewing stating stated_types with_types leading first_past joined present index_at values_at met_there entered entered_if still_visible with_fresh assuming all_asked demanding noting_state given matching terms_rise values_rise excess_of renamed renamed_type variables_from knows with_row with_rows subst_ty matched found_with pairs_of pair_of values_for value_for demanded type_rows index_rows differences own_rows sized replacement replaced_terms replaced_constant sum_terms plus_term scaled_terms
small_sources = (refl, refl, refl, refl, refl, refl, refl, refl, refl, refl, refl, refl, refl, refl, refl, refl, (refl, refl))

long_source : OfSquares
unfolding elaborated functions function body_start few_declarations few_parts few_parameters closed_type closed_types signature signatures type_of forms_from types_from named_by named_by_operands named_by_links test_named tests_named statement_named statements_named statement block assigned split store done printed returning all_given meeting after_branches operand operands chained types_by type_by state_by followed widened all_assuming applying.all_given rule two_numbers quotient remainder measured loaded stored allocated constructed rules.split called returned rules.matching tuple_at cell_at of_kinds branched truth_leaf leaf tested all_true all_false changes changes_any renewed few_places renewing stating stated_types with_types leading first_past joined present index_at values_at met_there entered entered_if still_visible with_fresh assuming all_asked demanding noting_state given matching terms_rise values_rise excess_of renamed renamed_type variables_from knows with_row with_rows subst_ty matched found_with pairs_of pair_of values_for value_for demanded type_rows index_rows differences own_rows sized replacement replaced_terms replaced_constant sum_terms plus_term scaled_terms
long_source = (refl, refl)

before_return : OfReturn
unfolding body_start with_rows closed_types signatures signature type_of forms_from types_from terms_rise sized StandsIn
before_return = record {
  table = _;
  sigs = _;
  f = _;
  own = _;
  goals = [];
  notes = [];
  start = _;
  types = refl;
  headers = refl;
  function = refl;
  signature = refl;
  begins = refl;
  stands = inl (refl, refl);
}
