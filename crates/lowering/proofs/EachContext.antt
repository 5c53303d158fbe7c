-- Each construct by itself: the context in which elaboration goes on, the types of variables and the rows that have to be proved, beside those
-- of its code, instruction by instruction.
--
-- Both begin with an array a of length v0, a number x that is v1, a truth value b and a tuple p; y, z and c have no type yet. That v0 and v1
-- are at least 0 is known.
use Rattle.std.proofs.Common.{◌≡◌, ℕ, Bool as Truth, true, false, List, [], ◌∷◌, ◌++◌, map, Option, Some, None, Result, Ok, Err, refl, nat_lt}
use Rattle.index_sorts.specs.Context.{IndexContext}
use Rattle.index_sorts.specs.Known.{knows, with_row}
use Rattle.state_types.specs.Matching.{matched, found_with, pairs_of, pair_of, values_for, value_for, demanded, type_rows, index_rows, differences, own_rows}
use Rattle.state_types.specs.PlaceTypes.{type_at}
use Rattle.state_types.specs.Tables.{int_cell, bool_cell}
use Rattle.state_types.specs.Types.{subst_ty}
use Rattle.state_types.specs.declared.closed.Packed.{Packed}
use Rattle.state_types.specs.declared.closed.Signature.{Signature}
use Rattle.state_types.specs.declared.state.StateType.{StateType}
use Rattle.state_types.specs.declared.types.Ty.{Ty}
use Rattle.state_types.specs.declared.types.Ty.TheVariants as ty
use Rattle.operation_rules.specs.Applied as applying
use Rattle.operation_rules.specs.Applied.{Ruled, applied, widened, all_assuming, named, all_there, ruled}
use Rattle.operation_rules.specs.Forms.{variables_from}
use Rattle.operation_rules.specs.Rules as rules
use Rattle.operation_rules.specs.Rules.{Setting, rule, two_numbers, quotient, remainder, measured, loaded, stored, allocated, constructed, called, returned, tuple_at, cell_at, of_kinds}
use Rattle.operation_rules.specs.Sides.{side}
use Rattle.operation_rules.specs.declared.operation.Operation.{Operation}
use Rattle.operation_rules.specs.declared.operation.Operation.TheVariants.{Branch}
use Rattle.xan_lin.specs.Linear.{Linear, variable_form, sized, excess_of}
use Rattle.xan_lin.specs.Subst.{replacement, replaced_terms, replaced_constant}
use Rattle.xan_lin.specs.Terms.{sum_terms, plus_term, scaled_terms}
use Rattle.xanadu_tree.specs.declared.expr.Op.TheVariants as op
use Rattle.xanadu_tree.specs.declared.expr.Rel.TheVariants as rel
use Rattle.xanadu_tree.specs.declared.types.Kind.TheVariants as kind
use Rattle.xanadu_tree.specs.Plain.{Stmt, Set, Split, Store, Do, Print, Return, Test, Leaf, All, Any, Not, NoTest, ATest, Expr, Bool, Var, Neg, Chain, Compare, Index, Len, Call, Make, New, NoExpr, AnExpr, NoLink, ALink}
use Rattle.typed_core.specs.Constructs.{types_by, type_by, state_by, followed}
use Rattle.typed_core.specs.Limits.{Walk}
use Rattle.typed_core.specs.Operands.{operand, operands, chained}
use Rattle.typed_core.specs.States.{Site, State, all_asked, demanding, noting_state, given}
use Rattle.typed_core.specs.Statements.{statement, assigned, all_given, split, store, done, printed, returning}
use Rattle.typed_core.specs.Strays.{terms_rise, values_rise}
use Rattle.typed_core.specs.Tests.{Sides, branched, truth_leaf, leaf, tested, all_true, all_false}
use Rattle.typed_core.specs.declared.goal.GoalAt.{GoalAt}
use Rattle.three_address.specs.Instructions.{Instruction, instruction_of}
use Rattle.three_address.specs.Typing.{ruled_in, with_types, state_of}
use Rattle.three_address.specs.declared.instruction.LowInstr.{LowInstr}
use Rattle.value_lowering.specs.Frames.{Frame, kind_found}
use Rattle.lowering.specs.StatementCode.{statement_code, unless}
use Rattle.lowering.specs.TestCode.{test_size, test_code}
use Rattle.value_lowering.specs.ValueCode.{value_size, operand_places, value_code}
use Rattle.lowering.proofs.LoweredSources.{two, number, pair}

-- ---- what stands throughout

-- type Pair = {p: int, q: int | 0 <= q} (int(p), int(q))
abbrev pair_type : Packed
pair_type = record {
  vars = 2;
  rows = variable_form 1 ∷ [];
  parts = ty.Int (variable_form 0) ∷ ty.Int (variable_form 1) ∷ [];
  tuple = true;
}

-- {n: nat, m: nat}(int[n], int(m)): {k: nat} int(k)
abbrev signature : Signature
signature = record {
  vars = 2;
  rows = variable_form 0 ∷ variable_form 1 ∷ [];
  params = ty.Array 0 (variable_form 0) ∷ ty.Int (variable_form 1) ∷ [];
  result_vars = 1;
  result_rows = variable_form 2 ∷ [];
  result = ty.Int (variable_form 2);
}

abbrev pub table : List Packed
table = int_cell ∷ bool_cell ∷ pair_type ∷ []

abbrev pub site : Site
site = record { table = table; sigs = signature ∷ []; fun = 0; own = signature }

abbrev pub setting : Setting
setting = record { table = table; sigs = signature ∷ []; own = signature }

abbrev pub frame : Frame
frame = record {
  types = pair ∷ [];
  results = kind.Int ∷ [];
  kinds = kind.Array 0 ∷ kind.Int ∷ kind.Bool ∷ kind.Named 2 ∷ kind.Int ∷ kind.Int ∷ kind.Array 0 ∷ [];
}

abbrev pub first_ctx : IndexContext
first_ctx = record { vars = 2; rows = variable_form 0 ∷ variable_form 1 ∷ [] }

abbrev pub types : List (ℕ × Ty)
types = (0, ty.Array 0 (variable_form 0)) ∷ (1, ty.Int (variable_form 1)) ∷ (2, ty.Bool) ∷ (3, ty.Named 2) ∷ []

abbrev pub before : State
before = record { ctx = first_ctx; types = types; naming = []; goals = []; notes = [] }

-- ---- what is known behind a construct

-- with each row that is demanded and not known, and the context that it has to be proved in
pub record After : Type 0 where
  pub ctx : IndexContext
  pub types : List (ℕ × Ty)
  pub asked : List (IndexContext × Linear)

abbrev pub asked_of : List GoalAt → List (IndexContext × Linear)
asked_of goals = map (λ g. (g.ctx, g.row)) goals

abbrev of_walk : Walk State → Option After
of_walk (Err stop) = None
of_walk (Ok st) = Some (record { ctx = st.ctx; types = st.types; asked = asked_of st.goals })

abbrev if_unknown : Truth → IndexContext → Linear → List (IndexContext × Linear) → List (IndexContext × Linear)
if_unknown true ctx row later = later
if_unknown false ctx row later = (ctx, row) ∷ later

unfoldable pub unknown : IndexContext → List Linear → List (IndexContext × Linear)
unknown ctx [] = []
unknown ctx (row ∷ rows) = if_unknown (knows ctx row) ctx row (unknown ctx rows)

-- the places of variables alone
abbrev keep : Truth → ℕ × Ty → List (ℕ × Ty) → List (ℕ × Ty)
keep true entry others = entry ∷ others
keep false entry others = others

unfoldable pub of_variables : List (ℕ × Ty) → List (ℕ × Ty)
of_variables [] = []
of_variables (entry ∷ others) = keep (nat_lt entry.0 7) entry (of_variables others)

-- ---- the code, instruction by instruction; a branch is not taken

abbrev goes : Operation → List Ty → Ruled → Option IndexContext
goes (Branch c) read ruled = option_of (all_assuming (side false (Branch c) read) ruled.ctx)
  where
    option_of : {E : Type 0} → Result IndexContext E → Option IndexContext
    option_of (Ok x) = Some x
    option_of (Err e) = None
goes _ read ruled = Some ruled.ctx

abbrev pub read_types : Instruction → StateType → List Ty
read_types i state = listed (all_there (map (λ place. type_at place state.places) i.reads))
  where
    listed : {E : Type 0} → Result (List Ty) E → List Ty
    listed (Ok ts) = ts
    listed (Err e) = []

pub record Reached : Type 0 where
  pub state : StateType
  pub asked : List (IndexContext × Linear)

abbrev next_of : Option IndexContext → Instruction → StateType → Ruled → List (IndexContext × Linear) → Option Reached
next_of None i state ruled asked = None
next_of (Some ctx) i state ruled asked =
    Some (record { state = state_of ctx (with_types i.writes ruled.types state.places); asked = asked ++ unknown state.ctx ruled.demands })

abbrev by_ruling : {E : Type 0} → Result Ruled E → Instruction → StateType → List (IndexContext × Linear) → Option Reached
by_ruling (Err e) i state asked = None
by_ruling (Ok ruled) i state asked = next_of (goes i.operation (read_types i state) ruled) i state ruled asked

abbrev by_instruction : Option Instruction → StateType → List (IndexContext × Linear) → Option Reached
by_instruction None state asked = None
by_instruction (Some i) state asked = by_ruling (ruled_in setting i state) i state asked

abbrev onward : Option Reached → (Reached → Option Reached) → Option Reached
onward None more = None
onward (Some r) more = more r

unfoldable reached : List LowInstr → Reached → Option Reached
reached [] r = Some r
reached (i ∷ code) r = onward (by_instruction (instruction_of i) r.state r.asked) (reached code)

abbrev of_reached : Option Reached → Option After
of_reached None = None
of_reached (Some r) = Some (record { ctx = r.state.ctx; types = of_variables r.state.places; asked = r.asked })

abbrev code_after : List LowInstr → Option After
code_after code = of_reached (reached code (record { state = state_of first_ctx types; asked = [] }))

-- ---- both sides have the same, and there is something

abbrev pub is_there : Option After → Truth
is_there None = false
is_there (Some after) = true

abbrev Same : Option After → Option After → Type 0
Same elaborated typed = (elaborated ≡ typed) × (is_there elaborated ≡ true)

abbrev Keeps : Stmt → Type 0
Keeps s = Same (of_walk (statement site s before)) (code_after (statement_code frame s 0))

-- y gets a value
abbrev Gives : Expr → Type 0
Gives e = Keeps (Set 4 e)

-- ---- expressions

literal_keeps : Gives (number 12)
unfolding unknown of_variables reached statement assigned all_given split store done printed returning operand operands chained types_by type_by state_by followed widened all_assuming applying.all_given rule two_numbers quotient remainder measured loaded stored allocated constructed rules.split called returned rules.matching tuple_at cell_at of_kinds branched truth_leaf leaf tested all_true all_false all_asked demanding noting_state given terms_rise values_rise excess_of variables_from knows with_row subst_ty matched found_with pairs_of pair_of values_for value_for demanded type_rows index_rows differences own_rows sized replacement replaced_terms replaced_constant sum_terms plus_term scaled_terms applied named all_there ruled instruction_of ruled_in with_types kind_found statement_code test_size test_code value_size operand_places value_code
literal_keeps = (refl, refl)

truth_keeps : Keeps (Set 2 (Bool false))
unfolding unknown of_variables reached statement assigned all_given split store done printed returning operand operands chained types_by type_by state_by followed widened all_assuming applying.all_given rule two_numbers quotient remainder measured loaded stored allocated constructed rules.split called returned rules.matching tuple_at cell_at of_kinds branched truth_leaf leaf tested all_true all_false all_asked demanding noting_state given terms_rise values_rise excess_of variables_from knows with_row subst_ty matched found_with pairs_of pair_of values_for value_for demanded type_rows index_rows differences own_rows sized replacement replaced_terms replaced_constant sum_terms plus_term scaled_terms applied named all_there ruled instruction_of ruled_in with_types kind_found statement_code test_size test_code value_size operand_places value_code
truth_keeps = (refl, refl)

variable_keeps : Gives (Var 1)
unfolding unknown of_variables reached statement assigned all_given split store done printed returning operand operands chained types_by type_by state_by followed widened all_assuming applying.all_given rule two_numbers quotient remainder measured loaded stored allocated constructed rules.split called returned rules.matching tuple_at cell_at of_kinds branched truth_leaf leaf tested all_true all_false all_asked demanding noting_state given terms_rise values_rise excess_of variables_from knows with_row subst_ty matched found_with pairs_of pair_of values_for value_for demanded type_rows index_rows differences own_rows sized replacement replaced_terms replaced_constant sum_terms plus_term scaled_terms applied named all_there ruled instruction_of ruled_in with_types kind_found statement_code test_size test_code value_size operand_places value_code
variable_keeps = (refl, refl)

negation_keeps : Gives (Neg (Var 1))
unfolding unknown of_variables reached statement assigned all_given split store done printed returning operand operands chained types_by type_by state_by followed widened all_assuming applying.all_given rule two_numbers quotient remainder measured loaded stored allocated constructed rules.split called returned rules.matching tuple_at cell_at of_kinds branched truth_leaf leaf tested all_true all_false all_asked demanding noting_state given terms_rise values_rise excess_of variables_from knows with_row subst_ty matched found_with pairs_of pair_of values_for value_for demanded type_rows index_rows differences own_rows sized replacement replaced_terms replaced_constant sum_terms plus_term scaled_terms applied named all_there ruled instruction_of ruled_in with_types kind_found statement_code test_size test_code value_size operand_places value_code
negation_keeps = (refl, refl)

chain_keeps : Gives (Chain (two op.Mul (Var 1) (number 3)) (ALink op.Add (two op.Sub (Var 1) (number 2)) 0 NoLink))
unfolding unknown of_variables reached statement assigned all_given split store done printed returning operand operands chained types_by type_by state_by followed widened all_assuming applying.all_given rule two_numbers quotient remainder measured loaded stored allocated constructed rules.split called returned rules.matching tuple_at cell_at of_kinds branched truth_leaf leaf tested all_true all_false all_asked demanding noting_state given terms_rise values_rise excess_of variables_from knows with_row subst_ty matched found_with pairs_of pair_of values_for value_for demanded type_rows index_rows differences own_rows sized replacement replaced_terms replaced_constant sum_terms plus_term scaled_terms applied named all_there ruled instruction_of ruled_in with_types kind_found statement_code test_size test_code value_size operand_places value_code
chain_keeps = (refl, refl)

-- a product of two variables is a fresh one
product_keeps : Gives (two op.Mul (Var 1) (Var 1))
unfolding unknown of_variables reached statement assigned all_given split store done printed returning operand operands chained types_by type_by state_by followed widened all_assuming applying.all_given rule two_numbers quotient remainder measured loaded stored allocated constructed rules.split called returned rules.matching tuple_at cell_at of_kinds branched truth_leaf leaf tested all_true all_false all_asked demanding noting_state given terms_rise values_rise excess_of variables_from knows with_row subst_ty matched found_with pairs_of pair_of values_for value_for demanded type_rows index_rows differences own_rows sized replacement replaced_terms replaced_constant sum_terms plus_term scaled_terms applied named all_there ruled instruction_of ruled_in with_types kind_found statement_code test_size test_code value_size operand_places value_code
product_keeps = (refl, refl)

quotient_keeps : Gives (two op.Div (Var 1) (number 2))
unfolding unknown of_variables reached statement assigned all_given split store done printed returning operand operands chained types_by type_by state_by followed widened all_assuming applying.all_given rule two_numbers quotient remainder measured loaded stored allocated constructed rules.split called returned rules.matching tuple_at cell_at of_kinds branched truth_leaf leaf tested all_true all_false all_asked demanding noting_state given terms_rise values_rise excess_of variables_from knows with_row subst_ty matched found_with pairs_of pair_of values_for value_for demanded type_rows index_rows differences own_rows sized replacement replaced_terms replaced_constant sum_terms plus_term scaled_terms applied named all_there ruled instruction_of ruled_in with_types kind_found statement_code test_size test_code value_size operand_places value_code
quotient_keeps = (refl, refl)

-- that the divisor is at least 1 is not known
remainder_keeps : Gives (two op.Mod (number 9) (Var 1))
unfolding unknown of_variables reached statement assigned all_given split store done printed returning operand operands chained types_by type_by state_by followed widened all_assuming applying.all_given rule two_numbers quotient remainder measured loaded stored allocated constructed rules.split called returned rules.matching tuple_at cell_at of_kinds branched truth_leaf leaf tested all_true all_false all_asked demanding noting_state given terms_rise values_rise excess_of variables_from knows with_row subst_ty matched found_with pairs_of pair_of values_for value_for demanded type_rows index_rows differences own_rows sized replacement replaced_terms replaced_constant sum_terms plus_term scaled_terms applied named all_there ruled instruction_of ruled_in with_types kind_found statement_code test_size test_code value_size operand_places value_code
remainder_keeps = (refl, refl)

comparison_keeps : Keeps (Set 2 (Compare rel.Ge (number 7) (Var 1)))
unfolding unknown of_variables reached statement assigned all_given split store done printed returning operand operands chained types_by type_by state_by followed widened all_assuming applying.all_given rule two_numbers quotient remainder measured loaded stored allocated constructed rules.split called returned rules.matching tuple_at cell_at of_kinds branched truth_leaf leaf tested all_true all_false all_asked demanding noting_state given terms_rise values_rise excess_of variables_from knows with_row subst_ty matched found_with pairs_of pair_of values_for value_for demanded type_rows index_rows differences own_rows sized replacement replaced_terms replaced_constant sum_terms plus_term scaled_terms applied named all_there ruled instruction_of ruled_in with_types kind_found statement_code test_size test_code value_size operand_places value_code
comparison_keeps = (refl, refl)

index_keeps : Gives (Index (Var 0) (Var 1) 0)
unfolding unknown of_variables reached statement assigned all_given split store done printed returning operand operands chained types_by type_by state_by followed widened all_assuming applying.all_given rule two_numbers quotient remainder measured loaded stored allocated constructed rules.split called returned rules.matching tuple_at cell_at of_kinds branched truth_leaf leaf tested all_true all_false all_asked demanding noting_state given terms_rise values_rise excess_of variables_from knows with_row subst_ty matched found_with pairs_of pair_of values_for value_for demanded type_rows index_rows differences own_rows sized replacement replaced_terms replaced_constant sum_terms plus_term scaled_terms applied named all_there ruled instruction_of ruled_in with_types kind_found statement_code test_size test_code value_size operand_places value_code
index_keeps = (refl, refl)

length_keeps : Gives (Len (Var 0))
unfolding unknown of_variables reached statement assigned all_given split store done printed returning operand operands chained types_by type_by state_by followed widened all_assuming applying.all_given rule two_numbers quotient remainder measured loaded stored allocated constructed rules.split called returned rules.matching tuple_at cell_at of_kinds branched truth_leaf leaf tested all_true all_false all_asked demanding noting_state given terms_rise values_rise excess_of variables_from knows with_row subst_ty matched found_with pairs_of pair_of values_for value_for demanded type_rows index_rows differences own_rows sized replacement replaced_terms replaced_constant sum_terms plus_term scaled_terms applied named all_there ruled instruction_of ruled_in with_types kind_found statement_code test_size test_code value_size operand_places value_code
length_keeps = (refl, refl)

call_keeps : Gives (Call 0 (AnExpr (Var 0) (AnExpr (two op.Sub (Var 1) (number 1)) NoExpr)) 0)
unfolding unknown of_variables reached statement assigned all_given split store done printed returning operand operands chained types_by type_by state_by followed widened all_assuming applying.all_given rule two_numbers quotient remainder measured loaded stored allocated constructed rules.split called returned rules.matching tuple_at cell_at of_kinds branched truth_leaf leaf tested all_true all_false all_asked demanding noting_state given terms_rise values_rise excess_of variables_from knows with_row subst_ty matched found_with pairs_of pair_of values_for value_for demanded type_rows index_rows differences own_rows sized replacement replaced_terms replaced_constant sum_terms plus_term scaled_terms applied named all_there ruled instruction_of ruled_in with_types kind_found statement_code test_size test_code value_size operand_places value_code
call_keeps = (refl, refl)

tuple_keeps : Keeps (Set 3 (Make 2 (AnExpr (number 8) (AnExpr (two op.Sub (Var 1) (number 1)) NoExpr)) 0))
unfolding unknown of_variables reached statement assigned all_given split store done printed returning operand operands chained types_by type_by state_by followed widened all_assuming applying.all_given rule two_numbers quotient remainder measured loaded stored allocated constructed rules.split called returned rules.matching tuple_at cell_at of_kinds branched truth_leaf leaf tested all_true all_false all_asked demanding noting_state given terms_rise values_rise excess_of variables_from knows with_row subst_ty matched found_with pairs_of pair_of values_for value_for demanded type_rows index_rows differences own_rows sized replacement replaced_terms replaced_constant sum_terms plus_term scaled_terms applied named all_there ruled instruction_of ruled_in with_types kind_found statement_code test_size test_code value_size operand_places value_code
tuple_keeps = (refl, refl)

array_keeps : Keeps (Set 6 (New 0 (two op.Sub (Var 1) (number 1)) (Var 1) 0))
unfolding unknown of_variables reached statement assigned all_given split store done printed returning operand operands chained types_by type_by state_by followed widened all_assuming applying.all_given rule two_numbers quotient remainder measured loaded stored allocated constructed rules.split called returned rules.matching tuple_at cell_at of_kinds branched truth_leaf leaf tested all_true all_false all_asked demanding noting_state given terms_rise values_rise excess_of variables_from knows with_row subst_ty matched found_with pairs_of pair_of values_for value_for demanded type_rows index_rows differences own_rows sized replacement replaced_terms replaced_constant sum_terms plus_term scaled_terms applied named all_there ruled instruction_of ruled_in with_types kind_found statement_code test_size test_code value_size operand_places value_code
array_keeps = (refl, refl)

-- ---- statements

split_keeps : Keeps (Split (4 ∷ 5 ∷ []) (Var 3) 0)
unfolding unknown of_variables reached statement assigned all_given split store done printed returning operand operands chained types_by type_by state_by followed widened all_assuming applying.all_given rule two_numbers quotient remainder measured loaded stored allocated constructed rules.split called returned rules.matching tuple_at cell_at of_kinds branched truth_leaf leaf tested all_true all_false all_asked demanding noting_state given terms_rise values_rise excess_of variables_from knows with_row subst_ty matched found_with pairs_of pair_of values_for value_for demanded type_rows index_rows differences own_rows sized replacement replaced_terms replaced_constant sum_terms plus_term scaled_terms applied named all_there ruled instruction_of ruled_in with_types kind_found statement_code test_size test_code value_size operand_places value_code
split_keeps = (refl, refl)

store_keeps : Keeps (Store (Var 0) (Var 1) (two op.Add (Var 1) (number 1)) 0)
unfolding unknown of_variables reached statement assigned all_given split store done printed returning operand operands chained types_by type_by state_by followed widened all_assuming applying.all_given rule two_numbers quotient remainder measured loaded stored allocated constructed rules.split called returned rules.matching tuple_at cell_at of_kinds branched truth_leaf leaf tested all_true all_false all_asked demanding noting_state given terms_rise values_rise excess_of variables_from knows with_row subst_ty matched found_with pairs_of pair_of values_for value_for demanded type_rows index_rows differences own_rows sized replacement replaced_terms replaced_constant sum_terms plus_term scaled_terms applied named all_there ruled instruction_of ruled_in with_types kind_found statement_code test_size test_code value_size operand_places value_code
store_keeps = (refl, refl)

call_statement_keeps : Keeps (Do (Call 0 (AnExpr (Var 0) (AnExpr (Var 1) NoExpr)) 0))
unfolding unknown of_variables reached statement assigned all_given split store done printed returning operand operands chained types_by type_by state_by followed widened all_assuming applying.all_given rule two_numbers quotient remainder measured loaded stored allocated constructed rules.split called returned rules.matching tuple_at cell_at of_kinds branched truth_leaf leaf tested all_true all_false all_asked demanding noting_state given terms_rise values_rise excess_of variables_from knows with_row subst_ty matched found_with pairs_of pair_of values_for value_for demanded type_rows index_rows differences own_rows sized replacement replaced_terms replaced_constant sum_terms plus_term scaled_terms applied named all_there ruled instruction_of ruled_in with_types kind_found statement_code test_size test_code value_size operand_places value_code
call_statement_keeps = (refl, refl)

print_keeps : Keeps (Print (two op.Add (Var 1) (number 1)))
unfolding unknown of_variables reached statement assigned all_given split store done printed returning operand operands chained types_by type_by state_by followed widened all_assuming applying.all_given rule two_numbers quotient remainder measured loaded stored allocated constructed rules.split called returned rules.matching tuple_at cell_at of_kinds branched truth_leaf leaf tested all_true all_false all_asked demanding noting_state given terms_rise values_rise excess_of variables_from knows with_row subst_ty matched found_with pairs_of pair_of values_for value_for demanded type_rows index_rows differences own_rows sized replacement replaced_terms replaced_constant sum_terms plus_term scaled_terms applied named all_there ruled instruction_of ruled_in with_types kind_found statement_code test_size test_code value_size operand_places value_code
print_keeps = (refl, refl)

return_keeps : Keeps (Return (Some (two op.Sub (Var 1) (number 1))) 0)
unfolding unknown of_variables reached statement assigned all_given split store done printed returning operand operands chained types_by type_by state_by followed widened all_assuming applying.all_given rule two_numbers quotient remainder measured loaded stored allocated constructed rules.split called returned rules.matching tuple_at cell_at of_kinds branched truth_leaf leaf tested all_true all_false all_asked demanding noting_state given terms_rise values_rise excess_of variables_from knows with_row subst_ty matched found_with pairs_of pair_of values_for value_for demanded type_rows index_rows differences own_rows sized replacement replaced_terms replaced_constant sum_terms plus_term scaled_terms applied named all_there ruled instruction_of ruled_in with_types kind_found statement_code test_size test_code value_size operand_places value_code
return_keeps = (refl, refl)

bare_return_keeps : Keeps (Return None 0)
unfolding unknown of_variables reached statement assigned all_given split store done printed returning operand operands chained types_by type_by state_by followed widened all_assuming applying.all_given rule two_numbers quotient remainder measured loaded stored allocated constructed rules.split called returned rules.matching tuple_at cell_at of_kinds branched truth_leaf leaf tested all_true all_false all_asked demanding noting_state given terms_rise values_rise excess_of variables_from knows with_row subst_ty matched found_with pairs_of pair_of values_for value_for demanded type_rows index_rows differences own_rows sized replacement replaced_terms replaced_constant sum_terms plus_term scaled_terms applied named all_there ruled instruction_of ruled_in with_types kind_found statement_code test_size test_code value_size operand_places value_code
bare_return_keeps = (refl, refl)

-- ---- tests: what holds behind a test that jumps where it is false, and behind one that jumps where it is true

abbrev of_side : (on : Truth) → Walk Sides → Option After
of_side on (Err stop) = None
of_side true (Ok sides) =
    Some (record { ctx = record { vars = sides.after.ctx.vars; rows = sides.on_true }; types = sides.after.types; asked = asked_of sides.after.goals })
of_side false (Ok sides) =
    Some (record { ctx = record { vars = sides.after.ctx.vars; rows = sides.on_false }; types = sides.after.types; asked = asked_of sides.after.goals })

abbrev Holds : Test → Type 0
Holds t = Same (of_side true (tested site t before)) (code_after (test_code 7 (unless 99) t 0))

abbrev Fails : Test → Type 0
Fails t = Same (of_side false (tested site t before)) (code_after (test_code 7 (record { on = true; to = 99 }) t 0))

abbrev less : Test
less = Leaf (Compare rel.Lt (Var 1) (Len (Var 0)))

less_both : Holds less × Fails less
unfolding unknown of_variables reached statement assigned all_given split store done printed returning operand operands chained types_by type_by state_by followed widened all_assuming applying.all_given rule two_numbers quotient remainder measured loaded stored allocated constructed rules.split called returned rules.matching tuple_at cell_at of_kinds branched truth_leaf leaf tested all_true all_false all_asked demanding noting_state given terms_rise values_rise excess_of variables_from knows with_row subst_ty matched found_with pairs_of pair_of values_for value_for demanded type_rows index_rows differences own_rows sized replacement replaced_terms replaced_constant sum_terms plus_term scaled_terms applied named all_there ruled instruction_of ruled_in with_types kind_found statement_code test_size test_code value_size operand_places value_code
less_both = ((refl, refl), (refl, refl))

at_most_both : Holds (Leaf (Compare rel.Le (Var 1) (number 3))) × Fails (Leaf (Compare rel.Le (Var 1) (number 3)))
unfolding unknown of_variables reached statement assigned all_given split store done printed returning operand operands chained types_by type_by state_by followed widened all_assuming applying.all_given rule two_numbers quotient remainder measured loaded stored allocated constructed rules.split called returned rules.matching tuple_at cell_at of_kinds branched truth_leaf leaf tested all_true all_false all_asked demanding noting_state given terms_rise values_rise excess_of variables_from knows with_row subst_ty matched found_with pairs_of pair_of values_for value_for demanded type_rows index_rows differences own_rows sized replacement replaced_terms replaced_constant sum_terms plus_term scaled_terms applied named all_there ruled instruction_of ruled_in with_types kind_found statement_code test_size test_code value_size operand_places value_code
at_most_both = ((refl, refl), (refl, refl))

greater_both : Holds (Leaf (Compare rel.Gt (Var 1) (number 3))) × Fails (Leaf (Compare rel.Gt (Var 1) (number 3)))
unfolding unknown of_variables reached statement assigned all_given split store done printed returning operand operands chained types_by type_by state_by followed widened all_assuming applying.all_given rule two_numbers quotient remainder measured loaded stored allocated constructed rules.split called returned rules.matching tuple_at cell_at of_kinds branched truth_leaf leaf tested all_true all_false all_asked demanding noting_state given terms_rise values_rise excess_of variables_from knows with_row subst_ty matched found_with pairs_of pair_of values_for value_for demanded type_rows index_rows differences own_rows sized replacement replaced_terms replaced_constant sum_terms plus_term scaled_terms applied named all_there ruled instruction_of ruled_in with_types kind_found statement_code test_size test_code value_size operand_places value_code
greater_both = ((refl, refl), (refl, refl))

at_least_both : Holds (Leaf (Compare rel.Ge (Var 1) (number 3))) × Fails (Leaf (Compare rel.Ge (Var 1) (number 3)))
unfolding unknown of_variables reached statement assigned all_given split store done printed returning operand operands chained types_by type_by state_by followed widened all_assuming applying.all_given rule two_numbers quotient remainder measured loaded stored allocated constructed rules.split called returned rules.matching tuple_at cell_at of_kinds branched truth_leaf leaf tested all_true all_false all_asked demanding noting_state given terms_rise values_rise excess_of variables_from knows with_row subst_ty matched found_with pairs_of pair_of values_for value_for demanded type_rows index_rows differences own_rows sized replacement replaced_terms replaced_constant sum_terms plus_term scaled_terms applied named all_there ruled instruction_of ruled_in with_types kind_found statement_code test_size test_code value_size operand_places value_code
at_least_both = ((refl, refl), (refl, refl))

equal_both : Holds (Leaf (Compare rel.Eq (Var 1) (number 3))) × Fails (Leaf (Compare rel.Eq (Var 1) (number 3)))
unfolding unknown of_variables reached statement assigned all_given split store done printed returning operand operands chained types_by type_by state_by followed widened all_assuming applying.all_given rule two_numbers quotient remainder measured loaded stored allocated constructed rules.split called returned rules.matching tuple_at cell_at of_kinds branched truth_leaf leaf tested all_true all_false all_asked demanding noting_state given terms_rise values_rise excess_of variables_from knows with_row subst_ty matched found_with pairs_of pair_of values_for value_for demanded type_rows index_rows differences own_rows sized replacement replaced_terms replaced_constant sum_terms plus_term scaled_terms applied named all_there ruled instruction_of ruled_in with_types kind_found statement_code test_size test_code value_size operand_places value_code
equal_both = ((refl, refl), (refl, refl))

unequal_both : Holds (Leaf (Compare rel.Ne (Var 1) (number 3))) × Fails (Leaf (Compare rel.Ne (Var 1) (number 3)))
unfolding unknown of_variables reached statement assigned all_given split store done printed returning operand operands chained types_by type_by state_by followed widened all_assuming applying.all_given rule two_numbers quotient remainder measured loaded stored allocated constructed rules.split called returned rules.matching tuple_at cell_at of_kinds branched truth_leaf leaf tested all_true all_false all_asked demanding noting_state given terms_rise values_rise excess_of variables_from knows with_row subst_ty matched found_with pairs_of pair_of values_for value_for demanded type_rows index_rows differences own_rows sized replacement replaced_terms replaced_constant sum_terms plus_term scaled_terms applied named all_there ruled instruction_of ruled_in with_types kind_found statement_code test_size test_code value_size operand_places value_code
unequal_both = ((refl, refl), (refl, refl))

truth_both : Holds (Leaf (Var 2)) × Fails (Leaf (Var 2))
unfolding unknown of_variables reached statement assigned all_given split store done printed returning operand operands chained types_by type_by state_by followed widened all_assuming applying.all_given rule two_numbers quotient remainder measured loaded stored allocated constructed rules.split called returned rules.matching tuple_at cell_at of_kinds branched truth_leaf leaf tested all_true all_false all_asked demanding noting_state given terms_rise values_rise excess_of variables_from knows with_row subst_ty matched found_with pairs_of pair_of values_for value_for demanded type_rows index_rows differences own_rows sized replacement replaced_terms replaced_constant sum_terms plus_term scaled_terms applied named all_there ruled instruction_of ruled_in with_types kind_found statement_code test_size test_code value_size operand_places value_code
truth_both = ((refl, refl), (refl, refl))

not_both : Holds (Not less) × Fails (Not less)
unfolding unknown of_variables reached statement assigned all_given split store done printed returning operand operands chained types_by type_by state_by followed widened all_assuming applying.all_given rule two_numbers quotient remainder measured loaded stored allocated constructed rules.split called returned rules.matching tuple_at cell_at of_kinds branched truth_leaf leaf tested all_true all_false all_asked demanding noting_state given terms_rise values_rise excess_of variables_from knows with_row subst_ty matched found_with pairs_of pair_of values_for value_for demanded type_rows index_rows differences own_rows sized replacement replaced_terms replaced_constant sum_terms plus_term scaled_terms applied named all_there ruled instruction_of ruled_in with_types kind_found statement_code test_size test_code value_size operand_places value_code
not_both = ((refl, refl), (refl, refl))

-- behind `&&` that jumps where it is false all parts are true, and the second one may rest on the first; `||` is the reverse
abbrev cell_is_3 : Test
cell_is_3 = Leaf (Compare rel.Eq (Index (Var 0) (Var 1) 0) (number 3))

all_holds : Holds (All (ATest less (ATest cell_is_3 NoTest)))
unfolding unknown of_variables reached statement assigned all_given split store done printed returning operand operands chained types_by type_by state_by followed widened all_assuming applying.all_given rule two_numbers quotient remainder measured loaded stored allocated constructed rules.split called returned rules.matching tuple_at cell_at of_kinds branched truth_leaf leaf tested all_true all_false all_asked demanding noting_state given terms_rise values_rise excess_of variables_from knows with_row subst_ty matched found_with pairs_of pair_of values_for value_for demanded type_rows index_rows differences own_rows sized replacement replaced_terms replaced_constant sum_terms plus_term scaled_terms applied named all_there ruled instruction_of ruled_in with_types kind_found statement_code test_size test_code value_size operand_places value_code
all_holds = (refl, refl)

any_fails : Fails (Any (ATest (Not less) (ATest cell_is_3 NoTest)))
unfolding unknown of_variables reached statement assigned all_given split store done printed returning operand operands chained types_by type_by state_by followed widened all_assuming applying.all_given rule two_numbers quotient remainder measured loaded stored allocated constructed rules.split called returned rules.matching tuple_at cell_at of_kinds branched truth_leaf leaf tested all_true all_false all_asked demanding noting_state given terms_rise values_rise excess_of variables_from knows with_row subst_ty matched found_with pairs_of pair_of values_for value_for demanded type_rows index_rows differences own_rows sized replacement replaced_terms replaced_constant sum_terms plus_term scaled_terms applied named all_there ruled instruction_of ruled_in with_types kind_found statement_code test_size test_code value_size operand_places value_code
any_fails = (refl, refl)
