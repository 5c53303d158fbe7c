-- A typed program of one instruction, its place in a slot: fun main(x: int): int { return x; }. It meets all that is asked, and so it is accepted.
use Rattle.std.proofs.Common.{◌≡◌, ℕ, zero, suc, pos, ◌<◌, true, List, [], ◌∷◌, Some, None, nat_lt, lit≤, slice_get, refl, arith, rules, subst}
use Rattle.std.specs.List.{Contains, slice_index_or}
use Rattle.std.proofs.lemmas.List.Elements.{All-nil, All-cons}
use Rattle.std.proofs.lemmas.Option.{none-some, same_Some}
use Rattle.index_sorts.specs.Context.{NamesBelow}
use Rattle.xan_lin.specs.Linear.{variable_form}
use Rattle.xan_lin.specs.Subst.{replacement, replaced_terms, replaced_constant}
use Rattle.xan_lin.specs.Linear.{sized}
use Rattle.xan_lin.specs.Terms.{sum_terms, plus_term}
use Rattle.state_types.specs.Matching.{matched, found_with, pairs_of, pair_of, values_for, value_for, demanded, type_rows, index_rows, differences, own_rows}
use Rattle.state_types.specs.Tables.{IsClosed, int_cell, bool_cell}
use Rattle.state_types.specs.Types.{TypeBelow}
use Rattle.state_types.specs.declared.state.StateType.{StateType}
use Rattle.state_types.specs.declared.types.Ty.TheVariants as ty
use Rattle.operation_rules.specs.Applied.{applied, widened, all_assuming, all_given, named, all_there, ruled}
use Rattle.operation_rules.specs.Rules.{rule, matching, returned}
use Rattle.operation_rules.specs.Sound.{IsHeader, IsSetting}
use Rattle.operation_rules.specs.declared.operation.Operation.TheVariants.{Return}
use Rattle.three_address.specs.Demands.{AllProved}
use Rattle.three_address.specs.Flow.{instruction_at, writes_at}
use Rattle.three_address.specs.Instructions.{instruction_of}
use Rattle.three_address.specs.Splits.{parts_of}
use Rattle.three_address.specs.Typing.{Allows, IsTypedFun, IsTyped, ruled_in, setting_of, state_of, stated, numbered, TypeExists}
use Rattle.three_address.specs.declared.function.LowFun.{LowFun}
use Rattle.three_address.specs.declared.function.Lowered.{Lowered}
use Rattle.three_address.specs.declared.instruction.LowInstr.{LowInstr}
use Rattle.three_address.specs.declared.typed.Edge.{Edge}
use Rattle.three_address.specs.declared.typed.Typed.{Typed}
use Rattle.three_address.proofs.LowSources.{number_sig}
use Rattle.dtal_code.specs.Acceptance.{Accepted}
use Rattle.dtal_code.specs.Declarations.{are_alone}
use Rattle.dtal_code.specs.Grammar.{IsFormIn, IsTyIn, IsSignature}
use Rattle.dtal_emit.specs.Emitted.{emitted, emitted_all, emitted_instr}
use Rattle.dtal_emit.specs.Homes.{entry_moves}
use Rattle.emission_laws.specs.ApartHomes.{Rise}
use Rattle.emission_laws.specs.EmittedRanges.{AreRanged, AreRangedFuns, BlocksEnd, IsRanged}
use Rattle.emission_laws.specs.FollowedRuns.{main_number}
use Rattle.emission_laws.proofs.EmittedPrograms.{program_in}
use Rattle.emission_laws.proofs.FollowedIdentity.{gives_back, same_fun, no_edge, in_slot, one_slot, reads_small}
use Rattle.emission_laws.proofs.SlotsApart.{slots_apart}
use Rattle.emission_acceptance.specs.Acceptable.{IsAcceptableAt, AreAcceptable}
use Rattle.emission_acceptance.specs.ReadyCode.{IsShortCode}
use Rattle.emission_acceptance.specs.WellHeaded.{IsWellSigned, IsMain, IsWellHeaded}
use Rattle.emission_acceptance.proofs.CodeReady.{fun_ready}
use Rattle.emission_acceptance.proofs.SlotsTyped.{slots_typed}
use Rattle.emission_acceptance.proofs.TypedStretches.{accepted_programs}

-- ---- it is typed

abbrev same_program : Lowered
same_program = record { funs = same_fun ∷ []; table = int_cell ∷ bool_cell ∷ []; main = 0 }

abbrev start : StateType
start = state_of (record { vars = 1; rows = [] }) ((0, ty.Int (variable_form 0)) ∷ [])

-- the result is v1, which is v0 here: nothing is demanded
return_allowed : Allows (setting_of same_program number_sig) 1 [] start gives_back no_edge None
unfolding instruction_of ruled_in ruled named all_there rule returned matching matched found_with pairs_of pair_of values_for value_for demanded type_rows index_rows differences own_rows applied widened all_assuming all_given replacement replaced_terms replaced_constant sized sum_terms plus_term
return_allowed = record {
  i = record { operation = Return; writes = []; reads = 0 ∷ [] };
  is = refl;
  small = All-cons (λ p. p < 1) 0 [] (omega arith) (All-nil _);
  differ = tt;
  types = ty.Int (variable_form 0) ∷ [];
  read = refl;
  ruled = record { demands = []; ctx = start.ctx; types = [] };
  by_rule = refl;
  leads = record { values = refl; proved = AllProved };
}

some_is : {A : Type 0} (x y : A) → Some x ≡ Some y → x ≡ y
some_is x y e = cc

each_allowed : (at : ℕ) (state : StateType) (i : LowInstr) (edge : Edge) → slice_get (start ∷ []) at ≡ Some state → slice_get same_fun.code at ≡ Some i
    → slice_get (no_edge ∷ []) at ≡ Some edge → Allows (setting_of same_program number_sig) 1 [] state i edge (slice_get (start ∷ []) (suc at))
each_allowed zero state i edge e f g =
    subst (λ (s : StateType). Allows (setting_of same_program number_sig) 1 [] s i edge None) (some_is start state e)
    (subst (λ (j : LowInstr). Allows (setting_of same_program number_sig) 1 [] start j edge None) (some_is gives_back i f)
    (subst (λ (d : Edge). Allows (setting_of same_program number_sig) 1 [] start gives_back d None) (some_is no_edge edge g) return_allowed))
each_allowed (suc at) state i edge e f g = absurd (none-some state e)

same_typed_fun : IsTypedFun same_program same_fun [] (no_edge ∷ [])
unfolding stated all_assuming numbered
same_typed_fun = record {
  few = omega arith;
  params = omega arith;
  states = start ∷ [];
  one_each = refl;
  edge_each = refl;
  starts = record { ctx = start.ctx; is_stated = refl; is_first = refl };
  label_each = tt;
  allowed = each_allowed;
  again = λ at. record { by = λ instr i is form stops apart more. absurd (omega (arith, more)) };
}

-- ---- the program

names_variable : (vars var : ℕ) → var < vars → NamesBelow vars (variable_form var)
names_variable vars var lt = All-cons (λ t. t.var < vars) (record { var = var; coef = pos 1 }) [] lt (All-nil _)

int_closed : IsClosed int_cell
int_closed = record { rows = All-nil _; parts = All-cons (TypeBelow 1) (ty.Int (variable_form 0)) [] (names_variable 1 0 (omega arith)) (All-nil _) }

bool_closed : IsClosed bool_cell
bool_closed = record { rows = All-nil _; parts = All-cons (TypeBelow 0) ty.Bool [] tt (All-nil _) }

header : IsHeader number_sig
header = record {
  rows = All-nil _;
  params = All-cons (TypeBelow 1) (ty.Int (variable_form 0)) [] (names_variable 1 0 (omega arith)) (All-nil _);
  result_rows = All-nil _;
  result = names_variable 2 1 (omega arith);
}

setting : IsSetting (setting_of same_program number_sig)
setting = record {
  table = All-cons IsClosed int_cell (bool_cell ∷ []) int_closed (All-cons IsClosed bool_cell [] bool_closed (All-nil _));
  sigs = All-cons IsHeader number_sig [] header (All-nil _);
  own = header;
}

only_at : (fun : LowFun) (k : ℕ) → k < 1 → slice_index_or (same_fun ∷ []) k fun ≡ fun → same_fun ≡ fun
only_at fun zero lt e = e
only_at fun (suc k) lt e = absurd (omega (arith, lt))

each_typed : (number : ℕ) (fun : LowFun) (labels : List StateType) (edges : List Edge) → slice_get (same_fun ∷ []) number ≡ Some fun
    → slice_get ([] ∷ []) number ≡ Some labels → slice_get ((no_edge ∷ []) ∷ []) number ≡ Some edges → IsTypedFun same_program fun labels edges
each_typed zero fun labels edges e f g =
    subst (λ (x : LowFun). IsTypedFun same_program x labels edges) (some_is same_fun fun e)
    (subst (λ (x : List StateType). IsTypedFun same_program same_fun x edges) (some_is [] labels f)
    (subst (λ (x : List Edge). IsTypedFun same_program same_fun [] x) (some_is (no_edge ∷ []) edges g) same_typed_fun))
each_typed (suc number) fun labels edges e f g = absurd (none-some fun e)

abbrev same_typed : Typed
same_typed = record { low = same_program; states = [] ∷ []; edges = (no_edge ∷ []) ∷ [] }

same_is_typed : IsTyped same_typed
same_is_typed = record {
  main = omega arith;
  headers = λ fun c. subst (λ (x : LowFun). IsSetting (setting_of same_program x.sig)) (only_at fun c.0 c.1 c.2) setting;
  states_each = refl;
  edges_each = refl;
  funs = each_typed;
}

-- ---- its place is in a slot

writes_small : (at place : ℕ) → Contains (writes_at same_fun at) place → place < 1
unfolding writes_at instruction_at instruction_of
writes_small zero place (k, lt, e) = absurd (omega (arith, lt))
writes_small (suc at) place (k, lt, e) = absurd (omega (arith, lt))

-- ---- it is acceptable

is_short : IsShortCode same_program
unfolding Rise
is_short = record { few_types = omega arith; parts = (omega arith, (omega arith, tt)); params = (omega arith, tt); rise = (tt, tt) }

well_signed : IsWellSigned (int_cell ∷ bool_cell ∷ []) number_sig
unfolding are_alone
well_signed = record {
  exist = All-cons (TypeExists (int_cell ∷ bool_cell ∷ [])) (ty.Int (variable_form 1)) (ty.Int (variable_form 0) ∷ []) tt
      (All-cons (TypeExists (int_cell ∷ bool_cell ∷ [])) (ty.Int (variable_form 0)) [] tt (All-nil (TypeExists (int_cell ∷ bool_cell ∷ []))));
  alone = refl;
  result_alone = refl;
  few_vars = omega arith;
  few_rows = omega arith;
  few_result_vars = omega arith;
  few_result_rows = omega arith;
}

well_headed : IsWellHeaded same_program
well_headed = record { table = refl; types = tt; sigs = (well_signed, tt); names = (tt, tt); main = λ fun e. subst (λ (f : LowFun). IsMain f.sig) (same_Some same_fun fun e) (record { kinds = refl }) }

is_acceptable : AreAcceptable same_typed in_slot (λ number at place. nat_lt place 1 ≡ true)
unfolding main_number
is_acceptable = record { each = each_fun; headed = well_headed; main_is = refl }
  where
    same_acceptable : IsAcceptableAt same_typed in_slot 0 same_fun (λ at place. nat_lt place 1 ≡ true)
    same_acceptable = record {
      labels = [];
      edges = no_edge ∷ [];
      own = 16 ∷ [];
      labels_there = refl;
      edges_there = refl;
      homes_there = refl;
      ready = fun_ready same_program 0 same_fun [] (no_edge ∷ []) is_short refl same_typed_fun;
      apart = slots_typed same_fun [] (16 ∷ []) one_slot reads_small writes_small (λ before label e. absurd (none-some label e));
      states = tt;
    }

    each_fun : (number : ℕ) (fun : LowFun) → slice_get (same_fun ∷ []) number ≡ Some fun → IsAcceptableAt same_typed in_slot number fun (λ at place. nat_lt place 1 ≡ true)
    each_fun zero fun e = subst (λ f. IsAcceptableAt same_typed in_slot 0 f (λ at place. nat_lt place 1 ≡ true)) (same_Some same_fun fun e) same_acceptable
    each_fun (suc number) fun e = absurd (none-some fun e)

-- ---- it has a text

own_in : IsFormIn (variable_form 0)
own_in = record { is_form = record { rising = (lit≤ tt, (λ e. absurd cc), tt); few = lit≤ tt; small = refl; small_constant = refl }; variables = (lit≤ tt, tt) }

result_in : IsFormIn (variable_form 1)
result_in = record { is_form = record { rising = (lit≤ tt, (λ e. absurd cc), tt); few = lit≤ tt; small = refl; small_constant = refl }; variables = (lit≤ tt, tt) }

sig_in : IsSignature number_sig
sig_in = record {
  quantifier = record { few = lit≤ tt; are = All-nil _ };
  few = lit≤ tt;
  params = All-cons IsTyIn (ty.Int (variable_form 0)) [] own_in (All-nil IsTyIn);
  result_quantifier = record { few = lit≤ tt; are = All-nil _ };
  result = result_in;
}

is_ranged : IsRanged same_typed in_slot
unfolding AreRangedFuns AreRanged BlocksEnd emitted_all emitted_instr entry_moves parts_of
is_ranged = record {
  few_types = lit≤ tt;
  types = All-nil _;
  few_funs = lit≤ tt;
  funs = (
    record {
      name = refl;
      sig = sig_in;
      homes_are = (slots_apart same_fun (16 ∷ []) one_slot reads_small).homes_are;
      instrs = (record { number = search rules; target = lit≤ tt; type = λ e. lit≤ tt; way = refl; by = tt }, tt);
      edge_each = refl;
      states = tt;
      label_each = refl;
      few_labels = lit≤ tt;
      ends = record { ends = refl; parts = ([], 0 ∷ []); is_parts = refl };
      few = lit≤ tt;
    },
    tt,
  );
}

pub identity_accepted : Accepted (emitted same_typed in_slot)
identity_accepted = accepted_programs same_typed in_slot (λ number at place. nat_lt place 1 ≡ true) same_is_typed is_ranged is_acceptable (program_in same_typed in_slot is_ranged)
