-- Operations worked out by hand.
use Rattle.std.proofs.Common.{◌≡◌, ℕ, pos, negsuc, true, false, List, [], ◌∷◌, Some, None, Ok, Err, refl}
use Rattle.xan_io.specs.Outcome.{NoStore, Overflow, Stuck}
use Rattle.xan_io.specs.Entry.{ArgKind, ArgIndex, EntryRow}
use Rattle.xan_io.specs.declared.arg.Arg.TheVariants as arg
use Rattle.index_sorts.specs.Context.{IndexContext}
use Rattle.index_sorts.specs.Known.{knows, with_row}
use Rattle.xan_lin.specs.Linear.{Linear, sized, variable_form, excess_of}
use Rattle.xan_lin.specs.Subst.{replacement, replaced_terms, replaced_constant}
use Rattle.xan_lin.specs.Terms.{sum_terms, plus_term}
use Rattle.xan_lin.specs.Value.{value_of_terms}
use Rattle.state_types.specs.Matching.{matched, found_with, pairs_of, pair_of, values_for, value_for, demanded, type_rows, index_rows, differences, own_rows}
use Rattle.state_types.specs.Tables.{int_cell, bool_cell}
use Rattle.state_types.specs.Types.{subst_ty}
use Rattle.state_types.specs.Words.{header_from}
use Rattle.state_types.specs.declared.closed.Packed.{Packed}
use Rattle.state_types.specs.declared.closed.Signature.{Signature}
use Rattle.state_types.specs.declared.types.Ty.{Ty}
use Rattle.state_types.specs.declared.types.Ty.TheVariants as ty
use Rattle.operation_rules.specs.Applied.{applied, widened, all_assuming, all_given, named, all_there, ruled}
use Rattle.operation_rules.specs.Effects.{Writes, Takes, Ends, cells_from, effect}
use Rattle.operation_rules.specs.Entry.{kind_fault, variable_value, variable_values, index_fault, row_fault, entry_fault, placed}
use Rattle.operation_rules.specs.Faults.{NoTarget, NoType, NoPlace, WrongCount, WrongKind, Large}
use Rattle.xan_lin.specs.declared.term.TooLarge.TheVariants.{Magnitude}
use Rattle.operation_rules.specs.FlatWords.{Flat, flat_words}
use Rattle.operation_rules.specs.Forms.{constant_form, variables_from}
use Rattle.operation_rules.specs.Operations.{Add, Div, Mod, Compare, Branch, Call, Length, Load, Store, New, Untuple}
use Rattle.operation_rules.specs.Rules.{Setting, rule, tuple_at, cell_at, matching, loaded, split, called, of_kinds, stored}

-- ---- effects on flat words: an array of two numbers, 5 and 7, and then a tuple of one part, 1

store : Flat
store = record { words = pos 0 ∷ pos 2 ∷ pos 5 ∷ pos 7 ∷ pos 5 ∷ pos 1 ∷ pos 1 ∷ []; heap = 10 }

floor : effect flat_words Div (negsuc 6 ∷ pos 2 ∷ []) store ≡ Writes (negsuc 3 ∷ []) store
floor = refl

rest : effect flat_words Mod (negsuc 6 ∷ pos 2 ∷ []) store ≡ Writes (pos 1 ∷ []) store
rest = refl

by_zero : effect flat_words Div (pos 1 ∷ pos 0 ∷ []) store ≡ Ends Stuck
by_zero = refl

too_large : effect flat_words Add (pos 9223372036854775807 ∷ pos 1 ∷ []) store ≡ Ends Overflow
too_large = refl

at_most : effect flat_words (Compare 1) (pos 3 ∷ pos 3 ∷ []) store ≡ Writes (pos 1 ∷ []) store
at_most = refl

goes_on : effect flat_words (Branch 0) (pos 3 ∷ pos 3 ∷ []) store ≡ Takes false
goes_on = refl

length_read : effect flat_words Length (pos 0 ∷ []) store ≡ Writes (pos 2 ∷ []) store
unfolding store header_from
length_read = refl

no_block : effect flat_words Length (pos 1 ∷ []) store ≡ Ends Stuck
unfolding store header_from
no_block = refl

cell_read : effect flat_words Load (pos 0 ∷ pos 1 ∷ []) store ≡ Writes (pos 7 ∷ []) store
unfolding store header_from
cell_read = refl

past_the_end : effect flat_words Load (pos 0 ∷ pos 2 ∷ []) store ≡ Ends Stuck
unfolding store header_from
past_the_end = refl

cell_put : effect flat_words Store (pos 0 ∷ pos 1 ∷ pos 9 ∷ []) store
    ≡ Writes [] (record { words = pos 0 ∷ pos 2 ∷ pos 5 ∷ pos 9 ∷ pos 5 ∷ pos 1 ∷ pos 1 ∷ []; heap = 10 })
unfolding store header_from
cell_put = refl

parts_read : effect flat_words (Untuple 2 1) (pos 4 ∷ []) store ≡ Writes (pos 1 ∷ []) store
unfolding store header_from cells_from
parts_read = refl

array_made : effect flat_words (New 1) (pos 1 ∷ pos 0 ∷ []) store
    ≡ Writes (pos 7 ∷ []) (record { words = pos 0 ∷ pos 2 ∷ pos 5 ∷ pos 7 ∷ pos 5 ∷ pos 1 ∷ pos 1 ∷ pos 2 ∷ pos 1 ∷ pos 0 ∷ []; heap = 10 })
unfolding store
array_made = refl

no_room : effect flat_words (New 1) (pos 2 ∷ pos 0 ∷ []) store ≡ Ends NoStore
unfolding store
no_room = refl

-- ---- rules

-- p <= q of a pair, number 2
pair : Packed
pair = record {
  vars = 2;
  rows = record { terms = record { var = 0; coef = negsuc 0 } ∷ record { var = 1; coef = pos 1 } ∷ []; constant = pos 0 } ∷ [];
  parts = ty.Int (variable_form 0) ∷ ty.Int (variable_form 1) ∷ [];
  tuple = true;
}

-- a function of a number n of at least 0, with a result r of at least n
sig : Signature
sig = record {
  vars = 1;
  rows = variable_form 0 ∷ [];
  params = ty.Int (variable_form 0) ∷ [];
  result_vars = 1;
  result_rows = record { terms = record { var = 0; coef = negsuc 0 } ∷ record { var = 1; coef = pos 1 } ∷ []; constant = pos 0 } ∷ [];
  result = ty.Int (variable_form 1);
}

abbrev st : Setting
st = record { table = int_cell ∷ bool_cell ∷ pair ∷ []; sigs = sig ∷ []; own = sig }

abbrev ctx_of : ℕ → List Linear → IndexContext
ctx_of vars rows = record { vars = vars; rows = rows }

-- v1 - v0 - 1
abbrev below_length : Linear
below_length = record { terms = record { var = 0; coef = pos 1 } ∷ record { var = 1; coef = negsuc 0 } ∷ []; constant = negsuc 0 }

load_ruled : ruled st Load (Some (ty.Array 0 (variable_form 0)) ∷ Some (ty.Int (variable_form 1)) ∷ []) (ctx_of 2 [])
    ≡ Ok (record { demands = variable_form 1 ∷ below_length ∷ []; ctx = ctx_of 3 []; types = ty.Int (variable_form 2) ∷ [] })
unfolding ruled named all_there rule loaded cell_at applied widened all_assuming all_given excess_of sized sum_terms plus_term
load_ruled = refl

-- the result of a call with 5 is a fresh number r with r - 5 at least 0
call_ruled : ruled st (Call 0) (Some (ty.Int (constant_form (pos 5))) ∷ []) (ctx_of 0 [])
    ≡ Ok (record {
      demands = constant_form (pos 5) ∷ [];
      ctx = ctx_of 1 (record { terms = record { var = 0; coef = pos 1 } ∷ []; constant = negsuc 4 } ∷ []);
      types = ty.Int (variable_form 0) ∷ [];
    })
unfolding ruled named all_there rule called matching matched found_with pairs_of pair_of values_for value_for demanded type_rows index_rows differences own_rows applied widened all_assuming all_given replacement replaced_terms replaced_constant sized sum_terms plus_term subst_ty variables_from with_row knows sig
call_ruled = refl

tuple_open : ruled st (Untuple 2 2) (Some (ty.Named 2) ∷ []) (ctx_of 1 [])
    ≡ Ok (record {
      demands = [];
      ctx = ctx_of 3 (record { terms = record { var = 1; coef = negsuc 0 } ∷ record { var = 2; coef = pos 1 } ∷ []; constant = pos 0 } ∷ []);
      types = ty.Int (variable_form 1) ∷ ty.Int (variable_form 2) ∷ [];
    })
unfolding ruled named all_there rule split tuple_at applied widened all_assuming all_given with_row knows pair
tuple_open = refl

-- the faults, in the order of the rules
no_function : ruled st (Call 1) (None ∷ []) (ctx_of 0 []) ≡ Err NoTarget
unfolding ruled named
no_function = refl

no_tuple : ruled st (Untuple 1 3) (None ∷ []) (ctx_of 0 []) ≡ Err NoType
unfolding ruled named tuple_at
no_tuple = refl

no_place : ruled st (Untuple 2 3) (None ∷ []) (ctx_of 0 []) ≡ Err NoPlace
unfolding ruled named tuple_at all_there pair
no_place = refl

wrong_count : ruled st (Untuple 2 3) (Some ty.Bool ∷ []) (ctx_of 0 []) ≡ Err WrongCount
unfolding ruled named tuple_at all_there rule split pair
wrong_count = refl

wrong_kind : ruled st (Untuple 2 2) (Some ty.Bool ∷ []) (ctx_of 0 []) ≡ Err WrongKind
unfolding ruled named tuple_at all_there rule split pair
wrong_kind = refl

-- past the bounds is the index, and of another kind the value: the kind is named
kind_before_form : ruled st Store (Some (ty.Array 0 (constant_form (pos 2))) ∷ Some (ty.Int (constant_form (negsuc 4611686018427387902))) ∷ Some ty.Bool ∷ []) (ctx_of 0 []) ≡ Err WrongKind
unfolding ruled named all_there rule stored cell_at of_kinds
kind_before_form = refl

form_past : ruled st Load (Some (ty.Array 0 (constant_form (pos 2))) ∷ Some (ty.Int (constant_form (negsuc 4611686018427387902))) ∷ []) (ctx_of 0 []) ≡ Err (Large Magnitude)
unfolding ruled named all_there rule loaded cell_at excess_of sized sum_terms
form_past = refl

-- ---- entry

abbrev params : List Ty
params = ty.Array 0 (variable_form 0) ∷ ty.Int (variable_form 0) ∷ []

entry_right : entry_fault 1 (variable_form 0 ∷ []) params (arg.Array (pos 4 ∷ pos 6 ∷ []) ∷ arg.Int (pos 2) ∷ []) ≡ None
unfolding entry_fault kind_fault variable_values variable_value index_fault row_fault value_of_terms
entry_right = refl

entry_index : entry_fault 1 (variable_form 0 ∷ []) params (arg.Array (pos 4 ∷ pos 6 ∷ []) ∷ arg.Int (pos 3) ∷ []) ≡ Some (ArgIndex 2)
unfolding entry_fault kind_fault variable_values variable_value index_fault row_fault value_of_terms
entry_index = refl

entry_row : entry_fault 1 (variable_form 0 ∷ []) (ty.Int (variable_form 0) ∷ []) (arg.Int (negsuc 0) ∷ []) ≡ Some (EntryRow 1)
unfolding entry_fault kind_fault variable_values variable_value index_fault row_fault value_of_terms
entry_row = refl

entry_kind : entry_fault 1 [] params (arg.Int (pos 2) ∷ arg.Bool true ∷ []) ≡ Some (ArgKind 1)
unfolding entry_fault kind_fault variable_values variable_value index_fault row_fault value_of_terms
entry_kind = refl

entry_placed : placed flat_words (arg.Array (pos 4 ∷ pos 6 ∷ []) ∷ arg.Int (pos 2) ∷ []) (record { words = []; heap = 4 })
    ≡ Some (pos 0 ∷ pos 2 ∷ [], record { words = pos 0 ∷ pos 2 ∷ pos 4 ∷ pos 6 ∷ []; heap = 4 })
unfolding placed
entry_placed = refl
