-- The definitions at small examples, worked out by hand.
use Rattle.std.proofs.Common.{◌≡◌, ℕ, ℤ, pos, negsuc, List, [], ◌∷◌, Some, None, Ok, Err, refl}
use Rattle.xan_lin.specs.Linear.{Linear, variable_form, sized}
use Rattle.xan_lin.specs.Subst.{replacement, replaced_terms, replaced_constant, zero_form}
use Rattle.xan_lin.specs.Terms.{plus_term, sum_terms}
use Rattle.index_sorts.specs.declared.error.ContextError.TheVariants.{Variables}
use Rattle.state_types.specs.Answers.{Check}
use Rattle.state_types.specs.Matching.{pair_of, pairs_of, pair_at, pairs_at, value_for, values_for, differences, index_rows, type_rows, own_rows, demanded, found_with, matched, meeting}
use Rattle.state_types.specs.Tables.{int_cell}
use Rattle.state_types.specs.Unpacking.{with_rows, unpacked}
use Rattle.state_types.specs.Words.{header_from, header_at}
use Rattle.state_types.specs.declared.error.StateError.TheVariants.{Kind}
use Rattle.state_types.specs.declared.matching.Found.{Found}
use Rattle.state_types.specs.declared.state.StateType.{StateType}
use Rattle.state_types.specs.declared.types.Ty.TheVariants.{Int, Bool, Array}

-- so many times variable v, and a number
times : ℕ → ℤ → ℤ → Linear
times v c n = record { terms = record { var = v; coef = c } ∷ []; constant = n }

-- `fun f{n: nat}(a: int[n], i: int(n))` is called with an array of length v0 and the number 2 v1 + 1: n is v0, and the second part demands
-- v0 - 2 v1 - 1 and 2 v1 + 1 - v0, and then n is at least 0
two_less : Linear
two_less = record { terms = record { var = 0; coef = pos 1 } ∷ record { var = 1; coef = negsuc 1 } ∷ []; constant = negsuc 0 }

one_more : Linear
one_more = record { terms = record { var = 0; coef = negsuc 0 } ∷ record { var = 1; coef = pos 2 } ∷ []; constant = pos 1 }

call : Check Found
call = matched 0 1 (variable_form 0 ∷ []) (Array 0 (variable_form 0) ∷ Int (variable_form 0) ∷ []) (Array 0 (variable_form 0) ∷ Int (times 1 (pos 2) (pos 1)) ∷ [])

of_call : call ≡ Ok (record { values = (0, variable_form 0) ∷ []; rows = two_less ∷ one_more ∷ variable_form 0 ∷ [] })
unfolding call two_less one_more times matched found_with pairs_of pair_of values_for value_for demanded type_rows index_rows differences own_rows sized replacement replaced_terms replaced_constant sum_terms plus_term
of_call = refl

-- another type of cells is another kind, at part 1
other_kind : matched 0 0 [] (Bool ∷ Array 0 zero_form ∷ []) (Bool ∷ Array 1 zero_form ∷ []) ≡ Err (Kind 1)
unfolding matched pairs_of pair_of
other_kind = refl

-- a function's own variable 0 stays in its result, whose variable 1 is what is returned
of_result : matched 1 2 (times 1 (pos 1) (negsuc 4) ∷ []) (Int (variable_form 1) ∷ []) (Int (variable_form 0) ∷ []) ≡ Ok (record {
  values = (1, variable_form 0) ∷ [];
  rows = times 0 (pos 1) (negsuc 4) ∷ [];
})
unfolding times matched found_with pairs_of pair_of values_for value_for demanded type_rows index_rows differences own_rows sized replacement replaced_terms replaced_constant sum_terms plus_term
of_result = refl

-- A loop's back edge: variable 1 of the head is given v1 + 1, and variable 0 is itself. The place of the counter fits, the array too, and
-- the head's row v1 >= 0 is demanded as v1 + 1 >= 0.
before : StateType
before = record {
  ctx = record { vars = 3; rows = variable_form 0 ∷ variable_form 1 ∷ [] };
  places = (0, Array 0 (variable_form 0)) ∷ (1, Int (times 1 (pos 1) (pos 1))) ∷ (2, Int (variable_form 2)) ∷ [];
}

head : StateType
head = record { ctx = record { vars = 2; rows = variable_form 1 ∷ [] }; places = (0, Array 0 (variable_form 0)) ∷ (1, Int (variable_form 1)) ∷ [] }

of_edge : meeting before head ((1, times 1 (pos 1) (pos 1)) ∷ []) ≡ Ok (times 1 (pos 1) (pos 1) ∷ [])
unfolding before head times meeting pairs_at pair_at pair_of demanded type_rows index_rows differences own_rows sized replacement replaced_terms replaced_constant sum_terms plus_term
of_edge = refl

-- back the other way place 2 has no type
of_no_edge : meeting head before [] ≡ Err (Kind 2)
unfolding before head times meeting pairs_at pair_at pair_of
of_no_edge = refl

-- a cell that is any number, in a context of 3 variables
of_cell : unpacked (record { vars = 3; rows = [] }) int_cell ≡ Ok (record { vars = 4; rows = [] }, Int (variable_form 3) ∷ [])
unfolding unpacked with_rows
of_cell = refl

too_many : unpacked (record { vars = 1024; rows = [] }) int_cell ≡ Err Variables
unfolding unpacked
too_many = refl

-- an array of two numbers, and behind it an empty tuple of type 2
store : List ℤ
store = pos 0 ∷ pos 2 ∷ pos 5 ∷ pos 0 ∷ pos 5 ∷ pos 0 ∷ []

of_store : (header_at store 0 ≡ Some (record { descriptor = pos 0; cells = pos 2 })) × (header_at store 4 ≡ Some (record { descriptor = pos 5; cells = pos 0 }))
    × (header_at store 3 ≡ None) × (header_at store 6 ≡ None)
unfolding store header_from
of_store = (refl, refl, refl, refl)
