-- What an operation demands of the types that it reads, and what it gives.
use Rattle.std.specs.Prelude.{ℕ, ◌+◌, ◌==◌, ℤ, pos, false, List, [], ◌∷◌, ◌++◌, map, length, slice_get, Option, Some, None, Result, Ok, Err, if◌then◌else◌}
use Rattle.xan_lin.specs.Linear.{Linear, sized, variable_form, sum_of, difference_of, product_of}
use Rattle.xan_lin.specs.Subst.{subst_of}
use Rattle.xan_lin.specs.declared.term.TooLarge.{TooLarge}
use Rattle.state_types.specs.Answers.{◌>>=◌}
use Rattle.state_types.specs.Matching.{matched}
use Rattle.state_types.specs.Types.{same_kind, subst_ty}
use Rattle.state_types.specs.Unpacking.{shifted, shifted_type}
use Rattle.state_types.specs.declared.closed.Packed.{Packed}
use Rattle.state_types.specs.declared.closed.Signature.{Signature}
use Rattle.state_types.specs.declared.matching.Found.{Found}
use Rattle.state_types.specs.declared.types.Ty.{Ty}
use Rattle.state_types.specs.declared.types.Ty.TheVariants as ty
use Rattle.operation_rules.specs.Faults.{Ruling, NoTarget, NoType, WrongCount, WrongKind, needed, or_fault, of_match}
use Rattle.xan_lin.specs.Linear.{excess_of}
use Rattle.operation_rules.specs.Forms.{constant_form, number_of, quotient_rows, remainder_rows, variables_from}
use Rattle.operation_rules.specs.Operations.{Operation, Literal, Truth, Move, Add, Sub, Mul, Div, Mod, Compare, Branch, BranchTruth, Jump, Call, Return, Length, Load, Store, New, Tuple, Untuple, Print}
-- A rule is data: what is demanded, in order; how many fresh variables there are; which rows are taken to hold, where they are within the
-- bounds; and the types of what is written, which have to be. It is that of the code.
pub use Rattle.operation_rules.specs.declared.rule.Rule.{Rule}

-- the closed types, the signatures, and the signature of the function in which the operation stands
pub record Setting : Type 0 where
  pub table : List Packed
  pub sigs : List Signature
  pub own : Signature

-- ---- kinds of rules

-- nothing is fresh, and these types are given
abbrev pub gives : List Linear → List Ty → Rule
gives demands types = record { demands = demands; fresh = 0; assumed = []; given = map Ok types }

-- a number with the value of a form, or one of which nothing is known where the form is past the bounds; `first` is the next variable
abbrev pub gives_number : (first : ℕ) → Result Linear TooLarge → Rule
gives_number first (Ok form) = gives [] (ty.Int form ∷ [])
gives_number first (Err why) = record { demands = []; fresh = 1; assumed = []; given = Ok (ty.Int (variable_form first)) ∷ [] }

-- a fresh number of which rows hold
abbrev pub gives_fresh : (first : ℕ) → List Linear → List (Result Linear TooLarge) → Rule
gives_fresh first demands rows = record { demands = demands; fresh = 1; assumed = rows; given = Ok (ty.Int (variable_form first)) ∷ [] }

-- the parts of a closed type, whose variables are fresh
abbrev pub opens : (first : ℕ) → List Linear → Packed → Rule
opens first demands packed = record {
  demands = demands;
  fresh = packed.vars;
  assumed = map (λ row. Ok (shifted first row)) packed.rows;
  given = map (λ part. Ok (shifted_type first part)) packed.parts;
}

-- a product, where one of the forms is a number
abbrev pub product : (first : ℕ) → Linear → Option ℤ → Linear → Option ℤ → Rule
product first f m g (Some n) = gives_number first (product_of f n)
product first f (Some m) g None = gives_number first (product_of g m)
product first f None g None = gives_fresh first [] []

-- a signature's result, where its variables have these values and the result's own are fresh
abbrev pub returns : (first : ℕ) → Signature → Found → Rule
returns first sig found =
    let all = found.values ++ variables_from sig.vars first sig.result_vars in
    record {
      demands = found.rows;
      fresh = sig.result_vars;
      assumed = map (subst_of all 0) sig.result_rows;
      given = subst_ty all 0 sig.result ∷ [];
    }

-- ---- operands

abbrev pub no_types : List Ty → Ruling (Unit {0})
no_types [] = Ok tt
no_types _ = Err WrongCount

abbrev pub one_type : List Ty → Ruling Ty
one_type (t ∷ []) = Ok t
one_type _ = Err WrongCount

abbrev pub two_types : List Ty → Ruling (Ty × Ty)
two_types (t ∷ u ∷ []) = Ok (t, u)
two_types _ = Err WrongCount

abbrev pub three_types : List Ty → Ruling (Ty × Ty × Ty)
three_types (t ∷ u ∷ v ∷ []) = Ok (t, u, v)
three_types _ = Err WrongCount

abbrev pub as_number : Ty → Ruling Linear
as_number (ty.Int form) = Ok form
as_number _ = Err WrongKind

abbrev pub as_truth : Ty → Ruling (Unit {0})
as_truth ty.Bool = Ok tt
as_truth _ = Err WrongKind

-- the type of the cells, and the length
abbrev pub as_array : Ty → Ruling (ℕ × Linear)
as_array (ty.Array element form) = Ok (element, form)
as_array _ = Err WrongKind

-- a tuple of the type of this number
abbrev pub as_tuple : ℕ → Ty → Ruling (Unit {0})
as_tuple number (ty.Named other) = if number == other then Ok tt else Err WrongKind
as_tuple number _ = Err WrongKind

unfoldable pub two_numbers : List Ty → Ruling (Linear × Linear)
two_numbers types = do
  (t, u) ← two_types types
  f ← as_number t
  g ← as_number u
  Ok (f, g)

-- ---- closed types

abbrev pub only_tuple : Packed → Ruling Packed
only_tuple packed = if packed.tuple then Ok packed else Err NoType

-- the tuple type of this number
unfoldable pub tuple_at : List Packed → ℕ → Ruling Packed
tuple_at table number = do
  packed ← or_fault NoType (slice_get table number)
  only_tuple packed

-- what the cells of an array of this type number hold: a tuple itself, or the one part of a cell type
abbrev pub cell_with : ℕ → Packed → Packed
cell_with number packed =
    if packed.tuple then record { vars = 0; rows = []; parts = ty.Named number ∷ []; tuple = false } else packed

unfoldable pub cell_at : List Packed → ℕ → Ruling Packed
cell_at table number = do
  packed ← or_fault NoType (slice_get table number)
  Ok (cell_with number packed)

abbrev pub as_many : (wanted actual : ℕ) → Ruling (Unit {0})
as_many wanted actual = if wanted == actual then Ok tt else Err WrongCount

-- a match of as many types
unfoldable pub matching : (below vars : ℕ) → (rows : List Linear) → (wanted actual : List Ty) → Ruling Found
matching below vars rows wanted actual = do
  count ← as_many (length wanted) (length actual)
  of_match (matched below vars rows wanted actual)

-- kinds are looked at before any form
unfoldable pub of_kinds : (wanted actual : List Ty) → Ruling (Unit {0})
of_kinds [] [] = Ok tt
of_kinds [] (t ∷ ts) = Err WrongCount
of_kinds (w ∷ ws) [] = Err WrongCount
of_kinds (w ∷ ws) (t ∷ ts) = if same_kind w t then of_kinds ws ts else Err WrongKind

abbrev pub matching_packed : Packed → List Ty → Ruling Found
matching_packed packed types = matching 0 packed.vars packed.rows packed.parts types

-- ---- the rule of each operation

-- the divisor is at least 1
unfoldable pub quotient : (first : ℕ) → List Ty → Ruling Rule
quotient first types = do
  (f, g) ← two_numbers types
  row ← needed (difference_of g (constant_form (pos 1)))
  Ok (gives_fresh first (row ∷ []) (quotient_rows f (number_of g) first))

unfoldable pub remainder : (first : ℕ) → List Ty → Ruling Rule
remainder first types = do
  (f, g) ← two_numbers types
  row ← needed (difference_of g (constant_form (pos 1)))
  Ok (gives_fresh first (row ∷ []) (remainder_rows g first))

-- a length is at least 0
unfoldable pub measured : List Ty → Ruling Rule
measured types = do
  t ← one_type types
  (p, e) ← as_array t
  Ok (record { demands = []; fresh = 0; assumed = Ok e ∷ []; given = Ok (ty.Int e) ∷ [] })

-- an index i is within a length e: i, and e - i - 1
unfoldable pub loaded : Setting → (first : ℕ) → List Ty → Ruling Rule
loaded st first types = do
  (t, u) ← two_types types
  (p, e) ← as_array t
  i ← as_number u
  below ← needed (excess_of e i)
  packed ← cell_at st.table p
  Ok (opens first (i ∷ below ∷ []) packed)

unfoldable pub stored : Setting → List Ty → Ruling Rule
stored st types = do
  (t, u, v) ← three_types types
  (p, e) ← as_array t
  i ← as_number u
  packed ← cell_at st.table p
  kinds ← of_kinds packed.parts (v ∷ [])
  below ← needed (excess_of e i)
  found ← matching_packed packed (v ∷ [])
  Ok (gives (i ∷ below ∷ found.rows) [])

unfoldable pub allocated : Setting → (cells : ℕ) → List Ty → Ruling Rule
allocated st cells types = do
  packed ← cell_at st.table cells
  (t, u) ← two_types types
  e ← as_number t
  found ← matching_packed packed (u ∷ [])
  Ok (gives (e ∷ found.rows) (ty.Array cells e ∷ []))

unfoldable pub constructed : Setting → (number : ℕ) → List Ty → Ruling Rule
constructed st number types = do
  packed ← tuple_at st.table number
  found ← matching_packed packed types
  Ok (gives found.rows (ty.Named number ∷ []))

unfoldable pub split : Setting → (first number count : ℕ) → List Ty → Ruling Rule
split st first number count types = do
  packed ← tuple_at st.table number
  t ← one_type types
  many ← as_many (length packed.parts) count
  tuple ← as_tuple number t
  Ok (opens first [] packed)

unfoldable pub called : Setting → (first fun : ℕ) → List Ty → Ruling Rule
called st first fun types = do
  sig ← or_fault NoTarget (slice_get st.sigs fun)
  found ← matching 0 sig.vars sig.rows sig.params types
  Ok (returns first sig found)

-- the function's result, where its own variables stay what they are
unfoldable pub returned : Signature → List Ty → Ruling Rule
returned own types = do
  found ← matching own.vars (own.vars + own.result_vars) own.result_rows (own.result ∷ []) types
  Ok (gives found.rows [])

-- by the types read, and the number of the next variable
unfoldable pub rule : Setting → Operation → List Ty → (first : ℕ) → Ruling Rule
rule st (Literal n) types first = do
  none ← no_types types
  Ok (gives_number first (sized [] n))
rule st (Truth b) types first = do
  none ← no_types types
  Ok (gives [] (ty.Bool ∷ []))
rule st Move types first = do
  t ← one_type types
  Ok (gives [] (t ∷ []))
rule st Add types first = do
  (f, g) ← two_numbers types
  Ok (gives_number first (sum_of f g))
rule st Sub types first = do
  (f, g) ← two_numbers types
  Ok (gives_number first (difference_of f g))
rule st Mul types first = do
  (f, g) ← two_numbers types
  Ok (product first f (number_of f) g (number_of g))
rule st Div types first = quotient first types
rule st Mod types first = remainder first types
rule st (Compare c) types first = do
  (f, g) ← two_numbers types
  Ok (gives [] (ty.Bool ∷ []))
rule st (Branch c) types first = do
  (f, g) ← two_numbers types
  Ok (gives [] [])
rule st (BranchTruth b) types first = do
  t ← one_type types
  truth ← as_truth t
  Ok (gives [] [])
rule st Jump types first = do
  none ← no_types types
  Ok (gives [] [])
rule st (Call fun) types first = called st first fun types
rule st Return types first = returned st.own types
rule st Length types first = measured types
rule st Load types first = loaded st first types
rule st Store types first = stored st types
rule st (New cells) types first = allocated st cells types
rule st (Tuple number) types first = constructed st number types
rule st (Untuple number count) types first = split st first number count types
rule st Print types first = do
  t ← one_type types
  f ← as_number t
  Ok (gives [] [])
