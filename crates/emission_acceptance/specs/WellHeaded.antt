-- What is asked of the types and the signatures of a program, beside what it is for its code to be typed.
use Rattle.std.specs.Prelude.{◌≡◌, ◌≢◌, ◌≤◌, ◌&&◌, true, List, [], ◌∷◌, length, drop, Some, slice_get}
use Rattle.std.specs.List.{All, list_all}
use Rattle.state_types.specs.Tables.{int_cell, bool_cell}
use Rattle.state_types.specs.declared.closed.Packed.{Packed}
use Rattle.state_types.specs.declared.closed.Signature.{Signature}
use Rattle.three_address.specs.Typing.{TypeExists}
use Rattle.three_address.specs.declared.function.LowFun.{LowFun}
use Rattle.three_address.specs.declared.function.Lowered.{Lowered}
use Rattle.dtal_code.specs.Declarations.{are_alone, is_answer_kind, is_argument_kind}
use Rattle.dtal_code.specs.declared.limits.TheConstants.{MOST_VARIABLES, MOST_ROWS}
use Rattle.emission_laws.specs.EmittedRanges.{Each}

-- the types of its parts are there, each variable is an index of one of them by itself, and a context has room for it
pub record IsWellTyped (table : List Packed) (packed : Packed) : Type 0 where
  pub exist : All (TypeExists table) packed.parts
  pub alone : are_alone 0 packed.vars packed.parts ≡ true
  pub few_vars : packed.vars ≤ MOST_VARIABLES
  pub few_rows : length packed.rows ≤ MOST_ROWS

-- the same of a function's type
pub record IsWellSigned (table : List Packed) (sig : Signature) : Type 0 where
  pub exist : All (TypeExists table) (sig.result ∷ sig.params)
  pub alone : are_alone 0 sig.vars sig.params ≡ true
  pub result_alone : are_alone sig.vars sig.result_vars (sig.result ∷ []) ≡ true
  pub few_vars : sig.vars ≤ MOST_VARIABLES
  pub few_rows : length sig.rows ≤ MOST_ROWS
  pub few_result_vars : sig.result_vars ≤ MOST_VARIABLES
  pub few_result_rows : length sig.result_rows ≤ MOST_ROWS

-- no two functions have one name
abbrev pub NamesDiffer : List LowFun → Type 0
NamesDiffer [] = Unit {0}
NamesDiffer (fun ∷ funs) = Each (λ (other : LowFun). fun.name ≢ other.name) funs × NamesDiffer funs

-- its arguments and its answer are of the kinds that a command line gives and a status shows
pub record IsMain (sig : Signature) : Type 0 where
  pub kinds : (list_all is_argument_kind sig.params && is_answer_kind sig.result) ≡ true

-- the cells of numbers and those of truth values come first
pub record IsWellHeaded (low : Lowered) : Type 0 where
  pub table : low.table ≡ int_cell ∷ bool_cell ∷ drop 2 low.table
  pub types : Each (IsWellTyped low.table) (drop 2 low.table)
  pub sigs : Each (λ (fun : LowFun). IsWellSigned low.table fun.sig) low.funs
  pub names : NamesDiffer low.funs
  pub main : (fun : LowFun) → slice_get low.funs low.main ≡ Some fun → IsMain fun.sig
