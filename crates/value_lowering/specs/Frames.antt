-- What stands throughout a function that is lowered, the places of its variables and temporaries, and the tuple type that a `let` takes apart.
use Rattle.std.specs.Prelude.{ℕ, ◌+◌, List, map, slice_get, Option, Some, None}
use Rattle.std.specs.Option.{option_and_then}
use Rattle.xanadu_tree.specs.declared.types.Kind.{Kind}
use Rattle.xanadu_tree.specs.declared.types.Kind.TheVariants as kind
use Rattle.xanadu_tree.specs.declared.types.Packing.{Packing}
use Rattle.xanadu_tree.specs.KindRules.{kind_of, cell_kind}
use Rattle.xanadu_tree.specs.Plain as core

-- the declared types, the kind of each function's declared result, and the kind of each variable of this function
pub record Frame : Type 0 where
  pub types : List Packing
  pub results : List Kind
  pub kinds : List Kind

abbrev pub frame_of : core.Program → core.Fun → Frame
frame_of program f = record { types = program.types; results = map (λ g. kind_of g.result) program.funs; kinds = f.kinds }

-- ---- places

-- Variables have the first places, in order, and temporaries t0, t1, .. follow them.
abbrev pub temporary : (vars : ℕ) → ℕ → ℕ
temporary vars d = vars + d

-- an operand at a depth is in its variable's place, or in the temporary of the depth
abbrev pub operand_place : (vars : ℕ) → core.Expr → (d : ℕ) → ℕ
operand_place vars (core.Var x) d = x
operand_place vars e d = temporary vars d

-- ---- kinds

abbrev pub cell_of : List Packing → Kind → Option Kind
cell_of types (kind.Array element) = cell_kind types element
cell_of types _ = None

-- The kind of a value, as what makes it has it. No operand is looked at but the array of an index.
unfoldable pub kind_found : Frame → core.Expr → Option Kind
kind_found frame (core.Int n) = Some kind.Int
kind_found frame (core.Bool b) = Some kind.Bool
kind_found frame (core.Var x) = slice_get frame.kinds x
kind_found frame (core.Neg e) = Some kind.Int
kind_found frame (core.Chain first rest) = Some kind.Int
kind_found frame (core.Compare rel left right) = Some kind.Bool
kind_found frame (core.Index array index at) = option_and_then (cell_of frame.types) (kind_found frame array)
kind_found frame (core.Len array) = Some kind.Int
kind_found frame (core.Call fun args at) = slice_get frame.results fun
kind_found frame (core.Make number args at) = Some (kind.Named number)
kind_found frame (core.New element len fill at) = Some (kind.Array element)

abbrev pub number_in : Option Kind → ℕ
number_in (Some (kind.Named number)) = number
number_in _ = 0

-- the number of the tuple type of which the expression is a value; 0 where it is none
abbrev pub tuple_number : Frame → core.Expr → ℕ
tuple_number frame e = number_in (kind_found frame e)
