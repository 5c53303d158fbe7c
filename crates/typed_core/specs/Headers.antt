-- The closed types and the signatures of a program, and the limits of its declarations.
use Rattle.std.specs.Prelude.{◌+◌, ◌≤◌, List, [], ◌∷◌, ◌++◌, length, Ok}
use Rattle.std.specs.List.{All}
use Rattle.xan_lin.specs.declared.term.LimitKind.TheVariants as limit
use Rattle.state_types.specs.Answers.{◌>>=◌}
use Rattle.state_types.specs.Tables.{IsClosed, int_cell, bool_cell}
use Rattle.state_types.specs.declared.closed.Packed.{Packed}
use Rattle.state_types.specs.declared.closed.Signature.{Signature}
use Rattle.operation_rules.specs.Settings.{IsFew}
use Rattle.operation_rules.specs.Sound.{IsHeader}
use Rattle.xanadu_tree.specs.declared.types.Packing.{Packing}
use Rattle.xanadu_tree.specs.Plain as core
use Rattle.typed_core.specs.Forms.{type_of, forms_from, types_from}
use Rattle.typed_core.specs.Limits.{Walk, within, needed, held}
use Rattle.typed_core.specs.Strays.{type_rises, is_closed}

-- ---- how many there are

unfoldable pub few_parts : List Packing → Walk (Unit {0})
few_parts [] = Ok tt
few_parts (packing ∷ packings) = do
  few ← within limit.Parameters (length packing.parts)
  few_parts packings

unfoldable pub few_parameters : List core.Fun → Walk (Unit {0})
few_parameters [] = Ok tt
few_parameters (f ∷ fs) = do
  few ← within limit.Parameters (length f.params)
  few_parameters fs

-- functions, types, and then the parts and parameters of each
unfoldable pub few_declarations : core.Program → Walk (Unit {0})
few_declarations program = do
  functions ← within limit.Functions (length program.funs)
  types ← within limit.Types (length program.types)
  parts ← few_parts program.types
  few_parameters program.funs

-- ---- types

-- its forms, as the text has them: rows and then parts; then how many variables and rows it has; and they name its own variables
unfoldable pub closed_type : Packing → Walk Packed
closed_type packing = do
  rows ← forms_from packing.quant.rows []
  parts ← types_from packing.parts []
  few_variables ← within limit.Variables packing.quant.count
  few_rows ← within limit.Rows (length packing.quant.rows)
  let made : Packed = record { vars = packing.quant.count; rows = rows; parts = parts; tuple = packing.tuple }
  closed ← held (is_closed made)
  Ok made

-- behind those made so far
unfoldable pub closed_types : List Packing → List Packed → Walk (List Packed)
closed_types [] made = Ok made
closed_types (packing ∷ packings) made = do
  one ← closed_type packing
  closed_types packings (made ++ one ∷ [])

-- the table of a program: types 0 and 1, and then the declared ones
abbrev pub table_of : List Packing → Walk (List Packed)
table_of packings = closed_types packings (int_cell ∷ bool_cell ∷ [])

-- ---- headers

-- the same of a function: its rows, its parameters, the rows of its result, its result
unfoldable pub signature : core.Fun → Walk Signature
signature f = do
  rows ← forms_from f.quant.rows []
  params ← types_from f.params []
  result_rows ← forms_from f.result_quant.rows []
  rises ← held (type_rises f.result)
  result ← needed (type_of f.result)
  few_variables ← within limit.Variables (f.quant.count + f.result_quant.count)
  few_rows ← within limit.Rows (length f.quant.rows)
  few_result_rows ← within limit.Rows (length f.result_quant.rows)
  Ok (record {
    vars = f.quant.count;
    rows = rows;
    params = params;
    result_vars = f.result_quant.count;
    result_rows = result_rows;
    result = result;
  })

unfoldable pub signatures : List core.Fun → List Signature → Walk (List Signature)
signatures [] made = Ok made
signatures (f ∷ fs) made = do
  one ← signature f
  signatures fs (made ++ one ∷ [])

-- ---- what is known of them, where the core keeps the rules of a core

-- types and signatures name only their own variables, which are no more than a context can have
pub record AreDeclared (table : List Packed) (sigs : List Signature) : Type 0 where
  pub closed : All IsClosed table
  pub few : All (λ packed. packed.vars ≤ 1024) table
  pub headers : All IsHeader sigs
  pub signed : All IsFew sigs
