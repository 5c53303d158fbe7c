-- Where a statement or an expression stands: what is declared in the program, and what is visible in the function.
use Rattle.std.specs.Prelude.{ℕ, List, [], ◌∷◌, ◌++◌, length, Option, Some, None, Ok, is_some, unwrap_or, nat_eq, slice_get, if◌then◌else◌}
use Rattle.xanadu_tree.specs.declared.tree.declaration.Identifier.{Identifier}
use Rattle.xanadu_tree.specs.declared.types.Kind.{Kind}
use Rattle.xanadu_tree.specs.declared.types.Kind.TheVariants as kind
use Rattle.xanadu_tree.specs.declared.types.Packing.{Packing}
use Rattle.xanadu_tree.specs.Plain as core
use Rattle.type_shapes.specs.declared.error.ShapeKind.TheVariants.{NamedTwice, OtherKind, Count}
use Rattle.type_shapes.specs.Faults.{Check, fault, ◌>>=◌}
use Rattle.type_shapes.specs.Headers.{Header, Functions}
use Rattle.type_shapes.specs.Kinds.{same_kind, parts_of}
use Rattle.type_shapes.specs.Names.{Scope, meaning, first, place, or_unknown, Types, tuple_type}

-- ---- the program

pub record Globals : Type 0 where
  pub types : Types
  pub packings : List Packing
  pub functions : Functions

-- ---- the function: its visible variables and index names, the kind of each variable that was declared so far, and the number of the next
-- index variable of a clause

pub record Locals : Type 0 where
  pub variables : Scope
  pub kinds : List Kind
  pub indices : Scope
  pub next : ℕ

-- one variable more, with its number
unfoldable pub declared : Identifier → Kind → Locals → ℕ × Locals
declared name k locals = (length locals.kinds, record locals { variables = (name.name, length locals.kinds) ∷ locals.variables; kinds = locals.kinds ++ (k ∷ []) })

-- the same, unless a variable of this name is visible
unfoldable pub new_variable : Identifier → Kind → Locals → Check (ℕ × Locals)
new_variable name k locals = if is_some (meaning name.name locals.variables) then fault NamedTwice name.at else Ok (declared name k locals)

-- the latest names gone, but for so many variables and index names
unfoldable pub without : (variables indices : ℕ) → Locals → Locals
without variables indices locals = record locals { variables = first variables locals.variables; indices = first indices locals.indices }

-- the locals behind a block that began with the outer ones
abbrev pub behind_block : Locals → Locals → Locals
behind_block outer inner = without (length outer.variables) (length outer.indices) inner

-- ---- expressions and their kinds

pub record Typed : Type 0 where
  pub expr : core.Expr
  pub kind : Kind

abbrev pub variable_kind : List Kind → ℕ → Kind
variable_kind kinds number = unwrap_or (slice_get kinds number) kind.Unit

-- the visible variable of this name
unfoldable pub variable : Locals → Identifier → Check Typed
variable locals name = do
  number ← or_unknown name.at (meaning name.name locals.variables)
  Ok (record { expr = core.Var number; kind = variable_kind locals.kinds number })

-- the expression, where it is of the kind that is asked for; else the fault is at its place
unfoldable pub asked : Kind → ℕ → Typed → Check core.Expr
asked k at typed = if same_kind typed.kind k then Ok typed.expr else fault OtherKind at

-- the type of an array's cells
unfoldable pub asked_array : ℕ → Kind → Check ℕ
asked_array at (kind.Array element) = Ok element
asked_array at _ = fault OtherKind at

-- the type of a tuple
unfoldable pub asked_tuple : ℕ → Kind → Check ℕ
asked_tuple at (kind.Named number) = Ok number
asked_tuple at _ = fault OtherKind at

-- any kind but that of a call without a value
unfoldable pub asked_value : ℕ → Kind → Check Kind
asked_value at kind.Unit = fault OtherKind at
asked_value at k = Ok k

-- ---- what is called or made, with so many arguments

abbrev pub counted : {A : Type 0} → ℕ → (wanted given : ℕ) → A → Check A
counted at wanted given x = if nat_eq wanted given then Ok x else fault Count at

abbrev pub header_at : ℕ → ℕ → Option Header → Check (ℕ × Header)
header_at at number None = or_unknown at None
header_at at number (Some h) = Ok (number, h)

-- the number and the header of the function of this name
unfoldable pub function : Globals → Identifier → Check (ℕ × Header)
function globals name = do
  number ← or_unknown name.at (place name.name globals.functions.names)
  header_at name.at number (slice_get globals.functions.headers number)

unfoldable pub called : Globals → Identifier → (given : ℕ) → Check (ℕ × Header)
called globals name given = do
  (number, h) ← function globals name
  counted name.at (length h.params) given (number, h)

-- the number of the tuple type of this name
unfoldable pub made : Globals → Identifier → (given : ℕ) → Check ℕ
made globals name given = do
  number ← tuple_type globals.types name
  counted name.at (length (parts_of globals.packings number)) given number
