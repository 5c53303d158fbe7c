-- Names and what they name.
use Rattle.std.specs.Prelude.{ℕ, ◌+◌, ◌-◌, Bool as Truth, false, List, [], ◌∷◌, ◌++◌, length, drop, unwrap_or, slice_get, position, bytes_eq, Option, Some, None, Ok, if◌then◌else◌}
use Rattle.std.specs.List.{list_any}
use Rattle.std.specs.Map.{lookup}
use Rattle.xanadu_tree.specs.declared.tree.declaration.Identifier.{Identifier}
use Rattle.type_shapes.specs.declared.error.ShapeKind.TheVariants.{NamedTwice, Unknown, CellType}
use Rattle.type_shapes.specs.Faults.{Check, fault, ◌>>=◌}

-- ---- scopes: names and the numbers that they mean, the latest first, so that a name may hide an earlier one

abbrev pub Scope : Type 0
Scope = List (List ℕ × ℕ)

unfoldable pub meaning : List ℕ → Scope → Option ℕ
meaning name scope = lookup (bytes_eq name) scope

-- the scope with so many declarations, the latest ones gone
unfoldable pub first : ℕ → Scope → Scope
first count scope = drop (length scope - count) scope

-- ---- tables: different names in the order of the text, numbered from 0

abbrev pub Table : Type 0
Table = List (List ℕ)

unfoldable pub place : List ℕ → Table → Option ℕ
place name table = position (bytes_eq name) table

abbrev pub or_unknown : {A : Type 0} → ℕ → Option A → Check A
or_unknown at None = fault Unknown at
or_unknown at (Some x) = Ok x

-- the table with one name more
unfoldable pub added : Identifier → Table → Check Table
added name table = if list_any (bytes_eq name.name) table then fault NamedTwice name.at else Ok (table ++ (name.name ∷ []))

-- ---- declared types: their names, and whether each is a tuple type. Their numbers begin with 2.

pub record Types : Type 0 where
  pub names : Table
  pub tuples : List Truth

abbrev pub no_types : Types
no_types = record { names = []; tuples = [] }

abbrev from_two : Option ℕ → Option ℕ
from_two None = None
from_two (Some n) = Some (n + 2)

unfoldable pub type_number : List ℕ → Types → Option ℕ
type_number name types = from_two (place name types.names)

-- the number of the tuple type of this name
unfoldable pub tuple_type : Types → Identifier → Check ℕ
tuple_type types name = do
  number ← or_unknown name.at (type_number name.name types)
  if unwrap_or (slice_get types.tuples (number - 2)) false then Ok number else fault CellType name.at
