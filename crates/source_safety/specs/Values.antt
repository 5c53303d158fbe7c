-- What it is for a value to have a type, with its tag, and for a store of separate blocks to hold values of its types.
use Rattle.std.specs.Prelude.{◌≡◌, ℕ, ◌+◌, ◌*◌, ℤ, List, [], ◌∷◌, slice_get, Some, Ok}
use Rattle.std.specs.List.{AllZip}
use Rattle.state_types.specs.Words.{Headers, HasType}
use Rattle.state_types.specs.declared.closed.Packed.{Packed}
use Rattle.state_types.specs.declared.types.Ty.{Ty}
use Rattle.state_types.specs.declared.types.Ty.TheVariants as ty
use Rattle.operation_rules.specs.Rules.{cell_at, tuple_at}
use Rattle.operation_rules.specs.Stored.{StoreFits}
use Rattle.typed_core.specs.SourceOperands.{no_cells}
use Rattle.typed_core.specs.SourceValues.{Tag, Number, Truth, Array, Tuple, Value, Block, Blocks, header_in, separate, tags_of}

-- the tag of the values of a type
abbrev pub tag_for : Ty → Tag
tag_for (ty.Int form) = Number
tag_for ty.Bool = Truth
tag_for (ty.Array element form) = Array
tag_for (ty.Named number) = Tuple

unfoldable pub tags_for : List Ty → List Tag
tags_for [] = []
tags_for (t ∷ ts) = tag_for t ∷ tags_for ts

-- the headers of a source's blocks, by their numbers
abbrev pub headers_of : Blocks → Headers
headers_of store = λ block. header_in (slice_get store.blocks block)

pub record HasValue (headers : Headers) (assignment : List ℤ) (v : Value) (t : Ty) : Type 0 where
  pub tagged : v.tag ≡ tag_for t
  pub typed : HasType headers assignment v.word t

-- values in turn
abbrev pub HaveValues : Headers → List ℤ → List Value → List Ty → Type 0
HaveValues headers assignment values types = AllZip (HasValue headers assignment) values types

-- the cells of a block have the tags of its type
pub record IsTagged (table : List Packed) (b : Block) : Type 0 where
  pub arrays : (element : ℕ) (packed : Packed) (index : ℕ) (v : Value) → b.descriptor ≡ 2 * element → cell_at table element ≡ Ok packed
      → slice_get b.cells index ≡ Some v → tags_for packed.parts ≡ v.tag ∷ []
  pub tuples : (number : ℕ) (packed : Packed) → b.descriptor ≡ 2 * number + 1 → tuple_at table number ≡ Ok packed → tags_of b.cells ≡ tags_for packed.parts

pub record AreTagged (table : List Packed) (store : Blocks) : Type 0 where
  pub by : (block : ℕ) (b : Block) → slice_get store.blocks block ≡ Some b → IsTagged table b

-- its words have their types, and their tags
pub record StoreHolds (table : List Packed) (store : Blocks) : Type 0 where
  pub fits : StoreFits (separate no_cells) table store
  pub tagged : AreTagged table store
