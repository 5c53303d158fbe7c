-- Simple kinds: of a type, of a cell, of a part.
use Rattle.std.specs.Prelude.{ℕ, ◌-◌, Bool as Truth, true, false, List, [], Option, Some, None, nat_eq, slice_get, if◌then◌else◌}
use Rattle.xanadu_tree.specs.declared.types.CoreTy.{CoreTy}
use Rattle.xanadu_tree.specs.declared.types.CoreTy.TheVariants as ty
use Rattle.xanadu_tree.specs.declared.types.Kind.{Kind}
use Rattle.xanadu_tree.specs.declared.types.Kind.TheVariants as kind
use Rattle.xanadu_tree.specs.declared.types.Packing.{Packing}

abbrev pub kind_of : CoreTy → Kind
kind_of (ty.Int form) = kind.Int
kind_of ty.Bool = kind.Bool
kind_of (ty.Array element form) = kind.Array element
kind_of (ty.Named number) = kind.Named number

abbrev pub same_kind : Kind → Kind → Truth
same_kind kind.Int kind.Int = true
same_kind kind.Bool kind.Bool = true
same_kind (kind.Array a) (kind.Array b) = nat_eq a b
same_kind (kind.Named a) (kind.Named b) = nat_eq a b
same_kind kind.Unit kind.Unit = true
same_kind _ _ = false

-- the kind of the type at the place of a list
abbrev kind_or_unit : Option CoreTy → Kind
kind_or_unit None = kind.Unit
kind_or_unit (Some t) = kind_of t

unfoldable pub kind_at : List CoreTy → ℕ → Kind
kind_at types at = kind_or_unit (slice_get types at)

-- the kind of a cell of a declared type: that of its one part, or the tuple
abbrev pub cell_kind : ℕ → Option Packing → Kind
cell_kind number None = kind.Unit
cell_kind number (Some p) = if p.tuple then kind.Named number else kind_at p.parts 0

-- the kind of a cell of this type
unfoldable pub element_kind : List Packing → ℕ → Kind
element_kind packings number =
    if nat_eq number 0 then kind.Int
    else if nat_eq number 1 then kind.Bool
    else cell_kind number (slice_get packings (number - 2))

abbrev parts_or_none : Option Packing → List CoreTy
parts_or_none None = []
parts_or_none (Some p) = p.parts

-- the types of the parts of a declared type
unfoldable pub parts_of : List Packing → ℕ → List CoreTy
parts_of packings number = parts_or_none (slice_get packings (number - 2))
