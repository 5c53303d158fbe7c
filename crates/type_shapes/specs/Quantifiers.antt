-- Quantifiers: opened before the types under them are read, closed after.
use Rattle.std.specs.Prelude.{ℕ, pos, ◌+◌, ◌-◌, Bool as Truth, false, List, [], ◌∷◌, ◌++◌, Option, Some, None, Ok, nat_le, if◌then◌else◌}
use Rattle.std.specs.List.{list_any}
use Rattle.std.specs.BTreeMap.{is_at}
use Rattle.std.specs.BTreeSet.{insert_key}
use Rattle.std.specs.Ordering.{nat_cmp}
use Rattle.xanadu_tree.specs.declared.linear.Linear.{Linear}
use Rattle.xanadu_tree.specs.declared.types.CoreTy.{CoreTy}
use Rattle.xanadu_tree.specs.declared.types.CoreTy.TheVariants as ty
use Rattle.xanadu_tree.specs.declared.types.Quant.{Quant}
use Rattle.xanadu_tree.specs.declared.tree.index.Binder.{Binder}
use Rattle.xanadu_tree.specs.declared.tree.index.Sign.TheVariants.{Plus}
use Rattle.xanadu_tree.specs.declared.tree.index.Sort.{Sort}
use Rattle.xanadu_tree.specs.declared.tree.index.Sort.TheVariants as sort
use Rattle.xanadu_tree.specs.declared.tree.types.Element.{Element}
use Rattle.xanadu_tree.specs.declared.tree.types.Element.TheVariants as element
use Rattle.xanadu_tree.specs.PlainTree as plain
use Rattle.type_shapes.specs.declared.error.ShapeKind.TheVariants.{NamedTwice, NoIndex}
use Rattle.type_shapes.specs.Faults.{Check, fault, ◌>>=◌}
use Rattle.type_shapes.specs.Linears.{constant_form, linear, variable_form, lone, index_in, relations_in}
use Rattle.type_shapes.specs.Names.{Scope, meaning, or_unknown, Types, type_number, tuple_type}

-- A quantifier while types under it are read: the number of its first variable, that of the next one to come, its rows so far, and the
-- variables that are an index alone and with coefficient 1, rising.
pub record Frame : Type 0 where
  pub first : ℕ
  pub next : ℕ
  pub rows : List Linear
  pub indices : List ℕ

abbrev pub empty_frame : ℕ → Frame
empty_frame first = record { first = first; next = first; rows = []; indices = [] }

-- ---- binders and relations

-- whether a name means a variable that is numbered from there on
abbrev pub is_from : ℕ → Option ℕ → Truth
is_from first None = false
is_from first (Some variable) = nat_le first variable

abbrev pub sort_rows : Sort → ℕ → List Linear → List Linear
sort_rows sort.Int variable rows = rows
sort_rows sort.Nat variable rows = rows ++ (variable_form variable ∷ [])

-- the frame with one variable more
unfoldable pub with_variable : Sort → Frame → Frame
with_variable kind frame = record frame { next = frame.next + 1; rows = sort_rows kind frame.next frame.rows }

unfoldable pub bind : List Binder → Frame → Scope → Check (Frame × Scope)
bind [] frame scope = Ok (frame, scope)
bind (b ∷ bs) frame scope =
    if is_from frame.first (meaning b.name.name scope) then fault NamedTwice b.name.at
    else bind bs (with_variable b.sort frame) ((b.name.name, frame.next) ∷ scope)

-- the quantifier opened, its first variable with this number, and what names mean under it
unfoldable pub opened : Option plain.Quantifier → ℕ → Scope → Check (Frame × Scope)
opened None first scope = Ok (empty_frame first, scope)
opened (Some q) first scope = do
  (frame, inner) ← bind q.binders (empty_frame first) scope
  rows ← relations_in inner q.relations frame.rows
  Ok (record frame { rows = rows }, inner)

-- ---- types under a quantifier

abbrev pub noted : Option ℕ → List ℕ → List ℕ
noted None indices = indices
noted (Some variable) indices = insert_key nat_cmp indices variable

-- an index as it is written
unfoldable pub index : Scope → plain.IndexExpression → Frame → Check (Linear × Frame)
index scope e frame = do
  form ← index_in scope Plus e (constant_form (pos 0))
  let it = linear form
  Ok (it, record frame { indices = noted (lone it.terms it.constant) frame.indices })

unfoldable pub element_number : Types → Element → Check ℕ
element_number types (element.Int at) = Ok 0
element_number types (element.Bool at) = Ok 1
element_number types (element.Named name) = or_unknown name.at (type_number name.name types)

-- a new variable, as a form
abbrev pub fresh : Sort → Frame → Linear × Frame
fresh kind frame = (variable_form frame.next, with_variable kind frame)

-- the length of an array: as it is written, or else a new variable that is at least 0
unfoldable pub length_of : Scope → Option plain.IndexExpression → Frame → Check (Linear × Frame)
length_of scope None frame = Ok (fresh sort.Nat frame)
length_of scope (Some e) frame = index scope e frame

-- a type as it is written; the index of an `int` that has none is a new variable
unfoldable pub type_in : Types → Scope → plain.WrittenType → Frame → Check (CoreTy × Frame)
type_in types scope (plain.Int at) frame = Ok (ty.Int (variable_form frame.next), with_variable sort.Int frame)
type_in types scope (plain.IntOf e at) frame = do
  (form, more) ← index scope e frame
  Ok (ty.Int form, more)
type_in types scope (plain.Bool at) frame = Ok (ty.Bool, frame)
type_in types scope (plain.Named name) frame = do
  number ← tuple_type types name
  Ok (ty.Named number, frame)
type_in types scope (plain.Array cell size) frame = do
  number ← element_number types cell
  (form, more) ← length_of scope size frame
  Ok (ty.Array number form, more)

-- types in order, after those that were read
unfoldable pub types_in : Types → Scope → List plain.WrittenType → List CoreTy → Frame → Check (List CoreTy × Frame)
types_in types scope [] made frame = Ok (made, frame)
types_in types scope (t ∷ ts) made frame = do
  (one, more) ← type_in types scope t frame
  types_in types scope ts (made ++ (one ∷ [])) more

-- ---- the end of a quantifier

abbrev pub is_index : ℕ → List ℕ → Truth
is_index variable indices = list_any (is_at (nat_cmp variable)) indices

-- the place of the first binder whose variable, counted from this number, is no index
unfoldable pub unindexed : List Binder → ℕ → List ℕ → Option ℕ
unindexed [] number indices = None
unindexed (b ∷ bs) number indices = if is_index number indices then unindexed bs (number + 1) indices else Some b.name.at

abbrev pub quant : Frame → Quant
quant frame = record { count = frame.next - frame.first; rows = frame.rows }

abbrev or_no_index : Option ℕ → Quant → Check Quant
or_no_index None q = Ok q
or_no_index (Some at) q = fault NoIndex at

-- the quantifier, or its first binder that is no index
unfoldable pub closed : Option plain.Quantifier → Frame → Check Quant
closed None frame = Ok (quant frame)
closed (Some q) frame = or_no_index (unindexed q.binders frame.first frame.indices) (quant frame)
