-- Names of types and their bodies, headers of functions, and `main`.
use Rattle.std.specs.Prelude.{ℕ, ◌+◌, pos, Bool as Truth, true, false, List, [], ◌∷◌, ◌++◌, codes, length, Option, Some, None, Ok, is_some, slice_get, nat_eq, if◌then◌else◌}
use Rattle.xanadu_tree.specs.declared.types.CoreTy.{CoreTy}
use Rattle.xanadu_tree.specs.declared.types.CoreTy.TheVariants as ty
use Rattle.xanadu_tree.specs.declared.types.Kind.{Kind}
use Rattle.xanadu_tree.specs.declared.types.Kind.TheVariants as kind
use Rattle.xanadu_tree.specs.declared.types.Packing.{Packing}
use Rattle.xanadu_tree.specs.declared.types.Quant.{Quant}
use Rattle.xanadu_tree.specs.declared.tree.index.Binder.{Binder}
use Rattle.xanadu_tree.specs.PlainTree as plain
use Rattle.xanadu_tree.specs.Written.{result_at}
use Rattle.type_shapes.specs.declared.error.ShapeKind.TheVariants.{NamedTwice, NoMain, MainKind}
use Rattle.type_shapes.specs.Faults.{Check, fault, ◌>>=◌}
use Rattle.type_shapes.specs.Kinds.{kind_of}
use Rattle.type_shapes.specs.Names.{Scope, Table, meaning, place, added, Types}
use Rattle.type_shapes.specs.Quantifiers.{Frame, opened, closed, type_in, types_in}

-- ---- types

abbrev pub is_tuple : plain.TypeBody → Truth
is_tuple (plain.Cell t) = false
is_tuple (plain.Tuple ts) = true

abbrev pub part_types : plain.TypeBody → List plain.WrittenType
part_types (plain.Cell t) = t ∷ []
part_types (plain.Tuple ts) = ts

unfoldable pub type_names : List plain.Declaration → Types → Check Types
type_names [] types = Ok types
type_names (plain.OfType d ∷ ds) types = do
  names ← added d.name types.names
  type_names ds (record { names = names; tuples = types.tuples ++ (is_tuple d.body ∷ []) })
type_names (plain.OfFunction d ∷ ds) types = type_names ds types

-- the parts of a type, after those that were read
abbrev pub parts_in : Types → Scope → plain.TypeBody → List CoreTy → Frame → Check (List CoreTy × Frame)
parts_in types scope body made frame = types_in types scope (part_types body) made frame

-- the body of a type, where index names mean this already
unfoldable pub packing_in : Types → Scope → plain.TypeDeclaration → Check Packing
packing_in types around d = do
  (frame, scope) ← opened d.quantifier 0 around
  (parts, more) ← parts_in types scope d.body [] frame
  q ← closed d.quantifier more
  Ok (record { quant = q; parts = parts; tuple = is_tuple d.body })

unfoldable pub packing : Types → plain.TypeDeclaration → Check Packing
packing types d = packing_in types [] d

-- the bodies of types, after those that were read
unfoldable pub packings : Types → List plain.Declaration → List Packing → Check (List Packing)
packings types [] made = Ok made
packings types (plain.OfType d ∷ ds) made = do
  one ← packing types d
  packings types ds (made ++ (one ∷ []))
packings types (plain.OfFunction d ∷ ds) made = packings types ds made

-- ---- headers

-- what a function gives: its type in the core, and its kind
pub record Given : Type 0 where
  pub quant : Quant
  pub ty : CoreTy
  pub kind : Kind

-- the header of a function, and its declaration
pub record Header : Type 0 where
  pub declaration : plain.FunctionDeclaration
  pub quant : Quant
  pub params : List CoreTy
  pub given : Given

-- the types of parameters, after those that were read; the scope beside that of index names has the names of these
unfoldable pub parameters_in : Types → Scope → List plain.Parameter → Scope → List CoreTy → Frame → Check (List CoreTy × Frame)
parameters_in types scope [] named made frame = Ok (made, frame)
parameters_in types scope (p ∷ ps) named made frame =
    if is_some (meaning p.name.name named) then fault NamedTwice p.name.at
    else do
      (one, more) ← type_in types scope p.ty frame
      parameters_in types scope ps ((p.name.name, length made) ∷ named) (made ++ (one ∷ [])) more

-- A unit function gives the int of 0.
abbrev pub nothing : Given
nothing = record { quant = record { count = 0; rows = [] }; ty = ty.Int (record { terms = []; constant = pos 0 }); kind = kind.Unit }

-- what is given, with its own variables numbered from `first` on
unfoldable pub given_in : Types → Scope → ℕ → plain.ResultType → Check Given
given_in types scope first (plain.NoValue at) = Ok nothing
given_in types scope first (plain.AValue q t at) = do
  (frame, inner) ← opened q first scope
  (one, more) ← type_in types inner t frame
  closing ← closed q more
  Ok (record { quant = closing; ty = one; kind = kind_of one })

-- the header of a function, where index names mean this already
unfoldable pub header_in : Types → Scope → plain.FunctionDeclaration → Check Header
header_in types around d = do
  (frame, scope) ← opened d.quantifier 0 around
  (params, more) ← parameters_in types scope d.parameters [] [] frame
  own ← closed d.quantifier more
  given ← given_in types scope own.count d.result
  Ok (record { declaration = d; quant = own; params = params; given = given })

unfoldable pub header : Types → plain.FunctionDeclaration → Check Header
header types d = header_in types [] d

-- functions: their names, which have their numbers, and their headers
pub record Functions : Type 0 where
  pub names : Table
  pub headers : List Header

abbrev pub no_functions : Functions
no_functions = record { names = []; headers = [] }

unfoldable pub headers : Types → List plain.Declaration → Functions → Check Functions
headers types [] functions = Ok functions
headers types (plain.OfType d ∷ ds) functions = headers types ds functions
headers types (plain.OfFunction d ∷ ds) functions = do
  names ← added d.name functions.names
  one ← header types d
  headers types ds (record { names = names; headers = functions.headers ++ (one ∷ []) })

-- ---- what names mean where a function's body begins

-- the names of parameters, numbered from a number on
unfoldable pub parameter_names : List plain.Parameter → ℕ → Scope → Scope
parameter_names [] number scope = scope
parameter_names (p ∷ ps) number scope = parameter_names ps (number + 1) ((p.name.name, number) ∷ scope)

-- the names of binders, numbered from a number on
unfoldable pub binder_names : List Binder → ℕ → Scope → Scope
binder_names [] number scope = scope
binder_names (b ∷ bs) number scope = binder_names bs (number + 1) ((b.name.name, number) ∷ scope)

-- the names of a quantifier's binders, behind those that are there
unfoldable pub quantifier_names : Option plain.Quantifier → Scope → Scope
quantifier_names None scope = scope
quantifier_names (Some q) scope = binder_names q.binders 0 scope

-- ---- main

-- whether a run can give such a parameter
abbrev pub is_entry : Kind → Truth
is_entry kind.Int = true
is_entry kind.Bool = true
is_entry (kind.Array element) = nat_eq element 0
is_entry _ = false

-- the place of the first parameter that no run can give
unfoldable pub odd_parameter : List plain.Parameter → List CoreTy → Option ℕ
odd_parameter (p ∷ ps) (t ∷ ts) = if is_entry (kind_of t) then odd_parameter ps ts else Some p.name.at
odd_parameter _ _ = None

abbrev pub is_int : Kind → Truth
is_int kind.Int = true
is_int _ = false

-- the place of the first part of main's header that no run can give or take
abbrev or_odd_result : Option ℕ → Kind → plain.ResultType → Option ℕ
or_odd_result (Some at) given result = Some at
or_odd_result None given result = if is_int given then None else Some (result_at result)

unfoldable pub odd_main : Header → Option ℕ
odd_main main = or_odd_result (odd_parameter main.declaration.parameters main.params) main.given.kind main.declaration.result

abbrev or_main_kind : ℕ → Option ℕ → Check ℕ
or_main_kind number None = Ok number
or_main_kind number (Some at) = fault MainKind at

abbrev main_at : ℕ → Option Header → ℕ → Check ℕ
main_at end (Some main) number = or_main_kind number (odd_main main)
main_at end None number = fault NoMain end

abbrev main_of : ℕ → List Header → Option ℕ → Check ℕ
main_of end headers None = fault NoMain end
main_of end headers (Some number) = main_at end (slice_get headers number) number

-- the number of `main`
unfoldable pub main_number : Functions → ℕ → Check ℕ
main_number functions end = main_of end functions.headers (place (codes "main") functions.names)
