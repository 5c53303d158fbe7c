-- Which expressions have which kind, and which tests are tests.
use Rattle.std.specs.Prelude.{◌≡◌, ℕ, zero, suc, List, [], ◌∷◌, map, slice_get, Bool as Truth, true, false, cond, ◌||◌, Option, Some, None, ◌⊎◌}
use Rattle.std.specs.Option.{option_and_then}
use Rattle.xanadu_tree.specs.declared.types.CoreTy.{CoreTy}
use Rattle.xanadu_tree.specs.declared.types.CoreTy.TheVariants as ty
use Rattle.xanadu_tree.specs.declared.types.Kind.{Kind}
use Rattle.xanadu_tree.specs.declared.types.Kind.TheVariants as kind
use Rattle.xanadu_tree.specs.declared.types.Packing.{Packing}
use Rattle.xanadu_tree.specs.Plain as plain

-- ---- kinds

-- a type without its index
abbrev pub kind_of : CoreTy → Kind
kind_of (ty.Int form) = kind.Int
kind_of ty.Bool = kind.Bool
kind_of (ty.Array element form) = kind.Array element
kind_of (ty.Named number) = kind.Named number

-- a kind that variables may have: there is a value of it
abbrev pub IsValue : Kind → Type 0
IsValue kind.Unit = ⊥
IsValue _ = Unit {0}

-- the declared type of this number; the first two numbers are those of numbers and truth values
abbrev pub declared_type : List Packing → ℕ → Option Packing
declared_type types zero = None
declared_type types (suc zero) = None
declared_type types (suc (suc number)) = slice_get types number

abbrev pub if_tuple : Packing → Option Packing
if_tuple packing = cond packing.tuple (Some packing) None

-- the tuple type of this number
abbrev pub tuple_type : List Packing → ℕ → Option Packing
tuple_type types number = option_and_then if_tuple (declared_type types number)

abbrev pub first_kind : List CoreTy → Option Kind
first_kind [] = None
first_kind (part ∷ parts) = Some (kind_of part)

-- what a cell holds: a tuple itself, or the one part of a cell type
abbrev pub held_kind : ℕ → Packing → Option Kind
held_kind number packing = cond packing.tuple (Some (kind.Named number)) (first_kind packing.parts)

abbrev pub cell_kind : List Packing → ℕ → Option Kind
cell_kind types zero = Some kind.Int
cell_kind types (suc zero) = Some kind.Bool
cell_kind types (suc (suc number)) = option_and_then (held_kind (suc (suc number))) (slice_get types number)

-- ---- functions

-- what a call has to know of a function
pub record Header : Type 0 where
  pub params : List Kind
  pub result : Kind

-- whether some `return` has a value

abbrev mutual
  pub statement_gives : plain.Stmt → Truth
  statement_gives (plain.Set x e) = false
  statement_gives (plain.Split xs e at) = false
  statement_gives (plain.Store a i e at) = false
  statement_gives (plain.Do e) = false
  statement_gives (plain.Print e) = false
  statement_gives (plain.If test on_true on_false join at) = gives_value on_true || gives_value on_false
  statement_gives (plain.While test head body at) = gives_value body
  statement_gives (plain.Return None at) = false
  statement_gives (plain.Return (Some e) at) = true

  pub gives_value : plain.Stmts → Truth
  gives_value plain.NoStmt = false
  gives_value (plain.AStmt s ss) = statement_gives s || gives_value ss

-- the kind of a call: a unit function is one in which no `return` has a value
abbrev pub result_kind : plain.Fun → Kind
result_kind f = cond (gives_value f.body) (kind_of f.result) kind.Unit

abbrev pub header : plain.Fun → Header
header f = record { params = map kind_of f.params; result = result_kind f }

-- ---- expressions

-- what stands throughout a function: the declared types, what calls know of the functions, the kind of each variable, and that of the
-- function's own result
pub record Setting : Type 0 where
  pub types : List Packing
  pub headers : List Header
  pub kinds : List Kind
  pub result : Kind

abbrev pub IsAmong : List ℕ → ℕ → Type 0
IsAmong [] x = ⊥
IsAmong (y ∷ ys) x = (x ≡ y) ⊎ IsAmong ys x

abbrev pub IsSomeLink : plain.Links → Type 0
IsSomeLink plain.NoLink = ⊥
IsSomeLink (plain.ALink op operand at others) = Unit {0}

-- the expression has the kind, where these variables are visible

unfoldable mutual
  pub HasKind : Setting → (visible : List ℕ) → plain.Expr → Kind → Type 0
  HasKind set visible (plain.Int number) k = k ≡ kind.Int
  HasKind set visible (plain.Bool truth) k = k ≡ kind.Bool
  HasKind set visible (plain.Var x) k = IsAmong visible x × (slice_get set.kinds x ≡ Some k)
  HasKind set visible (plain.Neg operand) k = (k ≡ kind.Int) × HasKind set visible operand kind.Int
  HasKind set visible (plain.Chain first rest) k =
      (k ≡ kind.Int) × HasKind set visible first kind.Int × IsSomeLink rest × AreNumbers set visible rest
  HasKind set visible (plain.Compare rel left right) k =
      (k ≡ kind.Bool) × HasKind set visible left kind.Int × HasKind set visible right kind.Int
  HasKind set visible (plain.Index array index at) k =
      (element : ℕ) × HasKind set visible array (kind.Array element) × HasKind set visible index kind.Int × (cell_kind set.types element ≡ Some k)
  HasKind set visible (plain.Len array) k = (element : ℕ) × (k ≡ kind.Int) × HasKind set visible array (kind.Array element)
  HasKind set visible (plain.Call fun args at) k =
      (called : Header) × (slice_get set.headers fun ≡ Some called) × HaveKinds set visible args called.params × (k ≡ called.result)
  HasKind set visible (plain.Make number args at) k =
      (made : Packing) × (tuple_type set.types number ≡ Some made) × HaveKinds set visible args (map kind_of made.parts) × (k ≡ kind.Named number)
  HasKind set visible (plain.New element len fill at) k =
      (held : Kind) × (k ≡ kind.Array element) × HasKind set visible len kind.Int × (cell_kind set.types element ≡ Some held)
      × HasKind set visible fill held

  -- the right operands of a chain are numbers
  pub AreNumbers : Setting → (visible : List ℕ) → plain.Links → Type 0
  AreNumbers set visible plain.NoLink = Unit {0}
  AreNumbers set visible (plain.ALink op operand at others) = HasKind set visible operand kind.Int × AreNumbers set visible others

  -- as many expressions as kinds, each of its kind
  pub HaveKinds : Setting → (visible : List ℕ) → plain.Exprs → List Kind → Type 0
  HaveKinds set visible plain.NoExpr [] = Unit {0}
  HaveKinds set visible plain.NoExpr (k ∷ ks) = ⊥
  HaveKinds set visible (plain.AnExpr e es) [] = ⊥
  HaveKinds set visible (plain.AnExpr e es) (k ∷ ks) = HasKind set visible e k × HaveKinds set visible es ks

-- ---- tests

-- at least two
abbrev pub AreSeveral : plain.Tests → Type 0
AreSeveral (plain.ATest one (plain.ATest two others)) = Unit {0}
AreSeveral _ = ⊥

unfoldable mutual
  pub IsTest : Setting → (visible : List ℕ) → plain.Test → Type 0
  IsTest set visible (plain.Leaf e) = HasKind set visible e kind.Bool
  IsTest set visible (plain.All parts) = AreSeveral parts × AreTests set visible parts
  IsTest set visible (plain.Any parts) = AreSeveral parts × AreTests set visible parts
  IsTest set visible (plain.Not part) = IsTest set visible part

  pub AreTests : Setting → (visible : List ℕ) → plain.Tests → Type 0
  AreTests set visible plain.NoTest = Unit {0}
  AreTests set visible (plain.ATest test others) = IsTest set visible test × AreTests set visible others
