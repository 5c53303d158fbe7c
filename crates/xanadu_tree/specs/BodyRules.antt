-- Which statements stand where: the variables and index variables that are in scope before and behind each, and what follows what.
use Rattle.std.specs.Prelude.{◌≡◌, ◌⊎◌, ℕ, ◌+◌, List, [], ◌∷◌, ◌++◌, length, map, slice_get, Bool as Truth, true, false, ◌||◌, Option, Some, None}
use Rattle.std.specs.List.{AllByRecursion, AllZip, range_with_len}
use Rattle.xanadu_tree.specs.declared.stmt.Clause.{Clause}
use Rattle.xanadu_tree.specs.declared.types.CoreTy.{CoreTy}
use Rattle.xanadu_tree.specs.declared.types.CoreTy.TheVariants as ty
use Rattle.xanadu_tree.specs.declared.types.Kind.{Kind}
use Rattle.xanadu_tree.specs.declared.types.Kind.TheVariants as kind
use Rattle.xanadu_tree.specs.declared.types.Packing.{Packing}
use Rattle.xanadu_tree.specs.IndexRules.{Stretch, IsForm, IsQuantified, stretch_of}
use Rattle.xanadu_tree.specs.KindRules.{kind_of, IsValue, cell_kind, tuple_type, Setting, IsAmong, HasKind, IsTest}
use Rattle.xanadu_tree.specs.Plain as plain

-- ---- types

-- the type's numbers are those of types, a tuple type where a tuple is meant, and its index is a form over these variables
abbrev pub IsType : List Packing → (reach : List Stretch) → CoreTy → Type 0
IsType types reach (ty.Int form) = IsForm reach form
IsType types reach ty.Bool = Unit {0}
IsType types reach (ty.Array element form) = ((held : Kind) × (cell_kind types element ≡ Some held)) × IsForm reach form
IsType types reach (ty.Named number) = (packing : Packing) × (tuple_type types number ≡ Some packing)

-- ---- a place in a body

-- the variables and the quantifiers that are in scope, and how many variables and index variables the text has declared so far
pub record Point : Type 0 where
  pub visible : List ℕ
  pub variables : ℕ
  pub reach : List Stretch
  pub indices : ℕ

-- behind the declaration of so many variables, which take the next numbers
abbrev pub declaring : (count : ℕ) → Point → Point
declaring count point = record point {
  visible = range_with_len point.variables count ++ point.visible;
  variables = point.variables + count;
}

-- behind a clause
abbrev pub stating : Clause → Point → Point
stating clause point = record point {
  reach = stretch_of clause.first clause.quant ∷ point.reach;
  indices = point.indices + clause.quant.count;
}

-- behind a block: what it declared is out of scope, and its numbers are taken
abbrev pub behind_block : (outer inner : Point) → Point
behind_block outer inner = record outer { variables = inner.variables; indices = inner.indices }

-- ---- clauses

abbrev pub AreDifferent : List ℕ → Type 0
AreDifferent [] = Unit {0}
AreDifferent (x ∷ xs) = (IsAmong xs x → ⊥) × AreDifferent xs

-- a clause's variable is visible, and has the kind of the type that it is given
abbrev pub IsStated : Setting → (visible : List ℕ) → (reach : List Stretch) → ℕ × CoreTy → Type 0
IsStated set visible reach stated =
    IsAmong visible stated.0 × (slice_get set.kinds stated.0 ≡ Some (kind_of stated.1)) × IsType set.types reach stated.1

pub record IsClause (set : Setting) (point : Point) (clause : Clause) : Type 0 where
  -- its index variables take the next numbers
  pub first : clause.first ≡ point.indices
  pub quantified : IsQuantified point.reach (stretch_of clause.first clause.quant) clause.quant.rows (map (λ stated. stated.1) clause.vars)
  pub stated : AllByRecursion (IsStated set point.visible (stretch_of clause.first clause.quant ∷ point.reach)) clause.vars
  pub different : AreDifferent (map (λ stated. stated.0) clause.vars)

-- from before a clause, if there is one, to behind it
abbrev pub IsClauseIfAny : Setting → (before : Point) → Option Clause → (after : Point) → Type 0
IsClauseIfAny set before None after = after ≡ before
IsClauseIfAny set before (Some clause) after = IsClause set before clause × (after ≡ stating clause before)

-- ---- what follows

-- whether control can come to what stands behind: a block's end is its last statement's
abbrev mutual
  pub completes : plain.Stmt → Truth
  completes (plain.If test on_true on_false join at) = completes_all on_true || completes_all on_false
  completes (plain.Return value at) = false
  completes _ = true

  pub completes_all : plain.Stmts → Truth
  completes_all plain.NoStmt = true
  completes_all (plain.AStmt s plain.NoStmt) = completes s
  completes_all (plain.AStmt s (plain.AStmt t ts)) = completes_all (plain.AStmt t ts)

-- nothing stands behind a statement that does not complete
abbrev pub MayFollow : Truth → plain.Stmts → Type 0
MayFollow true rest = Unit {0}
MayFollow false plain.NoStmt = Unit {0}
MayFollow false (plain.AStmt s ss) = ⊥

-- ---- statements

abbrev pub IsCall : plain.Expr → Type 0
IsCall (plain.Call fun args at) = Unit {0}
IsCall _ = ⊥

-- an assignment to a visible variable, or a declaration of the next one
abbrev pub IsTarget : (before : Point) → ℕ → (after : Point) → Type 0
IsTarget before x after = (IsAmong before.visible x × (after ≡ before)) ⊎ ((x ≡ before.variables) × (after ≡ declaring 1 before))

-- the names of a tuple's parts are declared, each with the kind of its part
pub record IsSplit (set : Setting) (before : Point) (xs : List ℕ) (parts : List CoreTy) (after : Point) : Type 0 where
  pub next : xs ≡ range_with_len before.variables (length parts)
  pub kinds : AllZip (λ x part. slice_get set.kinds x ≡ Some (kind_of part)) xs parts
  pub behind : after ≡ declaring (length parts) before

-- a `return` has a value exactly where the function has one
abbrev pub IsReturn : Setting → (visible : List ℕ) → Option plain.Expr → Type 0
IsReturn set visible None = set.result ≡ kind.Unit
IsReturn set visible (Some e) = IsValue set.result × HasKind set visible e set.result

unfoldable mutual
  pub IsStatement : Setting → (before : Point) → plain.Stmt → (after : Point) → Type 0
  IsStatement set before (plain.Set x e) after =
      (k : Kind) × HasKind set before.visible e k × IsValue k × (slice_get set.kinds x ≡ Some k) × IsTarget before x after
  IsStatement set before (plain.Split xs e at) after =
      (number : ℕ) × (split : Packing) × HasKind set before.visible e (kind.Named number) × (tuple_type set.types number ≡ Some split)
      × IsSplit set before xs split.parts after
  IsStatement set before (plain.Store array index e at) after =
      (element : ℕ) × (held : Kind) × HasKind set before.visible array (kind.Array element) × HasKind set before.visible index kind.Int
      × (cell_kind set.types element ≡ Some held) × HasKind set before.visible e held × (after ≡ before)
  IsStatement set before (plain.Do call) after = (k : Kind) × IsCall call × HasKind set before.visible call k × (after ≡ before)
  IsStatement set before (plain.Print number) after = HasKind set before.visible number kind.Int × (after ≡ before)
  IsStatement set before (plain.If test on_true on_false join at) after =
      (one : Point) × (two : Point) × IsTest set before.visible test × AreStatements set before on_true one
      × AreStatements set (behind_block before one) on_false two × IsClauseIfAny set (behind_block before two) join after
  IsStatement set before (plain.While test head body at) after =
      (begin : Point) × (end : Point) × IsTest set before.visible test × IsClauseIfAny set before head begin
      × AreStatements set begin body end × (after ≡ behind_block begin end)
  IsStatement set before (plain.Return value at) after = IsReturn set before.visible value × (after ≡ before)

  pub AreStatements : Setting → (before : Point) → plain.Stmts → (after : Point) → Type 0
  AreStatements set before plain.NoStmt after = after ≡ before
  AreStatements set before (plain.AStmt s ss) after =
      (middle : Point) × IsStatement set before s middle × MayFollow (completes s) ss × AreStatements set middle ss after

-- ---- the index variables of clauses, in the order of the text

abbrev pub clause_indices : Option Clause → List ℕ
clause_indices None = []
clause_indices (Some clause) = range_with_len clause.first clause.quant.count

abbrev mutual
  pub statement_indices : plain.Stmt → List ℕ
  statement_indices (plain.If test on_true on_false join at) = all_indices on_true ++ (all_indices on_false ++ clause_indices join)
  statement_indices (plain.While test head body at) = clause_indices head ++ all_indices body
  statement_indices _ = []

  pub all_indices : plain.Stmts → List ℕ
  all_indices plain.NoStmt = []
  all_indices (plain.AStmt s ss) = statement_indices s ++ all_indices ss

-- these are the index variables between two places: the next numbers, in order
pub record AreNumbered (before after : Point) (indices : List ℕ) : Type 0 where
  pub count : ℕ
  pub last : after.indices ≡ before.indices + count
  pub are : indices ≡ range_with_len before.indices count
