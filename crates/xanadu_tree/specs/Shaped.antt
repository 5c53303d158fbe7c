-- The rules that a core keeps: which cores are programs.
--
-- Parameters, the names of a split and a `Set` of a variable that is not visible declare a variable. Variables, and the index variables
-- of clauses, are numbered in the order of the text, so that each has a number of its own.
use Rattle.std.specs.Prelude.{◌≡◌, ℕ, List, [], ◌∷◌, length, map, take, slice_get, codes, false, true, Bool as Truth, Some, pos, ◌⊎◌}
use Rattle.std.specs.List.{AllByRecursion, range_with_len}
use Rattle.xanadu_lexer.specs.Rules.{IsLower}
use Rattle.xanadu_tree.specs.declared.linear.Linear.{Linear}
use Rattle.xanadu_tree.specs.declared.types.CoreTy.{CoreTy}
use Rattle.xanadu_tree.specs.declared.types.CoreTy.TheVariants as ty
use Rattle.xanadu_tree.specs.declared.types.Kind.{Kind}
use Rattle.xanadu_tree.specs.declared.types.Kind.TheVariants as kind
use Rattle.xanadu_tree.specs.declared.types.Packing.{Packing}
use Rattle.xanadu_tree.specs.declared.types.Quant.{Quant}
use Rattle.xanadu_tree.specs.BodyRules.{IsType, Point, AreStatements, completes_all}
use Rattle.xanadu_tree.specs.IndexRules.{Stretch, IsQuantified, stretch_of}
use Rattle.xanadu_tree.specs.KindRules.{kind_of, result_kind, header, Header, Setting}
use Rattle.xanadu_tree.specs.Plain as plain

-- ---- declared types

-- a cell type has one part, and a tuple type at least one
abbrev pub HasParts : (tuple : Truth) → List CoreTy → Type 0
HasParts tuple [] = ⊥
HasParts tuple (part ∷ []) = Unit {0}
HasParts tuple (part ∷ other ∷ parts) = tuple ≡ true

pub record IsPacking (types : List Packing) (packing : Packing) : Type 0 where
  pub parts : AllByRecursion (IsType types (stretch_of 0 packing.quant ∷ [])) packing.parts
  pub many : HasParts packing.tuple packing.parts
  pub quantified : IsQuantified [] (stretch_of 0 packing.quant) packing.quant.rows packing.parts

-- ---- functions

abbrev pub own_stretch : plain.Fun → Stretch
own_stretch f = stretch_of 0 f.quant

-- the result's own variables follow the function's, and nothing but the result names them
abbrev pub result_stretch : plain.Fun → Stretch
result_stretch f = stretch_of f.quant.count f.result_quant

abbrev pub setting : (types : List Packing) → (headers : List Header) → plain.Fun → Setting
setting types headers f = record { types = types; headers = headers; kinds = f.kinds; result = result_kind f }

-- where a body begins: each parameter declares the variable of its number
abbrev pub body_start : plain.Fun → Point
body_start f = record {
  visible = range_with_len 0 (length f.params);
  variables = length f.params;
  reach = own_stretch f ∷ [];
  indices = f.quant.count;
}

-- what a unit function has for a result
abbrev pub no_index : Linear
no_index = record { terms = []; constant = pos 0 }

abbrev pub no_variables : Quant
no_variables = record { count = 0; rows = [] }

pub record IsFunction (types : List Packing) (headers : List Header) (f : plain.Fun) : Type 0 where
  pub name : IsLower f.name
  pub params : AllByRecursion (IsType types (own_stretch f ∷ [])) f.params
  pub quantified : IsQuantified [] (own_stretch f) f.quant.rows f.params
  pub result : IsType types (result_stretch f ∷ own_stretch f ∷ []) f.result
  pub result_quantified : IsQuantified (own_stretch f ∷ []) (result_stretch f) f.result_quant.rows (f.result ∷ [])
  -- a unit function's result is the number 0
  pub unit : result_kind f ≡ kind.Unit → (f.result ≡ ty.Int no_index) × (f.result_quant ≡ no_variables)
  pub param_kinds : take (length f.params) f.kinds ≡ map kind_of f.params
  pub end : Point
  pub body : AreStatements (setting types headers f) (body_start f) f.body end
  -- each variable has a kind, and nothing else has one
  pub variables : end.variables ≡ length f.kinds
  pub returns : completes_all f.body ≡ false

-- ---- programs

abbrev pub IsNamed : List ℕ → List plain.Fun → Type 0
IsNamed name [] = ⊥
IsNamed name (f ∷ fs) = (name ≡ f.name) ⊎ IsNamed name fs

abbrev pub HaveNames : List plain.Fun → Type 0
HaveNames [] = Unit {0}
HaveNames (f ∷ fs) = (IsNamed f.name fs → ⊥) × HaveNames fs

-- what a run's argument may be: a number, a truth value or an array of numbers
abbrev pub IsArgument : Kind → Type 0
IsArgument kind.Int = Unit {0}
IsArgument kind.Bool = Unit {0}
IsArgument (kind.Array element) = element ≡ 0
IsArgument _ = ⊥

-- a program can be run by this function
pub record IsMain (f : plain.Fun) : Type 0 where
  pub name : f.name ≡ codes "main"
  pub params : AllByRecursion (λ param. IsArgument (kind_of param)) f.params
  pub result : result_kind f ≡ kind.Int

pub record Shaped (program : plain.Program) : Type 0 where
  pub types : AllByRecursion (IsPacking program.types) program.types
  pub functions : AllByRecursion (IsFunction program.types (map header program.funs)) program.funs
  pub names : HaveNames program.funs
  pub main_function : plain.Fun
  pub main_number : slice_get program.funs program.main ≡ Some main_function
  pub main : IsMain main_function
