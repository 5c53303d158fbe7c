-- Small programs: one function `main` of numbers, which returns a sum of its parameters and of literals.
use Rattle.std.specs.Prelude.{◌≡◌, ℕ, pos, ◌+◌, ◌<◌, ◌≤◌, List, [], ◌∷◌, map, replicate, codes, Some, FitsSigned}
use Rattle.std.specs.Int.{w64}
use Rattle.std.specs.List.{range_with_len}
use Rattle.xanadu_tree.specs.declared.expr.Op.{Op}
use Rattle.xanadu_tree.specs.declared.expr.Op.TheVariants.{Add, Sub}
use Rattle.xanadu_tree.specs.declared.types.Quant.{Quant}
use Rattle.xanadu_tree.specs.declared.types.CoreTy.{CoreTy}
use Rattle.xanadu_tree.specs.declared.types.CoreTy.TheVariants as ty
use Rattle.xanadu_tree.specs.declared.types.Kind.TheVariants as kind
use Rattle.xanadu_tree.specs.Plain as plain

-- the number that equals the index variable
abbrev pub int_of : ℕ → CoreTy
int_of variable = ty.Int (record { terms = (pos 1, variable) ∷ []; constant = pos 0 })

-- so many index variables, of which nothing is assumed
abbrev pub free : ℕ → Quant
free count = record { count = count; rows = [] }

-- the function of so many numbers that returns the value: each parameter has an index variable of its own, and so has the result
abbrev pub number_function : (name : List ℕ) (count : ℕ) (value : plain.Expr) (return_at at : ℕ) → plain.Fun
number_function name count value return_at at = record {
  name = name;
  quant = free count;
  params = map int_of (range_with_len 0 count);
  result_quant = free 1;
  result = int_of count;
  kinds = replicate count kind.Int;
  body = plain.AStmt (plain.Return (Some value) return_at) plain.NoStmt;
  at = at;
}

-- the program of that function alone, under the name `main`
abbrev pub number_program : (count : ℕ) (value : plain.Expr) (return_at at : ℕ) → plain.Program
number_program count value return_at at = record {
  types = [];
  funs = number_function (codes "main") count value return_at at ∷ [];
  main = 0;
}

abbrev pub IsSumOp : Op → Type 0
IsSumOp Add = Unit {0}
IsSumOp Sub = Unit {0}
IsSumOp _ = ⊥

-- an operand among so many parameters: a literal that a word holds, or a parameter
abbrev pub IsOperand : ℕ → plain.Expr → Type 0
IsOperand count (plain.Int number) = FitsSigned w64 number
IsOperand count (plain.Var variable) = variable < count
IsOperand count _ = ⊥

abbrev pub AreSumLinks : ℕ → plain.Links → Type 0
AreSumLinks count plain.NoLink = Unit {0}
AreSumLinks count (plain.ALink op operand _ others) = IsSumOp op × IsOperand count operand × AreSumLinks count others

abbrev pub links_len : plain.Links → ℕ
links_len plain.NoLink = 0
links_len (plain.ALink _ _ _ others) = links_len others + 1

-- one operand, or 2 to 100 of them with signs between
abbrev pub IsSum : ℕ → plain.Expr → Type 0
IsSum count (plain.Chain first rest) =
    IsOperand count first × AreSumLinks count rest × (1 ≤ links_len rest) × (links_len rest < 100)
IsSum count value = IsOperand count value

-- a small program has at most 8 parameters
pub record IsSmall (program : plain.Program) : Type 0 where
  pub count : ℕ
  pub value : plain.Expr
  pub return_at : ℕ
  pub at : ℕ
  pub few : count ≤ 8
  pub sum : IsSum count value
  pub is : program ≡ number_program count value return_at at
