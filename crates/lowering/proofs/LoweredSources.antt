-- The cores of small sources that are lowered by hand.
use Rattle.std.specs.Prelude.{ℕ, pos, List, [], ◌∷◌, true, false, Some, None, codes}
use Rattle.xanadu_tree.specs.declared.expr.Op.{Op}
use Rattle.xanadu_tree.specs.declared.expr.Op.TheVariants as op
use Rattle.xanadu_tree.specs.declared.expr.Rel.TheVariants as rel
use Rattle.xanadu_tree.specs.declared.linear.Linear.{Linear}
use Rattle.xanadu_tree.specs.declared.types.CoreTy.{CoreTy}
use Rattle.xanadu_tree.specs.declared.types.CoreTy.TheVariants as ty
use Rattle.xanadu_tree.specs.declared.types.Kind.{Kind}
use Rattle.xanadu_tree.specs.declared.types.Kind.TheVariants as kind
use Rattle.xanadu_tree.specs.declared.types.Packing.{Packing}
use Rattle.xanadu_tree.specs.declared.types.Quant.{Quant}
use Rattle.xanadu_tree.specs.Small.{int_of, free}
use Rattle.xanadu_tree.specs.Plain.{Program, Fun, Stmt, Stmts, NoStmt, AStmt, Set, Split, Store, Do, Print, If, While, Return, Leaf, All, Any, Not, Test, NoTest, ATest, Expr, Int, Bool, Var, Neg, Chain, Compare, Index, Len, Call, Make, New, NoExpr, AnExpr, NoLink, ALink}

abbrev pub variable : ℕ → Linear
variable x = record { terms = (pos 1, x) ∷ []; constant = pos 0 }

abbrev pub array_of : ℕ → CoreTy
array_of x = ty.Array 0 (variable x)

abbrev pub assuming : ℕ → List Linear → Quant
assuming count rows = record { count = count; rows = rows }

-- left, one operator, right
abbrev pub two : Op → Expr → Expr → Expr
two o left right = Chain left (ALink o right 0 NoLink)

abbrev pub number : ℕ → Expr
number n = Int (pos n)

abbrev pub gives : Expr → Stmts
gives e = AStmt (Return (Some e) 0) NoStmt

abbrev pub one : Stmt → Stmts
one s = AStmt s NoStmt

-- a function `main` whose result is any number
abbrev pub main_of : Quant → List CoreTy → List Kind → Stmts → Fun
main_of quant params kinds body = record {
  name = codes "main";
  quant = quant;
  params = params;
  result_quant = free 1;
  result = int_of quant.count;
  kinds = kinds;
  body = body;
  at = 0;
}

abbrev pub program_of : Fun → Program
program_of f = record { types = []; funs = f ∷ []; main = 0 }

-- fun main{n: nat}(a: int[n]): int {
--   var i = 0;
--   var s = 0;
--   while (i < len(a)) { s = s + a[i]; i = i + 1; }
--   return s;
-- }
abbrev pub sum : Fun
sum = main_of (assuming 1 (variable 0 ∷ [])) (array_of 0 ∷ []) (kind.Array 0 ∷ kind.Int ∷ kind.Int ∷ [])
    (AStmt (Set 1 (number 0))
    (AStmt (Set 2 (number 0))
    (AStmt (While (Leaf (Compare rel.Lt (Var 1) (Len (Var 0)))) None
    (AStmt (Set 2 (two op.Add (Var 2) (Index (Var 0) (Var 1) 0)))
    (AStmt (Set 1 (two op.Add (Var 1) (number 1))) NoStmt)) 0)
    (gives (Var 2)))))

-- fun f(n: int): int { if (n < 1) { return 0; } return n + f(n - 1); }
-- fun main(x: int): int { return f(x); }
abbrev pub down : Fun
down = record (main_of (free 1) (int_of 0 ∷ []) (kind.Int ∷ [])
    (AStmt (If (Leaf (Compare rel.Lt (Var 0) (number 1))) (gives (number 0)) NoStmt None 0)
    (gives (two op.Add (Var 0) (Call 0 (AnExpr (two op.Sub (Var 0) (number 1)) NoExpr) 0)))))
    { name = codes "f" }

abbrev pub calling : Fun
calling = main_of (free 1) (int_of 0 ∷ []) (kind.Int ∷ []) (gives (Call 0 (AnExpr (Var 0) NoExpr) 0))

abbrev pub calls : Program
calls = record { types = []; funs = down ∷ calling ∷ []; main = 1 }

abbrev pub two_numbers : Stmts → Fun
two_numbers body = main_of (free 2) (int_of 0 ∷ int_of 1 ∷ []) (kind.Int ∷ kind.Int ∷ []) body

-- fun main(x: int, y: int): int { if (x < y && 0 < x || !(x == 3)) { return 1; } return 0; }
abbrev pub either_test : Test
either_test =
    Any (ATest (All (ATest (Leaf (Compare rel.Lt (Var 0) (Var 1))) (ATest (Leaf (Compare rel.Lt (number 0) (Var 0))) NoTest)))
    (ATest (Not (Leaf (Compare rel.Eq (Var 0) (number 3)))) NoTest))

abbrev pub tested : Fun
tested = two_numbers (AStmt (If either_test (gives (number 1)) NoStmt None 0) (gives (number 0)))

-- fun main(x: int): int {
--   var y = 0;
--   if (x < 0) { y = 1; } else { y = 2; }
--   if (x > 5) { return y; } else { y = y + 1; }
--   return y;
-- }
abbrev pub branches : Fun
branches = main_of (free 1) (int_of 0 ∷ []) (kind.Int ∷ kind.Int ∷ [])
    (AStmt (Set 1 (number 0))
    (AStmt (If (Leaf (Compare rel.Lt (Var 0) (number 0))) (one (Set 1 (number 1))) (one (Set 1 (number 2))) None 0)
    (AStmt (If (Leaf (Compare rel.Gt (Var 0) (number 5))) (gives (Var 1)) (one (Set 1 (two op.Add (Var 1) (number 1)))) None 0)
    (gives (Var 1)))))

-- fun main(x: int, y: int): int { return (x + 1) * y - x / (y % 7); }
abbrev pub chained : Fun
chained = two_numbers (gives (two op.Sub (two op.Mul (two op.Add (Var 0) (number 1)) (Var 1)) (two op.Div (Var 0) (two op.Mod (Var 1) (number 7)))))

-- fun main(x: int): int { x = x + 1 + 2; return 1 + x + 2; }
abbrev pub three_terms : Fun
three_terms = main_of (free 1) (int_of 0 ∷ []) (kind.Int ∷ [])
    (AStmt (Set 0 (Chain (Var 0) (ALink op.Add (number 1) 0 (ALink op.Add (number 2) 0 NoLink))))
    (gives (Chain (number 1) (ALink op.Add (Var 0) 0 (ALink op.Add (number 2) 0 NoLink)))))

-- type Pair = {p: int, q: int} (int(p), int(q));
-- fun main(x: int): int { let (u, v) = Pair(x, x + 1); return v - u; }
abbrev pub pair : Packing
pair = record { quant = assuming 2 []; parts = ty.Int (variable 0) ∷ ty.Int (variable 1) ∷ []; tuple = true }

abbrev pub paired : Fun
paired = main_of (free 1) (int_of 0 ∷ []) (kind.Int ∷ kind.Int ∷ kind.Int ∷ [])
    (AStmt (Split (1 ∷ 2 ∷ []) (Make 2 (AnExpr (Var 0) (AnExpr (two op.Add (Var 0) (number 1)) NoExpr)) 0) 0)
    (gives (two op.Sub (Var 2) (Var 1))))

abbrev pub pairs : Program
pairs = record (program_of paired) { types = pair ∷ [] }

-- fun main{n: nat}(a: int[n], i: int): int {
--   var b = new int[len(a)](0);
--   a[i + 1] = b[i] + a[0];
--   return len(b);
-- }
abbrev pub stores : Fun
stores = main_of (assuming 2 (variable 0 ∷ [])) (array_of 0 ∷ int_of 1 ∷ []) (kind.Array 0 ∷ kind.Int ∷ kind.Array 0 ∷ [])
    (AStmt (Set 2 (New 0 (Len (Var 0)) (number 0) 0))
    (AStmt (Store (Var 0) (two op.Add (Var 1) (number 1)) (two op.Add (Index (Var 2) (Var 1) 0) (Index (Var 0) (number 0) 0)) 0)
    (gives (Len (Var 2)))))

-- fun p(x: int, b: bool): unit { print -x; p(x - 1, x > 0); return; }
abbrev pub printing : Fun
printing = record (main_of (free 1) (int_of 0 ∷ ty.Bool ∷ []) (kind.Int ∷ kind.Bool ∷ [])
    (AStmt (Print (Neg (Var 0)))
    (AStmt (Do (Call 0 (AnExpr (two op.Sub (Var 0) (number 1)) (AnExpr (Compare rel.Gt (Var 0) (number 0)) NoExpr)) 0))
    (AStmt (Return None 0) NoStmt))))
    { name = codes "p" }

-- fun main(b: bool): int { while (b || true) { b = false; } return 0; }
abbrev pub looping : Fun
looping = main_of (free 0) (ty.Bool ∷ []) (kind.Bool ∷ [])
    (AStmt (While (Any (ATest (Leaf (Var 0)) (ATest (Leaf (Bool true)) NoTest))) None (one (Set 0 (Bool false))) 0) (gives (number 0)))
