-- The cores of small sources, as names and scopes are numbered, and how they are written down.
use Rattle.std.specs.Prelude.{ℕ, zero, suc, ℤ, pos, negsuc, List, [], ◌∷◌, replicate, true, false, Option, Some, None, codes}
use Rattle.xanadu_tree.specs.declared.expr.Op.{Op}
use Rattle.xanadu_tree.specs.declared.expr.Rel.{Rel}
use Rattle.xanadu_tree.specs.declared.expr.Op.TheVariants as op
use Rattle.xanadu_tree.specs.declared.expr.Rel.TheVariants as rel
use Rattle.xanadu_tree.specs.declared.linear.Linear.{Linear}
use Rattle.xanadu_tree.specs.declared.stmt.Clause.{Clause}
use Rattle.xanadu_tree.specs.declared.types.CoreTy.{CoreTy}
use Rattle.xanadu_tree.specs.declared.types.CoreTy.TheVariants as ty
use Rattle.xanadu_tree.specs.declared.types.Kind.{Kind}
use Rattle.xanadu_tree.specs.declared.types.Kind.TheVariants as kind
use Rattle.xanadu_tree.specs.declared.types.Packing.{Packing}
use Rattle.xanadu_tree.specs.declared.types.Quant.{Quant}
use Rattle.xanadu_tree.specs.Small.{int_of, free}
use Rattle.xanadu_tree.specs.Plain.{Program, Fun, Stmts, NoStmt, AStmt, Set, Split, Store, If, While, Return, Leaf, All, Any, Not, NoTest, ATest, Expr, Int, Bool, Var, Neg, Chain, Compare, Index, Len, Call, Make, NoExpr, AnExpr, NoLink, ALink}

-- a form: terms and a constant
abbrev pub form : List (ℤ × ℕ) → ℤ → Linear
form terms constant = record { terms = terms; constant = constant }

-- the form that is the variable
abbrev pub var : ℕ → Linear
var x = form ((pos 1, x) ∷ []) (pos 0)

abbrev pub array_of : ℕ → CoreTy
array_of x = ty.Array 0 (var x)

abbrev pub assuming : ℕ → List Linear → Quant
assuming count rows = record { count = count; rows = rows }

-- left, one operator, right
abbrev pub two : Op → Expr → ℕ → Expr → Expr
two o left at right = Chain left (ALink o right at NoLink)

-- a function `main` whose result is any number
abbrev pub main_of : Quant → List CoreTy → List Kind → Stmts → Fun
main_of quant params kinds body = record {
  name = codes "main";
  quant = quant;
  params = params;
  result_quant = free 1;
  result = int_of quant.count;
  kinds = kinds;
  body = body;
  at = 0;
}

abbrev pub program_of : Fun → Program
program_of f = record { types = []; funs = f ∷ []; main = 0 }

-- fun main{n: nat}(a: int[n]): int {
--   var i = 0;
--   var s = 0;
--   while (i < len(a)) with {k: int | 0 <= k, k <= n} (i: int(k)) {
--     s = s + a[i];
--     i = i + 1;
--   }
--   return s;
-- }
-- (the offsets of `+`, at which no goal arises, are those of this text also where the test or the clause is another)
abbrev pub summing : Rel → Option Clause → (index_at : ℕ) → Program
summing r head index_at = program_of (main_of (assuming 1 (var 0 ∷ [])) (array_of 0 ∷ []) (kind.Array 0 ∷ kind.Int ∷ kind.Int ∷ [])
    (AStmt (Set 1 (Int (pos 0)))
    (AStmt (Set 2 (Int (pos 0)))
    (AStmt (While (Leaf (Compare r (Var 1) (Len (Var 0)))) head
    (AStmt (Set 2 (two op.Add (Var 2) 137 (Index (Var 0) (Var 1) index_at)))
    (AStmt (Set 1 (two op.Add (Var 1) 155 (Int (pos 1)))) NoStmt)) 63)
    (AStmt (Return (Some (Var 2)) 166) NoStmt)))))

-- {k: int | 0 <= k, k <= n} (i: int(k))
abbrev pub counter : Clause
counter = record {
  first = 1;
  quant = assuming 1 (var 1 ∷ form ((pos 1, 0) ∷ (negsuc 0, 1) ∷ []) (pos 0) ∷ []);
  vars = (1, ty.Int (var 1)) ∷ [];
}

abbrev pub sum_of_cells : Program
sum_of_cells = summing rel.Lt (Some counter) 140

-- with `<=` in place of `<`
abbrev pub one_too_far : Program
one_too_far = summing rel.Le (Some counter) 141

-- without ` with {k: int | 0 <= k, k <= n} (i: int(k))`
abbrev pub not_stated : Program
not_stated = summing rel.Lt None 97

-- fun main(x: int): int { return 7 / x; }
abbrev pub divided : Program
divided = program_of (main_of (free 1) (int_of 0 ∷ []) (kind.Int ∷ []) (AStmt (Return (Some (two op.Div (Int (pos 7)) 33 (Var 0))) 24) NoStmt))

-- type Pair = {p: int, q: int | p <= q} (int(p), int(q));
-- fun main(x: int): int { let (u, v) = Pair(x, x + 1); return v - u; }
abbrev pub pair : Packing
pair = record {
  quant = assuming 2 (form ((negsuc 0, 0) ∷ (pos 1, 1) ∷ []) (pos 0) ∷ []);
  parts = ty.Int (var 0) ∷ ty.Int (var 1) ∷ [];
  tuple = true;
}

abbrev pub pairs : Program
pairs = record (program_of (main_of (free 1) (int_of 0 ∷ []) (kind.Int ∷ kind.Int ∷ kind.Int ∷ [])
    (AStmt (Split (1 ∷ 2 ∷ []) (Make 2 (AnExpr (Var 0) (AnExpr (two op.Add (Var 0) 103 (Int (pos 1))) NoExpr)) 93) 80)
    (AStmt (Return (Some (two op.Sub (Var 2) 118 (Var 1))) 109) NoStmt)))) { types = pair ∷ [] }

-- fun main(a: int[]): int { if (len(a) < 3) { while (false) with {n: nat} (a: int[n]) { } } return len(a); }
abbrev pub inner_clause : Program
inner_clause = program_of (main_of (assuming 1 (var 0 ∷ [])) (array_of 0 ∷ []) (kind.Array 0 ∷ [])
    (AStmt (If (Leaf (Compare rel.Lt (Len (Var 0)) (Int (pos 3))))
    (AStmt (While (Leaf (Bool false)) (Some (record { first = 1; quant = assuming 1 (var 1 ∷ []); vars = (0, array_of 1) ∷ [] })) NoStmt 44) NoStmt)
    NoStmt None 26)
    (AStmt (Return (Some (Len (Var 0))) 90) NoStmt)))

-- fun main{n: nat}(a: int[n], i: int): int { a[i] = i; return 0; }
abbrev pub stores : Program
stores = program_of (main_of (assuming 2 (var 0 ∷ [])) (array_of 0 ∷ int_of 1 ∷ []) (kind.Array 0 ∷ kind.Int ∷ [])
    (AStmt (Store (Var 0) (Var 1) (Var 1) 44) (AStmt (Return (Some (Int (pos 0))) 53) NoStmt)))

-- fun f{n: nat}(x: int(n)): {m: int | n <= m} int(m) { return x; } fun main(x: int): int { return f(x); }
abbrev pub callee : Fun
callee = record {
  name = codes "f";
  quant = assuming 1 (var 0 ∷ []);
  params = int_of 0 ∷ [];
  result_quant = assuming 1 (form ((negsuc 0, 0) ∷ (pos 1, 1) ∷ []) (pos 0) ∷ []);
  result = int_of 1;
  kinds = kind.Int ∷ [];
  body = AStmt (Return (Some (Var 0)) 53) NoStmt;
  at = 0;
}

abbrev pub calls : Program
calls = record {
  types = [];
  funs = callee ∷ main_of (free 1) (int_of 0 ∷ []) (kind.Int ∷ []) (AStmt (Return (Some (Call 0 (AnExpr (Var 0) NoExpr) 96)) 89) NoStmt) ∷ [];
  main = 1;
}

-- fun main(x: int): int { var y = 1; if (x < 1) { y = 2; } return 7 / y; }
abbrev pub branch_assigns : Program
branch_assigns = program_of (main_of (free 1) (int_of 0 ∷ []) (kind.Int ∷ kind.Int ∷ [])
    (AStmt (Set 1 (Int (pos 1)))
    (AStmt (If (Leaf (Compare rel.Lt (Var 0) (Int (pos 1)))) (AStmt (Set 1 (Int (pos 2))) NoStmt) NoStmt None 35)
    (AStmt (Return (Some (two op.Div (Int (pos 7)) 66 (Var 1))) 57) NoStmt))))

-- fun main(b: bool, x: int): int { if (b || !(0 < x)) { return 1; } return 5 / x; }
abbrev pub either : Program
either = program_of (main_of (free 1) (ty.Bool ∷ int_of 0 ∷ []) (kind.Bool ∷ kind.Int ∷ [])
    (AStmt (If (Any (ATest (Leaf (Var 0)) (ATest (Not (Leaf (Compare rel.Lt (Int (pos 0)) (Var 1)))) NoTest)))
    (AStmt (Return (Some (Int (pos 1))) 54) NoStmt) NoStmt None 33)
    (AStmt (Return (Some (two op.Div (Int (pos 5)) 75 (Var 1))) 66) NoStmt)))

-- fun main{n: nat}(x: int, a: int[n]): int {
--   var l = 0;
--   var h = len(a);
--   while (l < h) with {p: int, q: int | 0 <= p, p <= q, q <= n} (l: int(p), h: int(q)) {
--     var m = (l + h) / 2;
--     var y = a[m];
--     if (y == x) { return m; }
--     if (y < x) { l = m + 1; } else { h = m; }
--     join {p: int, q: int | 0 <= p, p <= q, q <= n} (l: int(p), h: int(q))
--   }
--   return -1;
-- }
abbrev pub bounds_clause : (first : ℕ) → Clause
bounds_clause first = record {
  first = first;
  quant = assuming 2 (var first ∷ form ((negsuc 0, first) ∷ (pos 1, suc first) ∷ []) (pos 0) ∷ form ((pos 1, 0) ∷ (negsuc 0, suc first) ∷ []) (pos 0) ∷ []);
  vars = (2, int_of first) ∷ (3, int_of (suc first)) ∷ [];
}

abbrev pub search_of_cells : Program
search_of_cells = program_of (main_of (assuming 2 (var 0 ∷ [])) (int_of 1 ∷ array_of 0 ∷ []) (kind.Int ∷ kind.Array 0 ∷ replicate 4 kind.Int)
    (AStmt (Set 2 (Int (pos 0)))
    (AStmt (Set 3 (Len (Var 1)))
    (AStmt (While (Leaf (Compare rel.Lt (Var 2) (Var 3))) (Some (bounds_clause 2))
    (AStmt (Set 4 (two op.Div (two op.Add (Var 2) 177 (Var 3)) 182 (Int (pos 2))))
    (AStmt (Set 5 (Index (Var 1) (Var 4) 200))
    (AStmt (If (Leaf (Compare rel.Eq (Var 5) (Var 0))) (AStmt (Return (Some (Var 4)) 223) NoStmt) NoStmt None 209)
    (AStmt (If (Leaf (Compare rel.Lt (Var 5) (Var 0)))
    (AStmt (Set 2 (two op.Add (Var 4) 258 (Int (pos 1)))) NoStmt)
    (AStmt (Set 3 (Var 4)) NoStmt) (Some (bounds_clause 4)) 239) NoStmt)))) 76)
    (AStmt (Return (Some (Neg (Int (pos 1)))) 361) NoStmt)))))

-- fun main(x: int, y: int): int { if (0 < y && x % y < 1) { return x / y; } return 0; }
abbrev pub both : Program
both = program_of (main_of (free 2) (int_of 0 ∷ int_of 1 ∷ []) (kind.Int ∷ kind.Int ∷ [])
    (AStmt (If (All (ATest (Leaf (Compare rel.Lt (Int (pos 0)) (Var 1)))
    (ATest (Leaf (Compare rel.Lt (two op.Mod (Var 0) 47 (Var 1)) (Int (pos 1)))) NoTest)))
    (AStmt (Return (Some (two op.Div (Var 0) 67 (Var 1))) 58) NoStmt) NoStmt None 32)
    (AStmt (Return (Some (Int (pos 0))) 74) NoStmt)))

-- a clause whose row k + 4611686018427387904 >= 0 is past the bounds, at a loop that begins with k = 0
abbrev pub large_row : Program
large_row = program_of (main_of (free 1) (int_of 0 ∷ []) (kind.Int ∷ kind.Int ∷ [])
    (AStmt (Set 1 (Int (pos 0)))
    (AStmt (While (Leaf (Compare rel.Lt (Var 1) (Var 0)))
    (Some (record { first = 1; quant = assuming 1 (form ((pos 1, 1) ∷ []) (pos 4611686018427387904) ∷ []); vars = (1, int_of 1) ∷ [] }))
    (AStmt (Set 1 (Var 0)) NoStmt) 36)
    (AStmt (Return (Some (Var 1)) 140) NoStmt))))

-- a function of so many index variables
abbrev pub many_indices : ℕ → Program
many_indices count = program_of (main_of (free count) [] [] (AStmt (Return (Some (Int (pos 0))) 0) NoStmt))

-- `var` so many times, each with the number 0, and then `return 0;`
abbrev pub declarations : (count first : ℕ) → Stmts
declarations zero first = AStmt (Return (Some (Int (pos 0))) 0) NoStmt
declarations (suc count) first = AStmt (Set first (Int (pos 0))) (declarations count (suc first))

abbrev pub many_variables : ℕ → Program
many_variables count = program_of (main_of (free 0) [] (replicate count kind.Int) (declarations count 0))

-- fun main(x: int): int { var y = 0;, then y = x * x; so many times, then return y; }
abbrev pub squared : ℕ → Stmts
squared zero = AStmt (Return (Some (Var 1)) 0) NoStmt
squared (suc count) = AStmt (Set 1 (two op.Mul (Var 0) 0 (Var 0))) (squared count)

abbrev pub squares : ℕ → Program
squares count = program_of (main_of (free 1) (int_of 0 ∷ []) (kind.Int ∷ kind.Int ∷ []) (AStmt (Set 1 (Int (pos 0))) (squared count)))

-- fun main(x: int): int { return 1 + (2 * 3 + x); }
abbrev pub nested : Fun
nested = main_of (free 1) (int_of 0 ∷ []) (kind.Int ∷ []) (AStmt
    (Return (Some (two op.Add (Int (pos 1)) 33 (Chain (Int (pos 2)) (ALink op.Mul (Int (pos 3)) 38 (ALink op.Add (Var 0) 42 NoLink))))) 24) NoStmt)

-- the first function
abbrev pub main_fun : Program → Fun
main_fun program = first_fun program.funs
  where
    first_fun : List Fun → Fun
    first_fun [] = nested
    first_fun (f ∷ fs) = f
