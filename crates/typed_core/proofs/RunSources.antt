-- The cores of small sources whose runs are worked out by hand, beside those whose goals are.
use Rattle.std.specs.Prelude.{pos, [], ◌∷◌, true, false, Some, None, codes}
use Rattle.xanadu_tree.specs.declared.expr.Op.TheVariants as op
use Rattle.xanadu_tree.specs.declared.expr.Rel.TheVariants as rel
use Rattle.xanadu_tree.specs.declared.types.Kind.TheVariants as kind
use Rattle.xanadu_tree.specs.declared.types.Packing.{Packing}
use Rattle.xanadu_tree.specs.Small.{int_of, free}
use Rattle.xanadu_tree.specs.Plain.{Program, Fun, NoStmt, AStmt, Set, Store, Print, If, While, Return, Leaf, Int, Bool, Var, Neg, Compare, Index, Call, New, NoExpr, AnExpr}
use Rattle.typed_core.proofs.Sources.{var, array_of, assuming, two, main_of, program_of}

-- fun f(x: int): int { if (x < 1) { return 0; } return x + f(x - 1); } fun main(x: int): int { return f(x); }
abbrev pub adding_up : Fun
adding_up = record (main_of (free 1) (int_of 0 ∷ []) (kind.Int ∷ [])
    (AStmt (If (Leaf (Compare rel.Lt (Var 0) (Int (pos 1)))) (AStmt (Return (Some (Int (pos 0))) 0) NoStmt) NoStmt None 0)
    (AStmt (Return (Some (two op.Add (Var 0) 0 (Call 0 (AnExpr (two op.Sub (Var 0) 0 (Int (pos 1))) NoExpr) 0))) 0) NoStmt)))
    { name = codes "f" }

abbrev pub added_up : Program
added_up = record {
  types = [];
  funs = adding_up ∷ main_of (free 1) (int_of 0 ∷ []) (kind.Int ∷ []) (AStmt (Return (Some (Call 0 (AnExpr (Var 0) NoExpr) 0)) 0) NoStmt) ∷ [];
  main = 1;
}

-- fun main(n: int): int { var a = new int[n](7); return a[1]; }
abbrev pub sevens : Program
sevens = program_of (main_of (free 1) (int_of 0 ∷ []) (kind.Int ∷ kind.Array 0 ∷ [])
    (AStmt (Set 1 (New 0 (Var 0) (Int (pos 7)) 0))
    (AStmt (Return (Some (Index (Var 1) (Int (pos 1)) 0)) 0) NoStmt)))

-- fun main(x: int): int { return -x; }
abbrev pub negated : Program
negated = program_of (main_of (free 1) (int_of 0 ∷ []) (kind.Int ∷ []) (AStmt (Return (Some (Neg (Var 0))) 0) NoStmt))

-- fun main(x: int): int { while (true) { print x; x = x + 1; } return x; }
abbrev pub counting : Program
counting = program_of (main_of (free 1) (int_of 0 ∷ []) (kind.Int ∷ [])
    (AStmt (While (Leaf (Bool true)) None (AStmt (Print (Var 0)) (AStmt (Set 0 (two op.Add (Var 0) 0 (Int (pos 1)))) NoStmt)) 0)
    (AStmt (Return (Some (Var 0)) 0) NoStmt)))

-- type C = {n: nat} int[n];
-- fun main(x: int): int { var a = new int[1](x); var b = new C[1](a); b[0][0] = 5; return a[0]; }
abbrev pub any_array : Packing
any_array = record { quant = assuming 1 (var 0 ∷ []); parts = array_of 0 ∷ []; tuple = false }

abbrev pub shared : Program
shared = record (program_of (main_of (free 1) (int_of 0 ∷ []) (kind.Int ∷ kind.Array 0 ∷ kind.Array 2 ∷ [])
    (AStmt (Set 1 (New 0 (Int (pos 1)) (Var 0) 0))
    (AStmt (Set 2 (New 2 (Int (pos 1)) (Var 1) 0))
    (AStmt (Store (Index (Var 2) (Int (pos 0)) 0) (Int (pos 0)) (Int (pos 5)) 0)
    (AStmt (Return (Some (Index (Var 1) (Int (pos 0)) 0)) 0) NoStmt)))))) { types = any_array ∷ [] }
