-- Code over places, as lowering makes it of small sources.
use Rattle.std.proofs.Common.{ℕ, ℤ, pos, List, [], ◌∷◌, codes}
use Rattle.xan_lin.specs.Linear.{variable_form}
use Rattle.state_types.specs.Tables.{int_cell, bool_cell}
use Rattle.state_types.specs.declared.closed.Signature.{Signature}
use Rattle.state_types.specs.declared.types.Ty.TheVariants as ty
use Rattle.three_address.specs.declared.function.LowFun.{LowFun}
use Rattle.three_address.specs.declared.function.Lowered.{Lowered}
use Rattle.three_address.specs.declared.instruction.LowInstr.{LowInstr}
use Rattle.three_address.specs.declared.instruction.Op22.{Op22}
use Rattle.three_address.specs.declared.instruction.Op22.TheVariants as op

abbrev pub instr : Op22 → List ℕ → (number : ℤ) → (target : ℕ) → LowInstr
instr o places number target = record { op = o; places = places; number = number; target = target }

abbrev pub plain : Op22 → List ℕ → LowInstr
plain o places = instr o places (pos 0) 0

abbrev pub literal : (place : ℕ) → ℤ → LowInstr
literal place number = instr op.Li (place ∷ []) number 0

abbrev pub three : Op22 → ℕ → ℕ → ℕ → LowInstr
three o p q r = plain o (p ∷ q ∷ r ∷ [])

abbrev pub jump : (label : ℕ) → LowInstr
jump label = instr op.Jmp [] (pos 0) label

-- ---- the sum of an array
--
-- fun main{n: nat}(a: int[n]): int {
--   var i = 0;
--   var s = 0;
--   while (i < len(a)) with {k: int | 0 <= k, k <= n} (i: int(k)) {
--     s = s + a[i];
--     i = i + 1;
--   }
--   return s;
-- }
-- a, i and s are the places 0, 1 and 2, and 3 is the one temporary

abbrev pub sum_sig : Signature
sum_sig = record {
  vars = 1;
  rows = variable_form 0 ∷ [];
  params = ty.Array 0 (variable_form 0) ∷ [];
  result_vars = 1;
  result_rows = [];
  result = ty.Int (variable_form 1);
}

abbrev pub sum_code : List LowInstr
sum_code =
    literal 1 (pos 0)
    ∷ literal 2 (pos 0)
    ∷ jump 1
    -- label 1: where i is at least the length, on to label 2
    ∷ plain op.Len (3 ∷ 0 ∷ [])
    ∷ instr op.Br (3 ∷ 1 ∷ []) (pos 1) 2
    ∷ three op.Ld 3 0 1
    ∷ three op.Add 2 2 3
    ∷ literal 3 (pos 1)
    ∷ three op.Add 1 1 3
    ∷ jump 1
    -- label 2
    ∷ plain op.Ret (2 ∷ [])
    ∷ []

abbrev pub sum_fun : LowFun
sum_fun = record { name = codes "main"; sig = sum_sig; places = 4; code = sum_code; labels = 3 ∷ 10 ∷ [] }

abbrev pub sum_program : Lowered
sum_program = record { funs = sum_fun ∷ []; table = int_cell ∷ bool_cell ∷ []; main = 0 }

-- ---- a function that calls itself
--
-- fun f(n: int): int { if (n < 1) { return 0; } return n + f(n - 1); }
-- fun main(x: int): int { return f(x); }

abbrev pub number_sig : Signature
number_sig = record {
  vars = 1;
  rows = [];
  params = ty.Int (variable_form 0) ∷ [];
  result_vars = 1;
  result_rows = [];
  result = ty.Int (variable_form 1);
}

abbrev pub calling : (fun place : ℕ) → List ℕ → LowInstr
calling fun place places = instr op.Call (place ∷ places) (pos 0) fun

abbrev pub down_code : List LowInstr
down_code =
    literal 1 (pos 1)
    ∷ instr op.Br (1 ∷ 0 ∷ []) (pos 1) 1
    ∷ literal 1 (pos 0)
    ∷ plain op.Ret (1 ∷ [])
    -- label 1
    ∷ literal 1 (pos 1)
    ∷ three op.Sub 1 0 1
    ∷ calling 0 1 (1 ∷ [])
    ∷ three op.Add 1 0 1
    ∷ plain op.Ret (1 ∷ [])
    ∷ []

abbrev pub down_fun : LowFun
down_fun = record { name = codes "f"; sig = number_sig; places = 2; code = down_code; labels = 4 ∷ [] }

abbrev pub calling_fun : LowFun
calling_fun = record { name = codes "main"; sig = number_sig; places = 2; code = calling 0 1 (0 ∷ []) ∷ plain op.Ret (1 ∷ []) ∷ []; labels = [] }

abbrev pub calls_program : Lowered
calls_program = record { funs = down_fun ∷ calling_fun ∷ []; table = int_cell ∷ bool_cell ∷ []; main = 1 }
