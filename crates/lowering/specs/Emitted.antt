-- What contracts see of the nodes that code reads.
use Rattle.std.specs.Prelude.{◌≡◌, ℕ, zero, suc, ◌==◌, ◌≤◌, cond, Bool, max, List, [], ◌∷◌, length, map, replicate, Option, Some, None, slice_get, slice_set}
use Rattle.state_types.specs.declared.closed.Packed.{Packed}
use Rattle.state_types.specs.declared.closed.Signature.{Signature}
use Rattle.xanadu_tree.specs.declared.program.CoreFun.{CoreFun}
use Rattle.xanadu_tree.specs.declared.types.Kind.{Kind}
use Rattle.xanadu_tree.specs.declared.types.Packing.{Packing}
use Rattle.xanadu_tree.specs.BodyRules.{completes_all}
use Rattle.xanadu_tree.specs.KindRules.{kind_of}
use Rattle.xanadu_tree.specs.Plain as core
use Rattle.xanadu_tree.specs.PlainOf.{plain_fun}
use Rattle.three_address.specs.declared.function.LowFun.{LowFun}
use Rattle.three_address.specs.declared.function.Lowered.{Lowered}
use Rattle.lowering.specs.declared.programs.TheConstants.{MOST_INSTRUCTIONS}
use Rattle.value_lowering.specs.Frames.{Frame}
use Rattle.lowering.specs.Lowered.{Body, code_reach, numbered}
use Rattle.value_lowering.specs.OneInstruction.{Aim}
use Rattle.lowering.specs.StatementCode.{block_code, block_labels}

-- what a part is that has so many others behind it
abbrev pub turn_of : {A : Type 0} → (many : ℕ) → (inner last : A) → A
turn_of many inner last = cond (many == 0) last inner

abbrev pub aim_of : (on : Bool) → (to : ℕ) → Aim
aim_of on to = record { on = on; to = to }

-- whether the end of a block completes, where this is so in front of its statements
abbrev pub completes_behind : Bool → core.Stmts → Bool
completes_behind before core.NoStmt = before
completes_behind before (core.AStmt s ss) = completes_all (core.AStmt s ss)

-- of statements only the last one matters
abbrev pub result_of_last : (many : ℕ) → (before last : Bool) → Bool
result_of_last many before last = cond (many == 0) last before

-- ---- numbers of labels by position

-- a number at a position of a table, unless there is one
abbrev pub noted : Option ℕ → List ℕ → (at number : ℕ) → List ℕ
noted None table at number = table
noted (Some zero) table at number = slice_set table at number
noted (Some (suc n)) table at number = table

-- those of labels, the first of which has the number behind this one
unfoldable pub numbers_onto : (labels : List ℕ) → (number : ℕ) → (table : List ℕ) → List ℕ
numbers_onto [] number table = table
numbers_onto (at ∷ labels) number table = numbers_onto labels (suc number) (noted (slice_get table at) table at (suc number))

-- for each of so many positions the number of its label, or 0
abbrev pub numbers_for : (labels : List ℕ) → (size : ℕ) → List ℕ
numbers_for labels size = numbers_onto labels 0 (replicate size 0)

-- this is such a table
pub record IsTable (labels table : List ℕ) : Type 0 where
  pub size : ℕ
  pub is : table ≡ numbers_for labels size

-- ---- functions

abbrev pub HasFew : LowFun → Type 0
HasFew f = length f.code ≤ MOST_INSTRUCTIONS

abbrev pub body_in : Frame → core.Fun → Body
body_in frame f = record {
  places = max (length f.kinds) (code_reach (block_code frame f.body 0));
  code = numbered (block_labels f.body 0) (block_code frame f.body 0);
  labels = block_labels f.body 0;
}

-- a function whose frame is this
abbrev pub function_in : Frame → core.Fun → Signature → LowFun
function_in frame f sig =
    let body = body_in frame f in
    record { name = f.name; sig = sig; places = body.places; code = body.code; labels = body.labels }

unfoldable pub functions_in : List Packing → (results : List Kind) → List CoreFun → List Signature → List LowFun
functions_in types results [] sigs = []
functions_in types results (f ∷ fs) [] = []
functions_in types results (f ∷ fs) (sig ∷ sigs) =
    function_in (record { types = types; results = results; kinds = f.kinds }) (plain_fun f) sig ∷ functions_in types results fs sigs

abbrev pub program_in : List Packing → List CoreFun → (main : ℕ) → List Signature → (table : List Packed) → Lowered
program_in types funs main sigs table =
    record { funs = functions_in types (map (λ f. kind_of f.result) funs) funs sigs; table = table; main = main }
