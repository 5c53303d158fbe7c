-- What statements do.
use Rattle.std.specs.Prelude.{ℕ, zero, suc, pos, Bool, true, false, List, [], ◌∷◌, length, slice_set, nat_lt, Some, None, Ok}
use Rattle.xan_io.specs.Outcome.{Running}
use Rattle.xan_seq.specs.Answers.{◌>>=◌}
use Rattle.operation_rules.specs.declared.operation.Operation.TheVariants as operation
use Rattle.xanadu_tree.specs.Plain as core
use Rattle.typed_core.specs.SourceValues.{Number, Array, Tuple, Value, number, have_tags, tags_of, cells_of, cell_tag}
use Rattle.typed_core.specs.SourceRuns.{Run, Answer, Env, Place, Recorder, Calls, Flow, Next, Gives, ends, stuck, spent, all_of, put}
use Rattle.typed_core.specs.SourceOperands.{acts, no_cells, value}
use Rattle.typed_core.specs.SourceTests.{holds}

module _ {L : Type 0} where
  -- ---- variables

  abbrev pub set_if : (there : Bool) → Env → (variable : ℕ) → Value → Run L → Answer L Env
  set_if true env x v st = Ok (slice_set env x (Some v), st)
  set_if false env x v st = stuck st

  abbrev pub set_variable : Env → (variable : ℕ) → Value → Run L → Answer L Env
  set_variable env x v st = set_if (nat_lt x (length env)) env x v st

  -- one value each
  unfoldable pub set_all : Env → (variables : List ℕ) → List Value → Run L → Answer L Env
  set_all env [] [] st = Ok (env, st)
  set_all env [] (v ∷ vs) st = stuck st
  set_all env (x ∷ xs) [] st = stuck st
  set_all env (x ∷ xs) (v ∷ vs) st = do
    (more, one) ← set_variable env x v st
    set_all more xs vs one

  abbrev pub completes : Env → Run L → Answer L Flow
  completes env st = Ok (Next env, st)

  -- ---- statements, after their operands

  abbrev pub parts_if : (fit : Bool) → (count : ℕ) → Value → Run L → Answer L (List Value)
  parts_if true count v st = all_of (tags_of (cells_of st.store v.word)) st (acts no_cells (operation.Untuple 0 count) (v ∷ []) st)
  parts_if false count v st = stuck st

  -- the first so many parts of a tuple
  unfoldable pub parts_read : (count : ℕ) → Value → Run L → Answer L (List Value)
  parts_read count v st = parts_if (have_tags (v ∷ []) (Tuple ∷ [])) count v st

  abbrev pub cell_put_if : (fit : Bool) → (array index new : Value) → Run L → Answer L (List Value)
  cell_put_if true array index new st = all_of [] st (acts no_cells operation.Store (array ∷ index ∷ new ∷ []) st)
  cell_put_if false array index new st = stuck st

  -- the value has the tag of the cell
  unfoldable pub cell_put : (array index new : Value) → Run L → Answer L (List Value)
  cell_put array index new st =
      cell_put_if (have_tags (array ∷ index ∷ new ∷ []) (Array ∷ Number ∷ cell_tag st.store array.word index.word ∷ [])) array index new st

  abbrev pub printed_if : (fit : Bool) → Value → Run L → Answer L (Unit {0})
  printed_if true v st = put st (acts no_cells operation.Print (v ∷ []) st)
  printed_if false v st = stuck st

  unfoldable pub number_printed : Value → Run L → Answer L (Unit {0})
  number_printed v st = printed_if (have_tags (v ∷ []) (Number ∷ [])) v st

  -- ---- control

  -- a statement is reached, and recorded
  abbrev pub reached : Recorder L → (fun : ℕ) → Place → Env → Run L → Run L
  reached recorder fun place env st = record st { log = recorder fun place env st.store st.log }

  -- what stands behind goes on where the statement completed
  abbrev pub behind : Flow → (Env → Run L → Answer L Flow) → Run L → Answer L Flow
  behind (Next env) more st = more env st
  behind (Gives v) more st = Ok (Gives v, st)

  abbrev pub one_of_two : Bool → (on_true on_false : Run L → Answer L Flow) → Run L → Answer L Flow
  one_of_two true on_true on_false st = on_true st
  one_of_two false on_true on_false st = on_false st

  -- One turn of a loop, after its test: its body, for one unit of fuel, and then again.
  abbrev pub turned : Bool → (body again : Env → Run L → Answer L Flow) → Env → Run L → Answer L Flow
  turned false body again env st = completes env st
  turned true body again env st = do
    (paid, one) ← spent st
    (flow, two) ← body env one
    behind flow again two

  -- The turns of a loop, at most so many: more than there are units are never asked for.
  unfoldable pub turns : (test : Env → Run L → Answer L Bool) → (body : ℕ → Env → Run L → Answer L Flow) → (bound : ℕ) → Env → Run L → Answer L Flow
  turns test body zero env st = ends Running st
  turns test body (suc bound) env st = do
    (truth, one) ← test env st
    turned truth (body bound) (turns test body bound) env one

module _ {L : Type 0} (recorder : Recorder L) (call : Calls L) (fun : ℕ) where
  unfoldable mutual
    -- the bound is that on the turns of loops
    pub statement : (bound : ℕ) → Place → core.Stmt → Env → Run L → Answer L Flow
    statement bound place (core.Set x e) env st = do
      (v, one) ← value call env e st
      (more, two) ← set_variable env x v one
      completes more two
    statement bound place (core.Split xs e at) env st = do
      (v, one) ← value call env e st
      (parts, two) ← parts_read (length xs) v one
      (more, three) ← set_all env xs parts two
      completes more three
    statement bound place (core.Store array index e at) env st = do
      (a, one) ← value call env array st
      (i, two) ← value call env index one
      (v, three) ← value call env e two
      (none, four) ← cell_put a i v three
      completes env four
    statement bound place (core.Do e) env st = do
      (v, one) ← value call env e st
      completes env one
    statement bound place (core.Print e) env st = do
      (v, one) ← value call env e st
      (said, two) ← number_printed v one
      completes env two
    statement bound place (core.If test on_true on_false join at) env st = do
      (truth, one) ← holds call env test st
      one_of_two truth (λ st. block bound (0 ∷ place) 0 on_true env st) (λ st. block bound (1 ∷ place) 0 on_false env st) one
    statement bound place (core.While test head body at) env st =
        turns (λ env st. holds call env test st) (λ bound env st. block bound (0 ∷ place) 0 body env st) bound env st
    statement bound place (core.Return None at) env st = Ok (Gives (number (pos 0)), st)
    statement bound place (core.Return (Some e) at) env st = do
      (v, one) ← value call env e st
      Ok (Gives v, one)

    -- the statements of a block from this number on
    pub block : (bound : ℕ) → Place → (number : ℕ) → core.Stmts → Env → Run L → Answer L Flow
    block bound place number core.NoStmt env st = completes env st
    block bound place number (core.AStmt s ss) env st = do
      (flow, one) ← statement bound (number ∷ place) s env (reached recorder fun (number ∷ place) env st)
      behind flow (λ env st. block bound place (suc number) ss env st) one
