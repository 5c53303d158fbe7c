-- Statements: a step changes nothing of what a machine comes to.
use Rattle.std.proofs.Common.{◌≡◌, ◌∙◌, ◌++◌, ℕ, zero, suc, ℤ, pos, negsuc, Bool as Truth, true, false, List, [], ◌∷◌, length, take, drop, nat_lt, nat_le, ◌≤◌, arith, Option, Some, None, Ok, Err, refl, sym, ap}
use Rattle.std.specs.Prelude.{slice_get}
use Rattle.std.proofs.lemmas.Bool.{leb-true}
use Rattle.xan_io.specs.Outcome.{Stuck}
use Rattle.operation_rules.specs.Effects.{cells_from, splits_cells, splits_if}
use Rattle.xan_seq.specs.Answers.{◌>>=◌}
use Rattle.xanadu_tree.specs.Plain as core
use Rattle.typed_core.specs.Meaning.{no_log}
use Rattle.typed_core.specs.SourceValues.{Tag, Number, Truth as TruthTag, Array, Tuple, Value, Block, Blocks, number, same_tag, separate, cell_tag, tags_of, with_tags, have_tags, words_of}
use Rattle.typed_core.specs.SourceRuns.{Run, Answer, Env, Flow, Next, Gives, all_of, spent}
use Rattle.typed_core.specs.SourceOperands.{no_cells, value}
use Rattle.typed_core.specs.SourceTests.{holds}
use Rattle.typed_core.specs.SourceStatements as source
use Rattle.typed_core.specs.SourceStatements.{statement, block, behind, completes, turned, number_printed}
use Rattle.typed_core.specs.SourceFreely.{free_block, free_statement}
use Rattle.typed_core.proofs.FreeBounds.{behind_free, branch_free, turn_free}
use Rattle.source_values.specs.Values as values
use Rattle.source_values.specs.Values.{Ending, truth_value}
use Rattle.source_values.specs.Variables as variables
use Rattle.source_evaluator.specs.Steps as steps
use Rattle.source_evaluator.specs.Steps.{Machine, acted, allocated, begun, doing, with_values}
use Rattle.source_evaluator.specs.Work.{Work, Decide, Forget, PutCell, SetTo, SplitTo, Say, Choose, Loop, Turn, GiveBack, Statements}
use Rattle.source_evaluator.proofs.ActMeanings.{cell_there, lifted, there}
use Rattle.source_evaluator.specs.Pending.{R, after, by_flow, calls, given, loop, meaning, meant, one_of_two, run_of, say, statements, turned_by, working}
use Rattle.source_evaluator.proofs.PlacesSame.{block_same, statement_same, turned_same}
use Rattle.source_evaluator.proofs.StepMeanings.{Follows, after_then, bind_same, in_turn}

-- ---- parts of statements

set_by : (b : Truth) (env : Env) (x : ℕ) (v : Value) (xs : List ℕ) (vs : List Value) (st : R)
    → ((more : Env) (st : R) → source.set_all more xs vs st ≡ lifted (variables.set_all more xs vs) st)
    → (source.set_if b env x v st >>= λ y. source.set_all y.0 xs vs y.1) ≡ lifted (variables.set_if b env x v >>= λ more. variables.set_all more xs vs) st
set_by true env x v xs vs st later = later _ st
set_by false env x v xs vs st later = refl

pub set_all_is : (env : Env) (xs : List ℕ) (vs : List Value) (st : R) → source.set_all env xs vs st ≡ lifted (variables.set_all env xs vs) st
unfolding source.set_all variables.set_all
set_all_is env [] [] st = refl
set_all_is env [] (v ∷ vs) st = refl
set_all_is env (x ∷ xs) [] st = refl
set_all_is env (x ∷ xs) (v ∷ vs) st = set_by (nat_lt x (length env)) env x v xs vs st (λ more st. set_all_is more xs vs st)

-- an answer that says nothing but the store behind it
abbrev pub restored : Ending Blocks → R → Answer (Unit {0}) (List Value)
restored (Ok store) st = Ok ([], record st { store = store })
restored (Err how) st = Err (record { how = how; run = st })

abbrev tagged : Tag → ℤ → Value
tagged t x = record { tag = t; word = x }

one_tag : (s t : Tag) (x : ℤ) → have_tags (tagged s x ∷ []) (t ∷ []) ≡ same_tag s t
unfolding have_tags
one_tag Number Number x = refl
one_tag Number TruthTag x = refl
one_tag Number Array x = refl
one_tag Number Tuple x = refl
one_tag TruthTag Number x = refl
one_tag TruthTag TruthTag x = refl
one_tag TruthTag Array x = refl
one_tag TruthTag Tuple x = refl
one_tag Array Number x = refl
one_tag Array TruthTag x = refl
one_tag Array Array x = refl
one_tag Array Tuple x = refl
one_tag Tuple Number x = refl
one_tag Tuple TruthTag x = refl
one_tag Tuple Array x = refl
one_tag Tuple Tuple x = refl

-- where there is no such cell, its kind does not matter
no_block : (c : Truth) (b : ℕ) (y : ℤ) (v : Value) (st : R) → slice_get st.store.blocks b ≡ None
    → source.cell_put_if c (tagged Array (pos b)) (tagged Number y) v st ≡ Err (record { how = Stuck; run = st })
unfolding words_of
no_block true b y v st e = rw e refl
no_block false b y v st e = refl

no_cell : (c : Truth) (b i : ℕ) (v : Value) (block : Block) (st : R) → slice_get st.store.blocks b ≡ Some block → nat_lt i (length block.cells) ≡ false
    → source.cell_put_if c (tagged Array (pos b)) (tagged Number (pos i)) v st ≡ Err (record { how = Stuck; run = st })
unfolding words_of
no_cell true b i v block st e f = rw e (rw f refl)
no_cell false b i v block st e f = refl

no_index : (c : Truth) (b i : ℕ) (v : Value) (block : Block) (st : R) → slice_get st.store.blocks b ≡ Some block
    → source.cell_put_if c (tagged Array (pos b)) (tagged Number (negsuc i)) v st ≡ Err (record { how = Stuck; run = st })
unfolding words_of
no_index true b i v block st e = rw e refl
no_index false b i v block st e = refl

below : (c : Truth) (b : ℕ) (y : ℤ) (v : Value) (st : R)
    → source.cell_put_if c (tagged Array (negsuc b)) (tagged Number y) v st ≡ Err (record { how = Stuck; run = st })
unfolding words_of
below true b y v st = refl
below false b y v st = refl

a_cell : (c : Truth) (b i : ℕ) (v : Value) (block : Block) (st : R) → slice_get st.store.blocks b ≡ Some block → nat_lt i (length block.cells) ≡ true
    → source.cell_put_if c (tagged Array (pos b)) (tagged Number (pos i)) v st ≡ restored (values.put_if c (values.written st.store b i v.word)) st
unfolding words_of with_tags
a_cell true b i v block st e f = rw e (rw f refl)
a_cell false b i v block st e f = refl

put_cell : (b i : ℕ) (v : Value) (block : Block) (o : Option Value) (st : R) → slice_get st.store.blocks b ≡ Some block → slice_get block.cells i ≡ o
    → nat_lt i (length block.cells) ≡ there o
    → source.cell_put (tagged Array (pos b)) (tagged Number (pos i)) v st ≡ restored (values.put_at st.store (pos b) (pos i) v) st
unfolding source.cell_put have_tags
put_cell b i v block None st e f g = no_cell _ b i v block st e g ∙ rw e (rw f refl)
put_cell b i v block (Some cell) st e f g =
    ap (λ (c : Truth). source.cell_put_if c (tagged Array (pos b)) (tagged Number (pos i)) v st)
    (one_tag v.tag (cell_tag st.store (pos b) (pos i)) v.word ∙ rw e (rw f refl))
    ∙ a_cell (same_tag v.tag cell.tag) b i v block st e g ∙ rw e (rw f refl)

put_block : (b : ℕ) (y : ℤ) (v : Value) (o : Option Block) (st : R) → slice_get st.store.blocks b ≡ o
    → source.cell_put (tagged Array (pos b)) (tagged Number y) v st ≡ restored (values.put_at st.store (pos b) y v) st
unfolding source.cell_put
put_block b (pos i) v None st e = no_block _ b (pos i) v st e ∙ rw e refl
put_block b (negsuc i) v None st e = no_block _ b (negsuc i) v st e
put_block b (pos i) v (Some block) st e = put_cell b i v block (slice_get block.cells i) st e refl (cell_there block.cells i)
put_block b (negsuc i) v (Some block) st e = no_index _ b i v block st e

put_by : (t u : Tag) (x y : ℤ) (v : Value) (st : R) → source.cell_put (tagged t x) (tagged u y) v st ≡ restored (values.put st.store (tagged t x) (tagged u y) v) st
unfolding source.cell_put have_tags
put_by Array Number (pos b) y v st = put_block b y v (slice_get st.store.blocks b) st refl
put_by Array Number (negsuc b) y v st = below _ b y v st
put_by Array TruthTag x y v st = refl
put_by Array Array x y v st = refl
put_by Array Tuple x y v st = refl
put_by Number u x y v st = refl
put_by TruthTag u x y v st = refl
put_by Tuple u x y v st = refl

pub put_is : (a i v : Value) (st : R) → source.cell_put a i v st ≡ restored (values.put st.store a i v) st
put_is a i v st = put_by a.tag i.tag a.word i.word v st

-- ---- the parts of a tuple

rests : (all : List Value) (i : ℕ) (v : Value) (vs : List Value) → drop i all ≡ v ∷ vs → (slice_get all i ≡ Some v) × (drop (suc i) all ≡ vs)
rests [] zero v vs e = absurd (let bad : ⊥ = cc in bad)
rests [] (suc i) v vs e = absurd (let bad : ⊥ = cc in bad)
rests (x ∷ xs) zero v vs e = (ap (λ (zs : List Value). slice_get zs 0) e, ap (λ (zs : List Value). drop 1 zs) e)
rests (x ∷ xs) (suc i) v vs e = rests xs i v vs e

words_read : (st : R) (b : ℕ) (block : Block) (i count : ℕ) (rest : List Value) → slice_get st.store.blocks b ≡ Some block → drop i block.cells ≡ rest
    → count ≤ length rest → cells_from (separate no_cells) st.store b i count ≡ Some (words_of (take count rest))
unfolding cells_from words_of
words_read st b block i zero rest e f h = refl
words_read st b block i (suc count) [] e f h = absurd (omega (arith, h))
words_read st b block i (suc count) (v ∷ vs) e f h =
    let r = rests block.cells i v vs f in
    let later = words_read st b block (suc i) count vs e r.1 (omega (arith, h)) in
    rw e (rw r.0 (rw later refl))

tags_words : (count : ℕ) (cells : List Value) → with_tags (tags_of cells) (words_of (take count cells)) ≡ take count cells
unfolding with_tags tags_of words_of
tags_words zero [] = refl
tags_words zero (v ∷ vs) = refl
tags_words (suc count) [] = refl
tags_words (suc count) (v ∷ vs) = ap (λ (xs : List Value). v ∷ xs) (tags_words count vs)

parts_in : (c : Truth) (count b : ℕ) (st : R) (block : Block) → slice_get st.store.blocks b ≡ Some block → (c ≡ true → count ≤ length block.cells)
    → all_of (tags_of block.cells) st (splits_if (separate no_cells) c b count st.store) ≡ lifted (values.parts_if c count block.cells) st
parts_in false count b st block e h = refl
parts_in true count b st block e h =
    ap (λ (o : Option (List ℤ)). all_of (tags_of block.cells) st (splits_cells (separate no_cells) o st.store)) (words_read st b block 0 count block.cells e refl (h refl))
    ∙ ap (λ (vs : List Value). (let r : Answer (Unit {0}) (List Value) = Ok (vs, st) in r)) (tags_words count block.cells)

parts_at : (count b : ℕ) (st : R) (o : Option Block) → slice_get st.store.blocks b ≡ o
    → source.parts_read count (record { tag = Tuple; word = pos b }) st ≡ lifted (values.parts_of count (record { tag = Tuple; word = pos b }) st.store) st
unfolding source.parts_read have_tags words_of
parts_at count b st None e = rw e refl
parts_at count b st (Some block) e = rw e (parts_in (nat_le count (length block.cells)) count b st block e (λ t. leb-true count (length block.cells) t))

parts_by : (count : ℕ) (t : Tag) (x : ℤ) (st : R)
    → source.parts_read count (record { tag = t; word = x }) st ≡ lifted (values.parts_of count (record { tag = t; word = x }) st.store) st
unfolding source.parts_read have_tags words_of
parts_by count Tuple (pos b) st = parts_at count b st (slice_get st.store.blocks b) refl
parts_by count Tuple (negsuc b) st = refl
parts_by count Number x st = refl
parts_by count TruthTag x st = refl
parts_by count Array x st = refl

pub parts_is : (count : ℕ) (v : Value) (st : R) → source.parts_read count v st ≡ lifted (values.parts_of count v st.store) st
parts_is count v st = parts_by count v.tag v.word st

module _ (funs : List core.Fun) (depth : ℕ) where
  -- where a statement leaves the run
  abbrev flow_on : List Work → List Value → List Env → Flow × R → Answer (Unit {0}) Value
  flow_on ws vs cs a = by_flow (λ env st. working funs depth ws vs env cs st) (λ v st. given funs depth ws v vs cs st) a.0 a.1

  abbrev stm : core.Stmt → Env → List Env → R → Answer (Unit {0}) Flow
  stm s env cs st = free_statement no_log funs depth (suc (length cs)) 0 [] s env st

  lift_set : (b : Truth) (ws : List Work) (vs : List Value) (env : Env) (cs : List Env) (x : ℕ) (v : Value) (st : R)
      → ((source.set_if b env x v st >>= λ y. completes y.0 y.1) >>= flow_on ws vs cs)
      ≡ after (variables.set_if b env x v) (λ env st. working funs depth ws vs env cs st) st
  lift_set true ws vs env cs x v st = refl
  lift_set false ws vs env cs x v st = refl

  lift_sets : (ws : List Work) (vs : List Value) (cs : List Env) (e : Ending Env) (st : R)
      → ((lifted e st >>= λ y. completes y.0 y.1) >>= flow_on ws vs cs) ≡ after e (λ env st. working funs depth ws vs env cs st) st
  lift_sets ws vs cs (Ok env) st = refl
  lift_sets ws vs cs (Err how) st = refl

  lift_parts : (ws : List Work) (vs : List Value) (env : Env) (cs : List Env) (xs : List ℕ) (e : Ending (List Value)) (st : R)
      → ((lifted e st >>= λ y. source.set_all env xs y.0 y.1 >>= λ z. completes z.0 z.1) >>= flow_on ws vs cs)
      ≡ after e (λ parts st. after (variables.set_all env xs parts) (λ env st. working funs depth ws vs env cs st) st) st
  lift_parts ws vs env cs xs (Ok parts) st =
      ap (λ (r : Answer (Unit {0}) Env). (r >>= λ z. completes z.0 z.1) >>= flow_on ws vs cs) (set_all_is env xs parts st)
      ∙ lift_sets ws vs cs (variables.set_all env xs parts) st
  lift_parts ws vs env cs xs (Err how) st = refl

  lift_put : (ws : List Work) (vs : List Value) (env : Env) (cs : List Env) (e : Ending Blocks) (st : R)
      → ((restored e st >>= λ y. completes env y.1) >>= flow_on ws vs cs)
      ≡ after (e >>= λ new. (let r : Ending (List Value × Blocks) = Ok (vs, new) in r)) (λ new st. working funs depth ws new.0 env cs (record st { store = new.1 })) st
  lift_put ws vs env cs (Ok store) st = refl
  lift_put ws vs env cs (Err how) st = refl

  lift_say : (ws : List Work) (vs : List Value) (env : Env) (cs : List Env) (t : Tag) (x : ℤ) (st : R)
      → ((number_printed (record { tag = t; word = x }) st >>= λ y. completes env y.1) >>= flow_on ws vs cs)
      ≡ after (values.or_stuck (values.word_in Number (record { tag = t; word = x })) (λ n. Ok n)) (λ n st. working funs depth ws vs env cs (say n st)) st
  unfolding number_printed have_tags words_of
  lift_say ws vs env cs Number x st = refl
  lift_say ws vs env cs TruthTag x st = refl
  lift_say ws vs env cs Array x st = refl
  lift_say ws vs env cs Tuple x st = refl

  chosen_by : (one two : core.Stmts) (ws : List Work) (vs : List Value) (env : Env) (cs : List Env) (b : Truth) (st : R)
      → (source.one_of_two b (λ st. free_block no_log funs depth (suc (length cs)) 0 (0 ∷ []) 0 one env st)
      (λ st. free_block no_log funs depth (suc (length cs)) 0 (1 ∷ []) 0 two env st) st >>= flow_on ws vs cs)
      ≡ working funs depth (Choose one two ∷ ws) (truth_value b ∷ vs) env cs st
  unfolding working
  chosen_by one two ws vs env cs true st =
      ap (λ (r : Answer (Unit {0}) Flow). r >>= flow_on ws vs cs) (block_same (calls funs depth cs) 0 0 (suc st.units) (0 ∷ []) [] 0 0 one env st)
  chosen_by one two ws vs env cs false st =
      ap (λ (r : Answer (Unit {0}) Flow). r >>= flow_on ws vs cs) (block_same (calls funs depth cs) 0 0 (suc st.units) (1 ∷ []) [] 0 0 two env st)

  pub statement_follows : (s : core.Stmt) (m : Machine) (p : List ℤ)
      → (stm s m.env m.callers (run_of funs depth m p) >>= flow_on m.work m.values m.callers) ≡ meaning funs depth (begun s m) p
  unfolding working statement begun acted allocated
  statement_follows (core.Set x e) m p =
      in_turn (value (calls funs depth m.callers) m.env e (run_of funs depth m p)) _ (flow_on m.work m.values m.callers) _
      (λ a. lift_set (nat_lt x (length m.env)) m.work m.values m.env m.callers x a.0 a.1)
  statement_follows (core.Split xs e at) m p =
      in_turn (value (calls funs depth m.callers) m.env e (run_of funs depth m p)) _ (flow_on m.work m.values m.callers) _
      (λ a. ap (λ (r : Answer (Unit {0}) (List Value)).
      (r >>= λ y. source.set_all m.env xs y.0 y.1 >>= λ z. completes z.0 z.1) >>= flow_on m.work m.values m.callers) (parts_is (length xs) a.0 a.1)
      ∙ lift_parts m.work m.values m.env m.callers xs (values.parts_of (length xs) a.0 a.1.store) a.1)
  statement_follows (core.Store array index e at) m p =
      in_turn (value (calls funs depth m.callers) m.env array (run_of funs depth m p)) _ (flow_on m.work m.values m.callers) _
      (λ a. in_turn (value (calls funs depth m.callers) m.env index a.1) _ (flow_on m.work m.values m.callers) _
      (λ b. in_turn (value (calls funs depth m.callers) m.env e b.1) _ (flow_on m.work m.values m.callers) _
      (λ c. ap (λ (r : Answer (Unit {0}) (List Value)). (r >>= λ y. completes m.env y.1) >>= flow_on m.work m.values m.callers) (put_is a.0 b.0 c.0 c.1)
      ∙ lift_put m.work m.values m.env m.callers (values.put c.1.store a.0 b.0 c.0) c.1)))
  statement_follows (core.Do e) m p =
      in_turn (value (calls funs depth m.callers) m.env e (run_of funs depth m p)) _ (flow_on m.work m.values m.callers) _ (λ a. refl)
  statement_follows (core.Print e) m p =
      in_turn (value (calls funs depth m.callers) m.env e (run_of funs depth m p)) _ (flow_on m.work m.values m.callers) _
      (λ a. lift_say m.work m.values m.env m.callers a.0.tag a.0.word a.1)
  statement_follows (core.If test on_true on_false join at) m p =
      ap (λ (r : Answer (Unit {0}) Flow). r >>= flow_on m.work m.values m.callers)
      (branch_free no_log funs depth (suc (length m.callers)) 0 [] test on_true on_false join at m.env (run_of funs depth m p))
      ∙ in_turn (holds (calls funs depth m.callers) m.env test (run_of funs depth m p)) _ (flow_on m.work m.values m.callers) _
      (λ a. chosen_by on_true on_false m.work m.values m.env m.callers a.0 a.1)
  statement_follows (core.While test head body at) m p = refl
  statement_follows (core.Return None at) m p = refl
  statement_follows (core.Return (Some e) at) m p =
      in_turn (value (calls funs depth m.callers) m.env e (run_of funs depth m p)) _ (flow_on m.work m.values m.callers) _ (λ a. refl)

  -- ---- blocks

  behind_follows : (ss : core.Stmts) (ws : List Work) (vs : List Value) (cs : List Env) (flow : Flow) (st : R)
      → (behind flow (λ env st. free_block no_log funs depth (suc (length cs)) 0 [] 1 ss env st) st >>= flow_on ws vs cs) ≡ flow_on (Statements ss ∷ ws) vs cs (flow, st)
  unfolding working
  behind_follows ss ws vs cs (Next env) st =
      ap (λ (r : Answer (Unit {0}) Flow). r >>= flow_on ws vs cs) (block_same (calls funs depth cs) 0 0 (suc st.units) [] [] 1 0 ss env st)
  behind_follows ss ws vs cs (Gives v) st = refl

  pub block_follows : (ss : core.Stmts) (m : Machine) (p : List ℤ) → meant funs depth (Statements ss) m p ≡ meaning funs depth (steps.statements ss m) p
  unfolding working block steps.statements
  block_follows core.NoStmt m p = refl
  block_follows (core.AStmt s ss) m p =
      ap (λ (r : Answer (Unit {0}) Flow). r >>= flow_on m.work m.values m.callers)
      (behind_free no_log funs depth (suc (length m.callers)) 0 [] 0 s ss m.env (run_of funs depth m p)
      ∙ ap (λ (r : Answer (Unit {0}) Flow). r >>= λ x. behind x.0 (λ env st. free_block no_log funs depth (suc (length m.callers)) 0 [] 1 ss env st) x.1)
      (statement_same (calls funs depth m.callers) 0 0 (suc m.units) (0 ∷ []) [] s m.env (run_of funs depth m p)))
      ∙ in_turn (stm s m.env m.callers (run_of funs depth m p)) _ (flow_on m.work m.values m.callers) (flow_on (Statements ss ∷ m.work) m.values m.callers)
      (λ x. behind_follows ss m.work m.values m.callers x.0 x.1)
      ∙ statement_follows s (doing (Statements ss ∷ []) m) p

  -- ---- loops

  turned_follows : (test : core.Test) (body : core.Stmts) (ws : List Work) (vs : List Value) (env : Env) (cs : List Env) (b : Truth) (st : R)
      → (turned b (λ env st. free_block no_log funs depth (suc (length cs)) 0 (0 ∷ []) 0 body env st)
      (λ env st. free_statement no_log funs depth (suc (length cs)) 0 [] (core.While test None body 0) env st) env st >>= flow_on ws vs cs)
      ≡ working funs depth (Turn test body ∷ ws) (truth_value b ∷ vs) env cs st
  unfolding working
  turned_follows test body ws vs env cs false st = refl
  turned_follows test body ws vs env cs true st =
      ap (λ (r : Answer (Unit {0}) Flow). r >>= flow_on ws vs cs)
      (turned_same true _ _ _ _ env st (λ env st. block_same (calls funs depth cs) 0 0 (suc st.units) (0 ∷ []) [] 0 0 body env st) (λ env st. refl))

  pub loop_follows : (test : core.Test) (body : core.Stmts) (m : Machine) (p : List ℤ)
      → meant funs depth (Loop test body) m p ≡ meaning funs depth (doing (Decide test ∷ Turn test body ∷ []) m) p
  unfolding working
  loop_follows test body m p =
      ap (λ (r : Answer (Unit {0}) Flow). r >>= flow_on m.work m.values m.callers)
      (turn_free no_log funs depth (suc (length m.callers)) 0 [] test None body 0 m.env (run_of funs depth m p))
      ∙ in_turn (holds (calls funs depth m.callers) m.env test (run_of funs depth m p)) _ (flow_on m.work m.values m.callers) _
      (λ x. turned_follows test body m.work m.values m.env m.callers x.0 x.1)

  again_follows : (test : core.Test) (body : core.Stmts) (ws : List Work) (vs : List Value) (cs : List Env) (flow : Flow) (st : R)
      → (behind flow (λ env st. loop funs depth test body env cs st) st >>= flow_on ws vs cs) ≡ flow_on (Loop test body ∷ ws) vs cs (flow, st)
  unfolding working
  again_follows test body ws vs cs (Next env) st = refl
  again_follows test body ws vs cs (Gives v) st = refl

  paid_turn : (units : ℕ) (test : core.Test) (body : core.Stmts) (m : Machine) (p : List ℤ) (vs : List Value)
      → Follows funs depth p
      (steps.paid units >>= λ u. Ok (doing (Statements body ∷ Loop test body ∷ []) (steps.with_units u (with_values vs m))))
      (turned_by funs depth true test body m.env m.callers (record (run_of funs depth m p) { units = units }) >>= flow_on m.work vs m.callers)
  unfolding working spent
  paid_turn zero test body m p vs = (record (run_of funs depth m p) { units = 0 }, refl, refl)
  paid_turn (suc units) test body m p vs =
      in_turn (statements funs depth body m.env m.callers (record (run_of funs depth m p) { units = units })) _ (flow_on m.work vs m.callers)
      (flow_on (Loop test body ∷ m.work) vs m.callers) (λ x. again_follows test body m.work vs m.callers x.0 x.1)

  on_turn : (test : core.Test) (body : core.Stmts) (m : Machine) (p : List ℤ) (b : Truth) (vs : List Value)
      → Follows funs depth p (steps.turned test body b (with_values vs m))
      (turned_by funs depth b test body m.env m.callers (run_of funs depth m p) >>= flow_on m.work vs m.callers)
  on_turn test body m p false vs = refl
  on_turn test body m p true vs = paid_turn m.units test body m p vs

  pub turn_follows : (test : core.Test) (body : core.Stmts) (m : Machine) (p : List ℤ)
      → Follows funs depth p (steps.by_truth m (steps.turned test body)) (meant funs depth (Turn test body) m p)
  unfolding working
  turn_follows test body m p = after_then funs depth p (run_of funs depth m p) refl (steps.truth_of m.values) _ _ (λ t. on_turn test body m p t.0 t.1)

  -- ---- choices and assignments

  on_choice : (one two : core.Stmts) (m : Machine) (p : List ℤ) (b : Truth) (vs : List Value)
      → Follows funs depth p (steps.chosen one two b (with_values vs m))
      (statements funs depth (one_of_two b one two) m.env m.callers (run_of funs depth m p) >>= flow_on m.work vs m.callers)
  unfolding working
  on_choice one two m p true vs = refl
  on_choice one two m p false vs = refl

  pub choice_follows : (one two : core.Stmts) (m : Machine) (p : List ℤ)
      → Follows funs depth p (steps.by_truth m (steps.chosen one two)) (meant funs depth (Choose one two) m p)
  unfolding working
  choice_follows one two m p = after_then funs depth p (run_of funs depth m p) refl (steps.truth_of m.values) _ _ (λ t. on_choice one two m p t.0 t.1)

  pub set_follows : (x : ℕ) (m : Machine) (p : List ℤ) → Follows funs depth p (steps.set_to x m) (meant funs depth (SetTo x) m p)
  unfolding working
  set_follows x m p =
      after_then funs depth p (run_of funs depth m p) refl (steps.one_of m.values) _ _
      (λ t. after_then funs depth p (run_of funs depth m p) refl (variables.set_variable m.env x t.0) _ _ (λ env. refl))

  pub split_follows : (xs : List ℕ) (m : Machine) (p : List ℤ) → Follows funs depth p (steps.split_to xs m) (meant funs depth (SplitTo xs) m p)
  unfolding working
  split_follows xs m p =
      after_then funs depth p (run_of funs depth m p) refl (steps.one_of m.values) _ _
      (λ t. after_then funs depth p (run_of funs depth m p) refl (values.parts_of (length xs) t.0 m.store) _ _
      (λ parts. after_then funs depth p (run_of funs depth m p) refl (variables.set_all m.env xs parts) _ _ (λ env. refl)))
