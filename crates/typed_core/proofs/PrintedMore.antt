-- Along a run what is printed only becomes more.
use Rattle.std.proofs.Common.{ℕ, zero, suc, ℤ, Bool, true, false, List, [], ◌∷◌, ◌++◌, length, nat_lt, ◌==◌, Option, Some, None, Ok, Err}
use Rattle.std.specs.Prelude.{slice_get}
use Rattle.xan_seq.specs.Answers.{◌>>=◌}
use Rattle.operation_rules.specs.Effects.{Effect, Writes, Prints, Takes, Calls as BeginsWith, Gives as GivesWord, Ends}
use Rattle.operation_rules.specs.declared.operation.Operation.{Operation}
use Rattle.xanadu_tree.specs.declared.expr.Rel.{Rel}
use Rattle.xanadu_tree.specs.declared.expr.Rel.TheVariants as rel
use Rattle.xanadu_tree.specs.Plain as core
use Rattle.typed_core.specs.Growth.{Continues}
use Rattle.typed_core.specs.Printed.{run_of, PrintsOn, CallsPrintOn}
use Rattle.typed_core.specs.SourceValues.{Tag, Value, Blocks, have_tags, Number, Truth, Array, Tuple, cell_tag}
use Rattle.typed_core.specs.SourceRuns.{Run, End, Answer, Calls, Env, Place, Recorder, Flow, Next, Gives, one_of, all_of, taken, put, units_taken, spent}
use Rattle.typed_core.specs.SourceOperands.{no_cells, value_if, value_by, read, related, value, values, chained}
use Rattle.typed_core.specs.SourceTests.{decided_if, decided, unless, holds, all_hold, any_holds}
use Rattle.typed_core.specs.SourceStatements.{set_if, set_variable, set_all, parts_if, parts_read, cell_put_if, cell_put, printed_if, number_printed, behind, one_of_two, turned, turns, reached, statement, block}
use Rattle.typed_core.specs.SourceCalls.{env_of, result, body_if, body, begun, called}
use Rattle.typed_core.proofs.Continued.{no_more, one_more, more_again}

module _ {L : Type 0} where
  -- what is printed in the answer begins with this
  pub record PrintsFrom {A : Type 0} (before : List ℤ) (answer : Answer L A) : Type 0 where
    pub is : Continues before (run_of answer).printed

  ok_from : {A : Type 0} (before : List ℤ) (x : A) (st : Run L) → Continues before st.printed → PrintsFrom before (let a : Answer L A = Ok (x, st) in a)
  ok_from before x st h = record { is = h }

  err_from : {A : Type 0} (before : List ℤ) (end : End L) → Continues before end.run.printed → PrintsFrom before (let a : Answer L A = Err end in a)
  err_from before end h = record { is = h }

  from_then : {A B : Type 0} (before : List ℤ) (a : Answer L A) (f : A × Run L → Answer L B) → PrintsFrom before a
      → ((p : A × Run L) → Continues before p.1.printed → PrintsFrom before (f p)) → PrintsFrom before (a >>= f)
  from_then before (Ok p) f h next = next p h.is
  from_then before (Err end) f h next = record { is = h.is }

  -- ---- what the effect of an operation makes of a run

  one_from : (before : List ℤ) (tag : Tag) (st : Run L) (effect : Effect Blocks) → Continues before st.printed → PrintsFrom before (one_of tag st effect)
  one_from before tag st (Writes [] store) h = record { is = h }
  one_from before tag st (Writes (w ∷ []) store) h = record { is = h }
  one_from before tag st (Writes (w ∷ v ∷ ws) store) h = record { is = h }
  one_from before tag st (Prints n) h = record { is = h }
  one_from before tag st (Takes b) h = record { is = h }
  one_from before tag st (BeginsWith fun words) h = record { is = h }
  one_from before tag st (GivesWord w) h = record { is = h }
  one_from before tag st (Ends how) h = record { is = h }

  all_from : (before : List ℤ) (tags : List Tag) (st : Run L) (effect : Effect Blocks) → Continues before st.printed → PrintsFrom before (all_of tags st effect)
  all_from before tags st (Writes ws store) h = record { is = h }
  all_from before tags st (Prints n) h = record { is = h }
  all_from before tags st (Takes b) h = record { is = h }
  all_from before tags st (BeginsWith fun words) h = record { is = h }
  all_from before tags st (GivesWord w) h = record { is = h }
  all_from before tags st (Ends how) h = record { is = h }

  taken_from : (before : List ℤ) (st : Run L) (effect : Effect Blocks) → Continues before st.printed → PrintsFrom before (taken st effect)
  taken_from before st (Writes ws store) h = record { is = h }
  taken_from before st (Prints n) h = record { is = h }
  taken_from before st (Takes b) h = record { is = h }
  taken_from before st (BeginsWith fun words) h = record { is = h }
  taken_from before st (GivesWord w) h = record { is = h }
  taken_from before st (Ends how) h = record { is = h }

  put_from : (before : List ℤ) (st : Run L) (effect : Effect Blocks) → Continues before st.printed → PrintsFrom before (put st effect)
  put_from before st (Writes ws store) h = record { is = h }
  put_from before st (Prints n) h = record { is = more_again before st.printed (st.printed ++ n ∷ []) h (one_more st.printed n) }
  put_from before st (Takes b) h = record { is = h }
  put_from before st (BeginsWith fun words) h = record { is = h }
  put_from before st (GivesWord w) h = record { is = h }
  put_from before st (Ends how) h = record { is = h }

  -- ---- constructs, after their operands

  if_from : (before : List ℤ) (fit : Bool) (cells : ℕ → Tag) (o : Operation) (gives : Tag) (vs : List Value) (st : Run L) → Continues before st.printed
      → PrintsFrom before (value_if fit cells o gives vs st)
  if_from before true cells o gives vs st h = one_from before gives st _ h
  if_from before false cells o gives vs st h = record { is = h }

  by_from : (before : List ℤ) (o : Operation) (wants : List Tag) (gives : Tag) (vs : List Value) (st : Run L) → Continues before st.printed
      → PrintsFrom before (value_by o wants gives vs st)
  unfolding value_by
  by_from before o wants gives vs st h = if_from before (have_tags vs wants) no_cells o gives vs st h

  read_from : (before : List ℤ) (v : Option (Option Value)) (st : Run L) → Continues before st.printed → PrintsFrom before (read v st)
  read_from before (Some (Some v)) st h = record { is = h }
  read_from before (Some None) st h = record { is = h }
  read_from before None st h = record { is = h }

  related_from : (before : List ℤ) (r : Rel) (a b : Value) (st : Run L) → Continues before st.printed → PrintsFrom before (related r a b st)
  related_from before rel.Lt a b st h = by_from before _ _ _ _ st h
  related_from before rel.Le a b st h = by_from before _ _ _ _ st h
  related_from before rel.Gt a b st h = by_from before _ _ _ _ st h
  related_from before rel.Ge a b st h = by_from before _ _ _ _ st h
  related_from before rel.Eq a b st h = by_from before _ _ _ _ st h
  related_from before rel.Ne a b st h = by_from before _ _ _ _ st h

  decided_if_from : (before : List ℤ) (fit : Bool) (v : Value) (st : Run L) → Continues before st.printed → PrintsFrom before (decided_if fit v st)
  decided_if_from before true v st h = taken_from before st _ h
  decided_if_from before false v st h = record { is = h }

  decided_from : (before : List ℤ) (v : Value) (st : Run L) → Continues before st.printed → PrintsFrom before (decided v st)
  unfolding decided
  decided_from before v st h = decided_if_from before (have_tags (v ∷ []) (Truth ∷ [])) v st h

  set_from : (before : List ℤ) (there : Bool) (env : Env) (x : ℕ) (v : Value) (st : Run L) → Continues before st.printed → PrintsFrom before (set_if there env x v st)
  set_from before true env x v st h = record { is = h }
  set_from before false env x v st h = record { is = h }

  set_all_from : (before : List ℤ) (env : Env) (xs : List ℕ) (vs : List Value) (st : Run L) → Continues before st.printed → PrintsFrom before (set_all env xs vs st)
  unfolding set_all
  set_all_from before env [] [] st h = record { is = h }
  set_all_from before env [] (v ∷ vs) st h = record { is = h }
  set_all_from before env (x ∷ xs) [] st h = record { is = h }
  set_all_from before env (x ∷ xs) (v ∷ vs) st h =
      from_then before (set_variable env x v st) _ (set_from before (nat_lt x (length env)) env x v st h) (λ p k. set_all_from before p.0 xs vs p.1 k)

  parts_if_from : (before : List ℤ) (fit : Bool) (count : ℕ) (v : Value) (st : Run L) → Continues before st.printed → PrintsFrom before (parts_if fit count v st)
  parts_if_from before true count v st h = all_from before _ st _ h
  parts_if_from before false count v st h = record { is = h }

  parts_from : (before : List ℤ) (count : ℕ) (v : Value) (st : Run L) → Continues before st.printed → PrintsFrom before (parts_read count v st)
  unfolding parts_read
  parts_from before count v st h = parts_if_from before (have_tags (v ∷ []) (Tuple ∷ [])) count v st h

  cell_put_if_from : (before : List ℤ) (fit : Bool) (a i v : Value) (st : Run L) → Continues before st.printed → PrintsFrom before (cell_put_if fit a i v st)
  cell_put_if_from before true a i v st h = all_from before _ st _ h
  cell_put_if_from before false a i v st h = record { is = h }

  cell_put_from : (before : List ℤ) (a i v : Value) (st : Run L) → Continues before st.printed → PrintsFrom before (cell_put a i v st)
  unfolding cell_put
  cell_put_from before a i v st h = cell_put_if_from before (have_tags (a ∷ i ∷ v ∷ []) (Array ∷ Number ∷ cell_tag st.store a.word i.word ∷ [])) a i v st h

  printed_if_from : (before : List ℤ) (fit : Bool) (v : Value) (st : Run L) → Continues before st.printed → PrintsFrom before (printed_if fit v st)
  printed_if_from before true v st h = put_from before st _ h
  printed_if_from before false v st h = record { is = h }

  printed_from : (before : List ℤ) (v : Value) (st : Run L) → Continues before st.printed → PrintsFrom before (number_printed v st)
  unfolding number_printed
  printed_from before v st h = printed_if_from before (have_tags (v ∷ []) (Number ∷ [])) v st h

  paid_from : (before : List ℤ) (units : ℕ) (st : Run L) → Continues before st.printed → PrintsFrom before (units_taken units st)
  paid_from before zero st h = record { is = h }
  paid_from before (suc units) st h = record { is = h }

  spent_from : (before : List ℤ) (st : Run L) → Continues before st.printed → PrintsFrom before (spent st)
  unfolding spent
  spent_from before st h = paid_from before st.units st h

-- ---- expressions and tests

module _ {L : Type 0} (call : Calls L) (calls : CallsPrintOn call) (env : Env) where
  call_from : (before : List ℤ) (fun : ℕ) (vs : List Value) (st : Run L) → Continues before st.printed → PrintsFrom before (call fun vs st)
  call_from before fun vs st h = record { is = more_again before st.printed (run_of (call fun vs st)).printed h (calls.by fun vs st) }

  mutual
    unfolding value

    pub value_from : (before : List ℤ) (e : core.Expr) (st : Run L) → Continues before st.printed → PrintsFrom before (value call env e st)
    value_from before (core.Int n) st h = by_from before _ _ _ _ st h
    value_from before (core.Bool b) st h = by_from before _ _ _ _ st h
    value_from before (core.Var x) st h = read_from before (slice_get env x) st h
    value_from before (core.Neg e) st h = from_then before (value call env e st) _ (value_from before e st h) (λ p k. by_from before _ _ _ _ p.1 k)
    value_from before (core.Chain first rest) st h =
        from_then before (value call env first st) _ (value_from before first st h) (λ p k. chained_from before rest p.0 p.1 k)
    value_from before (core.Compare r left right) st h =
        from_then before (value call env left st) _ (value_from before left st h)
        (λ p k. from_then before (value call env right p.1) _ (value_from before right p.1 k) (λ q l. related_from before r p.0 q.0 q.1 l))
    value_from before (core.Index array index at) st h =
        from_then before (value call env array st) _ (value_from before array st h)
        (λ p k. from_then before (value call env index p.1) _ (value_from before index p.1 k) (λ q l. by_from before _ _ _ _ q.1 l))
    value_from before (core.Len array) st h = from_then before (value call env array st) _ (value_from before array st h) (λ p k. by_from before _ _ _ _ p.1 k)
    value_from before (core.Call fun args at) st h =
        from_then before (values call env args st) _ (values_from before args st h) (λ p k. call_from before fun p.0 p.1 k)
    value_from before (core.Make ty args at) st h =
        from_then before (values call env args st) _ (values_from before args st h) (λ p k. one_from before _ p.1 _ k)
    value_from before (core.New ty len fill at) st h =
        from_then before (value call env len st) _ (value_from before len st h)
        (λ p k. from_then before (value call env fill p.1) _ (value_from before fill p.1 k) (λ q l. if_from before (have_tags (p.0 ∷ []) (Number ∷ [])) _ _ _ _ q.1 l))

    pub values_from : (before : List ℤ) (es : core.Exprs) (st : Run L) → Continues before st.printed → PrintsFrom before (values call env es st)
    values_from before core.NoExpr st h = record { is = h }
    values_from before (core.AnExpr e es) st h =
        from_then before (value call env e st) _ (value_from before e st h)
        (λ p k. from_then before (values call env es p.1) _ (values_from before es p.1 k) (λ q l. record { is = l }))

    pub chained_from : (before : List ℤ) (links : core.Links) (left : Value) (st : Run L) → Continues before st.printed → PrintsFrom before (chained call env links left st)
    chained_from before core.NoLink left st h = record { is = h }
    chained_from before (core.ALink o e at others) left st h =
        from_then before (value call env e st) _ (value_from before e st h)
        (λ p k. from_then before _ _ (by_from before _ _ _ _ p.1 k) (λ q l. chained_from before others q.0 q.1 l))

  unless_from : (before : List ℤ) (go_on truth : Bool) (f : Run L → Answer L Bool) (st : Run L) → Continues before st.printed → PrintsFrom before (f st)
      → PrintsFrom before (unless go_on truth f st)
  unless_from before true true f st h next = next
  unless_from before true false f st h next = record { is = h }
  unless_from before false true f st h next = record { is = h }
  unless_from before false false f st h next = next

  mutual
    unfolding holds

    pub holds_from : (before : List ℤ) (t : core.Test) (st : Run L) → Continues before st.printed → PrintsFrom before (holds call env t st)
    holds_from before (core.Leaf e) st h = from_then before (value call env e st) _ (value_from before e st h) (λ p k. decided_from before p.0 p.1 k)
    holds_from before (core.All parts) st h = all_hold_from before parts st h
    holds_from before (core.Any parts) st h = any_holds_from before parts st h
    holds_from before (core.Not part) st h = from_then before (holds call env part st) _ (holds_from before part st h) (λ p k. record { is = k })

    all_hold_from : (before : List ℤ) (ts : core.Tests) (st : Run L) → Continues before st.printed → PrintsFrom before (all_hold call env ts st)
    all_hold_from before core.NoTest st h = record { is = h }
    all_hold_from before (core.ATest part others) st h =
        from_then before (holds call env part st) _ (holds_from before part st h)
        (λ p k. unless_from before true p.0 (λ st. all_hold call env others st) p.1 k (all_hold_from before others p.1 k))

    any_holds_from : (before : List ℤ) (ts : core.Tests) (st : Run L) → Continues before st.printed → PrintsFrom before (any_holds call env ts st)
    any_holds_from before core.NoTest st h = record { is = h }
    any_holds_from before (core.ATest part others) st h =
        from_then before (holds call env part st) _ (holds_from before part st h)
        (λ p k. unless_from before false p.0 (λ st. any_holds call env others st) p.1 k (any_holds_from before others p.1 k))

-- ---- statements

module _ {L : Type 0} where
  behind_from : (before : List ℤ) (flow : Flow) (f : Env → Run L → Answer L Flow) (st : Run L) → Continues before st.printed → ((env : Env) → PrintsFrom before (f env st))
      → PrintsFrom before (behind flow f st)
  behind_from before (Next env) f st h next = next env
  behind_from before (Gives v) f st h next = record { is = h }

  two_from : (before : List ℤ) (truth : Bool) (f g : Run L → Answer L Flow) (st : Run L) → PrintsFrom before (f st) → PrintsFrom before (g st)
      → PrintsFrom before (one_of_two truth f g st)
  two_from before true f g st on_true on_false = on_true
  two_from before false f g st on_true on_false = on_false

  -- what tests and bodies print
  record TestsFrom (before : List ℤ) (f : Env → Run L → Answer L Bool) : Type 0 where
    by : (env : Env) (st : Run L) → Continues before st.printed → PrintsFrom before (f env st)

  record BodiesFrom (before : List ℤ) (f : ℕ → Env → Run L → Answer L Flow) : Type 0 where
    by : (bound : ℕ) (env : Env) (st : Run L) → Continues before st.printed → PrintsFrom before (f bound env st)

  module _ (before : List ℤ) (test : Env → Run L → Answer L Bool) (inner : ℕ → Env → Run L → Answer L Flow) (tests : TestsFrom before test) (bodies : BodiesFrom before inner) where
    turned_from : (bound : ℕ) (truth : Bool) (env : Env) (st : Run L) → Continues before st.printed
        → ((env : Env) (st : Run L) → Continues before st.printed → PrintsFrom before (turns test inner bound env st))
        → PrintsFrom before (turned truth (inner bound) (turns test inner bound) env st)
    turned_from bound false env st h again = record { is = h }
    turned_from bound true env st h again =
        from_then before (spent st) _ (spent_from before st h)
        (λ p k. from_then before (inner bound env p.1) _ (bodies.by bound env p.1 k) (λ q l. behind_from before q.0 (turns test inner bound) q.1 l (λ env. again env q.1 l)))

    turns_from : (bound : ℕ) (env : Env) (st : Run L) → Continues before st.printed → PrintsFrom before (turns test inner bound env st)
    unfolding turns
    turns_from zero env st h = record { is = h }
    turns_from (suc bound) env st h =
        from_then before (test env st) _ (tests.by env st h) (λ p k. turned_from bound p.0 env p.1 k (λ env st l. turns_from bound env st l))

module _ {L : Type 0} (recorder : Recorder L) (call : Calls L) (calls : CallsPrintOn call) (fun : ℕ) where
  mutual
    unfolding statement

    pub statement_from : (before : List ℤ) (bound : ℕ) (place : Place) (s : core.Stmt) (env : Env) (st : Run L) → Continues before st.printed
        → PrintsFrom before (statement recorder call fun bound place s env st)
    statement_from before bound place (core.Set x e) env st h =
        from_then before (value call env e st) _ (value_from call calls env before e st h)
        (λ p k. from_then before (set_variable env x p.0 p.1) _ (set_from before (nat_lt x (length env)) env x p.0 p.1 k) (λ q l. record { is = l }))
    statement_from before bound place (core.Split xs e at) env st h =
        from_then before (value call env e st) _ (value_from call calls env before e st h)
        (λ p k. from_then before (parts_read (length xs) p.0 p.1) _ (parts_from before (length xs) p.0 p.1 k)
        (λ q l. from_then before (set_all env xs q.0 q.1) _ (set_all_from before env xs q.0 q.1 l) (λ r m. record { is = m })))
    statement_from before bound place (core.Store array index e at) env st h =
        from_then before (value call env array st) _ (value_from call calls env before array st h)
        (λ p k. from_then before (value call env index p.1) _ (value_from call calls env before index p.1 k)
        (λ q l. from_then before (value call env e q.1) _ (value_from call calls env before e q.1 l)
        (λ r m. from_then before (cell_put p.0 q.0 r.0 r.1) _ (cell_put_from before p.0 q.0 r.0 r.1 m) (λ t n. record { is = n }))))
    statement_from before bound place (core.Do e) env st h =
        from_then before (value call env e st) _ (value_from call calls env before e st h) (λ p k. record { is = k })
    statement_from before bound place (core.Print e) env st h =
        from_then before (value call env e st) _ (value_from call calls env before e st h)
        (λ p k. from_then before (number_printed p.0 p.1) _ (printed_from before p.0 p.1 k) (λ q l. record { is = l }))
    statement_from before bound place (core.If test on_true on_false join at) env st h =
        from_then before (holds call env test st) _ (holds_from call calls env before test st h)
        (λ p k. two_from before p.0 (λ st. block recorder call fun bound (0 ∷ place) 0 on_true env st) (λ st. block recorder call fun bound (1 ∷ place) 0 on_false env st) p.1
        (block_from before bound (0 ∷ place) 0 on_true env p.1 k) (block_from before bound (1 ∷ place) 0 on_false env p.1 k))
    statement_from before bound place (core.While test head inner at) env st h =
        turns_from before (λ env st. holds call env test st) (λ bound env st. block recorder call fun bound (0 ∷ place) 0 inner env st)
        (record { by = λ env st k. holds_from call calls env before test st k })
        (record { by = λ bound env st k. block_from before bound (0 ∷ place) 0 inner env st k }) bound env st h
    statement_from before bound place (core.Return None at) env st h = record { is = h }
    statement_from before bound place (core.Return (Some e) at) env st h =
        from_then before (value call env e st) _ (value_from call calls env before e st h) (λ p k. record { is = k })

    pub block_from : (before : List ℤ) (bound : ℕ) (place : Place) (number : ℕ) (ss : core.Stmts) (env : Env) (st : Run L) → Continues before st.printed
        → PrintsFrom before (block recorder call fun bound place number ss env st)
    block_from before bound place number core.NoStmt env st h = record { is = h }
    block_from before bound place number (core.AStmt s ss) env st h =
        from_then before (statement recorder call fun bound (number ∷ place) s env (reached recorder fun (number ∷ place) env st)) _
        (statement_from before bound (number ∷ place) s env (reached recorder fun (number ∷ place) env st) h)
        (λ p k. behind_from before p.0 (λ env st. block recorder call fun bound place (suc number) ss env st) p.1 k (λ env. block_from before bound place (suc number) ss env p.1 k))

-- ---- calls

module _ {L : Type 0} where
  result_from : (before : List ℤ) (flow : Flow) (st : Run L) → Continues before st.printed → PrintsFrom before (result flow st)
  result_from before (Gives v) st h = record { is = h }
  result_from before (Next env) st h = record { is = h }

module _ {L : Type 0} (recorder : Recorder L) where
  body_if_from : (before : List ℤ) (fit : Bool) (call : Calls L) (fun bound : ℕ) (f : core.Fun) (vs : List Value) (st : Run L) → CallsPrintOn call → Continues before st.printed
      → PrintsFrom before (body_if recorder fit call fun bound f vs st)
  body_if_from before true call fun bound f vs st calls h =
      from_then before (block recorder call fun bound [] 0 f.body (env_of f vs) st) _ (block_from recorder call calls fun before bound [] 0 f.body (env_of f vs) st h)
      (λ p k. result_from before p.0 p.1 k)
  body_if_from before false call fun bound f vs st calls h = record { is = h }

  body_from : (before : List ℤ) (call : Calls L) (fun bound : ℕ) (f : core.Fun) (vs : List Value) (st : Run L) → CallsPrintOn call → Continues before st.printed
      → PrintsFrom before (body recorder call fun bound f vs st)
  unfolding body
  body_from before call fun bound f vs st calls h = body_if_from before (length vs == length f.params) call fun bound f vs st calls h

module _ {L : Type 0} (recorder : Recorder L) (funs : List core.Fun) (depth : ℕ) where
  begun_from : (before : List ℤ) (room : Bool) (call : Calls L) (fun bound : ℕ) (f : Option core.Fun) (vs : List Value) (st : Run L) → CallsPrintOn call
      → Continues before st.printed → PrintsFrom before (begun recorder funs depth room call fun bound f vs st)
  begun_from before room call fun bound None vs st calls h = record { is = h }
  begun_from before false call fun bound (Some f) vs st calls h = record { is = h }
  begun_from before true call fun bound (Some f) vs st calls h =
      from_then before (spent st) _ (spent_from before st h) (λ p k. body_from recorder before call fun bound f vs p.1 calls k)

  pub calls_print : (bound live : ℕ) → CallsPrintOn (called recorder funs depth bound live)
  unfolding called
  calls_print zero live = record { by = λ fun vs st. no_more st.printed }
  calls_print (suc bound) live = record {
    by = λ fun vs st. (begun_from st.printed (nat_lt live depth) (called recorder funs depth bound (suc live)) fun bound (slice_get funs fun) vs st (calls_print bound (suc live))
        (no_more st.printed)).is;
  }

-- ---- as the law says it

module _ {L : Type 0} where
  pub call_prints : (recorder : Recorder L) (funs : List core.Fun) (depth bound live fun : ℕ) (vs : List Value) (st : Run L) → PrintsOn st (called recorder funs depth bound live fun vs st)
  call_prints recorder funs depth bound live fun vs st = (calls_print recorder funs depth bound live).by fun vs st

  pub value_prints : (call : Calls L) (env : Env) (e : core.Expr) (st : Run L) → CallsPrintOn call → PrintsOn st (value call env e st)
  value_prints call env e st calls = (value_from call calls env st.printed e st (no_more st.printed)).is

  pub test_prints : (call : Calls L) (env : Env) (test : core.Test) (st : Run L) → CallsPrintOn call → PrintsOn st (holds call env test st)
  test_prints call env test st calls = (holds_from call calls env st.printed test st (no_more st.printed)).is

  pub statement_prints : (recorder : Recorder L) (call : Calls L) (fun bound : ℕ) (place : Place) (s : core.Stmt) (env : Env) (st : Run L) → CallsPrintOn call
      → PrintsOn st (statement recorder call fun bound place s env st)
  statement_prints recorder call fun bound place s env st calls = (statement_from recorder call calls fun st.printed bound place s env st (no_more st.printed)).is

  pub block_prints : (recorder : Recorder L) (call : Calls L) (fun bound : ℕ) (place : Place) (number : ℕ) (ss : core.Stmts) (env : Env) (st : Run L) → CallsPrintOn call
      → PrintsOn st (block recorder call fun bound place number ss env st)
  block_prints recorder call fun bound place number ss env st calls = (block_from recorder call calls fun st.printed bound place number ss env st (no_more st.printed)).is
