-- Two answers that are the same, with no more units left than a number: what laws on bounds carry along a run.
use Rattle.std.proofs.Common.{◌≡◌, ℕ, ◌≤◌, Bool, true, false, List, [], ◌∷◌, Option, Some, None, Ok, Err, refl, subst, arith}
use Rattle.xan_seq.specs.Answers.{◌>>=◌}
use Rattle.operation_rules.specs.Effects.{Effect, Writes, Prints, Takes, Calls as BeginsWith, Gives as GivesWord, Ends}
use Rattle.operation_rules.specs.declared.operation.Operation.{Operation}
use Rattle.xanadu_tree.specs.declared.expr.Rel.{Rel}
use Rattle.xanadu_tree.specs.declared.expr.Rel.TheVariants as rel
use Rattle.typed_core.specs.SourceValues.{Tag, Value, Blocks, have_tags, Number, Truth, Array, Tuple, cell_tag}
use Rattle.typed_core.specs.SourceRuns.{Run, End, Answer, Calls, Env, one_of, all_of, taken, put}
use Rattle.typed_core.specs.SourceOperands.{no_cells, value_if, value_by, read, related}
use Rattle.typed_core.specs.SourceTests.{decided_if, decided}
use Rattle.typed_core.specs.SourceStatements.{set_if, set_variable, set_all, parts_if, parts_read, cell_put_if, cell_put, printed_if, number_printed}

module _ {L : Type 0} where
  -- the units that are left, where it is a value
  abbrev pub units_left : {A : Type 0} → Answer L A → ℕ
  units_left (Ok done) = done.1.units
  units_left (Err end) = 0

  pub record Alike {A : Type 0} (most : ℕ) (a b : Answer L A) : Type 0 where
    pub same : a ≡ b
    pub falls : units_left a ≤ most

  -- calls that do the same where there are no more units
  pub record CallsAlike (most : ℕ) (c d : Calls L) : Type 0 where
    pub by : (m : ℕ) → m ≤ most → (fun : ℕ) (values : List Value) (st : Run L) → st.units ≤ m → Alike m (c fun values st) (d fun values st)

  pub fewer_calls : (most m : ℕ) (c d : Calls L) → m ≤ most → CallsAlike most c d → CallsAlike m c d
  fewer_calls most m c d h calls = record { by = λ n k. calls.by n (omega (arith, h, k)) }

  pub ok_alike : {A : Type 0} (most : ℕ) (x : A) (st : Run L) → st.units ≤ most → Alike most (let a : Answer L A = Ok (x, st) in a) (Ok (x, st))
  ok_alike most x st h = record { same = refl; falls = h }

  pub err_alike : {A : Type 0} (most : ℕ) (end : End L) → Alike most (let a : Answer L A = Err end in a) (Err end)
  err_alike most end = record { same = refl; falls = omega arith }

  pub looser : {A : Type 0} (most m : ℕ) (a b : Answer L A) → m ≤ most → Alike m a b → Alike most a b
  looser most m a b h alike = let k = alike.falls in record { same = alike.same; falls = omega (arith, h, k) }

  pub alike_then : {A B : Type 0} (most : ℕ) (a b : Answer L A) (f g : A × Run L → Answer L B) → Alike most a b
      → ((p : A × Run L) → p.1.units ≤ most → Alike most (f p) (g p)) → Alike most (a >>= f) (b >>= g)
  alike_then most (Ok p) b f g h next = subst (λ b. Alike most (f p) (b >>= g)) h.same (next p h.falls)
  alike_then most (Err end) b f g h next = subst (λ b. Alike most (Err end) (b >>= g)) h.same (err_alike most end)

  -- ---- what the effect of an operation makes of a run takes no unit

  pub one_alike : (most : ℕ) (tag : Tag) (st : Run L) (effect : Effect Blocks) → st.units ≤ most → Alike most (one_of tag st effect) (one_of tag st effect)
  one_alike most tag st (Writes [] store) h = err_alike most _
  one_alike most tag st (Writes (w ∷ []) store) h = ok_alike most _ _ h
  one_alike most tag st (Writes (w ∷ v ∷ ws) store) h = err_alike most _
  one_alike most tag st (Prints n) h = err_alike most _
  one_alike most tag st (Takes b) h = err_alike most _
  one_alike most tag st (BeginsWith fun words) h = err_alike most _
  one_alike most tag st (GivesWord w) h = err_alike most _
  one_alike most tag st (Ends how) h = err_alike most _

  pub all_alike : (most : ℕ) (tags : List Tag) (st : Run L) (effect : Effect Blocks) → st.units ≤ most → Alike most (all_of tags st effect) (all_of tags st effect)
  all_alike most tags st (Writes ws store) h = ok_alike most _ _ h
  all_alike most tags st (Prints n) h = err_alike most _
  all_alike most tags st (Takes b) h = err_alike most _
  all_alike most tags st (BeginsWith fun words) h = err_alike most _
  all_alike most tags st (GivesWord w) h = err_alike most _
  all_alike most tags st (Ends how) h = err_alike most _

  pub taken_alike : (most : ℕ) (st : Run L) (effect : Effect Blocks) → st.units ≤ most → Alike most (taken st effect) (taken st effect)
  taken_alike most st (Writes ws store) h = err_alike most _
  taken_alike most st (Prints n) h = err_alike most _
  taken_alike most st (Takes b) h = ok_alike most _ _ h
  taken_alike most st (BeginsWith fun words) h = err_alike most _
  taken_alike most st (GivesWord w) h = err_alike most _
  taken_alike most st (Ends how) h = err_alike most _

  pub put_alike : (most : ℕ) (st : Run L) (effect : Effect Blocks) → st.units ≤ most → Alike most (put st effect) (put st effect)
  put_alike most st (Writes ws store) h = err_alike most _
  put_alike most st (Prints n) h = ok_alike most _ _ h
  put_alike most st (Takes b) h = err_alike most _
  put_alike most st (BeginsWith fun words) h = err_alike most _
  put_alike most st (GivesWord w) h = err_alike most _
  put_alike most st (Ends how) h = err_alike most _

  -- ---- constructs, after their operands

  pub if_alike : (most : ℕ) (fit : Bool) (cells : ℕ → Tag) (o : Operation) (gives : Tag) (values : List Value) (st : Run L) → st.units ≤ most
      → Alike most (value_if fit cells o gives values st) (value_if fit cells o gives values st)
  if_alike most true cells o gives values st h = one_alike most gives st _ h
  if_alike most false cells o gives values st h = err_alike most _

  pub by_alike : (most : ℕ) (o : Operation) (wants : List Tag) (gives : Tag) (values : List Value) (st : Run L) → st.units ≤ most
      → Alike most (value_by o wants gives values st) (value_by o wants gives values st)
  unfolding value_by
  by_alike most o wants gives values st h = if_alike most (have_tags values wants) no_cells o gives values st h

  pub read_alike : (most : ℕ) (v : Option (Option Value)) (st : Run L) → st.units ≤ most → Alike most (read v st) (read v st)
  read_alike most (Some (Some v)) st h = ok_alike most _ _ h
  read_alike most (Some None) st h = err_alike most _
  read_alike most None st h = err_alike most _

  pub related_alike : (most : ℕ) (r : Rel) (a b : Value) (st : Run L) → st.units ≤ most → Alike most (related r a b st) (related r a b st)
  related_alike most rel.Lt a b st h = by_alike most _ _ _ _ st h
  related_alike most rel.Le a b st h = by_alike most _ _ _ _ st h
  related_alike most rel.Gt a b st h = by_alike most _ _ _ _ st h
  related_alike most rel.Ge a b st h = by_alike most _ _ _ _ st h
  related_alike most rel.Eq a b st h = by_alike most _ _ _ _ st h
  related_alike most rel.Ne a b st h = by_alike most _ _ _ _ st h

  decided_if_alike : (most : ℕ) (fit : Bool) (v : Value) (st : Run L) → st.units ≤ most → Alike most (decided_if fit v st) (decided_if fit v st)
  decided_if_alike most true v st h = taken_alike most st _ h
  decided_if_alike most false v st h = err_alike most _

  pub decided_alike : (most : ℕ) (v : Value) (st : Run L) → st.units ≤ most → Alike most (decided v st) (decided v st)
  unfolding decided
  decided_alike most v st h = decided_if_alike most (have_tags (v ∷ []) (Truth ∷ [])) v st h

  pub set_alike : (most : ℕ) (there : Bool) (env : Env) (x : ℕ) (v : Value) (st : Run L) → st.units ≤ most → Alike most (set_if there env x v st) (set_if there env x v st)
  set_alike most true env x v st h = ok_alike most _ _ h
  set_alike most false env x v st h = err_alike most _

  pub set_all_alike : (most : ℕ) (env : Env) (xs : List ℕ) (vs : List Value) (st : Run L) → st.units ≤ most → Alike most (set_all env xs vs st) (set_all env xs vs st)
  unfolding set_all
  set_all_alike most env [] [] st h = ok_alike most _ _ h
  set_all_alike most env [] (v ∷ vs) st h = err_alike most _
  set_all_alike most env (x ∷ xs) [] st h = err_alike most _
  set_all_alike most env (x ∷ xs) (v ∷ vs) st h =
      alike_then most (set_variable env x v st) (set_variable env x v st) _ _ (set_alike most _ env x v st h) (λ p k. set_all_alike most p.0 xs vs p.1 k)

  parts_if_alike : (most : ℕ) (fit : Bool) (count : ℕ) (v : Value) (st : Run L) → st.units ≤ most → Alike most (parts_if fit count v st) (parts_if fit count v st)
  parts_if_alike most true count v st h = all_alike most _ st _ h
  parts_if_alike most false count v st h = err_alike most _

  pub parts_alike : (most : ℕ) (count : ℕ) (v : Value) (st : Run L) → st.units ≤ most → Alike most (parts_read count v st) (parts_read count v st)
  unfolding parts_read
  parts_alike most count v st h = parts_if_alike most (have_tags (v ∷ []) (Tuple ∷ [])) count v st h

  cell_put_if_alike : (most : ℕ) (fit : Bool) (a i v : Value) (st : Run L) → st.units ≤ most → Alike most (cell_put_if fit a i v st) (cell_put_if fit a i v st)
  cell_put_if_alike most true a i v st h = all_alike most _ st _ h
  cell_put_if_alike most false a i v st h = err_alike most _

  pub cell_put_alike : (most : ℕ) (a i v : Value) (st : Run L) → st.units ≤ most → Alike most (cell_put a i v st) (cell_put a i v st)
  unfolding cell_put
  cell_put_alike most a i v st h = cell_put_if_alike most (have_tags (a ∷ i ∷ v ∷ []) (Array ∷ Number ∷ cell_tag st.store a.word i.word ∷ [])) a i v st h

  printed_if_alike : (most : ℕ) (fit : Bool) (v : Value) (st : Run L) → st.units ≤ most → Alike most (printed_if fit v st) (printed_if fit v st)
  printed_if_alike most true v st h = put_alike most st _ h
  printed_if_alike most false v st h = err_alike most _

  pub printed_alike : (most : ℕ) (v : Value) (st : Run L) → st.units ≤ most → Alike most (number_printed v st) (number_printed v st)
  unfolding number_printed
  printed_alike most v st h = printed_if_alike most (have_tags (v ∷ []) (Number ∷ [])) v st h
