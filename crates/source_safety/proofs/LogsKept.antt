-- What holds of a log: what operations do records nothing.
use Rattle.std.proofs.Common.{ℕ, zero, suc, Bool as Truth, true, false, List, [], ◌∷◌, length, nat_lt, Option, Some, None, Ok, Err}
use Rattle.xan_seq.specs.Answers.{◌>>=◌}
use Rattle.operation_rules.specs.Effects.{Effect, Writes, Prints, Takes, Calls as BeginsWith, Gives as GivesWord, Ends}
use Rattle.operation_rules.specs.declared.operation.Operation.{Operation}
use Rattle.xanadu_tree.specs.declared.expr.Rel.{Rel}
use Rattle.xanadu_tree.specs.declared.expr.Rel.TheVariants as rel
use Rattle.typed_core.specs.SourceOperands.{no_cells, value_if, value_by, read, related}
use Rattle.typed_core.specs.SourceRuns.{Run, Answer, Env, one_of, all_of, taken, put, units_taken, spent}
use Rattle.typed_core.specs.SourceStatements.{set_if, set_variable, set_all, parts_if, parts_read, cell_put_if, cell_put, printed_if, number_printed}
use Rattle.typed_core.specs.SourceTests.{decided_if, decided}
use Rattle.typed_core.specs.SourceValues.{Tag, Number, Truth as Flag, Array, Tuple, Value, Blocks, have_tags, cell_tag}
use Rattle.source_safety.specs.Recorded.{log_of}
use Rattle.source_safety.specs.Standing.{Fares}

-- this holds of the log of an answer
pub record Logs {L A : Type 0} (K : L → Type 0) (answer : Answer L A) : Type 0 where
  pub is : K (log_of answer)

module _ {L A B : Type 0} {K : L → Type 0} {P : A → Run L → Type 0} where
  -- behind a part that goes well
  pub logs_then : (m : Answer L A) (next : A × Run L → Answer L B) → Fares P m → Logs K m → ((done : A × Run L) → P done.0 done.1 → K done.1.log → Logs K (next done)) → Logs K (m >>= next)
  logs_then (Ok done) next fares logs later = later done fares.is logs.is
  logs_then (Err end) next fares logs later = record { is = logs.is }

module _ {L A B : Type 0} {K : L → Type 0} where
  pub logs_next : (m : Answer L A) (next : A × Run L → Answer L B) → Logs K m → ((done : A × Run L) → K done.1.log → Logs K (next done)) → Logs K (m >>= next)
  logs_next (Ok done) next logs later = later done logs.is
  logs_next (Err end) next logs later = record { is = logs.is }

module _ {L : Type 0} (K : L → Type 0) where
  -- ---- what the effect of an operation makes of a run

  pub one_logs : (tag : Tag) (st : Run L) (effect : Effect Blocks) → K st.log → Logs K (one_of tag st effect)
  one_logs tag st (Writes [] store) k = record { is = k }
  one_logs tag st (Writes (w ∷ []) store) k = record { is = k }
  one_logs tag st (Writes (w ∷ v ∷ ws) store) k = record { is = k }
  one_logs tag st (Prints n) k = record { is = k }
  one_logs tag st (Takes b) k = record { is = k }
  one_logs tag st (BeginsWith fun words) k = record { is = k }
  one_logs tag st (GivesWord w) k = record { is = k }
  one_logs tag st (Ends how) k = record { is = k }

  all_logs : (tags : List Tag) (st : Run L) (effect : Effect Blocks) → K st.log → Logs K (all_of tags st effect)
  all_logs tags st (Writes ws store) k = record { is = k }
  all_logs tags st (Prints n) k = record { is = k }
  all_logs tags st (Takes b) k = record { is = k }
  all_logs tags st (BeginsWith fun words) k = record { is = k }
  all_logs tags st (GivesWord w) k = record { is = k }
  all_logs tags st (Ends how) k = record { is = k }

  taken_logs : (st : Run L) (effect : Effect Blocks) → K st.log → Logs K (taken st effect)
  taken_logs st (Writes ws store) k = record { is = k }
  taken_logs st (Prints n) k = record { is = k }
  taken_logs st (Takes b) k = record { is = k }
  taken_logs st (BeginsWith fun words) k = record { is = k }
  taken_logs st (GivesWord w) k = record { is = k }
  taken_logs st (Ends how) k = record { is = k }

  put_logs : (st : Run L) (effect : Effect Blocks) → K st.log → Logs K (put st effect)
  put_logs st (Writes ws store) k = record { is = k }
  put_logs st (Prints n) k = record { is = k }
  put_logs st (Takes b) k = record { is = k }
  put_logs st (BeginsWith fun words) k = record { is = k }
  put_logs st (GivesWord w) k = record { is = k }
  put_logs st (Ends how) k = record { is = k }

  -- ---- constructs, after their operands

  pub if_logs : (fit : Truth) (cells : ℕ → Tag) (o : Operation) (gives : Tag) (vs : List Value) (st : Run L) → K st.log → Logs K (value_if fit cells o gives vs st)
  if_logs true cells o gives vs st k = one_logs gives st _ k
  if_logs false cells o gives vs st k = record { is = k }

  pub by_logs : (o : Operation) (wants : List Tag) (gives : Tag) (vs : List Value) (st : Run L) → K st.log → Logs K (value_by o wants gives vs st)
  unfolding value_by
  by_logs o wants gives vs st k = if_logs (have_tags vs wants) no_cells o gives vs st k

  pub read_logs : (v : Option (Option Value)) (st : Run L) → K st.log → Logs K (read v st)
  read_logs (Some (Some v)) st k = record { is = k }
  read_logs (Some None) st k = record { is = k }
  read_logs None st k = record { is = k }

  pub related_logs : (r : Rel) (a b : Value) (st : Run L) → K st.log → Logs K (related r a b st)
  related_logs rel.Lt a b st k = by_logs _ _ _ _ st k
  related_logs rel.Le a b st k = by_logs _ _ _ _ st k
  related_logs rel.Gt a b st k = by_logs _ _ _ _ st k
  related_logs rel.Ge a b st k = by_logs _ _ _ _ st k
  related_logs rel.Eq a b st k = by_logs _ _ _ _ st k
  related_logs rel.Ne a b st k = by_logs _ _ _ _ st k

  decided_if_logs : (fit : Truth) (v : Value) (st : Run L) → K st.log → Logs K (decided_if fit v st)
  decided_if_logs true v st k = taken_logs st _ k
  decided_if_logs false v st k = record { is = k }

  pub decided_logs : (v : Value) (st : Run L) → K st.log → Logs K (decided v st)
  unfolding decided
  decided_logs v st k = decided_if_logs (have_tags (v ∷ []) (Flag ∷ [])) v st k

  set_if_logs : (there : Truth) (env : Env) (x : ℕ) (v : Value) (st : Run L) → K st.log → Logs K (set_if there env x v st)
  set_if_logs true env x v st k = record { is = k }
  set_if_logs false env x v st k = record { is = k }

  pub set_logs : (env : Env) (x : ℕ) (v : Value) (st : Run L) → K st.log → Logs K (set_variable env x v st)
  set_logs env x v st k = set_if_logs (nat_lt x (length env)) env x v st k

  pub set_all_logs : (env : Env) (xs : List ℕ) (vs : List Value) (st : Run L) → K st.log → Logs K (set_all env xs vs st)
  unfolding set_all
  set_all_logs env [] [] st k = record { is = k }
  set_all_logs env [] (v ∷ vs) st k = record { is = k }
  set_all_logs env (x ∷ xs) [] st k = record { is = k }
  set_all_logs env (x ∷ xs) (v ∷ vs) st k = logs_next (set_variable env x v st) _ (set_logs env x v st k) (λ p l. set_all_logs p.0 xs vs p.1 l)

  parts_if_logs : (fit : Truth) (count : ℕ) (v : Value) (st : Run L) → K st.log → Logs K (parts_if fit count v st)
  parts_if_logs true count v st k = all_logs _ st _ k
  parts_if_logs false count v st k = record { is = k }

  pub parts_logs : (count : ℕ) (v : Value) (st : Run L) → K st.log → Logs K (parts_read count v st)
  unfolding parts_read
  parts_logs count v st k = parts_if_logs (have_tags (v ∷ []) (Tuple ∷ [])) count v st k

  cell_put_if_logs : (fit : Truth) (a i v : Value) (st : Run L) → K st.log → Logs K (cell_put_if fit a i v st)
  cell_put_if_logs true a i v st k = all_logs _ st _ k
  cell_put_if_logs false a i v st k = record { is = k }

  pub cell_put_logs : (a i v : Value) (st : Run L) → K st.log → Logs K (cell_put a i v st)
  unfolding cell_put
  cell_put_logs a i v st k = cell_put_if_logs (have_tags (a ∷ i ∷ v ∷ []) (Array ∷ Number ∷ cell_tag st.store a.word i.word ∷ [])) a i v st k

  printed_if_logs : (fit : Truth) (v : Value) (st : Run L) → K st.log → Logs K (printed_if fit v st)
  printed_if_logs true v st k = put_logs st _ k
  printed_if_logs false v st k = record { is = k }

  pub printed_logs : (v : Value) (st : Run L) → K st.log → Logs K (number_printed v st)
  unfolding number_printed
  printed_logs v st k = printed_if_logs (have_tags (v ∷ []) (Number ∷ [])) v st k

-- ---- units

module _ {L B : Type 0} (K : L → Type 0) where
  taken_then : (n : ℕ) (st : Run L) (next : Unit {0} × Run L → Answer L B) → K st.log → ((units : ℕ) → Logs K (next (tt, record st { units = units }))) → Logs K (units_taken n st >>= next)
  taken_then zero st next k later = record { is = k }
  taken_then (suc n) st next k later = later n

  pub paid_logs : (st : Run L) (next : Unit {0} × Run L → Answer L B) → K st.log → ((units : ℕ) → Logs K (next (tt, record st { units = units }))) → Logs K (spent st >>= next)
  unfolding spent
  paid_logs st next k later = taken_then st.units st next k later
