-- Expressions: the code of an expression, from where it stands, comes to the expression's value in its place, or to the same end.
use Rattle.std.proofs.Common.{◌≡◌, ℕ, suc, ◌+◌, ◌<◌, ◌≤◌, ℤ, pos, List, [], ◌∷◌, ◌++◌, length, slice_get, slice_set, Option, Some, None, Ok, refl, sym, ap, subst, arith}
use Rattle.xan_seq.specs.Answers.{◌>>=◌}
use Rattle.operation_rules.specs.FlatWords.{Flat}
use Rattle.three_address.specs.declared.function.LowFun.{LowFun}
use Rattle.three_address.specs.declared.function.TheConstants.{PLACES}
use Rattle.three_address.specs.declared.instruction.LowInstr.{LowInstr}
use Rattle.three_address.specs.declared.instruction.Op22.TheVariants as op22
use Rattle.xanadu_tree.specs.declared.expr.Op.TheVariants as op
use Rattle.xanadu_tree.specs.declared.types.Kind.{Kind}
use Rattle.xanadu_tree.specs.declared.types.Kind.TheVariants as kind
use Rattle.xanadu_tree.specs.KindRules.{Setting, IsSomeLink, HasKind, HaveKinds, AreNumbers}
use Rattle.xanadu_tree.specs.Plain as core
use Rattle.typed_core.specs.Places.{is_put, next_to, behind}
use Rattle.typed_core.specs.SourceOperands.{read, value, values, chained, related, cell_read, measured, tuple_made, array_made, arithmetic, value_by}
use Rattle.typed_core.specs.SourceRuns.{Run, Answer, Env, Calls}
use Rattle.typed_core.specs.SourceValues.{Value, number, have_tags, words_of}
use Rattle.value_lowering.specs.Frames.{temporary, operand_place}
use Rattle.value_lowering.specs.OneInstruction.{unary}
use Rattle.value_lowering.specs.ValueCode.{value_size, operands_size, links_size, value_code, operands_code, links_code, operand_places, operand_at, size_at}
use Rattle.lowering.proofs.CodeSizes.{operand_at_long, operands_long}
use Rattle.lowering_simulation.proofs.CodeStands.{IsCode, Here, Stands, config, stands_front, stands_behind, stands_first, stands_rest, first_place}
use Rattle.lowering_simulation.proofs.ListPlaces.{get_last}
use Rattle.lowering_simulation.proofs.OperandsTaken.{ValueGoes, OperandGoes, operand_goes, two_taken}
use Rattle.lowering_simulation.proofs.RunsAhead.{Config, Comes, Arrives, comes_none, arrives_there, arrives_stuck, arrives_as, arrives_then, arrives_later}
use Rattle.lowering_simulation.proofs.StepsMade.{Valued, AllTaken, CallDone, CallsGo, taken_then, all_taken_then, valued_then}
use Rattle.lowering_simulation.proofs.StoresHold.{StoreHolds, PlacesHold, Keeps, Pending, sizes, keeps_same, keeps_then, keeps_more, pending_more, places_made, places_fewer, places_more, words_read}
use Rattle.lowering_simulation.proofs.ValueSteps.{literal_step, truth_step, move_step, arithmetic_step, related_step, load_step, length_step, tuple_step, array_step}

next_behind : (e : core.Expr) (d : ℕ) → next_to (is_put e) d ≡ behind e d
next_behind (core.Var x) d = refl
next_behind (core.Int n) d = refl
next_behind (core.Bool b) d = refl
next_behind (core.Neg e) d = refl
next_behind (core.Chain first rest) d = refl
next_behind (core.Compare r left right) d = refl
next_behind (core.Index array index a) d = refl
next_behind (core.Len array) d = refl
next_behind (core.Call fun args a) d = refl
next_behind (core.Make number args a) d = refl
next_behind (core.New element len fill a) d = refl

module _ {L : Type 0} (funs : List LowFun) (here : Here) (code : List LowInstr) (is : IsCode funs here.fun code) (base : List ℕ) (limit vars : ℕ) (call : Calls L) (env : Env)
    (bound : ℕ) (calls : CallsGo funs here.depth call (suc (length here.callers)) bound) (few : limit ≤ bound) (set : Setting) (visible : List ℕ) where
  abbrev Goes : core.Expr → Type 0
  Goes e = ValueGoes funs here code is base limit vars call env e

  abbrev pub operand_of : (e : core.Expr) → Goes e → OperandGoes funs here code is base limit vars call env e
  operand_of e goes = operand_goes funs here code is base limit vars call env e goes

  -- a variable goes to another place
  variable_moves : (x : ℕ) (all : Env) (d to at next : ℕ) (st : Run L) (flat : Flat) (regs : List ℤ) → Pending env all vars d → slice_get code at ≡ Some (unary op22.Mv to x)
      → next ≡ suc at → StoreHolds base limit st flat → PlacesHold (sizes st) all regs → (o : Option (Option Value)) → slice_get env x ≡ o
      → Arrives funs st.units (config here st.printed flat at regs) (Valued here base limit all next to) (read o st)
  variable_moves x all d to at next st flat regs pending there n store places None e = arrives_stuck funs st.units _ _ st
  variable_moves x all d to at next st flat regs pending there n store places (Some None) e = arrives_stuck funs st.units _ _ st
  variable_moves x all d to at next st flat regs pending there n store places (Some (Some v)) e =
      subst (λ k. Arrives funs st.units (config here st.printed flat at regs) (Valued here base limit all k to) (Ok (v, st))) (sym n)
      (move_step funs here code is base limit all all at to st flat regs (keeps_same all) store places x v there (pending.variables.by x v e))

  -- behind a call what waits has its words still
  after_call : (all whole : Env) (one : Run L) (regs : List ℤ) (next to : ℕ) (small : to < PLACES) → Keeps all whole → PlacesHold (sizes one) whole regs
      → (v : Value) (st : Run L) (c : Config) → CallDone here base limit (sizes one) regs next to v st c → Valued here base limit all next to v st c
  after_call all whole one regs next to small keeps places v st c r = record {
    flat = r.flat;
    regs = regs;
    word = r.word;
    is = r.is;
    store = r.store;
    places = places_more (sizes one) (sizes st) all regs r.grown (places_fewer (sizes one) all whole regs keeps places);
    fits = r.fits;
    small = small;
  }

  -- the answer of a chain is that of its last operator
  answered : (n : ℕ) (a : Config) (R : Value → Run L → Config → Type 0) (m : Answer L Value) → Arrives funs n a R m → Arrives funs n a R (m >>= λ done. Ok (done.0, done.1))
  answered n a R m first = arrives_then funs n a R R m _ first (λ v st c r. arrives_there funs st.units c R v st c (comes_none funs st.units c) r)

  mutual
    unfolding value HasKind value_code value_size operand_places value_by have_tags words_of

    pub value_goes : (e : core.Expr) (k : Kind) → HasKind set visible e k → Goes e
    value_goes (core.Int n) k h = record {
      by = λ all d to at next st flat regs pending stands n_is store places.
          subst (λ m. Arrives funs st.units (config here st.printed flat at regs) (Valued here base limit all m to) (Ok (number n, st))) (let s : suc at ≡ next = omega (arith, n_is) in s)
          (literal_step funs here code is base limit all all at to st flat regs (keeps_same all) store places n (stands_first code at _ [] stands));
    }
    value_goes (core.Bool b) k h = record {
      by = λ all d to at next st flat regs pending stands n_is store places.
          subst (λ m. Arrives funs st.units (config here st.printed flat at regs) (Valued here base limit all m to) (value call env (core.Bool b) st)) (let s : suc at ≡ next = omega (arith, n_is) in s)
          (truth_step funs here code is base limit all all at to st flat regs (keeps_same all) store places b (stands_first code at _ [] stands));
    }
    value_goes (core.Var x) k h = record {
      by = λ all d to at next st flat regs pending stands n_is store places.
          variable_moves x all d to at next st flat regs pending (stands_first code at _ [] stands) (let s : next ≡ suc at = omega (arith, n_is) in s) store places (slice_get env x) refl;
    }
    value_goes (core.Neg e) k h = record {
      by = λ all d to at next st flat regs pending stands n_is store places.
          let zero_place = temporary vars d in
          let it = (literal_step funs here code is base limit all all at zero_place st flat regs (keeps_same all) store places (pos 0) (stands_first code at _ _ stands)).good (number (pos 0)) st refl in
          let r = it.is in
          let whole = all ++ Some (number (pos 0)) ∷ [] in
          let last : zero_place ≡ length all = sym pending.size in
          let rest = stands_rest code at _ _ stands in
          let long = (operand_at_long vars e (suc d)).is in
          let middle = suc at + size_at e in
          let goes = operand_of e (value_goes e kind.Int h.1) in
          arrives_later funs st.units st.units (config here st.printed flat at regs) it.config (Valued here base limit all next to) _ it.comes
          (subst (λ c. Arrives funs st.units c (Valued here base limit all next to) (value call env (core.Neg e) st)) (sym r.is)
          (taken_then funs here code is base limit st.units _ env whole vars e (suc d) middle (Valued here base limit all next to) _ _
          (goes.by whole (suc d) (suc at) middle st r.flat (slice_set r.regs zero_place r.word) (pending_more env all vars d (number (pos 0)) pending)
          (stands_front code (suc at) (operand_at vars e (suc d)) _ rest) refl r.store (places_made (sizes st) all r.regs zero_place (number (pos 0)) r.word last r.small r.fits r.places))
          (λ v one c q.
          subst (λ m. Arrives funs one.units (config here one.printed q.flat middle q.regs) (Valued here base limit all m to) (arithmetic op.Sub (number (pos 0)) v one))
          (let s : suc middle ≡ next = omega (arith, n_is) in s)
          (arithmetic_step funs here code is base limit all q.whole middle to one q.flat q.regs (keeps_then all whole q.whole (keeps_more all (number (pos 0))) q.keeps) q.store q.places
          op.Sub zero_place (operand_place vars e (suc d)) (number (pos 0)) v
          (stands_first code middle _ [] (stands_behind code (suc at) middle (operand_at vars e (suc d)) _ (ap (λ k. suc at + k) (sym long)) rest))
          (q.keeps.by zero_place (number (pos 0)) (get_last all (Some (number (pos 0))) zero_place last), (q.there, tt))))));
    }
    value_goes (core.Chain first rest) k h = record {
      by = λ all d to at next st flat regs pending stands n_is store places.
          let goes = operand_of first (value_goes first kind.Int h.1) in
          let long = (operand_at_long vars first d).is in
          let middle = at + size_at first in
          taken_then funs here code is base limit st.units _ env all vars first d middle (Valued here base limit all next to) _ _
          (goes.by all d at middle st flat regs pending (stands_front code at (operand_at vars first d) _ stands) refl store places)
          (λ v one c r.
          links_go rest all r.whole (next_to (is_put first) d) (operand_place vars first d) d to middle next one r.flat r.regs v pending
          (subst (λ m. Pending env r.whole vars m) (sym (next_behind first d)) r.pending) r.keeps r.there
          (stands_behind code at middle (operand_at vars first d) _ (ap (λ k. at + k) (sym long)) stands) (let s : next ≡ middle + links_size rest = omega (arith, n_is) in s)
          h.2 h.3 r.store r.places);
    }
    value_goes (core.Compare rel left right) k h = record {
      by = λ all d to at next st flat regs pending stands n_is store places.
          let middle = at + (size_at left + size_at right) in
          two_taken funs here code is base limit vars call env (Valued here base limit all next to) left right all d at middle _ (λ a b two. related rel a b two) st flat regs
          (operand_of left (value_goes left kind.Int h.1)) (operand_of right (value_goes right kind.Int h.2)) pending stands refl store places
          (λ a b two r tail.
          subst (λ m. Arrives funs two.units (config here two.printed r.flat middle r.regs) (Valued here base limit all m to) (related rel a b two))
          (let s : suc middle ≡ next = omega (arith, n_is) in s)
          (related_step funs here code is base limit all r.whole middle to two r.flat r.regs r.keeps r.store r.places rel _ _ a b (stands_first code middle _ [] tail) r.one r.two));
    }
    value_goes (core.Index array index a) k h = record {
      by = λ all d to at next st flat regs pending stands n_is store places.
          let middle = at + (size_at array + size_at index) in
          two_taken funs here code is base limit vars call env (Valued here base limit all next to) array index all d at middle _ (λ a b two. cell_read a b two) st flat regs
          (operand_of array (value_goes array (kind.Array h.0) h.1)) (operand_of index (value_goes index kind.Int h.2)) pending stands refl store places
          (λ a b two r tail.
          subst (λ m. Arrives funs two.units (config here two.printed r.flat middle r.regs) (Valued here base limit all m to) (cell_read a b two))
          (let s : suc middle ≡ next = omega (arith, n_is) in s)
          (load_step funs here code is base limit all r.whole middle to two r.flat r.regs r.keeps r.store r.places _ _ a b (stands_first code middle _ [] tail) (r.one, (r.two, tt))));
    }
    value_goes (core.Len array) k h = record {
      by = λ all d to at next st flat regs pending stands n_is store places.
          let goes = operand_of array (value_goes array (kind.Array h.0) h.2) in
          let long = (operand_at_long vars array d).is in
          let middle = at + size_at array in
          taken_then funs here code is base limit st.units _ env all vars array d middle (Valued here base limit all next to) _ _
          (goes.by all d at middle st flat regs pending (stands_front code at (operand_at vars array d) _ stands) refl store places)
          (λ v one c r.
          subst (λ m. Arrives funs one.units (config here one.printed r.flat middle r.regs) (Valued here base limit all m to) (measured v one))
          (let s : suc middle ≡ next = omega (arith, n_is) in s)
          (length_step funs here code is base limit all r.whole middle to one r.flat r.regs r.keeps r.store r.places _ v
          (stands_first code middle _ [] (stands_behind code at middle (operand_at vars array d) _ (ap (λ k. at + k) (sym long)) stands)) r.there));
    }
    value_goes (core.Call fun args a) k h = record {
      by = λ all d to at next st flat regs pending stands n_is store places.
          let long = (operands_long vars args d).is in
          let middle = at + operands_size args in
          let instr = stands_first code middle _ [] (stands_behind code at middle (operands_code vars args d) _ (ap (λ k. at + k) (sym long)) stands) in
          all_taken_then funs here code is base limit st.units _ env all vars args d middle (Valued here base limit all next to) _ _
          (operands_go args h.0.params h.2 all d at middle st flat regs pending (stands_front code at (operands_code vars args d) _ stands) refl store places)
          (λ vs one c r.
          let read = words_read (sizes one) r.whole r.regs _ vs r.places r.there in
          subst (λ m. Arrives funs one.units (config here one.printed r.flat middle r.regs) (Valued here base limit all m to) (call fun vs one))
          (let s : suc middle ≡ next = omega (arith, n_is) in s)
          (arrives_as funs one.units _ _ _ _ (after_call all r.whole one r.regs (suc middle) to (first_place funs here code is r.flat middle r.regs _ to _ instr refl) r.keeps r.places)
          (calls.by here refl refl code is base limit middle to _ fun vs one r.flat r.regs read.words instr read.there read.fit r.store few r.places.room)));
    }
    value_goes (core.Make t args a) k h = record {
      by = λ all d to at next st flat regs pending stands n_is store places.
          let long = (operands_long vars args d).is in
          let middle = at + operands_size args in
          all_taken_then funs here code is base limit st.units _ env all vars args d middle (Valued here base limit all next to) _ _
          (operands_go args _ h.2 all d at middle st flat regs pending (stands_front code at (operands_code vars args d) _ stands) refl store places)
          (λ vs one c r.
          subst (λ m. Arrives funs one.units (config here one.printed r.flat middle r.regs) (Valued here base limit all m to) (tuple_made t vs one))
          (let s : suc middle ≡ next = omega (arith, n_is) in s)
          (tuple_step funs here code is base limit all r.whole middle to one r.flat r.regs r.keeps r.store r.places t _ vs
          (stands_first code middle _ [] (stands_behind code at middle (operands_code vars args d) _ (ap (λ k. at + k) (sym long)) stands)) r.there));
    }
    value_goes (core.New element len fill a) k h = record {
      by = λ all d to at next st flat regs pending stands n_is store places.
          let middle = at + (size_at len + size_at fill) in
          two_taken funs here code is base limit vars call env (Valued here base limit all next to) len fill all d at middle _ (λ a b two. array_made element a b two) st flat regs
          (operand_of len (value_goes len kind.Int h.2)) (operand_of fill (value_goes fill h.0 h.4)) pending stands refl store places
          (λ a b two r tail.
          subst (λ m. Arrives funs two.units (config here two.printed r.flat middle r.regs) (Valued here base limit all m to) (array_made element a b two))
          (let s : suc middle ≡ next = omega (arith, n_is) in s)
          (array_step funs here code is base limit all r.whole middle to two r.flat r.regs r.keeps r.store r.places element _ _ a b (stands_first code middle _ [] tail) (r.one, (r.two, tt))));
    }

    operands_go : (es : core.Exprs) (ks : List Kind) → HaveKinds set visible es ks → (all : Env) (d at next : ℕ) (st : Run L) (flat : Flat) (regs : List ℤ) → Pending env all vars d
        → Stands code at (operands_code vars es d) → next ≡ at + operands_size es → StoreHolds base limit st flat → PlacesHold (sizes st) all regs
        → Arrives funs st.units (config here st.printed flat at regs) (AllTaken here base limit env all vars es d next) (values call env es st)
    operands_go core.NoExpr ks h all d at next st flat regs pending stands n_is store places =
        let same : at ≡ next = omega (arith, n_is) in
        arrives_there funs st.units _ _ [] st (config here st.printed flat next regs)
        (subst (λ m. Comes funs st.units st.units (config here st.printed flat at regs) (config here st.printed flat m regs)) same (comes_none funs st.units _))
        (record { flat = flat; regs = regs; whole = all; is = refl; store = store; places = places; there = tt; keeps = keeps_same all })
    operands_go (core.AnExpr e es) [] h all d at next st flat regs pending stands n_is store places = absurd h
    operands_go (core.AnExpr e es) (k ∷ ks) h all d at next st flat regs pending stands n_is store places =
        let goes = operand_of e (value_goes e k h.0) in
        let long = (operand_at_long vars e d).is in
        let middle = at + size_at e in
        taken_then funs here code is base limit st.units _ env all vars e d middle (AllTaken here base limit env all vars (core.AnExpr e es) d next) _ _
        (goes.by all d at middle st flat regs pending (stands_front code at (operand_at vars e d) _ stands) refl store places)
        (λ v one c r.
        all_taken_then funs here code is base limit one.units _ env r.whole vars es (behind e d) next (AllTaken here base limit env all vars (core.AnExpr e es) d next) _ _
        (operands_go es ks h.1 r.whole (behind e d) middle next one r.flat r.regs r.pending
        (stands_behind code at middle (operand_at vars e d) _ (ap (λ k. at + k) (sym long)) stands) (omega (arith, n_is)) r.store r.places)
        (λ vs two f q.
        arrives_there funs two.units _ _ (v ∷ vs) two (config here two.printed q.flat next q.regs) (comes_none funs two.units _)
        (record {
          flat = q.flat;
          regs = q.regs;
          whole = q.whole;
          is = refl;
          store = q.store;
          places = q.places;
          there = (q.keeps.by _ v r.there, q.there);
          keeps = keeps_then all r.whole q.whole r.keeps q.keeps;
        })))

    -- the operators of a chain, whose left side has its value in a place
    links_go : (links : core.Links) (all whole : Env) (behind_left left d to at next : ℕ) (st : Run L) (flat : Flat) (regs : List ℤ) (v : Value) → Pending env all vars d
        → Pending env whole vars behind_left → Keeps all whole → slice_get whole left ≡ Some (Some v) → Stands code at (links_code vars links behind_left left d to)
        → next ≡ at + links_size links → IsSomeLink links → AreNumbers set visible links → StoreHolds base limit st flat → PlacesHold (sizes st) whole regs
        → Arrives funs st.units (config here st.printed flat at regs) (Valued here base limit all next to) (chained call env links v st)
    links_go core.NoLink all whole behind_left left d to at next st flat regs v pending more keeps there stands n_is some h store places = absurd some
    links_go (core.ALink o e a core.NoLink) all whole behind_left left d to at next st flat regs v pending more keeps there stands n_is some h store places =
        let goes = operand_of e (value_goes e kind.Int h.0) in
        let long = (operand_at_long vars e behind_left).is in
        let middle = at + size_at e in
        taken_then funs here code is base limit st.units _ env whole vars e behind_left middle (Valued here base limit all next to) _ _
        (goes.by whole behind_left at middle st flat regs more (stands_front code at (operand_at vars e behind_left) _ stands) refl store places)
        (λ w one c r.
        subst (λ m. Arrives funs one.units (config here one.printed r.flat middle r.regs) (Valued here base limit all m to) (arithmetic o v w one >>= λ done. Ok (done.0, done.1)))
        (let s : suc middle ≡ next = omega (arith, n_is) in s)
        (answered one.units _ _ _
        (arithmetic_step funs here code is base limit all r.whole middle to one r.flat r.regs (keeps_then all whole r.whole keeps r.keeps) r.store r.places o left _ v w
        (stands_first code middle _ _ (stands_behind code at middle (operand_at vars e behind_left) _ (ap (λ k. at + k) (sym long)) stands))
        (r.keeps.by left v there, (r.there, tt)))))
    links_go (core.ALink o e a (core.ALink o2 e2 a2 others)) all whole behind_left left d to at next st flat regs v pending more keeps there stands n_is some h store places =
        let goes = operand_of e (value_goes e kind.Int h.0) in
        let long = (operand_at_long vars e behind_left).is in
        let middle = at + size_at e in
        let tail = stands_behind code at middle (operand_at vars e behind_left) _ (ap (λ k. at + k) (sym long)) stands in
        let last : temporary vars d ≡ length all = sym pending.size in
        taken_then funs here code is base limit st.units _ env whole vars e behind_left middle (Valued here base limit all next to) _ _
        (goes.by whole behind_left at middle st flat regs more (stands_front code at (operand_at vars e behind_left) _ stands) refl store places)
        (λ w one c r.
        valued_then funs here code is base limit one.units _ all (suc middle) (temporary vars d) (Valued here base limit all next to) _ _
        (arithmetic_step funs here code is base limit all r.whole middle (temporary vars d) one r.flat r.regs (keeps_then all whole r.whole keeps r.keeps) r.store r.places o left _ v w
        (stands_first code middle _ _ tail) (r.keeps.by left v there, (r.there, tt)))
        (λ x two f q.
        links_go (core.ALink o2 e2 a2 others) all (all ++ Some x ∷ []) (suc d) (temporary vars d) d to (suc middle) next two q.flat (slice_set q.regs (temporary vars d) q.word) x pending
        (pending_more env all vars d x pending) (keeps_more all x) (get_last all (Some x) (temporary vars d) last) (stands_rest code middle _ _ tail) (omega (arith, n_is))
        tt h.1 q.store (places_made (sizes two) all q.regs (temporary vars d) x q.word last q.small q.fits q.places)))
