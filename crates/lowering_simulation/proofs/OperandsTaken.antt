-- Operands in order: a variable stays in its place, and any other operand comes into a temporary behind all that waits.
use Rattle.std.proofs.Common.{◌≡◌, ◌∙◌, ℕ, suc, ◌+◌, ℤ, List, [], ◌∷◌, ◌++◌, length, slice_get, slice_set, Option, Some, None, refl, sym, ap, subst, arith}
use Rattle.xan_seq.specs.Answers.{◌>>=◌}
use Rattle.operation_rules.specs.FlatWords.{Flat}
use Rattle.three_address.specs.declared.function.LowFun.{LowFun}
use Rattle.three_address.specs.declared.instruction.LowInstr.{LowInstr}
use Rattle.xanadu_tree.specs.Plain as core
use Rattle.typed_core.specs.Places.{behind}
use Rattle.typed_core.specs.SourceOperands.{read, value}
use Rattle.typed_core.specs.SourceRuns.{Run, Answer, Env, Calls}
use Rattle.typed_core.specs.SourceValues.{Value}
use Rattle.value_lowering.specs.Frames.{temporary, operand_place}
use Rattle.value_lowering.specs.ValueCode.{value_size, value_code, operand_at, size_at}
use Rattle.lowering.proofs.CodeSizes.{operand_at_long}
use Rattle.lowering_simulation.proofs.CodeStands.{IsCode, Here, Stands, config, stands_front, stands_behind}
use Rattle.lowering_simulation.proofs.ListPlaces.{get_last}
use Rattle.lowering_simulation.proofs.RunsAhead.{Config, Arrives, comes_none, arrives_there, arrives_stuck, arrives_as}
use Rattle.lowering_simulation.proofs.StepsMade.{Valued, Taken, taken_then}
use Rattle.lowering_simulation.proofs.StoresHold.{StoreHolds, PlacesHold, Keeps, Pending, sizes, keeps_same, keeps_then, keeps_more, pending_more, places_made}

module _ {L : Type 0} (funs : List LowFun) (here : Here) (code : List LowInstr) (is : IsCode funs here.fun code) (base : List ℕ) (limit vars : ℕ) (call : Calls L) (env : Env) where
  -- An expression and its code, into any place, with whatever waits.
  pub record ValueGoes (e : core.Expr) : Type 0 where
    pub by : (all : Env) (d to at next : ℕ) (st : Run L) (flat : Flat) (regs : List ℤ) → Pending env all vars d → Stands code at (value_code vars e d to)
        → next ≡ at + value_size e → StoreHolds base limit st flat → PlacesHold (sizes st) all regs
        → Arrives funs st.units (config here st.printed flat at regs) (Valued here base limit all next to) (value call env e st)

  -- An operand.
  pub record OperandGoes (e : core.Expr) : Type 0 where
    pub by : (all : Env) (d at next : ℕ) (st : Run L) (flat : Flat) (regs : List ℤ) → Pending env all vars d → Stands code at (operand_at vars e d)
        → next ≡ at + size_at e → StoreHolds base limit st flat → PlacesHold (sizes st) all regs
        → Arrives funs st.units (config here st.printed flat at regs) (Taken here base limit env all vars e d next) (value call env e st)

  -- a value that has come to the temporary behind all
  put_there : (e : core.Expr) (all : Env) (d next : ℕ) → behind e d ≡ suc d → operand_place vars e d ≡ temporary vars d → Pending env all vars d
      → (v : Value) (st : Run L) (c : Config) → Valued here base limit all next (temporary vars d) v st c → Taken here base limit env all vars e d next v st c
  put_there e all d next deeper place pending v st c r =
      let last : temporary vars d ≡ length all = sym pending.size in
      record {
        flat = r.flat;
        regs = slice_set r.regs (temporary vars d) r.word;
        whole = all ++ Some v ∷ [];
        is = r.is;
        store = r.store;
        places = places_made (sizes st) all r.regs (temporary vars d) v r.word last r.small r.fits r.places;
        pending = subst (λ n. Pending env (all ++ Some v ∷ []) vars n) (sym deeper) (pending_more env all vars d v pending);
        there = ap (slice_get (all ++ Some v ∷ [])) place ∙ get_last all (Some v) (temporary vars d) last;
        keeps = keeps_more all v;
      }

  made_goes : (e : core.Expr) → ((d : ℕ) → operand_at vars e d ≡ value_code vars e d (temporary vars d)) → size_at e ≡ value_size e
      → ((d : ℕ) → behind e d ≡ suc d) → ((d : ℕ) → operand_place vars e d ≡ temporary vars d) → ValueGoes e → OperandGoes e
  made_goes e same long deeper place goes = record {
    by = λ all d at next st flat regs pending stands n store places.
        arrives_as funs st.units _ _ _ _ (put_there e all d next (deeper d) (place d) pending)
        (goes.by all d (temporary vars d) at next st flat regs pending (subst (λ piece. Stands code at piece) (same d) stands) (n ∙ ap (λ k. at + k) long) store places);
  }

  variable_taken : (x : ℕ) (all : Env) (d next : ℕ) (st : Run L) (flat : Flat) (regs : List ℤ) → Pending env all vars d → StoreHolds base limit st flat
      → PlacesHold (sizes st) all regs → (o : Option (Option Value)) → slice_get env x ≡ o
      → Arrives funs st.units (config here st.printed flat next regs) (Taken here base limit env all vars (core.Var x) d next) (read o st)
  variable_taken x all d next st flat regs pending store places None e = arrives_stuck funs st.units _ _ st
  variable_taken x all d next st flat regs pending store places (Some None) e = arrives_stuck funs st.units _ _ st
  variable_taken x all d next st flat regs pending store places (Some (Some v)) e =
      arrives_there funs st.units _ _ v st (config here st.printed flat next regs) (comes_none funs st.units _)
      (record {
        flat = flat;
        regs = regs;
        whole = all;
        is = refl;
        store = store;
        places = places;
        pending = pending;
        there = pending.variables.by x v e;
        keeps = keeps_same all;
      })

  variable_goes : (x : ℕ) → OperandGoes (core.Var x)
  unfolding value
  variable_goes x = record {
    by = λ all d at next st flat regs pending stands n store places.
        let same : at ≡ next = omega (arith, n) in
        subst (λ k. Arrives funs st.units (config here st.printed flat k regs) (Taken here base limit env all vars (core.Var x) d next) (read (slice_get env x) st)) (sym same)
        (variable_taken x all d next st flat regs pending store places (slice_get env x) refl);
  }

  pub operand_goes : (e : core.Expr) → ValueGoes e → OperandGoes e
  operand_goes (core.Var x) goes = variable_goes x
  operand_goes (core.Int n) goes = made_goes (core.Int n) (λ d. refl) refl (λ d. refl) (λ d. refl) goes
  operand_goes (core.Bool b) goes = made_goes (core.Bool b) (λ d. refl) refl (λ d. refl) (λ d. refl) goes
  operand_goes (core.Neg e) goes = made_goes (core.Neg e) (λ d. refl) refl (λ d. refl) (λ d. refl) goes
  operand_goes (core.Chain first rest) goes = made_goes (core.Chain first rest) (λ d. refl) refl (λ d. refl) (λ d. refl) goes
  operand_goes (core.Compare r left right) goes = made_goes (core.Compare r left right) (λ d. refl) refl (λ d. refl) (λ d. refl) goes
  operand_goes (core.Index array index a) goes = made_goes (core.Index array index a) (λ d. refl) refl (λ d. refl) (λ d. refl) goes
  operand_goes (core.Len array) goes = made_goes (core.Len array) (λ d. refl) refl (λ d. refl) (λ d. refl) goes
  operand_goes (core.Call fun args a) goes = made_goes (core.Call fun args a) (λ d. refl) refl (λ d. refl) (λ d. refl) goes
  operand_goes (core.Make number args a) goes = made_goes (core.Make number args a) (λ d. refl) refl (λ d. refl) (λ d. refl) goes
  operand_goes (core.New element len fill a) goes = made_goes (core.New element len fill a) (λ d. refl) refl (λ d. refl) (λ d. refl) goes

  -- ---- two operands

  pub record TwoTaken (all : Env) (left right : core.Expr) (d : ℕ) (a b : Value) (st : Run L) : Type 0 where
    pub flat : Flat
    pub regs : List ℤ
    pub whole : Env
    pub store : StoreHolds base limit st flat
    pub places : PlacesHold (sizes st) whole regs
    pub pending : Pending env whole vars (behind right (behind left d))
    pub one : slice_get whole (operand_place vars left d) ≡ Some (Some a)
    pub two : slice_get whole (operand_place vars right (behind left d)) ≡ Some (Some b)
    pub keeps : Keeps all whole

  pub two_taken : {B : Type 0} (S : B → Run L → Config → Type 0) (left right : core.Expr) (all : Env) (d at next : ℕ) (tail : List LowInstr)
      (more : Value → Value → Run L → Answer L B) (st : Run L) (flat : Flat) (regs : List ℤ) → OperandGoes left → OperandGoes right → Pending env all vars d
      → Stands code at (operand_at vars left d ++ (operand_at vars right (behind left d) ++ tail)) → next ≡ at + (size_at left + size_at right)
      → StoreHolds base limit st flat → PlacesHold (sizes st) all regs
      → ((a b : Value) (st : Run L) (r : TwoTaken all left right d a b st) → Stands code next tail
      → Arrives funs st.units (config here st.printed r.flat next r.regs) S (more a b st))
      → Arrives funs st.units (config here st.printed flat at regs) S (do
        (a, one) ← value call env left st
        (b, two) ← value call env right one
        more a b two)
  two_taken S left right all d at next tail more st flat regs goes_left goes_right pending stands n store places last =
      let middle = at + size_at left in
      let long_left = (operand_at_long vars left d).is in
      let long_right = (operand_at_long vars right (behind left d)).is in
      let behind_left = stands_behind code at middle (operand_at vars left d) _ (ap (λ k. at + k) (sym long_left)) stands in
      let behind_right = stands_behind code middle next (operand_at vars right (behind left d)) tail (omega (arith, n, long_right)) behind_left in
      taken_then funs here code is base limit st.units _ env all vars left d middle S _ _
      (goes_left.by all d at middle st flat regs pending (stands_front code at (operand_at vars left d) _ stands) refl store places)
      (λ a one c r.
      taken_then funs here code is base limit one.units _ env r.whole vars right (behind left d) next S _ _
      (goes_right.by r.whole (behind left d) middle next one r.flat r.regs r.pending (stands_front code middle (operand_at vars right (behind left d)) tail behind_left)
      (omega (arith, n)) r.store r.places)
      (λ b two e q.
      last a b two
      (record {
        flat = q.flat;
        regs = q.regs;
        whole = q.whole;
        store = q.store;
        places = q.places;
        pending = q.pending;
        one = q.keeps.by _ a r.there;
        two = q.there;
        keeps = keeps_then all r.whole q.whole r.keeps q.keeps;
      }) behind_right))
