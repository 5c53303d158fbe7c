-- Tests: the code of a test goes where the test leads, or comes to the same end.
use Rattle.std.proofs.Common.{◌≡◌, ◌⊎◌, inl, inr, ◌∙◌, ℕ, suc, ◌+◌, ◌≤◌, ℤ, List, [], ◌∷◌, ◌++◌, length, slice_get, Bool as Flag, true, false, not, Some, Ok, Err, refl, sym, ap, subst, arith}
use Rattle.xan_seq.specs.Answers.{◌>>=◌}
use Rattle.operation_rules.specs.FlatWords.{Flat}
use Rattle.three_address.specs.declared.function.LowFun.{LowFun}
use Rattle.three_address.specs.declared.instruction.LowInstr.{LowInstr}
use Rattle.xanadu_tree.specs.declared.types.Kind.{Kind}
use Rattle.xanadu_tree.specs.declared.types.Kind.TheVariants as kind
use Rattle.xanadu_tree.specs.KindRules.{Setting, HasKind, AreSeveral, IsTest, AreTests}
use Rattle.xanadu_tree.specs.Plain as core
use Rattle.typed_core.specs.SourceOperands.{value, related}
use Rattle.typed_core.specs.SourceRuns.{Run, Answer, Env, Calls}
use Rattle.typed_core.specs.SourceTests.{decided, unless, holds, all_hold, any_holds}
use Rattle.value_lowering.specs.Frames.{operand_place}
use Rattle.value_lowering.specs.OneInstruction.{Aim, truth_branch, jump, jump_if, one_if}
use Rattle.lowering.specs.TestCode.{leaf_size, leaf_code, inner_on, inner_to, inner_aim, turned, past_parts, test_size, parts_size, test_code, parts_code}
use Rattle.value_lowering.specs.ValueCode.{operand_at, size_at}
use Rattle.lowering.proofs.CodeSizes.{operand_at_long, test_long, parts_long}
use Rattle.lowering_simulation.proofs.BranchSteps.{goes_to, goes_turned, Tested, jump_comes, compared_branch, truth_branched}
use Rattle.lowering_simulation.proofs.CodeStands.{IsCode, Here, Stands, config, stands_front, stands_behind, stands_first}
use Rattle.lowering_simulation.proofs.OperandsTaken.{ValueGoes, two_taken}
use Rattle.lowering_simulation.proofs.RunsAhead.{Config, Arrived, Arrives, comes_none, arrives_there, arrives_then, arrives_on}
use Rattle.lowering_simulation.proofs.StepsMade.{CallsGo, comes_free, taken_then}
use Rattle.lowering_simulation.proofs.StoresHold.{StoreHolds, PlacesHold, Pending, sizes, keeps_same, places_fewer}
use Rattle.lowering_simulation.proofs.ValuesArrive.{value_goes, operand_of}

-- ---- what is grouped otherwise

module _ {L A B C : Type 0} where
  one_bind : (m : Answer L A) (f : A × Run L → Answer L B) (g : B × Run L → Answer L C) → ((m >>= f) >>= g) ≡ (m >>= λ x. f x >>= g)
  one_bind (Ok x) f g = refl
  one_bind (Err e) f g = refl

two_binds : {L A B C D : Type 0} (m : Answer L A) (n : A × Run L → Answer L B) (k : A × Run L → B × Run L → Answer L C) (g : C × Run L → Answer L D)
    → ((m >>= λ p. n p >>= k p) >>= g) ≡ (m >>= λ p. n p >>= λ q. k p q >>= g)
two_binds (Ok p) n k g = one_bind (n p) (k p) g
two_binds (Err e) n k g = refl

abbrev IsSome : core.Tests → Type 0
IsSome core.NoTest = ⊥
IsSome (core.ATest t ts) = Unit {0}

several_some : (ts : core.Tests) → AreSeveral ts → IsSome ts
several_some core.NoTest h = absurd h
several_some (core.ATest t core.NoTest) h = absurd h
several_some (core.ATest t (core.ATest u ts)) h = tt

-- a part has the aim that decides
all_inner : (on : Flag) → inner_on on on ≡ false
all_inner true = refl
all_inner false = refl

any_inner : (on : Flag) → inner_on (not on) on ≡ true
any_inner true = refl
any_inner false = refl

any_crossed : (on : Flag) → not on ≡ true → on ≡ not true
any_crossed true e = cc
any_crossed false e = refl

any_straight : (on : Flag) → not on ≡ false → on ≡ true
any_straight true e = refl
any_straight false e = cc

-- ---- parts

module _ {L : Type 0} (here : Here) (base : List ℕ) (limit : ℕ) where
  -- A part was what decides, and led elsewhere; or the last one led on.
  pub record PartsTested (env : Env) (stop : Flag) (to : ℕ) (last : Aim) (past : ℕ) (truth : Flag) (st : Run L) (c : Config) : Type 0 where
    pub flat : Flat
    pub regs : List ℤ
    pub position : ℕ
    pub is : c ≡ config here st.printed flat position regs
    pub leads : ((truth ≡ stop) × (position ≡ to)) ⊎ (position ≡ goes_to last.on truth last.to past)
    pub store : StoreHolds base limit st flat
    pub places : PlacesHold (sizes st) env regs

module _ {L : Type 0} (funs : List LowFun) (here : Here) (code : List LowInstr) (is : IsCode funs here.fun code) (base : List ℕ) (limit : ℕ) where
  -- behind the parts stands a jump to the end, where a part that decides leads there
  module _ (env : Env) (aim : Aim) (end past : ℕ) (truth : Flag) (st : Run L) (flat : Flat) (regs : List ℤ) (store : StoreHolds base limit st flat)
      (places : PlacesHold (sizes st) env regs) where
    abbrev Lands : Config → Type 0
    Lands c = Arrived funs st.units c (Tested here base limit env aim past) truth st

    there_at : (position : ℕ) → position ≡ goes_to aim.on truth aim.to past → Lands (config here st.printed flat position regs)
    there_at position same = record {
      config = config here st.printed flat position regs;
      comes = comes_none funs st.units _;
      is = record { flat = flat; regs = regs; is = ap (λ k. config here st.printed flat k regs) same; store = store; places = places };
    }

    by_jump : slice_get code end ≡ Some (jump past) → past ≡ goes_to aim.on truth aim.to past → Lands (config here st.printed flat end regs)
    by_jump there same = record {
      config = config here st.printed flat past regs;
      comes = comes_free funs st.units _ _ (jump_comes funs here code is st.printed flat end regs st.units past there);
      is = record { flat = flat; regs = regs; is = ap (λ k. config here st.printed flat k regs) same; store = store; places = places };
    }

    at_last : slice_get code end ≡ Some (jump past) → (on t : Flag) → aim.on ≡ on → truth ≡ t → Lands (config here st.printed flat (goes_to on t aim.to end) regs)
    at_last there true true e f = there_at aim.to (rw e (rw f refl))
    at_last there true false e f = by_jump there (rw e (rw f refl))
    at_last there false true e f = by_jump there (rw e (rw f refl))
    at_last there false false e f = there_at aim.to (rw e (rw f refl))

    stops_same : (stop : Flag) (to past : ℕ) → to ≡ goes_to stop stop to past
    stops_same true to past = refl
    stops_same false to past = refl

    stops_other : (stop : Flag) (to past : ℕ) → past ≡ goes_to (not stop) stop to past
    stops_other true to past = refl
    stops_other false to past = refl

    lands : (crossed stop : Flag) (position : ℕ) → (crossed ≡ true → aim.on ≡ not stop) → (crossed ≡ false → aim.on ≡ stop) → past ≡ end + one_if crossed
        → Stands code end (jump_if crossed past)
        → ((truth ≡ stop) × (position ≡ inner_to crossed aim.to past)) ⊎ (position ≡ goes_to aim.on truth aim.to end) → Lands (config here st.printed flat position regs)
    lands true stop position crossing straight n stands (inl (same, at)) =
        there_at position (at ∙ (let e = crossing refl in rw e (rw same (stops_other stop aim.to past))))
    lands true stop position crossing straight n stands (inr at) =
        subst (λ k. Lands (config here st.printed flat k regs)) (sym at) (at_last (stands_first code end (jump past) [] stands) aim.on truth refl refl)
    lands false stop position crossing straight n stands (inl (same, at)) =
        there_at position (at ∙ (let e = straight refl in rw e (rw same (stops_same stop aim.to past))))
    lands false stop position crossing straight n stands (inr at) =
        let same : end ≡ past = omega (arith, n) in
        there_at position (at ∙ ap (goes_to aim.on truth aim.to) same)

module _ {L : Type 0} (funs : List LowFun) (here : Here) (code : List LowInstr) (is : IsCode funs here.fun code) (base : List ℕ) (limit vars : ℕ) (call : Calls L) (env : Env)
    (bound : ℕ) (calls : CallsGo funs here.depth call (suc (length here.callers)) bound) (few : limit ≤ bound) (set : Setting) (visible : List ℕ) (sized : length env ≡ vars) where
  abbrev goes_value : (e : core.Expr) (k : Kind) → HasKind set visible e k → ValueGoes funs here code is base limit vars call env e
  goes_value e k h = value_goes funs here code is base limit vars call env bound calls few set visible e k h

  abbrev pub nothing_waits : Pending env env vars 0
  nothing_waits = record { variables = keeps_same env; size = omega (arith, sized) }

  -- ---- leaves

  other_leaf : (e : core.Expr) → HasKind set visible e kind.Bool → (aim : Aim) (at next : ℕ) (st : Run L) (flat : Flat) (regs : List ℤ)
      → Stands code at (operand_at vars e 0 ++ truth_branch aim (operand_place vars e 0) ∷ []) → next ≡ at + (size_at e + 1)
      → StoreHolds base limit st flat → PlacesHold (sizes st) env regs
      → Arrives funs st.units (config here st.printed flat at regs) (Tested here base limit env aim next) (value call env e st >>= λ done. decided done.0 done.1)
  other_leaf e h aim at next st flat regs stands n store places =
      let goes = operand_of funs here code is base limit vars call env bound calls few set visible e (goes_value e kind.Bool h) in
      let long = (operand_at_long vars e 0).is in
      let middle = at + size_at e in
      taken_then funs here code is base limit st.units _ env env vars e 0 middle (Tested here base limit env aim next) _ _
      (goes.by env 0 at middle st flat regs nothing_waits (stands_front code at (operand_at vars e 0) _ stands) refl store places)
      (λ v one c r.
      subst (λ m. Arrives funs one.units (config here one.printed r.flat middle r.regs) (Tested here base limit env aim m) (decided v one))
      (let s : suc middle ≡ next = omega (arith, n) in s)
      (truth_branched funs here code is base limit env one r.flat middle r.regs r.store (places_fewer (sizes one) env r.whole r.regs r.keeps r.places) r.whole r.places aim _ v
      (stands_first code middle _ [] (stands_behind code at middle (operand_at vars e 0) _ (ap (λ k. at + k) (sym long)) stands)) r.there))

  leaf_goes : (e : core.Expr) → HasKind set visible e kind.Bool → (aim : Aim) (at next : ℕ) (st : Run L) (flat : Flat) (regs : List ℤ)
      → Stands code at (leaf_code vars aim e) → next ≡ at + leaf_size e → StoreHolds base limit st flat → PlacesHold (sizes st) env regs
      → Arrives funs st.units (config here st.printed flat at regs) (Tested here base limit env aim next) (value call env e st >>= λ done. decided done.0 done.1)
  unfolding value HasKind
  leaf_goes (core.Compare rel left right) h aim at next st flat regs stands n store places =
      let middle = at + (size_at left + size_at right) in
      subst (λ answer. Arrives funs st.units (config here st.printed flat at regs) (Tested here base limit env aim next) answer)
      (sym (two_binds (value call env left st) (λ p. value call env right p.1) (λ p q. related rel p.0 q.0 q.1) (λ done. decided done.0 done.1)))
      (two_taken funs here code is base limit vars call env (Tested here base limit env aim next) left right env 0 at middle _
      (λ a b two. related rel a b two >>= λ done. decided done.0 done.1) st flat regs
      (operand_of funs here code is base limit vars call env bound calls few set visible left (goes_value left kind.Int h.1))
      (operand_of funs here code is base limit vars call env bound calls few set visible right (goes_value right kind.Int h.2))
      nothing_waits stands refl store places
      (λ a b two r tail.
      subst (λ m. Arrives funs two.units (config here two.printed r.flat middle r.regs) (Tested here base limit env aim m) (related rel a b two >>= λ done. decided done.0 done.1))
      (let s : suc middle ≡ next = omega (arith, n) in s)
      (compared_branch funs here code is base limit env two r.flat middle r.regs r.store (places_fewer (sizes two) env r.whole r.regs r.keeps r.places) r.whole r.places aim rel _ _ a b
      (stands_first code middle _ [] tail) r.one r.two)))
  leaf_goes (core.Int number) h aim at next st flat regs stands n store places = other_leaf (core.Int number) h aim at next st flat regs stands n store places
  leaf_goes (core.Bool b) h aim at next st flat regs stands n store places = other_leaf (core.Bool b) h aim at next st flat regs stands n store places
  leaf_goes (core.Var x) h aim at next st flat regs stands n store places = other_leaf (core.Var x) h aim at next st flat regs stands n store places
  leaf_goes (core.Neg e) h aim at next st flat regs stands n store places = other_leaf (core.Neg e) h aim at next st flat regs stands n store places
  leaf_goes (core.Chain first rest) h aim at next st flat regs stands n store places = other_leaf (core.Chain first rest) h aim at next st flat regs stands n store places
  leaf_goes (core.Index array index a) h aim at next st flat regs stands n store places = other_leaf (core.Index array index a) h aim at next st flat regs stands n store places
  leaf_goes (core.Len array) h aim at next st flat regs stands n store places = other_leaf (core.Len array) h aim at next st flat regs stands n store places
  leaf_goes (core.Call fun args a) h aim at next st flat regs stands n store places = other_leaf (core.Call fun args a) h aim at next st flat regs stands n store places
  leaf_goes (core.Make number args a) h aim at next st flat regs stands n store places = other_leaf (core.Make number args a) h aim at next st flat regs stands n store places
  leaf_goes (core.New element len fill a) h aim at next st flat regs stands n store places = other_leaf (core.New element len fill a) h aim at next st flat regs stands n store places

  -- ---- parts in turn

  abbrev Parts : Flag → (to : ℕ) → Aim → (past : ℕ) → Flag → Run L → Config → Type 0
  Parts stop to last past truth st c = PartsTested here base limit env stop to last past truth st c

  -- what was tested is the answer of the parts
  stays : (stop : Flag) (to : ℕ) (last : Aim) (past : ℕ) (truth : Flag) (st : Run L) (c : Config) → Tested here base limit env last past truth st c
      → Arrives funs st.units c (Parts stop to last past) (Ok (truth, st))
  stays stop to last past truth st c r =
      arrives_there funs st.units c _ truth st c (comes_none funs st.units c)
      (record { flat = r.flat; regs = r.regs; position = goes_to last.on truth last.to past; is = r.is; leads = inr refl; store = r.store; places = r.places })

  -- a part that decides
  stops : (stop : Flag) (inner last : Aim) (middle past : ℕ) (truth : Flag) (st : Run L) (c : Config) → inner.on ≡ stop → truth ≡ stop → Tested here base limit env inner middle truth st c
      → Arrives funs st.units c (Parts stop inner.to last past) (Ok (truth, st))
  stops stop inner last middle past truth st c on decides r =
      arrives_there funs st.units c _ truth st c (comes_none funs st.units c)
      (record {
        flat = r.flat;
        regs = r.regs;
        position = goes_to inner.on truth inner.to middle;
        is = r.is;
        leads = inl (decides, (rw on (rw decides (led stop inner.to middle))));
        store = r.store;
        places = r.places;
      })
    where
      led : (stop : Flag) (to past : ℕ) → goes_to stop stop to past ≡ to
      led true to past = refl
      led false to past = refl

  -- a part that does not
  goes_past : (inner : Aim) (middle : ℕ) (stop truth : Flag) → inner.on ≡ stop → truth ≡ not stop → goes_to inner.on truth inner.to middle ≡ middle
  goes_past inner middle true truth on other = rw on (rw other refl)
  goes_past inner middle false truth on other = rw on (rw other refl)

  mutual
    unfolding holds IsTest test_code test_size

    pub test_goes : (t : core.Test) → IsTest set visible t → (aim : Aim) (at next : ℕ) (st : Run L) (flat : Flat) (regs : List ℤ) → Stands code at (test_code vars aim t at)
        → next ≡ at + test_size aim.on t → StoreHolds base limit st flat → PlacesHold (sizes st) env regs
        → Arrives funs st.units (config here st.printed flat at regs) (Tested here base limit env aim next) (holds call env t st)
    test_goes (core.Leaf e) h aim at next st flat regs stands n store places = leaf_goes e h aim at next st flat regs stands n store places
    test_goes (core.All parts) h aim at next st flat regs stands n store places =
        let past = past_parts aim.on aim.on parts at in
        let inner = inner_aim aim.on aim past in
        let end = at + parts_size inner.on aim.on parts in
        let long = (parts_long vars inner aim parts at).is in
        let tail = stands_behind code at end (parts_code vars inner aim parts at) _ (ap (λ k. at + k) (sym long)) stands in
        let same : past ≡ next = omega (arith, n) in
        subst (λ m. Arrives funs st.units (config here st.printed flat at regs) (Tested here base limit env aim m) (all_hold call env parts st)) same
        (arrives_on funs st.units _ (Parts false inner.to aim end) (Tested here base limit env aim past) _
        (λ truth one c r.
        subst (λ c. Arrived funs one.units c (Tested here base limit env aim past) truth one) (sym r.is)
        (lands funs here code is base limit env aim end past truth one r.flat r.regs r.store r.places aim.on false r.position (λ e. e) (λ e. e) refl tail r.leads))
        (all_go parts h.1 (several_some parts h.0) inner aim at end st flat regs (all_inner aim.on) (stands_front code at (parts_code vars inner aim parts at) _ stands) refl store places))
    test_goes (core.Any parts) h aim at next st flat regs stands n store places =
        let past = past_parts (not aim.on) aim.on parts at in
        let inner = inner_aim (not aim.on) aim past in
        let end = at + parts_size inner.on aim.on parts in
        let long = (parts_long vars inner aim parts at).is in
        let tail = stands_behind code at end (parts_code vars inner aim parts at) _ (ap (λ k. at + k) (sym long)) stands in
        let same : past ≡ next = omega (arith, n) in
        subst (λ m. Arrives funs st.units (config here st.printed flat at regs) (Tested here base limit env aim m) (any_holds call env parts st)) same
        (arrives_on funs st.units _ (Parts true inner.to aim end) (Tested here base limit env aim past) _
        (λ truth one c r.
        subst (λ c. Arrived funs one.units c (Tested here base limit env aim past) truth one) (sym r.is)
        (lands funs here code is base limit env aim end past truth one r.flat r.regs r.store r.places (not aim.on) true r.position (any_crossed aim.on) (any_straight aim.on) refl tail r.leads))
        (any_go parts h.1 (several_some parts h.0) inner aim at end st flat regs (any_inner aim.on) (stands_front code at (parts_code vars inner aim parts at) _ stands) refl store places))
    test_goes (core.Not part) h aim at next st flat regs stands n store places =
        arrives_then funs st.units _ (Tested here base limit env (turned aim) next) (Tested here base limit env aim next) _ _
        (test_goes part h (turned aim) at next st flat regs stands n store places)
        (λ truth one c r.
        arrives_there funs one.units c _ (not truth) one c (comes_none funs one.units c)
        (record {
          flat = r.flat;
          regs = r.regs;
          is = r.is ∙ ap (λ k. config here one.printed r.flat k r.regs) (goes_turned aim.on truth aim.to next);
          store = r.store;
          places = r.places;
        }))

    all_go : (parts : core.Tests) → AreTests set visible parts → IsSome parts → (inner last : Aim) (at next : ℕ) (st : Run L) (flat : Flat) (regs : List ℤ) → inner.on ≡ false
        → Stands code at (parts_code vars inner last parts at) → next ≡ at + parts_size inner.on last.on parts → StoreHolds base limit st flat → PlacesHold (sizes st) env regs
        → Arrives funs st.units (config here st.printed flat at regs) (Parts false inner.to last next) (all_hold call env parts st)
    all_go core.NoTest h some inner last at next st flat regs on stands n store places = absurd some
    all_go (core.ATest t core.NoTest) h some inner last at next st flat regs on stands n store places =
        arrives_then funs st.units _ (Tested here base limit env last next) (Parts false inner.to last next) _ _
        (test_goes t h.0 last at next st flat regs (stands_front code at (test_code vars last t at) [] stands) (omega (arith, n)) store places)
        (λ truth one c r. elim truth as (λ b. Tested here base limit env last next b one c → Arrives funs one.units c (Parts false inner.to last next) (unless true b (λ st. all_hold call env core.NoTest st) one)) [
          | true ↦ λ q. stays false inner.to last next true one c q
          | false ↦ λ q. stays false inner.to last next false one c q
        ] r)
    all_go (core.ATest t (core.ATest u ts)) h some inner last at next st flat regs on stands n store places =
        let middle = at + test_size inner.on t in
        let long = (test_long vars inner t at).is in
        let tail = stands_behind code at middle (test_code vars inner t at) _ (ap (λ k. at + k) (sym long)) stands in
        arrives_then funs st.units _ (Tested here base limit env inner middle) (Parts false inner.to last next) _ _
        (test_goes t h.0 inner at middle st flat regs (stands_front code at (test_code vars inner t at) _ stands) refl store places)
        (λ truth one c r. elim truth as (λ b. truth ≡ b → Tested here base limit env inner middle b one c
        → Arrives funs one.units c (Parts false inner.to last next) (unless true b (λ st. all_hold call env (core.ATest u ts) st) one)) [
          | true ↦ λ e q.
              subst (λ c. Arrives funs one.units c (Parts false inner.to last next) (all_hold call env (core.ATest u ts) one))
              (sym (q.is ∙ ap (λ k. config here one.printed q.flat k q.regs) (goes_past inner middle false true on refl)))
              (all_go (core.ATest u ts) h.1 tt inner last middle next one q.flat q.regs on tail (omega (arith, n)) q.store q.places)
          | false ↦ λ e q. stops false inner last middle next false one c on refl q
        ] refl r)

    any_go : (parts : core.Tests) → AreTests set visible parts → IsSome parts → (inner last : Aim) (at next : ℕ) (st : Run L) (flat : Flat) (regs : List ℤ) → inner.on ≡ true
        → Stands code at (parts_code vars inner last parts at) → next ≡ at + parts_size inner.on last.on parts → StoreHolds base limit st flat → PlacesHold (sizes st) env regs
        → Arrives funs st.units (config here st.printed flat at regs) (Parts true inner.to last next) (any_holds call env parts st)
    any_go core.NoTest h some inner last at next st flat regs on stands n store places = absurd some
    any_go (core.ATest t core.NoTest) h some inner last at next st flat regs on stands n store places =
        arrives_then funs st.units _ (Tested here base limit env last next) (Parts true inner.to last next) _ _
        (test_goes t h.0 last at next st flat regs (stands_front code at (test_code vars last t at) [] stands) (omega (arith, n)) store places)
        (λ truth one c r. elim truth as (λ b. Tested here base limit env last next b one c → Arrives funs one.units c (Parts true inner.to last next) (unless false b (λ st. any_holds call env core.NoTest st) one)) [
          | true ↦ λ q. stays true inner.to last next true one c q
          | false ↦ λ q. stays true inner.to last next false one c q
        ] r)
    any_go (core.ATest t (core.ATest u ts)) h some inner last at next st flat regs on stands n store places =
        let middle = at + test_size inner.on t in
        let long = (test_long vars inner t at).is in
        let tail = stands_behind code at middle (test_code vars inner t at) _ (ap (λ k. at + k) (sym long)) stands in
        arrives_then funs st.units _ (Tested here base limit env inner middle) (Parts true inner.to last next) _ _
        (test_goes t h.0 inner at middle st flat regs (stands_front code at (test_code vars inner t at) _ stands) refl store places)
        (λ truth one c r. elim truth as (λ b. truth ≡ b → Tested here base limit env inner middle b one c
        → Arrives funs one.units c (Parts true inner.to last next) (unless false b (λ st. any_holds call env (core.ATest u ts) st) one)) [
          | false ↦ λ e q.
              subst (λ c. Arrives funs one.units c (Parts true inner.to last next) (any_holds call env (core.ATest u ts) one))
              (sym (q.is ∙ ap (λ k. config here one.printed q.flat k q.regs) (goes_past inner middle true false on refl)))
              (any_go (core.ATest u ts) h.1 tt inner last middle next one q.flat q.regs on tail (omega (arith, n)) q.store q.places)
          | true ↦ λ e q. stops true inner last middle next true one c on refl q
        ] refl r)
