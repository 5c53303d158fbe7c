-- Assignments and calls as statements are typed: a value comes to a variable, or to a temporary that nothing reads.
use Rattle.std.proofs.Common.{◌≡◌, ◌∙◌, ℕ, suc, ◌+◌, ◌<◌, ◌==◌, cond, Bool, true, false, List, [], length, Option, Some, None, Ok, Err, refl, sym, ap, subst, arith}
use Rattle.std.proofs.lemmas.Bool.Decides.{Decides-eqb}
use Rattle.state_types.specs.PlaceTypes.{type_at, with_type}
use Rattle.state_types.specs.Types.{same_kind}
use Rattle.state_types.specs.declared.state.StateType.{StateType}
use Rattle.state_types.specs.declared.types.Ty.{Ty}
use Rattle.state_types.proofs.Thens.{then_ok, ok_same}
use Rattle.three_address.specs.Liveness.{Live}
use Rattle.three_address.specs.declared.instruction.LowInstr.{LowInstr}
use Rattle.value_lowering.specs.Frames.{temporary}
use Rattle.value_lowering.specs.ValueCode.{value_code}
use Rattle.xan_lin.specs.declared.term.LimitKind.TheVariants as limit
use Rattle.xan_seq.proofs.NumberTests.{equal}
use Rattle.xan_seq.proofs.RisingKeys.{value-with}
use Rattle.xanadu_tree.specs.Plain as core
use Rattle.typed_core.specs.Limits.{within, Misfit, Walk as Limited}
use Rattle.typed_core.specs.Operands.{operand}
use Rattle.typed_core.specs.States.{State, like, given}
use Rattle.typed_core.specs.Statements.{assigned, done}
use Rattle.type_carrier.specs.CarriedValues.{Carried, value}
use Rattle.carrier_laws.proofs.ChainsTyped.{CodeAt}
use Rattle.carrier_laws.proofs.OperandsRun.{Walk, Ahead, Here, Runs, Valued}
use Rattle.carrier_laws.proofs.OperandsTyped.{Keeps, ValueTyped}

-- the code has run, and elaboration stands behind it; no temporary waits
pub record Stepped (w : Walk) (p : ℕ) (s : StateType) (code : List LowInstr) (c d : Carried) (more : State) : Type 0 where
  pub end : StateType
  pub runs : Runs w s code c.edges d.edges end
  pub here : Here w (p + length code) end more [] d.notes

nothing_kept : (vars to : ℕ) → Keeps vars [] to
nothing_kept vars to k u e = absurd (let bad : ⊥ = cc in bad)

-- ---- a variable is given a type

record Given (x : ℕ) (t : Ty) (st more : State) : Type 0 where
  is : more ≡ record st { types = with_type x t st.types }

if_like : (b : Bool) (t it : Ty) → (let r : Limited Ty = cond b (Ok t) (Err Misfit) in r) ≡ Ok it → it ≡ t
if_like true t it e = sym (ok_same t it e)
if_like false t it e = absurd (let bad : ⊥ = cc in bad)

like_same : (old : Option Ty) (t it : Ty) → like old t ≡ Ok it → it ≡ t
like_same None t it e = sym (ok_same t it e)
like_same (Some old) t it e = if_like (same_kind old t) t it e

given_is : (x : ℕ) (t : Ty) (st more : State) → given x t st ≡ Ok more → Given x t st more
unfolding given
given_is x t st more e =
    let one = then_ok (within limit.Places (suc x)) _ more e in
    let two = then_ok (like (type_at x st.types) t) _ more one.second in
    record {
      is = sym (ok_same (record st { types = with_type x two.value st.types }) more two.second)
          ∙ ap (λ u. record st { types = with_type x u st.types }) (like_same (type_at x st.types) t two.value two.first);
    }

module _ (w : Walk) (x : ℕ) (in_range : x < w.vars) where
  -- behind the value, the variable has its type
  set_behind : (p : ℕ) (s : StateType) (code : List LowInstr) (c d : Carried) (st mid : State) (t : Ty) → Here w p s st [] c.notes
      → Valued w p s code c d st mid [] x t → Stepped w p s code c d (record mid { types = with_type x t mid.types })
  set_behind p s code c d st mid t here v = record {
    end = v.end;
    runs = v.runs;
    here = record {
      now = record { ctx = v.came.ctx; types = λ y u live there. by_test (x == y) y u refl (sym (value-with y x t mid.types) ∙ there) live };
      waits = v.came.temporaries;
      remains = v.left;
      within = λ y u there. in_test (x == y) y u refl (sym (value-with y x t mid.types) ∙ there);
      few = v.few;
    };
  }
    where
      by_test : (b : Bool) (y : ℕ) (u : Ty) → (x == y) ≡ b → cond b (Some t) (type_at y mid.types) ≡ Some u → Live w.body.fun (p + length code) y
          → type_at y v.end.places ≡ Some u
      by_test true y u same there live =
          subst (λ z. type_at z v.end.places ≡ Some u) ((Decides-eqb x y).0 same) (v.came.value ∙ there)
      by_test false y u other there live = v.came.types y u live (λ same. differ (equal x y (sym same)) other) there
        where
          differ : (x == y) ≡ true → (x == y) ≡ false → ⊥
          differ a b = cc

      in_test : (b : Bool) (y : ℕ) (u : Ty) → (x == y) ≡ b → cond b (Some t) (type_at y mid.types) ≡ Some u → y < w.vars
      in_test true y u same there = subst (λ z. z < w.vars) ((Decides-eqb x y).0 same) in_range
      in_test false y u other there = here.within y u (ap (λ es. type_at y es) (sym v.types) ∙ there)

  pub set_typed : (e : core.Expr) → ValueTyped w e → (p : ℕ) (s : StateType) (st more : State) (c : Carried) → Here w p s st [] c.notes → CodeAt w.body p (value_code w.vars e 0 x)
      → assigned w.site x e st ≡ Ok more → Ahead w more → Stepped w p s (value_code w.vars e 0 x) c (value w.proofs e c) more
  unfolding assigned
  set_typed e v p s st more c here at made ahead =
      let f = then_ok (operand w.site e st) _ more made in
      let t = f.value.0 in
      let mid = f.value.1 in
      let g = (given_is x t mid more f.second).is in
      let behind = subst (λ (m : State). Ahead w m) g ahead in
      let done = v.is 0 x p s st [] c t mid here refl at (nothing_kept w.vars x) f.first (record { goals = behind.goals; notes = behind.notes }) in
      subst (λ (m : State). Stepped w p s (value_code w.vars e 0 x) c (value w.proofs e c) m) (sym g)
      (set_behind p s (value_code w.vars e 0 x) c (value w.proofs e c) st mid t here done)

-- ---- a call as a statement

pub done_typed : (w : Walk) (call : core.Expr) → ValueTyped w call → (p : ℕ) (s : StateType) (st more : State) (c : Carried) → Here w p s st [] c.notes
    → CodeAt w.body p (value_code w.vars call 0 (temporary w.vars 0)) → done w.site call st ≡ Ok more → Ahead w more
    → Stepped w p s (value_code w.vars call 0 (temporary w.vars 0)) c (value w.proofs call c) more
unfolding done
done_typed w call v p s st more c here at made ahead =
    let f = then_ok (operand w.site call st) _ more made in
    let same = ok_same f.value.1 more f.second in
    let made_one = f.first ∙ ap (λ (m : State). Ok (f.value.0, m)) same in
    let done = v.is 0 (temporary w.vars 0) p s st [] c f.value.0 more here refl at (nothing_kept w.vars (temporary w.vars 0)) made_one ahead in
    record {
      end = done.end;
      runs = done.runs;
      here = record {
        now = record { ctx = done.came.ctx; types = λ y u live there. done.came.types y u live (λ same. beyond y u there same done.types) there };
        waits = done.came.temporaries;
        remains = done.left;
        within = λ y u there. here.within y u (ap (λ es. type_at y es) (sym done.types) ∙ there);
        few = done.few;
      };
    }
  where
    beyond : (y : ℕ) (u : Ty) → type_at y more.types ≡ Some u → y ≡ temporary w.vars 0 → more.types ≡ st.types → ⊥
    beyond y u there same types = (let lt = here.within y u (ap (λ es. type_at y es) (sym types) ∙ there) in omega (arith, lt, same))
