-- Statements without blocks that assign, call, print or return go well.
use Rattle.std.proofs.Common.{◌≡◌, ◌∙◌, ◌==◌, ℕ, zero, suc, ◌<◌, ◌≤◌, ℤ, List, [], ◌∷◌, length, Bool as Truth, true, false, cond, Option, Some, None, Ok, Err, refl, sym, ap, subst, arith}
use Rattle.std.specs.Prelude.{slice_get, slice_set, nat_lt}
use Rattle.std.specs.List.{All}
use Rattle.std.proofs.lemmas.Bool.{lt-ltb}
use Rattle.std.proofs.lemmas.Bool.Decides.{Decides-eqb}
use Rattle.std.proofs.lemmas.Option.{same_Some}
use Rattle.std.proofs.lemmas.List.Elements.{All-nil, All-cons, All-head, All-tail}
use Rattle.xan_seq.proofs.RisingKeys.{value-with}
use Rattle.index_sorts.specs.Entails.{AllHold}
use Rattle.xan_lin.specs.Value.{Holds}
use Rattle.state_types.specs.PlaceTypes.{type_at, with_type}
use Rattle.state_types.specs.Types.{TypeBelow, same_kind}
use Rattle.state_types.specs.Words.{Headers}
use Rattle.state_types.specs.declared.types.Ty.{Ty}
use Rattle.state_types.proofs.Thens.{then_ok, ok_same}
use Rattle.operation_rules.specs.Sound.{IsSetting}
use Rattle.operation_rules.specs.declared.operation.Operation.{Operation}
use Rattle.operation_rules.specs.declared.operation.Operation.TheVariants as operation
use Rattle.xan_lin.specs.declared.term.LimitKind.TheVariants as limit
use Rattle.xanadu_tree.specs.Plain as core
use Rattle.typed_core.specs.Constructs.{setting_of, state_by}
use Rattle.typed_core.specs.Growth.{Grown, NamesSoFar}
use Rattle.typed_core.specs.Limits.{Walk, Misfit, within}
use Rattle.typed_core.specs.Operands.{operand}
use Rattle.typed_core.specs.SourceOperands.{value}
use Rattle.typed_core.specs.SourceRuns.{Run, Answer, Env, Place, Recorder, Calls, Flow}
use Rattle.typed_core.specs.SourceStatements.{set_if, set_variable, statement, number_printed, printed_if}
use Rattle.typed_core.specs.SourceValues.{Number, Value, Blocks, words_of, have_tags}
use Rattle.typed_core.specs.States.{Site, State, like, given}
use Rattle.typed_core.specs.Statements.{assigned, done, printed}
use Rattle.typed_core.proofs.GrownContexts.{state_by_goes}
use Rattle.typed_core.proofs.NamedStates.{answered, Typed, typed_on, state_by_stays}
use Rattle.source_safety.specs.Values.{headers_of, HasValue}
use Rattle.source_safety.specs.Standing.{GoalsHold, VariableHolds, VariablesHold, Stands, Goes, Gives, CallsFare, Fares, Leaves}
use Rattle.source_safety.proofs.BranchesFare.{stated_by, state_grown}
use Rattle.source_safety.proofs.EffectsFare.{tags_there, effect_fares}
use Rattle.source_safety.proofs.ExpressionsFare.{value_fares, grown_goals, one_operand}
use Rattle.source_safety.proofs.FaredOn.{fares_then, keeps_all, goes_on, goes_behind, goes_with}
use Rattle.source_safety.proofs.RuleTags.{print_tags}
use Rattle.typed_core.specs.SourceOperands.{no_cells}

-- ---- a variable that is assigned

set_here : (env : Env) (x : ℕ) (v : Value) → x < length env → slice_get (slice_set env x (Some v)) x ≡ Some (Some v)
set_here [] x v h = absurd (let bad : ⊥ = omega (arith, h) in bad)
set_here (e ∷ es) zero v h = refl
set_here (e ∷ es) (suc x) v h = set_here es x v (omega (arith, h))

set_other : (env : Env) (x y : ℕ) (v : Value) → ((x ≡ y) → ⊥) → slice_get (slice_set env x (Some v)) y ≡ slice_get env y
set_other [] x y v h = refl
set_other (e ∷ es) zero zero v h = absurd (h refl)
set_other (e ∷ es) zero (suc y) v h = refl
set_other (e ∷ es) (suc x) zero v h = refl
set_other (e ∷ es) (suc x) (suc y) v h = set_other es x y v (λ same. h (ap suc same))

pub set_length : (env : Env) (x : ℕ) (v : Value) → length (slice_set env x (Some v)) ≡ length env
set_length [] x v = refl
set_length (e ∷ es) zero v = refl
set_length (e ∷ es) (suc x) v = ap suc (set_length es x v)

pub names_with : (P : ℕ × Ty → Type 0) (x : ℕ) (t : Ty) (types : List (ℕ × Ty)) → P (x, t) → All P types → All P (with_type x t types)
names_with P x t [] p all = All-cons P (x, t) [] p (All-nil P)
names_with P x t (e ∷ es) p all =
    let later = names_with P x t es p (All-tail P e es all) in
    by_tests (nat_lt e.0 x) (e.0 == x) later
  where
    by_tests : (b c : Truth) → All P (with_type x t es) → All P (cond b (e ∷ with_type x t es) (cond c ((x, t) ∷ es) ((x, t) ∷ e ∷ es)))
    by_tests true c later = All-cons P e (with_type x t es) (All-head P e es all) later
    by_tests false true later = All-cons P (x, t) es p (All-tail P e es all)
    by_tests false false later = All-cons P (x, t) (e ∷ es) p all

like_is : (o : Option Ty) (t it : Ty) → like o t ≡ Ok it → t ≡ it
like_is None t it e = ok_same t it e
like_is (Some old) t it e = by_kind (same_kind old t) e
  where
    by_kind : (b : Truth) → cond b (let r : Walk Ty = Ok t in r) (Err Misfit) ≡ Ok it → t ≡ it
    by_kind true e = ok_same t it e
    by_kind false e = absurd (let bad : ⊥ = cc in bad)

pub given_is : (x : ℕ) (t : Ty) (st more : State) → given x t st ≡ Ok more → (let s : State = record st { types = with_type x t st.types } in s) ≡ more
unfolding given
given_is x t st more e =
    let s = then_ok (within limit.Places (suc x)) _ more e in
    let u = then_ok (like (type_at x st.types) t) _ more s.second in
    ap (λ y. let s : State = record st { types = with_type x y st.types } in s) (like_is (type_at x st.types) t u.value u.first) ∙ ok_same _ more u.second

module _ (env : Env) (headers : Headers) (assignment : List ℤ) (types : List (ℕ × Ty)) (x : ℕ) (t : Ty) (v : Value) (within : x < length env) (has : HasValue headers assignment v t)
    (all : VariablesHold env headers assignment types) where
  one_variable : (y : ℕ) (u : Ty) (same : Truth) → (x == y) ≡ same → cond same (Some t) (type_at y types) ≡ Some u → VariableHolds (slice_set env x (Some v)) headers assignment (y, u)
  one_variable y u true is e = record {
    value = v;
    there = subst (λ z. slice_get (slice_set env x (Some v)) z ≡ Some (Some v)) ((Decides-eqb x y).0 is) (set_here env x v within);
    has = subst (λ w. HasValue headers assignment v w) (same_Some t u e) has;
  }
  one_variable y u false is e =
      let it = all.by y u e in
      record { value = it.value; there = set_other env x y v (λ same. absurd (different (x == y) is ((Decides-eqb x y).1 same))) ∙ it.there; has = it.has }
    where
      different : (b : Truth) → b ≡ false → b ≡ true → ⊥
      different b f t = cc

  pub set_holds : VariablesHold (slice_set env x (Some v)) headers assignment (with_type x t types)
  set_holds = record { by = λ y u e. one_variable y u (x == y) refl (sym (value-with y x t types) ∙ e) }

module _ (site : Site) (env : Env) where
  pub set_goes : (x : ℕ) (t : Ty) (st more : State) (assignment : List ℤ) (old new : Blocks) (v : Value) → x < length env → given x t st ≡ Ok more → Gives site st env assignment old t v new
      → Goes site more (slice_set env x (Some v)) assignment old new
  set_goes x t st more assignment old new v within is g =
      subst (λ s. Goes site s (slice_set env x (Some v)) assignment old new) (given_is x t st more is) (record {
        given = g.goes.given;
        front = g.goes.front;
        stands = record {
          own = g.goes.stands.own;
          named = record { rows = g.goes.stands.named.rows; types = names_with (λ e. TypeBelow st.ctx.vars e.1) x t st.types g.below g.goes.stands.named.types };
          one_each = g.goes.stands.one_each;
          hold = g.goes.stands.hold;
          typed = set_holds env (headers_of new) g.goes.given st.types x t v within g.has g.goes.stands.typed;
          holds = g.goes.stands.holds;
        };
        keeps = g.goes.keeps;
      })

module _ {L : Type 0} (env : Env) where
  pub set_to : (x : ℕ) (v : Value) (run : Run L) → x < length env → Fares (λ (more : Env) (new : Run L). (slice_set env x (Some v) ≡ more) × (run ≡ new)) (set_variable env x v run)
  set_to x v run within =
      subst (λ b. Fares (λ (more : Env) (new : Run L). (slice_set env x (Some v) ≡ more) × (run ≡ new)) (set_if b env x v run)) (sym (lt-ltb x (length env) within)) (record { is = (refl, refl) })

-- what is known of a state behind an operation that gives nothing
pub record Known (st more : State) : Type 0 where
  pub grown : Grown st more
  pub named : NamesSoFar more

pub state_known : (site : Site) → IsSetting (setting_of site) → (at : Option ℕ) (o : Operation) (types : List Ty) (st more : State) → site.own.vars ≤ st.ctx.vars → NamesSoFar st
    → All (TypeBelow st.ctx.vars) types → state_by site at o types st ≡ Ok more → Known st more
state_known site setting at o types st more le names below is =
    let typed : Typed site.own.vars st = record { own_vars = le; types = names.types } in
    let went = answered (state_by site at o types st) more (state_by_stays site setting.table at o types st le below) is in
    let onward = answered (state_by site at o types st) more (state_by_goes site at o types st) is in
    record { grown = onward.grown; named = record { rows = onward.named setting.table names.rows; types = (typed_on site.own.vars st more went typed).types } }

-- ---- statements

module _ {L : Type 0} (site : Site) (setting : IsSetting (setting_of site)) (recorder : Recorder L) (call : Calls L) (calls : CallsFare site.table site.sigs call) (fun bound : ℕ) (place : Place)
    (env : Env) (st more : State) (assignment : List ℤ) (run : Run L) (stands : Stands site st env assignment run.store) (goals : GoalsHold more.goals) where
  abbrev pub Left : (m : Answer L Flow) → Type 0
  Left m = Fares (Leaves site more (length env) assignment run.store) m

  pub set_fares : (x : ℕ) (e : core.Expr) → x < length env → assigned site x e st ≡ Ok more → Left (statement recorder call fun bound place (core.Set x e) env run)
  unfolding assigned statement
  set_fares x e within is =
      let s = then_ok (operand site e st) _ more is in
      let t = s.value.0 in
      let one = s.value.1 in
      let same = given_is x t one more s.second in
      let hold : GoalsHold one.goals = subst (λ (m : State). GoalsHold m.goals) (sym same) goals in
      fares_then (value call env e run) _ (value_fares site setting call calls env e st t one s.first hold assignment run stands)
      (λ p g. fares_then (set_variable env x p.0 p.1) _ (set_to env x p.0 p.1 within)
      (λ q h. record {
        is = (
          subst (λ (r : Run L). Goes site more q.0 assignment run.store r.store) h.1
              (subst (λ w. Goes site more w assignment run.store p.1.store) h.0 (set_goes site env x t one more assignment run.store p.1.store p.0 within s.second g)),
          ap length (sym h.0) ∙ set_length env x p.0,
        );
      }))

  pub do_fares : (e : core.Expr) → done site e st ≡ Ok more → Left (statement recorder call fun bound place (core.Do e) env run)
  unfolding done statement
  do_fares e is =
      let s = then_ok (operand site e st) _ more is in
      let same = ok_same s.value.1 more s.second in
      let hold : GoalsHold s.value.1.goals = subst (λ (m : State). GoalsHold m.goals) (sym same) goals in
      fares_then (value call env e run) _ (value_fares site setting call calls env e st s.value.0 s.value.1 s.first hold assignment run stands)
      (λ p g. record { is = (subst (λ m. Goes site m env assignment run.store p.1.store) same g.goes, refl) })

  pub print_fares : (e : core.Expr) → printed site e st ≡ Ok more → Left (statement recorder call fun bound place (core.Print e) env run)
  unfolding printed statement number_printed words_of goes_behind goes_on
  print_fares e is =
      let s = then_ok (operand site e st) _ more is in
      let t = s.value.0 in
      let one = s.value.1 in
      let hold = grown_goals one more (state_grown site None operation.Print (t ∷ []) one more s.second) goals in
      let it = stated_by site None operation.Print (t ∷ []) one more s.second in
      let tags = print_tags (setting_of site) one.ctx.vars (t ∷ []) it.by.r it.by.is in
      fares_then (value call env e run) _ (value_fares site setting call calls env e st t one s.first hold assignment run stands)
      (λ p g.
      let o = one_operand site env one assignment run.store p.1.store t p.0 g in
      let known = state_known site setting None operation.Print (t ∷ []) one more o.stands.own o.stands.named o.below s.second in
      let fit : have_tags (p.0 ∷ []) (Number ∷ []) ≡ true =
      subst (λ ws. have_tags (p.0 ∷ []) ws ≡ true) (sym tags.0) (tags_there (headers_of p.1.store) g.goes.given (p.0 ∷ []) (t ∷ []) o.have) in
      let fares = effect_fares site setting env no_cells None operation.Print (t ∷ []) one it.given more it.by g.goes.given p.1.store (p.0 ∷ []) o.stands o.stands.holds.fits o.have o.below
      (subst (λ rows. AllHold g.goes.given rows) (sym tags.1) (All-nil (Holds g.goes.given))) in
      let goes = goes_with site env one more g.goes.given fares.written.own p.1.store p.1.store o.stands known.grown known.named fares.written.grows.one_each fares.written.grows.hold
      (keeps_all (headers_of p.1.store)) o.stands.holds in
      let whole = goes_behind site env one more assignment run.store p.1.store p.1.store g.goes goes in
      fares_then {P = λ u (new : Run L). new.store ≡ p.1.store} (number_printed p.0 p.1) _
      (subst (λ b. Fares (λ u (new : Run L). new.store ≡ p.1.store) (printed_if b p.0 p.1)) (sym fit) (record { is = refl }))
      (λ q h. record { is = (subst (λ b. Goes site more env assignment run.store b) (sym h) whole, refl) }))
