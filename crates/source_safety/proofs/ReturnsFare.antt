-- Returns go well: what is returned has the type of the function's result.
use Rattle.std.proofs.Common.{◌≡◌, ◌∙◌, ℕ, zero, suc, ◌≤◌, ℤ, pos, List, [], ◌∷◌, ◌++◌, take, length, Option, Some, None, Ok, refl, sym, ap, subst, arith}
use Rattle.index_sorts.specs.Entails.{AllHold}
use Rattle.xan_lin.specs.Subst.{zero_form}
use Rattle.state_types.specs.declared.types.Ty.{Ty}
use Rattle.state_types.specs.declared.types.Ty.TheVariants as ty
use Rattle.state_types.proofs.FormNames.{below-zero}
use Rattle.state_types.proofs.Thens.{then_ok}
use Rattle.operation_rules.specs.Sound.{IsSetting}
use Rattle.operation_rules.specs.declared.operation.Operation.TheVariants as operation
use Rattle.xanadu_tree.specs.Plain as core
use Rattle.typed_core.specs.Constructs.{setting_of, state_by}
use Rattle.typed_core.specs.Operands.{operand}
use Rattle.typed_core.specs.SourceOperands.{no_cells, value}
use Rattle.typed_core.specs.SourceRuns.{Run, Env, Place, Recorder, Calls}
use Rattle.typed_core.specs.SourceStatements.{statement}
use Rattle.typed_core.specs.SourceValues.{Tag, Value, Blocks, number, words_of}
use Rattle.typed_core.specs.States.{Site, State}
use Rattle.typed_core.specs.Statements.{returning}
use Rattle.typed_core.proofs.NamedOperands.{one_below}
use Rattle.source_safety.specs.Values.{headers_of, HasValue, tag_for, tags_for}
use Rattle.source_safety.specs.Standing.{GoalsHold, Stands, Goes, Came, CallsFare, Fares, Leaves, Operands}
use Rattle.source_safety.proofs.BlockRules.{return_tags}
use Rattle.source_safety.proofs.BranchesFare.{stated_by, state_grown}
use Rattle.source_safety.proofs.Demanded.{demands_hold}
use Rattle.source_safety.proofs.EffectsFare.{effect_fares}
use Rattle.source_safety.proofs.ExpressionsFare.{value_fares, grown_goals, one_operand, zero_has}
use Rattle.source_safety.proofs.FaredOn.{fares_then, keeps_on}

front_same : (n : ℕ) (xs ys : List ℤ) → n ≤ length xs → take n (xs ++ ys) ≡ take n xs
front_same zero xs ys h = refl
front_same (suc n) [] ys h = absurd (let bad : ⊥ = omega (arith, h) in bad)
front_same (suc n) (x ∷ xs) ys h = ap (λ l. x ∷ l) (front_same n xs ys (omega (arith, h)))

one_tag : (a b : Tag) → a ∷ [] ≡ b ∷ [] → a ≡ b
one_tag a b e = cc

module _ (site : Site) (setting : IsSetting (setting_of site)) (env : Env) (st more : State) (goals : GoalsHold more.goals) where
  -- the operation, over a value that has its type
  returned_came : (t : Ty) (v : Value) (at : ℕ) (assignment : List ℤ) (store : Blocks) → state_by site (Some at) operation.Return (t ∷ []) st ≡ Ok more
      → Operands site st env assignment store (t ∷ []) (v ∷ []) → Came site.table site.own (take site.own.vars assignment) store v store
  unfolding words_of tags_for
  returned_came t v at assignment store is it =
      let s = stated_by site (Some at) operation.Return (t ∷ []) st more is in
      let giving = effect_fares site setting env no_cells (Some at) operation.Return (t ∷ []) st s.given more s.by assignment store (v ∷ []) it.stands it.stands.holds.fits it.have it.below
      (demands_hold site at s.by.r.demands st assignment (subst GoalsHold s.by.asks goals) it.stands.hold) in
      let tags = return_tags (setting_of site) st.ctx.vars (t ∷ []) s.by.r s.by.is in
      record {
        own = giving.own;
        one_each = giving.one_each;
        hold = giving.hold;
        has = record { tagged = it.have.0.tagged ∙ sym (one_tag (tag_for site.own.result) (tag_for t) tags); typed = giving.fit };
        keeps = record { keeps = λ address header e. e };
        holds = it.stands.holds;
      }

-- what the function gives behind a part of the run, which left its own index variables as they were
pub came_after : (site : Site) (one : State) (env : Env) (assignment : List ℤ) (old middle new : Blocks) (v : Value) → site.own.vars ≤ length assignment
    → (g : Goes site one env assignment old middle) → Came site.table site.own (take site.own.vars g.given) middle v new
    → Came site.table site.own (take site.own.vars assignment) old v new
came_after site one env assignment old middle new v le g c =
    let same : take site.own.vars g.given ≡ take site.own.vars assignment = ap (take site.own.vars) g.front.is ∙ front_same site.own.vars assignment g.front.rest le in
    record {
      own = c.own;
      one_each = c.one_each;
      hold = subst (λ a. AllHold (a ++ c.own) site.own.result_rows) same c.hold;
      has = subst (λ a. HasValue (headers_of new) (a ++ c.own) v site.own.result) same c.has;
      keeps = keeps_on (headers_of old) (headers_of middle) (headers_of new) g.keeps c.keeps;
      holds = c.holds;
    }

module _ {L : Type 0} (site : Site) (setting : IsSetting (setting_of site)) (recorder : Recorder L) (call : Calls L) (calls : CallsFare site.table site.sigs call) (fun bound : ℕ) (place : Place)
    (env : Env) (st more : State) (assignment : List ℤ) (run : Run L) (stands : Stands site st env assignment run.store) (goals : GoalsHold more.goals) where
  pub return_fares : (e : Option core.Expr) (at : ℕ) → returning site e at st ≡ Ok more
      → Fares (Leaves site more (length env) assignment run.store) (statement recorder call fun bound place (core.Return e at) env run)
  unfolding returning statement
  return_fares None at is = record {
    is = returned_came site setting env st more goals (ty.Int zero_form) (number (pos 0)) at assignment run.store is (record {
      stands = stands;
      have = (zero_has (headers_of run.store) assignment, tt);
      below = one_below st.ctx.vars (ty.Int zero_form) (below-zero st.ctx.vars);
    });
  }
  return_fares (Some e) at is =
      let s = then_ok (operand site e st) _ more is in
      let t = s.value.0 in
      let one = s.value.1 in
      let hold = grown_goals one more (state_grown site (Some at) operation.Return (t ∷ []) one more s.second) goals in
      let le : site.own.vars ≤ length assignment = subst (λ n. site.own.vars ≤ n) (sym stands.one_each) stands.own in
      fares_then (value call env e run) _ (value_fares site setting call calls env e st t one s.first hold assignment run stands)
      (λ p g. record {
        is = came_after site one env assignment run.store p.1.store p.1.store p.0 le g.goes
            (returned_came site setting env one more goals t p.0 at g.goes.given p.1.store s.second (one_operand site env one assignment run.store p.1.store t p.0 g));
      })
