-- Branches by comparisons and by truth values go well: the rows of the side that is taken hold.
use Rattle.std.proofs.Common.{◌≡◌, ◌∙◌, ℕ, ◌≤◌, ℤ, List, Bool as Truth, true, false, Option, None, Ok, sym, ap, subst}
use Rattle.std.specs.List.{All}
use Rattle.index_sorts.specs.Context.{IndexContext}
use Rattle.index_sorts.specs.Entails.{AllHold}
use Rattle.state_types.specs.Types.{TypeBelow}
use Rattle.state_types.specs.declared.types.Ty.{Ty}
use Rattle.state_types.proofs.Thens.{then_ok, ok_same}
use Rattle.operation_rules.specs.Applied.{all_assuming}
use Rattle.operation_rules.specs.Effects.{Takes, effect}
use Rattle.operation_rules.specs.Faults.{filled}
use Rattle.operation_rules.specs.Rules.{rule}
use Rattle.operation_rules.specs.Sides.{side}
use Rattle.operation_rules.specs.Sound as sound
use Rattle.operation_rules.specs.Sound.{IsSetting}
use Rattle.operation_rules.specs.declared.operation.Operation.{Operation}
use Rattle.operation_rules.specs.declared.rule.Rule.{Rule}
use Rattle.operation_rules.proofs.RuleFacts.{filled_ok}
use Rattle.typed_core.specs.Constructs.{setting_of, types_by, state_by}
use Rattle.typed_core.specs.Growth.{NamesSoFar, SidesNamed, Grown}
use Rattle.typed_core.specs.Limits.{by_rule}
use Rattle.typed_core.specs.SourceOperands.{no_cells}
use Rattle.typed_core.specs.SourceRuns.{Env}
use Rattle.typed_core.specs.SourceValues.{Value, Blocks, words_of, separate}
use Rattle.typed_core.specs.States.{Site, State}
use Rattle.typed_core.specs.Tests.{Sides, branched, on_side}
use Rattle.typed_core.proofs.Continued.{no_more}
use Rattle.typed_core.proofs.GrownContexts.{state_by_goes}
use Rattle.typed_core.proofs.NamedStates.{answered}
use Rattle.source_safety.specs.Values.{headers_of, HaveValues}
use Rattle.source_safety.specs.Standing.{VariablesHold, Stands, Goes, side_state}
use Rattle.source_safety.proofs.Demanded.{Acts, acts_by, by_rule_ok}
use Rattle.source_safety.proofs.EffectsFare.{effect_fares}
use Rattle.source_safety.proofs.FaredOn.{keeps_all}
use Rattle.source_safety.proofs.RuleTags.{IsFree}
use Rattle.std.proofs.lemmas.List.Elements.{All-nil}
use Rattle.xan_lin.specs.Value.{Holds}

-- a state behind an operation that gives nothing
pub record Stated (site : Site) (at : Option ℕ) (o : Operation) (types : List Ty) (st more : State) : Type 0 where
  pub given : List Ty
  pub by : Acts site at o types st given more

pub stated_by : (site : Site) (at : Option ℕ) (o : Operation) (types : List Ty) (st more : State) → state_by site at o types st ≡ Ok more → Stated site at o types st more
unfolding state_by
stated_by site at o types st more e =
    let s = then_ok (types_by site at o types st) _ more e in
    subst (λ m. Stated site at o types st m) (ok_same s.value.1 more s.second) (record { given = s.value.0; by = acts_by site at o types st s.value.0 s.value.1 s.first })

pub state_grown : (site : Site) (at : Option ℕ) (o : Operation) (types : List Ty) (st more : State) → state_by site at o types st ≡ Ok more → Grown st more
state_grown site at o types st more is = (answered (state_by site at o types st) more (state_by_goes site at o types st) is).grown

module _ (site : Site) (setting : IsSetting (setting_of site)) (env : Env) where
  -- the run stands on a side, whose rows hold
  stands_beside : (st side : State) (assignment : List ℤ) (store : Blocks) → Stands site st env assignment store → side.ctx.vars ≡ st.ctx.vars → side.types ≡ st.types → NamesSoFar side
      → AllHold assignment side.ctx.rows → Goes site side env assignment store store
  stands_beside st side assignment store stands vars types named hold = record {
    given = assignment;
    front = no_more assignment;
    stands = record {
      own = subst (λ n. site.own.vars ≤ n) (sym vars) stands.own;
      named = named;
      one_each = stands.one_each ∙ sym vars;
      hold = hold;
      typed = subst (λ ts. VariablesHold env (headers_of store) assignment ts) (sym types) stands.typed;
      holds = stands.holds;
    };
    keeps = keeps_all (headers_of store);
  }

  module _ (o : Operation) (types : List Ty) (st : State) (assignment : List ℤ) (store : Blocks) (vs : List Value) (stands : Stands site st env assignment store)
      (have : HaveValues (headers_of store) assignment vs types) (below : All (TypeBelow st.ctx.vars) types)
      (free : (r : Rule) → rule (setting_of site) o types st.ctx.vars ≡ Ok r → IsFree r) where
    -- what is known where it goes this way
    turned : (truth : Truth) → effect (separate no_cells) o (words_of vs) store ≡ Takes truth → (more : State) (it : Stated site None o types st more)
        → sound.Turns assignment st.ctx (record { demands = it.by.r.demands; ctx = more.ctx; types = it.given }) (side truth o types)
    turned truth takes more it =
        subst (λ done. sound.Fares (separate no_cells) (setting_of site) o types store assignment st.ctx (record { demands = it.by.r.demands; ctx = more.ctx; types = it.given }) done) takes
        (effect_fares site setting env no_cells None o types st it.given more it.by assignment store vs stands stands.holds.fits have below
        (subst (λ rows. AllHold assignment rows) (sym (free it.by.r it.by.is)) (All-nil (Holds assignment))))

    side_stands : (truth : Truth) → effect (separate no_cells) o (words_of vs) store ≡ Takes truth → (more : State) → Stated site None o types st more → (side_ctx : IndexContext)
        → all_assuming (side truth o types) more.ctx ≡ Ok side_ctx → NamesSoFar (on_side side_ctx.rows more) → Goes site (on_side side_ctx.rows more) env assignment store store
    side_stands truth takes more it side_ctx e named =
        let t = turned truth takes more it in
        let h = t.hold side_ctx (subst (λ c. all_assuming (side truth o types) c ≡ Ok side_ctx) t.same e) in
        stands_beside st (on_side side_ctx.rows more) assignment store stands (ap (λ c. c.vars) t.same) it.by.same named h.1

    pub branched_fares : (truth : Truth) → effect (separate no_cells) o (words_of vs) store ≡ Takes truth → (sides : Sides) → branched site o types st ≡ Ok sides → SidesNamed sides
        → Goes site (side_state truth sides) env assignment store store
    unfolding branched
    branched_fares truth takes sides e named =
        let s = then_ok (state_by site None o types st) _ sides e in
        let more = s.value in
        let y = then_ok (by_rule (filled (all_assuming (side true o types) more.ctx))) _ sides s.second in
        let n = then_ok (by_rule (filled (all_assuming (side false o types) more.ctx))) _ sides y.second in
        let made : Sides = record { on_true = y.value.rows; on_false = n.value.rows; after = more } in
        let same : made ≡ sides = ok_same made sides n.second in
        let it = stated_by site None o types st more s.first in
        let made_named : SidesNamed made = subst (λ x. SidesNamed x) (sym same) named in
        subst (λ x. Goes site (side_state truth x) env assignment store store) same
        (by_truth truth takes more it y.value n.value (filled_ok _ y.value (by_rule_ok _ y.value y.first)) (filled_ok _ n.value (by_rule_ok _ n.value n.first)) made_named)
      where
        by_truth : (truth : Truth) → effect (separate no_cells) o (words_of vs) store ≡ Takes truth → (more : State) → Stated site None o types st more → (top low : IndexContext)
            → all_assuming (side true o types) more.ctx ≡ Ok top → all_assuming (side false o types) more.ctx ≡ Ok low
            → SidesNamed (record { on_true = top.rows; on_false = low.rows; after = more })
            → Goes site (side_state truth (record { on_true = top.rows; on_false = low.rows; after = more })) env assignment store store
        by_truth true takes more it top low e f named = side_stands true takes more it top e (record { rows = named.on_true; types = named.types })
        by_truth false takes more it top low e f named = side_stands false takes more it low f (record { rows = named.on_false; types = named.types })

pub branched_grown : (site : Site) (o : Operation) (types : List Ty) (st : State) (sides : Sides) → branched site o types st ≡ Ok sides → Grown st sides.after
unfolding branched
branched_grown site o types st sides e =
    let s = then_ok (state_by site None o types st) _ sides e in
    let y = then_ok (by_rule (filled (all_assuming (side true o types) s.value.ctx))) _ sides s.second in
    let n = then_ok (by_rule (filled (all_assuming (side false o types) s.value.ctx))) _ sides y.second in
    subst (λ (x : Sides). Grown st x.after) (ok_same (record { on_true = y.value.rows; on_false = n.value.rows; after = s.value }) sides n.second)
    (state_grown site None o types st s.value s.first)

-- with the state behind it
pub record Branched (site : Site) (o : Operation) (types : List Ty) (st : State) : Type 0 where
  pub more : State
  pub it : Stated site None o types st more

pub branched_by : (site : Site) (o : Operation) (types : List Ty) (st : State) (sides : Sides) → branched site o types st ≡ Ok sides → Branched site o types st
unfolding branched
branched_by site o types st sides e =
    let s = then_ok (state_by site None o types st) _ sides e in
    record { more = s.value; it = stated_by site None o types st s.value s.first }
