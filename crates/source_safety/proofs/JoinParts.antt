-- What a join and a way into it are made of.
use Rattle.std.proofs.Common.{◌≡◌, ◌∙◌, ℕ, ◌+◌, List, [], ◌++◌, map, length, Bool as Truth, Option, Some, None, Result, Ok, refl, sym, ap, subst}
use Rattle.std.specs.List.{All, list_all}
use Rattle.index_sorts.specs.Context.{IndexContext}
use Rattle.index_sorts.specs.Entails.{Entails}
use Rattle.index_sorts.specs.declared.error.ContextError.{ContextError}
use Rattle.xan_lin.specs.Linear.{Linear}
use Rattle.xan_lin.specs.declared.term.TooLarge.{TooLarge}
use Rattle.state_types.specs.declared.matching.Found.{Found}
use Rattle.state_types.specs.declared.state.StateType.{StateType}
use Rattle.state_types.specs.declared.types.Ty.{Ty}
use Rattle.state_types.proofs.Thens.{then_ok, ok_same}
use Rattle.operation_rules.specs.Applied.{widened, all_assuming}
use Rattle.operation_rules.specs.Faults.{filled}
use Rattle.operation_rules.specs.Forms.{variables_from}
use Rattle.operation_rules.specs.Rules as rules
use Rattle.operation_rules.proofs.RuleFacts.{filled_ok}
use Rattle.xanadu_tree.specs.declared.stmt.Clause.{Clause}
use Rattle.typed_core.specs.Forms.{renamed}
use Rattle.typed_core.specs.Joins.{Renewed, few_places, renewed, renewing, stated_types, with_types, leading, first_past, Joint, naming_more, stating, joined, present, within_bounds, values_at, met_there, entered}
use Rattle.typed_core.specs.Limits.{by_rule, held}
use Rattle.typed_core.specs.States.{Site, State, resuming, with_fresh, assuming, none_asked, noting_state, matching}
use Rattle.typed_core.specs.Strays.{clause_rises, values_rise, row_below}
use Rattle.typed_core.proofs.NamedStates.{answered, widened_is}
use Rattle.source_safety.specs.Standing.{GoalsHold}
use Rattle.source_safety.proofs.Demanded.{asked_hold, by_rule_ok}

-- so many index variables more, and nothing else
pub record Widened (count : ℕ) (st more : State) : Type 0 where
  pub vars : more.ctx.vars ≡ st.ctx.vars + count
  pub rows : more.ctx.rows ≡ st.ctx.rows
  pub naming : more.naming ≡ st.naming

fresh_is : (count : ℕ) (st more : State) → with_fresh count st ≡ Ok more → Widened count st more
unfolding with_fresh
fresh_is count st more e =
    let s = then_ok (by_rule (filled (widened count st.ctx))) _ more e in
    let is = answered (widened count st.ctx) s.value (widened_is count st.ctx) (filled_ok (widened count st.ctx) s.value (by_rule_ok (filled (widened count st.ctx)) s.value s.first)) in
    subst (Widened count st) (ok_same _ more s.second) (record { vars = ap (λ c. c.vars) is; rows = ap (λ c. c.rows) is; naming = refl })

-- ---- the state

pub record IsJoined (site : Site) (clause : Clause) (changed : ℕ → Truth) (before : StateType) (latest : State) (p : Joint × State) : Type 0 where
  pub fresh : State
  pub rows : List (Result Linear TooLarge)
  pub known : State
  pub wanted : List (ℕ × Ty)
  pub kept : Renewed
  pub keeps : renewed changed clause.vars (latest.ctx.vars + clause.quant.count) before.places (record { types = []; others = [] }) ≡ kept
  pub widens : Widened (clause.quant.count + length kept.others) (resuming before.ctx.rows before.places latest) fresh
  pub renames : map (renamed (fresh.naming ++ variables_from clause.first latest.ctx.vars clause.quant.count) site.own.vars) clause.quant.rows ≡ rows
  pub assumes : all_assuming rows fresh.ctx ≡ Ok known.ctx
  pub naming : known.naming ≡ fresh.naming ++ variables_from clause.first latest.ctx.vars clause.quant.count
  pub states : stated_types known.naming site.own.vars clause.vars [] ≡ Ok wanted
  pub is : (let x : Joint × State = (
    record { first = latest.ctx.vars; count = clause.quant.count; wanted = wanted; rows = leading rows; past = first_past rows; others = kept.others },
    noting_state known.ctx.rows (record known { types = with_types wanted kept.types }),
  ) in x) ≡ p

-- a clause's rows, over the state where its index variables have names
record IsStating (naming : List (ℕ × Linear)) (own : ℕ) (clause : Clause) (st : State) (p : List (Result Linear TooLarge) × State) : Type 0 where
  renames : map (renamed naming own) clause.quant.rows ≡ p.0
  assumes : all_assuming p.0 st.ctx ≡ Ok p.1.ctx
  names : p.1.naming ≡ st.naming

stating_is : (naming : List (ℕ × Linear)) (own : ℕ) (clause : Clause) (st : State) (p : List (Result Linear TooLarge) × State) → stating naming own clause st ≡ Ok p
    → IsStating naming own clause st p
unfolding stating assuming
stating_is naming own clause st p e =
    let rows = map (renamed naming own) clause.quant.rows in
    let s = then_ok (held (values_rise 0 naming)) _ p e in
    let t = then_ok (held (clause_rises clause)) _ p s.second in
    let u = then_ok (held (list_all (row_below st.ctx.vars) rows)) _ p t.second in
    let v = then_ok (assuming rows st) _ p u.second in
    let w = then_ok (by_rule (filled (all_assuming rows st.ctx))) _ v.value v.first in
    let known = ok_same _ v.value w.second in
    subst (IsStating naming own clause st) (ok_same (rows, v.value) p v.second) (record {
      renames = refl;
      assumes = filled_ok (all_assuming rows st.ctx) w.value (by_rule_ok (filled (all_assuming rows st.ctx)) w.value w.first) ∙ ap (λ (s : State). let r : Result IndexContext ContextError = Ok s.ctx in r) known;
      names = ap (λ (s : State). s.naming) (sym known);
    })

record IsRenewing (clause : Clause) (changed : ℕ → Truth) (before : StateType) (latest : State) (p : Renewed × State) : Type 0 where
  keeps : renewed changed clause.vars (latest.ctx.vars + clause.quant.count) before.places (record { types = []; others = [] }) ≡ p.0
  widens : Widened (clause.quant.count + length p.0.others) (resuming before.ctx.rows before.places latest) p.1

renewing_is : (clause : Clause) (changed : ℕ → Truth) (before : StateType) (latest : State) (p : Renewed × State) → renewing clause changed before latest ≡ Ok p
    → IsRenewing clause changed before latest p
unfolding renewing
renewing_is clause changed before latest p e =
    let kept = renewed changed clause.vars (latest.ctx.vars + clause.quant.count) before.places (record { types = []; others = [] }) in
    let count = clause.quant.count + length kept.others in
    let start = resuming before.ctx.rows before.places latest in
    let s = then_ok (few_places before.places) _ p e in
    let t = then_ok (with_fresh count start) _ p s.second in
    subst (IsRenewing clause changed before latest) (ok_same (kept, t.value) p t.second) (record { keeps = refl; widens = fresh_is count start t.value t.first })

pub joined_is : (site : Site) (clause : Clause) (changed : ℕ → Truth) (before : StateType) (latest : State) (p : Joint × State) → joined site clause changed before latest ≡ Ok p
    → IsJoined site clause changed before latest p
unfolding joined
joined_is site clause changed before latest p e =
    let s = then_ok (renewing clause changed before latest) _ p e in
    let made = renewing_is clause changed before latest s.value s.first in
    let begun = naming_more (variables_from clause.first latest.ctx.vars clause.quant.count) s.value.1 in
    let t = then_ok (stating begun.naming site.own.vars clause begun) _ p s.second in
    let says = stating_is begun.naming site.own.vars clause begun t.value t.first in
    let u = then_ok (stated_types t.value.1.naming site.own.vars clause.vars []) _ p t.second in
    record {
      fresh = s.value.1;
      rows = t.value.0;
      known = t.value.1;
      wanted = u.value;
      kept = s.value.0;
      keeps = made.keeps;
      widens = made.widens;
      renames = says.renames;
      assumes = says.assumes;
      naming = says.names;
      states = u.first;
      is = ok_same _ p u.second;
    }

-- ---- a way in

pub record IsEntered (joint : Joint) (from : StateType) : Type 0 where
  pub actual : List Ty
  pub found : Found
  pub values : List (ℕ × Linear)
  pub presents : present from.places joint.wanted [] ≡ Ok actual
  pub matches : rules.matching joint.first (joint.first + joint.count) joint.rows (map (λ w. w.1) joint.wanted) actual ≡ Ok found
  pub bounded : joint.past ≡ None
  pub valued : values_at from.places (joint.first + joint.count) joint.others found.values ≡ Ok values
  pub entailed : All (Entails from.ctx.rows) found.rows

record IsMetThere (joint : Joint) (types : List (ℕ × Ty)) (p : List Ty × Found) : Type 0 where
  presents : present types joint.wanted [] ≡ Ok p.0
  matches : rules.matching joint.first (joint.first + joint.count) joint.rows (map (λ w. w.1) joint.wanted) p.0 ≡ Ok p.1

met_is : (joint : Joint) (types : List (ℕ × Ty)) (p : List Ty × Found) → met_there joint types ≡ Ok p → IsMetThere joint types p
unfolding met_there matching
met_is joint types p e =
    let wanted = map (λ w. w.1) joint.wanted in
    let s = then_ok (present types joint.wanted []) _ p e in
    let t = then_ok (matching joint.first (joint.first + joint.count) joint.rows wanted s.value) _ p s.second in
    subst (IsMetThere joint types) (ok_same (s.value, t.value) p t.second)
    (record { presents = s.first; matches = by_rule_ok (rules.matching joint.first (joint.first + joint.count) joint.rows wanted s.value) t.value t.first })

bounded_is : (past : Option TooLarge) (u : Unit {0}) → within_bounds past ≡ Ok u → past ≡ None
bounded_is None u e = refl
bounded_is (Some why) u e = absurd (let bad : ⊥ = cc in bad)

pub entered_is : (site : Site) (at : ℕ) (joint : Joint) (from : StateType) (st more : State) → entered site at joint from st ≡ Ok more → GoalsHold more.goals → IsEntered joint from
unfolding entered
entered_is site at joint from st more e goals =
    let s = then_ok (met_there joint from.places) _ more e in
    let met = met_is joint from.places s.value s.first in
    let t = then_ok (within_bounds joint.past) _ more s.second in
    let u = then_ok (values_at from.places (joint.first + joint.count) joint.others s.value.1.values) _ more t.second in
    let hold = subst (λ (m : State). GoalsHold m.goals) (sym (ok_same _ more u.second)) goals in
    record {
      actual = s.value.0;
      found = s.value.1;
      values = u.value;
      presents = met.presents;
      matches = met.matches;
      bounded = bounded_is joint.past t.value t.first;
      valued = u.first;
      entailed = (asked_hold site at from.ctx s.value.1.rows (none_asked st) hold).1;
    }
