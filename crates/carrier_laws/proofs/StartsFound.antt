-- Where the body of a function begins: what elaboration knows there, and the first state type of the code.
use Rattle.std.proofs.Common.{◌≡◌, ◌∙◌, ℕ, suc, ◌+◌, ◌≤◌, ◌<◌, inl, inr, List, [], ◌∷◌, map, length, cond, Option, Some, Result, Ok, Err, refl, sym, ap, subst, arith}
use Rattle.std.specs.List.{AllByRecursion, list_all, enumerate_from}
use Rattle.index_sorts.specs.Context.{IndexContext}
use Rattle.index_sorts.specs.Known.{with_row}
use Rattle.index_sorts.specs.declared.error.ContextError.{ContextError}
use Rattle.index_sorts.specs.declared.error.ContextError.TheVariants as context_error
use Rattle.xan_lin.specs.Linear.{Linear}
use Rattle.xan_lin.specs.declared.term.LimitKind.TheVariants as limit
use Rattle.xan_lin.proofs.Booleans.{not_less}
use Rattle.xan_seq.specs.Rising.{KeysRise}
use Rattle.state_types.specs.Answers.{◌>>=◌}
use Rattle.state_types.specs.Unpacking.{with_rows}
use Rattle.state_types.specs.declared.closed.Packed.{Packed}
use Rattle.state_types.specs.declared.closed.Signature.{Signature}
use Rattle.state_types.specs.declared.state.StateType.{StateType}
use Rattle.state_types.specs.declared.types.Ty.{Ty}
use Rattle.state_types.proofs.Thens.{then_ok, ok_same}
use Rattle.operation_rules.specs.Applied.{all_assuming}
use Rattle.three_address.specs.Typing.{stated, numbered, Starts, state_of}
use Rattle.xanadu_tree.specs.BodyRules.{Point}
use Rattle.xanadu_tree.specs.IndexRules.{Reaches}
use Rattle.xanadu_tree.specs.KindRules.{Setting}
use Rattle.typed_core.specs.declared.goal.GoalAt.{GoalAt}
use Rattle.typed_core.specs.declared.note.Note.{Note}
use Rattle.typed_core.specs.Goals.{body_start}
use Rattle.typed_core.specs.Limits.{within, in_context, held}
use Rattle.typed_core.specs.States.{Site, State}
use Rattle.typed_core.specs.Strays.{form_below}
use Rattle.typed_core.proofs.NamedStates.{answered}
use Rattle.typed_core.proofs.RowsSoFar.{start_named}
use Rattle.source_safety.proofs.PlacesKnown.{IsAt}
use Rattle.carrier_laws.proofs.KeptStates.{Kept}
use Rattle.carrier_laws.proofs.NamesKept.{Keys}
use Rattle.carrier_laws.proofs.PlacesKept.{Place}
use Rattle.carrier_laws.proofs.RowsStand.{Behind, none_sound, with_rows_stand}
use Rattle.carrier_laws.proofs.RulesKept.{IsGood, IsGoodSignature}

-- ---- rows added in order

rows_stated : (rows : List Linear) (ctx : IndexContext) → all_assuming (map Ok rows) ctx ≡ with_rows ctx rows
unfolding all_assuming with_rows
rows_stated [] ctx = refl
rows_stated (row ∷ rows) ctx = by_first (with_row ctx row) (λ more. rows_stated rows more)
  where
    by_first : (m : Result IndexContext ContextError) → ((more : IndexContext) → all_assuming (map Ok rows) more ≡ with_rows more rows)
        → (m >>= (λ more. all_assuming (map Ok rows) more)) ≡ (m >>= (λ more. with_rows more rows))
    by_first (Ok more) later = later more
    by_first (Err why) later = refl

same_places : (from : ℕ) (types : List Ty) → enumerate_from from types ≡ numbered from types
unfolding numbered
same_places from [] = refl
same_places from (t ∷ types) = ap (λ es. (from, t) ∷ es) (same_places (from + 1) types ∙ ap (λ n. numbered n types) (let next : from + 1 ≡ suc from = omega arith in next))

places_rise : (low from : ℕ) (types : List Ty) → low ≤ from → KeysRise low (enumerate_from from types)
places_rise low from [] le = tt
places_rise low from (t ∷ types) le = (le, places_rise (suc from) (from + 1) types (omega arith))

places_good : (table : List Packed) (from : ℕ) (types : List Ty) → AllByRecursion (IsGood table) types → AllByRecursion (λ (e : ℕ × Ty). IsGood table e.1) (enumerate_from from types)
places_good table from [] all = tt
places_good table from (t ∷ types) all = (all.0, places_good table (from + 1) types all.1)

-- ---- the state

pub record IsStart (sig : Signature) (goals : List GoalAt) (notes : List Note) (start : State) : Type 0 where
  pub ctx : IndexContext
  pub made : with_rows (record { vars = sig.vars; rows = [] }) sig.rows ≡ Ok ctx
  pub is : (let s : State = record { ctx = ctx; types = enumerate_from 0 sig.params; naming = []; goals = goals; notes = notes } in s) ≡ start

context_ok : (m : Result IndexContext ContextError) (ctx : IndexContext) → in_context m ≡ Ok ctx → m ≡ Ok ctx
context_ok (Ok c) ctx e = ap (λ x. let r : Result IndexContext ContextError = Ok x in r) (ok_same c ctx e)
context_ok (Err why) ctx e = absurd (let bad : ⊥ = cc in bad)

pub start_is : (sig : Signature) (goals : List GoalAt) (notes : List Note) (start : State) → body_start sig goals notes ≡ Ok start → IsStart sig goals notes start
unfolding body_start
start_is sig goals notes start e =
    let begin : IndexContext = record { vars = sig.vars; rows = [] } in
    let s = then_ok (within limit.Parameters (length sig.params)) _ start e in
    let t = then_ok (held (list_all (form_below sig.vars) sig.rows)) _ start s.second in
    let u = then_ok (in_context (with_rows begin sig.rows)) _ start t.second in
    record { ctx = u.value; made = context_ok (with_rows begin sig.rows) u.value u.first; is = ok_same _ start u.second }

module _ (site : Site) (sig : Signature) (own : site.own ≡ sig) (goals : List GoalAt) (notes : List Note) (start : State) (begins : body_start sig goals notes ≡ Ok start)
    (good : IsGoodSignature site.table sig) (few : sig.vars ≤ 1024) where
  it : IsStart sig goals notes start
  it = start_is sig goals notes start begins

  behind : Behind (record { vars = sig.vars; rows = [] }) it.ctx
  behind = answered (with_rows (record { vars = sig.vars; rows = [] }) sig.rows) it.ctx (with_rows_stand sig.rows (record { vars = sig.vars; rows = [] }) good.rows none_sound) it.made

  pub start_vars : start.ctx.vars ≡ sig.vars
  start_vars = ap (λ (s : State). s.ctx.vars) (sym it.is) ∙ behind.vars

  kept_first : Kept site.table (record { ctx = it.ctx; types = enumerate_from 0 sig.params; naming = []; goals = goals; notes = notes })
  kept_first = record {
    rows = behind.sound;
    types = places_good site.table 0 sig.params good.params;
    rise = places_rise 0 0 sig.params (omega arith);
    few = (let v = behind.vars in omega (arith, v, few));
  }

  pub start_kept : Kept site.table start
  start_kept = subst (Kept site.table) it.is kept_first

  pub start_place : (set : Setting) (p : Point) (count : ℕ) → sig.vars ≡ count → p.indices ≡ count → p.reach ≡ record { first = 0; count = count } ∷ [] → IsAt set site.own.vars p start
      → Place set site p start
  start_place set p count vars indices reach at = record {
    known = record {
      kept = start_kept;
      keys = subst (λ vs. Keys site.own.vars p.indices vs) (ap (λ (s : State). s.naming) it.is) (record { from = (let o = ap (λ (s : Signature). s.vars) own in omega (arith, o, vars, indices)); within = tt });
      scope = record { each = λ v r. inl (in_own v (subst (λ rs. Reaches rs v) reach r)) };
    };
    named = start_named sig goals notes start begins;
    at = at;
  }
    where
      in_own : (v : ℕ) → Reaches (record { first = 0; count = count } ∷ []) v → v < site.own.vars
      in_own v (inl h) = (let lt = h.1 in let o = ap (λ (s : Signature). s.vars) own in omega (arith, lt, o, vars))
      in_own v (inr h) = absurd h

  -- ---- the first state type

  pub starts : (first : Option StateType) → first ≡ Some (state_of start.ctx start.types) → Starts sig first
  unfolding stated
  starts first is = record {
    ctx = it.ctx;
    is_stated =
        ap (λ b. cond b (let r : Result IndexContext ContextError = Err context_error.Variables in r) (Ok (let c : IndexContext = record { vars = sig.vars; rows = [] } in c)) >>= (λ c. all_assuming (map Ok sig.rows) c))
        (not_less 1024 sig.vars few)
        ∙ rows_stated sig.rows (record { vars = sig.vars; rows = [] }) ∙ it.made;
    is_first = is ∙ ap (λ (s : State). let o : Option StateType = Some (state_of s.ctx s.types) in o) (sym it.is) ∙ ap (λ es. let o : Option StateType = Some (state_of it.ctx es) in o) (same_places 0 sig.params);
  }
