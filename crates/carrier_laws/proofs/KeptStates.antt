-- What elaboration keeps of every state: its rows are forms and state themselves, its types are good, places rise, and variables are few.
-- Expressions and tests keep it.
use Rattle.std.proofs.Common.{◌≡◌, ℕ, ◌+◌, ◌≤◌, nat_lt, cond, List, [], ◌∷◌, Bool as Truth, true, false, Option, Some, None, Result, Ok, Err, refl, sym, subst, arith}
use Rattle.std.specs.List.{AllByRecursion}
use Rattle.index_sorts.specs.Context.{IndexContext, with_variables}
use Rattle.index_sorts.specs.declared.error.ContextError.{ContextError}
use Rattle.index_sorts.specs.declared.error.ContextError.TheVariants as context_error
use Rattle.xan_lin.specs.Linear.{Linear, IsForm}
use Rattle.xan_lin.specs.Subst.{zero_form}
use Rattle.xan_lin.specs.declared.term.TooLarge.{TooLarge}
use Rattle.xan_lin.proofs.Booleans.{is_not_less}
use Rattle.state_types.specs.Answers.{◌>>=◌}
use Rattle.state_types.specs.PlaceTypes.{type_at, PlacesRise}
use Rattle.state_types.specs.declared.closed.Packed.{Packed}
use Rattle.state_types.specs.declared.types.Ty.{Ty}
use Rattle.operation_rules.specs.Applied.{widened, all_assuming, all_given}
use Rattle.operation_rules.specs.Faults.{filled, needed}
use Rattle.operation_rules.specs.Rules.{rule}
use Rattle.operation_rules.specs.Sides.{side}
use Rattle.operation_rules.specs.declared.operation.Operation.{Operation}
use Rattle.operation_rules.specs.declared.rule.Rule.{Rule}
use Rattle.std.specs.List.{list_all}
use Rattle.xanadu_tree.specs.Plain as core
use Rattle.typed_core.specs.Constructs.{setting_of, followed, asking, types_by, state_by}
use Rattle.typed_core.specs.Limits.{by_rule, held}
use Rattle.typed_core.specs.Operands.{operand}
use Rattle.typed_core.specs.States.{Site, State, demanding, noting_state}
use Rattle.typed_core.specs.Strays.{type_below}
use Rattle.typed_core.specs.Tests.{Sides, branched, on_side, tested, all_true, all_false}
use Rattle.typed_core.proofs.Continued.{Goes}
use Rattle.typed_core.proofs.GrownContexts.{filled_goes, by_rule_goes}
use Rattle.typed_core.proofs.KnownTypes.{entry_at}
use Rattle.typed_core.proofs.LimitedAnswers.{then_answers, any_answer}
use Rattle.typed_core.proofs.NamedStates.{known_answer}
use Rattle.carrier_laws.proofs.OperandsWalked.{Keeps, state_walked, operand_walked, leaf_walked}
use Rattle.carrier_laws.proofs.RowsStand.{AreSound, assumed_stand}
use Rattle.carrier_laws.proofs.RulesKept.{IsGood, IsGoodIfAny, AreGood, MakesGood, rule_good, side_good}

pub record Kept (table : List Packed) (st : State) : Type 0 where
  pub rows : AreSound st.ctx.rows
  pub types : AllByRecursion (λ (e : ℕ × Ty). IsGood table e.1) st.types
  pub rise : PlacesRise 0 st.types
  pub few : st.ctx.vars ≤ 1024

pub zero_is_form : IsForm zero_form
zero_is_form = record { rising = tt; few = omega arith; small = refl; small_constant = refl }

-- ---- contexts

fresh_by : (b : Truth) (count : ℕ) (ctx : IndexContext) → nat_lt 1024 (ctx.vars + count) ≡ b
    → Goes (λ wide. (wide ≡ with_variables ctx count) × (wide.vars ≤ 1024))
    ((let r : Result ℕ ContextError = cond b (Err context_error.Variables) (Ok ctx.vars) in r) >>= (λ first. let r : Result IndexContext ContextError = Ok (with_variables ctx count) in r))
fresh_by true count ctx e = record { is = tt }
fresh_by false count ctx e = record { is = (refl, is_not_less 1024 (ctx.vars + count) e) }

pub widened_few : (count : ℕ) (ctx : IndexContext) → Goes (λ wide. (wide ≡ with_variables ctx count) × (wide.vars ≤ 1024)) (widened count ctx)
unfolding widened
widened_few count ctx = fresh_by (nat_lt 1024 (ctx.vars + count)) count ctx refl

needed_goes : {A : Type 0} {P : A → Type 0} (m : Result A TooLarge) → Goes P m → Goes P (needed m)
needed_goes (Ok x) h = record { is = h.is }
needed_goes (Err why) h = record { is = tt }

given_good : (table : List Packed) (ts : List (Result Ty TooLarge)) → AllByRecursion (IsGoodIfAny table) ts → Goes (AllByRecursion (IsGood table)) (all_given ts)
unfolding all_given
given_good table [] all = record { is = tt }
given_good table (t ∷ ts) all =
    then_answers t _ (one t all.0) (λ u g. then_answers (all_given ts) _ (given_good table ts all.1) (λ us h. record { is = (g, h) }))
  where
    one : (m : Result Ty TooLarge) → IsGoodIfAny table m → Goes (IsGood table) m
    one (Ok u) g = record { is = g }
    one (Err why) g = record { is = tt }

record GoesOn (table : List Packed) (p : List Ty × IndexContext) : Type 0 where
  rows : AreSound p.1.rows
  few : p.1.vars ≤ 1024
  types : AllByRecursion (IsGood table) p.0

followed_good : (table : List Packed) (r : Rule) (ctx : IndexContext) → MakesGood table r → AreSound ctx.rows → Goes (GoesOn table) (followed r ctx)
unfolding followed
followed_good table r ctx makes sound =
    then_answers (filled (widened r.fresh ctx)) _ (filled_goes (widened r.fresh ctx) (widened_few r.fresh ctx))
    (λ wide w. then_answers (filled (all_assuming r.assumed wide)) _
    (filled_goes (all_assuming r.assumed wide) (assumed_stand r.assumed wide makes.assumed (subst (λ (c : IndexContext). AreSound c.rows) (sym w.0) sound)))
    (λ more b. then_answers (needed (all_given r.given)) _ (needed_goes (all_given r.given) (given_good table r.given makes.given))
    (λ types g. record { is = record { rows = b.sound; few = (let v = b.vars in let f = w.1 in omega (arith, v, f)); types = g } })))

-- ---- constructs

module _ (site : Site) (are : AreGood site.table site.sigs) where
  abbrev Good : Ty → Type 0
  Good t = IsGood site.table t

  abbrev Well : State → Type 0
  Well st = Kept site.table st

  abbrev WellTyped : Ty × State → Type 0
  WellTyped r = Well r.1 × Good r.0

  abbrev AllWellTyped : List Ty × State → Type 0
  AllWellTyped r = Well r.1 × AllByRecursion Good r.0

  asked_kept : (at : Option ℕ) (rows : List Linear) (ctx : IndexContext) (st : State) → Well st → AreSound ctx.rows → ctx.vars ≤ 1024 → Well (record (asking site at rows st) { ctx = ctx })
  unfolding demanding
  asked_kept None rows ctx st k sound few = record { rows = sound; types = k.types; rise = k.rise; few = few }
  asked_kept (Some at) rows ctx st k sound few = record { rows = sound; types = k.types; rise = k.rise; few = few }

  pub types_kept : (at : Option ℕ) (op : Operation) (types : List Ty) (st : State) → Well st → AllByRecursion Good types → Goes AllWellTyped (types_by site at op types st)
  unfolding types_by
  types_kept at op types st k good =
      then_answers (held (list_all (type_below st.ctx.vars) types)) _ (any_answer (held (list_all (type_below st.ctx.vars) types)))
      (λ named u. then_answers (by_rule (rule (setting_of site) op types st.ctx.vars)) _
      (by_rule_goes (rule (setting_of site) op types st.ctx.vars) (known_answer (rule (setting_of site) op types st.ctx.vars)))
      (λ r is. then_answers (by_rule (followed r st.ctx)) _
      (by_rule_goes (followed r st.ctx) (followed_good site.table r st.ctx (rule_good (setting_of site) are op types st.ctx.vars r is good) k.rows))
      (λ p g. record { is = (asked_kept at r.demands p.1 st k g.rows g.few, g.types) })))

  place_good : (x : ℕ) (st : State) (t : Ty) → Well st → type_at x st.types ≡ Some t → Good t
  place_good x st t k e = entry_at (λ (p : ℕ × Ty). Good p.1) st.types x t k.types e

  keeps : Keeps site Good Well
  keeps = record { zero = (zero_is_form, tt); place = place_good; rule = types_kept }

  pub state_kept : (at : Option ℕ) (op : Operation) (types : List Ty) (st : State) → Well st → AllByRecursion Good types → Goes Well (state_by site at op types st)
  state_kept at op types st k good = state_walked site Good Well keeps at op types st k good

  pub operand_kept : (e : core.Expr) (st : State) → Well st → Goes WellTyped (operand site e st)
  operand_kept e st k = operand_walked site Good Well keeps e st k

  -- ---- tests

  pub record WellSides (sides : Sides) : Type 0 where
    pub on_true : AreSound sides.on_true
    pub on_false : AreSound sides.on_false
    pub after : Well sides.after

  branched_kept : (op : Operation) (types : List Ty) (st : State) → Well st → AllByRecursion Good types → Goes WellSides (branched site op types st)
  unfolding branched
  branched_kept op types st k good =
      then_answers (state_by site None op types st) _ (state_kept None op types st k good)
      (λ more h. then_answers (by_rule (filled (all_assuming (side true op types) more.ctx))) _
      (by_rule_goes (filled (all_assuming (side true op types) more.ctx)) (filled_goes (all_assuming (side true op types) more.ctx)
      (assumed_stand (side true op types) more.ctx (side_good (setting_of site) are true op types good) h.rows)))
      (λ one a. then_answers (by_rule (filled (all_assuming (side false op types) more.ctx))) _
      (by_rule_goes (filled (all_assuming (side false op types) more.ctx)) (filled_goes (all_assuming (side false op types) more.ctx)
      (assumed_stand (side false op types) more.ctx (side_good (setting_of site) are false op types good) h.rows)))
      (λ two b. record { is = record { on_true = a.sound; on_false = b.sound; after = h } })))

  pub side_kept : (rows : List Linear) (st : State) → AreSound rows → Well st → Well (on_side rows st)
  side_kept rows st sound k = record { rows = sound; types = k.types; rise = k.rise; few = k.few }

  pub noted_kept : (rows : List Linear) (st : State) → Well st → Well (noting_state rows st)
  unfolding noting_state
  noted_kept rows st k = record { rows = k.rows; types = k.types; rise = k.rise; few = k.few }

  mutual
    unfolding tested

    pub tested_kept : (test : core.Test) (st : State) → Well st → Goes WellSides (tested site test st)
    tested_kept (core.Leaf e) st k = leaf_walked site Good Well keeps WellSides branched_kept e st k
    tested_kept (core.All parts) st k =
        let begin : Sides = record { on_true = st.ctx.rows; on_false = st.ctx.rows; after = st } in
        then_answers (all_true site parts begin) _ (all_true_kept parts begin (record { on_true = k.rows; on_false = k.rows; after = k }))
        (λ last h. record { is = record { on_true = h.on_true; on_false = k.rows; after = noted_kept st.ctx.rows last.after h.after } })
    tested_kept (core.Any parts) st k =
        let begin : Sides = record { on_true = st.ctx.rows; on_false = st.ctx.rows; after = st } in
        then_answers (all_false site parts begin) _ (all_false_kept parts begin (record { on_true = k.rows; on_false = k.rows; after = k }))
        (λ last h. record { is = record { on_true = k.rows; on_false = h.on_false; after = noted_kept st.ctx.rows last.after h.after } })
    tested_kept (core.Not part) st k =
        then_answers (tested site part st) _ (tested_kept part st k) (λ sides h. record { is = record { on_true = h.on_false; on_false = h.on_true; after = h.after } })

    all_true_kept : (parts : core.Tests) (sides : Sides) → WellSides sides → Goes WellSides (all_true site parts sides)
    all_true_kept core.NoTest sides k = record { is = k }
    all_true_kept (core.ATest part others) sides k =
        then_answers (tested site part (on_side sides.on_true sides.after)) _ (tested_kept part (on_side sides.on_true sides.after) (side_kept sides.on_true sides.after k.on_true k.after))
        (λ more h. all_true_kept others more h)

    all_false_kept : (parts : core.Tests) (sides : Sides) → WellSides sides → Goes WellSides (all_false site parts sides)
    all_false_kept core.NoTest sides k = record { is = k }
    all_false_kept (core.ATest part others) sides k =
        then_answers (tested site part (on_side sides.on_false sides.after)) _ (tested_kept part (on_side sides.on_false sides.after) (side_kept sides.on_false sides.after k.on_false k.after))
        (λ more h. all_false_kept others more h)
