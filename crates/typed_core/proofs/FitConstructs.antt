-- A construct whose operation has a rule that gives types of some kinds has types of these kinds, and changes no type of a variable.
use Rattle.std.proofs.Common.{ℕ, List, [], ◌∷◌, Option, Some, None}
use Rattle.std.specs.List.{list_all}
use Rattle.index_sorts.specs.Context.{IndexContext}
use Rattle.xan_lin.specs.Linear.{Linear}
use Rattle.state_types.specs.declared.types.Ty.{Ty}
use Rattle.operation_rules.specs.Applied.{widened, all_assuming, all_given}
use Rattle.operation_rules.specs.Faults.{filled, needed}
use Rattle.operation_rules.specs.Rules.{rule}
use Rattle.operation_rules.specs.declared.operation.Operation.{Operation}
use Rattle.operation_rules.specs.declared.rule.Rule.{Rule}
use Rattle.xanadu_tree.specs.declared.types.Kind.{Kind}
use Rattle.typed_core.specs.Constructs.{setting_of, followed, asking, types_by, first_type, type_by, state_by}
use Rattle.typed_core.specs.Limits.{by_rule, held}
use Rattle.typed_core.specs.States.{Site, State}
use Rattle.typed_core.specs.Strays.{type_below}
use Rattle.typed_core.proofs.LimitedAnswers.{Fits, Rules, then_answers, filled_rules, needed_rules, by_rule_fits, held_fits}
use Rattle.typed_core.proofs.TypeKinds.{IsOfKind, AreOfKinds}
use Rattle.typed_core.proofs.FitStates.{widened_full, all_assuming_full, demanding_keeps}
use Rattle.typed_core.proofs.FitRules.{GivesKinds, all_given_kinds}

followed_rules : (ks : List Kind) (r : Rule) (ctx : IndexContext) → GivesKinds ks r → Rules (λ p. AreOfKinds ks p.0) (followed r ctx)
unfolding followed
followed_rules ks r ctx gives =
    then_answers (filled (widened r.fresh ctx)) _ (filled_rules (widened r.fresh ctx) (widened_full r.fresh ctx))
    (λ wide u. then_answers (filled (all_assuming r.assumed wide)) _ (filled_rules (all_assuming r.assumed wide) (all_assuming_full r.assumed wide))
    (λ more v. then_answers (needed (all_given r.given)) _ (needed_rules (all_given r.given) (all_given_kinds ks r.given gives.are))
    (λ types are. record { is = are })))

first_fits : (k : Kind) (ts : List Ty) → AreOfKinds (k ∷ []) ts → Fits (IsOfKind k) (first_type ts)
first_fits k [] h = absurd h
first_fits k (t ∷ ts) h = record { is = h.0 }

-- whatever K is known of the types
module _ (K : List (ℕ × Ty) → Type 0) where
  asking_keeps : (site : Site) (at : Option ℕ) (rows : List Linear) (st : State) → K st.types → K (asking site at rows st).types
  asking_keeps site None rows st k = k
  asking_keeps site (Some at) rows st k = demanding_keeps K site at rows st k

  pub types_by_fits : (ks : List Kind) (site : Site) (at : Option ℕ) (op : Operation) (types : List Ty) (st : State)
      → Rules (GivesKinds ks) (rule (setting_of site) op types st.ctx.vars) → K st.types → Fits (λ r. AreOfKinds ks r.0 × K r.1.types) (types_by site at op types st)
  unfolding types_by
  types_by_fits ks site at op types st ruled k =
      then_answers (held (list_all (type_below st.ctx.vars) types)) _ (held_fits (list_all (type_below st.ctx.vars) types))
      (λ named u. then_answers (by_rule (rule (setting_of site) op types st.ctx.vars)) _ (by_rule_fits (rule (setting_of site) op types st.ctx.vars) ruled)
      (λ r gives. then_answers (by_rule (followed r st.ctx)) _ (by_rule_fits (followed r st.ctx) (followed_rules ks r st.ctx gives))
      (λ p are. record { is = (are, asking_keeps site at r.demands st k) })))

  pub type_by_fits : (j : Kind) (site : Site) (at : Option ℕ) (op : Operation) (types : List Ty) (st : State)
      → Rules (GivesKinds (j ∷ [])) (rule (setting_of site) op types st.ctx.vars) → K st.types → Fits (λ r. IsOfKind j r.0 × K r.1.types) (type_by site at op types st)
  unfolding type_by
  type_by_fits j site at op types st ruled k =
      then_answers (types_by site at op types st) _ (types_by_fits (j ∷ []) site at op types st ruled k)
      (λ r h. then_answers (first_type r.0) _ (first_fits j r.0 h.0) (λ t of_kind. record { is = (of_kind, h.1) }))

  pub state_by_fits : (site : Site) (at : Option ℕ) (op : Operation) (types : List Ty) (st : State)
      → Rules (GivesKinds []) (rule (setting_of site) op types st.ctx.vars) → K st.types → Fits (λ more. K more.types) (state_by site at op types st)
  unfolding state_by
  state_by_fits site at op types st ruled k =
      then_answers (types_by site at op types st) _ (types_by_fits [] site at op types st ruled k) (λ r h. record { is = h.1 })
