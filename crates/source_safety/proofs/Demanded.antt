-- What elaboration gives of an operation: its rule, applied, and rows that hold where all goals do.
use Rattle.std.proofs.Common.{◌≡◌, ℕ, ℤ, List, [], ◌∷◌, ◌++◌, Bool as Truth, true, false, Option, Some, Ok, Err, refl, ap, subst}
use Rattle.std.specs.List.{All, list_all}
use Rattle.std.proofs.lemmas.List.Elements.{All-nil, All-cons, All-head, All-tail}
use Rattle.index_sorts.specs.Context.{IndexContext}
use Rattle.index_sorts.specs.Entails.{Entails, AllHold}
use Rattle.std.specs.Bool.{Decides}
use Rattle.index_sorts.specs.Known.{IsKnown, knows}
use Rattle.index_sorts.proofs.KnownRows.{Decides-knows, known-entailed}
use Rattle.xan_lin.specs.Linear.{Linear}
use Rattle.state_types.specs.declared.types.Ty.{Ty}
use Rattle.state_types.proofs.Thens.{then_ok, ok_same}
use Rattle.operation_rules.specs.Applied.{applied}
use Rattle.operation_rules.specs.Faults.{Ruling}
use Rattle.operation_rules.specs.Rules.{rule}
use Rattle.operation_rules.specs.declared.rule.Rule.{Rule}
use Rattle.operation_rules.specs.declared.operation.Operation.{Operation}
use Rattle.typed_core.specs.Constructs.{setting_of, followed, asking, types_by}
use Rattle.typed_core.specs.Growth.{Continues}
use Rattle.typed_core.specs.Limits.{by_rule, held}
use Rattle.typed_core.specs.States.{Site, State, Asked, asked, all_asked, none_asked, demanding, in_ctx}
use Rattle.typed_core.specs.Strays.{type_below}
use Rattle.typed_core.specs.declared.goal.GoalAt.{GoalAt}
use Rattle.typed_core.proofs.FollowedApplied.{followed_is_applied}
use Rattle.source_safety.specs.Standing.{GoalsHold}

-- ---- goals

front_holds : {X : Type 0} (P : X → Type 0) (xs ys : List X) → All P (xs ++ ys) → All P xs
front_holds P [] ys all = All-nil P
front_holds P (x ∷ xs) ys all = All-cons P x xs (All-head P x (xs ++ ys) all) (front_holds P xs ys (All-tail P x (xs ++ ys) all))

last_holds : {X : Type 0} (P : X → Type 0) (xs : List X) (y : X) → All P (xs ++ y ∷ []) → P y
last_holds P [] y all = All-head P y [] all
last_holds P (x ∷ xs) y all = last_holds P xs y (All-tail P x (xs ++ y ∷ []) all)

abbrev IsEntailed : GoalAt → Type 0
IsEntailed g = Entails g.ctx.rows g.row

-- goals of the part hold where all do
pub goals_before : (before more : List GoalAt) → Continues before more → GoalsHold more → GoalsHold before
goals_before before more continues hold = front_holds IsEntailed before continues.rest (subst GoalsHold continues.is hold)

decided_true : (P : Type 0) → Decides true P → P
decided_true P d = d.0 refl

one_asked : (known : Truth) (ctx : IndexContext) (row : Linear) (goal : GoalAt) (made : Asked) → knows ctx row ≡ known → goal.ctx ≡ ctx → goal.row ≡ row
    → GoalsHold (asked known goal made).goals → GoalsHold made.goals × Entails ctx.rows row
one_asked true ctx row goal made is at of hold = (hold, known-entailed ctx row (decided_true (IsKnown ctx row) (subst (λ b. Decides b (IsKnown ctx row)) is (Decides-knows ctx row))))
one_asked false ctx row goal made is at of hold = (
  front_holds IsEntailed made.goals (goal ∷ []) hold,
  subst (λ r. Entails ctx.rows r) of (subst (λ c. Entails c.rows goal.row) at (last_holds IsEntailed made.goals goal hold)),
)

pub asked_hold : (site : Site) (at : ℕ) (ctx : IndexContext) (rows : List Linear) (made : Asked) → GoalsHold (all_asked site at ctx rows made).goals
    → GoalsHold made.goals × All (Entails ctx.rows) rows
unfolding all_asked
asked_hold site at ctx [] made hold = (hold, All-nil (Entails ctx.rows))
asked_hold site at ctx (row ∷ rows) made hold =
    let goal : GoalAt = record { fun = site.fun; at = at; ctx = ctx; row = row } in
    let later = asked_hold site at ctx rows (asked (knows ctx row) goal made) hold in
    let here = one_asked (knows ctx row) ctx row goal made refl refl refl later.0 in
    (here.0, All-cons (Entails ctx.rows) row rows here.1 later.1)

pub entailed_hold : (assignment : List ℤ) (context rows : List Linear) → AllHold assignment context → All (Entails context) rows → AllHold assignment rows
entailed_hold assignment context rows hold all = λ k d h. (all k d h).follows assignment hold

-- ---- an operation

pub by_rule_ok : {A : Type 0} (m : Ruling A) (x : A) → by_rule m ≡ Ok x → m ≡ Ok x
by_rule_ok (Ok y) x e = ap (λ z. let r : Ruling _ = Ok z in r) (ok_same y x e)
by_rule_ok (Err f) x e = absurd (let bad : ⊥ = cc in bad)

pub record Acts (site : Site) (at : Option ℕ) (o : Operation) (types : List Ty) (st : State) (given : List Ty) (more : State) : Type 0 where
  pub r : Rule
  pub is : rule (setting_of site) o types st.ctx.vars ≡ Ok r
  pub does : applied r st.ctx ≡ Ok (record { demands = r.demands; ctx = more.ctx; types = given })
  pub asks : more.goals ≡ (asking site at r.demands st).goals
  pub same : more.types ≡ (asking site at r.demands st).types

acts_as : (site : Site) (at : Option ℕ) (o : Operation) (types : List Ty) (st : State) (r : Rule) (ctx : IndexContext) (given : List Ty) (more : State)
    → rule (setting_of site) o types st.ctx.vars ≡ Ok r → followed r st.ctx ≡ Ok (given, ctx) → in_ctx ctx (asking site at r.demands st) ≡ more
    → Acts site at o types st given more
acts_as site at o types st r ctx given more is follows e =
    subst (λ s. Acts site at o types st given s) e (record { r = r; is = is; does = followed_is_applied r st.ctx ctx given follows; asks = refl; same = refl })

pub acts_by : (site : Site) (at : Option ℕ) (o : Operation) (types : List Ty) (st : State) (given : List Ty) (more : State) → types_by site at o types st ≡ Ok (given, more)
    → Acts site at o types st given more
unfolding types_by
acts_by site at o types st given more e =
    let s = then_ok (held (list_all (type_below st.ctx.vars) types)) _ (given, more) e in
    let t = then_ok (by_rule (rule (setting_of site) o types st.ctx.vars)) _ (given, more) s.second in
    let u = then_ok (by_rule (followed t.value st.ctx)) _ (given, more) t.second in
    let same = ok_same (u.value.0, in_ctx u.value.1 (asking site at t.value.demands st)) (given, more) u.second in
    let is = by_rule_ok (rule (setting_of site) o types st.ctx.vars) t.value t.first in
    let follows = by_rule_ok (followed t.value st.ctx) u.value u.first in
    acts_as site at o types st t.value u.value.1 given more is (subst (λ g. followed t.value st.ctx ≡ Ok (g, u.value.1)) (ap (λ p. p.0) same) follows) (ap (λ p. p.1) same)

-- what is asked holds, where it is noted at a place
pub demands_hold : (site : Site) (at : ℕ) (rows : List Linear) (st : State) (assignment : List ℤ) → GoalsHold (asking site (Some at) rows st).goals
    → AllHold assignment st.ctx.rows → AllHold assignment rows
unfolding demanding
demands_hold site at rows st assignment hold context =
    entailed_hold assignment st.ctx.rows rows context (asked_hold site at st.ctx rows (none_asked st) hold).1
