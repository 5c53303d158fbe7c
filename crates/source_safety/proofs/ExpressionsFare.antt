-- Expressions go well: by one recursion over the expression, beside its elaboration.
use Rattle.std.proofs.Common.{◌≡◌, ℕ, ◌≤◌, ℤ, pos, List, [], ◌∷◌, ◌++◌, Option, Some, None, Ok, refl, sym, ap, subst, append_assoc}
use Rattle.std.specs.Prelude.{slice_get}
use Rattle.std.proofs.lemmas.List.Elements.{All-nil, All-head, All-push}
use Rattle.std.proofs.lemmas.List.{append-nil}
use Rattle.xan_lin.specs.Subst.{zero_form}
use Rattle.xan_lin.specs.Value.{value_of_terms}
use Rattle.state_types.specs.PlaceTypes.{type_at}
use Rattle.state_types.specs.Types.{TypeBelow}
use Rattle.state_types.specs.Words.{Headers}
use Rattle.state_types.specs.declared.types.Ty.{Ty}
use Rattle.state_types.specs.declared.types.Ty.TheVariants as ty
use Rattle.state_types.proofs.Edges.{type_at-all}
use Rattle.state_types.proofs.FormNames.{below-zero}
use Rattle.state_types.proofs.Thens.{then_ok, ok_same}
use Rattle.operation_rules.specs.Sound.{IsSetting}
use Rattle.operation_rules.specs.declared.operation.Operation.{Operation}
use Rattle.operation_rules.specs.declared.operation.Operation.TheVariants as operation
use Rattle.xanadu_tree.specs.declared.expr.Op.TheVariants as op
use Rattle.xanadu_tree.specs.Plain as core
use Rattle.typed_core.specs.Constructs.{setting_of, type_by}
use Rattle.typed_core.specs.Growth.{Grown}
use Rattle.typed_core.specs.Operands.{operand, operands, chained}
use Rattle.typed_core.specs.Operators.{operation_of, demands_at, comparison_of, in_order}
use Rattle.typed_core.specs.SourceOperands as source
use Rattle.typed_core.specs.SourceOperands.{value, values, read, arithmetic, related, cell_read, measured, tuple_made, array_made}
use Rattle.typed_core.specs.SourceRuns.{Run, Answer, Env, Calls}
use Rattle.typed_core.specs.SourceValues.{Value, Blocks, number}
use Rattle.typed_core.specs.States.{Site, State, there}
use Rattle.typed_core.proofs.GrownContexts.{type_by_goes}
use Rattle.typed_core.proofs.GrownOperands.{operand_goes, operands_go, chained_goes}
use Rattle.typed_core.proofs.NamedOperands.{one_below, two_below}
use Rattle.typed_core.proofs.NamedStates.{answered, all_more}
use Rattle.source_safety.specs.Values.{headers_of, HasValue, HaveValues}
use Rattle.source_safety.specs.Standing.{GoalsHold, Stands, Goes, Gives, GiveAll, CallsFare, Fares, Operands}
use Rattle.source_safety.proofs.BlocksFare.{load_fares, new_fares, tuple_fares, call_fares}
use Rattle.source_safety.proofs.Demanded.{goals_before}
use Rattle.source_safety.proofs.FaredOn.{fares_then, fares_on, stays_here, goes_on, goes_behind, still_have}
use Rattle.source_safety.proofs.ValuesMade.{literal_fares, truth_fares, measured_fares, arithmetic_fares, related_fares}

-- ---- the walk of elaboration

module _ (site : Site) where
  pub type_grown : (at : Option ℕ) (o : Operation) (types : List Ty) (st : State) (t : Ty) (more : State) → type_by site at o types st ≡ Ok (t, more) → Grown st more
  type_grown at o types st t more is = (answered (type_by site at o types st) (t, more) (type_by_goes site at o types st) is).grown

  pub expression_grown : (e : core.Expr) (st : State) (t : Ty) (more : State) → operand site e st ≡ Ok (t, more) → Grown st more
  expression_grown e st t more is = (answered (operand site e st) (t, more) (operand_goes site e st) is).grown

  pub expressions_grown : (es : core.Exprs) (before : List Ty) (st : State) (types : List Ty) (more : State) → operands site es before st ≡ Ok (types, more) → Grown st more
  expressions_grown es before st types more is = (answered (operands site es before st) (types, more) (operands_go site es before st) is).grown

  pub links_grown : (links : core.Links) (u : Ty) (st : State) (t : Ty) (more : State) → chained site links u st ≡ Ok (t, more) → Grown st more
  links_grown links u st t more is = (answered (chained site links u st) (t, more) (chained_goes site links u st) is).grown

pub grown_goals : (st more : State) → Grown st more → GoalsHold more.goals → GoalsHold st.goals
grown_goals st more grown hold = goals_before st.goals more.goals grown.later.goals hold

-- ---- operands that have their values

pub zero_has : (headers : Headers) (assignment : List ℤ) → HasValue headers assignment (number (pos 0)) (ty.Int zero_form)
unfolding value_of_terms
zero_has headers assignment = record { tagged = refl; typed = refl }

there_is : {A : Type 0} (o : Option A) (x : A) → there o ≡ Ok x → o ≡ Some x
there_is (Some y) x e = ap (λ z. let o : Option _ = Some z in o) (ok_same y x e)
there_is None x e = absurd (let bad : ⊥ = cc in bad)

have_more : (headers : Headers) (assignment : List ℤ) (vs : List Value) (ts : List Ty) (v : Value) (t : Ty) → HaveValues headers assignment vs ts → HasValue headers assignment v t
    → HaveValues headers assignment (vs ++ v ∷ []) (ts ++ t ∷ [])
have_more headers assignment [] [] v t have it = (it, tt)
have_more headers assignment [] (u ∷ us) v t have it = absurd have
have_more headers assignment (x ∷ xs) [] v t have it = absurd have
have_more headers assignment (x ∷ xs) (u ∷ us) v t have it = (have.0, have_more headers assignment xs us v t have.1 it)

module _ (site : Site) (env : Env) where
  pub no_operands : (st : State) (assignment : List ℤ) (store : Blocks) → Stands site st env assignment store → Operands site st env assignment store [] []
  no_operands st assignment store stands = record { stands = stands; have = tt; below = All-nil (TypeBelow st.ctx.vars) }

  pub one_operand : (more : State) (assignment : List ℤ) (old new : Blocks) (t : Ty) (v : Value) → (g : Gives site more env assignment old t v new)
      → Operands site more env g.goes.given new (t ∷ []) (v ∷ [])
  one_operand more assignment old new t v g = record { stands = g.goes.stands; have = (g.has, tt); below = one_below more.ctx.vars t g.below }

  -- one more behind those that wait
  pub more_operands : (st more : State) (assignment : List ℤ) (old new : Blocks) (types : List Ty) (vs : List Value) (t : Ty) (v : Value) → st.ctx.vars ≤ more.ctx.vars
      → Operands site st env assignment old types vs → (g : Gives site more env assignment old t v new)
      → Operands site more env g.goes.given new (types ++ t ∷ []) (vs ++ v ∷ [])
  more_operands st more assignment old new types vs t v le it g = record {
    stands = g.goes.stands;
    have = have_more (headers_of new) g.goes.given vs types v t (still_have site env st more assignment old new vs types it.stands.one_each it.below it.have g.goes) g.has;
    below = All-push (TypeBelow more.ctx.vars) types t (all_more st.ctx.vars more.ctx.vars types le it.below) g.below;
  }

  pub gives_behind : (st more : State) (assignment : List ℤ) (old middle new : Blocks) (t : Ty) (v : Value) → (first : Goes site st env assignment old middle)
      → Gives site more env first.given middle t v new → Gives site more env assignment old t v new
  unfolding goes_behind goes_on
  gives_behind st more assignment old middle new t v first g = record {
    goes = goes_behind site env st more assignment old middle new first g.goes;
    has = g.has;
    below = g.below;
  }

  all_behind : (st more : State) (assignment : List ℤ) (old middle new : Blocks) (types : List Ty) (vs : List Value) → (first : Goes site st env assignment old middle)
      → GiveAll site more env first.given middle types vs new → GiveAll site more env assignment old types vs new
  unfolding goes_behind goes_on
  all_behind st more assignment old middle new types vs first g = record {
    goes = goes_behind site env st more assignment old middle new first g.goes;
    have = g.have;
    below = g.below;
  }

-- ---- expressions

module _ {L : Type 0} (site : Site) (setting : IsSetting (setting_of site)) (call : Calls L) (calls : CallsFare site.table site.sigs call) (env : Env) where
  abbrev pub GivesBehind : (more : State) (assignment : List ℤ) (run : Run L) (t : Ty) → Value → Run L → Type 0
  GivesBehind more assignment run t v new = Gives site more env assignment run.store t v new.store

  abbrev GiveBehind : (more : State) (assignment : List ℤ) (run : Run L) (types : List Ty) (before : List Value) → List Value → Run L → Type 0
  GiveBehind more assignment run types before vs new = GiveAll site more env assignment run.store types (before ++ vs) new.store

  -- what comes behind a value goes on from there
  pub behind_first : (st more : State) (assignment : List ℤ) (run middle : Run L) (t : Ty) (m : Answer L Value) → (first : Goes site st env assignment run.store middle.store)
      → Fares (GivesBehind more first.given middle t) m → Fares (GivesBehind more assignment run t) m
  behind_first st more assignment run middle t m first fares =
      fares_on m (λ v new g. gives_behind site env st more assignment run.store middle.store new.store t v first g) fares

  variable_fares : (x : ℕ) (st : State) (t : Ty) → type_at x st.types ≡ Some t → (assignment : List ℤ) (run : Run L) → Stands site st env assignment run.store
      → Fares (GivesBehind st assignment run t) (read (slice_get env x) run)
  unfolding stays_here
  variable_fares x st t e assignment run stands =
      let it = stands.typed.by x t e in
      let below = type_at-all (λ (e : ℕ × Ty). TypeBelow st.ctx.vars e.1) x st.types t stands.named.types e in
      subst (λ o. Fares (GivesBehind st assignment run t) (read o run)) (sym it.there)
      (record { is = record { goes = stays_here site env st assignment run.store stands; has = it.has; below = below } })

  left_here : (st : State) (assignment : List ℤ) (run : Run L) (t : Ty) (v : Value) → Operands site st env assignment run.store (t ∷ []) (v ∷ []) → GivesBehind st assignment run t v run
  unfolding stays_here
  left_here st assignment run t v it =
      record { goes = stays_here site env st assignment run.store it.stands; has = it.have.0; below = All-head (TypeBelow st.ctx.vars) t [] it.below }

  nothing_more : (st : State) (assignment : List ℤ) (run : Run L) (types : List Ty) (before : List Value) → Operands site st env assignment run.store types before
      → GiveBehind st assignment run types before [] run
  unfolding stays_here
  nothing_more st assignment run types before it =
      subst (λ vs. GiveAll site st env assignment run.store types vs run.store) (sym (append-nil before))
      (record { goes = stays_here site env st assignment run.store it.stands; have = it.have; below = it.below })

  mutual
    unfolding operand value

    pub value_fares : (e : core.Expr) (st : State) (t : Ty) (more : State) → operand site e st ≡ Ok (t, more) → GoalsHold more.goals
        → (assignment : List ℤ) (run : Run L) → Stands site st env assignment run.store → Fares (GivesBehind more assignment run t) (value call env e run)
    value_fares (core.Int n) st t more is goals assignment run stands =
        literal_fares site setting env st t more assignment run n (no_operands site env st assignment run.store stands) is
    value_fares (core.Bool b) st t more is goals assignment run stands =
        truth_fares site setting env st t more assignment run b (no_operands site env st assignment run.store stands) is
    value_fares (core.Var x) st t more is goals assignment run stands =
        let s = then_ok (there (type_at x st.types)) _ (t, more) is in
        subst (λ (p : Ty × State). Fares (GivesBehind p.1 assignment run p.0) (read (slice_get env x) run)) (ok_same (s.value, st) (t, more) s.second)
        (variable_fares x st s.value (there_is (type_at x st.types) s.value s.first) assignment run stands)
    value_fares (core.Neg e) st t more is goals assignment run stands =
        let s = then_ok (operand site e st) _ (t, more) is in
        let one = s.value.1 in
        let rest = grown_goals one more (type_grown site None operation.Sub (ty.Int zero_form ∷ s.value.0 ∷ []) one t more s.second) goals in
        fares_then (value call env e run) _ (value_fares e st s.value.0 one s.first rest assignment run stands)
        (λ p g. behind_first one more assignment run p.1 t _ g.goes
        (arithmetic_fares site setting env one t more g.goes.given p.1 (ty.Int zero_form) s.value.0 (number (pos 0)) p.0
        (record { stands = g.goes.stands; have = (zero_has (headers_of p.1.store) g.goes.given, (g.has, tt)); below = two_below one.ctx.vars (ty.Int zero_form) s.value.0 (below-zero one.ctx.vars) g.below })
        op.Sub 0 s.second goals))
    value_fares (core.Chain first rest) st t more is goals assignment run stands =
        let s = then_ok (operand site first st) _ (t, more) is in
        let one = s.value.1 in
        fares_then (value call env first run) _ (value_fares first st s.value.0 one s.first (grown_goals one more (links_grown site rest s.value.0 one t more s.second) goals) assignment run stands)
        (λ p g. behind_first one more assignment run p.1 t _ g.goes
        (chained_fares rest s.value.0 one t more s.second goals g.goes.given p.1 p.0 (one_operand site env one assignment run.store p.1.store s.value.0 p.0 g)))
    value_fares (core.Compare r left right) st t more is goals assignment run stands =
        let s = then_ok (operand site left st) _ (t, more) is in
        let one = s.value.1 in
        let u = then_ok (operand site right one) _ (t, more) s.second in
        let two = u.value.1 in
        let rest = grown_goals two more (type_grown site None (operation.Compare (comparison_of r)) (in_order r s.value.0 u.value.0) two t more u.second) goals in
        let onward = expression_grown site right one u.value.0 two u.first in
        fares_then (value call env left run) _ (value_fares left st s.value.0 one s.first (grown_goals one two onward rest) assignment run stands)
        (λ p g. behind_first one more assignment run p.1 t _ g.goes
        (fares_then (value call env right p.1) _ (value_fares right one u.value.0 two u.first rest g.goes.given p.1 g.goes.stands)
        (λ q h. behind_first two more g.goes.given p.1 q.1 t _ h.goes
        (related_fares site setting env two t more h.goes.given q.1 r s.value.0 u.value.0 p.0 q.0
        (more_operands site env one two g.goes.given p.1.store q.1.store (s.value.0 ∷ []) (p.0 ∷ []) u.value.0 q.0 onward.later.vars
        (one_operand site env one assignment run.store p.1.store s.value.0 p.0 g) h) u.second))))
    value_fares (core.Index array index at) st t more is goals assignment run stands =
        let s = then_ok (operand site array st) _ (t, more) is in
        let one = s.value.1 in
        let u = then_ok (operand site index one) _ (t, more) s.second in
        let two = u.value.1 in
        let rest = grown_goals two more (type_grown site (Some at) operation.Load (s.value.0 ∷ u.value.0 ∷ []) two t more u.second) goals in
        let onward = expression_grown site index one u.value.0 two u.first in
        fares_then (value call env array run) _ (value_fares array st s.value.0 one s.first (grown_goals one two onward rest) assignment run stands)
        (λ p g. behind_first one more assignment run p.1 t _ g.goes
        (fares_then (value call env index p.1) _ (value_fares index one u.value.0 two u.first rest g.goes.given p.1 g.goes.stands)
        (λ q h. behind_first two more g.goes.given p.1 q.1 t _ h.goes
        (load_fares site setting env two t more h.goes.given q.1 goals s.value.0 u.value.0 p.0 q.0 at
        (more_operands site env one two g.goes.given p.1.store q.1.store (s.value.0 ∷ []) (p.0 ∷ []) u.value.0 q.0 onward.later.vars
        (one_operand site env one assignment run.store p.1.store s.value.0 p.0 g) h) u.second))))
    value_fares (core.Len array) st t more is goals assignment run stands =
        let s = then_ok (operand site array st) _ (t, more) is in
        let one = s.value.1 in
        let rest = grown_goals one more (type_grown site None operation.Length (s.value.0 ∷ []) one t more s.second) goals in
        fares_then (value call env array run) _ (value_fares array st s.value.0 one s.first rest assignment run stands)
        (λ p g. behind_first one more assignment run p.1 t _ g.goes
        (measured_fares site setting env one t more g.goes.given p.1 s.value.0 p.0 (one_operand site env one assignment run.store p.1.store s.value.0 p.0 g) s.second))
    value_fares (core.Call fun args at) st t more is goals assignment run stands =
        let s = then_ok (operands site args [] st) _ (t, more) is in
        let one = s.value.1 in
        let rest = grown_goals one more (type_grown site (Some at) (operation.Call fun) s.value.0 one t more s.second) goals in
        fares_then (values call env args run) _ (values_fare args [] s.value.0 st one s.first rest assignment run [] (no_operands site env st assignment run.store stands))
        (λ p g. behind_first one more assignment run p.1 t _ g.goes
        (call_fares site setting env one t more g.goes.given p.1 goals call calls fun s.value.0 p.0 at (record { stands = g.goes.stands; have = g.have; below = g.below }) s.second))
    value_fares (core.Make made args at) st t more is goals assignment run stands =
        let s = then_ok (operands site args [] st) _ (t, more) is in
        let one = s.value.1 in
        let rest = grown_goals one more (type_grown site (Some at) (operation.Tuple made) s.value.0 one t more s.second) goals in
        fares_then (values call env args run) _ (values_fare args [] s.value.0 st one s.first rest assignment run [] (no_operands site env st assignment run.store stands))
        (λ p g. behind_first one more assignment run p.1 t _ g.goes
        (tuple_fares site setting env one t more g.goes.given p.1 goals made s.value.0 p.0 at (record { stands = g.goes.stands; have = g.have; below = g.below }) s.second))
    value_fares (core.New cells len fill at) st t more is goals assignment run stands =
        let s = then_ok (operand site len st) _ (t, more) is in
        let one = s.value.1 in
        let u = then_ok (operand site fill one) _ (t, more) s.second in
        let two = u.value.1 in
        let rest = grown_goals two more (type_grown site (Some at) (operation.New cells) (s.value.0 ∷ u.value.0 ∷ []) two t more u.second) goals in
        let onward = expression_grown site fill one u.value.0 two u.first in
        fares_then (value call env len run) _ (value_fares len st s.value.0 one s.first (grown_goals one two onward rest) assignment run stands)
        (λ p g. behind_first one more assignment run p.1 t _ g.goes
        (fares_then (value call env fill p.1) _ (value_fares fill one u.value.0 two u.first rest g.goes.given p.1 g.goes.stands)
        (λ q h. behind_first two more g.goes.given p.1 q.1 t _ h.goes
        (new_fares site setting env two t more h.goes.given q.1 goals cells s.value.0 u.value.0 p.0 q.0 at
        (more_operands site env one two g.goes.given p.1.store q.1.store (s.value.0 ∷ []) (p.0 ∷ []) u.value.0 q.0 onward.later.vars
        (one_operand site env one assignment run.store p.1.store s.value.0 p.0 g) h) u.second))))

    pub values_fare : (es : core.Exprs) (types all : List Ty) (st more : State) → operands site es types st ≡ Ok (all, more) → GoalsHold more.goals
        → (assignment : List ℤ) (run : Run L) (before : List Value) → Operands site st env assignment run.store types before
        → Fares (GiveBehind more assignment run all before) (values call env es run)
    values_fare core.NoExpr types all st more is goals assignment run before it =
        subst (λ (p : List Ty × State). Fares (GiveBehind p.1 assignment run p.0 before) (values call env core.NoExpr run)) (ok_same (types, st) (all, more) is)
        (record { is = nothing_more st assignment run types before it })
    values_fare (core.AnExpr e es) types all st more is goals assignment run before it =
        let s = then_ok (operand site e st) _ (all, more) is in
        let one = s.value.1 in
        let onward = expression_grown site e st s.value.0 one s.first in
        let rest = grown_goals one more (expressions_grown site es (types ++ s.value.0 ∷ []) one all more s.second) goals in
        fares_then (value call env e run) _ (value_fares e st s.value.0 one s.first rest assignment run it.stands)
        (λ p g. fares_then (values call env es p.1) _ (values_fare es (types ++ s.value.0 ∷ []) all one more s.second goals g.goes.given p.1 (before ++ p.0 ∷ [])
        (more_operands site env st one assignment run.store p.1.store types before s.value.0 p.0 onward.later.vars it g))
        (λ q h. record {
          is = subst (λ vs. GiveAll site more env assignment run.store all vs q.1.store) (append_assoc before (p.0 ∷ []) q.0)
              (all_behind site env one more assignment run.store p.1.store q.1.store all ((before ++ p.0 ∷ []) ++ q.0) g.goes h);
        }))

    pub chained_fares : (links : core.Links) (u : Ty) (st : State) (t : Ty) (more : State) → chained site links u st ≡ Ok (t, more) → GoalsHold more.goals
        → (assignment : List ℤ) (run : Run L) (left : Value) → Operands site st env assignment run.store (u ∷ []) (left ∷ [])
        → Fares (GivesBehind more assignment run t) (source.chained call env links left run)
    chained_fares core.NoLink u st t more is goals assignment run left it =
        subst (λ (p : Ty × State). Fares (GivesBehind p.1 assignment run p.0) (source.chained call env core.NoLink left run)) (ok_same (u, st) (t, more) is)
        (record { is = left_here st assignment run u left it })
    chained_fares (core.ALink o e at others) u st t more is goals assignment run left it =
        let s = then_ok (operand site e st) _ (t, more) is in
        let one = s.value.1 in
        let v = then_ok (type_by site (demands_at o at) (operation_of o) (u ∷ s.value.0 ∷ []) one) _ (t, more) s.second in
        let two = v.value.1 in
        let later = grown_goals two more (links_grown site others v.value.0 two t more v.second) goals in
        let rest = grown_goals one two (type_grown site (demands_at o at) (operation_of o) (u ∷ s.value.0 ∷ []) one v.value.0 two v.first) later in
        let onward = expression_grown site e st s.value.0 one s.first in
        fares_then (value call env e run) _ (value_fares e st s.value.0 one s.first rest assignment run it.stands)
        (λ p g. behind_first one more assignment run p.1 t _ g.goes
        (fares_then (arithmetic o left p.0 p.1) _
        (arithmetic_fares site setting env one v.value.0 two g.goes.given p.1 u s.value.0 left p.0
        (more_operands site env st one assignment run.store p.1.store (u ∷ []) (left ∷ []) s.value.0 p.0 onward.later.vars it g) o at v.first later)
        (λ q h. behind_first two more g.goes.given p.1 q.1 t _ h.goes
        (chained_fares others v.value.0 two t more v.second goals h.goes.given q.1 q.0 (one_operand site env two g.goes.given p.1.store q.1.store v.value.0 q.0 h)))))
