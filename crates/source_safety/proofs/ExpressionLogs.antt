-- Of the log of an expression: what holds of it before holds behind, where calls from arguments that fit keep it so.
use Rattle.std.proofs.Common.{◌≡◌, ℕ, ℤ, List, [], ◌∷◌, ◌++◌, length, Some, None, Ok}
use Rattle.std.specs.Prelude.{slice_get}
use Rattle.xan_seq.specs.Answers.{◌>>=◌}
use Rattle.index_sorts.specs.Entails.{AllHold}
use Rattle.xan_lin.specs.Subst.{zero_form}
use Rattle.state_types.specs.declared.closed.Packed.{Packed}
use Rattle.state_types.specs.declared.closed.Signature.{Signature}
use Rattle.state_types.specs.declared.types.Ty.{Ty}
use Rattle.state_types.specs.declared.types.Ty.TheVariants as ty
use Rattle.state_types.proofs.Thens.{then_ok}
use Rattle.operation_rules.specs.Sound.{IsSetting}
use Rattle.operation_rules.specs.declared.operation.Operation.TheVariants as operation
use Rattle.xanadu_tree.specs.Plain as core
use Rattle.typed_core.specs.Constructs.{setting_of, type_by}
use Rattle.typed_core.specs.Operands.{operand, operands, chained}
use Rattle.typed_core.specs.Operators.{operation_of, demands_at, comparison_of, in_order}
use Rattle.typed_core.specs.SourceOperands as source
use Rattle.typed_core.specs.SourceOperands.{value, values, arithmetic}
use Rattle.typed_core.specs.SourceRuns.{Run, Answer, Env, Calls}
use Rattle.typed_core.specs.SourceValues.{Number, Value, have_tags}
use Rattle.typed_core.specs.States.{Site, State}
use Rattle.source_safety.specs.Values.{headers_of, HaveValues, StoreHolds}
use Rattle.source_safety.specs.Standing.{GoalsHold, Stands, CallsFare, Operands}
use Rattle.source_safety.proofs.BlocksFare.{call_enters}
use Rattle.source_safety.proofs.ExpressionsFare.{type_grown, expression_grown, expressions_grown, links_grown, grown_goals, no_operands, one_operand, more_operands, value_fares, values_fare}
use Rattle.source_safety.proofs.LogsKept.{Logs, logs_then, logs_next, one_logs, if_logs, by_logs, read_logs, related_logs}
use Rattle.source_safety.proofs.ValuesMade.{arithmetic_fares}

-- calls from arguments that fit keep it so
pub record CallsKeep {L : Type 0} (K : L → Type 0) (table : List Packed) (sigs : List Signature) (call : Calls L) : Type 0 where
  pub by : (fun : ℕ) (sig : Signature) (values : List ℤ) (vs : List Value) (run : Run L) → slice_get sigs fun ≡ Some sig → length values ≡ sig.vars → AllHold values sig.rows
      → HaveValues (headers_of run.store) values vs sig.params → StoreHolds table run.store → K run.log → Logs K (call fun vs run)

module _ {L : Type 0} (K : L → Type 0) (site : Site) (setting : IsSetting (setting_of site)) (call : Calls L) (calls : CallsFare site.table site.sigs call)
    (kept : CallsKeep K site.table site.sigs call) (env : Env) where
  -- two operands, and what is made of their values
  pub both_logs : (left right : core.Expr) (st : State) (t : Ty) (one : State) (u : Ty) (two : State) → operand site left st ≡ Ok (t, one) → operand site right one ≡ Ok (u, two)
      → GoalsHold two.goals → (assignment : List ℤ) (run : Run L) → Stands site st env assignment run.store → (makes : Value → Value → Run L → Answer L Value)
      → ((a b : Value) (new : Run L) → K new.log → Logs K (makes a b new)) → (GoalsHold one.goals → Logs K (value call env left run))
      → ((given : List ℤ) (now : Run L) → Stands site one env given now.store → K now.log → Logs K (value call env right now))
      → Logs K (value call env left run >>= (λ p. value call env right p.1 >>= (λ q. makes p.0 q.0 q.1)))
  both_logs left right st t one u two is then_is goals assignment run stands makes later first second =
      let hold = grown_goals one two (expression_grown site right one u two then_is) goals in
      logs_then (value call env left run) _ (value_fares site setting call calls env left st t one is hold assignment run stands) (first hold)
      (λ p g l. logs_next (value call env right p.1) _ (second g.goes.given p.1 g.goes.stands l) (λ q n. later p.0 q.0 q.1 n))

  mutual
    unfolding operand value

    pub value_logs : (e : core.Expr) (st : State) (t : Ty) (more : State) → operand site e st ≡ Ok (t, more) → GoalsHold more.goals
        → (assignment : List ℤ) (run : Run L) → Stands site st env assignment run.store → K run.log → Logs K (value call env e run)
    value_logs (core.Int n) st t more is goals assignment run stands k = by_logs K _ _ _ _ run k
    value_logs (core.Bool b) st t more is goals assignment run stands k = by_logs K _ _ _ _ run k
    value_logs (core.Var x) st t more is goals assignment run stands k = read_logs K (slice_get env x) run k
    value_logs (core.Neg e) st t more is goals assignment run stands k =
        let s = then_ok (operand site e st) _ (t, more) is in
        let one = s.value.1 in
        let rest = grown_goals one more (type_grown site None operation.Sub (ty.Int zero_form ∷ s.value.0 ∷ []) one t more s.second) goals in
        logs_next (value call env e run) _ (value_logs e st s.value.0 one s.first rest assignment run stands k) (λ p l. by_logs K _ _ _ _ p.1 l)
    value_logs (core.Chain first rest) st t more is goals assignment run stands k =
        let s = then_ok (operand site first st) _ (t, more) is in
        let one = s.value.1 in
        let hold = grown_goals one more (links_grown site rest s.value.0 one t more s.second) goals in
        logs_then (value call env first run) _ (value_fares site setting call calls env first st s.value.0 one s.first hold assignment run stands)
        (value_logs first st s.value.0 one s.first hold assignment run stands k)
        (λ p g l. chained_logs rest s.value.0 one t more s.second goals g.goes.given p.1 p.0 (one_operand site env one assignment run.store p.1.store s.value.0 p.0 g) l)
    value_logs (core.Compare r left right) st t more is goals assignment run stands k =
        let s = then_ok (operand site left st) _ (t, more) is in
        let one = s.value.1 in
        let u = then_ok (operand site right one) _ (t, more) s.second in
        let two = u.value.1 in
        let rest = grown_goals two more (type_grown site None (operation.Compare (comparison_of r)) (in_order r s.value.0 u.value.0) two t more u.second) goals in
        both_logs left right st s.value.0 one u.value.0 two s.first u.first rest assignment run stands _ (λ a b new l. related_logs K r a b new l)
        (λ hold. value_logs left st s.value.0 one s.first hold assignment run stands k) (λ given now there l. value_logs right one u.value.0 two u.first rest given now there l)
    value_logs (core.Index array index at) st t more is goals assignment run stands k =
        let s = then_ok (operand site array st) _ (t, more) is in
        let one = s.value.1 in
        let u = then_ok (operand site index one) _ (t, more) s.second in
        let two = u.value.1 in
        let rest = grown_goals two more (type_grown site (Some at) operation.Load (s.value.0 ∷ u.value.0 ∷ []) two t more u.second) goals in
        both_logs array index st s.value.0 one u.value.0 two s.first u.first rest assignment run stands _ (λ a b new l. by_logs K _ _ _ _ new l)
        (λ hold. value_logs array st s.value.0 one s.first hold assignment run stands k) (λ given now there l. value_logs index one u.value.0 two u.first rest given now there l)
    value_logs (core.Len array) st t more is goals assignment run stands k =
        let s = then_ok (operand site array st) _ (t, more) is in
        let one = s.value.1 in
        let rest = grown_goals one more (type_grown site None operation.Length (s.value.0 ∷ []) one t more s.second) goals in
        logs_next (value call env array run) _ (value_logs array st s.value.0 one s.first rest assignment run stands k) (λ p l. by_logs K _ _ _ _ p.1 l)
    value_logs (core.Call fun args at) st t more is goals assignment run stands k =
        let s = then_ok (operands site args [] st) _ (t, more) is in
        let one = s.value.1 in
        let rest = grown_goals one more (type_grown site (Some at) (operation.Call fun) s.value.0 one t more s.second) goals in
        let none = no_operands site env st assignment run.store stands in
        logs_then (values call env args run) _ (values_fare site setting call calls env args [] s.value.0 st one s.first rest assignment run [] none)
        (values_logs args [] s.value.0 st one s.first rest assignment run [] none k)
        (λ p g l.
        let it = call_enters site setting env one t more g.goes.given p.1 goals fun s.value.0 p.0 at (record { stands = g.goes.stands; have = g.have; below = g.below }) s.second in
        kept.by fun it.sig it.values p.0 p.1 it.there it.one_each it.hold it.have g.goes.stands.holds l)
    value_logs (core.Make made args at) st t more is goals assignment run stands k =
        let s = then_ok (operands site args [] st) _ (t, more) is in
        let one = s.value.1 in
        let rest = grown_goals one more (type_grown site (Some at) (operation.Tuple made) s.value.0 one t more s.second) goals in
        logs_next (values call env args run) _ (values_logs args [] s.value.0 st one s.first rest assignment run [] (no_operands site env st assignment run.store stands) k)
        (λ p l. one_logs K _ p.1 _ l)
    value_logs (core.New cells len fill at) st t more is goals assignment run stands k =
        let s = then_ok (operand site len st) _ (t, more) is in
        let one = s.value.1 in
        let u = then_ok (operand site fill one) _ (t, more) s.second in
        let two = u.value.1 in
        let rest = grown_goals two more (type_grown site (Some at) (operation.New cells) (s.value.0 ∷ u.value.0 ∷ []) two t more u.second) goals in
        both_logs len fill st s.value.0 one u.value.0 two s.first u.first rest assignment run stands _ (λ a b new l. if_logs K (have_tags (a ∷ []) (Number ∷ [])) _ _ _ _ new l)
        (λ hold. value_logs len st s.value.0 one s.first hold assignment run stands k) (λ given now there l. value_logs fill one u.value.0 two u.first rest given now there l)

    pub values_logs : (es : core.Exprs) (types all : List Ty) (st more : State) → operands site es types st ≡ Ok (all, more) → GoalsHold more.goals
        → (assignment : List ℤ) (run : Run L) (before : List Value) → Operands site st env assignment run.store types before → K run.log → Logs K (values call env es run)
    values_logs core.NoExpr types all st more is goals assignment run before it k = record { is = k }
    values_logs (core.AnExpr e es) types all st more is goals assignment run before it k =
        let s = then_ok (operand site e st) _ (all, more) is in
        let one = s.value.1 in
        let onward = expression_grown site e st s.value.0 one s.first in
        let rest = grown_goals one more (expressions_grown site es (types ++ s.value.0 ∷ []) one all more s.second) goals in
        logs_then (value call env e run) _ (value_fares site setting call calls env e st s.value.0 one s.first rest assignment run it.stands)
        (value_logs e st s.value.0 one s.first rest assignment run it.stands k)
        (λ p g l. logs_next (values call env es p.1) _ (values_logs es (types ++ s.value.0 ∷ []) all one more s.second goals g.goes.given p.1 (before ++ p.0 ∷ [])
        (more_operands site env st one assignment run.store p.1.store types before s.value.0 p.0 onward.later.vars it g) l)
        (λ q n. record { is = n }))

    pub chained_logs : (links : core.Links) (u : Ty) (st : State) (t : Ty) (more : State) → chained site links u st ≡ Ok (t, more) → GoalsHold more.goals
        → (assignment : List ℤ) (run : Run L) (left : Value) → Operands site st env assignment run.store (u ∷ []) (left ∷ []) → K run.log
        → Logs K (source.chained call env links left run)
    chained_logs core.NoLink u st t more is goals assignment run left it k = record { is = k }
    chained_logs (core.ALink o e at others) u st t more is goals assignment run left it k =
        let s = then_ok (operand site e st) _ (t, more) is in
        let one = s.value.1 in
        let v = then_ok (type_by site (demands_at o at) (operation_of o) (u ∷ s.value.0 ∷ []) one) _ (t, more) s.second in
        let two = v.value.1 in
        let later = grown_goals two more (links_grown site others v.value.0 two t more v.second) goals in
        let rest = grown_goals one two (type_grown site (demands_at o at) (operation_of o) (u ∷ s.value.0 ∷ []) one v.value.0 two v.first) later in
        let onward = expression_grown site e st s.value.0 one s.first in
        logs_then (value call env e run) _ (value_fares site setting call calls env e st s.value.0 one s.first rest assignment run it.stands)
        (value_logs e st s.value.0 one s.first rest assignment run it.stands k)
        (λ p g l. logs_then (arithmetic o left p.0 p.1) _
        (arithmetic_fares site setting env one v.value.0 two g.goes.given p.1 u s.value.0 left p.0
        (more_operands site env st one assignment run.store p.1.store (u ∷ []) (left ∷ []) s.value.0 p.0 onward.later.vars it g) o at v.first later)
        (by_logs K _ _ _ _ p.1 l)
        (λ q h n. chained_logs others v.value.0 two t more v.second goals h.goes.given q.1 q.0 (one_operand site env two g.goes.given p.1.store q.1.store v.value.0 q.0 h) n))
