-- Expressions and tests under calls that are alike.
use Rattle.std.proofs.Common.{ℕ, ◌≤◌, Bool, true, false, [], ◌∷◌, arith}
use Rattle.std.specs.Prelude.{slice_get}
use Rattle.xanadu_tree.specs.Plain as core
use Rattle.typed_core.specs.SourceValues.{Number, Value, have_tags}
use Rattle.typed_core.specs.SourceRuns.{Run, Answer, Calls, Env}
use Rattle.typed_core.specs.SourceOperands.{value, values, chained}
use Rattle.typed_core.specs.SourceTests.{unless, holds, all_hold, any_holds}
use Rattle.typed_core.proofs.AlikeAnswers.{Alike, CallsAlike, ok_alike, alike_then, one_alike, if_alike, by_alike, read_alike, related_alike, decided_alike}

module _ {L : Type 0} (most : ℕ) (c d : Calls L) (calls : CallsAlike most c d) (env : Env) where
  mutual
    unfolding value

    pub value_alike : (e : core.Expr) (st : Run L) → st.units ≤ most → Alike most (value c env e st) (value d env e st)
    value_alike (core.Int n) st h = by_alike most _ _ _ _ st h
    value_alike (core.Bool b) st h = by_alike most _ _ _ _ st h
    value_alike (core.Var x) st h = read_alike most (slice_get env x) st h
    value_alike (core.Neg e) st h = alike_then most (value c env e st) (value d env e st) _ _ (value_alike e st h) (λ p k. by_alike most _ _ _ _ p.1 k)
    value_alike (core.Chain first rest) st h =
        alike_then most (value c env first st) (value d env first st) _ _ (value_alike first st h) (λ p k. chained_alike rest p.0 p.1 k)
    value_alike (core.Compare r left right) st h =
        alike_then most (value c env left st) (value d env left st) _ _ (value_alike left st h)
        (λ p k. alike_then most (value c env right p.1) (value d env right p.1) _ _ (value_alike right p.1 k) (λ q l. related_alike most r p.0 q.0 q.1 l))
    value_alike (core.Index array index at) st h =
        alike_then most (value c env array st) (value d env array st) _ _ (value_alike array st h)
        (λ p k. alike_then most (value c env index p.1) (value d env index p.1) _ _ (value_alike index p.1 k) (λ q l. by_alike most _ _ _ _ q.1 l))
    value_alike (core.Len array) st h = alike_then most (value c env array st) (value d env array st) _ _ (value_alike array st h) (λ p k. by_alike most _ _ _ _ p.1 k)
    value_alike (core.Call fun args at) st h =
        alike_then most (values c env args st) (values d env args st) _ _ (values_alike args st h) (λ p k. calls.by most (omega arith) fun p.0 p.1 k)
    value_alike (core.Make ty args at) st h =
        alike_then most (values c env args st) (values d env args st) _ _ (values_alike args st h) (λ p k. one_alike most _ p.1 _ k)
    value_alike (core.New ty len fill at) st h =
        alike_then most (value c env len st) (value d env len st) _ _ (value_alike len st h)
        (λ p k. alike_then most (value c env fill p.1) (value d env fill p.1) _ _ (value_alike fill p.1 k)
        (λ q l. if_alike most (have_tags (p.0 ∷ []) (Number ∷ [])) _ _ _ _ q.1 l))

    pub values_alike : (es : core.Exprs) (st : Run L) → st.units ≤ most → Alike most (values c env es st) (values d env es st)
    values_alike core.NoExpr st h = ok_alike most _ _ h
    values_alike (core.AnExpr e es) st h =
        alike_then most (value c env e st) (value d env e st) _ _ (value_alike e st h)
        (λ p k. alike_then most (values c env es p.1) (values d env es p.1) _ _ (values_alike es p.1 k) (λ q l. ok_alike most _ _ l))

    pub chained_alike : (links : core.Links) (left : Value) (st : Run L) → st.units ≤ most → Alike most (chained c env links left st) (chained d env links left st)
    chained_alike core.NoLink left st h = ok_alike most _ _ h
    chained_alike (core.ALink o e at others) left st h =
        alike_then most (value c env e st) (value d env e st) _ _ (value_alike e st h)
        (λ p k. alike_then most _ _ _ _ (by_alike most _ _ _ _ p.1 k) (λ q l. chained_alike others q.0 q.1 l))

  unless_alike : (go_on truth : Bool) (f g : Run L → Answer L Bool) (st : Run L) → st.units ≤ most → Alike most (f st) (g st)
      → Alike most (unless go_on truth f st) (unless go_on truth g st)
  unless_alike true true f g st h next = next
  unless_alike true false f g st h next = ok_alike most _ _ h
  unless_alike false true f g st h next = ok_alike most _ _ h
  unless_alike false false f g st h next = next

  mutual
    unfolding holds

    pub holds_alike : (t : core.Test) (st : Run L) → st.units ≤ most → Alike most (holds c env t st) (holds d env t st)
    holds_alike (core.Leaf e) st h = alike_then most (value c env e st) (value d env e st) _ _ (value_alike e st h) (λ p k. decided_alike most p.0 p.1 k)
    holds_alike (core.All parts) st h = all_hold_alike parts st h
    holds_alike (core.Any parts) st h = any_holds_alike parts st h
    holds_alike (core.Not part) st h = alike_then most (holds c env part st) (holds d env part st) _ _ (holds_alike part st h) (λ p k. ok_alike most _ _ k)

    all_hold_alike : (ts : core.Tests) (st : Run L) → st.units ≤ most → Alike most (all_hold c env ts st) (all_hold d env ts st)
    all_hold_alike core.NoTest st h = ok_alike most _ _ h
    all_hold_alike (core.ATest part others) st h =
        alike_then most (holds c env part st) (holds d env part st) _ _ (holds_alike part st h)
        (λ p k. unless_alike true p.0 (λ st. all_hold c env others st) (λ st. all_hold d env others st) p.1 k (all_hold_alike others p.1 k))

    any_holds_alike : (ts : core.Tests) (st : Run L) → st.units ≤ most → Alike most (any_holds c env ts st) (any_holds d env ts st)
    any_holds_alike core.NoTest st h = ok_alike most _ _ h
    any_holds_alike (core.ATest part others) st h =
        alike_then most (holds c env part st) (holds d env part st) _ _ (holds_alike part st h)
        (λ p k. unless_alike false p.0 (λ st. any_holds c env others st) (λ st. any_holds d env others st) p.1 k (any_holds_alike others p.1 k))
