-- Statements under calls that are alike, with two bounds that are both above the units left.
use Rattle.std.proofs.Common.{ℕ, zero, suc, ◌≤◌, ◌<◌, Bool, true, false, ◌∷◌, length, nat_lt, Some, None, arith}
use Rattle.xan_seq.specs.Answers.{◌>>=◌}
use Rattle.xanadu_tree.specs.Plain as core
use Rattle.typed_core.specs.SourceRuns.{Run, Answer, Calls, Env, Place, Recorder, Flow, Next, Gives, units_taken, spent}
use Rattle.typed_core.specs.SourceOperands.{value}
use Rattle.typed_core.specs.SourceTests.{holds}
use Rattle.typed_core.specs.SourceStatements.{set_variable, completes, behind, one_of_two, turned, turns, reached, statement, block}
use Rattle.typed_core.proofs.AlikeAnswers.{Alike, CallsAlike, fewer_calls, ok_alike, err_alike, looser, alike_then, set_alike, set_all_alike, parts_alike, cell_put_alike, printed_alike}
use Rattle.typed_core.proofs.AlikeOperands.{value_alike, holds_alike}

module _ {L : Type 0} where
  pub behind_alike : (most : ℕ) (flow : Flow) (f g : Env → Run L → Answer L Flow) (st : Run L) → st.units ≤ most
      → ((env : Env) → Alike most (f env st) (g env st)) → Alike most (behind flow f st) (behind flow g st)
  behind_alike most (Next env) f g st h next = next env
  behind_alike most (Gives v) f g st h next = ok_alike most _ _ h

  pub two_alike : (most : ℕ) (truth : Bool) (f g f' g' : Run L → Answer L Flow) (st : Run L) → Alike most (f st) (f' st) → Alike most (g st) (g' st)
      → Alike most (one_of_two truth f g st) (one_of_two truth f' g' st)
  two_alike most true f g f' g' st on_true on_false = on_true
  two_alike most false f g f' g' st on_true on_false = on_false

  -- where a unit is left, it is taken, and what follows has one unit less
  pub paid_alike : {A : Type 0} (most units : ℕ) (st : Run L) (f g : Unit {0} × Run L → Answer L A) → units ≤ most
      → ((less : ℕ) → less < units → less < most → (paid : Run L) → paid.units ≤ less → Alike less (f (tt, paid)) (g (tt, paid)))
      → Alike most (units_taken units st >>= f) (units_taken units st >>= g)
  paid_alike most zero st f g h next = err_alike most _
  paid_alike most (suc units) st f g h next =
      looser most units _ _ (omega (arith, h)) (next units (omega arith) (omega (arith, h)) (record st { units = units }) (omega arith))

  -- tests and bodies that are alike, up to so many units
  pub record TestsAlike (least : ℕ) (f g : Env → Run L → Answer L Bool) : Type 0 where
    pub by : (m : ℕ) → m ≤ least → (env : Env) (st : Run L) → st.units ≤ m → Alike m (f env st) (g env st)

  pub record BodiesAlike (least : ℕ) (f g : ℕ → Env → Run L → Answer L Flow) : Type 0 where
    pub by : (m b c : ℕ) → m ≤ least → m < b → m < c → (env : Env) (st : Run L) → st.units ≤ m → Alike m (f b env st) (g c env st)

  module _ (least : ℕ) (test test' : Env → Run L → Answer L Bool) (body body' : ℕ → Env → Run L → Answer L Flow)
      (tests : TestsAlike least test test') (bodies : BodiesAlike least body body') where
    turned_alike : (most b c : ℕ) → most ≤ least → most < suc b → most < suc c → (truth : Bool) (env : Env) (st : Run L) → st.units ≤ most
        → ((m : ℕ) → m ≤ least → m < b → m < c → (env : Env) (st : Run L) → st.units ≤ m → Alike m (turns test body b env st) (turns test' body' c env st))
        → Alike most (turned truth (body b) (turns test body b) env st) (turned truth (body' c) (turns test' body' c) env st)
    unfolding spent
    turned_alike most b c h low low' false env st k again = ok_alike most _ _ k
    turned_alike most b c h low low' true env st k again =
        paid_alike most st.units st _ _ k (λ m less lower paid l.
        alike_then m (body b env paid) (body' c env paid) _ _ (bodies.by m b c (omega (arith, lower, h)) (omega (arith, lower, low)) (omega (arith, lower, low')) env paid l)
        (λ p q. behind_alike m p.0 _ _ p.1 q (λ env. again m (omega (arith, lower, h)) (omega (arith, lower, low)) (omega (arith, lower, low')) env p.1 q)))

    pub turns_alike : (b c most : ℕ) → most ≤ least → most < b → most < c → (env : Env) (st : Run L) → st.units ≤ most
        → Alike most (turns test body b env st) (turns test' body' c env st)
    unfolding turns
    turns_alike zero c most h low low' env st k = absurd (omega (arith, low))
    turns_alike (suc b) zero most h low low' env st k = absurd (omega (arith, low'))
    turns_alike (suc b) (suc c) most h low low' env st k =
        alike_then most (test env st) (test' env st) _ _ (tests.by most h env st k)
        (λ p l. turned_alike most b c h low low' p.0 env p.1 l (λ m o s t env st u. turns_alike b c m o s t env st u))

module _ {L : Type 0} (recorder : Recorder L) (c d : Calls L) (fun : ℕ) where
  mutual
    unfolding statement

    pub statement_alike : (most b b' : ℕ) → CallsAlike most c d → most < b → most < b' → (place : Place) (s : core.Stmt) (env : Env) (st : Run L) → st.units ≤ most
        → Alike most (statement recorder c fun b place s env st) (statement recorder d fun b' place s env st)
    statement_alike most b b' calls low low' place (core.Set x e) env st h =
        alike_then most (value c env e st) (value d env e st) _ _ (value_alike most c d calls env e st h)
        (λ p k. alike_then most (set_variable env x p.0 p.1) (set_variable env x p.0 p.1) (λ q. completes q.0 q.1) (λ q. completes q.0 q.1)
        (set_alike most (nat_lt x (length env)) env x p.0 p.1 k) (λ q l. ok_alike most (Next q.0) q.1 l))
    statement_alike most b b' calls low low' place (core.Split xs e at) env st h =
        alike_then most (value c env e st) (value d env e st) _ _ (value_alike most c d calls env e st h)
        (λ p k. alike_then most _ _ _ _ (parts_alike most (length xs) p.0 p.1 k)
        (λ q l. alike_then most _ _ _ _ (set_all_alike most env xs q.0 q.1 l) (λ r m. ok_alike most _ _ m)))
    statement_alike most b b' calls low low' place (core.Store array index e at) env st h =
        alike_then most (value c env array st) (value d env array st) _ _ (value_alike most c d calls env array st h)
        (λ p k. alike_then most (value c env index p.1) (value d env index p.1) _ _ (value_alike most c d calls env index p.1 k)
        (λ q l. alike_then most (value c env e q.1) (value d env e q.1) _ _ (value_alike most c d calls env e q.1 l)
        (λ r m. alike_then most _ _ _ _ (cell_put_alike most p.0 q.0 r.0 r.1 m) (λ t n. ok_alike most _ _ n))))
    statement_alike most b b' calls low low' place (core.Do e) env st h =
        alike_then most (value c env e st) (value d env e st) _ _ (value_alike most c d calls env e st h) (λ p k. ok_alike most _ _ k)
    statement_alike most b b' calls low low' place (core.Print e) env st h =
        alike_then most (value c env e st) (value d env e st) _ _ (value_alike most c d calls env e st h)
        (λ p k. alike_then most _ _ _ _ (printed_alike most p.0 p.1 k) (λ q l. ok_alike most _ _ l))
    statement_alike most b b' calls low low' place (core.If test on_true on_false join at) env st h =
        alike_then most (holds c env test st) (holds d env test st) _ _ (holds_alike most c d calls env test st h)
        (λ p k. two_alike most p.0 _ _ _ _ p.1 (block_alike most b b' calls low low' (0 ∷ place) 0 on_true env p.1 k) (block_alike most b b' calls low low' (1 ∷ place) 0 on_false env p.1 k))
    statement_alike most b b' calls low low' place (core.While test head body at) env st h =
        turns_alike most _ _ _ _
        (record { by = λ m k env st l. holds_alike m c d (fewer_calls most m c d k calls) env test st l })
        (record { by = λ m e f k s t env st l. block_alike m e f (fewer_calls most m c d k calls) s t (0 ∷ place) 0 body env st l })
        b b' most (omega arith) low low' env st h
    statement_alike most b b' calls low low' place (core.Return None at) env st h = ok_alike most _ _ h
    statement_alike most b b' calls low low' place (core.Return (Some e) at) env st h =
        alike_then most (value c env e st) (value d env e st) _ _ (value_alike most c d calls env e st h) (λ p k. ok_alike most _ _ k)

    pub block_alike : (most b b' : ℕ) → CallsAlike most c d → most < b → most < b' → (place : Place) (number : ℕ) (ss : core.Stmts) (env : Env) (st : Run L) → st.units ≤ most
        → Alike most (block recorder c fun b place number ss env st) (block recorder d fun b' place number ss env st)
    block_alike most b b' calls low low' place number core.NoStmt env st h = ok_alike most _ _ h
    block_alike most b b' calls low low' place number (core.AStmt s ss) env st h =
        alike_then most (statement recorder c fun b (number ∷ place) s env (reached recorder fun (number ∷ place) env st)) _ _ _
        (statement_alike most b b' calls low low' (number ∷ place) s env (reached recorder fun (number ∷ place) env st) h)
        (λ p k. behind_alike most p.0 _ _ p.1 k (λ env. block_alike most b b' calls low low' place (suc number) ss env p.1 k))
