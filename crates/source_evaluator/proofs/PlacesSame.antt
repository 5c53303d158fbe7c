-- Where nothing is recorded, it does not matter where a statement stands.
use Rattle.std.proofs.Common.{◌≡◌, ◌∙◌, ℕ, zero, suc, Bool as Truth, true, false, List, [], ◌∷◌, Option, Some, None, Ok, Err, refl, sym, ap}
use Rattle.xan_seq.specs.Answers.{◌>>=◌}
use Rattle.xanadu_tree.specs.Plain as core
use Rattle.typed_core.specs.Meaning.{no_log}
use Rattle.typed_core.specs.SourceValues.{Value}
use Rattle.typed_core.specs.SourceRuns.{Run, Answer, Env, Place, Calls, Flow, Next, Gives, spent}
use Rattle.typed_core.specs.SourceTests.{holds}
use Rattle.typed_core.specs.SourceStatements.{statement, block, turns, turned, behind, one_of_two}
use Rattle.source_evaluator.specs.Pending.{R}
use Rattle.source_evaluator.proofs.StepMeanings.{bind_same}

-- what goes on behind
behind_same : (flow : Flow) (f g : Env → R → Answer (Unit {0}) Flow) (st : R) → ((env : Env) (st : R) → f env st ≡ g env st) → behind flow f st ≡ behind flow g st
behind_same (Next env) f g st same = same env st
behind_same (Gives v) f g st same = refl

pub turned_same : (truth : Truth) (f g again also : Env → R → Answer (Unit {0}) Flow) (env : Env) (st : R) → ((env : Env) (st : R) → f env st ≡ g env st)
    → ((env : Env) (st : R) → again env st ≡ also env st) → turned truth f again env st ≡ turned truth g also env st
turned_same false f g again also env st same later = refl
turned_same true f g again also env st same later =
    bind_same (spent st) _ _ (λ x. ap (λ (m : Answer (Unit {0}) Flow). m >>= λ y. behind y.0 again y.1) (same env x.1)
    ∙ bind_same (g env x.1) _ _ (λ y. behind_same y.0 again also y.1 later))

turns_same : (test : Env → R → Answer (Unit {0}) Truth) (f g : ℕ → Env → R → Answer (Unit {0}) Flow) (bound : ℕ) (env : Env) (st : R)
    → ((b : ℕ) (env : Env) (st : R) → f b env st ≡ g b env st) → turns test f bound env st ≡ turns test g bound env st
unfolding turns
turns_same test f g zero env st same = refl
turns_same test f g (suc bound) env st same =
    bind_same (test env st) _ _ (λ x. turned_same x.0 (f bound) (g bound) (turns test f bound) (turns test g bound) env x.1 (same bound)
    (λ env st. turns_same test f g bound env st same))

branch_same : (truth : Truth) (one other two another : R → Answer (Unit {0}) Flow) (st : R) → ((st : R) → one st ≡ two st) → ((st : R) → other st ≡ another st)
    → one_of_two truth one other st ≡ one_of_two truth two another st
branch_same true one other two another st same also = same st
branch_same false one other two another st same also = also st

module _ (call : Calls (Unit {0})) (fun also : ℕ) where
  mutual
    unfolding statement block

    pub statement_same : (bound : ℕ) (place there : Place) (s : core.Stmt) (env : Env) (st : R)
        → statement no_log call fun bound place s env st ≡ statement no_log call also bound there s env st
    statement_same bound place there (core.Set x e) env st = refl
    statement_same bound place there (core.Split xs e at) env st = refl
    statement_same bound place there (core.Store array index e at) env st = refl
    statement_same bound place there (core.Do e) env st = refl
    statement_same bound place there (core.Print e) env st = refl
    statement_same bound place there (core.If test on_true on_false join at) env st =
        bind_same (holds call env test st) _ _ (λ x. branch_same x.0 _ _ _ _ x.1
        (λ st. block_same bound (0 ∷ place) (0 ∷ there) 0 0 on_true env st) (λ st. block_same bound (1 ∷ place) (1 ∷ there) 0 0 on_false env st))
    statement_same bound place there (core.While test head body at) env st =
        turns_same (λ env st. holds call env test st) _ _ bound env st (λ b env st. block_same b (0 ∷ place) (0 ∷ there) 0 0 body env st)
    statement_same bound place there (core.Return None at) env st = refl
    statement_same bound place there (core.Return (Some e) at) env st = refl

    pub block_same : (bound : ℕ) (place there : Place) (number numbered : ℕ) (ss : core.Stmts) (env : Env) (st : R)
        → block no_log call fun bound place number ss env st ≡ block no_log call also bound there numbered ss env st
    block_same bound place there number numbered core.NoStmt env st = refl
    block_same bound place there number numbered (core.AStmt s ss) env st =
        ap (λ (m : Answer (Unit {0}) Flow). m >>= λ x. behind x.0 (λ env st. block no_log call fun bound place (suc number) ss env st) x.1)
        (statement_same bound (number ∷ place) (numbered ∷ there) s env st)
        ∙ bind_same (statement no_log call also bound (numbered ∷ there) s env st) _ _
        (λ x. behind_same x.0 _ _ x.1 (λ env st. block_same bound place there (suc number) (suc numbered) ss env st))
