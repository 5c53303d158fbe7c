-- Of the log of a loop's turns: what holds of it before holds behind.
use Rattle.std.proofs.Common.{◌≡◌, ℕ, zero, suc, ℤ, List, length, Bool as Truth, true, false}
use Rattle.typed_core.specs.SourceRuns.{Run, Answer, Env, Flow, Next, Gives as Returns}
use Rattle.typed_core.specs.SourceStatements.{behind, turned, turns}
use Rattle.typed_core.specs.SourceValues.{Blocks}
use Rattle.typed_core.specs.States.{Site, State}
use Rattle.typed_core.specs.Tests.{Sides, on_side}
use Rattle.source_safety.specs.Standing.{Stands, Goes, Completes, LeavesIf, side_state}
use Rattle.source_safety.proofs.FaredOn.{goes_on, goes_behind}
use Rattle.source_safety.proofs.LogsKept.{Logs, logs_then, paid_logs}
use Rattle.source_safety.proofs.TurnsFare.{Loops}

-- its test and its body keep it so
pub record LoopKeeps {L : Type 0} (K : L → Type 0) (site : Site) (width : ℕ) (begun : State) (sides : Sides) (test : Env → Run L → Answer L Truth)
    (inner : ℕ → Env → Run L → Answer L Flow) : Type 0 where
  pub tests : (env : Env) (assignment : List ℤ) (run : Run L) → Stands site begun env assignment run.store → K run.log → Logs K (test env run)
  pub bodies : (bound : ℕ) (env : Env) (assignment : List ℤ) (run : Run L) → Stands site (on_side sides.on_true sides.after) env assignment run.store → length env ≡ width → K run.log
      → Logs K (inner bound env run)

module _ {L : Type 0} (K : L → Type 0) where
  -- what stands behind goes on, or the function returned
  pub behind_logs : (may : Truth) (site : Site) (end : State) (width : ℕ) (assignment : List ℤ) (store : Blocks) (next : Env → Run L → Answer L Flow) (flow : Flow) (new : Run L)
      → LeavesIf may site end width assignment store flow new → K new.log
      → ((inside : Env) → Completes may site end width inside assignment store new.store → Logs K (next inside new)) → Logs K (behind flow next new)
  behind_logs may site end width assignment store next (Next inside) new h k later = later inside h
  behind_logs may site end width assignment store next (Returns v) new h k later = record { is = k }

module _ {L : Type 0} (K : L → Type 0) (site : Site) (width : ℕ) (base : List ℤ) (old : Blocks) (may : Truth) (begun : State) (sides : Sides) (turn more : State)
    (test : Env → Run L → Answer L Truth) (inner : ℕ → Env → Run L → Answer L Flow) (loops : Loops site width base old may begun sides turn more test inner)
    (keeps : LoopKeeps K site width begun sides test inner) where
  turned_logs : (bound : ℕ) (truth : Truth) (env : Env) (run : Run L) → Goes site (side_state truth sides) env base old run.store → length env ≡ width → K run.log
      → ((env : Env) (run : Run L) → Goes site begun env base old run.store → length env ≡ width → K run.log → Logs K (turns test inner bound env run))
      → Logs K (turned truth (inner bound) (turns test inner bound) env run)
  turned_logs bound false env run g wide k later = record { is = k }
  turned_logs bound true env run g wide k later =
      paid_logs K run _ k (λ units. logs_then (inner bound env (record run { units = units })) _ (loops.bodies bound env g.given (record run { units = units }) g.stands wide)
      (keeps.bodies bound env g.given (record run { units = units }) g.stands wide k)
      (λ p h l. behind_logs K may site turn width g.given run.store (turns test inner bound) p.0 p.1 h l
      (λ inside c. later inside p.1 (loops.back inside p.1.store c.comes (goes_on site inside turn base g.given old run.store p.1.store g.front g.keeps c.goes)) c.wide l)))

  pub turns_logs : (bound : ℕ) (env : Env) (run : Run L) → Goes site begun env base old run.store → length env ≡ width → K run.log → Logs K (turns test inner bound env run)
  unfolding turns
  turns_logs zero env run goes wide k = record { is = k }
  turns_logs (suc bound) env run goes wide k =
      logs_then (test env run) _ (loops.tests env goes.given run goes.stands) (keeps.tests env goes.given run goes.stands k)
      (λ p g l. turned_logs bound p.0 env p.1 (goes_behind site env begun (side_state p.0 sides) base old run.store p.1.store goes g) wide l (λ env run h same n. turns_logs bound env run h same n))
