-- The turns of a loop go well: by induction on their bound.
use Rattle.std.proofs.Common.{◌≡◌, ℕ, zero, suc, ◌≤◌, ℤ, List, length, Bool as Truth, true, false, refl}
use Rattle.xan_seq.specs.Answers.{◌>>=◌}
use Rattle.typed_core.specs.SourceRuns.{Run, Answer, Env, Flow, Next, Gives as Returns, units_taken, spent}
use Rattle.typed_core.specs.SourceStatements.{behind, turned, turns}
use Rattle.typed_core.specs.SourceValues.{Blocks}
use Rattle.typed_core.specs.States.{Site, State}
use Rattle.typed_core.specs.Tests.{Sides, on_side}
use Rattle.source_safety.specs.Standing.{Stands, Goes, Fares, LeavesIf, side_state}
use Rattle.source_safety.proofs.FaredOn.{fares_then, goes_on, goes_behind}
use Rattle.source_safety.proofs.ReturnsFare.{came_after}

-- what a unit is taken for
module _ {L B : Type 0} {Q : B → Run L → Type 0} where
  taken_fares : (n : ℕ) (run : Run L) (next : Unit {0} × Run L → Answer L B) → ((units : ℕ) → Fares Q (next (tt, record run { units = units }))) → Fares Q (units_taken n run >>= next)
  taken_fares zero run next later = record { is = tt }
  taken_fares (suc n) run next later = later n

  pub paid_fares : (run : Run L) (next : Unit {0} × Run L → Answer L B) → ((units : ℕ) → Fares Q (next (tt, record run { units = units }))) → Fares Q (spent run >>= next)
  unfolding spent
  paid_fares run next later = taken_fares run.units run next later

-- A loop: where its head stands, what its test says there, where its body ends, and what follows it. `base` and `old` are what stood before it.
pub record Loops {L : Type 0} (site : Site) (width : ℕ) (base : List ℤ) (old : Blocks) (may : Truth) (begun : State) (sides : Sides) (turn more : State)
    (test : Env → Run L → Answer L Truth) (inner : ℕ → Env → Run L → Answer L Flow) : Type 0 where
  pub own : site.own.vars ≤ length base
  pub tests : (env : Env) (assignment : List ℤ) (run : Run L) → Stands site begun env assignment run.store
      → Fares (λ truth (new : Run L). Goes site (side_state truth sides) env assignment run.store new.store) (test env run)
  pub bodies : (bound : ℕ) (env : Env) (assignment : List ℤ) (run : Run L) → Stands site (on_side sides.on_true sides.after) env assignment run.store → length env ≡ width
      → Fares (LeavesIf may site turn width assignment run.store) (inner bound env run)
  pub back : (env : Env) (new : Blocks) → may ≡ true → Goes site turn env base old new → Goes site begun env base old new
  pub leaves : (env : Env) (new : Blocks) → Goes site (on_side sides.on_false sides.after) env base old new → Goes site more env base old new

module _ {L : Type 0} (site : Site) (width : ℕ) (base : List ℤ) (old : Blocks) (may : Truth) (begun : State) (sides : Sides) (turn more : State)
    (test : Env → Run L → Answer L Truth) (inner : ℕ → Env → Run L → Answer L Flow) (loops : Loops site width base old may begun sides turn more test inner) where
  abbrev Left : Answer L Flow → Type 0
  Left m = Fares (LeavesIf true site more width base old) m

  -- behind the body: the next turn, or the function returned
  behind_body : (again : Env → Run L → Answer L Flow) → ((env : Env) (run : Run L) → Goes site begun env base old run.store → length env ≡ width → Left (again env run))
      → (env : Env) (middle : Blocks) (g : Goes site (on_side sides.on_true sides.after) env base old middle) (flow : Flow) (new : Run L)
      → LeavesIf may site turn width g.given middle flow new → Left (behind flow again new)
  behind_body again later env middle g (Next inside) new h =
      later inside new (loops.back inside new.store h.comes (goes_on site inside turn base g.given old middle new.store g.front g.keeps h.goes)) h.wide
  behind_body again later env middle g (Returns v) new h =
      record { is = came_after site (on_side sides.on_true sides.after) env base old middle new.store v loops.own g h }

  turned_fares : (bound : ℕ) (truth : Truth) (env : Env) (run : Run L) → Goes site (side_state truth sides) env base old run.store → length env ≡ width
      → ((env : Env) (run : Run L) → Goes site begun env base old run.store → length env ≡ width → Left (turns test inner bound env run))
      → Left (turned truth (inner bound) (turns test inner bound) env run)
  turned_fares bound false env run g wide later = record { is = record { comes = refl; goes = loops.leaves env run.store g; wide = wide } }
  turned_fares bound true env run g wide later =
      paid_fares run _ (λ units. fares_then (inner bound env (record run { units = units })) _ (loops.bodies bound env g.given (record run { units = units }) g.stands wide)
      (λ p h. behind_body (turns test inner bound) later env run.store g p.0 p.1 h))

  pub turns_fare : (bound : ℕ) (env : Env) (run : Run L) → Goes site begun env base old run.store → length env ≡ width → Left (turns test inner bound env run)
  unfolding turns
  turns_fare zero env run goes wide = record { is = tt }
  turns_fare (suc bound) env run goes wide =
      fares_then (test env run) _ (loops.tests env goes.given run goes.stands)
      (λ p g. turned_fares bound p.0 env p.1 (goes_behind site env begun (side_state p.0 sides) base old run.store p.1.store goes g) wide
      (λ env run h l. turns_fare bound env run h l))
