-- A run of a program's code is steady: an end stays, and output only grows.
use Rattle.std.proofs.Common.{◌≡◌, ℕ, zero, suc, ◌≤◌, ℤ, List, [], ◌++◌, Option, Some, None, option_to_list, refl, sym, ◌∙◌, append_assoc, arith}
use Rattle.std.proofs.lemmas.List.{append-nil}
use Rattle.xan_io.specs.Agreement.{Begins, IsSteady}
use Rattle.xan_io.specs.Outcome.{IsOver}
use Rattle.dtal_code.specs.Machine.{State, On, Off, after}
use Rattle.dtal_code.specs.ObjectCode.{Code}
use Rattle.dtal_code.specs.Running.{step, run}
use Rattle.dtal_code.specs.Runs.{outcome_from}

begins_more : (front out whole : List ℤ) → Begins (front ++ out) whole → Begins front whole
begins_more front out whole b = (out ++ b.0, b.1 ∙ append_assoc front out b.0)

run_stays : (code : Code) (m k : ℕ) (printed : List ℤ) (state : State) → m ≤ k → IsOver (run code m printed state).how
    → run code k printed state ≡ run code m printed state
unfolding run
run_stays code zero k printed state le over = absurd (over refl)
run_stays code (suc m) zero printed state le over = absurd (omega arith)
run_stays code (suc m) (suc k) printed state le over =
    let le' : m ≤ k = omega arith in
    elim (step code state) as (λ next. IsOver (after next printed (run code m)).how → after next printed (run code k) ≡ after next printed (run code m)) [
      | On number next ↦ λ o. run_stays code m k (printed ++ option_to_list number) next le' o
      | Off how ↦ λ o. refl
    ] over

run_begins : (code : Code) (k : ℕ) (printed : List ℤ) (state : State) → Begins printed (run code k printed state).printed
unfolding run
run_begins code zero printed state = ([], sym (append-nil printed))
run_begins code (suc k) printed state =
    elim (step code state) as (λ next. Begins printed (after next printed (run code k)).printed) [
      | On number next ↦ begins_more printed (option_to_list number) _ (run_begins code k (printed ++ option_to_list number) next)
      | Off how ↦ ([], sym (append-nil printed))
    ]

run_grows : (code : Code) (m k : ℕ) (printed : List ℤ) (state : State) → m ≤ k
    → Begins (run code m printed state).printed (run code k printed state).printed
unfolding run
run_grows code zero k printed state le = run_begins code k printed state
run_grows code (suc m) zero printed state le = absurd (omega arith)
run_grows code (suc m) (suc k) printed state le =
    let le' : m ≤ k = omega arith in
    elim (step code state) as (λ next. Begins (after next printed (run code m)).printed (after next printed (run code k)).printed) [
      | On number next ↦ run_grows code m k (printed ++ option_to_list number) next le'
      | Off how ↦ ([], sym (append-nil printed))
    ]

pub code_runs_are_steady : (code : Code) (entry : Option State) → IsSteady (outcome_from code entry)
unfolding outcome_from
code_runs_are_steady code None = record { stays = λ m k le over. refl; grows = λ m k le. ([], refl) }
code_runs_are_steady code (Some state) = record { stays = λ m k le over. run_stays code m k [] state le over; grows = λ m k le. run_grows code m k [] state le }
