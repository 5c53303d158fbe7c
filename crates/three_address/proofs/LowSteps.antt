-- What a run of the code over places does: an end stays, and output only grows.
use Rattle.std.proofs.Common.{◌≡◌, ℕ, zero, suc, ◌≤◌, ℤ, List, [], ◌++◌, Option, Some, None, option_to_list, refl, sym, ◌∙◌, arith, append_assoc, append-nil}
use Rattle.xan_io.specs.Outcome.{IsOver}
use Rattle.xan_io.specs.Agreement.{Begins, IsSteady}
use Rattle.three_address.specs.declared.function.LowFun.{LowFun}
use Rattle.three_address.specs.Machine.{State, On, Off, step, run, after}
use Rattle.three_address.specs.Entry.{outcome_from}

begins-longer : (front out whole : List ℤ) → Begins (front ++ out) whole → Begins front whole
begins-longer front out whole b = (out ++ b.0, b.1 ∙ append_assoc front out b.0)

-- an end stays
pub run-ended : (funs : List LowFun) (m k : ℕ) (printed : List ℤ) (state : State) → m ≤ k → IsOver (run funs m printed state).how
    → run funs k printed state ≡ run funs m printed state
unfolding run
run-ended funs zero k printed state le over = absurd (over refl)
run-ended funs (suc m) zero printed state le over = absurd (omega arith)
run-ended funs (suc m) (suc k) printed state le over =
    let le' : m ≤ k = omega arith in
    elim (step funs state) as (λ next. IsOver (after next printed (run funs m)).how → after next printed (run funs k) ≡ after next printed (run funs m)) [
      | On number next ↦ λ o. run-ended funs m k (printed ++ option_to_list number) next le' o
      | Off how ↦ λ o. refl
    ] over

-- what was printed before stays printed
pub run-prints : (funs : List LowFun) (k : ℕ) (printed : List ℤ) (state : State) → Begins printed (run funs k printed state).printed
unfolding run
run-prints funs zero printed state = ([], sym (append-nil printed))
run-prints funs (suc k) printed state =
    elim (step funs state) as (λ next. Begins printed (after next printed (run funs k)).printed) [
      | On number next ↦ begins-longer printed (option_to_list number) _ (run-prints funs k (printed ++ option_to_list number) next)
      | Off how ↦ ([], sym (append-nil printed))
    ]

-- output only grows
pub run-longer : (funs : List LowFun) (m k : ℕ) (printed : List ℤ) (state : State) → m ≤ k
    → Begins (run funs m printed state).printed (run funs k printed state).printed
unfolding run
run-longer funs zero k printed state le = run-prints funs k printed state
run-longer funs (suc m) zero printed state le = absurd (omega arith)
run-longer funs (suc m) (suc k) printed state le =
    let le' : m ≤ k = omega arith in
    elim (step funs state) as (λ next. Begins (after next printed (run funs m)).printed (after next printed (run funs k)).printed) [
      | On number next ↦ run-longer funs m k (printed ++ option_to_list number) next le'
      | Off how ↦ ([], sym (append-nil printed))
    ]

pub outcome-steady : (funs : List LowFun) (entry : Option State) → IsSteady (outcome_from funs entry)
unfolding outcome_from
outcome-steady funs None = record { stays = λ m k le over. refl; grows = λ m k le. ([], refl) }
outcome-steady funs (Some state) = record { stays = λ m k le over. run-ended funs m k [] state le over; grows = λ m k le. run-longer funs m k [] state le }
