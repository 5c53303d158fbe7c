-- Work that goes up to where a function began.
use Rattle.std.proofs.Common.{◌≡◌, ◌∙◌, List, [], ◌∷◌, true, false, if◌then◌else◌, Option, Some, None, Bool, refl, sym, ap}
use Rattle.source_evaluator.specs.Steps.{is_back, unwound}
use Rattle.source_evaluator.specs.Views.{work_of, works}
use Rattle.source_evaluator.specs.Work.{Work}
use Rattle.source_evaluator.specs.declared.tasks.Task.{Task}

unwound_back : (w : Work) (ws : List Work) → is_back w ≡ true → unwound (w ∷ ws) ≡ Some ws
unfolding unwound
unwound_back w ws e = ap (λ (b : Bool). if b then Some ws else unwound ws) e

unwound_on : (w : Work) (ws : List Work) → is_back w ≡ false → unwound (w ∷ ws) ≡ unwound ws
unfolding unwound
unwound_on w ws e = ap (λ (b : Bool). if b then Some ws else unwound ws) e

pub back_found : (all now : List Task) (t : Task) (start : List Work) → all ≡ t ∷ now → unwound (works all) ≡ unwound start → is_back (work_of t) ≡ true
    → unwound start ≡ Some (works now)
back_found all now t start e inv back = sym inv ∙ ap (λ (ts : List Task). unwound (works ts)) e ∙ unwound_back (work_of t) (works now) back

pub goes_on : (all now : List Task) (t : Task) (start : List Work) → all ≡ t ∷ now → unwound (works all) ≡ unwound start → is_back (work_of t) ≡ false
    → unwound (works now) ≡ unwound start
goes_on all now t start e inv back = sym (unwound_on (work_of t) (works now) back) ∙ sym (ap (λ (ts : List Task). unwound (works ts)) e) ∙ inv

pub none_found : (all : List Task) (start : List Work) → all ≡ [] → unwound (works all) ≡ unwound start → unwound start ≡ None
unfolding unwound
none_found all start e inv = sym inv ∙ ap (λ (ts : List Task). unwound (works ts)) e
