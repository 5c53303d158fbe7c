-- Values that are made of two, or of another one, each with one spelling.
use Rattle.std.proofs.Common.{◌≡◌, ℕ, List, ◌++◌, refl, sym, ap, subst, ◌∙◌}
use Rattle.xan_read.specs.Reader.{Reader, Exact}
use Rattle.xan_read.specs.Combinators.{made, IsMade}
use Rattle.xan_read.specs.Spelled.{Any, Spelled, Both}
use Rattle.xan_read.proofs.ReaderLaws.{exact-made, exact_as}
use Rattle.xan_read.proofs.SpelledLaws.{spelled_behind, spelled_field, spelled_last}
use Rattle.dtal_text.specs.Chains.{two}

-- two values with bytes between
abbrev pub joined_by : {A B : Type 0} → (A → List ℕ) → List ℕ → (B → List ℕ) → A × B → List ℕ
joined_by first between second m = first m.0 ++ (between ++ second m.1)

module _ {A B : Type 0} (p : Reader A) (between : List ℕ) (q : Reader B) (P : A → Type 0) (Q : B → Type 0) (first : A → List ℕ) (second : B → List ℕ) (Between After : List ℕ → Type 0)
    (one : Exact p (Spelled Any P first) Between) (other : Exact q (Spelled Any Q second) After)
    (stops : (b : B) (rest : List ℕ) → Q b → After rest → Between ((between ++ second b) ++ rest)) where
  pub spelled_two : Exact (two p between q) (Spelled Any (Both P Q) (joined_by first between second)) After
  spelled_two =
      spelled_field (λ (m : A × B). m.0) _ _ Any P (λ (m : A × B). Q m.1) first (λ (m : A × B). between ++ second m.1) Between After one
      (λ a _. spelled_behind between _ _ _ _ After
      (spelled_last (λ (m : A × B). m.1) (λ b. (a, b)) _ (λ (m : A × B). Unit {0} × (m.0 ≡ a)) Q second After other (λ _. (tt, refl)) (λ _. refl) (λ m known. rw (← known.1) refl)))
      (λ m rest fits h. stops m.1 rest fits h)

-- a value that is made of another one, and taken apart again
module _ {A B : Type 0} (make : A → B) (unmake : B → A) (p : Reader A) (P : A → Type 0) (Q : B → Type 0) (text : A → List ℕ) (spelling : B → List ℕ) (Stops : List ℕ → Type 0)
    (exact : Exact p (Spelled Any P text) Stops) (into : (a : A) → P a → Q (make a)) (back : (b : B) → Q b → P (unmake b))
    (same : (b : B) → Q b → b ≡ make (unmake b)) (spells : (a : A) → text a ≡ spelling (make a)) where
  pub spelled_made : Exact (made make p) (Spelled Any Q spelling) Stops
  spelled_made = exact_as _ (IsMade make (Spelled Any P text)) _ Stops Stops (exact-made make p _ Stops exact)
      (λ b t i. record { known = tt; fits = subst Q (sym i.made) (into i.value i.is.fits); is = i.is.is ∙ spells i.value ∙ ap spelling (sym i.made) })
      (λ b t s. record { value = unmake b; made = same b s.fits; is = record { known = tt; fits = back b s.fits; is = s.is ∙ ap spelling (same b s.fits) ∙ sym (spells (unmake b)) } })
      (λ _ h. h)
