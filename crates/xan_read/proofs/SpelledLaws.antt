-- The laws of the combinators, where a value has one spelling.
use Rattle.std.proofs.Common.{◌≡◌, ℕ, ◌^◌, ◌<◌, ◌≤◌, List, [], ◌++◌, refl, sym, ap, subst, ◌∙◌}
use Rattle.std.specs.Prelude.{codes, decimal}
use Rattle.std.proofs.lemmas.List.{append-nil}
use Rattle.xan_read.specs.Reader.{Reader, Exact}
use Rattle.xan_read.specs.Combinators.{give, IsGiven, in_turn, InTurn, behind, IsBehind}
use Rattle.xan_read.specs.Numbers.{IsNumber, NoDigit, number}
use Rattle.xan_read.specs.Spelled.{Any, Spelled, IsBetween, Both, spaced}
use Rattle.xan_read.proofs.ReaderLaws.{given, passed, exact-in_turn, exact-behind, exact_as}
use Rattle.xan_read.proofs.NumberLaws.{exact-number}

pub spelled_number : (low high : ℕ) → low ≤ high → high < 2 ^ 64 → Exact (number low high) (Spelled Any (IsBetween low high) decimal) NoDigit
spelled_number low high order fits = exact_as _ (IsNumber low high) _ NoDigit NoDigit (exact-number low high order fits)
    (λ n text i. record { known = tt; fits = (i.at_least, i.at_most); is = i.is })
    (λ n text s. record { at_least = s.fits.0; at_most = s.fits.1; is = s.is }) (λ _ h. h)

-- a literal in front of the spelling
pub spelled_behind : {B : Type 0} (text : List ℕ) (p : Reader B) (Known Fits : B → Type 0) (spelling : B → List ℕ) (Stops : List ℕ → Type 0)
    → Exact p (Spelled Known Fits spelling) Stops → Exact (behind text p) (Spelled Known Fits (λ y. text ++ spelling y)) Stops
spelled_behind text p Known Fits spelling Stops exact = exact_as _ (IsBehind text (Spelled Known Fits spelling)) _ Stops Stops (exact-behind text p _ Stops exact)
    (λ y whole i. record { known = i.is.known; fits = i.is.fits; is = i.parts ∙ ap (λ (t : List ℕ). text ++ t) i.is.is })
    (λ y whole s. record { back = spelling y; is = record { known = s.known; fits = s.fits; is = refl }; parts = s.is }) (λ _ h. h)

-- One field of the value, and then the rest of it, where that field is known.
module _ {A B : Type 0} (field : B → A) (p : Reader A) (q : A → Reader B) (Known : B → Type 0) (First : A → Type 0) (Second : B → Type 0)
    (first : A → List ℕ) (second : B → List ℕ) (Between After : List ℕ → Type 0) where
  pub spelled_field : Exact p (Spelled Any First first) Between
      → ((x : A) → First x → Exact (q x) (Spelled (λ y. Known y × (field y ≡ x)) Second second) After)
      → ((y : B) (rest : List ℕ) → Second y → After rest → Between (second y ++ rest))
      → Exact (in_turn p q) (Spelled Known (λ y. First (field y) × Second y) (λ y. first (field y) ++ second y)) After
  spelled_field front back stops = exact_as _ (InTurn (Spelled Any First first) (λ x. Spelled (λ y. Known y × (field y ≡ x)) Second second)) _ After After
      (exact-in_turn p q _ _ Between After front (λ x text i. back x i.fits) (λ x y text rest i h. subst (λ (t : List ℕ). Between (t ++ rest)) (sym i.is) (stops y rest i.fits h)))
      (λ y text i. record {
        known = i.second.known.0;
        fits = (subst First (sym i.second.known.1) i.first.fits, i.second.fits);
        is = i.parts ∙ ap (λ (t : List ℕ). t ++ i.back) (i.first.is ∙ ap first (sym i.second.known.1)) ∙ ap (λ (t : List ℕ). first (field y) ++ t) i.second.is;
      })
      (λ y text s. record {
        value = field y;
        front = first (field y);
        back = second y;
        parts = s.is;
        first = record { known = tt; fits = s.fits.0; is = refl };
        second = record { known = (s.known, refl); fits = s.fits.1; is = refl };
      }) (λ _ h. h)

-- The last field, which makes the value with what is known.
module _ {A B : Type 0} (field : B → A) (make : A → B) (p : Reader A) (Known : B → Type 0) (Fits : A → Type 0) (spelling : A → List ℕ) (Stops : List ℕ → Type 0) where
  pub spelled_last : Exact p (Spelled Any Fits spelling) Stops → ((x : A) → Known (make x)) → ((x : A) → field (make x) ≡ x) → ((y : B) → Known y → y ≡ make (field y))
      → Exact (in_turn p (λ x. give (make x))) (Spelled Known (λ y. Fits (field y)) (λ y. spelling (field y))) Stops
  spelled_last exact known same made = exact_as _ (InTurn (Spelled Any Fits spelling) (λ x. IsGiven (make x))) _ Stops Stops
      (exact-in_turn p _ _ _ Stops Stops exact
      (λ x text i. given (make x) Stops) (λ x y text rest g h. passed (make x) y Stops text rest g h))
      (λ y text i. let e : field y ≡ i.value = ap field i.second.value ∙ same i.value in
      record {
        known = subst Known (sym i.second.value) (known i.value);
        fits = subst Fits (sym e) i.first.fits;
        is = i.parts ∙ ap (λ (t : List ℕ). i.front ++ t) i.second.nothing ∙ append-nil i.front ∙ i.first.is ∙ ap spelling (sym e);
      })
      (λ y text s. record {
        value = field y;
        front = spelling (field y);
        back = [];
        parts = s.is ∙ sym (append-nil (spelling (field y)));
        first = record { known = tt; fits = s.fits; is = refl };
        second = record { value = made y s.known; nothing = refl };
      }) (λ _ h. h)

-- two values with a space between
module _ {A B : Type 0} (p : Reader A) (q : Reader B) (P : A → Type 0) (Q : B → Type 0) (first : A → List ℕ) (second : B → List ℕ) (Between After : List ℕ → Type 0)
    (one : Exact p (Spelled Any P first) Between) (other : Exact q (Spelled Any Q second) After) (space : (rest : List ℕ) → Between (codes " " ++ rest)) where
  pub spelled_pair : Exact (in_turn p (λ a. behind (codes " ") (in_turn q (λ b. give (a, b))))) (Spelled Any (Both P Q) (spaced first second)) After
  spelled_pair =
      spelled_field (λ (m : A × B). m.0) _ _ Any P (λ (m : A × B). Q m.1) first (λ (m : A × B). codes " " ++ second m.1) Between After one
      (λ a _. spelled_behind (codes " ") _ _ _ _ After
      (spelled_last (λ (m : A × B). m.1) (λ b. (a, b)) _ (λ (m : A × B). Unit {0} × (m.0 ≡ a)) Q second After other (λ _. (tt, refl)) (λ _. refl) (λ m known. rw (← known.1) refl)))
      (λ m rest _ _. space (second m.1 ++ rest))
