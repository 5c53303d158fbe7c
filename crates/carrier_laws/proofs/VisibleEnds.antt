-- The types at the end of a block of the variables that were visible before it.
use Rattle.std.proofs.Common.{◌≡◌, ◌∙◌, ℕ, suc, ◌==◌, Bool as Truth, true, false, cond, List, [], ◌∷◌, Option, Some, refl, sym, ap}
use Rattle.std.proofs.lemmas.Bool.Decides.{Decides-eqb}
use Rattle.state_types.specs.PlaceTypes.{type_at}
use Rattle.state_types.specs.declared.types.Ty.{Ty}
use Rattle.typed_core.specs.Joins.{still_visible, type_or}
use Rattle.xan_seq.specs.Rising.{KeysRise}

-- it has the type that stands behind the block, where one does
pub visible_same : (x : ℕ) (t : Ty) (es after : List (ℕ × Ty)) → type_at x (still_visible es after) ≡ Some t
    → ((v : Ty) → type_at x es ≡ Some v → (u : Ty) × (type_at x after ≡ Some u)) → type_at x after ≡ Some t
unfolding still_visible
visible_same x t [] after e has = absurd (let bad : ⊥ = cc in bad)
visible_same x t (entry ∷ es) after e has = by_test (entry.0 == x) refl e has (λ f h. visible_same x t es after f h)
  where
    by_test : (b : Truth) → (entry.0 == x) ≡ b → cond b (let o : Option Ty = Some (type_or entry.1 (type_at entry.0 after)) in o) (type_at x (still_visible es after)) ≡ Some t
        → ((v : Ty) → cond b (let o : Option Ty = Some entry.1 in o) (type_at x es) ≡ Some v → (u : Ty) × (type_at x after ≡ Some u))
        → (type_at x (still_visible es after) ≡ Some t → ((v : Ty) → type_at x es ≡ Some v → (u : Ty) × (type_at x after ≡ Some u)) → type_at x after ≡ Some t) → type_at x after ≡ Some t
    by_test true same e has again =
        let u = has entry.1 refl in
        let there : type_at entry.0 after ≡ Some u.0 = ap (λ y. type_at y after) ((Decides-eqb entry.0 x).0 same) ∙ u.1 in
        u.1 ∙ sym (ap (λ o. let p : Option Ty = Some (type_or entry.1 o) in p) there) ∙ e
    by_test false other e has again = again e has

-- places rise as they did
pub visible_rise : (low : ℕ) (es after : List (ℕ × Ty)) → KeysRise low es → KeysRise low (still_visible es after)
unfolding still_visible
visible_rise low [] after r = tt
visible_rise low (entry ∷ es) after r = (r.0, visible_rise (suc entry.0) es after r.1)
