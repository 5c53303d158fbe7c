-- The places that a label lists: those of the noted state that are live there.
use Rattle.std.proofs.Common.{◌≡◌, ◌∙◌, ℕ, suc, ◌≤◌, ◌==◌, cond, List, [], ◌∷◌, ◌++◌, Bool as Truth, true, false, inl, inr, Option, Some, refl, sym, ap, arith, append_assoc, append-nil}
use Rattle.std.specs.List.{AllByRecursion}
use Rattle.xan_seq.specs.Rising.{KeysRise}
use Rattle.xan_lin.proofs.Booleans.{equal, unequal}
use Rattle.state_types.specs.PlaceTypes.{type_at}
use Rattle.state_types.specs.declared.types.Ty.{Ty}
use Rattle.three_address.specs.LiveLabels.{live_mark}
use Rattle.type_carrier.specs.Ways.{kept_if, live_places}
use Rattle.carrier_laws.proofs.WayRows.{Among}

from_less : (low more : ℕ) (entries : List (ℕ × Ty)) → low ≤ more → KeysRise more entries → KeysRise low entries
from_less low more [] le rise = tt
from_less low more (entry ∷ entries) le rise = ((let h = rise.0 in omega (arith, le, h)), rise.1)

module _ (columns : List (List Truth)) (label : ℕ) where
  abbrev first_if : Truth → ℕ × Ty → List (ℕ × Ty) → List (ℕ × Ty)
  first_if true entry others = entry ∷ others
  first_if false entry others = others

  unfoldable pub live_of : List (ℕ × Ty) → List (ℕ × Ty)
  live_of [] = []
  live_of (entry ∷ entries) = first_if (live_mark columns label entry.0) entry (live_of entries)

  behind : (b : Truth) (entry : ℕ × Ty) (made others : List (ℕ × Ty)) → kept_if b entry made ++ others ≡ made ++ first_if b entry others
  behind true entry made others = append_assoc made (entry ∷ []) others
  behind false entry made others = refl

  live_on : (entries made : List (ℕ × Ty)) → live_places columns label entries made ≡ made ++ live_of entries
  unfolding live_places live_of
  live_on [] made = sym (append-nil made)
  live_on (entry ∷ entries) made = live_on entries (kept_if (live_mark columns label entry.0) entry made) ∙ behind (live_mark columns label entry.0) entry made (live_of entries)

  pub live_places_are : (entries : List (ℕ × Ty)) → live_places columns label entries [] ≡ live_of entries
  live_places_are entries = live_on entries []

  -- they rise where all do
  first_rise : (b : Truth) (low : ℕ) (entry : ℕ × Ty) (others : List (ℕ × Ty)) → low ≤ entry.0 → KeysRise (suc entry.0) others → KeysRise low (first_if b entry others)
  first_rise true low entry others le rise = (le, rise)
  first_rise false low entry others le rise = from_less low (suc entry.0) others (omega (arith, le)) rise

  pub live_rise : (low : ℕ) (entries : List (ℕ × Ty)) → KeysRise low entries → KeysRise low (live_of entries)
  unfolding live_of
  live_rise low [] rise = tt
  live_rise low (entry ∷ entries) rise = first_rise (live_mark columns label entry.0) low entry (live_of entries) rise.0 (live_rise (suc entry.0) entries rise.1)

  -- what is live and holds of an entry
  pub live_all : (P : ℕ × Ty → Type 0) (entries : List (ℕ × Ty)) → ((entry : ℕ × Ty) → Among entries entry → live_mark columns label entry.0 ≡ true → P entry)
      → AllByRecursion P (live_of entries)
  unfolding live_of
  live_all P [] each = tt
  live_all P (entry ∷ entries) each = by_mark (live_mark columns label entry.0) refl (live_all P entries (λ other a m. each other (inr a) m))
    where
      by_mark : (b : Truth) → live_mark columns label entry.0 ≡ b → AllByRecursion P (live_of entries) → AllByRecursion P (first_if b entry (live_of entries))
      by_mark true e later = (each entry (inl refl) e, later)
      by_mark false e later = later

  -- a live place has the type that it has in the noted state
  pub live_at : (x : ℕ) (entries : List (ℕ × Ty)) → live_mark columns label x ≡ true → type_at x (live_of entries) ≡ type_at x entries
  unfolding live_of
  live_at x [] live = refl
  live_at x (entry ∷ entries) live = by_mark (live_mark columns label entry.0) refl (live_at x entries live)
    where
      by_mark : (b : Truth) → live_mark columns label entry.0 ≡ b → type_at x (live_of entries) ≡ type_at x entries
          → type_at x (first_if b entry (live_of entries)) ≡ cond (entry.0 == x) (let o : Option Ty = Some entry.1 in o) (type_at x entries)
      by_mark true e later = ap (λ o. cond (entry.0 == x) (let p : Option Ty = Some entry.1 in p) o) later
      by_mark false e later =
          later ∙ sym (ap (λ b. cond b (let o : Option Ty = Some entry.1 in o) (type_at x entries)) (unequal entry.0 x
          (λ same. (let l : live_mark columns label entry.0 ≡ true = ap (live_mark columns label) same ∙ live in let bad : ⊥ = cc in bad))))

-- ---- entries by rising place

above : {A : Type 0} (low : ℕ) (entries : List (ℕ × A)) (x : ℕ) (t : A) → KeysRise low entries → Among entries (x, t) → low ≤ x
above low [] x t rise a = absurd a
above low (entry ∷ entries) x t rise (inl same) = (let h = rise.0 in let k : entry.0 ≡ x = ap (λ e. e.0) same in omega (arith, h, k))
above low (entry ∷ entries) x t rise (inr a) = (let h = rise.0 in let k = above (suc entry.0) entries x t rise.1 a in omega (arith, h, k))

pub found_among : (low : ℕ) (entries : List (ℕ × Ty)) (x : ℕ) (t : Ty) → KeysRise low entries → Among entries (x, t) → type_at x entries ≡ Some t
found_among low [] x t rise a = absurd a
found_among low (entry ∷ entries) x t rise (inl same) =
    ap (λ b. cond b (let o : Option Ty = Some entry.1 in o) (type_at x entries)) (equal entry.0 x (ap (λ e. e.0) same)) ∙ ap (λ (e : ℕ × Ty). let o : Option Ty = Some e.1 in o) same
found_among low (entry ∷ entries) x t rise (inr a) =
    ap (λ b. cond b (let o : Option Ty = Some entry.1 in o) (type_at x entries))
    (unequal entry.0 x (λ same. (let k = above (suc entry.0) entries x t rise.1 a in absurd (omega (arith, same, k)))))
    ∙ found_among (suc entry.0) entries x t rise.1 a
