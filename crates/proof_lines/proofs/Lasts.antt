-- The last of the rows in cells.
use Rattle.std.proofs.Common.{◌≡◌, ℕ, zero, suc, ◌+◌, ◌-◌, ◌<◌, ℤ, List, [], ◌∷◌, length, drop, Some, slice_get, refl, sym, ◌∙◌, ap, arith}
use Rattle.std.proofs.lemmas.List.{length-drop}
use Rattle.proof_lines.specs.Cells.{cannot_hold, last_cannot_hold}

pub get-drop : {X : Type 0} (n : ℕ) (xs : List X) (k : ℕ) → slice_get (drop n xs) k ≡ slice_get xs (n + k)
get-drop zero xs k = let same : k ≡ 0 + k = omega arith in ap (λ i. slice_get xs i) same
get-drop (suc n) [] k = refl
get-drop (suc n) (x ∷ xs) k = let next : suc (n + k) ≡ suc n + k = omega arith in get-drop n xs k ∙ ap (λ i. slice_get (x ∷ xs) i) next

last_at : (rows : List (List ℤ)) (n : ℕ) (row : List ℤ) → length rows ≡ suc n → slice_get rows n ≡ Some row → last_cannot_hold rows ≡ cannot_hold row
last_at [] n row h e = absurd (omega arith)
last_at (a ∷ []) zero row h e = let same : a ≡ row = cc in ap cannot_hold same
last_at (a ∷ []) (suc n) row h e = absurd (omega arith)
last_at (a ∷ b ∷ rows) zero row h e = absurd (omega arith)
last_at (a ∷ b ∷ rows) (suc n) row h e = last_at (b ∷ rows) n row (omega arith) e

pub last_is : (rows : List (List ℤ)) (base count : ℕ) (row : List ℤ) → count ≡ length rows → base < count → slice_get rows (count - 1) ≡ Some row
    → last_cannot_hold (drop base rows) ≡ cannot_hold row
last_is rows base count row h k e =
    let place : count - 1 ≡ base + (count - 1 - base) = omega arith in
    last_at (drop base rows) (count - 1 - base) row (length-drop base rows ∙ omega arith)
    (get-drop base rows (count - 1 - base) ∙ ap (λ i. slice_get rows i) (sym place) ∙ e)
