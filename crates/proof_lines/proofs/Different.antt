-- Variables that are different, and the list of them with one more.
use Rattle.std.proofs.Common.{◌≡◌, ℕ, ◌+◌, ◌<◌, ◌≤◌, Bool, true, false, cond, nat_lt, ◌||◌, ◌==◌, List, [], ◌∷◌, ◌++◌, length, Some, None, slice_get, refl, sym, ◌∙◌, ap, arith}
use Rattle.std.specs.List.{position}
use Rattle.std.specs.Option.{is_some}
use Rattle.std.proofs.lemmas.List.{length-append}
use Rattle.std.proofs.lemmas.Bool.Decides.{nat_tests}
use Rattle.std.proofs.lemmas.Map.Keys.{any_passes_from_place}
use Rattle.proof_lines.specs.Variables.{is_among, with_variable}
use Rattle.proof_lines.specs.Cells.{AreDifferent}
use Rattle.proof_lines.proofs.Positions.{position_passes, is_some-position}

pub same_number : (v w : ℕ) → (v == w) ≡ true → v ≡ w
same_number v w e = grind (arith, nat_tests)

pub equals_itself : (v : ℕ) → (v == v) ≡ true
equals_itself v = grind (arith, nat_tests)

pub among_at : (v k : ℕ) (vs : List ℕ) → slice_get vs k ≡ Some v → is_among v vs ≡ true
among_at v k vs e = any_passes_from_place (λ w. w == v) vs k v e (equals_itself v)

pub with_variable-among : (vs : List ℕ) (v : ℕ) → is_among v vs ≡ true → with_variable vs v ≡ vs
with_variable-among vs v e = ap (λ b. cond b vs (vs ++ v ∷ [])) e

pub with_variable-new : (vs : List ℕ) (v : ℕ) → is_among v vs ≡ false → with_variable vs v ≡ vs ++ v ∷ []
with_variable-new vs v e = ap (λ b. cond b vs (vs ++ v ∷ [])) e

-- a variable that has this column is there already
pub with_variable-at : (vs : List ℕ) (v k : ℕ) → slice_get vs k ≡ Some v → with_variable vs v ≡ vs
with_variable-at vs v k e = with_variable-among vs v (among_at v k vs e)

-- where the search finds it
pub found_at : (vs : List ℕ) (v k : ℕ) → position (λ w. w == v) vs ≡ Some k → slice_get vs k ≡ Some v
found_at vs v k e =
    let r = position_passes (λ w. w == v) vs k e in
    r.is ∙ ap Some (same_number r.element v r.passes)

pub found_nowhere : (vs : List ℕ) (v : ℕ) → position (λ w. w == v) vs ≡ None → is_among v vs ≡ false
found_nowhere vs v e = sym (is_some-position (λ w. w == v) vs) ∙ ap is_some e

pub get-push : (vs : List ℕ) (v : ℕ) → slice_get (vs ++ v ∷ []) (length vs) ≡ Some v
get-push [] v = refl
get-push (w ∷ vs) v = get-push vs v

among-push : (w v : ℕ) (vs : List ℕ) → is_among w vs ≡ false → (v == w) ≡ false → is_among w (vs ++ v ∷ []) ≡ false
among-push w v [] e ne = ap (λ b. b || false) ne
among-push w v (u ∷ vs) e ne = go (u == w) e (among-push w v vs)
  where
    go : (b : Bool) → (b || is_among w vs) ≡ false → (is_among w vs ≡ false → (v == w) ≡ false → is_among w (vs ++ v ∷ []) ≡ false) → (b || is_among w (vs ++ v ∷ [])) ≡ false
    go true e later = cc
    go false e later = later e ne

first_false : (a b : Bool) → (a || b) ≡ false → (a ≡ false) × (b ≡ false)
first_false true b e = cc
first_false false b e = (refl, e)

turned : (v w : ℕ) → (w == v) ≡ false → (v == w) ≡ false
turned v w e = grind (arith, nat_tests)

pub different-push : (vs : List ℕ) (v : ℕ) → AreDifferent vs → is_among v vs ≡ false → AreDifferent (vs ++ v ∷ [])
different-push [] v d e = (refl, tt)
different-push (w ∷ vs) v d e =
    let parts = first_false (w == v) (is_among v vs) e in
    (among-push w v vs d.0 (turned v w parts.0), different-push vs v d.1 parts.1)

pub different-with : (vs : List ℕ) (v : ℕ) → AreDifferent vs → AreDifferent (with_variable vs v)
different-with vs v d = go (is_among v vs) refl
  where
    go : (b : Bool) → is_among v vs ≡ b → AreDifferent (cond b vs (vs ++ v ∷ []))
    go true e = d
    go false e = different-push vs v d e

-- where all columns are taken, one more is too many
pub too_many : (vs : List ℕ) (v : ℕ) → is_among v vs ≡ false → length vs ≡ 64 → nat_lt 64 (length (with_variable vs v)) ≡ true
too_many vs v e full =
    let more : length (with_variable vs v) ≡ length vs + 1 = ap length (with_variable-new vs v e) ∙ length-append vs (v ∷ []) in
    grind (arith, nat_tests)

pub below_full : (n : ℕ) → (n == 64) ≡ false → n ≤ 64 → n < 64
below_full n e h = grind (arith, nat_tests)

-- the same of a list that is known to be this one
pub with_variable-where : (xs vs : List ℕ) (v k : ℕ) → xs ≡ vs → slice_get xs k ≡ Some v → with_variable vs v ≡ vs
with_variable-where xs vs v k same e = with_variable-at vs v k (ap (λ ys. slice_get ys k) (sym same) ∙ e)
