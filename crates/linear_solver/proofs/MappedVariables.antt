-- The map of the variables that were found.
use Rattle.std.proofs.Common.{◌≡◌, ℕ, zero, suc, ◌<◌, ◌≤◌, ◌==◌, ◌||◌, Bool, true, false, nat_lt, List, [], ◌∷◌, ◌++◌, length, replicate, set, get_or, refl, sym, ◌∙◌, ap, arith}
use Rattle.std.proofs.lemmas.Bool.Decides.{nat_tests}
use Rattle.proof_lines.specs.Variables.{is_among}
use Rattle.linear_solver.specs.FoundVariables.{AreMapped, AreMarked}
use Rattle.linear_solver.proofs.Stores.{get-other, get-below, get-there}

pub nothing_marked : (n k : ℕ) → get_or (replicate n false) k false ≡ false
nothing_marked zero k = refl
nothing_marked (suc n) zero = refl
nothing_marked (suc n) (suc k) = nothing_marked n k

pub nothing_mapped : (vars : List ℕ) (map : List Bool) → vars ≡ [] → ((var : ℕ) → get_or map var false ≡ false) → AreMapped vars map
nothing_mapped vars map e f var h = f var ∙ ap (is_among var) (sym e)

among-behind : (var last : ℕ) (vars : List ℕ) → is_among var (vars ++ last ∷ []) ≡ (is_among var vars || (last == var))
among-behind var last [] = go (last == var)
  where
    go : (b : Bool) → (b || false) ≡ (false || b)
    go true = refl
    go false = refl
among-behind var last (v ∷ vars) = ap (λ b. (v == var) || b) (among-behind var last vars) ∙ go (v == var)
  where
    go : (b : Bool) → (b || (is_among var vars || (last == var))) ≡ ((b || is_among var vars) || (last == var))
    go true = refl
    go false = refl

pub one_mapped : (vars new : List ℕ) (last : ℕ) (map after : List Bool) → AreMapped vars map → new ≡ vars ++ last ∷ [] → AreMarked map last after → AreMapped new after
one_mapped vars new last map after m change marked var h =
    marked var h ∙ ap (λ b. b || (last == var)) (m var h) ∙ sym (among-behind var last vars) ∙ ap (is_among var) (sym change)

pub marks_one : (map new : List Bool) (var : ℕ) → length map ≡ 1024 → var < 1024 → new ≡ set map var true → AreMarked map var new
marks_one map new var count within change other h = ap (λ m. get_or m other false) change ∙ go (var == other) refl
  where
    or_true : (b : Bool) → true ≡ (b || true)
    or_true true = refl
    or_true false = refl

    or_false : (b : Bool) → b ≡ (b || false)
    or_false true = refl
    or_false false = refl

    apart : (b : Bool) → nat_lt var other ≡ b → (var == other) ≡ false → get_or (set map var true) other false ≡ get_or map other false
    apart true e f = get-other map var other true false (let less : var < other = grind (arith, nat_tests) in less)
    apart false e f = get-below map var other true false (let more : other < var = grind (arith, nat_tests) in more)

    go : (b : Bool) → (var == other) ≡ b → get_or (set map var true) other false ≡ (get_or map other false || b)
    go true e = let same : other ≡ var = grind (arith, nat_tests) in ap (λ k. get_or (set map var true) k false) same ∙ get-there map var true false (omega (arith, count, within)) ∙ or_true (get_or map other false)
    go false e = apart (nat_lt var other) refl e ∙ or_false (get_or map other false)

pub marks_none : (map : List Bool) (var : ℕ) → 1024 ≤ var → AreMarked map var map
marks_none map var past other h =
    let apart : (var == other) ≡ false = grind (arith, nat_tests) in
    or_false (get_or map other false) ∙ ap (λ b. get_or map other false || b) (sym apart)
  where
    or_false : (b : Bool) → b ≡ (b || false)
    or_false true = refl
    or_false false = refl
