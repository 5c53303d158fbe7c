-- Different variables among others are no more than those.
use Rattle.std.proofs.Common.{◌≡◌, ℕ, suc, ◌≤◌, Bool, true, false, cond, ◌&&◌, ◌||◌, ◌==◌, List, [], ◌∷◌, ◌++◌, length, refl, sym, ◌∙◌, ap, arith}
use Rattle.std.specs.List.{list_all}
use Rattle.std.proofs.lemmas.List.Folds.{list_all-append}
use Rattle.xan_lin.specs.Linear.{Linear}
use Rattle.xan_lin.specs.declared.term.Term.{Term}
use Rattle.proof_lines.specs.Variables.{is_among, with_variable, with_terms, with_rows, variables}
use Rattle.proof_lines.specs.Cells.{AreDifferent, are_among, AreProper}
use Rattle.proof_lines.proofs.Different.{same_number}
use Rattle.proof_lines.proofs.TermVariables.{with_terms-none, with_terms-cons, different-with_terms}
use Rattle.proof_lines.proofs.Proper.{both, join}

all_in : List ℕ → List ℕ → Bool
all_in vars ws = list_all (λ w. is_among w vars) ws

in_none : (vars : List ℕ) → all_in vars [] ≡ true
unfolding all_in
in_none vars = refl

in_push : (vars ws : List ℕ) (v : ℕ) → all_in vars ws ≡ true → is_among v vars ≡ true → all_in vars (ws ++ v ∷ []) ≡ true
unfolding all_in
in_push vars ws v h k = list_all-append (λ w. is_among w vars) ws (v ∷ []) ∙ join (list_all (λ w. is_among w vars) ws) (is_among v vars && true) h (join (is_among v vars) true k refl)

in_with : (vars ws : List ℕ) (v : ℕ) → all_in vars ws ≡ true → is_among v vars ≡ true → all_in vars (with_variable ws v) ≡ true
in_with vars ws v h k = go (is_among v ws)
  where
    go : (b : Bool) → all_in vars (cond b ws (ws ++ v ∷ [])) ≡ true
    go true = h
    go false = in_push vars ws v h k

in_terms : (vars ws : List ℕ) (ts : List Term) → all_in vars ws ≡ true → are_among vars ts ≡ true → all_in vars (with_terms ws ts) ≡ true
in_terms vars ws [] h k = ap (all_in vars) (with_terms-none ws) ∙ h
in_terms vars ws (t ∷ ts) h k =
    let parts = both (is_among t.var vars) (are_among vars ts) k in
    ap (all_in vars) (with_terms-cons ws t ts) ∙ in_terms vars (with_variable ws t.var) ts (in_with vars ws t.var h parts.0) parts.1

in_rows : (vars ws : List ℕ) (rows : List Linear) → all_in vars ws ≡ true → AreProper vars rows → all_in vars (with_rows ws rows) ≡ true
unfolding with_rows
in_rows vars ws [] h p = h
in_rows vars ws (row ∷ rows) h p = in_rows vars (with_terms ws row.terms) rows (in_terms vars ws row.terms h p.0.placed) p.1

different_rows : (ws : List ℕ) (rows : List Linear) → AreDifferent ws → AreDifferent (with_rows ws rows)
unfolding with_rows
different_rows ws [] d = d
different_rows ws (row ∷ rows) d = different_rows (with_terms ws row.terms) rows (different-with_terms ws row.terms d)

-- ---- one of them taken out

without : ℕ → List ℕ → List ℕ
without w [] = []
without w (v ∷ vs) = cond (v == w) vs (v ∷ without w vs)

length-without : (w : ℕ) (vs : List ℕ) → is_among w vs ≡ true → suc (length (without w vs)) ≡ length vs
unfolding without
length-without w [] h = cc
length-without w (v ∷ vs) h = go (v == w) h (length-without w vs)
  where
    go : (b : Bool) → (b || is_among w vs) ≡ true → (is_among w vs ≡ true → suc (length (without w vs)) ≡ length vs) → suc (length (cond b vs (v ∷ without w vs))) ≡ length (v ∷ vs)
    go true h later = refl
    go false h later = ap suc (later h)

among-without : (w u : ℕ) (vs : List ℕ) → is_among u vs ≡ true → (u == w) ≡ false → is_among u (without w vs) ≡ true
unfolding without
among-without w u [] h ne = cc
among-without w u (v ∷ vs) h ne = go (v == w) refl (v == u) refl h (among-without w u vs)
  where
    go : (b : Bool) → (v == w) ≡ b → (c : Bool) → (v == u) ≡ c → (c || is_among u vs) ≡ true → (is_among u vs ≡ true → (u == w) ≡ false → is_among u (without w vs) ≡ true)
        → is_among u (cond b vs (v ∷ without w vs)) ≡ true
    go true e true f h later =
        let same : u ≡ v = sym (same_number v u f) in
        let other = ap (λ n. n == w) same ∙ e in
        cc
    go true e false f h later = h
    go false e true f h later = ap (λ c. c || is_among u (without w vs)) f
    go false e false f h later = ap (λ c. c || is_among u (without w vs)) f ∙ later h ne

first_false : (a b : Bool) → (a || b) ≡ false → (a ≡ false) × (b ≡ false)
first_false true b e = cc
first_false false b e = (refl, e)

in_without : (w : ℕ) (vars ws : List ℕ) → all_in vars ws ≡ true → is_among w ws ≡ false → all_in (without w vars) ws ≡ true
unfolding all_in
in_without w vars [] h ne = refl
in_without w vars (u ∷ ws) h ne =
    let parts = both (is_among u vars) (list_all (λ w. is_among w vars) ws) h in
    let others = first_false (u == w) (is_among w ws) ne in
    join (is_among u (without w vars)) (list_all (λ v. is_among v (without w vars)) ws) (among-without w u vars parts.0 others.0) (in_without w vars ws parts.1 others.1)

no_more : (vars ws : List ℕ) → AreDifferent ws → all_in vars ws ≡ true → length ws ≤ length vars
unfolding all_in
no_more vars [] d h = omega arith
no_more vars (w ∷ ws) d h =
    let parts = both (is_among w vars) (list_all (λ w. is_among w vars) ws) h in
    let less = no_more (without w vars) ws d.1 (in_without w vars ws parts.1 d.0) in
    omega (arith, length-without w vars parts.0, less)

-- rows over these variables have no more variables
pub variables-few : (vars : List ℕ) (rows : List Linear) → AreProper vars rows → length (variables rows) ≤ length vars
variables-few vars rows p = no_more vars (variables rows) (different_rows [] rows tt) (in_rows vars [] rows (in_none vars) p)
