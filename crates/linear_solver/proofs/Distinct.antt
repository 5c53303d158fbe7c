-- Rows no two of which have equal coefficients: where a row goes to its place, and that they stay so.
use Rattle.std.proofs.Common.{◌≡◌, ℕ, zero, suc, ◌<◌, Bool, true, false, cond, ◌||◌, int_lt, List, [], ◌∷◌, ◌++◌, length, set, get_or, Option, Some, None, MatchOption, refl, sym, ◌∙◌, ap, subst, arith}
use Rattle.std.specs.List.{list_any, position}
use Rattle.std.specs.Option.{is_some}
use Rattle.std.proofs.lemmas.Option.{slice_get_within, get_or_from_slice_get}
use Rattle.xan_lin.specs.declared.term.Term.{Term}
use Rattle.proof_lines.proofs.Positions.{position_passes, is_some-position}
use Rattle.solver_rows.specs.SystemRows.{Row, same_terms, holds}
use Rattle.linear_solver.specs.Systems.{lesser, placed, settle}
use Rattle.linear_solver.specs.Reducing.{AreDistinct, IsPlace}
use Rattle.solver_rows.proofs.SameTerms.{equal_terms, terms_equal}

pub either_false : (a b : Bool) → (a || b) ≡ false → (a ≡ false) × (b ≡ false)
either_false true b e = cc
either_false false b e = (refl, e)

-- ---- where none is equal

pub placed-new : (rows : List Row) (r : Row) → list_any (λ s. same_terms s.terms r.terms) rows ≡ false → placed rows r ≡ rows ++ r ∷ []
unfolding placed
placed-new [] r e = refl
placed-new (s ∷ rows) r e =
    let parts = either_false (same_terms s.terms r.terms) (list_any (λ s. same_terms s.terms r.terms) rows) e in
    ap (λ b. cond b (lesser s r ∷ rows) (s ∷ placed rows r)) parts.0 ∙ ap (λ rs. s ∷ rs) (placed-new rows r parts.1)

pub turned : (ts us : List Term) → same_terms ts us ≡ false → same_terms us ts ≡ false
turned ts us e = go (same_terms us ts) refl
  where
    go : (b : Bool) → same_terms us ts ≡ b → b ≡ false
    go true f = let back = terms_equal ts us (sym (equal_terms us ts f)) in cc
    go false f = refl

any-push : (p : Row → Bool) (rows : List Row) (r : Row) → list_any p rows ≡ false → p r ≡ false → list_any p (rows ++ r ∷ []) ≡ false
any-push p [] r e f = ap (λ b. b || false) f
any-push p (s ∷ rows) r e f =
    let parts = either_false (p s) (list_any p rows) e in
    ap (λ b. b || list_any p (rows ++ r ∷ [])) parts.0 ∙ any-push p rows r parts.1 f

pub distinct-push : (rows : List Row) (r : Row) → AreDistinct rows → list_any (λ s. same_terms s.terms r.terms) rows ≡ false → AreDistinct (rows ++ r ∷ [])
distinct-push [] r d e = (refl, tt)
distinct-push (s ∷ rows) r d e =
    let parts = either_false (same_terms s.terms r.terms) (list_any (λ s. same_terms s.terms r.terms) rows) e in
    (any-push (λ u. same_terms u.terms s.terms) rows r d.0 (turned s.terms r.terms parts.0), distinct-push rows r d.1 parts.1)

-- ---- where one is equal

any_at : (p : Row → Bool) (rows : List Row) (k : ℕ) (d : Row) → k < length rows → p (get_or rows k d) ≡ true → list_any p rows ≡ true
any_at p [] k d h e = absurd (omega arith)
any_at p (s ∷ rows) zero d h e = ap (λ b. b || list_any p rows) e
any_at p (s ∷ rows) (suc k) d h e = second (p s) (list_any p rows) (any_at p rows k d (omega arith) e)
  where
    second : (a b : Bool) → b ≡ true → (a || b) ≡ true
    second true b e = refl
    second false b e = e

pub placed-at : (rows : List Row) (r : Row) (k : ℕ) → AreDistinct rows → k < length rows → same_terms (get_or rows k r).terms r.terms ≡ true
    → placed rows r ≡ set rows k (lesser (get_or rows k r) r)
unfolding placed
placed-at [] r k d h e = absurd (omega arith)
placed-at (s ∷ rows) r zero d h e = go (same_terms s.terms r.terms) e
  where
    go : (b : Bool) → b ≡ true → cond b (lesser s r ∷ rows) (s ∷ placed rows r) ≡ lesser s r ∷ rows
    go true f = refl
    go false f = cc
placed-at (s ∷ rows) r (suc k) d h e = go (same_terms s.terms r.terms) refl (placed-at rows r k d.1 (omega arith) e)
  where
    go : (b : Bool) → same_terms s.terms r.terms ≡ b → placed rows r ≡ set rows k (lesser (get_or rows k r) r)
        → cond b (lesser s r ∷ rows) (s ∷ placed rows r) ≡ s ∷ set rows k (lesser (get_or rows k r) r)
    go true f later =
        let alike = terms_equal (get_or rows k r).terms s.terms (equal_terms (get_or rows k r).terms r.terms e ∙ sym (equal_terms s.terms r.terms f)) in
        let there = any_at (λ u. same_terms u.terms s.terms) rows k r (omega arith) alike in
        let none = d.0 in
        cc
    go false f later = ap (λ rs. s ∷ rs) later

any-set : (p : Row → Bool) (rows : List Row) (k : ℕ) (d s : Row) → p s ≡ p (get_or rows k d) → list_any p (set rows k s) ≡ list_any p rows
any-set p [] k d s e = refl
any-set p (x ∷ rows) zero d s e = ap (λ b. b || list_any p rows) e
any-set p (x ∷ rows) (suc k) d s e = ap (λ b. p x || b) (any-set p rows k d s e)

pub distinct-set : (rows : List Row) (k : ℕ) (d s : Row) → AreDistinct rows → s.terms ≡ (get_or rows k d).terms → AreDistinct (set rows k s)
distinct-set [] k d s a e = tt
distinct-set (x ∷ rows) zero d s a e = (ap (λ ts. list_any (λ u. same_terms u.terms ts) rows) e ∙ a.0, a.1)
distinct-set (x ∷ rows) (suc k) d s a e =
    (any-set (λ u. same_terms u.terms x.terms) rows k d s (ap (λ ts. same_terms ts x.terms) e) ∙ a.0, distinct-set rows k d s a.1 e)

lesser-terms : (s r : Row) → s.terms ≡ r.terms → (lesser s r).terms ≡ s.terms
lesser-terms s r e = go (int_lt r.constant s.constant)
  where
    go : (b : Bool) → (cond b r s).terms ≡ s.terms
    go true = sym e
    go false = refl

pub distinct-lesser : (rows : List Row) (k : ℕ) (r : Row) → AreDistinct rows → same_terms (get_or rows k r).terms r.terms ≡ true
    → AreDistinct (set rows k (lesser (get_or rows k r) r))
distinct-lesser rows k r a e =
    distinct-set rows k r (lesser (get_or rows k r) r) a (lesser-terms (get_or rows k r) r (equal_terms (get_or rows k r).terms r.terms e))

-- ---- what the search finds

found_place : (rows : List Row) (ts : List Term) (found : Option ℕ) → found ≡ position (λ row. same_terms row.terms ts) rows
    → MatchOption found (list_any (λ row. same_terms row.terms ts) rows ≡ false) (λ k. IsPlace rows ts k)
found_place rows ts None e = sym (is_some-position (λ row. same_terms row.terms ts) rows) ∙ ap is_some (sym e)
found_place rows ts (Some k) e =
    let p = position_passes (λ row. same_terms row.terms ts) rows k (sym e) in
    (slice_get_within rows k p.element p.is, λ d. ap (λ row. same_terms row.terms ts) (get_or_from_slice_get rows k p.element d p.is) ∙ p.passes)

pub found_in : (rows old : List Row) (ts : List Term) (found : Option ℕ) → rows ≡ old → found ≡ position (λ row. same_terms row.terms ts) rows
    → MatchOption found (list_any (λ row. same_terms row.terms ts) old ≡ false) (λ k. IsPlace old ts k)
found_in rows old ts found same e =
    subst (λ (rs : List Row). MatchOption found (list_any (λ row. same_terms row.terms ts) rs ≡ false) (λ k. IsPlace rs ts k)) same (found_place rows ts found e)

-- ---- a row that goes to its place

settle-holds : (rows : List Row) (r : Row) → holds r ≡ true → settle rows r ≡ rows
unfolding settle
settle-holds rows r e = ap (λ b. cond b rows (placed rows r)) e

pub settle-placed : (rows : List Row) (r : Row) → holds r ≡ false → settle rows r ≡ placed rows r
unfolding settle
settle-placed rows r e = ap (λ b. cond b rows (placed rows r)) e

pub settles_none : (rows : List Row) (r : Row) (b : Bool) → b ≡ holds r → b ≡ true → rows ≡ settle rows r
settles_none rows r b e t = sym (settle-holds rows r (sym e ∙ t))

-- as the code has it: the rows, the coefficients that were sought, and what was written

pub keeps_new : (rows old after : List Row) (r : Row) (ts : List Term) → rows ≡ old → ts ≡ r.terms → list_any (λ s. same_terms s.terms ts) old ≡ false
    → AreDistinct rows → after ≡ rows ++ r ∷ [] → AreDistinct after
keeps_new rows old after r ts same e none d change =
    subst (λ (rs : List Row). AreDistinct rs) (sym change)
    (distinct-push rows r d (ap (λ rs. list_any (λ s. same_terms s.terms r.terms) rs) same ∙ ap (λ us. list_any (λ s. same_terms s.terms us) old) (sym e) ∙ none))

pub settles_new : (rows old after : List Row) (r : Row) (ts : List Term) (b : Bool) → b ≡ holds r → b ≡ false → rows ≡ old → ts ≡ r.terms
    → list_any (λ s. same_terms s.terms ts) old ≡ false → after ≡ rows ++ r ∷ [] → after ≡ settle old r
settles_new rows old after r ts b h f same e none change =
    change ∙ ap (λ rs. rs ++ r ∷ []) same
    ∙ sym (settle-placed old r (sym h ∙ f) ∙ placed-new old r (ap (λ us. list_any (λ s. same_terms s.terms us) old) (sym e) ∙ none))

place_in : (rows old : List Row) (r : Row) (ts : List Term) (k : ℕ) → rows ≡ old → ts ≡ r.terms → IsPlace old ts k
    → (k < length rows) × (same_terms (get_or rows k r).terms r.terms ≡ true)
place_in rows old r ts k same e p = (
  omega (arith, p.0, ap length same),
  ap (λ rs. same_terms (get_or rs k r).terms r.terms) same ∙ ap (λ us. same_terms (get_or old k r).terms us) (sym e) ∙ p.1 r,
)

pub keeps_place : (rows old after : List Row) (r : Row) (ts : List Term) (k : ℕ) → rows ≡ old → ts ≡ r.terms → IsPlace old ts k
    → AreDistinct rows → after ≡ set rows k (lesser (get_or rows k r) r) → AreDistinct after
keeps_place rows old after r ts k same e p d change =
    let q = place_in rows old r ts k same e p in
    subst (λ (rs : List Row). AreDistinct rs) (sym change) (distinct-lesser rows k r d q.1)

pub settles_at : (rows old after : List Row) (r : Row) (ts : List Term) (k : ℕ) (b : Bool) → b ≡ holds r → b ≡ false → rows ≡ old → ts ≡ r.terms → IsPlace old ts k
    → AreDistinct rows → after ≡ set rows k (lesser (get_or rows k r) r) → after ≡ settle old r
settles_at rows old after r ts k b h f same e p d change =
    let q = place_in rows old r ts k same e p in
    change ∙ sym (placed-at rows r k d q.0 q.1) ∙ ap (λ rs. placed rs r) same ∙ sym (settle-placed old r (sym h ∙ f))
