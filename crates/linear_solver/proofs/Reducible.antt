-- Rows that are tight and different: nothing changes where they are reduced again.
use Rattle.std.proofs.Common.{◌≡◌, ℕ, pos, Bool, true, false, cond, ◌||◌, nat_lt, List, [], ◌∷◌, ◌++◌, refl, sym, ◌∙◌, ap, subst}
use Rattle.std.specs.List.{list_any}
use Rattle.std.proofs.lemmas.List.{append_assoc, append-nil}
use Rattle.xan_lin.specs.Linear.{Linear}
use Rattle.proof_lines.specs.Rows.{cut_of}
use Rattle.solver_rows.specs.declared.source.Sign.{Sign}
use Rattle.solver_rows.specs.declared.step.Step.{Step}
use Rattle.solver_rows.specs.Divisors.{divisor}
use Rattle.solver_rows.specs.SystemRows.{Row, linear_of, row_of, same_terms, tight, has_sign}
use Rattle.linear_solver.specs.Systems.{settle, reduced_onto, with_sign}
use Rattle.linear_solver.specs.Numbering.{numbered, steps_with, line_with, at_line}
use Rattle.linear_solver.specs.Reducing.{AreDistinct}
use Rattle.linear_solver.specs.Region.{IsSettled, AreSettled, AreLines}
use Rattle.linear_solver.proofs.Distinct.{placed-new, turned, settle-placed, either_false}

-- ---- reduced again

tight-same : (r : Row) → IsSettled (linear_of r) → r.by ≡ pos 1 → tight r.source (linear_of r) ≡ r
unfolding tight
tight-same r s one = go (nat_lt 1 (divisor r.terms)) s.tight (row_of r.source (pos (divisor r.terms)) (cut_of (linear_of r) (pos (divisor r.terms))))
  where
    go : (b : Bool) → b ≡ false → (x : Row) → cond b x (row_of r.source (pos 1) (linear_of r)) ≡ r
    go true e x = cc
    go false e x = ap (λ n. let y : Row = record { terms = r.terms; constant = r.constant; source = r.source; by = n } in y) (sym one)

front-other : (made rows : List Row) (r : Row) → AreDistinct (made ++ r ∷ rows) → list_any (λ s. same_terms s.terms r.terms) made ≡ false
front-other [] rows r d = refl
front-other (x ∷ made) rows r d =
    ap (λ b. b || list_any (λ s. same_terms s.terms r.terms) made) (turned r.terms x.terms (any-in made rows r (λ s. same_terms s.terms x.terms) d.0)) ∙ front-other made rows r d.1
  where
    any-in : (made rows : List Row) (r : Row) (p : Row → Bool) → list_any p (made ++ r ∷ rows) ≡ false → p r ≡ false
    any-in [] rows r p e = (either_false (p r) (list_any p rows) e).0
    any-in (y ∷ made) rows r p e = any-in made rows r p (either_false (p y) (list_any p (made ++ r ∷ rows)) e).1

settles : (made rows : List Row) (r : Row) → IsSettled (linear_of r) → r.by ≡ pos 1 → AreDistinct (made ++ r ∷ rows) → settle made (tight r.source (linear_of r)) ≡ made ++ r ∷ []
settles made rows r s one d =
    ap (settle made) (tight-same r s one) ∙ settle-placed made r s.told ∙ placed-new made r (front-other made rows r d)

reduced-same : (made rows : List Row) → AreSettled rows → AreLines rows → AreDistinct (made ++ rows) → reduced_onto made rows ≡ made ++ rows
unfolding reduced_onto
reduced-same made [] s l d = sym (append-nil made)
reduced-same made (r ∷ rows) s l d =
    let same : made ++ r ∷ rows ≡ (made ++ r ∷ []) ++ rows = sym (append_assoc made (r ∷ []) rows) in
    ap (λ ms. reduced_onto ms rows) (settles made rows r s.0 l.0 d)
    ∙ reduced-same (made ++ r ∷ []) rows s.1 l.1 (subst AreDistinct same d) ∙ sym same

-- ---- those without a variable

settled-sign : (sign : Sign) (v : ℕ) (rows : List Row) → AreSettled rows → AreSettled (with_sign sign v rows)
unfolding with_sign
settled-sign sign v [] s = tt
settled-sign sign v (r ∷ rows) s = go (has_sign sign v r) (settled-sign sign v rows s.1)
  where
    go : (b : Bool) → AreSettled (with_sign sign v rows) → AreSettled (cond b (r ∷ with_sign sign v rows) (with_sign sign v rows))
    go true t = (s.0, t)
    go false t = t

lines-sign : (sign : Sign) (v : ℕ) (rows : List Row) → AreLines rows → AreLines (with_sign sign v rows)
unfolding with_sign
lines-sign sign v [] s = tt
lines-sign sign v (r ∷ rows) s = go (has_sign sign v r) (lines-sign sign v rows s.1)
  where
    go : (b : Bool) → AreLines (with_sign sign v rows) → AreLines (cond b (r ∷ with_sign sign v rows) (with_sign sign v rows))
    go true t = (s.0, t)
    go false t = t

any-sign : (sign : Sign) (v : ℕ) (rows : List Row) (p : Row → Bool) → list_any p rows ≡ false → list_any p (with_sign sign v rows) ≡ false
unfolding with_sign
any-sign sign v [] p e = refl
any-sign sign v (r ∷ rows) p e =
    let parts = either_false (p r) (list_any p rows) e in
    go (has_sign sign v r) parts.0 (any-sign sign v rows p parts.1)
  where
    go : (b : Bool) → p r ≡ false → list_any p (with_sign sign v rows) ≡ false → list_any p (cond b (r ∷ with_sign sign v rows) (with_sign sign v rows)) ≡ false
    go true f t = ap (λ b. b || list_any p (with_sign sign v rows)) f ∙ t
    go false f t = t

distinct-sign : (sign : Sign) (v : ℕ) (rows : List Row) → AreDistinct rows → AreDistinct (with_sign sign v rows)
unfolding with_sign
distinct-sign sign v [] d = tt
distinct-sign sign v (r ∷ rows) d = go (has_sign sign v r) (distinct-sign sign v rows d.1)
  where
    go : (b : Bool) → AreDistinct (with_sign sign v rows) → AreDistinct (cond b (r ∷ with_sign sign v rows) (with_sign sign v rows))
    go true t = (any-sign sign v rows (λ s. same_terms s.terms r.terms) d.0, t)
    go false t = t

pub record Kept (rows made : List Row) : Type 0 where
  pub same : reduced_onto [] made ≡ made
  pub settled : AreSettled made
  pub distinct : AreDistinct made

pub keeps : (sign : Sign) (v : ℕ) (rows : List Row) → AreSettled rows → AreLines rows → AreDistinct rows → Kept rows (with_sign sign v rows)
keeps sign v rows s l d = record {
  same = reduced-same [] (with_sign sign v rows) (settled-sign sign v rows s) (lines-sign sign v rows l) (distinct-sign sign v rows d);
  settled = settled-sign sign v rows s;
  distinct = distinct-sign sign v rows d;
}

-- ---- one more row, and another in its place

pub settled-push : (rows : List Row) (r : Row) → AreSettled rows → IsSettled (linear_of r) → AreSettled (rows ++ r ∷ [])
settled-push [] r s t = (t, tt)
settled-push (x ∷ rows) r s t = (s.0, settled-push rows r s.1 t)

-- ---- rows that steps give

abbrev Alike : List Row → List Row → Type 0
Alike [] [] = Unit {0}
Alike [] (y ∷ ys) = ⊥
Alike (x ∷ xs) [] = ⊥
Alike (x ∷ xs) (y ∷ ys) = (linear_of x ≡ linear_of y) × Alike xs ys

alike-same : (rows : List Row) → Alike rows rows
alike-same [] = tt
alike-same (r ∷ rows) = (refl, alike-same rows)

alike-then : (xs ys zs : List Row) → Alike xs ys → Alike ys zs → Alike xs zs
alike-then [] [] zs a b = b
alike-then [] (y ∷ ys) zs a b = absurd a
alike-then (x ∷ xs) [] zs a b = absurd a
alike-then (x ∷ xs) (y ∷ ys) [] a b = absurd b
alike-then (x ∷ xs) (y ∷ ys) (z ∷ zs) a b = (a.0 ∙ b.0, alike-then xs ys zs a.1 b.1)

alike-swap : (done rows : List Row) (r s : Row) → linear_of r ≡ linear_of s → Alike (done ++ r ∷ rows) ((done ++ s ∷ []) ++ rows)
alike-swap [] rows r s e = (e, alike-same rows)
alike-swap (x ∷ done) rows r s e = (refl, alike-swap done rows r s e)

alike-numbered : (steps : List Step) (done rows : List Row) → Alike (done ++ rows) (numbered steps done rows).rows
unfolding numbered
alike-numbered steps done [] = subst (λ (xs : List Row). Alike xs done) (sym (append-nil done)) (alike-same done)
alike-numbered steps done (r ∷ rows) =
    let next = done ++ at_line (line_with steps r.source r.by) r ∷ [] in
    alike-then (done ++ r ∷ rows) (next ++ rows) (numbered (steps_with steps r.source r.by) next rows).rows
    (alike-swap done rows r (at_line (line_with steps r.source r.by) r) refl) (alike-numbered (steps_with steps r.source r.by) next rows)

settled-alike : (xs ys : List Row) → Alike xs ys → AreSettled xs → AreSettled ys
settled-alike [] [] a s = tt
settled-alike [] (y ∷ ys) a s = absurd a
settled-alike (x ∷ xs) [] a s = absurd a
settled-alike (x ∷ xs) (y ∷ ys) a s = (subst IsSettled a.0 s.0, settled-alike xs ys a.1 s.1)

any-alike : (p : Linear → Bool) (xs ys : List Row) → Alike xs ys → list_any (λ s. p (linear_of s)) xs ≡ list_any (λ s. p (linear_of s)) ys
any-alike p [] [] a = refl
any-alike p [] (y ∷ ys) a = absurd a
any-alike p (x ∷ xs) [] a = absurd a
any-alike p (x ∷ xs) (y ∷ ys) a = ap (λ l. p l || list_any (λ s. p (linear_of s)) xs) a.0 ∙ ap (λ b. p (linear_of y) || b) (any-alike p xs ys a.1)

distinct-alike : (xs ys : List Row) → Alike xs ys → AreDistinct xs → AreDistinct ys
distinct-alike [] [] a d = tt
distinct-alike [] (y ∷ ys) a d = absurd a
distinct-alike (x ∷ xs) [] a d = absurd a
distinct-alike (x ∷ xs) (y ∷ ys) a d = (
  sym (any-alike (λ l. same_terms l.terms y.terms) xs ys a.1) ∙ ap (λ l. list_any (λ s. same_terms s.terms l.terms) xs) (sym a.0) ∙ d.0,
  distinct-alike xs ys a.1 d.1,
)

lines-push : (rows : List Row) (r : Row) → AreLines rows → r.by ≡ pos 1 → AreLines (rows ++ r ∷ [])
lines-push [] r l e = (e, tt)
lines-push (x ∷ rows) r l e = (l.0, lines-push rows r l.1 e)

lines-numbered : (steps : List Step) (done rows : List Row) → AreLines done → AreLines (numbered steps done rows).rows
unfolding numbered
lines-numbered steps done [] l = l
lines-numbered steps done (r ∷ rows) l =
    lines-numbered (steps_with steps r.source r.by) (done ++ at_line (line_with steps r.source r.by) r ∷ []) rows (lines-push done (at_line (line_with steps r.source r.by) r) l refl)

pub record Numbered (rows : List Row) : Type 0 where
  pub settled : AreSettled rows
  pub distinct : AreDistinct rows
  pub lines : AreLines rows

pub numbers_keep : (steps : List Step) (rows : List Row) → AreSettled rows → AreDistinct rows → Numbered (numbered steps [] rows).rows
numbers_keep steps rows s d = record {
  settled = settled-alike rows (numbered steps [] rows).rows (alike-numbered steps [] rows) s;
  distinct = distinct-alike rows (numbered steps [] rows).rows (alike-numbered steps [] rows) d;
  lines = lines-numbered steps [] rows tt;
}
