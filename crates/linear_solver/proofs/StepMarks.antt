-- The marks of the steps that are needed: what a marked step takes is marked.
use Rattle.std.proofs.Common.{◌≡◌, ℕ, zero, suc, ◌+◌, ◌<◌, ◌≤◌, Bool, true, false, cond, ◌⊎◌, inl, inr, List, [], ◌∷◌, ◌++◌, length, set, get_or, replicate, refl, sym, ◌∙◌, ap, subst, arith, get_or-set_same, get_or-set_other}
use Rattle.std.proofs.lemmas.List.{length-append}
use Rattle.std.proofs.lemmas.Option.{slice_get_within}
use Rattle.xan_lin.specs.Linear.{Linear}
use Rattle.proof_lines.specs.Lines.{LineGives, LinesGive}
use Rattle.solver_rows.specs.declared.step.Step.{Step}
use Rattle.solver_rows.specs.declared.step.Step.TheVariants.{Hyp, Goal, Comb, Cut}
use Rattle.linear_solver.specs.Meaning.{line_meant, lines_meant}
use Rattle.linear_solver.specs.Tracing.{with_marks, marked_at, marked_below, needed}

-- ---- steps that take rows of earlier steps

abbrev pub Below : ℕ → Step → Type 0
Below at (Hyp row) = Unit {0}
Below at Goal = Unit {0}
Below at (Comb left_by left right_by right) = (left < at) × (right < at)
Below at (Cut row by) = row < at

abbrev pub AreEarlier : ℕ → List Step → Type 0
AreEarlier at [] = Unit {0}
AreEarlier at (s ∷ steps) = Below at s × AreEarlier (suc at) steps

below : (hyps : List Linear) (goal : Linear) (rows : List Linear) (s : Step) (row : Linear) → LineGives hyps goal rows (line_meant hyps s) row → Below (length rows) s
below hyps goal rows (Hyp k) row g = tt
below hyps goal rows Goal row g = tt
below hyps goal rows (Comb left_by left right_by right) row g = (slice_get_within rows left g.left_row g.left_is, slice_get_within rows right g.right_row g.right_is)
below hyps goal rows (Cut k by) row g = slice_get_within rows k g.from_row g.from_is

pub earlier : (hyps : List Linear) (goal : Linear) (before : List Linear) (steps : List Step) (rows : List Linear)
    → LinesGive hyps goal before (lines_meant hyps steps) rows → AreEarlier (length before) steps
earlier hyps goal before [] rows g = tt
earlier hyps goal before (s ∷ steps) [] g = absurd g
earlier hyps goal before (s ∷ steps) (row ∷ rows) g = (
  below hyps goal before s row g.0,
  subst (λ (n : ℕ). AreEarlier n steps) (length-append before (row ∷ []) ∙ plus-one (length before)) (earlier hyps goal (before ++ row ∷ []) steps rows g.2),
)
  where
    plus-one : (n : ℕ) → n + 1 ≡ suc n
    plus-one n = omega arith

earlier-at : (base : ℕ) (steps : List Step) (k : ℕ) → AreEarlier base steps → k < length steps → Below (base + k) (get_or steps k Goal)
earlier-at base [] k a h = absurd (omega arith)
earlier-at base (s ∷ steps) zero a h = let same : base ≡ base + 0 = omega arith in subst (λ (n : ℕ). Below n s) same a.0
earlier-at base (s ∷ steps) (suc k) a h =
    let same : suc base + k ≡ base + suc k = omega arith in
    subst (λ (n : ℕ). Below n (get_or steps k Goal)) same (earlier-at (suc base) steps k a.1 (omega arith))

below-at : (steps : List Step) (k : ℕ) → AreEarlier 0 steps → k < length steps → Below k (get_or steps k Goal)
below-at steps k a h = let same : 0 + k ≡ k = omega arith in subst (λ (n : ℕ). Below n (get_or steps k Goal)) same (earlier-at 0 steps k a h)

-- ---- marks

set-other : (marks : List Bool) (i j : ℕ) → i < j → get_or (set marks i true) j false ≡ get_or marks j false
set-other marks i j h = get_or-set_other marks i j true false (λ e. absurd (omega arith))

set-keeps : (marks : List Bool) (i j : ℕ) → get_or marks j false ≡ true → get_or (set marks i true) j false ≡ true
set-keeps [] i j e = e
set-keeps (m ∷ marks) zero zero e = refl
set-keeps (m ∷ marks) zero (suc j) e = e
set-keeps (m ∷ marks) (suc i) zero e = e
set-keeps (m ∷ marks) (suc i) (suc j) e = set-keeps marks i j e

set-marks : (marks : List Bool) (i : ℕ) → i < length marks → get_or (set marks i true) i false ≡ true
set-marks marks i h = get_or-set_same marks i true false h

set-length : (marks : List Bool) (i : ℕ) → length (set marks i true) ≡ length marks
set-length [] i = refl
set-length (m ∷ marks) zero = refl
set-length (m ∷ marks) (suc i) = ap suc (set-length marks i)

taken-other : (marks : List Bool) (s : Step) (at j : ℕ) → Below at s → at ≤ j → get_or (with_marks marks s) j false ≡ get_or marks j false
taken-other marks (Hyp k) at j b h = refl
taken-other marks Goal at j b h = refl
taken-other marks (Comb left_by left right_by right) at j b h = set-other (set marks left true) right j (omega (arith, b.1)) ∙ set-other marks left j (omega (arith, b.0))
taken-other marks (Cut k by) at j b h = set-other marks k j (omega arith)

taken-keeps : (marks : List Bool) (s : Step) (j : ℕ) → get_or marks j false ≡ true → get_or (with_marks marks s) j false ≡ true
taken-keeps marks (Hyp k) j e = e
taken-keeps marks Goal j e = e
taken-keeps marks (Comb left_by left right_by right) j e = set-keeps (set marks left true) right j (set-keeps marks left j e)
taken-keeps marks (Cut k by) j e = set-keeps marks k j e

taken-length : (marks : List Bool) (s : Step) → length (with_marks marks s) ≡ length marks
taken-length marks (Hyp k) = refl
taken-length marks Goal = refl
taken-length marks (Comb left_by left right_by right) = set-length (set marks left true) right ∙ set-length marks left
taken-length marks (Cut k by) = set-length marks k

-- what the step takes is marked
abbrev pub Marked : List Bool → Step → Type 0
Marked marks (Hyp k) = Unit {0}
Marked marks Goal = Unit {0}
Marked marks (Comb left_by left right_by right) = (get_or marks left false ≡ true) × (get_or marks right false ≡ true)
Marked marks (Cut k by) = get_or marks k false ≡ true

taken-marked : (marks : List Bool) (s : Step) (at : ℕ) → Below at s → at ≤ length marks → Marked (with_marks marks s) s
taken-marked marks (Hyp k) at b h = tt
taken-marked marks Goal at b h = tt
taken-marked marks (Comb left_by left right_by right) at b h = (
  set-keeps (set marks left true) right left (set-marks marks left (omega (arith, b.0))),
  set-marks (set marks left true) right (omega (arith, b.1, set-length marks left)),
)
taken-marked marks (Cut k by) at b h = set-marks marks k (omega arith)

marked-more : (old new : List Bool) (s : Step) → ((j : ℕ) → get_or old j false ≡ true → get_or new j false ≡ true) → Marked old s → Marked new s
marked-more old new (Hyp k) h m = tt
marked-more old new Goal h m = tt
marked-more old new (Comb left_by left right_by right) h m = (h left m.0, h right m.1)
marked-more old new (Cut k by) h m = h k m

-- ---- one step

at-other : (at : ℕ) (steps : List Step) (marks : List Bool) (j : ℕ) → Below at (get_or steps at Goal) → at ≤ j → get_or (marked_at at steps marks) j false ≡ get_or marks j false
at-other at steps marks j b h = go (get_or marks at false)
  where
    go : (c : Bool) → get_or (cond c (with_marks marks (get_or steps at Goal)) marks) j false ≡ get_or marks j false
    go true = taken-other marks (get_or steps at Goal) at j b h
    go false = refl

at-keeps : (at : ℕ) (steps : List Step) (marks : List Bool) (j : ℕ) → get_or marks j false ≡ true → get_or (marked_at at steps marks) j false ≡ true
at-keeps at steps marks j e = go (get_or marks at false)
  where
    go : (c : Bool) → get_or (cond c (with_marks marks (get_or steps at Goal)) marks) j false ≡ true
    go true = taken-keeps marks (get_or steps at Goal) j e
    go false = e

at-length : (at : ℕ) (steps : List Step) (marks : List Bool) → length (marked_at at steps marks) ≡ length marks
at-length at steps marks = go (get_or marks at false)
  where
    go : (c : Bool) → length (cond c (with_marks marks (get_or steps at Goal)) marks) ≡ length marks
    go true = taken-length marks (get_or steps at Goal)
    go false = refl

at-marked : (at : ℕ) (steps : List Step) (marks : List Bool) → Below at (get_or steps at Goal) → at ≤ length marks → get_or marks at false ≡ true
    → Marked (marked_at at steps marks) (get_or steps at Goal)
at-marked at steps marks b h e = go (get_or marks at false) e
  where
    go : (c : Bool) → c ≡ true → Marked (cond c (with_marks marks (get_or steps at Goal)) marks) (get_or steps at Goal)
    go true f = taken-marked marks (get_or steps at Goal) at b h
    go false f = cc

-- ---- all steps below a number

below-other : (at : ℕ) (steps : List Step) (marks : List Bool) (j : ℕ) → AreEarlier 0 steps → at ≤ length steps → at ≤ j
    → get_or (marked_below at steps marks) j false ≡ get_or marks j false
unfolding marked_below
below-other zero steps marks j a k h = refl
below-other (suc at) steps marks j a k h =
    below-other at steps (marked_at at steps marks) j a (omega arith) (omega arith) ∙ at-other at steps marks j (below-at steps at a (omega arith)) (omega arith)

pub below-keeps : (at : ℕ) (steps : List Step) (marks : List Bool) (j : ℕ) → get_or marks j false ≡ true → get_or (marked_below at steps marks) j false ≡ true
unfolding marked_below
below-keeps zero steps marks j e = e
below-keeps (suc at) steps marks j e = below-keeps at steps (marked_at at steps marks) j (at-keeps at steps marks j e)

pub below-length : (at : ℕ) (steps : List Step) (marks : List Bool) → length (marked_below at steps marks) ≡ length marks
unfolding marked_below
below-length zero steps marks = refl
below-length (suc at) steps marks = below-length at steps (marked_at at steps marks) ∙ at-length at steps marks

next_order : (j at : ℕ) → (j < at) ⊎ (j ≡ at) → (suc j < suc at) ⊎ (suc j ≡ suc at)
next_order j at (inl less) = inl (omega arith)
next_order j at (inr same) = inr (ap suc same)

order : (j at : ℕ) → j ≤ at → (j < at) ⊎ (j ≡ at)
order zero zero h = inr refl
order zero (suc at) h = inl (omega arith)
order (suc j) zero h = absurd (omega arith)
order (suc j) (suc at) h = next_order j at (order j at (omega arith))

below-marked : (at : ℕ) (steps : List Step) (marks : List Bool) (j : ℕ) → AreEarlier 0 steps → at ≤ length steps → length marks ≡ length steps → j < at
    → get_or (marked_below at steps marks) j false ≡ true → Marked (marked_below at steps marks) (get_or steps j Goal)
unfolding marked_below
below-marked zero steps marks j a k l h e = absurd (omega arith)
below-marked (suc at) steps marks j a k l h e =
    go (order j at (omega arith)) (λ less. below-marked at steps (marked_at at steps marks) j a (omega arith) (at-length at steps marks ∙ l) less e)
  where
    here : j ≡ at → Marked (marked_below at steps (marked_at at steps marks)) (get_or steps j Goal)
    here same =
        let b = below-at steps at a (omega arith) in
        let was : get_or marks at false ≡ true =
        sym (below-other at steps (marked_at at steps marks) at a (omega arith) (omega arith) ∙ at-other at steps marks at b (omega arith))
        ∙ ap (λ n. get_or (marked_below at steps (marked_at at steps marks)) n false) (sym same) ∙ e in
        subst (λ (n : ℕ). Marked (marked_below at steps (marked_at at steps marks)) (get_or steps n Goal)) (sym same)
        (marked-more (marked_at at steps marks) (marked_below at steps (marked_at at steps marks)) (get_or steps at Goal)
        (λ i f. below-keeps at steps (marked_at at steps marks) i f) (at-marked at steps marks b (omega arith) was))

    go : (j < at) ⊎ (j ≡ at) → (j < at → Marked (marked_below at steps (marked_at at steps marks)) (get_or steps j Goal))
        → Marked (marked_below at steps (marked_at at steps marks)) (get_or steps j Goal)
    go (inl less) later = later less
    go (inr same) later = here same

pub length-none : (n : ℕ) → length (replicate n false) ≡ n
length-none zero = refl
length-none (suc n) = ap suc (length-none n)

pub needed-length : (steps : List Step) (line : ℕ) → length (needed steps line) ≡ length steps
needed-length steps line =
    below-length (length steps) steps (set (replicate (length steps) false) line true) ∙ set-length (replicate (length steps) false) line ∙ length-none (length steps)

pub needed-line : (steps : List Step) (line : ℕ) → line < length steps → get_or (needed steps line) line false ≡ true
needed-line steps line h =
    below-keeps (length steps) steps (set (replicate (length steps) false) line true) line
    (set-marks (replicate (length steps) false) line (omega (arith, length-none (length steps))))

-- what a needed step takes is needed
pub needed-marked : (steps : List Step) (line j : ℕ) → AreEarlier 0 steps → j < length steps → get_or (needed steps line) j false ≡ true → Marked (needed steps line) (get_or steps j Goal)
needed-marked steps line j a h e =
    below-marked (length steps) steps (set (replicate (length steps) false) line true) j a (omega arith)
    (set-length (replicate (length steps) false) line ∙ length-none (length steps)) h e
