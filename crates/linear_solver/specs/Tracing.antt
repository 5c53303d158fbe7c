-- The steps from which one of them is made, counted anew.
use Rattle.std.specs.Prelude.{ℕ, zero, suc, ◌+◌, take, Bool, true, false, List, [], ◌∷◌, ◌++◌, length, replicate, slice_set, if◌then◌else◌}
use Rattle.std.specs.List.{slice_index_or}
use Rattle.solver_rows.specs.declared.step.Step.{Step}
use Rattle.solver_rows.specs.declared.step.Step.TheVariants.{Hyp, Goal, Comb, Cut}

-- ---- which steps are needed

-- the steps whose rows a step takes are marked
abbrev pub with_marks : List Bool → Step → List Bool
with_marks marks (Hyp row) = marks
with_marks marks Goal = marks
with_marks marks (Comb left_by left right_by right) = slice_set (slice_set marks left true) right true
with_marks marks (Cut row by) = slice_set marks row true

abbrev pub marked_at : ℕ → List Step → List Bool → List Bool
marked_at at steps marks = if slice_index_or marks at false then with_marks marks (slice_index_or steps at Goal) else marks

-- from the steps below a number, the last of them first
unfoldable pub marked_below : ℕ → List Step → List Bool → List Bool
marked_below zero steps marks = marks
marked_below (suc at) steps marks = marked_below at steps (marked_at at steps marks)

-- the marks of the steps from which this one is made
abbrev pub needed : List Step → ℕ → List Bool
needed steps line = marked_below (length steps) steps (slice_set (replicate (length steps) false) line true)

-- ---- these steps alone

-- the step with the new numbers of the rows that it takes
abbrev pub renumbered : List ℕ → Step → Step
renumbered numbers (Hyp row) = Hyp row
renumbered numbers Goal = Goal
renumbered numbers (Comb left_by left right_by right) = Comb left_by (slice_index_or numbers left 0) right_by (slice_index_or numbers right 0)
renumbered numbers (Cut row by) = Cut (slice_index_or numbers row 0) by

-- the marked steps, behind those so far; `numbers` has the new number of each step before
unfoldable pub kept_onto : List Step → List ℕ → List Bool → List Step → List Step
kept_onto kept numbers marks [] = kept
kept_onto kept numbers [] (s ∷ steps) = kept
kept_onto kept numbers (mark ∷ marks) (s ∷ steps) =
    if mark then kept_onto (kept ++ renumbered numbers s ∷ []) (numbers ++ length kept ∷ []) marks steps
    else kept_onto kept (numbers ++ 0 ∷ []) marks steps

-- of the steps up to that of this number, those from which it is made; it is the last of them
unfoldable pub traced : List Step → ℕ → List Step
traced steps line = kept_onto [] [] (needed (take (line + 1) steps) line) (take (line + 1) steps)
