-- Columns of live places at labels are made of marks at the positions of labels.
use Rattle.std.proofs.Common.{◌≡◌, ◌↔◌, ℕ, zero, suc, ◌+◌, ◌<◌, Bool, true, false, List, [], ◌∷◌, ◌++◌, length, slice_get, nat_lt, Some, refl, sym, ap, ◌∙◌, subst, append_assoc, append-nil, length-append, arith}
use Rattle.std.proofs.lemmas.Bool.Decides.{nat_tests}
use Rattle.std.proofs.lemmas.Option.{slice_get_past}
use Rattle.three_address.specs.Flow.{label_at}
use Rattle.three_address.specs.LiveLabels.{marks_onto, label_mark, IsColumn, AreColumns, AreAllColumns, column_mark, live_mark}
use Rattle.three_address.specs.Liveness.{Live}
use Rattle.three_address.specs.PlaceLives.{AreLive}
use Rattle.three_address.specs.Splits.{marked}
use Rattle.three_address.specs.declared.function.LowFun.{LowFun}

-- columns of the first places
pub record SoFar (fun : LowFun) (count : ℕ) (columns : List (List Bool)) : Type 0 where
  pub each : length columns ≡ count
  pub are : AreColumns fun 0 columns

-- ---- a column

-- the marks at positions
unfoldable marks_of : (marks : List Bool) → (positions : List ℕ) → List Bool
marks_of marks [] = []
marks_of marks (at ∷ positions) = marked marks at ∷ marks_of marks positions

onto-is : (marks : List Bool) (positions : List ℕ) (made : List Bool) → marks_onto marks positions made ≡ made ++ marks_of marks positions
unfolding marks_onto marks_of
onto-is marks [] made = sym (append-nil made)
onto-is marks (at ∷ positions) made = onto-is marks positions (made ++ marked marks at ∷ []) ∙ append_assoc made (marked marks at ∷ []) (marks_of marks positions)

length-marks : (marks : List Bool) (positions : List ℕ) → length (marks_of marks positions) ≡ length positions
unfolding marks_of
length-marks marks [] = refl
length-marks marks (at ∷ positions) = ap suc (length-marks marks positions)

-- the mark of a label is that at its position
mark-of : (marks : List Bool) (labels : List ℕ) (label at : ℕ) → label_at labels label ≡ Some at → label_mark (marks_of marks labels) label ≡ marked marks at
unfolding marks_of
mark-of marks labels zero at e = cc
mark-of marks [] (suc before) at e = cc
mark-of marks (position ∷ labels) (suc zero) at e = ap (marked marks) (same position at e)
  where
    same : (a b : ℕ) → Some a ≡ Some b → a ≡ b
    same a b e = cc
mark-of marks (position ∷ labels) (suc (suc before)) at e = mark-of marks labels (suc before) at e

pub column_is : (fun : LowFun) (place : ℕ) (marks found : List Bool) → AreLive fun place marks → found ≡ marks_onto marks fun.labels [] → IsColumn fun place found
column_is fun place marks found live is =
    let same : found ≡ marks_of marks fun.labels = is ∙ onto-is marks fun.labels [] in
    record {
      each = ap length same ∙ length-marks marks fun.labels;
      live = λ label at there.
          let mark : label_mark found label ≡ marked marks at = ap (λ c. label_mark c label) same ∙ mark-of marks fun.labels label at there in
          ((λ e. live.live at (sym mark ∙ e)), (λ l. mark ∙ live.all at l));
    }

-- ---- columns

more_columns : (fun : LowFun) (from : ℕ) (columns : List (List Bool)) (column : List Bool) → AreColumns fun from columns → IsColumn fun (from + length columns) column
    → AreColumns fun from (columns ++ column ∷ [])
unfolding AreColumns
more_columns fun from [] column are is = let same : from + 0 ≡ from = omega arith in (subst (λ (p : ℕ). IsColumn fun p column) same is, tt)
more_columns fun from (c ∷ columns) column are is =
    let same : from + suc (length columns) ≡ suc from + length columns = omega arith in
    (are.0, more_columns fun (suc from) columns column are.1 (subst (λ (p : ℕ). IsColumn fun p column) same is))

pub no_columns : (fun : LowFun) → SoFar fun 0 []
unfolding AreColumns
no_columns fun = record { each = refl; are = tt }

pub one_more : (fun : LowFun) (count : ℕ) (columns : List (List Bool)) (column : List Bool) → SoFar fun count columns → IsColumn fun count column
    → SoFar fun (count + 1) (columns ++ column ∷ [])
one_more fun count columns column so is = record {
  each = omega (arith, length-append columns (column ∷ []), so.each);
  are = more_columns fun 0 columns column so.are (subst (λ (p : ℕ). IsColumn fun p column) (omega (arith, so.each)) is);
}

pub all_columns : (fun : LowFun) (columns : List (List Bool)) → SoFar fun fun.places columns → AreAllColumns fun columns
all_columns fun columns so = record { each = so.each; are = so.are }

-- ---- the mark of a place at a label

column_at : (fun : LowFun) (from : ℕ) (columns : List (List Bool)) (place : ℕ) → AreColumns fun from columns → place < length columns
    → (column : List Bool) × (slice_get columns place ≡ Some column) × IsColumn fun (from + place) column
unfolding AreColumns
column_at fun from [] place are lt = absurd (omega (arith, lt))
column_at fun from (c ∷ columns) zero are lt = let same : from ≡ from + 0 = omega arith in (c, refl, subst (λ (p : ℕ). IsColumn fun p c) same are.0)
column_at fun from (c ∷ columns) (suc place) are lt =
    let found = column_at fun (suc from) columns place are.1 (omega (arith, lt)) in
    let same : suc from + place ≡ from + suc place = omega arith in
    (found.0, found.1, subst (λ (p : ℕ). IsColumn fun p found.0) same found.2)

pub mark_is_live : (fun : LowFun) (columns : List (List Bool)) (label at place : ℕ) → AreAllColumns fun columns → place < fun.places
    → label_at fun.labels label ≡ Some at → (live_mark columns label place ≡ true) ↔ Live fun at place
mark_is_live fun columns label at place all lt there =
    let found = column_at fun 0 columns place all.are (omega (arith, all.each, lt)) in
    let is : IsColumn fun place found.0 = subst (λ (p : ℕ). IsColumn fun p found.0) (omega arith) found.2 in
    let mark : live_mark columns label place ≡ label_mark found.0 label = ap (λ o. column_mark o label) found.1 in
    let both = is.live label at there in
    ((λ e. both.0 (sym mark ∙ e)), (λ l. mark ∙ both.1 l))

-- where there is no column, there is no mark
pub none_past : (columns : List (List Bool)) (label place : ℕ) → false ≡ nat_lt place (length columns) → false ≡ live_mark columns label place
none_past columns label place e = ap (λ o. column_mark o label) (sym (slice_get_past columns place (grind (arith, nat_tests))))
