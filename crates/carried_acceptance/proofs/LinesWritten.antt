-- Lines that prove a goal have a text, where the rows of its context have, and multipliers are of 64 bits.
use Rattle.std.proofs.Common.{◌≡◌, ℕ, zero, suc, ◌+◌, ◌<◌, ◌≤◌, FitsSigned, ℤ, pos, negsuc, List, [], ◌∷◌, ◌++◌, length, get_or, refl, ap, subst, arith, length-append}
use Rattle.std.specs.Int.{w64}
use Rattle.std.specs.List.{All, AllByRecursion, Contains}
use Rattle.std.proofs.lemmas.List.Elements.{All-head, All-tail}
use Rattle.std.proofs.lemmas.Option.{slice_get_within}
use Rattle.xan_lin.specs.Linear.{Linear}
use Rattle.proof_lines.specs.Lines.{LineGives, LinesGive, LinesProve}
use Rattle.proof_lines.specs.Spelling.{AreLines, IsLine, IsMultiplier}
use Rattle.proof_lines.specs.declared.line.Line.{Line}
use Rattle.proof_lines.specs.declared.line.Line.TheVariants.{Hyp, Goal, Comb, Cut}
use Rattle.dtal_code.specs.Grammar.{AreLinesIn, IsFormIn}
use Rattle.carried_acceptance.specs.WrittenParts.{HasMultipliers}

multiplier_in : (z : ℤ) → FitsSigned w64 z → IsMultiplier z
multiplier_in (pos n) fits = (let h = fits in omega (arith, h))
multiplier_in (negsuc n) fits = (let h = fits in omega (arith, h))

contained : {A : Type 0} (P : A → Type 0) (xs : List A) (x : A) → AllByRecursion P xs → Contains xs x → P x
contained P [] x all c = absurd (let h = c.1 in omega (arith, h))
contained P (y ∷ ys) x all c = at_number c.0 c.1 c.2 (λ k less same. contained P ys x all.1 (k, less, same))
  where
    at_number : (k : ℕ) → k < length (y ∷ ys) → get_or (y ∷ ys) k x ≡ x → ((n : ℕ) → n < length ys → get_or ys n x ≡ x → P x) → P x
    at_number zero less same later = subst P same all.0
    at_number (suc k) less same later = later k (omega (arith, less)) same

module _ (hyps : List Linear) (goal : Linear) (hyps_in : AllByRecursion IsFormIn hyps) where
  line_in : (before : List Linear) (line : Line) (row : Linear) → length before ≤ 4294967295 → HasMultipliers line → LineGives hyps goal before line row → IsLine line
  line_in before (Hyp e) row few many gives = (let is = contained IsFormIn hyps e hyps_in gives.0 in (is.is_form, is.variables))
  line_in before Goal row few many gives = tt
  line_in before (Comb left_by left right_by right) row few many gives =
      let l = slice_get_within before left gives.left_row gives.left_is in
      let r = slice_get_within before right gives.right_row gives.right_is in
      (multiplier_in left_by many.0, omega (arith, few, l), multiplier_in right_by many.1, omega (arith, few, r))
  line_in before (Cut from by) row few many gives = (let l = slice_get_within before from gives.from_row gives.from_is in (omega (arith, few, l), multiplier_in by many))

  lines_in : (before : List Linear) (lines : List Line) (rows : List Linear) → length before + length lines ≤ 4294967295 → All HasMultipliers lines → LinesGive hyps goal before lines rows
      → AreLines lines
  lines_in before [] rows few many gives = tt
  lines_in before (line ∷ lines) [] few many gives = absurd gives
  lines_in before (line ∷ lines) (row ∷ rows) few many gives =
      let more = length-append before (row ∷ []) in (
        line_in before line row (omega (arith, few)) (All-head HasMultipliers line lines many) gives.0,
        lines_in (before ++ row ∷ []) lines rows (omega (arith, few, more)) (All-tail HasMultipliers line lines many) gives.2,
      )

  as_many : (before : List Linear) (lines : List Line) (rows : List Linear) → LinesGive hyps goal before lines rows → length rows ≡ length lines
  as_many before [] rows gives = ap length gives
  as_many before (line ∷ lines) [] gives = absurd gives
  as_many before (line ∷ lines) (row ∷ rows) gives = ap suc (as_many (before ++ row ∷ []) lines rows gives.2)

  pub proof_written : (lines : List Line) → length lines ≤ 4294967295 → All HasMultipliers lines → LinesProve hyps goal lines → AreLinesIn lines
  proof_written lines few many proves =
      let long = as_many [] lines proves.rows proves.given in
      let end = ap length proves.ends.rows_are in
      let both = length-append proves.ends.before (proves.ends.last ∷ []) in
      record { some = omega (arith, long, end, both); few = few; are = lines_in [] lines proves.rows (omega (arith, few)) many proves.given; is = refl }
