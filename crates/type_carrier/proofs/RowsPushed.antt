-- Rows behind the others, by what is found of a goal; turns of the search for the goal that has a row.
use Rattle.std.proofs.Common.{◌≡◌, ◌∙◌, ℕ, ◌-◌, ◌≤◌, ◌<◌, Bool, true, false, List, [], ◌∷◌, ◌++◌, length, drop, take, get_or, Option, Some, None, slice_get, refl, sym, ap, ap₂, arith, append-nil}
use Rattle.std.proofs.lemmas.List.{take_rest}
use Rattle.proof_lines.specs.declared.line.Line.{Line}
use Rattle.xan_lin.specs.Linear.{Linear}
use Rattle.three_address.specs.declared.typed.ProvedRow.{ProvedRow}
use Rattle.typed_core.specs.declared.goal.GoalAt.{GoalAt}
use Rattle.type_carrier.specs.ProvedRows.{Proofs, row_with, row_at, is_row, first_or, row_among}

-- ---- one row

pub no_goal : (place : Option ℕ) (goal : Option GoalAt) (lines : Option (List Line)) (made : List ProvedRow) → None ≡ goal → made ≡ made ++ row_with place goal lines
no_goal place None lines made e = sym (append-nil made)
no_goal place (Some g) lines made e = absurd (let bad : ⊥ = cc in bad)

pub no_lines : (place : Option ℕ) (goal : Option GoalAt) (lines : Option (List Line)) (made : List ProvedRow) → None ≡ lines → made ≡ made ++ row_with place goal lines
no_lines place None lines made e = sym (append-nil made)
no_lines place (Some g) None made e = sym (append-nil made)
no_lines place (Some g) (Some l) made e = absurd (let bad : ⊥ = cc in bad)

abbrev proved : (place : Option ℕ) → Linear → List Line → ProvedRow
proved place row lines = record { place = place; row = row; lines = lines }

pub row_pushed : (place : Option ℕ) (goal : Option GoalAt) (g : GoalAt) (lines : Option (List Line)) (l seen : List Line) (row : Linear) (made after : List ProvedRow)
    → Some g ≡ goal → Some l ≡ lines → row ≡ g.row → seen ≡ l → after ≡ made ++ proved place row seen ∷ [] → after ≡ made ++ row_with place goal lines
row_pushed place None g lines l seen row made after e f r s is = absurd (let bad : ⊥ = cc in bad)
row_pushed place (Some h) g None l seen row made after e f r s is = absurd (let bad : ⊥ = cc in bad)
row_pushed place (Some h) g (Some k) l seen row made after e f r s is =
    let goals : g ≡ h = cc in
    let both : l ≡ k = cc in
    is ∙ ap₂ (λ x y. made ++ proved place x y ∷ []) (r ∙ ap (λ (z : GoalAt). z.row) goals) (s ∙ both)

pub ruleset rows_pushed = (no_goal, no_lines)

-- ---- the goal that has a row

is_first : (proofs : Proofs) (n : ℕ) (ns : List ℕ) (place : Option ℕ) (row : Linear) (o : Option GoalAt) (t b : Bool) → t ≡ is_row row o → o ≡ slice_get proofs.goals n → t ≡ b
    → row_among proofs (n ∷ ns) place row ≡ first_or b (row_at proofs place n) (row_among proofs ns place row)
unfolding row_among
is_first proofs n ns place row o t b is at so =
    ap (λ x. first_or x (row_at proofs place n) (row_among proofs ns place row)) (ap (λ x. is_row row x) (sym at) ∙ sym is ∙ so)

pub among_found : (proofs : Proofs) (numbers : List ℕ) (n : ℕ) (place : Option ℕ) (row : Linear) (o : Option GoalAt) (t : Bool) (whole made now after : List ProvedRow)
    → 1 ≤ length numbers → n ≡ get_or numbers 0 n → t ≡ is_row row o → o ≡ slice_get proofs.goals n → t ≡ true
    → now ≡ made → row_among proofs numbers place row ≡ whole → after ≡ now ++ row_at proofs place n → after ≡ made ++ whole
among_found proofs [] n place row o t whole made now after le first is at so same inv push = absurd (omega (arith, le))
among_found proofs (m ∷ ns) n place row o t whole made now after le first is at so same inv push =
    let found = is_first proofs m ns place row o t true is (at ∙ ap (λ x. slice_get proofs.goals x) first) so in
    push ∙ ap₂ (λ xs x. xs ++ row_at proofs place x) same first ∙ ap (λ xs. made ++ xs) (sym found ∙ inv)

pub among_later : (proofs : Proofs) (numbers : List ℕ) (n : ℕ) (place : Option ℕ) (row : Linear) (o : Option GoalAt) (t : Bool) (whole : List ProvedRow)
    → 1 ≤ length numbers → n ≡ get_or numbers 0 n → t ≡ is_row row o → o ≡ slice_get proofs.goals n → t ≡ false
    → row_among proofs numbers place row ≡ whole → row_among proofs (take (length numbers - 1) (drop 1 numbers)) place row ≡ whole
among_later proofs [] n place row o t whole le first is at so inv = absurd (omega (arith, le))
among_later proofs (m ∷ ns) n place row o t whole le first is at so inv =
    ap (λ xs. row_among proofs xs place row) (take_rest (m ∷ ns) 1)
    ∙ sym (is_first proofs m ns place row o t false is (at ∙ ap (λ x. slice_get proofs.goals x) first) so) ∙ inv

pub among_none : (proofs : Proofs) (numbers : List ℕ) (place : Option ℕ) (row : Linear) (whole made now : List ProvedRow)
    → length numbers < 1 → now ≡ made → row_among proofs numbers place row ≡ whole → now ≡ made ++ whole
unfolding row_among
among_none proofs [] place row whole made now lt same inv = same ∙ sym (append-nil made) ∙ ap (λ xs. made ++ xs) inv
among_none proofs (m ∷ ns) place row whole made now lt same inv = absurd (omega (arith, lt))
