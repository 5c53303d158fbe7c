-- What a construct demands is known, or proved by what stands with its instruction.
use Rattle.std.proofs.Common.{◌≡◌, ◌∙◌, ℕ, zero, suc, List, [], ◌∷◌, ◌++◌, length, slice_get, Bool as Truth, true, false, Option, Some, None, refl, sym, ap, subst, append_assoc, append-nil}
use Rattle.index_sorts.specs.Context.{IndexContext}
use Rattle.index_sorts.specs.Known.{knows}
use Rattle.proof_lines.specs.declared.line.Line.{Line}
use Rattle.xan_lin.specs.Linear.{Linear}
use Rattle.three_address.specs.Demands.{demands_of, AreProved, AllProved, IsKnown, HasLines}
use Rattle.three_address.specs.declared.typed.ProvedRow.{ProvedRow}
use Rattle.typed_core.specs.Growth.{Continues}
use Rattle.typed_core.specs.Proving.{ProveGoal, ProveAll}
use Rattle.typed_core.specs.States.{Site, Asked, asked, all_asked}
use Rattle.typed_core.specs.declared.goal.GoalAt.{GoalAt}
use Rattle.typed_core.proofs.Continued.{more_again}
use Rattle.typed_core.proofs.GrownContexts.{all_asked_more}
use Rattle.type_carrier.specs.ProvedRows.{Proofs, row_with, row_at, rows_onto}

-- ---- goals that are there have lines

pub seam : {A : Type 0} (xs ys : List A) (x : A) → slice_get (xs ++ x ∷ ys) (length xs) ≡ Some x
seam [] ys x = refl
seam (y ∷ xs) ys x = seam xs ys x

-- the goal of a number, with lines that prove it
pub record HasProof (proofs : Proofs) (number : ℕ) (goal : GoalAt) : Type 0 where
  pub goal_is : slice_get proofs.goals number ≡ Some goal
  pub by : List Line
  pub lines_are : slice_get proofs.lines number ≡ Some by
  pub proves : ProveGoal goal by

lines_found : (goals : List GoalAt) (lines : List (List Line)) (number : ℕ) (goal : GoalAt) → ProveAll goals lines → slice_get goals number ≡ Some goal
    → HasProof (record { goals = goals; lines = lines }) number goal
lines_found [] lines number goal all e = absurd (let bad : ⊥ = cc in bad)
lines_found (g ∷ goals) [] number goal all e = absurd all
lines_found (g ∷ goals) (by ∷ lines) zero goal all e = record { goal_is = e; by = by; lines_are = refl; proves = subst (λ x. ProveGoal x by) (some_same e) all.0 }
  where
    some_same : Some g ≡ Some goal → g ≡ goal
    some_same e = cc
lines_found (g ∷ goals) (by ∷ lines) (suc number) goal all e =
    let found = lines_found goals lines number goal all.1 e in
    record { goal_is = found.goal_is; by = found.by; lines_are = found.lines_are; proves = found.proves }

-- a goal that was added stands at its number
pub goal_stands : (proofs : Proofs) → ProveAll proofs.goals proofs.lines → (before : List GoalAt) (goal : GoalAt) → Continues (before ++ goal ∷ []) proofs.goals
    → HasProof proofs (length before) goal
goal_stands proofs all before goal more =
    lines_found proofs.goals proofs.lines (length before) goal all
    (ap (λ gs. slice_get gs (length before)) (more.is ∙ append_assoc before (goal ∷ []) more.rest) ∙ seam before more.rest goal)

pub row_is : (proofs : Proofs) (place : Option ℕ) (number : ℕ) (goal : GoalAt) (h : HasProof proofs number goal)
    → row_at proofs place number ≡ record { place = place; row = goal.row; lines = h.by } ∷ []
row_is proofs place number goal h =
    ap (λ g. row_with place g (slice_get proofs.lines number)) h.goal_is ∙ ap (λ ls. row_with place (Some goal) ls) h.lines_are

-- ---- the rows of numbers

pub rows_of_more : (proofs : Proofs) (numbers others : List ℕ) (made : List ProvedRow) → rows_onto proofs (numbers ++ others) made ≡ rows_onto proofs others (rows_onto proofs numbers made)
unfolding rows_onto
rows_of_more proofs [] others made = refl
rows_of_more proofs (number ∷ numbers) others made = rows_of_more proofs numbers others (made ++ row_at proofs None number)

-- what is asked for is known or proved by rows behind those of the numbers so far
record IsAnswered (proofs : Proofs) (ctx : IndexContext) (rows : List Linear) (numbers : List ℕ) (end : List ℕ) : Type 0 where
  bys : List ProvedRow
  are : rows_onto proofs end [] ≡ rows_onto proofs numbers [] ++ bys
  proved : AreProved ctx (demands_of None rows) bys

module _ (proofs : Proofs) (all : ProveAll proofs.goals proofs.lines) (site : Site) (at : ℕ) (ctx : IndexContext) where
  abbrev goal_of : Linear → GoalAt
  goal_of row = record { fun = site.fun; at = at; ctx = ctx; row = row }

  asked_answered : (rows : List Linear) (made : Asked) → Continues (all_asked site at ctx rows made).goals proofs.goals
      → IsAnswered proofs ctx rows made.numbers (all_asked site at ctx rows made).numbers
  unfolding all_asked rows_onto
  asked_answered [] made more = record { bys = []; are = sym (append-nil (rows_onto proofs made.numbers [])); proved = AllProved }
  asked_answered (row ∷ rows) made more = by_test (knows ctx row) refl (λ next later. asked_answered rows next later) more
    where
      by_test : (b : Truth) → knows ctx row ≡ b
          → ((next : Asked) → Continues (all_asked site at ctx rows next).goals proofs.goals → IsAnswered proofs ctx rows next.numbers (all_asked site at ctx rows next).numbers)
          → Continues (all_asked site at ctx rows (asked b (goal_of row) made)).goals proofs.goals
          → IsAnswered proofs ctx (row ∷ rows) made.numbers (all_asked site at ctx rows (asked b (goal_of row) made)).numbers
      by_test true k again more =
          let later = again made more in
          record { bys = later.bys; are = later.are; proved = IsKnown (record { place = None; row = row }) (demands_of None rows) later.bys k later.proved }
      by_test false k again more =
          let one : Asked = asked false (goal_of row) made in
          let later = again one more in
          let h = goal_stands proofs all made.goals (goal_of row)
          (more_again one.goals (all_asked site at ctx rows one).goals proofs.goals (all_asked_more site at ctx rows one) more) in
          let by : ProvedRow = record { place = None; row = row; lines = h.by } in
          record {
            bys = by ∷ later.bys;
            are = later.are
                ∙ ap (λ xs. xs ++ later.bys) (rows_of_more proofs made.numbers (length made.goals ∷ []) [] ∙ one_more (rows_onto proofs made.numbers []) h)
                ∙ append_assoc (rows_onto proofs made.numbers []) (by ∷ []) later.bys;
            proved = HasLines (record { place = None; row = row }) by (demands_of None rows) later.bys k (record { place = refl; row = refl; lines = h.proves }) later.proved;
          }
        where
          one_more : (made_rows : List ProvedRow) (h : HasProof proofs (length made.goals) (goal_of row))
              → rows_onto proofs (length made.goals ∷ []) made_rows ≡ made_rows ++ record { place = None; row = row; lines = h.by } ∷ []
          one_more made_rows h = ap (λ xs. made_rows ++ xs) (row_is proofs None (length made.goals) (goal_of row) h)

  -- a whole demand
  pub demand_proved : (rows : List Linear) (goals : List GoalAt) → Continues (all_asked site at ctx rows (record { goals = goals; numbers = [] })).goals proofs.goals
      → AreProved ctx (demands_of None rows) (rows_onto proofs (all_asked site at ctx rows (record { goals = goals; numbers = [] })).numbers [])
  unfolding rows_onto
  demand_proved rows goals more =
      let answered = asked_answered rows (record { goals = goals; numbers = [] }) more in
      subst (λ bys. AreProved ctx (demands_of None rows) bys) (sym answered.are ∙ refl) (none answered.proved)
    where
      none : {bys : List ProvedRow} → AreProved ctx (demands_of None rows) bys → AreProved ctx (demands_of None rows) (rows_onto proofs [] [] ++ bys)
      none p = p
