-- What a way demands is known, or proved by the lines of a goal that elaboration asked for there.
use Rattle.std.proofs.Common.{◌≡◌, ◌∙◌, ℕ, List, [], ◌∷◌, ◌++◌, length, slice_get, Bool as Truth, true, false, ◌⊎◌, inl, inr, Option, Some, refl, sym, ap, subst, append_assoc, append-nil}
use Rattle.std.specs.List.{AllByRecursion}
use Rattle.index_sorts.specs.Context.{IndexContext}
use Rattle.index_sorts.specs.Known.{knows}
use Rattle.proof_lines.specs.Lines.{LinesProve}
use Rattle.xan_lin.specs.Linear.{Linear}
use Rattle.xan_lin.specs.Same.{same_form}
use Rattle.xan_lin.proofs.EqualForms.{Decides-same_form}
use Rattle.three_address.specs.Demands.{Demand, demands_of, AreProved, AllProved, IsKnown, HasLines}
use Rattle.three_address.specs.declared.typed.ProvedRow.{ProvedRow}
use Rattle.typed_core.specs.Growth.{Continues}
use Rattle.typed_core.specs.Proving.{ProveAll}
use Rattle.typed_core.specs.States.{Site, Asked, asked, all_asked}
use Rattle.typed_core.specs.declared.goal.GoalAt.{GoalAt}
use Rattle.typed_core.proofs.Continued.{more_again}
use Rattle.typed_core.proofs.GrownContexts.{all_asked_more}
use Rattle.type_carrier.specs.ProvedRows.{Proofs, is_row, first_or, row_at, row_among, rows_among}
use Rattle.carrier_laws.proofs.DemandsProved.{HasProof, goal_stands, row_is}

-- ---- lists

-- it is one of the list
abbrev pub Among : {A : Type 0} → List A → A → Type 0
Among [] x = ⊥
Among (y ∷ ys) x = (y ≡ x) ⊎ Among ys x

pub among_right : {A : Type 0} (xs ys : List A) (x : A) → Among ys x → Among (xs ++ ys) x
among_right [] ys x h = h
among_right (y ∷ xs) ys x h = inr (among_right xs ys x h)

pub among_left : {A : Type 0} (xs ys : List A) (x : A) → Among xs x → Among (xs ++ ys) x
among_left [] ys x h = absurd h
among_left (y ∷ xs) ys x (inl h) = inl h
among_left (y ∷ xs) ys x (inr h) = inr (among_left xs ys x h)

all_and : {A : Type 0} (P : A → Type 0) (xs : List A) (x : A) → AllByRecursion P xs → P x → AllByRecursion P (xs ++ x ∷ [])
all_and P [] x all p = (p, tt)
all_and P (y ∷ xs) x all p = (all.0, all_and P xs x all.1 p)

-- ---- goals by their numbers

module _ (proofs : Proofs) (ctx : IndexContext) where
  -- the goal of a number stands in this context, where its row is not known, and lines prove it
  record Asks (number : ℕ) : Type 0 where
    goal : GoalAt
    has : HasProof proofs number goal
    there : goal.ctx ≡ ctx
    unknown : knows ctx goal.row ≡ false

  record IsRowOf (row : Linear) (number : ℕ) : Type 0 where
    goal : GoalAt
    has : HasProof proofs number goal
    same : goal.row ≡ row

  abbrev Has : List ℕ → Linear → Type 0
  Has [] row = ⊥
  Has (number ∷ numbers) row = IsRowOf row number ⊎ Has numbers row

  has_left : (numbers others : List ℕ) (row : Linear) → Has numbers row → Has (numbers ++ others) row
  has_left [] others row h = absurd h
  has_left (number ∷ numbers) others row (inl h) = inl h
  has_left (number ∷ numbers) others row (inr h) = inr (has_left numbers others row h)

  has_last : (numbers : List ℕ) (number : ℕ) (row : Linear) → IsRowOf row number → Has (numbers ++ number ∷ []) row
  has_last [] number row h = inl h
  has_last (n ∷ numbers) number row h = inr (has_last numbers number row h)

  -- numbers that were made for demands here; each row of a list is known or has its number among them
  pub record AreAsked (rows : List Linear) (numbers : List ℕ) : Type 0 where
    asks : AllByRecursion Asks numbers
    each : (row : Linear) → Among rows row → (knows ctx row ≡ true) ⊎ Has numbers row

  module _ (all : ProveAll proofs.goals proofs.lines) (site : Site) (at : ℕ) where
    abbrev goal_of : Linear → GoalAt
    goal_of row = record { fun = site.fun; at = at; ctx = ctx; row = row }

    -- the first row of those to be asked for
    record Answered (rows : List Linear) (made end : List ℕ) : Type 0 where
      asks : AllByRecursion Asks end
      kept : (row : Linear) → Has made row → Has end row
      each : (row : Linear) → Among rows row → (knows ctx row ≡ true) ⊎ Has end row

    all_answered : (rows : List Linear) (made : Asked) → AllByRecursion Asks made.numbers → Continues (all_asked site at ctx rows made).goals proofs.goals
        → Answered rows made.numbers (all_asked site at ctx rows made).numbers
    unfolding all_asked
    all_answered [] made asks more = record { asks = asks; kept = λ row h. h; each = λ row h. absurd h }
    all_answered (row ∷ rows) made asks more = by_test (knows ctx row) refl (λ next next_asks later. all_answered rows next next_asks later) more
      where
        first_or_later : (end : List ℕ) (one : (knows ctx row ≡ true) ⊎ Has end row) (others : (r : Linear) → Among rows r → (knows ctx r ≡ true) ⊎ Has end r)
            → (r : Linear) → Among (row ∷ rows) r → (knows ctx r ≡ true) ⊎ Has end r
        first_or_later end one others r (inl h) = subst (λ x. (knows ctx x ≡ true) ⊎ Has end x) h one
        first_or_later end one others r (inr h) = others r h

        by_test : (b : Truth) → knows ctx row ≡ b
            → ((next : Asked) → AllByRecursion Asks next.numbers → Continues (all_asked site at ctx rows next).goals proofs.goals
            → Answered rows next.numbers (all_asked site at ctx rows next).numbers)
            → Continues (all_asked site at ctx rows (asked b (goal_of row) made)).goals proofs.goals
            → Answered (row ∷ rows) made.numbers (all_asked site at ctx rows (asked b (goal_of row) made)).numbers
        by_test true k again more =
            let later = again made asks more in
            record { asks = later.asks; kept = later.kept; each = first_or_later (all_asked site at ctx rows made).numbers (inl k) later.each }
        by_test false k again more =
            let one : Asked = asked false (goal_of row) made in
            let has = goal_stands proofs all made.goals (goal_of row)
            (more_again one.goals (all_asked site at ctx rows one).goals proofs.goals (all_asked_more site at ctx rows one) more) in
            let mine : Asks (length made.goals) = record { goal = goal_of row; has = has; there = refl; unknown = k } in
            let named : IsRowOf row (length made.goals) = record { goal = goal_of row; has = has; same = refl } in
            let later = again one (all_and Asks made.numbers (length made.goals) asks mine) more in
            record {
              asks = later.asks;
              kept = λ r h. later.kept r (has_left made.numbers (length made.goals ∷ []) r h);
              each = first_or_later (all_asked site at ctx rows one).numbers (inr (later.kept row (has_last made.numbers (length made.goals) row named))) later.each;
            }

    pub are_asked : (rows : List Linear) (goals : List GoalAt) → Continues (all_asked site at ctx rows (record { goals = goals; numbers = [] })).goals proofs.goals
        → AreAsked rows (all_asked site at ctx rows (record { goals = goals; numbers = [] })).numbers
    are_asked rows goals more =
        let a = all_answered rows (record { goals = goals; numbers = [] }) tt more in
        record { asks = a.asks; each = a.each }

  -- ---- a row among numbers

  abbrev demand : (place : Option ℕ) → Linear → Demand
  demand place row = record { place = place; row = row }

  known_or_has : (place : Option ℕ) (row : Linear) (numbers : List ℕ) → AllByRecursion Asks numbers → (knows ctx row ≡ true) ⊎ Has numbers row
      → AreProved ctx (demand place row ∷ []) (row_among proofs numbers place row)
  unfolding row_among
  known_or_has place row [] asks (inl k) = IsKnown (demand place row) [] [] k AllProved
  known_or_has place row [] asks (inr h) = absurd h
  known_or_has place row (number ∷ numbers) asks answer =
      by_test (same_form asks.0.goal.row row) refl (λ later. known_or_has place row numbers asks.1 later) answer
    where
      is_row_here : is_row row (slice_get proofs.goals number) ≡ same_form asks.0.goal.row row
      is_row_here = ap (λ g. is_row row g) asks.0.has.goal_is

      as_first : (b : Truth) → same_form asks.0.goal.row row ≡ b
          → first_or (is_row row (slice_get proofs.goals number)) (row_at proofs place number) (row_among proofs numbers place row)
          ≡ first_or b (row_at proofs place number) (row_among proofs numbers place row)
      as_first b e = ap (λ c. first_or c (row_at proofs place number) (row_among proofs numbers place row)) (is_row_here ∙ e)

      not_here : (knows ctx row ≡ true) ⊎ Has (number ∷ numbers) row → same_form asks.0.goal.row row ≡ false → (knows ctx row ≡ true) ⊎ Has numbers row
      not_here (inl k) e = inl k
      not_here (inr (inl h)) e =
          (let one : asks.0.goal ≡ h.goal = same_some asks.0.goal h.goal (sym asks.0.has.goal_is ∙ h.has.goal_is) in
          let same : asks.0.goal.row ≡ row = ap (λ g. g.row) one ∙ h.same in
          let on : same_form asks.0.goal.row row ≡ true = (Decides-same_form asks.0.goal.row row).1 same in
          absurd (let bad : ⊥ = cc in bad))
        where
          same_some : (g f : GoalAt) → (let o : Option GoalAt = Some g in o) ≡ Some f → g ≡ f
          same_some g f e = cc
      not_here (inr (inr h)) e = inr h

      by_test : (b : Truth) → same_form asks.0.goal.row row ≡ b
          → ((knows ctx row ≡ true) ⊎ Has numbers row → AreProved ctx (demand place row ∷ []) (row_among proofs numbers place row))
          → (knows ctx row ≡ true) ⊎ Has (number ∷ numbers) row
          → AreProved ctx (demand place row ∷ []) (first_or (is_row row (slice_get proofs.goals number)) (row_at proofs place number) (row_among proofs numbers place row))
      by_test true e later answer =
          let same : asks.0.goal.row ≡ row = (Decides-same_form asks.0.goal.row row).0 e in
          let by : ProvedRow = record { place = place; row = asks.0.goal.row; lines = asks.0.has.by } in
          let proves : LinesProve ctx.rows row asks.0.has.by =
          subst (λ r. LinesProve ctx.rows r asks.0.has.by) same (subst (λ (c : IndexContext). LinesProve c.rows asks.0.goal.row asks.0.has.by) asks.0.there asks.0.has.proves) in
          subst (λ bys. AreProved ctx (demand place row ∷ []) bys) (sym (as_first true e ∙ row_is proofs place number asks.0.goal asks.0.has))
          (HasLines (demand place row) by [] [] (subst (λ r. knows ctx r ≡ false) same asks.0.unknown) (record { place = refl; row = same; lines = proves }) AllProved)
      by_test false e later answer =
          subst (λ bys. AreProved ctx (demand place row ∷ []) bys) (sym (as_first false e)) (later (not_here answer e))

  -- a row that is known or was asked for
  abbrev pub Sought : List Linear → Linear → Type 0
  Sought rows row = (knows ctx row ≡ true) ⊎ Among rows row

  module _ (asked_rows : List Linear) (numbers : List ℕ) (are : AreAsked asked_rows numbers) where
    pub row_proved : (place : Option ℕ) (row : Linear) → Sought asked_rows row → AreProved ctx (demand place row ∷ []) (row_among proofs numbers place row)
    row_proved place row (inl k) = known_or_has place row numbers are.asks (inl k)
    row_proved place row (inr h) = known_or_has place row numbers are.asks (are.each row h)

-- ---- proofs one after the other

pub proved_on : (ctx : IndexContext) (demands more : List Demand) (bys others : List ProvedRow) → AreProved ctx demands bys → AreProved ctx more others
    → AreProved ctx (demands ++ more) (bys ++ others)
proved_on ctx demands more bys others AllProved later = later
proved_on ctx demands more bys others (IsKnown demand rest bs k one) later =
    IsKnown demand (rest ++ more) (bys ++ others) k (proved_on ctx rest more bs others one later)
proved_on ctx demands more bys others (HasLines demand by rest bs k proves one) later =
    HasLines demand by (rest ++ more) (bs ++ others) k proves (proved_on ctx rest more bs others one later)

module _ (proofs : Proofs) (ctx : IndexContext) (asked_rows : List Linear) (numbers : List ℕ) (are : AreAsked proofs ctx asked_rows numbers) where
  -- rows of a place, behind those so far
  pub record RowsProved (demands : List Demand) (made end : List ProvedRow) : Type 0 where
    pub bys : List ProvedRow
    pub are_behind : end ≡ made ++ bys
    pub proved : AreProved ctx demands bys

  pub rows_proved : (place : Option ℕ) (rows : List Linear) (made : List ProvedRow) → AllByRecursion (Sought proofs ctx asked_rows) rows
      → RowsProved (demands_of place rows) made (rows_among proofs numbers place rows made)
  unfolding rows_among
  rows_proved place [] made all = record { bys = []; are_behind = sym (append-nil made); proved = AllProved }
  rows_proved place (row ∷ rows) made all =
      let one = row_proved proofs ctx asked_rows numbers are place row all.0 in
      let first = row_among proofs numbers place row in
      let later = rows_proved place rows (made ++ first) all.1 in
      record {
        bys = first ++ later.bys;
        are_behind = later.are_behind ∙ append_assoc made first later.bys;
        proved = proved_on ctx (record { place = place; row = row } ∷ []) (demands_of place rows) first later.bys one later.proved;
      }
