-- Index variables, goals and notes only become more along statements, and a variable that no statement changes keeps its type.
use Rattle.std.proofs.Common.{◌≡◌, ◌∙◌, ℕ, suc, ◌≤◌, List, [], ◌∷◌, length, Bool as Truth, true, false, cond, Option, Some, None, refl, sym, ap, subst, arith}
use Rattle.std.specs.Prelude.{◌||◌, ◌==◌}
use Rattle.std.specs.List.{All, list_any}
use Rattle.std.proofs.lemmas.Bool.{or_parts}
use Rattle.xan_lin.specs.Linear.{Linear}
use Rattle.xan_lin.specs.Subst.{zero_form}
use Rattle.xan_lin.specs.declared.term.LimitKind.TheVariants as limit
use Rattle.xan_seq.proofs.RisingKeys.{value-with}
use Rattle.state_types.specs.PlaceTypes.{type_at, with_type}
use Rattle.state_types.specs.Tables.{IsClosed}
use Rattle.state_types.specs.declared.closed.Packed.{Packed}
use Rattle.state_types.specs.declared.state.StateType.{StateType}
use Rattle.state_types.specs.declared.types.Ty.{Ty}
use Rattle.state_types.specs.declared.types.Ty.TheVariants as ty
use Rattle.operation_rules.specs.declared.operation.Operation.TheVariants.{Untuple, Store, Print, Return}
use Rattle.xanadu_tree.specs.declared.stmt.Clause.{Clause}
use Rattle.xanadu_tree.specs.BodyRules.{completes_all}
use Rattle.xanadu_tree.specs.Plain as core
use Rattle.typed_core.specs.Constructs.{types_by, state_by}
use Rattle.typed_core.specs.Growth.{Later}
use Rattle.typed_core.specs.Joins.{names, changes, changes_any, stated, joined, entered, entered_if, still_visible}
use Rattle.typed_core.specs.Limits.{within}
use Rattle.typed_core.specs.Operands.{operand}
use Rattle.typed_core.specs.States.{Site, State, point, resuming, noting_state, as_tuple, like, given}
use Rattle.typed_core.specs.Statements.{assigned, all_given, split, store, done, printed, returning, Branches, meeting, after_branches, other_branch, statement, block}
use Rattle.typed_core.specs.Tests.{tested, on_side}
use Rattle.typed_core.proofs.Continued.{Goes, no_more, one_more, more_again, later_here, later_on}
use Rattle.typed_core.proofs.LimitedAnswers.{then_answers, weaker, any_answer}
use Rattle.typed_core.proofs.GrownContexts.{RowsBelow, rows_more, Onward, onward_again, types_by_goes, state_by_goes}
use Rattle.typed_core.proofs.GrownOperands.{operand_goes}
use Rattle.typed_core.proofs.GrownTests.{tested_goes}
use Rattle.typed_core.proofs.GrownJoins.{joined_goes, entered_goes, entered_if_goes, still_at}

-- from one state to the next along statements that change so many variables
pub record Keeps (table : List Packed) (changed : ℕ → Truth) (st more : State) : Type 0 where
  pub later : Later st more
  pub types : (x : ℕ) → changed x ≡ false → type_at x more.types ≡ type_at x st.types
  pub named : All IsClosed table → RowsBelow st.ctx.vars st.ctx.rows → RowsBelow more.ctx.vars more.ctx.rows

abbrev pub none_changed : ℕ → Truth
none_changed x = false

pub keeps_on : (table : List Packed) (first second : ℕ → Truth) (a b c : State) → Keeps table first a b → Keeps table second b c → Keeps table (λ x. first x || second x) a c
keeps_on table first second a b c one two = record {
  later = later_on a b c one.later two.later;
  types = λ x h. (let parts = or_parts (first x) (second x) h in two.types x parts.1 ∙ one.types x parts.0);
  named = λ closed all. two.named closed (one.named closed all);
}

onward_keeps : (table : List Packed) (st more : State) → Onward table st more → Keeps table none_changed st more
onward_keeps table st more h = record { later = h.grown.later; types = λ x e. ap (type_at x) h.grown.types; named = h.named }

keeps_if : (table : List Packed) (first second : ℕ → Truth) (st more : State) → ((x : ℕ) → second x ≡ false → first x ≡ false) → Keeps table first st more → Keeps table second st more
keeps_if table first second st more f k = record { later = k.later; types = λ x h. k.types x (f x h); named = k.named }

-- behind an expression
behind_keeps : (table : List Packed) (changed : ℕ → Truth) (a b c : State) → Onward table a b → Keeps table changed b c → Keeps table changed a c
behind_keeps table changed a b c one two = record {
  later = later_on a b c one.grown.later two.later;
  types = λ x h. two.types x h ∙ ap (type_at x) one.grown.types;
  named = λ closed all. two.named closed (one.named closed all);
}

-- ---- variables that are given types

with_other : (x y : ℕ) (t : Ty) (types : List (ℕ × Ty)) → (x == y) ≡ false → type_at y (with_type x t types) ≡ type_at y types
with_other x y t types e = value-with y x t types ∙ ap (λ b. cond b (let o : Option Ty = Some t in o) (type_at y types)) e

given_goes : (table : List Packed) (x : ℕ) (t : Ty) (st : State) → Goes (Keeps table (λ y. x == y) st) (given x t st)
unfolding given
given_goes table x t st =
    then_answers (within limit.Places (suc x)) _ (any_answer (within limit.Places (suc x)))
    (λ few u. then_answers (like (type_at x st.types) t) _ (any_answer (like (type_at x st.types) t))
    (λ it v. record {
      is = record {
        later = record { vars = omega arith; naming = no_more st.naming; goals = no_more st.goals; notes = no_more st.notes };
        types = λ y e. with_other x y it st.types e;
        named = λ closed all. all;
      };
    }))

all_given_goes : (table : List Packed) (xs : List ℕ) (ts : List Ty) (st : State) → Goes (Keeps table (λ y. list_any (λ x. x == y) xs) st) (all_given xs ts st)
unfolding all_given
all_given_goes table [] [] st = record { is = record { later = later_here st; types = λ y e. refl; named = λ closed all. all } }
all_given_goes table [] (t ∷ ts) st = record { is = tt }
all_given_goes table (x ∷ xs) [] st = record { is = tt }
all_given_goes table (x ∷ xs) (t ∷ ts) st =
    then_answers (given x t st) _ (given_goes table x t st)
    (λ more h. weaker (all_given xs ts more) (λ end g. keeps_on table (λ y. x == y) (λ y. list_any (λ z. z == y) xs) st more end h g) (all_given_goes table xs ts more))

-- ---- statements without blocks

module _ (site : Site) where
  pub assigned_goes : (x : ℕ) (e : core.Expr) (st : State) → Goes (Keeps site.table (λ y. x == y) st) (assigned site x e st)
  unfolding assigned
  assigned_goes x e st =
      then_answers (operand site e st) _ (operand_goes site e st)
      (λ r h. weaker (given x r.0 r.1) (λ more g. behind_keeps site.table (λ y. x == y) st r.1 more h g) (given_goes site.table x r.0 r.1))

  pub split_goes : (xs : List ℕ) (e : core.Expr) (st : State) → Goes (Keeps site.table (λ y. list_any (λ x. x == y) xs) st) (split site xs e st)
  unfolding split
  split_goes xs e st =
      then_answers (operand site e st) _ (operand_goes site e st)
      (λ r h. then_answers (as_tuple r.0) _ (any_answer (as_tuple r.0))
      (λ n u. then_answers (types_by site None (Untuple n (length xs)) (r.0 ∷ []) r.1) _ (types_by_goes site None (Untuple n (length xs)) (r.0 ∷ []) r.1)
      (λ o g. weaker (all_given xs o.0 o.1)
      (λ more f. behind_keeps site.table (λ y. list_any (λ x. x == y) xs) st o.1 more (onward_again site.table st r.1 o.1 h g) f) (all_given_goes site.table xs o.0 o.1))))

  pub store_goes : (array index value : core.Expr) (at : ℕ) (st : State) → Goes (Keeps site.table none_changed st) (store site array index value at st)
  unfolding store
  store_goes array index value at st =
      then_answers (operand site array st) _ (operand_goes site array st)
      (λ p h. then_answers (operand site index p.1) _ (operand_goes site index p.1)
      (λ q g. then_answers (operand site value q.1) _ (operand_goes site value q.1)
      (λ r f. weaker (state_by site (Some at) Store (p.0 ∷ q.0 ∷ r.0 ∷ []) r.1)
      (λ more k. onward_keeps site.table st more
      (onward_again site.table st r.1 more (onward_again site.table st q.1 r.1 (onward_again site.table st p.1 q.1 h g) f) k))
      (state_by_goes site (Some at) Store (p.0 ∷ q.0 ∷ r.0 ∷ []) r.1))))

  pub done_goes : (call : core.Expr) (st : State) → Goes (Keeps site.table none_changed st) (done site call st)
  unfolding done
  done_goes call st = then_answers (operand site call st) _ (operand_goes site call st) (λ r h. record { is = onward_keeps site.table st r.1 h })

  pub printed_goes : (e : core.Expr) (st : State) → Goes (Keeps site.table none_changed st) (printed site e st)
  unfolding printed
  printed_goes e st =
      then_answers (operand site e st) _ (operand_goes site e st)
      (λ r h. weaker (state_by site None Print (r.0 ∷ []) r.1) (λ more g. onward_keeps site.table st more (onward_again site.table st r.1 more h g))
      (state_by_goes site None Print (r.0 ∷ []) r.1))

  pub returning_goes : (value : Option core.Expr) (at : ℕ) (st : State) → Goes (Keeps site.table none_changed st) (returning site value at st)
  unfolding returning
  returning_goes None at st =
      weaker (state_by site (Some at) Return (ty.Int zero_form ∷ []) st) (λ more h. onward_keeps site.table st more h) (state_by_goes site (Some at) Return (ty.Int zero_form ∷ []) st)
  returning_goes (Some e) at st =
      then_answers (operand site e st) _ (operand_goes site e st)
      (λ r h. weaker (state_by site (Some at) Return (r.0 ∷ []) r.1) (λ more g. onward_keeps site.table st more (onward_again site.table st r.1 more h g))
      (state_by_goes site (Some at) Return (r.0 ∷ []) r.1))

-- ---- what is known where branches meet

-- What was known before, over the index variables of a later state. Its rows name variables so far if `P` holds, and the variables that are not
-- changed have the types that they had.
pub record Ends (P : Type 0) (changed : ℕ → Truth) (old : List (ℕ × Ty)) (end : StateType) (latest : State) : Type 0 where
  pub named : P → RowsBelow latest.ctx.vars end.ctx.rows
  pub types : (x : ℕ) → changed x ≡ false → type_at x end.places ≡ type_at x old

pub ends_later : (P : Type 0) (changed : ℕ → Truth) (types : List (ℕ × Ty)) (end : StateType) (latest more : State) → latest.ctx.vars ≤ more.ctx.vars
    → Ends P changed types end latest → Ends P changed types end more
ends_later P changed types end latest more le e = record { named = λ p. rows_more latest.ctx.vars more.ctx.vars end.ctx.rows le (e.named p); types = e.types }

-- what follows branches of which the second ends here
pub record Joins (P : Type 0) (changed : ℕ → Truth) (old : List (ℕ × Ty)) (two more : State) : Type 0 where
  pub later : Later two more
  pub types : (x : ℕ) → changed x ≡ false → type_at x more.types ≡ type_at x old
  pub named : P → RowsBelow more.ctx.vars more.ctx.rows

module _ (P : Type 0) (changed : ℕ → Truth) where
  pub meeting_goes : (site : Site) (at : ℕ) (clause : Option Clause) (before : StateType) (ends : Branches) (latest : State) → (P → RowsBelow latest.ctx.vars before.ctx.rows)
      → Goes (Joins P (λ x. changed x || names clause x) before.places latest) (meeting site at (stated clause) changed before ends latest)
  unfolding meeting
  meeting_goes site at clause before ends latest named =
      then_answers (joined site (stated clause) changed before latest) _ (joined_goes P site clause changed before latest named)
      (λ j m. then_answers (entered_if ends.one_completes site at j.0 ends.one j.1) _ (entered_if_goes ends.one_completes site at j.0 ends.one j.1)
      (λ one h. weaker (entered_if ends.two_completes site at j.0 ends.two one)
      (λ more g. record {
        later = later_on latest j.1 more m.later (later_on j.1 one more h.later g.later);
        types = λ x e. ap (type_at x) (g.types ∙ h.types) ∙ m.types x e;
        named = λ p. subst (λ c. RowsBelow c.vars c.rows) (sym (g.ctx ∙ h.ctx)) (m.named p);
      })
      (entered_if_goes ends.two_completes site at j.0 ends.two one)))

  going_keeps : (before end : StateType) (latest : State) → Ends P changed before.places end latest
      → (let more = resuming end.ctx.rows (still_visible before.places end.places) latest in Joins P changed before.places latest (noting_state more.ctx.rows more))
  unfolding noting_state
  going_keeps before end latest e = record {
    later = record { vars = omega arith; naming = no_more latest.naming; goals = no_more latest.goals; notes = one_more latest.notes _ };
    types = λ x h. still_at x before.places end.places (e.types x h);
    named = e.named;
  }

  joins_if : (more_changed : ℕ → Truth) (types : List (ℕ × Ty)) (two more : State) → ((x : ℕ) → more_changed x ≡ false → changed x ≡ false) → Joins P changed types two more
      → Joins P more_changed types two more
  joins_if more_changed types two more f j = record { later = j.later; types = λ x h. j.types x (f x h); named = j.named }

  pub after_goes : (one_completes two_completes : Truth) (join : Option Clause) (site : Site) (at : ℕ) (before one : StateType) (two : State)
      → (P → RowsBelow two.ctx.vars before.ctx.rows) → Ends P changed before.places one two → Ends P changed before.places (point two) two
      → Goes (Joins P (λ x. changed x || names join x) before.places two) (after_branches one_completes two_completes join site at changed before one two)
  unfolding after_branches
  after_goes false false join site at before one two named first second = record {
    is = record {
      later = record { vars = omega arith; naming = no_more two.naming; goals = no_more two.goals; notes = no_more two.notes };
      types = λ x h. refl;
      named = named;
    };
  }
  after_goes true false None site at before one two named first second =
      record { is = joins_if (λ x. changed x || false) before.places two _ (λ x h. (or_parts (changed x) false h).0) (going_keeps before one two first) }
  after_goes false true None site at before one two named first second =
      record { is = joins_if (λ x. changed x || false) before.places two _ (λ x h. (or_parts (changed x) false h).0) (going_keeps before (point two) two second) }
  after_goes p q join site at before one two named first second =
      meeting_goes site at join before (record { one = one; two = point two; one_completes = p; two_completes = q }) two named

-- ---- statements and blocks

-- where a branch begins, or a part of a test, is no later than before it
pub side_later : (before after : State) (rows : List Linear) → Later before after → Later before (on_side rows after)
side_later before after rows l = record { vars = l.vars; naming = l.naming; goals = l.goals; notes = l.notes }

-- behind the second branch, from behind the first
pub branch_later : (rows : List Linear) (before one two : State) → Later (other_branch rows before one) two → Later one two
unfolding noting_state
branch_later rows before one two l =
    record { vars = l.vars; naming = l.naming; goals = l.goals; notes = more_again one.notes (other_branch rows before one).notes two.notes (one_more one.notes _) l.notes }

-- behind a loop
pub loop_later : (rows : List Linear) (types : List (ℕ × Ty)) (st back : State) → Later st back → Later st (noting_state rows (resuming rows types back))
unfolding noting_state
loop_later rows types st back l =
    record { vars = l.vars; naming = l.naming; goals = l.goals; notes = more_again st.notes back.notes _ l.notes (one_more back.notes _) }

swapped : (a b : Truth) → (a || b) ≡ false → (b || a) ≡ false
swapped true b e = absurd (let bad : ⊥ = cc in bad)
swapped false true e = absurd (let bad : ⊥ = cc in bad)
swapped false false e = refl

module _ (site : Site) where
  mutual
    unfolding statement changes noting_state

    pub statement_goes : (s : core.Stmt) (st : State) → Goes (Keeps site.table (changes s) st) (statement site s st)
    statement_goes (core.Set x e) st = assigned_goes site x e st
    statement_goes (core.Split xs e at) st = split_goes site xs e st
    statement_goes (core.Store array index e at) st = store_goes site array index e at st
    statement_goes (core.Do call) st = done_goes site call st
    statement_goes (core.Print e) st = printed_goes site e st
    statement_goes (core.If test on_true on_false join at) st =
        let changed : ℕ → Truth = λ x. changes_any on_true x || changes_any on_false x in
        let P : Type 0 = All IsClosed site.table × RowsBelow st.ctx.vars st.ctx.rows in
        then_answers (tested site test st) _ (tested_goes site test st)
        (λ sides g. let side = on_side sides.on_true sides.after in
        then_answers (block site on_true side) _ (block_goes on_true side)
        (λ one k. let other = other_branch sides.on_false st one in
        let first = g.grown.later.vars in
        let second = k.later.vars in
        let known : P → RowsBelow one.ctx.vars sides.on_false = λ p. rows_more sides.after.ctx.vars one.ctx.vars sides.on_false second (g.on_false p.0 p.1) in
        then_answers (block site on_false other) _ (block_goes on_false other)
        (λ two l. let third = (branch_later sides.on_false st one two l.later).vars in
        let le : st.ctx.vars ≤ two.ctx.vars = omega (arith, first, second, third) in
        let one_ends : Ends P changed st.types (point one) two = record {
          named = λ p. rows_more one.ctx.vars two.ctx.vars one.ctx.rows third (k.named p.0 (g.on_true p.0 p.1));
          types = λ x h. k.types x (or_parts (changes_any on_true x) (changes_any on_false x) h).0 ∙ ap (type_at x) g.grown.types;
        } in
        let two_ends : Ends P changed st.types (point two) two = record {
          named = λ p. l.named p.0 (known p);
          types = λ x h. l.types x (or_parts (changes_any on_true x) (changes_any on_false x) h).1;
        } in
        weaker (after_branches (completes_all on_true) (completes_all on_false) join site at changed (point st) (point one) two)
        (λ more m. record {
          later = later_on st two more (later_on st one two (later_on st side one (side_later st sides.after sides.on_true g.grown.later) k.later) (branch_later sides.on_false st one two l.later)) m.later;
          types = m.types;
          named = λ closed all. m.named (closed, all);
        })
        (after_goes P changed (completes_all on_true) (completes_all on_false) join site at (point st) (point one) two
        (λ p. rows_more st.ctx.vars two.ctx.vars st.ctx.rows le p.1) one_ends two_ends))))
    statement_goes (core.While test head body at) st =
        let P : Type 0 = All IsClosed site.table × RowsBelow st.ctx.vars st.ctx.rows in
        then_answers (joined site (stated head) (changes_any body) (point st) st) _ (joined_goes P site head (changes_any body) (point st) st (λ p. p.1))
        (λ j m. then_answers (entered site at j.0 (point st) j.1) _ (entered_goes site at j.0 (point st) j.1)
        (λ begun h. then_answers (tested site test begun) _ (tested_goes site test begun)
        (λ sides g. let side = on_side sides.on_true sides.after in
        then_answers (block site body side) _ (block_goes body side)
        (λ turn k. then_answers (entered_if (completes_all body) site at j.0 (point turn) turn) _ (entered_if_goes (completes_all body) site at j.0 (point turn) turn)
        (λ back f. let second = k.later.vars in
        let third = f.later.vars in
        let named : P → RowsBelow sides.after.ctx.vars sides.on_false = λ p. g.on_false p.0 (subst (λ c. RowsBelow c.vars c.rows) (sym h.ctx) (m.named p)) in
        record {
          is = record {
            later = loop_later sides.on_false j.1.types st back
                (later_on st turn back (later_on st begun turn (later_on st j.1 begun m.later h.later) (later_on begun side turn (side_later begun sides.after sides.on_true g.grown.later) k.later)) f.later);
            types = λ x e. m.types x (swapped (names head x) (changes_any body x) e);
            named = λ closed all. rows_more sides.after.ctx.vars back.ctx.vars sides.on_false (omega (arith, second, third)) (named (closed, all));
          };
        })))))
    statement_goes (core.Return value at) st = returning_goes site value at st

    pub block_goes : (ss : core.Stmts) (st : State) → Goes (Keeps site.table (changes_any ss) st) (block site ss st)
    block_goes core.NoStmt st = record { is = record { later = later_here st; types = λ x e. refl; named = λ closed all. all } }
    block_goes (core.AStmt s ss) st =
        then_answers (statement site s st) _ (statement_goes s st)
        (λ more k. weaker (block site ss more) (λ end l. keeps_on site.table (changes s) (changes_any ss) st more end k l) (block_goes ss more))
