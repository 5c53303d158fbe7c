-- All that is known at a place of an elaborated body of a shaped core, and at the places within its branches and loops.
use Rattle.std.proofs.Common.{◌≡◌, ℕ, ◌≤◌, Bool as Truth, true, Option, Result, Ok, Err, sym, subst, arith}
use Rattle.std.specs.List.{All}
use Rattle.state_types.specs.Tables.{IsClosed}
use Rattle.state_types.specs.declared.types.Ty.{Ty}
use Rattle.xanadu_tree.specs.declared.stmt.Clause.{Clause}
use Rattle.xanadu_tree.specs.BodyRules.{Point, behind_block, completes, completes_all, IsClauseIfAny, IsStatement, AreStatements}
use Rattle.xanadu_tree.specs.KindRules.{Setting}
use Rattle.xanadu_tree.specs.Plain as core
use Rattle.typed_core.specs.Joins.{stated, Joint, joined, entered}
use Rattle.typed_core.specs.Operands.{operand}
use Rattle.typed_core.specs.States.{Site, State, point, noting_state}
use Rattle.typed_core.specs.Statements.{statement, block, other_branch}
use Rattle.typed_core.specs.Tests.{Sides, tested, on_side}
use Rattle.typed_core.proofs.Continued.{Goes, no_more, more_again}
use Rattle.typed_core.proofs.FitOperands.{Suits}
use Rattle.typed_core.proofs.GrownContexts.{RowsBelow, rows_more}
use Rattle.typed_core.proofs.GrownJoins.{joined_goes}
use Rattle.typed_core.proofs.GrownOperands.{operand_goes}
use Rattle.typed_core.proofs.GrownStatements.{statement_goes, block_goes}
use Rattle.typed_core.proofs.GrownTests.{tested_goes}
use Rattle.typed_core.proofs.LimitedAnswers.{Answers, weaker}
use Rattle.typed_core.proofs.NamedOperands.{operand_stays, tested_stays}
use Rattle.typed_core.proofs.NamedStates.{Typed, typed_on, answered, both_answers}
use Rattle.typed_core.proofs.NamedStatements.{typed_of}
use Rattle.source_safety.proofs.PlacesKnown.{IsAt, statement_at, block_at, side_at, other_at, begun_at}
use Rattle.carrier_laws.proofs.KeptJoins.{joined_kept, entered_kept}
use Rattle.carrier_laws.proofs.KeptStates.{Kept, operand_kept, tested_kept, side_kept}
use Rattle.carrier_laws.proofs.KeptStatements.{Known, Leaves, Ground, clause_exists, join_leaves, side_known, other_known, statement_leaves, block_leaves}
use Rattle.carrier_laws.proofs.NamesKept.{Keys, InScope}

-- what stands throughout a body
pub record Grounds (set : Setting) (site : Site) : Type 0 where
  pub ground : Ground set site
  pub suits : Suits set site
  pub closed : All IsClosed site.table

-- rows and types at a place
pub record Facts (site : Site) (st : State) : Type 0 where
  pub kept : Kept site.table st
  pub named : RowsBelow st.ctx.vars st.ctx.rows
  pub typed : Typed site.own.vars st

-- all at a place
pub record Place (set : Setting) (site : Site) (p : Point) (st : State) : Type 0 where
  pub known : Known site p st
  pub named : RowsBelow st.ctx.vars st.ctx.rows
  pub at : IsAt set site.own.vars p st

goes_of : {A E : Type 0} {Q : E → Type 0} {P : A → Type 0} (m : Result A E) → Answers Q P m → Goes P m
goes_of (Ok x) h = record { is = h.is }
goes_of (Err why) h = record { is = tt }

module _ (set : Setting) (site : Site) (g : Grounds set site) where
  pub facts_of : (p : Point) (st : State) → Place set site p st → Facts site st
  facts_of p st here = record { kept = here.known.kept; named = here.named; typed = typed_of site.own.vars p.indices 0 st here.at.behind }

  -- ---- expressions and tests

  pub operand_facts : (e : core.Expr) (st more : State) (t : Ty) → operand site e st ≡ Ok (t, more) → Facts site st → Facts site more
  operand_facts e st more t made f =
      let r : Ty × State = (t, more) in
      record {
        kept = (answered (operand site e st) r (operand_kept site g.ground.are e st f.kept) made).0;
        named = (answered (operand site e st) r (operand_goes site e st) made).named g.closed f.named;
        typed = typed_on site.own.vars st more (answered (operand site e st) r (operand_stays site g.closed e st f.typed) made).0 f.typed;
      }

  -- what is known on both sides of a test
  pub record SideFacts (st : State) (sides : Sides) : Type 0 where
    pub on_true : Facts site (on_side sides.on_true sides.after)
    pub on_false : Facts site (on_side sides.on_false sides.after)
    pub vars : st.ctx.vars ≤ sides.after.ctx.vars

  pub sides_facts : (t : core.Test) (st : State) → Facts site st → Goes (SideFacts st) (tested site t st)
  sides_facts t st f =
      weaker (tested site t st)
      (λ sides h. (let k = h.0 in
      let goes = h.1.0 in
      let typed = typed_on site.own.vars st sides.after h.1.1 f.typed in
      record {
        on_true = record {
          kept = side_kept site g.ground.are sides.on_true sides.after k.on_true k.after;
          named = goes.on_true g.closed f.named;
          typed = record { own_vars = typed.own_vars; types = typed.types };
        };
        on_false = record {
          kept = side_kept site g.ground.are sides.on_false sides.after k.on_false k.after;
          named = goes.on_false g.closed f.named;
          typed = record { own_vars = typed.own_vars; types = typed.types };
        };
        vars = goes.grown.later.vars;
      }))
      (both_answers (tested site t st) (tested_kept site g.ground.are t st f.kept) (both_answers (tested site t st) (tested_goes site t st) (goes_of (tested site t st) (tested_stays site g.closed t st f.typed))))

  -- where a side of a test begins
  pub true_place : (test : core.Test) (p : Point) (st : State) (sides : Sides) → tested site test st ≡ Ok sides → Place set site p st → Place set site p (on_side sides.on_true sides.after)
  true_place test p st sides made here =
      let goes = answered (tested site test st) sides (tested_goes site test st) made in
      let kept = answered (tested site test st) sides (tested_kept site g.ground.are test st here.known.kept) made in
      record {
        known = side_known set site g.ground p sides.on_true st sides.after here.known goes.grown.later goes.grown.naming kept.on_true kept.after;
        named = goes.on_true g.closed here.named;
        at = side_at set site g.suits g.closed test p st sides sides.on_true here.at made;
      }

  pub false_place : (test : core.Test) (p : Point) (st : State) (sides : Sides) → tested site test st ≡ Ok sides → Place set site p st → Place set site p (on_side sides.on_false sides.after)
  false_place test p st sides made here =
      let goes = answered (tested site test st) sides (tested_goes site test st) made in
      let kept = answered (tested site test st) sides (tested_kept site g.ground.are test st here.known.kept) made in
      record {
        known = side_known set site g.ground p sides.on_false st sides.after here.known goes.grown.later goes.grown.naming kept.on_false kept.after;
        named = goes.on_false g.closed here.named;
        at = side_at set site g.suits g.closed test p st sides sides.on_false here.at made;
      }

  -- ---- statements and blocks

  pub statement_left : (s : core.Stmt) (before after : Point) (st more : State) → IsStatement set before s after → statement site s st ≡ Ok more → Place set site before st
      → Leaves site (completes s) after st more
  statement_left s before after st more is made here = answered (statement site s st) more (statement_leaves set site g.ground s before after st is here.known) made

  pub block_left : (ss : core.Stmts) (before after : Point) (st more : State) → AreStatements set before ss after → block site ss st ≡ Ok more → Place set site before st
      → Leaves site (completes_all ss) after st more
  block_left ss before after st more are made here = answered (block site ss st) more (block_leaves set site g.ground ss before after st are here.known) made

  -- behind a statement that completes
  pub statement_place : (s : core.Stmt) (before after : Point) (st more : State) → IsStatement set before s after → statement site s st ≡ Ok more → completes s ≡ true
      → Place set site before st → Place set site after more
  statement_place s before after st more is made may here =
      let l = statement_left s before after st more is made here in
      record {
        known = record { kept = l.kept; keys = l.keys; scope = l.scope may };
        named = (answered (statement site s st) more (statement_goes site s st) made).named g.closed here.named;
        at = statement_at set site g.suits g.closed s before after st more is here.at made;
      }

  pub block_place : (ss : core.Stmts) (before after : Point) (st more : State) → AreStatements set before ss after → block site ss st ≡ Ok more → completes_all ss ≡ true
      → Place set site before st → Place set site after more
  block_place ss before after st more are made may here =
      let l = block_left ss before after st more are made here in
      record {
        known = record { kept = l.kept; keys = l.keys; scope = l.scope may };
        named = (answered (block site ss st) more (block_goes site ss st) made).named g.closed here.named;
        at = block_at set site g.suits g.closed ss before after st more are here.at made;
      }

  -- behind any block
  pub block_facts : (ss : core.Stmts) (before after : Point) (st more : State) → AreStatements set before ss after → block site ss st ≡ Ok more → Place set site before st → Facts site more
  block_facts ss before after st more are made here = record {
    kept = (block_left ss before after st more are made here).kept;
    named = (answered (block site ss st) more (block_goes site ss st) made).named g.closed here.named;
    typed = typed_of site.own.vars after.indices 0 more (block_at set site g.suits g.closed ss before after st more are here.at made).behind;
  }

  -- ---- an if

  -- where the second branch begins, behind the first
  pub other_place : (test : core.Test) (on_true : core.Stmts) (before inner : Point) (st one : State) (sides : Sides) → AreStatements set before on_true inner
      → tested site test st ≡ Ok sides → block site on_true (on_side sides.on_true sides.after) ≡ Ok one → Place set site before st
      → Place set site (behind_block before inner) (other_branch sides.on_false st one)
  unfolding noting_state
  other_place test on_true before inner st one sides are tests first here =
      let goes = answered (tested site test st) sides (tested_goes site test st) tests in
      let kept = answered (tested site test st) sides (tested_kept site g.ground.are test st here.known.kept) tests in
      let begin = true_place test before st sides tests here in
      let side = on_side sides.on_true sides.after in
      let left = block_left on_true before inner side one are first begin in
      let a = goes.grown.later.vars in
      let b = left.vars in
      record {
        known = other_known set site g.ground before inner sides.on_false st one here.known kept.on_false left.kept left.keys
            (more_again st.naming sides.after.naming one.naming goes.grown.later.naming left.naming) (omega (arith, a, b));
        named = rows_more sides.after.ctx.vars one.ctx.vars sides.on_false b (goes.on_false g.closed here.named);
        at = other_at set site g.suits g.closed before inner st one sides.on_false (omega (arith, a, b)) here.at (block_at set site g.suits g.closed on_true before inner side one are begin.at first);
      }

  -- ---- a loop

  -- where its turns begin
  pub begun_place : (head : Option Clause) (changed : ℕ → Truth) (at : ℕ) (p inner : Point) (st start begun : State) (joint : Joint) → IsClauseIfAny set p head inner
      → joined site (stated head) changed (point st) st ≡ Ok (joint, start) → entered site at joint (point st) start ≡ Ok begun → Place set site p st → Place set site inner begun
  begun_place head changed at p inner st start begun joint is joins enters here =
      let made : Joint × State = (joint, start) in
      let k = here.known.kept in
      let m = answered (joined site (stated head) changed (point st) st) made
      (joined_kept site.table (point st) k.rows k.types k.rise site (stated head) changed st (clause_exists set site g.ground p head inner is)) joins in
      let e = answered (entered site at joint (point st) start) begun (entered_kept site.table site at joint (point st) start m.kept) enters in
      let names = join_leaves set site g.ground p inner head st st start is here.known.keys here.known.scope (no_more st.naming) (omega arith) (point st) k.rows k.types k.rise m in
      let meets = answered (joined site (stated head) changed (point st) st) made (joined_goes (Unit {0}) site head changed (point st) st (λ u. here.named)) joins in
      record {
        known = record {
          kept = e.kept;
          keys = subst (λ vs. Keys site.own.vars inner.indices vs) (sym e.naming) names.0;
          scope = subst (λ x. InScope site.own.vars inner.reach begun.naming x.vars) (sym e.ctx) (subst (λ vs. InScope site.own.vars inner.reach vs start.ctx.vars) (sym e.naming) names.1);
        };
        named = subst (λ x. RowsBelow x.vars x.rows) (sym e.ctx) (meets.named tt);
        at = begun_at set site g.suits g.closed head changed at p inner st start begun joint is here.at joins enters;
      }
