-- What the rules of a core let know of a state of elaboration: each visible variable has a type of its kind, and all that is named is there.
use Rattle.std.proofs.Common.{◌≡◌, ◌∙◌, ℕ, ◌+◌, ◌≤◌, List, Bool as Truth, false, Option, Ok, refl, sym, subst}
use Rattle.std.specs.List.{All}
use Rattle.std.proofs.lemmas.Option.{same_Some}
use Rattle.xan_lin.specs.Linear.{Linear}
use Rattle.state_types.specs.PlaceTypes.{type_at}
use Rattle.state_types.specs.Tables.{IsClosed}
use Rattle.state_types.specs.declared.types.Ty.{Ty}
use Rattle.xanadu_tree.specs.declared.stmt.Clause.{Clause}
use Rattle.xanadu_tree.specs.declared.types.CoreTy.{CoreTy}
use Rattle.xanadu_tree.specs.declared.types.Kind.{Kind}
use Rattle.xanadu_tree.specs.BodyRules.{Point, behind_block, IsClauseIfAny, IsStatement, AreStatements}
use Rattle.xanadu_tree.specs.KindRules.{Setting}
use Rattle.xanadu_tree.specs.Plain as core
use Rattle.typed_core.specs.Joins.{is_named, stated, Joint, joined, entered}
use Rattle.typed_core.specs.States.{Site, State, point, resuming, noting_state}
use Rattle.typed_core.specs.Statements.{statement, block, other_branch}
use Rattle.typed_core.specs.Tests.{Sides, tested, on_side}
use Rattle.typed_core.proofs.FitJoins.{clause_stated, clause_visible, joined_fits}
use Rattle.typed_core.proofs.FitOperands.{Suits}
use Rattle.typed_core.proofs.FitStatements.{statement_fits, block_fits}
use Rattle.typed_core.proofs.GrownTests.{tested_goes}
use Rattle.typed_core.proofs.GrownJoins.{entered_goes}
use Rattle.typed_core.proofs.KnownTypes.{IsEntry, Knows, AreWithin, entry_at, present_of}
use Rattle.typed_core.proofs.NamedJoins.{Behind, clause_next, clause_indices, joined_stays, entered_stays}
use Rattle.typed_core.proofs.NamedOperands.{tested_stays}
use Rattle.typed_core.proofs.NamedStates.{answered, typed_on, types_more}
use Rattle.typed_core.proofs.NamedStatements.{behind_on, behind_with, behind_noted, typed_of, statement_stays, block_stays}
use Rattle.typed_core.proofs.TypeKinds.{ty_kind, like_kinds}
use Rattle.source_safety.specs.Standing.{Brings}

-- what is known at a place
pub record IsAt (set : Setting) (own : ℕ) (p : Point) (st : State) : Type 0 where
  pub knows : Knows set.kinds p.visible st.types
  pub behind : Behind own p.indices 0 st

module _ (set : Setting) (site : Site) (suits : Suits set site) (closed : All IsClosed site.table) where
  abbrev pub At : Point → State → Type 0
  At p st = IsAt set site.own.vars p st

  pub statement_at : (s : core.Stmt) (before after : Point) (st more : State) → IsStatement set before s after → At before st → statement site s st ≡ Ok more → At after more
  statement_at s before after st more is at e = record {
    knows = answered (statement site s st) more (statement_fits set site suits s before after st is at.knows) e;
    behind = answered (statement site s st) more (statement_stays set site closed s before after 0 st is at.behind) e;
  }

  pub block_at : (ss : core.Stmts) (before after : Point) (st more : State) → AreStatements set before ss after → At before st → block site ss st ≡ Ok more → At after more
  block_at ss before after st more are at e = record {
    knows = answered (block site ss st) more (block_fits set site suits ss before after st are at.knows) e;
    behind = answered (block site ss st) more (block_stays set site closed ss before after 0 st are at.behind) e;
  }

  -- where a branch or a body begins
  pub side_at : (test : core.Test) (p : Point) (st : State) (sides : Sides) (rows : List Linear) → At p st → tested site test st ≡ Ok sides → At p (on_side rows sides.after)
  side_at test p st sides rows at e =
      let own = site.own.vars in
      let typed = typed_of own p.indices 0 st at.behind in
      let went = answered (tested site test st) sides (tested_stays site closed test st typed) e in
      record {
        knows = subst (λ ts. Knows set.kinds p.visible ts) (sym (answered (tested site test st) sides (tested_goes site test st) e).grown.types) at.knows;
        behind = behind_with own p.indices 0 sides.after rows sides.after.types (behind_on own p.indices 0 st sides.after at.behind went) (typed_on own st sides.after went typed).types;
      }

  -- where the second branch begins, behind the first
  pub other_at : (p inner : Point) (st one : State) (rows : List Linear) → st.ctx.vars ≤ one.ctx.vars → At p st → At inner one → At (behind_block p inner) (other_branch rows st one)
  unfolding noting_state
  other_at p inner st one rows le at end =
      let own = site.own.vars in
      record {
        knows = at.knows;
        behind = behind_noted own inner.indices 0 (resuming rows st.types one) rows
            (behind_with own inner.indices 0 one rows st.types end.behind (types_more st.ctx.vars one.ctx.vars st.types le at.behind.types));
      }

  -- where a loop's turns begin
  pub begun_at : (head : Option Clause) (changed : ℕ → Truth) (at : ℕ) (p inner : Point) (st start begun : State) (joint : Joint) → IsClauseIfAny set p head inner → At p st
      → joined site (stated head) changed (point st) st ≡ Ok (joint, start) → entered site at joint (point st) start ≡ Ok begun → At inner begun
  begun_at head changed at p inner st start begun joint is here joins enters =
      let own = site.own.vars in
      let made : Joint × State = (joint, start) in
      let known = (answered (joined site (stated head) changed (point st) st) made
      (joined_fits set.kinds p.visible site (stated head) changed (point st) st (clause_stated set p head inner is) here.knows) joins).1 in
      let named : Behind own (p.indices + (stated head).quant.count) 0 start = answered (joined site (stated head) changed (point st) st) made
      (joined_stays own p.indices 0 (stated head) (clause_next set p head inner is) st here.behind site changed (point st) refl here.behind.types) joins in
      let goes = answered (entered site at joint (point st) start) begun (entered_goes site at joint (point st) start) enters in
      let went = answered (entered site at joint (point st) start) begun (entered_stays site at joint (point st) start) enters in
      record {
        knows = subst (λ v. Knows set.kinds v begun.types) (sym (clause_visible set p head inner is)) (subst (λ ts. Knows set.kinds p.visible ts) (sym goes.types) known);
        behind = behind_on own inner.indices 0 start begun (subst (λ n. Behind own n 0 start) (sym (clause_indices set p head inner is)) named) went;
      }

-- ---- what a way into a join brings

pub brings_by : (changed : ℕ → Truth) (vars : List (ℕ × CoreTy)) (kinds : List Kind) (visible inner : List ℕ) (before present : List (ℕ × Ty)) → AreWithin visible inner
    → Knows kinds visible before → Knows kinds inner present → ((x : ℕ) → changed x ≡ false → is_named x vars ≡ false → type_at x present ≡ type_at x before) → Brings changed vars before present
brings_by changed vars kinds visible inner before present within known later same = record {
  by = λ x old e.
      let entry = entry_at (IsEntry kinds visible) before x old known.agree e in
      let it = present_of kinds inner present x (ty_kind old) later (within x entry.0) entry.1 in
      record { type = it.type; there = it.at; kind = like_kinds old it.type it.kind; kept = λ unchanged unnamed. same_Some it.type old (sym it.at ∙ same x unchanged unnamed ∙ e) };
}
