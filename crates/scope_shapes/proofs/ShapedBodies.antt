-- Blocks that are read keep the rules of a core, statement by statement.
use Rattle.std.proofs.Common.{◌≡◌, sym, ap, subst, Bool, true, false, List, [], ◌∷◌, ◌++◌, Ok, refl, ◌∙◌}
use Rattle.std.specs.Prelude.{◌||◌}
use Rattle.xanadu_tree.specs.declared.types.Kind.{Kind}
use Rattle.xanadu_tree.specs.KindRules.{Setting}
use Rattle.xanadu_tree.specs.BodyRules.{Point, behind_block as behind, completes, completes_all, MayFollow, IsStatement, AreStatements}
use Rattle.xanadu_tree.specs.Plain as core
use Rattle.xanadu_tree.specs.PlainOf.{to_stmts}
use Rattle.xanadu_tree.specs.PlainTree as plain
use Rattle.type_shapes.specs.declared.error.ShapeKind.TheVariants.{Unreachable}
use Rattle.expression_shapes.specs.Sites.{Globals, Locals, behind_block, without}
use Rattle.expression_shapes.specs.Expressions.{expression_test}
use Rattle.scope_shapes.specs.Statements.{clause_or_none, Done, assign, called, printed, returned, Body, empty, and_then, choice, loop, statement, branch, block, statements, statement_at}
use Rattle.type_shapes.proofs.ShapedLists.{then_ok, ok_same, where_ok, Begins, begins_through}
use Rattle.expression_shapes.proofs.ShapedExpressions.{Knows, site}
use Rattle.expression_shapes.proofs.ShapedTests.{test_is}
use Rattle.scope_shapes.proofs.ShapedPlaces.{Stands, Grows, grows_same, grows_through, sees, block_stands, block_grows}
use Rattle.scope_shapes.proofs.ShapedClauses.{clause_or_none_is}
use Rattle.scope_shapes.proofs.ShapedStatements.{Moves, unchanged_is, declare_is, split_is, assign_is, called_is, printed_is, returned_is}

-- ---- a statement behind others

follows_any : (b : Bool) (s : core.Stmt) (ss ts : core.Stmts) → MayFollow b (core.AStmt s ss) → MayFollow b (core.AStmt s ts)
follows_any true s ss ts h = tt
follows_any false s ss ts h = absurd h

follows_completing : (b : Bool) (ss : core.Stmts) → b ≡ true → MayFollow b ss
follows_completing true ss h = tt
follows_completing false ss h = absurd (cc)

nothing_follows : (b : Bool) → MayFollow b core.NoStmt
nothing_follows true = tt
nothing_follows false = tt

statements_with : (set : Setting) (before middle after : Point) (xs : List core.Stmt) (s : core.Stmt) → AreStatements set before (to_stmts xs) middle → completes_all (to_stmts xs) ≡ true
    → IsStatement set middle s after → AreStatements set before (to_stmts (xs ++ (s ∷ []))) after
unfolding AreStatements
statements_with set before middle after [] s are goes is = (after, subst (λ p. IsStatement set p s after) are is, nothing_follows (completes s), refl)
statements_with set before middle after (x ∷ []) s are goes is =
    (are.0, are.1, follows_completing (completes x) _ goes, (after, subst (λ p. IsStatement set p s after) are.3 is, nothing_follows (completes s), refl))
statements_with set before middle after (x ∷ y ∷ ys) s are goes is =
    (are.0, are.1, follows_any (completes x) y _ _ are.2, statements_with set are.0 middle after (y ∷ ys) s are.3 goes is)

completes_with : (xs : List core.Stmt) (s : core.Stmt) → completes s ≡ completes_all (to_stmts (xs ++ (s ∷ [])))
completes_with [] s = refl
completes_with (x ∷ []) s = refl
completes_with (x ∷ y ∷ ys) s = completes_with (y ∷ ys) s

-- ---- statements so far

pub record Runs (globals : Globals) (given : Kind) (start : Locals) (point : Point) (body : Body) (locals : Locals) : Type 0 where
  pub after : Point
  pub stands : Stands globals.packings locals after
  pub grows : Grows start locals
  pub is : (kinds : List Kind) → Begins locals.kinds kinds → AreStatements (site globals kinds given) point (to_stmts body.stmts) after
  pub completes : body.completes ≡ completes_all (to_stmts body.stmts)

runs_empty : (globals : Globals) (given : Kind) (start : Locals) (point : Point) → Stands globals.packings start point → Runs globals given start point empty start
unfolding AreStatements
runs_empty globals given start point st = record { after = point; stands = st; grows = grows_same start; is = λ kinds begins. refl; completes = refl }

runs_with : (globals : Globals) (given : Kind) (start : Locals) (point : Point) (body : Body) (locals more : Locals) (done : Done) (r : Runs globals given start point body locals)
    → body.completes ≡ true → Moves globals given locals r.after done more → Runs globals given start point (and_then body done) more
runs_with globals given start point body locals more done r goes m = record {
  after = m.after;
  stands = m.stands;
  grows = grows_through start locals more r.grows m.grows;
  is = λ kinds begins. statements_with (site globals kinds given) point r.after m.after body.stmts done.stmt
      (r.is kinds (begins_through locals.kinds more.kinds kinds m.grows.kinds begins)) (sym r.completes ∙ goes) (m.is kinds begins);
  completes = m.completes ∙ completes_with body.stmts done.stmt;
}

-- ---- blocks

pub record Blocks (globals : Globals) (given : Kind) (locals : Locals) (point : Point) (body : Body) (more : Locals) : Type 0 where
  pub after : Point
  pub stands : Stands globals.packings more (behind point after)
  pub grows : Grows locals more
  pub is : (kinds : List Kind) → Begins more.kinds kinds → AreStatements (site globals kinds given) point (to_stmts body.stmts) after
  pub completes : body.completes ≡ completes_all (to_stmts body.stmts)

same_kinds : (outer inner : Locals) → (behind_block outer inner).kinds ≡ inner.kinds
unfolding without
same_kinds outer inner = refl

block_from : (globals : Globals) (given : Kind) (locals : Locals) (point : Point) (body : Body) (inner : Locals) → Stands globals.packings locals point
    → Runs globals given locals point body inner → Blocks globals given locals point body (behind_block locals inner)
block_from globals given locals point body inner st r = record {
  after = r.after;
  stands = block_stands globals.packings locals inner point r.after st r.stands r.grows;
  grows = block_grows locals inner r.grows;
  is = λ kinds begins. r.is kinds (subst (λ ks. Begins ks kinds) (same_kinds locals inner) begins);
  completes = r.completes;
}

block_empty : (globals : Globals) (given : Kind) (locals : Locals) (point : Point) → Stands globals.packings locals point → Blocks globals given locals point empty locals
unfolding AreStatements
block_empty globals given locals point st = record { after = point; stands = st; grows = grows_same locals; is = λ kinds begins. refl; completes = refl }

both_ways : (a b c d : Bool) → a ≡ c → b ≡ d → (a || b) ≡ (c || d)
both_ways a b c d first second = ap (λ x. x || b) first ∙ ap (λ x. c || x) second

module _ (globals : Globals) (given : Kind) (knows : Knows globals) where
  mutual
    unfolding statement AreStatements

    pub statement_is : (s : plain.Statement) (locals : Locals) (point : Point) (y : Done × Locals) → Stands globals.packings locals point → statement globals given s locals ≡ Ok y
        → Moves globals given locals point y.0 y.1
    statement_is (plain.Declare name value at) locals point y st e = declare_is globals given locals point name value y knows st e
    statement_is (plain.Split names value at) locals point y st e = split_is globals given locals point names value at y knows st e
    statement_is (plain.Assign target indices value) locals point y st e =
        unchanged_is globals given locals point (assign globals locals target indices value) y (λ done. assign_is globals given locals point target indices value done knows st) e
    statement_is (plain.Do f arguments) locals point y st e =
        unchanged_is globals given locals point (called globals locals f arguments) y (λ done. called_is globals given locals point f arguments done knows st) e
    statement_is (plain.Print value at) locals point y st e =
        unchanged_is globals given locals point (printed globals locals value) y (λ done. printed_is globals given locals point value done knows st) e
    statement_is (plain.If t on_true on_false join at) locals point y st e =
        let it = then_ok (expression_test globals locals t) _ y e in
        let one = then_ok (block globals given on_true locals) _ y it.second in
        let two = then_ok (branch globals given on_false one.value.1) _ y one.second in
        let c = then_ok (clause_or_none globals.types join two.value.1) _ y two.second in
        let yes_block = block_is on_true locals point one.value st one.first in
        let no_block = branch_is on_false one.value.1 (behind point yes_block.after) two.value yes_block.stands two.first in
        let clause = clause_or_none_is globals given join two.value.1 (behind point no_block.after) c.value knows no_block.stands c.first in
        let last = grows_through one.value.1 two.value.1 c.value.1 no_block.grows clause.grows in
        subst (λ z. Moves globals given locals point z.0 z.1) (ok_same (choice it.value one.value.0 two.value.0 c.value.0 at, c.value.1) y c.second) (record {
          after = clause.after;
          stands = clause.stands;
          grows = grows_through locals one.value.1 c.value.1 yes_block.grows last;
          is = λ kinds begins.
              let from_two = begins_through two.value.1.kinds c.value.1.kinds kinds clause.grows.kinds begins in
              let from_one = begins_through one.value.1.kinds c.value.1.kinds kinds last.kinds begins in
              let from_start = begins_through locals.kinds one.value.1.kinds kinds yes_block.grows.kinds from_one in (
                yes_block.after,
                no_block.after,
                test_is globals locals kinds given point.visible knows (sees globals.packings locals point kinds st from_start) t it.value it.first,
                yes_block.is kinds from_one,
                no_block.is kinds from_two,
                clause.is kinds begins,
              );
          completes = both_ways _ _ _ _ yes_block.completes no_block.completes;
        })
    statement_is (plain.While t head body at) locals point y st e =
        let it = then_ok (expression_test globals locals t) _ y e in
        let c = then_ok (clause_or_none globals.types head locals) _ y it.second in
        let b = then_ok (block globals given body c.value.1) _ y c.second in
        let clause = clause_or_none_is globals given head locals point c.value knows st c.first in
        let turn = block_is body c.value.1 clause.after b.value clause.stands b.first in
        subst (λ z. Moves globals given locals point z.0 z.1) (ok_same (loop it.value c.value.0 b.value.0 at, b.value.1) y b.second) (record {
          after = behind clause.after turn.after;
          stands = turn.stands;
          grows = grows_through locals c.value.1 b.value.1 clause.grows turn.grows;
          is = λ kinds begins.
              let from_clause = begins_through c.value.1.kinds b.value.1.kinds kinds turn.grows.kinds begins in
              let from_start = begins_through locals.kinds c.value.1.kinds kinds clause.grows.kinds from_clause in (
                clause.after,
                turn.after,
                test_is globals locals kinds given point.visible knows (sees globals.packings locals point kinds st from_start) t it.value it.first,
                clause.is kinds from_clause,
                turn.is kinds begins,
                refl,
              );
          completes = refl;
        })
    statement_is (plain.Return value at) locals point y st e =
        unchanged_is globals given locals point (returned globals given locals value at) y (λ done. returned_is globals given locals point value at done knows st) e

    branch_is : (b : plain.Branch) (locals : Locals) (point : Point) (y : Body × Locals) → Stands globals.packings locals point → branch globals given b locals ≡ Ok y
        → Blocks globals given locals point y.0 y.1
    branch_is plain.NoBranch locals point y st e = subst (λ z. Blocks globals given locals point z.0 z.1) (ok_same (empty, locals) y e) (block_empty globals given locals point st)
    branch_is (plain.ABranch b) locals point y st e = block_is b locals point y st e

    pub block_is : (b : plain.Block) (locals : Locals) (point : Point) (y : Body × Locals) → Stands globals.packings locals point → block globals given b locals ≡ Ok y
        → Blocks globals given locals point y.0 y.1
    block_is (plain.BlockOf ss at) locals point y st e =
        let s = then_ok (statements globals given ss empty locals) _ y e in
        let r = statements_are ss locals point empty locals s.value (runs_empty globals given locals point st) s.first in
        subst (λ z. Blocks globals given locals point z.0 z.1) (ok_same (s.value.0, behind_block locals s.value.1) y s.second)
        (block_from globals given locals point s.value.0 s.value.1 st r)

    statements_are : (ss : plain.Statements) (start : Locals) (point : Point) (body : Body) (locals : Locals) (y : Body × Locals) → Runs globals given start point body locals
        → statements globals given ss body locals ≡ Ok y → Runs globals given start point y.0 y.1
    statements_are plain.NoStatement start point body locals y r e = subst (λ z. Runs globals given start point z.0 z.1) (ok_same (body, locals) y e) r
    statements_are (plain.AStatement s ss) start point body locals y r e =
        let u = where_ok body.completes Unreachable (statement_at s) _ y e in
        let t = then_ok (statement globals given s locals) _ y u.1 in
        let m = statement_is s locals r.after t.value r.stands t.first in
        statements_are ss start point (and_then body t.value.0) t.value.1 y (runs_with globals given start point body locals t.value.1 t.value.0 r u.0 m) t.second
