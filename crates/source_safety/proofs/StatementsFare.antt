-- Statements and blocks go well: by one recursion over the statements, beside their elaboration.
use Rattle.std.proofs.Common.{◌≡◌, ◌∙◌, ℕ, zero, suc, ◌≤◌, ◌<◌, ℤ, List, [], ◌∷◌, length, Bool as Truth, true, false, Option, Some, None, Ok, Err, refl, sym, subst, arith}
use Rattle.std.specs.Prelude.{slice_get, ◌||◌}
use Rattle.std.specs.List.{All, AllZip}
use Rattle.std.proofs.lemmas.List.Elements.{All-nil, All-cons}
use Rattle.xan_seq.specs.Answers.{◌>>=◌}
use Rattle.state_types.proofs.Thens.{then_ok, ok_same}
use Rattle.operation_rules.specs.Sound.{IsSetting}
use Rattle.xanadu_tree.specs.declared.stmt.Clause.{Clause}
use Rattle.xanadu_tree.specs.declared.types.CoreTy.{CoreTy}
use Rattle.xanadu_tree.specs.declared.types.Kind.{Kind}
use Rattle.xanadu_tree.specs.BodyRules.{Point, behind_block, completes, completes_all, IsClauseIfAny, IsStatement, AreStatements}
use Rattle.xanadu_tree.specs.KindRules.{kind_of, Setting}
use Rattle.xanadu_tree.specs.Plain as core
use Rattle.typed_core.specs.Constructs.{setting_of}
use Rattle.typed_core.specs.SourceRuns.{Run, Answer, Env, Place, Recorder, Calls, Flow, Next, Gives as Returns}
use Rattle.typed_core.specs.SourceStatements as source
use Rattle.typed_core.specs.SourceStatements.{reached, behind, one_of_two}
use Rattle.typed_core.specs.SourceTests.{holds}
use Rattle.typed_core.specs.SourceValues.{Value, Blocks}
use Rattle.typed_core.specs.States.{Site, State}
use Rattle.typed_core.specs.Statements.{other_branch, statement, block}
use Rattle.typed_core.specs.Tests.{Sides, on_side}
use Rattle.typed_core.proofs.FitOperands.{Suits}
use Rattle.typed_core.proofs.GrownStatements.{block_goes}
use Rattle.typed_core.proofs.NamedStates.{answered}
use Rattle.source_safety.specs.Standing.{GoalsHold, Stands, Goes, CallsFare, Fares, Leaves, LeavesIf, side_state}
use Rattle.source_safety.proofs.BranchParts.{branching_is, grows, other_goes, true_at, false_at, one_goes, two_goes}
use Rattle.source_safety.proofs.CellsPut.{store_fares}
use Rattle.source_safety.proofs.Demanded.{goals_before}
use Rattle.source_safety.proofs.FaredOn.{fares_then, fares_on, goes_on, stays_here}
use Rattle.source_safety.proofs.LoopParts.{IsLooping, looping_is, turns, leaves_loop, body_at, begins_loop, turns_back}
use Rattle.source_safety.proofs.PlacesKnown.{IsAt, statement_at}
use Rattle.source_safety.proofs.ReturnsFare.{came_after, return_fares}
use Rattle.source_safety.proofs.SimpleStatements.{set_fares, do_fares, print_fares}
use Rattle.source_safety.proofs.SplitsFare.{split_fares}
use Rattle.source_safety.proofs.TestsFare.{tested_fares}
use Rattle.source_safety.proofs.TurnsFare.{Loops, turns_fare}

-- ---- variables of a function

listed_within : (kinds : List Kind) (x : ℕ) (k : Kind) → slice_get kinds x ≡ Some k → x < length kinds
listed_within [] x k e = absurd (let bad : ⊥ = cc in bad)
listed_within (j ∷ js) zero k e = omega arith
listed_within (j ∷ js) (suc x) k e = (let h = listed_within js x k e in omega (arith, h))

all_within : (kinds : List Kind) (xs : List ℕ) (parts : List CoreTy) → AllZip (λ x part. slice_get kinds x ≡ Some (kind_of part)) xs parts → All (λ x. x < length kinds) xs
all_within kinds [] parts all = All-nil (λ x. x < length kinds)
all_within kinds (x ∷ xs) [] all = absurd all
all_within kinds (x ∷ xs) (p ∷ ps) all = All-cons (λ x. x < length kinds) x xs (listed_within kinds x (kind_of p) all.0) (all_within kinds xs ps all.1)

-- ---- what completes

or_first : (a b : Truth) → a ≡ true → (a || b) ≡ true
or_first true b e = refl
or_first false b e = absurd (let bad : ⊥ = cc in bad)

or_second : (a b : Truth) → b ≡ true → (a || b) ≡ true
or_second true b e = refl
or_second false b e = e

may_come : (s : core.Stmt) (ss : core.Stmts) → completes s ≡ true → completes_all ss ≡ true → completes_all (core.AStmt s ss) ≡ true
may_come s core.NoStmt here later = here
may_come s (core.AStmt t ts) here later = later

-- ---- what parts leave

module _ {L : Type 0} (site : Site) where
  -- behind a part of the run
  pub left_on : (first end final : State) (may might : Truth) (width wide : ℕ) (env : Env) (assignment : List ℤ) (old middle : Blocks) → site.own.vars ≤ length assignment
      → (g : Goes site first env assignment old middle) → (may ≡ true → might ≡ true) → width ≡ wide
      → ((inside : Env) (new : Blocks) → may ≡ true → Goes site end inside assignment old new → Goes site final inside assignment old new)
      → (flow : Flow) (new : Run L) → LeavesIf may site end width g.given middle flow new → LeavesIf might site final wide assignment old flow new
  left_on first end final may might width wide env assignment old middle le g up same f (Next inside) new h = record {
    comes = up h.comes;
    goes = f inside new.store h.comes (goes_on site inside end assignment g.given old middle new.store g.front g.keeps h.goes);
    wide = h.wide ∙ same;
  }
  left_on first end final may might width wide env assignment old middle le g up same f (Returns v) new h = came_after site first env assignment old middle new.store v le g h

  left_simply : (more : State) (width : ℕ) (assignment : List ℤ) (store : Blocks) (flow : Flow) (new : Run L) → Leaves site more width assignment store flow new
      → LeavesIf true site more width assignment store flow new
  left_simply more width assignment store (Next env) new h = record { comes = refl; goes = h.0; wide = h.1 }
  left_simply more width assignment store (Returns v) new h = h

  -- a return never completes
  returns_simply : (more : State) (width : ℕ) (assignment : List ℤ) (store : Blocks) (m : Answer L Value)
      → Fares (Leaves site more width assignment store) (m >>= (λ p. let a : Answer L Flow = Ok (Returns p.0, p.1) in a))
      → Fares (LeavesIf false site more width assignment store) (m >>= (λ p. let a : Answer L Flow = Ok (Returns p.0, p.1) in a))
  returns_simply more width assignment store (Ok p) h = record { is = h.is }
  returns_simply more width assignment store (Err end) h = record { is = h.is }

  -- the statements behind one
  behind_fares : (s : core.Stmt) (ss : core.Stmts) (one more : State) (env : Env) (assignment : List ℤ) (old : Blocks) (next : Env → Run L → Answer L Flow) → site.own.vars ≤ length assignment
      → ((inside : Env) (given : List ℤ) (run : Run L) → Stands site one inside given run.store → length inside ≡ length env
      → Fares (LeavesIf (completes_all ss) site more (length inside) given run.store) (next inside run))
      → (flow : Flow) (new : Run L) → LeavesIf (completes s) site one (length env) assignment old flow new
      → Fares (LeavesIf (completes_all (core.AStmt s ss)) site more (length env) assignment old) (behind flow next new)
  behind_fares s ss one more env assignment old next le later (Next inside) new h =
      fares_on (next inside new)
      (left_on one more more (completes_all ss) (completes_all (core.AStmt s ss)) (length inside) (length env) inside assignment old new.store le h.goes (may_come s ss h.comes) h.wide (λ env new may g. g))
      (later inside h.goes.given new h.goes.stands h.wide)
  behind_fares s ss one more env assignment old next le later (Returns v) new h = record { is = h }

  one_fares : (Q : Flow → Run L → Type 0) (truth : Truth) (sides : Sides) (env : Env) (assignment : List ℤ) (old : Blocks) (run : Run L) (on_true on_false : Run L → Answer L Flow)
      → Goes site (side_state truth sides) env assignment old run.store → (Goes site (on_side sides.on_true sides.after) env assignment old run.store → Fares Q (on_true run))
      → (Goes site (on_side sides.on_false sides.after) env assignment old run.store → Fares Q (on_false run)) → Fares Q (one_of_two truth on_true on_false run)
  one_fares Q true sides env assignment old run on_true on_false g first second = first g
  one_fares Q false sides env assignment old run on_true on_false g first second = second g

-- ---- statements and blocks

module _ {L : Type 0} (set : Setting) (site : Site) (suits : Suits set site) (setting : IsSetting (setting_of site)) (recorder : Recorder L) (call : Calls L)
    (calls : CallsFare site.table site.sigs call) (fun : ℕ) where
  abbrev pub Left : (may : Truth) (more : State) (env : Env) (assignment : List ℤ) (run : Run L) → Answer L Flow → Type 0
  Left may more env assignment run m = Fares (LeavesIf may site more (length env) assignment run.store) m

  own_within : (st : State) (env : Env) (assignment : List ℤ) (store : Blocks) → Stands site st env assignment store → site.own.vars ≤ length assignment
  own_within st env assignment store stands = subst (λ n. site.own.vars ≤ n) (sym stands.one_each) stands.own

  simply : (more : State) (env : Env) (assignment : List ℤ) (run : Run L) (m : Answer L Flow) → Fares (Leaves site more (length env) assignment run.store) m → Left true more env assignment run m
  simply more env assignment run m fares = fares_on m (left_simply site more (length env) assignment run.store) fares

  returns : (value : Option core.Expr) (at : ℕ) (bound : ℕ) (place : Place) (st more : State) (env : Env) (assignment : List ℤ) (run : Run L) → statement site (core.Return value at) st ≡ Ok more
      → GoalsHold more.goals → Stands site st env assignment run.store → Left false more env assignment run (source.statement recorder call fun bound place (core.Return value at) env run)
  unfolding statement source.statement
  returns None at bound place st more env assignment run e goals stands =
      record { is = (return_fares site setting recorder call calls fun bound place env st more assignment run stands goals None at e).is }
  returns (Some v) at bound place st more env assignment run e goals stands =
      returns_simply site more (length env) assignment run.store _ (return_fares site setting recorder call calls fun bound place env st more assignment run stands goals (Some v) at e)

  -- a loop, where its body goes well
  module _ (test : core.Test) (head : Option Clause) (body : core.Stmts) (at : ℕ) (before begin end : Point) (st more : State) (place : Place) (env : Env) (assignment : List ℤ) (run : Run L)
      (l : IsLooping site test head body at st more) (clause : IsClauseIfAny set before head begin) (are : AreStatements set begin body end) (here : IsAt set site.own.vars before st)
      (goals : GoalsHold more.goals) (stands : Stands site st env assignment run.store) where
    abbrev BodyFares : Type 0
    BodyFares = (n : ℕ) (inside : Env) (given : List ℤ) (now : Run L) → Stands site (on_side l.sides.on_true l.sides.after) inside given now.store → length inside ≡ length env
        → Fares (LeavesIf (completes_all body) site l.turn (length env) given now.store) (source.block recorder call fun n (0 ∷ place) 0 body inside now)

    abbrev pub LoopFares : Type 0
    LoopFares = Loops site (length env) assignment run.store (completes_all body) l.begun l.sides l.turn more (λ env st. holds call env test st)
        (λ bound env st. source.block recorder call fun bound (0 ∷ place) 0 body env st)

    loop_by : BodyFares → LoopFares
    loop_by bodies =
        let t = turns site test head body at st more l in
        let hold = t.after_goals (t.turn_goals (t.back_goals goals)) in
        record {
          own = own_within st env assignment run.store stands;
          tests = λ inside given now there. tested_fares site setting call calls inside test l.begun l.sides l.tests hold given now there;
          bodies = bodies;
          back = λ inside new comes g. turns_back site test head body at st more l set suits setting.table before begin end here clause are env assignment run.store stands goals inside new comes g;
          leaves = λ inside new g. leaves_loop site test head body at st more l inside assignment run.store new g;
        }

  mutual
    unfolding statement source.statement AreStatements

    pub statement_fares : (s : core.Stmt) (before after : Point) (st more : State) (bound : ℕ) (place : Place) (env : Env) (assignment : List ℤ) (run : Run L)
        → IsStatement set before s after → IsAt set site.own.vars before st → statement site s st ≡ Ok more → GoalsHold more.goals → Stands site st env assignment run.store
        → length env ≡ length set.kinds → Left (completes s) more env assignment run (source.statement recorder call fun bound place s env run)
    statement_fares (core.Set x e) before after st more bound place env assignment run is here e1 goals stands wide =
        simply more env assignment run _
        (set_fares site setting recorder call calls fun bound place env st more assignment run stands goals x e (subst (λ n. x < n) (sym wide) (listed_within set.kinds x is.0 is.3)) e1)
    statement_fares (core.Split xs e at) before after st more bound place env assignment run is here e1 goals stands wide =
        simply more env assignment run _
        (split_fares site setting recorder call calls fun bound place env st more assignment run stands goals xs e at
        (subst (λ n. All (λ x. x < n) xs) (sym wide) (all_within set.kinds xs is.1.parts is.4.kinds)) e1)
    statement_fares (core.Store array index e at) before after st more bound place env assignment run is here e1 goals stands wide =
        simply more env assignment run _ (store_fares site setting recorder call calls fun bound place env st more assignment run stands goals array index e at e1)
    statement_fares (core.Do e) before after st more bound place env assignment run is here e1 goals stands wide =
        simply more env assignment run _ (do_fares site setting recorder call calls fun bound place env st more assignment run stands goals e e1)
    statement_fares (core.Print e) before after st more bound place env assignment run is here e1 goals stands wide =
        simply more env assignment run _ (print_fares site setting recorder call calls fun bound place env st more assignment run stands goals e e1)
    statement_fares (core.If test on_true on_false join at) before after st more bound place env assignment run is here e goals stands wide =
        let b = branching_is site test on_true on_false join at st more e in
        let g = grows site test on_true on_false join at st more b in
        let le = own_within st env assignment run.store stands in
        let side = on_side b.sides.on_true b.sides.after in
        let other = other_branch b.sides.on_false st b.one in
        let two_hold = g.two_goals goals in
        let one_hold = g.one_goals two_hold in
        let first = completes_all on_true in
        let second = completes_all on_false in
        fares_then (holds call env test run) _ (tested_fares site setting call calls env test st b.sides b.tests (g.after_goals one_hold) assignment run stands)
        (λ p h. one_fares site (LeavesIf (first || second) site more (length env) assignment run.store) p.0 b.sides env assignment run.store p.1
        (λ st. source.block recorder call fun bound (0 ∷ place) 0 on_true env st) (λ st. source.block recorder call fun bound (1 ∷ place) 0 on_false env st) h
        (λ k. fares_on (source.block recorder call fun bound (0 ∷ place) 0 on_true env p.1)
        (left_on site side b.one more first (first || second) (length env) (length env) env assignment run.store p.1.store le k (or_first first second) refl
        (λ inside new may l. one_goes site test on_true on_false join at st more b set suits setting.table before is.0 is.1 here is.3 is.4 env inside assignment run.store new stands goals may l))
        (block_fares on_true before is.0 side b.one bound (0 ∷ place) 0 env k.given p.1 is.3
        (true_at site test on_true on_false join at st more b set suits setting.table before is.0 is.1 here is.3 is.4) b.first one_hold k.stands wide))
        (λ k. let l = other_goes site test on_true on_false join at st more b env assignment run.store p.1.store k in
        fares_on (source.block recorder call fun bound (1 ∷ place) 0 on_false env p.1)
        (left_on site other b.two more second (first || second) (length env) (length env) env assignment run.store p.1.store le l (or_second first second) refl
        (λ inside new may m. two_goes site test on_true on_false join at st more b set suits setting.table before is.0 is.1 here is.3 is.4 env inside assignment run.store new stands goals may m))
        (block_fares on_false (behind_block before is.0) is.1 other b.two bound (1 ∷ place) 0 env l.given p.1 is.4
        (false_at site test on_true on_false join at st more b set suits setting.table before is.0 is.1 here is.3 is.4) b.second two_hold l.stands wide)))
    statement_fares (core.While test head body at) before after st more bound place env assignment run is here e goals stands wide =
        let l = looping_is site test head body at st more e in
        let t = turns site test head body at st more l in
        let turn_hold = t.turn_goals (t.back_goals goals) in
        let side = on_side l.sides.on_true l.sides.after in
        turns_fare site (length env) assignment run.store (completes_all body) l.begun l.sides l.turn more (λ env st. holds call env test st)
        (λ bound env st. source.block recorder call fun bound (0 ∷ place) 0 body env st)
        (loop_by test head body at before is.0 is.1 st more place env assignment run l is.3 is.4 here goals stands
        (λ n inside given now there same.
        subst (λ w. Fares (LeavesIf (completes_all body) site l.turn w given now.store) (source.block recorder call fun n (0 ∷ place) 0 body inside now)) same
        (block_fares body is.0 is.1 side l.turn n (0 ∷ place) 0 inside given now is.4
        (body_at site test head body at st more l set suits setting.table before is.0 is.1 here is.3 is.4) l.inner turn_hold there (same ∙ wide))))
        bound env run (begins_loop site test head body at st more l set suits setting.table before is.0 is.1 here is.3 is.4 env assignment run.store stands goals) refl
    statement_fares (core.Return value at) before after st more bound place env assignment run is here e goals stands wide =
        returns value at bound place st more env assignment run e goals stands

    pub block_fares : (ss : core.Stmts) (before after : Point) (st more : State) (bound : ℕ) (place : Place) (number : ℕ) (env : Env) (assignment : List ℤ) (run : Run L)
        → AreStatements set before ss after → IsAt set site.own.vars before st → block site ss st ≡ Ok more → GoalsHold more.goals → Stands site st env assignment run.store
        → length env ≡ length set.kinds → Left (completes_all ss) more env assignment run (source.block recorder call fun bound place number ss env run)
    block_fares core.NoStmt before after st more bound place number env assignment run are here e goals stands wide =
        subst (λ m. Left true m env assignment run (source.block recorder call fun bound place number core.NoStmt env run)) (ok_same st more e)
        (record { is = record { comes = refl; goes = stays_here site env st assignment run.store stands; wide = refl } })
    block_fares (core.AStmt s ss) before after st more bound place number env assignment run are here e goals stands wide =
        let t = then_ok (statement site s st) _ more e in
        let one = t.value in
        let hold = goals_before one.goals more.goals (answered (block site ss one) more (block_goes site ss one) t.second).later.goals goals in
        let le = own_within st env assignment run.store stands in
        let next = statement_at set site suits setting.table s before are.0 st one are.1 here t.first in
        fares_then (source.statement recorder call fun bound (number ∷ place) s env (reached recorder fun (number ∷ place) env run)) _
        (statement_fares s before are.0 st one bound (number ∷ place) env assignment (reached recorder fun (number ∷ place) env run) are.1 here t.first hold stands wide)
        (λ p h. behind_fares site s ss one more env assignment run.store (λ env st. source.block recorder call fun bound place (suc number) ss env st) le
        (λ inside given st there same. block_fares ss are.0 after one more bound place (suc number) inside given st are.3 next t.second goals there (same ∙ wide)) p.0 p.1 h)

  -- the same of a loop whose statements are known
  pub loop_fares : (test : core.Test) (head : Option Clause) (body : core.Stmts) (at : ℕ) (before begin end : Point) (st more : State) (place : Place) (env : Env) (assignment : List ℤ)
      (run : Run L) (l : IsLooping site test head body at st more) (clause : IsClauseIfAny set before head begin) (are : AreStatements set begin body end)
      (here : IsAt set site.own.vars before st) (goals : GoalsHold more.goals) (stands : Stands site st env assignment run.store) → length env ≡ length set.kinds
      → LoopFares test head body at before begin end st more place env assignment run l clause are here goals stands
  loop_fares test head body at before begin end st more place env assignment run l clause are here goals stands wide =
      let t = turns site test head body at st more l in
      loop_by test head body at before begin end st more place env assignment run l clause are here goals stands
      (λ n inside given now there same.
      subst (λ w. Fares (LeavesIf (completes_all body) site l.turn w given now.store) (source.block recorder call fun n (0 ∷ place) 0 body inside now)) same
      (block_fares body begin end (on_side l.sides.on_true l.sides.after) l.turn n (0 ∷ place) 0 inside given now are
      (body_at site test head body at st more l set suits setting.table before begin end here clause are) l.inner (t.turn_goals (t.back_goals goals)) there (same ∙ wide)))
