-- How far the rounds have come, with what is seen of the workspace.
use Rattle.std.proofs.Common.{◌≡◌, ℕ, ◌+◌, ◌-◌, ◌*◌, ◌<◌, ◌≤◌, Bool, true, false, cond, ◌||◌, ◌==◌, nat_lt, List, [], ◌∷◌, length, get_or, Option, Some, None, slice_get, Result, Ok, Err, refl, sym, ◌∙◌, ap, subst, arith}
use Rattle.std.proofs.lemmas.Option.{get_or_from_slice_get, slice_get_within}
use Rattle.xan_lin.specs.declared.term.LimitKind.{LimitKind}
use Rattle.proof_lines.specs.Variables.{is_among}
use Rattle.proof_lines.proofs.Different.{equals_itself}
use Rattle.linear_solver.specs.declared.answer.Answer.{Answer}
use Rattle.solver_rows.specs.declared.step.Step.{Step}
use Rattle.linear_solver.specs.declared.choose.Look.{Look}
use Rattle.linear_solver.specs.declared.choose.Look.TheVariants.{Full, Take}
use Rattle.linear_solver.specs.declared.choose.Choice.{Choice}
use Rattle.solver_rows.specs.SystemRows.{Row}
use Rattle.linear_solver.specs.Systems.{next_rows}
use Rattle.linear_solver.specs.Choosing.{choice_of, candidate, is_before, better, best_from, refuted_by, refuted_or, look_at}
use Rattle.linear_solver.specs.Numbering.{System, numbered}
use Rattle.linear_solver.specs.Elimination.{ended, rounds}
use Rattle.linear_solver.specs.Solving.{Answers}
use Rattle.linear_solver.specs.Region.{Work, HasRoom, IsOpen}
use Rattle.linear_solver.proofs.Room.{next_few, taken-few}
use Rattle.linear_solver.proofs.RoundProgress.{rounds_end, rounds_last, rounds_fail, rounds_more}

-- ---- the variable that is taken is one of the variables

-- what a choice says of its variable
abbrev IsOf : List ℕ → Option Choice → Type 0
IsOf vars None = Unit {0}
IsOf vars (Some c) = is_among c.var vars ≡ true

better-of : (vars : List ℕ) (best next : Option Choice) → IsOf vars best → IsOf vars next → IsOf vars (better best next)
better-of vars None next p q = q
better-of vars (Some c) None p q = p
better-of vars (Some c) (Some d) p q = go (is_before d c)
  where
    go : (b : Bool) → IsOf vars (cond b (Some d) (Some c))
    go true = q
    go false = p

candidate-of : (vars : List ℕ) (v : ℕ) (rows : List Row) → is_among v vars ≡ true → IsOf vars (candidate v rows)
unfolding candidate
candidate-of vars v rows h = go _ _
  where
    go : (p n : ℕ) → IsOf vars (choice_of v p n)
    go p n = by ((p + n) == 0)
      where
        by : (b : Bool) → IsOf vars (cond b (let none : Option Choice = None in none) (Some (record { var = v; pairs = p * n })))
        by true = tt
        by false = h

more-among : (v w : ℕ) (vars : List ℕ) → is_among v vars ≡ true → ((w == v) || is_among v vars) ≡ true
more-among v w vars h = go (w == v)
  where
    go : (b : Bool) → (b || is_among v vars) ≡ true
    go true = refl
    go false = h

best-of : (all : List ℕ) (rows : List Row) (best : Option Choice) (vars : List ℕ) → ((v : ℕ) → is_among v vars ≡ true → is_among v all ≡ true) → IsOf all best → IsOf all (best_from rows best vars)
unfolding best_from
best-of all rows best [] h p = p
best-of all rows best (v ∷ vars) h p =
    best-of all rows (better best (candidate v rows)) vars (λ w e. h w (more-among w v vars e))
    (better-of all best (candidate v rows) p (candidate-of all v rows (h v (ap (λ b. b || is_among v vars) (equals_itself v)))))

pub taken_among : (vars seen : List ℕ) (rows : List Row) (look : Look) (var : ℕ) → look ≡ look_at vars rows → look ≡ Take var → seen ≡ vars → is_among var seen ≡ true
unfolding look_at
taken_among vars seen rows look var is take same =
    ap (is_among var) same ∙ go (nat_lt 2000 (length rows)) (refuted_by rows) (best_from rows None vars) (best-of vars rows None vars (λ v e. e) tt) (sym is ∙ take)
  where
    go : (b : Bool) (r : Option ℕ) (c : Option Choice) → IsOf vars c → cond b Full (refuted_or r c) ≡ Take var → is_among var vars ≡ true
    go true r c p e = cc
    go false (Some line) c p e = cc
    go false None None p e = cc
    go false None (Some c) p e = let same_var : c.var ≡ var = cc in ap (λ v. is_among v vars) (sym same_var) ∙ p

-- ---- the rounds

pub record Turns (s w : Work) (steps : List Step) (whole : Result (List Step) Answer) (at : ℕ) : Type 0 where
  pub kept : w ≡ record s { rows = w.rows }
  pub same : rounds (64 - at) s.vars steps w.rows ≡ whole
  pub few : length steps ≤ 1026 + 4000 * at

look_is : (s w : Work) (look : Look) → w ≡ record s { rows = w.rows } → look ≡ look_at w.vars w.rows → look ≡ look_at s.vars w.rows
look_is s w look kept e = e ∙ ap (λ v. look_at v.vars w.rows) kept

pub turns_end : (s w : Work) (steps after : List Step) (whole : Result (List Step) Answer) (at : ℕ) (look other : Look) (result : Result Answer LimitKind) → Turns s w steps whole at
    → look ≡ look_at w.vars w.rows → other ≡ look → ((v : ℕ) → look ≡ Take v → ⊥) → Answers result after (ended steps other) → Answers result after whole
turns_end s w steps after whole at look other result t is other_is h a =
    rounds_end (64 - at) s.vars steps after w.rows w.rows look other result whole t.same refl (look_is s w look t.kept is) other_is h a

pub turns_last : (s w : Work) (steps after : List Step) (whole : Result (List Step) Answer) (at : ℕ) (look : Look) (result : Result Answer LimitKind) → Turns s w steps whole at → 64 ≤ at
    → look ≡ look_at w.vars w.rows → Answers result after (ended steps look) → Answers result after whole
turns_last s w steps after whole at look result t h is a = rounds_last at s.vars steps after w.rows w.rows look result whole t.same h refl (look_is s w look t.kept is) a

pub turns_fail : (s w : Work) (steps after : List Step) (whole : Result (List Step) Answer) (at : ℕ) (look : Look) (var column : ℕ) (kind : LimitKind) → Turns s w steps whole at → at < 64
    → look ≡ look_at w.vars w.rows → look ≡ Take var → slice_get w.vars column ≡ Some var → next_rows (get_or w.vars column 0) w.rows ≡ Err kind → Answers (Err kind) after whole
turns_fail s w steps after whole at look var column kind t h is take there e =
    rounds_fail at s.vars steps after w.rows w.rows w.rows [] look var kind whole t.same h refl (look_is s w look t.kept is) take refl
    (ap (λ v. next_rows v w.rows) (sym (get_or_from_slice_get w.vars column var 0 there)) ∙ e)

pub turns_few : (s w made : Work) (steps : List Step) (whole : Result (List Step) Answer) (at : ℕ) (look : Look) (var column : ℕ) → Turns s w steps whole at
    → look ≡ look_at w.vars w.rows → look ≡ Take var → slice_get w.vars column ≡ Some var → next_rows (get_or w.vars column 0) w.rows ≡ Ok made.made → length made.made ≤ 2000
turns_few s w made steps whole at look var column t is take there e =
    next_few w.vars w.rows w.rows w.rows made.made look var refl is take refl (ap (λ v. next_rows v w.rows) (sym (get_or_from_slice_get w.vars column var 0 there)) ∙ e)

pub turns_more : (s w made new : Work) (steps after : List Step) (whole : Result (List Step) Answer) (at : ℕ) (look : Look) (var column : ℕ) → Turns s w steps whole at → at < 64 → s.made ≡ []
    → look ≡ look_at w.vars w.rows → look ≡ Take var → slice_get w.vars column ≡ Some var → next_rows (get_or w.vars column 0) w.rows ≡ Ok made.made
    → made ≡ record w { made = made.made } → numbered steps [] made.made ≡ (let n : System = record { steps = after; rows = new.rows } in n) → new ≡ record made { rows = new.rows; made = [] }
    → length after ≤ length steps + 2 * length made.made → Turns s new after whole (at + 1)
turns_more s w made new steps after whole at look var column t h none is take there e kept n turned few =
    let next : next_rows var w.rows ≡ Ok made.made = ap (λ v. next_rows v w.rows) (sym (get_or_from_slice_get w.vars column var 0 there)) ∙ e in
    let little = turns_few s w made steps whole at look var column t is take there e in
    let before = t.few in
    record {
      kept = turned ∙ ap (λ v. let u : Work = record v { rows = new.rows; made = [] } in u) kept ∙ ap (λ v. let u : Work = record v { rows = new.rows; made = [] } in u) t.kept
          ∙ ap (λ ms. let u : Work = record s { rows = new.rows; made = ms } in u) (sym none);
      same = rounds_more at s.vars steps after w.rows w.rows w.rows made.made made.made new.rows look var whole t.same h refl (look_is s w look t.kept is) take refl next refl n;
      few = omega arith;
    }

pub turns_begin : (s : Work) (steps : List Step) → length steps ≤ 1026 → Turns s s steps (rounds 64 s.vars steps s.rows) 0
turns_begin s steps h = record { kept = refl; same = refl; few = omega arith }

pub ready_now : (s w : Work) (steps : List Step) (whole : Result (List Step) Answer) (at : ℕ) (look : Look) (var column : ℕ) → Turns s w steps whole at → HasRoom s
    → look ≡ look_at w.vars w.rows → look ≡ Take var → slice_get w.vars column ≡ Some var → IsOpen column w
ready_now s w steps whole at look var column t room is take there = record {
  within = slice_get_within w.vars column var there;
  few = taken-few w.vars w.rows var (sym is ∙ take);
  room = subst HasRoom (sym t.kept) room;
}
