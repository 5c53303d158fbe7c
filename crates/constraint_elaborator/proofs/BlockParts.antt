-- An `if` and a `while` in parts: each is the walk through what stands before its blocks, and then the walk through them.
use Rattle.std.proofs.Common.{◌≡◌, ◌∙◌, ℕ, List, Option, Ok, Err, refl, sym, subst}
use Rattle.state_types.specs.Answers.{◌>>=◌}
use Rattle.state_types.specs.declared.state.StateType.{StateType}
use Rattle.state_types.specs.declared.types.Ty.{Ty}
use Rattle.typed_core.specs.Joins.{Joint, changes_any, entered, joined, stated}
use Rattle.typed_core.specs.Limits.{Walk}
use Rattle.typed_core.specs.States.{Site, State, point}
use Rattle.typed_core.specs.Statements.{block, statement}
use Rattle.typed_core.specs.Tests.{Sides, on_side, tested}
use Rattle.xan_lin.specs.Linear.{Linear}
use Rattle.xanadu_tree.specs.Plain as core
use Rattle.xanadu_tree.specs.declared.stmt.Clause.{Clause}
use Rattle.header_elaborator.specs.Code.{Fails}
use Rattle.header_elaborator.specs.declared.error.Stop.{Stop}
use Rattle.header_elaborator.proofs.WalkParts.{then_ok, fails_then}
use Rattle.constraint_elaborator.specs.BlockViews.{Turning, begun_if, begun_other, begun_turns, first_branch, left, second_branch, turn, turn_body}

-- ---- if

branch_by : (m : Walk State) (rows : List Linear) (types : List (ℕ × Ty)) (next : StateType → State → Walk State)
    → (m >>= λ one. next (point one) (begun_other rows types one)) ≡ ((m >>= λ one. (let w : Walk (StateType × State) = Ok (point one, begun_other rows types one) in w)) >>= λ o. next o.0 o.1)
branch_by (Ok one) rows types next = refl
branch_by (Err why) rows types next = refl

if_by : (m : Walk Sides) (first : State → Walk State) (types : List (ℕ × Ty)) (next : StateType → State → Walk State)
    → (m >>= λ sides. first (on_side sides.on_true sides.after) >>= λ one. next (point one) (begun_other sides.on_false types one))
    ≡ (((m >>= λ sides. (let w : Walk (List Linear × State) = Ok (sides.on_false, on_side sides.on_true sides.after) in w))
    >>= λ b. first b.1 >>= λ one. (let w : Walk (StateType × State) = Ok (point one, begun_other b.0 types one) in w)) >>= λ o. next o.0 o.1)
if_by (Ok sides) first types next = branch_by (first (on_side sides.on_true sides.after)) sides.on_false types next
if_by (Err why) first types next = refl

module _ (site : Site) (test : core.Test) (on_true on_false : core.Stmts) (join : Option Clause) (at : ℕ) (st : State) where
  abbrev behind_first : StateType × State → Walk State
  behind_first o = second_branch on_true on_false join site at (point st) o.0 o.1

  if_is : statement site (core.If test on_true on_false join at) st ≡ (first_branch site test on_true st >>= behind_first)
  unfolding statement begun_if first_branch second_branch
  if_is = if_by (tested site test st) (λ start. block site on_true start) st.types (λ one other. block site on_false other >>= λ two. left on_true on_false join site at (point st) one two)

  pub if_fails : (why : Stop) → Fails why (first_branch site test on_true st) → Fails why (statement site (core.If test on_true on_false join at) st)
  if_fails why f = subst (λ w. Fails why w) (sym if_is) (fails_then why (first_branch site test on_true st) behind_first f)

  pub if_goes : (o : StateType × State) → first_branch site test on_true st ≡ Ok o
      → statement site (core.If test on_true on_false join at) st ≡ second_branch on_true on_false join site at (point st) o.0 o.1
  if_goes o e = if_is ∙ then_ok (first_branch site test on_true st) behind_first o e

-- ---- while

turn_by : (m : Walk State) (joint : Joint) (types : List (ℕ × Ty)) (next : Joint → List (ℕ × Ty) → State → Walk State)
    → (m >>= λ begun. next joint types begun)
    ≡ ((m >>= λ begun. (let w : Walk Turning = Ok (record { joint = joint; types = types; state = begun }) in w)) >>= λ t. next t.joint t.types t.state)
turn_by (Ok begun) joint types next = refl
turn_by (Err why) joint types next = refl

while_by : (m : Walk (Joint × State)) (enter : Joint → State → Walk State) (next : Joint → List (ℕ × Ty) → State → Walk State)
    → (m >>= λ j. enter j.0 j.1 >>= λ begun. next j.0 j.1.types begun)
    ≡ ((m >>= λ j. enter j.0 j.1 >>= λ begun. (let w : Walk Turning = Ok (record { joint = j.0; types = j.1.types; state = begun }) in w)) >>= λ t. next t.joint t.types t.state)
while_by (Ok j) enter next = turn_by (enter j.0 j.1) j.0 j.1.types next
while_by (Err why) enter next = refl

module _ (site : Site) (test : core.Test) (head : Option Clause) (body : core.Stmts) (at : ℕ) (st : State) where
  abbrev turned : Turning → Walk State
  turned t = turn body test site at t.joint t.types t.state

  while_is : statement site (core.While test head body at) st ≡ (begun_turns body site at head st >>= turned)
  unfolding statement begun_turns turn turn_body
  while_is = while_by (joined site (stated head) (changes_any body) (point st) st) (λ joint start. entered site at joint (point st) start)
      (λ joint types begun. turn body test site at joint types begun)

  pub while_fails : (why : Stop) → Fails why (begun_turns body site at head st) → Fails why (statement site (core.While test head body at) st)
  while_fails why f = subst (λ w. Fails why w) (sym while_is) (fails_then why (begun_turns body site at head st) turned f)

  pub while_goes : (t : Turning) → begun_turns body site at head st ≡ Ok t → statement site (core.While test head body at) st ≡ turned t
  while_goes t e = while_is ∙ then_ok (begun_turns body site at head st) turned t e
