-- Some instruction leads to each label of a block.
use Rattle.std.proofs.Common.{◌≡◌, ℕ, suc, ◌+◌, List, [], ◌∷◌, ◌++◌, Bool as Truth, true, false, ◌&&◌, ◌||◌, not, refl, inl, inr, ◌⊎◌}
use Rattle.xanadu_tree.specs.BodyRules.{Point, behind_block, completes_all, IsStatement, AreStatements}
use Rattle.xanadu_tree.specs.KindRules.{Setting, AreSeveral, IsTest, AreTests}
use Rattle.xanadu_tree.specs.Plain as core
use Rattle.typed_core.specs.Places.{behind}
use Rattle.three_address.specs.declared.instruction.LowInstr.{LowInstr}
use Rattle.lowering.specs.CodeBlocks.{HasJump}
use Rattle.value_lowering.specs.Frames.{Frame, operand_place}
use Rattle.lowering.specs.Lowered.{leads}
use Rattle.value_lowering.specs.OneInstruction.{Aim, truth_op, truth_branch, branch, jump, jump_if, label_if}
use Rattle.lowering.specs.StatementCode.{statement_size, is_stated, first_at, second_at, meet_at, behind_loop, unless, statement_code, block_code, statement_labels, block_labels}
use Rattle.lowering.specs.TestCode.{leaf_code, turned, inner_aim, past_parts, test_size, test_code, parts_code, test_labels, parts_labels}
use Rattle.value_lowering.specs.ValueCode.{operand_at}
use Rattle.lowering.proofs.CodeTargets.{Holds, holds_none, holds_and, holds_more, if_holds, holds_weaker}

-- ---- code with a jump to a target

abbrev leading : LowInstr → ℕ → Type 0
leading i to = (leads i.op ≡ true) × (i.target ≡ to)

abbrev AnyLeads : List LowInstr → ℕ → Type 0
AnyLeads [] to = ⊥
AnyLeads (i ∷ code) to = leading i to ⊎ AnyLeads code to

pub record Reaches (code : List LowInstr) (to : ℕ) : Type 0 where
  pub any : AnyLeads code to

any_left : (one two : List LowInstr) (to : ℕ) → AnyLeads one to → AnyLeads (one ++ two) to
any_left [] two to h = elim h [ ]
any_left (i ∷ one) two to (inl h) = inl h
any_left (i ∷ one) two to (inr h) = inr (any_left one two to h)

any_right : (one two : List LowInstr) (to : ℕ) → AnyLeads two to → AnyLeads (one ++ two) to
any_right [] two to h = h
any_right (i ∷ one) two to h = inr (any_right one two to h)

pub reach_left : (one two : List LowInstr) (to : ℕ) → Reaches one to → Reaches (one ++ two) to
reach_left one two to h = record { any = any_left one two to h.any }

pub reach_right : (one two : List LowInstr) (to : ℕ) → Reaches two to → Reaches (one ++ two) to
reach_right one two to h = record { any = any_right one two to h.any }

pub reach_first : (i : LowInstr) (code : List LowInstr) → leads i.op ≡ true → Reaches (i ∷ code) i.target
reach_first i code lead = record { any = inl (lead, refl) }

pub reach_later : (i : LowInstr) (code : List LowInstr) (to : ℕ) → Reaches code to → Reaches (i ∷ code) to
reach_later i code to h = record { any = inr h.any }

-- one instruction stands behind code
reach_end : (code : List LowInstr) (i : LowInstr) → leads i.op ≡ true → Reaches (code ++ i ∷ []) i.target
reach_end code i lead = reach_right code (i ∷ []) i.target (reach_first i [] lead)

reach_jump : (b : Truth) (to : ℕ) → b ≡ true → Reaches (jump_if b to) to
reach_jump true to e = reach_first (jump to) [] refl
reach_jump false to e = cc

all_left : (one two : List LowInstr) (labels : List ℕ) → Holds (Reaches one) labels → Holds (Reaches (one ++ two)) labels
all_left one two labels h = holds_weaker (Reaches one) (Reaches (one ++ two)) labels (λ to r. reach_left one two to r) h

all_right : (one two : List LowInstr) (labels : List ℕ) → Holds (Reaches two) labels → Holds (Reaches (one ++ two)) labels
all_right one two labels h = holds_weaker (Reaches two) (Reaches (one ++ two)) labels (λ to r. reach_right one two to r) h

all_later : (i : LowInstr) (code : List LowInstr) (labels : List ℕ) → Holds (Reaches code) labels → Holds (Reaches (i ∷ code)) labels
all_later i code labels h = holds_weaker (Reaches code) (Reaches (i ∷ code)) labels (λ to r. reach_later i code to r) h

-- labels and code, piece by piece
pub pieces_reached : (one two : List LowInstr) (labels more : List ℕ) → Holds (Reaches one) labels → Holds (Reaches two) more
    → Holds (Reaches (one ++ two)) (labels ++ more)
pieces_reached one two labels more h k =
    holds_and (Reaches (one ++ two)) labels more (all_left one two labels h) (all_right one two more k)

-- where it is found
pub found_jump : (code : List LowInstr) (to : ℕ) → AnyLeads code to → HasJump code to
found_jump [] to h = elim h [ ]
found_jump (i ∷ code) to (inl h) = record { at = 0; instr = i; there = refl; leads = h.0; to = h.1 }
found_jump (i ∷ code) to (inr h) =
    let found = found_jump code to h in
    record { at = suc found.at; instr = found.instr; there = found.there; leads = found.leads; to = found.to }

-- ---- tests: their own labels are reached, and so is the aim

pub record Aimed (code : List LowInstr) (to : ℕ) (labels : List ℕ) : Type 0 where
  pub aim : Reaches code to
  pub own : Holds (Reaches code) labels

abbrev AreSome : core.Tests → Type 0
AreSome core.NoTest = ⊥
AreSome (core.ATest t ts) = Unit {0}

several_are_some : (parts : core.Tests) → AreSeveral parts → AreSome parts
several_are_some core.NoTest h = h
several_are_some (core.ATest t ts) h = tt

truth_leads : (b : Truth) → leads (truth_op b) ≡ true
truth_leads true = refl
truth_leads false = refl

-- parts, and a jump that stands where the whole has a label behind them
group_aimed : (crossed : Truth) (code : List LowInstr) (to past : ℕ) (labels : List ℕ) → Aimed code to labels
    → Aimed (code ++ jump_if crossed past) to (labels ++ label_if crossed past)
group_aimed crossed code to past labels h = record {
  aim = reach_left _ _ _ h.aim;
  own = pieces_reached _ _ _ _ h.own (if_holds (Reaches (jump_if crossed past)) crossed past (reach_jump crossed past));
}

module _ (vars : ℕ) where
  other_aimed : (aim : Aim) (e : core.Expr) (place : ℕ) → Aimed (operand_at vars e 0 ++ truth_branch aim place ∷ []) aim.to []
  other_aimed aim e place = record { aim = reach_end (operand_at vars e 0) (truth_branch aim place) (truth_leads aim.on); own = holds_none _ }

  leaf_aimed : (aim : Aim) (e : core.Expr) → Aimed (leaf_code vars aim e) aim.to []
  leaf_aimed aim (core.Compare r left right) = record {
    aim = reach_right (operand_at vars left 0) _ aim.to
        (reach_end (operand_at vars right (behind left 0)) (branch aim r (operand_place vars left 0) (operand_place vars right (behind left 0))) refl);
    own = holds_none _;
  }
  leaf_aimed aim (core.Int n) = other_aimed aim (core.Int n) _
  leaf_aimed aim (core.Bool b) = other_aimed aim (core.Bool b) _
  leaf_aimed aim (core.Var x) = other_aimed aim (core.Var x) _
  leaf_aimed aim (core.Neg e) = other_aimed aim (core.Neg e) _
  leaf_aimed aim (core.Chain first rest) = other_aimed aim (core.Chain first rest) _
  leaf_aimed aim (core.Index array index at) = other_aimed aim (core.Index array index at) _
  leaf_aimed aim (core.Len array) = other_aimed aim (core.Len array) _
  leaf_aimed aim (core.Call fun args at) = other_aimed aim (core.Call fun args at) _
  leaf_aimed aim (core.Make number args at) = other_aimed aim (core.Make number args at) _
  leaf_aimed aim (core.New element len fill at) = other_aimed aim (core.New element len fill at) _

  module _ (set : Setting) (visible : List ℕ) where
    mutual
      unfolding test_code test_labels IsTest

      pub test_aimed : (aim : Aim) (t : core.Test) (at : ℕ) → IsTest set visible t → Aimed (test_code vars aim t at) aim.to (test_labels aim.on t at)
      test_aimed aim (core.Leaf e) at is = leaf_aimed aim e
      test_aimed aim (core.All parts) at is =
          group_aimed aim.on _ _ _ _
          (parts_aimed (inner_aim aim.on aim (past_parts aim.on aim.on parts at)) aim parts at (several_are_some parts is.0) is.1)
      test_aimed aim (core.Any parts) at is =
          group_aimed (not aim.on) _ _ _ _
          (parts_aimed (inner_aim (not aim.on) aim (past_parts (not aim.on) aim.on parts at)) aim parts at (several_are_some parts is.0) is.1)
      test_aimed aim (core.Not part) at is = test_aimed (turned aim) part at is

      -- the last part has the aim of the whole
      pub parts_aimed : (inner last : Aim) (parts : core.Tests) (at : ℕ) → AreSome parts → AreTests set visible parts
          → Aimed (parts_code vars inner last parts at) last.to (parts_labels inner.on last.on parts at)
      parts_aimed inner last core.NoTest at some are = absurd some
      parts_aimed inner last (core.ATest t core.NoTest) at some are =
          let one = test_aimed last t at are.0 in
          record { aim = reach_left _ _ _ one.aim; own = pieces_reached _ _ _ _ one.own (holds_none _) }
      parts_aimed inner last (core.ATest t (core.ATest u ts)) at some are =
          let one = test_aimed inner t at are.0 in
          let others = parts_aimed inner last (core.ATest u ts) (at + test_size inner.on t) tt are.1 in
          record { aim = reach_right _ _ _ others.aim; own = pieces_reached _ _ _ _ one.own others.own }

-- ---- statements

-- the label behind branches is reached by the first one or by the second
meet_reached : (a b stated : Truth) (to : ℕ) (middle : List LowInstr) → (a || (stated && b)) ≡ true
    → Reaches (jump_if a to ++ (middle ++ jump_if (b && (a || (stated && b))) to)) to
meet_reached true b stated to middle e = reach_left _ _ _ (reach_jump true to refl)
meet_reached false true true to middle e = reach_right (jump_if false to) _ _ (reach_right middle _ _ (reach_jump true to refl))
meet_reached false true false to middle e = cc
meet_reached false false true to middle e = cc
meet_reached false false false to middle e = cc

module _ (T A B : List LowInstr) (other to : ℕ) (tl al bl : List ℕ) where
  abbrev if_code : (a b stated : Truth) → List LowInstr
  if_code a b stated = T ++ (A ++ (jump_if a to ++ (B ++ jump_if (b && (a || (stated && b))) to)))

  if_reached : (a b stated : Truth) → Aimed T other tl → Holds (Reaches A) al → Holds (Reaches B) bl
      → Holds (Reaches (if_code a b stated)) (tl ++ (al ++ (other ∷ (bl ++ label_if (a || (stated && b)) to))))
  if_reached a b stated tested first second =
      let all = Reaches (if_code a b stated) in
      holds_and all _ _ (all_left T _ tl tested.own) (holds_and all _ _ (all_right T _ al (all_left A _ al first))
      (holds_more all _ _ (reach_left T _ other tested.aim) (holds_and all _ _
      (all_right T _ bl (all_right A _ bl (all_right (jump_if a to) _ bl (all_left B _ bl second))))
      (if_holds all (a || (stated && b)) to (λ e. reach_right T _ to (reach_right A _ to (meet_reached a b stated to B e)))))))

module _ (T A : List LowInstr) (other : ℕ) (tl al : List ℕ) where
  loop_reached : (head : ℕ) (c : Truth) → Aimed T other tl → Holds (Reaches A) al
      → Holds (Reaches (jump head ∷ (T ++ (A ++ jump_if c head)))) (head ∷ (tl ++ (al ++ other ∷ [])))
  loop_reached head c tested turn =
      let all = Reaches (jump head ∷ (T ++ (A ++ jump_if c head))) in
      holds_more all _ _ (reach_first (jump head) _ refl) (all_later (jump head) _ _ (holds_and (Reaches (T ++ (A ++ jump_if c head))) tl _ (all_left T _ tl tested.own)
      (holds_and (Reaches (T ++ (A ++ jump_if c head))) al _ (all_right T _ al (all_left A _ al turn))
      (holds_more (Reaches (T ++ (A ++ jump_if c head))) other [] (reach_left T _ other tested.aim) (holds_none _)))))

module _ (frame : Frame) (set : Setting) where
  mutual
    unfolding statement_code statement_labels IsStatement

    pub statement_reached : (s : core.Stmt) (at : ℕ) (before after : Point) → IsStatement set before s after
        → Holds (Reaches (statement_code frame s at)) (statement_labels s at)
    statement_reached (core.Set x e) at before after is = holds_none _
    statement_reached (core.Split xs e a) at before after is = holds_none _
    statement_reached (core.Store array index e a) at before after is = holds_none _
    statement_reached (core.Do call) at before after is = holds_none _
    statement_reached (core.Print e) at before after is = holds_none _
    statement_reached (core.If test on_true on_false join a) at before after is =
        if_reached _ _ _ _ (meet_at test on_true on_false join at) _ _ _ (completes_all on_true) (completes_all on_false) (is_stated join)
        (test_aimed _ set before.visible (unless (second_at test on_true at)) test at is.2)
        (block_reached on_true (first_at test at) before is.0 is.3)
        (block_reached on_false (second_at test on_true at) (behind_block before is.0) is.1 is.4)
    statement_reached (core.While test head body a) at before after is =
        loop_reached _ _ _ _ _ (suc at) (completes_all body)
        (test_aimed _ set before.visible (unless (behind_loop test body at)) test (suc at) is.2)
        (block_reached body (first_at test (suc at)) is.0 is.1 is.4)
    statement_reached (core.Return value a) at before after is = holds_none _

    pub block_reached : (ss : core.Stmts) (at : ℕ) (before after : Point) → AreStatements set before ss after
        → Holds (Reaches (block_code frame ss at)) (block_labels ss at)
    block_reached core.NoStmt at before after is = holds_none _
    block_reached (core.AStmt s ss) at before after is =
        pieces_reached _ _ _ _ (statement_reached s at before is.0 is.1) (block_reached ss (at + statement_size s) is.0 after is.3)
