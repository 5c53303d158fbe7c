-- Each target of a block is one of its labels.
use Rattle.std.proofs.Common.{◌≡◌, ℕ, suc, ◌+◌, List, [], ◌∷◌, ◌++◌, length, Bool as Truth, true, false, ◌&&◌, ◌||◌, Option, Some, None, refl, sym, ◌∙◌, inl, inr, subst, ◌⊎◌, not}
use Rattle.xanadu_tree.specs.BodyRules.{completes_all}
use Rattle.xanadu_tree.specs.KindRules.{IsAmong}
use Rattle.xanadu_tree.specs.Plain as core
use Rattle.typed_core.specs.Places.{behind}
use Rattle.three_address.specs.declared.instruction.LowInstr.{LowInstr}
use Rattle.value_lowering.specs.Frames.{Frame, operand_place}
use Rattle.lowering.specs.Lowered.{leads}
use Rattle.value_lowering.specs.OneInstruction.{Aim, branch, jump_if, label_if}
use Rattle.lowering.specs.StatementCode.{statement_size, meet, jumps, first_at, second_at, meet_at, behind_loop, unless, return_code, statement_code, block_code, statement_labels, block_labels}
use Rattle.lowering.specs.TestCode.{leaf_code, turned, inner_aim, inner_to, past_parts, test_size, test_code, parts_code, test_labels, parts_labels}
use Rattle.value_lowering.specs.ValueCode.{operand_at}
use Rattle.lowering.proofs.StraightCode.{Each, each_and, each_weaker, GoesOn, Straight, value_straight, operand_straight}

-- ---- truth values

pub false_true : {A : Type 0} → false ≡ true → A
false_true e = cc

pub either_left : (a b : Truth) → a ≡ true → (a || b) ≡ true
either_left true b e = refl
either_left false b e = cc

pub both_right : (a b : Truth) → (a && b) ≡ true → b ≡ true
both_right true b e = e
both_right false b e = cc

-- ---- what holds of each of some labels

pub record Holds (P : ℕ → Type 0) (labels : List ℕ) : Type 0 where
  pub each : (label : ℕ) → IsAmong labels label → P label

pub among_left : (one two : List ℕ) (x : ℕ) → IsAmong one x → IsAmong (one ++ two) x
among_left [] two x h = elim h [ ]
among_left (y ∷ one) two x (inl h) = inl h
among_left (y ∷ one) two x (inr h) = inr (among_left one two x h)

pub among_right : (one two : List ℕ) (x : ℕ) → IsAmong two x → IsAmong (one ++ two) x
among_right [] two x h = h
among_right (y ∷ one) two x h = inr (among_right one two x h)

among_either : (one two : List ℕ) (x : ℕ) → IsAmong (one ++ two) x → IsAmong one x ⊎ IsAmong two x
among_either [] two x h = inr h
among_either (y ∷ one) two x (inl h) = inl (inl h)
among_either (y ∷ one) two x (inr h) = elim (among_either one two x h) [
  | inl k ↦ inl (inr k)
  | inr k ↦ inr k
]

module _ (P : ℕ → Type 0) where
  pub holds_left : (one two : List ℕ) → Holds P (one ++ two) → Holds P one
  holds_left one two h = record { each = λ x k. h.each x (among_left one two x k) }

  pub holds_right : (one two : List ℕ) → Holds P (one ++ two) → Holds P two
  holds_right one two h = record { each = λ x k. h.each x (among_right one two x k) }

  pub holds_first : (x : ℕ) (labels : List ℕ) → Holds P (x ∷ labels) → P x
  holds_first x labels h = h.each x (inl refl)

  pub holds_rest : (x : ℕ) (labels : List ℕ) → Holds P (x ∷ labels) → Holds P labels
  holds_rest x labels h = record { each = λ y k. h.each y (inr k) }

  -- a label that stands where something is so
  pub holds_if : (b : Truth) (at : ℕ) → Holds P (label_if b at) → b ≡ true → P at
  holds_if true at h e = h.each at (inl refl)
  holds_if false at h e = false_true e

  pub holds_none : Holds P []
  holds_none = record { each = λ x k. elim k [ ] }

  pub holds_and : (one two : List ℕ) → Holds P one → Holds P two → Holds P (one ++ two)
  holds_and one two h k = record {
    each = λ x m. elim (among_either one two x m) [
      | inl a ↦ h.each x a
      | inr b ↦ k.each x b
    ];
  }

  pub holds_more : (x : ℕ) (labels : List ℕ) → P x → Holds P labels → Holds P (x ∷ labels)
  holds_more x labels p h = record {
    each = λ y m. elim m [
      | inl same ↦ subst P (sym same) p
      | inr k ↦ h.each y k
    ];
  }

  -- where it stands, it is so
  pub if_holds : (b : Truth) (at : ℕ) → (b ≡ true → P at) → Holds P (label_if b at)
  if_holds true at f = holds_more at [] (f refl) holds_none
  if_holds false at f = holds_none

pub holds_weaker : (P Q : ℕ → Type 0) (labels : List ℕ) → ((x : ℕ) → P x → Q x) → Holds P labels → Holds Q labels
holds_weaker P Q labels f h = record { each = λ x k. f x (h.each x k) }

-- ---- code that leads only to positions of a kind

pub record LeadsTo (P : ℕ → Type 0) (code : List LowInstr) : Type 0 where
  pub each : Each (λ i. leads i.op ≡ true → P i.target) code

pub leads_and : (P : ℕ → Type 0) (one two : List LowInstr) → LeadsTo P one → LeadsTo P two → LeadsTo P (one ++ two)
leads_and P one two h k = record { each = each_and (λ i. leads i.op ≡ true → P i.target) one two h.each k.each }

pub leads_more : (P : ℕ → Type 0) (i : LowInstr) (code : List LowInstr) → (leads i.op ≡ true → P i.target) → LeadsTo P code → LeadsTo P (i ∷ code)
leads_more P i code f h = record { each = (f, h.each) }

pub leads_one : (P : ℕ → Type 0) (i : LowInstr) → (leads i.op ≡ true → P i.target) → LeadsTo P (i ∷ [])
leads_one P i f = record { each = (f, tt) }

pub leads_none : (P : ℕ → Type 0) → LeadsTo P []
leads_none P = record { each = tt }

pub straight_leads : (P : ℕ → Type 0) (code : List LowInstr) → Straight code → LeadsTo P code
straight_leads P code h =
    record { each = each_weaker (λ i. GoesOn i.op) (λ i. leads i.op ≡ true → P i.target) code (λ i g e. false_true (sym g.0 ∙ e)) h.each }

-- code without jumps, and one instruction behind it
leads_end : (P : ℕ → Type 0) (code : List LowInstr) (i : LowInstr) → Straight code → (leads i.op ≡ true → P i.target) → LeadsTo P (code ++ i ∷ [])
leads_end P code i h f = leads_and P code (i ∷ []) (straight_leads P code h) (leads_one P i f)

-- a jump that stands only where the label does
pub jump_leads : (P : ℕ → Type 0) (b c : Truth) (to : ℕ) → (b ≡ true → c ≡ true) → Holds P (label_if c to) → LeadsTo P (jump_if b to)
jump_leads P true c to f h = leads_one P _ (λ e. holds_if P c to h (f refl))
jump_leads P false c to f h = leads_none P

jump_to : (P : ℕ → Type 0) (b : Truth) (to : ℕ) → P to → LeadsTo P (jump_if b to)
jump_to P true to p = leads_one P _ (λ e. p)
jump_to P false to p = leads_none P

inner_holds : (P : ℕ → Type 0) (crossed : Truth) (to past : ℕ) → P to → Holds P (label_if crossed past) → P (inner_to crossed to past)
inner_holds P true to past p h = h.each past (inl refl)
inner_holds P false to past p h = p

-- ---- tests

module _ (vars : ℕ) (P : ℕ → Type 0) where
  other_leaf_leads : (aim : Aim) (e : core.Expr) (i : LowInstr) → P aim.to → i.target ≡ aim.to → LeadsTo P (operand_at vars e 0 ++ i ∷ [])
  other_leaf_leads aim e i p same = leads_end P _ i (operand_straight vars e 0) (λ lead. subst P (sym same) p)

  pub leaf_leads : (aim : Aim) (e : core.Expr) → P aim.to → LeadsTo P (leaf_code vars aim e)
  leaf_leads aim (core.Compare r left right) p =
      leads_and P _ _ (straight_leads P _ (operand_straight vars left 0))
      (leads_end P _ (branch aim r (operand_place vars left 0) (operand_place vars right (behind left 0))) (operand_straight vars right (behind left 0)) (λ lead. p))
  leaf_leads aim (core.Int n) p = other_leaf_leads aim (core.Int n) _ p refl
  leaf_leads aim (core.Bool b) p = other_leaf_leads aim (core.Bool b) _ p refl
  leaf_leads aim (core.Var x) p = other_leaf_leads aim (core.Var x) _ p refl
  leaf_leads aim (core.Neg e) p = other_leaf_leads aim (core.Neg e) _ p refl
  leaf_leads aim (core.Chain first rest) p = other_leaf_leads aim (core.Chain first rest) _ p refl
  leaf_leads aim (core.Index array index at) p = other_leaf_leads aim (core.Index array index at) _ p refl
  leaf_leads aim (core.Len array) p = other_leaf_leads aim (core.Len array) _ p refl
  leaf_leads aim (core.Call fun args at) p = other_leaf_leads aim (core.Call fun args at) _ p refl
  leaf_leads aim (core.Make number args at) p = other_leaf_leads aim (core.Make number args at) _ p refl
  leaf_leads aim (core.New element len fill at) p = other_leaf_leads aim (core.New element len fill at) _ p refl

  mutual
    unfolding test_code test_labels

    pub test_leads : (aim : Aim) (t : core.Test) (at : ℕ) → P aim.to → Holds P (test_labels aim.on t at) → LeadsTo P (test_code vars aim t at)
    test_leads aim (core.Leaf e) at p h = leaf_leads aim e p
    test_leads aim (core.All parts) at p h =
        leads_and P _ _ (parts_leads (inner_aim aim.on aim (past_parts aim.on aim.on parts at)) aim parts at
        (inner_holds P aim.on aim.to (past_parts aim.on aim.on parts at) p (holds_right P _ _ h)) p (holds_left P _ _ h))
        (jump_leads P aim.on aim.on _ (λ e. e) (holds_right P _ _ h))
    test_leads aim (core.Any parts) at p h =
        leads_and P _ _ (parts_leads (inner_aim (not aim.on) aim (past_parts (not aim.on) aim.on parts at)) aim parts at
        (inner_holds P (not aim.on) aim.to (past_parts (not aim.on) aim.on parts at) p (holds_right P _ _ h)) p (holds_left P _ _ h))
        (jump_leads P (not aim.on) (not aim.on) _ (λ e. e) (holds_right P _ _ h))
    test_leads aim (core.Not part) at p h = test_leads (turned aim) part at p h

    pub parts_leads : (inner last : Aim) (parts : core.Tests) (at : ℕ) → P inner.to → P last.to → Holds P (parts_labels inner.on last.on parts at)
        → LeadsTo P (parts_code vars inner last parts at)
    parts_leads inner last core.NoTest at p q h = leads_none P
    parts_leads inner last (core.ATest t core.NoTest) at p q h = leads_and P _ _ (test_leads last t at q (holds_left P _ _ h)) (leads_none P)
    parts_leads inner last (core.ATest t (core.ATest u ts)) at p q h =
        leads_and P _ _ (test_leads inner t at p (holds_left P _ _ h))
        (parts_leads inner last (core.ATest u ts) (at + test_size inner.on t) p q (holds_right P _ _ h))

-- ---- statements

module _ (frame : Frame) (P : ℕ → Type 0) where
  return_leads : (value : Option core.Expr) → LeadsTo P (return_code (length frame.kinds) value)
  return_leads None = leads_more P _ _ (λ e. false_true e) (leads_one P _ (λ e. false_true e))
  return_leads (Some e) = leads_end P _ _ (operand_straight _ e 0) (λ lead. false_true lead)

  mutual
    unfolding statement_code statement_labels

    pub statement_leads : (s : core.Stmt) (at : ℕ) → Holds P (statement_labels s at) → LeadsTo P (statement_code frame s at)
    statement_leads (core.Set x e) at h = straight_leads P _ (value_straight _ e 0 x)
    statement_leads (core.Split xs e a) at h = leads_end P _ _ (operand_straight _ e 0) (λ lead. false_true lead)
    statement_leads (core.Store array index e a) at h =
        leads_and P _ _ (straight_leads P _ (operand_straight _ array 0)) (leads_and P _ _ (straight_leads P _ (operand_straight _ index _))
        (leads_end P _ _ (operand_straight _ e _) (λ lead. false_true lead)))
    statement_leads (core.Do call) at h = straight_leads P _ (value_straight _ call 0 _)
    statement_leads (core.Print e) at h = leads_end P _ _ (operand_straight _ e 0) (λ lead. false_true lead)
    statement_leads (core.If test on_true on_false join a) at h =
        let second = holds_right P _ _ (holds_right P _ _ h) in
        let behind = holds_rest P _ _ second in
        let met : Holds P (label_if (meet on_true on_false join) (meet_at test on_true on_false join at)) = holds_right P _ _ behind in
        leads_and P _ _ (test_leads _ P (unless (second_at test on_true at)) test at (holds_first P _ _ second) (holds_left P _ _ h))
        (leads_and P _ _ (block_leads on_true (first_at test at) (holds_left P _ _ (holds_right P _ _ h)))
        (leads_and P _ _ (jump_leads P (completes_all on_true) (meet on_true on_false join) _ (λ e. either_left _ _ e) met)
        (leads_and P _ _ (block_leads on_false (second_at test on_true at) (holds_left P _ _ behind))
        (jump_leads P (jumps on_true on_false join) (meet on_true on_false join) _ (λ e. both_right (completes_all on_false) _ e) met))))
    statement_leads (core.While test head body a) at h =
        let inner = holds_rest P _ _ h in
        let later = holds_right P _ _ inner in
        leads_more P _ _ (λ lead. holds_first P _ _ h)
        (leads_and P _ _ (test_leads _ P (unless (behind_loop test body at)) test (suc at) (holds_first P _ _ (holds_right P _ _ later)) (holds_left P _ _ inner))
        (leads_and P _ _ (block_leads body (first_at test (suc at)) (holds_left P _ _ later)) (jump_to P (completes_all body) _ (holds_first P _ _ h))))
    statement_leads (core.Return value a) at h = return_leads value

    pub block_leads : (ss : core.Stmts) (at : ℕ) → Holds P (block_labels ss at) → LeadsTo P (block_code frame ss at)
    block_leads core.NoStmt at h = leads_none P
    block_leads (core.AStmt s ss) at h =
        leads_and P _ _ (statement_leads s at (holds_left P _ _ h)) (block_leads ss (at + statement_size s) (holds_right P _ _ h))
