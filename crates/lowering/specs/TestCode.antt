-- The code of tests: it goes to another position where the test is so, and else goes on behind it.
--
-- Where one part decides that the whole is as asked, each part has the aim of the whole. Else each part but the last one goes behind the
-- whole where it decides, and the last one has the aim of the whole; a jump to the label behind stands at the end.
use Rattle.std.specs.Prelude.{ℕ, ◌+◌, Bool as Truth, true, false, not, List, [], ◌∷◌, ◌++◌}
use Rattle.xanadu_tree.specs.Plain as core
use Rattle.typed_core.specs.Places.{behind}
use Rattle.three_address.specs.declared.instruction.LowInstr.{LowInstr}
use Rattle.value_lowering.specs.Frames.{operand_place}
use Rattle.value_lowering.specs.OneInstruction.{Aim, branch, truth_branch, one_if, jump_if, label_if}
use Rattle.value_lowering.specs.ValueCode.{operand_at, size_at}

-- ---- leaves

-- a comparison takes its operands; any other leaf is a truth value
abbrev pub leaf_size : core.Expr → ℕ
leaf_size (core.Compare r left right) = size_at left + (size_at right + 1)
leaf_size e = size_at e + 1

abbrev pub leaf_code : (vars : ℕ) → Aim → core.Expr → List LowInstr
leaf_code vars aim (core.Compare r left right) =
    operand_at vars left 0 ++ (operand_at vars right (behind left 0)
    ++ branch aim r (operand_place vars left 0) (operand_place vars right (behind left 0)) ∷ [])
leaf_code vars aim e = operand_at vars e 0 ++ truth_branch aim (operand_place vars e 0) ∷ []

-- ---- parts of a test

-- what each part but the last is, and what the last one is
abbrev pub turn : {A : Type 0} → (others : core.Tests) → (inner last : A) → A
turn core.NoTest inner last = last
turn (core.ATest t ts) inner last = inner

-- the parts but the last are asked the reverse, where the whole is only so if all are
abbrev pub inner_on : (crossed on : Truth) → Truth
inner_on true on = not on
inner_on false on = on

-- and they go behind the whole
abbrev pub inner_to : (crossed : Truth) → (to past : ℕ) → ℕ
inner_to true to past = past
inner_to false to past = to

abbrev pub inner_aim : (crossed : Truth) → Aim → (past : ℕ) → Aim
inner_aim crossed aim past = record { on = inner_on crossed aim.on; to = inner_to crossed aim.to past }

abbrev pub turned : Aim → Aim
turned aim = record aim { on = not aim.on }

-- ---- how many instructions, by what is asked

unfoldable mutual
  pub test_size : (on : Truth) → core.Test → ℕ
  test_size on (core.Leaf e) = leaf_size e
  test_size on (core.All parts) = parts_size (inner_on on on) on parts + one_if on
  test_size on (core.Any parts) = parts_size (inner_on (not on) on) on parts + one_if (not on)
  test_size on (core.Not part) = test_size (not on) part

  pub parts_size : (inner last : Truth) → core.Tests → ℕ
  parts_size inner last core.NoTest = 0
  parts_size inner last (core.ATest t others) = test_size (turn others inner last) t + parts_size inner last others

-- the position behind parts that begin at one, and a jump
abbrev pub past_parts : (crossed on : Truth) → core.Tests → (at : ℕ) → ℕ
past_parts crossed on parts at = at + parts_size (inner_on crossed on) on parts + one_if crossed

-- ---- code, from a position on

module _ (vars : ℕ) where
  unfoldable mutual
    pub test_code : Aim → core.Test → (at : ℕ) → List LowInstr
    test_code aim (core.Leaf e) at = leaf_code vars aim e
    test_code aim (core.All parts) at =
        parts_code (inner_aim aim.on aim (past_parts aim.on aim.on parts at)) aim parts at ++ jump_if aim.on (past_parts aim.on aim.on parts at)
    test_code aim (core.Any parts) at =
        parts_code (inner_aim (not aim.on) aim (past_parts (not aim.on) aim.on parts at)) aim parts at
        ++ jump_if (not aim.on) (past_parts (not aim.on) aim.on parts at)
    test_code aim (core.Not part) at = test_code (turned aim) part at

    pub parts_code : (inner last : Aim) → core.Tests → (at : ℕ) → List LowInstr
    parts_code inner last core.NoTest at = []
    parts_code inner last (core.ATest t others) at =
        test_code (turn others inner last) t at ++ parts_code inner last others (at + test_size (turn others inner.on last.on) t)

-- ---- positions of labels

unfoldable mutual
  pub test_labels : (on : Truth) → core.Test → (at : ℕ) → List ℕ
  test_labels on (core.Leaf e) at = []
  test_labels on (core.All parts) at = parts_labels (inner_on on on) on parts at ++ label_if on (past_parts on on parts at)
  test_labels on (core.Any parts) at = parts_labels (inner_on (not on) on) on parts at ++ label_if (not on) (past_parts (not on) on parts at)
  test_labels on (core.Not part) at = test_labels (not on) part at

  pub parts_labels : (inner last : Truth) → core.Tests → (at : ℕ) → List ℕ
  parts_labels inner last core.NoTest at = []
  parts_labels inner last (core.ATest t others) at =
      test_labels (turn others inner last) t at ++ parts_labels inner last others (at + test_size (turn others inner last) t)
