-- The labels of a block rise, are behind its start and no further than its end; where control does not go on behind the block, they are
-- before its end.
use Rattle.std.proofs.Common.{◌≡◌, ℕ, suc, ◌+◌, ◌≤◌, List, [], ◌∷◌, ◌++◌, Bool as Truth, true, false, ◌&&◌, ◌||◌, not, Option, Some, None, refl, arith}
use Rattle.xanadu_tree.specs.BodyRules.{completes, completes_all}
use Rattle.xanadu_tree.specs.Plain as core
use Rattle.lowering.specs.CodeBlocks.{Spaced}
use Rattle.value_lowering.specs.OneInstruction.{one_if, label_if}
use Rattle.lowering.specs.StatementCode.{statement_size, block_size, return_size, is_stated, first_at, second_at, meet_at, behind_loop, statement_labels, block_labels}
use Rattle.lowering.specs.TestCode.{inner_on, past_parts, test_size, parts_size, test_labels, parts_labels}

pub record Rise (least : ℕ) (labels : List ℕ) (most : ℕ) : Type 0 where
  pub is : Spaced least labels most

spaced_and : (a b c d : ℕ) (one two : List ℕ) → Spaced a one b → b ≤ c → Spaced c two d → Spaced a (one ++ two) d
unfolding Spaced
spaced_and a b c d [] two h le k = spaced_from a c d two (omega (arith, h, le)) k
  where
    spaced_from : (a c d : ℕ) (two : List ℕ) → a ≤ c → Spaced c two d → Spaced a two d
    spaced_from a c d [] le k = omega (arith, le, k)
    spaced_from a c d (x ∷ two) le k = (omega (arith, le, k.0), k.1)
spaced_and a b c d (x ∷ one) two h le k = (h.0, spaced_and (suc x) b c d one two h.1 le k)

spaced_to : (a b c : ℕ) (labels : List ℕ) → Spaced a labels b → b ≤ c → Spaced a labels c
unfolding Spaced
spaced_to a b c [] h le = omega (arith, h, le)
spaced_to a b c (x ∷ labels) h le = (h.0, spaced_to (suc x) b c labels h.1 le)

rise_and : (a b c d : ℕ) (one two : List ℕ) → Rise a one b → b ≤ c → Rise c two d → Rise a (one ++ two) d
rise_and a b c d one two h le k = record { is = spaced_and a b c d one two h.is le k.is }

rise_to : (a b c : ℕ) (labels : List ℕ) → Rise a labels b → b ≤ c → Rise a labels c
rise_to a b c labels h le = record { is = spaced_to a b c labels h.is le }

rise_none : (a b : ℕ) → a ≤ b → Rise a [] b
unfolding Spaced
rise_none a b le = record { is = le }

rise_more : (a x b : ℕ) (labels : List ℕ) → a ≤ x → Rise (suc x) labels b → Rise a (x ∷ labels) b
unfolding Spaced
rise_more a x b labels le h = record { is = (le, h.is) }

one_at_most : (b : Truth) → one_if b ≤ 1
one_at_most true = omega arith
one_at_most false = omega arith

-- ---- tests

-- behind parts, a label that stands where the whole jumps
group_rise : (crossed : Truth) (low parts past next : ℕ) (labels : List ℕ) → past ≡ parts + one_if crossed → next ≡ past
    → Rise low labels (suc parts) → Rise low (labels ++ label_if crossed past) (suc next)
group_rise true low parts past next labels is same h =
    rise_and _ (suc parts) past _ labels _ h (omega (arith, is)) (rise_more _ past _ [] (omega arith) (rise_none _ _ (omega (arith, same))))
group_rise false low parts past next labels is same h =
    rise_and _ (suc parts) (suc parts) _ labels [] h (omega arith) (rise_none _ _ (omega (arith, is, same)))

mutual
  unfolding test_labels test_size

  pub test_rise : (on : Truth) (t : core.Test) (at next : ℕ) → next ≡ at + test_size on t → Rise (suc at) (test_labels on t at) (suc next)
  test_rise on (core.Leaf e) at next is = rise_none _ _ (omega (arith, is))
  test_rise on (core.All parts) at next is =
      group_rise on (suc at) (at + parts_size (inner_on on on) on parts) (past_parts on on parts at) next _ refl (omega (arith, is))
      (parts_rise (inner_on on on) on parts at (at + parts_size (inner_on on on) on parts) refl)
  test_rise on (core.Any parts) at next is =
      group_rise (not on) (suc at) (at + parts_size (inner_on (not on) on) on parts) (past_parts (not on) on parts at) next _ refl (omega (arith, is))
      (parts_rise (inner_on (not on) on) on parts at (at + parts_size (inner_on (not on) on) on parts) refl)
  test_rise on (core.Not part) at next is = test_rise (not on) part at next is

  pub parts_rise : (inner last : Truth) (parts : core.Tests) (at next : ℕ) → next ≡ at + parts_size inner last parts
      → Rise (suc at) (parts_labels inner last parts at) (suc next)
  parts_rise inner last core.NoTest at next is = rise_none _ _ (omega (arith, is))
  parts_rise inner last (core.ATest t core.NoTest) at next is =
      rise_and _ (suc (at + test_size last t)) (suc (at + test_size last t)) _ _ [] (test_rise last t at (at + test_size last t) refl) (omega arith)
      (rise_none _ _ (omega (arith, is)))
  parts_rise inner last (core.ATest t (core.ATest u ts)) at next is =
      rise_and _ (suc (at + test_size inner t)) (suc (at + test_size inner t)) _ _ _ (test_rise inner t at (at + test_size inner t) refl) (omega arith)
      (parts_rise inner last (core.ATest u ts) (at + test_size inner t) next (omega (arith, is)))

-- ---- statements

-- behind the second branch, which begins at `second` and has so many instructions; of `high` only the bound matters
meet_rise : (a b stated : Truth) (low end to next : ℕ) (labels : List ℕ) → to ≡ end + one_if (b && (a || (stated && b))) → next ≡ to
    → Rise low labels (end + one_if b) → Rise low (labels ++ label_if (a || (stated && b)) to) (next + one_if (a || b))
meet_rise true true stated low end to next labels is same h =
    rise_and _ (end + 1) to _ labels _ h (omega (arith, is)) (rise_more _ to _ [] (omega arith) (rise_none _ _ (omega (arith, same))))
meet_rise true false stated low end to next labels is same h =
    rise_and _ (end + 0) to _ labels _ h (omega (arith, is)) (rise_more _ to _ [] (omega arith) (rise_none _ _ (omega (arith, same))))
meet_rise false true true low end to next labels is same h =
    rise_and _ (end + 1) to _ labels _ h (omega (arith, is)) (rise_more _ to _ [] (omega arith) (rise_none _ _ (omega (arith, same))))
meet_rise false true false low end to next labels is same h =
    rise_and _ (end + 1) (end + 1) _ labels [] h (omega arith) (rise_none _ _ (omega (arith, is, same)))
meet_rise false false true low end to next labels is same h =
    rise_and _ (end + 0) (end + 0) _ labels [] h (omega arith) (rise_none _ _ (omega (arith, is, same)))
meet_rise false false false low end to next labels is same h =
    rise_and _ (end + 0) (end + 0) _ labels [] h (omega arith) (rise_none _ _ (omega (arith, is, same)))

-- where labels are none
none_rise : (at next : ℕ) → at ≤ next → Rise (suc at) [] (next + 1)
none_rise at next le = rise_none _ _ (omega (arith, le))

return_rise : (value : Option core.Expr) (at next : ℕ) → next ≡ at + return_size value → Rise (suc at) [] (next + 0)
return_rise None at next is = rise_none _ _ (omega (arith, is))
return_rise (Some e) at next is = rise_none _ _ (omega (arith, is))

mutual
  unfolding statement_labels statement_size

  pub statement_rise : (s : core.Stmt) (at next : ℕ) → next ≡ at + statement_size s → Rise (suc at) (statement_labels s at) (next + one_if (completes s))
  statement_rise (core.Set x e) at next is = none_rise _ _ (omega (arith, is))
  statement_rise (core.Split xs e a) at next is = none_rise _ _ (omega (arith, is))
  statement_rise (core.Store array index e a) at next is = none_rise _ _ (omega (arith, is))
  statement_rise (core.Do call) at next is = none_rise _ _ (omega (arith, is))
  statement_rise (core.Print e) at next is = none_rise _ _ (omega (arith, is))
  statement_rise (core.If test on_true on_false join a) at next is =
      rise_and _ (suc (first_at test at)) (suc (first_at test at)) _ _ _ (test_rise false test at (first_at test at) refl) (omega arith)
      (rise_and _ (first_at test at + block_size on_true + one_if (completes_all on_true)) (second_at test on_true at) _ _ _
      (block_rise on_true (first_at test at) (first_at test at + block_size on_true) refl) (omega arith)
      (rise_more _ (second_at test on_true at) _ _ (omega arith)
      (meet_rise (completes_all on_true) (completes_all on_false) (is_stated join) _ (second_at test on_true at + block_size on_false)
      (meet_at test on_true on_false join at) next _ refl (omega (arith, is))
      (block_rise on_false (second_at test on_true at) (second_at test on_true at + block_size on_false) refl))))
  statement_rise (core.While test head body a) at next is =
      rise_more _ (suc at) _ _ (omega arith)
      (rise_and _ (suc (first_at test (suc at))) (suc (first_at test (suc at))) _ _ _ (test_rise false test (suc at) (first_at test (suc at)) refl) (omega arith)
      (rise_and _ (first_at test (suc at) + block_size body + one_if (completes_all body)) (behind_loop test body at) _ _ _
      (block_rise body (first_at test (suc at)) (first_at test (suc at) + block_size body) refl) (omega arith)
      (rise_more _ (behind_loop test body at) _ [] (omega arith) (rise_none _ _ (omega (arith, is))))))
  statement_rise (core.Return value a) at next is = return_rise value at next is

  pub block_rise : (ss : core.Stmts) (at next : ℕ) → next ≡ at + block_size ss → Rise (suc at) (block_labels ss at) (next + one_if (completes_all ss))
  block_rise core.NoStmt at next is = none_rise _ _ (omega (arith, is))
  block_rise (core.AStmt s core.NoStmt) at next is =
      rise_and _ (at + statement_size s + one_if (completes s)) (at + statement_size s + one_if (completes s)) _ _ []
      (statement_rise s at (at + statement_size s) refl) (omega arith) (rise_none _ _ (omega (arith, is)))
  block_rise (core.AStmt s (core.AStmt t ts)) at next is =
      rise_and _ (at + statement_size s + one_if (completes s)) (suc (at + statement_size s)) _ _ _
      (statement_rise s at (at + statement_size s) refl) (omega (arith, one_at_most (completes s)))
      (block_rise (core.AStmt t ts) (at + statement_size s) next (omega (arith, is)))
