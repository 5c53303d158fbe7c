-- Turns of the loops over the parts of a test, of their parts.
use Rattle.std.proofs.Common.{◌≡◌, ℕ, suc, ◌+◌, ◌-◌, ◌<◌, Bool, true, false, List, [], ◌∷◌, ◌++◌, map, drop, length, get_or, cond, ◌==◌, refl, sym, ap, ◌∙◌, subst, append_assoc, length-drop, arith}
use Rattle.std.proofs.lemmas.Bool.Decides.{nat_tests}
use Rattle.std.proofs.lemmas.List.{at_drop_more}
use Rattle.xanadu_tree.specs.declared.stmt.Test.{Test}
use Rattle.xanadu_tree.specs.PlainOf.{plain_test, to_tests}
use Rattle.three_address.specs.declared.instruction.LowInstr.{LowInstr}
use Rattle.lowering.specs.Emitted.{turn_of, aim_of}
use Rattle.lowering.specs.TestCode.{turn, test_size, parts_size, test_code, parts_code, test_labels, parts_labels}

pub turn_is : {A : Type 0} (xs : List Test) (many : ℕ) (inner last : A) → many ≡ length xs → turn (to_tests (map plain_test xs)) inner last ≡ turn_of many inner last
turn_is [] many inner last e = ap (λ b. cond b last inner) (none many e)
  where
    none : (many : ℕ) → many ≡ 0 → true ≡ (many == 0)
    none many e = grind (arith, nat_tests)
turn_is (x ∷ xs) many inner last e = ap (λ b. cond b last inner) (some many (length xs) e)
  where
    some : (many n : ℕ) → many ≡ suc n → false ≡ (many == 0)
    some many n e = grind (arith, nat_tests)

size_turn : (parts : List Test) (i : ℕ) (d : Test) (inner last : Bool) (many : ℕ) → i < length parts → many ≡ length (drop (i + 1) parts)
    → parts_size inner last (to_tests (map plain_test (drop i parts)))
    ≡ test_size (turn_of many inner last) (plain_test (get_or parts i d)) + parts_size inner last (to_tests (map plain_test (drop (i + 1) parts)))
unfolding test_size
size_turn parts i d inner last many lt e =
    at_drop_more (λ xs. parts_size inner last (to_tests (map plain_test xs))) parts i d lt
    ∙ ap (λ on. test_size on (plain_test (get_or parts i d)) + parts_size inner last (to_tests (map plain_test (drop (i + 1) parts))))
    (turn_is (drop (i + 1) parts) many inner last e)

pub size_step : (parts : List Test) (i : ℕ) (p : Test) (inner last asked : Bool) (many size one next whole : ℕ) → i < length parts → p ≡ get_or parts i p
    → many ≡ length parts - i → asked ≡ turn_of (many - 1) inner last → one ≡ test_size asked (plain_test p) → next ≡ size + one
    → size + parts_size inner last (to_tests (map plain_test (drop i parts))) ≡ whole
    → next + parts_size inner last (to_tests (map plain_test (drop (i + 1) parts))) ≡ whole
size_step parts i p inner last asked many size one next whole lt k count a o n inv =
    let found = size_turn parts i p inner last (many - 1) lt (omega (arith, count, length-drop (i + 1) parts)) in
    let same : test_size (turn_of (many - 1) inner last) (plain_test (get_or parts i p)) ≡ one =
    ap (λ on. test_size on (plain_test (get_or parts i p))) (sym a) ∙ ap (λ q. test_size asked (plain_test q)) (sym k) ∙ sym o in
    omega (arith, found, same, n, inv)

-- ---- code and labels

aim_turn : (b : Bool) (inner last : Bool) (inner_to last_to : ℕ)
    → cond b (aim_of last last_to) (aim_of inner inner_to) ≡ aim_of (cond b last inner) (cond b last_to inner_to)
aim_turn true inner last inner_to last_to = refl
aim_turn false inner last inner_to last_to = refl

module _ (vars : ℕ) (parts : List Test) (i : ℕ) (d : Test) (inner last : Bool) (inner_to last_to here many : ℕ) (lt : i < length parts)
    (e : many ≡ length (drop (i + 1) parts)) where
  code_turn : parts_code vars (aim_of inner inner_to) (aim_of last last_to) (to_tests (map plain_test (drop i parts))) here
      ≡ test_code vars (aim_of (turn_of many inner last) (turn_of many inner_to last_to)) (plain_test (get_or parts i d)) here
      ++ parts_code vars (aim_of inner inner_to) (aim_of last last_to) (to_tests (map plain_test (drop (i + 1) parts)))
      (here + test_size (turn_of many inner last) (plain_test (get_or parts i d)))
  unfolding test_code
  code_turn =
      at_drop_more (λ xs. parts_code vars (aim_of inner inner_to) (aim_of last last_to) (to_tests (map plain_test xs)) here) parts i d lt
      ∙ ap (λ aim. test_code vars aim (plain_test (get_or parts i d)) here
      ++ parts_code vars (aim_of inner inner_to) (aim_of last last_to) (to_tests (map plain_test (drop (i + 1) parts)))
      (here + test_size (turn (to_tests (map plain_test (drop (i + 1) parts))) inner last) (plain_test (get_or parts i d))))
      (turn_is (drop (i + 1) parts) many (aim_of inner inner_to) (aim_of last last_to) e ∙ aim_turn (many == 0) inner last inner_to last_to)
      ∙ ap (λ on. test_code vars (aim_of (turn_of many inner last) (turn_of many inner_to last_to)) (plain_test (get_or parts i d)) here
      ++ parts_code vars (aim_of inner inner_to) (aim_of last last_to) (to_tests (map plain_test (drop (i + 1) parts)))
      (here + test_size on (plain_test (get_or parts i d))))
      (turn_is (drop (i + 1) parts) many inner last e)

  labels_turn : parts_labels inner last (to_tests (map plain_test (drop i parts))) here
      ≡ test_labels (turn_of many inner last) (plain_test (get_or parts i d)) here
      ++ parts_labels inner last (to_tests (map plain_test (drop (i + 1) parts))) (here + test_size (turn_of many inner last) (plain_test (get_or parts i d)))
  unfolding test_labels
  labels_turn =
      at_drop_more (λ xs. parts_labels inner last (to_tests (map plain_test xs)) here) parts i d lt
      ∙ ap (λ on. test_labels on (plain_test (get_or parts i d)) here
      ++ parts_labels inner last (to_tests (map plain_test (drop (i + 1) parts))) (here + test_size on (plain_test (get_or parts i d))))
      (turn_is (drop (i + 1) parts) many inner last e)

-- pieces behind a list, of which the first is appended
appended : {A : Type 0} (before one later whole all : List A) → all ≡ one ++ later → before ++ all ≡ whole → (before ++ one) ++ later ≡ whole
appended before one later whole all e inv = append_assoc before one later ∙ ap (λ xs. before ++ xs) (sym e) ∙ inv

module _ (vars : ℕ) (parts : List Test) (i : ℕ) (p : Test) (inner last asked : Bool) (inner_to last_to goes here many size next : ℕ) (lt : i < length parts)
    (k : p ≡ get_or parts i p) (count : many ≡ length parts - i) (a : asked ≡ turn_of (many - 1) inner last) (g : goes ≡ turn_of (many - 1) inner_to last_to)
    (o : size ≡ test_size asked (plain_test p)) (n : next ≡ here + size) where
  pub code_step : (before after whole : List LowInstr) → after ≡ before ++ test_code vars (aim_of asked goes) (plain_test p) here
      → before ++ parts_code vars (aim_of inner inner_to) (aim_of last last_to) (to_tests (map plain_test (drop i parts))) here ≡ whole
      → after ++ parts_code vars (aim_of inner inner_to) (aim_of last last_to) (to_tests (map plain_test (drop (i + 1) parts))) next ≡ whole
  code_step before after whole f inv =
      let found = code_turn vars parts i p inner last inner_to last_to here (many - 1) lt (omega (arith, count, length-drop (i + 1) parts)) in
      let own = subst (λ (q : Test). parts_code vars (aim_of inner inner_to) (aim_of last last_to) (to_tests (map plain_test (drop i parts))) here
      ≡ test_code vars (aim_of (turn_of (many - 1) inner last) (turn_of (many - 1) inner_to last_to)) (plain_test q) here
      ++ parts_code vars (aim_of inner inner_to) (aim_of last last_to) (to_tests (map plain_test (drop (i + 1) parts)))
      (here + test_size (turn_of (many - 1) inner last) (plain_test q))) (sym k) found in
      let asks = subst (λ (on : Bool). parts_code vars (aim_of inner inner_to) (aim_of last last_to) (to_tests (map plain_test (drop i parts))) here
      ≡ test_code vars (aim_of on (turn_of (many - 1) inner_to last_to)) (plain_test p) here
      ++ parts_code vars (aim_of inner inner_to) (aim_of last last_to) (to_tests (map plain_test (drop (i + 1) parts)))
      (here + test_size on (plain_test p))) (sym a) own in
      let sent = subst (λ (to : ℕ). parts_code vars (aim_of inner inner_to) (aim_of last last_to) (to_tests (map plain_test (drop i parts))) here
      ≡ test_code vars (aim_of asked to) (plain_test p) here
      ++ parts_code vars (aim_of inner inner_to) (aim_of last last_to) (to_tests (map plain_test (drop (i + 1) parts)))
      (here + test_size asked (plain_test p))) (sym g) asks in
      let at : here + test_size asked (plain_test p) ≡ next = omega (arith, o, n) in
      ap (λ c. c ++ parts_code vars (aim_of inner inner_to) (aim_of last last_to) (to_tests (map plain_test (drop (i + 1) parts))) next) f
      ∙ ap (λ q. (before ++ test_code vars (aim_of asked goes) (plain_test p) here)
      ++ parts_code vars (aim_of inner inner_to) (aim_of last last_to) (to_tests (map plain_test (drop (i + 1) parts))) q) (sym at)
      ∙ appended before (test_code vars (aim_of asked goes) (plain_test p) here) _ whole _ sent inv

  pub labels_step : (before after whole : List ℕ) → after ≡ before ++ test_labels asked (plain_test p) here
      → before ++ parts_labels inner last (to_tests (map plain_test (drop i parts))) here ≡ whole
      → after ++ parts_labels inner last (to_tests (map plain_test (drop (i + 1) parts))) next ≡ whole
  labels_step before after whole f inv =
      let found = labels_turn vars parts i p inner last inner_to last_to here (many - 1) lt (omega (arith, count, length-drop (i + 1) parts)) in
      let own = subst (λ (q : Test). parts_labels inner last (to_tests (map plain_test (drop i parts))) here
      ≡ test_labels (turn_of (many - 1) inner last) (plain_test q) here
      ++ parts_labels inner last (to_tests (map plain_test (drop (i + 1) parts))) (here + test_size (turn_of (many - 1) inner last) (plain_test q))) (sym k) found in
      let asks = subst (λ (on : Bool). parts_labels inner last (to_tests (map plain_test (drop i parts))) here
      ≡ test_labels on (plain_test p) here
      ++ parts_labels inner last (to_tests (map plain_test (drop (i + 1) parts))) (here + test_size on (plain_test p))) (sym a) own in
      let at : here + test_size asked (plain_test p) ≡ next = omega (arith, o, n) in
      ap (λ c. c ++ parts_labels inner last (to_tests (map plain_test (drop (i + 1) parts))) next) f
      ∙ ap (λ q. (before ++ test_labels asked (plain_test p) here) ++ parts_labels inner last (to_tests (map plain_test (drop (i + 1) parts))) q) (sym at)
      ∙ appended before (test_labels asked (plain_test p) here) _ whole _ asks inv
