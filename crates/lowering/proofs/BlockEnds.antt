-- In front of each label of a block stands a jump or a return, and at the end of a block behind which control does not go on.
use Rattle.std.proofs.Common.{◌≡◌, ℕ, zero, suc, ◌+◌, List, [], ◌∷◌, ◌++◌, length, slice_get, Bool as Truth, true, false, ◌&&◌, ◌||◌, not, Option, Some, None, refl, sym, ap, ◌∙◌, subst, append_assoc, append-nil, length-append, arith}
use Rattle.xanadu_tree.specs.BodyRules.{completes, completes_all}
use Rattle.xanadu_tree.specs.Plain as core
use Rattle.three_address.specs.declared.instruction.LowInstr.{LowInstr}
use Rattle.lowering.specs.CodeBlocks.{stops}
use Rattle.value_lowering.specs.Frames.{Frame, operand_place}
use Rattle.value_lowering.specs.OneInstruction.{Aim, jump, returned, one_if, jump_if, label_if}
use Rattle.lowering.specs.StatementCode.{statement_size, block_size, is_stated, first_at, second_at, meet_at, behind_loop, unless, return_code, statement_code, block_code, statement_labels, block_labels}
use Rattle.lowering.specs.TestCode.{turned, inner_aim, inner_on, past_parts, test_size, parts_size, test_code, parts_code, test_labels, parts_labels}
use Rattle.value_lowering.specs.ValueCode.{operand_at}
use Rattle.lowering.proofs.CodeSizes.{Long, test_long, parts_long, statement_long, block_long}
use Rattle.lowering.proofs.CodeTargets.{Holds, holds_none, holds_and, holds_more, if_holds, holds_weaker}

-- ---- the instruction in front of a position, in code that begins at one

pub record StopBefore (at : ℕ) (code : List LowInstr) (position : ℕ) : Type 0 where
  pub index : ℕ
  pub next : position ≡ at + suc index
  pub instr : LowInstr
  pub there : slice_get code index ≡ Some instr
  pub stops : stops instr.op ≡ true

get_left : (one two : List LowInstr) (i : LowInstr) (index : ℕ) → slice_get one index ≡ Some i → slice_get (one ++ two) index ≡ Some i
get_left [] two i index e = cc
get_left (j ∷ one) two i zero e = e
get_left (j ∷ one) two i (suc index) e = get_left one two i index e

get_right : (one two : List LowInstr) (index : ℕ) → slice_get (one ++ two) (length one + index) ≡ slice_get two index
get_right [] two index = let e : 0 + index ≡ index = omega arith in ap (slice_get two) e
get_right (j ∷ one) two index =
    let e : suc (length one) + index ≡ suc (length one + index) = omega arith in
    ap (slice_get (j ∷ (one ++ two))) e ∙ get_right one two index

pub before_left : (at : ℕ) (one two : List LowInstr) (position : ℕ) → StopBefore at one position → StopBefore at (one ++ two) position
before_left at one two position h =
    record { index = h.index; next = h.next; instr = h.instr; there = get_left one two h.instr h.index h.there; stops = h.stops }

pub before_right : (at middle : ℕ) (one two : List LowInstr) (position : ℕ) → middle ≡ at + length one → StopBefore middle two position
    → StopBefore at (one ++ two) position
before_right at middle one two position is h = record {
  index = length one + h.index;
  next = omega (arith, is, h.next);
  instr = h.instr;
  there = get_right one two h.index ∙ h.there;
  stops = h.stops;
}

before_jump : (at to : ℕ) (code : List LowInstr) → StopBefore at (jump to ∷ code) (suc at)
before_jump at to code = record { index = 0; next = omega arith; instr = jump to; there = refl; stops = refl }

pub all_before_left : (at : ℕ) (one two : List LowInstr) (labels : List ℕ) → Holds (StopBefore at one) labels → Holds (StopBefore at (one ++ two)) labels
all_before_left at one two labels h =
    holds_weaker (StopBefore at one) (StopBefore at (one ++ two)) labels (λ x b. before_left at one two x b) h

pub all_before_right : (at middle : ℕ) (one two : List LowInstr) (labels : List ℕ) → middle ≡ at + length one → Holds (StopBefore middle two) labels
    → Holds (StopBefore at (one ++ two)) labels
all_before_right at middle one two labels is h =
    holds_weaker (StopBefore middle two) (StopBefore at (one ++ two)) labels (λ x b. before_right at middle one two x is b) h

-- ---- code that ends with a jump or a return

pub record LastStops (code : List LowInstr) : Type 0 where
  pub front : List LowInstr
  pub last : LowInstr
  pub is : code ≡ front ++ last ∷ []
  pub stops : stops last.op ≡ true

last_right : (one two : List LowInstr) → LastStops two → LastStops (one ++ two)
last_right one two h = record {
  front = one ++ h.front;
  last = h.last;
  is = ap (λ code. one ++ code) h.is ∙ sym (append_assoc one h.front (h.last ∷ []));
  stops = h.stops;
}

last_nil : (code : List LowInstr) → LastStops code → LastStops (code ++ [])
last_nil code h = subst LastStops (sym (append-nil code)) h

pub last_before : (at end : ℕ) (code : List LowInstr) → end ≡ at + length code → LastStops code → StopBefore at code end
last_before at end code is h = record {
  index = length h.front;
  next = omega (arith, is, ap length h.is, length-append h.front (h.last ∷ []));
  instr = h.last;
  there = ap (λ c. slice_get c (length h.front)) h.is ∙ last_there h.front h.last;
  stops = h.stops;
}
  where
    last_there : (front : List LowInstr) (last : LowInstr) → slice_get (front ++ last ∷ []) (length front) ≡ Some last
    last_there [] last = refl
    last_there (i ∷ front) last = last_there front last

-- ---- tests

-- the label behind parts, where they end with a jump
past_before : (crossed : Truth) (at parts past : ℕ) (code : List LowInstr) → parts ≡ at + length code → past ≡ parts + one_if crossed
    → Holds (StopBefore at (code ++ jump_if crossed past)) (label_if crossed past)
past_before true at parts past code is same =
    if_holds (StopBefore at (code ++ jump_if true past)) true past
    (λ e. before_right at parts code (jump_if true past) past is (subst (StopBefore parts (jump past ∷ [])) (omega (arith, same)) (before_jump parts past [])))
past_before false at parts past code is same = holds_none _

group_ends : (crossed : Truth) (at parts past : ℕ) (code : List LowInstr) (labels : List ℕ) → parts ≡ at + length code → past ≡ parts + one_if crossed
    → Holds (StopBefore at code) labels → Holds (StopBefore at (code ++ jump_if crossed past)) (labels ++ label_if crossed past)
group_ends crossed at parts past code labels is same h =
    holds_and (StopBefore at (code ++ jump_if crossed past)) labels _ (all_before_left at code _ labels h) (past_before crossed at parts past code is same)

-- two pieces
pieces_end : (at middle : ℕ) (one two : List LowInstr) (labels more : List ℕ) → middle ≡ at + length one → Holds (StopBefore at one) labels
    → Holds (StopBefore middle two) more → Holds (StopBefore at (one ++ two)) (labels ++ more)
pieces_end at middle one two labels more is h k =
    holds_and (StopBefore at (one ++ two)) labels more (all_before_left at one two labels h) (all_before_right at middle one two more is k)

pub long_to : (at size : ℕ) (code : List LowInstr) → Long code size → at + size ≡ at + length code
long_to at size code h = ap (λ n. at + n) (sym h.is)

module _ (vars : ℕ) where
  mutual
    unfolding test_code test_labels

    pub test_ends : (aim : Aim) (t : core.Test) (at : ℕ) → Holds (StopBefore at (test_code vars aim t at)) (test_labels aim.on t at)
    test_ends aim (core.Leaf e) at = holds_none _
    test_ends aim (core.All parts) at =
        group_ends aim.on at (at + parts_size (inner_on aim.on aim.on) aim.on parts) (past_parts aim.on aim.on parts at) _ _
        (long_to at _ _ (parts_long vars (inner_aim aim.on aim (past_parts aim.on aim.on parts at)) aim parts at)) refl
        (parts_end (inner_aim aim.on aim (past_parts aim.on aim.on parts at)) aim parts at)
    test_ends aim (core.Any parts) at =
        group_ends (not aim.on) at (at + parts_size (inner_on (not aim.on) aim.on) aim.on parts) (past_parts (not aim.on) aim.on parts at) _ _
        (long_to at _ _ (parts_long vars (inner_aim (not aim.on) aim (past_parts (not aim.on) aim.on parts at)) aim parts at)) refl
        (parts_end (inner_aim (not aim.on) aim (past_parts (not aim.on) aim.on parts at)) aim parts at)
    test_ends aim (core.Not part) at = test_ends (turned aim) part at

    pub parts_end : (inner last : Aim) (parts : core.Tests) (at : ℕ) → Holds (StopBefore at (parts_code vars inner last parts at)) (parts_labels inner.on last.on parts at)
    parts_end inner last core.NoTest at = holds_none _
    parts_end inner last (core.ATest t core.NoTest) at =
        pieces_end at (at + test_size last.on t) _ _ _ _ (long_to at _ _ (test_long vars last t at)) (test_ends last t at) (holds_none _)
    parts_end inner last (core.ATest t (core.ATest u ts)) at =
        pieces_end at (at + test_size inner.on t) _ _ _ _ (long_to at _ _ (test_long vars inner t at)) (test_ends inner t at)
        (parts_end inner last (core.ATest u ts) (at + test_size inner.on t))

-- ---- statements

-- behind a branch that jumps where it completes
branch_before : (c : Truth) (at size to : ℕ) (code rest : List LowInstr) → Long code size → (c ≡ false → LastStops code)
    → StopBefore at (code ++ (jump_if c to ++ rest)) (at + size + one_if c)
branch_before true at size to code rest long last =
    before_right at (at + size) code _ _ (long_to at size code long)
    (subst (StopBefore (at + size) (jump to ∷ rest)) (omega arith) (before_jump (at + size) to rest))
branch_before false at size to code rest long last =
    subst (StopBefore at (code ++ rest)) (omega arith) (before_left at code rest (at + size) (last_before at (at + size) code (long_to at size code long) (last refl)))

last_before_end : (c : Truth) (at size to : ℕ) (code : List LowInstr) → Long code size → (c ≡ false → LastStops code)
    → StopBefore at (code ++ jump_if c to) (at + size + one_if c)
last_before_end c at size to code long last =
    subst (λ jumps. StopBefore at (code ++ jumps) (at + size + one_if c)) (append-nil (jump_if c to)) (branch_before c at size to code [] long last)

meet_before : (a b stated : Truth) (at size to : ℕ) (code : List LowInstr) → Long code size → (b ≡ false → LastStops code)
    → to ≡ at + size + one_if (b && (a || (stated && b)))
    → Holds (StopBefore at (code ++ jump_if (b && (a || (stated && b))) to)) (label_if (a || (stated && b)) to)
meet_before a b stated at size to code long last is =
    if_holds (StopBefore at (code ++ jump_if (b && (a || (stated && b))) to)) (a || (stated && b)) to
    (λ e. subst (StopBefore at (code ++ jump_if (b && (a || (stated && b))) to)) (sym is)
    (last_before_end (b && (a || (stated && b))) at size to code long (λ f. last (not_both b _ f e))))
  where
    not_both : (b m : Truth) → (b && m) ≡ false → m ≡ true → b ≡ false
    not_both true m f e = cc
    not_both false m f e = refl

-- an `if`, of its pieces
module _ (T A B : List LowInstr) (at first size other more to : ℕ) (tl al bl : List ℕ) where
  if_ends : (a b stated : Truth) → first ≡ at + length T → Long A size → Long B more → other ≡ first + size + one_if a
      → to ≡ other + more + one_if (b && (a || (stated && b))) → (a ≡ false → LastStops A) → (b ≡ false → LastStops B)
      → Holds (StopBefore at T) tl → Holds (StopBefore first A) al → Holds (StopBefore other B) bl
      → Holds (StopBefore at (T ++ (A ++ (jump_if a to ++ (B ++ jump_if (b && (a || (stated && b))) to))))) (tl ++ (al ++ (other ∷ (bl ++ label_if (a || (stated && b)) to))))
  if_ends a b stated is long_a long_b is_other is_to last_a last_b tested one two =
      let second = B ++ jump_if (b && (a || (stated && b))) to in
      let behind = jump_if a to ++ second in
      pieces_end at first T (A ++ behind) tl _ is tested
      (holds_and (StopBefore first (A ++ behind)) al _ (all_before_left first A behind al one)
      (holds_more (StopBefore first (A ++ behind)) other _
      (subst (StopBefore first (A ++ behind)) (sym is_other) (branch_before a first size to A second long_a last_a))
      (all_before_right first (first + size) A behind _ (long_to first size A long_a)
      (all_before_right (first + size) other (jump_if a to) second _ (omega (arith, is_other, jump_long a to))
      (holds_and (StopBefore other second) bl _ (all_before_left other B _ bl two) (meet_before a b stated other more to B long_b last_b is_to))))))
    where
      jump_long : (b : Truth) (to : ℕ) → length (jump_if b to) ≡ one_if b
      jump_long true to = refl
      jump_long false to = refl

-- and a loop
module _ (T A : List LowInstr) (at first size other : ℕ) (tl al : List ℕ) where
  loop_ends : (c : Truth) → first ≡ suc at + length T → Long A size → other ≡ first + size + one_if c → (c ≡ false → LastStops A)
      → Holds (StopBefore (suc at) T) tl → Holds (StopBefore first A) al
      → Holds (StopBefore at (jump (suc at) ∷ (T ++ (A ++ jump_if c (suc at))))) (suc at ∷ (tl ++ (al ++ other ∷ [])))
  loop_ends c is long is_other last tested turn =
      let inner = A ++ jump_if c (suc at) in
      holds_more (StopBefore at (jump (suc at) ∷ (T ++ inner))) (suc at) _ (before_jump at (suc at) (T ++ inner))
      (all_before_right at (suc at) (jump (suc at) ∷ []) (T ++ inner) _ (omega arith)
      (pieces_end (suc at) first T inner tl _ is tested
      (holds_and (StopBefore first inner) al _ (all_before_left first A _ al turn)
      (holds_more (StopBefore first inner) other [] (subst (StopBefore first inner) (sym is_other) (last_before_end c first size (suc at) A long last)) (holds_none _)))))

neither : (a b : Truth) → (a || b) ≡ false → (a ≡ false) × (b ≡ false)
neither true b e = cc
neither false b e = (refl, e)

-- where neither branch completes, the second one's end is that of the whole
if_last : (a b stated : Truth) (to : ℕ) (T A B : List LowInstr) → (a || b) ≡ false → (b ≡ false → LastStops B)
    → LastStops (T ++ (A ++ (jump_if a to ++ (B ++ jump_if (b && (a || (stated && b))) to))))
if_last true b stated to T A B e last = cc
if_last false true stated to T A B e last = cc
if_last false false stated to T A B e last = last_right T _ (last_right A _ (last_right [] _ (last_nil B (last refl))))

module _ (frame : Frame) where
  return_last : (value : Option core.Expr) → LastStops (return_code (length frame.kinds) value)
  return_last None = record { front = _ ∷ []; last = returned _; is = refl; stops = refl }
  return_last (Some e) = record { front = operand_at (length frame.kinds) e 0; last = returned (operand_place (length frame.kinds) e 0); is = refl; stops = refl }

  mutual
    unfolding statement_code

    pub statement_last : (s : core.Stmt) (at : ℕ) → completes s ≡ false → LastStops (statement_code frame s at)
    statement_last (core.Set x e) at h = cc
    statement_last (core.Split xs e a) at h = cc
    statement_last (core.Store array index e a) at h = cc
    statement_last (core.Do call) at h = cc
    statement_last (core.Print e) at h = cc
    statement_last (core.If test on_true on_false join a) at h =
        if_last (completes_all on_true) (completes_all on_false) (is_stated join) _ _ _ _ h (block_last on_false (second_at test on_true at))
    statement_last (core.While test head body a) at h = cc
    statement_last (core.Return value a) at h = return_last value

    pub block_last : (ss : core.Stmts) (at : ℕ) → completes_all ss ≡ false → LastStops (block_code frame ss at)
    block_last core.NoStmt at h = cc
    block_last (core.AStmt s core.NoStmt) at h = last_nil _ (statement_last s at h)
    block_last (core.AStmt s (core.AStmt t ts)) at h = last_right _ _ (block_last (core.AStmt t ts) (at + statement_size s) h)

  mutual
    unfolding statement_code statement_labels

    pub statement_ends : (s : core.Stmt) (at : ℕ) → Holds (StopBefore at (statement_code frame s at)) (statement_labels s at)
    statement_ends (core.Set x e) at = holds_none _
    statement_ends (core.Split xs e a) at = holds_none _
    statement_ends (core.Store array index e a) at = holds_none _
    statement_ends (core.Do call) at = holds_none _
    statement_ends (core.Print e) at = holds_none _
    statement_ends (core.If test on_true on_false join a) at =
        if_ends _ _ _ at (first_at test at) (block_size on_true) (second_at test on_true at) (block_size on_false) (meet_at test on_true on_false join at) _ _ _
        (completes_all on_true) (completes_all on_false) (is_stated join)
        (long_to at _ _ (test_long _ (unless (second_at test on_true at)) test at)) (block_long frame on_true (first_at test at))
        (block_long frame on_false (second_at test on_true at)) refl refl
        (block_last on_true (first_at test at)) (block_last on_false (second_at test on_true at))
        (test_ends _ (unless (second_at test on_true at)) test at) (block_ends on_true (first_at test at)) (block_ends on_false (second_at test on_true at))
    statement_ends (core.While test head body a) at =
        loop_ends _ _ at (first_at test (suc at)) (block_size body) (behind_loop test body at) _ _ (completes_all body)
        (long_to (suc at) _ _ (test_long _ (unless (behind_loop test body at)) test (suc at))) (block_long frame body (first_at test (suc at))) refl
        (block_last body (first_at test (suc at)))
        (test_ends _ (unless (behind_loop test body at)) test (suc at)) (block_ends body (first_at test (suc at)))
    statement_ends (core.Return value a) at = holds_none _

    pub block_ends : (ss : core.Stmts) (at : ℕ) → Holds (StopBefore at (block_code frame ss at)) (block_labels ss at)
    block_ends core.NoStmt at = holds_none _
    block_ends (core.AStmt s ss) at =
        pieces_end at (at + statement_size s) _ _ _ _ (long_to at _ _ (statement_long frame s at)) (statement_ends s at) (block_ends ss (at + statement_size s))
