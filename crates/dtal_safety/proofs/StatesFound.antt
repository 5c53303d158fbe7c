-- The state types before the instructions of a function, by the number of the instruction.
use Rattle.std.proofs.Common.{◌≡◌, ℕ, zero, suc, ◌+◌, Bool as Truth, true, false, IsTrue, List, [], ◌∷◌, ◌++◌, take, length, Some, Ok, refl, sym, ◌∙◌, ap, subst, arith}
use Rattle.std.specs.Prelude.{slice_get}
use Rattle.std.specs.List.{All}
use Rattle.std.proofs.lemmas.List.{length-append}
use Rattle.std.proofs.lemmas.List.Elements.{All-head, All-tail}
use Rattle.std.proofs.lemmas.Option.{none-some, same_Some}
use Rattle.state_types.specs.declared.state.StateType.{StateType}
use Rattle.operation_rules.specs.Rules.{Setting}
use Rattle.dtal_code.specs.declared.instruction.Instr.{Instr}
use Rattle.dtal_code.specs.declared.program.Block.{Block}
use Rattle.dtal_code.specs.Acceptance.{CodeStands, CodeEnds, CodeGoesOn, BlocksStand, BlocksEnd, BlocksGoOn}
use Rattle.dtal_code.specs.Grammar.{EndsLast, is_last, size_of}
use Rattle.dtal_code.specs.ObjectCode.{instrs_of}
use Rattle.dtal_code.specs.Passing.{instr_verdict}
use Rattle.dtal_safety.proofs.Lookups.{IsThere, get_first, get_second}

-- the instruction behind one, and the state before it
pub record Behind (code : List Instr) (states : List StateType) (index : ℕ) (next : StateType) : Type 0 where
  pub instr : Instr
  pub is_instr : slice_get code (suc index) ≡ Some instr
  pub is_state : slice_get states (suc index) ≡ Some next

-- no rule fails at an instruction in the state before it, and what its rule gives stands before the next one, unless it is a last one
pub record Found (st : Setting) (labels : List StateType) (code : List Instr) (states : List StateType) (index : ℕ) (instr : Instr) (state : StateType) : Type 0 where
  pub next : StateType
  pub is_next : instr_verdict st labels state instr ≡ Ok next
  pub behind : is_last instr.op ≡ false → Behind code states index next

abbrev pub Finds : Setting → List StateType → List Instr → List StateType → Type 0
Finds st labels code states = (index : ℕ) (instr : Instr) (state : StateType) → slice_get code index ≡ Some instr → slice_get states index ≡ Some state
    → Found st labels code states index instr state

never_last : (test : Truth) → IsTrue test → test ≡ false → ⊥
never_last true t e = cc
never_last false t e = cc

module _ (st : Setting) (labels : List StateType) where
  -- ---- one instruction more in front

  shifted : (code : List Instr) (states : List StateType) (i : Instr) (s : StateType) (index : ℕ) (instr : Instr) (state : StateType)
      → Found st labels code states index instr state → Found st labels (i ∷ code) (s ∷ states) (suc index) instr state
  shifted code states i s index instr state found = record {
    next = found.next;
    is_next = found.is_next;
    behind = λ h. let b = found.behind h in record { instr = b.instr; is_instr = b.is_instr; is_state = b.is_state };
  }

  in_front : (i : Instr) (s next : StateType) (code : List Instr) (states : List StateType) → instr_verdict st labels s i ≡ Ok next
      → (is_last i.op ≡ false → Behind (i ∷ code) (s ∷ states) 0 next) → Finds st labels code states → Finds st labels (i ∷ code) (s ∷ states)
  in_front i s next code states e behind finds zero instr state is also =
      let same : i ≡ instr = same_Some i instr is in
      let beside : s ≡ state = same_Some s state also in
      subst (λ x. Found st labels (i ∷ code) (s ∷ states) 0 x state) same
      (subst (λ x. Found st labels (i ∷ code) (s ∷ states) 0 i x) beside (record { next = next; is_next = e; behind = behind }))
  in_front i s next code states e behind finds (suc index) instr state is also = shifted code states i s index instr state (finds index instr state is also)

  -- ---- code

  ended : (state : StateType) (code : List Instr) (states : List StateType) → CodeStands st labels state code states → code ≡ [] → states ≡ []
  ended _ _ _ (CodeEnds state) e = refl
  ended _ _ _ (CodeGoesOn state next instr code states is more) e = absurd cc

  first_is : (state : StateType) (code : List Instr) (states : List StateType) (instr : Instr) → CodeStands st labels state code states → slice_get code 0 ≡ Some instr
      → slice_get states 0 ≡ Some state
  first_is _ _ _ instr (CodeEnds state) e = absurd (none-some instr e)
  first_is _ _ _ instr (CodeGoesOn state next i code states is more) e = refl

  code_finds : (state : StateType) (code : List Instr) (states : List StateType) → CodeStands st labels state code states → EndsLast code
      → (more : List Instr) (others : List StateType) → Finds st labels more others → Finds st labels (code ++ more) (states ++ others)
  code_finds _ _ _ (CodeEnds state) ends more others finds = absurd ends
  code_finds _ _ _ (CodeGoesOn state next instr [] states e rest) ends more others finds =
      let none : states ≡ [] = ended next [] states rest refl in
      subst (λ ss. Finds st labels (instr ∷ more) (state ∷ (ss ++ others))) (sym none)
      (in_front instr state next more others e (λ h. absurd (never_last (is_last instr.op) ends h)) finds)
  code_finds _ _ _ (CodeGoesOn state next instr (i ∷ code) states e rest) ends more others finds =
      let first = first_is next (i ∷ code) states i rest refl in
      in_front instr state next ((i ∷ code) ++ more) (states ++ others) e
      (λ h. record { instr = i; is_instr = refl; is_state = get_first states others 0 next first })
      (code_finds next (i ∷ code) states rest ends more others finds)

  -- ---- blocks

  nothing_found : Finds st labels [] []
  nothing_found index instr state e f = absurd (none-some instr e)

  pub blocks_find : (begins : List StateType) (blocks : List Block) (states : List StateType) → BlocksStand st labels begins blocks states
      → All (λ block. EndsLast block.code) blocks → Finds st labels (instrs_of blocks) states
  unfolding instrs_of
  blocks_find _ _ _ BlocksEnd ends = nothing_found
  blocks_find _ _ _ (BlocksGoOn state begins block blocks states others stands more) ends =
      code_finds state block.code states stands (All-head (λ (b : Block). EndsLast b.code) block blocks ends) (instrs_of blocks) others
      (blocks_find begins blocks others more (All-tail (λ (b : Block). EndsLast b.code) block blocks ends))

  -- ---- as many states as instructions

  code_length : (state : StateType) (code : List Instr) (states : List StateType) → CodeStands st labels state code states → length states ≡ length code
  code_length _ _ _ (CodeEnds state) = refl
  code_length _ _ _ (CodeGoesOn state next instr code states e rest) = ap suc (code_length next code states rest)

  pub blocks_length : (begins : List StateType) (blocks : List Block) (states : List StateType) → BlocksStand st labels begins blocks states
      → length states ≡ length (instrs_of blocks)
  unfolding instrs_of
  blocks_length _ _ _ BlocksEnd = refl
  blocks_length _ _ _ (BlocksGoOn state begins block blocks states others stands more) =
      let one = code_length state block.code states stands in
      let rest = blocks_length begins blocks others more in
      let a = length-append states others in
      let b = length-append block.code (instrs_of blocks) in
      omega (arith, one, rest, a, b)

  -- ---- where blocks begin

  -- the first instruction of the block of a number, and the state in which the block begins
  pub record Begins (blocks : List Block) (states : List StateType) (number : ℕ) (state : StateType) : Type 0 where
    pub instr : Instr
    pub is_instr : slice_get (instrs_of blocks) (size_of (take number blocks)) ≡ Some instr
    pub is_state : slice_get states (size_of (take number blocks)) ≡ Some state

  has_first : (code : List Instr) → EndsLast code → IsThere code 0
  has_first [] ends = absurd ends
  has_first (i ∷ code) ends = record { value = i; there = refl }

  pub blocks_begin : (begins : List StateType) (blocks : List Block) (states : List StateType) → BlocksStand st labels begins blocks states
      → All (λ block. EndsLast block.code) blocks → (number : ℕ) (state : StateType) → slice_get begins number ≡ Some state → Begins blocks states number state
  unfolding instrs_of size_of
  blocks_begin _ _ _ BlocksEnd ends number s e = absurd (none-some s e)
  blocks_begin _ _ _ (BlocksGoOn state begins block blocks states others stands more) ends zero s e =
      let first = has_first block.code (All-head (λ (b : Block). EndsLast b.code) block blocks ends) in
      record {
        instr = first.value;
        is_instr = get_first block.code (instrs_of blocks) 0 first.value first.there;
        is_state = get_first states others 0 s (first_is state block.code states first.value stands first.there ∙ e);
      }
  blocks_begin _ _ _ (BlocksGoOn state begins block blocks states others stands more) ends (suc number) s e =
      let rest = blocks_begin begins blocks others more (All-tail (λ (b : Block). EndsLast b.code) block blocks ends) number s e in
      let size = size_of (take number blocks) in
      let same = code_length state block.code states stands in
      record {
        instr = rest.instr;
        is_instr = get_second block.code (instrs_of blocks) size ∙ rest.is_instr;
        is_state = ap (λ n. slice_get (states ++ others) (n + size)) (sym same) ∙ get_second states others size ∙ rest.is_state;
      }
