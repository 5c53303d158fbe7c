-- What holds of the code of a function of a core that keeps the rules of a core.
use Rattle.std.proofs.Common.{◌≡◌, ℕ, zero, suc, ◌+◌, ◌<◌, ◌≤◌, ◌==◌, List, [], ◌∷◌, map, length, slice_get, Bool as Truth, true, false, Some, refl, sym, ap, ◌∙◌, subst, inl, inr, ◌⊎◌, arith}
use Rattle.std.specs.List.{AllByRecursion}
use Rattle.std.proofs.lemmas.Bool.Decides.{nat_tests}
use Rattle.state_types.specs.declared.closed.Signature.{Signature}
use Rattle.xanadu_tree.specs.BodyRules.{completes_all}
use Rattle.xanadu_tree.specs.KindRules.{IsAmong, header, result_kind}
use Rattle.xanadu_tree.specs.Plain as core
use Rattle.xanadu_tree.specs.Shaped.{Shaped, IsFunction, body_start, setting}
use Rattle.typed_core.specs.Places.{places_of}
use Rattle.three_address.specs.declared.function.LowFun.{LowFun}
use Rattle.three_address.specs.declared.instruction.LowInstr.{LowInstr}
use Rattle.lowering.specs.CodeBlocks.{stops, Spaced, EndsBefore, InBlocks, HasJump}
use Rattle.value_lowering.specs.Frames.{frame_of}
use Rattle.lowering.specs.Lowered.{leads, number_of, next_number, renumbered, numbered, NamesPosition, labels_of, code_of, body_of, function_of, functions_of}
use Rattle.value_lowering.specs.OneInstruction.{one_if}
use Rattle.lowering.specs.StatementCode.{block_size}
use Rattle.lowering.proofs.BlockEnds.{StopBefore, last_before, block_ends, block_last}
use Rattle.lowering.proofs.CodeSizes.{block_long}
use Rattle.lowering.proofs.CodeTargets.{block_leads}
use Rattle.lowering.proofs.LabelPositions.{block_rise}
use Rattle.lowering.proofs.LabelsReached.{found_jump, block_reached}
use Rattle.lowering.proofs.NumbersFound.{number_names, numbered_at}
use Rattle.lowering.proofs.PlacesNamed.{block_names}
use Rattle.lowering.proofs.StopsFollowed.{block_stops, stop_at}
use Rattle.lowering.proofs.StraightCode.{each_at}

-- ---- the rules that a function keeps

rules_at : {A : Type 0} (P : A → Type 0) (xs : List A) (number : ℕ) (x : A) → AllByRecursion P xs → slice_get xs number ≡ Some x → P x
rules_at P [] number x all e = cc
rules_at P (y ∷ xs) zero x all e = subst P (same y x e) all.0
  where
    same : {A : Type 0} (y x : A) → Some y ≡ Some x → y ≡ x
    same y x e = cc
rules_at P (y ∷ xs) (suc number) x all e = rules_at P xs number x all.1 e

function_rules : (program : core.Program) (number : ℕ) (f : core.Fun) → Shaped program → slice_get program.funs number ≡ Some f
    → IsFunction program.types (map header program.funs) f
function_rules program number f shaped e =
    rules_at (IsFunction program.types (map header program.funs)) program.funs number f shaped.functions e

-- ---- places

pub places_counted : (program : core.Program) (number : ℕ) (f : core.Fun) → Shaped program → slice_get program.funs number ≡ Some f
    → (body_of program f).places ≡ places_of f
places_counted program number f shaped e =
    let rules = function_rules program number f shaped e in
    (block_names (frame_of program f) program.types (map header program.funs) (result_kind f) f.body 0 (body_start f) rules.end rules.body).is

-- ---- blocks

same_op : (labels : List ℕ) (b : Truth) (i : LowInstr) → (renumbered labels b i).op ≡ i.op
same_op labels true i = refl
same_op labels false i = refl

length-numbered : (labels : List ℕ) (code : List LowInstr) → length (numbered labels code) ≡ length code
length-numbered labels [] = refl
length-numbered labels (i ∷ code) = ap suc (length-numbered labels code)

ends_before : (labels : List ℕ) (code : List LowInstr) (position : ℕ) → StopBefore 0 code position → EndsBefore (numbered labels code) position
ends_before labels code position h = record {
  before = h.index;
  next = omega (arith, h.next);
  instr = renumbered labels (leads h.instr.op) h.instr;
  there = numbered_at labels code h.index h.instr h.there;
  stops = ap (λ o. stops o) (same_op labels (leads h.instr.op) h.instr) ∙ h.stops;
}

-- ---- labels

there : (labels : List ℕ) (n : ℕ) → n < length labels → (x : ℕ) × (slice_get labels n ≡ Some x)
there [] n lt = absurd (omega (arith, lt))
there (label ∷ labels) zero lt = (label, refl)
there (label ∷ labels) (suc n) lt = there labels n (omega (arith, lt))

among_at : (labels : List ℕ) (n x : ℕ) → slice_get labels n ≡ Some x → IsAmong labels x
among_at [] n x e = cc
among_at (label ∷ labels) zero x e = inl (same label x e)
  where
    same : (a b : ℕ) → Some a ≡ Some b → b ≡ a
    same a b e = cc
among_at (label ∷ labels) (suc n) x e = inr (among_at labels n x e)

spaced_least : (low high : ℕ) (labels : List ℕ) (n x : ℕ) → Spaced low labels high → slice_get labels n ≡ Some x → low ≤ x
unfolding Spaced
spaced_least low high [] n x h e = cc
spaced_least low high (label ∷ labels) zero x h e = let same : label ≡ x = some_number label x e in omega (arith, same, h.0)
  where
    some_number : (a b : ℕ) → Some a ≡ Some b → a ≡ b
    some_number a b e = cc
spaced_least low high (label ∷ labels) (suc n) x h e = omega (arith, h.0, spaced_least (suc label) high labels n x h.1 e)

-- where labels rise, the number of the one at a place is one more than the place
number_back : (low high : ℕ) (labels : List ℕ) (n x : ℕ) → Spaced low labels high → slice_get labels n ≡ Some x → number_of labels x ≡ suc n
unfolding Spaced number_of
number_back low high [] n x h e = cc
number_back low high (label ∷ labels) zero x h e = ap (λ b. next_number b (number_of labels x)) (same_test label x e)
  where
    same_test : (a b : ℕ) → Some a ≡ Some b → (a == b) ≡ true
    same_test a b e = let same : a ≡ b = some_number a b e in grind (arith, nat_tests)
      where
        some_number : (a b : ℕ) → Some a ≡ Some b → a ≡ b
        some_number a b e = cc
number_back low high (label ∷ labels) (suc n) x h e =
    ap (λ b. next_number b (number_of labels x)) (other_test label x (spaced_least (suc label) high labels n x h.1 e))
    ∙ ap suc (number_back (suc label) high labels n x h.1 e)
  where
    other_test : (a b : ℕ) → a < b → (a == b) ≡ false
    other_test a b lt = grind (arith, nat_tests)

target_of_leading : (labels : List ℕ) (b : Truth) (i : LowInstr) → b ≡ true → (renumbered labels b i).target ≡ number_of labels i.target
target_of_leading labels true i e = refl
target_of_leading labels false i e = cc

-- what stands in the numbered code stands with a position in the code
unnumbered_at : (labels : List ℕ) (code : List LowInstr) (at : ℕ) (i : LowInstr) → slice_get (numbered labels code) at ≡ Some i
    → (j : LowInstr) × (slice_get code at ≡ Some j) × (i.op ≡ j.op)
unnumbered_at labels [] at i e = cc
unnumbered_at labels (j ∷ code) zero i e = (j, refl, ap (λ x. x.op) (sym (same _ i e)) ∙ same_op labels (leads j.op) j)
  where
    same : (a b : LowInstr) → Some a ≡ Some b → a ≡ b
    same a b e = cc
unnumbered_at labels (j ∷ code) (suc at) i e = unnumbered_at labels code at i e

module _ (program : core.Program) (number : ℕ) (f : core.Fun) (shaped : Shaped program) (e : slice_get program.funs number ≡ Some f) where
  rises : Spaced 1 (labels_of f) (length (numbered (labels_of f) (code_of program f)))
  rises =
      let rules = function_rules program number f shaped e in
      let long : length (code_of program f) ≡ block_size f.body = (block_long (frame_of program f) f.body 0).is in
      let same : block_size f.body + one_if (completes_all f.body) ≡ length (numbered (labels_of f) (code_of program f)) =
      omega (arith, ap one_if rules.returns, long, length-numbered (labels_of f) (code_of program f)) in
      subst (λ n. Spaced 1 (labels_of f) n) same (block_rise f.body 0 (block_size f.body) (omega arith)).is

  followed : (at : ℕ) (instr : LowInstr) → slice_get (numbered (labels_of f) (code_of program f)) at ≡ Some instr → stops instr.op ≡ true
      → IsAmong (labels_of f) (suc at) ⊎ (suc at ≡ length (numbered (labels_of f) (code_of program f)))
  followed at instr there is_stop =
      let rules = function_rules program number f shaped e in
      let found = unnumbered_at (labels_of f) (code_of program f) at instr there in
      let long : length (code_of program f) ≡ block_size f.body = (block_long (frame_of program f) f.body 0).is in
      let size : block_size f.body ≡ length (numbered (labels_of f) (code_of program f)) = omega (arith, long, length-numbered (labels_of f) (code_of program f)) in
      let all = block_stops (λ p. IsAmong (labels_of f) p ⊎ (p ≡ block_size f.body)) (frame_of program f) (setting program.types (map header program.funs) f) f.body 0
      (block_size f.body) (body_start f) rules.end (omega arith) rules.body (record { each = λ x among. inl among }) (λ c. inr refl) in
      let next : 0 + suc at ≡ suc at = omega arith in
      to_end (suc at) (block_size f.body) _ size
      (subst (λ p. IsAmong (labels_of f) p ⊎ (p ≡ block_size f.body)) next
      (stop_at (λ p. IsAmong (labels_of f) p ⊎ (p ≡ block_size f.body)) 0 (code_of program f) at found.0 all.each found.1 (ap stops (sym found.2) ∙ is_stop)))
    where
      to_end : (p size length : ℕ) → size ≡ length → IsAmong (labels_of f) p ⊎ (p ≡ size) → IsAmong (labels_of f) p ⊎ (p ≡ length)
      to_end p size length same (inl among) = inl among
      to_end p size length same (inr end) = inr (end ∙ same)

  pub in_blocks : InBlocks (body_of program f).code (body_of program f).labels
  in_blocks = record {
    rise = rises;
    ends = λ label among. ends_before (labels_of f) (code_of program f) label ((block_ends (frame_of program f) f.body 0).each label among);
    last = subst (EndsBefore (numbered (labels_of f) (code_of program f))) (sym (length-numbered (labels_of f) (code_of program f)))
        (ends_before (labels_of f) (code_of program f) (length (code_of program f)) (last_before 0 (length (code_of program f)) (code_of program f) (omega arith)
        (block_last (frame_of program f) f.body 0 (function_rules program number f shaped e).returns)));
    behind = followed;
  }

  -- ---- labels

  pub have_jumps : (before : ℕ) → before < length (labels_of f) → HasJump (numbered (labels_of f) (code_of program f)) (suc before)
  have_jumps before lt =
      let rules = function_rules program number f shaped e in
      let position = there (labels_of f) before lt in
      let reached = block_reached (frame_of program f) (setting program.types (map header program.funs) f) f.body 0 (body_start f) rules.end rules.body in
      let jump = found_jump (code_of program f) position.0 (reached.each position.0 (among_at (labels_of f) before position.0 position.1)).any in
      record {
        at = jump.at;
        instr = renumbered (labels_of f) (leads jump.instr.op) jump.instr;
        there = numbered_at (labels_of f) (code_of program f) jump.at jump.instr jump.there;
        leads = ap leads (same_op (labels_of f) (leads jump.instr.op) jump.instr) ∙ jump.leads;
        to = target_of_leading (labels_of f) (leads jump.instr.op) jump.instr jump.leads ∙ ap (number_of (labels_of f)) jump.to
            ∙ number_back 1 _ (labels_of f) before position.0 rises position.1;
      }

-- ---- each instruction

pub names_position : (program : core.Program) (f : core.Fun) (at : ℕ) (instr : LowInstr) → slice_get (code_of program f) at ≡ Some instr
    → NamesPosition (body_of program f) at instr
names_position program f at instr e = record {
  there = numbered_at (labels_of f) (code_of program f) at instr e;
  named = λ lead.
      let each = (block_leads (frame_of program f) (IsAmong (labels_of f)) f.body 0 (record { each = λ x among. among })).each in
      number_names (labels_of f) instr.target (each_at (λ i. leads i.op ≡ true → IsAmong (labels_of f) i.target) (code_of program f) at instr each e lead);
}

-- ---- each function

pub function_found : (program : core.Program) (funs : List core.Fun) (sigs : List Signature) (number : ℕ) (f : core.Fun) (sig : Signature)
    → slice_get funs number ≡ Some f → slice_get sigs number ≡ Some sig → slice_get (functions_of program funs sigs) number ≡ Some (function_of program f sig)
unfolding functions_of
function_found program [] sigs number f sig e k = cc
function_found program (g ∷ funs) [] number f sig e k = cc
function_found program (g ∷ funs) (s ∷ sigs) zero f sig e k = both (λ a b. function_of program a b) g f s sig e k
  where
    both : (h : core.Fun → Signature → LowFun) (g f : core.Fun) (s sig : Signature) → Some g ≡ Some f → Some s ≡ Some sig → Some (h g s) ≡ Some (h f sig)
    both h g f s sig e k = cc
function_found program (g ∷ funs) (s ∷ sigs) (suc number) f sig e k = function_found program funs sigs number f sig e k
