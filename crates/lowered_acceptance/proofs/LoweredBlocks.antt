-- The blocks of lowered code end, and its labels rise.
use Rattle.std.proofs.Common.{◌≡◌, inl, inr, ℕ, zero, suc, ◌+◌, ◌-◌, ◌<◌, ◌≤◌, true, List, [], ◌∷◌, length, take, drop, Some, slice_get, refl, sym, ap, subst, ◌∙◌, arith, drop-drop}
use Rattle.std.proofs.lemmas.Option.{none-some, same_Some}
use Rattle.std.proofs.lemmas.List.{length-drop}
use Rattle.xanadu_tree.specs.KindRules.{IsAmong}
use Rattle.three_address.specs.declared.instruction.LowInstr.{LowInstr}
use Rattle.three_address.specs.declared.instruction.Op22.{Op22}
use Rattle.three_address.specs.declared.instruction.Op22.TheVariants as op
use Rattle.three_address.proofs.SplitParts.{sides, parts_in, parts_are}
use Rattle.emission_laws.specs.ApartHomes.{Rise}
use Rattle.emission_laws.specs.EmittedRanges.{ends_block, IsEnd, EndsLow, BlocksEnd}
use Rattle.lowered_acceptance.specs.FormedCode.{HaveForms}
use Rattle.lowering.specs.CodeBlocks.{stops, Spaced, EndsBefore, InBlocks}

-- ---- labels

spaced_rise : (low least : ℕ) (labels : List ℕ) (most : ℕ) → low ≤ least → Spaced least labels most → Rise low labels
unfolding Spaced Rise
spaced_rise low least [] most h s = tt
spaced_rise low least (label ∷ labels) most h s = (let first = s.0 in omega (arith, h, first), spaced_rise label (suc label) labels most (omega arith) s.1)

pub labels_rise : (code : List LowInstr) (labels : List ℕ) → InBlocks code labels → Rise 0 labels
labels_rise code labels is = spaced_rise 0 1 labels (length code) (omega arith) is.rise

-- ---- ends

same_ends : (o : Op22) → stops o ≡ true → ends_block o ≡ true
same_ends op.Jmp e = refl
same_ends op.Ret e = refl
same_ends _ e = absurd (let bad : ⊥ = cc in bad)

is_end : (code : List LowInstr) (at : ℕ) (instr : LowInstr) → HaveForms code → slice_get code at ≡ Some instr → stops instr.op ≡ true → IsEnd instr
is_end code at instr forms there e =
    let form = forms at instr there in
    record { ends = same_ends instr.op e; parts = sides form.0; is_parts = parts_are instr ∙ ap parts_in form.1 }

get_behind : {A : Type 0} (n k : ℕ) (xs : List A) → slice_get (drop n xs) k ≡ slice_get xs (n + k)
get_behind zero k xs = ap (slice_get xs) (let e : k ≡ 0 + k = omega arith in e)
get_behind (suc n) k [] = none_at k (suc n + k)
  where
    none_at : {A : Type 0} (a b : ℕ) → slice_get (let xs : List A = [] in xs) a ≡ slice_get [] b
    none_at zero zero = refl
    none_at zero (suc b) = refl
    none_at (suc a) zero = refl
    none_at (suc a) (suc b) = refl
get_behind (suc n) k (x ∷ xs) = get_behind n k xs ∙ ap (slice_get (x ∷ xs)) (let e : suc (n + k) ≡ suc n + k = omega arith in e)

-- so many instructions end where the last of them does
taken_ends : (k : ℕ) (code : List LowInstr) (instr : LowInstr) → slice_get code k ≡ Some instr → IsEnd instr → EndsLow (take (suc k) code)
taken_ends k [] instr e end = absurd (none-some instr e)
taken_ends zero (i ∷ code) instr e end = subst IsEnd (sym (same_Some i instr e)) end
taken_ends (suc k) (i ∷ []) instr e end = absurd (none-some instr e)
taken_ends (suc k) (i ∷ j ∷ code) instr e end = taken_ends k (j ∷ code) instr e end

all_end : (code : List LowInstr) (before : ℕ) (instr : LowInstr) → length code ≡ suc before → slice_get code before ≡ Some instr → IsEnd instr → EndsLow code
all_end [] before instr size e end = absurd (none-some instr e)
all_end (i ∷ []) zero instr size e end = subst IsEnd (sym (same_Some i instr e)) end
all_end (i ∷ []) (suc before) instr size e end = absurd (none-some instr e)
all_end (i ∷ j ∷ code) zero instr size e end = absurd (omega (arith, size))
all_end (i ∷ j ∷ code) (suc before) instr size e end = all_end (j ∷ code) before instr (omega (arith, size)) e end

module _ (code : List LowInstr) (forms : HaveForms code) where
  -- the code from a position up to one in front of which a block ends
  block_ends : (at next : ℕ) → at < next → EndsBefore code next → EndsLow (take (next - at) (drop at code))
  block_ends at next less ends =
      let is = ends.next in
      let place : at + (ends.before - at) ≡ ends.before = omega (arith, less, is) in
      let there : slice_get (drop at code) (ends.before - at) ≡ Some ends.instr = get_behind at (ends.before - at) code ∙ ap (slice_get code) place ∙ ends.there in
      let count : next - at ≡ suc (ends.before - at) = omega (arith, less, is) in
      subst (λ n. EndsLow (take n (drop at code))) (sym count)
      (taken_ends (ends.before - at) (drop at code) ends.instr there (is_end code ends.before ends.instr forms ends.there ends.stops))

  last_ends : (at : ℕ) → at < length code → EndsBefore code (length code) → EndsLow (drop at code)
  last_ends at less ends =
      let is = ends.next in
      let place : at + (ends.before - at) ≡ ends.before = omega (arith, less, is) in
      let there : slice_get (drop at code) (ends.before - at) ≡ Some ends.instr = get_behind at (ends.before - at) code ∙ ap (slice_get code) place ∙ ends.there in
      let size = length-drop at code in
      all_end (drop at code) (ends.before - at) ends.instr (omega (arith, size, less, is)) there (is_end code ends.before ends.instr forms ends.there ends.stops)

  ends_from : (at least : ℕ) (labels : List ℕ) → at < least → Spaced least labels (length code) → ((label : ℕ) → IsAmong labels label → EndsBefore code label)
      → EndsBefore code (length code) → BlocksEnd at labels (drop at code)
  unfolding Spaced BlocksEnd
  ends_from at least [] less s ends last = last_ends at (omega (arith, less, s)) last
  ends_from at least (next ∷ labels) less s ends last =
      let first = s.0 in
      let k = next - at in
      let behind : at + k ≡ next = omega (arith, less, first) in
      let same : drop k (drop at code) ≡ drop next code = drop-drop k at code ∙ ap (λ n. drop n code) behind in (
        block_ends at next (omega (arith, less, first)) (ends next (inl refl)),
        subst (λ c. BlocksEnd next labels c) (sym same) (ends_from next (suc next) labels (omega arith) s.1 (λ label among. ends label (inr among)) last),
      )

pub blocks_end : (code : List LowInstr) (labels : List ℕ) → InBlocks code labels → HaveForms code → BlocksEnd 0 labels code
blocks_end code labels is forms = ends_from code forms 0 1 labels (omega arith) is.rise is.ends is.last
