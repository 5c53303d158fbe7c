-- Each function of carried code has a text, where its types, signatures and blocks have, and each of its places is in a slot.
use Rattle.std.proofs.Common.{◌≡◌, ℕ, zero, suc, ◌+◌, ◌-◌, ◌<◌, ◌≤◌, List, [], ◌∷◌, length, take, drop, slice_get, inl, inr, ◌⊎◌, Some, refl, sym, ap, subst, arith}
use Rattle.std.specs.Prelude.{IsTrue}
use Rattle.std.specs.List.{AllZip, slice_index_or}
use Rattle.std.proofs.lemmas.Option.{slice_get_within}
use Rattle.state_types.specs.declared.state.StateType.{StateType}
use Rattle.three_address.specs.Typing.{IsLabel, IsTypedFun}
use Rattle.three_address.specs.declared.function.LowFun.{LowFun}
use Rattle.three_address.specs.declared.function.Lowered.{Lowered}
use Rattle.three_address.specs.declared.instruction.LowInstr.{LowInstr}
use Rattle.three_address.specs.declared.typed.Edge.{Edge}
use Rattle.dtal_code.specs.Grammar.{IsSignature}
use Rattle.dtal_code.specs.Lower.{is_lower}
use Rattle.dtal_emit.specs.Emitted.{fewer}
use Rattle.dtal_emit.specs.Homes.{home_of}
use Rattle.emission_laws.specs.ApartHomes.{IsHome, AreSlots}
use Rattle.emission_laws.specs.EmittedRanges.{BlocksEnd, EndsLow, IsRangedFun, AreRangedFuns}
use Rattle.lowered_acceptance.specs.FormedCode.{HaveForms}
use Rattle.carried_acceptance.specs.WrittenParts.{HasNumbers}
use Rattle.carried_acceptance.proofs.CodeRanged.{present, code_ranged}
use Rattle.carried_acceptance.proofs.FewEmitted.{entry_few, fewer_few, all_few}
use Rattle.carried_acceptance.proofs.LabelsRanged.{labels_ranged}
use Rattle.carried_acceptance.proofs.TextedEdges.{IsCarriedIn}

-- ---- homes

past_end : (homes : List ℕ) (place : ℕ) → length homes ≤ place → slice_index_or homes place 0 ≡ 0
past_end [] place le = refl
past_end (home ∷ homes) zero le = absurd (omega (arith, le))
past_end (home ∷ homes) (suc place) le = past_end homes place (omega (arith, le))

side_of : (place places : ℕ) → (place < places) ⊎ (places ≤ place)
side_of place zero = inr (omega arith)
side_of zero (suc places) = inl (omega arith)
side_of (suc place) (suc places) = by_side (side_of place places)
  where
    by_side : (place < places) ⊎ (places ≤ place) → (suc place < suc places) ⊎ (suc places ≤ suc place)
    by_side (inl h) = inl (omega (arith, h))
    by_side (inr h) = inr (omega (arith, h))

pub slots_are_homes : (homes : List ℕ) (places : ℕ) → AreSlots homes places → (place : ℕ) → IsHome (home_of homes place)
slots_are_homes homes places slots place = by_side (side_of place places)
  where
    by_side : (place < places) ⊎ (places ≤ place) → IsHome (home_of homes place)
    by_side (inl h) =
        let few = slots.few in
        let e = slots.each place h in
        subst IsHome (sym e) (record { low = λ l. omega arith; within = omega (arith, few, h) })
    by_side (inr h) =
        let many = slots.as_many in
        subst IsHome (sym (past_end homes place (omega (arith, many, h)))) (record { low = λ l. absurd (omega (arith, l)); within = omega arith })

-- ---- labels

some_there : (code : List LowInstr) → EndsLow code → 1 ≤ length code
some_there [] ends = absurd ends
some_there (i ∷ code) ends = omega arith

cut_long : (n : ℕ) (code : List LowInstr) → length (take n code) + length (drop n code) ≡ length code
cut_long zero code = omega arith
cut_long (suc n) [] = refl
cut_long (suc n) (i ∷ code) = (let h = cut_long n code in omega (arith, h))

-- each block has an instruction
pub labels_few : (at : ℕ) (positions : List ℕ) (code : List LowInstr) → BlocksEnd at positions code → length positions ≤ length code
unfolding BlocksEnd
labels_few at [] code ends = omega arith
labels_few at (next ∷ positions) code ends =
    let one = some_there (take (next - at) code) ends.0 in
    let later = labels_few next positions (drop (next - at) code) ends.1 in
    let both = cut_long (next - at) code in
    omega (arith, one, later, both)

as_long : {A B : Type 0} (R : A → B → Type 0) (xs : List A) (ys : List B) → AllZip R xs ys → length xs ≡ length ys
as_long R [] [] all = refl
as_long R [] (y ∷ ys) all = absurd all
as_long R (x ∷ xs) [] all = absurd all
as_long R (x ∷ xs) (y ∷ ys) all = ap suc (as_long R xs ys all.1)

-- ---- a function

pub forms_there : (low : Lowered) (fun : LowFun) (labels : List StateType) (edges : List Edge) → IsTypedFun low fun labels edges → HaveForms fun.code
forms_there low fun labels edges typed = λ at instr e.
    (let h = slice_get_within fun.code at instr e in
    let one_each = typed.one_each in
    let edge_each = typed.edge_each in
    let s = present typed.states at (omega (arith, h, one_each)) in
    let d = present edges at (omega (arith, h, edge_each)) in
    let a = typed.allowed at s.value instr d.value s.there e d.there in
    (a.i, a.is))

pub function_ranged : (low : Lowered) (fun : LowFun) (labels : List StateType) (edges : List Edge) (homes : List ℕ) → length low.table ≤ 65536 → IsTrue (is_lower fun.name) → IsSignature fun.sig
    → AreSlots homes fun.places → length fun.code ≤ 1000000000 → ((at : ℕ) (instr : LowInstr) → slice_get fun.code at ≡ Some instr → HasNumbers instr) → BlocksEnd 0 fun.labels fun.code
    → IsTypedFun low fun labels edges → IsCarriedIn low.table fun.places labels edges → IsRangedFun fun labels edges homes
function_ranged low fun labels edges homes few_types name sig slots few numbers ends typed carried =
    let many = labels_few 0 fun.labels fun.code ends in
    let first = entry_few homes (fewer 8 (length fun.sig.params)) in
    let eight = fewer_few 8 (length fun.sig.params) in
    let later = all_few homes fun.code edges in
    record {
      name = name;
      sig = sig;
      homes_are = slots_are_homes homes fun.places slots;
      instrs = code_ranged low fun labels edges few_types numbers typed carried;
      edge_each = typed.edge_each;
      states = labels_ranged low.table fun.places labels few_types carried.labels_in;
      label_each = as_long (λ label at. IsLabel low.table fun.sig label (slice_get typed.states at)) labels fun.labels typed.label_each;
      few_labels = omega (arith, many, few);
      ends = ends;
      few = omega (arith, first, eight, later, few);
    }

-- ---- all functions

pub functions_ranged : (funs : List LowFun) (states : List (List StateType)) (edges : List (List Edge)) (homes : List (List ℕ))
    → ((n : ℕ) (fun : LowFun) (labels : List StateType) (es : List Edge) (hs : List ℕ) → slice_get funs n ≡ Some fun → slice_get states n ≡ Some labels → slice_get edges n ≡ Some es
    → slice_get homes n ≡ Some hs → IsRangedFun fun labels es hs)
    → AreRangedFuns funs states edges homes
unfolding AreRangedFuns
functions_ranged (fun ∷ funs) (labels ∷ states) (es ∷ edges) (hs ∷ homes) each =
    (each 0 fun labels es hs refl refl refl refl, functions_ranged funs states edges homes (λ n f l e h a b c d. each (suc n) f l e h a b c d))
functions_ranged [] states edges homes each = tt
functions_ranged (fun ∷ funs) [] edges homes each = tt
functions_ranged (fun ∷ funs) (labels ∷ states) [] homes each = tt
functions_ranged (fun ∷ funs) (labels ∷ states) (es ∷ edges) [] each = tt
