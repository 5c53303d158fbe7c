-- The emitted program is of the grammar.
use Rattle.std.proofs.Common.{◌≡◌, ℕ, zero, suc, ◌-◌, ◌≤◌, Bool, true, false, List, [], ◌∷◌, ◌++◌, length, take, drop, Option, Some, None, nat_lt, if◌then◌else◌, refl, ap, ◌∙◌, arith, length-append}
use Rattle.std.proofs.lemmas.Bool.Decides.{nat_tests}
use Rattle.state_types.specs.declared.state.StateType.{StateType}
use Rattle.three_address.specs.declared.assignment.Assignment.{Assignment}
use Rattle.three_address.specs.declared.function.LowFun.{LowFun}
use Rattle.three_address.specs.declared.instruction.LowInstr.{LowInstr}
use Rattle.three_address.specs.declared.typed.Edge.{Edge}
use Rattle.three_address.specs.declared.typed.Typed.{Typed}
use Rattle.dtal_code.specs.declared.instruction.Instr.{Instr}
use Rattle.dtal_code.specs.declared.limits.TheConstants.{LAST_NUMBER}
use Rattle.dtal_code.specs.declared.program.Block.{Block}
use Rattle.dtal_code.specs.declared.program.LabelState.{LabelState}
use Rattle.dtal_code.specs.Grammar.{IsLabelState, IsLabelled, AreBlocks, IsInstr, IsFunction, InGrammar, size_of}
use Rattle.dtal_code.specs.ObjectCode.{instrs_of}
use Rattle.dtal_emit.specs.Emitted.{fewer, emitted_all, label_state, blocks_from, emitted_fun, emitted_funs, emitted}
use Rattle.dtal_emit.specs.Homes.{home_of, entry_moves}
use Rattle.emission_laws.specs.ApartHomes.{IsHome}
use Rattle.emission_laws.specs.EmittedRanges.{Each, AreRanged, BlocksEnd, IsRangedFun, AreRangedFuns, IsRanged}
use Rattle.emission_laws.proofs.EmittedGrammar.{each_all, entry_in, code_in}
use Rattle.emission_laws.proofs.LabelHomes.{states_in}
use Rattle.emission_laws.proofs.StretchesStand.{instrs_are}

-- ---- lists that are cut alike

ranged_take : (k : ℕ) (code : List LowInstr) (edges : List Edge) → AreRanged code edges → AreRanged (take k code) (take k edges)
unfolding AreRanged
ranged_take zero code edges r = tt
ranged_take (suc k) [] edges r = tt
ranged_take (suc k) (i ∷ code) [] r = tt
ranged_take (suc k) (i ∷ code) (edge ∷ edges) r = (r.0, ranged_take k code edges r.1)

nothing_ranged : (code : List LowInstr) → AreRanged code []
unfolding AreRanged
nothing_ranged [] = tt
nothing_ranged (i ∷ code) = tt

ranged_drop : (k : ℕ) (code : List LowInstr) (edges : List Edge) → AreRanged code edges → AreRanged (drop k code) (drop k edges)
unfolding AreRanged
ranged_drop zero code edges r = r
ranged_drop (suc k) [] edges r = tt
ranged_drop (suc k) (i ∷ code) [] r = nothing_ranged (drop k code)
ranged_drop (suc k) (i ∷ code) (edge ∷ edges) r = ranged_drop k code edges r.1

take_alike : {A B : Type 0} (k : ℕ) (xs : List A) (ys : List B) → length ys ≡ length xs → length (take k ys) ≡ length (take k xs)
take_alike zero xs ys e = refl
take_alike (suc k) [] [] e = refl
take_alike (suc k) [] (y ∷ ys) e = absurd (omega (arith, e))
take_alike (suc k) (x ∷ xs) [] e = absurd (omega (arith, e))
take_alike (suc k) (x ∷ xs) (y ∷ ys) e = ap suc (take_alike k xs ys (omega (arith, e)))

drop_alike : {A B : Type 0} (k : ℕ) (xs : List A) (ys : List B) → length ys ≡ length xs → length (drop k ys) ≡ length (drop k xs)
drop_alike zero xs ys e = e
drop_alike (suc k) [] [] e = refl
drop_alike (suc k) [] (y ∷ ys) e = absurd (omega (arith, e))
drop_alike (suc k) (x ∷ xs) [] e = absurd (omega (arith, e))
drop_alike (suc k) (x ∷ xs) (y ∷ ys) e = drop_alike k xs ys (omega (arith, e))

-- ---- blocks

module _ (homes : List ℕ) (homes_are : (place : ℕ) → IsHome (home_of homes place)) where
  AreStated : List StateType → Type 0
  AreStated labels = Each (λ label. IsLabelState (label_state homes label)) labels

  later_blocks : (at : ℕ) (state : LabelState) (positions : List ℕ) (labels : List StateType) (code : List LowInstr) (edges : List Edge) → IsLabelState state → AreStated labels
      → length labels ≡ length positions → AreRanged code edges → length edges ≡ length code → BlocksEnd at positions code
      → Each IsLabelled (blocks_from homes at (Some state) positions labels code edges [])
  unfolding blocks_from BlocksEnd AreStated
  later_blocks at state [] labels code edges s ls m r e ends = (record { state = s; code = code_in homes homes_are [] code edges tt r (omega (arith, e)) ends }, tt)
  later_blocks at state (next ∷ positions) [] code edges s ls m r e ends = absurd (omega (arith, m))
  later_blocks at state (next ∷ positions) (label ∷ labels) code edges s ls m r e ends =
      let k = next - at in
      let cut = take_alike k code edges e in (
        record { state = s; code = code_in homes homes_are [] (take k code) (take k edges) tt (ranged_take k code edges r) (omega (arith, cut)) ends.0 },
        later_blocks next (label_state homes label) positions labels (drop k code) (drop k edges) ls.0 ls.1 (omega (arith, m)) (ranged_drop k code edges r) (drop_alike k code edges e) ends.1,
      )

  block_count : (at : ℕ) (state : Option LabelState) (positions : List ℕ) (labels : List StateType) (code : List LowInstr) (edges : List Edge) (front : List Instr)
      → length (blocks_from homes at state positions labels code edges front) ≤ suc (length positions)
  unfolding blocks_from
  block_count at state [] labels code edges front = omega arith
  block_count at state (next ∷ positions) [] code edges front = omega arith
  block_count at state (next ∷ positions) (label ∷ labels) code edges front =
      (let l = block_count next (Some (label_state homes label)) positions labels (drop (next - at) code) (drop (next - at) edges) [] in omega (arith, l))

  first_blocks : (positions : List ℕ) (labels : List StateType) (code : List LowInstr) (edges : List Edge) (front : List Instr) → Each IsInstr front → AreStated labels
      → length labels ≡ length positions → length positions ≤ LAST_NUMBER → AreRanged code edges → length edges ≡ length code → BlocksEnd 0 positions code
      → AreBlocks (blocks_from homes 0 None positions labels code edges front)
  unfolding blocks_from BlocksEnd AreStated
  first_blocks [] labels code edges front f ls m few r e ends = (refl, code_in homes homes_are front code edges f r (omega (arith, e)) ends, omega arith, each_all IsLabelled [] tt)
  first_blocks (next ∷ positions) [] code edges front f ls m few r e ends = absurd (omega (arith, m))
  first_blocks (next ∷ positions) (label ∷ labels) code edges front f ls m few r e ends =
      let k = next - 0 in
      let cut = take_alike k code edges e in
      let count = block_count next (Some (label_state homes label)) positions labels (drop k code) (drop k edges) [] in (
        refl,
        code_in homes homes_are front (take k code) (take k edges) f (ranged_take k code edges r) (omega (arith, cut)) ends.0,
        omega (arith, count, few),
        each_all IsLabelled _ (later_blocks next (label_state homes label) positions labels (drop k code) (drop k edges) ls.0 ls.1 (omega (arith, m)) (ranged_drop k code edges r) (drop_alike k code edges e) ends.1),
      )

-- ---- functions

size_is : (blocks : List Block) → size_of blocks ≡ length (instrs_of blocks)
unfolding size_of instrs_of
size_is [] = refl
size_is (block ∷ blocks) = (let r = size_is blocks in let a = length-append block.code (instrs_of blocks) in omega (arith, r, a))

fewer_is : (n : ℕ) → fewer 8 n ≤ 8
fewer_is n = by_test (nat_lt 8 n) refl
  where
    by_test : (t : Bool) → nat_lt 8 n ≡ t → (if t then 8 else n) ≤ 8
    by_test true e = omega arith
    by_test false e = grind (arith, nat_tests)

fun_in : (fun : LowFun) (labels : List StateType) (edges : List Edge) (homes : List ℕ) → IsRangedFun fun labels edges homes → IsFunction (emitted_fun fun labels edges homes)
unfolding AreStated
fun_in fun labels edges homes r =
    let front = entry_moves homes (fewer 8 (length fun.sig.params)) in
    let blocks = blocks_from homes 0 None fun.labels labels fun.code edges front in
    let size : size_of blocks ≡ length (front ++ emitted_all homes fun.code edges) = size_is blocks ∙ ap length (instrs_are homes 0 None fun.labels labels fun.code edges front) in
    let sum = length-append front (emitted_all homes fun.code edges) in
    let few = r.few in
    record {
      name = r.name;
      sig = r.sig;
      blocks = first_blocks homes r.homes_are fun.labels labels fun.code edges front (entry_in homes r.homes_are (fewer 8 (length fun.sig.params)) (fewer_is (length fun.sig.params)))
          (states_in homes r.homes_are labels r.states) r.label_each r.few_labels r.instrs r.edge_each r.ends;
      few = omega (arith, size, sum, few);
    }

funs_in : (funs : List LowFun) (states : List (List StateType)) (edges : List (List Edge)) (homes : List (List ℕ)) → AreRangedFuns funs states edges homes
    → Each IsFunction (emitted_funs funs states edges homes)
unfolding AreRangedFuns emitted_funs
funs_in [] states edges homes r = tt
funs_in (fun ∷ funs) [] edges homes r = tt
funs_in (fun ∷ funs) (labels ∷ states) [] homes r = tt
funs_in (fun ∷ funs) (labels ∷ states) (es ∷ edges) [] r = tt
funs_in (fun ∷ funs) (labels ∷ states) (es ∷ edges) (hs ∷ homes) r = (fun_in fun labels es hs r.0, funs_in funs states edges homes r.1)

fun_count : (funs : List LowFun) (states : List (List StateType)) (edges : List (List Edge)) (homes : List (List ℕ)) → length (emitted_funs funs states edges homes) ≤ length funs
unfolding emitted_funs
fun_count [] states edges homes = omega arith
fun_count (fun ∷ funs) [] edges homes = omega arith
fun_count (fun ∷ funs) (labels ∷ states) [] homes = omega arith
fun_count (fun ∷ funs) (labels ∷ states) (es ∷ edges) [] = omega arith
fun_count (fun ∷ funs) (labels ∷ states) (es ∷ edges) (hs ∷ homes) = (let l = fun_count funs states edges homes in omega (arith, l))

pub program_in : (typed : Typed) (homes : Assignment) → IsRanged typed homes → InGrammar (emitted typed homes)
unfolding emitted
program_in typed homes r =
    let count = fun_count typed.low.funs typed.states typed.edges homes.homes in
    let few = r.few_funs in
    record {
      few_types = r.few_types;
      types = r.types;
      few_funs = omega (arith, count, few);
      funs = each_all IsFunction _ (funs_in typed.low.funs typed.states typed.edges homes.homes r.funs);
    }
