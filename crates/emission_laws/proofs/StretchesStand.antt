-- Where the stretch of each instruction over places stands among the emitted instructions of its function, and where labels are.
use Rattle.std.proofs.Common.{◌≡◌, ℕ, zero, suc, ◌+◌, ◌-◌, ◌<◌, ◌≤◌, List, [], ◌∷◌, ◌++◌, length, take, drop, Option, Some, slice_get, refl, sym, ap, ◌∙◌, arith, append_assoc, append-nil, length-append}
use Rattle.std.proofs.lemmas.Option.{none-some, same_Some}
use Rattle.state_types.specs.declared.state.StateType.{StateType}
use Rattle.three_address.specs.declared.function.LowFun.{LowFun}
use Rattle.three_address.specs.declared.instruction.LowInstr.{LowInstr}
use Rattle.three_address.specs.declared.typed.Edge.{Edge}
use Rattle.dtal_code.specs.declared.instruction.Instr.{Instr}
use Rattle.dtal_code.specs.declared.program.LabelState.{LabelState}
use Rattle.dtal_code.specs.Grammar.{size_of}
use Rattle.dtal_code.specs.ObjectCode.{instrs_of}
use Rattle.dtal_emit.specs.Emitted.{emitted_instr, emitted_all, blocks_from, label_state, emitted_fun, emitted_funs}
use Rattle.emission_laws.specs.ApartHomes.{Rise}

module _ (homes : List ℕ) where
  -- how many instructions stand before the stretch at a position
  abbrev pub offset : List LowInstr → List Edge → (at : ℕ) → ℕ
  offset code edges at = length (emitted_all homes (take at code) (take at edges))

  all_without : (code : List LowInstr) → emitted_all homes code [] ≡ []
  unfolding emitted_all
  all_without [] = refl
  all_without (i ∷ code) = refl

  pub emitted_split : (k : ℕ) (code : List LowInstr) (edges : List Edge)
      → emitted_all homes code edges ≡ emitted_all homes (take k code) (take k edges) ++ emitted_all homes (drop k code) (drop k edges)
  unfolding emitted_all
  emitted_split zero code edges = refl
  emitted_split (suc k) [] edges = refl
  emitted_split (suc k) (i ∷ code) [] = sym (all_without (drop k code))
  emitted_split (suc k) (i ∷ code) (edge ∷ edges) =
      ap (λ rest. emitted_instr homes i edge ++ rest) (emitted_split k code edges)
      ∙ sym (append_assoc (emitted_instr homes i edge) (emitted_all homes (take k code) (take k edges)) (emitted_all homes (drop k code) (drop k edges)))

  pub record IsStretch (code : List LowInstr) (edges : List Edge) (at : ℕ) (i : LowInstr) (edge : Edge) : Type 0 where
    pub rest : List Instr
    pub is : emitted_all homes code edges ≡ emitted_all homes (take at code) (take at edges) ++ (emitted_instr homes i edge ++ rest)
    pub next : offset code edges (suc at) ≡ offset code edges at + length (emitted_instr homes i edge)

  pub stretch : (code : List LowInstr) (edges : List Edge) (at : ℕ) (i : LowInstr) (edge : Edge) → slice_get code at ≡ Some i → slice_get edges at ≡ Some edge
      → IsStretch code edges at i edge
  unfolding emitted_all
  stretch [] edges at i edge e f = absurd (none-some i e)
  stretch (j ∷ code) [] at i edge e f = absurd (none-some edge f)
  stretch (j ∷ code) (d ∷ edges) zero i edge e f =
      let same_i : j ≡ i = same_Some j i e in
      let same_e : d ≡ edge = same_Some d edge f in
      record {
        rest = emitted_all homes code edges;
        is = ap (λ x. emitted_instr homes x d ++ emitted_all homes code edges) same_i ∙ ap (λ x. emitted_instr homes i x ++ emitted_all homes code edges) same_e;
        next = length-append (emitted_instr homes j d) []
            ∙ (let z : length (emitted_instr homes j d) + 0 ≡ 0 + length (emitted_instr homes j d) = omega arith in z)
            ∙ ap (λ x. 0 + length (emitted_instr homes x d)) same_i ∙ ap (λ x. 0 + length (emitted_instr homes i x)) same_e;
      }
  stretch (j ∷ code) (d ∷ edges) (suc at) i edge e f =
      let later = stretch code edges at i edge e f in
      let a = length-append (emitted_instr homes j d) (emitted_all homes (take (suc at) code) (take (suc at) edges)) in
      let b = length-append (emitted_instr homes j d) (emitted_all homes (take at code) (take at edges)) in
      let c = later.next in
      record {
        rest = later.rest;
        is = ap (λ l. emitted_instr homes j d ++ l) later.is
            ∙ sym (append_assoc (emitted_instr homes j d) (emitted_all homes (take at code) (take at edges)) (emitted_instr homes i edge ++ later.rest));
        next = omega (arith, a, b, c);
      }

  -- ---- blocks

  pub instrs_are : (at : ℕ) (state : Option LabelState) (positions : List ℕ) (labels : List StateType) (code : List LowInstr) (edges : List Edge) (front : List Instr)
      → instrs_of (blocks_from homes at state positions labels code edges front) ≡ front ++ emitted_all homes code edges
  unfolding blocks_from instrs_of
  instrs_are at state [] labels code edges front = append-nil (front ++ emitted_all homes code edges)
  instrs_are at state (next ∷ positions) [] code edges front = append-nil (front ++ emitted_all homes code edges)
  instrs_are at state (next ∷ positions) (label ∷ labels) code edges front =
      let k = next - at in
      ap (λ rest. (front ++ emitted_all homes (take k code) (take k edges)) ++ rest) (instrs_are next (Some (label_state homes label)) positions labels (drop k code) (drop k edges) [])
      ∙ append_assoc front (emitted_all homes (take k code) (take k edges)) (emitted_all homes (drop k code) (drop k edges))
      ∙ ap (λ l. front ++ l) (sym (emitted_split k code edges))

  offset_sum : (a b : ℕ) (code : List LowInstr) (edges : List Edge) → offset code edges (a + b) ≡ offset code edges a + offset (drop a code) (drop a edges) b
  unfolding emitted_all
  offset_sum zero b code edges = (let z : 0 + b ≡ b = omega arith in let y : offset code edges b ≡ 0 + offset code edges b = omega arith in ap (offset code edges) z ∙ y)
  offset_sum (suc a) b [] edges = nothing (suc a + b) b edges (drop (suc a) edges)
    where
      nothing : (n m : ℕ) (es ds : List Edge) → offset [] es n ≡ 0 + offset [] ds m
      nothing zero zero es ds = refl
      nothing zero (suc m) es ds = refl
      nothing (suc n) zero es ds = refl
      nothing (suc n) (suc m) es ds = refl
  offset_sum (suc a) b (i ∷ code) [] = (let s : suc a + b ≡ suc (a + b) = omega arith in ap (offset (i ∷ code) []) s ∙ nothing (a + b) b code)
    where
      no_edges : (n m : ℕ) (is : List LowInstr) → length (emitted_all homes (take m is) (take m [])) ≡ 0
      no_edges n zero is = refl
      no_edges n (suc m) [] = refl
      no_edges n (suc m) (j ∷ is) = refl

      nothing : (n m : ℕ) (is : List LowInstr) → offset (i ∷ is) [] (suc n) ≡ 0 + offset (drop a is) [] m
      nothing n m is = sym (no_edges n m (drop a is)) ∙ (let z : offset (drop a is) [] m ≡ 0 + offset (drop a is) [] m = omega arith in z)
  offset_sum (suc a) b (i ∷ code) (edge ∷ edges) =
      let rest = offset_sum a b code edges in
      let one = length-append (emitted_instr homes i edge) (emitted_all homes (take (a + b) code) (take (a + b) edges)) in
      let two = length-append (emitted_instr homes i edge) (emitted_all homes (take a code) (take a edges)) in
      let s : suc a + b ≡ suc (a + b) = omega arith in
      ap (offset (i ∷ code) (edge ∷ edges)) s ∙ omega (arith, rest, one, two)

  pub record IsLabelled (at count : ℕ) (state : Option LabelState) (positions : List ℕ) (labels : List StateType) (code : List LowInstr) (edges : List Edge) (front : List Instr) (to : ℕ) : Type 0 where
    pub size : size_of (take (suc count) (blocks_from homes at state positions labels code edges front)) ≡ length front + offset code edges (to - at)
    pub there : suc count < length (blocks_from homes at state positions labels code edges front)
    pub behind : at ≤ to

  pub labelled : (at count : ℕ) (state : Option LabelState) (positions : List ℕ) (labels : List StateType) (code : List LowInstr) (edges : List Edge) (front : List Instr) (to : ℕ)
      → Rise at positions → length positions ≤ length labels → slice_get positions count ≡ Some to → IsLabelled at count state positions labels code edges front to
  unfolding blocks_from size_of Rise
  labelled at count state [] labels code edges front to rise many e = absurd (none-some to e)
  labelled at count state (next ∷ positions) [] code edges front to rise many e = absurd (omega (arith, many))
  labelled at zero state (next ∷ positions) (label ∷ labels) code edges front to rise many e =
      let k = next - at in
      let same : next ≡ to = same_Some next to e in
      let a = length-append front (emitted_all homes (take k code) (take k edges)) in
      record {
        size = (let z : length (front ++ emitted_all homes (take k code) (take k edges)) + 0 ≡ length front + offset code edges k = omega (arith, a) in z)
            ∙ ap (λ n. length front + offset code edges (n - at)) same;
        there = (let l = some_block next (Some (label_state homes label)) positions labels (drop k code) (drop k edges) [] in omega (arith, l));
        behind = (let r = rise.0 in omega (arith, r, same));
      }
    where
      some_block : (at : ℕ) (state : Option LabelState) (positions : List ℕ) (labels : List StateType) (code : List LowInstr) (edges : List Edge) (front : List Instr)
          → 0 < length (blocks_from homes at state positions labels code edges front)
      some_block at state [] labels code edges front = omega arith
      some_block at state (next ∷ positions) [] code edges front = omega arith
      some_block at state (next ∷ positions) (label ∷ labels) code edges front = omega arith
  labelled at (suc count) state (next ∷ positions) (label ∷ labels) code edges front to rise many e =
      let k = next - at in
      let rest = labelled next count (Some (label_state homes label)) positions labels (drop k code) (drop k edges) [] to rise.1 (omega (arith, many)) e in
      let a = length-append front (emitted_all homes (take k code) (take k edges)) in
      let sum = offset_sum k (to - next) code edges in
      let size = rest.size in
      let from = rise.0 in
      let behind = rest.behind in
      let whole : k + (to - next) ≡ to - at = omega (arith, from, behind) in
      record {
        size = ap (λ n. length (front ++ emitted_all homes (take k code) (take k edges)) + n) size ∙ omega (arith, a, sum) ∙ ap (λ n. length front + offset code edges n) whole;
        there = (let l = rest.there in omega (arith, l));
        behind = omega (arith, from, behind);
      }

-- ---- functions

pub emitted_found : (number : ℕ) (funs : List LowFun) (states : List (List StateType)) (edges : List (List Edge)) (homes : List (List ℕ)) (fun : LowFun) (labels : List StateType) (es : List Edge) (hs : List ℕ)
    → slice_get funs number ≡ Some fun → slice_get states number ≡ Some labels → slice_get edges number ≡ Some es → slice_get homes number ≡ Some hs
    → slice_get (emitted_funs funs states edges homes) number ≡ Some (emitted_fun fun labels es hs)
unfolding emitted_funs
emitted_found number [] states edges homes fun labels es hs e f g h = absurd (none-some fun e)
emitted_found number (x ∷ funs) [] edges homes fun labels es hs e f g h = absurd (none-some labels f)
emitted_found number (x ∷ funs) (y ∷ states) [] homes fun labels es hs e f g h = absurd (none-some es g)
emitted_found number (x ∷ funs) (y ∷ states) (z ∷ edges) [] fun labels es hs e f g h = absurd (none-some hs h)
emitted_found zero (x ∷ funs) (y ∷ states) (z ∷ edges) (u ∷ homes) fun labels es hs e f g h =
    ap (λ a. Some (emitted_fun a y z u)) (same_Some x fun e) ∙ ap (λ a. Some (emitted_fun fun a z u)) (same_Some y labels f)
    ∙ ap (λ a. Some (emitted_fun fun labels a u)) (same_Some z es g) ∙ ap (λ a. Some (emitted_fun fun labels es a)) (same_Some u hs h)
emitted_found (suc number) (x ∷ funs) (y ∷ states) (z ∷ edges) (u ∷ homes) fun labels es hs e f g h = emitted_found number funs states edges homes fun labels es hs e f g h
