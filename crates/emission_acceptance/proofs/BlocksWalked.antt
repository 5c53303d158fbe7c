-- Stretches that are walked make blocks that stand.
use Rattle.std.proofs.Common.{◌≡◌, ◌⊎◌, inl, inr, ℕ, zero, suc, ◌+◌, ◌-◌, ◌<◌, ◌≤◌, List, [], ◌∷◌, ◌++◌, length, take, drop, map, Option, Some, refl, sym, ap, ◌∙◌, arith, subst, slice_get, take_all, drop-drop}
use Rattle.std.specs.List.{AllZip, Contains, slice_index_or}
use Rattle.std.proofs.lemmas.Option.{none-some, same_Some, slice_get_within}
use Rattle.std.proofs.lemmas.List.{length-drop}
use Rattle.state_types.specs.declared.state.StateType.{StateType}
use Rattle.operation_rules.specs.Rules.{Setting}
use Rattle.three_address.specs.declared.function.LowFun.{LowFun}
use Rattle.three_address.specs.declared.instruction.LowInstr.{LowInstr}
use Rattle.three_address.specs.declared.typed.Edge.{Edge}
use Rattle.dtal_code.specs.Acceptance.{CodeStands, CodeEnds, CodeGoesOn, BlocksStand, BlocksEnd, BlocksGoOn}
use Rattle.dtal_code.specs.declared.instruction.Instr.{Instr}
use Rattle.dtal_code.specs.declared.program.Block.{Block}
use Rattle.dtal_code.specs.declared.program.LabelState.{LabelState}
use Rattle.dtal_emit.specs.Emitted.{emitted_instr, emitted_all, blocks_from, label_state}
use Rattle.emission_laws.specs.ApartHomes.{Kept, Rise}
use Rattle.emission_acceptance.specs.TypesThrough.{Through, Walks, WalkEnds, WalkGoesOn, StretchStands}
use Rattle.emission_acceptance.proofs.MovesTyped.{walk_joined}
use Rattle.emission_acceptance.proofs.StatedLabels.{text_of}

-- ---- lists

drop_first : {A : Type 0} (xs : List A) (n : ℕ) (x : A) → slice_get xs n ≡ Some x → drop n xs ≡ x ∷ drop (suc n) xs
drop_first [] n x e = absurd (none-some x e)
drop_first (y ∷ xs) zero x e = ap (λ z. z ∷ xs) (same_Some y x e)
drop_first (y ∷ xs) (suc n) x e = drop_first xs n x e

record There {A : Type 0} (xs : List A) (at : ℕ) : Type 0 where
  value : A
  is : slice_get xs at ≡ Some value

there : {A : Type 0} (xs : List A) (at : ℕ) → at < length xs → There xs at
there [] at h = absurd (omega (arith, h))
there (x ∷ xs) zero h = record { value = x; is = refl }
there (x ∷ xs) (suc at) h = (let t = there xs at (omega (arith, h)) in record { value = t.value; is = t.is })

among : {A : Type 0} (x z : A) (xs : List A) → Contains (x ∷ xs) z → (x ≡ z) ⊎ Contains xs z
among x z xs c = by_place c.0 c.1 c.2
  where
    by_place : (k : ℕ) → k < length (x ∷ xs) → slice_index_or (x ∷ xs) k z ≡ z → (x ≡ z) ⊎ Contains xs z
    by_place zero h e = inl e
    by_place (suc k) h e = inr (k, omega (arith, h), e)

rise_least : (from : ℕ) (positions : List ℕ) (at : ℕ) → Rise from positions → Contains positions at → from ≤ at
unfolding Rise
rise_least from [] at r c = absurd (let h = c.1 in omega (arith, h))
rise_least from (next ∷ positions) at r c = elim (among next at positions c) [
  | inl same ↦ (let h = r.0 in omega (arith, h, same))
  | inr later ↦ (let h = r.0 in let k = rise_least next positions at r.1 later in omega (arith, h, k))
]

-- ---- walks of code

pub walks_stand : (st : Setting) (labels : List StateType) (state : StateType) (code : List Instr) (befores : List StateType) (last : StateType) → Walks st labels state code befores last
    → CodeStands st labels state code befores
walks_stand st labels _ _ _ _ (WalkEnds state) = CodeEnds state
walks_stand st labels _ _ _ last (WalkGoesOn state next _ instr code states e rest) =
    CodeGoesOn state next instr code states e (walks_stand st labels next code states last rest)

module _ (st : Setting) (fun : LowFun) (edges : List Edge) (homes : List ℕ) (kept : Kept) (states texts : List StateType) where
  -- the state over places before an instruction comes through to this one
  pub record Comes (at : ℕ) (text : StateType) : Type 0 where
    pub low : StateType
    pub is : slice_get states at ≡ Some low
    pub through : Through homes (kept at) low text

  abbrev pub StretchesStand : Type 0
  StretchesStand = (at : ℕ) (low text : StateType) (instr : LowInstr) (edge : Edge) → slice_get fun.code at ≡ Some instr → slice_get edges at ≡ Some edge
      → slice_get states at ≡ Some low → Through homes (kept at) low text → StretchStands st fun states homes kept texts at (emitted_instr homes instr edge) text

  module _ (stands : StretchesStand) (one_each : length states ≡ length fun.code) (edge_each : length edges ≡ length fun.code) where
    -- ---- one block

    record Walked (text : StateType) (code : List Instr) : Type 0 where
      befores : List StateType
      last : StateType
      walks : Walks st texts text code befores last

    abbrev NoLabel : (at to : ℕ) → Type 0
    NoLabel at to = (label : ℕ) → at < label → label < to → ¬ (Contains fun.labels label)

    pieces : ℕ → ℕ → List Instr
    pieces at k = emitted_all homes (take k (drop at fun.code)) (take k (drop at edges))

    none : (es : List Edge) → emitted_all homes [] es ≡ []
    unfolding emitted_all
    none es = refl

    one_more : (at k : ℕ) (instr : LowInstr) (edge : Edge) → slice_get fun.code at ≡ Some instr → slice_get edges at ≡ Some edge
        → pieces at (suc k) ≡ emitted_instr homes instr edge ++ pieces (suc at) k
    unfolding emitted_all pieces
    one_more at k instr edge e f =
        ap (λ l. emitted_all homes (take (suc k) l) (take (suc k) (drop at edges))) (drop_first fun.code at instr e)
        ∙ ap (λ l. emitted_all homes (instr ∷ take k (drop (suc at) fun.code)) (take (suc k) l)) (drop_first edges at edge f)

    walk_block : (k at : ℕ) (text : StateType) → at + k ≤ length fun.code → NoLabel at (at + k) → (0 < k → Comes at text) → Walked text (pieces at k)
    unfolding pieces
    walk_block zero at text fits free comes = record { befores = []; last = text; walks = subst (λ l. Walks st texts text l [] text) (sym (none [])) (WalkEnds text) }
    walk_block (suc k) at text fits free comes =
        let here = comes (omega arith) in
        let i = there fun.code at (omega (arith, fits)) in
        let e = there edges at (omega (arith, fits, edge_each)) in
        let s = stands at here.low text i.value e.value i.is e.is here.is here.through in
        let later = walk_block k (suc at) s.last (omega (arith, fits)) (λ label h l. free label (omega (arith, h)) (omega (arith, l)))
        (λ more. (let next = there states (suc at) (omega (arith, more, fits, one_each)) in
        let inside : suc at < length fun.code = omega (arith, more, fits) in
        record { low = next.value; is = next.is; through = s.through inside (free (suc at) (omega arith) (omega (arith, more))) next.value next.is })) in
        record {
          befores = s.befores ++ later.befores;
          last = later.last;
          walks = subst (λ l. Walks st texts text l (s.befores ++ later.befores) later.last) (sym (one_more at k i.value e.value i.is e.is))
              (walk_joined st texts text s.last later.last (emitted_instr homes i.value e.value) (pieces (suc at) k) s.befores later.befores s.walks later.walks);
        }

    -- ---- all blocks of a function

    pub record Standing (begins : List StateType) (blocks : List Block) : Type 0 where
      pub befores : List StateType
      pub stand : BlocksStand st texts begins blocks befores

    -- the state at a label comes through
    abbrev pub Marked : StateType → ℕ → Type 0
    Marked label at = Comes at (text_of homes label)

    -- each label behind a position is among these
    abbrev pub Reached : (at : ℕ) → List ℕ → Type 0
    Reached at positions = (label : ℕ) → Contains fun.labels label → at < label → Contains positions label

    last_block : (at : ℕ) (begin mid : StateType) (front : List Instr) (befores : List StateType) → Walks st texts begin front befores mid → Comes at mid → Reached at []
        → Walked begin (front ++ emitted_all homes (drop at fun.code) (drop at edges))
    unfolding pieces
    last_block at begin mid front befores walks comes reached =
        let code = drop at fun.code in
        let k = length code in
        let size = length-drop at fun.code in
        let also = length-drop at edges in
        let within_code = slice_get_within states at comes.low comes.is in
        let w = walk_block k at mid (omega (arith, size, within_code, one_each)) (λ label h l c. (let bad = reached label c h in let z = bad.1 in absurd (omega (arith, z)))) (λ h. comes) in
        let whole : pieces at k ≡ emitted_all homes code (drop at edges) =
        ap (λ l. emitted_all homes l (take k (drop at edges))) (take_all k code (omega arith))
        ∙ ap (λ l. emitted_all homes code l) (take_all k (drop at edges) (omega (arith, size, also, edge_each))) in
        record {
          befores = befores ++ w.befores;
          last = w.last;
          walks = subst (λ l. Walks st texts begin (front ++ l) (befores ++ w.befores) w.last) whole
              (walk_joined st texts begin mid w.last front (pieces at k) befores w.befores walks w.walks);
        }

    pub blocks_stand : (at : ℕ) (state : Option LabelState) (positions : List ℕ) (labels : List StateType) (begin mid : StateType) (front : List Instr) (befores : List StateType)
        → Walks st texts begin front befores mid → Comes at mid → Rise at positions → Reached at positions → AllZip Marked labels positions
        → Standing (begin ∷ map (text_of homes) labels) (blocks_from homes at state positions labels (drop at fun.code) (drop at edges) front)
    unfolding blocks_from Rise pieces
    blocks_stand at state [] [] begin mid front befores walks comes rise reached marked =
        let w = last_block at begin mid front befores walks comes reached in
        record {
          befores = w.befores ++ [];
          stand = BlocksGoOn begin [] (record { state = state; code = front ++ emitted_all homes (drop at fun.code) (drop at edges) }) [] w.befores []
              (walks_stand st texts begin _ w.befores w.last w.walks) BlocksEnd;
        }
    blocks_stand at state [] (label ∷ labels) begin mid front befores walks comes rise reached marked = absurd marked
    blocks_stand at state (next ∷ positions) [] begin mid front befores walks comes rise reached marked = absurd marked
    blocks_stand at state (next ∷ positions) (label ∷ labels) begin mid front befores walks comes rise reached marked =
        let k = next - at in
        let upto = rise.0 in
        let inside = slice_get_within states next marked.0.low marked.0.is in
        let w = walk_block k at mid (omega (arith, upto, inside, one_each)) (λ label h l c. no_label label h l (reached label c h)) (λ h. comes) in
        let text = text_of homes label in
        let behind : at + k ≡ next = omega (arith, upto) in
        let rest = blocks_stand next (Some (label_state homes label)) positions labels text text [] [] (WalkEnds text) marked.0 rise.1
        (λ l c h. later l h (among next l positions (reached l c (omega (arith, h, upto))))) marked.1 in
        let same_code : drop k (drop at fun.code) ≡ drop next fun.code = drop-drop k at fun.code ∙ ap (λ n. drop n fun.code) behind in
        let same_edges : drop k (drop at edges) ≡ drop next edges = drop-drop k at edges ∙ ap (λ n. drop n edges) behind in
        record {
          befores = (befores ++ w.befores) ++ rest.befores;
          stand = BlocksGoOn begin (text ∷ map (text_of homes) labels) (record { state = state; code = front ++ pieces at k })
              (blocks_from homes next (Some (label_state homes label)) positions labels (drop k (drop at fun.code)) (drop k (drop at edges)) [])
              (befores ++ w.befores) rest.befores
              (walks_stand st texts begin (front ++ pieces at k) (befores ++ w.befores) w.last (walk_joined st texts begin mid w.last front (pieces at k) befores w.befores walks w.walks))
              (subst (λ c. BlocksStand st texts (text ∷ map (text_of homes) labels) (blocks_from homes next (Some (label_state homes label)) positions labels c (drop k (drop at edges)) []) rest.befores) (sym same_code)
              (subst (λ es. BlocksStand st texts (text ∷ map (text_of homes) labels) (blocks_from homes next (Some (label_state homes label)) positions labels (drop next fun.code) es []) rest.befores) (sym same_edges)
              rest.stand));
        }
      where
        later : (l : ℕ) → next < l → (next ≡ l) ⊎ Contains positions l → Contains positions l
        later l h (inl same) = absurd (omega (arith, same, h))
        later l h (inr c) = c

        no_label : (l : ℕ) → at < l → l < at + (next - at) → Contains (next ∷ positions) l → ⊥
        no_label l h k c = (let least = rise_least next (next ∷ positions) l (omega arith, rise.1) c in let upto = rise.0 in absurd (omega (arith, least, h, k, upto)))
