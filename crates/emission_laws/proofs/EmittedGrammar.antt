-- Emitted instructions and blocks are of the grammar.
use Rattle.std.proofs.Common.{◌≡◌, ℕ, zero, suc, ◌+◌, ◌<◌, ◌≤◌, FitsSigned, IsTrue, ℤ, Bool, true, false, List, [], ◌∷◌, ◌++◌, length, map, take, drop, Option, Some, None, if◌then◌else◌, refl, sym, ap, subst, ◌∙◌, arith, append-nil}
use Rattle.std.specs.Int.{w64}
use Rattle.std.specs.List.{All}
use Rattle.std.proofs.lemmas.Bool.Decides.{nat_tests}
use Rattle.std.proofs.lemmas.List.Elements.{All-nil, All-cons}
use Rattle.std.proofs.lemmas.List.{length-map}
use Rattle.proof_lines.specs.declared.line.Line.{Line}
use Rattle.three_address.specs.Splits.{Parts, parts_by, parts_of}
use Rattle.three_address.specs.declared.instruction.LowInstr.{LowInstr}
use Rattle.three_address.specs.declared.instruction.Op22.{Op22}
use Rattle.three_address.specs.declared.instruction.Op22.TheVariants as low
use Rattle.three_address.specs.declared.typed.Edge.{Edge}
use Rattle.three_address.specs.declared.typed.ProvedRow.{ProvedRow}
use Rattle.dtal_code.specs.declared.instruction.Instr.{Instr}
use Rattle.dtal_code.specs.declared.instruction.Op.TheVariants as op
use Rattle.dtal_code.specs.Grammar.{IsNumber, IsTypeNumber, IsListed, IsOpIn, IsWay, AreLinesIn, IsInstr, is_last, EndsLast, IsCode}
use Rattle.dtal_code.specs.Spelling.{has_edge}
use Rattle.dtal_emit.specs.Acting.{nth, type_of, takes_places, acting}
use Rattle.dtal_emit.specs.Homes.{home_of, homes_of, is_slot, alone, moved_if, scratch_behind, loads, registers, results, stores, entry_move, entry_moves}
use Rattle.dtal_emit.specs.Emitted.{rank, count_before, inserted, ordered_from, ordered, with_edge, by_kind, with_parts, emitted_instr, emitted_all}
use Rattle.emission_laws.specs.ApartHomes.{IsHome, names_type}
use Rattle.emission_laws.specs.EmittedRanges.{Each, goes_to_label, IsRangedInstr, AreRanged, ends_block, IsEnd, EndsLow}
use Rattle.emission_laws.proofs.ActingForms.{are_few, fixed_counted}

-- ---- lists

pub each_all : {A : Type 0} (P : A → Type 0) (xs : List A) → Each P xs → All P xs
each_all P [] e = All-nil P
each_all P (x ∷ xs) e = All-cons P x xs e.0 (each_all P xs e.1)

each_append : {A : Type 0} (P : A → Type 0) (xs ys : List A) → Each P xs → Each P ys → Each P (xs ++ ys)
each_append P [] ys e f = f
each_append P (x ∷ xs) ys e f = (e.0, each_append P xs ys e.1 f)

each_take : {A : Type 0} (P : A → Type 0) (n : ℕ) (xs : List A) → Each P xs → Each P (take n xs)
each_take P zero xs e = tt
each_take P (suc n) [] e = tt
each_take P (suc n) (x ∷ xs) e = (e.0, each_take P n xs e.1)

each_drop : {A : Type 0} (P : A → Type 0) (n : ℕ) (xs : List A) → Each P xs → Each P (drop n xs)
each_drop P zero xs e = e
each_drop P (suc n) [] e = tt
each_drop P (suc n) (x ∷ xs) e = each_drop P n xs e.1

few_taken : {A : Type 0} (n : ℕ) (xs : List A) → length (take n xs) ≤ n
few_taken zero xs = omega arith
few_taken (suc n) [] = omega arith
few_taken (suc n) (x ∷ xs) = (let l = few_taken n xs in omega (arith, l))

taken_less : {A : Type 0} (n m : ℕ) (xs : List A) → length xs ≤ m → length (take n xs) ≤ m
taken_less zero m xs h = omega arith
taken_less (suc n) m [] h = omega arith
taken_less (suc n) zero (x ∷ xs) h = absurd (omega (arith, h))
taken_less (suc n) (suc m) (x ∷ xs) h = (let l = taken_less n m xs (omega (arith, h)) in omega (arith, l))

nth_in : (bound : ℕ) → 0 < bound → (xs : List ℕ) → Each (λ x. x < bound) xs → (k : ℕ) → nth xs k < bound
nth_in bound h [] e k = h
nth_in bound h (x ∷ xs) e zero = e.0
nth_in bound h (x ∷ xs) e (suc k) = nth_in bound h xs e.1 k

-- ---- the instruction that acts

module _ (number : ℤ) (target : ℕ) (ws rs : List ℕ) (fits : FitsSigned w64 number) (numbered : IsNumber target) where
  -- the number, where it is a type's
  abbrev IsTyped : Op22 → Type 0
  IsTyped o = names_type o ≡ true → IsTypeNumber (type_of number)

  in_registers : (o : Op22) → takes_places o ≡ false → IsTyped o → Each (λ x. x < 16) ws → Each (λ x. x < 16) rs → IsOpIn (acting o number target ws rs)
  in_registers o t typed w r = by_op o t typed (nth_in 16 (omega arith) ws w) (nth_in 16 (omega arith) rs r)
    where
      by_op : (o : Op22) → takes_places o ≡ false → IsTyped o → ((k : ℕ) → nth ws k < 16) → ((k : ℕ) → nth rs k < 16) → IsOpIn (acting o number target ws rs)
      by_op low.Li t typed w r = (w 0, fits)
      by_op low.Lb t typed w r = w 0
      by_op low.Add t typed w r = (w 0, r 0, r 1)
      by_op low.Sub t typed w r = (w 0, r 0, r 1)
      by_op low.Mul t typed w r = (w 0, r 0, r 1)
      by_op low.Div t typed w r = (w 0, r 0, r 1)
      by_op low.Mod t typed w r = (w 0, r 0, r 1)
      by_op low.Set t typed w r = (w 0, r 0, r 1)
      by_op low.Br t typed w r = (r 0, r 1, numbered)
      by_op low.Bt t typed w r = (r 0, numbered)
      by_op low.Bf t typed w r = (r 0, numbered)
      by_op low.Jmp t typed w r = numbered
      by_op low.Len t typed w r = (w 0, r 0)
      by_op low.Ld t typed w r = (w 0, r 0, r 1)
      by_op low.St t typed w r = (r 0, r 1, r 2)
      by_op low.New t typed w r = (w 0, typed refl, r 0, r 1)
      by_op low.Print t typed w r = r 0
      by_op _ t typed w r = absurd (let bad : ⊥ = cc in bad)

  listed : (places : List ℕ) → length places ≤ 8 → Each (λ x. x < 256) places → IsListed places
  listed places few e = record { few = few; are = each_all (λ x. x < 256) places e }

  in_places : (o : Op22) → takes_places o ≡ true → IsTyped o → length ws ≤ 8 → length rs ≤ 8 → Each (λ x. x < 256) ws → Each (λ x. x < 256) rs → IsOpIn (acting o number target ws rs)
  in_places low.Mv t typed fw fr w r = (nth_in 256 (omega arith) ws w 0, nth_in 256 (omega arith) rs r 0)
  in_places low.Call t typed fw fr w r = (numbered, nth_in 256 (omega arith) ws w 0, listed rs fr r)
  in_places low.Ret t typed fw fr w r = nth_in 256 (omega arith) rs r 0
  in_places low.Tup t typed fw fr w r = (nth_in 256 (omega arith) ws w 0, typed refl, listed rs fr r)
  in_places low.Untup t typed fw fr w r = (typed refl, nth_in 256 (omega arith) rs r 0, listed ws fw w)
  in_places _ t typed fw fr w r = absurd (let bad : ⊥ = cc in bad)

  same_way : (o : Op22) → has_edge (acting o number target ws rs) ≡ goes_to_label o
  same_way low.Br = refl
  same_way low.Bt = refl
  same_way low.Bf = refl
  same_way low.Jmp = refl
  same_way _ = refl

-- ---- lines

each_ordered : (homes : List ℕ) (bys : List ProvedRow) (ranks : List ℕ) (made : List (List Line)) → Each (λ (b : ProvedRow). AreLinesIn b.lines) bys → Each AreLinesIn made
    → Each AreLinesIn (ordered_from homes bys ranks made)
unfolding ordered_from
each_ordered homes [] ranks made e m = m
each_ordered homes (by ∷ bys) ranks made e m =
    let at = count_before (rank homes by.place) ranks in
    each_ordered homes bys (inserted at (rank homes by.place) ranks) (inserted at by.lines made) e.1
    (each_append AreLinesIn (take at made) (by.lines ∷ drop at made) (each_take AreLinesIn at made m) (e.0, each_drop AreLinesIn at made m))

-- ---- a stretch

module _ (homes : List ℕ) (homes_are : (place : ℕ) → IsHome (home_of homes place)) where
  move_in : (to from : ℕ) → to < 256 → from < 256 → IsInstr (alone (op.Mv to from))
  move_in to from t f = record { op = (t, f); way = refl; by = All-nil AreLinesIn }

  moved_in : (k : Bool) (to from : ℕ) → to < 256 → from < 256 → Each IsInstr (moved_if k to from)
  moved_in true to from t f = (move_in to from t f, tt)
  moved_in false to from t f = tt

  homes_in : (places : List ℕ) → Each IsHome (map (home_of homes) places)
  homes_in [] = tt
  homes_in (p ∷ places) = (homes_are p, homes_in places)

  within_all : (hs : List ℕ) → Each IsHome hs → Each (λ x. x < 256) hs
  within_all [] e = tt
  within_all (h ∷ hs) e = (let is = e.0 in is.within, within_all hs e.1)

  loads_in : (hs : List ℕ) (scratch : ℕ) → Each IsHome hs → scratch + length hs ≤ 256 → Each IsInstr (loads scratch hs)
  unfolding loads
  loads_in [] scratch e m = tt
  loads_in (h ∷ hs) scratch e m =
      each_append IsInstr (moved_if (is_slot h) scratch h) (loads (scratch_behind scratch h) hs) (moved_in (is_slot h) scratch h (omega (arith, m)) (let is = e.0 in is.within))
      (later (is_slot h) (loads_in hs (suc scratch) e.1 (omega (arith, m))) (loads_in hs scratch e.1 (omega (arith, m))))
    where
      later : (k : Bool) → Each IsInstr (loads (suc scratch) hs) → Each IsInstr (loads scratch hs) → Each IsInstr (loads (if k then suc scratch else scratch) hs)
      later true one two = one
      later false one two = two

  -- a register, whether it is the home or the next scratch register
  in_register : (k : Bool) (scratch home : ℕ) → is_slot home ≡ k → scratch < 16 → (if k then scratch else home) < 16
  in_register true scratch home e s = s
  in_register false scratch home e s = grind (arith, nat_tests)

  registers_in : (hs : List ℕ) (scratch : ℕ) → scratch + length hs ≤ 16 → Each (λ x. x < 16) (registers scratch hs)
  unfolding registers
  registers_in [] scratch m = tt
  registers_in (h ∷ hs) scratch m =
      (in_register (is_slot h) scratch h refl (omega (arith, m)), later (is_slot h) (registers_in hs (suc scratch) (omega (arith, m))) (registers_in hs scratch (omega (arith, m))))
    where
      later : (k : Bool) → Each (λ x. x < 16) (registers (suc scratch) hs) → Each (λ x. x < 16) (registers scratch hs) → Each (λ x. x < 16) (registers (if k then suc scratch else scratch) hs)
      later true one two = one
      later false one two = two

  results_in : (hs : List ℕ) → Each (λ x. x < 16) (results hs)
  results_in [] = tt
  results_in (h ∷ hs) = (in_register (is_slot h) 13 h refl (omega arith), tt)

  stores_in : (hs : List ℕ) → Each IsHome hs → Each IsInstr (stores hs)
  stores_in [] e = tt
  stores_in (h ∷ hs) e = moved_in (is_slot h) h 13 (let is = e.0 in is.within) (omega arith)

  -- what stands with the acting instruction is in the grammar
  with_edge_in : (i : LowInstr) (edge : Edge) (ws rs : List ℕ) → IsRangedInstr i edge → IsOpIn (acting i.op i.number i.target ws rs) → IsInstr (with_edge homes i edge ws rs)
  with_edge_in i edge ws rs ranged acts = record {
    op = acts;
    way = subst (λ b. IsWay b edge.values) (sym (same_way i.number i.target ws rs ranged.number ranged.target i.op)) ranged.way;
    by = each_all AreLinesIn (ordered homes edge.by) (each_ordered homes edge.by [] [] ranged.by tt);
  }

  kind_in : (k : Bool) (i : LowInstr) (edge : Edge) (parts : Parts) → takes_places i.op ≡ k → parts_of i ≡ Some parts → IsRangedInstr i edge
      → Each IsInstr (by_kind k homes i edge (homes_of homes parts.0) (homes_of homes parts.1))
  unfolding parts_of
  kind_in true i edge parts t e ranged =
      let ws = homes_of homes parts.0 in
      let rs = homes_of homes parts.1 in
      let fw : length ws ≤ 8 = (let l = length-map (take 8 parts.0) (home_of homes) in let f = few_taken 8 parts.0 in omega (arith, l, f)) in
      let fr : length rs ≤ 8 = (let l = length-map (take 8 parts.1) (home_of homes) in let f = few_taken 8 parts.1 in omega (arith, l, f)) in (
        with_edge_in i edge ws rs ranged
            (in_places i.number i.target ws rs ranged.number ranged.target i.op t ranged.type fw fr (within_all ws (homes_in (take 8 parts.0))) (within_all rs (homes_in (take 8 parts.1)))),
        tt,
      )
  kind_in false i edge parts t e ranged =
      let ws = homes_of homes parts.0 in
      let rs = homes_of homes parts.1 in
      let few = are_few i.op i.number i.places parts t e in
      let read = few.few_read in
      let fr : length rs ≤ 3 = (let l = length-map (take 8 parts.1) (home_of homes) in let f = taken_less 8 3 parts.1 read in omega (arith, l, f)) in
      each_append IsInstr (loads 13 rs) _ (loads_in rs 13 (homes_in (take 8 parts.1)) (omega (arith, fr))) (
        with_edge_in i edge (results ws) (registers 13 rs) ranged
            (in_registers i.number i.target (results ws) (registers 13 rs) ranged.number ranged.target i.op t ranged.type (results_in ws) (registers_in rs 13 (omega (arith, fr)))),
        stores_in ws (homes_in (take 8 parts.0)),
      )

  parts_in : (i : LowInstr) (edge : Edge) (o : Option Parts) → parts_of i ≡ o → IsRangedInstr i edge → Each IsInstr (with_parts homes i edge o)
  parts_in i edge None e ranged = tt
  parts_in i edge (Some parts) e ranged = kind_in (takes_places i.op) i edge parts refl e ranged

  pub instr_in : (i : LowInstr) (edge : Edge) → IsRangedInstr i edge → Each IsInstr (emitted_instr homes i edge)
  unfolding emitted_instr
  instr_in i edge ranged = parts_in i edge (parts_of i) refl ranged

  pub all_in : (code : List LowInstr) (edges : List Edge) → AreRanged code edges → Each IsInstr (emitted_all homes code edges)
  unfolding emitted_all AreRanged
  all_in [] edges ranged = tt
  all_in (i ∷ code) [] ranged = tt
  all_in (i ∷ code) (edge ∷ edges) ranged = each_append IsInstr (emitted_instr homes i edge) (emitted_all homes code edges) (instr_in i edge ranged.0) (all_in code edges ranged.1)

  pub entry_in : (n : ℕ) → n ≤ 8 → Each IsInstr (entry_moves homes n)
  unfolding entry_moves
  entry_in zero h = tt
  entry_in (suc n) h =
      each_append IsInstr (entry_moves homes n) (entry_move homes n) (entry_in n (omega (arith, h)))
      (moved_in (is_slot (home_of homes n)) (home_of homes n) n (homes_are n).within (omega (arith, h)))

  -- ---- the end of a block

  ends_behind : (xs ys : List Instr) → EndsLast ys → EndsLast (xs ++ ys)
  ends_behind [] ys e = e
  ends_behind (x ∷ []) [] e = absurd e
  ends_behind (x ∷ []) (y ∷ ys) e = e
  ends_behind (x ∷ z ∷ xs) ys e = ends_behind (z ∷ xs) ys e

  end_acts : (i : LowInstr) (edge : Edge) (ws rs : List ℕ) → ends_block i.op ≡ true → IsTrue (is_last (acting i.op i.number i.target ws rs))
  end_acts i edge ws rs e = by_op i.op e
    where
      by_op : (o : Op22) → ends_block o ≡ true → IsTrue (is_last (acting o i.number i.target ws rs))
      by_op low.Jmp h = refl
      by_op low.Ret h = refl
      by_op _ h = absurd (let bad : ⊥ = cc in bad)

  no_stores : (hs : List ℕ) → length hs ≡ 0 → stores hs ≡ []
  no_stores [] e = refl
  no_stores (h ∷ hs) e = absurd (omega (arith, e))

  end_kind : (o : Op22) (i : LowInstr) (edge : Edge) (parts : Parts) → i.op ≡ o → ends_block o ≡ true → parts_by o i.number i.places ≡ Some parts
      → EndsLast (by_kind (takes_places o) homes i edge (homes_of homes parts.0) (homes_of homes parts.1))
  end_kind low.Ret i edge parts is e f = end_acts i edge (homes_of homes parts.0) (homes_of homes parts.1) (ap ends_block is ∙ e)
  end_kind low.Jmp i edge parts is e f =
      let c = fixed_counted 0 0 i.places parts f in
      let ws = homes_of homes parts.0 in
      let rs = homes_of homes parts.1 in
      let w = c.writes_are in
      let l = length-map (take 8 parts.0) (home_of homes) in
      let t = taken_less 8 0 parts.0 (omega (arith, w)) in
      let none : stores ws ≡ [] = no_stores ws (omega (arith, l, t)) in
      ends_behind (loads 13 rs) _
      (subst (λ s. EndsLast (with_edge homes i edge (results ws) (registers 13 rs) ∷ s)) (sym none) (end_acts i edge (results ws) (registers 13 rs) (ap ends_block is ∙ e)))
  end_kind _ i edge parts is e f = absurd (let bad : ⊥ = cc in bad)

  end_instr : (i : LowInstr) (edge : Edge) → IsEnd i → EndsLast (emitted_instr homes i edge)
  unfolding emitted_instr parts_of
  end_instr i edge end = subst (λ o. EndsLast (with_parts homes i edge o)) (sym end.is_parts) (end_kind i.op i edge end.parts refl end.ends end.is_parts)

  pub ends_all : (code : List LowInstr) (edges : List Edge) → length code ≤ length edges → EndsLow code → EndsLast (emitted_all homes code edges)
  unfolding emitted_all
  ends_all [] edges m e = absurd e
  ends_all (i ∷ code) [] m e = absurd (omega (arith, m))
  ends_all (i ∷ []) (edge ∷ edges) m e = subst EndsLast (sym (append-nil (emitted_instr homes i edge))) (end_instr i edge e)
  ends_all (i ∷ j ∷ code) (edge ∷ edges) m e = ends_behind (emitted_instr homes i edge) (emitted_all homes (j ∷ code) edges) (ends_all (j ∷ code) edges (omega (arith, m)) e)

  -- the code of a block
  pub code_in : (front : List Instr) (code : List LowInstr) (edges : List Edge) → Each IsInstr front → AreRanged code edges → length code ≤ length edges → EndsLow code
      → IsCode (front ++ emitted_all homes code edges)
  code_in front code edges f ranged m e = record {
    instrs = each_all IsInstr (front ++ emitted_all homes code edges) (each_append IsInstr front (emitted_all homes code edges) f (all_in code edges ranged));
    ends = ends_behind front (emitted_all homes code edges) (ends_all code edges m e);
  }
