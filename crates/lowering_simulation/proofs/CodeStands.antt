-- Where a piece of code stands in the code of a function, and what the instruction at a position does.
use Rattle.std.proofs.Common.{◌≡◌, ◌∙◌, ℕ, suc, ◌+◌, ◌<◌, ◌≤◌, ℤ, List, [], ◌∷◌, ◌++◌, length, Bool as Truth, true, false, slice_get, Option, Some, refl, sym, ap, subst, arith}
use Rattle.operation_rules.specs.Effects.{effect}
use Rattle.operation_rules.specs.FlatWords.{Flat, flat_words}
use Rattle.operation_rules.specs.declared.operation.Operation.{Operation}
use Rattle.three_address.specs.Flow.{label_at}
use Rattle.three_address.specs.Instructions.{operation_of, with_operation, instruction_of}
use Rattle.three_address.specs.Machine.{Activation, State, words_in, acts, done, performed, fetched, within, step}
use Rattle.three_address.specs.declared.function.LowFun.{LowFun}
use Rattle.three_address.specs.declared.function.TheConstants.{PLACES}
use Rattle.three_address.specs.declared.instruction.LowInstr.{LowInstr}
use Rattle.three_address.specs.declared.instruction.Op22.{Op22}
use Rattle.three_address.specs.declared.instruction.Op22.TheVariants as op
use Rattle.lowering.specs.Lowered.{leads, number_of, renumbered, places_reach}
use Rattle.lowering_simulation.proofs.ListPlaces.{get_front, get_behind}
use Rattle.lowering_simulation.proofs.RunsAhead.{Config}

-- ---- a piece of code

-- the piece stands from this position on
pub record Stands (code : List LowInstr) (at : ℕ) (piece : List LowInstr) : Type 0 where
  pub by : (n : ℕ) (i : LowInstr) → slice_get piece n ≡ Some i → slice_get code (at + n) ≡ Some i

module _ (code : List LowInstr) where
  pub stands_front : (at : ℕ) (one two : List LowInstr) → Stands code at (one ++ two) → Stands code at one
  stands_front at one two h = record { by = λ n i e. h.by n i (get_front one two n i e) }

  pub stands_behind : (at next : ℕ) (one two : List LowInstr) → next ≡ at + length one → Stands code at (one ++ two) → Stands code next two
  stands_behind at next one two same h = record {
    by = λ n i e.
        let there : at + (length one + n) ≡ next + n = omega (arith, same) in
        ap (slice_get code) (sym there) ∙ h.by (length one + n) i (get_behind one two n (length one + n) refl ∙ e);
  }

  pub stands_first : (at : ℕ) (i : LowInstr) (piece : List LowInstr) → Stands code at (i ∷ piece) → slice_get code at ≡ Some i
  stands_first at i piece h = ap (slice_get code) (let s : at ≡ at + 0 = omega arith in s) ∙ h.by 0 i refl

  pub stands_rest : (at : ℕ) (i : LowInstr) (piece : List LowInstr) → Stands code at (i ∷ piece) → Stands code (suc at) piece
  stands_rest at i piece h = stands_behind at (suc at) (i ∷ []) piece (omega arith) h

-- ---- a function

-- The code of a function, with positions as targets, is that of a function of the program: labels name the positions.
pub record IsCode (funs : List LowFun) (fun : ℕ) (code : List LowInstr) : Type 0 where
  pub low : LowFun
  pub there : slice_get funs fun ≡ Some low
  pub at : (n : ℕ) (i : LowInstr) → slice_get code n ≡ Some i → slice_get low.code n ≡ Some (renumbered low.labels (leads i.op) i)
  pub named : (n : ℕ) (i : LowInstr) → slice_get code n ≡ Some i → leads i.op ≡ true → label_at low.labels (number_of low.labels i.target) ≡ Some i.target
  pub places : (n : ℕ) (i : LowInstr) → slice_get code n ≡ Some i → places_reach i.places ≤ PLACES

-- ---- one step

-- what stands throughout an activation
pub record Here : Type 0 where
  pub depth : ℕ
  pub fun : ℕ
  pub result_to : Option ℕ
  pub callers : List Activation

abbrev pub act_at : Here → (at : ℕ) → List ℤ → Activation
act_at here at regs = record { fun = here.fun; at = at; places = regs; result_to = here.result_to }

abbrev pub state_at : Here → Flat → (at : ℕ) → List ℤ → State
state_at here flat at regs = record { store = flat; depth = here.depth; activations = act_at here at regs ∷ here.callers }

abbrev pub config : Here → List ℤ → Flat → (at : ℕ) → List ℤ → Config
config here printed flat at regs = record { printed = printed; state = state_at here flat at regs }

-- a jump's target does not matter to its operation
same_operation : (o : Op22) (number : ℤ) (one two listed : ℕ) → leads o ≡ true → operation_of o number one listed ≡ operation_of o number two listed
same_operation op.Call number one two listed e = cc
same_operation _ number one two listed e = refl

same_instruction : (labels : List ℕ) (b : Truth) (i : LowInstr) → leads i.op ≡ b → instruction_of (renumbered labels b i) ≡ instruction_of i
unfolding instruction_of
same_instruction labels true i e =
    ap (λ o. with_operation o i.places) (same_operation i.op i.number (number_of labels i.target) i.target (length i.places) e)
same_instruction labels false i e = refl

target_named : (labels : List ℕ) (b : Truth) (i : LowInstr) → b ≡ true → label_at labels (number_of labels i.target) ≡ Some i.target
    → label_at labels (renumbered labels b i).target ≡ Some i.target
target_named labels true i b e = e
target_named labels false i b e = cc

module _ (funs : List LowFun) (here : Here) (code : List LowInstr) (is : IsCode funs here.fun code) (flat : Flat) (at : ℕ) (regs : List ℤ) where
  -- the instruction acts, beside the position of its label
  pub record Acts (i : LowInstr) (operation : Operation) (writes : List ℕ) (words : List ℤ) : Type 0 where
    pub label : Option ℕ
    pub to : leads i.op ≡ true → label ≡ Some i.target
    pub step : step funs (state_at here flat at regs)
        ≡ acts funs (state_at here flat at regs) (act_at here at regs) here.callers writes label (effect flat_words operation words flat)

  pub instruction_acts : (i : LowInstr) (operation : Operation) (writes reads : List ℕ) (words : List ℤ) → slice_get code at ≡ Some i
      → instruction_of i ≡ Some (record { operation = operation; writes = writes; reads = reads }) → words_in regs reads ≡ Some words → Acts i operation writes words
  unfolding step
  instruction_acts i operation writes reads words e form have =
      let state = state_at here flat at regs in
      let top = act_at here at regs in
      let named = renumbered is.low.labels (leads i.op) i in
      let label = label_at is.low.labels named.target in
      record {
        label = label;
        to = λ l. target_named is.low.labels (leads i.op) i l (is.named at i e l);
        step = ap (λ f. within funs state top here.callers f) is.there
            ∙ ap (λ x. fetched funs state top here.callers is.low.labels x) (is.at at i e)
            ∙ ap (λ x. performed funs state top here.callers label x) (same_instruction is.low.labels (leads i.op) i refl ∙ form)
            ∙ ap (λ ws. done funs state top here.callers (record { operation = operation; writes = writes; reads = reads }) label ws) have;
      }

  -- the first place of an instruction
  pub first_place : (i : LowInstr) (to : ℕ) (rest : List ℕ) → slice_get code at ≡ Some i → i.places ≡ to ∷ rest → to < PLACES
  unfolding places_reach
  first_place i to rest e same =
      let h = is.places at i e in
      let k : places_reach (to ∷ rest) ≤ PLACES = subst (λ ps. places_reach ps ≤ PLACES) same h in
      omega (arith, k)
