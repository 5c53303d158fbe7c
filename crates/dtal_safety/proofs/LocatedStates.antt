-- What acceptance says of an instruction that is located in a program.
use Rattle.std.proofs.Common.{◌≡◌, ◌∙◌, ℕ, zero, suc, ◌+◌, ◌<◌, List, [], ◌∷◌, drop, take, length, nat_lt, true, Some, Ok, refl, sym, ap, arith}
use Rattle.std.specs.Prelude.{slice_get, ◌&&◌}
use Rattle.std.specs.List.{All, AllZip}
use Rattle.std.proofs.lemmas.List.Elements.{All-nil, All-cons, All-head, All-tail, All-append}
use Rattle.std.proofs.lemmas.Option.{none-some, slice_get_within}
use Rattle.xan_seq.proofs.NumberTests.{less}
use Rattle.state_types.specs.declared.closed.Packed.{Packed}
use Rattle.state_types.specs.declared.closed.Signature.{Signature}
use Rattle.state_types.specs.declared.state.StateType.{StateType}
use Rattle.operation_rules.specs.Sound.{IsHeader, IsSetting}
use Rattle.dtal_code.specs.declared.instruction.Instr.{Instr}
use Rattle.dtal_code.specs.declared.program.Block.{Block}
use Rattle.dtal_code.specs.declared.program.DtalProgram.{DtalProgram}
use Rattle.dtal_code.specs.declared.program.Function.{Function}
use Rattle.dtal_code.specs.Acceptance.{IsLabel, FunctionStands, Accepted}
use Rattle.dtal_code.specs.Declarations.{table_of, setting_of, first_state}
use Rattle.dtal_code.specs.Grammar.{IsInstr, IsOpIn, IsCode, IsLabelled, AreBlocks, IsFunction, EndsLast, size_of}
use Rattle.dtal_code.specs.Instructions.{resolved}
use Rattle.dtal_code.specs.ObjectCode.{is_label, target_in, instrs_of, starts_from, program_size, code_of}
use Rattle.dtal_code.specs.Passing.{label_at}
use Rattle.dtal_safety.specs.Fitting.{Located}
use Rattle.dtal_safety.proofs.CodeFound.{start_there, code_found}
use Rattle.dtal_safety.proofs.Lookups.{all_at, zip_at, zip_there, zip_lengths}
use Rattle.dtal_safety.proofs.NamedParts.{functions_headers, setting_is, table_closed}
use Rattle.dtal_safety.proofs.ProperStates.{IsProper, first_proper, labels_proper, blocks_proper}
use Rattle.dtal_safety.proofs.StatesFound.{Behind, Found, blocks_find, blocks_begin}

-- ---- the grammar

blocks_coded : (blocks : List Block) → AreBlocks blocks → All (λ block. IsCode block.code) blocks
blocks_coded [] are = absurd are
blocks_coded (first ∷ blocks) are = All-cons (λ (b : Block). IsCode b.code) first blocks are.1 (rest blocks are.3)
  where
    rest : (bs : List Block) → All IsLabelled bs → All (λ block. IsCode block.code) bs
    rest [] all = All-nil (λ (b : Block). IsCode b.code)
    rest (b ∷ bs) all = All-cons (λ (x : Block). IsCode x.code) b bs (All-head IsLabelled b bs all).code (rest bs (All-tail IsLabelled b bs all))

blocks_end : (blocks : List Block) → All (λ block. IsCode block.code) blocks → All (λ block. EndsLast block.code) blocks
blocks_end [] all = All-nil (λ (b : Block). EndsLast b.code)
blocks_end (b ∷ bs) all =
    All-cons (λ (x : Block). EndsLast x.code) b bs (All-head (λ (x : Block). IsCode x.code) b bs all).ends (blocks_end bs (All-tail (λ (x : Block). IsCode x.code) b bs all))

instrs_are : (blocks : List Block) → All (λ block. IsCode block.code) blocks → All IsInstr (instrs_of blocks)
unfolding instrs_of
instrs_are [] all = All-nil IsInstr
instrs_are (b ∷ bs) all =
    All-append IsInstr b.code (instrs_of bs) (All-head (λ (x : Block). IsCode x.code) b bs all).instrs (instrs_are bs (All-tail (λ (x : Block). IsCode x.code) b bs all))

-- ---- labels

-- the block that a label names, and the state in which it begins
pub record IsTarget (own_vars : ℕ) (blocks : List Block) (states : List StateType) (label : ℕ) (target : StateType) : Type 0 where
  pub within : is_label blocks label ≡ true
  pub instr : Instr
  pub is_instr : slice_get (instrs_of blocks) (size_of (take label blocks)) ≡ Some instr
  pub is_state : slice_get states (size_of (take label blocks)) ≡ Some target
  pub proper : IsProper own_vars target

labels_count : (table : List Packed) (sig : Signature) (blocks : List Block) (labels : List StateType) → AreBlocks blocks → AllZip (IsLabel table sig) (drop 1 blocks) labels
    → suc (length labels) ≡ length blocks
labels_count table sig [] labels are zip = absurd are
labels_count table sig (first ∷ blocks) labels are zip = ap suc (sym (zip_lengths (IsLabel table sig) blocks labels zip))

label_within : (blocks : List Block) (label count : ℕ) → count ≡ length blocks → suc label < count → is_label blocks (suc label) ≡ true
label_within blocks label count same h =
    ap (λ b. b && nat_lt (suc label) (length blocks)) (less 0 (suc label) (omega arith)) ∙ less (suc label) (length blocks) (omega (arith, same, h))

none_before : (blocks : List Block) → size_of (take 0 blocks) ≡ 0
unfolding size_of
none_before blocks = refl

from_start : (start n : ℕ) → n ≡ 0 → start ≡ start + n
from_start start n same = omega (arith, same)

module _ (program : DtalProgram) (accepted : Accepted program) where
  -- ---- functions

  pub function_is : (number : ℕ) (fun : Function) → slice_get program.funs number ≡ Some fun → IsFunction fun
  function_is number fun e = all_at IsFunction program.funs number fun accepted.grammar.funs e

  pub header_is : (number : ℕ) (fun : Function) → slice_get program.funs number ≡ Some fun → IsHeader fun.sig
  header_is number fun e = all_at (λ (f : Function). IsHeader f.sig) program.funs number fun (functions_headers program accepted) e

  pub function_setting : (number : ℕ) (fun : Function) → slice_get program.funs number ≡ Some fun → IsSetting (setting_of program fun.sig)
  function_setting number fun e = setting_is program accepted fun.sig (header_is number fun e)

  -- ---- an instruction

  pub record IsPlaced (number : ℕ) (fun : Function) (own : List StateType) (index : ℕ) (instr : Instr) (state : StateType) : Type 0 where
    pub labels : List StateType
    pub found : Found (setting_of program fun.sig) labels (instrs_of fun.blocks) own index instr state
    pub proper : IsProper fun.sig.vars state
    pub op_in : IsOpIn instr.op
    pub targets : (label : ℕ) (target : StateType) → label_at labels label ≡ Some target → IsTarget fun.sig.vars fun.blocks own label target

  target_is : (number : ℕ) (fun : Function) (own : List StateType) → slice_get program.funs number ≡ Some fun → (stands : FunctionStands program fun own)
      → (label : ℕ) (target : StateType) → label_at stands.labels label ≡ Some target → IsTarget fun.sig.vars fun.blocks own label target
  target_is number fun own e stands zero target is = absurd (none-some target is)
  target_is number fun own e stands (suc label) target is =
      let are = (function_is number fun e).blocks in
      let ends = blocks_end fun.blocks (blocks_coded fun.blocks are) in
      let begins = blocks_begin (setting_of program fun.sig) stands.labels (stands.first ∷ stands.labels) fun.blocks own stands.blocks ends (suc label) target is in
      let count = labels_count (table_of program) fun.sig fun.blocks stands.labels are stands.label_each in
      let within = slice_get_within stands.labels label target is in
      record {
        within = label_within fun.blocks label (suc (length stands.labels)) count (omega (arith, within));
        instr = begins.instr;
        is_instr = begins.is_instr;
        is_state = begins.is_state;
        proper = all_at (IsProper fun.sig.vars) stands.labels label target
            (labels_proper (table_of program) fun.sig (drop 1 fun.blocks) stands.labels stands.label_each) is;
      }

  states_proper : (number : ℕ) (fun : Function) (own : List StateType) → slice_get program.funs number ≡ Some fun → FunctionStands program fun own
      → All (IsProper fun.sig.vars) own
  states_proper number fun own e stands =
      blocks_proper (setting_of program fun.sig) (table_closed program accepted.types) stands.labels (stands.first ∷ stands.labels) fun.blocks own stands.blocks
      (All-cons (IsProper fun.sig.vars) stands.first stands.labels (first_proper fun.sig stands.first (header_is number fun e) stands.is_first)
      (labels_proper (table_of program) fun.sig (drop 1 fun.blocks) stands.labels stands.label_each))

  pub placed_is : (at number : ℕ) (fun : Function) (state : StateType) (l : Located program accepted.states at number fun state)
      → IsPlaced number fun l.own l.index l.instr state
  placed_is at number fun state l =
      let stands = zip_at (FunctionStands program) program.funs accepted.states number fun l.own accepted.funs l.is_fun l.is_own in
      let coded = blocks_coded fun.blocks (function_is number fun l.is_fun).blocks in
      record {
        labels = stands.labels;
        found = blocks_find (setting_of program fun.sig) stands.labels (stands.first ∷ stands.labels) fun.blocks l.own stands.blocks (blocks_end fun.blocks coded)
            l.index l.instr state l.is_instr l.is_state;
        proper = all_at (IsProper fun.sig.vars) l.own l.index state (states_proper number fun l.own l.is_fun stands) l.is_state;
        op_in = (all_at IsInstr (instrs_of fun.blocks) l.index l.instr (instrs_are fun.blocks coded) l.is_instr).op;
        targets = λ label target is. target_is number fun l.own l.is_fun stands label target is;
      }

  -- it stands in the object code
  pub located_code : (at number : ℕ) (fun : Function) (state : StateType) (l : Located program accepted.states at number fun state)
      → slice_get (code_of program).ops at ≡ Some (resolved (target_in (program_size program.funs) l.start fun.blocks) l.instr.op)
  located_code at number fun state l =
      ap (λ n. slice_get (code_of program).ops n) l.is_at ∙ code_found program number l.start l.index fun l.instr l.is_fun l.is_start l.is_instr

  -- ---- where it goes

  pub next_located : (at number : ℕ) (fun : Function) (state next : StateType) (l : Located program accepted.states at number fun state)
      → Behind (instrs_of fun.blocks) l.own l.index next → Located program accepted.states (suc at) number fun next
  next_located at number fun state next l behind =
      let same = l.is_at in
      record {
        is_fun = l.is_fun;
        start = l.start;
        is_start = l.is_start;
        index = suc l.index;
        is_at = omega (arith, same);
        instr = behind.instr;
        is_instr = behind.is_instr;
        own = l.own;
        is_own = l.is_own;
        is_state = behind.is_state;
      }

  pub label_located : (at number : ℕ) (fun : Function) (state target : StateType) (l : Located program accepted.states at number fun state) (label : ℕ)
      → IsTarget fun.sig.vars fun.blocks l.own label target
      → Located program accepted.states (l.start + size_of (take label fun.blocks)) number fun target
  label_located at number fun state target l label t = record {
    is_fun = l.is_fun;
    start = l.start;
    is_start = l.is_start;
    index = size_of (take label fun.blocks);
    is_at = refl;
    instr = t.instr;
    is_instr = t.is_instr;
    own = l.own;
    is_own = l.is_own;
    is_state = t.is_state;
  }

  -- ---- where a function begins

  -- its first instruction, and the state type that its signature states
  pub record IsBegun (number : ℕ) (fun : Function) : Type 0 where
    pub start : ℕ
    pub is_start : slice_get (starts_from 0 program.funs) number ≡ Some start
    pub state : StateType
    pub is_state : first_state fun.sig ≡ Ok state
    pub located : Located program accepted.states start number fun state

  pub function_begins : (number : ℕ) (fun : Function) → slice_get program.funs number ≡ Some fun → IsBegun number fun
  function_begins number fun e =
      let start = start_there 0 number program.funs fun e in
      let own = zip_there (FunctionStands program) program.funs accepted.states number fun accepted.funs e in
      let stands = zip_at (FunctionStands program) program.funs accepted.states number fun own.value accepted.funs e own.there in
      let ends = blocks_end fun.blocks (blocks_coded fun.blocks (function_is number fun e).blocks) in
      let first = blocks_begin (setting_of program fun.sig) stands.labels (stands.first ∷ stands.labels) fun.blocks own.value stands.blocks ends 0 stands.first refl in
      record {
        start = start.value;
        is_start = start.there;
        state = stands.first;
        is_state = stands.is_first;
        located = record {
          is_fun = e;
          start = start.value;
          is_start = start.there;
          index = size_of (take 0 fun.blocks);
          is_at = from_start start.value (size_of (take 0 fun.blocks)) (none_before fun.blocks);
          instr = first.instr;
          is_instr = first.is_instr;
          own = own.value;
          is_own = own.there;
          is_state = first.is_state;
        };
      }
