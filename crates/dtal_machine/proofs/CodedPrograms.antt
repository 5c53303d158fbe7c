-- The words of an accepted program's object code its instructions again.
use Rattle.std.proofs.Common.{◌≡◌, ◌∙◌, ap, refl, subst, arith, ℕ, zero, suc, ◌+◌, ◌*◌, ◌^◌, ◌<◌, ◌≤◌, Bool as Truth, true, false, List, [], ◌∷◌, map, take, length, Some, if◌then◌else◌}
use Rattle.std.specs.List.{All, slice_get, slice_index_or}
use Rattle.std.proofs.lemmas.List.Elements.{All-nil, All-cons, All-head, All-tail, All-append}
use Rattle.dtal_code.specs.declared.instruction.Instr.{Instr}
use Rattle.dtal_code.specs.declared.instruction.Op.{Op}
use Rattle.dtal_code.specs.declared.instruction.Op.TheVariants as op
use Rattle.dtal_code.specs.declared.limits.TheConstants.{LAST_NUMBER}
use Rattle.dtal_code.specs.declared.object.RunOp.{RunOp}
use Rattle.dtal_code.specs.declared.program.Block.{Block}
use Rattle.dtal_code.specs.declared.program.Function.{Function}
use Rattle.dtal_code.specs.declared.program.DtalProgram.{DtalProgram}
use Rattle.dtal_code.specs.Grammar.{IsOpIn, IsInstr, IsLabelled, AreBlocks, IsFunction, InGrammar, size_of}
use Rattle.dtal_code.specs.Instructions.{resolved}
use Rattle.dtal_code.specs.ObjectCode.{is_label, target_in, instrs_of, function_code, functions_code, program_size, code_of}
use Rattle.dtal_code.specs.ObjectWords.{words_of, object_words, IsRunOp}
use Rattle.dtal_code.proofs.Codings.{coded_again}
use Rattle.dtal_machine.specs.CodedWords.{ops_in, before_others, StandsAt}

-- ---- words of instructions

pub ops_again : (ops : List RunOp) → All IsRunOp ops → ops_in (object_words ops) ≡ ops
unfolding ops_in object_words
ops_again [] are = refl
ops_again (o ∷ ops) are = ap (λ found. before_others found (ops_in (object_words ops))) (coded_again o (All-head IsRunOp o ops are)) ∙ ap (λ rest. o ∷ rest) (ops_again ops (All-tail IsRunOp o ops are))

words_length : (ops : List RunOp) → length (object_words ops) ≡ 2 * length ops
unfolding object_words
words_length [] = refl
words_length (o ∷ ops) = (let rest = words_length ops in omega arith)

pair_at : (ops : List RunOp) (at : ℕ) (o : RunOp) → slice_get ops at ≡ Some o → (slice_index_or (object_words ops) (2 * at) 0, slice_index_or (object_words ops) (2 * at + 1) 0) ≡ words_of o
unfolding object_words
pair_at [] at o e = absurd (let bad : ⊥ = cc in bad)
pair_at (p ∷ ops) zero o e = ap words_of (let same : p ≡ o = cc in same)
pair_at (p ∷ ops) (suc at) o e =
    let even : 2 * suc at ≡ suc (suc (2 * at)) = omega arith in
    let odd : 2 * suc at + 1 ≡ suc (suc (2 * at + 1)) = omega arith in
    let words = object_words (p ∷ ops) in
    ap (λ k. (slice_index_or words k 0, slice_index_or words (2 * suc at + 1) 0)) even ∙ ap (λ k. (slice_index_or words (suc (suc (2 * at))) 0, slice_index_or words k 0)) odd ∙ pair_at ops at o e

get_within : (ops : List RunOp) (at : ℕ) (o : RunOp) → slice_get ops at ≡ Some o → at < length ops
get_within [] at o e = absurd (let bad : ⊥ = cc in bad)
get_within (p ∷ ops) zero o e = omega arith
get_within (p ∷ ops) (suc at) o e = (let less = get_within ops at o e in omega (arith, less))

in_range : (ops : List RunOp) (at : ℕ) (o : RunOp) → All IsRunOp ops → slice_get ops at ≡ Some o → IsRunOp o
in_range [] at o are e = absurd (let bad : ⊥ = cc in bad)
in_range (p ∷ ops) zero o are e = subst IsRunOp (let same : p ≡ o = cc in same) (All-head IsRunOp p ops are)
in_range (p ∷ ops) (suc at) o are e = in_range ops at o (All-tail IsRunOp p ops are) e

pub stands_at : (ops : List RunOp) (at : ℕ) (o : RunOp) → All IsRunOp ops → slice_get ops at ≡ Some o → StandsAt (object_words ops) at
stands_at ops at o are e = record {
  op = o;
  here = ap (λ found. slice_get found at) (ops_again ops are) ∙ e;
  within = (let less = get_within ops at o e in let n = words_length ops in omega (arith, less, n));
  pair = record { in_range = in_range ops at o are e; is = pair_at ops at o e };
}

-- ---- instructions of a program

op_fits : (at : ℕ → ℕ) → ((label : ℕ) → at label < 2 ^ 64) → (o : Op) → IsOpIn o → IsRunOp (resolved at o)
op_fits at small (op.Br c ra rb label) fit = (fit.0, fit.1, small label)
op_fits at small (op.Bt ra label) fit = (fit.0, small label)
op_fits at small (op.Bf ra label) fit = (fit.0, small label)
op_fits at small (op.Jmp label) fit = small label
op_fits at small _ fit = fit

taken_few : (n : ℕ) (blocks : List Block) → size_of (take n blocks) ≤ size_of blocks
unfolding size_of
taken_few zero blocks = omega arith
taken_few (suc n) [] = omega arith
taken_few (suc n) (block ∷ blocks) = (let rest = taken_few n blocks in omega (arith, rest))

chosen : (test : Truth) (a b : ℕ) → a < 2 ^ 64 → b < 2 ^ 64 → (if test then a else b) < 2 ^ 64
chosen true a b a-less b-less = a-less
chosen false a b a-less b-less = b-less

target_small : (past start : ℕ) (blocks : List Block) → start + size_of blocks ≤ past → past < 2 ^ 64 → (label : ℕ) → target_in past start blocks label < 2 ^ 64
target_small past start blocks known small label =
    let few = taken_few label blocks in
    chosen (is_label blocks label) (start + size_of (take label blocks)) past (omega (arith, few)) small

labelled_instrs : (blocks : List Block) → All IsLabelled blocks → All IsInstr (instrs_of blocks)
unfolding instrs_of
labelled_instrs [] are = All-nil IsInstr
labelled_instrs (block ∷ blocks) are =
    All-append IsInstr block.code (instrs_of blocks) (All-head IsLabelled block blocks are).code.instrs (labelled_instrs blocks (All-tail IsLabelled block blocks are))

blocks_instrs : (blocks : List Block) → AreBlocks blocks → All IsInstr (instrs_of blocks)
unfolding instrs_of
blocks_instrs [] are = absurd are
blocks_instrs (first ∷ blocks) are = All-append IsInstr first.code (instrs_of blocks) are.1.instrs (labelled_instrs blocks are.3)

code_fits : (at : ℕ → ℕ) → ((label : ℕ) → at label < 2 ^ 64) → (code : List Instr) → All IsInstr code → All IsRunOp (map (λ i. resolved at i.op) code)
code_fits at small [] are = All-nil IsRunOp
code_fits at small (i ∷ code) are =
    All-cons IsRunOp (resolved at i.op) (map (λ j. resolved at j.op) code) (op_fits at small i.op (All-head IsInstr i code are).op) (code_fits at small code (All-tail IsInstr i code are))

functions_fit : (past start : ℕ) (funs : List Function) → All IsFunction funs → start + program_size funs ≤ past → past < 2 ^ 64 → All IsRunOp (functions_code past start funs)
unfolding functions_code program_size
functions_fit past start [] are known small = All-nil IsRunOp
functions_fit past start (fun ∷ funs) are known small =
    let own = code_fits (target_in past start fun.blocks) (target_small past start fun.blocks (omega arith) small) (instrs_of fun.blocks) (blocks_instrs fun.blocks (All-head IsFunction fun funs are).blocks) in
    All-append IsRunOp (function_code past start fun.blocks) (functions_code past (start + size_of fun.blocks) funs) own
    (functions_fit past (start + size_of fun.blocks) funs (All-tail IsFunction fun funs are) (omega arith) small)

each_few : (funs : List Function) → All IsFunction funs → program_size funs ≤ length funs * LAST_NUMBER
unfolding program_size
each_few [] are = omega arith
each_few (fun ∷ funs) are = (let few = (All-head IsFunction fun funs are).few in let rest = each_few funs (All-tail IsFunction fun funs are) in omega arith)

pub program_fits : (program : DtalProgram) → InGrammar program → All IsRunOp (code_of program).ops
program_fits program grammar =
    let each = each_few program.funs grammar.funs in
    let few = grammar.few_funs in
    functions_fit (program_size program.funs) 0 program.funs grammar.funs (omega arith) (omega arith)
