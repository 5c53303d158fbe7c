-- The table of labels leads where labels lead.
use Rattle.std.proofs.Common.{arith, ◌≡◌, ◌∙◌, sym, ap, refl, ℕ, zero, suc, ◌+◌, ◌<◌, ◌&&◌, Bool as Truth, true, false, List, [], ◌∷◌, map, take, length, nat_lt, slice_index_or, if◌then◌else◌}
use Rattle.std.proofs.lemmas.Bool.{ltb-true, and_parts}
use Rattle.dtal_code.specs.declared.instruction.Instr.{Instr}
use Rattle.dtal_code.specs.declared.instruction.Op.{Op}
use Rattle.dtal_code.specs.declared.instruction.Op.TheVariants as op
use Rattle.dtal_code.specs.declared.object.RunOp.{RunOp}
use Rattle.dtal_code.specs.declared.program.Block.{Block}
use Rattle.dtal_code.specs.Grammar.{size_of}
use Rattle.dtal_code.specs.Instructions.{resolved}
use Rattle.dtal_code.specs.ObjectCode.{target_in, instrs_of, function_code}
use Rattle.dtal_assembler.specs.Labels.{label_starts, table_target}

starts_length : (start : ℕ) (blocks : List Block) → length (label_starts start blocks) ≡ length blocks
unfolding label_starts
starts_length start [] = refl
starts_length start (block ∷ blocks) = ap suc (starts_length (start + length block.code) blocks)

start_at : (start past label : ℕ) (blocks : List Block) → label < length blocks → slice_index_or (label_starts start blocks) label past ≡ start + size_of (take label blocks)
unfolding label_starts size_of
start_at start past label [] less = absurd (omega arith)
start_at start past zero (block ∷ blocks) less = omega arith
start_at start past (suc label) (block ∷ blocks) less = start_at (start + length block.code) past label blocks (omega arith) ∙ omega arith

at_test : (test : Truth) (past x y : ℕ) → (test ≡ true → x ≡ y) → (if test then x else past) ≡ (if test then y else past)
at_test true past x y same = same refl
at_test false past x y same = refl

by_table : (past start label : ℕ) (blocks : List Block) → target_in past start blocks label ≡ table_target past (label_starts start blocks) label
by_table past start label blocks = ap (λ n. if nat_lt 0 label && nat_lt label n then start + size_of (take label blocks) else past) (sym (starts_length start blocks))
    ∙ at_test (nat_lt 0 label && nat_lt label (length (label_starts start blocks))) past (start + size_of (take label blocks)) (slice_index_or (label_starts start blocks) label past)
    (λ there. sym (start_at start past label blocks (omega (arith, ltb-true label (length (label_starts start blocks)) (and_parts (nat_lt 0 label) (nat_lt label (length (label_starts start blocks))) there).1, starts_length start blocks))))

resolved_same : (f g : ℕ → ℕ) → ((label : ℕ) → f label ≡ g label) → (o : Op) → resolved f o ≡ resolved g o
resolved_same f g same (op.Br c ra rb label) = ap (λ to. resolved (λ l. to) (op.Br c ra rb label)) (same label)
resolved_same f g same (op.Bt ra label) = ap (λ to. resolved (λ l. to) (op.Bt ra label)) (same label)
resolved_same f g same (op.Bf ra label) = ap (λ to. resolved (λ l. to) (op.Bf ra label)) (same label)
resolved_same f g same (op.Jmp label) = ap (λ to. resolved (λ l. to) (op.Jmp label)) (same label)
resolved_same f g same _ = refl

mapped_same : (f g : Instr → RunOp) → ((i : Instr) → f i ≡ g i) → (code : List Instr) → map f code ≡ map g code
mapped_same f g same [] = refl
mapped_same f g same (i ∷ code) = ap (λ o. o ∷ map f code) (same i) ∙ ap (λ os. g i ∷ os) (mapped_same f g same code)

pub function_by_table : (past start : ℕ) (blocks : List Block)
    → map (λ i. resolved (table_target past (label_starts start blocks)) i.op) (instrs_of blocks) ≡ function_code past start blocks
function_by_table past start blocks = sym (mapped_same (λ i. resolved (target_in past start blocks) i.op) (λ i. resolved (table_target past (label_starts start blocks)) i.op)
    (λ i. resolved_same (target_in past start blocks) (table_target past (label_starts start blocks)) (λ label. by_table past start label blocks) i.op) (instrs_of blocks))
