-- The instructions and conditional branches of an emitted program, function by function, and those that the core asks for.
use Rattle.std.proofs.Common.{◌≡◌, ◌∙◌, ℕ, zero, suc, ◌+◌, ◌-◌, ◌<◌, ◌≤◌, List, [], ◌∷◌, ◌++◌, length, take, drop, Option, Some, None, nat_lt, if◌then◌else◌, Bool, true, false, refl, sym, ap, arith, length-append}
use Rattle.std.proofs.Common.{append_assoc}
use Rattle.std.proofs.lemmas.Bool.Decides.{nat_tests}
use Rattle.state_types.specs.declared.closed.Signature.{Signature}
use Rattle.state_types.specs.declared.state.StateType.{StateType}
use Rattle.xanadu_tree.specs.Plain as core
use Rattle.three_address.specs.declared.function.LowFun.{LowFun}
use Rattle.three_address.specs.declared.instruction.LowInstr.{LowInstr}
use Rattle.three_address.specs.declared.typed.Edge.{Edge}
use Rattle.lowering.specs.Lowered.{body_of, functions_of}
use Rattle.lowering.specs.TestLeaves.{block_leaves, conditional_branches}
use Rattle.dtal_code.specs.Grammar.{size_of as blocks_size}
use Rattle.dtal_code.specs.declared.instruction.Instr.{Instr}
use Rattle.dtal_code.specs.declared.program.Block.{Block}
use Rattle.dtal_code.specs.declared.program.LabelState.{LabelState}
use Rattle.dtal_emit.specs.Homes.{entry_moves}
use Rattle.dtal_emit.specs.Emitted.{emitted_instr, emitted_all, blocks_from, fewer, label_state, emitted_fun, emitted_funs}
use Rattle.program_builder.specs.Counts.{code_branches, blocks_branches, functions_branches, functions_leaves, functions_instructions, code_size, functions_size}
use Rattle.program_builder.proofs.BuiltFunctions.{IsBuilt, AreBuilt}
use Rattle.program_builder.proofs.EmittedCounts.{branches_and, entry_branches, all_branches, all_size, entry_size}

-- ---- the code of all blocks

unfoldable all_code : List Block → List Instr
all_code [] = []
all_code (block ∷ blocks) = block.code ++ all_code blocks

branches_all : (blocks : List Block) → blocks_branches blocks ≡ code_branches (all_code blocks)
unfolding all_code blocks_branches code_branches
branches_all [] = refl
branches_all (block ∷ blocks) = ap (λ n. code_branches block.code + n) (branches_all blocks) ∙ sym (branches_and block.code (all_code blocks))

size_all : (blocks : List Block) → blocks_size blocks ≡ length (all_code blocks)
unfolding all_code blocks_size
size_all [] = refl
size_all (block ∷ blocks) = ap (λ n. length block.code + n) (size_all blocks) ∙ sym (length-append block.code (all_code blocks))

-- what becomes of code in two pieces
emitted_parts : (homes : List ℕ) (n : ℕ) (code : List LowInstr) (edges : List Edge)
    → emitted_all homes (take n code) (take n edges) ++ emitted_all homes (drop n code) (drop n edges) ≡ emitted_all homes code edges
unfolding emitted_all
emitted_parts homes zero code edges = refl
emitted_parts homes (suc n) [] [] = refl
emitted_parts homes (suc n) [] (edge ∷ edges) = none (drop n edges)
  where
    none : (edges : List Edge) → emitted_all homes [] edges ≡ []
    none edges = refl
emitted_parts homes (suc n) (i ∷ code) [] = nothing (drop n code)
  where
    nothing : (code : List LowInstr) → emitted_all homes code [] ≡ []
    nothing [] = refl
    nothing (i ∷ code) = refl
emitted_parts homes (suc n) (i ∷ code) (edge ∷ edges) =
    append_assoc (emitted_instr homes i edge) (emitted_all homes (take n code) (take n edges)) (emitted_all homes (drop n code) (drop n edges)) ∙ ap (λ l. emitted_instr homes i edge ++ l) (emitted_parts homes n code edges)

append_none : {A : Type 0} (xs : List A) → xs ++ [] ≡ xs
append_none [] = refl
append_none (x ∷ xs) = ap (λ l. x ∷ l) (append_none xs)

blocks_code : (homes : List ℕ) (at : ℕ) (state : Option LabelState) (positions : List ℕ) (labels : List StateType) (code : List LowInstr) (edges : List Edge) (front : List Instr)
    → all_code (blocks_from homes at state positions labels code edges front) ≡ front ++ emitted_all homes code edges
unfolding all_code blocks_from
blocks_code homes at state [] labels code edges front = append_none _
blocks_code homes at state (next ∷ positions) [] code edges front = append_none _
blocks_code homes at state (next ∷ positions) (label ∷ labels) code edges front =
    ap (λ l. (front ++ emitted_all homes (take (next - at) code) (take (next - at) edges)) ++ l)
    (blocks_code homes next (Some (label_state homes label)) positions labels (drop (next - at) code) (drop (next - at) edges) [])
    ∙ append_assoc front _ _ ∙ ap (λ l. front ++ l) (emitted_parts homes (next - at) code edges)

-- ---- a function

few_is : (n : ℕ) → n ≤ 8 → fewer 8 n ≡ n
few_is n h = by_test (nat_lt 8 n) refl
  where
    by_test : (b : Bool) → nat_lt 8 n ≡ b → (if b then 8 else n) ≡ n
    by_test true e = absurd (let bad : 8 < n = grind (arith, nat_tests) in omega (arith, bad, h))
    by_test false e = refl

module _ (fun : LowFun) (labels : List StateType) (edges : List Edge) (homes : List ℕ) (built : IsBuilt fun edges homes) where
  code_is : all_code (emitted_fun fun labels edges homes).blocks ≡ entry_moves homes (length fun.sig.params) ++ emitted_all homes fun.code edges
  code_is = blocks_code homes 0 None fun.labels labels fun.code edges _ ∙ ap (λ n. entry_moves homes n ++ emitted_all homes fun.code edges) (few_is _ built.few_params)

  fun_branches : blocks_branches (emitted_fun fun labels edges homes).blocks ≡ conditional_branches fun.code
  fun_branches =
      branches_all _ ∙ ap code_branches code_is ∙ branches_and (entry_moves homes (length fun.sig.params)) _
      ∙ (let front = entry_branches homes (length fun.sig.params) in let all = all_branches homes fun.code edges built.forms built.edge_each in omega (arith, front, all))

  fun_size : blocks_size (emitted_fun fun labels edges homes).blocks ≡ length fun.sig.params + code_size fun.code
  fun_size =
      size_all _ ∙ ap length code_is ∙ length-append (entry_moves homes (length fun.sig.params)) _
      ∙ (let front = entry_size homes fun.places built.slots (length fun.sig.params) built.params in
      let all = all_size homes fun.places built.slots fun.code edges built.forms built.edge_each built.named in omega (arith, front, all))

-- ---- all functions

unfoldable pub low_branches : List LowFun → ℕ
low_branches [] = 0
low_branches (fun ∷ funs) = conditional_branches fun.code + low_branches funs

pub funs_branches : (funs : List LowFun) (states : List (List StateType)) (edges : List (List Edge)) (homes : List (List ℕ)) → AreBuilt funs states edges homes
    → functions_branches (emitted_funs funs states edges homes) ≡ low_branches funs
unfolding AreBuilt emitted_funs functions_branches low_branches
funs_branches [] states edges homes built = refl
funs_branches (fun ∷ funs) [] edges homes built = absurd built
funs_branches (fun ∷ funs) (labels ∷ states) [] homes built = absurd built
funs_branches (fun ∷ funs) (labels ∷ states) (es ∷ edges) [] built = absurd built
funs_branches (fun ∷ funs) (labels ∷ states) (es ∷ edges) (hs ∷ homes) built =
    let one = fun_branches fun labels es hs built.0 in let rest = funs_branches funs states edges homes built.1 in omega (arith, one, rest)

pub funs_size : (funs : List LowFun) (states : List (List StateType)) (edges : List (List Edge)) (homes : List (List ℕ)) → AreBuilt funs states edges homes
    → functions_instructions (emitted_funs funs states edges homes) ≡ functions_size funs
unfolding AreBuilt emitted_funs functions_instructions functions_size
funs_size [] states edges homes built = refl
funs_size (fun ∷ funs) [] edges homes built = absurd built
funs_size (fun ∷ funs) (labels ∷ states) [] homes built = absurd built
funs_size (fun ∷ funs) (labels ∷ states) (es ∷ edges) [] built = absurd built
funs_size (fun ∷ funs) (labels ∷ states) (es ∷ edges) (hs ∷ homes) built =
    let one = fun_size fun labels es hs built.0 in let rest = funs_size funs states edges homes built.1 in omega (arith, one, rest)

pub as_many : (funs : List LowFun) (states : List (List StateType)) (edges : List (List Edge)) (homes : List (List ℕ)) → AreBuilt funs states edges homes
    → length (emitted_funs funs states edges homes) ≡ length funs
unfolding AreBuilt emitted_funs
as_many [] states edges homes built = refl
as_many (fun ∷ funs) [] edges homes built = absurd built
as_many (fun ∷ funs) (labels ∷ states) [] homes built = absurd built
as_many (fun ∷ funs) (labels ∷ states) (es ∷ edges) [] built = absurd built
as_many (fun ∷ funs) (labels ∷ states) (es ∷ edges) (hs ∷ homes) built = ap suc (as_many funs states edges homes built.1)

-- ---- the code of a core

pub lowered_many : (program : core.Program) (funs : List core.Fun) (sigs : List Signature) → length sigs ≡ length funs → length (functions_of program funs sigs) ≡ length funs
unfolding functions_of
lowered_many program [] sigs e = refl
lowered_many program (f ∷ funs) [] e = absurd (omega (arith, e))
lowered_many program (f ∷ funs) (sig ∷ sigs) e = ap suc (lowered_many program funs sigs (omega (arith, e)))

pub lowered_branches : (program : core.Program) → ((f : core.Fun) → conditional_branches (body_of program f).code ≡ block_leaves f.body)
    → (funs : List core.Fun) (sigs : List Signature) → length sigs ≡ length funs → low_branches (functions_of program funs sigs) ≡ functions_leaves funs
unfolding functions_of low_branches functions_leaves
lowered_branches program leaves [] sigs e = refl
lowered_branches program leaves (f ∷ funs) [] e = absurd (omega (arith, e))
lowered_branches program leaves (f ∷ funs) (sig ∷ sigs) e =
    let one = leaves f in let rest = lowered_branches program leaves funs sigs (omega (arith, e)) in omega (arith, one, rest)
