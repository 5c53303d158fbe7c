-- The walk without the states is refused where the walk with them is.
use Rattle.std.proofs.Common.{◌≡◌, ◌∙◌, ℕ, suc, ◌+◌, List, [], ◌∷◌, ◌++◌, drop, length, Ok, Err, refl, ap}
use Rattle.state_types.specs.Answers.{◌>>=◌}
use Rattle.state_types.specs.declared.state.StateType.{StateType}
use Rattle.operation_rules.specs.Rules.{Setting}
use Rattle.dtal_code.specs.declared.instruction.Instr.{Instr}
use Rattle.dtal_code.specs.declared.program.Block.{Block}
use Rattle.dtal_code.specs.declared.program.Function.{Function}
use Rattle.dtal_code.specs.declared.program.DtalProgram.{DtalProgram}
use Rattle.dtal_code.specs.declared.refusal.Where.TheVariants as where_is
use Rattle.dtal_code.specs.Declarations.{table_of, setting_of, program_verdict, first_state}
use Rattle.dtal_code.specs.Passing.{instr_verdict}
use Rattle.dtal_code.specs.Refusing.{types_walked, signatures_walked, labels_walked, code_walked, blocks_walked, function_walked, functions_walked, verified}
use Rattle.dtal_code.specs.Verdicts.{Walk, at_place}
use Rattle.dtal_verifier.specs.Walks.{forgotten, code_passed, blocks_passed, function_passed, functions_passed, declarations_passed, program_passed}

-- what follows is the same for each value
each_way : {A B : Type 0} (m : Walk A) (f : A → Walk B) (g : A → Walk (Unit {0})) → ((x : A) → forgotten (f x) ≡ g x) → forgotten (m >>= f) ≡ (m >>= g)
each_way (Ok x) f g h = h x
each_way (Err refusal) f g h = refl

-- a value that is only made longer
forgotten_end : {A B : Type 0} (m : Walk A) (f : A → B) → forgotten (m >>= λ x. let r : Walk B = Ok (f x) in r) ≡ forgotten m
forgotten_end (Ok x) f = refl
forgotten_end (Err refusal) f = refl

-- what follows does not look at the value
forgotten_then : {A B : Type 0} (m : Walk A) (p : Walk (Unit {0})) (f : A → Walk B) (g : Walk (Unit {0})) → forgotten m ≡ p → ((x : A) → forgotten (f x) ≡ g)
    → forgotten (m >>= f) ≡ (p >>= λ _. g)
forgotten_then (Ok x) p f g e h = h x ∙ ap (λ r. r >>= λ _. g) e
forgotten_then (Err refusal) p f g e h = ap (λ r. r >>= λ _. g) e

code_same : (st : Setting) (labels : List StateType) (fun at : ℕ) (state : StateType) (code : List Instr)
    → forgotten (code_walked st labels fun at state code) ≡ code_passed st labels fun at state code
unfolding code_walked code_passed
code_same st labels fun at state [] = refl
code_same st labels fun at state (instr ∷ code) =
    each_way (at_place (where_is.Instr fun at) (instr_verdict st labels state instr)) _ _
    (λ next. forgotten_end (code_walked st labels fun (suc at) next code) (λ states. state ∷ states) ∙ code_same st labels fun (suc at) next code)

blocks_same : (st : Setting) (labels : List StateType) (fun at : ℕ) (begins : List StateType) (blocks : List Block)
    → forgotten (blocks_walked st labels fun at begins blocks) ≡ blocks_passed st labels fun at begins blocks
unfolding blocks_walked blocks_passed
blocks_same st labels fun at [] blocks = refl
blocks_same st labels fun at (state ∷ begins) [] = refl
blocks_same st labels fun at (state ∷ begins) (block ∷ blocks) =
    forgotten_then (code_walked st labels fun at state block.code) (code_passed st labels fun at state block.code) _ _ (code_same st labels fun at state block.code)
    (λ states. forgotten_end (blocks_walked st labels fun (at + length block.code) begins blocks) (λ others. states ++ others)
    ∙ blocks_same st labels fun (at + length block.code) begins blocks)

function_same : (program : DtalProgram) (number : ℕ) (fun : Function) → forgotten (function_walked program number fun) ≡ function_passed program number fun
unfolding function_walked function_passed
function_same program number fun =
    each_way (at_place (where_is.Signature number) (first_state fun.sig)) _ _
    (λ first. each_way (labels_walked (table_of program) fun.sig number 1 (drop 1 fun.blocks)) _ _
    (λ labels. blocks_same (setting_of program fun.sig) labels number 0 (first ∷ labels) fun.blocks))

functions_same : (program : DtalProgram) (number : ℕ) (funs : List Function) → forgotten (functions_walked program number funs) ≡ functions_passed program number funs
unfolding functions_walked functions_passed
functions_same program number [] = refl
functions_same program number (fun ∷ funs) =
    forgotten_then (function_walked program number fun) (function_passed program number fun) _ _ (function_same program number fun)
    (λ states. forgotten_end (functions_walked program (suc number) funs) (λ others. states ∷ others) ∙ functions_same program (suc number) funs)

grouped : (a b c : Walk (Unit {0})) (d : Walk (Unit {0})) → (a >>= λ _. b >>= λ _. c >>= λ _. d) ≡ ((a >>= λ _. b >>= λ _. c) >>= λ _. d)
grouped (Ok x) (Ok y) c d = refl
grouped (Ok x) (Err refusal) c d = refl
grouped (Err refusal) b c d = refl

pub program_same : (program : DtalProgram) → forgotten (verified program) ≡ program_passed program
unfolding verified declarations_passed program_passed
program_same program =
    each_way (types_walked (table_of program) 2 program.types) _ _ (λ _. each_way (signatures_walked (table_of program) 0 [] program.funs) _ _
    (λ _. each_way (at_place where_is.Program (program_verdict program)) _ _ (λ _. functions_same program 0 program.funs)))
    ∙ grouped (types_walked (table_of program) 2 program.types) (signatures_walked (table_of program) 0 [] program.funs) (at_place where_is.Program (program_verdict program))
    (functions_passed program 0 program.funs)
