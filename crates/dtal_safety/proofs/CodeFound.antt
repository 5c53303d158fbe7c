-- Where the instructions of a function stand in the object code.
use Rattle.std.proofs.Common.{◌≡◌, ℕ, zero, suc, ◌+◌, List, [], ◌∷◌, ◌++◌, map, length, Some, refl, ◌∙◌, ap, arith}
use Rattle.std.specs.Prelude.{slice_get}
use Rattle.std.proofs.lemmas.List.{length-append}
use Rattle.std.proofs.lemmas.Option.{none-some, same_Some}
use Rattle.dtal_code.specs.declared.instruction.Instr.{Instr}
use Rattle.dtal_code.specs.declared.object.RunOp.{RunOp}
use Rattle.dtal_code.specs.declared.program.Block.{Block}
use Rattle.dtal_code.specs.declared.program.DtalProgram.{DtalProgram}
use Rattle.dtal_code.specs.declared.program.Function.{Function}
use Rattle.dtal_code.specs.Grammar.{size_of}
use Rattle.dtal_code.specs.Instructions.{resolved}
use Rattle.dtal_code.specs.ObjectCode.{target_in, instrs_of, function_code, functions_code, starts_from, program_size, code_of}
use Rattle.dtal_safety.proofs.Lookups.{IsThere, get_first, get_second, get_map}

-- ---- sizes

pub size_is : (blocks : List Block) → length (instrs_of blocks) ≡ size_of blocks
unfolding instrs_of size_of
size_is [] = refl
size_is (block ∷ blocks) = length-append block.code (instrs_of blocks) ∙ ap (λ n. length block.code + n) (size_is blocks)

map-length : {A B : Type 0} (f : A → B) (xs : List A) → length (map f xs) ≡ length xs
map-length f [] = refl
map-length f (x ∷ xs) = ap suc (map-length f xs)

function_size : (past start : ℕ) (blocks : List Block) → length (function_code past start blocks) ≡ size_of blocks
function_size past start blocks = map-length (λ (i : Instr). resolved (target_in past start blocks) i.op) (instrs_of blocks) ∙ size_is blocks

-- ---- starts

-- a function that is there begins somewhere
pub start_there : (low number : ℕ) (funs : List Function) (fun : Function) → slice_get funs number ≡ Some fun → IsThere (starts_from low funs) number
unfolding starts_from
start_there low number [] fun e = absurd (none-some fun e)
start_there low zero (f ∷ funs) fun e = record { value = low; there = refl }
start_there low (suc number) (f ∷ funs) fun e =
    let rest = start_there (low + size_of f.blocks) number funs fun e in record { value = rest.value; there = rest.there }

-- ---- instructions

-- an instruction of the code of functions from a number on
record IsFound (past low start index : ℕ) (funs : List Function) (op : RunOp) : Type 0 where
  skip : ℕ
  is : start ≡ low + skip
  there : slice_get (functions_code past low funs) (skip + index) ≡ Some op

found : (past low number start index : ℕ) (funs : List Function) (fun : Function) (instr : Instr) → slice_get funs number ≡ Some fun
    → slice_get (starts_from low funs) number ≡ Some start → slice_get (instrs_of fun.blocks) index ≡ Some instr
    → IsFound past low start index funs (resolved (target_in past start fun.blocks) instr.op)
unfolding starts_from functions_code
found past low number start index [] fun instr e s i = absurd (none-some fun e)
found past low zero start index (f ∷ funs) fun instr e s i =
    let same : low ≡ start = same_Some low start s in
    let here : slice_get (function_code past low f.blocks) index ≡ Some (resolved (target_in past low f.blocks) instr.op)
    = get_map (λ (x : Instr). resolved (target_in past low f.blocks) x.op) (instrs_of f.blocks) index instr (ap (λ (g : Function). slice_get (instrs_of g.blocks) index) (same_Some f fun e) ∙ i) in
    let is : resolved (target_in past low f.blocks) instr.op ≡ resolved (target_in past start fun.blocks) instr.op
    = ap (λ (g : Function). resolved (target_in past low g.blocks) instr.op) (same_Some f fun e) ∙ ap (λ n. resolved (target_in past n fun.blocks) instr.op) same in
    record {
      skip = 0;
      is = omega (arith, same);
      there = ap (λ n. slice_get (functions_code past low (f ∷ funs)) n) (let z : 0 + index ≡ index = omega arith in z)
          ∙ get_first (function_code past low f.blocks) (functions_code past (low + size_of f.blocks) funs) index (resolved (target_in past low f.blocks) instr.op) here
          ∙ ap (λ op. Some op) is;
    }
found past low (suc number) start index (f ∷ funs) fun instr e s i =
    let rest = found past (low + size_of f.blocks) number start index funs fun instr e s i in
    let size = function_size past low f.blocks in
    let first = function_code past low f.blocks in
    record {
      skip = size_of f.blocks + rest.skip;
      is = omega (arith, rest.is);
      there = ap (λ n. slice_get (first ++ functions_code past (low + size_of f.blocks) funs) n)
          (let z : (size_of f.blocks + rest.skip) + index ≡ length first + (rest.skip + index) = omega (arith, size) in z)
          ∙ get_second first (functions_code past (low + size_of f.blocks) funs) (rest.skip + index) ∙ rest.there;
    }

pub code_found : (program : DtalProgram) (number start index : ℕ) (fun : Function) (instr : Instr) → slice_get program.funs number ≡ Some fun
    → slice_get (starts_from 0 program.funs) number ≡ Some start → slice_get (instrs_of fun.blocks) index ≡ Some instr
    → slice_get (code_of program).ops (start + index) ≡ Some (resolved (target_in (program_size program.funs) start fun.blocks) instr.op)
code_found program number start index fun instr e s i =
    let f = found (program_size program.funs) 0 number start index program.funs fun instr e s i in
    ap (λ n. slice_get (functions_code (program_size program.funs) 0 program.funs) n) (let z : start + index ≡ f.skip + index = omega (arith, f.is) in z) ∙ f.there
