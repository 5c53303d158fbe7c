-- The words of lists of instructions.
use Rattle.std.proofs.Common.{suc, ◌<◌, length, get_or, drop, arith, ℕ, ◌+◌, sym, ◌≡◌, ◌∙◌, ap, refl, List, [], ◌∷◌, ◌++◌, map, append_assoc, append-nil}
use Rattle.dtal_code.specs.declared.instruction.Instr.{Instr}
use Rattle.std.proofs.Math.Seq.{drop-cons}
use Rattle.dtal_code.specs.declared.program.Block.{Block}
use Rattle.dtal_code.specs.declared.program.Function.{Function}
use Rattle.dtal_code.specs.Grammar.{size_of}
use Rattle.dtal_code.specs.ObjectCode.{instrs_of, function_code, functions_code, starts_from, program_size}
use Rattle.dtal_code.specs.declared.object.RunOp.{RunOp}
use Rattle.dtal_code.specs.ObjectWords.{words_of, object_words}

pub object_words-append : (xs ys : List RunOp) → object_words (xs ++ ys) ≡ object_words xs ++ object_words ys
unfolding object_words
object_words-append [] ys = refl
object_words-append (x ∷ xs) ys = ap (λ ws. (words_of x).0 ∷ (words_of x).1 ∷ ws) (object_words-append xs ys)

pub mapped_words : (f : Instr → RunOp) (xs ys : List Instr) → object_words (map f (xs ++ ys)) ≡ object_words (map f xs) ++ object_words (map f ys)
unfolding object_words
mapped_words f [] ys = refl
mapped_words f (x ∷ xs) ys = ap (λ ws. (words_of (f x)).0 ∷ (words_of (f x)).1 ∷ ws) (mapped_words f xs ys)

pub ruleset word_lists = (append_assoc, append-nil, object_words-append, mapped_words)

-- the words of a block behind those before it
pub next_block : (f : Instr → RunOp) (made new total : List ℕ) (block : Block) (left later : List Block) → left ≡ block ∷ later
    → made ++ object_words (map f (instrs_of left)) ≡ total → new ≡ made ++ object_words (map f block.code) → new ++ object_words (map f (instrs_of later)) ≡ total
unfolding instrs_of
next_block f made new total block left later is before step =
    ap (λ ws. ws ++ object_words (map f (instrs_of later))) step ∙ append_assoc made (object_words (map f block.code)) (object_words (map f (instrs_of later)))
    ∙ ap (λ ws. made ++ ws) (sym (mapped_words f block.code (instrs_of later))) ∙ ap (λ blocks. made ++ object_words (map f (instrs_of blocks))) (sym is) ∙ before

pub next_function : (past start size : ℕ) (made new total : List ℕ) (fun : Function) (left later : List Function) → left ≡ fun ∷ later → size ≡ size_of fun.blocks
    → made ++ object_words (functions_code past start left) ≡ total → new ≡ made ++ object_words (function_code past start fun.blocks)
    → new ++ object_words (functions_code past (start + size) later) ≡ total
unfolding functions_code
next_function past start size made new total fun left later is size-is before step =
    ap (λ ws. ws ++ object_words (functions_code past (start + size) later)) step
    ∙ ap (λ n. (made ++ object_words (function_code past start fun.blocks)) ++ object_words (functions_code past (start + n) later)) size-is
    ∙ append_assoc made (object_words (function_code past start fun.blocks)) (object_words (functions_code past (start + size_of fun.blocks) later))
    ∙ ap (λ ws. made ++ ws) (sym (object_words-append (function_code past start fun.blocks) (functions_code past (start + size_of fun.blocks) later)))
    ∙ ap (λ funs. made ++ object_words (functions_code past start funs)) (sym is) ∙ before

pub next_start : (start size : ℕ) (made new total : List ℕ) (fun : Function) (left later : List Function) → left ≡ fun ∷ later → size ≡ size_of fun.blocks
    → made ++ starts_from start left ≡ total → new ≡ made ++ start ∷ [] → new ++ starts_from (start + size) later ≡ total
unfolding starts_from
next_start start size made new total fun left later is size-is before step =
    ap (λ ws. ws ++ starts_from (start + size) later) step ∙ append_assoc made (start ∷ []) (starts_from (start + size) later)
    ∙ ap (λ n. made ++ start ∷ starts_from (start + n) later) size-is ∙ ap (λ funs. made ++ starts_from start funs) (sym is) ∙ before

pub next_count : (start size total : ℕ) (fun : Function) (left later : List Function) → left ≡ fun ∷ later → size ≡ size_of fun.blocks
    → start + program_size left ≡ total → start + size + program_size later ≡ total
unfolding program_size
next_count start size total fun left later is size-is before = let sizes = ap program_size is in omega (arith, sizes, size-is, before)

one_more : (n : ℕ) → suc n ≡ n + 1
one_more n = omega arith

-- an item, and those behind it
pub item_first : {X : Type 0} (xs : List X) (i : ℕ) (x : X) → i < length xs → x ≡ get_or xs i x → drop i xs ≡ x ∷ drop (i + 1) xs
item_first xs i x less is = drop-cons xs i x less ∙ ap (λ n. get_or xs i x ∷ drop n xs) (one_more i) ∙ ap (λ y. y ∷ drop (i + 1) xs) (sym is)
