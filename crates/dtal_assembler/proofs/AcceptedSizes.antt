-- What an accepted program has: its instructions are counted, they are in the grammar, and there is a `main`.
use Rattle.std.proofs.Common.{arith, Err, ◌≡◌, ◌≤◌, ◌<◌, ◌*◌, ◌^◌, ℕ, refl, List, [], ◌∷◌, length, Option, Some, None, IsSome, Ok}
use Rattle.std.specs.List.{All}
use Rattle.std.proofs.lemmas.List.Elements.{All-nil, All-cons, All-head, All-tail}
use Rattle.dtal_code.specs.declared.limits.TheConstants.{LAST_NUMBER}
use Rattle.dtal_code.specs.declared.program.Block.{Block}
use Rattle.dtal_code.specs.declared.program.Function.{Function}
use Rattle.dtal_code.specs.declared.program.DtalProgram.{DtalProgram}
use Rattle.dtal_code.specs.Declarations.{main_of, program_verdict}
use Rattle.dtal_code.specs.Grammar.{IsLabelled, AreBlocks, IsFunction, InGrammar}
use Rattle.dtal_code.specs.Verdicts.{Verdict, found}
use Rattle.dtal_code.specs.declared.refusal.Rule.TheVariants as rule
use Rattle.state_types.specs.Answers.{◌>>=◌}
use Rattle.dtal_code.specs.ObjectCode.{program_size}
use Rattle.dtal_assembler.specs.Labels.{IsCoded}

labelled_coded : (blocks : List Block) → All IsLabelled blocks → All IsCoded blocks
labelled_coded [] are = All-nil IsCoded
labelled_coded (block ∷ blocks) are = All-cons IsCoded block blocks (All-head IsLabelled block blocks are).code.instrs (labelled_coded blocks (All-tail IsLabelled block blocks are))

pub blocks_coded : (blocks : List Block) → AreBlocks blocks → All IsCoded blocks
blocks_coded [] are = absurd are
blocks_coded (first ∷ blocks) are = All-cons IsCoded first blocks are.1.instrs (labelled_coded blocks are.3)

each_few : (funs : List Function) → All IsFunction funs → program_size funs ≤ length funs * LAST_NUMBER
unfolding program_size
each_few [] are = omega arith
each_few (fun ∷ funs) are = let few = (All-head IsFunction fun funs are).few in let rest = each_few funs (All-tail IsFunction fun funs are) in omega arith

pub program_few : (program : DtalProgram) → InGrammar program → program_size program.funs < 2 ^ 64
program_few program grammar = let each = each_few program.funs grammar.funs in let few = grammar.few_funs in omega arith

main_from : (m : Option (ℕ × Function)) (rest : ℕ × Function → Verdict (Unit {0})) → (found m rule.Main >>= rest) ≡ Ok tt → IsSome m
main_from (Some main) rest passes = refl
main_from None rest passes = let clash : Err rule.Main ≡ Ok tt = passes in cc

pub main_there : (program : DtalProgram) → program_verdict program ≡ Ok tt → IsSome (main_of program.funs)
unfolding program_verdict
main_there program passes = main_from (main_of program.funs) _ passes
