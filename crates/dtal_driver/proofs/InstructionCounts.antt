-- How many instructions functions have at most.
use Rattle.std.proofs.Common.{◌*◌, ◌<◌, ◌≤◌, ◌^◌, List, [], ◌∷◌, length, arith}
use Rattle.std.specs.List.{All}
use Rattle.std.proofs.lemmas.List.Elements.{All-head, All-tail}
use Rattle.dtal_code.specs.declared.program.DtalProgram.{DtalProgram}
use Rattle.dtal_code.specs.declared.program.Function.{Function}
use Rattle.dtal_code.specs.Grammar.{InGrammar, IsFunction}
use Rattle.dtal_driver.specs.VerifiedTexts.{instructions_of}

few_each : (funs : List Function) → All IsFunction funs → instructions_of funs ≤ length funs * 4294967295
unfolding instructions_of
few_each [] fit = omega arith
few_each (fun ∷ funs) fit =
    let one = (All-head IsFunction fun funs fit).few in
    let others = few_each funs (All-tail IsFunction fun funs fit) in
    omega (arith, one, others)

pub few_instructions : (program : DtalProgram) → InGrammar program → instructions_of program.funs < 2 ^ 64
few_instructions program grammar =
    let each = few_each program.funs grammar.funs in
    let few = grammar.few_funs in
    omega (arith, each, few)
