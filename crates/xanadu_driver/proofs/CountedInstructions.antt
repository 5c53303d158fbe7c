-- How many instructions functions have at most, and what is counted of a source.
use Rattle.std.proofs.Common.{◌≡◌, ℕ, ◌*◌, ◌<◌, ◌≤◌, ◌^◌, List, [], ◌∷◌, length, ap, ◌∙◌, arith}
use Rattle.std.specs.List.{All}
use Rattle.std.proofs.lemmas.List.Elements.{All-head, All-tail}
use Rattle.dtal_code.specs.declared.program.DtalProgram.{DtalProgram}
use Rattle.dtal_code.specs.declared.program.Function.{Function}
use Rattle.dtal_code.specs.Grammar.{InGrammar, IsFunction}
use Rattle.program_builder.specs.Counts.{functions_instructions, instructions}
use Rattle.program_builder.specs.ProgramOf.{IsProgramOf}
use Rattle.typed_core.specs.Goals.{Elaboration}
use Rattle.xanadu_tree.specs.Plain as plain
use Rattle.command_reports.specs.declared.answer.Counts.{Counts}
use Rattle.xanadu_driver.specs.Source.{counts_of}

few_each : (funs : List Function) → All IsFunction funs → functions_instructions funs ≤ length funs * 4294967295
unfolding functions_instructions
few_each [] fit = omega arith
few_each (fun ∷ funs) fit =
    let one = (All-head IsFunction fun funs fit).few in
    let others = few_each funs (All-tail IsFunction fun funs fit) in
    omega (arith, one, others)

pub few_instructions : (program : DtalProgram) → InGrammar program → functions_instructions program.funs < 2 ^ 64
few_instructions program grammar =
    let each = few_each program.funs grammar.funs in
    let few = grammar.few_funs in
    omega (arith, each, few)

-- ---- counts

abbrev of_each : (functions goals instructions : ℕ) → Counts
of_each f g i = record { functions = f; goals = g; instructions = i }

pub counts_are : (core : plain.Program) (made : Elaboration) (program : DtalProgram) (f g i : ℕ) → IsProgramOf core made program
    → f ≡ length program.funs → g ≡ length made.goals → i ≡ instructions program → of_each f g i ≡ counts_of core made
counts_are core made program f g i is fs gs is' =
    ap (λ (n : ℕ). of_each n g i) (fs ∙ is.functions) ∙ ap (λ (n : ℕ). of_each (length core.funs) n i) gs
    ∙ ap (of_each (length core.funs) (length made.goals)) (is' ∙ is.size)
