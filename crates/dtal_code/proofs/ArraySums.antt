-- The sum of an array as a program of the text: how it is spelled, which states it has, and how it is refused once something is changed.
use Rattle.std.proofs.Common.{◌≡◌, ℕ, ℤ, pos, negsuc, List, [], ◌∷◌, ◌++◌, map, Option, Some, None, Ok, codes, refl, arith}
use Rattle.std.proofs.lemmas.Fmt.{decimal_digit}
use Rattle.index_sorts.specs.Context.{IndexContext}
use Rattle.index_sorts.specs.Known.{knows, with_row}
use Rattle.xan_lin.specs.Linear.{Linear, sized, variable_form, excess_of}
use Rattle.xan_lin.specs.Subst.{replacement, replaced_terms, replaced_constant}
use Rattle.xan_lin.specs.Terms.{sum_terms, plus_term, scaled_terms}
use Rattle.xan_lin.specs.Text.{terms_text}
use Rattle.proof_lines.specs.Check.{row_given, checked_from}
use Rattle.proof_lines.specs.Spelling.{line_text}
use Rattle.proof_lines.specs.Variables.{with_terms, with_rows}
use Rattle.proof_lines.specs.declared.line.Line.{Line}
use Rattle.proof_lines.specs.declared.line.Line.TheVariants as line
use Rattle.state_types.specs.Matching.{matched, found_with, pairs_of, pair_of, pair_at, pairs_at, values_for, value_for, demanded, type_rows, index_rows, differences, own_rows}
use Rattle.state_types.specs.declared.closed.Signature.{Signature}
use Rattle.state_types.specs.declared.state.StateType.{StateType}
use Rattle.state_types.specs.declared.types.Ty.{Ty}
use Rattle.state_types.specs.declared.types.Ty.TheVariants as ty
use Rattle.operation_rules.specs.Applied.{applied, widened, all_assuming, all_given, named, all_there, ruled}
use Rattle.operation_rules.specs.Rules.{rule, two_numbers, cell_at, loaded, measured, matching, returned}
use Rattle.dtal_code.specs.declared.instruction.Cmp.TheVariants.{Le}
use Rattle.dtal_code.specs.declared.instruction.Op.{Op}
use Rattle.dtal_code.specs.declared.instruction.Op.TheVariants as op
use Rattle.dtal_code.specs.declared.instruction.Instr.{Instr}
use Rattle.dtal_code.specs.declared.program.Block.{Block}
use Rattle.dtal_code.specs.declared.program.DtalProgram.{DtalProgram}
use Rattle.dtal_code.specs.declared.refusal.Refusal.{Refusal}
use Rattle.dtal_code.specs.declared.refusal.Rule.{Rule}
use Rattle.dtal_code.specs.declared.refusal.Rule.TheVariants as broken
use Rattle.dtal_code.specs.declared.refusal.Where.TheVariants as where_is
use Rattle.dtal_code.specs.Declarations.{are_alone, names_own, signature_verdict, main_of, program_verdict, stated, numbered, state_with, state_of, state_verdict}
use Rattle.dtal_code.specs.Passing.{unknown, are_proved, are_different, with_types, ruled_verdict, goes_on_verdict, gives_back_verdict, edge_verdict, goes_to_verdict, instr_verdict}
use Rattle.dtal_code.specs.Refusing.{types_walked, signatures_walked, labels_walked, code_walked, blocks_walked, function_walked, functions_walked, verified, first_refusal}
use Rattle.dtal_code.specs.Spelling.{each_behind, each, blocks_text, program_text}

-- ---- forms

abbrev pub number : ℤ → Linear
number n = record { terms = []; constant = n }

-- the variable, and n
abbrev pub variable_and : ℕ → ℤ → Linear
variable_and var n = record { terms = record { var = var; coef = pos 1 } ∷ []; constant = n }

-- v0 - v1, and n
abbrev pub ahead : ℤ → Linear
ahead n = record { terms = record { var = 0; coef = pos 1 } ∷ record { var = 1; coef = negsuc 0 } ∷ []; constant = n }

-- v1 - v0
abbrev pub reached : Linear
reached = record { terms = record { var = 0; coef = negsuc 0 } ∷ record { var = 1; coef = pos 1 } ∷ []; constant = pos 0 }

-- v2 + v3
abbrev pub sum : Linear
sum = record { terms = record { var = 2; coef = pos 1 } ∷ record { var = 3; coef = pos 1 } ∷ []; constant = pos 0 }

-- ---- the program

abbrev pub plain : Op → Instr
plain o = record { op = o; edge = []; by = [] }

abbrev pub goes : Op → List (ℕ × Linear) → List (List Line) → Instr
goes o edge by = record { op = o; edge = edge; by = by }

abbrev pub sum_sig : Signature
sum_sig = record {
  vars = 1;
  rows = variable_form 0 ∷ [];
  params = ty.Array 0 (variable_form 0) ∷ [];
  result_vars = 1;
  result_rows = [];
  result = ty.Int (variable_form 1);
}

abbrev pub array_place : ℕ × Ty
array_place = (0, ty.Array 0 (variable_form 0))

abbrev pub index_place : ℕ × Ty
index_place = (1, ty.Int (variable_form 1))

abbrev pub sum_place : ℕ × Ty
sum_place = (2, ty.Int (variable_form 2))

abbrev pub loop_rows : List Linear
loop_rows = variable_form 0 ∷ variable_form 1 ∷ ahead (pos 0) ∷ []

abbrev pub end_rows : List Linear
end_rows = variable_form 0 ∷ variable_form 1 ∷ ahead (pos 0) ∷ reached ∷ []

-- 0 <= v1 and the opposite of the goal 0 <= v1 + 1 cannot both hold
abbrev pub proof : List (List Line)
proof = (line.Hyp (variable_form 1) ∷ line.Goal ∷ line.Comb (pos 1) 0 (pos 1) 1 ∷ []) ∷ []

abbrev pub first_block : Block
first_block = record {
  state = None;
  code = plain (op.Li 1 (pos 0)) ∷ plain (op.Li 2 (pos 0)) ∷ goes (op.Jmp 1) ((1, number (pos 0)) ∷ (2, number (pos 0)) ∷ []) [] ∷ [];
}

-- the loop, of which the jump back lists the index so and has these lines
abbrev pub loop_block : (index : Linear) → List (List Line) → Block
loop_block index by = record {
  state = Some (record { vars = 3; rows = loop_rows; places = array_place ∷ index_place ∷ sum_place ∷ [] });
  code = plain (op.Len 3 0) ∷ goes (op.Br Le 3 1 2) [] [] ∷ plain (op.Ld 3 0 1) ∷ plain (op.Add 2 2 3) ∷ plain (op.Li 3 (pos 1)) ∷ plain (op.Add 1 1 3)
      ∷ goes (op.Jmp 1) ((1, index) ∷ (2, sum) ∷ []) by ∷ [];
}

abbrev pub end_block : Op → Block
end_block last = record { state = Some (record { vars = 4; rows = end_rows; places = sum_place ∷ [] }); code = plain last ∷ [] }

abbrev pub program_with : (name : List ℕ) → (index : Linear) → List (List Line) → (last : Op) → DtalProgram
program_with name index by last = record {
  types = [];
  funs = record { name = name; sig = sum_sig; blocks = first_block ∷ loop_block index by ∷ end_block last ∷ [] } ∷ [];
}

abbrev pub array_sum : DtalProgram
array_sum = program_with (codes "main") (variable_and 1 (pos 1)) proof (op.Ret 2)

-- ---- its text

spelled : program_text array_sum ≡ codes "dtal 1\nfun main {1|+1v0+0} (arr(0,+1v0+0)) {1|} int(+1v1+0)\nli r1 0\nli r2 0\njmp 1 {v1=+0,v2=+0}\nlabel 1 {3|+1v0+0;+1v1+0;+1v0-1v1+0} [r0:arr(0,+1v0+0) r1:int(+1v1+0) r2:int(+1v2+0)]\nlen r3 r0\nbr le r3 r1 2 {}\nld r3 r0 r1\nadd r2 r2 r3\nli r3 1\nadd r1 r1 r3\njmp 1 {v1=+1v1+1,v2=+1v2+1v3+0}\nby h +1v1+0;g;c 1 0 1 1\nlabel 2 {4|+1v0+0;+1v1+0;+1v0-1v1+0;-1v0+1v1+0} [r2:int(+1v2+0)]\nret r2\nend\n"
unfolding each each_behind blocks_text terms_text line_text
spelled = rw (decimal_digit 0 (omega arith), decimal_digit 1 (omega arith), decimal_digit 2 (omega arith), decimal_digit 3 (omega arith), decimal_digit 4 (omega arith)) refl

-- ---- its states

abbrev context : (vars : ℕ) → List Linear → IndexContext
context vars rows = record { vars = vars; rows = rows }

abbrev place : ℕ → Linear → ℕ × Ty
place number form = (number, ty.Int form)

abbrev first_states : List StateType
first_states =
    state_of (context 1 (variable_form 0 ∷ [])) (array_place ∷ [])
    ∷ state_of (context 1 (variable_form 0 ∷ [])) (array_place ∷ place 1 (number (pos 0)) ∷ [])
    ∷ state_of (context 1 (variable_form 0 ∷ [])) (array_place ∷ place 1 (number (pos 0)) ∷ place 2 (number (pos 0)) ∷ [])
    ∷ []

-- where the index is before the length
abbrev inner_rows : List Linear
inner_rows = variable_form 0 ∷ variable_form 1 ∷ ahead (pos 0) ∷ ahead (negsuc 0) ∷ []

abbrev loop_states : List StateType
loop_states =
    state_of (context 3 loop_rows) (array_place ∷ index_place ∷ sum_place ∷ [])
    ∷ state_of (context 3 loop_rows) (array_place ∷ index_place ∷ sum_place ∷ place 3 (variable_form 0) ∷ [])
    ∷ state_of (context 3 inner_rows) (array_place ∷ index_place ∷ sum_place ∷ place 3 (variable_form 0) ∷ [])
    ∷ state_of (context 4 inner_rows) (array_place ∷ index_place ∷ sum_place ∷ place 3 (variable_form 3) ∷ [])
    ∷ state_of (context 4 inner_rows) (array_place ∷ index_place ∷ place 2 sum ∷ place 3 (variable_form 3) ∷ [])
    ∷ state_of (context 4 inner_rows) (array_place ∷ index_place ∷ place 2 sum ∷ place 3 (number (pos 1)) ∷ [])
    ∷ state_of (context 4 inner_rows) (array_place ∷ place 1 (variable_and 1 (pos 1)) ∷ place 2 sum ∷ place 3 (number (pos 1)) ∷ [])
    ∷ []

abbrev end_states : List StateType
end_states = state_of (context 4 end_rows) (sum_place ∷ []) ∷ []

states : verified array_sum ≡ Ok ((first_states ++ (loop_states ++ (end_states ++ []))) ∷ [])
unfolding verified types_walked signatures_walked labels_walked code_walked blocks_walked function_walked functions_walked are_alone names_own signature_verdict main_of program_verdict stated numbered state_with state_verdict unknown are_proved are_different with_types ruled_verdict goes_on_verdict gives_back_verdict edge_verdict goes_to_verdict instr_verdict applied widened all_assuming all_given named all_there ruled rule two_numbers cell_at loaded measured matching returned matched found_with pairs_of pair_of pair_at pairs_at values_for value_for demanded type_rows index_rows differences own_rows replacement replaced_terms replaced_constant sized excess_of sum_terms plus_term knows with_row row_given checked_from with_terms with_rows scaled_terms
states = refl

-- ---- refusals

-- another proof of what the jump back demands
abbrev other_lines : List Line → DtalProgram
other_lines lines = program_with (codes "main") (variable_and 1 (pos 1)) (lines ∷ []) (op.Ret 2)

abbrev changed : List DtalProgram
changed =
    -- without lines
    program_with (codes "main") (variable_and 1 (pos 1)) [] (op.Ret 2)
    -- the index stays what it is
    ∷ program_with (codes "main") (variable_form 1) proof (op.Ret 2)
    -- a multiplier below 1
    ∷ other_lines (line.Hyp (ahead (pos 0)) ∷ line.Hyp (ahead (negsuc 0)) ∷ line.Comb (negsuc 0) 0 (pos 1) 1 ∷ [])
    -- the last line cut off
    ∷ other_lines (line.Hyp (variable_form 1) ∷ line.Goal ∷ [])
    -- a place without a type
    ∷ program_with (codes "main") (variable_and 1 (pos 1)) proof (op.Ret 5)
    -- no function of that name
    ∷ program_with (codes "mein") (variable_and 1 (pos 1)) proof (op.Ret 2)
    -- a label that is not there
    ∷ program_with (codes "main") (variable_and 1 (pos 1)) proof (op.Jmp 3)
    ∷ []

abbrev at_instruction : ℕ → Rule → Option Refusal
at_instruction number broken = Some (record { at = where_is.Instr 0 number; rule = broken })

refusals : map first_refusal changed ≡
    at_instruction 9 broken.Lines ∷ at_instruction 9 broken.Lines ∷ at_instruction 9 broken.Lines ∷ at_instruction 9 broken.Lines
    ∷ at_instruction 10 broken.Place ∷ Some (record { at = where_is.Program; rule = broken.Main }) ∷ at_instruction 10 broken.Target ∷ []
unfolding verified types_walked signatures_walked labels_walked code_walked blocks_walked function_walked functions_walked are_alone names_own signature_verdict main_of program_verdict stated numbered state_with state_verdict unknown are_proved are_different with_types ruled_verdict goes_on_verdict gives_back_verdict edge_verdict goes_to_verdict instr_verdict applied widened all_assuming all_given named all_there ruled rule two_numbers cell_at loaded measured matching returned matched found_with pairs_of pair_of pair_at pairs_at values_for value_for demanded type_rows index_rows differences own_rows replacement replaced_terms replaced_constant sized excess_of sum_terms plus_term knows with_row row_given checked_from with_terms with_rows scaled_terms
refusals = refl
