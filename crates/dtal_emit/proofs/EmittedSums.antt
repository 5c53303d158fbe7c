-- The sum of an array, worked out by hand: with registers as homes it is the program that is written by hand in the examples of the text, and with
-- slots as homes each word goes through the scratch registers.
use Rattle.std.proofs.Common.{◌≡◌, ℕ, pos, List, [], ◌∷◌, None, Some, codes, refl}
use Rattle.xan_lin.specs.Linear.{variable_form}
use Rattle.proof_lines.specs.declared.line.Line.TheVariants as line
use Rattle.state_types.specs.declared.state.StateType.{StateType}
use Rattle.state_types.specs.declared.types.Ty.TheVariants as ty
use Rattle.three_address.specs.Splits.{parts_of}
use Rattle.three_address.specs.declared.assignment.Assignment.{Assignment}
use Rattle.three_address.specs.declared.typed.Edge.{Edge}
use Rattle.three_address.specs.declared.typed.Typed.{Typed}
use Rattle.three_address.proofs.LowSources.{sum_program}
use Rattle.dtal_code.specs.declared.instruction.Cmp.TheVariants.{Le}
use Rattle.dtal_code.specs.declared.instruction.Instr.{Instr}
use Rattle.dtal_code.specs.declared.instruction.Op.TheVariants as op
use Rattle.dtal_code.specs.declared.program.DtalProgram.{DtalProgram}
use Rattle.dtal_code.proofs.ArraySums.{array_sum, number, variable_and, sum, ahead, reached, proof, plain, goes, sum_sig, loop_rows, end_rows}
use Rattle.dtal_emit.specs.Homes.{loads, registers, entry_moves}
use Rattle.dtal_emit.specs.Emitted.{count_before, ordered_from, emitted_instr, emitted_all, at_homes, blocks_from, emitted_funs, emitted}

-- ---- the typed code

abbrev loop_state : StateType
loop_state = record {
  ctx = record { vars = 3; rows = loop_rows };
  places = (0, ty.Array 0 (variable_form 0)) ∷ (1, ty.Int (variable_form 1)) ∷ (2, ty.Int (variable_form 2)) ∷ [];
}

abbrev end_state : StateType
end_state = record { ctx = record { vars = 4; rows = end_rows }; places = (2, ty.Int (variable_form 2)) ∷ [] }

abbrev none : Edge
none = record { values = []; by = [] }

abbrev enters : Edge
enters = record { values = (1, number (pos 0)) ∷ (2, number (pos 0)) ∷ []; by = [] }

-- the jump back: the row of the label that the next index is at least 0 is proved
abbrev returns : Edge
returns = record {
  values = (1, variable_and 1 (pos 1)) ∷ (2, sum) ∷ [];
  by = record { place = None; row = variable_and 1 (pos 1); lines = line.Hyp (variable_form 1) ∷ line.Goal ∷ line.Comb (pos 1) 0 (pos 1) 1 ∷ [] } ∷ [];
}

abbrev sum_typed : Typed
sum_typed = record {
  low = sum_program;
  states = (loop_state ∷ end_state ∷ []) ∷ [];
  edges = (none ∷ none ∷ enters ∷ none ∷ none ∷ none ∷ none ∷ none ∷ none ∷ returns ∷ none ∷ []) ∷ [];
}

-- ---- registers

in_registers : emitted sum_typed (record { homes = (0 ∷ 1 ∷ 2 ∷ 3 ∷ []) ∷ [] }) ≡ array_sum
unfolding emitted emitted_funs blocks_from emitted_all emitted_instr parts_of loads registers entry_moves ordered_from count_before at_homes
in_registers = refl

-- ---- slots

abbrev in_slots_program : DtalProgram
in_slots_program = record {
  types = [];
  funs = record {
    name = codes "main";
    sig = sum_sig;
    blocks = record {
      state = None;
      code = plain (op.Mv 16 0) ∷ plain (op.Li 13 (pos 0)) ∷ plain (op.Mv 17 13) ∷ plain (op.Li 13 (pos 0)) ∷ plain (op.Mv 18 13)
          ∷ goes (op.Jmp 1) ((1, number (pos 0)) ∷ (2, number (pos 0)) ∷ []) [] ∷ [];
    }
        ∷ record {
          state = Some (record { vars = 3; rows = loop_rows; places = (16, ty.Array 0 (variable_form 0)) ∷ (17, ty.Int (variable_form 1)) ∷ (18, ty.Int (variable_form 2)) ∷ [] });
          code = plain (op.Mv 13 16) ∷ plain (op.Len 13 13) ∷ plain (op.Mv 19 13)
              ∷ plain (op.Mv 13 19) ∷ plain (op.Mv 14 17) ∷ goes (op.Br Le 13 14 2) [] []
              ∷ plain (op.Mv 13 16) ∷ plain (op.Mv 14 17) ∷ plain (op.Ld 13 13 14) ∷ plain (op.Mv 19 13)
              ∷ plain (op.Mv 13 18) ∷ plain (op.Mv 14 19) ∷ plain (op.Add 13 13 14) ∷ plain (op.Mv 18 13)
              ∷ plain (op.Li 13 (pos 1)) ∷ plain (op.Mv 19 13)
              ∷ plain (op.Mv 13 17) ∷ plain (op.Mv 14 19) ∷ plain (op.Add 13 13 14) ∷ plain (op.Mv 17 13)
              ∷ goes (op.Jmp 1) ((1, variable_and 1 (pos 1)) ∷ (2, sum) ∷ []) proof ∷ [];
        }
        ∷ record {
          state = Some (record { vars = 4; rows = end_rows; places = (18, ty.Int (variable_form 2)) ∷ [] });
          code = plain (op.Ret 18) ∷ [];
        }
        ∷ [];
  } ∷ [];
}

in_slots : emitted sum_typed (record { homes = (16 ∷ 17 ∷ 18 ∷ 19 ∷ []) ∷ [] }) ≡ in_slots_program
unfolding emitted emitted_funs blocks_from emitted_all emitted_instr parts_of loads registers entry_moves ordered_from count_before at_homes
in_slots = refl
