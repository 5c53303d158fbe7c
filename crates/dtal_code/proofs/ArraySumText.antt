-- The sum of an array is a program of the grammar.
use Rattle.std.proofs.Common.{◌≡◌, ◌≢◌, ℕ, ℤ, pos, negsuc, lit<, lit≤, List, [], ◌∷◌, FitsSigned, false, sym, subst, refl, rules}
use Rattle.std.specs.Int.{w64}
use Rattle.std.specs.List.{All}
use Rattle.std.proofs.lemmas.List.Elements.{All-nil, All-from_recursion}
use Rattle.xan_lin.specs.Linear.{Linear, variable_form}
use Rattle.proof_lines.specs.declared.line.Line.TheVariants as line
use Rattle.state_types.specs.declared.types.Ty.{Ty}
use Rattle.dtal_code.specs.declared.instruction.Cmp.TheVariants.{Le}
use Rattle.dtal_code.specs.declared.instruction.Op.{Op}
use Rattle.dtal_code.specs.declared.instruction.Op.TheVariants as op
use Rattle.dtal_code.specs.declared.instruction.Instr.{Instr}
use Rattle.dtal_code.specs.declared.program.Block.{Block}
use Rattle.dtal_code.specs.Grammar.{IsFormIn, IsTyIn, IsValue, IsInstr, IsOpIn, IsWay, IsCode, IsLabelled, IsTypedPlace, IsFunction, IsTypeIn, InGrammar, AreLinesIn, size_of}
use Rattle.dtal_code.specs.Spelling.{has_edge}
use Rattle.dtal_code.proofs.ArraySums.{number, variable_and, ahead, reached, sum, plain, goes, sum_sig, array_place, index_place, sum_place, loop_rows, end_rows, proof, first_block, loop_block, end_block, array_sum}

zero_in : IsFormIn (number (pos 0))
zero_in = record { is_form = record { rising = tt; few = lit≤ tt; small = refl; small_constant = refl }; variables = tt }

first_in : IsFormIn (variable_form 0)
first_in = record { is_form = record { rising = (lit≤ tt, (λ e. absurd cc), tt); few = lit≤ tt; small = refl; small_constant = refl }; variables = (lit≤ tt, tt) }

index_in : IsFormIn (variable_form 1)
index_in = record { is_form = record { rising = (lit≤ tt, (λ e. absurd cc), tt); few = lit≤ tt; small = refl; small_constant = refl }; variables = (lit≤ tt, tt) }

next_in : IsFormIn (variable_and 1 (pos 1))
next_in = record { is_form = record { rising = (lit≤ tt, (λ e. absurd cc), tt); few = lit≤ tt; small = refl; small_constant = refl }; variables = (lit≤ tt, tt) }

second_in : IsFormIn (variable_form 2)
second_in = record { is_form = record { rising = (lit≤ tt, (λ e. absurd cc), tt); few = lit≤ tt; small = refl; small_constant = refl }; variables = (lit≤ tt, tt) }

ahead_in : IsFormIn (ahead (pos 0))
ahead_in = record {
  is_form = record { rising = (lit≤ tt, (λ e. absurd cc), (lit≤ tt, (λ e. absurd cc), tt)); few = lit≤ tt; small = refl; small_constant = refl };
  variables = (lit≤ tt, (lit≤ tt, tt));
}

reached_in : IsFormIn reached
reached_in = record {
  is_form = record { rising = (lit≤ tt, (λ e. absurd cc), (lit≤ tt, (λ e. absurd cc), tt)); few = lit≤ tt; small = refl; small_constant = refl };
  variables = (lit≤ tt, (lit≤ tt, tt));
}

sum_in : IsFormIn sum
sum_in = record {
  is_form = record { rising = (lit≤ tt, (λ e. absurd cc), (lit≤ tt, (λ e. absurd cc), tt)); few = lit≤ tt; small = refl; small_constant = refl };
  variables = (lit≤ tt, (lit≤ tt, tt));
}

plain_in : (o : Op) → has_edge o ≡ false → IsOpIn o → IsInstr (plain o)
plain_in o e h = record { op = h; way = subst (λ b. IsWay b []) (sym e) refl; by = All-nil AreLinesIn }

number_fits : FitsSigned w64 (pos 0)
number_fits = search rules

one_fits : FitsSigned w64 (pos 1)
one_fits = search rules

rows_in : All IsFormIn loop_rows
rows_in = All-from_recursion IsFormIn loop_rows (first_in, (index_in, (ahead_in, tt)))

more_rows_in : All IsFormIn end_rows
more_rows_in = All-from_recursion IsFormIn end_rows (first_in, (index_in, (ahead_in, (reached_in, tt))))

proof_in : All AreLinesIn proof
proof_in = All-from_recursion AreLinesIn proof ((record { some = lit≤ tt; few = lit≤ tt; are = ((index_in.is_form, index_in.variables), (tt, ((lit≤ tt, lit≤ tt, lit≤ tt, lit≤ tt), tt))); is = refl }), tt)

first_code : IsCode first_block.code
first_code = record {
  instrs = All-from_recursion IsInstr first_block.code (
    (plain_in (op.Li 1 (pos 0)) refl (lit< tt, number_fits)),
    (
      (plain_in (op.Li 2 (pos 0)) refl (lit< tt, number_fits)),
      (
        (record {
          op = lit≤ tt;
          way = record { rise = (lit≤ tt, (lit≤ tt, tt)); are = All-from_recursion IsValue ((1, number (pos 0)) ∷ (2, number (pos 0)) ∷ []) ((lit≤ tt, zero_in), ((lit≤ tt, zero_in), tt)) };
          by = All-nil AreLinesIn;
        }),
        tt,
      ),
    ),
  );
  ends = refl;
}

loop_code : IsCode (loop_block (variable_and 1 (pos 1)) proof).code
loop_code = record {
  instrs = All-from_recursion IsInstr (loop_block (variable_and 1 (pos 1)) proof).code (
    (plain_in (op.Len 3 0) refl (lit< tt, lit< tt)),
    (
      (record { op = (lit< tt, lit< tt, lit≤ tt); way = record { rise = tt; are = All-nil IsValue }; by = All-nil AreLinesIn }),
      (
        (plain_in (op.Ld 3 0 1) refl (lit< tt, lit< tt, lit< tt)),
        (
          (plain_in (op.Add 2 2 3) refl (lit< tt, lit< tt, lit< tt)),
          (
            (plain_in (op.Li 3 (pos 1)) refl (lit< tt, one_fits)),
            (
              (plain_in (op.Add 1 1 3) refl (lit< tt, lit< tt, lit< tt)),
              (
                (record {
                  op = lit≤ tt;
                  way = record { rise = (lit≤ tt, (lit≤ tt, tt)); are = All-from_recursion IsValue ((1, variable_and 1 (pos 1)) ∷ (2, sum) ∷ []) ((lit≤ tt, next_in), ((lit≤ tt, sum_in), tt)) };
                  by = proof_in;
                }),
                tt,
              ),
            ),
          ),
        ),
      ),
    ),
  );
  ends = refl;
}

array_in : IsTypedPlace array_place
array_in = (lit< tt, (lit≤ tt, first_in))

place_in : IsTypedPlace index_place
place_in = (lit< tt, index_in)

sum_place_in : IsTypedPlace sum_place
sum_place_in = (lit< tt, second_in)

loop_in : IsLabelled (loop_block (variable_and 1 (pos 1)) proof)
loop_in = record {
  state = record {
    quantifier = record { few = lit≤ tt; are = rows_in };
    rise = (lit≤ tt, (lit≤ tt, (lit≤ tt, tt)));
    places = All-from_recursion IsTypedPlace (array_place ∷ index_place ∷ sum_place ∷ []) (array_in, (place_in, (sum_place_in, tt)));
  };
  code = loop_code;
}

end_in : IsLabelled (end_block (op.Ret 2))
end_in = record {
  state = record { quantifier = record { few = lit≤ tt; are = more_rows_in }; rise = (lit≤ tt, tt); places = All-from_recursion IsTypedPlace (sum_place ∷ []) (sum_place_in, tt) };
  code = record { instrs = All-from_recursion IsInstr (plain (op.Ret 2) ∷ []) ((plain_in (op.Ret 2) refl (lit< tt)), tt); ends = refl };
}

pub array_sum_in_grammar : InGrammar array_sum
unfolding size_of
array_sum_in_grammar = record {
  few_types = lit≤ tt;
  types = All-nil IsTypeIn;
  few_funs = lit≤ tt;
  funs = All-from_recursion IsFunction array_sum.funs (
    (record {
      name = refl;
      sig = record {
        quantifier = record { few = lit≤ tt; are = All-from_recursion IsFormIn sum_sig.rows (first_in, tt) };
        few = lit≤ tt;
        params = All-from_recursion IsTyIn sum_sig.params ((lit≤ tt, first_in), tt);
        result_quantifier = record { few = lit≤ tt; are = All-nil IsFormIn };
        result = index_in;
      };
      blocks = (refl, first_code, lit≤ tt, All-from_recursion IsLabelled (loop_block (variable_and 1 (pos 1)) proof ∷ end_block (op.Ret 2) ∷ []) (loop_in, (end_in, tt)));
      few = lit≤ tt;
    }),
    tt,
  );
}
