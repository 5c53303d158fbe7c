-- What the code makes of a program is what is defined.
use Rattle.std.proofs.Common.{◌≡◌, ◌∙◌, List, map, sym, ap, subst}
use Rattle.std.specs.List.{AllZip}
use Rattle.proof_lines.specs.declared.line.Line.{Line}
use Rattle.state_types.specs.declared.state.StateType.{StateType}
use Rattle.three_address.specs.LiveLabels.{AreAllColumns}
use Rattle.three_address.specs.declared.function.LowFun.{LowFun}
use Rattle.three_address.specs.declared.function.Lowered.{Lowered}
use Rattle.three_address.specs.declared.typed.Edge.{Edge}
use Rattle.three_address.specs.declared.typed.Typed.{Typed}
use Rattle.typed_core.specs.Proving.{ProvedParts}
use Rattle.typed_core.specs.declared.goal.GoalAt.{GoalAt}
use Rattle.typed_core.specs.declared.note.Note.{Note}
use Rattle.xanadu_tree.specs.declared.program.CoreFun.{CoreFun}
use Rattle.xanadu_tree.specs.PlainOf.{plain_fun}
use Rattle.type_carrier.specs.Carried.{Columns, Functions, Carries, functions, functions_of, no_functions, carried}
use Rattle.type_carrier.specs.ProvedRows.{proofs_in}

pub carries : (program : ProvedParts) (low : Lowered) (goals : List GoalAt) (lines : List (List Line)) (funs : List CoreFun) (notes : List Note) (lows : List LowFun)
    (columns seen : List Columns) (states made_states : List (List StateType)) (edges made_edges : List (List Edge)) (rest : List Note)
    → goals ≡ program.base.made.goals → lines ≡ program.lines → funs ≡ program.base.core.funs → notes ≡ program.base.made.notes → lows ≡ low.funs → seen ≡ columns
    → made_states ≡ states → made_edges ≡ edges → AllZip AreAllColumns lows columns
    → functions_of states edges rest ≡ functions (proofs_in goals lines) (map plain_fun funs) seen (no_functions notes)
    → Carries program low (let typed : Typed = record { low = low; states = made_states; edges = made_edges } in typed)
carries program low goals lines funs notes lows columns seen states made_states edges made_edges rest g l f n w k s e live is =
    let whole = is
    ∙ ap (λ x. functions (proofs_in x lines) (map plain_fun funs) seen (no_functions notes)) g
    ∙ ap (λ x. functions (proofs_in program.base.made.goals x) (map plain_fun funs) seen (no_functions notes)) l
    ∙ ap (λ x. functions (proofs_in program.base.made.goals program.lines) (map plain_fun x) seen (no_functions notes)) f
    ∙ ap (λ x. functions (proofs_in program.base.made.goals program.lines) (map plain_fun program.base.core.funs) seen (no_functions x)) n
    ∙ ap (λ x. functions (proofs_in program.base.made.goals program.lines) (map plain_fun program.base.core.funs) x (no_functions program.base.made.notes)) k in
    record {
      columns = columns;
      live = subst (λ x. AllZip AreAllColumns x columns) w live;
      is = ap (λ x. let typed : Typed = record { low = low; states = x; edges = made_edges } in typed) s
          ∙ ap (λ x. let typed : Typed = record { low = low; states = states; edges = x } in typed) e
          ∙ ap (λ (x : Functions). let typed : Typed = record { low = low; states = x.states; edges = x.edges } in typed) whole;
    }
