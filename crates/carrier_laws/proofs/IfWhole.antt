-- An `if` is typed.
use Rattle.std.proofs.Common.{◌≡◌, ◌∙◌, ℕ, Bool as Truth, List, [], ◌∷◌, ◌++◌, length, Option, Ok, subst, append_assoc}
use Rattle.state_types.specs.declared.state.StateType.{StateType}
use Rattle.value_lowering.specs.Frames.{Frame}
use Rattle.lowering.specs.StatementCode.{statement_code, statement_labels}
use Rattle.xanadu_tree.specs.BodyRules.{Point, completes, completes_all, IsStatement}
use Rattle.xanadu_tree.specs.KindRules.{Setting}
use Rattle.xanadu_tree.specs.declared.stmt.Clause.{Clause}
use Rattle.xanadu_tree.specs.Plain as core
use Rattle.typed_core.specs.States.{State}
use Rattle.typed_core.specs.Statements as elaborated
use Rattle.type_carrier.specs.CarriedStatements as carried
use Rattle.type_carrier.specs.CarriedTests.{Labelled}
use Rattle.carrier_laws.proofs.ChainsTyped.{CodeAt, code_left}
use Rattle.carrier_laws.proofs.OperandsRun.{Walk, IsWalk}
use Rattle.source_safety.proofs.BranchParts.{branching_is}
use Rattle.carrier_laws.proofs.BlocksAsked.{StatementTyped, BlockTyped}
use Rattle.carrier_laws.proofs.FragmentsTyped.{sources_of, HasLabels, AllAhead, Begins, Typed}
use Rattle.carrier_laws.proofs.IfParts as parts
use Rattle.carrier_laws.proofs.PlacesKept.{Grounds, Place, statement_left}

-- grouped otherwise
five : {A : Type 0} (a b c d e : List A) → ((a ++ b) ++ c) ++ (d ++ e) ≡ a ++ (b ++ (c ++ (d ++ e)))
five a b c d e = append_assoc (a ++ b) c (d ++ e) ∙ append_assoc a b (c ++ (d ++ e))

module _ (w : Walk) (isw : IsWalk w) (columns : List (List Truth)) (has : HasLabels w columns) (frame : Frame) (set : Setting) (g : Grounds set w.site) (sized : w.vars ≡ length frame.kinds) where
  module _ (asked : core.Test) (on_true on_false : core.Stmts) (join : Option Clause) (a : ℕ) (one_is : BlockTyped w columns frame set on_true) (two_is : BlockTyped w columns frame set on_false) where
    abbrev it : core.Stmt
    it = core.If asked on_true on_false join a

    if_whole : (before after : Point) (p : ℕ) (s : StateType) (st : State) (l : Labelled) (coming : List ℕ) (more : State) → IsStatement set before it after → Place set w.site before st
        → Begins w p s st l (statement_labels it p ++ coming) → CodeAt w.body p (statement_code frame it p) → elaborated.statement w.site it st ≡ Ok more
        → AllAhead w more (carried.statement (sources_of w columns) it l)
        → Typed (completes it) w columns p s (statement_code frame it p) (statement_labels it p) l (carried.statement (sources_of w columns) it l) more coming
    unfolding IsStatement statement_code statement_labels carried.statement
    if_whole before after p s st l coming more is place begins at made ahead =
        let b = branching_is w.site asked on_true on_false join a st more made in
        let few = (statement_left set w.site g it before after st more is made place).kept.few in
        subst (λ z. Typed (completes it) w columns p s z (statement_labels it p) l (carried.statement (sources_of w columns) it l) more coming)
        (five (parts.test_part w isw columns has frame set g sized asked on_true on_false join a one_is two_is before is.0 is.1 p s st l coming more is.2 is.3 is.4 place begins at b ahead) (parts.one_part w isw columns has frame set g sized asked on_true on_false join a one_is two_is before is.0 is.1 p s st l coming more is.2 is.3 is.4 place begins at b ahead) (parts.jump_part w isw columns has frame set g sized asked on_true on_false join a one_is two_is before is.0 is.1 p s st l coming more is.2 is.3 is.4 place begins at b ahead) (parts.two_part w isw columns has frame set g sized asked on_true on_false join a one_is two_is before is.0 is.1 p s st l coming more is.2 is.3 is.4 place begins at b ahead) (parts.last_part w isw columns has frame set g sized asked on_true on_false join a one_is two_is before is.0 is.1 p s st l coming more is.2 is.3 is.4 place begins at b ahead))
        (subst (λ z. Typed (completes it) w columns p s
        (((parts.test_part w isw columns has frame set g sized asked on_true on_false join a one_is two_is before is.0 is.1 p s st l coming more is.2 is.3 is.4 place begins at b ahead ++ parts.one_part w isw columns has frame set g sized asked on_true on_false join a one_is two_is before is.0 is.1 p s st l coming more is.2 is.3 is.4 place begins at b ahead) ++ parts.jump_part w isw columns has frame set g sized asked on_true on_false join a one_is two_is before is.0 is.1 p s st l coming more is.2 is.3 is.4 place begins at b ahead) ++ (parts.two_part w isw columns has frame set g sized asked on_true on_false join a one_is two_is before is.0 is.1 p s st l coming more is.2 is.3 is.4 place begins at b ahead ++ parts.last_part w isw columns has frame set g sized asked on_true on_false join a one_is two_is before is.0 is.1 p s st l coming more is.2 is.3 is.4 place begins at b ahead)) z l (carried.statement (sources_of w columns) it l) more coming)
        (five (parts.test_names w isw columns has frame set g sized asked on_true on_false join a one_is two_is before is.0 is.1 p s st l coming more is.2 is.3 is.4 place begins at b ahead) (parts.one_names w isw columns has frame set g sized asked on_true on_false join a one_is two_is before is.0 is.1 p s st l coming more is.2 is.3 is.4 place begins at b ahead) (parts.two_at w isw columns has frame set g sized asked on_true on_false join a one_is two_is before is.0 is.1 p s st l coming more is.2 is.3 is.4 place begins at b ahead ∷ []) (parts.two_names w isw columns has frame set g sized asked on_true on_false join a one_is two_is before is.0 is.1 p s st l coming more is.2 is.3 is.4 place begins at b ahead) (parts.last_names w isw columns has frame set g sized asked on_true on_false join a one_is two_is before is.0 is.1 p s st l coming more is.2 is.3 is.4 place begins at b ahead))
        (parts.if_cases w isw columns has frame set g sized asked on_true on_false join a one_is two_is before is.0 is.1 p s st l coming more is.2 is.3 is.4 place begins at b ahead (completes_all on_true) (completes_all on_false) join after is.5 few _ (parts.one_typed w isw columns has frame set g sized asked on_true on_false join a one_is two_is before is.0 is.1 p s st l coming more is.2 is.3 is.4 place begins at b ahead) (parts.two_typed w isw columns has frame set g sized asked on_true on_false join a one_is two_is before is.0 is.1 p s st l coming more is.2 is.3 is.4 place begins at b ahead)
        (code_left w.body (parts.jump_there w isw columns has frame set g sized asked on_true on_false join a one_is two_is before is.0 is.1 p s st l coming more is.2 is.3 is.4 place begins at b ahead) (parts.jump_part w isw columns has frame set g sized asked on_true on_false join a one_is two_is before is.0 is.1 p s st l coming more is.2 is.3 is.4 place begins at b ahead) (parts.two_part w isw columns has frame set g sized asked on_true on_false join a one_is two_is before is.0 is.1 p s st l coming more is.2 is.3 is.4 place begins at b ahead ++ parts.last_part w isw columns has frame set g sized asked on_true on_false join a one_is two_is before is.0 is.1 p s st l coming more is.2 is.3 is.4 place begins at b ahead) (parts.jump_code w isw columns has frame set g sized asked on_true on_false join a one_is two_is before is.0 is.1 p s st l coming more is.2 is.3 is.4 place begins at b ahead)) (parts.two_there w isw columns has frame set g sized asked on_true on_false join a one_is two_is before is.0 is.1 p s st l coming more is.2 is.3 is.4 place begins at b ahead)
        (parts.last_code w isw columns has frame set g sized asked on_true on_false join a one_is two_is before is.0 is.1 p s st l coming more is.2 is.3 is.4 place begins at b ahead) (parts.last_there w isw columns has frame set g sized asked on_true on_false join a one_is two_is before is.0 is.1 p s st l coming more is.2 is.3 is.4 place begins at b ahead) b.meets (parts.all_ahead w isw columns has frame set g sized asked on_true on_false join a one_is two_is before is.0 is.1 p s st l coming more is.2 is.3 is.4 place begins at b ahead)))

    pub if_typed : StatementTyped w columns frame set it
    if_typed = record { is = λ before after p s st l coming more is place begins at made ahead. if_whole before after p s st l coming more is place begins at made ahead }
