-- The same of statements and blocks. Where branches meet and where a loop begins a note has the state of the label, and behind it one for
-- each way there.
use Rattle.std.specs.Prelude.{Bool as Truth, true, false, List, [], ◌∷◌, ◌++◌, Option, Some, None}
use Rattle.state_types.specs.declared.state.StateType.{StateType}
use Rattle.three_address.specs.declared.typed.Edge.{Edge}
use Rattle.typed_core.specs.Joins.{stated}
use Rattle.typed_core.specs.declared.note.Note.{Note}
use Rattle.xanadu_tree.specs.BodyRules.{completes_all}
use Rattle.xanadu_tree.specs.declared.stmt.Clause.{Clause}
use Rattle.xanadu_tree.specs.Plain as core
use Rattle.type_carrier.specs.ProvedRows.{Proofs, plain, way_in, behind_front}
use Rattle.type_carrier.specs.Ways.{way_edge}
use Rattle.type_carrier.specs.CarriedValues.{Carried, plainly, demanded, value, operand}
use Rattle.type_carrier.specs.CarriedTests.{Labelled, Sources, state_here, labelled, labelled_if, test}

-- ---- ways

-- A branch or a body that completes jumps to a label: what stands with the jump, by the note in front.
abbrev pub way_edges : Truth → Sources → Clause → Option StateType → List Note → List Edge
way_edges true from clause target notes = way_edge from.proofs clause.vars target (way_in notes) ∷ []
way_edges false from clause target notes = []

abbrev pub past_way : Truth → List Note → List Note
past_way true notes = behind_front notes
past_way false notes = notes

abbrev pub way_if : Truth → Sources → Clause → Option StateType → Labelled → Labelled
way_if so from clause target l =
    record l { now = record { edges = l.now.edges ++ way_edges so from clause target l.now.notes; notes = past_way so l.now.notes } }

-- ---- where branches meet

-- what stands with the first branch and its jump is in front
abbrev pub in_front : List Edge → Labelled → Labelled
in_front edges l = record l { now = record l.now { edges = edges ++ l.now.edges } }

-- Where both meet: the state, and then a way in of each that completes.
abbrev pub meeting : (one_completes two_completes : Truth) → Sources → Clause → (first : List Edge) → Labelled → Labelled
meeting one_completes two_completes from clause first two =
    let target = state_here from two in
    let met = labelled from two in
    let ways = first ++ way_edges one_completes from clause target met.now.notes in
    way_if two_completes from clause target (record met { now = record { edges = ways ++ met.now.edges; notes = past_way one_completes met.now.notes } })

-- what stands with the second branch comes behind what stands with the first one
abbrev pub branches_meet : (one_completes two_completes : Truth) → Option Clause → Sources → (first : List Edge) → Labelled → Labelled
branches_meet false false join from first two = in_front first two
branches_meet true false None from first two = in_front (first ++ plain ∷ []) (labelled from two)
branches_meet false true None from first two = in_front first (labelled_if false from two)
branches_meet one_completes two_completes join from first two = meeting one_completes two_completes from (stated join) first two

-- the second branch, of which nothing stands so far
abbrev pub second_begins : Labelled → Labelled
second_begins l = record l { now = record l.now { edges = [] } }

abbrev pub second_branch : Sources → (one_completes : Truth) → core.Stmts → Option Clause → (first : List Edge) → Labelled → Labelled
second_branch from one_completes on_false join first two = branches_meet one_completes (completes_all on_false) join from first two

-- ---- loops

-- the label of the head, and the jump there
abbrev pub entered : Sources → Clause → Option StateType → Labelled → Labelled
entered from clause target l = way_if true from clause target (labelled from l)

-- behind the body a jump back to the head, and then the label behind the loop
abbrev pub turned : Sources → Clause → Option StateType → (body : core.Stmts) → Labelled → Labelled
turned from clause target body turn = labelled from (way_if (completes_all body) from clause target turn)

-- ---- statements

abbrev pub returned : Proofs → Option core.Expr → Carried → Carried
returned proofs None c = demanded proofs (plainly c)
returned proofs (Some e) c = demanded proofs (operand proofs e c)

module _ (from : Sources) where
  unfoldable mutual
    pub statement : core.Stmt → Labelled → Labelled
    statement (core.Set x e) l = record l { now = value from.proofs e l.now }
    statement (core.Split xs e at) l = record l { now = plainly (operand from.proofs e l.now) }
    statement (core.Store array index e at) l =
        record l { now = demanded from.proofs (operand from.proofs e (operand from.proofs index (operand from.proofs array l.now))) }
    statement (core.Do call) l = record l { now = value from.proofs call l.now }
    statement (core.Print e) l = record l { now = plainly (operand from.proofs e l.now) }
    statement (core.If asked on_true on_false join at) l =
        let one = block on_true (test from false asked l) in
        let other = labelled from one in
        second_branch from (completes_all on_true) on_false join other.now.edges (block on_false (second_begins other))
    statement (core.While asked head body at) l =
        let target = state_here from l in
        turned from (stated head) target body (block body (test from false asked (entered from (stated head) target l)))
    statement (core.Return e at) l = record l { now = returned from.proofs e l.now }

    pub block : core.Stmts → Labelled → Labelled
    block core.NoStmt l = l
    block (core.AStmt s ss) l = block ss (statement s l)
