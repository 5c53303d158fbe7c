-- What is carried has what the notes have from which it comes: a property of each edge and of each label's state that a note gives, is one of all.
use Rattle.std.proofs.Common.{ℕ, suc, Bool as Truth, true, false, not, List, [], ◌∷◌, ◌++◌, length, option_to_list, Option, Some, None}
use Rattle.std.specs.Option.{option_map}
use Rattle.std.specs.List.{AllByRecursion}
use Rattle.lowering.specs.TestCode.{turn, inner_on}
use Rattle.state_types.specs.declared.state.StateType.{StateType}
use Rattle.three_address.specs.declared.typed.Edge.{Edge}
use Rattle.typed_core.specs.Joins.{stated}
use Rattle.typed_core.specs.declared.note.Note.{Note}
use Rattle.typed_core.specs.declared.note.Note.TheVariants as note
use Rattle.xanadu_tree.specs.BodyRules.{completes_all}
use Rattle.xanadu_tree.specs.declared.stmt.Clause.{Clause}
use Rattle.xanadu_tree.specs.declared.types.CoreTy.{CoreTy}
use Rattle.xanadu_tree.specs.Plain as core
use Rattle.type_carrier.specs.CarriedStatements.{way_edges, past_way, way_if, in_front, meeting, branches_meet, second_begins, entered, returned, statement, block}
use Rattle.type_carrier.specs.CarriedTests.{Labelled, Sources, past_note, state_here, labelled, labelled_if, jump_plainly, leaf, test, parts_carried}
use Rattle.type_carrier.specs.CarriedValues.{Carried, plainly, demanded, operand_carried, divides, demanded_if, value, operands, links, operand}
use Rattle.type_carrier.specs.ProvedRows.{plain, demand_edge, demand_in, state_in, way_in, behind_front}
use Rattle.type_carrier.specs.Ways.{label_state, way_edge}

pub all_push : {A : Type 0} (P : A → Type 0) (xs : List A) (y : A) → AllByRecursion P xs → P y → AllByRecursion P (xs ++ y ∷ [])
all_push P [] y all p = (p, tt)
all_push P (x ∷ xs) y all p = (all.0, all_push P xs y all.1 p)

pub all_on : {A : Type 0} (P : A → Type 0) (xs ys : List A) → AllByRecursion P xs → AllByRecursion P ys → AllByRecursion P (xs ++ ys)
all_on P [] ys all more = more
all_on P (x ∷ xs) ys all more = (all.0, all_on P xs ys all.1 more)

module _ (from : Sources) (N : Note → Type 0) (E : Edge → Type 0) (R : StateType → Type 0) (is_plain : E plain)
    (is_demand : (numbers : List ℕ) → E (demand_edge from.proofs numbers))
    (is_way : (vars : List (ℕ × CoreTy)) (target : Option StateType) (notes : List Note) → AllByRecursion N notes → E (way_edge from.proofs vars target (way_in notes)))
    (is_label : (number : ℕ) (noted : StateType) → N (note.State noted) → R (label_state from.columns number noted)) where
  pub record Keeps (c : Carried) : Type 0 where
    pub edges : AllByRecursion E c.edges
    pub notes : AllByRecursion N c.notes

  behind : (notes : List Note) → AllByRecursion N notes → AllByRecursion N (behind_front notes)
  behind [] all = tt
  behind (one ∷ notes) all = all.1

  -- ---- values

  plain_kept : (c : Carried) → Keeps c → Keeps (plainly c)
  plain_kept c k = record { edges = all_push E c.edges plain k.edges is_plain; notes = k.notes }

  demand_kept : (c : Carried) → Keeps c → Keeps (demanded from.proofs c)
  demand_kept c k = record { edges = all_push E c.edges _ k.edges (is_demand (demand_in c.notes)); notes = behind c.notes k.notes }

  link_kept : (b : Truth) (c : Carried) → Keeps c → Keeps (demanded_if b from.proofs c)
  link_kept true c k = demand_kept c k
  link_kept false c k = plain_kept c k

  either_kept : (e : core.Expr) (v c : Carried) → Keeps v → Keeps c → Keeps (operand_carried e v c)
  either_kept (core.Var x) v c kv kc = kc
  either_kept (core.Int n) v c kv kc = kv
  either_kept (core.Bool b) v c kv kc = kv
  either_kept (core.Neg e) v c kv kc = kv
  either_kept (core.Chain first rest) v c kv kc = kv
  either_kept (core.Compare rel left right) v c kv kc = kv
  either_kept (core.Index array index at) v c kv kc = kv
  either_kept (core.Len array) v c kv kc = kv
  either_kept (core.Call fun args at) v c kv kc = kv
  either_kept (core.Make number args at) v c kv kc = kv
  either_kept (core.New element len fill at) v c kv kc = kv

  mutual
    unfolding value

    pub value_kept : (e : core.Expr) (c : Carried) → Keeps c → Keeps (value from.proofs e c)
    value_kept (core.Int n) c k = plain_kept c k
    value_kept (core.Bool b) c k = plain_kept c k
    value_kept (core.Var x) c k = plain_kept c k
    value_kept (core.Neg e) c k =
        let first = plain_kept c k in plain_kept (operand from.proofs e (plainly c)) (either_kept e (value from.proofs e (plainly c)) (plainly c) (value_kept e (plainly c) first) first)
    value_kept (core.Chain first rest) c k = links_kept rest (operand from.proofs first c) (either_kept first (value from.proofs first c) c (value_kept first c k) k)
    value_kept (core.Compare rel left right) c k =
        let one = operand from.proofs left c in
        let a = either_kept left (value from.proofs left c) c (value_kept left c k) k in
        plain_kept (operand from.proofs right one) (either_kept right (value from.proofs right one) one (value_kept right one a) a)
    value_kept (core.Index array index at) c k =
        let one = operand from.proofs array c in
        let a = either_kept array (value from.proofs array c) c (value_kept array c k) k in
        demand_kept (operand from.proofs index one) (either_kept index (value from.proofs index one) one (value_kept index one a) a)
    value_kept (core.Len array) c k = plain_kept (operand from.proofs array c) (either_kept array (value from.proofs array c) c (value_kept array c k) k)
    value_kept (core.Call fun args at) c k = demand_kept (operands from.proofs args c) (list_kept args c k)
    value_kept (core.Make number args at) c k = demand_kept (operands from.proofs args c) (list_kept args c k)
    value_kept (core.New element len fill at) c k =
        let one = operand from.proofs len c in
        let a = either_kept len (value from.proofs len c) c (value_kept len c k) k in
        demand_kept (operand from.proofs fill one) (either_kept fill (value from.proofs fill one) one (value_kept fill one a) a)

    list_kept : (es : core.Exprs) (c : Carried) → Keeps c → Keeps (operands from.proofs es c)
    list_kept core.NoExpr c k = k
    list_kept (core.AnExpr e es) c k = list_kept es (operand from.proofs e c) (either_kept e (value from.proofs e c) c (value_kept e c k) k)

    links_kept : (rest : core.Links) (c : Carried) → Keeps c → Keeps (links from.proofs rest c)
    links_kept core.NoLink c k = k
    links_kept (core.ALink o e at others) c k =
        let one = operand from.proofs e c in
        links_kept others (demanded_if (divides o) from.proofs one) (link_kept (divides o) one (either_kept e (value from.proofs e c) c (value_kept e c k) k))

  operand_kept : (e : core.Expr) (c : Carried) → Keeps c → Keeps (operand from.proofs e c)
  operand_kept e c k = either_kept e (value from.proofs e c) c (value_kept e c k) k

  -- ---- labels

  pub record KeepsAll (l : Labelled) : Type 0 where
    pub now : Keeps l.now
    pub states : AllByRecursion R l.states

  here_kept : (number : ℕ) (notes : List Note) → AllByRecursion N notes → AllByRecursion R (option_to_list (option_map (label_state from.columns number) (state_in notes)))
  here_kept number [] all = tt
  here_kept number (note.State noted ∷ notes) all = (is_label number noted all.0, tt)
  here_kept number (note.Edge values present goals ∷ notes) all = tt
  here_kept number (note.Demand goals ∷ notes) all = tt

  past_kept : (l : Labelled) → KeepsAll l → Keeps (past_note l.now)
  past_kept l k = record { edges = k.now.edges; notes = behind l.now.notes k.now.notes }

  label_kept : (l : Labelled) → KeepsAll l → KeepsAll (labelled from l)
  label_kept l k = record {
    now = past_kept l k;
    states = all_on R l.states (option_to_list (state_here from l)) k.states (here_kept (suc (length l.states)) l.now.notes k.now.notes);
  }

  label_if_kept : (b : Truth) (l : Labelled) → KeepsAll l → KeepsAll (labelled_if b from l)
  label_if_kept true l k = label_kept l k
  label_if_kept false l k = record { now = past_kept l k; states = k.states }

  jump_kept : (b : Truth) (l : Labelled) → KeepsAll l → KeepsAll (jump_plainly b l)
  jump_kept true l k = record { now = plain_kept l.now k.now; states = k.states }
  jump_kept false l k = k

  -- ---- tests

  leaf_kept : (e : core.Expr) (c : Carried) → Keeps c → Keeps (leaf from.proofs e c)
  leaf_kept (core.Compare rel left right) c k =
      let one = operand_kept left c k in plain_kept (operand from.proofs right (operand from.proofs left c)) (operand_kept right (operand from.proofs left c) one)
  leaf_kept (core.Int n) c k = plain_kept (operand from.proofs (core.Int n) c) (operand_kept (core.Int n) c k)
  leaf_kept (core.Bool b) c k = plain_kept (operand from.proofs (core.Bool b) c) (operand_kept (core.Bool b) c k)
  leaf_kept (core.Var x) c k = plain_kept (operand from.proofs (core.Var x) c) (operand_kept (core.Var x) c k)
  leaf_kept (core.Neg e) c k = plain_kept (operand from.proofs (core.Neg e) c) (operand_kept (core.Neg e) c k)
  leaf_kept (core.Chain first rest) c k = plain_kept (operand from.proofs (core.Chain first rest) c) (operand_kept (core.Chain first rest) c k)
  leaf_kept (core.Index array index at) c k = plain_kept (operand from.proofs (core.Index array index at) c) (operand_kept (core.Index array index at) c k)
  leaf_kept (core.Len array) c k = plain_kept (operand from.proofs (core.Len array) c) (operand_kept (core.Len array) c k)
  leaf_kept (core.Call fun args at) c k = plain_kept (operand from.proofs (core.Call fun args at) c) (operand_kept (core.Call fun args at) c k)
  leaf_kept (core.Make number args at) c k = plain_kept (operand from.proofs (core.Make number args at) c) (operand_kept (core.Make number args at) c k)
  leaf_kept (core.New element len fill at) c k = plain_kept (operand from.proofs (core.New element len fill at) c) (operand_kept (core.New element len fill at) c k)

  mutual
    unfolding test

    pub test_kept : (on : Truth) (t : core.Test) (l : Labelled) → KeepsAll l → KeepsAll (test from on t l)
    test_kept on (core.Leaf e) l k = record { now = leaf_kept e l.now k.now; states = k.states }
    test_kept on (core.All parts) l k =
        let inner = parts_carried from (inner_on on on) on parts l in
        label_if_kept on (jump_plainly on inner) (jump_kept on inner (parts_kept (inner_on on on) on parts l k))
    test_kept on (core.Any parts) l k =
        let inner = parts_carried from (inner_on (not on) on) on parts l in
        label_if_kept (not on) (jump_plainly (not on) inner) (jump_kept (not on) inner (parts_kept (inner_on (not on) on) on parts l k))
    test_kept on (core.Not part) l k = test_kept (not on) part l k

    parts_kept : (inner last : Truth) (parts : core.Tests) (l : Labelled) → KeepsAll l → KeepsAll (parts_carried from inner last parts l)
    parts_kept inner last core.NoTest l k = k
    parts_kept inner last (core.ATest t others) l k = parts_kept inner last others (test from (turn others inner last) t l) (test_kept (turn others inner last) t l k)

  -- ---- ways

  ways_are : (so : Truth) (clause : Clause) (target : Option StateType) (notes : List Note) → AllByRecursion N notes → AllByRecursion E (way_edges so from clause target notes)
  ways_are true clause target notes all = (is_way clause.vars target notes all, tt)
  ways_are false clause target notes all = tt

  past_ways : (so : Truth) (notes : List Note) → AllByRecursion N notes → AllByRecursion N (past_way so notes)
  past_ways true notes all = behind notes all
  past_ways false notes all = all

  way_kept : (so : Truth) (clause : Clause) (target : Option StateType) (l : Labelled) → KeepsAll l → KeepsAll (way_if so from clause target l)
  way_kept so clause target l k = record {
    now = record {
      edges = all_on E l.now.edges (way_edges so from clause target l.now.notes) k.now.edges (ways_are so clause target l.now.notes k.now.notes);
      notes = past_ways so l.now.notes k.now.notes;
    };
    states = k.states;
  }

  front_kept : (edges : List Edge) (l : Labelled) → AllByRecursion E edges → KeepsAll l → KeepsAll (in_front edges l)
  front_kept edges l all k = record { now = record { edges = all_on E edges l.now.edges all k.now.edges; notes = k.now.notes }; states = k.states }

  meeting_kept : (one two : Truth) (clause : Clause) (first : List Edge) (l : Labelled) → AllByRecursion E first → KeepsAll l → KeepsAll (meeting one two from clause first l)
  meeting_kept one two clause first l all k =
      let target = state_here from l in
      let met = labelled from l in
      let m = label_kept l k in
      let ways = first ++ way_edges one from clause target met.now.notes in
      let behind_one : Labelled = record met { now = record { edges = ways ++ met.now.edges; notes = past_way one met.now.notes } } in
      way_kept two clause target behind_one (record {
        now = record {
          edges = all_on E ways met.now.edges (all_on E first (way_edges one from clause target met.now.notes) all (ways_are one clause target met.now.notes m.now.notes)) m.now.edges;
          notes = past_ways one met.now.notes m.now.notes;
        };
        states = m.states;
      })

  branches_kept : (one two : Truth) (join : Option Clause) (first : List Edge) (l : Labelled) → AllByRecursion E first → KeepsAll l → KeepsAll (branches_meet one two join from first l)
  branches_kept false false join first l all k = front_kept first l all k
  branches_kept true false None first l all k = front_kept (first ++ plain ∷ []) (labelled from l) (all_push E first plain all is_plain) (label_kept l k)
  branches_kept true false (Some c) first l all k = meeting_kept true false c first l all k
  branches_kept false true None first l all k = front_kept first (labelled_if false from l) all (label_if_kept false l k)
  branches_kept false true (Some c) first l all k = meeting_kept false true c first l all k
  branches_kept true true join first l all k = meeting_kept true true (stated join) first l all k

  -- ---- statements and blocks

  return_kept : (e : Option core.Expr) (c : Carried) → Keeps c → Keeps (returned from.proofs e c)
  return_kept None c k = demand_kept (plainly c) (plain_kept c k)
  return_kept (Some e) c k = demand_kept (operand from.proofs e c) (operand_kept e c k)

  mutual
    unfolding statement

    pub statement_kept : (s : core.Stmt) (l : Labelled) → KeepsAll l → KeepsAll (statement from s l)
    statement_kept (core.Set x e) l k = record { now = value_kept e l.now k.now; states = k.states }
    statement_kept (core.Split xs e at) l k = record { now = plain_kept (operand from.proofs e l.now) (operand_kept e l.now k.now); states = k.states }
    statement_kept (core.Store array index e at) l k =
        let one = operand from.proofs array l.now in
        let two = operand from.proofs index one in
        record { now = demand_kept (operand from.proofs e two) (operand_kept e two (operand_kept index one (operand_kept array l.now k.now))); states = k.states }
    statement_kept (core.Do call) l k = record { now = value_kept call l.now k.now; states = k.states }
    statement_kept (core.Print e) l k = record { now = plain_kept (operand from.proofs e l.now) (operand_kept e l.now k.now); states = k.states }
    statement_kept (core.If asked on_true on_false join at) l k =
        let tested = test from false asked l in
        let one = block from on_true tested in
        let other = labelled from one in
        let o = label_kept one (block_kept on_true tested (test_kept false asked l k)) in
        let begun : KeepsAll (second_begins other) = record { now = record { edges = tt; notes = o.now.notes }; states = o.states } in
        branches_kept (completes_all on_true) (completes_all on_false) join other.now.edges (block from on_false (second_begins other)) o.now.edges
        (block_kept on_false (second_begins other) begun)
    statement_kept (core.While asked head body at) l k =
        let target = state_here from l in
        let begun = entered from (stated head) target l in
        let b = way_kept true (stated head) target (labelled from l) (label_kept l k) in
        let tested = test from false asked begun in
        let turn = block from body tested in
        let t = block_kept body tested (test_kept false asked begun b) in
        label_kept (way_if (completes_all body) from (stated head) target turn) (way_kept (completes_all body) (stated head) target turn t)
    statement_kept (core.Return e at) l k = record { now = return_kept e l.now k.now; states = k.states }

    pub block_kept : (ss : core.Stmts) (l : Labelled) → KeepsAll l → KeepsAll (block from ss l)
    block_kept core.NoStmt l k = k
    block_kept (core.AStmt s ss) l k = block_kept ss (statement from s l) (statement_kept s l k)
