-- The states that carrying makes for labels are those of the notes that it takes, whatever was elaborated.
use Rattle.std.proofs.Common.{◌≡◌, ◌∙◌, ℕ, suc, Bool as Truth, true, false, not, List, [], ◌∷◌, ◌++◌, length, Option, Some, None, refl, sym, ap, append_assoc, append-nil}
use Rattle.std.specs.List.{AllByRecursion}
use Rattle.lowering.specs.TestCode.{turn, inner_on}
use Rattle.state_types.specs.declared.state.StateType.{StateType}
use Rattle.three_address.specs.declared.typed.Edge.{Edge}
use Rattle.xanadu_tree.specs.BodyRules.{completes_all}
use Rattle.xanadu_tree.specs.declared.stmt.Clause.{Clause}
use Rattle.xanadu_tree.specs.Plain as core
use Rattle.typed_core.specs.Joins.{stated}
use Rattle.typed_core.specs.declared.note.Note.{Note}
use Rattle.typed_core.specs.declared.note.Note.TheVariants as note
use Rattle.type_carrier.specs.CarriedValues.{Carried, plainly, demanded, demanded_if, divides, value, operand, operands, links}
use Rattle.type_carrier.specs.CarriedTests.{Labelled, Sources, walked, state_here, labelled, labelled_if, past_note, jump_plainly, leaf, test, parts_carried}
use Rattle.type_carrier.specs.CarriedStatements.{statement, block, way_if, past_way, in_front, meeting, branches_meet, second_begins, returned}
use Rattle.type_carrier.specs.ProvedRows.{Proofs, behind_front}
use Rattle.type_carrier.specs.Ways.{label_state}

-- ---- notes are taken from the front

pub record Drops (before after : List Note) : Type 0 where
  pub taken : List Note
  pub is : before ≡ taken ++ after

drops_none : (a : List Note) → Drops a a
drops_none a = record { taken = []; is = refl }

one_behind : (a b c first second : List Note) → a ≡ first ++ b → b ≡ second ++ c → a ≡ (first ++ second) ++ c
one_behind a b c first second one two = one ∙ ap (λ ns. first ++ ns) two ∙ sym (append_assoc first second c)

drops_on : (a b c : List Note) → Drops a b → Drops b c → Drops a c
drops_on a b c one two = record { taken = one.taken ++ two.taken; is = one_behind a b c one.taken two.taken one.is two.is }

drops_front : (a : List Note) → Drops a (behind_front a)
drops_front [] = drops_none []
drops_front (one ∷ others) = record { taken = one ∷ []; is = refl }

module _ (proofs : Proofs) where
  abbrev Goes : (Carried → Carried) → Carried → Type 0
  Goes f c = Drops c.notes (f c).notes

  -- one behind the other
  both : (f g : Carried → Carried) (c : Carried) → Goes f c → Goes g (f c) → Drops c.notes (g (f c)).notes
  both f g c one two = drops_on c.notes (f c).notes (g (f c)).notes one two

  demand_drops : (c : Carried) → Goes (demanded proofs) c
  demand_drops c = drops_front c.notes

  as_operand : (e : core.Expr) (c : Carried) → Goes (value proofs e) c → Goes (operand proofs e) c
  as_operand (core.Var x) c h = drops_none c.notes
  as_operand (core.Int n) c h = h
  as_operand (core.Bool b) c h = h
  as_operand (core.Neg e) c h = h
  as_operand (core.Chain first rest) c h = h
  as_operand (core.Compare r left right) c h = h
  as_operand (core.Index array index at) c h = h
  as_operand (core.Len array) c h = h
  as_operand (core.Call fun args at) c h = h
  as_operand (core.Make number args at) c h = h
  as_operand (core.New element len fill at) c h = h

  demand_if : (b : Truth) (c : Carried) → Goes (demanded_if b proofs) c
  demand_if true c = demand_drops c
  demand_if false c = drops_none c.notes

  mutual
    unfolding value

    value_drops : (e : core.Expr) (c : Carried) → Goes (value proofs e) c
    value_drops (core.Int n) c = drops_none c.notes
    value_drops (core.Bool b) c = drops_none c.notes
    value_drops (core.Var x) c = drops_none c.notes
    value_drops (core.Neg e) c = as_operand e (plainly c) (value_drops e (plainly c))
    value_drops (core.Chain first rest) c = both (operand proofs first) (links proofs rest) c (as_operand first c (value_drops first c)) (links_drop rest (operand proofs first c))
    value_drops (core.Compare r left right) c =
        both (operand proofs left) (operand proofs right) c (as_operand left c (value_drops left c))
        (as_operand right (operand proofs left c) (value_drops right (operand proofs left c)))
    value_drops (core.Index array index at) c =
        both (λ d. operand proofs index (operand proofs array d)) (demanded proofs) c
        (both (operand proofs array) (operand proofs index) c (as_operand array c (value_drops array c))
        (as_operand index (operand proofs array c) (value_drops index (operand proofs array c))))
        (demand_drops (operand proofs index (operand proofs array c)))
    value_drops (core.Len array) c = as_operand array c (value_drops array c)
    value_drops (core.Call fun args at) c = both (operands proofs args) (demanded proofs) c (operands_drop args c) (demand_drops (operands proofs args c))
    value_drops (core.Make number args at) c = both (operands proofs args) (demanded proofs) c (operands_drop args c) (demand_drops (operands proofs args c))
    value_drops (core.New element len fill at) c =
        both (λ d. operand proofs fill (operand proofs len d)) (demanded proofs) c
        (both (operand proofs len) (operand proofs fill) c (as_operand len c (value_drops len c))
        (as_operand fill (operand proofs len c) (value_drops fill (operand proofs len c))))
        (demand_drops (operand proofs fill (operand proofs len c)))

    operands_drop : (es : core.Exprs) (c : Carried) → Goes (operands proofs es) c
    operands_drop core.NoExpr c = drops_none c.notes
    operands_drop (core.AnExpr e es) c = both (operand proofs e) (operands proofs es) c (as_operand e c (value_drops e c)) (operands_drop es (operand proofs e c))

    links_drop : (rest : core.Links) (c : Carried) → Goes (links proofs rest) c
    links_drop core.NoLink c = drops_none c.notes
    links_drop (core.ALink o e at others) c =
        both (λ d. demanded_if (divides o) proofs (operand proofs e d)) (links proofs others) c
        (both (operand proofs e) (demanded_if (divides o) proofs) c (as_operand e c (value_drops e c)) (demand_if (divides o) (operand proofs e c)))
        (links_drop others (demanded_if (divides o) proofs (operand proofs e c)))

  operand_drops : (e : core.Expr) (c : Carried) → Goes (operand proofs e) c
  operand_drops e c = as_operand e c (value_drops e c)

  two_drop : (left right : core.Expr) (c : Carried) → Drops c.notes (operand proofs right (operand proofs left c)).notes
  two_drop left right c = both (operand proofs left) (operand proofs right) c (operand_drops left c) (operand_drops right (operand proofs left c))

  leaf_drops : (e : core.Expr) (c : Carried) → Goes (leaf proofs e) c
  leaf_drops (core.Compare r left right) c = two_drop left right c
  leaf_drops (core.Var x) c = operand_drops (core.Var x) c
  leaf_drops (core.Int n) c = operand_drops (core.Int n) c
  leaf_drops (core.Bool b) c = operand_drops (core.Bool b) c
  leaf_drops (core.Neg e) c = operand_drops (core.Neg e) c
  leaf_drops (core.Chain first rest) c = operand_drops (core.Chain first rest) c
  leaf_drops (core.Index array index at) c = operand_drops (core.Index array index at) c
  leaf_drops (core.Len array) c = operand_drops (core.Len array) c
  leaf_drops (core.Call fun args at) c = operand_drops (core.Call fun args at) c
  leaf_drops (core.Make number args at) c = operand_drops (core.Make number args at) c
  leaf_drops (core.New element len fill at) c = operand_drops (core.New element len fill at) c

  returned_drops : (o : Option core.Expr) (c : Carried) → Goes (returned proofs o) c
  returned_drops None c = demand_drops (plainly c)
  returned_drops (Some e) c = both (operand proofs e) (demanded proofs) c (operand_drops e c) (demand_drops (operand proofs e c))

-- ---- labels

-- the state of a note is so
abbrev pub OfState : (StateType → Type 0) → Note → Type 0
OfState P (note.State noted) = P noted
OfState P (note.Edge values present numbers) = Unit {0}
OfState P (note.Demand numbers) = Unit {0}

-- a label's state is a noted one, of which this holds, cut to the places that are live there
pub record IsCut (P : StateType → Type 0) (columns : List (List Truth)) (label : StateType) : Type 0 where
  pub number : ℕ
  pub noted : StateType
  pub is : label ≡ label_state columns number noted
  pub holds : P noted

-- notes were taken and states of labels made; what holds of the states of the notes does of those of the labels
pub record Makes (P : StateType → Type 0) (columns : List (List Truth)) (l more : Labelled) : Type 0 where
  pub taken : List Note
  pub is : l.now.notes ≡ taken ++ more.now.notes
  pub made : List StateType
  pub states : more.states ≡ l.states ++ made
  pub each : AllByRecursion (OfState P) taken → AllByRecursion (IsCut P columns) made

all_left : {A : Type 0} (P : A → Type 0) (xs ys : List A) → AllByRecursion P (xs ++ ys) → AllByRecursion P xs
all_left P [] ys all = tt
all_left P (x ∷ xs) ys all = (all.0, all_left P xs ys all.1)

all_right : {A : Type 0} (P : A → Type 0) (xs ys : List A) → AllByRecursion P (xs ++ ys) → AllByRecursion P ys
all_right P [] ys all = all
all_right P (x ∷ xs) ys all = all_right P xs ys all.1

all_both : {A : Type 0} (P : A → Type 0) (xs ys : List A) → AllByRecursion P xs → AllByRecursion P ys → AllByRecursion P (xs ++ ys)
all_both P [] ys one two = two
all_both P (x ∷ xs) ys one two = (one.0, all_both P xs ys one.1 two)

module _ (P : StateType → Type 0) (from : Sources) where
  abbrev From : Labelled → Labelled → Type 0
  From l more = Makes P from.columns l more

  makes_on : (a b c : Labelled) → From a b → From b c → From a c
  makes_on a b c one two = record {
    taken = one.taken ++ two.taken;
    is = one_behind a.now.notes b.now.notes c.now.notes one.taken two.taken one.is two.is;
    made = one.made ++ two.made;
    states = two.states ∙ ap (λ ss. ss ++ two.made) one.states ∙ append_assoc a.states one.made two.made;
    each = λ all. all_both (IsCut P from.columns) one.made two.made (one.each (all_left (OfState P) one.taken two.taken all)) (two.each (all_right (OfState P) one.taken two.taken all));
  }

  -- no label
  quiet : (l more : Labelled) → Drops l.now.notes more.now.notes → more.states ≡ l.states → From l more
  quiet l more d same = record { taken = d.taken; is = d.is; made = []; states = same ∙ sym (append-nil l.states); each = λ all. tt }

  quietly : (f : Carried → Carried) (l : Labelled) → Drops l.now.notes (f l.now).notes → From l (record l { now = f l.now })
  quietly f l d = quiet l (record l { now = f l.now }) d refl

  label_of : (edges : List Edge) (notes : List Note) (states : List StateType) → From (walked edges notes states) (labelled from (walked edges notes states))
  label_of edges [] states = record { taken = []; is = refl; made = []; states = refl; each = λ all. tt }
  label_of edges (note.State noted ∷ notes) states = record {
    taken = note.State noted ∷ [];
    is = refl;
    made = label_state from.columns (suc (length states)) noted ∷ [];
    states = refl;
    each = λ all. (record { number = suc (length states); noted = noted; is = refl; holds = all.0 }, tt);
  }
  label_of edges (note.Edge values present numbers ∷ notes) states = record { taken = note.Edge values present numbers ∷ []; is = refl; made = []; states = refl; each = λ all. tt }
  label_of edges (note.Demand numbers ∷ notes) states = record { taken = note.Demand numbers ∷ []; is = refl; made = []; states = refl; each = λ all. tt }

  label_made : (l : Labelled) → From l (labelled from l)
  label_made l = label_of l.now.edges l.now.notes l.states

  past_made : (l : Labelled) → From l (record l { now = past_note l.now })
  past_made l = quietly past_note l (drops_front l.now.notes)

  -- ---- tests

  label_if_made : (b : Truth) (l : Labelled) → From l (labelled_if b from l)
  label_if_made true l = label_made l
  label_if_made false l = past_made l

  jump_made : (b : Truth) (l : Labelled) → From l (jump_plainly b l)
  jump_made true l = quietly plainly l (drops_none l.now.notes)
  jump_made false l = quietly (λ c. c) l (drops_none l.now.notes)

  end_made : (b : Truth) (a l : Labelled) → From a l → From a (labelled_if b from (jump_plainly b l))
  end_made b a l h = makes_on a (jump_plainly b l) (labelled_if b from (jump_plainly b l)) (makes_on a l (jump_plainly b l) h (jump_made b l)) (label_if_made b (jump_plainly b l))

  mutual
    unfolding test

    test_made : (on : Truth) (t : core.Test) (l : Labelled) → From l (test from on t l)
    test_made on (core.Leaf e) l = quietly (leaf from.proofs e) l (leaf_drops from.proofs e l.now)
    test_made on (core.All parts) l = end_made on l (parts_carried from (inner_on on on) on parts l) (parts_made (inner_on on on) on parts l)
    test_made on (core.Any parts) l = end_made (not on) l (parts_carried from (inner_on (not on) on) on parts l) (parts_made (inner_on (not on) on) on parts l)
    test_made on (core.Not part) l = test_made (not on) part l

    parts_made : (inner last : Truth) (parts : core.Tests) (l : Labelled) → From l (parts_carried from inner last parts l)
    parts_made inner last core.NoTest l = quietly (λ c. c) l (drops_none l.now.notes)
    parts_made inner last (core.ATest t others) l =
        let one = test from (turn others inner last) t l in
        makes_on l one (parts_carried from inner last others one) (test_made (turn others inner last) t l) (parts_made inner last others one)

  -- ---- where control flow meets

  way_drops : (so : Truth) (notes : List Note) → Drops notes (past_way so notes)
  way_drops true notes = drops_front notes
  way_drops false notes = drops_none notes

  way_made : (so : Truth) (clause : Clause) (target : Option StateType) (l : Labelled) → From l (way_if so from clause target l)
  way_made so clause target l = quiet l (way_if so from clause target l) (way_drops so l.now.notes) refl

  meeting_made : (a b : Truth) (clause : Clause) (first : List Edge) (two : Labelled) → From two (meeting a b from clause first two)
  meeting_made a b clause first two =
      let met = labelled from two in
      makes_on two met (meeting a b from clause first two) (label_made two)
      (quiet met (meeting a b from clause first two)
      (drops_on met.now.notes (past_way a met.now.notes) (past_way b (past_way a met.now.notes)) (way_drops a met.now.notes) (way_drops b (past_way a met.now.notes))) refl)

  front_made : (edges : List Edge) (a l : Labelled) → From a l → From a (in_front edges l)
  front_made edges a l h = makes_on a l (in_front edges l) h (quiet l (in_front edges l) (drops_none l.now.notes) refl)

  meet_made : (a b : Truth) (join : Option Clause) (first : List Edge) (two : Labelled) → From two (branches_meet a b join from first two)
  meet_made false false join first two = front_made first two two (quietly (λ c. c) two (drops_none two.now.notes))
  meet_made true false None first two = front_made _ two (labelled from two) (label_made two)
  meet_made false true None first two = front_made first two (labelled_if false from two) (label_if_made false two)
  meet_made true true None first two = meeting_made true true (stated None) first two
  meet_made true true (Some c) first two = meeting_made true true c first two
  meet_made true false (Some c) first two = meeting_made true false c first two
  meet_made false true (Some c) first two = meeting_made false true c first two

  -- ---- statements

  mutual
    unfolding statement

    pub statement_made : (s : core.Stmt) (l : Labelled) → From l (statement from s l)
    statement_made (core.Set x e) l = quietly (value from.proofs e) l (value_drops from.proofs e l.now)
    statement_made (core.Split xs e at) l = quietly (λ c. plainly (operand from.proofs e c)) l (operand_drops from.proofs e l.now)
    statement_made (core.Store array index e at) l =
        let c = operand from.proofs index (operand from.proofs array l.now) in
        quietly (λ d. demanded from.proofs (operand from.proofs e (operand from.proofs index (operand from.proofs array d)))) l
        (drops_on l.now.notes c.notes _ (two_drop from.proofs array index l.now)
        (both from.proofs (operand from.proofs e) (demanded from.proofs) c (operand_drops from.proofs e c) (demand_drops from.proofs (operand from.proofs e c))))
    statement_made (core.Do call) l = quietly (value from.proofs call) l (value_drops from.proofs call l.now)
    statement_made (core.Print e) l = quietly (λ c. plainly (operand from.proofs e c)) l (operand_drops from.proofs e l.now)
    statement_made (core.If asked on_true on_false join at) l =
        let tried = test from false asked l in
        let one = block from on_true tried in
        let other = labelled from one in
        let two = block from on_false (second_begins other) in
        makes_on l two (branches_meet (completes_all on_true) (completes_all on_false) join from other.now.edges two)
        (makes_on l (second_begins other) two
        (makes_on l other (second_begins other) (makes_on l one other (makes_on l tried one (test_made false asked l) (block_made on_true tried)) (label_made one))
        (quiet other (second_begins other) (drops_none other.now.notes) refl))
        (block_made on_false (second_begins other)))
        (meet_made (completes_all on_true) (completes_all on_false) join other.now.edges two)
    statement_made (core.While asked head body at) l =
        let target = state_here from l in
        let begun = labelled from l in
        let entered = way_if true from (stated head) target begun in
        let tried = test from false asked entered in
        let turn = block from body tried in
        let back = way_if (completes_all body) from (stated head) target turn in
        makes_on l back (labelled from back)
        (makes_on l turn back
        (makes_on l tried turn
        (makes_on l entered tried (makes_on l begun entered (label_made l) (way_made true (stated head) target begun)) (test_made false asked entered))
        (block_made body tried))
        (way_made (completes_all body) (stated head) target turn))
        (label_made back)
    statement_made (core.Return e at) l = quietly (returned from.proofs e) l (returned_drops from.proofs e l.now)

    pub block_made : (ss : core.Stmts) (l : Labelled) → From l (block from ss l)
    block_made core.NoStmt l = quietly (λ c. c) l (drops_none l.now.notes)
    block_made (core.AStmt s ss) l = makes_on l (statement from s l) (block from ss (statement from s l)) (statement_made s l) (block_made ss (statement from s l))
