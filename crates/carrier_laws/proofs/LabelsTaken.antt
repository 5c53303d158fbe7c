-- The same of tests and statements, whose labels take the states that elaboration noted: as many states are made as there are labels.
use Rattle.std.proofs.Common.{◌≡◌, ◌∙◌, ℕ, ◌+◌, Bool as Truth, true, false, not, List, [], ◌∷◌, ◌++◌, length, None, refl, sym, ap, subst, arith, append_assoc, append-nil}
use Rattle.std.specs.Prelude.{option_to_list}
use Rattle.std.proofs.lemmas.List.{length-append}
use Rattle.value_lowering.specs.OneInstruction.{label_if}
use Rattle.lowering.specs.TestCode.{test_labels, parts_labels, past_parts, inner_on, turn, test_size}
use Rattle.operation_rules.specs.Applied.{all_assuming}
use Rattle.operation_rules.specs.Faults.{filled}
use Rattle.operation_rules.specs.Sides.{side}
use Rattle.operation_rules.specs.declared.operation.Operation.{Operation}
use Rattle.operation_rules.specs.declared.operation.Operation.TheVariants.{Branch, BranchTruth}
use Rattle.state_types.specs.declared.state.StateType.{StateType}
use Rattle.state_types.specs.declared.types.Ty.{Ty}
use Rattle.xanadu_tree.specs.Plain as core
use Rattle.typed_core.specs.Constructs.{state_by}
use Rattle.typed_core.specs.Limits.{by_rule}
use Rattle.typed_core.specs.Operands.{operand}
use Rattle.typed_core.specs.Operators.{comparison_of, in_order}
use Rattle.typed_core.specs.States.{Site, State, noting_state}
use Rattle.typed_core.specs.Tests.{Sides, branched, truth_leaf, on_side, tested, all_true, all_false}
use Rattle.typed_core.specs.Tests as elaborated_tests
use Rattle.typed_core.specs.declared.note.Note.{Note}
use Rattle.typed_core.specs.declared.note.Note.TheVariants as note
use Rattle.typed_core.proofs.Continued.{Goes, no_more, some_more, more_again}
use Rattle.typed_core.specs.Growth.{Continues}
use Rattle.typed_core.proofs.LimitedAnswers.{then_answers, weaker, any_answer}
use Rattle.type_carrier.specs.CarriedValues.{Carried, plainly, demanded, value}
use Rattle.type_carrier.specs.CarriedValues as carried
use Rattle.type_carrier.specs.CarriedTests.{Labelled, Sources, state_here, next_state, labelled, labelled_if, past_note, jump_plainly, leaf, test, parts_carried}
use Rattle.type_carrier.specs.ProvedRows.{behind_front}
use Rattle.carrier_laws.proofs.NotesTaken.{Takes, takes_on, takes_as, at_note, state_taken, operand_taken}

-- what is left of the notes, and how many states were made
pub record Left (l more : Labelled) (rest : List Note) (count : ℕ) : Type 0 where
  pub notes : more.now.notes ≡ rest
  pub states : length more.states ≡ length l.states + count
  pub grows : Continues l.states more.states

pub record TakesAll (f : Labelled → Labelled) (count : ℕ) (before after : List Note) : Type 0 where
  pub made : List Note
  pub is : after ≡ before ++ made
  pub by : (l : Labelled) (rest : List Note) → l.now.notes ≡ made ++ rest → Left l (f l) rest count

pub all_on : (f g : Labelled → Labelled) (m n : ℕ) (a b c : List Note) → TakesAll f m a b → TakesAll g n b c → TakesAll (λ l. g (f l)) (m + n) a c
all_on f g m n a b c one two = record {
  made = one.made ++ two.made;
  is = two.is ∙ ap (λ ns. ns ++ two.made) one.is ∙ append_assoc a one.made two.made;
  by = λ l rest e.
      let first = one.by l (two.made ++ rest) (e ∙ append_assoc one.made two.made rest) in
      let second = two.by (f l) rest first.notes in
      let x = first.states in let y = second.states in
      record { notes = second.notes; states = omega (arith, x, y); grows = more_again l.states (f l).states (g (f l)).states first.grows second.grows };
}

pub all_as : (f g : Labelled → Labelled) (m n : ℕ) (a b : List Note) → ((l : Labelled) → g l ≡ f l) → m ≡ n → TakesAll f m a b → TakesAll g n a b
all_as f g m n a b same count t = record {
  made = t.made;
  is = t.is;
  by = λ l rest e.
      let x = t.by l rest e in
      let s = x.states in
      record {
        notes = ap (λ (k : Labelled). k.now.notes) (same l) ∙ x.notes;
        states = ap (λ (k : Labelled). length k.states) (same l) ∙ omega (arith, s, count);
        grows = subst (λ (k : Labelled). Continues l.states k.states) (sym (same l)) x.grows;
      };
}

abbrev pub in_now : (Carried → Carried) → Labelled → Labelled
in_now f l = record l { now = f l.now }

pub all_now : (f : Carried → Carried) (st more : State) → Takes f st more → TakesAll (in_now f) 0 st.notes more.notes
all_now f st more t = record { made = t.made; is = t.is; by = λ l rest e. record { notes = t.by l.now rest e; states = omega arith; grows = no_more l.states } }

-- nothing is noted, and nothing is taken
pub all_none : (f : Labelled → Labelled) (a : List Note) → ((l : Labelled) → (f l).now.notes ≡ l.now.notes) → ((l : Labelled) → (f l).states ≡ l.states) → TakesAll f 0 a a
all_none f a same states = record {
  made = [];
  is = sym (append-nil a);
  by = λ l rest e. record { notes = same l ∙ e; states = ap length (states l) ∙ omega arith; grows = subst (λ ss. Continues l.states ss) (sym (states l)) (no_more l.states) };
}

-- a noted state is that of a label
pub label_left : (from : Sources) (noted : StateType) (l : Labelled) (rest : List Note) → l.now.notes ≡ note.State noted ∷ rest → Left l (labelled from l) rest 1
label_left from noted l rest e = record {
  notes = ap behind_front e;
  states = length-append l.states (option_to_list (state_here from l)) ∙ ap (λ ns. length l.states + length (option_to_list (next_state from ns l.states))) e;
  grows = some_more l.states (option_to_list (state_here from l));
}

pub label_taken : (from : Sources) (noted : StateType) (a : List Note) → TakesAll (labelled from) 1 a (a ++ note.State noted ∷ [])
label_taken from noted a = record { made = note.State noted ∷ []; is = refl; by = λ l rest e. label_left from noted l rest e }

-- or it is left out
pub past_taken : (from : Sources) (noted : Note) (a : List Note) → TakesAll (λ l. record l { now = past_note l.now }) 0 a (a ++ noted ∷ [])
past_taken from noted a = record { made = noted ∷ []; is = refl; by = λ l rest e. record { notes = ap behind_front e; states = omega arith; grows = no_more l.states } }

-- ---- tests

module _ (site : Site) (from : Sources) where
  branched_taken : (f : Carried → Carried) (before : State) (op : Operation) (types : List Ty) (st : State) → Takes f before st
      → Goes (λ sides. Takes (λ c. plainly (f c)) before sides.after) (branched site op types st)
  unfolding branched
  branched_taken f before op types st taken =
      then_answers (state_by site None op types st) _ (state_taken site None op types st)
      (λ more h. then_answers (by_rule (filled (all_assuming (side true op types) more.ctx))) _ (any_answer (by_rule (filled (all_assuming (side true op types) more.ctx))))
      (λ x u. then_answers (by_rule (filled (all_assuming (side false op types) more.ctx))) _ (any_answer (by_rule (filled (all_assuming (side false op types) more.ctx))))
      (λ y v. record { is = takes_as (λ c. at_note None (f c)) (λ c. plainly (f c)) before more (λ c. refl) (takes_on f (at_note None) before st more taken h) })))

  truth_taken : (e : core.Expr) (st : State) → Goes (λ sides. Takes (λ c. plainly (carried.operand from.proofs e c)) st sides.after) (truth_leaf site e st)
  unfolding truth_leaf
  truth_taken e st =
      then_answers (operand site e st) _ (operand_taken site from.proofs e st)
      (λ r h. branched_taken (carried.operand from.proofs e) st (BranchTruth true) (r.0 ∷ []) r.1 h)

  leaf_taken : (e : core.Expr) (st : State) → Goes (λ sides. Takes (leaf from.proofs e) st sides.after) (elaborated_tests.leaf site e st)
  unfolding elaborated_tests.leaf
  leaf_taken (core.Compare r left right) st =
      then_answers (operand site left st) _ (operand_taken site from.proofs left st)
      (λ p h. then_answers (operand site right p.1) _ (operand_taken site from.proofs right p.1)
      (λ q g. branched_taken (λ c. carried.operand from.proofs right (carried.operand from.proofs left c)) st (Branch (comparison_of r)) (in_order r p.0 q.0) q.1
      (takes_on (carried.operand from.proofs left) (carried.operand from.proofs right) st p.1 q.1 h g)))
  leaf_taken (core.Int n) st = truth_taken (core.Int n) st
  leaf_taken (core.Bool b) st = truth_taken (core.Bool b) st
  leaf_taken (core.Var x) st = truth_taken (core.Var x) st
  leaf_taken (core.Neg e) st = truth_taken (core.Neg e) st
  leaf_taken (core.Chain first rest) st = truth_taken (core.Chain first rest) st
  leaf_taken (core.Index array index at) st = truth_taken (core.Index array index at) st
  leaf_taken (core.Len array) st = truth_taken (core.Len array) st
  leaf_taken (core.Call fun args at) st = truth_taken (core.Call fun args at) st
  leaf_taken (core.Make number args at) st = truth_taken (core.Make number args at) st
  leaf_taken (core.New element len fill at) st = truth_taken (core.New element len fill at) st

  -- the end of `&&` and `||`
  end_taken : (crossed : Truth) (at : ℕ) (noted : StateType) (a : List Note)
      → TakesAll (λ l. labelled_if crossed from (jump_plainly crossed l)) (length (label_if crossed at)) a (a ++ note.State noted ∷ [])
  end_taken true at noted a =
      all_as (λ l. labelled from (jump_plainly true l)) (λ l. labelled_if true from (jump_plainly true l)) 1 1 a (a ++ note.State noted ∷ []) (λ l. refl) refl
      (all_on (jump_plainly true) (labelled from) 0 1 a a (a ++ note.State noted ∷ []) (all_none (jump_plainly true) a (λ l. refl) (λ l. refl)) (label_taken from noted a))
  end_taken false at noted a =
      all_as (λ l. record l { now = past_note l.now }) (λ l. labelled_if false from (jump_plainly false l)) 0 0 a (a ++ note.State noted ∷ []) (λ l. refl) refl
      (past_taken from (note.State noted) a)

  whole : (crossed : Truth) (parts : core.Tests) (inner last : Truth) (at past : ℕ) (before : List Note) (after : State)
      → TakesAll (parts_carried from inner last parts) (length (parts_labels inner last parts at)) before after.notes → (noted : StateType)
      → TakesAll (λ l. labelled_if crossed from (jump_plainly crossed (parts_carried from inner last parts l)))
      (length (parts_labels inner last parts at ++ label_if crossed past)) before (after.notes ++ note.State noted ∷ [])
  whole crossed parts inner last at past before after h noted =
      all_as (λ l. labelled_if crossed from (jump_plainly crossed (parts_carried from inner last parts l)))
      (λ l. labelled_if crossed from (jump_plainly crossed (parts_carried from inner last parts l))) _ _ before _ (λ l. refl)
      (sym (length-append (parts_labels inner last parts at) (label_if crossed past)))
      (all_on (parts_carried from inner last parts) (λ l. labelled_if crossed from (jump_plainly crossed l)) _ _ before after.notes _ h (end_taken crossed past noted after.notes))

  next_part : (part : core.Test) (others : core.Tests) (inner last : Truth) (at : ℕ) (a b c : List Note)
      → TakesAll (test from (turn others inner last) part) (length (test_labels (turn others inner last) part at)) a b
      → TakesAll (parts_carried from inner last others) (length (parts_labels inner last others (at + test_size (turn others inner last) part))) b c
      → TakesAll (parts_carried from inner last (core.ATest part others)) (length (parts_labels inner last (core.ATest part others) at)) a c
  unfolding parts_carried parts_labels
  next_part part others inner last at a b c h g =
      all_as (λ l. parts_carried from inner last others (test from (turn others inner last) part l)) (parts_carried from inner last (core.ATest part others)) _ _ a c (λ l. refl)
      (sym (length-append (test_labels (turn others inner last) part at) (parts_labels inner last others (at + test_size (turn others inner last) part))))
      (all_on (test from (turn others inner last) part) (parts_carried from inner last others) _ _ a b c h g)

  mutual
    unfolding tested test test_labels noting_state

    pub test_taken : (t : core.Test) (on : Truth) (at : ℕ) (st : State)
        → Goes (λ sides. TakesAll (test from on t) (length (test_labels on t at)) st.notes sides.after.notes) (tested site t st)
    test_taken (core.Leaf e) on at st =
        weaker (elaborated_tests.leaf site e st)
        (λ sides h. all_as (in_now (leaf from.proofs e)) (test from on (core.Leaf e)) 0 0 st.notes sides.after.notes (λ l. refl) refl (all_now (leaf from.proofs e) st sides.after h))
        (leaf_taken e st)
    test_taken (core.All parts) on at st =
        then_answers (all_true site parts (record { on_true = st.ctx.rows; on_false = st.ctx.rows; after = st })) _
        (all_taken parts (inner_on on on) on at (record { on_true = st.ctx.rows; on_false = st.ctx.rows; after = st }))
        (λ last h. record { is = whole on parts (inner_on on on) on at (past_parts on on parts at) st.notes last.after h (record { ctx = record { vars = last.after.ctx.vars; rows = st.ctx.rows }; places = last.after.types }) })
    test_taken (core.Any parts) on at st =
        then_answers (all_false site parts (record { on_true = st.ctx.rows; on_false = st.ctx.rows; after = st })) _
        (any_taken parts (inner_on (not on) on) on at (record { on_true = st.ctx.rows; on_false = st.ctx.rows; after = st }))
        (λ last h. record { is = whole (not on) parts (inner_on (not on) on) on at (past_parts (not on) on parts at) st.notes last.after h (record { ctx = record { vars = last.after.ctx.vars; rows = st.ctx.rows }; places = last.after.types }) })
    test_taken (core.Not part) on at st =
        then_answers (tested site part st) _ (test_taken part (not on) at st) (λ sides h. record { is = h })

    pub all_taken : (parts : core.Tests) (inner last : Truth) (at : ℕ) (sides : Sides)
        → Goes (λ more. TakesAll (parts_carried from inner last parts) (length (parts_labels inner last parts at)) sides.after.notes more.after.notes) (all_true site parts sides)
    all_taken core.NoTest inner last at sides = record { is = all_none (parts_carried from inner last core.NoTest) sides.after.notes (λ l. refl) (λ l. refl) }
    all_taken (core.ATest part others) inner last at sides =
        then_answers (tested site part (on_side sides.on_true sides.after)) _ (test_taken part (turn others inner last) at (on_side sides.on_true sides.after))
        (λ one h. weaker (all_true site others one)
        (λ more g. next_part part others inner last at sides.after.notes one.after.notes more.after.notes h g)
        (all_taken others inner last (at + test_size (turn others inner last) part) one))

    pub any_taken : (parts : core.Tests) (inner last : Truth) (at : ℕ) (sides : Sides)
        → Goes (λ more. TakesAll (parts_carried from inner last parts) (length (parts_labels inner last parts at)) sides.after.notes more.after.notes) (all_false site parts sides)
    any_taken core.NoTest inner last at sides = record { is = all_none (parts_carried from inner last core.NoTest) sides.after.notes (λ l. refl) (λ l. refl) }
    any_taken (core.ATest part others) inner last at sides =
        then_answers (tested site part (on_side sides.on_false sides.after)) _ (test_taken part (turn others inner last) at (on_side sides.on_false sides.after))
        (λ one h. weaker (all_false site others one)
        (λ more g. next_part part others inner last at sides.after.notes one.after.notes more.after.notes h g)
        (any_taken others inner last (at + test_size (turn others inner last) part) one))
