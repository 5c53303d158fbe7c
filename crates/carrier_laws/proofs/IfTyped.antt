-- Where the branches of an `if` meet, or one of them goes on: the code of both, one behind the other.
use Rattle.std.proofs.Common.{◌≡◌, ◌∙◌, ℕ, suc, ◌+◌, ◌≤◌, Bool as Truth, true, false, List, [], ◌∷◌, ◌++◌, length, slice_get, refl, sym, ap, subst, arith, append_assoc, append-nil}
use Rattle.std.proofs.lemmas.List.{length-append}
use Rattle.state_types.specs.declared.state.StateType.{StateType}
use Rattle.three_address.specs.Typing.{GoesTo}
use Rattle.three_address.specs.declared.instruction.LowInstr.{LowInstr}
use Rattle.three_address.specs.declared.typed.Edge.{Edge}
use Rattle.lowering.specs.Lowered.{number_of}
use Rattle.value_lowering.specs.OneInstruction.{jump, jump_if}
use Rattle.typed_core.specs.States.{State}
use Rattle.typed_core.specs.declared.note.Note.{Note}
use Rattle.typed_core.specs.declared.note.Note.TheVariants as note
use Rattle.type_carrier.specs.CarriedStatements.{in_front, second_begins}
use Rattle.type_carrier.specs.CarriedTests.{Labelled, Sources, labelled}
use Rattle.type_carrier.specs.Ways.{label_state}
use Rattle.carrier_laws.proofs.ChainsTyped.{CodeAt, Done}
use Rattle.carrier_laws.proofs.OperandsRun.{Walk, Here, IsLeft}
use Rattle.carrier_laws.proofs.DemandsProved.{seam}
use Rattle.carrier_laws.proofs.FragmentsJoined.{passes_on}
use Rattle.carrier_laws.proofs.FragmentsTyped.{sources_of, HasLabels, Coming, Passes, Typed}
use Rattle.carrier_laws.proofs.TestsTyped.{jump_passes, label_behind, coming_behind}
use Rattle.index_sorts.specs.Context.{IndexContext}

module _ (w : Walk) (columns : List (List Truth)) where
  -- ---- edges in front, and nothing between

  shifted : (x : List Edge) (p : ℕ) (s : StateType) (code : List LowInstr) (positions : List ℕ) (l more : Labelled) (end : StateType) → Passes w columns p s code positions l more end
      → Passes w columns p s code positions (in_front x l) (in_front x more) end
  shifted x p s code positions l more end r = record {
    runs = record {
      edges = r.runs.edges;
      are = ap (λ es. x ++ es) r.runs.are ∙ sym (append_assoc x l.now.edges r.runs.edges);
      states = r.runs.states;
      chain = r.runs.chain;
    };
    made = r.made;
    made_is = r.made_is;
    labels = r.labels;
  }

  -- by the same edges and states
  passes_as : (p : ℕ) (s : StateType) (code : List LowInstr) (positions : List ℕ) (l k more last : Labelled) (end : StateType) → l.now.edges ≡ k.now.edges → l.states ≡ k.states
      → more.now.edges ≡ last.now.edges → more.states ≡ last.states → Passes w columns p s code positions l more end → Passes w columns p s code positions k last end
  passes_as p s code positions l k more last end e f g h r = record {
    runs = record { edges = r.runs.edges; are = sym g ∙ r.runs.are ∙ ap (λ es. es ++ r.runs.edges) e; states = r.runs.states; chain = r.runs.chain };
    made = r.made;
    made_is = sym h ∙ r.made_is ∙ ap (λ ss. ss ++ r.made) f;
    labels = r.labels;
  }

  -- a label, and no code
  label_only : (q number : ℕ) (noted : StateType) (before rest : List Note) (l more : Labelled) → w.notes ≡ before ++ note.State noted ∷ rest → more.now.edges ≡ l.now.edges
      → more.states ≡ l.states ++ label_state columns number noted ∷ [] → Passes w columns q (label_state columns number noted) [] (q ∷ []) l more (label_state columns number noted)
  label_only q number noted before rest l more notes edges states = record {
    runs = record { edges = []; are = edges ∙ sym (append-nil l.now.edges); states = []; chain = Done (label_state columns number noted) };
    made = label_state columns number noted ∷ [];
    made_is = states;
    labels = (
      record {
        offset = 0;
        is = omega arith;
        stands = refl;
        number = number;
        noted = noted;
        label_is = refl;
        place = length before;
        is_noted = ap (λ ns. slice_get ns (length before)) notes ∙ seam before rest (note.State noted);
      },
      tt,
    );
  }

  nothing_passes : (q : ℕ) (s : StateType) (l more : Labelled) → more.now.edges ≡ l.now.edges → more.states ≡ l.states → Passes w columns q s [] [] l more s
  nothing_passes q s l more edges states = record {
    runs = record { edges = []; are = edges ∙ sym (append-nil l.now.edges); states = []; chain = Done s };
    made = [];
    made_is = states ∙ sym (append-nil l.states);
    labels = tt;
  }

-- ---- the first branch, and its jump

abbrev pub edge_if : Truth → Edge → List Edge
edge_if true edge = edge ∷ []
edge_if false edge = []

module _ (w : Walk) (columns : List (List Truth)) (p q : ℕ) (s : StateType) (code : List LowInstr) (names : List ℕ) (l l2 l3 : Labelled) (one : State) (coming : List ℕ)
    (there : q ≡ p + length code) (two_at past : ℕ) (noted : StateType) (rest : List Note) (notes : w.notes ≡ one.notes ++ (note.State noted ∷ rest))
    (edges : l3.now.edges ≡ l2.now.edges) (states : l3.states ≡ l2.states ++ label_state columns (suc (length l2.states)) noted ∷ []) where
  abbrev next : StateType
  next = label_state columns (suc (length l2.states)) noted

  -- the edges so far, with that of the jump
  abbrev pub with_jump : List Edge → Labelled
  with_jump more = record l3 { now = record l3.now { edges = l3.now.edges ++ more } }

  -- to the label of the second branch
  pub first_half : (c : Truth) (edge : Edge) → Typed c w columns p s code names l l2 one coming → two_at ≡ q + length (jump_if c past) → CodeAt w.body q (jump_if c past)
      → ((e : StateType) → c ≡ true → Here w q e one [] l2.now.notes → GoesTo w.body.setting.own w.body.labels e (number_of w.body.positions past) edge)
      → Passes w columns p s (code ++ jump_if c past) (names ++ two_at ∷ []) l (with_jump (edge_if c edge)) next
  first_half true edge r two at goes =
      let e = r.ends.end in
      let here = subst (λ n. Here w n e one [] l2.now.notes) (sym there) r.ends.here in
      passes_on w columns p q s e next code (jump past ∷ []) names (two_at ∷ []) l l2 (with_jump (edge ∷ [])) there r.ends.passes
      (jump_passes w columns q e next past edge l2 (with_jump (edge ∷ [])) (two_at ∷ []) (next ∷ []) at (subst (λ (c : IndexContext). c.vars ≤ 1024) (sym here.now.ctx) here.few)
      (goes e refl here) (ap (λ es. es ++ edge ∷ []) edges) states
      (label_behind w columns q two_at (suc (length l2.states)) e noted one.notes rest (omega (arith, two)) notes, tt))
  first_half false edge r two at goes =
      let same : q ≡ two_at = omega (arith, two) in
      passes_on w columns p q s next next code [] names (two_at ∷ []) l l2 (with_jump []) there (r.ends next)
      (subst (λ n. Passes w columns q next [] (n ∷ []) l2 (with_jump []) next) same
      (label_only w columns q (suc (length l2.states)) noted one.notes rest l2 (with_jump []) notes (append-nil l3.now.edges ∙ edges) states))

-- ---- what is typed, with edges in front

typed_shifted : (w : Walk) (columns : List (List Truth)) (c : Truth) (x : List Edge) (p : ℕ) (s : StateType) (code : List LowInstr) (names : List ℕ) (l k more : Labelled) (after : State) (coming : List ℕ)
    → k.now.edges ≡ x → k.states ≡ l.states → l.now.edges ≡ [] → Typed c w columns p s code names l more after coming → Typed c w columns p s code names k (in_front x more) after coming
typed_shifted w columns true x p s code names l k more after coming edges states none r = record {
  ends = record {
    end = r.ends.end;
    passes = passes_as w columns p s code names (in_front x l) k (in_front x more) (in_front x more) r.ends.end (ap (λ es. x ++ es) none ∙ append-nil x ∙ sym edges) (sym states) refl refl
        (shifted w columns x p s code names l more r.ends.end r.ends.passes);
    here = r.ends.here;
  };
  left = r.left;
  labels = r.labels;
}
typed_shifted w columns false x p s code names l k more after coming edges states none r = record {
  ends = λ end. passes_as w columns p s code names (in_front x l) k (in_front x more) (in_front x more) end (ap (λ es. x ++ es) none ∙ append-nil x ∙ sym edges) (sym states) refl refl
      (shifted w columns x p s code names l more end (r.ends end));
  left = r.left;
  labels = r.labels;
}

-- ---- both branches

module _ (w : Walk) (columns : List (List Truth)) (has : HasLabels w columns) (p q two_at r past : ℕ) (s : StateType) (first_code second_code : List LowInstr) (first_names second_names : List ℕ)
    (l l2 l4 : Labelled) (one two more : State) (coming : List ℕ) (noted : StateType) (rest : List Note) (there : q ≡ p + length first_code) (later : r ≡ two_at + length second_code)
    (notes : w.notes ≡ one.notes ++ (note.State noted ∷ rest)) where
  abbrev from : Sources
  from = sources_of w columns

  abbrev l3 : Labelled
  l3 = labelled from l2

  abbrev else_state : StateType
  else_state = label_state columns (suc (length l2.states)) noted

  module _ (states : l3.states ≡ l2.states ++ else_state ∷ []) (c1 c2 : Truth) (front : List ℕ) (first : Typed c1 w columns p s first_code first_names l l2 one front)
      (at : CodeAt w.body q (jump_if c1 past)) (second_there : two_at ≡ q + length (jump_if c1 past)) where
    -- they meet at a label
    module _ (last_at : CodeAt w.body r (jump_if c2 past)) (past_there : past ≡ r + length (jump_if c2 past)) (meets : StateType) (tail : List Note) (meets_notes : w.notes ≡ two.notes ++ (note.State meets ∷ tail))
        (second : Typed c2 w columns two_at else_state second_code second_names (second_begins l3) l4 two (past ∷ coming)) (edge1 edge2 : Edge) where
      abbrev meet_state : StateType
      meet_state = label_state columns (suc (length l4.states)) meets

      pub both_meet : (l5 : Labelled) → l5.now.edges ≡ ((l3.now.edges ++ edge_if c1 edge1) ++ l4.now.edges) ++ edge_if c2 edge2 → l5.states ≡ l4.states ++ meet_state ∷ []
          → ((e : StateType) → c1 ≡ true → Here w q e one [] l2.now.notes → GoesTo w.body.setting.own w.body.labels e (number_of w.body.positions past) edge1)
          → ((e : StateType) → c2 ≡ true → Here w r e two [] l4.now.notes → GoesTo w.body.setting.own w.body.labels e (number_of w.body.positions past) edge2)
          → Here w past meet_state more [] l5.now.notes
          → Typed true w columns p s ((first_code ++ jump_if c1 past) ++ (second_code ++ jump_if c2 past)) ((first_names ++ two_at ∷ []) ++ (second_names ++ past ∷ [])) l l5 more coming
      both_meet l5 edges met goes1 goes2 here =
          let x = l3.now.edges ++ edge_if c1 edge1 in
          let k3 = record l3 { now = record l3.now { edges = x } } in
          let k4 = in_front x l4 in
          let k5 : Labelled = record l5 { states = l4.states ++ meet_state ∷ []; now = record l5.now { edges = k4.now.edges } } in
          let one_half = first_half w columns p q s first_code first_names l l2 l3 one front there two_at past noted rest notes refl states c1 edge1 first second_there at goes1 in
          let two_half = first_half w columns two_at r else_state second_code second_names k3 k4 k5 two (past ∷ coming) later past past meets tail meets_notes refl refl c2 edge2
          (typed_shifted w columns c2 x two_at else_state second_code second_names (second_begins l3) k3 l4 two (past ∷ coming) refl refl refl second) past_there last_at goes2 in
          let long = length-append (first_code ++ jump_if c1 past) (second_code ++ jump_if c2 past) in
          let long1 = length-append first_code (jump_if c1 past) in
          let long2 = length-append second_code (jump_if c2 past) in
          let middle : two_at ≡ p + length (first_code ++ jump_if c1 past) = omega (arith, second_there, there, long1) in
          record {
            ends = record {
              end = meet_state;
              passes = passes_on w columns p two_at s else_state meet_state (first_code ++ jump_if c1 past) (second_code ++ jump_if c2 past) (first_names ++ two_at ∷ []) (second_names ++ past ∷ []) l k3 l5 middle one_half
                  (passes_as w columns two_at else_state (second_code ++ jump_if c2 past) (second_names ++ past ∷ []) k3 k3
                  (record k5 { now = record k5.now { edges = k5.now.edges ++ edge_if c2 edge2 } }) l5 meet_state refl refl (sym edges) (sym met) two_half);
              here = subst (λ n. Here w n meet_state more [] l5.now.notes) (omega (arith, middle, later, past_there, long, long2)) here;
            };
            left = here.remains;
            labels = coming_behind w l4.states l5.states (past ∷ []) coming second.labels (ap length met ∙ length-append l4.states (meet_state ∷ []));
          }

    -- no label stands behind
    module _ (second_typed : Typed c2 w columns two_at else_state second_code second_names (second_begins l3) l4 two coming) (edge1 : Edge)
        (goes1 : (e : StateType) → c1 ≡ true → Here w q e one [] l2.now.notes → GoesTo w.body.setting.own w.body.labels e (number_of w.body.positions past) edge1) where
      abbrev front_edges : List Edge
      front_edges = l3.now.edges ++ edge_if c1 edge1

      abbrev k3 : Labelled
      k3 = record l3 { now = record l3.now { edges = front_edges } }

      half : Passes w columns p s (first_code ++ jump_if c1 past) (first_names ++ two_at ∷ []) l k3 else_state
      half = first_half w columns p q s first_code first_names l l2 l3 one front there two_at past noted rest notes refl states c1 edge1 first second_there at goes1

      moved : Typed c2 w columns two_at else_state second_code second_names k3 (in_front front_edges l4) two coming
      moved = typed_shifted w columns c2 front_edges two_at else_state second_code second_names (second_begins l3) k3 l4 two coming refl refl refl second_typed

      middle : two_at ≡ p + length (first_code ++ jump_if c1 past)
      middle = (let long = length-append first_code (jump_if c1 past) in omega (arith, second_there, there, long))

      -- the second branch ends, whatever stands behind
      pub second_ends : c2 ≡ false → (l5 : Labelled) → l5.now.edges ≡ front_edges ++ l4.now.edges → l5.states ≡ l4.states → IsLeft w more l5.now.notes
          → Typed false w columns p s ((first_code ++ jump_if c1 past) ++ second_code) ((first_names ++ two_at ∷ []) ++ second_names) l l5 more coming
      second_ends never l5 edges same left = record {
        ends = λ end. passes_on w columns p two_at s else_state end (first_code ++ jump_if c1 past) second_code (first_names ++ two_at ∷ []) second_names l k3 l5 middle half
            (passes_as w columns two_at else_state second_code second_names k3 k3 (in_front front_edges l4) l5 end refl refl (sym edges) (sym same)
            ((subst (λ c. Typed c w columns two_at else_state second_code second_names k3 (in_front front_edges l4) two coming) never moved).ends end));
        left = left;
        labels = subst (λ ss. Coming w ss coming) (sym same) second_typed.labels;
      }

      -- or it goes on
      pub second_goes_on : c2 ≡ true → (l5 : Labelled) → l5.now.edges ≡ front_edges ++ l4.now.edges → l5.states ≡ l4.states
          → ((e : StateType) (n : ℕ) → Here w n e two [] l4.now.notes → Here w n e more [] l5.now.notes)
          → Typed true w columns p s ((first_code ++ jump_if c1 past) ++ second_code) ((first_names ++ two_at ∷ []) ++ second_names) l l5 more coming
      second_goes_on so l5 edges same behind =
          let r = subst (λ c. Typed c w columns two_at else_state second_code second_names k3 (in_front front_edges l4) two coming) so moved in
          let e = r.ends.end in
          let long = length-append (first_code ++ jump_if c1 past) second_code in
          let here = behind e (p + length ((first_code ++ jump_if c1 past) ++ second_code))
          (subst (λ n. Here w n e two [] l4.now.notes) (let m = middle in omega (arith, m, long)) r.ends.here) in
          record {
            ends = record {
              end = e;
              passes = passes_on w columns p two_at s else_state e (first_code ++ jump_if c1 past) second_code (first_names ++ two_at ∷ []) second_names l k3 l5 middle half
                  (passes_as w columns two_at else_state second_code second_names k3 k3 (in_front front_edges l4) l5 e refl refl (sym edges) (sym same) r.ends.passes);
              here = here;
            };
            left = here.remains;
            labels = subst (λ ss. Coming w ss coming) (sym same) second_typed.labels;
          }
