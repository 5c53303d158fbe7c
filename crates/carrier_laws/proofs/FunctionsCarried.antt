-- What is carried of each function of a program, and that its notes begin behind those of the functions before it.
use Rattle.std.proofs.Common.{◌≡◌, ◌∙◌, ℕ, zero, suc, ◌+◌, List, [], ◌∷◌, ◌++◌, length, slice_get, Option, Some, None, Ok, refl, sym, ap, subst, arith, append_assoc}
use Rattle.std.proofs.lemmas.List.{length-append}
use Rattle.std.specs.List.{list_all}
use Rattle.state_types.specs.declared.closed.Packed.{Packed}
use Rattle.state_types.specs.declared.closed.Signature.{Signature}
use Rattle.state_types.proofs.Thens.{then_ok, ok_same}
use Rattle.xan_lin.specs.declared.term.LimitKind.TheVariants as limit
use Rattle.xanadu_tree.specs.Plain as core
use Rattle.typed_core.specs.Goals.{Elaboration, body_start}
use Rattle.typed_core.specs.Goals as elaborated
use Rattle.typed_core.specs.Growth.{Continues}
use Rattle.typed_core.specs.Limits.{within, held, in_context}
use Rattle.typed_core.specs.Places.{places_of}
use Rattle.typed_core.specs.States.{Site, State, there}
use Rattle.typed_core.specs.Statements.{block}
use Rattle.typed_core.specs.declared.goal.GoalAt.{GoalAt}
use Rattle.typed_core.specs.declared.note.Note.{Note}
use Rattle.typed_core.proofs.Continued.{Goes, no_more, more_again, some_more}
use Rattle.typed_core.proofs.LimitedAnswers.{then_answers, any_answer}
use Rattle.typed_core.specs.Strays.{form_below}
use Rattle.state_types.specs.Unpacking.{with_rows}
use Rattle.typed_core.proofs.GrownStatements.{block_goes}
use Rattle.typed_core.proofs.NamedStates.{answered}
use Rattle.type_carrier.specs.Carried.{Columns, Functions, functions, function, body_begins, with_function}
use Rattle.type_carrier.specs.CarriedTests.{Sources}
use Rattle.type_carrier.specs.ProvedRows.{Proofs}
use Rattle.carrier_laws.proofs.DemandsProved.{seam}
use Rattle.carrier_laws.proofs.OperandsRun.{same_behind, get_more}
use Rattle.carrier_laws.proofs.StatementsTaken.{block_taken}

-- ---- one function's elaboration

record IsBody (table : List Packed) (sigs : List Signature) (fun : ℕ) (f : core.Fun) (goals : List GoalAt) (notes : List Note) (done : State) : Type 0 where
  own : Signature
  signature : slice_get sigs fun ≡ Some own
  start : State
  begins : body_start own goals notes ≡ Ok start
  start_goals : start.goals ≡ goals
  start_notes : start.notes ≡ notes
  body : block (record { table = table; sigs = sigs; fun = fun; own = own }) f.body start ≡ Ok done

start_kept : (sig : Signature) (goals : List GoalAt) (notes : List Note) → Goes (λ (start : State). (start.goals ≡ goals) × (start.notes ≡ notes)) (body_start sig goals notes)
unfolding body_start
start_kept sig goals notes =
    then_answers (within limit.Parameters (length sig.params)) _ (any_answer (within limit.Parameters (length sig.params)))
    (λ u h. then_answers (held (list_all (form_below sig.vars) sig.rows)) _ (any_answer (held (list_all (form_below sig.vars) sig.rows)))
    (λ v k. then_answers (in_context (with_rows (record { vars = sig.vars; rows = [] }) sig.rows)) _ (any_answer (in_context (with_rows (record { vars = sig.vars; rows = [] }) sig.rows)))
    (λ ctx z. record { is = (refl, refl) })))

body_is : (table : List Packed) (sigs : List Signature) (fun : ℕ) (f : core.Fun) (goals : List GoalAt) (notes : List Note) (done : State) → elaborated.function table sigs fun f goals notes ≡ Ok done
    → IsBody table sigs fun f goals notes done
unfolding elaborated.function
body_is table sigs fun f goals notes done e =
    let a = then_ok (there (slice_get sigs fun)) _ done e in
    let b = then_ok (within limit.Places (places_of f)) _ done a.second in
    let c = then_ok (body_start a.value goals notes) _ done b.second in
    let kept = answered (body_start a.value goals notes) c.value (start_kept a.value goals notes) c.first in
    record {
      own = a.value;
      signature = there_is (slice_get sigs fun) a.value a.first;
      start = c.value;
      begins = c.first;
      start_goals = kept.0;
      start_notes = kept.1;
      body = c.second;
    }
  where
    there_is : (o : Option Signature) (s : Signature) → there o ≡ Ok s → o ≡ Some s
    there_is (Some t) s e = cc
    there_is None s e = cc

-- ---- the functions behind it

record Onward (goals : List GoalAt) (notes : List Note) (made : Elaboration) : Type 0 where
  goals_on : Continues goals made.goals
  notes_on : Continues notes made.notes

module _ (table : List Packed) (sigs : List Signature) where
  functions_on : (fun : ℕ) (fs : List core.Fun) (goals : List GoalAt) (notes : List Note) (made : Elaboration) → elaborated.functions table sigs fun fs goals notes ≡ Ok made → Onward goals notes made
  unfolding elaborated.functions
  functions_on fun [] goals notes made e = record {
    goals_on = subst (λ (x : Elaboration). Continues goals x.goals) (ok_same _ made e) (no_more goals);
    notes_on = subst (λ (x : Elaboration). Continues notes x.notes) (ok_same _ made e) (no_more notes);
  }
  functions_on fun (f ∷ fs) goals notes made e =
      let a = then_ok (elaborated.function table sigs fun f goals notes) _ made e in
      let done = a.value in
      let b = body_is table sigs fun f goals notes done a.first in
      let site : Site = record { table = table; sigs = sigs; fun = fun; own = b.own } in
      let later = (answered (block site f.body b.start) done (block_goes site f.body b.start) b.body).later in
      let rest = functions_on (suc fun) fs done.goals done.notes made a.second in
      record {
        goals_on = more_again goals done.goals made.goals (subst (λ xs. Continues xs done.goals) b.start_goals later.goals) rest.goals_on;
        notes_on = more_again notes done.notes made.notes (subst (λ xs. Continues xs done.notes) b.start_notes later.notes) rest.notes_on;
      }

-- ---- what is carried

-- of the function of this number, which has these columns
pub record CarriedAt (proofs : Proofs) (table : List Packed) (sigs : List Signature) (elaboration : Elaboration) (fun : ℕ) (f : core.Fun) (columns : Columns) (all : Functions) (at : ℕ) : Type 0 where
  pub own : Signature
  pub signature : slice_get sigs fun ≡ Some own
  pub goals : List GoalAt
  pub notes : List Note
  pub start : State
  pub done : State
  pub begins : body_start own goals notes ≡ Ok start
  pub body : block (record { table = table; sigs = sigs; fun = fun; own = own }) f.body start ≡ Ok done
  pub more_goals : Continues done.goals elaboration.goals
  pub more_notes : Continues done.notes elaboration.notes
  pub left : List Note
  pub is_left : elaboration.notes ≡ start.notes ++ left
  pub states : slice_get all.states at ≡ Some (function proofs columns f left).states
  pub edges : slice_get all.edges at ≡ Some (function proofs columns f left).now.edges

module _ (proofs : Proofs) where
  begun : (table : List Packed) (sigs : List Signature) (elaboration : Elaboration) (fun : ℕ) (f : core.Fun) (c : Columns) (goals : List GoalAt) (notes left : List Note) (all : Functions) (at : ℕ) (done : State)
      → elaborated.function table sigs fun f goals notes ≡ Ok done → elaboration.notes ≡ notes ++ left → Continues done.goals elaboration.goals → Continues done.notes elaboration.notes
      → slice_get all.states at ≡ Some (function proofs c f left).states → slice_get all.edges at ≡ Some (function proofs c f left).now.edges
      → CarriedAt proofs table sigs elaboration fun f c all at
  begun table sigs elaboration fun f c goals notes left all at done e is_left more_goals more_notes states edges =
      let b = body_is table sigs fun f goals notes done e in
      record {
        own = b.own;
        signature = b.signature;
        goals = goals;
        notes = notes;
        start = b.start;
        done = done;
        begins = b.begins;
        body = b.body;
        more_goals = more_goals;
        more_notes = more_notes;
        left = left;
        is_left = is_left ∙ ap (λ ns. ns ++ left) (sym b.start_notes);
        states = states;
        edges = edges;
      }

  states_grow : (fs : List core.Fun) (columns : List Columns) (made : Functions) → Continues made.states (functions proofs fs columns made).states × Continues made.edges (functions proofs fs columns made).edges
  unfolding functions
  states_grow [] columns made = (no_more made.states, no_more made.edges)
  states_grow (f ∷ fs) [] made = (no_more made.states, no_more made.edges)
  states_grow (f ∷ fs) (c ∷ columns) made =
      let next = with_function (function proofs c f made.notes) made in
      let later = states_grow fs columns next in (
        more_again made.states next.states (functions proofs fs columns next).states (some_more made.states _) later.0,
        more_again made.edges next.edges (functions proofs fs columns next).edges (some_more made.edges _) later.1,
      )

  module _ (table : List Packed) (sigs : List Signature) (elaboration : Elaboration) where
    pub function_carried : (fs : List core.Fun) (columns : List Columns) (fun : ℕ) (goals : List GoalAt) (notes : List Note) (made : Functions)
        → elaborated.functions table sigs fun fs goals notes ≡ Ok elaboration → elaboration.notes ≡ notes ++ made.notes → length made.edges ≡ length made.states
        → (k : ℕ) (f : core.Fun) (c : Columns) → slice_get fs k ≡ Some f → slice_get columns k ≡ Some c
        → CarriedAt proofs table sigs elaboration (fun + k) f c (functions proofs fs columns made) (length made.states + k)
    unfolding elaborated.functions functions
    function_carried [] columns fun goals notes made e left each k f c at there = absurd (let bad : ⊥ = cc in bad)
    function_carried (f ∷ fs) [] fun goals notes made e left each k g c at there = absurd (let bad : ⊥ = cc in bad)
    function_carried (f ∷ fs) (c ∷ columns) fun goals notes made e left each zero g d at there = first g d (same f g at) (same c d there)
      where
        same : {A : Type 0} (a b : A) → Some a ≡ Some b → a ≡ b
        same a b e = cc

        first : (g : core.Fun) (d : Columns) → f ≡ g → c ≡ d → CarriedAt proofs table sigs elaboration (fun + 0) g d (functions proofs (f ∷ fs) (c ∷ columns) made) (length made.states + 0)
        first g d is are =
            let a = then_ok (elaborated.function table sigs fun f goals notes) _ elaboration e in
            let done = a.value in
            let next = with_function (function proofs c f made.notes) made in
            let all = functions proofs fs columns next in
            let grows = states_grow fs columns next in
            let rest = functions_on table sigs (suc fun) fs done.goals done.notes elaboration a.second in
            subst (λ x. CarriedAt proofs table sigs elaboration (fun + 0) x d all (length made.states + 0)) is
            (subst (λ x. CarriedAt proofs table sigs elaboration (fun + 0) f x all (length made.states + 0)) are
            (subst (λ n. CarriedAt proofs table sigs elaboration n f c all (length made.states + 0)) (let s : fun ≡ fun + 0 = omega arith in s)
            (subst (λ n. CarriedAt proofs table sigs elaboration fun f c all n) (let s : length made.states ≡ length made.states + 0 = omega arith in s)
            (begun table sigs elaboration fun f c goals notes made.notes all (length made.states) done a.first left rest.goals_on rest.notes_on
            (get_more next.states all.states (length made.states) _ grows.0 (seam made.states [] _))
            (get_more next.edges all.edges (length made.states) _ grows.1 (subst (λ n. slice_get next.edges n ≡ Some (function proofs c f made.notes).now.edges) each (seam made.edges [] _)))))))
    function_carried (f ∷ fs) (c ∷ columns) fun goals notes made e left each (suc k) g d at there =
        let a = then_ok (elaborated.function table sigs fun f goals notes) _ elaboration e in
        let done = a.value in
        let b = body_is table sigs fun f goals notes done a.first in
        let site : Site = record { table = table; sigs = sigs; fun = fun; own = b.own } in
        let next = with_function (function proofs c f made.notes) made in
        let rest = functions_on table sigs (suc fun) fs done.goals done.notes elaboration a.second in
        let from : Sources = record { proofs = proofs; columns = c } in
        let taken = answered (block site f.body b.start) done (block_taken site from f.body 0 b.start) b.body in
        let whole : elaboration.notes ≡ notes ++ (taken.made ++ rest.notes_on.rest) =
        rest.notes_on.is ∙ ap (λ ns. ns ++ rest.notes_on.rest) (taken.is ∙ ap (λ ns. ns ++ taken.made) b.start_notes) ∙ append_assoc notes taken.made rest.notes_on.rest in
        let behind = (taken.by (body_begins made.notes) rest.notes_on.rest (same_behind notes made.notes (taken.made ++ rest.notes_on.rest) (sym left ∙ whole))).notes in
        let long = length-append made.states ((function proofs c f made.notes).states ∷ []) in
        let long_edges = length-append made.edges ((function proofs c f made.notes).now.edges ∷ []) in
        subst (λ n. CarriedAt proofs table sigs elaboration n g d (functions proofs fs columns next) (length made.states + suc k)) (let s : suc fun + k ≡ fun + suc k = omega arith in s)
        (subst (λ n. CarriedAt proofs table sigs elaboration (suc fun + k) g d (functions proofs fs columns next) n) (omega (arith, long))
        (function_carried fs columns (suc fun) done.goals done.notes next a.second (rest.notes_on.is ∙ ap (λ ns. done.notes ++ ns) (sym behind)) (omega (arith, long, long_edges, each)) k g d at there))
