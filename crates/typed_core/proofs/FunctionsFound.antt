-- The functions of an elaborated program are its segments.
use Rattle.std.proofs.Common.{◌≡◌, ◌∙◌, ℕ, zero, suc, ◌+◌, ◌≤◌, List, [], ◌∷◌, length, Option, Some, None, Ok, refl, sym, ap, subst, arith}
use Rattle.std.specs.Prelude.{slice_get}
use Rattle.std.specs.List.{list_all}
use Rattle.std.proofs.lemmas.Option.{same_Some}
use Rattle.xan_lin.specs.declared.term.LimitKind.TheVariants as limit
use Rattle.state_types.specs.Unpacking.{with_rows}
use Rattle.state_types.specs.declared.closed.Packed.{Packed}
use Rattle.state_types.specs.declared.closed.Signature.{Signature}
use Rattle.state_types.proofs.Thens.{then_ok}
use Rattle.xanadu_tree.specs.Plain as core
use Rattle.typed_core.specs.declared.goal.GoalAt.{GoalAt}
use Rattle.typed_core.specs.declared.note.Note.{Note}
use Rattle.typed_core.specs.Goals.{Elaboration, body_start, function, functions, elaborated}
use Rattle.typed_core.specs.Growth.{Continues}
use Rattle.typed_core.specs.Headers.{few_declarations, table_of, signatures}
use Rattle.typed_core.specs.Limits.{Walk, within, in_context, held}
use Rattle.typed_core.specs.Places.{places_of}
use Rattle.typed_core.specs.Segments.{IsFunctionSegment}
use Rattle.typed_core.specs.States.{Site, State, there}
use Rattle.typed_core.specs.Statements.{block}
use Rattle.typed_core.specs.Strays.{form_below}
use Rattle.typed_core.proofs.Continued.{Goes, no_more, more_again}
use Rattle.typed_core.proofs.LimitedAnswers.{then_answers, weaker, any_answer}
use Rattle.typed_core.proofs.GrownStatements.{block_goes}
use Rattle.typed_core.proofs.NamedPrograms.{most_stays}
use Rattle.typed_core.proofs.NamedStates.{answered}

-- ---- where a body begins

record Starts (goals : List GoalAt) (notes : List Note) (st : State) : Type 0 where
  goals_so_far : st.goals ≡ goals
  notes_so_far : st.notes ≡ notes

start_goes : (sig : Signature) (goals : List GoalAt) (notes : List Note) → Goes (Starts goals notes) (body_start sig goals notes)
unfolding body_start
start_goes sig goals notes =
    then_answers (within limit.Parameters (length sig.params)) _ (any_answer (within limit.Parameters (length sig.params)))
    (λ few u. then_answers (held (list_all (form_below sig.vars) sig.rows)) _ (any_answer (held (list_all (form_below sig.vars) sig.rows)))
    (λ named v. then_answers (in_context (with_rows (record { vars = sig.vars; rows = [] }) sig.rows)) _ (any_answer (in_context (with_rows (record { vars = sig.vars; rows = [] }) sig.rows)))
    (λ ctx w. record { is = record { goals_so_far = refl; notes_so_far = refl } })))

-- ---- a function

-- what is made so far begins what is made then
record Adds (goals : List GoalAt) (notes : List Note) (more_goals : List GoalAt) (more_notes : List Note) : Type 0 where
  adds_goals : Continues goals more_goals
  adds_notes : Continues notes more_notes

adds_again : (a b c : List GoalAt) (k l m : List Note) → Adds a k b l → Adds b l c m → Adds a k c m
adds_again a b c k l m one two =
    record { adds_goals = more_again a b c one.adds_goals two.adds_goals; adds_notes = more_again k l m one.adds_notes two.adds_notes }

function_goes : (table : List Packed) (sigs : List Signature) (fun : ℕ) (f : core.Fun) (goals : List GoalAt) (notes : List Note)
    → Goes (λ done. Adds goals notes done.goals done.notes) (function table sigs fun f goals notes)
unfolding function
function_goes table sigs fun f goals notes =
    then_answers (there (slice_get sigs fun)) _ (any_answer (there (slice_get sigs fun)))
    (λ own u. then_answers (within limit.Places (places_of f)) _ (any_answer (within limit.Places (places_of f)))
    (λ few v. then_answers (body_start own goals notes) _ (start_goes own goals notes)
    (λ start s. let site : Site = record { table = table; sigs = sigs; fun = fun; own = own } in
    weaker (block site f.body start)
    (λ end k. record {
      adds_goals = subst (λ gs. Continues gs end.goals) s.goals_so_far k.later.goals;
      adds_notes = subst (λ ns. Continues ns end.notes) s.notes_so_far k.later.notes;
    })
    (block_goes site f.body start))))

record Makes (table : List Packed) (sigs : List Signature) (goals : List GoalAt) (notes : List Note) (made : Elaboration) : Type 0 where
  same_table : made.table ≡ table
  same_sigs : made.sigs ≡ sigs
  adds : Adds goals notes made.goals made.notes

functions_go : (table : List Packed) (sigs : List Signature) (fun : ℕ) (fs : List core.Fun) (goals : List GoalAt) (notes : List Note)
    → Goes (Makes table sigs goals notes) (functions table sigs fun fs goals notes)
unfolding functions
functions_go table sigs fun [] goals notes =
    record { is = record { same_table = refl; same_sigs = refl; adds = record { adds_goals = no_more goals; adds_notes = no_more notes } } }
functions_go table sigs fun (f ∷ fs) goals notes =
    then_answers (function table sigs fun f goals notes) _ (function_goes table sigs fun f goals notes)
    (λ done a. weaker (functions table sigs (suc fun) fs done.goals done.notes)
    (λ made m. record {
      same_table = m.same_table;
      same_sigs = m.same_sigs;
      adds = adds_again goals done.goals made.goals notes done.notes made.notes a m.adds;
    })
    (functions_go table sigs (suc fun) fs done.goals done.notes))

-- ---- the function of a number

there_is : (o : Option Signature) (own : Signature) → there o ≡ Ok own → o ≡ Some own
there_is (Some x) own e = cc
there_is None own e = absurd (let bad : ⊥ = cc in bad)

-- with closed types and signatures that are known
record IsFound (table : List Packed) (sigs : List Signature) (fun : ℕ) (f : core.Fun) (made : Elaboration) : Type 0 where
  own : Signature
  goals : List GoalAt
  notes : List Note
  start : State
  end : State
  signature : slice_get sigs fun ≡ Some own
  places : places_of f ≤ 240
  begins : body_start own goals notes ≡ Ok start
  body : block (record { table = table; sigs = sigs; fun = fun; own = own }) f.body start ≡ Ok end
  later : Adds end.goals end.notes made.goals made.notes

function_found : (table : List Packed) (sigs : List Signature) (fun : ℕ) (f : core.Fun) (goals : List GoalAt) (notes : List Note) (done : State) (made : Elaboration)
    → function table sigs fun f goals notes ≡ Ok done → Adds done.goals done.notes made.goals made.notes → IsFound table sigs fun f made
unfolding function
function_found table sigs fun f goals notes done made e later =
    let s = then_ok (there (slice_get sigs fun)) _ done e in
    let t = then_ok (within limit.Places (places_of f)) _ done s.second in
    let u = then_ok (body_start s.value goals notes) _ done t.second in
    record {
      own = s.value;
      goals = goals;
      notes = notes;
      start = u.value;
      end = done;
      signature = there_is (slice_get sigs fun) s.value s.first;
      places = answered (within limit.Places (places_of f)) t.value (most_stays limit.Places (places_of f)) t.first;
      begins = u.first;
      body = u.second;
      later = later;
    }

functions_found : (table : List Packed) (sigs : List Signature) (low : ℕ) (fs : List core.Fun) (goals : List GoalAt) (notes : List Note) (made : Elaboration) (i : ℕ) (f : core.Fun)
    → functions table sigs low fs goals notes ≡ Ok made → slice_get fs i ≡ Some f → IsFound table sigs (low + i) f made
unfolding functions
functions_found table sigs low [] goals notes made i f e at = absurd (let bad : ⊥ = cc in bad)
functions_found table sigs low (g ∷ gs) goals notes made zero f e at =
    let s = then_ok (function table sigs low g goals notes) _ made e in
    let rest = answered (functions table sigs (suc low) gs s.value.goals s.value.notes) made (functions_go table sigs (suc low) gs s.value.goals s.value.notes) s.second in
    let here : low ≡ low + 0 = omega arith in
    subst (λ n. IsFound table sigs n f made) here
    (subst (λ h. IsFound table sigs low h made) (same_Some g f at) (function_found table sigs low g goals notes s.value made s.first rest.adds))
functions_found table sigs low (g ∷ gs) goals notes made (suc i) f e at =
    let s = then_ok (function table sigs low g goals notes) _ made e in
    let next : suc low + i ≡ low + suc i = omega arith in
    subst (λ n. IsFound table sigs n f made) next (functions_found table sigs (suc low) gs s.value.goals s.value.notes made i f s.second at)

pub function_segment : (program : core.Program) (made : Elaboration) (fun : ℕ) (f : core.Fun) → elaborated program ≡ Ok made → slice_get program.funs fun ≡ Some f
    → IsFunctionSegment program made fun f
unfolding elaborated
function_segment program made fun f e at =
    let s = then_ok (few_declarations program) _ made e in
    let t = then_ok (table_of program.types) _ made s.second in
    let u = then_ok (signatures program.funs []) _ made t.second in
    let m = answered (functions t.value u.value 0 program.funs [] []) made (functions_go t.value u.value 0 program.funs [] []) u.second in
    let from : 0 + fun ≡ fun = omega arith in
    let found = subst (λ n. IsFound t.value u.value n f made) from (functions_found t.value u.value 0 program.funs [] [] made fun f u.second at) in
    let here : IsFound made.table made.sigs fun f made =
    subst (λ ss. IsFound made.table ss fun f made) (sym m.same_sigs) (subst (λ ts. IsFound ts u.value fun f made) (sym m.same_table) found) in
    record {
      own = here.own;
      goals = here.goals;
      notes = here.notes;
      start = here.start;
      end = here.end;
      types = t.first ∙ ap (λ (ts : List Packed). let r : Walk (List Packed) = Ok ts in r) (sym m.same_table);
      headers = u.first ∙ ap (λ (ss : List Signature). let r : Walk (List Signature) = Ok ss in r) (sym m.same_sigs);
      signature = here.signature;
      places = here.places;
      begins = here.begins;
      body = here.body;
      later_goals = here.later.adds_goals;
      later_notes = here.later.adds_notes;
    }
