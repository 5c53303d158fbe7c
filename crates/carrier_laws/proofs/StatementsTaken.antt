-- The same of statements: notes of states and of ways where control meets, and those of what stands between.
use Rattle.std.proofs.Common.{◌≡◌, ◌∙◌, ℕ, suc, ◌+◌, Bool as Truth, true, false, ◌&&◌, ◌||◌, List, [], ◌∷◌, ◌++◌, length, Option, Some, None, refl, sym, ap, subst, arith, append_assoc, append-nil}
use Rattle.std.proofs.lemmas.List.{length-append}
use Rattle.value_lowering.specs.OneInstruction.{label_if}
use Rattle.lowering.specs.StatementCode.{statement_labels, block_labels, statement_size, first_at, second_at, meet_at, behind_loop, meet, is_stated}
use Rattle.lowering.specs.TestCode.{test_labels}
use Rattle.operation_rules.specs.declared.operation.Operation.TheVariants.{Untuple, Store, Print, Return}
use Rattle.state_types.specs.declared.state.StateType.{StateType}
use Rattle.state_types.specs.declared.types.Ty.{Ty}
use Rattle.state_types.specs.declared.types.Ty.TheVariants as ty
use Rattle.xan_lin.specs.Subst.{zero_form}
use Rattle.xanadu_tree.specs.BodyRules.{completes_all}
use Rattle.xanadu_tree.specs.declared.stmt.Clause.{Clause}
use Rattle.xanadu_tree.specs.Plain as core
use Rattle.typed_core.specs.Constructs.{types_by, state_by}
use Rattle.typed_core.specs.Joins.{Joint, changes_any, stated, joined, entered, entered_if, met_there, within_bounds, values_at}
use Rattle.typed_core.specs.Limits.{within}
use Rattle.xan_lin.specs.declared.term.LimitKind.TheVariants as limit
use Rattle.state_types.specs.PlaceTypes.{type_at}
use Rattle.typed_core.specs.Operands.{operand}
use Rattle.typed_core.specs.Statements.{assigned, all_given, split, store, done, printed, returning, Branches, meeting, after_branches, other_branch}
use Rattle.typed_core.specs.Statements as elaborated
use Rattle.typed_core.specs.States.{Site, State, given, as_tuple, noting_state, point, like}
use Rattle.typed_core.specs.Tests.{on_side, tested}
use Rattle.typed_core.specs.declared.note.Note.{Note}
use Rattle.typed_core.specs.declared.note.Note.TheVariants as note
use Rattle.typed_core.proofs.Continued.{Goes, more_again}
use Rattle.typed_core.proofs.Continued as continued
use Rattle.typed_core.proofs.LimitedAnswers.{then_answers, weaker, any_answer}
use Rattle.type_carrier.specs.CarriedValues.{Carried, plainly, demanded, value}
use Rattle.type_carrier.specs.CarriedValues as carried
use Rattle.type_carrier.specs.CarriedTests.{Labelled, Sources, state_here, labelled, past_note, test}
use Rattle.type_carrier.specs.CarriedStatements.{statement, block, way_if, past_way, in_front, branches_meet, second_begins, turned, returned}
use Rattle.type_carrier.specs.CarriedStatements as statements
use Rattle.type_carrier.specs.ProvedRows.{behind_front, plain}
use Rattle.three_address.specs.declared.typed.Edge.{Edge}
use Rattle.carrier_laws.proofs.JoinsNoted.{joined_noted}
use Rattle.carrier_laws.proofs.LabelsTaken.{TakesAll, Left, in_now, all_on, all_as, all_now, all_none, label_left, label_taken, past_taken, test_taken}
use Rattle.carrier_laws.proofs.NotesTaken.{Takes, takes_on, takes_as, at_note, state_taken, types_taken, operand_taken, value_taken}

module _ (site : Site) (from : Sources) where
  -- ---- statements without blocks

  given_same : (x : ℕ) (t : Ty) (st : State) → Goes (λ more. more.notes ≡ st.notes) (given x t st)
  unfolding given
  given_same x t st =
      then_answers (within limit.Places (suc x)) _ (any_answer (within limit.Places (suc x)))
      (λ u h. then_answers (like (type_at x st.types) t) _ (any_answer (like (type_at x st.types) t)) (λ it g. record { is = refl }))

  all_given_same : (xs : List ℕ) (ts : List Ty) (st : State) → Goes (λ more. more.notes ≡ st.notes) (all_given xs ts st)
  unfolding all_given
  all_given_same [] [] st = record { is = refl }
  all_given_same [] (t ∷ ts) st = record { is = tt }
  all_given_same (x ∷ xs) [] st = record { is = tt }
  all_given_same (x ∷ xs) (t ∷ ts) st =
      then_answers (given x t st) _ (given_same x t st) (λ more h. weaker (all_given xs ts more) (λ end g. g ∙ h) (all_given_same xs ts more))

  -- behind what was taken, where no note is made
  no_more : (f : Carried → Carried) (a b c : State) → c.notes ≡ b.notes → Takes f a b → Takes f a c
  no_more f a b c same t = record { made = t.made; is = same ∙ t.is; by = t.by }

  set_taken : (x : ℕ) (e : core.Expr) (st : State) → Goes (λ more. Takes (value from.proofs e) st more) (assigned site x e st)
  unfolding assigned
  set_taken x e st =
      then_answers (operand site e st) _ (value_taken site from.proofs e st)
      (λ r h. weaker (given x r.0 r.1) (λ more g. no_more (value from.proofs e) st r.1 more g h) (given_same x r.0 r.1))

  -- with an operation behind an operand
  quiet_taken : (f g : Carried → Carried) (before st more : State) → Takes f before st → Takes (at_note None) st more → ((c : Carried) → (g c).notes ≡ (f c).notes) → Takes g before more
  quiet_taken f g before st more taken h same = takes_as f g before more same (takes_on f (at_note None) before st more taken h)

  split_taken : (xs : List ℕ) (e : core.Expr) (st : State) → Goes (λ more. Takes (λ c. plainly (carried.operand from.proofs e c)) st more) (split site xs e st)
  unfolding split
  split_taken xs e st =
      then_answers (operand site e st) _ (operand_taken site from.proofs e st)
      (λ r h. then_answers (as_tuple r.0) _ (any_answer (as_tuple r.0))
      (λ number u. then_answers (types_by site None (Untuple number (length xs)) (r.0 ∷ []) r.1) _ (types_taken site None (Untuple number (length xs)) (r.0 ∷ []) r.1)
      (λ s g. weaker (all_given xs s.0 s.1)
      (λ more k. no_more (λ c. plainly (carried.operand from.proofs e c)) st s.1 more k
      (quiet_taken (carried.operand from.proofs e) (λ c. plainly (carried.operand from.proofs e c)) st r.1 s.1 h g (λ c. refl)))
      (all_given_same xs s.0 s.1))))

  store_taken : (array index e : core.Expr) (at : ℕ) (st : State)
      → Goes (λ more. Takes (λ c. demanded from.proofs (carried.operand from.proofs e (carried.operand from.proofs index (carried.operand from.proofs array c)))) st more) (store site array index e at st)
  unfolding store
  store_taken array index e at st =
      let A = carried.operand from.proofs array in
      let I = carried.operand from.proofs index in
      let E = carried.operand from.proofs e in
      then_answers (operand site array st) _ (operand_taken site from.proofs array st)
      (λ p h. then_answers (operand site index p.1) _ (operand_taken site from.proofs index p.1)
      (λ q g. then_answers (operand site e q.1) _ (operand_taken site from.proofs e q.1)
      (λ r k. weaker (state_by site (Some at) Store (p.0 ∷ q.0 ∷ r.0 ∷ []) r.1)
      (λ more l. takes_as (λ c. at_note (Some at) (E (I (A c)))) (λ c. demanded from.proofs (E (I (A c)))) st more (λ c. refl)
      (takes_on (λ c. E (I (A c))) (at_note (Some at)) st r.1 more (takes_on (λ c. I (A c)) E st q.1 r.1 (takes_on A I st p.1 q.1 h g) k) l))
      (state_taken site (Some at) Store (p.0 ∷ q.0 ∷ r.0 ∷ []) r.1))))

  done_taken : (call : core.Expr) (st : State) → Goes (λ more. Takes (value from.proofs call) st more) (done site call st)
  unfolding done
  done_taken call st = then_answers (operand site call st) _ (value_taken site from.proofs call st) (λ r h. record { is = h })

  print_taken : (e : core.Expr) (st : State) → Goes (λ more. Takes (λ c. plainly (carried.operand from.proofs e c)) st more) (printed site e st)
  unfolding printed
  print_taken e st =
      then_answers (operand site e st) _ (operand_taken site from.proofs e st)
      (λ r h. weaker (state_by site None Print (r.0 ∷ []) r.1)
      (λ more g. quiet_taken (carried.operand from.proofs e) (λ c. plainly (carried.operand from.proofs e c)) st r.1 more h g (λ c. refl))
      (state_taken site None Print (r.0 ∷ []) r.1))

  return_taken : (o : Option core.Expr) (at : ℕ) (st : State) → Goes (λ more. Takes (returned from.proofs o) st more) (returning site o at st)
  unfolding returning
  return_taken None at st =
      weaker (state_by site (Some at) Return (ty.Int zero_form ∷ []) st)
      (λ more g. takes_as (at_note (Some at)) (returned from.proofs None) st more (λ c. refl) g)
      (state_taken site (Some at) Return (ty.Int zero_form ∷ []) st)
  return_taken (Some e) at st =
      then_answers (operand site e st) _ (operand_taken site from.proofs e st)
      (λ r h. weaker (state_by site (Some at) Return (r.0 ∷ []) r.1)
      (λ more g. takes_as (λ c. at_note (Some at) (carried.operand from.proofs e c)) (returned from.proofs (Some e)) st more (λ c. refl)
      (takes_on (carried.operand from.proofs e) (at_note (Some at)) st r.1 more h g))
      (state_taken site (Some at) Return (r.0 ∷ []) r.1))

  -- ---- where control meets

  -- the state is noted
  record Notes (a : List Note) (more : State) : Type 0 where
    noted : StateType
    is : more.notes ≡ a ++ note.State noted ∷ []

  record NotesOne (a : List Note) (more : State) : Type 0 where
    noted : Note
    is : more.notes ≡ a ++ noted ∷ []

  joined_notes : (clause : Clause) (changed : ℕ → Truth) (before : StateType) (latest : State) → Goes (λ r. Notes latest.notes r.1) (joined site clause changed before latest)
  joined_notes clause changed before latest =
      weaker (joined site clause changed before latest) (λ r h. record { noted = point r.1; is = h.notes }) (joined_noted site clause changed before latest)

  entered_notes : (at : ℕ) (joint : Joint) (end : StateType) (st : State) → Goes (λ more. NotesOne st.notes more) (entered site at joint end st)
  unfolding entered
  entered_notes at joint end st =
      then_answers (met_there joint end.places) _ (any_answer (met_there joint end.places))
      (λ f h. then_answers (within_bounds joint.past) _ (any_answer (within_bounds joint.past))
      (λ u g. then_answers (values_at end.places (joint.first + joint.count) joint.others f.1.values) _
      (any_answer (values_at end.places (joint.first + joint.count) joint.others f.1.values)) (λ values v. record { is = record { noted = _; is = refl } })))

  -- the note of a way, where there is one
  record WayNoted (so : Truth) (a b : List Note) : Type 0 where
    pub made : List Note
    is : b ≡ a ++ made
    past : (rest : List Note) → past_way so (made ++ rest) ≡ rest

  entered_noted : (at : ℕ) (joint : Joint) (end : StateType) (st : State) → Goes (λ more. WayNoted true st.notes more.notes) (entered site at joint end st)
  entered_noted at joint end st =
      weaker (entered site at joint end st) (λ more h. record { made = h.noted ∷ []; is = h.is; past = λ rest. refl }) (entered_notes at joint end st)

  way_noted : (so : Truth) (at : ℕ) (joint : Joint) (end : StateType) (st : State) → Goes (λ more. WayNoted so st.notes more.notes) (entered_if so site at joint end st)
  unfolding entered_if
  way_noted false at joint end st = record { is = record { made = []; is = sym (append-nil st.notes); past = λ rest. refl } }
  way_noted true at joint end st = entered_noted at joint end st

  -- ---- where branches meet

  -- whatever stands in front
  pub record TakesWith {A : Type 0} (f : A → Labelled → Labelled) (count : ℕ) (before after : List Note) : Type 0 where
    pub made : List Note
    pub is : after ≡ before ++ made
    pub by : (first : A) (l : Labelled) (rest : List Note) → l.now.notes ≡ made ++ rest → Left l (f first l) rest count

  abbrev pub TakesFront : (List Edge → Labelled → Labelled) → (count : ℕ) → (before after : List Note) → Type 0
  TakesFront f count before after = TakesWith {A = List Edge} f count before after

  with_any : {A : Type 0} (f : Labelled → Labelled) (n : ℕ) (a b : List Note) → TakesAll f n a b → TakesWith {A = A} (λ x. f) n a b
  with_any f n a b t = record { made = t.made; is = t.is; by = λ x l rest e. t.by l rest e }

  with_on : {A : Type 0} (f g : A → Labelled → Labelled) (m n : ℕ) (a b c : List Note) → TakesWith f m a b → TakesWith g n b c → TakesWith (λ x l. g x (f x l)) (m + n) a c
  with_on f g m n a b c one two = record {
    made = one.made ++ two.made;
    is = two.is ∙ ap (λ ns. ns ++ two.made) one.is ∙ append_assoc a one.made two.made;
    by = λ x l rest e.
        let first = one.by x l (two.made ++ rest) (e ∙ append_assoc one.made two.made rest) in
        let second = two.by x (f x l) rest first.notes in
        let s = first.states in let r = second.states in
        record { notes = second.notes; states = omega (arith, s, r); grows = more_again l.states (f x l).states (g x (f x l)).states first.grows second.grows };
  }

  by_itself : {A : Type 0} (f : A → Labelled → Labelled) (p : Labelled → A) (g : Labelled → Labelled) (m n : ℕ) (a b : List Note) → ((l : Labelled) → g l ≡ f (p l) l) → m ≡ n
      → TakesWith f m a b → TakesAll g n a b
  by_itself f p g m n a b same count t =
      all_as (λ l. f (p l) l) g m n a b same count (record { made = t.made; is = t.is; by = λ l rest e. t.by (p l) l rest e })

  meets_taken : (at : ℕ) (clause : Clause) (changed : ℕ → Truth) (before one : StateType) (a b : Truth) (two : State)
      → Goes (λ more. TakesFront (λ first. statements.meeting a b from clause first) 1 two.notes more.notes)
      (meeting site at clause changed before (record { one = one; two = point two; one_completes = a; two_completes = b }) two)
  unfolding meeting
  meets_taken at clause changed before one a b two =
      then_answers (joined site clause changed before two) _ (joined_notes clause changed before two)
      (λ r h. then_answers (entered_if a site at r.0 one r.1) _ (way_noted a at r.0 one r.1)
      (λ mid g. weaker (entered_if b site at r.0 (point two) mid) (λ more k. by_parts r.1 mid.notes more.notes h g k) (way_noted b at r.0 (point two) mid)))
    where
      by_parts : (mid : State) (q r : List Note) → Notes two.notes mid → WayNoted a mid.notes q → WayNoted b q r → TakesFront (λ first. statements.meeting a b from clause first) 1 two.notes r
      by_parts mid q r h g k = record {
        made = note.State h.noted ∷ (g.made ++ k.made);
        is = k.is ∙ ap (λ ns. ns ++ k.made) (g.is ∙ ap (λ ns. ns ++ g.made) h.is) ∙ append_assoc (two.notes ++ note.State h.noted ∷ []) g.made k.made
            ∙ append_assoc two.notes (note.State h.noted ∷ []) (g.made ++ k.made);
        by = λ first l rest e. record {
          notes = ap (λ ns. past_way b (past_way a (behind_front ns))) e ∙ ap (λ ns. past_way b (past_way a ns)) (append_assoc g.made k.made rest)
              ∙ ap (past_way b) (g.past (k.made ++ rest)) ∙ k.past rest;
          states = (label_left from h.noted l ((g.made ++ k.made) ++ rest) e).states;
          grows = (label_left from h.noted l ((g.made ++ k.made) ++ rest) e).grows;
        };
      }

  front_taken : (f : Labelled → Labelled) (n : ℕ) (edges : List Edge → List Edge) (a b : List Note) → TakesAll f n a b → TakesFront (λ first l. in_front (edges first) (f l)) n a b
  front_taken f n edges a b t = record {
    made = t.made;
    is = t.is;
    by = λ first l rest e. (let x = t.by l rest e in record { notes = x.notes; states = x.states; grows = x.grows });
  }

  pub branches_taken : (a b : Truth) (join : Option Clause) (at past : ℕ) (changed : ℕ → Truth) (before one : StateType) (two : State)
      → Goes (λ more. TakesFront (λ first. branches_meet a b join from first) (length (label_if (a || (is_stated join && b)) past)) two.notes more.notes)
      (after_branches a b join site at changed before one two)
  unfolding after_branches noting_state
  branches_taken false false None at past changed before one two =
      record { is = front_taken (λ l. l) 0 (λ first. first) two.notes two.notes (all_none (λ l. l) two.notes (λ l. refl) (λ l. refl)) }
  branches_taken false false (Some c) at past changed before one two =
      record { is = front_taken (λ l. l) 0 (λ first. first) two.notes two.notes (all_none (λ l. l) two.notes (λ l. refl) (λ l. refl)) }
  branches_taken true false None at past changed before one two =
      record { is = front_taken (labelled from) 1 (λ first. first ++ plain ∷ []) two.notes _ (label_taken from _ two.notes) }
  branches_taken false true None at past changed before one two =
      record { is = front_taken (λ l. record l { now = past_note l.now }) 0 (λ first. first) two.notes _ (past_taken from _ two.notes) }
  branches_taken true true None at past changed before one two = meets_taken at (stated None) changed before one true true two
  branches_taken true true (Some c) at past changed before one two = meets_taken at c changed before one true true two
  branches_taken true false (Some c) at past changed before one two = meets_taken at c changed before one true false two
  branches_taken false true (Some c) at past changed before one two = meets_taken at c changed before one false true two

  -- ---- all statements

  at_now : (f : Carried → Carried) (g : Labelled → Labelled) (st more : State) → ((l : Labelled) → g l ≡ in_now f l) → Takes f st more → TakesAll g 0 st.notes more.notes
  at_now f g st more same t = all_as (in_now f) g 0 0 st.notes more.notes same refl (all_now f st more t)

  -- the second branch begins with no edges, and those of the first come in front
  pub with_front : (F : List Edge → Labelled → Labelled) (f : Labelled → Labelled) (m n : ℕ) (a b c : List Note) → TakesAll f m a b → TakesFront F n b c
      → TakesAll (λ l. F l.now.edges (f (second_begins l))) (m + n) a c
  with_front F f m n a b c one two = record {
    made = one.made ++ two.made;
    is = two.is ∙ ap (λ ns. ns ++ two.made) one.is ∙ append_assoc a one.made two.made;
    by = λ l rest e.
        let x = one.by (second_begins l) (two.made ++ rest) (e ∙ append_assoc one.made two.made rest) in
        let y = two.by l.now.edges (f (second_begins l)) rest x.notes in
        let s = x.states in let r = y.states in
        record { notes = y.notes; states = omega (arith, s, r); grows = more_again l.states (f (second_begins l)).states (F l.now.edges (f (second_begins l))).states x.grows y.grows };
  }

  if_taken : (asked : core.Test) (on_true on_false : core.Stmts) (join : Option Clause) (at number : ℕ) (a b c d e : List Note) (noted : StateType)
      → TakesAll (test from false asked) (length (test_labels false asked at)) a b → TakesAll (block from on_true) (length (block_labels on_true (first_at asked at))) b c
      → TakesAll (block from on_false) (length (block_labels on_false (second_at asked on_true at))) (c ++ note.State noted ∷ []) d
      → TakesFront (λ first. branches_meet (completes_all on_true) (completes_all on_false) join from first)
      (length (label_if (meet on_true on_false join) (meet_at asked on_true on_false join at))) d e
      → TakesAll (statement from (core.If asked on_true on_false join number)) (length (statement_labels (core.If asked on_true on_false join number) at)) a e
  unfolding statement statement_labels
  if_taken asked on_true on_false join at number a b c d e noted h g k f =
      all_as
      (λ l. let other = labelled from (block from on_true (test from false asked l)) in
      branches_meet (completes_all on_true) (completes_all on_false) join from other.now.edges (block from on_false (second_begins other))) _ _ _ a e (λ l. refl)
      (if_count (test_labels false asked at) (block_labels on_true (first_at asked at)) (block_labels on_false (second_at asked on_true at))
      (label_if (meet on_true on_false join) (meet_at asked on_true on_false join at)) (second_at asked on_true at))
      (all_on (λ l. labelled from (block from on_true (test from false asked l)))
      (λ other. branches_meet (completes_all on_true) (completes_all on_false) join from other.now.edges (block from on_false (second_begins other))) _ _ a (c ++ note.State noted ∷ []) e
      (all_on (λ l. block from on_true (test from false asked l)) (labelled from) _ 1 a c (c ++ note.State noted ∷ [])
      (all_on (test from false asked) (block from on_true) _ _ a b c h g) (label_taken from noted c))
      (with_front (λ first. branches_meet (completes_all on_true) (completes_all on_false) join from first) (block from on_false) _ _ (c ++ note.State noted ∷ []) d e k f))
    where
      if_count : (w x y z : List ℕ) (n : ℕ) → ((length w + length x) + 1) + (length y + length z) ≡ length (w ++ (x ++ (n ∷ (y ++ z))))
      if_count w x y z n =
          (let a = length-append w (x ++ (n ∷ (y ++ z))) in let b = length-append x (n ∷ (y ++ z)) in let c = length-append y z in omega (arith, a, b, c))

  way_taken : (so : Truth) (clause : Clause) (a b : List Note) → WayNoted so a b → TakesWith {A = Option StateType} (λ target. way_if so from clause target) 0 a b
  way_taken so clause a b w =
      record { made = w.made; is = w.is; by = λ target l rest e. record { notes = ap (past_way so) e ∙ w.past rest; states = omega arith; grows = continued.no_more l.states } }

  while_taken : (asked : core.Test) (head : Option Clause) (body : core.Stmts) (at number : ℕ) (a c d e f : List Note) (begun behind : StateType)
      → WayNoted true (a ++ note.State begun ∷ []) c
      → TakesAll (test from false asked) (length (test_labels false asked (suc at))) c d → TakesAll (block from body) (length (block_labels body (first_at asked (suc at)))) d e
      → WayNoted (completes_all body) e f
      → TakesAll (statement from (core.While asked head body number)) (length (statement_labels (core.While asked head body number) at)) a (f ++ note.State behind ∷ [])
  unfolding statement statement_labels
  while_taken asked head body at number a c d e f begun behind w h g k =
      by_itself
      (λ target l. labelled from (way_if (completes_all body) from (stated head) target (block from body (test from false asked (way_if true from (stated head) target (labelled from l))))))
      (λ l. state_here from l) _ _ _ a (f ++ note.State behind ∷ []) (λ l. refl)
      (while_count (test_labels false asked (suc at)) (block_labels body (first_at asked (suc at))) (suc at) (behind_loop asked body at))
      (with_on
      (λ target l. way_if (completes_all body) from (stated head) target (block from body (test from false asked (way_if true from (stated head) target (labelled from l)))))
      (λ target. labelled from) _ 1 a f (f ++ note.State behind ∷ [])
      (with_on (λ target l. block from body (test from false asked (way_if true from (stated head) target (labelled from l)))) (λ target. way_if (completes_all body) from (stated head) target) _ 0 a e f
      (with_on (λ target l. test from false asked (way_if true from (stated head) target (labelled from l))) (λ target. block from body) _ _ a d e
      (with_on (λ target l. way_if true from (stated head) target (labelled from l)) (λ target. test from false asked) _ _ a c d
      (with_on (λ target. labelled from) (λ target. way_if true from (stated head) target) 1 0 a (a ++ note.State begun ∷ []) c
      (with_any (labelled from) 1 a (a ++ note.State begun ∷ []) (label_taken from begun a)) (way_taken true (stated head) (a ++ note.State begun ∷ []) c w))
      (with_any (test from false asked) _ c d h)) (with_any (block from body) _ d e g)) (way_taken (completes_all body) (stated head) e f k))
      (with_any (labelled from) 1 f (f ++ note.State behind ∷ []) (label_taken from behind f)))
    where
      while_count : (x y : List ℕ) (n m : ℕ) → ((((1 + 0) + length x) + length y) + 0) + 1 ≡ length (n ∷ (x ++ (y ++ m ∷ [])))
      while_count x y n m = (let a = length-append x (y ++ m ∷ []) in let b = length-append y (m ∷ []) in omega (arith, a, b))

  mutual
    unfolding elaborated.statement statement statement_labels noting_state

    pub statement_taken : (s : core.Stmt) (at : ℕ) (st : State)
        → Goes (λ more. TakesAll (statement from s) (length (statement_labels s at)) st.notes more.notes) (elaborated.statement site s st)
    statement_taken (core.Set x e) at st = weaker (assigned site x e st) (λ more h. at_now (value from.proofs e) _ st more (λ l. refl) h) (set_taken x e st)
    statement_taken (core.Split xs e a) at st =
        weaker (split site xs e st) (λ more h. at_now (λ c. plainly (carried.operand from.proofs e c)) _ st more (λ l. refl) h) (split_taken xs e st)
    statement_taken (core.Store array index e a) at st =
        weaker (store site array index e a st)
        (λ more h. at_now (λ c. demanded from.proofs (carried.operand from.proofs e (carried.operand from.proofs index (carried.operand from.proofs array c)))) _ st more (λ l. refl) h)
        (store_taken array index e a st)
    statement_taken (core.Do call) at st = weaker (done site call st) (λ more h. at_now (value from.proofs call) _ st more (λ l. refl) h) (done_taken call st)
    statement_taken (core.Print e) at st =
        weaker (printed site e st) (λ more h. at_now (λ c. plainly (carried.operand from.proofs e c)) _ st more (λ l. refl) h) (print_taken e st)
    statement_taken (core.If asked on_true on_false join a) at st =
        then_answers (tested site asked st) _ (test_taken site from asked false at st)
        (λ sides h. then_answers (elaborated.block site on_true (on_side sides.on_true sides.after)) _ (block_taken on_true (first_at asked at) (on_side sides.on_true sides.after))
        (λ one g. then_answers (elaborated.block site on_false (other_branch sides.on_false st one)) _ (block_taken on_false (second_at asked on_true at) (other_branch sides.on_false st one))
        (λ two k. weaker
        (after_branches (completes_all on_true) (completes_all on_false) join site a (λ x. changes_any on_true x || changes_any on_false x) (point st) (point one) two)
        (λ more f. if_taken asked on_true on_false join at a st.notes sides.after.notes one.notes two.notes more.notes _ h g k f)
        (branches_taken (completes_all on_true) (completes_all on_false) join a (meet_at asked on_true on_false join at) (λ x. changes_any on_true x || changes_any on_false x) (point st) (point one) two))))
    statement_taken (core.While asked head body a) at st =
        then_answers (joined site (stated head) (changes_any body) (point st) st) _ (joined_notes (stated head) (changes_any body) (point st) st)
        (λ r j. then_answers (entered site a r.0 (point st) r.1) _ (entered_noted a r.0 (point st) r.1)
        (λ begun w. then_answers (tested site asked begun) _ (test_taken site from asked false (suc at) begun)
        (λ sides h. then_answers (elaborated.block site body (on_side sides.on_true sides.after)) _ (block_taken body (first_at asked (suc at)) (on_side sides.on_true sides.after))
        (λ turn g. then_answers (entered_if (completes_all body) site a r.0 (point turn) turn) _ (way_noted (completes_all body) a r.0 (point turn) turn)
        (λ back k. record {
          is = while_taken asked head body at a st.notes begun.notes sides.after.notes turn.notes back.notes j.noted
              (record { ctx = record { vars = back.ctx.vars; rows = sides.on_false }; places = r.1.types }) (subst (λ ns. WayNoted true ns begun.notes) j.is w) h g k;
        })))))
    statement_taken (core.Return e a) at st = weaker (returning site e a st) (λ more h. at_now (returned from.proofs e) _ st more (λ l. refl) h) (return_taken e a st)

    pub block_taken : (ss : core.Stmts) (at : ℕ) (st : State)
        → Goes (λ more. TakesAll (block from ss) (length (block_labels ss at)) st.notes more.notes) (elaborated.block site ss st)
    block_taken core.NoStmt at st = record { is = all_none (block from core.NoStmt) st.notes (λ l. refl) (λ l. refl) }
    block_taken (core.AStmt s ss) at st =
        then_answers (elaborated.statement site s st) _ (statement_taken s at st)
        (λ mid h. weaker (elaborated.block site ss mid)
        (λ more g. all_as (λ l. block from ss (statement from s l)) (block from (core.AStmt s ss)) _ _ st.notes more.notes (λ l. refl)
        (sym (length-append (statement_labels s at) (block_labels ss (at + statement_size s))))
        (all_on (statement from s) (block from ss) _ _ st.notes mid.notes more.notes h g))
        (block_taken ss (at + statement_size s) mid))
