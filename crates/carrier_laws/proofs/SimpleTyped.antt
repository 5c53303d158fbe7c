-- Statements that print, store and return are typed.
use Rattle.std.proofs.Common.{◌≡◌, ◌∙◌, ℕ, suc, ◌+◌, ◌<◌, ◌≤◌, List, [], ◌∷◌, ◌++◌, length, map, slice_get, Option, Some, None, Ok, refl, sym, ap, subst, arith, append_assoc}
use Rattle.std.specs.Prelude.{pos}
use Rattle.std.specs.List.{All, AllZip, Contains}
use Rattle.std.proofs.lemmas.List.{length-append}
use Rattle.index_sorts.specs.Context.{IndexContext}
use Rattle.xan_lin.specs.Subst.{zero_form}
use Rattle.operation_rules.specs.Applied.{named, all_there}
use Rattle.operation_rules.specs.Rules.{Setting, rule, gives, one_type, as_number}
use Rattle.operation_rules.specs.declared.operation.Operation.{Operation}
use Rattle.operation_rules.specs.declared.operation.Operation.TheVariants as operation
use Rattle.operation_rules.specs.declared.rule.Rule.{Rule}
use Rattle.state_types.specs.PlaceTypes.{type_at}
use Rattle.state_types.specs.declared.state.StateType.{StateType}
use Rattle.state_types.specs.declared.types.Ty.{Ty}
use Rattle.state_types.specs.declared.types.Ty.TheVariants as ty
use Rattle.state_types.proofs.Thens.{then_ok, ok_same}
use Rattle.three_address.specs.Demands.{demands_of, AreProved, AllProved}
use Rattle.three_address.specs.Flow.{ways_of, ways_from, label_at, target_of}
use Rattle.three_address.specs.Instructions.{Instruction, instruction_of}
use Rattle.three_address.specs.Liveness.{Live, Read, Kept}
use Rattle.three_address.specs.Typing.{Allows, ruled_in, state_of, with_types}
use Rattle.three_address.specs.declared.instruction.LowInstr.{LowInstr}
use Rattle.three_address.specs.declared.typed.Edge.{Edge}
use Rattle.value_lowering.specs.Frames.{temporary, operand_place}
use Rattle.value_lowering.specs.OneInstruction.{literal, stored, printed, returned}
use Rattle.lowering.specs.StatementCode.{return_code, store_code}
use Rattle.value_lowering.specs.ValueCode.{operand_at}
use Rattle.xanadu_tree.specs.Plain as core
use Rattle.typed_core.specs.Constructs.{setting_of, followed, types_by, state_by}
use Rattle.typed_core.specs.Operands.{operand}
use Rattle.typed_core.specs.Places.{behind}
use Rattle.typed_core.specs.States.{State, all_asked, none_asked, demanding}
use Rattle.typed_core.specs.Statements.{store, returning}
use Rattle.typed_core.specs.Statements as statements
use Rattle.typed_core.specs.declared.note.Note.{Note}
use Rattle.typed_core.specs.declared.note.Note.TheVariants as note
use Rattle.type_carrier.specs.CarriedValues.{Carried, plainly, demanded}
use Rattle.type_carrier.specs.CarriedValues as carried
use Rattle.type_carrier.specs.CarriedStatements as carried_statements
use Rattle.type_carrier.specs.ProvedRows.{plain, demand_edge, rows_onto}
use Rattle.carrier_laws.proofs.AssignmentsTyped.{Stepped}
use Rattle.carrier_laws.proofs.ChainsTyped.{Done, Next, CodeAt, Stands, placed, code_left, code_right, found, reads_are, writes_are}
use Rattle.carrier_laws.proofs.ConstructsTyped.{earlier, before_operand, nothing_waits, quiet_follows, two_wait, waits_on}
use Rattle.carrier_laws.proofs.DemandsProved.{demand_proved, seam}
use Rattle.carrier_laws.proofs.GivenFollowed.{zero_given}
use Rattle.carrier_laws.proofs.InstructionsFound.{literal_is}
use Rattle.carrier_laws.proofs.OperandsRun.{Walk, IsWalk, Ahead, Here, IsLeft, Runs, Waits, runs_on, waits_more, same_behind}
use Rattle.carrier_laws.proofs.OperandsTyped.{OperandTyped, put_behind}
use Rattle.carrier_laws.proofs.OperationFacts.{literal_quiet}
use Rattle.carrier_laws.proofs.OperationsTyped.{Follows, types_followed, follows_types, follows_few, promised, ruled_is, goes_on}
use Rattle.carrier_laws.proofs.ValuesPlaced.{Where, InTemporary, GoesNext, read_all}
use Rattle.typed_core.proofs.GrownContexts.{Onward, state_by_goes}

-- ---- what follows of a rule, where it gives nothing

record StateFollows (w : Walk) (n : Option ℕ) (o : Operation) (types : List Ty) (st more : State) : Type 0 where
  given : List Ty
  follows : Follows w.site n o types st given more

state_followed : (w : Walk) (n : Option ℕ) (o : Operation) (types : List Ty) (st more : State) → state_by w.site n o types st ≡ Ok more → StateFollows w n o types st more
unfolding state_by
state_followed w n o types st more e =
    let all = then_ok (types_by w.site n o types st) _ more e in
    let same = ok_same all.value.1 more all.second in
    record { given = all.value.0; follows = types_followed w.site n o types st all.value.0 more (all.first ∙ ap (λ (m : State). Ok (all.value.0, m)) same) }

before_effect : (w : Walk) (n : Option ℕ) (o : Operation) (types : List Ty) (st more : State) → state_by w.site n o types st ≡ Ok more → Ahead w more → Ahead w st
before_effect w n o types st more made ahead =
    earlier w st more (promised (λ m. Onward w.site.table st m) (state_by w.site n o types st) more (state_by_goes w.site n o types st) made).grown.later ahead

-- ---- the goals of a demand stand in the note in front

record Noted (w : Walk) (d : Carried) (r : Rule) (mid more : State) : Type 0 where
  rest : List Note
  numbers : List ℕ
  front : d.notes ≡ note.Demand numbers ∷ rest
  proved : AreProved mid.ctx (demands_of None r.demands) (rows_onto w.proofs numbers [])
  left : IsLeft w more rest

noted_front : (w : Walk) → IsWalk w → (n : ℕ) (o : Operation) (types : List Ty) (d : Carried) (mid more : State) (given : List Ty) → IsLeft w mid d.notes → Ahead w more
    → (f : Follows w.site (Some n) o types mid given more) → Noted w d f.r mid more
unfolding demanding
noted_front w isw n o types d mid more given remains ahead f = from_rule f.r f.ctx f.more_is
  where
    from_rule : (r : Rule) (ctx : IndexContext) → more ≡ record (demanding w.site n r.demands mid) { ctx = ctx } → Noted w d r mid more
    from_rule r ctx same =
        let made = all_asked w.site n mid.ctx r.demands (none_asked mid) in
        let one : Note = note.Demand made.numbers in
        let made_notes : more.notes ≡ mid.notes ++ one ∷ [] = ap (λ (m : State). m.notes) same in
        let made_goals : more.goals ≡ made.goals = ap (λ (m : State). m.goals) same in
        record {
          rest = ahead.notes.rest;
          numbers = made.numbers;
          front = same_behind mid.notes d.notes (one ∷ ahead.notes.rest)
              (sym remains ∙ ahead.notes.is ∙ ap (λ ns. ns ++ ahead.notes.rest) made_notes ∙ append_assoc mid.notes (one ∷ []) ahead.notes.rest);
          proved = demand_proved w.proofs isw.proved w.site n mid.ctx r.demands mid.goals
              (record { rest = ahead.goals.rest; is = ahead.goals.is ∙ ap (λ gs. gs ++ ahead.goals.rest) made_goals });
          left = ahead.notes.is;
        }

-- ---- an operation that writes nothing

-- what the instruction is
pub record IsEffect (w : Walk) (instr : LowInstr) (o : Operation) (reads : List ℕ) : Type 0 where
  pub is : instruction_of instr ≡ Some (record { operation = o; writes = []; reads = reads })
  pub as_is : placed w.body instr ≡ instr

module _ (w : Walk) (isw : IsWalk w) (p q : ℕ) (s : StateType) (code : List LowInstr) (c d : Carried) (st mid : State) (us : List Ty)
    (waits : Waits w p q s code c d st mid [] us) (instr : LowInstr) (o : Operation) (reads : List ℕ) (types : List Ty)
    (at : CodeAt w.body p (code ++ instr ∷ [])) (is : IsEffect w instr o reads) (located : AllZip (λ place t. Where w.vars us mid.types place t) reads types)
    (is_named : named (setting_of w.site) o ≡ Ok tt) where
  abbrev the : Instruction
  the = record { operation = o; writes = []; reads = reads }

  abbrev state : StateType
  state = waits.end

  there : slice_get w.body.fun.code q ≡ Some instr
  there = subst (λ n. slice_get w.body.fun.code n ≡ Some instr) (sym waits.there) (at.each (length code) instr (seam code [] instr) ∙ ap Some is.as_is)

  stands : Stands w.body q instr the
  stands = record { there = there; is = is.is }

  types_read : all_there (map (λ place. type_at place state.places) reads) ≡ Ok types
  types_read = read_all w.body w.vars q state mid us waits.here.now waits.here.waits reads types
      (λ x h. Read q x (subst (λ rs. Contains rs x) (sym (reads_are w.body q instr the stands)) h)) located

  small : All (λ place. place < w.body.count) instr.places
  small = at.small (length code) instr (seam code [] instr)

  in_setting : named w.body.setting o ≡ Ok tt
  in_setting = ap (λ (x : Setting). named x o) isw.setting ∙ is_named

  same_ctx : state.ctx ≡ mid.ctx
  same_ctx = waits.here.now.ctx

  module _ (n : Option ℕ) (given : List Ty) (more : State) (edge : Edge) (notes : List Note) (f : Follows w.site n o types mid given more) (no_values : edge.values ≡ [])
      (proved : AreProved mid.ctx (demands_of None f.r.demands) edge.by) (left : IsLeft w more notes) where
    in_rule : rule w.body.setting o types state.ctx.vars ≡ Ok f.r
    in_rule = subst (λ (m : Setting). rule m o types state.ctx.vars ≡ Ok f.r) (sym isw.setting)
        (subst (λ (x : IndexContext). rule (setting_of w.site) o types x.vars ≡ Ok f.r) (sym same_ctx) f.is_rule)

    in_follows : followed f.r state.ctx ≡ Ok (given, f.ctx)
    in_follows = subst (λ (x : IndexContext). followed f.r x ≡ Ok (given, f.ctx)) (sym same_ctx) f.follows

    in_proved : AreProved state.ctx (demands_of None f.r.demands) edge.by
    in_proved = subst (λ (x : IndexContext). AreProved x (demands_of None f.r.demands) edge.by) (sym same_ctx) proved

    ctx_is : f.ctx ≡ more.ctx
    ctx_is = sym (ap (λ (m : State). m.ctx) f.more_is)

    pub effect_typed : GoesNext o → Stepped w p s (code ++ instr ∷ []) c (record { edges = d.edges ++ edge ∷ []; notes = notes }) more
    unfolding with_types ways_from
    effect_typed goes = record {
      end = state_of f.ctx state.places;
      runs = runs_on w s state (state_of f.ctx state.places) code (instr ∷ []) c.edges d.edges (d.edges ++ edge ∷ []) waits.runs (record {
        edges = edge ∷ [];
        are = refl;
        states = state ∷ [];
        chain = Next state (state_of f.ctx state.places) (state_of f.ctx state.places) instr [] edge [] []
            (subst (λ i. Allows w.body.setting w.body.count w.body.labels state i edge (Some (state_of f.ctx state.places))) (sym is.as_is) allows) (Done (state_of f.ctx state.places));
      });
      here = record {
        now = record {
          ctx = ctx_is;
          types = λ x t live e. waits.here.now.types x t (kept x (subst (λ n. Live w.body.fun n x) (sym position) live)) (ap (λ es. type_at x es) (sym same_types) ∙ e);
        };
        waits = record { each = λ k t e. absurd (let bad : ⊥ = cc in bad) };
        remains = left;
        within = λ x t e. waits.here.within x t (ap (λ es. type_at x es) (sym same_types) ∙ e);
        few = subst (λ (c : IndexContext). c.vars ≤ 1024) ctx_is (follows_few w.site n o types mid given more f);
      };
    }
      where
        position : suc q ≡ p + length (code ++ instr ∷ [])
        position = (let e = waits.there in let long = length-append code (instr ∷ []) in omega (arith, e, long))

        same_types : more.types ≡ mid.types
        same_types = follows_types w.site n o types mid given more f

        ways_are : ways_from w.body.fun q ≡ suc q ∷ []
        ways_are = ap (λ i. ways_of i q (label_at w.body.fun.labels (target_of (slice_get w.body.fun.code q)))) (found w.body q instr the stands)
            ∙ goes.on q (label_at w.body.fun.labels (target_of (slice_get w.body.fun.code q)))

        kept : (x : ℕ) → Live w.body.fun (suc q) x → Live w.body.fun q x
        kept x live =
            Kept q (suc q) x (subst (λ ns. Contains ns (suc q)) (sym ways_are) (0, omega arith, refl))
            (λ h. none x (subst (λ ns. Contains ns x) (writes_are w.body q instr the stands) h)) live
          where
            none : (x : ℕ) → Contains [] x → ⊥
            none x h = (let lt = h.1 in omega (arith, lt))

        allows : Allows w.body.setting w.body.count w.body.labels state instr edge (Some (state_of f.ctx state.places))
        allows = goes_on w.body.setting w.body.count w.body.labels state instr the types
            (record { is = is.is; small = small; differ = tt; read = types_read; is_named = in_setting })
            f.r given f.ctx edge in_rule in_follows no_values in_proved
            (λ ruled next go. goes.leads w.body.setting w.body.labels state the types ruled instr.target edge next go)

-- ---- an operation that ends the activation, whatever stands behind

-- the code has run to its end, and what is left of the notes is left
pub record Returned (w : Walk) (s : StateType) (code : List LowInstr) (c d : Carried) (more : State) : Type 0 where
  pub runs : (end : StateType) → Runs w s code c.edges d.edges end
  pub left : IsLeft w more d.notes

module _ (w : Walk) (isw : IsWalk w) (p q : ℕ) (s : StateType) (code : List LowInstr) (c d : Carried) (st mid : State) (us : List Ty)
    (waits : Waits w p q s code c d st mid [] us) (place : ℕ) (t : Ty) (at : CodeAt w.body p (code ++ returned place ∷ [])) (located : Where w.vars us mid.types place t) where
  abbrev ends : Instruction
  ends = record { operation = operation.Return; writes = []; reads = place ∷ [] }

  return_is : IsEffect w (returned place) operation.Return (place ∷ [])
  unfolding instruction_of
  return_is = record { is = refl; as_is = refl }

  return_named : named (setting_of w.site) operation.Return ≡ Ok tt
  unfolding named
  return_named = refl

  pub return_typed : (n : ℕ) (more : State) → Ahead w more → state_by w.site (Some n) operation.Return (t ∷ []) mid ≡ Ok more
      → Returned w s (code ++ returned place ∷ []) c (demanded w.proofs d) more
  unfolding ruled_in
  return_typed n more ahead made =
      let x = state_followed w (Some n) operation.Return (t ∷ []) mid more made in
      let f = x.follows in
      let noted = noted_front w isw n operation.Return (t ∷ []) d mid more x.given waits.here.remains ahead f in
      let edge = demand_edge w.proofs noted.numbers in
      let state = waits.end in
      let read = types_read w isw p q s code c d st mid us waits (returned place) operation.Return (place ∷ []) (t ∷ []) at return_is (located, tt) return_named in
      let allows : (next : Option StateType) → Allows w.body.setting w.body.count w.body.labels state (returned place) edge next = λ next. record {
        i = ends;
        is = return_is.is;
        small = small w isw p q s code c d st mid us waits (returned place) operation.Return (place ∷ []) (t ∷ []) at return_is (located, tt) return_named;
        differ = tt;
        types = t ∷ [];
        read = read;
        ruled = record { demands = f.r.demands; ctx = f.ctx; types = x.given };
        by_rule = ruled_is w.body.setting operation.Return (map (λ place. type_at place state.places) (place ∷ [])) (t ∷ []) state.ctx f.r x.given f.ctx
            (in_setting w isw p q s code c d st mid us waits (returned place) operation.Return (place ∷ []) (t ∷ []) at return_is (located, tt) return_named) read
            (in_rule w isw p q s code c d st mid us waits (returned place) operation.Return (place ∷ []) (t ∷ []) at return_is (located, tt) return_named (Some n) x.given more edge noted.rest f refl noted.proved noted.left)
            (in_follows w isw p q s code c d st mid us waits (returned place) operation.Return (place ∷ []) (t ∷ []) at return_is (located, tt) return_named (Some n) x.given more edge noted.rest f refl noted.proved noted.left);
        leads = record {
          values = refl;
          proved = in_proved w isw p q s code c d st mid us waits (returned place) operation.Return (place ∷ []) (t ∷ []) at return_is (located, tt) return_named (Some n) x.given more edge noted.rest f refl noted.proved noted.left;
        };
      } in
      subst (λ ns. Returned w s (code ++ returned place ∷ []) c (demanded w.proofs (record { edges = d.edges; notes = ns })) more) (sym noted.front)
      (record {
        runs = λ end. runs_on w s state end code (returned place ∷ []) c.edges d.edges (d.edges ++ edge ∷ []) waits.runs (record {
          edges = edge ∷ [];
          are = refl;
          states = state ∷ [];
          chain = Next state end end (returned place) [] edge [] [] (allows (Some end)) (Done end);
        });
        left = noted.left;
      })

-- ---- statements

print_quiet : (st : Setting) (types : List Ty) (first : ℕ) (r : Rule) → rule st operation.Print types first ≡ Ok r → r.demands ≡ []
unfolding rule
print_quiet st types first r e =
    let one = then_ok (one_type types) _ r e in
    let two = then_ok (as_number one.value) _ r one.second in
    sym (ap (λ (x : Rule). x.demands) (ok_same (gives [] []) r two.second))

module _ (w : Walk) (isw : IsWalk w) (p : ℕ) (s : StateType) (st : State) (c : Carried) (here : Here w p s st [] c.notes) (more : State) (ahead : Ahead w more) where
  pub print_typed : (e : core.Expr) → OperandTyped w e → CodeAt w.body p (operand_at w.vars e 0 ++ printed (operand_place w.vars e 0) ∷ []) → statements.printed w.site e st ≡ Ok more
      → Stepped w p s (operand_at w.vars e 0 ++ printed (operand_place w.vars e 0) ∷ []) c (plainly (carried.operand w.proofs e c)) more
  unfolding statements.printed named instruction_of rule
  print_typed e l at made =
      let f = then_ok (operand w.site e st) _ more made in
      let t = f.value.0 in
      let mid = f.value.1 in
      let code = operand_at w.vars e 0 in
      let place = operand_place w.vars e 0 in
      let x = l.is 0 p s st [] c t mid here refl (code_left w.body p code (printed place ∷ []) at) f.first (before_effect w None operation.Print (t ∷ []) mid more f.second ahead) in
      let g = state_followed w None operation.Print (t ∷ []) mid more f.second in
      effect_typed w isw p x.q s code c (carried.operand w.proofs e c) st mid x.us x.waits (printed place) operation.Print (place ∷ []) (t ∷ []) at (record { is = refl; as_is = refl })
      (x.place, tt) refl None g.given more plain (carried.operand w.proofs e c).notes g.follows refl
      (subst (λ rows. AreProved mid.ctx (demands_of None rows) []) (sym (print_quiet (setting_of w.site) (t ∷ []) mid.ctx.vars g.follows.r g.follows.is_rule)) AllProved)
      (x.waits.here.remains ∙ ap (λ (m : State). m.notes ++ (carried.operand w.proofs e c).notes) (sym g.follows.more_is))
      (record { on = λ p l. refl; leads = λ st labels state i types ruled label edge next g. g })

  pub store_typed : (array index e : core.Expr) (n : ℕ) → OperandTyped w array → OperandTyped w index → OperandTyped w e → CodeAt w.body p (store_code w.vars array index e)
      → store w.site array index e n st ≡ Ok more
      → Stepped w p s (store_code w.vars array index e) c (demanded w.proofs (carried.operand w.proofs e (carried.operand w.proofs index (carried.operand w.proofs array c)))) more
  unfolding store named instruction_of
  store_typed array index e n a i v at made =
      let f = then_ok (operand w.site array st) _ more made in
      let g = then_ok (operand w.site index f.value.1) _ more f.second in
      let h = then_ok (operand w.site e g.value.1) _ more g.second in
      let types = f.value.0 ∷ g.value.0 ∷ h.value.0 ∷ [] in
      let two = g.value.1 in
      let mid = h.value.1 in
      let ac = operand_at w.vars array 0 in
      let ic = operand_at w.vars index (behind array 0) in
      let deep = behind index (behind array 0) in
      let ec = operand_at w.vars e deep in
      let pa = operand_place w.vars array 0 in
      let pi = operand_place w.vars index (behind array 0) in
      let pe = operand_place w.vars e deep in
      let instr = stored pa pi pe in
      let grouped : ((ac ++ ic) ++ ec) ++ instr ∷ [] ≡ ac ++ (ic ++ (ec ++ instr ∷ [])) =
      append_assoc (ac ++ ic) ec (instr ∷ []) ∙ append_assoc ac ic (ec ++ instr ∷ []) in
      let whole = subst (λ (x : List LowInstr). CodeAt w.body p x) (sym grouped) at in
      let operands_at = code_left w.body p ((ac ++ ic) ++ ec) (instr ∷ []) whole in
      let before = before_effect w (Some n) operation.Store types mid more h.second ahead in
      let x = two_wait w array index a i 0 p s st [] c f.value.0 g.value.0 f.value.1 two here refl (code_left w.body p (ac ++ ic) ec operands_at) f.first g.first
      (before_operand w e two h.value.0 mid h.first before) in
      let c2 = carried.operand w.proofs index (carried.operand w.proofs array c) in
      let c3 = carried.operand w.proofs e c2 in
      let y = v.is deep x.q x.waits.end two x.us c2 h.value.0 mid x.waits.here x.deep (code_right w.body p x.q (ac ++ ic) ec x.waits.there operands_at) h.first before in
      let waits = waits_on w p x.q y.q s (ac ++ ic) ec c c2 c3 st two mid [] x.us y.us x.waits y.waits in
      let k = state_followed w (Some n) operation.Store types mid more h.second in
      let noted = noted_front w isw n operation.Store types c3 mid more k.given waits.here.remains ahead k.follows in
      let edge = demand_edge w.proofs noted.numbers in
      subst (λ (z : List LowInstr). Stepped w p s z c (demanded w.proofs c3) more) grouped
      (subst (λ ns. Stepped w p s (((ac ++ ic) ++ ec) ++ instr ∷ []) c (demanded w.proofs (record { edges = c3.edges; notes = ns })) more) (sym noted.front)
      (effect_typed w isw p y.q s ((ac ++ ic) ++ ec) c c3 st mid y.us waits instr operation.Store (pa ∷ pi ∷ pe ∷ []) types whole (record { is = refl; as_is = refl }) (
        waits_more w.vars x.us y.us two.types mid.types pa f.value.0 y.waits.grows y.waits.types x.first,
        (waits_more w.vars x.us y.us two.types mid.types pi g.value.0 y.waits.grows y.waits.types x.second, (y.place, tt)),
      ) refl
      (Some n) k.given more edge noted.rest k.follows refl noted.proved noted.left
      (record { on = λ p l. refl; leads = λ st labels state i types ruled label edge next g. g })))

  pub value_returned : (e : core.Expr) (n : ℕ) → OperandTyped w e → CodeAt w.body p (return_code w.vars (Some e)) → returning w.site (Some e) n st ≡ Ok more
      → Returned w s (return_code w.vars (Some e)) c (carried_statements.returned w.proofs (Some e) c) more
  unfolding returning
  value_returned e n l at made =
      let f = then_ok (operand w.site e st) _ more made in
      let t = f.value.0 in
      let mid = f.value.1 in
      let code = operand_at w.vars e 0 in
      let place = operand_place w.vars e 0 in
      let x = l.is 0 p s st [] c t mid here refl (code_left w.body p code (returned place ∷ []) at) f.first (before_effect w (Some n) operation.Return (t ∷ []) mid more f.second ahead) in
      return_typed w isw p x.q s code c (carried.operand w.proofs e c) st mid x.us x.waits place t at x.place n more ahead f.second

  pub nothing_returned : (n : ℕ) → CodeAt w.body p (return_code w.vars None) → returning w.site None n st ≡ Ok more
      → Returned w s (return_code w.vars None) c (carried_statements.returned w.proofs None c) more
  unfolding returning named
  nothing_returned n at made =
      let to = temporary w.vars 0 in
      let zero_type = ty.Int zero_form in
      let written = quiet_follows w isw p p s [] c c st st [] [] (nothing_waits w p s st [] c here) (literal to (pos 0)) (operation.Literal (pos 0)) to [] []
      (code_left w.body p (literal to (pos 0) ∷ []) (returned to ∷ []) at) (literal_is w to (pos 0)) tt (λ k u e. absurd (let bad : ⊥ = cc in bad)) [] zero_type st
      (literal_quiet (setting_of w.site) (pos 0)) refl (zero_given w.site st here.few) in
      let waits = put_behind w p s (literal to (pos 0) ∷ []) c (plainly c) st st [] zero_type here written in
      return_typed w isw p (p + 1) s (literal to (pos 0) ∷ []) c (plainly c) st st (zero_type ∷ []) waits to zero_type at (InTemporary 0 refl refl) n more ahead made
