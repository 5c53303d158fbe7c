-- Operands in a list, and the operators of a chain.
use Rattle.std.proofs.Common.{◌≡◌, ◌∙◌, ℕ, suc, ◌+◌, List, [], ◌∷◌, ◌++◌, length, Some, None, Ok, refl, sym, ap, subst, arith, append_assoc, append-nil}
use Rattle.std.specs.Prelude.{pos}
use Rattle.std.proofs.lemmas.List.{length-append}
use Rattle.std.proofs.lemmas.Option.{slice_get_within}
use Rattle.std.specs.List.{AllZip}
use Rattle.operation_rules.specs.Applied.{named}
use Rattle.operation_rules.specs.declared.operation.Operation.TheVariants as operation
use Rattle.state_types.specs.declared.state.StateType.{StateType}
use Rattle.state_types.specs.declared.types.Ty.{Ty}
use Rattle.state_types.specs.declared.types.Ty.TheVariants as ty
use Rattle.xan_lin.specs.Subst.{zero_form}
use Rattle.three_address.specs.declared.instruction.Op22.TheVariants as lop
use Rattle.state_types.proofs.Thens.{then_ok, ok_same}
use Rattle.three_address.specs.declared.instruction.LowInstr.{LowInstr}
use Rattle.value_lowering.specs.Frames.{temporary, operand_place}
use Rattle.value_lowering.specs.OneInstruction.{literal, binary, op_of, called, tuple_made}
use Rattle.value_lowering.specs.ValueCode.{value_code, operand_at, operands_code, operand_places, links_code}
use Rattle.xanadu_tree.specs.declared.expr.Op.{Op}
use Rattle.xanadu_tree.specs.declared.expr.Op.TheVariants as op
use Rattle.xanadu_tree.specs.KindRules.{IsSomeLink}
use Rattle.xanadu_tree.specs.Plain as core
use Rattle.typed_core.specs.Constructs.{setting_of, type_by}
use Rattle.typed_core.specs.Growth.{Continues}
use Rattle.typed_core.specs.Operands.{operand, operands, chained}
use Rattle.typed_core.specs.Operators.{operation_of, demands_at}
use Rattle.typed_core.specs.Places.{behind, is_put, next_to}
use Rattle.typed_core.specs.States.{State}
use Rattle.typed_core.proofs.Continued.{one_more, more_again}
use Rattle.typed_core.proofs.GrownContexts.{Onward}
use Rattle.typed_core.proofs.GrownOperands.{operands_go, chained_goes}
use Rattle.type_carrier.specs.CarriedValues.{Carried, plainly, demanded, demanded_if, divides, value}
use Rattle.type_carrier.specs.CarriedValues as carried
use Rattle.carrier_laws.proofs.ChainsTyped.{CodeAt, code_left, code_right}
use Rattle.carrier_laws.proofs.DemandsProved.{seam}
use Rattle.carrier_laws.proofs.GivenFollowed.{zero_given}
use Rattle.carrier_laws.proofs.InstructionsFound.{literal_is, operator_is, call_is, tuple_is}
use Rattle.carrier_laws.proofs.OperationFacts.{literal_quiet, add_quiet, sub_quiet, mul_quiet, call_named, tuple_named}
use Rattle.carrier_laws.proofs.OperationsTyped.{promised}
use Rattle.carrier_laws.proofs.ValuesPlaced.{Where, InTemporary, Came}
use Rattle.carrier_laws.proofs.OperandsRun.{Walk, IsWalk, Ahead, Here, Runs, Waits, Valued, runs_on, waits_more, fewer_wait}
use Rattle.carrier_laws.proofs.OperandsTyped.{Keeps, ValueTyped, OperandTyped, put_behind}
use Rattle.carrier_laws.proofs.ConstructsTyped.{earlier, before_construct, nothing_waits, waits_on, quiet_construct, quiet_follows, noted_construct}

-- ---- operands in order

pub record ListWaits (w : Walk) (es : core.Exprs) (d p : ℕ) (s : StateType) (st : State) (ts : List Ty) (c : Carried) (made all : List Ty) (more : State) : Type 0 where
  pub us : List Ty
  pub q : ℕ
  pub waits : Waits w p q s (operands_code w.vars es d) c (carried.operands w.proofs es c) st more ts us
  pub found : List Ty
  pub all_is : all ≡ made ++ found
  pub places : AllZip (λ place t. Where w.vars us more.types place t) (operand_places w.vars es d) found

pub record ListTyped (w : Walk) (es : core.Exprs) : Type 0 where
  pub is : (d p : ℕ) (s : StateType) (st : State) (ts : List Ty) (c : Carried) (made all : List Ty) (more : State) → Here w p s st ts c.notes → length ts ≡ d
      → CodeAt w.body p (operands_code w.vars es d) → operands w.site es made st ≡ Ok (all, more) → Ahead w more → ListWaits w es d p s st ts c made all more

module _ (w : Walk) where
  pub no_operands : ListTyped w core.NoExpr
  unfolding operands_code operand_places operand value value_code
  no_operands = record { is = λ d p s st ts c made all more here depth at e ahead. nothing d p s st ts c made all more here e }
    where
      nothing : (d p : ℕ) (s : StateType) (st : State) (ts : List Ty) (c : Carried) (made all : List Ty) (more : State) → Here w p s st ts c.notes
          → operands w.site core.NoExpr made st ≡ Ok (all, more) → ListWaits w core.NoExpr d p s st ts c made all more
      nothing d p s st ts c made all more here e =
          let same = ok_same (made, st) (all, more) e in
          subst (λ (m : State). ListWaits w core.NoExpr d p s st ts c made all m) (ap (λ (r : List Ty × State). r.1) same)
          (record {
            us = ts;
            q = p;
            waits = nothing_waits w p s st ts c here;
            found = [];
            all_is = sym (ap (λ (r : List Ty × State). r.0) same) ∙ sym (append-nil made);
            places = tt;
          })

  before_operands : (es : core.Exprs) (made all : List Ty) (st more : State) → operands w.site es made st ≡ Ok (all, more) → Ahead w more → Ahead w st
  before_operands es made all st more e ahead =
      earlier w st more (promised (λ r. Onward w.site.table st r.1) (operands w.site es made st) (all, more) (operands_go w.site es made st) e).grown.later ahead

  pub more_operands : (e : core.Expr) (es : core.Exprs) → OperandTyped w e → ListTyped w es → ListTyped w (core.AnExpr e es)
  unfolding value_code operand_places operand value
  more_operands e es o l = record { is = λ d p s st ts c made all more here depth at is ahead. both d p s st ts c made all more here depth at is ahead }
    where
      both : (d p : ℕ) (s : StateType) (st : State) (ts : List Ty) (c : Carried) (made all : List Ty) (more : State) → Here w p s st ts c.notes → length ts ≡ d
          → CodeAt w.body p (operands_code w.vars (core.AnExpr e es) d) → operands w.site (core.AnExpr e es) made st ≡ Ok (all, more) → Ahead w more
          → ListWaits w (core.AnExpr e es) d p s st ts c made all more
      both d p s st ts c made all more here depth at is ahead =
          let f = then_ok (operand w.site e st) _ (all, more) is in
          let t = f.value.0 in
          let mid = f.value.1 in
          let one = operand_at w.vars e d in
          let rest = operands_code w.vars es (behind e d) in
          let a = o.is d p s st ts c t mid here depth (code_left w.body p one rest at) f.first (before_operands es (made ++ t ∷ []) all mid more f.second ahead) in
          let b = l.is (behind e d) a.q a.waits.end mid a.us (carried.operand w.proofs e c) (made ++ t ∷ []) all more a.waits.here a.deep
          (code_right w.body p a.q one rest a.waits.there at) f.second ahead in
          record {
            us = b.us;
            q = b.q;
            waits = waits_on w p a.q b.q s one rest c (carried.operand w.proofs e c) (carried.operands w.proofs es (carried.operand w.proofs e c)) st mid more ts a.us b.us a.waits b.waits;
            found = t ∷ b.found;
            all_is = b.all_is ∙ append_assoc made (t ∷ []) b.found;
            places = (waits_more w.vars a.us b.us mid.types more.types (operand_place w.vars e d) t b.waits.grows b.waits.types a.place, b.places);
          }

module _ (w : Walk) (isw : IsWalk w) where
  pub call_typed : (fun : ℕ) (args : core.Exprs) (n : ℕ) → ListTyped w args → ValueTyped w (core.Call fun args n)
  unfolding value_code value operand
  call_typed fun args n l = record { is = λ d to p s st ts c t more here depth at keeps made ahead. by_rule d to p s st ts c t more here depth at keeps made ahead }
    where
      by_rule : (d to p : ℕ) (s : StateType) (st : State) (ts : List Ty) (c : Carried) (t : Ty) (more : State) → Here w p s st ts c.notes → length ts ≡ d
          → CodeAt w.body p (value_code w.vars (core.Call fun args n) d to) → Keeps w.vars ts to → operand w.site (core.Call fun args n) st ≡ Ok (t, more) → Ahead w more
          → Valued w p s (value_code w.vars (core.Call fun args n) d to) c (value w.proofs (core.Call fun args n) c) st more ts to t
      by_rule d to p s st ts c t more here depth at keeps made ahead =
          let f = then_ok (operands w.site args [] st) _ (t, more) made in
          let code = operands_code w.vars args d in
          let places = operand_places w.vars args d in
          let instr = called fun to places in
          let before = before_construct w (Some n) (operation.Call fun) f.value.0 f.value.1 t more f.second ahead in
          let r = l.is d p s st ts c [] f.value.0 f.value.1 here depth (code_left w.body p code (instr ∷ []) at) f.first before in
          noted_construct w isw p r.q s code c (carried.operands w.proofs args c) st f.value.1 ts r.us r.waits instr (operation.Call fun) to places f.value.0 at
          (call_is w to fun places) (subst (λ types. AllZip (λ place v. Where w.vars r.us f.value.1.types place v) places types) (sym r.all_is) r.places) keeps n t more
          (λ q rl is. call_named (setting_of w.site) fun f.value.0 q rl is) ahead f.second

  pub make_typed : (number : ℕ) (args : core.Exprs) (n : ℕ) → ListTyped w args → ValueTyped w (core.Make number args n)
  unfolding value_code value operand
  make_typed number args n l = record { is = λ d to p s st ts c t more here depth at keeps made ahead. by_rule d to p s st ts c t more here depth at keeps made ahead }
    where
      by_rule : (d to p : ℕ) (s : StateType) (st : State) (ts : List Ty) (c : Carried) (t : Ty) (more : State) → Here w p s st ts c.notes → length ts ≡ d
          → CodeAt w.body p (value_code w.vars (core.Make number args n) d to) → Keeps w.vars ts to → operand w.site (core.Make number args n) st ≡ Ok (t, more) → Ahead w more
          → Valued w p s (value_code w.vars (core.Make number args n) d to) c (value w.proofs (core.Make number args n) c) st more ts to t
      by_rule d to p s st ts c t more here depth at keeps made ahead =
          let f = then_ok (operands w.site args [] st) _ (t, more) made in
          let code = operands_code w.vars args d in
          let places = operand_places w.vars args d in
          let instr = tuple_made number to places in
          let before = before_construct w (Some n) (operation.Tuple number) f.value.0 f.value.1 t more f.second ahead in
          let r = l.is d p s st ts c [] f.value.0 f.value.1 here depth (code_left w.body p code (instr ∷ []) at) f.first before in
          noted_construct w isw p r.q s code c (carried.operands w.proofs args c) st f.value.1 ts r.us r.waits instr (operation.Tuple number) to places f.value.0 at
          (tuple_is w to number places) (subst (λ types. AllZip (λ place v. Where w.vars r.us f.value.1.types place v) places types) (sym r.all_is) r.places) keeps n t more
          (λ q rl is. tuple_named (setting_of w.site) number f.value.0 q rl is) ahead f.second

-- ---- the operators of a chain

-- with its left side in a place where it waits
pub record LinksTyped (w : Walk) (links : core.Links) : Type 0 where
  pub is : (next left d to p : ℕ) (s : StateType) (st : State) (ts us : List Ty) (c : Carried) (t u : Ty) (more : State) → Here w p s st us c.notes → Continues ts us
      → length ts ≡ d → length us ≡ next → Where w.vars us st.types left t → CodeAt w.body p (links_code w.vars links next left d to) → Keeps w.vars ts to
      → chained w.site links t st ≡ Ok (u, more) → Ahead w more → IsSomeLink links
      → Valued w p s (links_code w.vars links next left d to) c (carried.links w.proofs links c) st more ts to u

module _ (w : Walk) (isw : IsWalk w) where
  -- one operator, behind its right operand
  operator_typed : (o : Op) (at : ℕ) (p q : ℕ) (s : StateType) (code : List LowInstr) (c d : Carried) (st mid : State) (ts us : List Ty) → Waits w p q s code c d st mid ts us
      → (to left right : ℕ) (t u : Ty) → CodeAt w.body p (code ++ binary (op_of o) to left right ∷ []) → Where w.vars us mid.types left t → Where w.vars us mid.types right u
      → Keeps w.vars ts to → (v : Ty) (more : State) → type_by w.site (demands_at o at) (operation_of o) (t ∷ u ∷ []) mid ≡ Ok (v, more) → Ahead w more
      → Valued w p s (code ++ binary (op_of o) to left right ∷ []) c (demanded_if (divides o) w.proofs d) st more ts to v
  unfolding named
  operator_typed op.Add at p q s code c d st mid ts us waits to left right t u there a b keeps v more made ahead =
      quiet_construct w isw p q s code c d st mid ts us waits (binary (op_of op.Add) to left right) operation.Add to (left ∷ right ∷ []) (t ∷ u ∷ []) there
      (operator_is w to op.Add left right) (a, (b, tt)) keeps v more (add_quiet (setting_of w.site)) refl made
  operator_typed op.Sub at p q s code c d st mid ts us waits to left right t u there a b keeps v more made ahead =
      quiet_construct w isw p q s code c d st mid ts us waits (binary (op_of op.Sub) to left right) operation.Sub to (left ∷ right ∷ []) (t ∷ u ∷ []) there
      (operator_is w to op.Sub left right) (a, (b, tt)) keeps v more (sub_quiet (setting_of w.site)) refl made
  operator_typed op.Mul at p q s code c d st mid ts us waits to left right t u there a b keeps v more made ahead =
      quiet_construct w isw p q s code c d st mid ts us waits (binary (op_of op.Mul) to left right) operation.Mul to (left ∷ right ∷ []) (t ∷ u ∷ []) there
      (operator_is w to op.Mul left right) (a, (b, tt)) keeps v more (mul_quiet (setting_of w.site)) refl made
  operator_typed op.Div at p q s code c d st mid ts us waits to left right t u there a b keeps v more made ahead =
      noted_construct w isw p q s code c d st mid ts us waits (binary (op_of op.Div) to left right) operation.Div to (left ∷ right ∷ []) (t ∷ u ∷ []) there
      (operator_is w to op.Div left right) (a, (b, tt)) keeps at v more (λ f r is. refl) ahead made
  operator_typed op.Mod at p q s code c d st mid ts us waits to left right t u there a b keeps v more made ahead =
      noted_construct w isw p q s code c d st mid ts us waits (binary (op_of op.Mod) to left right) operation.Mod to (left ∷ right ∷ []) (t ∷ u ∷ []) there
      (operator_is w to op.Mod left right) (a, (b, tt)) keeps at v more (λ f r is. refl) ahead made

  -- a value behind the code of others
  value_behind : (p q : ℕ) (s m : StateType) (one two : List LowInstr) (c d e : Carried) (st mid more : State) (ts : List Ty) (to : ℕ) (t : Ty) → q ≡ p + length one
      → Runs w s one c.edges d.edges m → mid.types ≡ st.types → Valued w q m two d e mid more ts to t → Valued w p s (one ++ two) c e st more ts to t
  value_behind p q s m one two c d e st mid more ts to t place runs same v = record {
    end = v.end;
    runs = runs_on w s m v.end one two c.edges d.edges e.edges runs v.runs;
    came = subst (λ n. Came w.body w.vars n v.end more ts to t) (let long = length-append one two in omega (arith, place, long)) v.came;
    left = v.left;
    types = v.types ∙ same;
    few = v.few;
  }

  -- the base of what waits
  at_base : (p q : ℕ) (s : StateType) (code : List LowInstr) (c d : Carried) (st mid : State) (ts us vs : List Ty) → Continues ts us → Waits w p q s code c d st mid us vs
      → Waits w p q s code c d st mid ts vs
  at_base p q s code c d st mid ts us vs grows x = record {
    end = x.end;
    runs = x.runs;
    there = x.there;
    here = x.here;
    types = x.types;
    grows = more_again ts us vs grows x.grows;
  }

  before_links : (links : core.Links) (t : Ty) (st : State) (u : Ty) (more : State) → chained w.site links t st ≡ Ok (u, more) → Ahead w more → Ahead w st
  before_links links t st u more e ahead =
      earlier w st more (promised (λ r. Onward w.site.table st r.1) (chained w.site links t st) (u, more) (chained_goes w.site links t st) e).grown.later ahead

  pub last_link : (o : Op) (e : core.Expr) (n : ℕ) → OperandTyped w e → LinksTyped w (core.ALink o e n core.NoLink)
  unfolding value_code operand value
  last_link o e n l = record {
    is = λ next left d to p s st ts us c t u more here grows depth deep place at keeps made ahead some.
        let f = then_ok (operand w.site e st) _ (u, more) made in
        let g = then_ok (type_by w.site (demands_at o n) (operation_of o) (t ∷ f.value.0 ∷ []) f.value.1) _ (u, more) f.second in
        let same = ok_same g.value (u, more) g.second in
        let made_one = g.first ∙ ap (λ (x : Ty × State). Ok x) same in
        let one = operand_at w.vars e next in
        let right = operand_place w.vars e next in
        let instr = binary (op_of o) to left right in
        let before = before_construct w (demands_at o n) (operation_of o) (t ∷ f.value.0 ∷ []) f.value.1 u more made_one ahead in
        let a = l.is next p s st us c f.value.0 f.value.1 here deep (code_left w.body p one (instr ∷ []) at) f.first before in
        operator_typed o n p a.q s one c (carried.operand w.proofs e c) st f.value.1 ts a.us (at_base p a.q s one c (carried.operand w.proofs e c) st f.value.1 ts us a.us grows a.waits)
        to left right t f.value.0 at (waits_more w.vars us a.us st.types f.value.1.types left t a.waits.grows a.waits.types place) a.place keeps u more made_one ahead;
  }

  -- an operator whose result goes to the temporary of the chain, and those behind it
  pub more_links : (o : Op) (e : core.Expr) (n : ℕ) (o2 : Op) (e2 : core.Expr) (n2 : ℕ) (rest : core.Links) → OperandTyped w e → LinksTyped w (core.ALink o2 e2 n2 rest)
      → LinksTyped w (core.ALink o e n (core.ALink o2 e2 n2 rest))
  unfolding value_code operand value
  more_links o e n o2 e2 n2 rest l others = record {
    is = λ next left d to p s st ts us c t u more here grows depth deep place at keeps made ahead some.
        let links = core.ALink o2 e2 n2 rest in
        let f = then_ok (operand w.site e st) _ (u, more) made in
        let g = then_ok (type_by w.site (demands_at o n) (operation_of o) (t ∷ f.value.0 ∷ []) f.value.1) _ (u, more) f.second in
        let v = g.value.0 in
        let mid = g.value.1 in
        let between = temporary w.vars d in
        let one = operand_at w.vars e next in
        let right = operand_place w.vars e next in
        let instr = binary (op_of o) between left right in
        let later = links_code w.vars links (suc d) between d to in
        let behind_one = carried.operand w.proofs e c in
        let done = demanded_if (divides o) w.proofs behind_one in
        let here_before = before_links links v mid u more g.second ahead in
        let at_all = subst (λ (x : List LowInstr). CodeAt w.body p x) (sym (append_assoc one (instr ∷ []) later)) at in
        let at_one = code_left w.body p (one ++ instr ∷ []) later at_all in
        let a = l.is next p s st us c f.value.0 f.value.1 here deep (code_left w.body p one (instr ∷ []) at_one) f.first
        (before_construct w (demands_at o n) (operation_of o) (t ∷ f.value.0 ∷ []) f.value.1 v mid g.first here_before) in
        let first = operator_typed o n p a.q s one c behind_one st f.value.1 ts a.us (at_base p a.q s one c behind_one st f.value.1 ts us a.us grows a.waits)
        between left right t f.value.0 at_one (waits_more w.vars us a.us st.types f.value.1.types left t a.waits.grows a.waits.types place) a.place
        (λ k x there same. (let lt = slice_get_within ts k x there in omega (arith, lt, depth, same))) v mid g.first here_before in
        let same_place : between ≡ w.vars + length ts = ap (λ m. w.vars + m) (sym depth) in
        let waits = put_behind w p s (one ++ instr ∷ []) c done st mid ts v
        (record { now = here.now; waits = fewer_wait w.vars s ts us grows here.waits; remains = here.remains; within = here.within; few = here.few })
        (subst (λ m. Valued w p s (one ++ instr ∷ []) c done st mid ts m v) same_place first) in
        let second = others.is (suc d) between d to (p + length (one ++ instr ∷ [])) waits.end mid ts (ts ++ v ∷ []) done v u more waits.here (one_more ts v) depth
        (length-append ts (v ∷ []) ∙ omega (arith, depth)) (InTemporary (length ts) same_place (seam ts [] v))
        (code_right w.body p (p + length (one ++ instr ∷ [])) (one ++ instr ∷ []) later refl at_all) keeps g.second ahead tt in
        subst (λ (x : List LowInstr). Valued w p s x c (carried.links w.proofs links done) st more ts to u) (append_assoc one (instr ∷ []) later)
        (value_behind p (p + length (one ++ instr ∷ [])) s waits.end (one ++ instr ∷ []) later c done (carried.links w.proofs links done) st mid more ts to u refl waits.runs waits.types second);
  }

  -- ---- a chain

  next_is : (e : core.Expr) (d : ℕ) → next_to (is_put e) d ≡ behind e d
  next_is (core.Int n) d = refl
  next_is (core.Bool b) d = refl
  next_is (core.Var x) d = refl
  next_is (core.Neg e) d = refl
  next_is (core.Chain first rest) d = refl
  next_is (core.Compare r left right) d = refl
  next_is (core.Index array index at) d = refl
  next_is (core.Len array) d = refl
  next_is (core.Call fun args at) d = refl
  next_is (core.Make number args at) d = refl
  next_is (core.New element len fill at) d = refl

  pub chain_typed : (first : core.Expr) (rest : core.Links) → OperandTyped w first → LinksTyped w rest → IsSomeLink rest → ValueTyped w (core.Chain first rest)
  unfolding value_code operand value
  chain_typed first rest o l some = record {
    is = λ d to p s st ts c u more here depth at keeps made ahead.
        let f = then_ok (operand w.site first st) _ (u, more) made in
        let t = f.value.0 in
        let mid = f.value.1 in
        let one = operand_at w.vars first d in
        let next = next_to (is_put first) d in
        let left = operand_place w.vars first d in
        let later = links_code w.vars rest next left d to in
        let done = carried.operand w.proofs first c in
        let a = o.is d p s st ts c t mid here depth (code_left w.body p one later at) f.first (before_links rest t mid u more f.second ahead) in
        let v = l.is next left d to a.q a.waits.end mid ts a.us done t u more a.waits.here a.waits.grows depth (a.deep ∙ sym (next_is first d)) a.place
        (code_right w.body p a.q one later a.waits.there at) keeps f.second ahead some in
        value_behind p a.q s a.waits.end one later c done (carried.links w.proofs rest done) st mid more ts to u a.waits.there a.waits.runs a.waits.types v;
  }

  -- ---- 0 less a number

  pub neg_typed : (e : core.Expr) → OperandTyped w e → ValueTyped w (core.Neg e)
  unfolding value_code operand value named
  neg_typed e o = record {
    is = λ d to p s st ts c u more here depth at keeps made ahead.
        let zero_at = temporary w.vars d in
        let lit = literal zero_at (pos 0) in
        let zero_type = ty.Int zero_form in
        let one = operand_at w.vars e (suc d) in
        let right = operand_place w.vars e (suc d) in
        let instr = binary lop.Sub to zero_at right in
        let f = then_ok (operand w.site e st) _ (u, more) made in
        let t = f.value.0 in
        let mid = f.value.1 in
        let same_place : zero_at ≡ w.vars + length ts = ap (λ m. w.vars + m) (sym depth) in
        let begun = quiet_follows w isw p p s [] c c st st ts ts (nothing_waits w p s st ts c here) lit (operation.Literal (pos 0)) zero_at [] []
        (code_left w.body p (lit ∷ []) (one ++ instr ∷ []) at) (literal_is w zero_at (pos 0)) tt
        (λ k x there same. (let lt = slice_get_within ts k x there in omega (arith, lt, depth, same))) [] zero_type st
        (literal_quiet (setting_of w.site) (pos 0)) refl (zero_given w.site st here.few) in
        let waits = put_behind w p s (lit ∷ []) c (plainly c) st st ts zero_type here (subst (λ m. Valued w p s (lit ∷ []) c (plainly c) st st ts m zero_type) same_place begun) in
        let us = ts ++ zero_type ∷ [] in
        let at_rest = code_right w.body p (p + 1) (lit ∷ []) (one ++ instr ∷ []) refl at in
        let before = before_construct w None operation.Sub (zero_type ∷ t ∷ []) mid u more f.second ahead in
        let a = o.is (suc d) (p + 1) waits.end st us (plainly c) t mid waits.here (length-append ts (zero_type ∷ []) ∙ omega (arith, depth))
        (code_left w.body (p + 1) one (instr ∷ []) at_rest) f.first before in
        let both = waits_on w p (p + 1) a.q s (lit ∷ []) one c (plainly c) (carried.operand w.proofs e (plainly c)) st st mid ts us a.us waits a.waits in
        quiet_construct w isw p a.q s (lit ∷ one) c (carried.operand w.proofs e (plainly c)) st mid ts a.us both instr operation.Sub to (zero_at ∷ right ∷ []) (zero_type ∷ t ∷ [])
        at (operator_is w to op.Sub zero_at right)
        (waits_more w.vars us a.us st.types mid.types zero_at zero_type a.waits.grows a.waits.types (InTemporary (length ts) same_place (seam ts [] zero_type)), (a.place, tt))
        keeps u more (sub_quiet (setting_of w.site)) refl f.second;
  }
