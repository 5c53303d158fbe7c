-- The code of expressions is typed.
use Rattle.std.proofs.Common.{◌≡◌, ◌∙◌, ℕ, List, [], ◌∷◌, ◌++◌, length, Option, Some, None, Ok, refl, sym, ap, subst, append_assoc}
use Rattle.operation_rules.specs.Applied.{named}
use Rattle.operation_rules.specs.Rules.{Setting}
use Rattle.operation_rules.specs.declared.operation.Operation.TheVariants as operation
use Rattle.state_types.specs.PlaceTypes.{type_at}
use Rattle.state_types.specs.declared.state.StateType.{StateType}
use Rattle.state_types.specs.declared.types.Ty.{Ty}
use Rattle.state_types.proofs.Thens.{then_ok, ok_same}
use Rattle.three_address.specs.declared.instruction.LowInstr.{LowInstr}
use Rattle.three_address.specs.declared.instruction.Op22.TheVariants as op
use Rattle.value_lowering.specs.Frames.{operand_place}
use Rattle.value_lowering.specs.OneInstruction.{literal, truth, unary, binary, op_of, called, tuple_made, array_made, compared}
use Rattle.value_lowering.specs.OneInstruction as one
use Rattle.value_lowering.specs.ValueCode.{value_code, operand_at}
use Rattle.xanadu_tree.specs.KindRules.{HasKind, HaveKinds, AreNumbers, IsSomeLink, Setting as KindSetting}
use Rattle.xanadu_tree.specs.declared.types.Kind.TheVariants as kind
use Rattle.xanadu_tree.specs.Plain as core
use Rattle.typed_core.specs.Constructs.{setting_of}
use Rattle.typed_core.specs.Operands.{operand}
use Rattle.typed_core.specs.Operators.{comparison_of, in_order}
use Rattle.typed_core.specs.Places.{behind}
use Rattle.typed_core.specs.States.{State, there}
use Rattle.type_carrier.specs.CarriedValues.{Carried, plainly, demanded, value}
use Rattle.type_carrier.specs.CarriedValues as carried
use Rattle.carrier_laws.proofs.ChainsTyped.{CodeAt, code_left}
use Rattle.carrier_laws.proofs.GivenFollowed.{moved}
use Rattle.carrier_laws.proofs.InstructionsFound.{literal_is, truth_is, move_is, length_is, load_is, compare_is, array_is, sides_in_order}
use Rattle.carrier_laws.proofs.OperationFacts.{literal_quiet, truth_quiet, move_quiet, compare_quiet, length_quiet, array_named}
use Rattle.carrier_laws.proofs.ValuesPlaced.{Where, InVariable}
use Rattle.carrier_laws.proofs.OperandsRun.{Walk, IsWalk, Ahead, Here, Valued}
use Rattle.carrier_laws.proofs.OperandsTyped.{Keeps, ValueTyped, OperandTyped, as_operand}
use Rattle.carrier_laws.proofs.OperandLists.{ListTyped, LinksTyped, no_operands, more_operands, call_typed, make_typed, last_link, more_links, chain_typed, neg_typed}
use Rattle.carrier_laws.proofs.ConstructsTyped.{before_construct, nothing_waits, quiet_construct, noted_construct, quiet_follows, TwoWait, two_wait}

module _ (w : Walk) (isw : IsWalk w) where
  abbrev the_setting : Setting
  the_setting = setting_of w.site

  -- ---- without operands

  literal_typed : (n : _) → ValueTyped w (core.Int n)
  unfolding value_code value operand named
  literal_typed n = record { is = λ d to p s st ts c t more here depth at keeps made ahead. by_rule d to p s st ts c t more here at keeps made }
    where
      by_rule : (d to p : ℕ) (s : StateType) (st : State) (ts : List Ty) (c : Carried) (t : Ty) (more : State) → Here w p s st ts c.notes
          → CodeAt w.body p (value_code w.vars (core.Int n) d to) → Keeps w.vars ts to → operand w.site (core.Int n) st ≡ Ok (t, more)
          → Valued w p s (value_code w.vars (core.Int n) d to) c (value w.proofs (core.Int n) c) st more ts to t
      by_rule d to p s st ts c t more here at keeps made =
          quiet_construct w isw p p s [] c c st st ts ts (nothing_waits w p s st ts c here) (literal to n) (operation.Literal n) to [] [] at (literal_is w to n) tt keeps
          t more (literal_quiet the_setting n) refl made

  truth_typed : (b : _) → ValueTyped w (core.Bool b)
  unfolding value_code value operand named
  truth_typed b = record { is = λ d to p s st ts c t more here depth at keeps made ahead. by_rule d to p s st ts c t more here at keeps made }
    where
      by_rule : (d to p : ℕ) (s : StateType) (st : State) (ts : List Ty) (c : Carried) (t : Ty) (more : State) → Here w p s st ts c.notes
          → CodeAt w.body p (value_code w.vars (core.Bool b) d to) → Keeps w.vars ts to → operand w.site (core.Bool b) st ≡ Ok (t, more)
          → Valued w p s (value_code w.vars (core.Bool b) d to) c (value w.proofs (core.Bool b) c) st more ts to t
      by_rule d to p s st ts c t more here at keeps made =
          quiet_construct w isw p p s [] c c st st ts ts (nothing_waits w p s st ts c here) (truth to b) (operation.Truth b) to [] [] at (truth_is w to b) tt keeps
          t more (truth_quiet the_setting b) refl made

  variable_typed : (x : ℕ) → ValueTyped w (core.Var x)
  unfolding value_code value operand named
  variable_typed x = record { is = λ d to p s st ts c t more here depth at keeps made ahead. by_rule d to p s st ts c t more here at keeps made }
    where
      there_is : (o : Option Ty) (u : Ty) → there o ≡ Ok u → o ≡ Some u
      there_is (Some v) u e = cc
      there_is None u e = cc

      by_rule : (d to p : ℕ) (s : StateType) (st : State) (ts : List Ty) (c : Carried) (t : Ty) (more : State) → Here w p s st ts c.notes
          → CodeAt w.body p (value_code w.vars (core.Var x) d to) → Keeps w.vars ts to → operand w.site (core.Var x) st ≡ Ok (t, more)
          → Valued w p s (value_code w.vars (core.Var x) d to) c (value w.proofs (core.Var x) c) st more ts to t
      by_rule d to p s st ts c t more here at keeps made =
          let found = then_ok (there (type_at x st.types)) _ (t, more) made in
          let same = ok_same (found.value, st) (t, more) found.second in
          let is = there_is (type_at x st.types) found.value found.first ∙ ap (λ (r : Ty × State). Some r.0) same in
          subst (λ (m : State). Valued w p s (value_code w.vars (core.Var x) d to) c (value w.proofs (core.Var x) c) st m ts to t) (ap (λ (r : Ty × State). r.1) same)
          (quiet_follows w isw p p s [] c c st st ts ts (nothing_waits w p s st ts c here) (unary op.Mv to x) operation.Move to (x ∷ []) (t ∷ []) at (move_is w to x)
          (InVariable is, tt) keeps [] t st (move_quiet the_setting) refl (moved w.site st here.few t))

  -- ---- with one operand, and two

  length_typed : (array : core.Expr) → OperandTyped w array → ValueTyped w (core.Len array)
  unfolding value_code value operand named
  length_typed array a = record { is = λ d to p s st ts c t more here depth at keeps made ahead. by_rule d to p s st ts c t more here depth at keeps made ahead }
    where
      by_rule : (d to p : ℕ) (s : StateType) (st : State) (ts : List Ty) (c : Carried) (t : Ty) (more : State) → Here w p s st ts c.notes → length ts ≡ d
          → CodeAt w.body p (value_code w.vars (core.Len array) d to) → Keeps w.vars ts to → operand w.site (core.Len array) st ≡ Ok (t, more) → Ahead w more
          → Valued w p s (value_code w.vars (core.Len array) d to) c (value w.proofs (core.Len array) c) st more ts to t
      by_rule d to p s st ts c t more here depth at keeps made ahead =
          let f = then_ok (operand w.site array st) _ (t, more) made in
          let code = operand_at w.vars array d in
          let place = operand_place w.vars array d in
          let instr = unary op.Len to place in
          let before = before_construct w None operation.Length (f.value.0 ∷ []) f.value.1 t more f.second ahead in
          let r = a.is d p s st ts c f.value.0 f.value.1 here depth (code_left w.body p code (instr ∷ []) at) f.first before in
          quiet_construct w isw p r.q s code c (carried.operand w.proofs array c) st f.value.1 ts r.us r.waits instr operation.Length to (place ∷ []) (f.value.0 ∷ [])
          at (length_is w to place) (r.place, tt) keeps t more (length_quiet the_setting) refl f.second

  -- code of two operands, and an instruction
  module _ (left right : core.Expr) (l : OperandTyped w left) (r : OperandTyped w right) (d p : ℕ) (s : StateType) (st : State) (ts : List Ty) (c : Carried)
      (here : Here w p s st ts c.notes) (depth : length ts ≡ d) (t u : Ty) (one two : State) (first : operand w.site left st ≡ Ok (t, one))
      (second : operand w.site right one ≡ Ok (u, two)) where
    abbrev lc : List LowInstr
    lc = operand_at w.vars left d

    abbrev rc : List LowInstr
    rc = operand_at w.vars right (behind left d)

    both : (instr : LowInstr) → CodeAt w.body p (lc ++ (rc ++ instr ∷ [])) → CodeAt w.body p ((lc ++ rc) ++ instr ∷ [])
    both instr at = subst (λ (x : List LowInstr). CodeAt w.body p x) (sym (append_assoc lc rc (instr ∷ []))) at

    waiting : (instr : LowInstr) → CodeAt w.body p (lc ++ (rc ++ instr ∷ [])) → Ahead w two → TwoWait w left right d p s st ts c t u two
    waiting instr at ahead = two_wait w left right l r d p s st ts c t u one two here depth (code_left w.body p (lc ++ rc) (instr ∷ []) (both instr at)) first second ahead

    grouped : (instr : LowInstr) (e : Carried) (more : State) (to : ℕ) (v : Ty) → Valued w p s ((lc ++ rc) ++ instr ∷ []) c e st more ts to v
        → Valued w p s (lc ++ (rc ++ instr ∷ [])) c e st more ts to v
    grouped instr e more to v done = subst (λ (x : List LowInstr). Valued w p s x c e st more ts to v) (append_assoc lc rc (instr ∷ [])) done

  compare_typed : (r : _) (left right : core.Expr) → OperandTyped w left → OperandTyped w right → ValueTyped w (core.Compare r left right)
  unfolding value_code value operand named
  compare_typed r left right l k = record { is = λ d to p s st ts c t more here depth at keeps made ahead. by_rule d to p s st ts c t more here depth at keeps made ahead }
    where
      by_rule : (d to p : ℕ) (s : StateType) (st : State) (ts : List Ty) (c : Carried) (t : Ty) (more : State) → Here w p s st ts c.notes → length ts ≡ d
          → CodeAt w.body p (value_code w.vars (core.Compare r left right) d to) → Keeps w.vars ts to → operand w.site (core.Compare r left right) st ≡ Ok (t, more) → Ahead w more
          → Valued w p s (value_code w.vars (core.Compare r left right) d to) c (value w.proofs (core.Compare r left right) c) st more ts to t
      by_rule d to p s st ts c t more here depth at keeps made ahead =
          let f = then_ok (operand w.site left st) _ (t, more) made in
          let g = then_ok (operand w.site right f.value.1) _ (t, more) f.second in
          let pl = operand_place w.vars left d in
          let pr = operand_place w.vars right (behind left d) in
          let instr = compared r to pl pr in
          let before = before_construct w None (operation.Compare (comparison_of r)) (in_order r f.value.0 g.value.0) g.value.1 t more g.second ahead in
          let x = waiting left right l k d p s st ts c here depth f.value.0 g.value.0 f.value.1 g.value.1 f.first g.first instr at before in
          grouped left right l k d p s st ts c here depth f.value.0 g.value.0 f.value.1 g.value.1 f.first g.first instr _ more to t
          (quiet_construct w isw p x.q s (operand_at w.vars left d ++ operand_at w.vars right (behind left d)) c (carried.operand w.proofs right (carried.operand w.proofs left c))
          st g.value.1 ts x.us x.waits instr (operation.Compare (comparison_of r)) to (one.in_order r pl pr) (in_order r f.value.0 g.value.0)
          (both left right l k d p s st ts c here depth f.value.0 g.value.0 f.value.1 g.value.1 f.first g.first instr at) (compare_is w to r pl pr)
          (sides_in_order (λ place v. Where w.vars x.us g.value.1.types place v) r pl pr f.value.0 g.value.0 x.first x.second) keeps
          t more (compare_quiet the_setting (comparison_of r)) refl g.second)

  index_typed : (array index : core.Expr) (n : ℕ) → OperandTyped w array → OperandTyped w index → ValueTyped w (core.Index array index n)
  unfolding value_code value operand named
  index_typed array index n l k = record { is = λ d to p s st ts c t more here depth at keeps made ahead. by_rule d to p s st ts c t more here depth at keeps made ahead }
    where
      by_rule : (d to p : ℕ) (s : StateType) (st : State) (ts : List Ty) (c : Carried) (t : Ty) (more : State) → Here w p s st ts c.notes → length ts ≡ d
          → CodeAt w.body p (value_code w.vars (core.Index array index n) d to) → Keeps w.vars ts to → operand w.site (core.Index array index n) st ≡ Ok (t, more) → Ahead w more
          → Valued w p s (value_code w.vars (core.Index array index n) d to) c (value w.proofs (core.Index array index n) c) st more ts to t
      by_rule d to p s st ts c t more here depth at keeps made ahead =
          let f = then_ok (operand w.site array st) _ (t, more) made in
          let g = then_ok (operand w.site index f.value.1) _ (t, more) f.second in
          let pl = operand_place w.vars array d in
          let pr = operand_place w.vars index (behind array d) in
          let instr = binary op.Ld to pl pr in
          let before = before_construct w (Some n) operation.Load (f.value.0 ∷ g.value.0 ∷ []) g.value.1 t more g.second ahead in
          let x = waiting array index l k d p s st ts c here depth f.value.0 g.value.0 f.value.1 g.value.1 f.first g.first instr at before in
          grouped array index l k d p s st ts c here depth f.value.0 g.value.0 f.value.1 g.value.1 f.first g.first instr _ more to t
          (noted_construct w isw p x.q s (operand_at w.vars array d ++ operand_at w.vars index (behind array d)) c (carried.operand w.proofs index (carried.operand w.proofs array c))
          st g.value.1 ts x.us x.waits instr operation.Load to (pl ∷ pr ∷ []) (f.value.0 ∷ g.value.0 ∷ [])
          (both array index l k d p s st ts c here depth f.value.0 g.value.0 f.value.1 g.value.1 f.first g.first instr at) (load_is w to pl pr)
          (x.first, (x.second, tt)) keeps n t more (λ q rl is. refl) ahead g.second)

  array_typed : (element : ℕ) (len fill : core.Expr) (n : ℕ) → OperandTyped w len → OperandTyped w fill → ValueTyped w (core.New element len fill n)
  unfolding value_code value operand
  array_typed element len fill n l k = record { is = λ d to p s st ts c t more here depth at keeps made ahead. by_rule d to p s st ts c t more here depth at keeps made ahead }
    where
      by_rule : (d to p : ℕ) (s : StateType) (st : State) (ts : List Ty) (c : Carried) (t : Ty) (more : State) → Here w p s st ts c.notes → length ts ≡ d
          → CodeAt w.body p (value_code w.vars (core.New element len fill n) d to) → Keeps w.vars ts to → operand w.site (core.New element len fill n) st ≡ Ok (t, more) → Ahead w more
          → Valued w p s (value_code w.vars (core.New element len fill n) d to) c (value w.proofs (core.New element len fill n) c) st more ts to t
      by_rule d to p s st ts c t more here depth at keeps made ahead =
          let f = then_ok (operand w.site len st) _ (t, more) made in
          let g = then_ok (operand w.site fill f.value.1) _ (t, more) f.second in
          let pl = operand_place w.vars len d in
          let pr = operand_place w.vars fill (behind len d) in
          let instr = array_made element to pl pr in
          let before = before_construct w (Some n) (operation.New element) (f.value.0 ∷ g.value.0 ∷ []) g.value.1 t more g.second ahead in
          let x = waiting len fill l k d p s st ts c here depth f.value.0 g.value.0 f.value.1 g.value.1 f.first g.first instr at before in
          grouped len fill l k d p s st ts c here depth f.value.0 g.value.0 f.value.1 g.value.1 f.first g.first instr _ more to t
          (noted_construct w isw p x.q s (operand_at w.vars len d ++ operand_at w.vars fill (behind len d)) c (carried.operand w.proofs fill (carried.operand w.proofs len c))
          st g.value.1 ts x.us x.waits instr (operation.New element) to (pl ∷ pr ∷ []) (f.value.0 ∷ g.value.0 ∷ [])
          (both len fill l k d p s st ts c here depth f.value.0 g.value.0 f.value.1 g.value.1 f.first g.first instr at) (array_is w to element pl pr)
          (x.first, (x.second, tt)) keeps n t more (λ q rl is. array_named the_setting element (f.value.0 ∷ g.value.0 ∷ []) q rl is) ahead g.second)

  -- ---- all of them

  module _ (set : KindSetting) (visible : List ℕ) where
    mutual
      unfolding HasKind

      pub value_typed : (e : core.Expr) (k : _) → HasKind set visible e k → ValueTyped w e
      value_typed (core.Int n) k h = literal_typed n
      value_typed (core.Bool b) k h = truth_typed b
      value_typed (core.Var x) k h = variable_typed x
      value_typed (core.Neg e) k h = neg_typed w isw e (as_operand w e (value_typed e kind.Int h.1))
      value_typed (core.Chain first rest) k h =
          chain_typed w isw first rest (as_operand w first (value_typed first kind.Int h.1)) (links_typed rest h.3 h.2) h.2
      value_typed (core.Compare r left right) k h =
          compare_typed r left right (as_operand w left (value_typed left kind.Int h.1)) (as_operand w right (value_typed right kind.Int h.2))
      value_typed (core.Index array index at) k h =
          index_typed array index at (as_operand w array (value_typed array (kind.Array h.0) h.1)) (as_operand w index (value_typed index kind.Int h.2))
      value_typed (core.Len array) k h = length_typed array (as_operand w array (value_typed array (kind.Array h.0) h.2))
      value_typed (core.Call fun args at) k h = call_typed w isw fun args at (list_typed args h.0.params h.2)
      value_typed (core.Make number args at) k h = make_typed w isw number args at (list_typed args _ h.2)
      value_typed (core.New element len fill at) k h =
          array_typed element len fill at (as_operand w len (value_typed len kind.Int h.2)) (as_operand w fill (value_typed fill h.0 h.4))

      pub list_typed : (es : core.Exprs) (ks : _) → HaveKinds set visible es ks → ListTyped w es
      list_typed core.NoExpr ks h = no_operands w
      list_typed (core.AnExpr e es) [] h = absurd h
      list_typed (core.AnExpr e es) (k ∷ ks) h = more_operands w e es (as_operand w e (value_typed e k h.0)) (list_typed es ks h.1)

      pub links_typed : (links : core.Links) → AreNumbers set visible links → IsSomeLink links → LinksTyped w links
      links_typed core.NoLink h some = absurd some
      links_typed (core.ALink o e at core.NoLink) h some = last_link w isw o e at (as_operand w e (value_typed e kind.Int h.0))
      links_typed (core.ALink o e at (core.ALink o2 e2 at2 rest)) h some =
          more_links w isw o e at o2 e2 at2 rest (as_operand w e (value_typed e kind.Int h.0)) (links_typed (core.ALink o2 e2 at2 rest) h.1 tt)

    pub operand_typed : (e : core.Expr) (k : _) → HasKind set visible e k → OperandTyped w e
    operand_typed e k h = as_operand w e (value_typed e k h)
