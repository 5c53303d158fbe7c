-- Statements without blocks are typed, each as what is asked of statements.
use Rattle.std.proofs.Common.{◌≡◌, ◌∙◌, ℕ, ◌<◌, Bool as Truth, true, false, List, [], ◌∷◌, ◌++◌, length, Option, Some, None, Ok, refl, sym, subst, arith, append-nil}
use Rattle.std.specs.List.{All}
use Rattle.std.proofs.lemmas.Option.{slice_get_within}
use Rattle.operation_rules.specs.declared.operation.Operation.TheVariants as operation
use Rattle.state_types.specs.declared.state.StateType.{StateType}
use Rattle.state_types.specs.declared.types.Ty.{Ty}
use Rattle.state_types.specs.declared.types.Ty.TheVariants as ty
use Rattle.state_types.proofs.Thens.{then_ok, ok_same}
use Rattle.three_address.specs.Instructions.{AreDifferent}
use Rattle.three_address.specs.declared.instruction.LowInstr.{LowInstr}
use Rattle.value_lowering.specs.Frames.{Frame, temporary, tuple_number, operand_place}
use Rattle.value_lowering.specs.OneInstruction.{parted, printed}
use Rattle.lowering.specs.StatementCode.{statement_code, statement_labels, store_code, return_code}
use Rattle.value_lowering.specs.ValueCode.{value_code, operand_at}
use Rattle.xanadu_tree.specs.BodyRules.{Point, IsStatement}
use Rattle.xanadu_tree.specs.declared.types.Kind.TheVariants as kind
use Rattle.xanadu_tree.specs.KindRules.{Setting, HasKind}
use Rattle.xanadu_tree.specs.Plain as core
use Rattle.typed_core.specs.Constructs.{types_by}
use Rattle.typed_core.specs.Operands.{operand}
use Rattle.typed_core.specs.States.{State, as_tuple}
use Rattle.typed_core.specs.Statements as elaborated
use Rattle.typed_core.specs.Statements.{split, all_given}
use Rattle.typed_core.proofs.FitOperands.{operand_fits}
use Rattle.typed_core.proofs.GrownContexts.{types_by_goes}
use Rattle.typed_core.proofs.NamedStates.{answered}
use Rattle.typed_core.proofs.TypeKinds.{ty_kind}
use Rattle.type_carrier.specs.CarriedStatements as carried
use Rattle.type_carrier.specs.CarriedTests.{Labelled}
use Rattle.type_carrier.specs.CarriedValues as values
use Rattle.type_carrier.specs.CarriedValues.{Carried, plainly}
use Rattle.carrier_laws.proofs.AssignmentsTyped.{Stepped, set_typed, done_typed}
use Rattle.carrier_laws.proofs.ChainsTyped.{CodeAt, code_left}
use Rattle.carrier_laws.proofs.ConstructsTyped.{earlier}
use Rattle.carrier_laws.proofs.ExpressionsTyped.{value_typed, operand_typed}
use Rattle.carrier_laws.proofs.OperandsRun.{Walk, IsWalk, Ahead}
use Rattle.carrier_laws.proofs.OperationsTyped.{types_followed}
use Rattle.carrier_laws.proofs.BlocksAsked.{StatementTyped}
use Rattle.carrier_laws.proofs.FragmentsTyped.{Begins, Typed}
use Rattle.carrier_laws.proofs.PlacesKept.{Grounds}
use Rattle.carrier_laws.proofs.SimpleTyped.{Returned, print_typed, store_typed, value_returned, nothing_returned}
use Rattle.carrier_laws.proofs.SplitsTyped.{all_given_are, range_differs, kinds_within, parts_typed}

module _ (w : Walk) (columns : List (List Truth)) (p : ℕ) (t : StateType) (code : List LowInstr) (l : Labelled) (more : State) (coming : List ℕ) (st : State) (begins : Begins w p t st l ([] ++ coming)) where
  -- one that goes on
  stepped : (d : Carried) → Stepped w p t code l.now d more → Typed true w columns p t code [] l (record l { now = d }) more coming
  stepped d s = record {
    ends = record {
      end = s.end;
      passes = record { runs = s.runs; made = []; made_is = sym (append-nil l.states); labels = tt };
      here = s.here;
    };
    left = s.here.remains;
    labels = begins.labels;
  }

  -- one that does not
  ended : (d : Carried) → Returned w t code l.now d more → Typed false w columns p t code [] l (record l { now = d }) more coming
  ended d r = record {
    ends = λ end. record { runs = r.runs end; made = []; made_is = sym (append-nil l.states); labels = tt };
    left = r.left;
    labels = begins.labels;
  }

module _ (w : Walk) (isw : IsWalk w) (columns : List (List Truth)) (set : Setting) (g : Grounds set w.site) (frame : Frame) (vars_are : w.vars ≡ length frame.kinds)
    (kinds_are : length set.kinds ≡ w.vars) where
  -- code over the variables of the function
  over : (before after : Point) (s : core.Stmt) (p : ℕ) (t : StateType) (st : State) (l : Labelled) (coming : List ℕ) (more : State) (code : ℕ → List LowInstr) (x : Truth) (positions : List ℕ) (k : Labelled)
      → CodeAt w.body p (code (length frame.kinds)) → (CodeAt w.body p (code w.vars) → Typed x w columns p t (code w.vars) positions l k more coming)
      → Typed x w columns p t (code (length frame.kinds)) positions l k more coming
  over before after s p t st l coming more code x positions k at go =
      subst (λ n. Typed x w columns p t (code n) positions l k more coming) vars_are (go (subst (λ n. CodeAt w.body p (code n)) (sym vars_are) at))

  pub set_typed_so : (x : ℕ) (e : core.Expr) → StatementTyped w columns frame set (core.Set x e)
  unfolding IsStatement statement_code statement_labels carried.statement elaborated.statement
  set_typed_so x e = record {
    is = λ before after p t st l coming more is here begins at made ahead.
        over before after (core.Set x e) p t st l coming more (λ n. value_code n e 0 x) true [] _ at
        (λ at. stepped w columns p t (value_code w.vars e 0 x) l more coming st begins _
        (set_typed w x (let h = slice_get_within set.kinds x is.0 is.3 in omega (arith, h, kinds_are)) e (value_typed w isw set before.visible e is.0 is.1) p t st more l.now begins.here at made ahead.ahead));
  }

  pub store_typed_so : (array index e : core.Expr) (n : ℕ) → StatementTyped w columns frame set (core.Store array index e n)
  unfolding IsStatement statement_code statement_labels carried.statement elaborated.statement
  store_typed_so array index e n = record {
    is = λ before after p t st l coming more is here begins at made ahead.
        over before after (core.Store array index e n) p t st l coming more (λ v. store_code v array index e) true [] _ at
        (λ at. stepped w columns p t (store_code w.vars array index e) l more coming st begins _
        (store_typed w isw p t st l.now begins.here more ahead.ahead array index e n (operand_typed w isw set before.visible array (kind.Array is.0) is.2)
        (operand_typed w isw set before.visible index kind.Int is.3) (operand_typed w isw set before.visible e is.1 is.5) at made));
  }

  pub done_typed_so : (call : core.Expr) → StatementTyped w columns frame set (core.Do call)
  unfolding IsStatement statement_code statement_labels carried.statement elaborated.statement
  done_typed_so call = record {
    is = λ before after p t st l coming more is here begins at made ahead.
        over before after (core.Do call) p t st l coming more (λ v. value_code v call 0 (temporary v 0)) true [] _ at
        (λ at. stepped w columns p t (value_code w.vars call 0 (temporary w.vars 0)) l more coming st begins _
        (done_typed w call (value_typed w isw set before.visible call is.0 is.2) p t st more l.now begins.here at made ahead.ahead));
  }

  pub print_typed_so : (e : core.Expr) → StatementTyped w columns frame set (core.Print e)
  unfolding IsStatement statement_code statement_labels carried.statement elaborated.statement
  print_typed_so e = record {
    is = λ before after p t st l coming more is here begins at made ahead.
        over before after (core.Print e) p t st l coming more (λ v. operand_at v e 0 ++ printed (operand_place v e 0) ∷ []) true [] _ at
        (λ at. stepped w columns p t (operand_at w.vars e 0 ++ printed (operand_place w.vars e 0) ∷ []) l more coming st begins _
        (print_typed w isw p t st l.now begins.here more ahead.ahead e (operand_typed w isw set before.visible e kind.Int is.0) at made));
  }

  pub return_typed_so : (value : Option core.Expr) (n : ℕ) → StatementTyped w columns frame set (core.Return value n)
  unfolding IsStatement statement_code statement_labels carried.statement elaborated.statement
  return_typed_so None n = record {
    is = λ before after p t st l coming more is here begins at made ahead.
        over before after (core.Return None n) p t st l coming more (λ v. return_code v None) false [] _ at
        (λ at. ended w columns p t (return_code w.vars None) l more coming st begins _ (nothing_returned w isw p t st l.now begins.here more ahead.ahead n at made));
  }
  return_typed_so (Some e) n = record {
    is = λ before after p t st l coming more is here begins at made ahead.
        over before after (core.Return (Some e) n) p t st l coming more (λ v. return_code v (Some e)) false [] _ at
        (λ at. ended w columns p t (return_code w.vars (Some e)) l more coming st begins _
        (value_returned w isw p t st l.now begins.here more ahead.ahead e n (operand_typed w isw set before.visible e set.result is.0.1) at made));
  }

  -- the type of a tuple, by its kind
  named_by : (number : ℕ) (t : Ty) (found : ℕ) → kind.Named number ≡ ty_kind t → as_tuple t ≡ Ok found → number ≡ found
  named_by number (ty.Int e) found k e2 = absurd (let bad : ⊥ = cc in bad)
  named_by number ty.Bool found k e2 = absurd (let bad : ⊥ = cc in bad)
  named_by number (ty.Array p e) found k e2 = absurd (let bad : ⊥ = cc in bad)
  named_by number (ty.Named m) found k e2 = same number m k ∙ ok_same m found e2
    where
      same : (a b : ℕ) → kind.Named a ≡ kind.Named b → a ≡ b
      same a b e = cc

  module _ (tuples : (visible : List ℕ) (e : core.Expr) (number : ℕ) → HasKind set visible e (kind.Named number) → tuple_number frame e ≡ number) where
    pub split_typed_so : (xs : List ℕ) (e : core.Expr) (n : ℕ) → StatementTyped w columns frame set (core.Split xs e n)
    unfolding IsStatement statement_code statement_labels carried.statement elaborated.statement split
    split_typed_so xs e n = record {
      is = λ before after p t st l coming more is here begins at made ahead.
          over before after (core.Split xs e n) p t st l coming more (λ v. operand_at v e 0 ++ parted (tuple_number frame e) (operand_place v e 0) xs ∷ []) true [] _ at
          (λ at. (let a = then_ok (operand w.site e st) _ more made in
          let number = then_ok (as_tuple a.value.0) _ more a.second in
          let types = a.value.0 ∷ [] in
          let mid = a.value.1 in
          let b = then_ok (types_by w.site None (operation.Untuple number.value (length xs)) types mid) _ more number.second in
          let given = all_given_are xs b.value.0 b.value.1 more b.second in
          let f = types_followed w.site None (operation.Untuple number.value (length xs)) types mid b.value.0 b.value.1 b.first in
          let onward = answered (types_by w.site None (operation.Untuple number.value (length xs)) types mid) b.value (types_by_goes w.site None (operation.Untuple number.value (length xs)) types mid) b.first in
          let behind = subst (λ (m : State). Ahead w m) given.is ahead.ahead in
          let ahead_mid = earlier w mid b.value.1 onward.grown.later (record { goals = behind.goals; notes = behind.notes }) in
          let kinds = (answered (operand w.site e st) a.value (operand_fits set w.site g.suits before.visible e (kind.Named is.0) st is.2 here.at.knows) a.first).0 tt in
          let same = tuples before.visible e is.0 is.2 ∙ named_by is.0 a.value.0 number.value kinds number.first in
          let code = operand_at w.vars e 0 in
          let from = operand_place w.vars e 0 in
          let at_code = subst (λ m. CodeAt w.body p (code ++ parted m from xs ∷ [])) same at in
          let x = (operand_typed w isw set before.visible e (kind.Named is.0) is.2).is 0 p t st [] l.now a.value.0 mid begins.here refl (code_left w.body p code (parted number.value from xs ∷ []) at_code) a.first ahead_mid in
          let differ = subst AreDifferent (sym is.4.next) (range_differs before.variables _) in
          let few = subst (λ m. All (λ x. x < m) xs) kinds_are (kinds_within set.kinds xs is.1.parts is.4.kinds) in
          let done = parts_typed w isw p x.q t code l.now (values.operand w.proofs e l.now) st mid x.us x.waits number.value from xs a.value.0 at_code x.place differ few b.value.0 b.value.1 more f given in
          subst (λ m. Typed true w columns p t (code ++ parted m from xs ∷ []) [] l (record l { now = plainly (values.operand w.proofs e l.now) }) more coming) (sym same)
          (stepped w columns p t (code ++ parted number.value from xs ∷ []) l more coming st begins (plainly (values.operand w.proofs e l.now)) done)));
    }
