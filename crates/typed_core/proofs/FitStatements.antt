-- Statements of a core leave each visible variable a type of its kind, or are stopped by a limit.
use Rattle.std.proofs.Common.{◌≡◌, ℕ, List, [], ◌∷◌, ◌++◌, map, length, Bool as Truth, true, false, Option, Some, None, refl, sym, ap, subst, ◌∙◌, inl, inr, arith}
use Rattle.std.specs.Prelude.{◌||◌, slice_get}
use Rattle.std.specs.List.{AllByRecursion, AllZip, range_with_len}
use Rattle.xan_lin.specs.Subst.{zero_form}
use Rattle.state_types.specs.declared.state.StateType.{StateType}
use Rattle.state_types.specs.declared.types.Ty.{Ty}
use Rattle.state_types.specs.declared.types.Ty.TheVariants as ty
use Rattle.operation_rules.specs.Rules.{rule}
use Rattle.operation_rules.specs.declared.operation.Operation.TheVariants.{Untuple, Store, Print, Return}
use Rattle.xanadu_tree.specs.declared.stmt.Clause.{Clause}
use Rattle.xanadu_tree.specs.declared.types.CoreTy.{CoreTy}
use Rattle.xanadu_tree.specs.declared.types.CoreTy.TheVariants as core_ty
use Rattle.xanadu_tree.specs.declared.types.Kind.{Kind}
use Rattle.xanadu_tree.specs.declared.types.Kind.TheVariants as kind
use Rattle.xanadu_tree.specs.declared.types.Packing.{Packing}
use Rattle.xanadu_tree.specs.BodyRules.{Point, behind_block, completes_all, IsTarget, IsSplit, IsReturn, IsStatement, AreStatements}
use Rattle.xanadu_tree.specs.KindRules.{kind_of, IsValue, tuple_type, Setting, IsAmong, HasKind}
use Rattle.xanadu_tree.specs.Plain as core
use Rattle.typed_core.specs.Joins.{changes_any, stated, joined, entered, entered_if}
use Rattle.typed_core.specs.Constructs.{setting_of, types_by, state_by}
use Rattle.typed_core.specs.Operands.{operand}
use Rattle.typed_core.specs.States.{Site, State, point, noting_state, as_tuple, given}
use Rattle.typed_core.specs.Statements.{assigned, all_given, split, store, done, printed, returning, Branches, meeting, after_branches, other_branch, statement, block}
use Rattle.typed_core.specs.Tests.{tested, on_side}
use Rattle.typed_core.proofs.LimitedAnswers.{Anything, Fits, Rules, then_answers, weaker}
use Rattle.typed_core.proofs.TypeKinds.{ty_kind, some_kind, AreOfKinds, tuple_fits}
use Rattle.typed_core.proofs.FitRules.{IsCell, GivesKinds, untuple_rules, store_rules, print_rules, return_rules}
use Rattle.typed_core.proofs.FitConstructs.{types_by_fits, state_by_fits}
use Rattle.typed_core.proofs.KnownTypes.{Knows, AreWithin, knows_same, given_fits, knows_still}
use Rattle.typed_core.proofs.FitOperands.{Suits, operand_fits}
use Rattle.typed_core.proofs.FitTests.{tested_fits}
use Rattle.typed_core.proofs.FitJoins.{IsStatedOf, clause_stated, clause_visible, joined_fits, entered_fits, entered_if_fits}

-- ---- what is visible

among_behind : (xs visible : List ℕ) → AreWithin visible (xs ++ visible)
among_behind [] visible y h = h
among_behind (x ∷ xs) visible y h = inr (among_behind xs visible y h)

among_first : (x y : ℕ) (xs ys : List ℕ) → (IsAmong xs y → IsAmong ys y) → IsAmong (x ∷ xs) y → IsAmong (x ∷ ys) y
among_first x y xs ys f (inl h) = inl h
among_first x y xs ys f (inr h) = inr (f h)

swapped : (x z y : ℕ) (ys : List ℕ) → IsAmong (x ∷ z ∷ ys) y → IsAmong (z ∷ x ∷ ys) y
swapped x z y ys (inl h) = inr (inl h)
swapped x z y ys (inr (inl h)) = inl h
swapped x z y ys (inr (inr h)) = inr (inr h)

to_front : (x : ℕ) (xs visible : List ℕ) → AreWithin (xs ++ (x ∷ visible)) (x ∷ (xs ++ visible))
to_front x [] visible y h = h
to_front x (z ∷ xs) visible y h =
    swapped z x y (xs ++ visible) (among_first z y (xs ++ (x ∷ visible)) (x ∷ (xs ++ visible)) (to_front x xs visible y) h)

from_front : (x : ℕ) (xs visible : List ℕ) → AreWithin (x ∷ (xs ++ visible)) (xs ++ (x ∷ visible))
from_front x [] visible y h = h
from_front x (z ∷ xs) visible y h =
    among_first z y (x ∷ (xs ++ visible)) (xs ++ (x ∷ visible)) (from_front x xs visible y) (swapped x z y (xs ++ visible) h)

same_within : (before after : Point) → after.visible ≡ before.visible → AreWithin before.visible after.visible
same_within before after e y h = subst (λ v. IsAmong v y) (sym e) h

target_within : (before : Point) (x : ℕ) (after : Point) → IsTarget before x after → AreWithin before.visible after.visible
target_within before x after (inl t) = same_within before after (ap (λ p. p.visible) t.1)
target_within before x after (inr t) = λ y h. subst (λ p. IsAmong p.visible y) (sym t.1) (inr h)

mutual
  unfolding AreStatements

  pub statement_within : (set : Setting) (before : Point) (s : core.Stmt) (after : Point) → IsStatement set before s after → AreWithin before.visible after.visible
  statement_within set before (core.Set x e) after is = target_within before x after is.4
  statement_within set before (core.Split xs e at) after is = λ y h.
      subst (λ p. IsAmong p.visible y) (sym is.4.behind) (among_behind (range_with_len before.variables (length is.1.parts)) before.visible y h)
  statement_within set before (core.Store array index e at) after is = same_within before after (ap (λ p. p.visible) is.6)
  statement_within set before (core.Do call) after is = same_within before after (ap (λ p. p.visible) is.3)
  statement_within set before (core.Print number) after is = same_within before after (ap (λ p. p.visible) is.1)
  statement_within set before (core.If test on_true on_false join at) after is =
      same_within before after (clause_visible set (behind_block before is.1) join after is.5)
  statement_within set before (core.While test head body at) after is =
      same_within before after (ap (λ p. p.visible) is.5 ∙ clause_visible set before head is.0 is.3)
  statement_within set before (core.Return value at) after is = same_within before after (ap (λ p. p.visible) is.1)

  pub block_within : (set : Setting) (before : Point) (ss : core.Stmts) (after : Point) → AreStatements set before ss after → AreWithin before.visible after.visible
  block_within set before core.NoStmt after are = same_within before after (ap (λ p. p.visible) are)
  block_within set before (core.AStmt s ss) after are = λ y h. block_within set are.0 ss after are.3 y (statement_within set before s are.0 are.1 y h)

-- ---- variables that are given types

knows_target : (kinds : List Kind) (before : Point) (x : ℕ) (after : Point) (types : List (ℕ × Ty)) → IsTarget before x after → Knows kinds (x ∷ before.visible) types
    → Knows kinds after.visible types
knows_target kinds before x after types (inl t) knows =
    subst (λ p. Knows kinds p.visible types) (sym t.1) (knows_same kinds (x ∷ before.visible) before.visible types up (λ y h. inr h) knows)
  where
    up : AreWithin (x ∷ before.visible) before.visible
    up y (inl h) = subst (IsAmong before.visible) (sym h) t.0
    up y (inr h) = h
knows_target kinds before x after types (inr t) knows =
    subst (λ p. Knows kinds p.visible types) (sym t.1) (subst (λ y. Knows kinds (y ∷ before.visible) types) t.0 knows)

abbrev AreGiven : List Kind → List ℕ → List Ty → Type 0
AreGiven kinds [] [] = Unit {0}
AreGiven kinds [] (t ∷ ts) = ⊥
AreGiven kinds (x ∷ xs) [] = ⊥
AreGiven kinds (x ∷ xs) (t ∷ ts) = (slice_get kinds x ≡ Some (ty_kind t)) × AreGiven kinds xs ts

core_value : (t : CoreTy) → IsValue (kind_of t)
core_value (core_ty.Int form) = tt
core_value core_ty.Bool = tt
core_value (core_ty.Array element form) = tt
core_value (core_ty.Named number) = tt

given_of : (kinds : List Kind) (xs : List ℕ) (parts : List CoreTy) (ts : List Ty) → AllZip (λ x part. slice_get kinds x ≡ Some (kind_of part)) xs parts
    → AreOfKinds (map kind_of parts) ts → AreGiven kinds xs ts
given_of kinds [] [] [] all have = tt
given_of kinds [] [] (t ∷ ts) all have = absurd have
given_of kinds [] (p ∷ ps) ts all have = absurd all
given_of kinds (x ∷ xs) [] ts all have = absurd all
given_of kinds (x ∷ xs) (p ∷ ps) [] all have = absurd have
given_of kinds (x ∷ xs) (p ∷ ps) (t ∷ ts) all have =
    (all.0 ∙ some_kind (have.0 (core_value p)), given_of kinds xs ps ts all.1 have.1)

-- as many variables as parts
split_many : (kinds : List Kind) (xs : List ℕ) (parts : List CoreTy) → AllZip (λ x part. slice_get kinds x ≡ Some (kind_of part)) xs parts → length (map kind_of parts) ≡ length xs
split_many kinds [] [] all = refl
split_many kinds [] (p ∷ ps) all = absurd all
split_many kinds (x ∷ xs) [] all = absurd all
split_many kinds (x ∷ xs) (p ∷ ps) all = (let rest = split_many kinds xs ps all.1 in omega (arith, rest))

all_given_fits : (kinds : List Kind) (visible : List ℕ) (xs : List ℕ) (ts : List Ty) (st : State) → Knows kinds visible st.types → AreGiven kinds xs ts
    → Fits (λ more. Knows kinds (xs ++ visible) more.types) (all_given xs ts st)
unfolding all_given
all_given_fits kinds visible [] [] st knows are = record { is = knows }
all_given_fits kinds visible [] (t ∷ ts) st knows are = absurd are
all_given_fits kinds visible (x ∷ xs) [] st knows are = absurd are
all_given_fits kinds visible (x ∷ xs) (t ∷ ts) st knows are =
    then_answers (given x t st) _ (given_fits kinds visible x t st knows are.0)
    (λ more k. weaker (all_given xs ts more) (λ end l. knows_same kinds (xs ++ (x ∷ visible)) (x ∷ (xs ++ visible)) end.types (to_front x xs visible) (from_front x xs visible) l)
    (all_given_fits kinds (x ∷ visible) xs ts more k are.1))

-- ---- statements without blocks

abbrev pub KnowsAt : Setting → Point → State → Type 0
KnowsAt set point st = Knows set.kinds point.visible st.types

module _ (set : Setting) (site : Site) (suits : Suits set site) (before : Point) where
  assigned_fits : (x : ℕ) (e : core.Expr) (k : Kind) (st : State) (after : Point) → HasKind set before.visible e k → IsValue k → slice_get set.kinds x ≡ Some k
      → IsTarget before x after → KnowsAt set before st → Fits (KnowsAt set after) (assigned site x e st)
  unfolding assigned
  assigned_fits x e k st after h value at target knows =
      then_answers (operand site e st) _ (operand_fits set site suits before.visible e k st h knows)
      (λ r g. weaker (given x r.0 r.1) (λ more l. knows_target set.kinds before x after more.types target l)
      (given_fits set.kinds before.visible x r.0 r.1 g.1 (at ∙ some_kind (g.0 value))))

  split_fits : (xs : List ℕ) (e : core.Expr) (number : ℕ) (packing : Packing) (st : State) (after : Point) → HasKind set before.visible e (kind.Named number)
      → tuple_type set.types number ≡ Some packing → IsSplit set before xs packing.parts after → KnowsAt set before st → Fits (KnowsAt set after) (split site xs e st)
  unfolding split
  split_fits xs e number packing st after h tuple is knows =
      let parts = map kind_of packing.parts in
      then_answers (operand site e st) _ (operand_fits set site suits before.visible e (kind.Named number) st h knows)
      (λ r g. then_answers (as_tuple r.0) _ (tuple_fits number r.0 (g.0 tt))
      (λ n same. then_answers (types_by site None (Untuple n (length xs)) (r.0 ∷ []) r.1) _
      (types_by_fits (Knows set.kinds before.visible) parts site None (Untuple n (length xs)) (r.0 ∷ []) r.1
      (subst (λ m. Rules (GivesKinds parts) (rule (setting_of site) (Untuple m (length xs)) (r.0 ∷ []) r.1.ctx.vars)) same
      (untuple_rules (setting_of site) r.1.ctx.vars number (length xs) parts r.0 (suits.tuples number packing tuple) (split_many set.kinds xs packing.parts is.kinds) (g.0 tt))) g.1)
      (λ o l. weaker (all_given xs o.0 o.1)
      (λ more m. subst (λ p. Knows set.kinds p.visible more.types) (sym is.behind) (subst (λ ys. Knows set.kinds (ys ++ before.visible) more.types) is.next m))
      (all_given_fits set.kinds before.visible xs o.0 o.1 l.1 (given_of set.kinds xs packing.parts o.0 is.kinds l.0)))))

  store_fits : (array index value : core.Expr) (at element : ℕ) (held : Kind) (st : State) → HasKind set before.visible array (kind.Array element)
      → HasKind set before.visible index kind.Int → IsCell site.table element held → HasKind set before.visible value held → KnowsAt set before st
      → Fits (KnowsAt set before) (store site array index value at st)
  unfolding store
  store_fits array index value at element held st a i cell v knows =
      then_answers (operand site array st) _ (operand_fits set site suits before.visible array (kind.Array element) st a knows)
      (λ r g. then_answers (operand site index r.1) _ (operand_fits set site suits before.visible index kind.Int r.1 i g.1)
      (λ s l. then_answers (operand site value s.1) _ (operand_fits set site suits before.visible value held s.1 v l.1)
      (λ t m. state_by_fits (Knows set.kinds before.visible) site (Some at) Store (r.0 ∷ s.0 ∷ t.0 ∷ []) t.1
      (store_rules (setting_of site) t.1.ctx.vars element held r.0 s.0 t.0 cell (g.0 tt) (l.0 tt) m.0) m.1)))

  done_fits : (call : core.Expr) (k : Kind) (st : State) → HasKind set before.visible call k → KnowsAt set before st → Fits (KnowsAt set before) (done site call st)
  unfolding done
  done_fits call k st h knows = then_answers (operand site call st) _ (operand_fits set site suits before.visible call k st h knows) (λ r g. record { is = g.1 })

  printed_fits : (e : core.Expr) (st : State) → HasKind set before.visible e kind.Int → KnowsAt set before st → Fits (KnowsAt set before) (printed site e st)
  unfolding printed
  printed_fits e st h knows =
      then_answers (operand site e st) _ (operand_fits set site suits before.visible e kind.Int st h knows)
      (λ r g. state_by_fits (Knows set.kinds before.visible) site None Print (r.0 ∷ []) r.1 (print_rules (setting_of site) r.1.ctx.vars r.0 (g.0 tt)) g.1)

  returned_fits : (at : ℕ) (t : Ty) (st : State) → ty_kind site.own.result ≡ ty_kind t → KnowsAt set before st
      → Fits (KnowsAt set before) (state_by site (Some at) Return (t ∷ []) st)
  returned_fits at t st same knows =
      state_by_fits (Knows set.kinds before.visible) site (Some at) Return (t ∷ []) st (return_rules (setting_of site) st.ctx.vars t same) knows

  returning_fits : (value : Option core.Expr) (at : ℕ) (st : State) → IsReturn set before.visible value → KnowsAt set before st → Fits (KnowsAt set before) (returning site value at st)
  unfolding returning
  returning_fits None at st h knows = returned_fits at (ty.Int zero_form) st (sym (suits.unit h)) knows
  returning_fits (Some e) at st h knows =
      then_answers (operand site e st) _ (operand_fits set site suits before.visible e set.result st h.1 knows)
      (λ r g. returned_fits at r.0 r.1 (sym (suits.result h.0) ∙ g.0 h.0) g.1)

-- ---- where branches meet

module _ (kinds : List Kind) (visible first second : List ℕ) (in_first : AreWithin visible first) (in_second : AreWithin visible second) where
  meeting_fits : (site : Site) (at : ℕ) (clause : Clause) (changed : ℕ → Truth) (before : StateType) (ends : Branches) (latest : State)
      → AllByRecursion (IsStatedOf kinds visible) clause.vars → Knows kinds visible before.places → Knows kinds first ends.one.places → Knows kinds second ends.two.places
      → Fits (λ more. Knows kinds visible more.types) (meeting site at clause changed before ends latest)
  unfolding meeting
  meeting_fits site at clause changed before ends latest all knows one two =
      then_answers (joined site clause changed before latest) _ (joined_fits kinds visible site clause changed before latest all knows)
      (λ j h. then_answers (entered_if ends.one_completes site at j.0 ends.one j.1) _
      (entered_if_fits kinds visible first in_first (Knows kinds visible) ends.one_completes site at j.0 ends.one j.1 h.0 one h.1)
      (λ more l. entered_if_fits kinds visible second in_second (Knows kinds visible) ends.two_completes site at j.0 ends.two more h.0 two l))

  after_fits : (one_completes two_completes : Truth) (join : Option Clause) (site : Site) (at : ℕ) (changed : ℕ → Truth) (before one : StateType) (two : State)
      → AllByRecursion (IsStatedOf kinds visible) (stated join).vars → Knows kinds visible before.places → Knows kinds first one.places → Knows kinds second two.types
      → Fits (λ more. Knows kinds visible more.types) (after_branches one_completes two_completes join site at changed before one two)
  unfolding after_branches noting_state
  after_fits false false join site at changed before one two all knows k l = record { is = knows }
  after_fits true false None site at changed before one two all knows k l = record { is = knows_still kinds visible first before.places one.places knows k }
  after_fits false true None site at changed before one two all knows k l = record { is = knows_still kinds visible second before.places two.types knows l }
  after_fits a b join site at changed before one two all knows k l =
      meeting_fits site at (stated join) changed before (record { one = one; two = point two; one_completes = a; two_completes = b }) two all knows k l

-- ---- statements and blocks

module _ (set : Setting) (site : Site) (suits : Suits set site) where
  mutual
    unfolding statement AreStatements noting_state

    pub statement_fits : (s : core.Stmt) (before after : Point) (st : State) → IsStatement set before s after → KnowsAt set before st → Fits (KnowsAt set after) (statement site s st)
    statement_fits (core.Set x e) before after st is knows = assigned_fits set site suits before x e is.0 st after is.1 is.2 is.3 is.4 knows
    statement_fits (core.Split xs e at) before after st is knows = split_fits set site suits before xs e is.0 is.1 st after is.2 is.3 is.4 knows
    statement_fits (core.Store array index e at) before after st is knows =
        subst (λ p. Fits (KnowsAt set p) (store site array index e at st)) (sym is.6)
        (store_fits set site suits before array index e at is.0 is.1 st is.2 is.3 (suits.cells is.0 is.1 is.4) is.5 knows)
    statement_fits (core.Do call) before after st is knows =
        subst (λ p. Fits (KnowsAt set p) (done site call st)) (sym is.3) (done_fits set site suits before call is.0 st is.2 knows)
    statement_fits (core.Print e) before after st is knows = subst (λ p. Fits (KnowsAt set p) (printed site e st)) (sym is.1) (printed_fits set site suits before e st is.0 knows)
    statement_fits (core.If test on_true on_false join at) before after st is knows =
        let changed : ℕ → Truth = λ x. changes_any on_true x || changes_any on_false x in
        let visible = before.visible in
        then_answers (tested site test st) _ (tested_fits set site suits visible test st is.2 knows)
        (λ sides g. then_answers (block site on_true (on_side sides.on_true sides.after)) _ (block_fits on_true before is.0 (on_side sides.on_true sides.after) is.3 g)
        (λ one k. then_answers (block site on_false (other_branch sides.on_false st one)) _
        (block_fits on_false (behind_block before is.0) is.1 (other_branch sides.on_false st one) is.4 knows)
        (λ two l. weaker (after_branches (completes_all on_true) (completes_all on_false) join site at changed (point st) (point one) two)
        (λ more m. subst (λ v. Knows set.kinds v more.types) (sym (clause_visible set (behind_block before is.1) join after is.5)) m)
        (after_fits set.kinds visible is.0.visible is.1.visible (block_within set before on_true is.0 is.3) (block_within set (behind_block before is.0) on_false is.1 is.4)
        (completes_all on_true) (completes_all on_false) join site at changed (point st) (point one) two (clause_stated set (behind_block before is.1) join after is.5) knows k l))))
    statement_fits (core.While test head body at) before after st is knows =
        let visible = before.visible in
        let same = clause_visible set before head is.0 is.3 in
        let within : AreWithin visible is.1.visible = subst (λ v. AreWithin v is.1.visible) same (block_within set is.0 body is.1 is.4) in
        then_answers (joined site (stated head) (changes_any body) (point st) st) _
        (joined_fits set.kinds visible site (stated head) (changes_any body) (point st) st (clause_stated set before head is.0 is.3) knows)
        (λ j h. then_answers (entered site at j.0 (point st) j.1) _ (entered_fits set.kinds visible visible (λ y a. a) (Knows set.kinds visible) site at j.0 (point st) j.1 h.0 knows h.1)
        (λ begun g. then_answers (tested site test begun) _ (tested_fits set site suits visible test begun is.2 g)
        (λ sides k. then_answers (block site body (on_side sides.on_true sides.after)) _
        (block_fits body is.0 is.1 (on_side sides.on_true sides.after) is.4 (subst (λ v. Knows set.kinds v sides.after.types) (sym same) k))
        (λ turn l. then_answers (entered_if (completes_all body) site at j.0 (point turn) turn) _
        (entered_if_fits set.kinds visible is.1.visible within Anything (completes_all body) site at j.0 (point turn) turn h.0 l tt)
        (λ back m. record { is = subst (λ v. Knows set.kinds v j.1.types) (sym (ap (λ p. p.visible) is.5 ∙ same)) h.1 })))))
    statement_fits (core.Return value at) before after st is knows =
        subst (λ p. Fits (KnowsAt set p) (returning site value at st)) (sym is.1) (returning_fits set site suits before value at st is.0 knows)

    pub block_fits : (ss : core.Stmts) (before after : Point) (st : State) → AreStatements set before ss after → KnowsAt set before st → Fits (KnowsAt set after) (block site ss st)
    block_fits core.NoStmt before after st are knows = record { is = subst (λ p. KnowsAt set p st) (sym are) knows }
    block_fits (core.AStmt s ss) before after st are knows =
        then_answers (statement site s st) _ (statement_fits s before are.0 st are.1 knows) (λ more k. block_fits ss are.0 after more are.3 k)
