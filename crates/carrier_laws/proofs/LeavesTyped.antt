-- The leaves of tests: a comparison, or a truth value, and the branch behind it.
use Rattle.std.proofs.Common.{◌≡◌, ◌∙◌, ℕ, ◌≤◌, Bool as Truth, true, false, not, List, [], ◌∷◌, ◌++◌, None, Ok, Err, refl, sym, ap, subst, append_assoc}
use Rattle.std.specs.Prelude.{pos}
use Rattle.std.specs.List.{AllZip}
use Rattle.index_sorts.specs.Context.{IndexContext}
use Rattle.xan_lin.specs.Linear.{Linear}
use Rattle.operation_rules.specs.Applied.{named, all_assuming}
use Rattle.operation_rules.specs.Faults.{filled}
use Rattle.operation_rules.specs.Rules.{Setting, rule, gives, two_types, two_numbers, as_number, one_type, as_truth}
use Rattle.operation_rules.specs.Sides.{side}
use Rattle.operation_rules.specs.declared.operation.Operation.{Operation}
use Rattle.operation_rules.specs.declared.operation.Operation.TheVariants.{Branch, BranchTruth}
use Rattle.operation_rules.specs.declared.rule.Rule.{Rule}
use Rattle.operation_rules.proofs.WordsRead.{two_types_is, as_number_is, one_type_is}
use Rattle.state_types.specs.declared.state.StateType.{StateType}
use Rattle.state_types.specs.declared.types.Ty.{Ty}
use Rattle.state_types.specs.declared.types.Ty.TheVariants as ty
use Rattle.state_types.proofs.Thens.{then_ok, ok_same}
use Rattle.three_address.specs.Instructions.{instruction_of}
use Rattle.three_address.specs.declared.instruction.LowInstr.{LowInstr}
use Rattle.three_address.specs.declared.instruction.Op22.TheVariants as op
use Rattle.value_lowering.specs.Frames.{operand_place}
use Rattle.value_lowering.specs.OneInstruction.{Aim, instr, in_order, comparison, that_is, truth_op, truth_branch}
use Rattle.lowering.specs.TestCode.{leaf_code}
use Rattle.value_lowering.specs.ValueCode.{operand_at}
use Rattle.xanadu_tree.specs.KindRules.{HasKind, Setting as KindSetting}
use Rattle.xanadu_tree.specs.declared.expr.Rel.{Rel}
use Rattle.xanadu_tree.specs.declared.expr.Rel.TheVariants as rel
use Rattle.xanadu_tree.specs.declared.types.Kind.TheVariants as kind
use Rattle.xanadu_tree.specs.Plain as core
use Rattle.typed_core.specs.Constructs.{setting_of, followed, types_by, state_by}
use Rattle.typed_core.specs.Limits.{by_rule}
use Rattle.typed_core.specs.Operands.{operand}
use Rattle.typed_core.specs.Operators.{comparison_of}
use Rattle.typed_core.specs.Operators as operators
use Rattle.typed_core.specs.Places.{behind}
use Rattle.typed_core.specs.States.{Site, State}
use Rattle.typed_core.specs.Tests.{Sides, branched, truth_leaf, leaf, on_side}
use Rattle.type_carrier.specs.CarriedValues.{Carried, plainly}
use Rattle.type_carrier.specs.CarriedValues as carried
use Rattle.type_carrier.specs.CarriedTests as carried_tests
use Rattle.carrier_laws.proofs.ChainsTyped.{CodeAt, code_left}
use Rattle.carrier_laws.proofs.ConstructsTyped.{two_wait, earlier}
use Rattle.carrier_laws.proofs.ExpressionsTyped.{operand_typed}
use Rattle.carrier_laws.proofs.GivenFollowed.{given_follow}
use Rattle.carrier_laws.proofs.InstructionsFound.{sides_in_order}
use Rattle.carrier_laws.proofs.OperandsRun.{Walk, IsWalk, Ahead, Here, Waits}
use Rattle.carrier_laws.proofs.OperandsTyped.{OperandTyped}
use Rattle.carrier_laws.proofs.OperationsTyped.{types_followed, promised}
use Rattle.typed_core.proofs.GrownContexts.{Onward, state_by_goes}
use Rattle.carrier_laws.proofs.ValuesPlaced.{Where}
use Rattle.carrier_laws.proofs.FragmentsTyped.{HasLabels}
use Rattle.carrier_laws.proofs.LabelsMet.{Formed}
use Rattle.carrier_laws.proofs.BranchesTyped.{Aims, IsBranch, Branched, branch_typed}

-- the rows on a side
abbrev pub rows_on : Truth → Sides → List Linear
rows_on true sides = sides.on_true
rows_on false sides = sides.on_false

-- ---- rules of branches

record NumbersRuled (types : List Ty) (r : Rule) : Type 0 where
  f : Linear
  g : Linear
  are : types ≡ ty.Int f ∷ ty.Int g ∷ []
  nothing : r ≡ gives [] []

module _ (st : Setting) (types : List Ty) (first : ℕ) (r : Rule) where
  branch_ruled : (c : ℕ) → rule st (Branch c) types first ≡ Ok r → NumbersRuled types r
  unfolding rule two_numbers
  branch_ruled c e =
      let one = then_ok (two_numbers types) _ r e in
      let a = then_ok (two_types types) _ one.value one.first in
      let b = then_ok (as_number a.value.0) _ one.value a.second in
      let d = then_ok (as_number a.value.1) _ one.value b.second in
      record {
        f = b.value;
        g = d.value;
        are = two_types_is types a.value a.first ∙ ap (λ x. x ∷ a.value.1 ∷ []) (as_number_is a.value.0 b.value b.first)
            ∙ ap (λ x. ty.Int b.value ∷ x ∷ []) (as_number_is a.value.1 d.value d.first);
        nothing = sym (ok_same (gives [] []) r one.second);
      }

  record TruthRuled : Type 0 where
    are : types ≡ ty.Bool ∷ []
    nothing : r ≡ gives [] []

  is_truth : (t : Ty) (u : Unit {0}) → as_truth t ≡ Ok u → t ≡ ty.Bool
  is_truth ty.Bool u e = refl
  is_truth (ty.Int f) u e = absurd (let bad : ⊥ = cc in bad)
  is_truth (ty.Array p f) u e = absurd (let bad : ⊥ = cc in bad)
  is_truth (ty.Named p) u e = absurd (let bad : ⊥ = cc in bad)

  truth_ruled : (b : Truth) → rule st (BranchTruth b) types first ≡ Ok r → TruthRuled
  unfolding rule
  truth_ruled b e =
      let one = then_ok (one_type types) _ r e in
      let two = then_ok (as_truth one.value) _ r one.second in
      record {
        are = one_type_is types one.value one.first ∙ ap (λ x. x ∷ []) (is_truth one.value two.value two.first);
        nothing = sym (ok_same (gives [] []) r two.second);
      }

module _ (st : Setting) (first : ℕ) where
  branch_rules : (c : ℕ) (f g : Linear) → rule st (Branch c) (ty.Int f ∷ ty.Int g ∷ []) first ≡ Ok (gives [] [])
  unfolding rule two_numbers
  branch_rules c f g = refl

  truth_rules : (b : Truth) → rule st (BranchTruth b) (ty.Bool ∷ []) first ≡ Ok (gives [] [])
  unfolding rule
  truth_rules b = refl

-- ---- sides

record SideMade (o : Operation) (types : List Ty) (st : State) (sides : Sides) (b : Truth) : Type 0 where
  ctx : IndexContext
  is : all_assuming (side b o types) st.ctx ≡ Ok ctx
  rows : rows_on b sides ≡ ctx.rows

-- the branch changes nothing but what is known on its sides
record SidesMade (site : Site) (o : Operation) (types : List Ty) (st : State) (sides : Sides) : Type 0 where
  r : Rule
  is_rule : rule (setting_of site) o types st.ctx.vars ≡ Ok r
  same : sides.after ≡ st
  on : (b : Truth) → SideMade o types st sides b

filled_ok : {A : Type 0} (m : _) (x : A) → by_rule (filled m) ≡ Ok x → m ≡ Ok x
filled_ok (Ok y) x e = cc
filled_ok (Err f) x e = cc

unchanged : (r : Rule) (ctx more : IndexContext) (given : List Ty) → r ≡ gives [] [] → ctx.vars ≤ 1024 → followed r ctx ≡ Ok (given, more) → more ≡ ctx
unchanged r ctx more given nothing few e =
    ap (λ (x : List Ty × IndexContext). x.1) (ok_same (given, more) ([], ctx) (sym e ∙ ap (λ (q : Rule). followed q ctx) nothing ∙ given_follow [] ctx few))

sides_made : (site : Site) (o : Operation) (types : List Ty) (st : State) (sides : Sides) → st.ctx.vars ≤ 1024
    → ((r : Rule) → rule (setting_of site) o types st.ctx.vars ≡ Ok r → r ≡ gives [] []) → branched site o types st ≡ Ok sides → SidesMade site o types st sides
unfolding branched state_by
sides_made site o types st sides few nothing e =
    let one = then_ok (state_by site None o types st) _ sides e in
    let yes_side = then_ok (by_rule (filled (all_assuming (side true o types) one.value.ctx))) _ sides one.second in
    let no_side = then_ok (by_rule (filled (all_assuming (side false o types) one.value.ctx))) _ sides yes_side.second in
    let made = ok_same (record { on_true = yes_side.value.rows; on_false = no_side.value.rows; after = one.value }) sides no_side.second in
    let all = then_ok (types_by site None o types st) _ one.value one.first in
    let f = types_followed site None o types st all.value.0 all.value.1 all.first in
    let stays : f.ctx ≡ st.ctx = unchanged f.r st.ctx f.ctx all.value.0 (nothing f.r f.is_rule) few f.follows in
    let mid : one.value ≡ st = sym (ok_same all.value.1 one.value all.second) ∙ f.more_is ∙ ap (λ c. record st { ctx = c }) stays in
    let there : one.value.ctx ≡ st.ctx = ap (λ (m : State). m.ctx) mid in
    record {
      r = f.r;
      is_rule = f.is_rule;
      same = ap (λ (x : Sides). x.after) (sym made) ∙ mid;
      on = λ b. elim b as (λ b. SideMade o types st sides b) [
        | true ↦ record {
          ctx = yes_side.value;
          is = subst (λ c. all_assuming (side true o types) c ≡ Ok yes_side.value) there (filled_ok (all_assuming (side true o types) one.value.ctx) yes_side.value yes_side.first);
          rows = ap (λ (x : Sides). x.on_true) (sym made);
        }
        | false ↦ record {
          ctx = no_side.value;
          is = subst (λ c. all_assuming (side false o types) c ≡ Ok no_side.value) there (filled_ok (all_assuming (side false o types) one.value.ctx) no_side.value no_side.first);
          rows = ap (λ (x : Sides). x.on_false) (sym made);
        }
      ];
    }

-- the comparison that holds where this one does not has its sides turned
turned_true : (on : Truth) (r : Rel) (a b : Linear) → side true (Branch (comparison_of (that_is on r))) (operators.in_order (that_is on r) (ty.Int a) (ty.Int b))
    ≡ side on (Branch (comparison_of r)) (operators.in_order r (ty.Int a) (ty.Int b))
turned_true true r a b = refl
turned_true false rel.Lt a b = refl
turned_true false rel.Le a b = refl
turned_true false rel.Gt a b = refl
turned_true false rel.Ge a b = refl
turned_true false rel.Eq a b = refl
turned_true false rel.Ne a b = refl

turned_false : (on : Truth) (r : Rel) (a b : Linear) → side false (Branch (comparison_of (that_is on r))) (operators.in_order (that_is on r) (ty.Int a) (ty.Int b))
    ≡ side (not on) (Branch (comparison_of r)) (operators.in_order r (ty.Int a) (ty.Int b))
turned_false true r a b = refl
turned_false false rel.Lt a b = refl
turned_false false rel.Le a b = refl
turned_false false rel.Gt a b = refl
turned_false false rel.Ge a b = refl
turned_false false rel.Eq a b = refl
turned_false false rel.Ne a b = refl

record BothNumbers (t u : Ty) : Type 0 where
  a : Linear
  b : Linear
  first : t ≡ ty.Int a
  second : u ≡ ty.Int b

both_numbers : (r : Rel) (t u : Ty) (f g : Linear) → operators.in_order r t u ≡ ty.Int f ∷ ty.Int g ∷ [] → BothNumbers t u
both_numbers rel.Lt t u f g e = record { a = f; b = g; first = cc; second = cc }
both_numbers rel.Le t u f g e = record { a = f; b = g; first = cc; second = cc }
both_numbers rel.Gt t u f g e = record { a = g; b = f; first = cc; second = cc }
both_numbers rel.Ge t u f g e = record { a = g; b = f; first = cc; second = cc }
both_numbers rel.Eq t u f g e = record { a = f; b = g; first = cc; second = cc }
both_numbers rel.Ne t u f g e = record { a = f; b = g; first = cc; second = cc }

rule_in_order : (st : Setting) (first c : ℕ) (r : Rel) (a b : Linear) → rule st (Branch c) (operators.in_order r (ty.Int a) (ty.Int b)) first ≡ Ok (gives [] [])
rule_in_order st first c rel.Lt a b = branch_rules st first c a b
rule_in_order st first c rel.Le a b = branch_rules st first c a b
rule_in_order st first c rel.Gt a b = branch_rules st first c b a
rule_in_order st first c rel.Ge a b = branch_rules st first c b a
rule_in_order st first c rel.Eq a b = branch_rules st first c a b
rule_in_order st first c rel.Ne a b = branch_rules st first c a b

-- ---- instructions

module _ (w : Walk) (to : ℕ) where
  compare_branch : (r : Rel) (left right : ℕ) → IsBranch w (instr op.Br (in_order r left right) (comparison r) to) (Branch (comparison_of r)) (in_order r left right) to
  unfolding instruction_of
  compare_branch rel.Lt left right = record { is = refl; places = refl; target = refl; branches = record { both = λ p l. refl; leads = λ st labels state i types ruled label edge next g. g } }
  compare_branch rel.Le left right = record { is = refl; places = refl; target = refl; branches = record { both = λ p l. refl; leads = λ st labels state i types ruled label edge next g. g } }
  compare_branch rel.Gt left right = record { is = refl; places = refl; target = refl; branches = record { both = λ p l. refl; leads = λ st labels state i types ruled label edge next g. g } }
  compare_branch rel.Ge left right = record { is = refl; places = refl; target = refl; branches = record { both = λ p l. refl; leads = λ st labels state i types ruled label edge next g. g } }
  compare_branch rel.Eq left right = record { is = refl; places = refl; target = refl; branches = record { both = λ p l. refl; leads = λ st labels state i types ruled label edge next g. g } }
  compare_branch rel.Ne left right = record { is = refl; places = refl; target = refl; branches = record { both = λ p l. refl; leads = λ st labels state i types ruled label edge next g. g } }

  truth_branch_is : (on : Truth) (place : ℕ) → IsBranch w (instr (truth_op on) (place ∷ []) (pos 0) to) (BranchTruth on) (place ∷ []) to
  unfolding instruction_of
  truth_branch_is true place = record { is = refl; places = refl; target = refl; branches = record { both = λ p l. refl; leads = λ st labels state i types ruled label edge next g. g } }
  truth_branch_is false place = record { is = refl; places = refl; target = refl; branches = record { both = λ p l. refl; leads = λ st labels state i types ruled label edge next g. g } }

-- both sides of the instruction's comparison are those of the source's
record TurnedSides (st : Setting) (first : ℕ) (on : Truth) (r : Rel) (t u : Ty) : Type 0 where
  takes : side true (Branch (comparison_of (that_is on r))) (operators.in_order (that_is on r) t u) ≡ side on (Branch (comparison_of r)) (operators.in_order r t u)
  leaves : side false (Branch (comparison_of (that_is on r))) (operators.in_order (that_is on r) t u) ≡ side (not on) (Branch (comparison_of r)) (operators.in_order r t u)
  rules : rule st (Branch (comparison_of (that_is on r))) (operators.in_order (that_is on r) t u) first ≡ Ok (gives [] [])

turned_sides : (st : Setting) (first : ℕ) (on : Truth) (r : Rel) (t u : Ty) → BothNumbers t u → TurnedSides st first on r t u
turned_sides st first on r t u n =
    subst (λ x. TurnedSides st first on r x u) (sym n.first) (subst (λ y. TurnedSides st first on r (ty.Int n.a) y) (sym n.second)
    (record { takes = turned_true on r n.a n.b; leaves = turned_false on r n.a n.b; rules = rule_in_order st first (comparison_of (that_is on r)) (that_is on r) n.a n.b }))

truth_side : (b on : Truth) (types : List Ty) → side b (BranchTruth on) types ≡ []
truth_side true on types = refl
truth_side false on types = refl

-- ---- leaves

ahead_before : (w : Walk) (o : Operation) (types : List Ty) (st : State) (sides : Sides) → branched w.site o types st ≡ Ok sides → Ahead w sides.after → Ahead w st
unfolding branched
ahead_before w o types st sides e ahead =
    let one = then_ok (state_by w.site None o types st) _ sides e in
    let yes_side = then_ok (by_rule (filled (all_assuming (side true o types) one.value.ctx))) _ sides one.second in
    let no_side = then_ok (by_rule (filled (all_assuming (side false o types) one.value.ctx))) _ sides yes_side.second in
    let made = ok_same (record { on_true = yes_side.value.rows; on_false = no_side.value.rows; after = one.value }) sides no_side.second in
    let after = subst (λ (m : State). Ahead w m) (sym (ap (λ (x : Sides). x.after) made)) ahead in
    earlier w st one.value (promised (λ m. Onward w.site.table st m) (state_by w.site None o types st) one.value (state_by_goes w.site None o types st) one.first).grown.later after

module _ (w : Walk) (isw : IsWalk w) (columns : List (List Truth)) (has : HasLabels w columns) (aim : Aim) (p : ℕ) (s : StateType) (c : Carried) (st : State) (sides : Sides)
    (here : Here w p s st [] c.notes) (ahead : Ahead w sides.after) (aims : Aims w columns aim.to (rows_on aim.on sides) st.types)
    (formed : Formed sides.after.ctx.vars (rows_on aim.on sides) sides.after.types) where
  -- by the instruction, whose sides are those of the source
  by_branch : (q : ℕ) (code : List LowInstr) (d : Carried) (mid : State) (us : List Ty) (waits : Waits w p q s code c d st mid [] us) (i : LowInstr) (o p_o : Operation) (reads : List ℕ)
      (types p_types : List Ty) → SidesMade w.site o types mid sides → CodeAt w.body p (code ++ i ∷ []) → IsBranch w i p_o reads aim.to
      → AllZip (λ place t. Where w.vars us mid.types place t) reads p_types → named (setting_of w.site) p_o ≡ Ok tt
      → rule (setting_of w.site) p_o p_types mid.ctx.vars ≡ Ok (gives [] []) → side true p_o p_types ≡ side aim.on o types → side false p_o p_types ≡ side (not aim.on) o types
      → Branched w p s (code ++ i ∷ []) c (plainly d) (on_side (rows_on (not aim.on) sides) sides.after)
  by_branch q code d mid us waits i o p_o reads types p_types made at is located names rules takes leaves =
      let on = made.on aim.on in
      let off = made.on (not aim.on) in
      let same : on_side off.ctx.rows mid ≡ on_side (rows_on (not aim.on) sides) sides.after =
      ap (λ rows. on_side rows mid) (sym off.rows) ∙ ap (λ (m : State). on_side (rows_on (not aim.on) sides) m) (sym made.same) in
      subst (λ (m : State). Branched w p s (code ++ i ∷ []) c (plainly d) m) same
      (branch_typed w isw columns has p q s code c d st mid us waits i p_o reads p_types aim.to at is located names rules on.ctx off.ctx
      (ap (λ rows. all_assuming rows mid.ctx) takes ∙ on.is) (ap (λ rows. all_assuming rows mid.ctx) leaves ∙ off.is)
      (subst (λ rows. Aims w columns aim.to rows mid.types) on.rows (subst (λ es. Aims w columns aim.to (rows_on aim.on sides) es) (sym waits.types) aims))
      (subst (λ rows. Formed mid.ctx.vars rows mid.types) on.rows (subst (λ (m : State). Formed m.ctx.vars (rows_on aim.on sides) m.types) made.same formed)))

  compare_goes : (r : Rel) (left right : core.Expr) → OperandTyped w left → OperandTyped w right → CodeAt w.body p (leaf_code w.vars aim (core.Compare r left right))
      → leaf w.site (core.Compare r left right) st ≡ Ok sides
      → Branched w p s (leaf_code w.vars aim (core.Compare r left right)) c (carried_tests.leaf w.proofs (core.Compare r left right) c) (on_side (rows_on (not aim.on) sides) sides.after)
  unfolding leaf named
  compare_goes r left right l k at e =
      let f = then_ok (operand w.site left st) _ sides e in
      let g = then_ok (operand w.site right f.value.1) _ sides f.second in
      let t = f.value.0 in
      let u = g.value.0 in
      let mid = g.value.1 in
      let lc = operand_at w.vars left 0 in
      let rc = operand_at w.vars right (behind left 0) in
      let pl = operand_place w.vars left 0 in
      let pr = operand_place w.vars right (behind left 0) in
      let r2 = that_is aim.on r in
      let i = instr op.Br (in_order r2 pl pr) (comparison r2) aim.to in
      let whole = subst (λ (x : List LowInstr). CodeAt w.body p x) (sym (append_assoc lc rc (i ∷ []))) at in
      let x = two_wait w left right l k 0 p s st [] c t u f.value.1 mid here refl (code_left w.body p (lc ++ rc) (i ∷ []) whole) f.first g.first
      (ahead_before w (Branch (comparison_of r)) (operators.in_order r t u) mid sides g.second ahead) in
      let made = sides_made w.site (Branch (comparison_of r)) (operators.in_order r t u) mid sides x.waits.here.few (λ q is. (branch_ruled (setting_of w.site) (operators.in_order r t u) mid.ctx.vars q (comparison_of r) is).nothing) g.second in
      let n = branch_ruled (setting_of w.site) (operators.in_order r t u) mid.ctx.vars made.r (comparison_of r) made.is_rule in
      let turned = turned_sides (setting_of w.site) mid.ctx.vars aim.on r t u (both_numbers r t u n.f n.g n.are) in
      subst (λ (x : List LowInstr). Branched w p s x c (carried_tests.leaf w.proofs (core.Compare r left right) c) (on_side (rows_on (not aim.on) sides) sides.after)) (append_assoc lc rc (i ∷ []))
      (by_branch x.q (lc ++ rc) (carried.operand w.proofs right (carried.operand w.proofs left c)) mid x.us x.waits i (Branch (comparison_of r)) (Branch (comparison_of r2)) (in_order r2 pl pr)
      (operators.in_order r t u) (operators.in_order r2 t u) made whole (compare_branch w aim.to r2 pl pr)
      (sides_in_order (λ place v. Where w.vars x.us mid.types place v) r2 pl pr t u x.first x.second) refl turned.rules turned.takes turned.leaves)

  truth_goes : (e : core.Expr) → OperandTyped w e → CodeAt w.body p (operand_at w.vars e 0 ++ truth_branch aim (operand_place w.vars e 0) ∷ [])
      → truth_leaf w.site e st ≡ Ok sides
      → Branched w p s (operand_at w.vars e 0 ++ truth_branch aim (operand_place w.vars e 0) ∷ []) c (plainly (carried.operand w.proofs e c)) (on_side (rows_on (not aim.on) sides) sides.after)
  unfolding truth_leaf named
  truth_goes e l at made_is =
      let f = then_ok (operand w.site e st) _ sides made_is in
      let t = f.value.0 in
      let mid = f.value.1 in
      let code = operand_at w.vars e 0 in
      let place = operand_place w.vars e 0 in
      let i = instr (truth_op aim.on) (place ∷ []) (pos 0) aim.to in
      let x = l.is 0 p s st [] c t mid here refl (code_left w.body p code (i ∷ []) at) f.first (ahead_before w (BranchTruth true) (t ∷ []) mid sides f.second ahead) in
      let made = sides_made w.site (BranchTruth true) (t ∷ []) mid sides x.waits.here.few (λ q is. (truth_ruled (setting_of w.site) (t ∷ []) mid.ctx.vars q true is).nothing) f.second in
      let n = truth_ruled (setting_of w.site) (t ∷ []) mid.ctx.vars made.r true made.is_rule in
      by_branch x.q code (carried.operand w.proofs e c) mid x.us x.waits i (BranchTruth true) (BranchTruth aim.on) (place ∷ []) (t ∷ []) (t ∷ []) made at
      (truth_branch_is w aim.to aim.on place) (x.place, tt) refl
      (ap (λ ts. rule (setting_of w.site) (BranchTruth aim.on) ts mid.ctx.vars) n.are ∙ truth_rules (setting_of w.site) mid.ctx.vars aim.on)
      (truth_side true aim.on (t ∷ []) ∙ sym (truth_side aim.on true (t ∷ []))) (truth_side false aim.on (t ∷ []) ∙ sym (truth_side (not aim.on) true (t ∷ [])))

  module _ (set : KindSetting) (visible : List ℕ) where
    pub leaf_goes : (e : core.Expr) → HasKind set visible e kind.Bool → CodeAt w.body p (leaf_code w.vars aim e) → leaf w.site e st ≡ Ok sides
        → Branched w p s (leaf_code w.vars aim e) c (carried_tests.leaf w.proofs e c) (on_side (rows_on (not aim.on) sides) sides.after)
    unfolding leaf HasKind
    leaf_goes (core.Compare r left right) h at e =
        compare_goes r left right (operand_typed w isw set visible left kind.Int h.1) (operand_typed w isw set visible right kind.Int h.2) at e
    leaf_goes (core.Int n) h at e = truth_goes (core.Int n) (operand_typed w isw set visible (core.Int n) kind.Bool h) at e
    leaf_goes (core.Bool b) h at e = truth_goes (core.Bool b) (operand_typed w isw set visible (core.Bool b) kind.Bool h) at e
    leaf_goes (core.Var x) h at e = truth_goes (core.Var x) (operand_typed w isw set visible (core.Var x) kind.Bool h) at e
    leaf_goes (core.Neg a) h at e = truth_goes (core.Neg a) (operand_typed w isw set visible (core.Neg a) kind.Bool h) at e
    leaf_goes (core.Chain first rest) h at e = truth_goes (core.Chain first rest) (operand_typed w isw set visible (core.Chain first rest) kind.Bool h) at e
    leaf_goes (core.Index array index n) h at e = truth_goes (core.Index array index n) (operand_typed w isw set visible (core.Index array index n) kind.Bool h) at e
    leaf_goes (core.Len array) h at e = truth_goes (core.Len array) (operand_typed w isw set visible (core.Len array) kind.Bool h) at e
    leaf_goes (core.Call fun args n) h at e = truth_goes (core.Call fun args n) (operand_typed w isw set visible (core.Call fun args n) kind.Bool h) at e
    leaf_goes (core.Make number args n) h at e = truth_goes (core.Make number args n) (operand_typed w isw set visible (core.Make number args n) kind.Bool h) at e
    leaf_goes (core.New element len fill n) h at e = truth_goes (core.New element len fill n) (operand_typed w isw set visible (core.New element len fill n) kind.Bool h) at e
