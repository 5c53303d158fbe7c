-- The state types of an accepted program name only their own variables, which are few, and those of the function's signature are among them.
use Rattle.std.proofs.Common.{◌≡◌, ◌∙◌, ℕ, ◌+◌, ◌≤◌, cond, List, [], ◌∷◌, get_or, map, nat_lt, Bool as Test, true, false, Option, Some, None, Result, Ok, Err, refl, sym, ap, subst, arith}
use Rattle.std.specs.Prelude.{◌&&◌, nat_le}
use Rattle.std.specs.List.{All, AllZip}
use Rattle.std.proofs.lemmas.Bool.{leb-true, and_parts}
use Rattle.std.proofs.lemmas.Bool.Decides.{nat_tests}
use Rattle.std.proofs.lemmas.List.Elements.{All-nil, All-cons, All-head, All-tail, All-append}
use Rattle.index_sorts.specs.Context.{IndexContext, new_context, fresh_from, with_variables}
use Rattle.index_sorts.specs.declared.error.ContextError.{ContextError}
use Rattle.index_sorts.specs.declared.error.ContextError.TheVariants as context_error
use Rattle.xan_lin.specs.Linear.{Linear, NamesBelow}
use Rattle.proof_lines.specs.declared.line.Line.{Line}
use Rattle.state_types.specs.Sound.{NamesOwn}
use Rattle.state_types.specs.Tables.{IsClosed}
use Rattle.state_types.specs.Types.{TypeBelow}
use Rattle.state_types.specs.declared.closed.Packed.{Packed}
use Rattle.state_types.specs.declared.closed.Signature.{Signature}
use Rattle.state_types.specs.declared.state.StateType.{StateType}
use Rattle.state_types.specs.declared.types.Ty.{Ty}
use Rattle.state_types.proofs.FormNames.{below-more}
use Rattle.state_types.proofs.Thens.{then_ok, ok_same}
use Rattle.operation_rules.specs.Applied.{Ruled, widened, all_assuming, all_given, all_there, applied, named, ruled}
use Rattle.operation_rules.specs.Faults.{needed, filled}
use Rattle.operation_rules.specs.Named.{IsNamed, IsTypeNamed}
use Rattle.operation_rules.specs.Rules.{Setting, rule as rule_for}
use Rattle.operation_rules.specs.Sides.{side}
use Rattle.operation_rules.specs.Sound.{IsHeader}
use Rattle.operation_rules.specs.declared.operation.Operation.{Operation}
use Rattle.operation_rules.specs.declared.operation.Operation.TheVariants.{Literal, Truth, Move, Add, Sub, Mul, Div, Mod, Compare, Branch, BranchTruth, Jump, Call, Return, Length, Load, Store, New, Tuple, Untuple, Print}
use Rattle.operation_rules.specs.declared.rule.Rule.{Rule}
use Rattle.operation_rules.proofs.RuleFacts.{parts_of, filled_ok}
use Rattle.operation_rules.proofs.RuleNames.{rule_names, sides_named}
use Rattle.operation_rules.proofs.RowsNamed.{rows_named as assumed_named}
use Rattle.dtal_code.specs.Acceptance.{IsLabel, CodeStands, CodeEnds, CodeGoesOn, BlocksStand, BlocksEnd, BlocksGoOn}
use Rattle.dtal_code.specs.Declarations.{types_exist, rows_are_below, types_are_below, typed_types, are_few, stated, numbered, state_of, state_with, first_state, state_verdict, label_verdict}
use Rattle.dtal_code.specs.Instructions.{Instruction, instruction_in}
use Rattle.dtal_code.specs.Passing.{asks_lines, are_different, label_at, side_verdict, with_types, read_types, ruled_verdict, goes_on_verdict, gives_back_verdict, edge_verdict, goes_to_verdict, verdict_by, instr_verdict}
use Rattle.dtal_code.specs.Verdicts.{asks, by_rule, found}
use Rattle.dtal_code.specs.declared.instruction.Instr.{Instr}
use Rattle.dtal_code.specs.declared.program.Block.{Block}
use Rattle.dtal_code.specs.declared.program.LabelState.{LabelState}
use Rattle.dtal_code.specs.declared.refusal.Rule as rules
use Rattle.dtal_code.specs.declared.refusal.Rule.TheVariants as rule
use Rattle.dtal_code.proofs.NamedDeclarations.{asked, rows_named, entries_named, numbered_named}
use Rattle.dtal_code.proofs.TypesBelow.{ruled_ok, there_below, all_written, types_more, given_below, all_assumed}

pub record IsProper (own : ℕ) (state : StateType) : Type 0 where
  pub own_vars : own ≤ state.ctx.vars
  pub few : state.ctx.vars ≤ 1024
  pub names : NamesOwn state

-- ---- what functions and labels begin with

new_vars : (many : Test) (vars : ℕ) (ctx : IndexContext) → nat_lt 1024 vars ≡ many
    → cond many (let r : Result IndexContext ContextError = Err context_error.Variables in r) (Ok (record { vars = vars; rows = [] })) ≡ Ok ctx
    → (ctx.vars ≡ vars) × (ctx.rows ≡ []) × (ctx.vars ≤ 1024)
new_vars true vars ctx is e = absurd (let bad : ⊥ = cc in bad)
new_vars false vars ctx is e =
    let same = ok_same _ ctx e in
    let le : vars ≤ 1024 = few vars is in
    (ap (λ z. z.vars) (sym same), ap (λ z. z.rows) (sym same), subst (λ (z : IndexContext). z.vars ≤ 1024) same le)
  where
    few : (n : ℕ) → nat_lt 1024 n ≡ false → n ≤ 1024
    few n e = grind (arith, nat_tests)

rows_ok : (n : ℕ) (rows : List Linear) → All (NamesBelow n) rows → All (IsNamed n) (map Ok rows)
rows_ok n [] all = All-nil (IsNamed n)
rows_ok n (row ∷ rows) all = All-cons (IsNamed n) (Ok row) (map Ok rows) (All-head (NamesBelow n) row rows all) (rows_ok n rows (All-tail (NamesBelow n) row rows all))

pub record IsStated (vars : ℕ) (ctx : IndexContext) : Type 0 where
  pub is : ctx.vars ≡ vars
  pub few : ctx.vars ≤ 1024
  pub named : All (NamesBelow vars) ctx.rows

pub stated_named : (vars : ℕ) (rows : List Linear) (ctx : IndexContext) → stated vars rows ≡ Ok ctx → All (NamesBelow vars) rows → IsStated vars ctx
unfolding stated
stated_named vars rows ctx e all =
    let s = then_ok (new_context vars) _ ctx e in
    let new = new_vars (nat_lt 1024 vars) vars s.value refl s.first in
    let none = subst (λ (rs : List Linear). All (NamesBelow vars) rs) (sym new.1) (All-nil (NamesBelow vars)) in
    let grown = all_assumed (NamesBelow vars) (IsNamed vars) (λ row h. h) (map Ok rows) s.value ctx s.second none (rows_ok vars rows all) in
    record { is = grown.vars ∙ new.0; few = subst (λ k. k ≤ 1024) (sym grown.vars) new.2; named = grown.rows }

state_named : (own vars : ℕ) (rows : List Linear) (places : List (ℕ × Ty)) (state : StateType) → own ≤ vars → All (NamesBelow vars) rows
    → All (λ e. TypeBelow vars e.1) places → state_with vars rows places ≡ Ok state → IsProper own state
unfolding state_with
state_named own vars rows places state le all below e =
    let s = then_ok (by_rule (filled (stated vars rows))) _ state e in
    let ctx = s.value in
    let is = stated_named vars rows ctx (filled_ok (stated vars rows) ctx (ruled_ok (filled (stated vars rows)) ctx s.first)) all in
    subst (λ x. IsProper own x) (ok_same (state_of ctx places) state s.second) (record {
      own_vars = subst (λ k. own ≤ k) (sym is.is) le;
      few = is.few;
      names = record { rows = subst (λ k. All (NamesBelow k) ctx.rows) (sym is.is) is.named; places = subst (λ k. All (λ (e : ℕ × Ty). TypeBelow k e.1) places) (sym is.is) below };
    })

pub first_proper : (sig : Signature) (state : StateType) → IsHeader sig → first_state sig ≡ Ok state → IsProper sig.vars state
first_proper sig state header e =
    state_named sig.vars sig.vars sig.rows (numbered 0 sig.params) state (omega arith) header.rows (numbered_named sig.vars 0 sig.params header.params) e

written_proper : (table : List Packed) (sig : Signature) (written : LabelState) (state : StateType) → state_verdict table sig written ≡ Ok state → IsProper sig.vars state
unfolding state_verdict
written_proper table sig written state e =
    let one = then_ok (asks (types_exist table (typed_types written.places)) rule.NoType) _ state e in
    let two = then_ok (asks (nat_le sig.vars written.vars) rule.Edge) _ state one.second in
    let three = then_ok (asks (rows_are_below written.vars written.rows && types_are_below written.vars (typed_types written.places)) rule.Form) _ state two.second in
    let four = then_ok (asks (are_few written.vars written.rows) rule.Size) _ state three.second in
    let named = and_parts (rows_are_below written.vars written.rows) (types_are_below written.vars (typed_types written.places)) (asked _ rule.Form three.value three.first) in
    state_named sig.vars written.vars written.rows written.places state (leb-true sig.vars written.vars (asked _ rule.Edge two.value two.first))
    (rows_named written.vars written.rows named.0) (entries_named written.vars written.places named.1) four.second

label_proper : (table : List Packed) (sig : Signature) (written : Option LabelState) (state : StateType) → label_verdict table sig written ≡ Ok state → IsProper sig.vars state
label_proper table sig None state e = absurd (let bad : ⊥ = cc in bad)
label_proper table sig (Some written) state e = written_proper table sig written state e

pub labels_proper : (table : List Packed) (sig : Signature) (blocks : List Block) (labels : List StateType) → AllZip (IsLabel table sig) blocks labels → All (IsProper sig.vars) labels
labels_proper table sig [] [] all = All-nil (IsProper sig.vars)
labels_proper table sig [] (state ∷ labels) all = absurd all
labels_proper table sig (block ∷ blocks) [] all = absurd all
labels_proper table sig (block ∷ blocks) (state ∷ labels) all =
    All-cons (IsProper sig.vars) state labels (label_proper table sig block.state state all.0.is) (labels_proper table sig blocks labels all.1)

-- ---- an operation that goes on

rows_more : (m n : ℕ) (rows : List Linear) → m ≤ n → All (NamesBelow m) rows → All (NamesBelow n) rows
rows_more m n rows le all = λ k d h. below-more m n (get_or rows k d) le (all k d h)

fresh_few : (many : Test) (ctx : IndexContext) (n first : ℕ) → nat_lt 1024 n ≡ many → cond many (let r : Result ℕ ContextError = Err context_error.Variables in r) (Ok ctx.vars) ≡ Ok first
    → n ≤ 1024
fresh_few true ctx n first is e = absurd (let bad : ⊥ = cc in bad)
fresh_few false ctx n first is e = grind (arith, nat_tests)

widened_few : (count : ℕ) (ctx wide : IndexContext) → widened count ctx ≡ Ok wide → ctx.vars + count ≤ 1024
unfolding widened
widened_few count ctx wide e =
    let s = then_ok (fresh_from ctx count) _ wide e in
    fresh_few (nat_lt 1024 (ctx.vars + count)) ctx (ctx.vars + count) s.value refl s.first

applied_few : (r : Rule) (ctx : IndexContext) (given : Ruled) → applied r ctx ≡ Ok given → ctx.vars + r.fresh ≤ 1024
unfolding applied
applied_few r ctx given e =
    let s = then_ok (needed (all_given r.given)) _ given e in
    let t = then_ok (filled (widened r.fresh ctx)) _ given s.second in
    widened_few r.fresh ctx t.value (filled_ok (widened r.fresh ctx) t.value t.first)

-- what is known of a rule that was applied
pub record IsRuled (st : Setting) (state : StateType) (i : Instruction) (by : List (List Line)) (given : Ruled) : Type 0 where
  pub types : List Ty
  pub there : all_there (read_types state i.reads) ≡ Ok types
  pub r : Rule
  pub is : rule_for st i.operation types state.ctx.vars ≡ Ok r
  pub does : applied r state.ctx ≡ Ok given
  pub lines : asks_lines state.ctx given.demands by ≡ Ok tt

pub ruled_is : (st : Setting) (state : StateType) (i : Instruction) (by : List (List Line)) (given : Ruled) → ruled_verdict st state i by ≡ Ok given
    → IsRuled st state i by given
unfolding ruled_verdict ruled
ruled_is st state i by given e =
    let one = then_ok (by_rule (named st i.operation)) _ given e in
    let two = then_ok (asks (are_different i.writes) rule.Place) _ given one.second in
    let three = then_ok (by_rule (ruled st i.operation (read_types state i.reads) state.ctx)) _ given two.second in
    let four = then_ok (asks_lines state.ctx three.value.demands by) _ given three.second in
    let made = ruled_ok (ruled st i.operation (read_types state i.reads) state.ctx) three.value three.first in
    let names = then_ok (named st i.operation) _ three.value made in
    let types = then_ok (all_there (read_types state i.reads)) _ three.value names.second in
    let r = then_ok (rule_for st i.operation types.value state.ctx.vars) _ three.value types.second in
    let is : IsRuled st state i by three.value = record { types = types.value; there = types.first; r = r.value; is = r.first; does = r.second; lines = four.first } in
    subst (λ g. IsRuled st state i by g) (ok_same three.value given four.second) is

module _ (st : Setting) (closed : All IsClosed st.table) where
  ruled_proper : (state : StateType) (i : Instruction) (by : List (List Line)) (given : Ruled) → IsProper st.own.vars state → IsRuled st state i by given
      → IsProper st.own.vars (state_of given.ctx (with_types i.writes given.types state.places))
  ruled_proper state i by given proper is =
      let n = state.ctx.vars in
      let below = there_below n state.places i.reads is.types is.there proper.names.places in
      let names = rule_names st i.operation is.types n is.r closed proper.own_vars is.is below in
      let assumed = assumed_named st i.operation is.types n is.r closed is.is below in
      let parts = parts_of is.r state.ctx given is.does in
      let few = applied_few is.r state.ctx given is.does in
      let grown = all_assumed (NamesBelow (n + is.r.fresh)) (IsNamed (n + is.r.fresh)) (λ row h. h) is.r.assumed (with_variables state.ctx is.r.fresh) given.ctx parts.assumed
      (rows_more n (n + is.r.fresh) state.ctx.rows (omega arith) proper.names.rows) assumed in
      let vars : given.ctx.vars ≡ n + is.r.fresh = grown.vars in
      let own = proper.own_vars in
      let wide = types_more n given.ctx.vars state.places (omega (arith, vars)) proper.names.places in
      let types = given_below given.ctx.vars is.r.given given.types parts.given (subst (λ k. All (IsTypeNamed k) is.r.given) (sym vars) names.given) in
      record {
        own_vars = omega (arith, vars, own);
        few = omega (arith, vars, few);
        names = record {
          rows = subst (λ k. All (NamesBelow k) given.ctx.rows) (sym vars) grown.rows;
          places = all_written given.ctx.vars i.writes given.types state.places types wide;
        };
      }

  goes_on_proper : (state next : StateType) (i : Instruction) (by : List (List Line)) → IsProper st.own.vars state → goes_on_verdict st state i by ≡ Ok next
      → IsProper st.own.vars next
  unfolding goes_on_verdict
  goes_on_proper state next i by proper e =
      let s = then_ok (ruled_verdict st state i by) _ next e in
      subst (λ x. IsProper st.own.vars x) (ok_same _ next s.second) (ruled_proper state i by s.value proper (ruled_is st state i by s.value s.first))

  gives_back_proper : (state next : StateType) (i : Instruction) (by : List (List Line)) → IsProper st.own.vars state → gives_back_verdict st state i by ≡ Ok next
      → IsProper st.own.vars next
  unfolding gives_back_verdict
  gives_back_proper state next i by proper e =
      let s = then_ok (ruled_verdict st state i by) _ next e in
      subst (λ x. IsProper st.own.vars x) (ok_same state next s.second) proper

-- ---- an operation that goes to a label

-- what is known of an edge that passes
pub record IsEdged (st : Setting) (labels : List StateType) (state : StateType) (i : Instruction) (values : List (ℕ × Linear)) (by : List (List Line)) (next : StateType) : Type 0 where
  pub target : StateType
  pub is_target : label_at labels i.target ≡ Some target
  pub types : List Ty
  pub there : all_there (read_types state i.reads) ≡ Ok types
  pub r : Rule
  pub is : rule_for st i.operation types state.ctx.vars ≡ Ok r
  pub demands : List Linear
  pub edge : edge_verdict st state target values ≡ Ok demands
  pub taken : IndexContext
  pub is_taken : all_assuming (side true i.operation types) state.ctx ≡ Ok taken
  pub left_over : IndexContext
  pub is_left : all_assuming (side false i.operation types) state.ctx ≡ Ok left_over
  pub lines : asks_lines taken demands by ≡ Ok tt
  pub is_next : state_of left_over state.places ≡ next

found_ok : {A : Type 0} (o : Option A) (broken : rules.Rule) (x : A) → found o broken ≡ Ok x → o ≡ Some x
found_ok (Some y) broken x e = cc
found_ok None broken x e = absurd (let bad : ⊥ = cc in bad)

side_ok : (taken : Test) (state : StateType) (op : Operation) (types : List Ty) (more : IndexContext) → side_verdict taken state op types ≡ Ok more
    → all_assuming (side taken op types) state.ctx ≡ Ok more
side_ok taken state op types more e =
    filled_ok (all_assuming (side taken op types) state.ctx) more (ruled_ok (filled (all_assuming (side taken op types) state.ctx)) more e)

pub edged_is : (st : Setting) (labels : List StateType) (state next : StateType) (i : Instruction) (values : List (ℕ × Linear)) (by : List (List Line))
    → goes_to_verdict st labels state i values by ≡ Ok next → IsEdged st labels state i values by next
unfolding goes_to_verdict
edged_is st labels state next i values by e =
    let one = then_ok (found (label_at labels i.target) rule.Target) _ next e in
    let two = then_ok (by_rule (all_there (read_types state i.reads))) _ next one.second in
    let three = then_ok (by_rule (rule_for st i.operation two.value state.ctx.vars)) _ next two.second in
    let four = then_ok (edge_verdict st state one.value values) _ next three.second in
    let five = then_ok (side_verdict true state i.operation two.value) _ next four.second in
    let six = then_ok (side_verdict false state i.operation two.value) _ next five.second in
    let seven = then_ok (asks_lines five.value four.value by) _ next six.second in
    record {
      target = one.value;
      is_target = found_ok (label_at labels i.target) rule.Target one.value one.first;
      types = two.value;
      there = ruled_ok (all_there (read_types state i.reads)) two.value two.first;
      r = three.value;
      is = ruled_ok (rule_for st i.operation two.value state.ctx.vars) three.value three.first;
      demands = four.value;
      edge = four.first;
      taken = five.value;
      is_taken = side_ok true state i.operation two.value five.value five.first;
      left_over = six.value;
      is_left = side_ok false state i.operation two.value six.value six.first;
      lines = seven.first;
      is_next = ok_same (state_of six.value state.places) next seven.second;
    }

goes_to_proper : (st : Setting) (labels : List StateType) (state next : StateType) (i : Instruction) (values : List (ℕ × Linear)) (by : List (List Line))
    → IsProper st.own.vars state → goes_to_verdict st labels state i values by ≡ Ok next → IsProper st.own.vars next
goes_to_proper st labels state next i values by proper e =
    let is = edged_is st labels state next i values by e in
    let n = state.ctx.vars in
    let below = there_below n state.places i.reads is.types is.there proper.names.places in
    let grown = all_assumed (NamesBelow n) (IsNamed n) (λ row h. h) (side false i.operation is.types) state.ctx is.left_over is.is_left proper.names.rows
    (sides_named n false i.operation is.types below) in
    let vars = grown.vars in
    let own = proper.own_vars in
    let few = proper.few in
    subst (λ x. IsProper st.own.vars x) is.is_next (record {
      own_vars = omega (arith, vars, own);
      few = omega (arith, vars, few);
      names = record {
        rows = subst (λ k. All (NamesBelow k) is.left_over.rows) (sym vars) grown.rows;
        places = types_more n is.left_over.vars state.places (omega (arith, vars)) proper.names.places;
      };
    })

-- ---- all instructions

module _ (st : Setting) (closed : All IsClosed st.table) (labels : List StateType) where
  by_operation : (op : Operation) (state next : StateType) (i : Instruction) (values : List (ℕ × Linear)) (by : List (List Line)) → IsProper st.own.vars state
      → verdict_by op st labels state i values by ≡ Ok next → IsProper st.own.vars next
  by_operation (Branch c) state next i values by proper e = goes_to_proper st labels state next i values by proper e
  by_operation (BranchTruth b) state next i values by proper e = goes_to_proper st labels state next i values by proper e
  by_operation Jump state next i values by proper e = goes_to_proper st labels state next i values by proper e
  by_operation Return state next i values by proper e = gives_back_proper st closed state next i by proper e
  by_operation (Literal n) state next i values by proper e = goes_on_proper st closed state next i by proper e
  by_operation (Truth b) state next i values by proper e = goes_on_proper st closed state next i by proper e
  by_operation Move state next i values by proper e = goes_on_proper st closed state next i by proper e
  by_operation Add state next i values by proper e = goes_on_proper st closed state next i by proper e
  by_operation Sub state next i values by proper e = goes_on_proper st closed state next i by proper e
  by_operation Mul state next i values by proper e = goes_on_proper st closed state next i by proper e
  by_operation Div state next i values by proper e = goes_on_proper st closed state next i by proper e
  by_operation Mod state next i values by proper e = goes_on_proper st closed state next i by proper e
  by_operation (Compare c) state next i values by proper e = goes_on_proper st closed state next i by proper e
  by_operation (Call fun) state next i values by proper e = goes_on_proper st closed state next i by proper e
  by_operation Length state next i values by proper e = goes_on_proper st closed state next i by proper e
  by_operation Load state next i values by proper e = goes_on_proper st closed state next i by proper e
  by_operation Store state next i values by proper e = goes_on_proper st closed state next i by proper e
  by_operation (New cells) state next i values by proper e = goes_on_proper st closed state next i by proper e
  by_operation (Tuple number) state next i values by proper e = goes_on_proper st closed state next i by proper e
  by_operation (Untuple number count) state next i values by proper e = goes_on_proper st closed state next i by proper e
  by_operation Print state next i values by proper e = goes_on_proper st closed state next i by proper e

  next_proper : (state next : StateType) (instr : Instr) → IsProper st.own.vars state → instr_verdict st labels state instr ≡ Ok next → IsProper st.own.vars next
  unfolding instr_verdict
  next_proper state next instr proper e =
      let i = instruction_in instr.op in by_operation i.operation state next i instr.edge instr.by proper e

  code_proper : (state : StateType) (code : List Instr) (states : List StateType) → CodeStands st labels state code states → IsProper st.own.vars state
      → All (IsProper st.own.vars) states
  code_proper _ _ _ (CodeEnds state) proper = All-nil (IsProper st.own.vars)
  code_proper _ _ _ (CodeGoesOn state next instr code states e more) proper =
      All-cons (IsProper st.own.vars) state states proper (code_proper next code states more (next_proper state next instr proper e))

  pub blocks_proper : (begins : List StateType) (blocks : List Block) (states : List StateType) → BlocksStand st labels begins blocks states
      → All (IsProper st.own.vars) begins → All (IsProper st.own.vars) states
  blocks_proper _ _ _ BlocksEnd proper = All-nil (IsProper st.own.vars)
  blocks_proper _ _ _ (BlocksGoOn state begins block blocks states others stands more) proper =
      All-append (IsProper st.own.vars) states others
      (code_proper state block.code states stands (All-head (IsProper st.own.vars) state begins proper))
      (blocks_proper begins blocks others more (All-tail (IsProper st.own.vars) state begins proper))
