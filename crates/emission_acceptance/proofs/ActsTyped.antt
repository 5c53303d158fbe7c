-- The instruction that acts is typed where its operands have the types of those over places: the same rule gives the same.
use Rattle.std.proofs.Common.{◌≡◌, ℕ, ◌+◌, ◌≤◌, nat_lt, Bool, true, false, List, [], ◌∷◌, ◌++◌, length, map, Option, Some, None, Result, Ok, Err, nat_le, if◌then◌else◌, refl, sym, ap, subst, ◌∙◌, arith}
use Rattle.std.proofs.lemmas.Bool.Decides.{nat_tests}
use Rattle.index_sorts.specs.Context.{IndexContext, with_variables}
use Rattle.index_sorts.specs.Known.{knows, with_row}
use Rattle.index_sorts.specs.declared.error.ContextError.{ContextError}
use Rattle.index_sorts.specs.declared.error.ContextError.TheVariants as context_error
use Rattle.xan_lin.specs.Linear.{Linear}
use Rattle.xan_lin.specs.declared.term.TooLarge.{TooLarge}
use Rattle.state_types.proofs.Thens.{then_ok, ok_same}
use Rattle.state_types.specs.PlaceTypes.{type_at}
use Rattle.state_types.specs.declared.state.StateType.{StateType}
use Rattle.state_types.specs.declared.types.Ty.{Ty}
use Rattle.state_types.specs.Answers.{◌>>=◌}
use Rattle.operation_rules.proofs.RuleFacts.{filled_ok, parts_of}
use Rattle.operation_rules.specs.Applied.{Ruled, widened, assuming, all_assuming, all_given, applied, all_there, ruled}
use Rattle.operation_rules.specs.Faults.{filled, needed}
use Rattle.operation_rules.specs.declared.rule.Rule.{Rule}
use Rattle.operation_rules.specs.Rules.{Setting, rule as rule_for}
use Rattle.operation_rules.specs.Sides.{side}
use Rattle.operation_rules.specs.declared.operation.Operation.{Operation}
use Rattle.operation_rules.specs.declared.operation.Operation.TheVariants.{Branch, BranchTruth, Jump, Return}
use Rattle.three_address.specs.Demands.{demands_of, AreProved}
use Rattle.three_address.specs.Instructions as places
use Rattle.three_address.specs.Typing.{GoesTo, GoesOn, Parts, GoesBack, Leads}
use Rattle.three_address.specs.Typing as low_types
use Rattle.three_address.specs.declared.instruction.LowInstr.{LowInstr}
use Rattle.three_address.specs.declared.typed.Edge.{Edge}
use Rattle.dtal_code.specs.Declarations.{state_of}
use Rattle.dtal_code.specs.Instructions.{Instruction, instruction_in}
use Rattle.dtal_code.specs.Passing.{are_different, with_types, ruled_verdict, goes_on_verdict, gives_back_verdict, label_at, goes_to_verdict, verdict_by, instr_verdict}
use Rattle.dtal_emit.specs.Acting.{acting}
use Rattle.dtal_emit.specs.Emitted.{ordered, with_edge}
use Rattle.emission_laws.proofs.KeptHeap.{Kind, Returning, kind_of}
use Rattle.emission_laws.proofs.KindsOfInstructions.{is_going, goes_on}
use Rattle.emission_acceptance.specs.TypesThrough.{EdgePasses}
use Rattle.emission_acceptance.proofs.MovesTyped.{ruled_passes, goes_on_passes, gives_back_passes}
use Rattle.emission_acceptance.proofs.ProvedLines.{rows_asked}
use Rattle.emission_acceptance.proofs.RuledCounts.{RuledParts, ruled_parts}
use Rattle.emission_acceptance.proofs.TypesHeld.{AreThere, there_listed}

-- ---- contexts

row_vars : (known full : Bool) (ctx : IndexContext) (row : Linear) (more : IndexContext)
    → (if known then Ok ctx else if full then (let r : Result IndexContext ContextError = Err context_error.Rows in r) else Ok (record ctx { rows = ctx.rows ++ row ∷ [] })) ≡ Ok more
    → more.vars ≡ ctx.vars
row_vars true full ctx row more e = ap (λ (c : IndexContext). c.vars) (sym (ok_same ctx more e))
row_vars false true ctx row more e = absurd (let bad : ⊥ = cc in bad)
row_vars false false ctx row more e = ap (λ (c : IndexContext). c.vars) (sym (ok_same (record ctx { rows = ctx.rows ++ row ∷ [] }) more e))

one_vars : (row : Result Linear TooLarge) (ctx more : IndexContext) → assuming row ctx ≡ Ok more → more.vars ≡ ctx.vars
unfolding with_row
one_vars (Ok row) ctx more e = row_vars (knows ctx row) (nat_le 512 (length ctx.rows)) ctx row more e
one_vars (Err why) ctx more e = ap (λ (c : IndexContext). c.vars) (sym (ok_same ctx more e))

-- rows that are taken to hold leave the variables
pub same_vars : (rows : List (Result Linear TooLarge)) (ctx more : IndexContext) → all_assuming rows ctx ≡ Ok more → more.vars ≡ ctx.vars
unfolding all_assuming
same_vars [] ctx more e = ap (λ (c : IndexContext). c.vars) (sym (ok_same ctx more e))
same_vars (row ∷ rows) ctx more e =
    let s = then_ok (assuming row ctx) _ more e in
    same_vars rows s.value more s.second ∙ one_vars row ctx s.value s.first

-- how many variables there are, and will be

fresh_if : (b : Bool) (ctx wide : IndexContext) (count : ℕ) → nat_lt 1024 (ctx.vars + count) ≡ b
    → ((let r : Result ℕ ContextError = if b then Err context_error.Variables else Ok ctx.vars in r) >>= (λ first. Ok (with_variables ctx count))) ≡ Ok wide → ctx.vars + count ≤ 1024
fresh_if true ctx wide count t e = absurd (let bad : ⊥ = cc in bad)
fresh_if false ctx wide count t e = grind (arith, nat_tests)

fresh_few : (count : ℕ) (ctx wide : IndexContext) → widened count ctx ≡ Ok wide → ctx.vars + count ≤ 1024
unfolding widened
fresh_few count ctx wide e = fresh_if (nat_lt 1024 (ctx.vars + count)) ctx wide count refl e

pub record AreFewVars (ctx : IndexContext) (given : Ruled) : Type 0 where
  pub before : ctx.vars ≤ 1024
  pub behind : given.ctx.vars ≤ 1024

pub few_vars : (r : Rule) (ctx : IndexContext) (given : Ruled) → applied r ctx ≡ Ok given → AreFewVars ctx given
unfolding applied
few_vars r ctx given e =
    let s = then_ok (needed (all_given r.given)) _ given e in
    let t = then_ok (filled (widened r.fresh ctx)) _ given s.second in
    let few = fresh_few r.fresh ctx t.value (filled_ok (widened r.fresh ctx) t.value t.first) in
    let p = parts_of r ctx given e in
    let same = same_vars r.assumed (with_variables ctx r.fresh) given.ctx p.assumed in
    record { before = omega (arith, few); behind = omega (arith, few, same) }

all_types : (types : List Ty) → all_there (map Some types) ≡ Ok types
unfolding all_there
all_types [] = refl
all_types (t ∷ types) = rw (all_types types) refl

-- ---- kinds that write nothing

abbrev pub is_silent_kind : Kind → Bool
is_silent_kind Returning = true
is_silent_kind kind = is_going kind

pub going_silent : (kind : Kind) → is_going kind ≡ true → is_silent_kind kind ≡ true
going_silent Returning e = refl
going_silent kind e = e

-- ---- the instruction that acts

module _ (st : Setting) (labels texts : List StateType) (homes : List ℕ) (instr : LowInstr) (edge : Edge) (i : places.Instruction) (low : StateType) (types : List Ty) (given : Ruled)
    (next : Option StateType) (now : List (ℕ × Ty)) (ws rs : List ℕ) (target : ℕ) where
  -- the state of a label to which it goes with these rows, and the way there
  pub record WayPasses (taken : IndexContext) : Type 0 where
    pub to : StateType
    pub there : label_at texts target ≡ Some to
    pub passes : EdgePasses st homes (state_of low.ctx now) to taken edge

  abbrev pub over : Operation → Instruction
  over o = record { operation = o; writes = ws; reads = rs; target = target }

  pub record IsActed (o : Operation) : Type 0 where
    pub ctx : IndexContext
    pub written : List Ty
    pub is : instr_verdict st texts (state_of low.ctx now) (with_edge homes instr edge ws rs) ≡ Ok (state_of ctx (with_types ws written now))
    pub many : length i.writes ≤ length written
    pub few : ctx.vars ≤ 1024
    pub on : goes_on (kind_of o) ≡ true → next ≡ Some (state_of ctx (low_types.with_types i.writes written low.places))
    pub stops : goes_on (kind_of o) ≡ false → ctx ≡ low.ctx

  module _ (form : instruction_in (acting instr.op instr.number instr.target ws rs) ≡ over i.operation)
      (rules : ruled st i.operation (map (λ place. type_at place low.places) i.reads) low.ctx ≡ Ok given) (read : all_there (map (λ place. type_at place low.places) i.reads) ≡ Ok types)
      (listed : map (λ place. type_at place low.places) i.reads ≡ map Some types) (there : AreThere now rs types) (differ : are_different ws ≡ true)
      (enough : length i.writes ≤ length given.types) where
    same_read : map (λ place. type_at place now) rs ≡ map (λ place. type_at place low.places) i.reads
    same_read = there_listed now rs types there ∙ sym listed

    rules_now : ruled st i.operation (map (λ place. type_at place now) rs) low.ctx ≡ Ok given
    rules_now = ap (λ l. ruled st i.operation l low.ctx) same_read ∙ rules

    parts : RuledParts st i.operation (map (λ place. type_at place low.places) i.reads) low.ctx given
    parts = ruled_parts st i.operation (map (λ place. type_at place low.places) i.reads) low.ctx given rules

    few : AreFewVars low.ctx given
    few = few_vars parts.r low.ctx given parts.does

    verdict : (state : StateType) → verdict_by i.operation st texts (state_of low.ctx now) (over i.operation) edge.values (ordered homes edge.by) ≡ Ok state
        → instr_verdict st texts (state_of low.ctx now) (with_edge homes instr edge ws rs) ≡ Ok state
    unfolding instr_verdict
    verdict state e = ap (λ (x : Instruction). verdict_by x.operation st texts (state_of low.ctx now) x edge.values (ordered homes edge.by)) form ∙ e

    -- what its rule gives
    is_ruled : AreProved low.ctx (demands_of None given.demands) edge.by → ruled_verdict st (state_of low.ctx now) (over i.operation) (ordered homes edge.by) ≡ Ok given
    is_ruled proved = ruled_passes st (state_of low.ctx now) (over i.operation) (ordered homes edge.by) given parts.names differ rules_now (rows_asked homes low.ctx given.demands edge.by proved)

    onward : (o : Operation) → verdict_by i.operation st texts (state_of low.ctx now) (over i.operation) edge.values (ordered homes edge.by)
        ≡ goes_on_verdict st (state_of low.ctx now) (over i.operation) (ordered homes edge.by) → goes_on (kind_of o) ≡ true → GoesOn low i given edge next → IsActed o
    onward o same goes leads = record {
      ctx = given.ctx;
      written = given.types;
      is = verdict _ (same ∙ goes_on_passes st (state_of low.ctx now) (over i.operation) (ordered homes edge.by) given (is_ruled leads.proved));
      many = enough;
      few = few.behind;
      on = λ _. leads.is_next;
      stops = λ e. absurd (let bad : true ≡ false = sym goes ∙ e in let no : ⊥ = cc in no);
    }

    -- a state behind which nothing is written
    module _ (none : i.writes ≡ []) (no_ws : ws ≡ []) where
      nothing : (places : List (ℕ × Ty)) → with_types ws [] places ≡ places
      unfolding with_types
      nothing places = ap (λ l. with_types l [] places) no_ws

      low_nothing : (places : List (ℕ × Ty)) → low_types.with_types i.writes [] places ≡ places
      unfolding low_types.with_types
      low_nothing places = ap (λ l. low_types.with_types l [] places) none

      no_more : length i.writes ≤ 0
      no_more = (let e : length i.writes ≡ 0 = ap length none in omega (arith, e))

      back : (o : Operation) → verdict_by i.operation st texts (state_of low.ctx now) (over i.operation) edge.values (ordered homes edge.by)
          ≡ gives_back_verdict st (state_of low.ctx now) (over i.operation) (ordered homes edge.by) → goes_on (kind_of o) ≡ false → GoesBack low given edge → IsActed o
      back o same stop leads = record {
        ctx = low.ctx;
        written = [];
        is = verdict _ (same ∙ gives_back_passes st (state_of low.ctx now) (over i.operation) (ordered homes edge.by) given (is_ruled leads.proved) ∙ ap (λ l. Ok (state_of low.ctx l)) (sym (nothing now)));
        many = no_more;
        few = few.before;
        on = λ e. absurd (let bad : true ≡ false = sym e ∙ stop in let no : ⊥ = cc in no);
        stops = λ _. refl;
      }

      goes_to : (taken left : IndexContext) → all_assuming (side true i.operation types) low.ctx ≡ Ok taken → all_assuming (side false i.operation types) low.ctx ≡ Ok left
          → WayPasses taken → goes_to_verdict st texts (state_of low.ctx now) (over i.operation) edge.values (ordered homes edge.by) ≡ Ok (state_of left now)
      unfolding goes_to_verdict
      goes_to taken left takes leaves way =
          let types_are : all_there (map (λ place. type_at place now) rs) ≡ Ok types = ap all_there same_read ∙ read in
          let same_types : parts.types ≡ types = ok_same parts.types types (sym parts.there ∙ read) in
          let is_rule = subst (λ ts. rule_for st i.operation ts low.ctx.vars ≡ Ok parts.r) same_types parts.is_rule in
          rw (way.there, types_are, is_rule, way.passes.is, takes, leaves, way.passes.proved) refl

      leaping : (o : Operation) → (taken left : IndexContext) → all_assuming (side true i.operation types) low.ctx ≡ Ok taken → all_assuming (side false i.operation types) low.ctx ≡ Ok left
          → verdict_by i.operation st texts (state_of low.ctx now) (over i.operation) edge.values (ordered homes edge.by)
          ≡ goes_to_verdict st texts (state_of low.ctx now) (over i.operation) edge.values (ordered homes edge.by) → WayPasses taken
          → (goes_on (kind_of o) ≡ true → next ≡ Some (state_of left low.places)) → (goes_on (kind_of o) ≡ false → left ≡ low.ctx) → IsActed o
      leaping o taken left takes leaves same way on stops = record {
        ctx = left;
        written = [];
        is = verdict _ (same ∙ goes_to taken left takes leaves way ∙ ap (λ l. Ok (state_of left l)) (sym (nothing now)));
        many = no_more;
        few = (let same = same_vars (side false i.operation types) low.ctx left leaves in let f = few.before in omega (arith, same, f));
        on = λ e. on e ∙ ap (λ l. Some (state_of left l)) (sym (low_nothing low.places));
        stops = stops;
      }

    -- ---- by the operation

    module _ (none : is_silent_kind (kind_of i.operation) ≡ true → (i.writes ≡ []) × (ws ≡ []))
        (ways : is_going (kind_of i.operation) ≡ true → (taken : IndexContext) → low.ctx.vars ≡ taken.vars → GoesTo st.own labels (state_of taken low.places) instr.target edge
        → WayPasses taken) where
      is_to : (o : Operation) → i.operation ≡ o → ((x : Instruction) → verdict_by o st texts (state_of low.ctx now) x edge.values (ordered homes edge.by)
          ≡ goes_to_verdict st texts (state_of low.ctx now) x edge.values (ordered homes edge.by))
          → verdict_by i.operation st texts (state_of low.ctx now) (over i.operation) edge.values (ordered homes edge.by)
          ≡ goes_to_verdict st texts (state_of low.ctx now) (over i.operation) edge.values (ordered homes edge.by)
      is_to o e same = ap (λ x. verdict_by x st texts (state_of low.ctx now) (over i.operation) edge.values (ordered homes edge.by)) e ∙ same (over i.operation)

      no_rows : (taken : Bool) → i.operation ≡ Jump → all_assuming (side taken i.operation types) low.ctx ≡ Ok low.ctx
      unfolding all_assuming
      no_rows taken e = ap (λ x. all_assuming (side taken x types) low.ctx) e

      branching : (o : Operation) → i.operation ≡ o → is_going (kind_of o) ≡ true → goes_on (kind_of o) ≡ true → verdict_by i.operation st texts (state_of low.ctx now) (over i.operation) edge.values (ordered homes edge.by)
          ≡ goes_to_verdict st texts (state_of low.ctx now) (over i.operation) edge.values (ordered homes edge.by) → Parts st.own labels low i types instr.target edge next → IsActed o
      branching o e goes on same p =
          let n = none (ap (λ x. is_silent_kind (kind_of x)) e ∙ going_silent (kind_of o) goes) in
          leaping n.0 n.1 o p.taken p.left p.takes p.leaves same
          (ways (ap (λ x. is_going (kind_of x)) e ∙ goes) p.taken (sym (same_vars (side true i.operation types) low.ctx p.taken p.takes)) p.to)
          (λ _. p.is_next) (λ f. absurd (let bad : true ≡ false = sym on ∙ f in let no : ⊥ = cc in no))

      pub by_operation : (o : Operation) → i.operation ≡ o → Leads st.own labels low i types given instr.target edge next o → IsActed o
      by_operation (Branch c) e leads = branching (Branch c) e refl refl (is_to (Branch c) e (λ x. refl)) leads
      by_operation (BranchTruth b) e leads = branching (BranchTruth b) e refl refl (is_to (BranchTruth b) e (λ x. refl)) leads
      by_operation Jump e leads =
          let n = none (ap (λ x. is_silent_kind (kind_of x)) e) in
          leaping n.0 n.1 Jump low.ctx low.ctx (no_rows true e) (no_rows false e) (is_to Jump e (λ x. refl)) (ways (ap (λ x. is_going (kind_of x)) e) low.ctx refl leads)
          (λ f. absurd (let bad : ⊥ = cc in bad)) (λ _. refl)
      by_operation Return e leads =
          let n = none (ap (λ x. is_silent_kind (kind_of x)) e) in
          back n.0 n.1 Return (ap (λ x. verdict_by x st texts (state_of low.ctx now) (over i.operation) edge.values (ordered homes edge.by)) e) refl leads
      by_operation o e leads = onward o (ap (λ x. verdict_by x st texts (state_of low.ctx now) (over i.operation) edge.values (ordered homes edge.by)) e) refl leads
