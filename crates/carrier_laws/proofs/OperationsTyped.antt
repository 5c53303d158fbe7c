-- An operation that goes on, where its operands have their types: its rule is what elaboration followed.
use Rattle.std.proofs.Common.{◌≡◌, ◌∙◌, ℕ, ◌+◌, ◌<◌, ◌≤◌, Bool, true, false, cond, List, [], map, Option, Some, None, Result, Ok, Err, refl, sym, ap, subst, arith}
use Rattle.std.specs.List.{All, list_all}
use Rattle.std.specs.Prelude.{nat_lt}
use Rattle.index_sorts.specs.Context.{IndexContext, with_variables}
use Rattle.index_sorts.specs.declared.error.ContextError.{ContextError}
use Rattle.index_sorts.specs.declared.error.ContextError.TheVariants as context_error
use Rattle.operation_rules.specs.Applied.{Ruled, named, all_there, all_assuming, all_given, widened, applied, ruled}
use Rattle.operation_rules.specs.Faults.{Ruling, filled, needed}
use Rattle.operation_rules.specs.Rules.{Setting, rule}
use Rattle.operation_rules.specs.declared.operation.Operation.{Operation}
use Rattle.operation_rules.specs.declared.rule.Rule.{Rule}
use Rattle.state_types.specs.Answers.{◌>>=◌}
use Rattle.state_types.specs.PlaceTypes.{type_at}
use Rattle.state_types.specs.declared.state.StateType.{StateType}
use Rattle.state_types.specs.declared.types.Ty.{Ty}
use Rattle.state_types.proofs.Thens.{then_ok, ok_same}
use Rattle.three_address.specs.Demands.{demands_of, AreProved}
use Rattle.three_address.specs.Instructions.{Instruction, instruction_of, AreDifferent}
use Rattle.three_address.specs.Typing.{Allows, GoesOn, Leads, ruled_in, state_of, with_types}
use Rattle.three_address.specs.declared.instruction.LowInstr.{LowInstr}
use Rattle.three_address.specs.declared.typed.Edge.{Edge}
use Rattle.typed_core.specs.Constructs.{setting_of, followed, asking, types_by}
use Rattle.typed_core.specs.Limits.{by_rule, held}
use Rattle.typed_core.specs.States.{Site, State, in_ctx, demanding}
use Rattle.typed_core.specs.Strays.{type_below}
use Rattle.typed_core.proofs.Continued.{Goes}
use Rattle.typed_core.proofs.FollowedApplied.{followed_is_applied}
use Rattle.typed_core.proofs.GrownContexts.{all_add, filled_goes}
use Rattle.typed_core.proofs.LimitedAnswers.{then_answers, weaker, any_answer}
use Rattle.xan_seq.proofs.NumberTests.{is_not_less}

-- ---- what elaboration followed

-- the rule of an operation over types, and what follows
pub record Follows (site : Site) (at : Option ℕ) (o : Operation) (types : List Ty) (st : State) (given : List Ty) (more : State) : Type 0 where
  pub r : Rule
  pub ctx : IndexContext
  pub is_rule : rule (setting_of site) o types st.ctx.vars ≡ Ok r
  pub follows : followed r st.ctx ≡ Ok (given, ctx)
  pub more_is : more ≡ in_ctx ctx (asking site at r.demands st)

rule_ok : {A : Type 0} (m : Ruling A) (x : A) → by_rule m ≡ Ok x → m ≡ Ok x
rule_ok (Ok y) x e = cc
rule_ok (Err f) x e = cc

pub types_followed : (site : Site) (at : Option ℕ) (o : Operation) (types : List Ty) (st : State) (given : List Ty) (more : State)
    → types_by site at o types st ≡ Ok (given, more) → Follows site at o types st given more
unfolding types_by
types_followed site at o types st given more e =
    let one = then_ok (held (list_all (type_below st.ctx.vars) types)) _ (given, more) e in
    let two = then_ok (by_rule (rule (setting_of site) o types st.ctx.vars)) _ (given, more) one.second in
    let three = then_ok (by_rule (followed two.value st.ctx)) _ (given, more) two.second in
    let same = ok_same (three.value.0, in_ctx three.value.1 (asking site at two.value.demands st)) (given, more) three.second in
    record {
      r = two.value;
      ctx = three.value.1;
      is_rule = rule_ok (rule (setting_of site) o types st.ctx.vars) two.value two.first;
      follows = rule_ok (followed two.value st.ctx) three.value three.first ∙ ap (λ (x : List Ty × State). Ok (x.0, three.value.1)) same;
      more_is = sym (ap (λ (x : List Ty × State). x.1) same);
    }

-- what an answer that is there promises
pub promised : {A E : Type 0} (P : A → Type 0) (m : Result A E) (x : A) → Goes P m → m ≡ Ok x → P x
promised P (Ok y) x g e = subst P (ok_same y x e) g.is
promised P (Err f) x g e = absurd (let bad : ⊥ = cc in bad)

few_by : (b : Bool) (n m : ℕ) (ctx : IndexContext) → ctx.vars ≡ n → nat_lt 1024 n ≡ b
    → Goes (λ wide. wide.vars ≤ 1024) ((let r : Result ℕ ContextError = cond b (Err context_error.Variables) (Ok m) in r) >>= (λ first. let r : Result IndexContext ContextError = Ok ctx in r))
few_by true n m ctx same e = record { is = tt }
few_by false n m ctx same e = record { is = (let le = is_not_less 1024 n e in omega (arith, same, le)) }

widened_few : (count : ℕ) (ctx : IndexContext) → Goes (λ wide. wide.vars ≤ 1024) (widened count ctx)
unfolding widened
widened_few count ctx = few_by (nat_lt 1024 (ctx.vars + count)) (ctx.vars + count) ctx.vars (with_variables ctx count) refl refl

-- behind a rule there are few variables
followed_few : (r : Rule) (ctx : IndexContext) → Goes (λ p. p.1.vars ≤ 1024) (followed r ctx)
unfolding followed
followed_few r ctx =
    then_answers (filled (widened r.fresh ctx)) _ (filled_goes (widened r.fresh ctx) (widened_few r.fresh ctx))
    (λ begun few. then_answers (filled (all_assuming r.assumed begun)) _
    (filled_goes (all_assuming r.assumed begun) (weaker (all_assuming r.assumed begun) (λ more adds. (let same = adds.vars in omega (arith, same, few))) (all_add r.assumed begun)))
    (λ more few_more. then_answers (needed (all_given r.given)) _ (any_answer (needed (all_given r.given))) (λ types u. record { is = few_more })))

-- it changes no types, and there are few variables behind it
module _ (site : Site) (at : Option ℕ) (o : Operation) (types : List Ty) (st : State) (given : List Ty) (more : State) (f : Follows site at o types st given more) where
  pub follows_types : more.types ≡ st.types
  unfolding demanding
  follows_types = ap (λ (m : State). m.types) f.more_is ∙ asked at
    where
      asked : (at : Option ℕ) → (asking site at f.r.demands st).types ≡ st.types
      asked None = refl
      asked (Some n) = refl

  pub follows_few : f.ctx.vars ≤ 1024
  follows_few = promised (λ (p : List Ty × IndexContext). p.1.vars ≤ 1024) (followed f.r st.ctx) (given, f.ctx) (followed_few f.r st.ctx) f.follows

-- ---- what is ruled

module _ (st : Setting) (o : Operation) (places : List (Option Ty)) (types : List Ty) (ctx : IndexContext) where
  pub ruled_is : (r : Rule) (given : List Ty) (more : IndexContext) → named st o ≡ Ok tt → all_there places ≡ Ok types → rule st o types ctx.vars ≡ Ok r
      → followed r ctx ≡ Ok (given, more) → ruled st o places ctx ≡ Ok (record { demands = r.demands; ctx = more; types = given })
  unfolding ruled
  ruled_is r given more is_named are_there is_rule follows =
      ap (λ (m : Ruling (Unit {0})). m >>= (λ u. all_there places >>= (λ ts. rule st o ts ctx.vars >>= (λ q. applied q ctx)))) is_named
      ∙ ap (λ (m : Ruling (List Ty)). m >>= (λ ts. rule st o ts ctx.vars >>= (λ q. applied q ctx))) are_there
      ∙ ap (λ (m : Ruling Rule). m >>= (λ q. applied q ctx)) is_rule
      ∙ followed_is_applied r ctx more given follows

-- ---- what allows the instruction

-- an operation that goes on, in a state type with these operands
pub record Uses (st : Setting) (count : ℕ) (labels : List StateType) (state : StateType) (instr : LowInstr) (i : Instruction) (types : List Ty) : Type 0 where
  pub is : instruction_of instr ≡ Some i
  pub small : All (λ place. place < count) instr.places
  pub differ : AreDifferent i.writes
  pub read : all_there (map (λ place. type_at place state.places) i.reads) ≡ Ok types
  pub is_named : named st i.operation ≡ Ok tt

module _ (st : Setting) (count : ℕ) (labels : List StateType) (state : StateType) (instr : LowInstr) (i : Instruction) (types : List Ty)
    (uses : Uses st count labels state instr i types) where
  pub goes_on : (r : Rule) (given : List Ty) (more : IndexContext) (edge : Edge) → rule st i.operation types state.ctx.vars ≡ Ok r
      → followed r state.ctx ≡ Ok (given, more) → edge.values ≡ [] → AreProved state.ctx (demands_of None r.demands) edge.by
      → ((ruled : Ruled) (next : Option StateType) → GoesOn state i ruled edge next → Leads st.own labels state i types ruled instr.target edge next i.operation)
      → Allows st count labels state instr edge (Some (state_of more (with_types i.writes given state.places)))
  unfolding ruled_in
  goes_on r given more edge is_rule follows no_values proved leads_on = record {
    i = i;
    is = uses.is;
    small = uses.small;
    differ = uses.differ;
    types = types;
    read = uses.read;
    ruled = record { demands = r.demands; ctx = more; types = given };
    by_rule = ruled_is st i.operation (map (λ place. type_at place state.places) i.reads) types state.ctx r given more uses.is_named uses.read is_rule follows;
    leads = leads_on (record { demands = r.demands; ctx = more; types = given }) _ (record { values = no_values; proved = proved; is_next = refl });
  }
