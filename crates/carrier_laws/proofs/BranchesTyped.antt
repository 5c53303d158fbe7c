-- A conditional branch behind its operands: to the label with the rows of its true side, and on with those of its false side.
use Rattle.std.proofs.Common.{◌≡◌, ◌∙◌, ℕ, suc, ◌+◌, ◌<◌, ◌≤◌, Bool as Truth, true, false, List, [], ◌∷◌, ◌++◌, length, map, slice_get, Option, Some, Ok, refl, sym, ap, subst, arith}
use Rattle.std.specs.Prelude.{option_to_list}
use Rattle.std.specs.List.{All, AllZip, AllByRecursion, Contains}
use Rattle.std.proofs.lemmas.List.{length-append}
use Rattle.index_sorts.specs.Context.{IndexContext}
use Rattle.xan_lin.specs.Linear.{Linear}
use Rattle.operation_rules.specs.Applied.{Ruled, named, all_assuming, all_there}
use Rattle.operation_rules.specs.Rules.{Setting, rule, gives}
use Rattle.operation_rules.specs.Sides.{side}
use Rattle.operation_rules.specs.declared.operation.Operation.{Operation}
use Rattle.state_types.specs.PlaceTypes.{type_at}
use Rattle.state_types.specs.declared.state.StateType.{StateType}
use Rattle.state_types.specs.declared.types.Ty.{Ty}
use Rattle.three_address.specs.Flow.{ways, ways_of, ways_from, label_at, target_of}
use Rattle.three_address.specs.Instructions.{Instruction, instruction_of}
use Rattle.three_address.specs.Liveness.{Live, Read, Kept}
use Rattle.three_address.specs.Typing.{Allows, GoesTo, Leads, Parts, ruled_in, state_of}
use Rattle.three_address.specs.declared.instruction.LowInstr.{LowInstr}
use Rattle.three_address.specs.declared.typed.Edge.{Edge}
use Rattle.lowering.specs.Lowered.{number_of}
use Rattle.typed_core.specs.Constructs.{setting_of}
use Rattle.typed_core.specs.Growth.{Continues}
use Rattle.typed_core.specs.States.{State}
use Rattle.typed_core.specs.Tests.{on_side}
use Rattle.typed_core.proofs.NamedStates.{all_assumed_vars}
use Rattle.type_carrier.specs.CarriedValues.{Carried, plainly}
use Rattle.type_carrier.specs.ProvedRows.{plain}
use Rattle.carrier_laws.proofs.ChainsTyped.{Done, Next, CodeAt, Stands, placed, found, reads_are, writes_are}
use Rattle.carrier_laws.proofs.DemandsProved.{seam}
use Rattle.carrier_laws.proofs.GivenFollowed.{given_follow}
use Rattle.carrier_laws.proofs.OperandsRun.{Walk, IsWalk, Here, Runs, Waits, runs_on}
use Rattle.carrier_laws.proofs.OperationsTyped.{ruled_is}
use Rattle.carrier_laws.proofs.ValuesPlaced.{Where, read_all}
use Rattle.carrier_laws.proofs.FragmentsTyped.{HasLabels, LabelAt}
use Rattle.carrier_laws.proofs.LabelsMet.{Formed, plain_jump}
use Rattle.carrier_laws.proofs.PlainWays.{Stays}

-- ---- the label that a test goes to

-- it states no more than what holds on the way: these rows begin with its rows, and its places have these types
pub record Aims (w : Walk) (columns : List (List Truth)) (to : ℕ) (rows : List Linear) (types : List (ℕ × Ty)) : Type 0 where
  pub number : ℕ
  pub noted : StateType
  pub label : LabelAt w columns to number noted
  pub begins : Continues noted.ctx.rows rows
  pub are : noted.places ≡ types

front_stays : (m : ℕ) (xs ys : List Linear) → AllByRecursion (Stays m) (xs ++ ys) → AllByRecursion (Stays m) xs
front_stays m [] ys all = tt
front_stays m (x ∷ xs) ys all = (all.0, front_stays m xs ys all.1)

formed_front : (n : ℕ) (rows front : List Linear) (types : List (ℕ × Ty)) → Continues front rows → Formed n rows types → Formed n front types
formed_front n rows front types c f = record {
  rows_stay = λ m le. front_stays m front c.rest (subst (λ rs. AllByRecursion (Stays m) rs) c.is (f.rows_stay m le));
  types_stay = f.types_stay;
  rise = f.rise;
}

-- ---- the branch

-- an operation that goes to a label or on
pub record Branches (o : Operation) : Type 0 where
  pub both : (p : ℕ) (label : Option ℕ) → ways o p label ≡ suc p ∷ option_to_list label
  pub leads : (st : Setting) (labels : List StateType) (state : StateType) (i : Instruction) (types : List Ty) (ruled : Ruled) (label : ℕ) (edge : Edge) (next : Option StateType)
      → Parts st.own labels state i types label edge next → Leads st.own labels state i types ruled label edge next o

-- what the instruction is, as it stands in the function
pub record IsBranch (w : Walk) (instr : LowInstr) (o : Operation) (reads : List ℕ) (to : ℕ) : Type 0 where
  pub is : instruction_of (placed w.body instr) ≡ Some (record { operation = o; writes = []; reads = reads })
  pub places : (placed w.body instr).places ≡ instr.places
  pub target : (placed w.body instr).target ≡ number_of w.body.positions to
  pub branches : Branches o

-- code that ends with it, and goes on behind
pub record Branched (w : Walk) (p : ℕ) (s : StateType) (code : List LowInstr) (c d : Carried) (more : State) : Type 0 where
  pub end : StateType
  pub runs : Runs w s code c.edges d.edges end
  pub here : Here w (p + length code) end more [] d.notes

module _ (w : Walk) (isw : IsWalk w) (columns : List (List Truth)) (has : HasLabels w columns) (p q : ℕ) (s : StateType) (code : List LowInstr) (c d : Carried) (st mid : State) (us : List Ty)
    (waits : Waits w p q s code c d st mid [] us) (instr : LowInstr) (o : Operation) (reads : List ℕ) (types : List Ty) (to : ℕ)
    (at : CodeAt w.body p (code ++ instr ∷ [])) (is : IsBranch w instr o reads to) (located : AllZip (λ place t. Where w.vars us mid.types place t) reads types)
    (is_named : named (setting_of w.site) o ≡ Ok tt) (is_rule : rule (setting_of w.site) o types mid.ctx.vars ≡ Ok (gives [] [])) (taken left : IndexContext)
    (takes : all_assuming (side true o types) mid.ctx ≡ Ok taken) (leaves : all_assuming (side false o types) mid.ctx ≡ Ok left)
    (aims : Aims w columns to taken.rows mid.types) (formed : Formed mid.ctx.vars taken.rows mid.types) where
  abbrev the : Instruction
  the = record { operation = o; writes = []; reads = reads }

  there : slice_get w.body.fun.code q ≡ Some (placed w.body instr)
  there = subst (λ n. slice_get w.body.fun.code n ≡ Some (placed w.body instr)) (sym waits.there) (at.each (length code) instr (seam code [] instr))

  stands : Stands w.body q (placed w.body instr) the
  stands = record { there = there; is = is.is }

  the_label : label_at w.body.fun.labels (target_of (slice_get w.body.fun.code q)) ≡ Some to
  the_label = ap (λ i. label_at w.body.fun.labels (target_of i)) there ∙ ap (λ n. label_at w.body.fun.labels n) (is.target ∙ aims.label.number_is) ∙ aims.label.found

  ways_are : ways_from w.body.fun q ≡ suc q ∷ to ∷ []
  unfolding ways_from
  ways_are = ap (λ i. ways_of i q (label_at w.body.fun.labels (target_of (slice_get w.body.fun.code q)))) (found w.body q (placed w.body instr) the stands)
      ∙ ap (λ l. ways o q l) the_label ∙ is.branches.both q (Some to)

  kept : (next x : ℕ) → Contains (suc q ∷ to ∷ []) next → Live w.body.fun next x → Live w.body.fun q x
  kept next x among live =
      Kept q next x (subst (λ ns. Contains ns next) (sym ways_are) among)
      (λ h. none x (subst (λ ns. Contains ns x) (writes_are w.body q (placed w.body instr) the stands) h)) live
    where
      none : (x : ℕ) → Contains [] x → ⊥
      none x h = (let lt = h.1 in omega (arith, lt))

  at_vars : (more : IndexContext) (b : Truth) → all_assuming (side b o types) mid.ctx ≡ Ok more → more.vars ≡ mid.ctx.vars
  at_vars more b e = all_assumed_vars (side b o types) mid.ctx more e

  abbrev state : StateType
  state = waits.end

  same_ctx : state.ctx ≡ mid.ctx
  same_ctx = waits.here.now.ctx

  in_state : (b : Truth) (more : IndexContext) → all_assuming (side b o types) mid.ctx ≡ Ok more → all_assuming (side b o types) state.ctx ≡ Ok more
  in_state b more e = subst (λ (x : IndexContext). all_assuming (side b o types) x ≡ Ok more) (sym same_ctx) e

  branch_parts : Parts w.body.setting.own w.body.labels state the types (placed w.body instr).target plain (Some (state_of left state.places))
  branch_parts = record {
    taken = taken;
    left = left;
    takes = in_state true taken takes;
    leaves = in_state false left leaves;
    to = subst (λ n. GoesTo w.body.setting.own w.body.labels (state_of taken state.places) n plain) (sym is.target) (plain_jump w columns has to aims.number aims.noted aims.label
        (λ x t e. waits.here.within x t (ap (λ es. type_at x es) (sym aims.are) ∙ e)) w.body.setting.own (state_of taken state.places) mid.ctx.vars aims.begins.rest
        (subst (λ es. Formed mid.ctx.vars aims.noted.ctx.rows es) (sym aims.are) (formed_front mid.ctx.vars taken.rows aims.noted.ctx.rows mid.types aims.begins formed))
        (let same = at_vars taken true takes in omega (arith, same)) aims.begins.is
        (λ x t live e. waits.here.now.types x t (kept to x (1, omega arith, refl) live) (ap (λ es. type_at x es) (sym aims.are) ∙ e)));
    is_next = refl;
  }

  read_types : all_there (map (λ place. type_at place state.places) reads) ≡ Ok types
  read_types = read_all w.body w.vars q state mid us waits.here.now waits.here.waits reads types
      (λ x h. Read q x (subst (λ rs. Contains rs x) (sym (reads_are w.body q (placed w.body instr) the stands)) h)) located

  branch_allows : Allows w.body.setting w.body.count w.body.labels state (placed w.body instr) plain (Some (state_of left state.places))
  unfolding ruled_in
  branch_allows = record {
    i = the;
    is = is.is;
    small = subst (λ ps. All (λ place. place < w.body.count) ps) (sym is.places) (at.small (length code) instr (seam code [] instr));
    differ = tt;
    types = types;
    read = read_types;
    ruled = record { demands = []; ctx = state.ctx; types = [] };
    by_rule = ruled_is w.body.setting o (map (λ place. type_at place state.places) reads) types state.ctx (gives [] []) [] state.ctx
        (ap (λ (x : Setting). named x o) isw.setting ∙ is_named) read_types
        (subst (λ (m : Setting). rule m o types state.ctx.vars ≡ Ok (gives [] [])) (sym isw.setting)
        (subst (λ (x : IndexContext). rule (setting_of w.site) o types x.vars ≡ Ok (gives [] [])) (sym same_ctx) is_rule))
        (given_follow [] state.ctx (subst (λ (x : IndexContext). x.vars ≤ 1024) (sym same_ctx) waits.here.few));
    leads = is.branches.leads w.body.setting w.body.labels state the types _ (placed w.body instr).target plain _ branch_parts;
  }

  pub branch_typed : Branched w p s (code ++ instr ∷ []) c (plainly d) (on_side left.rows mid)
  branch_typed = record {
    end = state_of left state.places;
    runs = runs_on w s state (state_of left state.places) code (instr ∷ []) c.edges d.edges (d.edges ++ plain ∷ []) waits.runs (record {
      edges = plain ∷ [];
      are = refl;
      states = state ∷ [];
      chain = Next state (state_of left state.places) (state_of left state.places) instr [] plain [] [] branch_allows (Done (state_of left state.places));
    });
    here = record {
      now = record {
        ctx = ap (λ n. record { vars = n; rows = left.rows }) (at_vars left false leaves);
        types = λ x t live e. waits.here.now.types x t (kept (suc q) x (0, omega arith, refl) (subst (λ n. Live w.body.fun n x) (sym position) live)) e;
      };
      waits = record { each = λ k t e. absurd (let bad : ⊥ = cc in bad) };
      remains = waits.here.remains;
      within = waits.here.within;
      few = waits.here.few;
    };
  }
    where
      position : suc q ≡ p + length (code ++ instr ∷ [])
      position = (let e = waits.there in let long = length-append code (instr ∷ []) in omega (arith, e, long))
