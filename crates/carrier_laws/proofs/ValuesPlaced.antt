-- What the state type of code has in common with the state of elaboration at the same point, and an operation that writes one place.
--
-- Both have the same context. A live variable has the same type in both; what waits is in temporaries, in order.
use Rattle.std.proofs.Common.{◌≡◌, ◌≢◌, ◌∙◌, ℕ, zero, suc, ◌+◌, ◌<◌, cond, List, [], ◌∷◌, map, slice_get, Option, Some, None, Ok, refl, sym, ap, subst, arith}
use Rattle.std.specs.List.{All, AllZip, Contains}
use Rattle.index_sorts.specs.Context.{IndexContext}
use Rattle.operation_rules.specs.Applied.{named, all_there}
use Rattle.operation_rules.specs.Faults.{Ruling}
use Rattle.operation_rules.specs.Rules.{Setting, rule}
use Rattle.operation_rules.specs.declared.operation.Operation.{Operation}
use Rattle.operation_rules.specs.declared.rule.Rule.{Rule}
use Rattle.state_types.specs.PlaceTypes.{type_at, with_type}
use Rattle.state_types.specs.declared.state.StateType.{StateType}
use Rattle.state_types.specs.declared.types.Ty.{Ty}
use Rattle.state_types.proofs.Thens.{then_ok, ok_same}
use Rattle.xan_seq.proofs.RisingKeys.{value-with}
use Rattle.xan_seq.proofs.NumberTests.{unequal, equal}
use Rattle.three_address.specs.Demands.{demands_of, AreProved}
use Rattle.three_address.specs.Flow.{ways, ways_of, ways_from, label_at, target_of}
use Rattle.three_address.specs.Instructions.{Instruction, instruction_of}
use Rattle.three_address.specs.Liveness.{Live, Read, Kept}
use Rattle.three_address.specs.Typing.{Allows, GoesOn, Leads, state_of, with_types}
use Rattle.three_address.specs.declared.instruction.LowInstr.{LowInstr}
use Rattle.three_address.specs.declared.typed.Edge.{Edge}
use Rattle.operation_rules.specs.Applied.{Ruled}
use Rattle.state_types.specs.Answers.{◌>>=◌}
use Rattle.typed_core.specs.Constructs.{setting_of, followed, asking, types_by, type_by, first_type}
use Rattle.typed_core.specs.States.{Site, State, in_ctx, demanding}
use Rattle.carrier_laws.proofs.ChainsTyped.{Body, Stands, reads_are, writes_are, found}
use Rattle.carrier_laws.proofs.OperationsTyped.{Follows, types_followed, goes_on}

-- ---- both states

pub record Now (b : Body) (p : ℕ) (s : StateType) (st : State) : Type 0 where
  pub ctx : s.ctx ≡ st.ctx
  pub types : (x : ℕ) (t : Ty) → Live b.fun p x → type_at x st.types ≡ Some t → type_at x s.places ≡ Some t

-- temporaries from the first on have these types
pub record Temporaries (vars : ℕ) (s : StateType) (ts : List Ty) : Type 0 where
  pub each : (k : ℕ) (t : Ty) → slice_get ts k ≡ Some t → type_at (vars + k) s.places ≡ Some t

-- where an operand of a type is: a temporary, or a variable's own place
pub data Where (vars : ℕ) (ts : List Ty) (types : List (ℕ × Ty)) (place : ℕ) (t : Ty) : Type 0 where
  InTemporary : (k : ℕ) → place ≡ vars + k → slice_get ts k ≡ Some t → Where vars ts types place t
  InVariable : type_at place types ≡ Some t → Where vars ts types place t

-- behind a value that was written to a place
pub record Came (b : Body) (vars p : ℕ) (s : StateType) (st : State) (ts : List Ty) (to : ℕ) (t : Ty) : Type 0 where
  pub ctx : s.ctx ≡ st.ctx
  pub types : (x : ℕ) (u : Ty) → Live b.fun p x → x ≢ to → type_at x st.types ≡ Some u → type_at x s.places ≡ Some u
  pub value : type_at to s.places ≡ Some t
  pub temporaries : Temporaries vars s ts

-- ---- operands are read

module _ (b : Body) (vars p : ℕ) (s : StateType) (st : State) (ts : List Ty) (now : Now b p s st) (temps : Temporaries vars s ts) where
  read_one : (place : ℕ) (t : Ty) → Live b.fun p place → Where vars ts st.types place t → type_at place s.places ≡ Some t
  read_one place t live (InTemporary k e there) = subst (λ n. type_at n s.places ≡ Some t) (sym e) (temps.each k t there)
  read_one place t live (InVariable e) = now.types place t live e

  next_type : (o : Option Ty) (t : Ty) (places : List (Option Ty)) (types : List Ty) → o ≡ Some t → all_there places ≡ Ok types → all_there (o ∷ places) ≡ Ok (t ∷ types)
  unfolding all_there
  next_type o t places types e others = (let one = ap (λ q. all_there (q ∷ places)) e in one ∙ behind (all_there places) others)
    where
      behind : (m : Ruling (List Ty)) → m ≡ Ok types → (m >>= (λ ts. Ok (t ∷ ts))) ≡ Ok (t ∷ types)
      behind m e = ap (λ (r : Ruling (List Ty)). r >>= (λ ts. Ok (t ∷ ts))) e

  pub read_all : (reads : List ℕ) (types : List Ty) → ((x : ℕ) → Contains reads x → Live b.fun p x) → AllZip (λ place t. Where vars ts st.types place t) reads types
      → all_there (map (λ place. type_at place s.places) reads) ≡ Ok types
  unfolding all_there
  read_all [] [] live all = refl
  read_all [] (t ∷ types) live all = absurd all
  read_all (r ∷ reads) [] live all = absurd all
  read_all (r ∷ reads) (t ∷ types) live all =
      next_type (type_at r s.places) t (map (λ place. type_at place s.places) reads) types (read_one r t (live r (0, omega arith, refl)) all.0)
      (read_all reads types (λ x c. live x (suc c.0, omega (arith, c.1), c.2)) all.1)

-- ---- a place that is written

other_place : (place q : ℕ) (t : Ty) (places : List (ℕ × Ty)) → q ≢ place → type_at q (with_type place t places) ≡ type_at q places
other_place place q t places other = value-with q place t places ∙ ap (λ c. cond c (Some t) (type_at q places)) (unequal place q (λ e. other (sym e)))

same_place : (place : ℕ) (t : Ty) (places : List (ℕ × Ty)) → type_at place (with_type place t places) ≡ Some t
same_place place t places = value-with place place t places ∙ ap (λ c. cond c (Some t) (type_at place places)) (equal place place refl)

-- an operation that goes on to the next instruction
pub record GoesNext (o : Operation) : Type 0 where
  pub on : (p : ℕ) (label : Option ℕ) → ways o p label ≡ suc p ∷ []
  pub leads : (st : Setting) (labels : List StateType) (state : StateType) (i : Instruction) (types : List Ty) (ruled : Ruled) (label : ℕ) (edge : Edge) (next : Option StateType)
      → GoesOn state i ruled edge next → Leads st.own labels state i types ruled label edge next o

-- what was followed gives this type first
pub record GivesFirst (site : Site) (at : Option ℕ) (o : Operation) (types : List Ty) (st : State) (t : Ty) (more : State) : Type 0 where
  pub others : List Ty
  pub follows : Follows site at o types st (t ∷ others) more

pub first_given : (site : Site) (at : Option ℕ) (o : Operation) (types : List Ty) (st : State) (t : Ty) (more : State)
    → type_by site at o types st ≡ Ok (t, more) → GivesFirst site at o types st t more
unfolding type_by
first_given site at o types st t more e =
    let one = then_ok (types_by site at o types st) _ (t, more) e in
    let two = then_ok (first_type one.value.0) _ (t, more) one.second in
    let same = ok_same (two.value, one.value.1) (t, more) two.second in
    by_given one.value.0 one.value.1 one.first (two.first ∙ ap (λ (x : Ty × State). Ok x.0) same) (ap (λ (x : Ty × State). x.1) same)
  where
    by_given : (given : List Ty) (m : State) → types_by site at o types st ≡ Ok (given, m) → first_type given ≡ Ok t → m ≡ more → GivesFirst site at o types st t more
    by_given [] m e f g = absurd (let bad : ⊥ = cc in bad)
    by_given (u ∷ others) m e f g = record {
      others = others;
      follows = types_followed site at o types st (t ∷ others) more
          (e ∙ ap (λ q. Ok (q ∷ others, m)) (ok_same u t f) ∙ ap (λ q. Ok (t ∷ others, q)) g);
    }

-- the instruction is allowed, and its value is there behind it
pub record Written (b : Body) (vars p : ℕ) (s : StateType) (instr : LowInstr) (edge : Edge) (more : State) (ts : List Ty) (to : ℕ) (t : Ty) : Type 0 where
  pub next : StateType
  pub allows : Allows b.setting b.count b.labels s instr edge (Some next)
  pub came : Came b vars (suc p) next more ts to t

-- where an operation stands, with operands in their places
pub record Operates (b : Body) (vars p : ℕ) (st : State) (ts us : List Ty) (instr : LowInstr) (o : Operation) (to : ℕ) (reads : List ℕ) (types : List Ty) : Type 0 where
  pub there : slice_get b.fun.code p ≡ Some instr
  pub is : instruction_of instr ≡ Some (record { operation = o; writes = to ∷ []; reads = reads })
  pub small : All (λ place. place < b.count) instr.places
  pub located : AllZip (λ place t. Where vars us st.types place t) reads types
  pub goes : GoesNext o
  pub names : named b.setting o ≡ Ok tt
  -- no temporary that goes on waiting is written
  pub keeps : (k : ℕ) (u : Ty) → slice_get ts k ≡ Some u → vars + k ≢ to

module _ (b : Body) (vars p : ℕ) (s : StateType) (st : State) (ts us : List Ty) (now : Now b p s st) (temps : Temporaries vars s ts) (waits : Temporaries vars s us)
    (site : Site) (setting_is : b.setting ≡ setting_of site) (instr : LowInstr) (o : Operation) (to : ℕ) (reads : List ℕ) (types : List Ty)
    (at : Operates b vars p st ts us instr o to reads types) where
  abbrev the : Instruction
  the = record { operation = o; writes = to ∷ []; reads = reads }

  stands : Stands b p instr the
  stands = record { there = at.there; is = at.is }

  -- a place that is live behind and not written is live before
  kept : (x : ℕ) → Live b.fun (suc p) x → x ≢ to → Live b.fun p x
  unfolding ways_from
  kept x live other = Kept p (suc p) x (subst (λ ws. Contains ws (suc p)) (sym goes) (0, omega arith, refl)) (λ c. other (one_only x to (subst (λ ws. Contains ws x) (writes_are b p instr the stands) c))) live
    where
      goes : ways_from b.fun p ≡ suc p ∷ []
      goes = ap (λ i. ways_of i p (label_at b.fun.labels (target_of (slice_get b.fun.code p)))) (found b p instr the stands) ∙ at.goes.on p (label_at b.fun.labels (target_of (slice_get b.fun.code p)))

      one_only : (x to : ℕ) → Contains (to ∷ []) x → x ≡ to
      one_only x to (zero, lt, e) = sym e
      one_only x to (suc k, lt, e) = absurd (omega (arith, lt))

  came_of : (ctx : IndexContext) (others : List Ty) (t : Ty) (more : State) (r : Rule) (q : Option ℕ) → more ≡ in_ctx ctx (asking site q r.demands st)
      → Came b vars (suc p) (state_of ctx (with_types (to ∷ []) (t ∷ others) s.places)) more ts to t
  unfolding with_types demanding
  came_of ctx others t more r q e = record {
    ctx = ap (λ (m : State). m.ctx) (sym e);
    types = λ x u live other there. other_place to x t s.places other
        ∙ now.types x u (kept x live other) (sym (ap (λ (m : State). type_at x m.types) e ∙ ap (λ es. type_at x es) (asking_types q)) ∙ there);
    value = same_place to t s.places;
    temporaries = record { each = λ k u there. other_place to (vars + k) t s.places (at.keeps k u there) ∙ temps.each k u there };
  }
    where
      asking_types : (q : Option ℕ) → (asking site q r.demands st).types ≡ st.types
      asking_types None = refl
      asking_types (Some n) = refl

  pub one_written : (q : Option ℕ) (others : List Ty) (t : Ty) (more : State) (edge : Edge) → Follows site q o types st (t ∷ others) more → edge.values ≡ []
      → ((r : Rule) → rule (setting_of site) o types st.ctx.vars ≡ Ok r → AreProved st.ctx (demands_of None r.demands) edge.by)
      → Written b vars p s instr edge more ts to t
  one_written q others t more edge f no_values proved = record {
    next = state_of f.ctx (with_types (to ∷ []) (t ∷ others) s.places);
    allows = goes_on b.setting b.count b.labels s instr the types
        (record {
          is = at.is;
          small = at.small;
          differ = ((λ k d lt. absurd (omega (arith, lt))), tt);
          read = read_all b vars p s st us now waits reads types
              (λ x c. Read p x (subst (λ rs. Contains rs x) (sym (reads_are b p instr the stands)) c)) at.located;
          is_named = at.names;
        })
        f.r (t ∷ others) f.ctx edge
        (subst (λ (m : Setting). rule m o types s.ctx.vars ≡ Ok f.r) (sym setting_is) (subst (λ (c : IndexContext). rule (setting_of site) o types c.vars ≡ Ok f.r) (sym now.ctx) f.is_rule))
        (subst (λ (c : IndexContext). followed f.r c ≡ Ok (t ∷ others, f.ctx)) (sym now.ctx) f.follows)
        no_values
        (subst (λ (c : IndexContext). AreProved c (demands_of None f.r.demands) edge.by) (sym now.ctx) (proved f.r f.is_rule))
        (λ ruled next go. at.goes.leads b.setting b.labels s the types ruled instr.target edge next go);
    came = came_of f.ctx others t more f.r q f.more_is;
  }
