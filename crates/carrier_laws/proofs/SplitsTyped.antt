-- A tuple that is split is typed: its parts come to variables.
use Rattle.std.proofs.Common.{◌≡◌, ◌≢◌, ◌∙◌, ℕ, zero, suc, ◌+◌, ◌-◌, ◌<◌, ◌≤◌, ◌==◌, cond, Bool as Truth, true, false, List, [], ◌∷◌, ◌++◌, length, map, slice_get, Option, Some, None, Ok, Err, refl, sym, ap, subst, arith}
use Rattle.std.specs.List.{All, AllZip, Contains, range_with_len}
use Rattle.std.proofs.lemmas.Bool.Decides.{Decides-eqb}
use Rattle.std.proofs.lemmas.List.{length-append}
use Rattle.std.proofs.lemmas.List.Elements.{All-nil, All-cons, All-head, All-tail}
use Rattle.std.proofs.lemmas.Option.{slice_get_within}
use Rattle.xan_seq.proofs.RisingKeys.{value-with}
use Rattle.index_sorts.specs.Context.{IndexContext}
use Rattle.xan_lin.specs.declared.term.LimitKind.TheVariants as limit
use Rattle.operation_rules.specs.Applied.{named}
use Rattle.operation_rules.specs.Faults.{Ruling}
use Rattle.operation_rules.specs.Rules.{Setting, rule, split as split_rule, tuple_at}
use Rattle.operation_rules.specs.declared.operation.Operation.{Operation}
use Rattle.operation_rules.specs.declared.operation.Operation.TheVariants as operation
use Rattle.operation_rules.specs.declared.rule.Rule.{Rule}
use Rattle.state_types.specs.Answers.{◌>>=◌}
use Rattle.state_types.specs.PlaceTypes.{type_at, with_type}
use Rattle.state_types.specs.declared.closed.Packed.{Packed}
use Rattle.state_types.specs.declared.state.StateType.{StateType}
use Rattle.state_types.specs.declared.types.Ty.{Ty}
use Rattle.state_types.proofs.Thens.{then_ok, ok_same}
use Rattle.operation_rules.specs.Rules.{one_type, as_many, as_tuple}
use Rattle.three_address.specs.Demands.{demands_of, AreProved, AllProved}
use Rattle.three_address.specs.Flow.{ways_from, ways_of, label_at, target_of}
use Rattle.three_address.specs.Instructions.{Instruction, instruction_of, AreDifferent}
use Rattle.three_address.specs.Liveness.{Live, Read, Kept}
use Rattle.three_address.specs.Typing.{Allows, with_types, state_of}
use Rattle.three_address.specs.declared.instruction.LowInstr.{LowInstr}
use Rattle.operation_rules.specs.Applied.{all_there}
use Rattle.xanadu_tree.specs.declared.types.CoreTy.{CoreTy}
use Rattle.xanadu_tree.specs.declared.types.Kind.{Kind}
use Rattle.xanadu_tree.specs.KindRules.{kind_of}
use Rattle.typed_core.specs.Constructs.{setting_of, followed}
use Rattle.state_types.specs.Types.{same_kind}
use Rattle.typed_core.specs.Limits.{within, Misfit, Walk as Limited}
use Rattle.typed_core.specs.States.{State, like, given}
use Rattle.typed_core.specs.Statements.{all_given}
use Rattle.value_lowering.specs.OneInstruction.{parted}
use Rattle.type_carrier.specs.CarriedValues.{Carried, plainly}
use Rattle.type_carrier.specs.ProvedRows.{plain}
use Rattle.carrier_laws.proofs.AssignmentsTyped.{Stepped}
use Rattle.carrier_laws.proofs.ChainsTyped.{Done, Next, CodeAt, Stands, found, reads_are, writes_are}
use Rattle.carrier_laws.proofs.DemandsProved.{seam}
use Rattle.carrier_laws.proofs.OperandsRun.{Walk, IsWalk, Waits, runs_on}
use Rattle.carrier_laws.proofs.OperationsTyped.{Follows, follows_types, follows_few, goes_on}
use Rattle.carrier_laws.proofs.ValuesPlaced.{Where, read_all}

-- ---- places that are written

more_written : (x y : ℕ) (ys : List ℕ) → (y ≢ x) → (Contains ys x → ⊥) → Contains (y ∷ ys) x → ⊥
more_written x y ys other none (zero, lt, e) = other e
more_written x y ys other none (suc k, lt, e) = none (k, omega (arith, lt), e)

-- a place that is not written is as before
written_alike : (x : ℕ) (t : Ty) (xs : List ℕ) (ts : List Ty) (a b : List (ℕ × Ty)) → length xs ≡ length ts
    → ((Contains xs x → ⊥) → type_at x a ≡ Some t → type_at x b ≡ Some t) → type_at x (with_types xs ts a) ≡ Some t → type_at x (with_types xs ts b) ≡ Some t
unfolding with_types
written_alike x t [] [] a b many same at = same (λ c. none c) at
  where
    none : Contains [] x → ⊥
    none c = (let lt = c.1 in omega (arith, lt))
written_alike x t [] (u ∷ us) a b many same at = absurd (omega (arith, many))
written_alike x t (y ∷ ys) [] a b many same at = absurd (omega (arith, many))
written_alike x t (y ∷ ys) (u ∷ us) a b many same at =
    written_alike x t ys us (with_type y u a) (with_type y u b) (omega (arith, many)) (λ none there. by_test (y == x) refl none (sym (value-with x y u a) ∙ there)) at
  where
    by_test : (c : Truth) → (y == x) ≡ c → (Contains ys x → ⊥) → cond c (let o : Option Ty = Some u in o) (type_at x a) ≡ Some t → type_at x (with_type y u b) ≡ Some t
    by_test true here none there = value-with x y u b ∙ ap (λ c. cond c (let o : Option Ty = Some u in o) (type_at x b)) here ∙ there
    by_test false other none there =
        value-with x y u b ∙ ap (λ c. cond c (let o : Option Ty = Some u in o) (type_at x b)) other
        ∙ same (more_written x y ys (λ e. (let on : (y == x) ≡ true = (Decides-eqb y x).1 e in let bad : ⊥ = cc in bad)) none) there

-- the places that have types behind writes: written ones, and those before
written_within : (n : ℕ) (xs : List ℕ) (ts : List Ty) (a : List (ℕ × Ty)) → All (λ x. x < n) xs → ((x : ℕ) (t : Ty) → type_at x a ≡ Some t → x < n)
    → (x : ℕ) (t : Ty) → type_at x (with_types xs ts a) ≡ Some t → x < n
unfolding with_types
written_within n [] ts a all before x t at = before x t at
written_within n (y ∷ ys) [] a all before x t at = before x t at
written_within n (y ∷ ys) (u ∷ us) a all before x t at =
    written_within n ys us (with_type y u a) (All-tail (λ z. z < n) y ys all) (λ z v there. by_test z v (y == z) refl (sym (value-with z y u a) ∙ there)) x t at
  where
    by_test : (z : ℕ) (v : Ty) (c : Truth) → (y == z) ≡ c → cond c (let o : Option Ty = Some u in o) (type_at z a) ≡ Some v → z < n
    by_test z v true e there = subst (λ m. m < n) ((Decides-eqb y z).0 e) (All-head (λ z. z < n) y ys all)
    by_test z v false e there = before z v there

-- ---- the variables of a split

pub above_all : (low from count : ℕ) → low < from → All (λ y. low ≢ y) (range_with_len from count)
above_all low from zero lt = All-nil (λ y. low ≢ y)
above_all low from (suc count) lt =
    All-cons (λ y. low ≢ y) from (range_with_len (from + 1) count) (λ e. absurd (omega (arith, e, lt))) (above_all low (from + 1) count (omega (arith, lt)))

pub range_differs : (from count : ℕ) → AreDifferent (range_with_len from count)
range_differs from zero = tt
range_differs from (suc count) = (above_all from (from + 1) count (omega arith), range_differs (from + 1) count)

pub kinds_within : (kinds : List Kind) (xs : List ℕ) (parts : List CoreTy) → AllZip (λ x part. slice_get kinds x ≡ Some (kind_of part)) xs parts → All (λ x. x < length kinds) xs
kinds_within kinds [] [] all = All-nil (λ x. x < length kinds)
kinds_within kinds [] (c ∷ cs) all = absurd all
kinds_within kinds (x ∷ xs) [] all = absurd all
kinds_within kinds (x ∷ xs) (c ∷ cs) all =
    All-cons (λ x. x < length kinds) x xs (slice_get_within kinds x (kind_of c) all.0) (kinds_within kinds xs cs all.1)

-- ---- what elaboration gives them

if_like : (b : Truth) (t it : Ty) → (let r : Limited Ty = cond b (Ok t) (Err Misfit) in r) ≡ Ok it → it ≡ t
if_like true t it e = sym (ok_same t it e)
if_like false t it e = absurd (let bad : ⊥ = cc in bad)

like_same : (old : Option Ty) (t it : Ty) → like old t ≡ Ok it → it ≡ t
like_same None t it e = sym (ok_same t it e)
like_same (Some old) t it e = if_like (same_kind old t) t it e

given_is : (x : ℕ) (t : Ty) (st more : State) → given x t st ≡ Ok more → more ≡ record st { types = with_type x t st.types }
unfolding given
given_is x t st more e =
    let one = then_ok (within limit.Places (suc x)) _ more e in
    let two = then_ok (like (type_at x st.types) t) _ more one.second in
    sym (ok_same (record st { types = with_type x two.value st.types }) more two.second)
    ∙ ap (λ u. record st { types = with_type x u st.types }) (like_same (type_at x st.types) t two.value two.first)

pub record AllGiven (xs : List ℕ) (ts : List Ty) (st more : State) : Type 0 where
  pub many : length xs ≡ length ts
  pub is : more ≡ record st { types = with_types xs ts st.types }

pub all_given_are : (xs : List ℕ) (ts : List Ty) (st more : State) → all_given xs ts st ≡ Ok more → AllGiven xs ts st more
unfolding all_given with_types
all_given_are [] [] st more e = record { many = refl; is = sym (ok_same st more e) }
all_given_are [] (t ∷ ts) st more e = absurd (let bad : ⊥ = cc in bad)
all_given_are (x ∷ xs) [] st more e = absurd (let bad : ⊥ = cc in bad)
all_given_are (x ∷ xs) (t ∷ ts) st more e =
    let s = then_ok (given x t st) _ more e in
    let one = given_is x t st s.value s.first in
    let later = all_given_are xs ts s.value more s.second in
    record { many = ap suc later.many; is = later.is ∙ ap (λ (m : State). record m { types = with_types xs ts m.types }) one }

-- ---- the instruction

fits_in : (n : ℕ) → (suc n == (suc n - 1) + 1) ≡ true
fits_in n = (Decides-eqb (suc n) ((suc n - 1) + 1)).1 (omega arith)

one_less : (n : ℕ) → suc n - 1 ≡ n
one_less n = omega arith

parted_is : (number from : ℕ) (xs : List ℕ) → instruction_of (parted number from xs) ≡ Some (record { operation = operation.Untuple number (length xs); writes = xs; reads = from ∷ [] })
unfolding instruction_of
parted_is number from xs =
    ap (λ b. cond b (Some (record { operation = operation.Untuple number (suc (length xs) - 1); writes = xs; reads = from ∷ [] })) None) (fits_in (length xs))
    ∙ ap (λ n. let o : Option Instruction = Some (record { operation = operation.Untuple number n; writes = xs; reads = from ∷ [] }) in o) (one_less (length xs))

split_named : (st : Setting) (number count : ℕ) (types : List Ty) (first : ℕ) (r : Rule) → rule st (operation.Untuple number count) types first ≡ Ok r
    → (named st (operation.Untuple number count) ≡ Ok tt) × (r.demands ≡ [])
unfolding rule split_rule named
split_named st number count types first r e =
    let s = then_ok (tuple_at st.table number) _ r e in
    let t = then_ok (one_type types) _ r s.second in
    let u = then_ok (as_many (length s.value.parts) count) _ r t.second in
    let v = then_ok (as_tuple number t.value) _ r u.second in
    (ap (λ (m : Ruling Packed). m >>= (λ packed. let q : Ruling (Unit {0}) = Ok tt in q)) s.first, sym (ap (λ (x : Rule). x.demands) (ok_same _ r v.second)))

-- ---- the statement

module _ (w : Walk) (isw : IsWalk w) (p q : ℕ) (s : StateType) (code : List LowInstr) (c d : Carried) (st mid : State) (us : List Ty) (waits : Waits w p q s code c d st mid [] us)
    (number from : ℕ) (xs : List ℕ) (t : Ty) (at : CodeAt w.body p (code ++ parted number from xs ∷ [])) (located : Where w.vars us mid.types from t) (differ : AreDifferent xs)
    (few : All (λ x. x < w.vars) xs) (parts : List Ty) (two more : State) (f : Follows w.site None (operation.Untuple number (length xs)) (t ∷ []) mid parts two)
    (given_all : AllGiven xs parts two more) where
  abbrev the_instr : LowInstr
  the_instr = parted number from xs

  abbrev the : Instruction
  the = record { operation = operation.Untuple number (length xs); writes = xs; reads = from ∷ [] }

  abbrev o : Operation
  o = operation.Untuple number (length xs)

  there : slice_get w.body.fun.code q ≡ Some the_instr
  there = subst (λ n. slice_get w.body.fun.code n ≡ Some the_instr) (sym waits.there) (at.each (length code) the_instr (seam code [] the_instr))

  stands : Stands w.body q the_instr the
  stands = record { there = there; is = parted_is number from xs }

  named_so : (named (setting_of w.site) o ≡ Ok tt) × (f.r.demands ≡ [])
  named_so = split_named (setting_of w.site) number (length xs) (t ∷ []) mid.ctx.vars f.r f.is_rule

  types_read : all_there (map (λ place. type_at place waits.end.places) (from ∷ [])) ≡ Ok (t ∷ [])
  types_read =
      read_all w.body w.vars q waits.end mid us waits.here.now waits.here.waits (from ∷ []) (t ∷ [])
      (λ x h. Read q x (subst (λ rs. Contains rs x) (sym (reads_are w.body q the_instr the stands)) h)) (located, tt)

  abbrev next : StateType
  next = state_of f.ctx (with_types xs parts waits.end.places)

  same_ctx : waits.end.ctx ≡ mid.ctx
  same_ctx = waits.here.now.ctx

  allows : Allows w.body.setting w.body.count w.body.labels waits.end the_instr plain (Some next)
  allows =
      goes_on w.body.setting w.body.count w.body.labels waits.end the_instr the (t ∷ [])
      (record {
        is = parted_is number from xs;
        small = at.small (length code) the_instr (seam code [] the_instr);
        differ = differ;
        read = types_read;
        is_named = ap (λ (x : Setting). named x o) isw.setting ∙ named_so.0;
      })
      f.r parts f.ctx plain
      (subst (λ (m : Setting). rule m o (t ∷ []) waits.end.ctx.vars ≡ Ok f.r) (sym isw.setting)
      (subst (λ (x : IndexContext). rule (setting_of w.site) o (t ∷ []) x.vars ≡ Ok f.r) (sym same_ctx) f.is_rule))
      (subst (λ (x : IndexContext). followed f.r x ≡ Ok (parts, f.ctx)) (sym same_ctx) f.follows) refl
      (subst (λ rows. AreProved waits.end.ctx (demands_of None rows) []) (sym named_so.1) AllProved)
      (λ ruled next go. go)

  ways_are : ways_from w.body.fun q ≡ suc q ∷ []
  unfolding ways_from
  ways_are = ap (λ i. ways_of i q (label_at w.body.fun.labels (target_of (slice_get w.body.fun.code q)))) (found w.body q the_instr the stands)

  kept : (x : ℕ) → Live w.body.fun (suc q) x → (Contains xs x → ⊥) → Live w.body.fun q x
  kept x live none =
      Kept q (suc q) x (subst (λ ns. Contains ns (suc q)) (sym ways_are) (0, omega arith, refl)) (λ h. none (subst (λ ns. Contains ns x) (writes_are w.body q the_instr the stands) h)) live

  two_types : two.types ≡ mid.types
  two_types = follows_types w.site None o (t ∷ []) mid parts two f

  more_types : more.types ≡ with_types xs parts mid.types
  more_types = ap (λ (m : State). m.types) given_all.is ∙ ap (λ es. with_types xs parts es) two_types

  more_ctx : f.ctx ≡ more.ctx
  more_ctx = sym (ap (λ (m : State). m.ctx) given_all.is ∙ ap (λ (m : State). m.ctx) f.more_is)

  more_notes : more.notes ≡ mid.notes
  more_notes = ap (λ (m : State). m.notes) given_all.is ∙ ap (λ (m : State). m.notes) f.more_is

  position : suc q ≡ p + length (code ++ the_instr ∷ [])
  position = (let e = waits.there in let long = length-append code (the_instr ∷ []) in omega (arith, e, long))

  pub parts_typed : Stepped w p s (code ++ the_instr ∷ []) c (plainly d) more
  parts_typed = record {
    end = next;
    runs = runs_on w s waits.end next code (the_instr ∷ []) c.edges d.edges (d.edges ++ plain ∷ []) waits.runs
        (record { edges = plain ∷ []; are = refl; states = waits.end ∷ []; chain = Next waits.end next next the_instr [] plain [] [] allows (Done next) });
    here = record {
      now = record {
        ctx = more_ctx;
        types = λ x u live e.
            written_alike x u xs parts mid.types waits.end.places given_all.many
            (λ none before. waits.here.now.types x u (kept x (subst (λ n. Live w.body.fun n x) (sym position) live) none) before) (ap (λ es. type_at x es) (sym more_types) ∙ e);
      };
      waits = record { each = λ k u e. absurd (let bad : ⊥ = cc in bad) };
      remains = waits.here.remains ∙ ap (λ ns. ns ++ d.notes) (sym more_notes);
      within = λ x u e. written_within w.vars xs parts mid.types few waits.here.within x u (ap (λ es. type_at x es) (sym more_types) ∙ e);
      few = subst (λ (x : IndexContext). x.vars ≤ 1024) more_ctx (follows_few w.site None o (t ∷ []) mid parts two f);
    };
  }
