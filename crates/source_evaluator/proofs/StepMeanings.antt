-- A step changes nothing of what a machine comes to.
use Rattle.std.proofs.Common.{◌≡◌, ◌∙◌, ◌+◌, ◌≤◌, ◌++◌, take, drop, nat_le, arith, ℕ, zero, suc, ℤ, pos, Bool as Truth, true, false, List, [], ◌∷◌, length, Option, Some, None, Result, Ok, Err, refl, sym, ap, append_assoc}
use Rattle.std.specs.Prelude.{slice_get, reverse, not}
use Rattle.std.proofs.lemmas.Bool.{le-leb}
use Rattle.std.proofs.lemmas.List.{length-append, length-reverse, reverse-append, reverse-reverse}
use Rattle.std.proofs.Math.Seq.{drop-append_seam, take-append_seam}
use Rattle.xan_seq.specs.Answers.{◌>>=◌}
use Rattle.xan_io.specs.Outcome.{How, Stuck}
use Rattle.xanadu_tree.specs.Plain as core
use Rattle.xanadu_tree.specs.declared.expr.Op.TheVariants as op
use Rattle.typed_core.specs.SourceValues.{Value, Blocks, number, have_tags, words_of}
use Rattle.typed_core.specs.SourceRuns.{Run, End, Answer, Calls, Env, Flow, Next, Gives}
use Rattle.typed_core.specs.SourceOperands.{value, chained, read}
use Rattle.typed_core.specs.SourceOperands as operands
use Rattle.typed_core.specs.SourceTests.{holds, all_hold, any_holds, unless}
use Rattle.source_values.specs.Values as values
use Rattle.source_values.specs.Values.{Ending, truth_value}
use Rattle.source_values.specs.Variables.{read_of}
use Rattle.source_evaluator.specs.Steps as steps
use Rattle.source_evaluator.specs.Steps.{Machine, acted, allocated, evaluated, going, with_value, with_values}
use Rattle.source_evaluator.specs.Work.{Work, Operand, Operands, Links, Join, Negate, Relate, ReadCell, Measure, MakeTuple, MakeArray, CallWith, Decide, Decided, AllParts, AnyParts, WhereTrue, WhereFalse, Opposite, Statements, SetTo, SplitTo, PutCell, Forget, Say, Choose, Loop, Turn, GiveBack, Back}
use Rattle.source_evaluator.proofs.ActMeanings.{lifted, stored, arithmetic_is, array_is, decided_is, loaded_is, measured_is, related_is, tuple_is}
use Rattle.source_evaluator.specs.Pending.{R, after, calls, given, meaning, meant, run_of, unless_false, unless_true, working}

-- ---- answers in turn

pub bind_assoc : {A B C : Type 0} (m : Answer (Unit {0}) A) (f : A × R → Answer (Unit {0}) B) (g : B × R → Answer (Unit {0}) C)
    → ((m >>= f) >>= g) ≡ (m >>= λ x. f x >>= g)
bind_assoc (Ok x) f g = refl
bind_assoc (Err e) f g = refl

pub bind_same : {A B : Type 0} (m : Answer (Unit {0}) A) (f g : A × R → Answer (Unit {0}) B) → ((x : A × R) → f x ≡ g x) → (m >>= f) ≡ (m >>= g)
bind_same (Ok x) f g same = same x
bind_same (Err e) f g same = refl

-- one part, and then the rest in other words
pub in_turn : {A B C : Type 0} (m : Answer (Unit {0}) A) (f : A × R → Answer (Unit {0}) B) (g : B × R → Answer (Unit {0}) C) (h : A × R → Answer (Unit {0}) C)
    → ((x : A × R) → (f x >>= g) ≡ h x) → ((m >>= f) >>= g) ≡ (m >>= h)
in_turn m f g h same = bind_assoc m f g ∙ bind_same m (λ x. f x >>= g) h same

-- the same, where the first part is known
counted : {A B C : Type 0} (m : Answer (Unit {0}) A) (f : A × R → Answer (Unit {0}) B) (g : B × R → Answer (Unit {0}) C) (h : A × R → Answer (Unit {0}) C)
    → ((x : A × R) → m ≡ Ok x → (f x >>= g) ≡ h x) → ((m >>= f) >>= g) ≡ (m >>= h)
counted (Ok x) f g h same = same x refl
counted (Err e) f g h same = refl

-- as many values as expressions
count_there : (m : Answer (Unit {0}) (List Value)) (v : Value) (n : ℕ) (y : List Value × R) → ((x : List Value × R) → m ≡ Ok x → length x.0 ≡ n)
    → (m >>= λ x. (let r : Answer (Unit {0}) (List Value) = Ok (v ∷ x.0, x.1) in r)) ≡ Ok y → length y.0 ≡ suc n
count_there (Ok x) v n y so e = ap (λ (r : Answer (Unit {0}) (List Value)). count_in r) (sym e) ∙ ap suc (so x refl)
  where
    count_in : Answer (Unit {0}) (List Value) → ℕ
    count_in (Ok x) = length x.0
    count_in (Err e) = 0
count_there (Err why) v n y so e = absurd (let bad : ⊥ = cc in bad)

count_behind : (m : Answer (Unit {0}) Value) (next : Value × R → Answer (Unit {0}) (List Value)) (n : ℕ) (y : List Value × R)
    → ((v : Value × R) → next v ≡ Ok y → length y.0 ≡ n) → (m >>= next) ≡ Ok y → length y.0 ≡ n
count_behind (Ok v) next n y so e = so v e
count_behind (Err why) next n y so e = absurd (let bad : ⊥ = cc in bad)

pub values_count : (call : Calls (Unit {0})) (env : Env) (es : core.Exprs) (st : R) (y : List Value × R) → operands.values call env es st ≡ Ok y → length y.0 ≡ steps.count_of es
unfolding operands.values steps.count_of
values_count call env core.NoExpr st y e = ap (λ (r : Answer (Unit {0}) (List Value)). count_of r) (sym e)
  where
    count_of : Answer (Unit {0}) (List Value) → ℕ
    count_of (Ok x) = length x.0
    count_of (Err e) = 0
values_count call env (core.AnExpr e es) st y eq =
    count_behind (value call env e st) _ (suc (steps.count_of es)) y
    (λ v eq'. count_there (operands.values call env es v.1) v.0 (steps.count_of es) y (λ x known. values_count call env es v.1 x known) eq') eq

reverse_first : (v : Value) (ys vs : List Value) → reverse (v ∷ ys) ++ vs ≡ reverse ys ++ (v ∷ vs)
reverse_first v ys vs = ap (λ (xs : List Value). xs ++ vs) (reverse-append (v ∷ []) ys) ∙ append_assoc (reverse ys) (v ∷ []) vs

-- as many values as there are on top
pub taken_is : (us vs : List Value) (n : ℕ) → length us ≡ n → steps.taken n (reverse us ++ vs) ≡ Ok (us, vs)
taken_is us vs n e =
    let xs : List Value = reverse us ++ vs in
    let many : length (reverse us) ≡ n = length-reverse us ∙ e in
    let room : nat_le n (length xs) ≡ true = le-leb n (length xs) (let all : length xs ≡ length (reverse us) + length vs = length-append (reverse us) vs in omega (arith, many, all)) in
    let front : take n xs ≡ reverse us = ap (λ k. take k xs) (sym many) ∙ take-append_seam (reverse us) vs in
    let rest : drop n xs ≡ vs = ap (λ k. drop k xs) (sym many) ∙ drop-append_seam (reverse us) vs in
    ap (λ (b : Truth). steps.taken_if b n xs) room
    ∙ ap (λ (ys : List Value). (let r : Ending (List Value × List Value) = Ok (reverse ys, drop n xs) in r)) front
    ∙ ap (λ (ys : List Value). (let r : Ending (List Value × List Value) = Ok (ys, drop n xs) in r)) (reverse-reverse us)
    ∙ ap (λ (ys : List Value). (let r : Ending (List Value × List Value) = Ok (us, ys) in r)) rest

module _ (funs : List core.Fun) (depth : ℕ) where
  -- an answer is what the machine behind a step comes to, or the end of the step, where so much is printed
  abbrev pub Follows : List ℤ → Ending Machine → Answer (Unit {0}) Value → Type 0
  Follows p (Ok m) answer = answer ≡ meaning funs depth m p
  Follows p (Err how) answer = (st : R) × (answer ≡ Err (record { how = how; run = st })) × (st.printed ≡ p)

  pub after_then : {A : Type 0} (p : List ℤ) (st : R) → st.printed ≡ p → (e : Ending A) (f : A → Ending Machine) (next : A → R → Answer (Unit {0}) Value)
      → ((x : A) → Follows p (f x) (next x st)) → Follows p (e >>= f) (after e next st)
  after_then p st same (Ok x) f next so = so x
  after_then p st same (Err how) f next so = (st, refl, same)

  -- ---- constructs

  pub act_follows : (w : Work) (m : Machine) (p : List ℤ)
      → Follows p (steps.acting w m) (after (acted w m.store m.values) (λ us st. working funs depth m.work us m.env m.callers st) (run_of funs depth m p))
  act_follows w m p =
      after_then p (run_of funs depth m p) refl (acted w m.store m.values) (λ vs. Ok (with_values vs m)) (λ us st. working funs depth m.work us m.env m.callers st) (λ x. refl)

  pub allocation_follows : (w : Work) (m : Machine) (p : List ℤ)
      → Follows p (steps.allocating w m) (after (allocated w m.store m.values)
      (λ new st. working funs depth m.work new.0 m.env m.callers (record st { store = new.1 })) (run_of funs depth m p))
  allocation_follows w m p =
      after_then p (run_of funs depth m p) refl (allocated w m.store m.values) (λ new. Ok (steps.in_store new.1 (with_values new.0 m)))
      (λ new st. working funs depth m.work new.0 m.env m.callers (record st { store = new.1 })) (λ x. refl)

  -- ---- expressions

  -- a value that a construct makes, on top
  abbrev onward : Machine → Value × R → Answer (Unit {0}) Value
  onward m a = working funs depth m.work (a.0 ∷ m.values) m.env m.callers a.1

  lift_top : (ws : List Work) (vs : List Value) (env : Env) (cs : List Env) (e : Ending Value) (st : R)
      → (lifted e st >>= λ a. working funs depth ws (a.0 ∷ vs) env cs a.1)
      ≡ after (e >>= λ v. Ok (v ∷ vs)) (λ us st. working funs depth ws us env cs st) st
  lift_top ws vs env cs (Ok v) st = refl
  lift_top ws vs env cs (Err how) st = refl

  stored_top : (ws : List Work) (vs : List Value) (env : Env) (cs : List Env) (e : Ending (Value × Blocks)) (st : R)
      → (stored e st >>= λ a. working funs depth ws (a.0 ∷ vs) env cs a.1)
      ≡ after (e >>= λ new. (let r : Ending (List Value × Blocks) = Ok (new.0 ∷ vs, new.1) in r)) (λ new st. working funs depth ws new.0 env cs (record st { store = new.1 })) st
  stored_top ws vs env cs (Ok new) st = refl
  stored_top ws vs env cs (Err how) st = refl

  read_follows : (o : Option (Option Value)) (m : Machine) (p : List ℤ) → Follows p (steps.with_read m (read_of o)) (read o (run_of funs depth m p) >>= onward m)
  read_follows None m p = (run_of funs depth m p, refl, refl)
  read_follows (Some None) m p = (run_of funs depth m p, refl, refl)
  read_follows (Some (Some v)) m p = refl

  pub operand_follows : (e : core.Expr) (m : Machine) (p : List ℤ) → Follows p (evaluated e m) (meant funs depth (Operand e) m p)
  unfolding working value evaluated acted allocated operands.value_by have_tags words_of
  operand_follows (core.Int n) m p = refl
  operand_follows (core.Bool b) m p = refl
  operand_follows (core.Var x) m p = read_follows (slice_get m.env x) m p
  operand_follows (core.Neg e) m p =
      in_turn (value (calls funs depth m.callers) m.env e (run_of funs depth m p)) _ (onward m) _
      (λ x. ap (λ (r : Answer (Unit {0}) Value). r >>= onward m) (arithmetic_is op.Sub (number (pos 0)) x.0 x.1)
      ∙ lift_top m.work m.values m.env m.callers (values.negated x.0) x.1)
  operand_follows (core.Chain first rest) m p = in_turn (value (calls funs depth m.callers) m.env first (run_of funs depth m p)) _ (onward m) _ (λ x. refl)
  operand_follows (core.Compare r left right) m p =
      in_turn (value (calls funs depth m.callers) m.env left (run_of funs depth m p)) _ (onward m) _
      (λ x. in_turn (value (calls funs depth m.callers) m.env right x.1) _ (onward m) _
      (λ y. ap (λ (r : Answer (Unit {0}) Value). r >>= onward m) (related_is r x.0 y.0 y.1)
      ∙ lift_top m.work m.values m.env m.callers (values.related r x.0 y.0) y.1))
  operand_follows (core.Index array index at) m p =
      in_turn (value (calls funs depth m.callers) m.env array (run_of funs depth m p)) _ (onward m) _
      (λ x. in_turn (value (calls funs depth m.callers) m.env index x.1) _ (onward m) _
      (λ y. ap (λ (r : Answer (Unit {0}) Value). r >>= onward m) (loaded_is x.0 y.0 y.1)
      ∙ lift_top m.work m.values m.env m.callers (values.loaded y.1.store x.0 y.0) y.1))
  operand_follows (core.Len array) m p =
      in_turn (value (calls funs depth m.callers) m.env array (run_of funs depth m p)) _ (onward m) _
      (λ x. ap (λ (r : Answer (Unit {0}) Value). r >>= onward m) (measured_is x.0 x.1)
      ∙ lift_top m.work m.values m.env m.callers (values.measured x.1.store x.0) x.1)
  operand_follows (core.Call fun args at) m p =
      counted (operands.values (calls funs depth m.callers) m.env args (run_of funs depth m p)) _ (onward m) _
      (λ x e. ap (λ (t : Ending (List Value × List Value)).
      after t (λ t st. calls funs depth m.callers fun t.0 st >>= λ a. working funs depth m.work (a.0 ∷ t.1) m.env m.callers a.1) x.1)
      (sym (taken_is x.0 m.values (steps.count_of args) (values_count (calls funs depth m.callers) m.env args (run_of funs depth m p) x e))))
  operand_follows (core.Make ty args at) m p =
      counted (operands.values (calls funs depth m.callers) m.env args (run_of funs depth m p)) _ (onward m) _
      (λ x e. ap (λ (r : Answer (Unit {0}) Value). r >>= onward m) (tuple_is ty x.0 x.1)
      ∙ stored_top m.work m.values m.env m.callers (values.tuple_made ty x.0 x.1.store) x.1
      ∙ ap (λ (t : Ending (List Value × List Value)).
      after (t >>= λ t. values.tuple_made ty t.0 x.1.store >>= λ new. (let r : Ending (List Value × Blocks) = Ok (new.0 ∷ t.1, new.1) in r))
      (λ new st. working funs depth m.work new.0 m.env m.callers (record st { store = new.1 })) x.1)
      (sym (taken_is x.0 m.values (steps.count_of args) (values_count (calls funs depth m.callers) m.env args (run_of funs depth m p) x e))))
  operand_follows (core.New ty len fill at) m p =
      in_turn (value (calls funs depth m.callers) m.env len (run_of funs depth m p)) _ (onward m) _
      (λ x. in_turn (value (calls funs depth m.callers) m.env fill x.1) _ (onward m) _
      (λ y. ap (λ (r : Answer (Unit {0}) Value). r >>= onward m) (array_is ty x.0 y.0 y.1)
      ∙ stored_top m.work m.values m.env m.callers (values.array_made ty x.0 y.0 y.1.store) y.1))

  pub operands_follow : (es : core.Exprs) (m : Machine) (p : List ℤ) → meant funs depth (Operands es) m p ≡ meaning funs depth (steps.operands es m) p
  unfolding working operands.values steps.operands
  operands_follow core.NoExpr m p = refl
  operands_follow (core.AnExpr e es) m p =
      in_turn (value (calls funs depth m.callers) m.env e (run_of funs depth m p)) _ _ _
      (λ x. in_turn (operands.values (calls funs depth m.callers) m.env es x.1) _ _ _
      (λ y. ap (λ (vs : List Value). working funs depth m.work vs m.env m.callers y.1) (reverse_first x.0 y.0 m.values)))

  -- the operators of a chain behind a value
  lift_links : (others : core.Links) (ws : List Work) (vs : List Value) (env : Env) (cs : List Env) (e : Ending Value) (st : R)
      → ((lifted e st >>= λ y. chained (calls funs depth cs) env others y.0 y.1) >>= λ a. working funs depth ws (a.0 ∷ vs) env cs a.1)
      ≡ after (e >>= λ v. Ok (v ∷ vs)) (λ us st. working funs depth (Links others ∷ ws) us env cs st) st
  unfolding working
  lift_links others ws vs env cs (Ok v) st = refl
  lift_links others ws vs env cs (Err how) st = refl

  links_on : (ls : core.Links) (ws : List Work) (vs : List Value) (env : Env) (cs : List Env) (callers : List Env) (units : ℕ) (store : Blocks) (p : List ℤ)
      → (let st : R = record { units = units; store = store; printed = p; log = tt } in
      let m : Machine = record { work = ws; values = vs; env = env; callers = cs; units = units; store = store } in
      working funs depth (Links ls ∷ ws) vs env cs st ≡ meaning funs depth (steps.linked ls m) p)
  unfolding working chained acted steps.linked
  links_on core.NoLink ws [] env cs callers units store p = refl
  links_on core.NoLink ws (left ∷ vs) env cs callers units store p = refl
  links_on (core.ALink o e at others) ws [] env cs callers units store p =
      bind_same (value (calls funs depth cs) env e (record { units = units; store = store; printed = p; log = tt })) _ _ (λ x. refl)
  links_on (core.ALink o e at others) ws (left ∷ vs) env cs callers units store p =
      in_turn (value (calls funs depth cs) env e (record { units = units; store = store; printed = p; log = tt })) _ _ _
      (λ x. ap (λ (r : Answer (Unit {0}) Value).
      (r >>= λ y. chained (calls funs depth cs) env others y.0 y.1) >>= λ a. working funs depth ws (a.0 ∷ vs) env cs a.1) (arithmetic_is o left x.0 x.1)
      ∙ lift_links others ws vs env cs (values.joined o left x.0) x.1)

  pub links_follow : (ls : core.Links) (m : Machine) (p : List ℤ) → meant funs depth (Links ls) m p ≡ meaning funs depth (steps.linked ls m) p
  links_follow ls m p = links_on ls m.work m.values m.env m.callers m.callers m.units m.store p

  -- ---- tests

  -- the truth value of a test, on top
  abbrev true_onward : List Work → List Value → Env → List Env → Truth × R → Answer (Unit {0}) Value
  true_onward ws vs env cs a = working funs depth ws (truth_value a.0 ∷ vs) env cs a.1

  lift_truth : (ws : List Work) (vs : List Value) (env : Env) (cs : List Env) (e : Ending Truth) (st : R)
      → (lifted e st >>= true_onward ws vs env cs)
      ≡ after (e >>= λ b. Ok (truth_value (steps.turned_if false b) ∷ vs)) (λ us st. working funs depth ws us env cs st) st
  lift_truth ws vs env cs (Ok b) st = refl
  lift_truth ws vs env cs (Err how) st = refl

  opposite : (ws : List Work) (vs : List Value) (env : Env) (cs : List Env) (b : Truth) (st : R)
      → working funs depth ws (truth_value (not b) ∷ vs) env cs st ≡ working funs depth (Opposite ∷ ws) (truth_value b ∷ vs) env cs st
  unfolding working acted
  opposite ws vs env cs true st = refl
  opposite ws vs env cs false st = refl

  where_all : (others : core.Tests) (ws : List Work) (vs : List Value) (env : Env) (cs : List Env) (b : Truth) (st : R)
      → (unless true b (λ st. all_hold (calls funs depth cs) env others st) st >>= true_onward ws vs env cs)
      ≡ working funs depth (WhereTrue others ∷ ws) (truth_value b ∷ vs) env cs st
  unfolding working
  where_all others ws vs env cs true st = refl
  where_all others ws vs env cs false st = refl

  where_any : (others : core.Tests) (ws : List Work) (vs : List Value) (env : Env) (cs : List Env) (b : Truth) (st : R)
      → (unless false b (λ st. any_holds (calls funs depth cs) env others st) st >>= true_onward ws vs env cs)
      ≡ working funs depth (WhereFalse others ∷ ws) (truth_value b ∷ vs) env cs st
  unfolding working
  where_any others ws vs env cs true st = refl
  where_any others ws vs env cs false st = refl

  pub all_follow : (ts : core.Tests) (m : Machine) (p : List ℤ) → meant funs depth (AllParts ts) m p ≡ meaning funs depth (steps.all_parts ts m) p
  unfolding working all_hold steps.all_parts
  all_follow core.NoTest m p = refl
  all_follow (core.ATest part others) m p =
      in_turn (holds (calls funs depth m.callers) m.env part (run_of funs depth m p)) _ (true_onward m.work m.values m.env m.callers) _
      (λ x. where_all others m.work m.values m.env m.callers x.0 x.1)

  pub any_follow : (ts : core.Tests) (m : Machine) (p : List ℤ) → meant funs depth (AnyParts ts) m p ≡ meaning funs depth (steps.any_parts ts m) p
  unfolding working any_holds steps.any_parts
  any_follow core.NoTest m p = refl
  any_follow (core.ATest part others) m p =
      in_turn (holds (calls funs depth m.callers) m.env part (run_of funs depth m p)) _ (true_onward m.work m.values m.env m.callers) _
      (λ x. where_any others m.work m.values m.env m.callers x.0 x.1)

  pub test_follows : (test : core.Test) (m : Machine) (p : List ℤ) → meant funs depth (Decide test) m p ≡ meaning funs depth (steps.deciding test m) p
  unfolding working holds acted steps.deciding
  test_follows (core.Leaf e) m p =
      in_turn (value (calls funs depth m.callers) m.env e (run_of funs depth m p)) _ (true_onward m.work m.values m.env m.callers) _
      (λ x. ap (λ (r : Answer (Unit {0}) Truth). r >>= true_onward m.work m.values m.env m.callers) (decided_is x.0 x.1)
      ∙ lift_truth m.work m.values m.env m.callers (values.decided x.0) x.1)
  test_follows (core.All parts) m p = all_follow parts m p
  test_follows (core.Any parts) m p = any_follow parts m p
  test_follows (core.Not part) m p =
      in_turn (holds (calls funs depth m.callers) m.env part (run_of funs depth m p)) _ (true_onward m.work m.values m.env m.callers) _
      (λ x. opposite m.work m.values m.env m.callers x.0 x.1)

  -- ---- behind a truth value

  on_true : (others : core.Tests) (m : Machine) (p : List ℤ) (b : Truth) (vs : List Value)
      → Follows p (steps.where_true others b (with_values vs m))
      (unless_true b (λ st. all_hold (calls funs depth m.callers) m.env others st) (run_of funs depth m p) >>= true_onward m.work vs m.env m.callers)
  unfolding working
  on_true others m p true vs = refl
  on_true others m p false vs = refl

  pub where_true_follows : (others : core.Tests) (m : Machine) (p : List ℤ) → Follows p (steps.by_truth m (steps.where_true others)) (meant funs depth (WhereTrue others) m p)
  unfolding working
  where_true_follows others m p = after_then p (run_of funs depth m p) refl (steps.truth_of m.values) _ _ (λ t. on_true others m p t.0 t.1)

  on_false : (others : core.Tests) (m : Machine) (p : List ℤ) (b : Truth) (vs : List Value)
      → Follows p (steps.where_false others b (with_values vs m))
      (unless_false b (λ st. any_holds (calls funs depth m.callers) m.env others st) (run_of funs depth m p) >>= true_onward m.work vs m.env m.callers)
  unfolding working
  on_false others m p true vs = refl
  on_false others m p false vs = refl

  pub where_false_follows : (others : core.Tests) (m : Machine) (p : List ℤ) → Follows p (steps.by_truth m (steps.where_false others)) (meant funs depth (WhereFalse others) m p)
  unfolding working
  where_false_follows others m p = after_then p (run_of funs depth m p) refl (steps.truth_of m.values) _ _ (λ t. on_false others m p t.0 t.1)
