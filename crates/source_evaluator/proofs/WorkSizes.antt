-- How much work there is: a step leaves less, or takes a unit of fuel.
use Rattle.std.proofs.Common.{◌≡◌, ◌+◌, ◌*◌, ◌<◌, ◌≤◌, ℕ, zero, suc, ℤ, Bool as Truth, true, false, List, [], ◌∷◌, length, nat_lt, Option, Some, None, Ok, Err, refl, arith}
use Rattle.std.specs.Prelude.{slice_get, ◌==◌}
use Rattle.xan_seq.specs.Answers.{◌>>=◌}
use Rattle.xanadu_tree.specs.Plain as core
use Rattle.typed_core.specs.SourceValues.{Value}
use Rattle.typed_core.specs.SourceRuns.{Env}
use Rattle.source_values.specs.Values.{Ending, or_stuck}
use Rattle.source_values.specs.Variables as variables
use Rattle.source_evaluator.specs.Steps as steps
use Rattle.source_evaluator.specs.Steps.{Machine, Event, Goes, Says, acted, allocated, unwound, with_values}
use Rattle.source_evaluator.specs.Work.{Work, Operand, Operands, Links, Join, Negate, Relate, ReadCell, Measure, MakeTuple, MakeArray, CallWith, Decide, Decided, AllParts, AnyParts, WhereTrue, WhereFalse, Opposite, Statements, SetTo, SplitTo, PutCell, Forget, Say, Choose, Loop, Turn, GiveBack, Back}

abbrev mutual
  pub size_of : core.Expr → ℕ
  size_of (core.Int n) = 1
  size_of (core.Bool b) = 1
  size_of (core.Var x) = 1
  size_of (core.Neg e) = size_of e + 2
  size_of (core.Chain first rest) = size_of first + links_size rest + 1
  size_of (core.Compare r left right) = size_of left + size_of right + 2
  size_of (core.Index array index at) = size_of array + size_of index + 2
  size_of (core.Len array) = size_of array + 2
  size_of (core.Call fun args at) = sizes_of args + 2
  size_of (core.Make ty args at) = sizes_of args + 2
  size_of (core.New ty len fill at) = size_of len + size_of fill + 2

  pub sizes_of : core.Exprs → ℕ
  sizes_of core.NoExpr = 1
  sizes_of (core.AnExpr e es) = size_of e + sizes_of es + 1

  pub links_size : core.Links → ℕ
  links_size core.NoLink = 1
  links_size (core.ALink o e at others) = size_of e + links_size others + 2

abbrev mutual
  pub test_size : core.Test → ℕ
  test_size (core.Leaf e) = size_of e + 2
  test_size (core.All parts) = tests_size parts + 1
  test_size (core.Any parts) = tests_size parts + 1
  test_size (core.Not part) = test_size part + 2

  pub tests_size : core.Tests → ℕ
  tests_size core.NoTest = 1
  tests_size (core.ATest part others) = test_size part + tests_size others + 2

abbrev mutual
  pub stmt_size : core.Stmt → ℕ
  stmt_size (core.Set x e) = size_of e + 2
  stmt_size (core.Split xs e at) = size_of e + 2
  stmt_size (core.Store array index e at) = size_of array + size_of index + size_of e + 2
  stmt_size (core.Do e) = size_of e + 2
  stmt_size (core.Print e) = size_of e + 2
  stmt_size (core.If test on_true on_false join at) = test_size test + block_size on_true + block_size on_false + 2
  stmt_size (core.While test head body at) = test_size test + block_size body + 6
  stmt_size (core.Return None at) = 2
  stmt_size (core.Return (Some e) at) = size_of e + 2

  pub block_size : core.Stmts → ℕ
  block_size core.NoStmt = 1
  block_size (core.AStmt s ss) = stmt_size s + block_size ss + 1

abbrev pub weight : Work → ℕ
weight (Operand e) = size_of e
weight (Operands es) = sizes_of es
weight (Links ls) = links_size ls
weight (Decide test) = test_size test
weight (AllParts ts) = tests_size ts
weight (AnyParts ts) = tests_size ts
weight (WhereTrue ts) = tests_size ts + 1
weight (WhereFalse ts) = tests_size ts + 1
weight (Statements ss) = block_size ss
weight (Choose one two) = block_size one + block_size two + 1
weight (Loop test body) = test_size test + 2
weight _ = 1

-- what it may leave, with a unit of fuel
abbrev pub bound : Work → ℕ
bound (Loop test body) = test_size test + block_size body + 5
bound (Turn test body) = test_size test + block_size body + 5
bound w = weight w

abbrev pub total : List Work → ℕ
total [] = 0
total (w ∷ ws) = weight w + total ws

abbrev pub Fits : ℕ → List Work → Type 0
Fits k [] = Unit {0}
Fits k (w ∷ ws) = (bound w ≤ k) × Fits k ws

abbrev pub measure : ℕ → Machine → ℕ
measure k m = m.units * suc k + total m.work

-- less is left, and it fits
abbrev pub Less : ℕ → ℕ → Ending Machine → Type 0
Less k n (Ok m) = (measure k m < n) × Fits k m.work
Less k n (Err how) = Unit {0}

less_then : {A : Type 0} (k n : ℕ) (e : Ending A) (f : A → Ending Machine) → ((x : A) → Less k n (f x)) → Less k n (e >>= f)
less_then k n (Ok x) f so = so x
less_then k n (Err how) f so = tt

acting_less : (k : ℕ) (w : Work) (m : Machine) → Fits k m.work → Less k (m.units * suc k + (1 + total m.work)) (steps.acting w m)
acting_less k w m fits = less_then k _ (acted w m.store m.values) _ (λ vs. (omega arith, fits))

allocating_less : (k : ℕ) (w : Work) (m : Machine) → Fits k m.work → Less k (m.units * suc k + (1 + total m.work)) (steps.allocating w m)
allocating_less k w m fits = less_then k _ (allocated w m.store m.values) _ (λ new. (omega arith, fits))

operand_less : (k : ℕ) (e : core.Expr) (m : Machine) → size_of e ≤ k → Fits k m.work → Less k (m.units * suc k + (size_of e + total m.work)) (steps.evaluated e m)
unfolding steps.evaluated
operand_less k (core.Int n) m h fits = (omega arith, fits)
operand_less k (core.Bool b) m h fits = (omega arith, fits)
operand_less k (core.Var x) m h fits = less_then k _ (variables.read_of (slice_get m.env x)) _ (λ v. (omega arith, fits))
operand_less k (core.Neg e) m h fits = (omega arith, (omega (arith, h), (omega (arith, h), fits)))
operand_less k (core.Chain first rest) m h fits = (omega arith, (omega (arith, h), (omega (arith, h), fits)))
operand_less k (core.Compare r left right) m h fits = (omega arith, (omega (arith, h), (omega (arith, h), (omega (arith, h), fits))))
operand_less k (core.Index array index at) m h fits = (omega arith, (omega (arith, h), (omega (arith, h), (omega (arith, h), fits))))
operand_less k (core.Len array) m h fits = (omega arith, (omega (arith, h), (omega (arith, h), fits)))
operand_less k (core.Call fun args at) m h fits = (omega arith, (omega (arith, h), (omega (arith, h), fits)))
operand_less k (core.Make ty args at) m h fits = (omega arith, (omega (arith, h), (omega (arith, h), fits)))
operand_less k (core.New ty len fill at) m h fits = (omega arith, (omega (arith, h), (omega (arith, h), (omega (arith, h), fits))))

operands_less : (k : ℕ) (es : core.Exprs) (m : Machine) → sizes_of es ≤ k → Fits k m.work
    → Less k (m.units * suc k + (sizes_of es + total m.work)) (let r : Ending Machine = Ok (steps.operands es m) in r)
unfolding steps.operands
operands_less k core.NoExpr m h fits = (omega arith, fits)
operands_less k (core.AnExpr e es) m h fits = (omega arith, (omega (arith, h), (omega (arith, h), fits)))

links_less : (k : ℕ) (ls : core.Links) (m : Machine) → links_size ls ≤ k → Fits k m.work
    → Less k (m.units * suc k + (links_size ls + total m.work)) (let r : Ending Machine = Ok (steps.linked ls m) in r)
unfolding steps.linked
links_less k core.NoLink m h fits = (omega arith, fits)
links_less k (core.ALink o e at others) m h fits = (omega arith, (omega (arith, h), (omega (arith, h), (omega (arith, h), fits))))

all_less : (k : ℕ) (ts : core.Tests) (m : Machine) → tests_size ts ≤ k → Fits k m.work
    → Less k (m.units * suc k + (tests_size ts + total m.work)) (let r : Ending Machine = Ok (steps.all_parts ts m) in r)
unfolding steps.all_parts
all_less k core.NoTest m h fits = (omega arith, fits)
all_less k (core.ATest part others) m h fits = (omega arith, (omega (arith, h), (omega (arith, h), fits)))

any_less : (k : ℕ) (ts : core.Tests) (m : Machine) → tests_size ts ≤ k → Fits k m.work
    → Less k (m.units * suc k + (tests_size ts + total m.work)) (let r : Ending Machine = Ok (steps.any_parts ts m) in r)
unfolding steps.any_parts
any_less k core.NoTest m h fits = (omega arith, fits)
any_less k (core.ATest part others) m h fits = (omega arith, (omega (arith, h), (omega (arith, h), fits)))

test_less : (k : ℕ) (test : core.Test) (m : Machine) → test_size test ≤ k → Fits k m.work
    → Less k (m.units * suc k + (test_size test + total m.work)) (let r : Ending Machine = Ok (steps.deciding test m) in r)
unfolding steps.deciding
test_less k (core.Leaf e) m h fits = (omega arith, (omega (arith, h), (omega (arith, h), fits)))
test_less k (core.All parts) m h fits = (let l = all_less k parts m (omega (arith, h)) fits in (omega (arith, l.0), l.1))
test_less k (core.Any parts) m h fits = (let l = any_less k parts m (omega (arith, h)) fits in (omega (arith, l.0), l.1))
test_less k (core.Not part) m h fits = (omega arith, (omega (arith, h), (omega (arith, h), fits)))

where_true_less : (k : ℕ) (others : core.Tests) (m : Machine) (b : Truth) (vs : List Value) → tests_size others + 1 ≤ k → Fits k m.work
    → Less k (m.units * suc k + (tests_size others + 1 + total m.work)) (steps.where_true others b (with_values vs m))
where_true_less k others m true vs h fits = (omega arith, (omega (arith, h), fits))
where_true_less k others m false vs h fits = (omega arith, fits)

where_false_less : (k : ℕ) (others : core.Tests) (m : Machine) (b : Truth) (vs : List Value) → tests_size others + 1 ≤ k → Fits k m.work
    → Less k (m.units * suc k + (tests_size others + 1 + total m.work)) (steps.where_false others b (with_values vs m))
where_false_less k others m true vs h fits = (omega arith, fits)
where_false_less k others m false vs h fits = (omega arith, (omega (arith, h), fits))

begun_less : (k : ℕ) (s : core.Stmt) (m : Machine) → stmt_size s ≤ k → Fits k m.work
    → Less k (m.units * suc k + (stmt_size s + total m.work)) (let r : Ending Machine = Ok (steps.begun s m) in r)
unfolding steps.begun
begun_less k (core.Set x e) m h fits = (omega arith, (omega (arith, h), (omega (arith, h), fits)))
begun_less k (core.Split xs e at) m h fits = (omega arith, (omega (arith, h), (omega (arith, h), fits)))
begun_less k (core.Store array index e at) m h fits = (omega arith, (omega (arith, h), (omega (arith, h), (omega (arith, h), (omega (arith, h), fits)))))
begun_less k (core.Do e) m h fits = (omega arith, (omega (arith, h), (omega (arith, h), fits)))
begun_less k (core.Print e) m h fits = (omega arith, (omega (arith, h), (omega (arith, h), fits)))
begun_less k (core.If test on_true on_false join at) m h fits = (omega arith, (omega (arith, h), (omega (arith, h), fits)))
begun_less k (core.While test head body at) m h fits = (omega arith, (omega (arith, h), fits))
begun_less k (core.Return None at) m h fits = (omega arith, (omega (arith, h), fits))
begun_less k (core.Return (Some e) at) m h fits = (omega arith, (omega (arith, h), (omega (arith, h), fits)))

block_less : (k : ℕ) (ss : core.Stmts) (m : Machine) → block_size ss ≤ k → Fits k m.work
    → Less k (m.units * suc k + (block_size ss + total m.work)) (let r : Ending Machine = Ok (steps.statements ss m) in r)
unfolding steps.statements
block_less k core.NoStmt m h fits = (omega arith, fits)
block_less k (core.AStmt s ss) m h fits =
    (let l = begun_less k s (steps.doing (Statements ss ∷ []) m) (omega (arith, h)) (omega (arith, h), fits) in (omega (arith, l.0), l.1))

chosen_less : (k : ℕ) (one two : core.Stmts) (m : Machine) (b : Truth) (vs : List Value) → block_size one + block_size two + 1 ≤ k → Fits k m.work
    → Less k (m.units * suc k + (block_size one + block_size two + 1 + total m.work)) (steps.chosen one two b (with_values vs m))
chosen_less k one two m true vs h fits = (omega arith, (omega (arith, h), fits))
chosen_less k one two m false vs h fits = (omega arith, (omega (arith, h), fits))

-- a unit is worth more than a turn or a body leaves
next_unit : (units k more : ℕ) → more ≤ k → units * suc k + more < suc units * suc k
next_unit units k more h = grind arith

paid_less : (k units : ℕ) (test : core.Test) (body : core.Stmts) (m : Machine) (vs : List Value) → test_size test + block_size body + 5 ≤ k → Fits k m.work
    → Less k (units * suc k + (1 + total m.work))
    (steps.paid units >>= λ u. Ok (steps.doing (Statements body ∷ Loop test body ∷ []) (steps.with_units u (with_values vs m))))
paid_less k zero test body m vs h fits = tt
paid_less k (suc units) test body m vs h fits =
    (let more = next_unit units k (block_size body + (test_size test + 2)) (omega (arith, h)) in
    (omega (arith, more), (omega (arith, h), (omega (arith, h), fits))))

turned_less : (k : ℕ) (test : core.Test) (body : core.Stmts) (m : Machine) (b : Truth) (vs : List Value) → test_size test + block_size body + 5 ≤ k → Fits k m.work
    → Less k (m.units * suc k + (1 + total m.work)) (steps.turned test body b (with_values vs m))
turned_less k test body m false vs h fits = (omega arith, fits)
turned_less k test body m true vs h fits = paid_less k m.units test body m vs h fits

entered_less : (k units : ℕ) (fit : Truth) (f : core.Fun) (args : List Value) (m : Machine) (vs : List Value) → block_size f.body + 1 ≤ k → Fits k m.work
    → Less k (suc units * suc k + (1 + total m.work)) (steps.entered_if fit f args (steps.with_units units (with_values vs m)))
entered_less k units false f args m vs h fits = tt
entered_less k units true f args m vs h fits =
    (let more = next_unit units k (block_size f.body + 1) (omega (arith, h)) in
    (omega (arith, more), (omega (arith, h), (omega (arith, h), fits))))

activated_less : (k units : ℕ) (f : core.Fun) (args : List Value) (m : Machine) (vs : List Value) → block_size f.body + 1 ≤ k → Fits k m.work
    → Less k (units * suc k + (1 + total m.work))
    (steps.paid units >>= λ u. steps.entered_if (length args == length f.params) f args (steps.with_units u (with_values vs m)))
activated_less k zero f args m vs h fits = tt
activated_less k (suc units) f args m vs h fits = entered_less k units (length args == length f.params) f args m vs h fits

-- all bodies fit
pub record BodiesFit (k : ℕ) (funs : List core.Fun) : Type 0 where
  pub by : (n : ℕ) (f : core.Fun) → slice_get funs n ≡ Some f → block_size f.body + 1 ≤ k

called_less : (k : ℕ) (room : Truth) (found : Option core.Fun) (args : List Value) (m : Machine) (vs : List Value)
    → ((f : core.Fun) → found ≡ Some f → block_size f.body + 1 ≤ k) → Fits k m.work
    → Less k (m.units * suc k + (1 + total m.work)) (or_stuck found (λ f. steps.activated room f args (with_values vs m)))
called_less k room None args m vs h fits = tt
called_less k false (Some f) args m vs h fits = tt
called_less k true (Some f) args m vs h fits = activated_less k m.units f args m vs (h f refl) fits

pub going_less : (k : ℕ) (funs : List core.Fun) (depth : ℕ) (w : Work) (m : Machine) → BodiesFit k funs → bound w ≤ k → Fits k m.work
    → Less k (m.units * suc k + (weight w + total m.work)) (steps.going funs depth w m)
unfolding steps.going
going_less k funs depth (Operand e) m bodies h fits = operand_less k e m h fits
going_less k funs depth (Operands es) m bodies h fits = operands_less k es m h fits
going_less k funs depth (Links ls) m bodies h fits = links_less k ls m h fits
going_less k funs depth (Join o) m bodies h fits = acting_less k (Join o) m fits
going_less k funs depth Negate m bodies h fits = acting_less k Negate m fits
going_less k funs depth (Relate r) m bodies h fits = acting_less k (Relate r) m fits
going_less k funs depth ReadCell m bodies h fits = acting_less k ReadCell m fits
going_less k funs depth Measure m bodies h fits = acting_less k Measure m fits
going_less k funs depth (MakeTuple ty count) m bodies h fits = allocating_less k (MakeTuple ty count) m fits
going_less k funs depth (MakeArray ty) m bodies h fits = allocating_less k (MakeArray ty) m fits
going_less k funs depth (CallWith fun count) m bodies h fits =
    less_then k _ (steps.taken count m.values) _
    (λ t. called_less k (nat_lt (suc (length m.callers)) depth) (slice_get funs fun) t.0 m t.1 (λ f e. bodies.by fun f e) fits)
going_less k funs depth (Decide test) m bodies h fits = test_less k test m h fits
going_less k funs depth Decided m bodies h fits = acting_less k Decided m fits
going_less k funs depth (AllParts ts) m bodies h fits = all_less k ts m h fits
going_less k funs depth (AnyParts ts) m bodies h fits = any_less k ts m h fits
going_less k funs depth (WhereTrue ts) m bodies h fits = less_then k _ (steps.truth_of m.values) _ (λ t. where_true_less k ts m t.0 t.1 h fits)
going_less k funs depth (WhereFalse ts) m bodies h fits = less_then k _ (steps.truth_of m.values) _ (λ t. where_false_less k ts m t.0 t.1 h fits)
going_less k funs depth Opposite m bodies h fits = acting_less k Opposite m fits
going_less k funs depth (Statements ss) m bodies h fits = block_less k ss m h fits
going_less k funs depth (SetTo x) m bodies h fits =
    less_then k _ (steps.one_of m.values) _ (λ t. less_then k _ (variables.set_variable m.env x t.0) _ (λ env. (omega arith, fits)))
going_less k funs depth (SplitTo xs) m bodies h fits =
    less_then k _ (steps.one_of m.values) _ (λ t. less_then k _ _ _ (λ parts. less_then k _ (variables.set_all m.env xs parts) _ (λ env. (omega arith, fits))))
going_less k funs depth PutCell m bodies h fits = allocating_less k PutCell m fits
going_less k funs depth Forget m bodies h fits = acting_less k Forget m fits
going_less k funs depth Say m bodies h fits = tt
going_less k funs depth (Choose one two) m bodies h fits = less_then k _ (steps.truth_of m.values) _ (λ t. chosen_less k one two m t.0 t.1 h fits)
going_less k funs depth (Loop test body) m bodies h fits = (omega arith, (omega (arith, h), (h, fits)))
going_less k funs depth (Turn test body) m bodies h fits = less_then k _ (steps.truth_of m.values) _ (λ t. turned_less k test body m t.0 t.1 h fits)
going_less k funs depth GiveBack m bodies h fits = tt
going_less k funs depth Back m bodies h fits = tt

-- ---- any step

-- the same of what a step tells
abbrev pub LessTold : ℕ → ℕ → Ending (Event × Machine) → Type 0
LessTold k n (Ok one) = (measure k one.1 < n) × Fits k one.1.work
LessTold k n (Err how) = Unit {0}

told_less : (k n : ℕ) (made : Ending Machine) → Less k n made → LessTold k n (steps.told Goes made)
told_less k n (Ok m) so = so
told_less k n (Err how) so = tt

less_told : {A : Type 0} (k n : ℕ) (e : Ending A) (f : A → Ending (Event × Machine)) → ((x : A) → LessTold k n (f x)) → LessTold k n (e >>= f)
less_told k n (Ok x) f so = so x
less_told k n (Err how) f so = tt

says_less : (k : ℕ) (number : Option ℤ) (m : Machine) (vs : List Value) → Fits k m.work
    → LessTold k (m.units * suc k + (1 + total m.work)) (or_stuck number (λ n. Ok (Says n, with_values vs m)))
says_less k None m vs fits = tt
says_less k (Some n) m vs fits = (omega arith, fits)

resumed_less : (k n : ℕ) (v : Value) (ws : List Work) (cs : List Env) (m : Machine) → m.units * suc k + total ws < n → Fits k ws
    → LessTold k n (steps.told Goes (steps.resumed v ws cs m))
resumed_less k n v ws [] m h fits = tt
resumed_less k n v ws (env ∷ cs) m h fits = (h, fits)

gives_less : (k n : ℕ) (v : Value) (ws : List Work) (m : Machine) → m.units * suc k + total ws < n → Fits k ws → LessTold k n (steps.given v (unwound ws) m)
unfolding unwound
gives_less k n v [] m h fits = (h, tt)
gives_less k n v (Back ∷ ws) m h fits = resumed_less k n v ws m.callers m (omega (arith, h)) fits.1
gives_less k n v (w ∷ ws) m h fits = gives_less k n v ws m (omega (arith, h)) fits.1

pub done_less : (k : ℕ) (funs : List core.Fun) (depth : ℕ) (w : Work) (m : Machine) → BodiesFit k funs → bound w ≤ k → Fits k m.work
    → LessTold k (m.units * suc k + (weight w + total m.work)) (steps.done funs depth w m)
unfolding steps.done
done_less k funs depth Say m bodies h fits = less_told k _ (steps.one_of m.values) _ (λ t. says_less k _ m t.1 fits)
done_less k funs depth GiveBack m bodies h fits =
    less_told k _ (steps.one_of m.values) _ (λ t. gives_less k _ t.0 m.work (with_values t.1 m) (omega arith) fits)
done_less k funs depth w m bodies h fits = told_less k _ (steps.going funs depth w m) (going_less k funs depth w m bodies h fits)

-- a step leaves less, or ends
pub step_less : (k : ℕ) (funs : List core.Fun) (depth : ℕ) (m : Machine) → BodiesFit k funs → Fits k m.work → LessTold k (measure k m) (steps.stepped funs depth m)
step_less k funs depth m bodies fits = next_less k funs depth m.work m bodies fits
  where
    next_less : (k : ℕ) (funs : List core.Fun) (depth : ℕ) (ws : List Work) (m : Machine) → BodiesFit k funs → Fits k ws
        → LessTold k (m.units * suc k + total ws) (steps.next funs depth ws m)
    next_less k funs depth [] m bodies fits = tt
    next_less k funs depth (w ∷ ws) m bodies fits = done_less k funs depth w (record m { work = ws }) bodies fits.0 fits.1
