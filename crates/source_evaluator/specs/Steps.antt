-- A machine that does the work on top, and puts in its place what that leaves to do.
use Rattle.std.specs.Prelude.{ℕ, zero, suc, ◌-◌, ◌==◌, ℤ, pos, Bool as Truth, true, false, not, List, [], ◌∷◌, ◌++◌, map, replicate, reverse, take, drop, length, slice_get, slice_set, nat_lt, nat_le, Option, Some, None, Result, Ok, Err, if◌then◌else◌}
use Rattle.xan_io.specs.Outcome.{How, NoStore, Stuck, Running}
use Rattle.xan_seq.specs.Answers.{◌>>=◌}
use Rattle.xanadu_tree.specs.Plain as core
use Rattle.xanadu_tree.specs.declared.expr.Op.{Op}
use Rattle.xanadu_tree.specs.declared.expr.Rel.{Rel}
use Rattle.typed_core.specs.SourceValues.{Value, Blocks, number}
use Rattle.typed_core.specs.SourceValues as tags
use Rattle.typed_core.specs.SourceRuns.{Env}
use Rattle.typed_core.specs.SourceCalls.{env_of}
use Rattle.source_values.specs.Values as values
use Rattle.source_values.specs.Values.{Ending, stuck, or_stuck, truth_value}
use Rattle.source_values.specs.Variables.{read_of, set_variable, set_all}
use Rattle.source_evaluator.specs.Work.{Work, Operand, Operands, Links, Join, Negate, Relate, ReadCell, Measure, MakeTuple, MakeArray, CallWith, Decide, Decided, AllParts, AnyParts, WhereTrue, WhereFalse, Opposite, Statements, SetTo, SplitTo, PutCell, Forget, Say, Choose, Loop, Turn, GiveBack, Back}

pub record Machine : Type 0 where
  -- what is next first
  pub work : List Work
  -- what came last first
  pub values : List Value
  -- the variables of the function that runs, and of those that wait, the last caller first
  pub env : Env
  pub callers : List Env
  pub units : ℕ
  pub store : Blocks

-- what a step tells
pub data Event : Type 0 where
  Goes : Event
  Says : ℤ → Event
  -- `main` has returned
  Returns : ℤ → Event

abbrev pub Moved : Type 0
Moved = Ending Machine

-- ---- small changes

-- more to do, before all else
abbrev pub doing : List Work → Machine → Machine
doing more m = record m { work = more ++ m.work }

abbrev pub with_value : Value → Machine → Machine
with_value v m = record m { values = v ∷ m.values }

abbrev pub in_store : Blocks → Machine → Machine
in_store store m = record m { store = store }

-- as many values as these, in the order in which they came
abbrev pub taken_if : Truth → (count : ℕ) → List Value → Ending (List Value × List Value)
taken_if true count vs = Ok (reverse (take count vs), drop count vs)
taken_if false count vs = stuck

abbrev pub taken : (count : ℕ) → List Value → Ending (List Value × List Value)
taken count vs = taken_if (nat_le count (length vs)) count vs

abbrev pub with_values : List Value → Machine → Machine
with_values vs m = record m { values = vs }

-- ---- expressions

abbrev pub with_read : Machine → Ending Value → Moved
with_read m read = read >>= λ v. Ok (with_value v m)

unfoldable pub count_of : core.Exprs → ℕ
count_of core.NoExpr = 0
count_of (core.AnExpr e es) = suc (count_of es)

unfoldable pub evaluated : core.Expr → Machine → Moved
evaluated (core.Int n) m = Ok (with_value (number n) m)
evaluated (core.Bool b) m = Ok (with_value (truth_value b) m)
evaluated (core.Var x) m = with_read m (read_of (slice_get m.env x))
evaluated (core.Neg e) m = Ok (doing (Operand e ∷ Negate ∷ []) m)
evaluated (core.Chain first rest) m = Ok (doing (Operand first ∷ Links rest ∷ []) m)
evaluated (core.Compare r left right) m = Ok (doing (Operand left ∷ Operand right ∷ Relate r ∷ []) m)
evaluated (core.Index array index at) m = Ok (doing (Operand array ∷ Operand index ∷ ReadCell ∷ []) m)
evaluated (core.Len array) m = Ok (doing (Operand array ∷ Measure ∷ []) m)
evaluated (core.Call fun args at) m = Ok (doing (Operands args ∷ CallWith fun (count_of args) ∷ []) m)
evaluated (core.Make ty args at) m = Ok (doing (Operands args ∷ MakeTuple ty (count_of args) ∷ []) m)
evaluated (core.New ty len fill at) m = Ok (doing (Operand len ∷ Operand fill ∷ MakeArray ty ∷ []) m)

unfoldable pub operands : core.Exprs → Machine → Machine
operands core.NoExpr m = m
operands (core.AnExpr e es) m = doing (Operand e ∷ Operands es ∷ []) m

unfoldable pub linked : core.Links → Machine → Machine
linked core.NoLink m = m
linked (core.ALink o e at others) m = doing (Operand e ∷ Join o ∷ Links others ∷ []) m

-- ---- constructs, by the values on top

-- one value, two, three, in the order in which they came, and those below
abbrev pub one_of : List Value → Ending (Value × List Value)
one_of [] = stuck
one_of (v ∷ vs) = Ok (v, vs)

abbrev pub two_of : List Value → Ending (Value × Value × List Value)
two_of (b ∷ a ∷ vs) = Ok (a, b, vs)
two_of _ = stuck

abbrev pub three_of : List Value → Ending (Value × Value × Value × List Value)
three_of (c ∷ b ∷ a ∷ vs) = Ok (a, b, c, vs)
three_of _ = stuck

-- a truth value, or the other one
abbrev pub turned_if : (opposite truth : Truth) → Truth
turned_if true truth = not truth
turned_if false truth = truth

-- what stands on top behind a construct that changes nothing else
abbrev pub top_joined : Op → List Value → Ending (List Value)
top_joined o vs = two_of vs >>= λ t. values.joined o t.0 t.1 >>= λ v. Ok (v ∷ t.2)

abbrev pub top_negated : List Value → Ending (List Value)
top_negated vs = one_of vs >>= λ t. values.negated t.0 >>= λ v. Ok (v ∷ t.1)

abbrev pub top_related : Rel → List Value → Ending (List Value)
top_related r vs = two_of vs >>= λ t. values.related r t.0 t.1 >>= λ v. Ok (v ∷ t.2)

abbrev pub top_loaded : Blocks → List Value → Ending (List Value)
top_loaded store vs = two_of vs >>= λ t. values.loaded store t.0 t.1 >>= λ v. Ok (v ∷ t.2)

abbrev pub top_measured : Blocks → List Value → Ending (List Value)
top_measured store vs = one_of vs >>= λ t. values.measured store t.0 >>= λ v. Ok (v ∷ t.1)

abbrev pub top_decided : (opposite : Truth) → List Value → Ending (List Value)
top_decided opposite vs = one_of vs >>= λ t. values.decided t.0 >>= λ b. Ok (truth_value (turned_if opposite b) ∷ t.1)

abbrev pub top_forgotten : List Value → Ending (List Value)
top_forgotten vs = one_of vs >>= λ t. Ok t.1

unfoldable pub acted : Work → Blocks → List Value → Ending (List Value)
acted (Join o) store vs = top_joined o vs
acted Negate store vs = top_negated vs
acted (Relate r) store vs = top_related r vs
acted ReadCell store vs = top_loaded store vs
acted Measure store vs = top_measured store vs
acted Decided store vs = top_decided false vs
acted Opposite store vs = top_decided true vs
acted Forget store vs = top_forgotten vs
acted _ store vs = stuck

-- the same, and the store behind it
abbrev pub tuple_on_top : (ty count : ℕ) → Blocks → List Value → Ending (List Value × Blocks)
tuple_on_top ty count store vs = taken count vs >>= λ t. values.tuple_made ty t.0 store >>= λ new. Ok (new.0 ∷ t.1, new.1)

abbrev pub array_on_top : (ty : ℕ) → Blocks → List Value → Ending (List Value × Blocks)
array_on_top ty store vs = two_of vs >>= λ t. values.array_made ty t.0 t.1 store >>= λ new. Ok (new.0 ∷ t.2, new.1)

abbrev pub cell_put : Blocks → List Value → Ending (List Value × Blocks)
cell_put store vs = three_of vs >>= λ t. values.put store t.0 t.1 t.2 >>= λ new. Ok (t.3, new)

unfoldable pub allocated : Work → Blocks → List Value → Ending (List Value × Blocks)
allocated (MakeTuple ty count) store vs = tuple_on_top ty count store vs
allocated (MakeArray ty) store vs = array_on_top ty store vs
allocated PutCell store vs = cell_put store vs
allocated _ store vs = stuck

-- ---- tests

unfoldable pub all_parts : core.Tests → Machine → Machine
all_parts core.NoTest m = with_value (truth_value true) m
all_parts (core.ATest part others) m = doing (Decide part ∷ WhereTrue others ∷ []) m

unfoldable pub any_parts : core.Tests → Machine → Machine
any_parts core.NoTest m = with_value (truth_value false) m
any_parts (core.ATest part others) m = doing (Decide part ∷ WhereFalse others ∷ []) m

unfoldable pub deciding : core.Test → Machine → Machine
deciding (core.Leaf e) m = doing (Operand e ∷ Decided ∷ []) m
deciding (core.All parts) m = all_parts parts m
deciding (core.Any parts) m = any_parts parts m
deciding (core.Not part) m = doing (Decide part ∷ Opposite ∷ []) m

-- the truth value on top, and the machine without it
abbrev pub truth_of : List Value → Ending (Truth × List Value)
truth_of vs = one_of vs >>= λ t. values.decided t.0 >>= λ b. Ok (b, t.1)

abbrev pub by_truth : Machine → (Truth → Machine → Moved) → Moved
by_truth m next = truth_of m.values >>= λ t. next t.0 (with_values t.1 m)

abbrev pub where_true : core.Tests → Truth → Machine → Moved
where_true others true m = Ok (doing (AllParts others ∷ []) m)
where_true others false m = Ok (with_value (truth_value false) m)

abbrev pub where_false : core.Tests → Truth → Machine → Moved
where_false others true m = Ok (with_value (truth_value true) m)
where_false others false m = Ok (doing (AnyParts others ∷ []) m)

-- ---- statements

unfoldable pub begun : core.Stmt → Machine → Machine
begun (core.Set x e) m = doing (Operand e ∷ SetTo x ∷ []) m
begun (core.Split xs e at) m = doing (Operand e ∷ SplitTo xs ∷ []) m
begun (core.Store array index e at) m = doing (Operand array ∷ Operand index ∷ Operand e ∷ PutCell ∷ []) m
begun (core.Do e) m = doing (Operand e ∷ Forget ∷ []) m
begun (core.Print e) m = doing (Operand e ∷ Say ∷ []) m
begun (core.If test on_true on_false join at) m = doing (Decide test ∷ Choose on_true on_false ∷ []) m
begun (core.While test head body at) m = doing (Loop test body ∷ []) m
begun (core.Return None at) m = with_value (number (pos 0)) (doing (GiveBack ∷ []) m)
begun (core.Return (Some e) at) m = doing (Operand e ∷ GiveBack ∷ []) m

unfoldable pub statements : core.Stmts → Machine → Machine
statements core.NoStmt m = m
statements (core.AStmt s ss) m = begun s (doing (Statements ss ∷ []) m)

abbrev pub in_env : Env → Machine → Machine
in_env env m = record m { env = env }

abbrev pub set_to : ℕ → Machine → Moved
set_to x m = one_of m.values >>= λ t. set_variable m.env x t.0 >>= λ env. Ok (in_env env (with_values t.1 m))

abbrev pub split_to : List ℕ → Machine → Moved
split_to xs m =
    one_of m.values >>= λ t. values.parts_of (length xs) t.0 m.store >>= λ parts. set_all m.env xs parts >>= λ env. Ok (in_env env (with_values t.1 m))

abbrev pub chosen : (on_true on_false : core.Stmts) → Truth → Machine → Moved
chosen on_true on_false true m = Ok (doing (Statements on_true ∷ []) m)
chosen on_true on_false false m = Ok (doing (Statements on_false ∷ []) m)

-- a unit of fuel is taken
abbrev pub paid : ℕ → Ending ℕ
paid zero = Err Running
paid (suc units) = Ok units

abbrev pub with_units : ℕ → Machine → Machine
with_units units m = record m { units = units }

abbrev pub turned : core.Test → core.Stmts → Truth → Machine → Moved
turned test body false m = Ok m
turned test body true m = paid m.units >>= λ units. Ok (doing (Statements body ∷ Loop test body ∷ []) (with_units units m))

-- ---- calls

abbrev pub is_back : Work → Truth
is_back Back = true
is_back _ = false

-- what is to do behind the call
unfoldable pub unwound : List Work → Option (List Work)
unwound [] = None
unwound (w ∷ ws) = if is_back w then Some ws else unwound ws

abbrev pub resumed : Value → List Work → List Env → Machine → Moved
resumed v ws [] m = stuck
resumed v ws (env ∷ callers) m = Ok (record m { work = ws; values = v ∷ m.values; env = env; callers = callers })

abbrev pub told : Event → Moved → Ending (Event × Machine)
told event moved = moved >>= λ m. Ok (event, m)

-- a function gives a value
abbrev pub given : Value → Option (List Work) → Machine → Ending (Event × Machine)
given v None m = Ok (Returns v.word, record m { work = [] })
given v (Some ws) m = told Goes (resumed v ws m.callers m)

-- what a construct leaves, beside the machine without its work
abbrev pub acting : Work → Machine → Moved
acting w m = acted w m.store m.values >>= λ vs. Ok (with_values vs m)

abbrev pub allocating : Work → Machine → Moved
allocating w m = allocated w m.store m.values >>= λ new. Ok (in_store new.1 (with_values new.0 m))

abbrev pub saying : Machine → Ending (Event × Machine)
saying m = one_of m.values >>= λ t. or_stuck (values.word_in tags.Number t.0) (λ n. Ok (Says n, with_values t.1 m))

abbrev pub giving : Machine → Ending (Event × Machine)
giving m = one_of m.values >>= λ t. given t.0 (unwound m.work) (with_values t.1 m)

-- as many values as the function has parameters
abbrev pub entered_if : Truth → core.Fun → List Value → Machine → Moved
entered_if true f args m =
    Ok (record m { work = Statements f.body ∷ Back ∷ m.work; env = env_of f args; callers = m.env ∷ m.callers })
entered_if false f args m = stuck

-- where there may be one activation more, it takes its unit and begins
abbrev pub activated : (room : Truth) → core.Fun → List Value → Machine → Moved
activated false f args m = Err NoStore
activated true f args m = paid m.units >>= λ units. entered_if (length args == length f.params) f args (with_units units m)

module _ (funs : List core.Fun) (depth : ℕ) where
  abbrev pub called : (fun : ℕ) → List Value → Machine → Moved
  called fun args m = or_stuck (slice_get funs fun) (λ f. activated (nat_lt (suc (length m.callers)) depth) f args m)

  abbrev pub calling : (fun count : ℕ) → Machine → Moved
  calling fun count m = taken count m.values >>= λ t. called fun t.0 (with_values t.1 m)

  -- ---- the work that is next, by the machine without it

  -- work that goes on within the run
  unfoldable pub going : Work → Machine → Moved
  going (Operand e) m = evaluated e m
  going (Operands es) m = Ok (operands es m)
  going (Links links) m = Ok (linked links m)
  going (Join o) m = acting (Join o) m
  going Negate m = acting Negate m
  going (Relate r) m = acting (Relate r) m
  going ReadCell m = acting ReadCell m
  going Measure m = acting Measure m
  going (MakeTuple ty count) m = allocating (MakeTuple ty count) m
  going (MakeArray ty) m = allocating (MakeArray ty) m
  going (CallWith fun count) m = calling fun count m
  going (Decide test) m = Ok (deciding test m)
  going Decided m = acting Decided m
  going (AllParts parts) m = Ok (all_parts parts m)
  going (AnyParts parts) m = Ok (any_parts parts m)
  going (WhereTrue others) m = by_truth m (where_true others)
  going (WhereFalse others) m = by_truth m (where_false others)
  going Opposite m = acting Opposite m
  going (Statements ss) m = Ok (statements ss m)
  going (SetTo x) m = set_to x m
  going (SplitTo xs) m = split_to xs m
  going PutCell m = allocating PutCell m
  going Forget m = acting Forget m
  going Say m = stuck
  going (Choose on_true on_false) m = by_truth m (chosen on_true on_false)
  going (Loop test body) m = Ok (doing (Decide test ∷ Turn test body ∷ []) m)
  going (Turn test body) m = by_truth m (turned test body)
  going GiveBack m = stuck
  going Back m = stuck

  unfoldable pub done : Work → Machine → Ending (Event × Machine)
  done Say m = saying m
  done GiveBack m = giving m
  done w m = told Goes (going w m)

  -- where nothing is left to do, a body has given no value
  abbrev pub next : List Work → Machine → Ending (Event × Machine)
  next [] m = stuck
  next (w ∷ ws) m = done w (record m { work = ws })

  abbrev pub stepped : Machine → Ending (Event × Machine)
  stepped m = next m.work m
