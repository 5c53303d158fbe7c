-- What pending work comes to, in the words of the meaning, and what a step tells of it.
use Rattle.std.specs.Prelude.{◌≡◌, ◌++◌, ℕ, suc, ℤ, Bool as Truth, true, false, List, [], ◌∷◌, length, reverse, None, Ok, Err}
use Rattle.xan_seq.specs.Answers.{◌>>=◌}
use Rattle.xan_io.specs.Outcome.{How, Stuck}
use Rattle.xanadu_tree.specs.Plain as core
use Rattle.typed_core.specs.Meaning.{no_log}
use Rattle.typed_core.specs.SourceValues.{Value}
use Rattle.typed_core.specs.SourceValues as tags
use Rattle.typed_core.specs.SourceRuns.{Run, Answer, Env, Calls, Flow, Next, Gives, stuck}
use Rattle.typed_core.specs.SourceOperands.{value, chained}
use Rattle.typed_core.specs.SourceOperands as operands
use Rattle.typed_core.specs.SourceTests.{holds, all_hold, any_holds}
use Rattle.typed_core.specs.SourceStatements.{turned}
use Rattle.typed_core.specs.SourceCalls.{env_of}
use Rattle.typed_core.specs.SourceFreely.{free_call, free_block, free_statement}
use Rattle.source_values.specs.Values as values
use Rattle.source_values.specs.Values.{Ending, truth_value}
use Rattle.source_values.specs.Variables.{set_variable, set_all}
use Rattle.source_evaluator.specs.Steps as steps
use Rattle.source_evaluator.specs.Steps.{Machine, Event, Goes, Says, Returns, acted, allocated, one_of, taken, truth_of}
use Rattle.source_evaluator.specs.Work.{Work, Operand, Operands, Links, Join, Negate, Relate, ReadCell, Measure, MakeTuple, MakeArray, CallWith, Decide, Decided, AllParts, AnyParts, WhereTrue, WhereFalse, Opposite, Statements, SetTo, SplitTo, PutCell, Forget, Say, Choose, Loop, Turn, GiveBack, Back}

abbrev pub R : Type 0
R = Run (Unit {0})

-- what an end or an answer of a construct makes of a run
abbrev pub after : {A B : Type 0} → Ending A → (A → R → Answer (Unit {0}) B) → R → Answer (Unit {0}) B
after (Ok x) next st = next x st
after (Err how) next st = Err (record { how = how; run = st })

abbrev pub say : ℤ → R → R
say n st = record st { printed = st.printed ++ n ∷ [] }

-- where a flow goes on: the work behind the statements, or where the function was called
abbrev pub by_flow : (Env → R → Answer (Unit {0}) Value) → (Value → R → Answer (Unit {0}) Value) → Flow → R → Answer (Unit {0}) Value
by_flow next back (Next env) st = next env st
by_flow next back (Gives v) st = back v st

-- the other parts of a test, where the one before was so
abbrev pub unless_true : Truth → (R → Answer (Unit {0}) Truth) → R → Answer (Unit {0}) Truth
unless_true true others st = others st
unless_true false others st = Ok (false, st)

abbrev pub unless_false : Truth → (R → Answer (Unit {0}) Truth) → R → Answer (Unit {0}) Truth
unless_false true others st = Ok (true, st)
unless_false false others st = others st

abbrev pub one_of_two : {A : Type 0} → Truth → A → A → A
one_of_two true one two = one
one_of_two false one two = two

-- where `main` begins
abbrev pub first_machine : core.Fun → List Value → R → Machine
first_machine f values st =
    record { work = Statements f.body ∷ []; values = []; env = env_of f values; callers = []; units = st.units; store = st.store }

module _ (funs : List core.Fun) (depth : ℕ) where
  abbrev pub calls : List Env → Calls (Unit {0})
  calls callers = free_call no_log funs depth (suc (length callers))

  abbrev pub statements : core.Stmts → Env → List Env → R → Answer (Unit {0}) Flow
  statements ss env callers st = free_block no_log funs depth (suc (length callers)) 0 [] 0 ss env st

  abbrev pub loop : core.Test → core.Stmts → Env → List Env → R → Answer (Unit {0}) Flow
  loop test body env callers st = free_statement no_log funs depth (suc (length callers)) 0 [] (core.While test None body 0) env st

  -- one turn of a loop, behind its test
  abbrev pub turned_by : Truth → core.Test → core.Stmts → Env → List Env → R → Answer (Unit {0}) Flow
  turned_by truth test body env cs st = turned truth (λ env st. statements body env cs st) (λ env st. loop test body env cs st) env st

  unfoldable mutual
    -- what the work comes to, with these values on top
    pub working : List Work → List Value → Env → List Env → R → Answer (Unit {0}) Value
    working [] vs env cs st = stuck st
    working (Operand e ∷ ws) vs env cs st = value (calls cs) env e st >>= λ a. working ws (a.0 ∷ vs) env cs a.1
    working (Operands es ∷ ws) vs env cs st = operands.values (calls cs) env es st >>= λ a. working ws (reverse a.0 ++ vs) env cs a.1
    working (Links core.NoLink ∷ ws) [] env cs st = working ws [] env cs st
    working (Links (core.ALink o e at others) ∷ ws) [] env cs st = value (calls cs) env e st >>= λ a. stuck a.1
    working (Links ls ∷ ws) (left ∷ vs) env cs st = chained (calls cs) env ls left st >>= λ a. working ws (a.0 ∷ vs) env cs a.1
    working (Join o ∷ ws) vs env cs st = after (acted (Join o) st.store vs) (λ us st. working ws us env cs st) st
    working (Negate ∷ ws) vs env cs st = after (acted Negate st.store vs) (λ us st. working ws us env cs st) st
    working (Relate r ∷ ws) vs env cs st = after (acted (Relate r) st.store vs) (λ us st. working ws us env cs st) st
    working (ReadCell ∷ ws) vs env cs st = after (acted ReadCell st.store vs) (λ us st. working ws us env cs st) st
    working (Measure ∷ ws) vs env cs st = after (acted Measure st.store vs) (λ us st. working ws us env cs st) st
    working (MakeTuple ty count ∷ ws) vs env cs st =
        after (allocated (MakeTuple ty count) st.store vs) (λ new st. working ws new.0 env cs (record st { store = new.1 })) st
    working (MakeArray ty ∷ ws) vs env cs st =
        after (allocated (MakeArray ty) st.store vs) (λ new st. working ws new.0 env cs (record st { store = new.1 })) st
    working (PutCell ∷ ws) vs env cs st =
        after (allocated PutCell st.store vs) (λ new st. working ws new.0 env cs (record st { store = new.1 })) st
    working (CallWith fun count ∷ ws) vs env cs st =
        after (taken count vs) (λ t st. calls cs fun t.0 st >>= λ a. working ws (a.0 ∷ t.1) env cs a.1) st
    working (Decide test ∷ ws) vs env cs st = holds (calls cs) env test st >>= λ a. working ws (truth_value a.0 ∷ vs) env cs a.1
    working (Decided ∷ ws) vs env cs st = after (acted Decided st.store vs) (λ us st. working ws us env cs st) st
    working (Opposite ∷ ws) vs env cs st = after (acted Opposite st.store vs) (λ us st. working ws us env cs st) st
    working (Forget ∷ ws) vs env cs st = after (acted Forget st.store vs) (λ us st. working ws us env cs st) st
    working (AllParts ts ∷ ws) vs env cs st = all_hold (calls cs) env ts st >>= λ a. working ws (truth_value a.0 ∷ vs) env cs a.1
    working (AnyParts ts ∷ ws) vs env cs st = any_holds (calls cs) env ts st >>= λ a. working ws (truth_value a.0 ∷ vs) env cs a.1
    working (WhereTrue ts ∷ ws) vs env cs st =
        after (truth_of vs) (λ t st. unless_true t.0 (λ st. all_hold (calls cs) env ts st) st >>= λ a. working ws (truth_value a.0 ∷ t.1) env cs a.1) st
    working (WhereFalse ts ∷ ws) vs env cs st =
        after (truth_of vs) (λ t st. unless_false t.0 (λ st. any_holds (calls cs) env ts st) st >>= λ a. working ws (truth_value a.0 ∷ t.1) env cs a.1) st
    working (Statements ss ∷ ws) vs env cs st =
        statements ss env cs st >>= λ a. by_flow (λ env st. working ws vs env cs st) (λ v st. given ws v vs cs st) a.0 a.1
    working (SetTo x ∷ ws) vs env cs st =
        after (one_of vs) (λ t st. after (set_variable env x t.0) (λ env st. working ws t.1 env cs st) st) st
    working (SplitTo xs ∷ ws) vs env cs st =
        after (one_of vs) (λ t st. after (values.parts_of (length xs) t.0 st.store) (λ parts st. after (set_all env xs parts) (λ env st. working ws t.1 env cs st) st) st) st
    working (Say ∷ ws) vs env cs st =
        after (one_of vs) (λ t st. after (values.or_stuck (values.word_in tags.Number t.0) (λ n. Ok n)) (λ n st. working ws t.1 env cs (say n st)) st) st
    working (Choose one two ∷ ws) vs env cs st =
        after (truth_of vs) (λ t st. statements (one_of_two t.0 one two) env cs st >>= λ a. by_flow (λ env st. working ws t.1 env cs st) (λ v st. given ws v t.1 cs st) a.0 a.1) st
    working (Loop test body ∷ ws) vs env cs st =
        loop test body env cs st >>= λ a. by_flow (λ env st. working ws vs env cs st) (λ v st. given ws v vs cs st) a.0 a.1
    working (Turn test body ∷ ws) vs env cs st =
        after (truth_of vs) (λ t st. turned_by t.0 test body env cs st >>= λ a. by_flow (λ env st. working ws t.1 env cs st) (λ v st. given ws v t.1 cs st) a.0 a.1) st
    working (GiveBack ∷ ws) vs env cs st = after (one_of vs) (λ t st. given ws t.0 t.1 cs st) st
    working (Back ∷ ws) vs env cs st = stuck st

    -- what comes of a value that the function gives
    pub given : List Work → Value → List Value → List Env → R → Answer (Unit {0}) Value
    given [] v vs cs st = Ok (v, st)
    given (Back ∷ ws) v vs [] st = stuck st
    given (Back ∷ ws) v vs (env ∷ cs) st = working ws (v ∷ vs) env cs st
    given (w ∷ ws) v vs cs st = given ws v vs cs st

  -- ---- machines

  abbrev pub run_of : Machine → List ℤ → R
  run_of m p = record { units = m.units; store = m.store; printed = p; log = tt }

  abbrev pub meaning : Machine → List ℤ → Answer (Unit {0}) Value
  meaning m p = working m.work m.values m.env m.callers (run_of m p)

  -- what a machine comes to that is to do this first
  abbrev pub meant : Work → Machine → List ℤ → Answer (Unit {0}) Value
  meant w m p = working (w ∷ m.work) m.values m.env m.callers (run_of m p)

  -- what a step tells of a run that printed so much, and what that comes to
  abbrev pub Told : List ℤ → Event → Machine → Answer (Unit {0}) Value → Type 0
  Told p Goes m answer = answer ≡ meaning m p
  Told p (Says n) m answer = answer ≡ meaning m (p ++ n ∷ [])
  Told p (Returns word) m answer = (v : Value) × (st : R) × (answer ≡ Ok (v, st)) × (v.word ≡ word) × (st.printed ≡ p)

  abbrev pub Tells : List ℤ → Ending (Event × Machine) → Answer (Unit {0}) Value → Type 0
  Tells p (Ok one) answer = Told p one.0 one.1 answer
  Tells p (Err how) answer = (st : R) × (answer ≡ Err (record { how = how; run = st })) × (st.printed ≡ p)
