-- A run of a small program ends, and so does the run of each program that agrees with it.
use Rattle.std.proofs.Common.{◌≡◌, ◌∙◌, ℕ, zero, suc, ◌<◌, ◌==◌, ℤ, ◌+ℤ◌, ◌-ℤ◌, Bool, true, false, List, [], ◌∷◌, ◌++◌, length, map, Option, Some, None, Result, Ok, Err, slice_get, if◌then◌else◌, refl, sym, ap, subst, arith}
use Rattle.std.specs.List.{range_with_len}
use Rattle.std.proofs.lemmas.List.{length-map}
use Rattle.std.proofs.lemmas.Bool.Decides.{nat_tests}
use Rattle.std.proofs.lemmas.List.FromFn.{length-range_with_len, length-map-range_with_len}
use Rattle.xan_io.specs.Agreement.{Agree, BeginAlike}
use Rattle.xan_io.specs.Entry.{EntryFault, ArgCount, unless_faulty, IsRun}
use Rattle.xan_io.specs.Outcome.{How, Returned, NoStore, Overflow, Stuck, Running, Outcome, IsOver}
use Rattle.xan_io.specs.declared.arg.Arg.{Arg}
use Rattle.xan_io.specs.declared.arg.Arg.TheVariants as arg
use Rattle.xan_seq.specs.Answers.{◌>>=◌}
use Rattle.operation_rules.specs.Effects.{fits_word}
use Rattle.operation_rules.specs.Entry.{kind_fault, index_fault, row_fault, or_else, entry_fault, variable_values, placed}
use Rattle.xanadu_tree.specs.declared.expr.Op.{Op}
use Rattle.xanadu_tree.specs.declared.expr.Op.TheVariants as op
use Rattle.xanadu_tree.specs.Plain as core
use Rattle.xanadu_tree.specs.Small.{IsSmall, IsSum, IsOperand, IsSumOp, AreSumLinks, int_of, number_function, number_program}
use Rattle.typed_core.specs.Meaning.{exact_type, tag_of, source_fault, source_outcome, source_entry, outcome_of, started, placed_in, first_run, no_log}
use Rattle.typed_core.specs.SourceCalls.{env_of, body, body_if, result}
use Rattle.typed_core.specs.SourceOperands.{no_cells, value_by, arithmetic, read, value, chained}
use Rattle.typed_core.specs.SourceRuns.{Run, Answer, Env, Calls, Recorder, Flow, Gives}
use Rattle.typed_core.specs.SourceStatements.{statement, block, behind, reached}
use Rattle.typed_core.specs.SourceValues.{Value, Blocks, number, words_of, have_tags, with_tags, separate}
use Rattle.dtal_code.specs.Runs.{program_run}
use Rattle.dtal_code.specs.declared.program.DtalProgram.{DtalProgram}
use Rattle.program_builder.specs.SmallEnds.{HasEnded, RunEnds}

-- ---- what a sum comes to

-- a number, or an overflow
abbrev IsDone : {L : Type 0} → Answer L Value → Type 0
IsDone (Ok done) = (n : ℤ) × (done.0 ≡ number n)
IsDone (Err end) = end.how ≡ Overflow

then_done : {L : Type 0} (m : Answer L Value) (next : Value × Run L → Answer L Value) → IsDone m → ((n : ℤ) (st : Run L) → IsDone (next (number n, st))) → IsDone (m >>= next)
then_done {L} (Ok done) next is all = subst (λ v. IsDone (next (v, done.1))) (sym is.1) (all is.0 done.1)
then_done (Err end) next is all = is

sum_op_done : {L : Type 0} (o : Op) (m n : ℤ) (st : Run L) → IsSumOp o → IsDone (arithmetic o (number m) (number n) st)
unfolding value_by have_tags words_of
sum_op_done op.Add m n st is = by_test (fits_word (m +ℤ n)) refl
  where
    by_test : (b : Bool) → fits_word (m +ℤ n) ≡ b → IsDone (arithmetic op.Add (number m) (number n) st)
    by_test true e = rw e (m +ℤ n, refl)
    by_test false e = rw e refl
sum_op_done op.Sub m n st is = by_test (fits_word (m -ℤ n)) refl
  where
    by_test : (b : Bool) → fits_word (m -ℤ n) ≡ b → IsDone (arithmetic op.Sub (number m) (number n) st)
    by_test true e = rw e (m -ℤ n, refl)
    by_test false e = rw e refl
sum_op_done op.Mul m n st is = absurd is
sum_op_done op.Div m n st is = absurd is
sum_op_done op.Mod m n st is = absurd is

-- so many variables are numbers
abbrev AreNumbers : (count : ℕ) → Env → Type 0
AreNumbers count env = (x : ℕ) → x < count → (n : ℤ) × (slice_get env x ≡ Some (Some (number n)))

module _ {L : Type 0} (call : Calls L) (env : Env) (count : ℕ) (numbers : AreNumbers count env) where
  item_done : (item : core.Expr) (st : Run L) → IsOperand count item → IsDone (value call env item st)
  unfolding value value_by have_tags words_of
  item_done (core.Int n) st is = (n, refl)
  item_done (core.Var x) st is = (let v = numbers x is in subst (λ o. IsDone (read o st)) (sym v.1) (v.0, refl))
  item_done _ st is = absurd is

  links_done : (links : core.Links) (left : ℤ) (st : Run L) → AreSumLinks count links → IsDone (chained call env links (number left) st)
  unfolding chained
  links_done core.NoLink left st sum = (left, refl)
  links_done (core.ALink o item at others) left st sum =
      then_done (value call env item st) _ (item_done item st sum.1)
      (λ right one. then_done (arithmetic o (number left) (number right) one) _ (sum_op_done o left right one sum.0)
      (λ result two. links_done others result two sum.2))

  sum_done : (sum : core.Expr) (st : Run L) → IsSum count sum → IsDone (value call env sum st)
  unfolding value
  sum_done (core.Chain first links) st is = then_done (value call env first st) _ (item_done first st is.0) (λ left one. links_done links left one is.1)
  sum_done (core.Int n) st is = item_done (core.Int n) st is
  sum_done (core.Var x) st is = item_done (core.Var x) st is
  sum_done _ st is = absurd is

-- ---- arguments

unfoldable AreInts : List Arg → Type 0
AreInts [] = Unit {0}
AreInts (arg.Int n ∷ args) = AreInts args
AreInts (arg.Bool b ∷ args) = ⊥
AreInts (arg.Array cells ∷ args) = ⊥

none_some : {A : Type 0} (x : A) → Some x ≡ None → ⊥
none_some x e = cc

kinds_of : (at : ℕ) (args : List Arg) (vars : List ℕ) → length args ≡ length vars → kind_fault at args (map exact_type (map int_of vars)) ≡ None → AreInts args
unfolding kind_fault AreInts
kinds_of at [] vars e none = tt
kinds_of at (a ∷ args) [] e none = absurd (omega (arith, e))
kinds_of at (arg.Int n ∷ args) (v ∷ vars) e none = kinds_of (suc at) args vars (omega (arith, e)) none
kinds_of at (arg.Bool b ∷ args) (v ∷ vars) e none = absurd (none_some _ none)
kinds_of at (arg.Array cells ∷ args) (v ∷ vars) e none = absurd (none_some _ none)

-- they are the first values
record Begun (args : List Arg) (store : Blocks) : Type 0 where
  words : List ℤ
  is : placed (separate no_cells) args store ≡ Some (words, store)
  many : length (with_tags (map tag_of args) words) ≡ length args
  numbers : (x : ℕ) → x < length args → (n : ℤ) × (slice_get (with_tags (map tag_of args) words) x ≡ Some (number n))

begun : (args : List Arg) (store : Blocks) → AreInts args → Begun args store
unfolding AreInts placed with_tags
begun [] store ints = record { words = []; is = refl; many = refl; numbers = λ x h. absurd (omega (arith, h)) }
begun (arg.Int n ∷ args) store ints =
    let rest = begun args store ints in
    record {
      words = n ∷ rest.words;
      is = rw rest.is refl;
      many = ap suc rest.many;
      numbers = more rest;
    }
  where
    more : (rest : Begun args store) (x : ℕ) → x < suc (length args) → (k : ℤ) × (slice_get (number n ∷ with_tags (map tag_of args) rest.words) x ≡ Some (number k))
    more rest zero h = (n, refl)
    more rest (suc x) h = rest.numbers x (omega (arith, h))
begun (arg.Bool b ∷ args) store ints = absurd ints
begun (arg.Array cells ∷ args) store ints = absurd ints

env_numbers : (values : List Value) (behind : Env) (count : ℕ) → ((x : ℕ) → x < count → (n : ℤ) × (slice_get values x ≡ Some (number n))) → AreNumbers count (map Some values ++ behind)
env_numbers values behind count each x h = (let v = each x h in (v.0, in_env values x (number v.0) v.1))
  where
    in_env : (values : List Value) (x : ℕ) (v : Value) → slice_get values x ≡ Some v → slice_get (map Some values ++ behind) x ≡ Some (Some v)
    in_env [] x v e = absurd (none_some v (sym e))
    in_env (w ∷ values) zero v e = ap Some e
    in_env (w ∷ values) (suc x) v e = in_env values x v e

-- ---- a run

ended : {L : Type 0} (depth : ℕ) (m : Answer L Value) → IsDone m → HasEnded (suc depth) (outcome_of m).how
ended depth (Ok done) is = tt
ended depth (Err end) is = subst (λ how. HasEnded (suc depth) how) (sym is) tt

-- the answer of a body that returns a sum is that of the sum
returned_done : {L : Type 0} (recorder : Recorder L) (call : Calls L) (bound count : ℕ) (name : List ℕ) (sum : core.Expr) (return_at at : ℕ) (values : List Value) (st : Run L)
    → IsSum count sum → length values ≡ count → ((x : ℕ) → x < count → (n : ℤ) × (slice_get values x ≡ Some (number n)))
    → IsDone (body recorder call 0 bound (number_function name count sum return_at at) values st)
unfolding body block statement
returned_done {L} recorder call bound count name sum return_at at values st is many numbers =
    let f = number_function name count sum return_at at in
    subst (λ b. IsDone (body_if recorder b call 0 bound f values st)) (sym (same_count (length values) (length f.params) (many ∙ sym (length-map-range_with_len int_of 0 count))))
    (of_sum (value call (env_of f values) sum (reached recorder 0 (0 ∷ []) (env_of f values) st))
    (sum_done call (env_of f values) count (env_numbers values _ count numbers) sum (reached recorder 0 (0 ∷ []) (env_of f values) st) is))
  where
    same_count : (m n : ℕ) → m ≡ n → (m == n) ≡ true
    same_count m n e = grind (arith, nat_tests)

    of_sum : (m : Answer L Value) → IsDone m
        → IsDone ((m >>= (λ done. let flow : Answer L Flow = Ok (Gives done.0, done.1) in flow) >>= (λ done. behind done.0 (λ env st. block recorder call 0 bound [] 1 core.NoStmt env st) done.1)) >>= (λ done. result done.0 done.1))
    of_sum (Ok done) is = is
    of_sum (Err end) is = is

small_ends : (count : ℕ) (sum : core.Expr) (return_at at : ℕ) (args : List Arg) (heap depth fuel : ℕ) → IsSum count sum → AreInts args → length args ≡ count
    → HasEnded depth (source_outcome (number_program count sum return_at at) args heap depth fuel).how
small_ends count sum return_at at args heap zero fuel is ints many = tt
small_ends count sum return_at at args heap (suc depth) fuel is ints many =
    let program = number_program count sum return_at at in
    let st = first_run heap fuel tt in
    let b = begun args st.store ints in
    subst (λ p. HasEnded (suc depth) (outcome_of (started no_log program.funs (suc depth) 0 (suc fuel) (suc depth) (placed_in args st p) st)).how) (sym b.is)
    (ended depth _
    (returned_done no_log _ (suc fuel) count _ sum return_at at (with_tags (map tag_of args) b.words) _ is (b.many ∙ many)
    (λ x h. b.numbers x (omega (arith, many, h)))))

-- ---- arguments without a fault

record FitWell (args : List Arg) (vars : List ℕ) : Type 0 where
  many : length args ≡ length vars
  ints : AreInts args

fit_well : (count : ℕ) (vars : List ℕ) (args : List Arg) → entry_fault count [] (map exact_type (map int_of vars)) args ≡ None → FitWell args vars
unfolding entry_fault
fit_well count vars args none =
    let types = map exact_type (map int_of vars) in
    by_count (length args == length types) refl none
  where
    first_none : (o later : Option EntryFault) → or_else o later ≡ None → o ≡ None
    first_none None later e = refl
    first_none (Some fault) later e = e

    as_many : (n : ℕ) (vars : List ℕ) → (n == length (map exact_type (map int_of vars))) ≡ true → n ≡ length vars
    as_many n vars e =
        let one = length-map (map int_of vars) exact_type in
        let two = length-map vars int_of in
        let same : n ≡ length (map exact_type (map int_of vars)) = grind (arith, nat_tests) in
        same ∙ one ∙ two

    by_count : (b : Bool) → (length args == length (map exact_type (map int_of vars))) ≡ b
        → (if b then or_else (kind_fault 1 args (map exact_type (map int_of vars))) (or_else (index_fault 1 (variable_values 0 count args (map exact_type (map int_of vars))) args (map exact_type (map int_of vars)))
        (row_fault 1 (variable_values 0 count args (map exact_type (map int_of vars))) [])) else Some ArgCount) ≡ None → FitWell args vars
    by_count true e none = (let m = as_many (length args) vars e in record { many = m; ints = kinds_of 1 args vars m (first_none _ _ none) })
    by_count false e none = absurd (none_some ArgCount none)

unless_ends : (depth units : ℕ) (fault : Option EntryFault) (run : ℕ → Outcome) → (fault ≡ None → HasEnded depth (run units).how) → RunEnds depth (unless_faulty fault run) units
unless_ends depth units None run all = all refl
unless_ends depth units (Some fault) run all = tt

pub small_source_ends : (program : core.Program) → IsSmall program → (args : List Arg) (heap depth fuel : ℕ) → RunEnds depth (source_entry program args heap depth) fuel
small_source_ends program small args heap depth fuel =
    let whole = number_program small.count small.value small.return_at small.at in
    subst (λ p. RunEnds depth (source_entry p args heap depth) fuel) (sym small.is)
    (unless_ends depth fuel (source_fault whole args) (source_outcome whole args heap depth)
    (λ none.
    let fit = fit_well small.count (range_with_len 0 small.count) args none in
    small_ends small.count small.value small.return_at small.at args heap depth fuel small.sum fit.ints (fit.many ∙ length-range_with_len 0 small.count)))

-- ---- what agrees with it

over_of : (depth : ℕ) (how : How) → HasEnded depth how → IsOver how
over_of zero (Returned word) is = absurd is
over_of zero NoStore is = λ e. cc
over_of zero Overflow is = absurd is
over_of zero Stuck is = absurd is
over_of zero Running is = absurd is
over_of (suc depth) (Returned word) is = λ e. cc
over_of (suc depth) NoStore is = absurd is
over_of (suc depth) Overflow is = λ e. cc
over_of (suc depth) Stuck is = absurd is
over_of (suc depth) Running is = absurd is

alike_ends : (depth : ℕ) (source machine : Result (ℕ → Outcome) EntryFault) → BeginAlike source machine → ((fuel : ℕ) → RunEnds depth source fuel)
    → (steps : ℕ) × RunEnds depth machine steps
alike_ends depth (Ok source) (Ok machine) agrees ends =
    let e = agrees.ends 0 (over_of depth (source 0).how (ends 0)) in (e.0, subst (λ o. HasEnded depth o.how) (sym e.1) (ends 0))
alike_ends depth (Err fault) (Err other) alike ends = (0, tt)
alike_ends depth (Ok source) (Err other) alike ends = absurd alike
alike_ends depth (Err fault) (Ok machine) alike ends = absurd alike

pub small_machine_ends : (core_of : core.Program) (program : DtalProgram) → IsSmall core_of → Agree (source_entry core_of) (program_run program)
    → (args : List Arg) (heap depth : ℕ) → IsRun args heap depth → (steps : ℕ) × RunEnds depth (program_run program args heap depth) steps
small_machine_ends core_of program small agree args heap depth is_run =
    alike_ends depth (source_entry core_of args heap depth) (program_run program args heap depth) (agree args heap depth is_run) (small_source_ends core_of small args heap depth)
