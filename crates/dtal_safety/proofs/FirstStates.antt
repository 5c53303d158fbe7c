-- The first state of a run fits: arguments without a fault have the types of the parameters.
use Rattle.std.proofs.Common.{◌≡◌, ◌∙◌, inl, inr, ℕ, zero, suc, ◌+◌, ◌*◌, ◌≤◌, ◌==◌, ℤ, pos, cond, List, [], ◌∷◌, get_or, length, length-append, Bool as Test, true, false, Option, Some, None, Ok, refl, sym, ap, subst, arith}
use Rattle.std.specs.Prelude.{slice_get, nat_le, int_le, ◌&&◌, ◌≤ℤ◌, bytes_eq, codes}
use Rattle.std.specs.List.{All, AllZip, list_all}
use Rattle.std.proofs.lemmas.Bool.{leb-true, and_parts}
use Rattle.std.proofs.lemmas.Bool.Decides.{Decides-eqb, Decides-int_eq}
use Rattle.std.proofs.lemmas.Int.{ints}
use Rattle.std.proofs.lemmas.List.Elements.{All-nil, All-cons, All-head, All-tail}
use Rattle.std.proofs.lemmas.Option.{none-some, same_Some, slice_get-get_or}
use Rattle.xan_io.specs.Entry.{EntryFault, ArgCount, ArgKind, ArgIndex, EntryRow, unless_faulty}
use Rattle.xan_io.specs.declared.arg.Arg.{Arg}
use Rattle.xan_io.specs.declared.arg.Arg.TheVariants as arg
use Rattle.index_sorts.specs.Entails.{AllHold}
use Rattle.xan_lin.specs.Linear.{Linear}
use Rattle.xan_lin.specs.Value.{value_of, Holds as RowHolds}
use Rattle.state_types.specs.Answers.{◌>>=◌}
use Rattle.state_types.specs.Tables.{int_cell}
use Rattle.state_types.specs.Types.{index_of}
use Rattle.state_types.specs.Words.{Header, Headers, HasType, Keeps, header_from, header_at}
use Rattle.state_types.specs.declared.types.Ty.{Ty}
use Rattle.state_types.specs.declared.types.Ty.TheVariants as ty
use Rattle.state_types.proofs.Thens.{ok_same}
use Rattle.operation_rules.specs.Effects.{truth_word}
use Rattle.operation_rules.specs.Entry.{is_of_kind, kind_fault, variable_values, has_index, index_fault, row_fault, or_else, entry_fault, with_word, placed}
use Rattle.operation_rules.specs.FlatWords.{Flat, is_whole_from, block_words, flat_words}
use Rattle.operation_rules.specs.Rules.{cell_at}
use Rattle.operation_rules.specs.Stored.{Packs, StoreFits}
use Rattle.operation_rules.proofs.FlatStores.{flat_stores}
use Rattle.operation_rules.proofs.StoresGrown.{made_fits}
use Rattle.dtal_code.specs.Acceptance.{Accepted}
use Rattle.dtal_code.specs.Declarations.{table_of, at_first, main_or, main_of, is_argument_kind, is_answer_kind, program_verdict}
use Rattle.dtal_code.specs.Machine.{State}
use Rattle.dtal_code.specs.ObjectCode.{start_or, start_of, program_size}
use Rattle.dtal_code.specs.Running.{first_activation}
use Rattle.dtal_code.specs.Runs.{first_state, entry_state, empty_store, entry_of, program_entry}
use Rattle.dtal_code.specs.Verdicts.{asks, found}
use Rattle.dtal_code.specs.declared.program.DtalProgram.{DtalProgram}
use Rattle.dtal_code.specs.declared.program.Function.{Function}
use Rattle.dtal_code.specs.declared.refusal.Rule.TheVariants as rule
use Rattle.dtal_code.proofs.NamedDeclarations.{asked, test_all}
use Rattle.dtal_safety.specs.Fitting.{AllWait, StateFits}
use Rattle.dtal_safety.proofs.EdgesHold.{one_value}
use Rattle.dtal_safety.proofs.FunctionsBegin.{places_count, begun_holds, own_taken}
use Rattle.dtal_safety.proofs.LocatedStates.{IsBegun, function_is, function_begins}
use Rattle.dtal_safety.proofs.Lookups.{zip_lengths}

-- ---- the store of an array of numbers

number_packs : (headers : Headers) (word : ℤ) → Packs headers int_cell (word ∷ [])
number_packs headers word = record {
  own = word ∷ [];
  one_each = refl;
  hold = All-nil (RowHolds (word ∷ []));
  fit = (sym (one_value (word ∷ []) 0), tt);
}

number_cell : (program : DtalProgram) → cell_at (table_of program) 0 ≡ Ok int_cell
unfolding cell_at
number_cell program = refl

empty_fits : (program : DtalProgram) (heap : ℕ) → StoreFits flat_words (table_of program) (empty_store heap)
unfolding is_whole_from header_from
empty_fits program heap = record { whole = refl; blocks = λ block header e. absurd (none-some header e) }

array_fits : (program : DtalProgram) (store : Flat) (cells : List ℤ) → StoreFits flat_words (table_of program) store
    → StoreFits flat_words (table_of program) (flat_words.made store 0 cells).1
array_fits program store cells fits =
    let made = flat_stores.makes store 0 cells fits.whole in
    made_fits flat_words (table_of program) store (flat_words.made store 0 cells).1 0 (flat_words.made store 0 cells).0 cells fits made (λ header e. inl (record {
      element = 0;
      count = length cells;
      is = e;
      packed = int_cell;
      there = number_cell program;
      cells = λ number h. record {
        word = get_or cells number (pos 0);
        there = made.fresh number h ∙ slice_get-get_or cells number (pos 0) h;
        packs = number_packs (flat_words.headers (flat_words.made store 0 cells).1) (get_or cells number (pos 0));
      };
    }))

-- ---- arguments

-- an argument has the kind of its parameter, and its index, and the parameter is of a kind that arguments have
record IsArgument (values : List ℤ) (a : Arg) (t : Ty) : Type 0 where
  kind : is_of_kind a t ≡ true
  index : has_index values a (index_of t) ≡ true
  allowed : is_argument_kind t ≡ true

-- words of arguments, and the store with their blocks
record IsPlaced (program : DtalProgram) (store : Flat) (values : List ℤ) (params : List Ty) (begun : List ℤ × Flat) : Type 0 where
  heap : begun.1.heap ≡ store.heap
  room : length begun.1.words ≤ store.heap
  fits : StoreFits flat_words (table_of program) begun.1
  keeps : Keeps (header_at store.words) (header_at begun.1.words)
  typed : AllZip (HasType (header_at begun.1.words) values) begun.0 params

truth_typed : (headers : Headers) (values : List ℤ) (b : Test) → HasType headers values (truth_word b) ty.Bool
truth_typed headers values true = inr refl
truth_typed headers values false = inl refl

-- one word more in front
module _ (program : DtalProgram) (store : Flat) (values : List ℤ) (params : List Ty) where
  more_placed : (word : ℤ) (t : Ty) (begun : List ℤ × Flat) → ((headers : Headers) → Keeps (header_at store.words) headers → HasType headers values word t)
      → IsPlaced program store values params begun → IsPlaced program store values (t ∷ params) (word ∷ begun.0, begun.1)
  more_placed word t begun has p = record {
    heap = p.heap;
    room = p.room;
    fits = p.fits;
    keeps = p.keeps;
    typed = (has (header_at begun.1.words) p.keeps, p.typed);
  }

  with_placed : (word : ℤ) (t : Ty) (others : Option (List ℤ × Flat)) (begun : List ℤ × Flat) → ((headers : Headers) → Keeps (header_at store.words) headers → HasType headers values word t)
      → ((b : List ℤ × Flat) → others ≡ Some b → IsPlaced program store values params b) → with_word word others ≡ Some begun
      → IsPlaced program store values (t ∷ params) begun
  with_placed word t None begun has each e = absurd (none-some begun e)
  with_placed word t (Some b) begun has each e =
      subst (λ x. IsPlaced program store values (t ∷ params) x) (same_Some (word ∷ b.0, b.1) begun e) (more_placed word t b has (each b refl))

-- a block in front
later_placed : (program : DtalProgram) (store made : Flat) (values : List ℤ) (params : List Ty) (begun : List ℤ × Flat) → made.heap ≡ store.heap
    → Keeps (header_at store.words) (header_at made.words) → IsPlaced program made values params begun → IsPlaced program store values params begun
later_placed program store made values params begun same keeps p = record {
  heap = p.heap ∙ same;
  room = subst (λ n. length begun.1.words ≤ n) same p.room;
  fits = p.fits;
  keeps = record { keeps = λ address header e. p.keeps.keeps address header (keeps.keeps address header e) };
  typed = p.typed;
}

no_kind : (test : Test) → test ≡ false → test ≡ true → ⊥
no_kind test e f = cc

array_placed : (program : DtalProgram) (values : List ℤ) (cells : List ℤ) (args : List Arg) (element : ℕ) (form : Linear) (params : List Ty) (store : Flat) (begun : List ℤ × Flat)
    → IsArgument values (arg.Array cells) (ty.Array element form) → StoreFits flat_words (table_of program) store
    → ((made : Flat) (b : List ℤ × Flat) → StoreFits flat_words (table_of program) made → length made.words ≤ made.heap → placed flat_words args made ≡ Some b
    → IsPlaced program made values params b)
    → (room : Test) → nat_le (length store.words + (length cells + 2)) store.heap ≡ room
    → cond room (with_word (pos (length store.words)) (placed flat_words args (flat_words.made store 0 cells).1)) (let o : Option (List ℤ × Flat) = None in o) ≡ Some begun
    → IsPlaced program store values (ty.Array element form ∷ params) begun
array_placed program values cells args element form params store begun is fits each false test e = absurd (none-some begun e)
array_placed program values cells args element form params store begun is fits each true test e =
    let h = leb-true (length store.words + (length cells + 2)) store.heap test in
    let is_made = flat_stores.makes store 0 cells fits.whole in
    let zero_is : element ≡ 0 = (Decides-eqb element 0).0 is.allowed in
    let count : pos (length cells) ≡ value_of values form = (Decides-int_eq (pos (length cells)) (value_of values form)).0 is.index in
    let many = length-append store.words (block_words 0 cells) in
    let later : Flat = (flat_words.made store 0 cells).1 in
    later_placed program store later values (ty.Array element form ∷ params) begun refl is_made.keeps
    (with_placed program later values params (pos (length store.words)) (ty.Array element form) (placed flat_words args later) begun
    (λ headers keeps. record {
      address = length store.words;
      is = refl;
      begins = keeps.keeps (length store.words) _ is_made.begins
          ∙ ap (λ c. let o : Option Header = Some (record { descriptor = pos 0; cells = c }) in o) count
          ∙ ap (λ n. let o : Option Header = Some (record { descriptor = pos (2 * n); cells = value_of values form }) in o) (sym zero_is);
    })
    (λ b g. each later b (array_fits program store cells fits) (omega (arith, h, many)) g) e)

arguments_placed : (program : DtalProgram) (values : List ℤ) (args : List Arg) (params : List Ty) (store : Flat) (begun : List ℤ × Flat) → AllZip (IsArgument values) args params
    → StoreFits flat_words (table_of program) store → length store.words ≤ store.heap → placed flat_words args store ≡ Some begun → IsPlaced program store values params begun
unfolding placed
arguments_placed program values [] [] store begun zip fits room e =
    subst (λ b. IsPlaced program store values [] b) (same_Some ([], store) begun e)
    (record { heap = refl; room = room; fits = fits; keeps = record { keeps = λ address header k. k }; typed = tt })
arguments_placed program values [] (t ∷ params) store begun zip fits room e = absurd zip
arguments_placed program values (a ∷ args) [] store begun zip fits room e = absurd zip
arguments_placed program values (arg.Int n ∷ args) (ty.Int form ∷ params) store begun zip fits room e =
    with_placed program store values params n (ty.Int form) (placed flat_words args store) begun
    (λ headers keeps. (Decides-int_eq n (value_of values form)).0 zip.0.index)
    (λ b f. arguments_placed program values args params store b zip.1 fits room f) e
arguments_placed program values (arg.Bool b ∷ args) (ty.Bool ∷ params) store begun zip fits room e =
    with_placed program store values params (truth_word b) ty.Bool (placed flat_words args store) begun
    (λ headers keeps. truth_typed headers values b)
    (λ b f. arguments_placed program values args params store b zip.1 fits room f) e
arguments_placed program values (arg.Array cells ∷ args) (ty.Array element form ∷ params) store begun zip fits room e =
    array_placed program values cells args element form params store begun zip.0 fits
    (λ made b later_fits later_room f. arguments_placed program values args params made b zip.1 later_fits later_room f)
    (nat_le (length store.words + (length cells + 2)) store.heap) refl e
arguments_placed program values (arg.Int n ∷ args) (ty.Bool ∷ params) store begun zip fits room e = absurd (no_kind false refl zip.0.kind)
arguments_placed program values (arg.Int n ∷ args) (ty.Array element form ∷ params) store begun zip fits room e = absurd (no_kind false refl zip.0.kind)
arguments_placed program values (arg.Int n ∷ args) (ty.Named number ∷ params) store begun zip fits room e = absurd (no_kind false refl zip.0.kind)
arguments_placed program values (arg.Bool b ∷ args) (ty.Int form ∷ params) store begun zip fits room e = absurd (no_kind false refl zip.0.kind)
arguments_placed program values (arg.Bool b ∷ args) (ty.Array element form ∷ params) store begun zip fits room e = absurd (no_kind false refl zip.0.kind)
arguments_placed program values (arg.Bool b ∷ args) (ty.Named number ∷ params) store begun zip fits room e = absurd (no_kind false refl zip.0.kind)
arguments_placed program values (arg.Array cells ∷ args) (ty.Int form ∷ params) store begun zip fits room e = absurd (no_kind false refl zip.0.kind)
arguments_placed program values (arg.Array cells ∷ args) (ty.Bool ∷ params) store begun zip fits room e = absurd (no_kind false refl zip.0.kind)
arguments_placed program values (arg.Array cells ∷ args) (ty.Named number ∷ params) store begun zip fits room e = absurd (no_kind false refl zip.0.kind)

-- ---- faults

kinds_by : (number : ℕ) (a : Arg) (args : List Arg) (t : Ty) (params : List Ty) (b : Test) → is_of_kind a t ≡ b
    → cond b (kind_fault (suc number) args params) (Some (ArgKind number)) ≡ None → (is_of_kind a t ≡ true) × (kind_fault (suc number) args params ≡ None)
kinds_by number a args t params true is e = (is, e)
kinds_by number a args t params false is e = absurd (none-some (ArgKind number) (sym e))

indices_by : (number : ℕ) (values : List ℤ) (a : Arg) (args : List Arg) (t : Ty) (params : List Ty) (b : Test) → has_index values a (index_of t) ≡ b
    → cond b (index_fault (suc number) values args params) (Some (ArgIndex number)) ≡ None
    → (has_index values a (index_of t) ≡ true) × (index_fault (suc number) values args params ≡ None)
indices_by number values a args t params true is e = (is, e)
indices_by number values a args t params false is e = absurd (none-some (ArgIndex number) (sym e))

arguments_are : (first second : ℕ) (values : List ℤ) (args : List Arg) (params : List Ty) → length args ≡ length params → kind_fault first args params ≡ None
    → index_fault second values args params ≡ None → All (λ t. is_argument_kind t ≡ true) params → AllZip (IsArgument values) args params
unfolding kind_fault index_fault
arguments_are first second values [] [] same kinds indices allowed = tt
arguments_are first second values [] (t ∷ params) same kinds indices allowed = absurd (let bad : ⊥ = omega (arith, same) in bad)
arguments_are first second values (a ∷ args) [] same kinds indices allowed = absurd (let bad : ⊥ = omega (arith, same) in bad)
arguments_are first second values (a ∷ args) (t ∷ params) same kinds indices allowed =
    let k = kinds_by first a args t params (is_of_kind a t) refl kinds in
    let i = indices_by second values a args t params (has_index values a (index_of t)) refl indices in (
      record { kind = k.0; index = i.0; allowed = All-head (λ u. is_argument_kind u ≡ true) t params allowed },
      arguments_are (suc first) (suc second) values args params (omega (arith, same)) k.1 i.1 (All-tail (λ u. is_argument_kind u ≡ true) t params allowed),
    )

rows_by : (number : ℕ) (values : List ℤ) (row : Linear) (rows : List Linear) (b : Test) → int_le (pos 0) (value_of values row) ≡ b
    → cond b (row_fault (suc number) values rows) (Some (EntryRow number)) ≡ None → RowHolds values row × (row_fault (suc number) values rows ≡ None)
rows_by number values row rows true is e = (at_least (value_of values row) is, e)
  where
    at_least : (n : ℤ) → int_le (pos 0) n ≡ true → pos 0 ≤ℤ n
    at_least n h = omega (arith, ints)
rows_by number values row rows false is e = absurd (none-some (EntryRow number) (sym e))

rows_are : (number : ℕ) (values : List ℤ) (rows : List Linear) → row_fault number values rows ≡ None → AllHold values rows
unfolding row_fault
rows_are number values [] e = All-nil (RowHolds values)
rows_are number values (row ∷ rows) e =
    let r = rows_by number values row rows (int_le (pos 0) (value_of values row)) refl e in
    All-cons (RowHolds values) row rows r.0 (rows_are (suc number) values rows r.1)

values_count : (first count : ℕ) (args : List Arg) (params : List Ty) → length (variable_values first count args params) ≡ count
unfolding variable_values
values_count first zero args params = refl
values_count first (suc count) args params = ap suc (values_count (suc first) count args params)

none_first : (a b : Option EntryFault) → or_else a b ≡ None → (a ≡ None) × (b ≡ None)
none_first (Some fault) b e = absurd (none-some fault (sym e))
none_first None b e = (refl, e)

-- arguments without a fault
record IsFaultless (vars : ℕ) (rows : List Linear) (params : List Ty) (args : List Arg) : Type 0 where
  count : length args ≡ length params
  kinds : kind_fault 1 args params ≡ None
  indices : index_fault 1 (variable_values 0 vars args params) args params ≡ None
  rows_none : row_fault 1 (variable_values 0 vars args params) rows ≡ None

faultless_by : (vars : ℕ) (rows : List Linear) (params : List Ty) (args : List Arg) (b : Test) → (length args == length params) ≡ b
    → cond b (or_else (kind_fault 1 args params) (or_else (index_fault 1 (variable_values 0 vars args params) args params) (row_fault 1 (variable_values 0 vars args params) rows)))
    (Some ArgCount) ≡ None
    → IsFaultless vars rows params args
faultless_by vars rows params args true is e =
    let one = none_first (kind_fault 1 args params) _ e in
    let two = none_first (index_fault 1 (variable_values 0 vars args params) args params) _ one.1 in
    record { count = (Decides-eqb (length args) (length params)).0 is; kinds = one.0; indices = two.0; rows_none = two.1 }
faultless_by vars rows params args false is e = absurd (none-some ArgCount (sym e))

faultless : (vars : ℕ) (rows : List Linear) (params : List Ty) (args : List Arg) → entry_fault vars rows params args ≡ None → IsFaultless vars rows params args
unfolding entry_fault
faultless vars rows params args e = faultless_by vars rows params args (length args == length params) refl e

-- ---- the first function

record IsMain (funs : List Function) (main : ℕ × Function) : Type 0 where
  is : main_of funs ≡ Some main
  there : slice_get funs main.0 ≡ Some main.1

first_back : (o : Option (ℕ × Function)) (main : ℕ × Function) → at_first o ≡ Some main → (inner : ℕ × Function) × (o ≡ Some inner) × (suc inner.0 ≡ main.0) × (inner.1 ≡ main.1)
first_back None main e = absurd (none-some main e)
first_back (Some inner) main e =
    let same = same_Some (suc inner.0, inner.1) main e in (inner, refl, ap (λ p. p.0) same, ap (λ p. p.1) same)

main_by : (b : Test) (fun : Function) (funs : List Function) (main : ℕ × Function) → main_or b fun (main_of funs) ≡ Some main
    → ((inner : ℕ × Function) → main_of funs ≡ Some inner → slice_get funs inner.0 ≡ Some inner.1) → slice_get (fun ∷ funs) main.0 ≡ Some main.1
main_by true fun funs main e each = (let same = same_Some (0, fun) main e in ap (λ (p : ℕ × Function). slice_get (fun ∷ funs) p.0) (sym same) ∙ ap (λ (p : ℕ × Function). Some p.1) same)
main_by false fun funs main e each =
    let f = first_back (main_of funs) main e in
    ap (λ n. slice_get (fun ∷ funs) n) (sym f.2) ∙ each f.0 f.1 ∙ ap (λ g. Some g) f.3

main_there : (funs : List Function) (main : ℕ × Function) → main_of funs ≡ Some main → slice_get funs main.0 ≡ Some main.1
unfolding main_of
main_there [] main e = absurd (none-some main e)
main_there (fun ∷ funs) main e = main_by (bytes_eq fun.name (codes "main")) fun funs main e (λ inner f. main_there funs inner f)

-- ---- the first state

begun_state : (start depth : ℕ) (o : Option (List ℤ × Flat)) (state : State) → entry_state start depth o ≡ Some state
    → (begun : List ℤ × Flat) × (o ≡ Some begun) × (1 ≤ depth) × (first_state start depth begun ≡ state)
begun_state start zero o state e = absurd (none-some state e)
begun_state start (suc depth) None state e = absurd (none-some state e)
begun_state start (suc depth) (Some begun) state e = (begun, refl, omega arith, same_Some (first_state start (suc depth) begun) state e)

no_fault : {A : Type 0} (fault : Option EntryFault) (run x : A) → unless_faulty fault run ≡ Ok x → (fault ≡ None) × (run ≡ x)
no_fault None run x e = (refl, ok_same run x e)
no_fault (Some fault) run x e = absurd (let bad : ⊥ = cc in bad)

module _ (program : DtalProgram) (accepted : Accepted program) where
  first_fits : (number : ℕ) (fun : Function) (begun : IsBegun program accepted number fun) (args : List Arg) (heap depth : ℕ) (made : List ℤ × Flat)
      → IsFaultless fun.sig.vars fun.sig.rows fun.sig.params args → All (λ t. is_argument_kind t ≡ true) fun.sig.params → 1 ≤ depth
      → placed flat_words args (empty_store heap) ≡ Some made → length fun.sig.params ≤ 256 → StateFits program accepted.states (first_state begun.start depth made)
  unfolding AllWait
  first_fits number fun begun args heap depth made clean allowed le is few =
      let values = variable_values 0 fun.sig.vars args fun.sig.params in
      let zip = arguments_are 1 1 values args fun.sig.params clean.count clean.kinds clean.indices allowed in
      let p = arguments_placed program values args fun.sig.params (empty_store heap) made zip (empty_fits program heap) (omega arith) is in
      let one = values_count 0 fun.sig.vars args fun.sig.params in
      let many = zip_lengths (HasType (header_at made.1.words) values) made.0 fun.sig.params p.typed in
      let room = p.room in
      let same = p.heap in
      record {
        store = p.fits;
        room = omega (arith, room, same);
        top = first_activation begun.start made.0 None;
        callers = [];
        uppermost = refl;
        depth = le;
        number = number;
        fun = fun;
        values = values;
        stands = record {
          state = begun.state;
          located = begun.located;
          places = places_count made.0 (omega (arith, many, few));
          assignment = values;
          own = own_taken fun.sig.vars values one;
          holds = begun_holds (header_at made.1.words) fun.sig begun.state values made.0 begun.is_state one (rows_are 1 values fun.sig.rows clean.rows_none) p.typed;
        };
        wait = tt;
      }

  entry_by : (main : Option (ℕ × Function)) → main_of program.funs ≡ main → found main rule.Main >>= (λ m. asks (list_all is_argument_kind m.1.sig.params && is_answer_kind m.1.sig.result) rule.Main) ≡ Ok tt
      → (args : List Arg) (heap depth : ℕ) (state : State) → entry_of main (start_of program main) args heap depth ≡ Ok (Some state) → StateFits program accepted.states state
  entry_by None is pass args heap depth state e = absurd (let bad : ⊥ = cc in bad)
  entry_by (Some main) is pass args heap depth state e =
      let sig = main.1.sig in
      let there = main_there program.funs main is in
      let begun = function_begins program accepted main.0 main.1 there in
      let tests = and_parts (list_all is_argument_kind sig.params) (is_answer_kind sig.result) (asked _ rule.Main tt pass) in
      let allowed = test_all is_argument_kind (λ t. is_argument_kind t ≡ true) (λ t h. h) sig.params tests.0 in
      let run = no_fault (entry_fault sig.vars sig.rows sig.params args) _ (Some state) e in
      let clean = faultless sig.vars sig.rows sig.params args run.0 in
      let first = begun_state (start_of program (Some main)) depth (placed flat_words args (empty_store heap)) state run.1 in
      let few = (function_is program accepted main.0 main.1 there).sig.few in
      let start : start_of program (Some main) ≡ begun.start = ap (λ o. start_or (program_size program.funs) o) begun.is_start in
      subst (λ s. StateFits program accepted.states s) first.3
      (subst (λ n. StateFits program accepted.states (first_state n depth first.0)) (sym start)
      (first_fits main.0 main.1 begun args heap depth first.0 clean allowed first.2 first.1 (omega (arith, few))))

  pub entry_fits : (args : List Arg) (heap depth : ℕ) (state : State) → program_entry program args heap depth ≡ Ok (Some state) → StateFits program accepted.states state
  unfolding program_entry program_verdict
  entry_fits args heap depth state e = entry_by (main_of program.funs) refl accepted.main args heap depth state e
