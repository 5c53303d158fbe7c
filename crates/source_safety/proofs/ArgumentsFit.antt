-- Arguments without a fault: under the values that they give to variables all rows hold, and their words have the types of the parameters in a store
-- that fits its types. Over any kind of store.
use Rattle.std.proofs.Common.{◌≡◌, ◌∙◌, ℕ, zero, suc, ◌+◌, ◌*◌, ◌<◌, ℤ, pos, ◌≤ℤ◌, inl, inr, List, [], ◌∷◌, length, Bool as Truth, true, false, cond, Option, Some, None, Ok, refl, sym, ap, subst, arith}
use Rattle.std.specs.Prelude.{◌⊎◌, slice_get, int_le, ◌==◌}
use Rattle.std.specs.List.{AllZip, AllByRecursion}
use Rattle.std.specs.Ordering.{int_eq}
use Rattle.std.proofs.lemmas.Bool.{eqb-true}
use Rattle.std.proofs.lemmas.Bool.Decides.{Decides-int_eq}
use Rattle.std.proofs.lemmas.Int.{ints}
use Rattle.std.proofs.lemmas.List.Elements.{All-nil, All-cons}
use Rattle.index_sorts.specs.Entails.{AllHold}
use Rattle.xan_io.specs.Entry.{EntryFault, ArgCount, ArgKind, ArgIndex, EntryRow}
use Rattle.xan_io.specs.declared.arg.Arg.{Arg}
use Rattle.xan_io.specs.declared.arg.Arg.TheVariants as arg
use Rattle.xan_lin.specs.Linear.{Linear}
use Rattle.xan_lin.specs.Value.{value_of, Holds}
use Rattle.state_types.specs.Tables.{int_cell}
use Rattle.state_types.specs.Types.{index_of}
use Rattle.state_types.specs.Words.{HasType, Keeps}
use Rattle.state_types.specs.declared.closed.Packed.{Packed}
use Rattle.state_types.specs.declared.types.Ty.{Ty}
use Rattle.state_types.specs.declared.types.Ty.TheVariants as ty
use Rattle.operation_rules.specs.Effects.{Stores, truth_word}
use Rattle.operation_rules.specs.Entry.{is_of_kind, kind_fault, variable_values, has_index, index_fault, row_fault, or_else, entry_fault, with_word, placed}
use Rattle.operation_rules.specs.Rules.{cell_at}
use Rattle.operation_rules.specs.Stored.{IsStores, IsMade, StoreFits}
use Rattle.operation_rules.proofs.ListedValues.{variable_is}
use Rattle.operation_rules.proofs.StoresGrown.{made_fits}
use Rattle.source_safety.proofs.FaredOn.{keeps_all, keeps_on}

-- ---- no fault

pub record NoFault (vars : ℕ) (rows : List Linear) (params : List Ty) (args : List Arg) : Type 0 where
  pub many : length args ≡ length params
  pub kinds : kind_fault 1 args params ≡ None
  pub indices : index_fault 1 (variable_values 0 vars args params) args params ≡ None
  pub hold : AllHold (variable_values 0 vars args params) rows

record Neither (one two : Option EntryFault) : Type 0 where
  first : one ≡ None
  second : two ≡ None

neither : (one two : Option EntryFault) → or_else one two ≡ None → Neither one two
neither None two e = record { first = refl; second = e }
neither (Some fault) two e = absurd (let bad : ⊥ = cc in bad)

rows_hold : (number : ℕ) (values : List ℤ) (rows : List Linear) → row_fault number values rows ≡ None → AllHold values rows
unfolding row_fault
rows_hold number values [] e = All-nil (Holds values)
rows_hold number values (row ∷ rows) e = by_test (int_le (pos 0) (value_of values row)) refl e (λ h. rows_hold (suc number) values rows h)
  where
    by_test : (b : Truth) → int_le (pos 0) (value_of values row) ≡ b → cond b (row_fault (suc number) values rows) (Some (EntryRow number)) ≡ None
        → (row_fault (suc number) values rows ≡ None → AllHold values rows) → AllHold values (row ∷ rows)
    by_test true is e later = All-cons (Holds values) row rows (let h : pos 0 ≤ℤ value_of values row = omega (arith, ints, is) in h) (later e)
    by_test false is e later = absurd (let bad : ⊥ = cc in bad)

pub no_fault : (vars : ℕ) (rows : List Linear) (params : List Ty) (args : List Arg) → entry_fault vars rows params args ≡ None → NoFault vars rows params args
unfolding entry_fault
no_fault vars rows params args e = by_count (length args == length params) refl e
  where
    values : List ℤ
    values = variable_values 0 vars args params

    by_count : (b : Truth) → (length args == length params) ≡ b
        → cond b (or_else (kind_fault 1 args params) (or_else (index_fault 1 values args params) (row_fault 1 values rows))) (Some ArgCount) ≡ None
        → NoFault vars rows params args
    by_count true is e =
        let one = neither (kind_fault 1 args params) (or_else (index_fault 1 values args params) (row_fault 1 values rows)) e in
        let two = neither (index_fault 1 values args params) (row_fault 1 values rows) one.second in
        record { many = eqb-true (length args) (length params) is; kinds = one.first; indices = two.first; hold = rows_hold 1 values rows two.second }
    by_count false is e = absurd (let bad : ⊥ = cc in bad)

-- the first argument has its kind and its index, and the others have no fault
record HasBoth (number : ℕ) (values : List ℤ) (a : Arg) (t : Ty) (args : List Arg) (ts : List Ty) : Type 0 where
  kind : is_of_kind a t ≡ true
  index : has_index values a (index_of t) ≡ true
  kinds : kind_fault (suc number) args ts ≡ None
  indices : index_fault (suc number) values args ts ≡ None

passed : (b : Truth) (later : Option EntryFault) (fault : EntryFault) → cond b later (Some fault) ≡ None → (b ≡ true) × (later ≡ None)
passed true later fault e = (refl, e)
passed false later fault e = absurd (let bad : ⊥ = cc in bad)

has_both : (number : ℕ) (values : List ℤ) (a : Arg) (t : Ty) (args : List Arg) (ts : List Ty) → kind_fault number (a ∷ args) (t ∷ ts) ≡ None
    → index_fault number values (a ∷ args) (t ∷ ts) ≡ None → HasBoth number values a t args ts
unfolding kind_fault index_fault
has_both number values a t args ts e f =
    let one = passed (is_of_kind a t) (kind_fault (suc number) args ts) (ArgKind number) e in
    let two = passed (has_index values a (index_of t)) (index_fault (suc number) values args ts) (ArgIndex number) f in
    record { kind = one.0; index = two.0; kinds = one.1; indices = two.1 }

-- ---- words in a store

-- an argument's array has cells of numbers
abbrev pub IsEntryType : Ty → Type 0
IsEntryType (ty.Int form) = Unit {0}
IsEntryType ty.Bool = Unit {0}
IsEntryType (ty.Array element form) = element ≡ 0
IsEntryType (ty.Named number) = Unit {0}

pub record WithWord {S : Type 0} (word : ℤ) (m : Option (List ℤ × S)) (words : List ℤ) (new : S) : Type 0 where
  pub rest : List ℤ
  pub is : m ≡ Some (rest, new)
  pub all : word ∷ rest ≡ words

pub with_word_is : {S : Type 0} (word : ℤ) (m : Option (List ℤ × S)) (words : List ℤ) (new : S) → with_word word m ≡ Some (words, new) → WithWord word m words new
with_word_is {S = S} word (Some p) words new e =
    let both : (let q : List ℤ × S = (word ∷ p.0, p.1) in q) ≡ (words, new) = some_is e in
    record { rest = p.0; is = ap (λ s. let o : Option (List ℤ × S) = Some (p.0, s) in o) (ap (λ q. q.1) both); all = ap (λ q. q.0) both }
  where
    some_is : {x y : List ℤ × S} → (let o : Option (List ℤ × S) = Some x in o) ≡ Some y → x ≡ y
    some_is e = cc
with_word_is word None words new e = absurd (let bad : ⊥ = cc in bad)

record SliceAt (cells : List ℤ) (number : ℕ) : Type 0 where
  word : ℤ
  is : slice_get cells number ≡ Some word

slice_at : (cells : List ℤ) (number : ℕ) → number < length cells → SliceAt cells number
slice_at [] number h = absurd (let bad : ⊥ = omega (arith, h) in bad)
slice_at (c ∷ cs) zero h = record { word = c; is = refl }
slice_at (c ∷ cs) (suc number) h = (let it = slice_at cs number (omega (arith, h)) in record { word = it.word; is = it.is })

module _ {S : Type 0} (stores : Stores S) (laws : IsStores stores) (table : List Packed) (cell : cell_at table 0 ≡ Ok int_cell) (values : List ℤ) where
  -- the words have the types of the parameters, and the store fits, in which each header stayed
  pub record ArgumentsFit (ts : List Ty) (store : S) (words : List ℤ) (new : S) : Type 0 where
    pub fits : StoreFits stores table new
    pub keeps : Keeps (stores.headers store) (stores.headers new)
    pub typed : AllZip (HasType (stores.headers new) values) words ts

  array_made : (store : S) (cells : List ℤ) → StoreFits stores table store → IsMade stores store 0 cells (stores.made store 0 cells).0 (stores.made store 0 cells).1
      → StoreFits stores table (stores.made store 0 cells).1
  array_made store cells fits made =
      made_fits stores table store (stores.made store 0 cells).1 0 (stores.made store 0 cells).0 cells fits made (λ header h. inl (record {
        element = 0;
        count = length cells;
        is = h;
        packed = int_cell;
        there = cell;
        cells = λ number k.
            let it = slice_at cells number k in
            record {
              word = it.word;
              there = made.fresh number k ∙ it.is;
              packs = record { own = it.word ∷ []; one_each = refl; hold = All-nil (Holds (it.word ∷ [])); fit = (sym (variable_is (it.word ∷ []) 0), tt) };
            };
      }))

  one_more : (t : Ty) (ts : List Ty) (store : S) (word : ℤ) (rest words : List ℤ) (new : S) → word ∷ rest ≡ words → HasType (stores.headers new) values word t → ArgumentsFit ts store rest new
      → ArgumentsFit (t ∷ ts) store words new
  one_more t ts store word rest words new all has fit =
      record { fits = fit.fits; keeps = fit.keeps; typed = subst (λ ws. AllZip (HasType (stores.headers new) values) ws (t ∷ ts)) all (has, fit.typed) }

  -- an array, in the store where it was made
  array_has : (element : ℕ) (form : Linear) (store : S) (cells : List ℤ) (new : S) → element ≡ 0 → int_eq (pos (length cells)) (value_of values form) ≡ true
      → IsMade stores store 0 cells (stores.made store 0 cells).0 (stores.made store 0 cells).1 → Keeps (stores.headers (stores.made store 0 cells).1) (stores.headers new)
      → HasType (stores.headers new) values (pos (stores.made store 0 cells).0) (ty.Array element form)
  array_has element form store cells new none index made keeps = record {
    address = (stores.made store 0 cells).0;
    is = refl;
    begins =
        subst (λ n. stores.headers new (stores.made store 0 cells).0 ≡ Some (record { descriptor = pos (2 * n); cells = value_of values form })) (sym none)
        (subst (λ c. stores.headers new (stores.made store 0 cells).0 ≡ Some (record { descriptor = pos 0; cells = c })) ((Decides-int_eq (pos (length cells)) (value_of values form)).0 index)
        (keeps.keeps _ _ made.begins));
  }

  pub arguments_fit : (number : ℕ) (args : List Arg) (ts : List Ty) (store : S) (words : List ℤ) (new : S) → length args ≡ length ts → kind_fault number args ts ≡ None
      → index_fault number values args ts ≡ None → AllByRecursion IsEntryType ts → StoreFits stores table store → placed stores args store ≡ Some (words, new)
      → ArgumentsFit ts store words new
  unfolding placed
  arguments_fit number [] [] store words new many kinds indices entry fits e =
      let both : (let q : List ℤ × S = ([], store) in q) ≡ (words, new) = cc in
      subst (λ (q : List ℤ × S). ArgumentsFit [] store q.0 q.1) both (record { fits = fits; keeps = keeps_all (stores.headers store); typed = tt })
  arguments_fit number [] (t ∷ ts) store words new many kinds indices entry fits e = absurd (let bad : ⊥ = omega (arith, many) in bad)
  arguments_fit number (a ∷ args) [] store words new many kinds indices entry fits e = absurd (let bad : ⊥ = omega (arith, many) in bad)
  arguments_fit number (arg.Int n ∷ args) (ty.Int form ∷ ts) store words new many kinds indices entry fits e =
      let h = has_both number values (arg.Int n) (ty.Int form) args ts kinds indices in
      let w = with_word_is n (placed stores args store) words new e in
      one_more (ty.Int form) ts store n w.rest words new w.all ((Decides-int_eq n (value_of values form)).0 h.index)
      (arguments_fit (suc number) args ts store w.rest new (omega (arith, many)) h.kinds h.indices entry.1 fits w.is)
  arguments_fit number (arg.Bool b ∷ args) (ty.Bool ∷ ts) store words new many kinds indices entry fits e =
      let h = has_both number values (arg.Bool b) ty.Bool args ts kinds indices in
      let w = with_word_is (truth_word b) (placed stores args store) words new e in
      one_more ty.Bool ts store (truth_word b) w.rest words new w.all (truth_has b) (arguments_fit (suc number) args ts store w.rest new (omega (arith, many)) h.kinds h.indices entry.1 fits w.is)
    where
      truth_has : (b : Truth) → (truth_word b ≡ pos 0) ⊎ (truth_word b ≡ pos 1)
      truth_has true = inr refl
      truth_has false = inl refl
  arguments_fit number (arg.Array cells ∷ args) (ty.Array element form ∷ ts) store words new many kinds indices entry fits e =
      let h = has_both number values (arg.Array cells) (ty.Array element form) args ts kinds indices in
      by_room (stores.room store (length cells + 2)) e h.index
      (λ rest is. arguments_fit (suc number) args ts (stores.made store 0 cells).1 rest new (omega (arith, many)) h.kinds h.indices entry.1
      (array_made store cells fits (laws.makes store 0 cells fits.whole)) is)
    where
      by_room : (b : Truth) → cond b (with_word (pos (stores.made store 0 cells).0) (placed stores args (stores.made store 0 cells).1)) None ≡ Some (words, new)
          → int_eq (pos (length cells)) (value_of values form) ≡ true
          → ((rest : List ℤ) → placed stores args (stores.made store 0 cells).1 ≡ Some (rest, new) → ArgumentsFit ts (stores.made store 0 cells).1 rest new)
          → ArgumentsFit (ty.Array element form ∷ ts) store words new
      by_room true e index later =
          let w = with_word_is (pos (stores.made store 0 cells).0) (placed stores args (stores.made store 0 cells).1) words new e in
          let made = laws.makes store 0 cells fits.whole in
          let fit = later w.rest w.is in
          one_more (ty.Array element form) ts store (pos (stores.made store 0 cells).0) w.rest words new w.all (array_has element form store cells new entry.0 index made fit.keeps)
          (record {
            fits = fit.fits;
            keeps = keeps_on (stores.headers store) (stores.headers (stores.made store 0 cells).1) (stores.headers new) made.keeps fit.keeps;
            typed = fit.typed;
          })
      by_room false e index later = absurd (let bad : ⊥ = cc in bad)
  arguments_fit number (a ∷ args) (t ∷ ts) store words new many kinds indices entry fits e =
      absurd (let h = has_both number values a t args ts kinds indices in let k : is_of_kind a t ≡ true = h.kind in let bad : ⊥ = cc in bad)
