-- The emitted program is accepted.
use Rattle.std.proofs.Common.{◌≡◌, ℕ, zero, suc, ◌<◌, ◌≤◌, Bool as Truth, true, false, List, [], ◌∷◌, length, drop, map, Some, Ok, refl, sym, ap, ◌∙◌, arith, subst, slice_get}
use Rattle.std.specs.List.{All, AllZip, Contains, list_any}
use Rattle.std.specs.Prelude.{bytes_eq}
use Rattle.std.proofs.lemmas.Option.{none-some, same_Some}
use Rattle.std.proofs.lemmas.List.Elements.{All-head, All-tail}
use Rattle.state_types.specs.Tables.{IsClosed, int_cell, bool_cell}
use Rattle.state_types.specs.declared.closed.Packed.{Packed}
use Rattle.state_types.specs.declared.closed.Signature.{Signature}
use Rattle.state_types.specs.declared.state.StateType.{StateType}
use Rattle.operation_rules.specs.Rules.{Setting}
use Rattle.operation_rules.specs.Sound.{IsHeader}
use Rattle.three_address.specs.Typing.{IsTyped, IsTypedFun, setting_of as low_setting}
use Rattle.three_address.specs.declared.assignment.Assignment.{Assignment}
use Rattle.three_address.specs.declared.function.LowFun.{LowFun}
use Rattle.three_address.specs.declared.typed.Edge.{Edge}
use Rattle.three_address.specs.declared.typed.Typed.{Typed}
use Rattle.dtal_code.specs.Acceptance.{FunctionStands, SignaturesPass, Accepted}
use Rattle.dtal_code.specs.Declarations.{table_of, setting_of, packed_verdict}
use Rattle.dtal_code.specs.Grammar.{IsTypeIn, IsPartCount, InGrammar}
use Rattle.dtal_code.specs.declared.program.Function.{Function}
use Rattle.dtal_code.specs.declared.program.DtalProgram.{DtalProgram}
use Rattle.dtal_emit.specs.Emitted.{emitted_fun, emitted_funs, emitted}
use Rattle.emission_laws.specs.ApartHomes.{Kept, IsReadyFun}
use Rattle.emission_laws.specs.EmittedRanges.{Each, IsRanged}
use Rattle.emission_acceptance.specs.Acceptable.{AreAcceptable}
use Rattle.emission_acceptance.specs.LabelsApart.{IsOwnState}
use Rattle.emission_acceptance.specs.TypesThrough.{AreTypesApart, LabelsPass}
use Rattle.emission_acceptance.proofs.BlocksWalked.{StretchesStand}
use Rattle.emission_acceptance.proofs.FunctionsTyped.{HasStates, function_stands, ways_pass, all_each, each_get}
use Rattle.emission_acceptance.proofs.HeadersPass.{types_pass, signatures_pass, main_found, main_passes}
use Rattle.emission_acceptance.proofs.StatedLabels.{text_of}

-- ---- functions of the emitted program

pub record IsEmitted (funs : List LowFun) (states : List (List StateType)) (edges : List (List Edge)) (homes : List (List ℕ)) (number : ℕ) (text : Function) : Type 0 where
  pub fun : LowFun
  pub labels : List StateType
  pub es : List Edge
  pub hs : List ℕ
  pub fun_there : slice_get funs number ≡ Some fun
  pub labels_there : slice_get states number ≡ Some labels
  pub edges_there : slice_get edges number ≡ Some es
  pub homes_there : slice_get homes number ≡ Some hs
  pub is : emitted_fun fun labels es hs ≡ text

is_emitted : (number : ℕ) (funs : List LowFun) (states : List (List StateType)) (edges : List (List Edge)) (homes : List (List ℕ)) (text : Function)
    → slice_get (emitted_funs funs states edges homes) number ≡ Some text → IsEmitted funs states edges homes number text
unfolding emitted_funs
is_emitted number [] states edges homes text e = absurd (none-some text e)
is_emitted number (f ∷ funs) [] edges homes text e = absurd (none-some text e)
is_emitted number (f ∷ funs) (ls ∷ states) [] homes text e = absurd (none-some text e)
is_emitted number (f ∷ funs) (ls ∷ states) (es ∷ edges) [] text e = absurd (none-some text e)
is_emitted zero (f ∷ funs) (ls ∷ states) (es ∷ edges) (hs ∷ homes) text e =
    record { fun = f; labels = ls; es = es; hs = hs; fun_there = refl; labels_there = refl; edges_there = refl; homes_there = refl; is = same_Some _ text e }
is_emitted (suc number) (f ∷ funs) (ls ∷ states) (es ∷ edges) (hs ∷ homes) text e =
    let r = is_emitted number funs states edges homes text e in
    record { fun = r.fun; labels = r.labels; es = r.es; hs = r.hs; fun_there = r.fun_there; labels_there = r.labels_there; edges_there = r.edges_there; homes_there = r.homes_there; is = r.is }

sigs_same : (funs : List LowFun) (states : List (List StateType)) (edges : List (List Edge)) (homes : List (List ℕ)) → length funs ≤ length states → length funs ≤ length edges
    → length funs ≤ length homes → map (λ (fun : Function). fun.sig) (emitted_funs funs states edges homes) ≡ map (λ (fun : LowFun). fun.sig) funs
unfolding emitted_funs
sigs_same [] states edges homes s e h = refl
sigs_same (f ∷ funs) [] edges homes s e h = absurd (omega (arith, s))
sigs_same (f ∷ funs) (ls ∷ states) [] homes s e h = absurd (omega (arith, e))
sigs_same (f ∷ funs) (ls ∷ states) (es ∷ edges) [] s e h = absurd (omega (arith, h))
sigs_same (f ∷ funs) (ls ∷ states) (es ∷ edges) (hs ∷ homes) s e h =
    ap (λ l. f.sig ∷ l) (sigs_same funs states edges homes (omega (arith, s)) (omega (arith, e)) (omega (arith, h)))

-- where each element of a list has a partner, the other list is as long
as_many : {A B : Type 0} (xs : List A) (ys : List B) → ((n : ℕ) (x : A) → slice_get xs n ≡ Some x → (y : B) × (slice_get ys n ≡ Some y)) → length xs ≤ length ys
as_many [] ys partner = omega arith
as_many (x ∷ xs) [] partner = (let p = partner 0 x refl in absurd (none-some p.0 p.1))
as_many (x ∷ xs) (y ∷ ys) partner = (let h = as_many xs ys (λ n z e. partner (suc n) z e) in omega (arith, h))

-- ---- lists

pub record HaveStates (program : DtalProgram) (funs : List Function) : Type 0 where
  pub states : List (List StateType)
  pub each : AllZip (FunctionStands program) funs states

have_states : (program : DtalProgram) (funs : List Function) → ((n : ℕ) (fun : Function) → slice_get funs n ≡ Some fun → HasStates program fun) → HaveStates program funs
have_states program [] has = record { states = []; each = tt }
have_states program (fun ∷ funs) has =
    let first = has 0 fun refl in
    let rest = have_states program funs (λ n f e. has (suc n) f e) in
    record { states = first.states ∷ rest.states; each = (first.stands, rest.each) }

contains_get : {A : Type 0} (xs : List A) (n : ℕ) (x : A) → slice_get xs n ≡ Some x → Contains xs x
contains_get [] n x e = absurd (none-some x e)
contains_get (y ∷ xs) zero x e = (0, omega arith, same_Some y x e)
contains_get (y ∷ xs) (suc n) x e = (let c = contains_get xs n x e in let h = c.1 in (suc c.0, omega (arith, h), c.2))

each_fun : (P : LowFun → Type 0) (funs : List LowFun) → ((fun : LowFun) → Contains funs fun → P fun) → Each P funs
each_fun P [] f = tt
each_fun P (fun ∷ funs) f = (f fun (0, omega arith, refl), each_fun P funs (λ g c. (let h = c.1 in f g (suc c.0, omega (arith, h), c.2))))

each_behind : {A : Type 0} (P : A → Type 0) (n : ℕ) (xs : List A) → Each P xs → Each P (drop n xs)
each_behind P zero xs all = all
each_behind P (suc n) [] all = tt
each_behind P (suc n) (x ∷ xs) all = each_behind P n xs all.1

some_fun : (funs : List LowFun) (n : ℕ) → n < length funs → (fun : LowFun) × (slice_get funs n ≡ Some fun)
some_fun [] n h = absurd (omega (arith, h))
some_fun (fun ∷ funs) zero h = (fun, refl)
some_fun (fun ∷ funs) (suc n) h = some_fun funs n (omega (arith, h))

-- ---- the whole, where stretches are walked

module _ (typed : Typed) (homes : Assignment) (kept : (number : ℕ) → Kept) (is : IsTyped typed) (ranged : IsRanged typed homes) (acceptable : AreAcceptable typed homes kept)
    (grammar : InGrammar (emitted typed homes))
    (stretches : (fun : LowFun) (labels : List StateType) (edges : List Edge) (own : List ℕ) (keeps : Kept) → (t : IsTypedFun typed.low fun labels edges)
    → IsReadyFun typed.low.funs fun (length labels) edges → AreTypesApart fun labels own keeps
    → LabelsPass (low_setting typed.low fun.sig) fun labels own keeps (map (text_of own) labels)
    → StretchesStand (low_setting typed.low fun.sig) fun edges own keeps t.states (map (text_of own) labels)) where
  abbrev low_funs : List LowFun
  low_funs = typed.low.funs

  states_many : length low_funs ≤ length typed.states
  states_many = (let e = is.states_each in omega (arith, e))

  edges_many : length low_funs ≤ length typed.edges
  edges_many = (let e = is.edges_each in omega (arith, e))

  homes_many : length low_funs ≤ length homes.homes
  homes_many = as_many low_funs homes.homes (λ n fun e. (let a = acceptable.each n fun e in (a.own, a.homes_there)))

  abbrev program : DtalProgram
  program = emitted typed homes

  same_table : table_of program ≡ typed.low.table
  unfolding emitted
  same_table = sym acceptable.headed.table

  same_setting : (sig : Signature) → setting_of program sig ≡ low_setting typed.low sig
  unfolding emitted
  same_setting sig =
      ap (λ t. (let s : Setting = record { table = t; sigs = map (λ (fun : Function). fun.sig) program.funs; own = sig } in s)) same_table
      ∙ ap (λ l. (let s : Setting = record { table = typed.low.table; sigs = l; own = sig } in s)) (sigs_same low_funs typed.states typed.edges homes.homes states_many edges_many homes_many)

  fun_stands : (number : ℕ) (text : Function) → slice_get program.funs number ≡ Some text → HasStates program text
  unfolding emitted
  fun_stands number text e =
      let r = is_emitted number low_funs typed.states typed.edges homes.homes text e in
      let a = acceptable.each number r.fun r.fun_there in
      let t = is.funs number r.fun r.labels r.es r.fun_there r.labels_there r.edges_there in
      let same_labels : a.labels ≡ r.labels = same_Some a.labels r.labels (sym a.labels_there ∙ r.labels_there) in
      let same_edges : a.edges ≡ r.es = same_Some a.edges r.es (sym a.edges_there ∙ r.edges_there) in
      let same_homes : a.own ≡ r.hs = same_Some a.own r.hs (sym a.homes_there ∙ r.homes_there) in
      let ready = subst (λ es. IsReadyFun low_funs r.fun (length r.labels) es) same_edges (subst (λ ls. IsReadyFun low_funs r.fun (length ls) a.edges) same_labels a.ready) in
      let apart = subst (λ hs. AreTypesApart r.fun r.labels hs (kept number)) same_homes (subst (λ ls. AreTypesApart r.fun ls a.own (kept number)) same_labels a.apart) in
      let owns = subst (λ hs. Each (IsOwnState hs) r.labels) same_homes (subst (λ ls. Each (IsOwnState a.own) ls) same_labels a.states) in
      let ways = ways_pass (low_setting typed.low r.fun.sig) r.fun r.labels r.hs (kept number) apart owns in
      subst (λ f. HasStates program f) r.is
      (function_stands program typed.low r.fun r.labels r.es r.hs (kept number) same_table (same_setting r.fun.sig) t apart owns ready
      (stretches r.fun r.labels r.es r.hs (kept number) t ready apart ways))

  pub accepted_so : Accepted program
  unfolding emitted
  accepted_so =
      let headed = acceptable.headed in
      let main = some_fun low_funs typed.low.main is.main in
      let st = is.headers main.0 (contains_get low_funs typed.low.main main.0 main.1) in
      let closed : Each IsClosed typed.low.table = all_each IsClosed typed.low.table st.table in
      let headers : Each (λ (fun : LowFun). IsHeader fun.sig) low_funs = each_fun (λ fun. IsHeader fun.sig) low_funs (λ fun c. (is.headers fun c).own) in
      let all = have_states program program.funs fun_stands in
      record {
        grammar = grammar;
        types = subst (λ t. All (λ packed. packed_verdict t packed ≡ Ok tt) (drop 2 typed.low.table)) (sym same_table)
            (types_pass typed.low.table (drop 2 typed.low.table) headed.types (each_behind IsClosed 2 typed.low.table closed));
        signatures = subst (λ t. SignaturesPass t [] program.funs) (sym same_table)
            (signatures_pass typed.low.table [] low_funs typed.states typed.edges homes.homes (each_fun (λ fun. list_any (bytes_eq fun.name) [] ≡ false) low_funs (λ fun c. refl))
            headed.names headed.sigs headers);
        main = main_passes program main.0.sig
            (main_found low_funs typed.states typed.edges homes.homes typed.low.main main.0 states_many edges_many homes_many acceptable.main_is main.1) (headed.main main.0 main.1);
        states = all.states;
        funs = all.each;
      }

-- ---- cells

abbrev HasCell : Packed → Type 0
HasCell packed = packed.tuple ≡ false → 1 ≤ length packed.parts

cells_in : (types : List Packed) → All IsTypeIn types → Each HasCell types
cells_in [] all = tt
cells_in (packed ∷ types) all = (λ e. by_count packed.tuple (length packed.parts) e (All-head IsTypeIn packed types all).count, cells_in types (All-tail IsTypeIn packed types all))
  where
    by_count : (tuple : Truth) (n : ℕ) → tuple ≡ false → IsPartCount tuple n → 1 ≤ n
    by_count true n e c = c.0
    by_count false n e c = omega (arith, c)

-- a closed type that is no tuple has a part at least
pub cells_have : (table : List Packed) → table ≡ int_cell ∷ bool_cell ∷ drop 2 table → All IsTypeIn (drop 2 table) → (number : ℕ) (packed : Packed)
    → slice_get table number ≡ Some packed → packed.tuple ≡ false → 1 ≤ length packed.parts
cells_have table is all number packed e =
    each_get HasCell table number packed (subst (Each HasCell) (sym is) (λ z. omega arith, (λ z. omega arith, cells_in (drop 2 table) all))) e
